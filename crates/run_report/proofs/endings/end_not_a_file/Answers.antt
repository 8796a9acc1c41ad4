use Rattle.std.proofs.Common.{◌≡◌, ◌∙◌, List, [], ◌∷◌, ap, rules, sym}
use Rattle.s3_model.specs.declared.tasks.Warning.{Warning}
use Rattle.s3_model.specs.declared.tasks.Warning.TheVariants as warning
use Rattle.run_report.proofs.endings.end_not_a_file.Goals as goal

-- the one warning is of looking, and the plan has none
pub end_idle-requires-clause-planning : goal.end_idle-requires-clause-planning
end_idle-requires-clause-planning c =
    let one : c.push.new.self.items ≡ warning.NotAFile c.args.path ∷ [] = search rules in
    let none : c.make-skips.result.items ≡ [] = search rules in
    (warning.NotAFile c.args.path ∷ [], (tt, tt), one ∙ ap (λ (s : List Warning). warning.NotAFile c.args.path ∷ s) (sym none))
