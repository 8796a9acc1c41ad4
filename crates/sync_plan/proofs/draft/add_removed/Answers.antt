use Rattle.std.proofs.Common.{◌≡◌, ◌∙◌, ◌∷◌, ◌++◌, ℕ, List, [], true, false, sym, ap, arith}
use Rattle.s3_model.specs.declared.tasks.Task.{Task}
use Rattle.sync_plan.specs.Errands.{source_at}
use Rattle.sync_plan.specs.Plans.{is_kept_by, planned_removals, removal_task}
use Rattle.sync_plan.proofs.DraftLemmas.{nothing_more, one_kept, one_left_out}
use Rattle.sync_plan.proofs.draft.add_removed.Goals as goal

pub returns-then-not-is_kept : goal.returns-then-not-is_kept
returns-then-not-is_kept c =
    let errand = c.args.errand.now in
    let out : c.is_kept.result ≡ false = grind (arith, c.if-not-is_kept.true) in
    nothing_more c.args.tasks.now.items (planned_removals errand (c.args.entry.now ∷ []))
    (one_left_out errand c.args.entry.now (ap (is_kept_by errand) (sym c.relative-path.ensures) ∙ sym c.is_kept.ensures ∙ out))

pub returns : goal.returns
returns c =
    let errand = c.args.errand.now in
    let kept : c.is_kept.result ≡ true = grind (arith, c.if-not-is_kept.false) in
    let one : planned_removals errand (c.args.entry.now ∷ []) ≡ c.in_ok-task.task ∷ []
    = one_kept errand c.args.entry.now (ap (is_kept_by errand) (sym c.relative-path.ensures) ∙ sym c.is_kept.ensures ∙ kept)
    ∙ ap (λ (task : Task). task ∷ [])
    (ap (λ (path : List ℕ). removal_task (source_at errand.from errand.many path) c.args.entry.now) (sym c.relative-path.ensures)
    ∙ sym c.in_ok-task.ensures) in
    c.push.ensures.items ∙ ap (λ (before : List Task). before ++ c.in_ok-task.task ∷ []) c.in_ok-reserve.ensures.items
    ∙ ap (λ (more : List Task). c.args.tasks.now.items ++ more) (sym one)
