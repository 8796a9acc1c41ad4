use Rattle.std.proofs.Common.{◌++◌, Global, List, None, map, string_bytes, subst, sym, refl}
use Rattle.std.specs.List.{All}
use Rattle.dry_runs.proofs.ShownLemmas.{all_shown}
use Rattle.dry_runs.specs.Shown.{all_dry}
use Rattle.result_lines.specs.Warnings.{IsShown}
use Rattle.run_report.specs.Texts.{HasTexts, opening_text, out_lines}
use Rattle.s3_model.specs.declared.tasks.Mode.{Mode}
use Rattle.s3_model.specs.declared.tasks.Warning.{Warning}
use Rattle.service_dry_runs.proofs.ShownLemmas.{shown_text_is}
use Rattle.service_dry_runs.proofs.endings.end_shown.Goals as goal

pub dry_text-text-requires-clause-shown : goal.dry_text-text-requires-clause-shown
dry_text-text-requires-clause-shown c =
    subst (λ (all : List Warning). All IsShown all) (sym c.in-Ok.ensures.warnings) (all_shown c.args.planned.looked.items c.args.planned.plan.warnings.items c.requires.showable.looking c.requires.showable.skips)

pub returns-in-Ok-clause-text : goal.returns-in-Ok-clause-text
returns-in-Ok-clause-text c =
    let words = map (string_bytes {Z = Global}) c.args.words.now in
    let looked = c.args.planned.looked.items in
    let plan = c.args.planned.plan in
    let tasks = plan.tasks.items in
    shown_text_is words plan looked _ c.dry_text-text.result refl
    (record { ends = tt; plan_is = refl; warned = c.in-Ok.ensures.warnings; all_shown = c.in-Ok.ensures.outcomes }) c.requires.showable.looking
    (subst (λ (mode : Mode). HasTexts (out_lines mode tasks (all_dry tasks)) (opening_text words (looked ++ plan.warnings.items) None) c.dry_text-text.result) c.requires.mode
    (subst (λ (all : List Warning). HasTexts (out_lines c.args.mode tasks (all_dry tasks)) (opening_text words all None) c.dry_text-text.result) c.in-Ok.ensures.warnings c.dry_text-text.ensures))
