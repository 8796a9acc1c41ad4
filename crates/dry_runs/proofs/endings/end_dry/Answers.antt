use Rattle.std.proofs.Common.{◌++◌, Global, List, None, map, string_bytes, subst, sym, refl}
use Rattle.std.specs.List.{All}
use Rattle.result_lines.specs.Warnings.{IsShown}
use Rattle.run_report.specs.Texts.{HasTexts, opening_text, out_lines}
use Rattle.s3_model.specs.declared.tasks.Mode.{Mode}
use Rattle.s3_model.specs.declared.tasks.Warning.{Warning}
use Rattle.dry_runs.specs.Shown.{all_dry}
use Rattle.dry_runs.proofs.LineLemmas.{dry_text_is}
use Rattle.dry_runs.proofs.ShownLemmas.{all_shown}
use Rattle.dry_runs.proofs.endings.end_dry.Goals as goal

pub dry_text-text-requires-clause-shown : goal.dry_text-text-requires-clause-shown
dry_text-text-requires-clause-shown c =
    subst (λ (all : List Warning). All IsShown all) (sym c.in-Ok.ensures.warnings) (all_shown c.args.looked.items c.args.plan.warnings.items c.requires.looking c.requires.skips)

pub returns-in-Ok-clause-text : goal.returns-in-Ok-clause-text
returns-in-Ok-clause-text c =
    let words = map (string_bytes {Z = Global}) c.args.words.now in
    let tasks = c.args.plan.tasks.items in
    dry_text_is words c.args.plan c.args.looked.items _ c.dry_text-text.result refl
    (record { ends = tt; plan_is = refl; warned = c.in-Ok.ensures.warnings; all_shown = c.in-Ok.ensures.outcomes; no_job = c.make.ensures }) c.requires.looking
    (subst (λ (mode : Mode). HasTexts (out_lines mode tasks (all_dry tasks)) (opening_text words (c.args.looked.items ++ c.args.plan.warnings.items) None) c.dry_text-text.result) c.requires.mode
    (subst (λ (all : List Warning). HasTexts (out_lines c.args.mode tasks (all_dry tasks)) (opening_text words all None) c.dry_text-text.result) c.in-Ok.ensures.warnings c.dry_text-text.ensures))
