use Rattle.std.proofs.Common.{[], ◌∷◌, Global, map, rules, string_bytes, subst}
use Rattle.s3_model.specs.declared.tasks.Mode.{Mode}
use Rattle.run_report.proofs.TextLemmas.{task_text_is}
use Rattle.run_report.specs.Texts.{HasTexts, err_lines, out_lines}
use Rattle.run_task.proofs.StoppedLemmas.{stopped_goes}
use Rattle.run_task.proofs.task.execute_upload.Goals as goal

pub returns-in-Ok-clause-text : goal.returns-in-Ok-clause-text
returns-in-Ok-clause-text g c =
    let run = c.do_task.result.run in
    task_text_is (map (string_bytes {Z = Global}) c.args.words.now) c.args.task run c.do_task.result.text c.do_task.ensures.fatal c.do_task.ensures.tasks c.do_task.ensures.skips c.do_task.ensures.warnings
    (subst (λ (mode : Mode). HasTexts (out_lines mode run.plan.tasks.items run.outcomes.items) (err_lines mode run.plan.tasks.items run.outcomes.items ([] ∷ [])) c.do_task.result.text) c.requires.mode c.do_task.ensures.text)

pub returns-in-Err-clause-went : goal.returns-in-Err-clause-went
returns-in-Err-clause-went g c = stopped_goes _ _ _ _ _ _ _ _ _ c.end_early.ensures.run

pub returns-in-Err-clause-text : goal.returns-in-Err-clause-text
returns-in-Err-clause-text g c = search rules

pub returns-in-Err-clause-does : goal.returns-in-Err-clause-does
returns-in-Err-clause-does g c = search rules
