use Rattle.std.proofs.Common.{◌≡◌, [], rules}
use Rattle.run_report.proofs.TextLemmas.{one_task}
use Rattle.run_task.proofs.task.do_task.Goals as goal

pub returns-clause-text : goal.returns-clause-text
returns-clause-text g c =
    let none : c.make-own.result.items ≡ [] = search rules in
    one_task c.args.mode c.args.task c.upload-outcome.result c.run_of-run.result.plan.tasks.items c.run_of-run.result.outcomes.items c.make-own.result.items c.task_text-text.result c.run_of-run.ensures.tasks
    c.run_of-run.ensures.outcomes none c.task_text-text.ensures.out c.task_text-text.ensures.err
