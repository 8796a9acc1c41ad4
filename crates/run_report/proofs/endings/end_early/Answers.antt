use Rattle.std.proofs.Common.{[], Some, Global, map, rules, string_bytes}
use Rattle.run_report.specs.Taskless.{HasNoTask}
use Rattle.run_report.proofs.TextLemmas.{early_text_is}
use Rattle.run_report.proofs.endings.end_early.Goals as goal

pub returns-clause-text : goal.returns-clause-text
returns-clause-text c =
    let has : HasNoTask (Some c.args.fatal) [] [] c.idle_run.result = search rules in
    early_text_is (map (string_bytes {Z = Global}) c.args.words.now) (Some c.args.fatal) c.idle_run.result c.ending_text-text.result has c.ending_text-text.ensures.text c.ending_text-text.ensures.memory
