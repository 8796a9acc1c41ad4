use Rattle.std.proofs.Common.{[], Some, Global, map, string_bytes}
use Rattle.run_report.proofs.TextLemmas.{silent_text}
use Rattle.service_dry_runs.proofs.endings.end_early.Goals as goal

pub returns-clause-text : goal.returns-clause-text
returns-clause-text c =
    let early = c.early_run.ensures.early in
    silent_text (map (string_bytes {Z = Global}) c.args.words.now) [] c.early_run.result c.ending_text-text.result early.no_task (Some c.args.fatal) early.no_skip early.no_warning early.ends
    c.ending_text-text.ensures.text c.ending_text-text.ensures.memory
