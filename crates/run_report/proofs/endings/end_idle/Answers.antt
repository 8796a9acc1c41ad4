use Rattle.std.proofs.Common.{Global, map, string_bytes}
use Rattle.run_report.proofs.TextLemmas.{idle_text_is}
use Rattle.run_report.proofs.endings.end_idle.Goals as goal

pub returns-clause-text : goal.returns-clause-text
returns-clause-text c =
    idle_text_is (map (string_bytes {Z = Global}) c.args.words.now) c.args.fatal c.args.skips.items c.args.warnings.items c.idle_run.result c.idle_text-text.result c.idle_run.ensures c.requires.planning
    c.idle_text-text.ensures.text c.idle_text-text.ensures.memory
