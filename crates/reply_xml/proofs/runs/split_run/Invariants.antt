use Rattle.std.proofs.Common.{take}
use Rattle.std.specs.List.{AllPass}
use Rattle.reply_xml.specs.Runs.{is_of}
use Rattle.reply_xml.proofs.runs.split_run.Given as goal

abbrev pub invariant-loop-i : goal.invariant-loop-i
invariant-loop-i l = AllPass (is_of l.sort) (take l.i l.bytes)
