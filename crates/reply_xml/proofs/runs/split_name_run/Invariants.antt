use Rattle.std.proofs.Common.{take}
use Rattle.std.specs.List.{AllPass}
use Rattle.reply_xml.specs.Runs.{is_name_byte}
use Rattle.reply_xml.proofs.runs.split_name_run.Given as goal

abbrev pub invariant-loop-i : goal.invariant-loop-i
invariant-loop-i l = AllPass is_name_byte (take l.i l.bytes)
