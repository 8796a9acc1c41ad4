use Rattle.file_completeness.proofs.FileCompleteness.{files_are_done}
use Rattle.file_completeness.proofs.law.complete.Goals as goal

pub returns : goal.returns
returns g c = record { done = files_are_done g.C.Reading.shows g.C.Command.has_status g.C.Command.plans g.C.Command.call_failed }
