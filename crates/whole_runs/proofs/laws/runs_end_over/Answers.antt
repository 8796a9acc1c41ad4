use Rattle.whole_runs.proofs.Buffers.{journals_keep_parts}
use Rattle.whole_runs.proofs.Cancels.{places_tell_cancels}
use Rattle.whole_runs.proofs.Over.{runs_end_over}
use Rattle.whole_runs.proofs.laws.runs_end_over.Goals as goal

pub returns : goal.returns
returns c = record { over = runs_end_over; cancels = places_tell_cancels; parts = journals_keep_parts }
