-- Which jobs are out in which lane, and which lane the next job goes to.
use Rattle.std.specs.Prelude.{◌+◌, ◌==◌, ◌++◌, [], ◌∷◌, ℕ, zero, suc, List, drop, length, nat_lt, if◌then◌else◌}
use Rattle.job_terms.specs.Jobs.{job_of}
use Rattle.s3_model.specs.declared.outcomes.JobId.{JobId}
use Rattle.manager_moves.specs.Runs.{Events, Sent, Back}

-- the jobs that are out in a lane, the oldest first: it gives back what it was given, in order
abbrev pub jobs_in : ℕ → Events → List JobId
jobs_in lane [] = []
jobs_in lane (Sent task of_op number to ∷ before) =
    if to == lane then jobs_in lane before ++ job_of task of_op number ∷ [] else jobs_in lane before
jobs_in lane (Back from carried ∷ before) = if from == lane then drop 1 (jobs_in lane before) else jobs_in lane before
jobs_in lane (event ∷ before) = jobs_in lane before

abbrev pub out_in : ℕ → Events → ℕ
out_in lane events = length (jobs_in lane events)

-- how many are out in the first so many lanes
abbrev pub out_before : ℕ → Events → ℕ
out_before zero events = 0
out_before (suc lane) events = out_before lane events + out_in lane events

-- the lane with the fewest jobs out, the lowest of equals
abbrev pub freest : ℕ → Events → ℕ
freest zero events = 0
freest (suc lane) events =
    let lower = freest lane events in
    if nat_lt (out_in lane events) (out_in lower events) then lane else lower
