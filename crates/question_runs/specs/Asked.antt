-- What a wire shows of questions that were asked over it, where nothing else was.
use Rattle.std.specs.Prelude.{[], ◌∷◌, List, Option, Some, None}
use Rattle.lane_jobs.specs.Lanes.{SeenCarrier}
use Rattle.lane_workers.specs.LaneWorkers.{lane_over}
use Rattle.planning_questions.specs.Questions.{Question, trace_of}
use Rattle.s3_model.specs.Talks.{Note, Talk, WireLog}
use Rattle.trace_laws.specs.Joined.{IsJoined}

abbrev pub log_of : List Talk → List Note → WireLog
log_of talks notes = record { talks = talks; notes = notes }

-- a wire that shows something had shown nothing before
abbrev pub unused_before : Option WireLog → Option WireLog
unused_before None = None
unused_before (Some log) = Some (log_of [] [])

-- The questions, numbered from 0, were asked one after the other over an unused wire, by its lane with that carrier;
-- then the wire shows this, if it shows anything.
abbrev pub AskedOver : SeenCarrier → List Question → (shows : Option WireLog) → Type 0
AskedOver carrier questions shows = IsJoined (λ (wire : Option WireLog). wire) carrier (trace_of 0 questions)
    (lane_over carrier (unused_before shows) ∷ []) (lane_over carrier shows ∷ [])
