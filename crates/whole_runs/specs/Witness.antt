-- Runs that meet what the laws take: one small upload that a lane carries out, and one whose job is given again.
use Rattle.std.specs.Arc.{arc_value}
use Rattle.std.specs.Prelude.{◌≡◌, [], ◌∷◌, true, Some, None}
use Rattle.std.specs.declared.alloc.Global.{Global}
use Rattle.std.specs.declared.sync.Arc.{Arc}
use Rattle.job_terms.specs.Dispatches.{Dispatched}
use Rattle.job_terms.specs.Jobs.{job_of}
use Rattle.jobs.specs.Endings.{SeenCarried}
use Rattle.jobs.specs.Holders.{Holder}
use Rattle.jobs.specs.Jobs.{IsAskOf, SeenJob}
use Rattle.jobs.specs.declared.ending.Ending.TheVariants as ending
use Rattle.jobs.specs.declared.what.What.{What}
use Rattle.jobs.specs.declared.what.What.TheVariants as what
use Rattle.kept_jobs.specs.Steps.{IsStepOf}
use Rattle.lane_jobs.specs.Lanes.{IsCarriedBy, SeenCarrier}
use Rattle.lane_journals.specs.Witness.{put_giving, put_talk}
use Rattle.manager_moves.specs.Examples.{back, put_out, shared, upload}
use Rattle.manager_moves.specs.Laws.{IsRun}
use Rattle.manager_moves.specs.Runs.{Back, Events, Lined, Made, Sent, share}
use Rattle.run_schedule.specs.Witness.{logs, no_text, notes}
use Rattle.s3_model.specs.Talks.{Began, Moment, WireLog}
use Rattle.s3_model.specs.declared.answers.Reply.TheVariants as reply
use Rattle.s3_model.specs.declared.answers.Why.TheVariants as why
use Rattle.s3_model.specs.declared.bytes.Part.{Part}
use Rattle.s3_model.specs.declared.places.Endpoint.{Endpoint}
use Rattle.s3_model.specs.declared.requests.Op.TheVariants as op
use Rattle.s3_model.specs.declared.settings.Keys.{Keys}
use Rattle.s3_model.specs.declared.tasks.Task.{Task}
use Rattle.s3_model.specs.declared.tries.Mark.TheVariants as mark
use Rattle.task_acts.specs.Kept.{again}
use Rattle.task_acts.specs.Work.{IsWorkOf}
use Rattle.task_schedule.specs.Journals.{AreWorks, ShowOne}
use Rattle.task_schedule.specs.Witness.{ShowsStored, put_run, read_run, small_put, small_setting, small_task}
use Rattle.whole_runs.specs.Carried.{AreCarried, WasCarried}
use Rattle.whole_runs.specs.Ended.{IsCarriedRun}
use Rattle.whole_runs.specs.Given.{AreHandedOut, ComeAsGiven, Jobs, WasFormed}

module _ (for : What) (cell : Holder) (part : Part) where
  -- its Put, at its first giving
  abbrev pub put_job : SeenJob
  put_job = record { id = job_of 0 op.Put 0; what = for; part = Some part; cell = Some cell; had = 0 }

  abbrev pub put_jobs : Jobs
  put_jobs before = put_job

  -- ---- a Put that is given again

  -- its first giving lost its answer, with attempts left
  abbrev pub put_lost : Events
  put_lost = back for cell part 0 0 op.Put 0 (mark.Uncertain ∷ []) (ending.Uncertain why.WireFailed)
      ∷ put_out for cell part 0 0 (Made true ∷ [])

  abbrev pub put_twice : Events
  put_twice = Lined ∷ Back 0 (record {
    job = record put_job { cell = None; had = 1 };
    tries = mark.Success ∷ [];
    ending = ending.Gained reply.Stored;
  }) ∷ Sent 0 op.Put 0 0 ∷ put_lost

  -- the job that was kept is handed out behind its return
  abbrev pub twice_jobs : Jobs
  twice_jobs (Back lane carried ∷ before) = again carried
  twice_jobs before = put_job

-- Whatever the job keeps of its task, its cell and its part.
abbrev pub CarriedRunIsMet : Type 0
CarriedRunIsMet = (for : What) (cell : Holder) (part : Part)
    → IsStepOf small_task upload (share upload 0 read_run) op.Put 0 for
    → IsAskOf (job_of 0 op.Put 0) for small_put.ask
    → ShowOne ShowsStored × IsCarriedRun ShowsStored no_text [] 0 (shared (upload ∷ []) 1 1 1) small_setting []
    (put_run for cell part) logs notes (put_jobs for cell part) (small_put ∷ []) (small_put ∷ [])

abbrev pub GivenAgainIsMet : Type 0
GivenAgainIsMet = (for : What) (cell : Holder) (part : Part)
    → IsStepOf small_task upload (share upload 0 read_run) op.Put 0 for
    → IsRun (shared (upload ∷ []) 1 1 1) (put_twice for cell part)
    × AreHandedOut (shared (upload ∷ []) 1 1 1) (small_task ∷ []) (put_twice for cell part) (twice_jobs for cell part)
    × ComeAsGiven (put_twice for cell part) (twice_jobs for cell part)

-- ---- its Put as a lane carries it

-- to that service, in at most three attempts
abbrev pub put_carrier : Endpoint → Keys → SeenCarrier
put_carrier endpoint keys = record { endpoint = endpoint; keys = keys; attempts = 3 }

-- the wire that is new, and with the one talk of the Put
abbrev pub new_log : WireLog
new_log = record { talks = []; notes = [] }

abbrev pub put_log : Endpoint → Keys → WireLog
put_log endpoint keys = record { talks = put_talk endpoint keys ∷ []; notes = Moment 0 ∷ Began ∷ [] }

-- the dispatch that has this talk
abbrev pub put_sent : Endpoint → Keys → Dispatched
put_sent endpoint keys = (put_giving endpoint keys).of

-- the Put is of the one piece of the task, without an upload in parts
abbrev pub put_step : Arc Task Global → What
put_step shared_task = what.Step shared_task (0, 5) None None

-- a part with the bytes that the source has: none
abbrev pub put_part : Part
put_part = record { bytes = record { bytes = []; room = 5 } }

abbrev pub carried_put : What → Holder → SeenCarried
carried_put for cell = record {
  job = put_job for cell put_part;
  tries = mark.Success ∷ [];
  ending = ending.Gained reply.Stored;
}

-- The lane carried the Put, which was formed when it was ready, and its dispatch tells of that.
abbrev pub CarriedJobIsMet : Type 0
CarriedJobIsMet = (endpoint : Endpoint) (keys : Keys) (cell : Holder) (shared_task : Arc Task Global)
    → arc_value shared_task ≡ small_task → let for = put_step shared_task in
    IsCarriedBy (put_carrier endpoint keys) (put_job for cell put_part) (Some new_log) (Some (put_log endpoint keys))
    (carried_put for cell)
    × IsWorkOf small_task small_setting.config small_setting.limits upload
    × WasFormed small_task upload 0 read_run op.Put 0 for
    × WasCarried small_setting small_task upload (put_job for cell put_part) (put_sent endpoint keys)

-- And so did each job of its run, which is handed out and comes back as its task says.
abbrev pub CarriedRunsAreMet : Type 0
CarriedRunsAreMet = (endpoint : Endpoint) (keys : Keys) (cell : Holder) (shared_task : Arc Task Global)
    → arc_value shared_task ≡ small_task → let for = put_step shared_task in
    let s = shared (upload ∷ []) 1 1 1 in let events = put_run for cell put_part in
    let jobs = put_jobs for cell put_part in IsRun s events × AreWorks small_setting s.works
    × AreHandedOut s small_setting.tasks events jobs × ComeAsGiven events jobs
    × AreCarried s small_setting 0 events jobs (put_sent endpoint keys ∷ [])
