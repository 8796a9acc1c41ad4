-- Runs of one small upload with one thing changed, which no jobs and no trace can explain.
use Rattle.std.specs.Prelude.{◌≡◌, ◌==◌, ℕ, true, false, List, [], ◌∷◌, Some, None, codes, if◌then◌else◌}
use Rattle.std.specs.FinMap.{insert, empty}
use Rattle.s3_model.specs.declared.answers.Listed.{Listed}
use Rattle.s3_model.specs.declared.outcomes.Event.{Event}
use Rattle.s3_model.specs.declared.outcomes.Event.TheVariants as entry
use Rattle.s3_model.specs.declared.outcomes.Outcome.TheVariants as outcome
use Rattle.s3_model.specs.declared.outcomes.JobId.{JobId}
use Rattle.s3_model.specs.declared.requests.Op.TheVariants as op
use Rattle.s3_model.specs.declared.settings.Config.{Config}
use Rattle.s3_model.specs.declared.settings.Limits.{Limits}
use Rattle.s3_model.specs.declared.tasks.Task.{Task}
use Rattle.s3_model.specs.declared.tries.Mark.{Mark}
use Rattle.s3_model.specs.declared.tries.Mark.TheVariants as mark
use Rattle.s3_model.specs.Talks.{Talk, Note, Ending, Failed, Closed, Finished, Moment, Pause, Began}
use Rattle.run_promise.specs.Carried.{IsCarried}
use Rattle.job_terms.specs.Attempts.{in_first}
use Rattle.job_terms.specs.Dispatches.{Dispatched}
use Rattle.run_promise.specs.Schedule.{Setting, IsSchedule}
use Rattle.promise_examples.specs.GivenAgain.{put_job, bytes, upload}
use Rattle.promise_examples.specs.Reading.{Reads, signed_body}
use Rattle.promise_examples.specs.Runs.{Example}

-- ---- the run that they are made of: one Put over one lane, at most two attempts

abbrev pub config : Config
config = record { threshold = 3; chunk = 1; lanes = 1; queue = 1; buffers = 1; attempts = 2 }

abbrev pub limits : Limits
limits = record { min_part = 1; max_part = 1; max_parts = 2; max_object = 2 }

abbrev pub path : List ℕ
path = 102 ∷ []

abbrev pub task : Task
task = upload (98 ∷ []) (117 ∷ []) path

abbrev pub setting : Setting
setting = record {
  config = config;
  limits = limits;
  lanes = 1;
  tasks = task ∷ [];
  dryrun = false;
  held = insert empty path (record { bytes = bytes; micros = 0 });
  others = [];
  file_failed = λ task. false;
  cancelled_at = None;
  wanted_memory = λ task. false;
}

abbrev pub run : List Event → (ℕ → List Talk) → (ℕ → List Note) → Example
run journal logs notes = record {
  setting = setting;
  outcomes = outcome.Done ∷ [];
  journal = journal;
  logs = logs;
  notes = notes;
}

abbrev pub given_put : Event
given_put = entry.Given put_job 0

abbrev pub put_came : List Mark → Event
put_came tries = entry.Came put_job 0 tries

abbrev pub once : List Mark → List Event
once tries = given_put ∷ put_came tries ∷ []

abbrev pub sent_at : ℕ → Ending → List ℕ → Talk
sent_at moment ending got = record { host = []; port = 80; sent = moment ∷ bytes; got = got; ending = ending }

abbrev pub stored_at : ℕ → Talk
stored_at moment = sent_at moment Finished []

abbrev pub lost_at : ℕ → Talk
lost_at moment = sent_at moment Failed []

abbrev pub denied_at : ℕ → Talk
denied_at moment = sent_at moment Closed (codes "AccessDenied")

abbrev pub a_talk : List Note
a_talk = Moment 5 ∷ Began ∷ []

abbrev pub whole_run : Example
whole_run = run (once (mark.Success ∷ [])) (in_first (stored_at 5 ∷ [])) (in_first a_talk)

-- ---- what is changed on the wires

-- the talk is not in the log
abbrev pub dropped_talk : Example
dropped_talk = run (once (mark.Success ∷ [])) (in_first []) (in_first a_talk)

-- there is one more in it
abbrev pub further_talk : Example
further_talk = run (once (mark.Success ∷ [])) (in_first (stored_at 5 ∷ stored_at 6 ∷ [])) (in_first a_talk)

-- it was signed at a moment that was not noted
abbrev pub other_moment : Example
other_moment = run (once (mark.Success ∷ [])) (in_first (stored_at 6 ∷ [])) (in_first a_talk)

-- it says other bytes than the file's
abbrev pub other_body : Example
other_body = run (once (mark.Success ∷ []))
    (in_first (record { host = []; port = 80; sent = 5 ∷ 1 ∷ 3 ∷ []; got = []; ending = Finished } ∷ []))
    (in_first a_talk)

-- a beginning of it was sent, and it was answered
abbrev pub partly_sent : Example
partly_sent = run (once (mark.Success ∷ []))
    (in_first (record { host = []; port = 80; sent = 5 ∷ 1 ∷ []; got = []; ending = Finished } ∷ [])) (in_first a_talk)

-- it went to another host
abbrev pub other_host : Example
other_host = run (once (mark.Success ∷ []))
    (in_first (record { host = 120 ∷ []; port = 80; sent = 5 ∷ bytes; got = []; ending = Finished } ∷ []))
    (in_first a_talk)

-- its mark is another one
abbrev pub other_mark : Example
other_mark = run (once (mark.Refusal ∷ [])) (in_first (stored_at 5 ∷ [])) (in_first a_talk)

-- another talk began, of which the log tells nothing
abbrev pub untold_talk : Example
untold_talk = run (once (mark.Success ∷ [])) (in_first (stored_at 5 ∷ []))
    (in_first (Moment 5 ∷ Began ∷ Moment 6 ∷ Began ∷ []))

-- no pause is noted before the second attempt, or a longer one
abbrev pub no_pause : Example
no_pause = run (once (mark.Uncertain ∷ mark.Success ∷ [])) (in_first (lost_at 5 ∷ stored_at 6 ∷ []))
    (in_first (Moment 5 ∷ Began ∷ Moment 6 ∷ Began ∷ []))

abbrev pub longer_pause : Example
longer_pause = run (once (mark.Uncertain ∷ mark.Success ∷ [])) (in_first (lost_at 5 ∷ stored_at 6 ∷ []))
    (in_first (Moment 5 ∷ Began ∷ Pause 2 ∷ Moment 6 ∷ Began ∷ []))

-- an attempt too many, and one too few
abbrev pub third_attempt : Example
third_attempt = run (once (mark.Uncertain ∷ mark.Uncertain ∷ mark.Success ∷ []))
    (in_first (lost_at 5 ∷ lost_at 6 ∷ stored_at 8 ∷ []))
    (in_first (Moment 5 ∷ Began ∷ Pause 1 ∷ Moment 6 ∷ Began ∷ Pause 2 ∷ Moment 8 ∷ Began ∷ []))

abbrev pub given_up : Example
given_up = run (once (mark.Uncertain ∷ [])) (in_first (lost_at 5 ∷ [])) (in_first a_talk)

-- no attempt at all
abbrev pub never_tried : Example
never_tried = run (once []) (in_first []) (in_first [])

-- a refusal for good that is tried again
abbrev pub denied_again : Example
denied_again = run (once (mark.Refusal ∷ mark.Success ∷ [])) (in_first (denied_at 5 ∷ stored_at 6 ∷ []))
    (in_first (Moment 5 ∷ Began ∷ Pause 1 ∷ Moment 6 ∷ Began ∷ []))

-- the job does not come, or comes once more
abbrev pub never_came : Example
never_came = run (given_put ∷ []) (in_first []) (in_first [])

abbrev pub came_twice : Example
came_twice = run (given_put ∷ put_came (mark.Success ∷ []) ∷ put_came [] ∷ []) (in_first (stored_at 5 ∷ []))
    (in_first a_talk)

-- a Put that was denied is given again, and stored
abbrev pub denied_given_again : Example
denied_given_again = run (given_put ∷ put_came (mark.Refusal ∷ []) ∷ given_put ∷ put_came (mark.Success ∷ []) ∷ [])
    (in_first (denied_at 5 ∷ stored_at 6 ∷ []))
    (in_first (Moment 5 ∷ Began ∷ Pause 1 ∷ Moment 6 ∷ Began ∷ []))

-- a moment is noted on a wire beyond the lanes
abbrev pub moment_beyond : Example
moment_beyond = run (once (mark.Success ∷ [])) (in_first (stored_at 5 ∷ []))
    (λ lane. if lane == 0 then a_talk else Moment 5 ∷ [])

-- a wire beyond the lanes gained a talk, or a job stands there
abbrev pub other_wire : Example
other_wire = run (once (mark.Success ∷ [])) (λ lane. stored_at 5 ∷ []) (in_first a_talk)

abbrev pub other_lane : Example
other_lane = run (entry.Given put_job 1 ∷ entry.Came put_job 1 (mark.Success ∷ []) ∷ []) (λ lane. stored_at 5 ∷ [])
    (λ lane. a_talk)

-- ---- jobs without a talk, since memory ran out for them

-- another file, to another key
abbrev pub second_task : Task
second_task = upload (98 ∷ []) (118 ∷ []) path

abbrev pub second_put : JobId
second_put = record { task = Some 1; op = op.Put; number = 0 }

abbrev pub silent_run : List Task → List Event → Example
silent_run tasks journal = record {
  setting = record setting { tasks = tasks; wanted_memory = λ task. true };
  outcomes = [];
  journal = journal;
  logs = in_first [];
  notes = in_first [];
}

-- one does not come
abbrev pub silent_never_came : Example
silent_never_came = silent_run (task ∷ []) (given_put ∷ [])

-- one is given to a lane that is not used
abbrev pub silent_other_lane : Example
silent_other_lane = silent_run (task ∷ []) (entry.Given put_job 1 ∷ entry.Came put_job 1 [] ∷ [])

-- the second one comes before the first one, in one lane
abbrev pub silent_out_of_turn : Example
silent_out_of_turn = silent_run (task ∷ second_task ∷ [])
    (given_put ∷ entry.Given second_put 0 ∷ entry.Came second_put 0 [] ∷ put_came [] ∷ [])

-- ---- what is changed of the jobs

abbrev pub given_three_times : List Mark → List Mark → List Mark → List Event
given_three_times first second third =
    given_put ∷ put_came first ∷ given_put ∷ put_came second ∷ given_put ∷ put_came third ∷ []

-- it is given three times
abbrev pub third_giving : Example
third_giving = run (given_three_times (mark.Uncertain ∷ []) [] (mark.Success ∷ []))
    (in_first (lost_at 5 ∷ stored_at 6 ∷ [])) (in_first (Moment 5 ∷ Began ∷ Pause 1 ∷ Moment 6 ∷ Began ∷ []))

-- it is given again after a success
abbrev pub again_after_success : Example
again_after_success = run (given_put ∷ put_came (mark.Success ∷ []) ∷ given_put ∷ put_came (mark.Success ∷ []) ∷ [])
    (in_first (stored_at 5 ∷ stored_at 6 ∷ []))
    (in_first (Moment 5 ∷ Began ∷ Pause 1 ∷ Moment 6 ∷ Began ∷ []))

abbrev pub with_setting : Setting → Example → Example
with_setting s e = record { setting = s; outcomes = e.outcomes; journal = e.journal; logs = e.logs; notes = e.notes }

-- it is given again after the run was cancelled
abbrev pub again_after_cancel : Example
again_after_cancel = with_setting (record setting { cancelled_at = Some 2 })
    (run (given_put ∷ put_came (mark.Uncertain ∷ []) ∷ given_put ∷ put_came (mark.Success ∷ []) ∷ [])
    (in_first (lost_at 5 ∷ stored_at 6 ∷ [])) (in_first (Moment 5 ∷ Began ∷ Pause 1 ∷ Moment 6 ∷ Began ∷ [])))

-- the plan is only to be shown
abbrev pub dry_put : Example
dry_put = with_setting (record setting { dryrun = true }) whole_run

-- the size of the file is the threshold
abbrev pub at_threshold : Example
at_threshold = with_setting (record setting { config = record config { threshold = 2 } }) whole_run

-- the plan has no such task
abbrev pub no_such_task : Example
no_such_task = with_setting (record setting { tasks = [] }) whole_run

-- a job of planning for which there is no need
abbrev pub needless_list : Example
needless_list = run (entry.Given (record { task = None; op = op.List; number = 0 }) 0
    ∷ entry.Came (record { task = None; op = op.List; number = 0 }) 0 (mark.Success ∷ []) ∷ [])
    (in_first (record { host = []; port = 80; sent = 5 ∷ []; got = []; ending = Finished } ∷ [])) (in_first a_talk)

module _ (page_of : List ℕ → Listed) where
  -- however its jobs are read, and where these are the planning jobs that it needs, they do not keep to the schedule
  -- or are not carried
  abbrev pub IsRefusedWith : (Plans : List Dispatched → Type 0) → Example → Type 0
  IsRefusedWith Plans e = (dispatched coming : List Dispatched)
      → IsSchedule (Reads page_of) e.setting Plans dispatched coming
      → IsCarried (Reads page_of) signed_body [] 80 e.setting e.journal e.logs e.notes dispatched coming → ⊥

  -- the same where it needs none
  abbrev pub IsRefused : Example → Type 0
  IsRefused = IsRefusedWith (λ planning. planning ≡ [])

  pub record WiresAreRefused : Type 0 where
    pub dropped_talk : IsRefused dropped_talk
    pub further_talk : IsRefused further_talk
    pub other_moment : IsRefused other_moment
    pub other_body : IsRefused other_body
    pub partly_sent : IsRefused partly_sent
    pub other_host : IsRefused other_host
    pub other_mark : IsRefused other_mark
    pub untold_talk : IsRefused untold_talk
    pub no_pause : IsRefused no_pause
    pub longer_pause : IsRefused longer_pause
    pub third_attempt : IsRefused third_attempt
    pub given_up : IsRefused given_up
    pub never_tried : IsRefused never_tried
    pub denied_again : IsRefused denied_again
    pub never_came : IsRefused never_came
    pub came_twice : IsRefused came_twice
    pub moment_beyond : IsRefused moment_beyond
    pub other_wire : IsRefused other_wire
    pub other_lane : IsRefused other_lane
    pub denied_given_again : IsRefused denied_given_again
    pub silent_never_came : IsRefused silent_never_came
    pub silent_other_lane : IsRefused silent_other_lane
    pub silent_out_of_turn : IsRefused silent_out_of_turn

  pub record JobsAreRefused : Type 0 where
    pub third_giving : IsRefused third_giving
    pub again_after_success : IsRefused again_after_success
    pub again_after_cancel : IsRefused again_after_cancel
    pub dry_put : IsRefused dry_put
    pub at_threshold : IsRefused at_threshold
    pub no_such_task : IsRefused no_such_task
    pub needless_list : IsRefused needless_list

abbrev pub EachWireIsRefused : Type 0
EachWireIsRefused = (page_of : List ℕ → Listed) → WiresAreRefused page_of

abbrev pub EachJobIsRefused : Type 0
EachJobIsRefused = (page_of : List ℕ → Listed) → JobsAreRefused page_of
