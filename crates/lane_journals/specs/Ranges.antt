-- A run of a download in two ranges over two lanes that meets what the laws take: a range fails on one lane, and the
-- other is cut short by that, given again, and fails too.
use Rattle.std.specs.Prelude.{[], ◌∷◌, ◌==◌, ℕ, Bool, true, false, List, Option, Some, None, if◌then◌else◌}
use Rattle.jobs.specs.Holders.{Holder}
use Rattle.jobs.specs.declared.ending.Ending.TheVariants as ending
use Rattle.jobs.specs.declared.what.What.{What}
use Rattle.lane_laws.specs.Runs.{Giving}
use Rattle.manager_moves.specs.Examples.{shared}
use Rattle.manager_moves.specs.Laws.{IsRun}
use Rattle.manager_moves.specs.Runs.{Back, Called, Event, Events, Lined, Made, Sent}
use Rattle.job_terms.specs.Dispatches.{Attempt, Dispatched}
use Rattle.run_promise.specs.Schedule.{Setting}
use Rattle.job_terms.specs.Jobs.{job_of}
use Rattle.s3_model.specs.Talks.{Began, Failed, Moment, Note, Pause, Talk}
use Rattle.s3_model.specs.declared.answers.Class.{Class}
use Rattle.s3_model.specs.declared.answers.Class.TheVariants as class
use Rattle.s3_model.specs.declared.answers.Why.TheVariants as why
use Rattle.s3_model.specs.declared.bytes.Part.{Part}
use Rattle.s3_model.specs.declared.outcomes.Reason.{Reason}
use Rattle.s3_model.specs.declared.outcomes.Reason.TheVariants as reason_of
use Rattle.s3_model.specs.declared.places.Endpoint.{Endpoint}
use Rattle.s3_model.specs.declared.places.Place.TheVariants as place
use Rattle.s3_model.specs.declared.requests.Ask.{Ask}
use Rattle.s3_model.specs.declared.requests.Ask.TheVariants as ask
use Rattle.s3_model.specs.declared.requests.Op.TheVariants as op
use Rattle.s3_model.specs.declared.settings.Keys.{Keys}
use Rattle.s3_model.specs.declared.tasks.Kind.TheVariants as kind
use Rattle.s3_model.specs.declared.tasks.Task.{Task}
use Rattle.s3_model.specs.declared.tries.Mark.{Mark}
use Rattle.s3_model.specs.declared.tries.Mark.TheVariants as mark
use Rattle.task_acts.specs.Examples.{in_pieces}
use Rattle.task_acts.specs.declared.acts.Act.TheVariants as act
use Rattle.task_acts.specs.declared.acts.FileCame.TheVariants as file
use Rattle.task_acts.specs.declared.work.Work.{Work}
use Rattle.task_schedule.specs.Witness.{small_setting, small_task}
use Rattle.lane_journals.specs.Journals.{IsOfLanes}

-- ---- the task

-- 8 bytes in ranges of 4, each with two attempts
abbrev pub work : Work
work = record (in_pieces kind.Download false 2 8) { attempts = 2 }

abbrev pub download : Task
download = record small_task {
  kind = kind.Download;
  source = Some (place.Object [] []);
  dest = place.File [];
  size = 8;
}

abbrev pub setting : Setting
setting = record small_setting {
  config = record { threshold = 8; chunk = 4; lanes = 2; queue = 1; buffers = 2; attempts = 2 };
  lanes = 2;
  tasks = download ∷ [];
}

-- ---- its talks

-- in every talk a call of the wire fails before anything is sent
abbrev pub failed_talk : Endpoint → Talk
failed_talk endpoint = record { host = endpoint.host; port = endpoint.port; sent = []; got = []; ending = Failed }

abbrev pub lost : Class
lost = class.Uncertain why.WireFailed

-- by lane
abbrev pub two_lanes : {A : Type 0} → (first second : List A) → ℕ → List A
two_lanes first second lane = if lane == 0 then first else if lane == 1 then second else []

abbrev pub logs : Endpoint → ℕ → List Talk
logs endpoint = two_lanes (failed_talk endpoint ∷ failed_talk endpoint ∷ [])
    (failed_talk endpoint ∷ failed_talk endpoint ∷ [])

-- each job is tried twice in all, with a second between
abbrev pub notes : ℕ → List Note
notes = let tried = Moment 0 ∷ Began ∷ Pause 1 ∷ Moment 0 ∷ Began ∷ [] in two_lanes tried tried

-- ---- its jobs

abbrev pub first_ask : Ask
first_ask = ask.Get [] [] [] (Some (0, 3))

abbrev pub second_ask : Ask
second_ask = ask.Get [] [] [] (Some (4, 7))

module _ (endpoint : Endpoint) where
  abbrev pub try : Attempt
  try = record { mark = mark.Uncertain; talk = failed_talk endpoint }

  abbrev pub given : (number lane given_at came_at earlier : ℕ) → (is_second : Bool) → Ask → List Attempt → Dispatched
  given number lane given_at came_at earlier is_second asked tries = record {
    dispatch = record {
      job = job_of 0 op.Get number;
      lane = lane;
      given_at = given_at;
      came_at = Some came_at;
      earlier = earlier;
      is_second = is_second;
      attempts = tries;
    };
    ask = asked;
    body = [];
    limit = 4;
    size = 8;
  }

  abbrev pub first : Dispatched
  first = given 1 0 0 2 0 false first_ask (try ∷ [])

  abbrev pub second : Dispatched
  second = given 2 1 1 4 0 false second_ask (try ∷ try ∷ [])

  abbrev pub first_again : Dispatched
  first_again = given 1 0 3 5 1 true first_ask (try ∷ [])

  abbrev pub giving : Dispatched → List Class → Option Reason → Giving
  giving c classes gave = record { of = c; classes = classes; ended = ending.Uncertain why.WireFailed; gave = gave }

  -- the first is stopped by the failure of the second, of which the run hears later
  abbrev pub givings : List Giving
  givings = giving first (lost ∷ []) (Some reason_of.TaskFailed) ∷ giving second (lost ∷ lost ∷ []) None
      ∷ giving first_again (lost ∷ []) None ∷ []

  abbrev pub jobs : List Dispatched
  jobs = first ∷ second ∷ first_again ∷ []

-- ---- the run

module _ (for : What) (cell : Holder) (part : Part) where
  abbrev pub back : (number lane : ℕ) → Option Holder → (had : ℕ) → List Mark → Event
  back number lane of_cell had tries = Back lane (record {
    job = record { id = job_of 0 op.Get number; what = for; part = Some part; cell = of_cell; had = had };
    tries = tries;
    ending = ending.Uncertain why.WireFailed;
  })

  abbrev pub both_out : Events
  both_out = Sent 0 op.Get 2 1 ∷ Sent 0 op.Get 1 0 ∷ Called 0 act.Assemble file.Fine ∷ Made true ∷ []

  abbrev pub given_again : Events
  given_again = Sent 0 op.Get 1 0 ∷ back 1 0 (Some cell) 0 (mark.Uncertain ∷ []) ∷ both_out

  abbrev pub both_failed : Events
  both_failed = back 1 0 None 1 (mark.Uncertain ∷ [])
      ∷ back 2 1 (Some cell) 0 (mark.Uncertain ∷ mark.Uncertain ∷ []) ∷ given_again

  abbrev pub ranges_run : Events
  ranges_run = Lined ∷ Called 0 act.DropTemp file.Fine ∷ both_failed

  -- It is a run of the rule of moves.
  abbrev pub RangesAreOfLanes : Type 0
  RangesAreOfLanes = IsRun (shared (work ∷ []) 2 1 2) ranges_run × ((endpoint : Endpoint) (keys : Keys)
      → IsOfLanes endpoint keys setting [] ranges_run (logs endpoint) notes (givings endpoint) (jobs endpoint))

abbrev pub RangesRunsAreOfLanes : Type 0
RangesRunsAreOfLanes = (for : What) (cell : Holder) (part : Part) → RangesAreOfLanes for cell part
