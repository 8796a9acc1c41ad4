-- A whole run: its jobs as the journal and the logs show them, up to its end.
use Rattle.std.specs.Prelude.{◌≡◌, ◌++◌, [], ◌∷◌, ℕ, true, List, Some, None, AllPairs, Contains, IsPermutation, length}
use Rattle.std.specs.Prelude.{slice_get}
use Rattle.jobs.specs.Endings.{SeenCarried}
use Rattle.manager_moves.specs.Laws.{IsRun}
use Rattle.manager_moves.specs.Moves.{next_move}
use Rattle.manager_moves.specs.Runs.{Back, Events, Shared, journal_of}
use Rattle.manager_moves.specs.declared.moves.Move.TheVariants as move
use Rattle.run_progress.specs.RunProgress.{HasMeans}
use Rattle.run_promise.specs.Carried.{IsCarried}
use Rattle.job_terms.specs.Dispatches.{Dispatched}
use Rattle.job_terms.specs.Ops.{IsPlanning, op_of}
use Rattle.run_promise.specs.Schedule.{IsBefore, IsSchedule, Setting, most_body, planning_of}
use Rattle.s3_model.specs.Talks.{Note, Talk}
use Rattle.s3_model.specs.declared.answers.Class.{Class}
use Rattle.s3_model.specs.declared.outcomes.Event.{Event as Entry}
use Rattle.s3_model.specs.declared.outcomes.Event.TheVariants as entry
use Rattle.s3_model.specs.declared.requests.Ask.{Ask}
use Rattle.task_schedule.specs.Journals.{AreAsked, AreSent, AreWorks, ComeInOrder, EndsAs, KeepsSchedule, ShowOne}
use Rattle.task_schedule.specs.Journals.{TellsCancels, TellsFailures, TellsWhere, place_after}

-- it is of no task
abbrev pub IsOfPlanning : Entry → Type 0
IsOfPlanning (entry.Given job lane) = job.task ≡ None
IsOfPlanning (entry.Came job lane tries) = job.task ≡ None

-- `Shows ask limit talk class bytes`: the talk has that class for the ask, and its answer that body
module _ (Shows : Ask → ℕ → Talk → Class → List ℕ → Type 0) where
  -- What came back ended as the last talk of its dispatch shows. A journal has its marks alone.
  abbrev pub EndAsShown : (planned : ℕ) → Events → List Dispatched → Type 0
  EndAsShown planned events dispatched = (later before : Events) (lane : ℕ) (carried : SeenCarried) (c : Dispatched)
      → events ≡ later ++ Back lane carried ∷ before → Contains dispatched c
      → c.dispatch.came_at ≡ Some (place_after planned before) → EndsAs Shows c carried.ending

  -- `request_text ask body moment`: the text of a request, signed at that moment
  module _ (request_text : Ask → List ℕ → ℕ → List ℕ) (host : List ℕ) (port : ℕ) where
    -- The journal is that of the planning and behind it that of the run; what it says was carried.
    pub record IsJournaled (setting : Setting) (planning : List Entry) (events : Events) (logs : ℕ → List Talk)
        (notes : ℕ → List Note) (dispatched coming : List Dispatched) : Type 0 where
      pub of_planning : (event : Entry) → Contains planning event → IsOfPlanning event
      pub carried : IsCarried Shows request_text host port setting (planning ++ journal_of events) logs notes
          dispatched coming
      pub shown : EndAsShown (length planning) events dispatched

    -- A run that came to its end.
    pub record IsWholeRun (s : Shared) (setting : Setting) (planning : List Entry) (events : Events)
        (logs : ℕ → List Talk) (notes : ℕ → List Note) (dispatched coming : List Dispatched) : Type 0 where
      pub means : HasMeans s
      pub run : IsRun s events
      pub end : next_move s events ≡ move.End
      pub works : AreWorks setting s.works
      pub journaled : IsJournaled setting planning events logs notes dispatched coming
      pub asked : AreAsked s setting (length planning) events dispatched
      pub is_coming : IsPermutation dispatched coming
      pub in_order : ComeInOrder coming
      pub cancelled : TellsCancels setting events
      pub cancelled_at : TellsWhere setting (length planning) events
      pub files : TellsFailures s setting events

  -- The jobs that a run sent are those that its journal and its logs show.
  abbrev pub JournalsShowSent : Type 0
  JournalsShowSent = (request_text : Ask → List ℕ → ℕ → List ℕ) (host : List ℕ) (port : ℕ) (setting : Setting)
      (planning : List Entry) (events : Events) (logs : ℕ → List Talk) (notes : ℕ → List Note)
      (dispatched coming : List Dispatched)
      → IsJournaled request_text host port setting planning events logs notes dispatched coming
      → AreSent Shows (length planning) events dispatched

  -- A run that came to its end keeps to the schedule.
  abbrev pub RunsKeepSchedule : Type 0
  RunsKeepSchedule = (request_text : Ask → List ℕ → ℕ → List ℕ) (host : List ℕ) (port : ℕ) (s : Shared)
      (setting : Setting) (planning : List Entry) (events : Events) (logs : ℕ → List Talk) (notes : ℕ → List Note)
      (dispatched coming : List Dispatched) → ShowOne Shows
      → IsWholeRun request_text host port s setting planning events logs notes dispatched coming
      → KeepsSchedule Shows setting dispatched coming

  -- What the schedule says of the planning, and of dry runs. These are clauses of `IsSchedule` word for word, which the
  -- law passes on, and that planning only asks.
  pub record KeepsPlanning (setting : Setting) (Plans : List Dispatched → Type 0) (dispatched : List Dispatched)
      : Type 0 where
    pub plans : Plans (planning_of dispatched)
    pub planned : (c : Dispatched) → Contains dispatched c → c.dispatch.job.task ≡ None → (c.limit ≡ most_body)
        × (c.body ≡ [])
    pub numbered : (k : ℕ) (c : Dispatched) → slice_get (planning_of dispatched) k ≡ Some c
        → (c.dispatch.job ≡ record { task = None; op = op_of c.ask; number = k }) × (c.dispatch.lane ≡ 0)
    pub one_by_one : AllPairs (λ (a b : Dispatched). IsBefore a.dispatch.came_at b.dispatch.given_at)
        (planning_of dispatched)
    pub questions : (c : Dispatched) → Contains dispatched c → c.dispatch.job.task ≡ None → IsPlanning c.ask
    pub dry : (c : Dispatched) → setting.dryrun ≡ true → Contains dispatched c → c.dispatch.job.task ≡ None

  -- With a planning that `Plans` says, such a run has the whole schedule.
  abbrev pub RunsAreScheduled : (Plans : List Dispatched → Type 0) → Type 0
  RunsAreScheduled Plans = (request_text : Ask → List ℕ → ℕ → List ℕ) (host : List ℕ) (port : ℕ) (s : Shared)
      (setting : Setting) (planning : List Entry) (events : Events) (logs : ℕ → List Talk) (notes : ℕ → List Note)
      (dispatched coming : List Dispatched) → ShowOne Shows
      → IsWholeRun request_text host port s setting planning events logs notes dispatched coming
      → KeepsPlanning setting Plans dispatched → IsSchedule Shows setting Plans dispatched coming
