-- The journal of a run whose jobs lanes carried.
use Rattle.std.specs.Prelude.{◌≡◌, ◌++◌, ◌∷◌, ℕ, List, Some, Contains, length}
use Rattle.answer_classes.specs.Showing.{HasStatus, Shows}
use Rattle.attempts.specs.Attempts.{text_of}
use Rattle.jobs.specs.Endings.{SeenCarried}
use Rattle.lane_laws.specs.Runs.{AreCarriedJobs, Giving, HaveCauses, IsJournal, dispatched_of, given_to}
use Rattle.manager_moves.specs.Runs.{Back, Events, journal_of}
use Rattle.job_terms.specs.Dispatches.{Dispatched}
use Rattle.run_promise.specs.Schedule.{Setting}
use Rattle.run_schedule.specs.Runs.{EndAsShown, IsJournaled, IsOfPlanning}
use Rattle.s3_model.specs.Talks.{Note, Talk}
use Rattle.s3_model.specs.declared.outcomes.Cause.{Cause}
use Rattle.s3_model.specs.declared.outcomes.Event.{Event as Entry}
use Rattle.s3_model.specs.declared.places.Endpoint.{Endpoint}
use Rattle.s3_model.specs.declared.settings.Keys.{Keys}
use Rattle.task_outcomes.specs.Causes.{StatusesAreShown}
use Rattle.task_schedule.specs.Journals.{place_after}

-- each wire gained what the jobs of its lane say, and nothing else
abbrev pub AreOfLanes : Endpoint → Keys → (attempts : ℕ) → List Giving → (logs : ℕ → List Talk)
    → (notes : ℕ → List Note) → Type 0
AreOfLanes endpoint keys attempts givings logs notes =
    (lane : ℕ) → AreCarriedJobs endpoint keys attempts (given_to lane givings) (logs lane) (notes lane)

-- what came back has the ending that its lane gave it
abbrev pub AreHandedBack : (planned : ℕ) → Events → List Giving → Type 0
AreHandedBack planned events givings = (later before : Events) (lane : ℕ) (carried : SeenCarried) (g : Giving)
    → events ≡ later ++ Back lane carried ∷ before → Contains givings g
    → g.of.dispatch.came_at ≡ Some (place_after planned before) → carried.ending ≡ g.ended

-- So it ended as the last talk of its dispatch shows.
abbrev pub LanesEndAsShown : Type 0
LanesEndAsShown = (endpoint : Endpoint) (keys : Keys) (attempts planned : ℕ) (events : Events) (logs : ℕ → List Talk)
    (notes : ℕ → List Note) (givings : List Giving) → AreOfLanes endpoint keys attempts givings logs notes
    → AreHandedBack planned events givings → EndAsShown Shows planned events (dispatched_of givings)

-- And where it was refused, it has the status of its last answer, whatever the calls on files show.
abbrev pub LanesTellStatuses : (CallFailed : ℕ → Cause → Type 0) → Type 0
LanesTellStatuses CallFailed = (endpoint : Endpoint) (keys : Keys) (attempts planned : ℕ) (events : Events)
    (logs : ℕ → List Talk) (notes : ℕ → List Note) (givings : List Giving)
    → AreOfLanes endpoint keys attempts givings logs notes → AreHandedBack planned events givings
    → StatusesAreShown Shows HasStatus CallFailed planned events (dispatched_of givings)

-- What is taken of a run whose jobs lanes carried: its journal is that of the planning and behind it that of the run,
-- with the talks of the wires, and what stopped its jobs is told.
pub record IsOfLanes (endpoint : Endpoint) (keys : Keys) (setting : Setting) (planning : List Entry) (events : Events)
    (logs : ℕ → List Talk) (notes : ℕ → List Note) (givings : List Giving) (coming : List Dispatched) : Type 0 where
  pub of_planning : (event : Entry) → Contains planning event → IsOfPlanning event
  pub journal : IsJournal setting (planning ++ journal_of events) logs notes (dispatched_of givings)
  pub lanes : AreOfLanes endpoint keys setting.config.attempts givings logs notes
  pub causes : HaveCauses endpoint keys setting givings coming
  pub handed : AreHandedBack (length planning) events givings

-- So the journal of a run whose jobs lanes carried is one that whole runs take.
abbrev pub LanesAreJournaled : Type 0
LanesAreJournaled = (endpoint : Endpoint) (keys : Keys) (setting : Setting) (planning : List Entry) (events : Events)
    (logs : ℕ → List Talk) (notes : ℕ → List Note) (givings : List Giving) (coming : List Dispatched)
    → IsOfLanes endpoint keys setting planning events logs notes givings coming
    → IsJournaled Shows (text_of endpoint keys) endpoint.host endpoint.port setting planning events logs notes
    (dispatched_of givings) coming
