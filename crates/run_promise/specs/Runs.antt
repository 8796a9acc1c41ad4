-- A run over a service: what it gave and what came, with a trace of that service.
use Rattle.std.specs.Prelude.{◌≡◌, ◌++◌, ℕ, List, [], Option, filter_map}
use Rattle.s3_model.specs.declared.requests.Ask.{Ask}
use Rattle.s3_model.specs.declared.answers.Class.{Class}
use Rattle.s3_model.specs.declared.outcomes.Event.{Event}
use Rattle.s3_model.specs.declared.settings.Limits.{Limits}
use Rattle.s3_model.specs.Talks.{Talk}
use Rattle.s3_service.specs.ServiceState.{State}
use Rattle.job_terms.specs.Dispatches.{Dispatched}
use Rattle.run_promise.specs.Fits.{Fits}
use Rattle.run_promise.specs.Traces.{Step, IsTrace, IsHonest, event_of, events_of, states}

-- A run: its journal and its dispatched requests, with the state that a trace of the service starts from, and its
-- steps.
pub record Run : Type 0 where
  pub start : State
  pub trace : List Step
  pub journal : List Event
  pub dispatched : List Dispatched
  -- the number of the planning job whose page was refused by its content, if one was
  pub refused_page : Option ℕ

-- the states of the service, at the start and after each step
abbrev pub moments : Run → List State
moments run = states run.start run.trace

-- a part of a trace that has all of the journal: up to the end of the run, or up to a step that follows it
abbrev pub HasJournal : List Event → List Step → List Step → Type 0
HasJournal journal trace part =
    (late : List Step) × (trace ≡ part ++ late) × (filter_map event_of (events_of part) ≡ journal)

-- the trace begins so, and all of the journal happened by then
abbrev pub HasEndedBy : Run → List Step → Type 0
HasEndedBy run part = HasJournal run.journal run.trace part

-- `Shows ask limit talk class bytes`: the talk has that class for the ask, and its answer that body
module _ (Shows : Ask → ℕ → Talk → Class → List ℕ → Type 0) where
  -- an honest trace that fits, in which nobody else writes the kept places
  pub record IsFitting (limits : Limits) (run : Run) (IsKept : List ℕ → List ℕ → Type 0) : Type 0 where
    pub runs : IsTrace limits [] run.start run.trace
    pub honest : IsHonest run.start run.trace IsKept
    pub fits : Fits Shows run.refused_page (events_of run.trace) run.journal run.dispatched
