-- What the outcome of a task shows of its history: of its deciding request, and of the source of a move.
use Rattle.std.specs.Prelude.{◌≡◌, ◌≢◌, ◌++◌, ◌∷◌, ℕ, true, List, Contains, Some, slice_get}
use Rattle.manager_moves.specs.Runs.{Events, Shared, share}
use Rattle.job_terms.specs.Dispatches.{Dispatched}
use Rattle.run_promise.specs.Outcomes.{HasDeciding}
use Rattle.run_promise.specs.Schedule.{Setting}
use Rattle.s3_model.specs.Talks.{Talk}
use Rattle.s3_model.specs.declared.answers.Class.{Class}
use Rattle.s3_model.specs.declared.outcomes.Cause.{Cause}
use Rattle.s3_model.specs.declared.requests.Ask.{Ask}
use Rattle.s3_model.specs.declared.tasks.Task.{Task}
use Rattle.task_schedule.specs.Journals.{IsRunOf}
use Rattle.jobs.specs.Endings.{SeenCarried}
use Rattle.jobs.specs.declared.ending.Ending.TheVariants as ending
use Rattle.s3_model.specs.declared.answers.Reply.{Reply}
use Rattle.s3_model.specs.declared.outcomes.Outcome.{Outcome}
use Rattle.s3_model.specs.declared.outcomes.Outcome.TheVariants as outcome
use Rattle.s3_model.specs.declared.requests.Op.TheVariants as op
use Rattle.s3_model.specs.declared.tasks.Kind.{Kind}
use Rattle.s3_model.specs.declared.tasks.Kind.TheVariants as kind
use Rattle.s3_model.specs.declared.tries.Mark.{Mark}
use Rattle.s3_model.specs.declared.tries.Mark.TheVariants as mark
use Rattle.task_acts.specs.Ends.{decides, outcome_of, removal}
use Rattle.task_acts.specs.Histories.{Came, Gave, History, Returned, sent}
use Rattle.task_acts.specs.Kept.{IsHistory}
use Rattle.task_acts.specs.declared.acts.Act.{Act}
use Rattle.task_acts.specs.declared.acts.Act.TheVariants as act
use Rattle.task_acts.specs.declared.acts.FileCame.TheVariants as file
use Rattle.task_acts.specs.declared.work.Work.{Work}
use Rattle.task_progress.specs.Progress.{HasPiece}
use Rattle.task_schedule.specs.Givings.{IsGiven}

-- some attempt of the deciding request has that mark
abbrev pub HasDecidingMark : Work → History → Mark → Type 0
HasDecidingMark w history of_mark = (carried : SeenCarried) × Contains history (Came carried)
    × (decides w carried ≡ true) × Contains carried.tries of_mark

-- the call on files came back fine
abbrev pub IsFine : History → Act → Type 0
IsFine history called = Contains history (Returned called file.Fine)

-- what the task is for has happened: an attempt of the deciding request succeeded, or the call on files that decides it
abbrev pub HasHappened : Work → History → Kind → Type 0
HasHappened w history kind.Download = IsFine history act.Rename
HasHappened w history kind.RemoveFile = IsFine history act.Remove
HasHappened w history of_kind = HasDecidingMark w history mark.Success

-- the source of a move went: a file by a call, an object by a Delete that came with success
abbrev pub HasGone : History → Kind → Type 0
HasGone history kind.Upload = IsFine history act.Remove
HasGone history kind.RemoveFile = IsFine history act.Remove
HasGone history of_kind = (carried : SeenCarried) × Contains history (Came carried)
    × (sent carried ≡ act.Send op.Delete 0) × (said : Reply) × (carried.ending ≡ ending.Gained said)

-- nothing was done to remove the source of a move
abbrev pub IsSpared : History → Kind → Type 0
IsSpared history kind.Upload = ¬ (Contains history (Gave act.Remove))
IsSpared history kind.Download = ¬ (IsGiven history op.Delete 0)
IsSpared history kind.Copy = ¬ (IsGiven history op.Delete 0)
IsSpared history of_kind = Unit {0}

abbrev pub IsShownBy : Work → History → Outcome → Type 0
IsShownBy w history outcome.Done = HasHappened w history w.of_kind × (w.moves ≡ true → HasGone history w.of_kind)
IsShownBy w history (outcome.Copied why) = HasHappened w history w.of_kind × (w.moves ≡ true)
    × ¬ (HasGone history w.of_kind)
IsShownBy w history (outcome.Unknown why) = HasDecidingMark w history mark.Uncertain
    × ¬ (HasDecidingMark w history mark.Success) × IsSpared history w.of_kind
IsShownBy w history (outcome.Failed why) = ¬ (HasHappened w history w.of_kind)
    × ¬ (HasDecidingMark w history mark.Uncertain) × IsSpared history w.of_kind
IsShownBy w history how = ⊥

abbrev pub OutcomesShow : Type 0
OutcomesShow = (w : Work) (history : History) (how : Outcome) → HasPiece w → IsHistory w history
    → outcome_of w history ≡ Some how → IsShownBy w history how

-- The source of a move goes only once what the task is for has happened.
abbrev pub SourcesGoOnceDecided : Type 0
SourcesGoOnceDecided = (w : Work) (history later before : History) → IsHistory w history
    → w.of_kind ≢ kind.RemoveObject → w.of_kind ≢ kind.RemoveFile
    → history ≡ later ++ Gave (removal w.of_kind) ∷ before → HasHappened w before w.of_kind

-- `Shows ask limit talk class bytes`: the talk has that class for the ask, and its answer that body;
-- `HasStatus ask limit talk status`: its answer has that HTTP status;
-- `CallFailed n why`: the calls on files show that one of task n failed so
module _ (Shows : Ask → ℕ → Talk → Class → List ℕ → Type 0) (HasStatus : Ask → ℕ → Talk → ℕ → Type 0)
    (CallFailed : ℕ → Cause → Type 0) where
  -- The marks of a task's deciding request are those that the dispatches of the run show.
  abbrev pub MarksAreOfDispatches : Type 0
  MarksAreOfDispatches = (s : Shared) (setting : Setting) (planned : ℕ) (events : Events)
      (dispatched coming : List Dispatched) → IsRunOf Shows s setting planned events dispatched coming
      → (n : ℕ) (w : Work) (task : Task) (of_mark : Mark) → slice_get s.works n ≡ Some w
      → slice_get setting.tasks n ≡ Some task
      → (HasDecidingMark w (share w n events) of_mark
      → HasDeciding Shows HasStatus CallFailed setting dispatched coming n task of_mark)
      × (HasDeciding Shows HasStatus CallFailed setting dispatched coming n task of_mark
      → HasDecidingMark w (share w n events) of_mark)
