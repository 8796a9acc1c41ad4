-- When the jobs of one task are given: the schedule of a run, over the history of the task. What happened stands in a
-- history with the newest first, so that what happened later than a giving stands before it.
use Rattle.std.specs.Prelude.{◌≡◌, ◌≢◌, ◌++◌, ◌⊎◌, ◌∷◌, ℕ, true, false, Contains, IsSome}
use Rattle.jobs.specs.Endings.{SeenCarried}
use Rattle.jobs.specs.declared.ending.Ending.TheVariants as ending
use Rattle.run_promise.specs.Schedule.{IsDecidedBy}
use Rattle.s3_model.specs.declared.answers.Reply.{Reply}
use Rattle.s3_model.specs.declared.answers.Reply.TheVariants as reply
use Rattle.s3_model.specs.declared.requests.Op.{Op}
use Rattle.s3_model.specs.declared.requests.Op.TheVariants as op
use Rattle.s3_model.specs.declared.tasks.Kind.TheVariants as kind
use Rattle.task_acts.specs.Ends.{outcome_of}
use Rattle.task_acts.specs.Failures.{is_cut_short, is_stopped}
use Rattle.task_acts.specs.Histories.{Came, Gave, History, sent}
use Rattle.task_acts.specs.Kept.{IsHistory, upload_of}
use Rattle.task_acts.specs.declared.acts.Act.TheVariants as act
use Rattle.task_acts.specs.declared.work.Work.{Work}
use Rattle.task_progress.specs.Progress.{HasPiece}
use Rattle.task_schedule.specs.Asks.{AreOfTask, gained_in}

-- the job was given, ahead of what happened later and behind what happened before
abbrev pub IsGivenAt : History → (later before : History) → Op → (number : ℕ) → Type 0
IsGivenAt history later before of_op number = history ≡ later ++ Gave (act.Send of_op number) ∷ before

-- the job was given
abbrev pub IsGiven : History → Op → (number : ℕ) → Type 0
IsGiven history of_op number = Contains history (Gave (act.Send of_op number))

-- the job came back
pub record HasCome (history : History) (of_op : Op) (number : ℕ) : Type 0 where
  pub carried : SeenCarried
  pub known : Contains history (Came carried)
  pub sent_is : sent carried ≡ act.Send of_op number

-- ---- a job that is given again

-- Between the two givings it came back, cut short and without success; nothing had stopped the task by the second one.
pub record IsCutBetween (w : Work) (between before : History) (of_op : Op) (number : ℕ) : Type 0 where
  pub come : HasCome between of_op number
  pub cut : is_cut_short w come.carried ≡ true
  pub no_success : (said : Reply) → come.carried.ending ≢ ending.Gained said
  pub going : is_stopped w (between ++ Gave (act.Send of_op number) ∷ before) ≡ false
  pub no_abort : of_op ≢ op.Abort

abbrev pub OnlyCutIsGivenAgain : Type 0
OnlyCutIsGivenAgain = (w : Work) (history later between before : History) (of_op : Op) (number : ℕ)
    → IsHistory w history → IsGivenAt history later (between ++ Gave (act.Send of_op number) ∷ before) of_op number
    → IsCutBetween w between before of_op number

abbrev pub NoneIsGivenThrice : Type 0
NoneIsGivenThrice = (w : Work) (history last second first before : History) (of_op : Op) (number : ℕ)
    → IsHistory w history → IsGivenAt history last
    (second ++ Gave (act.Send of_op number) ∷ (first ++ Gave (act.Send of_op number) ∷ before)) of_op number → ⊥

-- ---- after a failure or a cancel

abbrev pub StopsGivings : Type 0
StopsGivings = (w : Work) (history later before : History) (of_op : Op) (number : ℕ) → IsHistory w history
    → IsGivenAt history later before of_op number → is_stopped w before ≡ true → of_op ≡ op.Abort

-- Once an Abort is given, every other job that was given has come, and none is given later.
abbrev pub AbortsComeLast : Type 0
AbortsComeLast = (w : Work) (history later before : History) (number : ℕ) → IsHistory w history
    → IsGivenAt history later before op.Abort number → (of_op : Op) (other : ℕ) → of_op ≢ op.Abort
    → (IsGiven later of_op other → ⊥)
    × ((since first : History) → IsGivenAt before since first of_op other → HasCome since of_op other)

-- A task that has ended completed what it had created, or gave it up.
abbrev pub CreatedIsEnded : Type 0
CreatedIsEnded = (w : Work) (history : History) → HasPiece w → IsHistory w history → IsSome (outcome_of w history)
    → IsSome (upload_of history)
    → ((carried : SeenCarried) × Contains history (Came carried) × (sent carried ≡ act.Send op.Complete 0)
    × (carried.ending ≡ ending.Gained reply.Completed)) ⊎ IsGiven history op.Abort 0

-- Where an Abort was given no Complete came with success, neither before nor later.
abbrev pub AbortedIsNotCompleted : Type 0
AbortedIsNotCompleted = (w : Work) (history : History) (number : ℕ) → IsHistory w history
    → IsGiven history op.Abort number → (carried : SeenCarried) (said : Reply) → Contains history (Came carried)
    → sent carried ≡ act.Send op.Complete 0 → carried.ending ≢ ending.Gained said

-- ---- the source of a move

-- It goes only after the deciding request, or each Get, came with success.
abbrev pub SourcesGoAfterSuccess : Type 0
SourcesGoAfterSuccess = (w : Work) (history later before : History) (n number : ℕ) → HasPiece w
    → IsHistory w history → AreOfTask n history → w.of_kind ≢ kind.RemoveObject
    → IsGivenAt history later before op.Delete number
    → IsDecidedBy w.of_kind w.small n w.count (gained_in before)
