-- Histories of a task that are the same, but for the jobs that it kept and for cancels behind the first.
use Rattle.std.specs.Prelude.{◌≡◌, [], ◌∷◌, ℕ, Bool, true, false, IsSome, is_some, if◌then◌else◌}
use Rattle.s3_model.specs.declared.outcomes.Reason.{Reason}
use Rattle.s3_model.specs.declared.requests.Op.{Op}
use Rattle.task_acts.specs.declared.acts.Act.{Act}
use Rattle.task_acts.specs.declared.acts.Act.TheVariants as act
use Rattle.task_acts.specs.declared.work.Work.{Work}
use Rattle.task_acts.specs.Ends.{outcome_of}
use Rattle.task_acts.specs.Failures.{first_failure, first_reason, is_stopped}
use Rattle.task_acts.specs.Histories.{Came, Cancelled, Gave, Happening, History, Returned, Taken}
use Rattle.task_acts.specs.Kept.{etags_of, kept_job, upload_of}
use Rattle.task_acts.specs.Rule.{first_ready_in, is_idle_in}
use Rattle.task_acts.specs.Stages.{stage}

-- a cancel tells something, unless one came before it
abbrev pub told_cancel : (came : Bool) → Reason → History → History
told_cancel true reason before = before
told_cancel false reason before = Cancelled reason ∷ before

-- all that happened, but for the jobs that were taken, and for cancels behind the first
abbrev pub told : History → History
told [] = []
told (Taken of_op number ∷ before) = told before
told (Gave given ∷ before) = Gave given ∷ told before
told (Came carried ∷ before) = Came carried ∷ told before
told (Returned called result ∷ before) = Returned called result ∷ told before
told (Cancelled reason ∷ before) = told_cancel (is_some (first_reason before)) reason (told before)

-- what is said of a task, but for the jobs that it keeps
pub record SayTheSame (w : Work) (g h : History) : Type 0 where
  pub stages : (of_act : Act) → stage w g of_act ≡ stage w h of_act
  pub stopped : is_stopped w g ≡ is_stopped w h
  pub failure : first_failure w g ≡ first_failure w h
  pub ready : first_ready_in w g ≡ first_ready_in w h
  pub idle : is_idle_in w g ≡ is_idle_in w h
  pub outcome : outcome_of w g ≡ outcome_of w h
  pub upload : upload_of g ≡ upload_of h
  pub etags : etags_of w g ≡ etags_of w h

abbrev pub AlikeSaysTheSame : Type 0
AlikeSaysTheSame = (w : Work) (g h : History) → told g ≡ told h → SayTheSame w g h

-- The same happened to a task, but for jobs that were taken and cancels that came once it had stopped. Before that just
-- the same happened.
pub record AreAlike (w : Work) (g h : History) : Type 0 where
  pub told_are : told g ≡ told h
  pub same : is_stopped w h ≡ false → g ≡ h

abbrev pub StartsAlike : Type 0
StartsAlike = (w : Work) (h : History) → AreAlike w h h

-- whatever happens then
abbrev pub StaysAlike : Type 0
StaysAlike = (w : Work) (g h : History) (event : Happening) → AreAlike w g h → AreAlike w (event ∷ g) (event ∷ h)

-- a job is given, and where it was kept it is taken to be given again
abbrev pub given_in : Work → Op → (number : ℕ) → History → History
given_in w of_op number h = Gave (act.Send of_op number)
    ∷ (if is_some (kept_job w h (act.Send of_op number)) then Taken of_op number ∷ h else h)

abbrev pub GivingStaysAlike : Type 0
GivingStaysAlike = (w : Work) (g h : History) (of_op : Op) (number : ℕ) → AreAlike w g h
    → AreAlike w (given_in w of_op number g) (given_in w of_op number h)

-- as a job is taken from a task that has stopped
abbrev pub TakingStaysAlike : Type 0
TakingStaysAlike = (w : Work) (g h : History) (of_op : Op) (number : ℕ) → is_stopped w h ≡ true → AreAlike w g h
    → AreAlike w (Taken of_op number ∷ g) h

-- as a second cancel comes, of which the task need not hear
abbrev pub CancelStaysAlike : Type 0
CancelStaysAlike = (w : Work) (g h : History) (reason : Reason) → IsSome (first_reason h) → AreAlike w g h
    → AreAlike w g (Cancelled reason ∷ h)
