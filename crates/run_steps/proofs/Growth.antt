-- What each event adds to the histories of tasks, and what their jobs are then.
use Rattle.std.proofs.Common.{◌≡◌, ◌∙◌, ◌==◌, ◌&&◌, ◌++◌, [], ◌∷◌, ℕ, Bool, true, false, Option, Some, None}
use Rattle.std.proofs.Common.{refl, sym, subst, ap, not, if◌then◌else◌}
use Rattle.std.specs.Prelude.{is_some, nat_lt}
use Rattle.jobs.specs.Endings.{SeenCarried}
use Rattle.manager_moves.proofs.CountLemmas.{no}
use Rattle.manager_moves.proofs.QueueLaws.{ended_on}
use Rattle.manager_moves.specs.Runs.{Back, Called, Event, Events, Lined, Made, Sent, Stopped, is_task, made_count}
use Rattle.manager_moves.specs.Runs.{outcome_in, share, with_taken}
use Rattle.s3_model.specs.declared.requests.Op.{Op}
use Rattle.s3_model.specs.declared.tasks.Task.{Task}
use Rattle.step_jobs.specs.Shares.{SeenSteps}
use Rattle.step_laws.proofs.ShareLemmas.{shares_stay}
use Rattle.step_laws.specs.Following.{HoldsShares}
use Rattle.task_acts.specs.declared.acts.Act.{Act}
use Rattle.task_acts.specs.declared.acts.Act.TheVariants as act
use Rattle.task_acts.specs.declared.acts.FileCame.{FileCame}
use Rattle.task_acts.specs.declared.work.Work.{Work}
use Rattle.task_acts.specs.Histories.{Came, Cancelled, Gave, History, Returned, Taken}
use Rattle.task_acts.specs.Kept.{kept_job}
use Rattle.run_steps.specs.Following.{IsOfOne}
use Rattle.run_steps.specs.Steps.{HoldsStep, is_going}

-- ---- histories

sent_more : (o : Op) (k : ℕ) (h : History) (b kept : Bool) → (more : History)
    × ((if b then Gave (act.Send o k) ∷ (if kept then Taken o k ∷ h else h) else h) ≡ more ++ h)
sent_more o k h true true = (Gave (act.Send o k) ∷ Taken o k ∷ [], refl)
sent_more o k h true false = (Gave (act.Send o k) ∷ [], refl)
sent_more o k h false kept = ([], refl)

called_more : (a : Act) (r : FileCame) (h : History) (b : Bool) → (more : History)
    × ((if b then Returned a r ∷ Gave a ∷ h else h) ≡ more ++ h)
called_more a r h true = (Returned a r ∷ Gave a ∷ [], refl)
called_more a r h false = ([], refl)

back_more : (c : SeenCarried) (h : History) (b : Bool) → (more : History)
    × ((if b then Came c ∷ h else h) ≡ more ++ h)
back_more c h true = (Came c ∷ [], refl)
back_more c h false = ([], refl)

module _ (w : Work) (n : ℕ) (events : Events) where
  -- the history of a task grows
  pub share_grows : (e : Event) → (more : History) × (share w n (e ∷ events) ≡ more ++ share w n events)
  share_grows (Made fits) = ([], refl)
  share_grows (Sent t o k lane) =
      sent_more o k (share w n events) (t == n) (is_some (kept_job w (share w n events) (act.Send o k)))
  share_grows (Back lane c) = back_more c (share w n events) (is_task n c.job.id.task)
  share_grows (Called t a r) = called_more a r (share w n events) (t == n)
  share_grows Lined = ([], refl)
  share_grows (Stopped reason) = (Cancelled reason ∷ [], refl)

  -- that of another task stays
  pub share_apart : (t : ℕ) (e : Event) → IsOfOne t e → (t == n) ≡ false → share w n (e ∷ events) ≡ share w n events
  share_apart t (Sent task o k lane) is e =
      ap (λ (b : Bool). if b then Gave (act.Send o k) ∷ with_taken w o k (share w n events) else share w n events)
      (ap (λ (i : ℕ). i == n) is ∙ e)
  share_apart t (Called task a r) is e =
      ap (λ (b : Bool). if b then Returned a r ∷ Gave a ∷ share w n events else share w n events)
      (ap (λ (i : ℕ). i == n) is ∙ e)
  share_apart t (Back lane c) is e =
      ap (λ (b : Bool). if b then Came c ∷ share w n events else share w n events)
      (ap (λ (o : Option ℕ). is_task n o) is ∙ e)
  share_apart t (Made fits) is e = absurd is
  share_apart t Lined is e = absurd is
  share_apart t (Stopped reason) is e = absurd is

pub none_made : (t : ℕ) (e : Event) (events : Events) → IsOfOne t e → made_count (e ∷ events) ≡ made_count events
none_made t (Sent task o k lane) events is = refl
none_made t (Called task a r) events is = refl
none_made t (Back lane c) events is = refl
none_made t (Made fits) events is = absurd is
none_made t Lined events is = absurd is
none_made t (Stopped reason) events is = absurd is

-- ---- whether a task goes on

going_ends : (made_so before after : Bool) → (before ≡ true → after ≡ true)
    → (made_so && not after) ≡ ((made_so && not before) && not after)
going_ends false before after stays = refl
going_ends true true true stays = refl
going_ends true true false stays = no (stays refl)
going_ends true false after stays = refl

module _ (w : Work) (n : ℕ) (events : Events) (e : Event) (made_is : made_count (e ∷ events) ≡ made_count events) where
  -- it goes on where it went on and has not ended
  pub goes_on : is_going w n (e ∷ events) ≡ (is_going w n events && not (is_some (outcome_in w n (e ∷ events))))
  goes_on =
      ap (λ (k : ℕ). nat_lt n k && not (is_some (outcome_in w n (e ∷ events)))) made_is
      ∙ going_ends (nat_lt n (made_count events)) (is_some (outcome_in w n events))
      (is_some (outcome_in w n (e ∷ events))) (ended_on w n events e)

-- ---- one task

-- whatever happens, its shares stay
pub shares_later : (task : Task) (w : Work) (later h : History) (j : SeenSteps) → HoldsShares task w h j
    → HoldsShares task w (later ++ h) j
shares_later task w [] h j holds = holds
shares_later task w (event ∷ later) h j holds =
    shares_stay task w (later ++ h) event j (shares_later task w later h j holds)

step_later : (going : Bool) (task : Task) (w : Work) (later h : History) (kept : Option SeenSteps)
    → HoldsStep going task w h kept → HoldsStep going task w (later ++ h) kept
step_later true task w later h (Some j) holds = shares_later task w later h j holds
step_later true task w later h None holds = holds
step_later false task w later h kept holds = holds

pub step_settled : (going ended : Bool) (task : Task) (w : Work) (h : History) (kept : Option SeenSteps)
    → HoldsStep going task w h kept → HoldsStep (going && not ended) task w h (if ended then None else kept)
step_settled true true task w h kept holds = refl
step_settled true false task w h kept holds = holds
step_settled false true task w h kept holds = refl
step_settled false false task w h kept holds = holds

module _ (task : Task) (w : Work) (n : ℕ) (events : Events) (e : Event) (kept : Option SeenSteps) where
  pub step_grown : (going : Bool) → HoldsStep going task w (share w n events) kept
      → HoldsStep going task w (share w n (e ∷ events)) kept
  step_grown going holds = subst (λ (h : History). HoldsStep going task w h kept) (sym (share_grows w n events e).1)
      (step_later going task w (share_grows w n events e).0 (share w n events) kept holds)

  -- where it lets its jobs go once it has ended, they are those of the run
  pub step_after : made_count (e ∷ events) ≡ made_count events
      → HoldsStep (is_going w n events) task w (share w n events) kept
      → HoldsStep (is_going w n (e ∷ events)) task w (share w n (e ∷ events))
      (if is_some (outcome_in w n (e ∷ events)) then None else kept)
  step_after made_is holds = subst (λ (b : Bool). HoldsStep b task w (share w n (e ∷ events))
      (if is_some (outcome_in w n (e ∷ events)) then None else kept)) (sym (goes_on w n events e made_is))
      (step_settled (is_going w n events) (is_some (outcome_in w n (e ∷ events))) task w (share w n (e ∷ events)) kept
      (step_grown (is_going w n events) holds))
