-- What the cancels of a run are in the history of a task.
use Rattle.std.proofs.Common.{◌≡◌, ◌∙◌, ◌<◌, ◌≤◌, ◌==◌, ◌||◌, ℕ, zero, suc, Bool, true, false, List, [], ◌∷◌, Option, Some, None}
use Rattle.std.proofs.Common.{◌⊎◌, inl, inr, refl, sym, subst, ap, arith, is_some, length, slice_get, if◌then◌else◌}
use Rattle.std.proofs.lemmas.Bool.{eqb-true}
use Rattle.std.specs.Option.{option_or}
use Rattle.jobs.specs.Endings.{SeenCarried}
use Rattle.s3_model.specs.declared.outcomes.Cause.{Cause}
use Rattle.s3_model.specs.declared.outcomes.Reason.{Reason}
use Rattle.task_acts.specs.declared.acts.Act.{Act}
use Rattle.task_acts.specs.declared.acts.Act.TheVariants as act
use Rattle.task_acts.specs.declared.acts.Stage.{Stage}
use Rattle.task_acts.specs.declared.acts.Stage.TheVariants as at
use Rattle.task_acts.specs.declared.work.Work.{Work}
use Rattle.task_acts.specs.Failures.{first_failure, first_reason, is_stopped}
use Rattle.task_acts.specs.Histories.{Came, Cancelled, Gave, History, Returned, sent}
use Rattle.task_acts.specs.Stages.{is_out, stage}
use Rattle.alike_histories.proofs.Alike.{stays_alike}
use Rattle.alike_histories.specs.Alike.{AreAlike, told, told_cancel}
use Rattle.kept_jobs.specs.Slots.{SeenKept, job_at}
use Rattle.task_core.specs.Machine.{SeenTask, Stands}
use Rattle.manager_moves.proofs.CountLemmas.{no, not_both}
use Rattle.manager_moves.proofs.HoldLemmas.{skip}
use Rattle.manager_moves.proofs.PartLaws.{nothing, same_value}
use Rattle.manager_moves.proofs.ShareLaws.{IsReady, act_of, is_called, is_next}
use Rattle.manager_moves.specs.Laws.{IsOfTask, IsRun}
use Rattle.manager_moves.specs.Runs.{Back, Called, Events, Lined, Made, Sent, Shared, Stopped, is_task, lacks_memory}
use Rattle.manager_moves.specs.Runs.{made_count, share, with_taken}
use Rattle.move_laws.proofs.Open.{in_take, remembers}
use Rattle.move_laws.specs.Follows.{HasItsPart, IsTaskIn, cancel_of}
use Rattle.move_laws.specs.Making.{first_cancel}

pub stands_there : {X : Type 0} (xs : List X) (n : ℕ) → n < length xs → (x : X) × (slice_get xs n ≡ Some x)
stands_there [] n l = absurd (omega arith)
stands_there (x ∷ xs) zero l = (x, refl)
stands_there (x ∷ xs) (suc n) l = stands_there xs n (omega arith)

-- ---- the cancels alone

-- the newest first
abbrev pub cancels : Events → History
cancels [] = []
cancels (Stopped reason ∷ before) = Cancelled reason ∷ cancels before
cancels (event ∷ before) = cancels before

cancels_reason : (events : Events) → first_reason (cancels events) ≡ cancel_of events
cancels_reason [] = refl
cancels_reason (Stopped reason ∷ before) =
    ap (λ (x : Option Reason). option_or x (Some reason)) (cancels_reason before)
cancels_reason (Made fits ∷ before) = cancels_reason before
cancels_reason (Lined ∷ before) = cancels_reason before
cancels_reason (Sent task o k lane ∷ before) = cancels_reason before
cancels_reason (Back lane c ∷ before) = cancels_reason before
cancels_reason (Called task called result ∷ before) = cancels_reason before

one_more : (reason : Reason) (c : History) (x : Option Reason) → first_reason c ≡ x → told c ≡ first_cancel x
    → told_cancel (is_some (first_reason c)) reason (told c) ≡ first_cancel (option_or x (Some reason))
one_more reason c None e same =
    ap (λ (x : Option Reason). told_cancel (is_some x) reason (told c)) e
    ∙ ap (λ (x : History). Cancelled reason ∷ x) same
one_more reason c (Some q) e same = ap (λ (x : Option Reason). told_cancel (is_some x) reason (told c)) e ∙ same

told_cancels : (events : Events) → told (cancels events) ≡ first_cancel (cancel_of events)
told_cancels [] = refl
told_cancels (Stopped reason ∷ before) =
    one_more reason (cancels before) (cancel_of before) (cancels_reason before) (told_cancels before)
told_cancels (Made fits ∷ before) = told_cancels before
told_cancels (Lined ∷ before) = told_cancels before
told_cancels (Sent task o k lane ∷ before) = told_cancels before
told_cancels (Back lane c ∷ before) = told_cancels before
told_cancels (Called task called result ∷ before) = told_cancels before

told_first : (x : Option Reason) → told (first_cancel x) ≡ first_cancel x
told_first None = refl
told_first (Some q) = refl

not_nothing : {P : Type 0} (x : Option Reason) (reason : Reason) → option_or x (Some reason) ≡ None → P
not_nothing None reason e = absurd (nothing (sym e))
not_nothing (Some q) reason e = absurd (nothing (sym e))

no_cancels : (events : Events) → cancel_of events ≡ None → cancels events ≡ []
no_cancels [] e = refl
no_cancels (Stopped reason ∷ before) e = not_nothing (cancel_of before) reason e
no_cancels (Made fits ∷ before) e = no_cancels before e
no_cancels (Lined ∷ before) e = no_cancels before e
no_cancels (Sent task o k lane ∷ before) e = no_cancels before e
no_cancels (Back lane c ∷ before) e = no_cancels before e
no_cancels (Called task called result ∷ before) e = no_cancels before e

-- a task that heard the first cancel alone has heard what all of them tell
pub first_is_alike : (w : Work) (events : Events) → AreAlike w (first_cancel (cancel_of events)) (cancels events)
first_is_alike w events = record {
  told_are = told_first (cancel_of events) ∙ sym (told_cancels events);
  same = λ e. by (cancel_of events) refl e;
}
  where
    stops : (a : Option Cause) (b : Option Reason) (q : Reason) → b ≡ Some q → (is_some a || is_some b) ≡ true
    stops (Some why) b q e = refl
    stops None b q e = ap (λ (x : Option Reason). is_some x) e

    by : (x : Option Reason) → cancel_of events ≡ x → is_stopped w (cancels events) ≡ false
        → first_cancel (cancel_of events) ≡ cancels events
    by None e f = ap first_cancel e ∙ sym (no_cancels events e)
    by (Some q) e f =
        no (sym f ∙ stops (first_failure w (cancels events)) (first_reason (cancels events)) q
        (cancels_reason events ∙ e))

-- nothing was given by them
pub cancels_wait : (w : Work) (events : Events) (a : Act) → stage w (cancels events) a ≡ at.Waiting
cancels_wait w [] a = refl
cancels_wait w (Stopped reason ∷ before) a = cancels_wait w before a
cancels_wait w (Made fits ∷ before) a = cancels_wait w before a
cancels_wait w (Lined ∷ before) a = cancels_wait w before a
cancels_wait w (Sent task o k lane ∷ before) a = cancels_wait w before a
cancels_wait w (Back lane c ∷ before) a = cancels_wait w before a
cancels_wait w (Called task called result ∷ before) a = cancels_wait w before a

-- ---- a task that was not made, or for which memory ran out

module _ (s : Shared) (n : ℕ) (w : Work) (there : slice_get s.works n ≡ Some w) where
  abbrev pub IsAbsent : Events → Type 0
  IsAbsent events = (made_count events ≤ n) ⊎ (lacks_memory n events ≡ true)

  not_its : (before : Events) → IsAbsent before → (t : ℕ) (a : Act) → IsReady s before t a → (t == n) ≡ false
  not_its before absent t a is = by (t == n) refl absent
    where
      by : (b : Bool) → (t == n) ≡ b → IsAbsent before → b ≡ false
      by false e absent = refl
      by true e (inl few) =
          let same = eqb-true t n e in
          let below = in_take (made_count before) s.works t is.0 is.1 in absurd (omega arith)
      by true e (inr lacks) =
          not_both (lacks_memory n before) lacks
          (subst (λ (k : ℕ). lacks_memory k before ≡ false) (eqb-true t n e)
          (remembers (lacks_memory t before) _ a is.2))

  waiting_is_not_out : {P : Type 0} (how : Stage) → how ≡ at.Waiting → is_out how ≡ true → P
  waiting_is_not_out how e out = no (sym (ap is_out e) ∙ out)

  -- no job of it comes back
  not_back : (before : Events) (c : SeenCarried) → share w n before ≡ cancels before → (o : Option ℕ)
      → IsOfTask s before o c → is_task n o ≡ false
  not_back before c same None of_task = refl
  not_back before c same (Some m) of_task = by (m == n) refl of_task
    where
      by : (b : Bool) → (m == n) ≡ b → IsOfTask s before (Some m) c → b ≡ false
      by false e of_task = refl
      by true e of_task =
          let here : slice_get s.works n ≡ Some of_task.0 =
          subst (λ (x : ℕ). slice_get s.works x ≡ Some of_task.0) (eqb-true m n e) of_task.1 in
          let out : is_out (stage of_task.0 (share of_task.0 n before) (sent c)) ≡ true =
          subst (λ (x : ℕ). is_out (stage of_task.0 (share of_task.0 x before) (sent c)) ≡ true) (eqb-true m n e)
          of_task.2.0 in
          let of_w : of_task.0 ≡ w = same_value (sym here ∙ there) in
          waiting_is_not_out (stage w (share w n before) (sent c))
          (ap (λ (h : History). stage w h (sent c)) same ∙ cancels_wait w before (sent c))
          (subst (λ (v : Work). is_out (stage v (share v n before) (sent c)) ≡ true) of_w out)

  -- nothing but the cancels of the run happened to it
  pub share_cancels : (events : Events) → IsRun s events → IsAbsent events → share w n events ≡ cancels events
  share_cancels [] run absent = refl
  share_cancels (Lined ∷ before) run absent = share_cancels before run.1 absent
  share_cancels (Stopped reason ∷ before) run absent =
      ap (λ (h : History). Cancelled reason ∷ h) (share_cancels before run.1 absent)
  share_cancels (Made fits ∷ before) run absent = share_cancels before run.1 (earlier fits absent)
    where
      lost : (b : Bool) → (made_count before == n) ≡ b → (if b then true else lacks_memory n before) ≡ true
          → IsAbsent before
      lost true e lacks = let same = eqb-true (made_count before) n e in inl (omega arith)
      lost false e lacks = inr lacks

      earlier : (fits : Bool) → IsAbsent (Made fits ∷ before) → IsAbsent before
      earlier fits (inl few) = inl (omega arith)
      earlier true (inr lacks) = inr lacks
      earlier false (inr lacks) = lost (made_count before == n) refl lacks
  share_cancels (Sent task o k lane ∷ before) run absent =
      skip (task == n) (Gave (act.Send o k) ∷ with_taken w o k (share w n before)) (share w n before)
      (not_its before absent task (act.Send o k) (is_next s before task (act.Send o k) (ap act_of run.0)))
      ∙ share_cancels before run.1 absent
  share_cancels (Called task called result ∷ before) run absent =
      skip (task == n) (Returned called result ∷ Gave called ∷ share w n before) (share w n before)
      (not_its before absent task called (is_called s before task called run.0.0))
      ∙ share_cancels before run.1 absent
  share_cancels (Back lane c ∷ before) run absent =
      let rest = share_cancels before run.1 absent in
      skip (is_task n c.job.id.task) (Came c ∷ share w n before) (share w n before)
      (not_back before c rest c.job.id.task run.0.1) ∙ rest

-- ---- a task that hears of a cancel

pub known_cancelled : (room : ℕ) (w : Work) (h : History) (t new : SeenTask) (is : IsTaskIn room w h t)
    (reason : Reason) → Stands w (Cancelled reason ∷ is.heard) new → new.kept ≡ t.kept
    → IsTaskIn room w (Cancelled reason ∷ h) new
known_cancelled room w h t new is reason stands same = record {
  heard = Cancelled reason ∷ is.heard;
  stands = stands;
  alike = stays_alike w is.heard h (Cancelled reason) is.alike;
  parts = λ o n. subst (λ (kept : SeenKept). HasItsPart room o (job_at kept o n)) (sym same) (is.parts o n);
}
