-- The law of the queue: how many tasks are made and unfinished.
use Rattle.std.proofs.Common.{◌≡◌, ◌==◌, ◌+◌, ◌≤◌, ℕ, zero, suc, Bool, true, false, List, [], ◌∷◌, Option, Some, None, refl, subst, arith}
use Rattle.std.proofs.lemmas.Bool.{lt-ltb, ltb-true}
use Rattle.std.specs.Option.{option_or}
use Rattle.std.specs.Prelude.{is_some, nat_lt, take, if◌then◌else◌}
use Rattle.s3_model.specs.declared.outcomes.Cause.TheVariants as cause
use Rattle.s3_model.specs.declared.outcomes.Outcome.{Outcome}
use Rattle.s3_model.specs.declared.outcomes.Outcome.TheVariants as outcome
use Rattle.task_acts.specs.declared.acts.Act.TheVariants as act
use Rattle.task_acts.specs.declared.work.Work.{Work}
use Rattle.task_acts.specs.Ends.{outcome_of, settled}
use Rattle.task_acts.specs.Histories.{History, Happening, Gave, Came, Returned, Cancelled, Taken}
use Rattle.task_acts.specs.Kept.{kept_job}
use Rattle.manager_moves.proofs.CountLemmas.{no}
use Rattle.manager_moves.proofs.MoveLaws.{made_within}
use Rattle.manager_moves.specs.Laws.{QueueIsKept}
use Rattle.manager_moves.specs.Moves.{made, unfinished_from}
use Rattle.manager_moves.specs.Runs.{Event, Events, Shared, Made, Sent, Back, Called, Lined, Stopped, is_task, lacks_memory, made_count, outcome_in, share, with_taken}

-- ---- an outcome stays

goes_on : (w : Work) (h : History) (e : Happening) → is_some (outcome_of w h) ≡ true → is_some (outcome_of w (e ∷ h)) ≡ true
goes_on w h e ended = by (outcome_of w h) (settled w (e ∷ h)) ended
  where
    by : (a b : Option Outcome) → is_some a ≡ true → is_some (option_or a b) ≡ true
    by None b x = no x
    by (Some o) b x = refl

module _ (w : Work) where
  Ended : History → Type 0
  Ended h = is_some (outcome_of w h) ≡ true

  after_taking : (b : Bool) (e : Happening) (h : History) → is_some (outcome_of w h) ≡ true
      → is_some (outcome_of w (if b then e ∷ h else h)) ≡ true
  after_taking true e h x = goes_on w h e x
  after_taking false e h x = x

  either : (b : Bool) (g h : History) → (is_some (outcome_of w h) ≡ true → is_some (outcome_of w g) ≡ true)
      → is_some (outcome_of w h) ≡ true → is_some (outcome_of w (if b then g else h)) ≡ true
  either true g h f x = f x
  either false g h f x = x

  share_goes_on : (n : ℕ) (before : Events) (e : Event) → is_some (outcome_of w (share w n before)) ≡ true
      → is_some (outcome_of w (share w n (e ∷ before))) ≡ true
  share_goes_on n before (Made fits) x = x
  share_goes_on n before (Sent t o k lane) x = either (t == n) _ (share w n before)
      (λ y. goes_on w (with_taken w o k (share w n before)) (Gave (act.Send o k))
      (after_taking (is_some (kept_job w (share w n before) (act.Send o k))) (Taken o k) (share w n before) y)) x
  share_goes_on n before (Back lane c) x = either (is_task n c.job.id.task) _ (share w n before)
      (λ y. goes_on w (share w n before) (Came c) y) x
  share_goes_on n before (Called t a r) x = either (t == n) _ (share w n before)
      (λ y. goes_on w (Gave a ∷ share w n before) (Returned a r) (goes_on w (share w n before) (Gave a) y)) x
  share_goes_on n before Lined x = x
  share_goes_on n before (Stopped r) x = goes_on w (share w n before) (Cancelled r) x

  -- a task for which memory ran out stays so
  lacks_on : (n : ℕ) (before : Events) (e : Event) → lacks_memory n before ≡ true → lacks_memory n (e ∷ before) ≡ true
  lacks_on n before (Made true) x = x
  lacks_on n before (Made false) x = by (made_count before == n) x
    where
      by : (b : Bool) → lacks_memory n before ≡ true → (if b then true else lacks_memory n before) ≡ true
      by true y = refl
      by false y = y
  lacks_on n before (Sent t o k lane) x = x
  lacks_on n before (Back lane c) x = x
  lacks_on n before (Called t a r) x = x
  lacks_on n before Lined x = x
  lacks_on n before (Stopped r) x = x

  ended_by : (a b : Bool) (x y : Option Outcome) → (a ≡ true → b ≡ true) → (is_some x ≡ true → is_some y ≡ true)
      → is_some (if a then Some (outcome.Failed cause.Memory) else x) ≡ true
      → is_some (if b then Some (outcome.Failed cause.Memory) else y) ≡ true
  ended_by true true x y f g h = refl
  ended_by true false x y f g h = no (f refl)
  ended_by false true x y f g h = refl
  ended_by false false x y f g h = g h

  where_made : (a b : Bool) (x y : Option Outcome) → (a ≡ true → b ≡ true) → (is_some x ≡ true → is_some y ≡ true)
      → is_some (if a then x else None) ≡ true → is_some (if b then y else None) ≡ true
  where_made true true x y f g h = g h
  where_made true false x y f g h = no (f refl)
  where_made false b x y f g h = no h

  made_on : (n : ℕ) (before : Events) (e : Event) → nat_lt n (made_count before) ≡ true
      → nat_lt n (made_count (e ∷ before)) ≡ true
  made_on n before (Made fits) x = let l = ltb-true n (made_count before) x in lt-ltb n (made_count before + 1) (omega arith)
  made_on n before (Sent t o k lane) x = x
  made_on n before (Back lane c) x = x
  made_on n before (Called t a r) x = x
  made_on n before Lined x = x
  made_on n before (Stopped r) x = x

  pub ended_on : (n : ℕ) (before : Events) (e : Event) → is_some (outcome_in w n before) ≡ true
      → is_some (outcome_in w n (e ∷ before)) ≡ true
  ended_on n before e = where_made (nat_lt n (made_count before)) (nat_lt n (made_count (e ∷ before))) _ _
      (made_on n before e) (ended_by (lacks_memory n before) (lacks_memory n (e ∷ before))
      (outcome_of w (share w n before)) (outcome_of w (share w n (e ∷ before))) (lacks_on n before e)
      (share_goes_on n before e))

-- ---- how many are unfinished

one_or_none : (a b : Bool) (m n : ℕ) → (a ≡ true → b ≡ true) → m ≤ n
    → (if b then 0 else 1) + m ≤ (if a then 0 else 1) + n
one_or_none true true m n f l = omega arith
one_or_none true false m n f l = no (f refl)
one_or_none false true m n f l = omega arith
one_or_none false false m n f l = omega arith

module _ (s : Shared) (before : Events) (e : Event) where
  fewer : (n : ℕ) (works : List Work) → unfinished_from s (e ∷ before) n works ≤ unfinished_from s before n works
  fewer n [] = omega arith
  fewer n (w ∷ works) = one_or_none (is_some (outcome_in w n before)) (is_some (outcome_in w n (e ∷ before)))
      _ _ (ended_on w n before e) (fewer (n + 1) works)

-- one more task is at most one more unfinished
one_longer : (s : Shared) (events : Events) (n k : ℕ) (works : List Work)
    → unfinished_from s events n (take (suc k) works) ≤ unfinished_from s events n (take k works) + 1
one_longer s events n zero [] = omega arith
one_longer s events n zero (w ∷ works) = at_most (is_some (outcome_in w n events))
  where
    at_most : (b : Bool) → (if b then 0 else 1) + 0 ≤ 0 + 1
    at_most true = omega arith
    at_most false = omega arith
one_longer s events n (suc k) [] = omega arith
one_longer s events n (suc k) (w ∷ works) =
    let rest = one_longer s events (n + 1) k works in omega arith

pub queue_is_kept : QueueIsKept
queue_is_kept s [] h = omega arith
queue_is_kept s (Made fits ∷ before) h =
    let few = made_within s before h.0 in
    let next : suc (made_count before) ≡ made_count before + 1 = omega arith in
    let longer = subst (λ (m : ℕ). unfinished_from s (Made fits ∷ before) 0 (take m s.works)
    ≤ unfinished_from s (Made fits ∷ before) 0 (take (made_count before) s.works) + 1) next
    (one_longer s (Made fits ∷ before) 0 (made_count before) s.works) in
    let same = fewer s before (Made fits) 0 (take (made_count before) s.works) in
    omega arith
queue_is_kept s (Sent t o k lane ∷ before) h =
    let so_far = queue_is_kept s before h.1 in let less = fewer s before (Sent t o k lane) 0 (made s before) in omega arith
queue_is_kept s (Back lane c ∷ before) h =
    let so_far = queue_is_kept s before h.1 in let less = fewer s before (Back lane c) 0 (made s before) in omega arith
queue_is_kept s (Called t a r ∷ before) h =
    let so_far = queue_is_kept s before h.1 in let less = fewer s before (Called t a r) 0 (made s before) in omega arith
queue_is_kept s (Lined ∷ before) h =
    let so_far = queue_is_kept s before h.1 in let less = fewer s before Lined 0 (made s before) in omega arith
queue_is_kept s (Stopped r ∷ before) h =
    let so_far = queue_is_kept s before h.1 in let less = fewer s before (Stopped r) 0 (made s before) in omega arith
