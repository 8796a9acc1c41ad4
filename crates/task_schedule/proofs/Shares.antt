-- What the later part of a run adds to the share of a task.
use Rattle.std.proofs.Common.{append_assoc, ◌≡◌, ◌∙◌, ◌==◌, ◌⊎◌, ◌++◌, ℕ, Bool, true, false, List, [], ◌∷◌, Option, Some, None, refl, sym, subst, ap, inl, inr, arith}
use Rattle.std.proofs.lemmas.Bool.{eqb-true}
use Rattle.std.specs.Prelude.{if◌then◌else◌, is_some}
use Rattle.jobs.specs.Endings.{SeenCarried}
use Rattle.s3_model.specs.declared.outcomes.Reason.{Reason}
use Rattle.s3_model.specs.declared.requests.Op.{Op}
use Rattle.task_acts.specs.declared.acts.Act.{Act}
use Rattle.task_acts.specs.declared.acts.Act.TheVariants as act
use Rattle.task_acts.specs.declared.acts.FileCame.{FileCame}
use Rattle.task_acts.specs.declared.work.Work.{Work}
use Rattle.task_acts.specs.Histories.{Came, Cancelled, Gave, Happening, History, Returned, Taken}
use Rattle.task_acts.specs.Kept.{kept_job}
use Rattle.shared_lemmas.proofs.Clashes.{none_is_some, some_is}
use Rattle.shared_lemmas.proofs.Lists.{cons_is, head_is, no_middle, tail_is}
use Rattle.shared_lemmas.proofs.Members.{Has, has-append_cases, has-append_left, has-append_right, has_middle}
use Rattle.task_progress.proofs.Endings.{chosen, no}
use Rattle.manager_moves.specs.Laws.{IsRun}
use Rattle.manager_moves.specs.Moves.{call_of, next_move}
use Rattle.manager_moves.specs.Runs.{Back, Called, Event, Events, Lined, Made, Sent, Shared, Stopped, is_task, share, with_taken}

-- a member of a list in two parts stands in one of them
pub two_parts : {X : Type 0} (xs ys us : List X) (x : X) (vs : List X) → xs ++ ys ≡ us ++ x ∷ vs → ((r : List X) × (us ≡ xs ++ r) × (ys ≡ r ++ x ∷ vs)) ⊎ ((r : List X) × (xs ≡ us ++ x ∷ r) × (vs ≡ r ++ ys))
two_parts [] ys us x vs e = inl (us, refl, e)
two_parts (z ∷ xs) ys [] x vs e = inr (xs, ap (λ y. y ∷ xs) (head_is z x (xs ++ ys) vs e), sym (tail_is z x (xs ++ ys) vs e))
two_parts (z ∷ xs) ys (u ∷ us) x vs e =
    let first = head_is z u (xs ++ ys) (us ++ x ∷ vs) e in
    elim (two_parts xs ys us x vs (tail_is z u (xs ++ ys) (us ++ x ∷ vs) e)) [
      | inl more ↦ inl (more.0, cons_is u z us (xs ++ more.0) (sym first) more.1, more.2)
      | inr inside ↦ inr (inside.0, cons_is z u xs (us ++ x ∷ inside.0) first inside.1, inside.2)
    ]

same_number : (n : ℕ) → (n == n) ≡ true
same_number n = grind arith

module _ (w : Work) (n : ℕ) where
  -- a job that is given, and before it what was kept
  abbrev pub taken : History → Op → ℕ → History
  taken h o k = if is_some (kept_job w h (act.Send o k)) then Taken o k ∷ [] else []

  -- what one event adds
  abbrev pub added : Event → Events → History
  added (Sent t o k lane) before = if t == n then Gave (act.Send o k) ∷ taken (share w n before) o k else []
  added (Back lane c) before = if is_task n c.job.id.task then Came c ∷ [] else []
  added (Called t a r) before = if t == n then Returned a r ∷ Gave a ∷ [] else []
  added (Stopped reason) before = Cancelled reason ∷ []
  added (Made fits) before = []
  added Lined before = []

  pub taken_is : (h : History) (o : Op) (k : ℕ) → with_taken w o k h ≡ taken h o k ++ h
  taken_is h o k = by (is_some (kept_job w h (act.Send o k)))
    where
      by : (b : Bool) → (if b then Taken o k ∷ h else h) ≡ (if b then Taken o k ∷ [] else []) ++ h
      by true = refl
      by false = refl

  pub added_is : (e : Event) (before : Events) → share w n (e ∷ before) ≡ added e before ++ share w n before
  added_is (Sent t o k lane) before = by (t == n)
    where
      by : (b : Bool) → (if b then Gave (act.Send o k) ∷ with_taken w o k (share w n before) else share w n before)
          ≡ (if b then Gave (act.Send o k) ∷ taken (share w n before) o k else []) ++ share w n before
      by true = ap (λ (h : History). Gave (act.Send o k) ∷ h) (taken_is (share w n before) o k)
      by false = refl
  added_is (Back lane c) before = by (is_task n c.job.id.task)
    where
      by : (b : Bool) → (if b then Came c ∷ share w n before else share w n before) ≡ (if b then Came c ∷ [] else []) ++ share w n before
      by true = refl
      by false = refl
  added_is (Called t a r) before = by (t == n)
    where
      by : (b : Bool) → (if b then Returned a r ∷ Gave a ∷ share w n before else share w n before) ≡ (if b then Returned a r ∷ Gave a ∷ [] else []) ++ share w n before
      by true = refl
      by false = refl
  added_is (Stopped reason) before = refl
  added_is (Made fits) before = refl
  added_is Lined before = refl

  -- ---- what is among it

  clash_came : (x : Happening) (c : SeenCarried) → Has (x ∷ []) (Came c) → x ≡ Came c
  clash_came x c (inl e) = e
  clash_came x c (inr none) = absurd none

  not_came : (o : Op) (k : ℕ) (c : SeenCarried) → Taken o k ≡ Came c → ⊥
  not_came o k c e = cc

  gave_came : (a : Act) (c : SeenCarried) → Gave a ≡ Came c → ⊥
  gave_came a c e = cc

  returned_came : (a : Act) (r : FileCame) (c : SeenCarried) → Returned a r ≡ Came c → ⊥
  returned_came a r c e = cc

  cancelled_came : (r : Reason) (c : SeenCarried) → Cancelled r ≡ Came c → ⊥
  cancelled_came r c e = cc

  came_same : (c d : SeenCarried) → Came c ≡ Came d → c ≡ d
  came_same c d e = cc

  taken_no_came : (b : Bool) (o : Op) (k : ℕ) (c : SeenCarried) → Has (if b then Taken o k ∷ [] else []) (Came c) → ⊥
  taken_no_came true o k c (inl e) = not_came o k c e
  taken_no_came true o k c (inr none) = none
  taken_no_came false o k c none = none

  task_is : (task : Option ℕ) → is_task n task ≡ true → task ≡ Some n
  task_is None e = no e
  task_is (Some m) e = ap Some (eqb-true m n e)

  pub is_its : (task : Option ℕ) → task ≡ Some n → is_task n task ≡ true
  is_its None e = absurd (none_is_some n e)
  is_its (Some m) e = subst (λ (k : ℕ). (k == n) ≡ true) (sym (some_is m n e)) (same_number n)

  pub came_back : (e : Event) (before : Events) (c : SeenCarried) → Has (added e before) (Came c) → (lane : ℕ) × (e ≡ Back lane c) × (c.job.id.task ≡ Some n)
  came_back (Sent t o k lane) before c known = by (t == n) known
    where
      by : (b : Bool) → Has (if b then Gave (act.Send o k) ∷ taken (share w n before) o k else []) (Came c) → (l : ℕ) × (Sent t o k lane ≡ Back l c) × (c.job.id.task ≡ Some n)
      by true (inl e) = absurd (gave_came (act.Send o k) c e)
      by true (inr more) = absurd (taken_no_came (is_some (kept_job w (share w n before) (act.Send o k))) o k c more)
      by false none = absurd none
  came_back (Back lane d) before c known = by (is_task n d.job.id.task) refl known
    where
      by : (b : Bool) → is_task n d.job.id.task ≡ b → Has (if b then Came d ∷ [] else []) (Came c) → (l : ℕ) × (Back lane d ≡ Back l c) × (c.job.id.task ≡ Some n)
      by true is (inl e) = (lane, ap (Back lane) (came_same d c e), subst (λ (x : SeenCarried). x.job.id.task ≡ Some n) (came_same d c e) (task_is d.job.id.task is))
      by true is (inr none) = absurd none
      by false is none = absurd none
  came_back (Called t a r) before c known = by (t == n) known
    where
      by : (b : Bool) → Has (if b then Returned a r ∷ Gave a ∷ [] else []) (Came c) → (l : ℕ) × (Called t a r ≡ Back l c) × (c.job.id.task ≡ Some n)
      by true (inl e) = absurd (returned_came a r c e)
      by true (inr (inl e)) = absurd (gave_came a c e)
      by true (inr (inr none)) = absurd none
      by false none = absurd none
  came_back (Stopped reason) before c (inl e) = absurd (cancelled_came reason c e)
  came_back (Stopped reason) before c (inr none) = absurd none
  came_back (Made fits) before c none = absurd none
  came_back Lined before c none = absurd none

  -- ---- what an event brings

  pub brought : (lane : ℕ) (c : SeenCarried) (before : Events) → c.job.id.task ≡ Some n → Has (added (Back lane c) before) (Came c)
  brought lane c before is = subst (λ (h : History). Has h (Came c)) (sym (chosen (is_task n c.job.id.task) (Came c ∷ []) [] (is_its c.job.id.task is))) (inl refl)

  pub sent_is : (o : Op) (k lane : ℕ) (before : Events) → share w n (Sent n o k lane ∷ before) ≡ Gave (act.Send o k) ∷ with_taken w o k (share w n before)
  sent_is o k lane before = chosen (n == n) (Gave (act.Send o k) ∷ with_taken w o k (share w n before)) (share w n before) (same_number n)

  pub back_is : (lane : ℕ) (c : SeenCarried) (before : Events) → c.job.id.task ≡ Some n → share w n (Back lane c ∷ before) ≡ Came c ∷ share w n before
  back_is lane c before is = chosen (is_task n c.job.id.task) (Came c ∷ share w n before) (share w n before) (is_its c.job.id.task is)

  -- ---- a part of a run

  abbrev pub since : Events → Events → History
  since [] before = []
  since (e ∷ later) before = added e (later ++ before) ++ since later before

  pub since_is : (later before : Events) → share w n (later ++ before) ≡ since later before ++ share w n before
  since_is [] before = refl
  since_is (e ∷ later) before =
      added_is e (later ++ before) ∙ ap (λ (h : History). added e (later ++ before) ++ h) (since_is later before)
      ∙ sym (append_assoc (added e (later ++ before)) (since later before) (share w n before))

  pub since_parts : (xs ys before : Events) → since (xs ++ ys) before ≡ since xs (ys ++ before) ++ since ys before
  since_parts [] ys before = refl
  since_parts (e ∷ xs) ys before =
      ap (λ (z : Events). added e z ++ since (xs ++ ys) before) (append_assoc xs ys before)
      ∙ ap (λ (h : History). added e (xs ++ (ys ++ before)) ++ h) (since_parts xs ys before)
      ∙ sym (append_assoc (added e (xs ++ (ys ++ before))) (since xs (ys ++ before)) (since ys before))

  pub since_back : (later before : Events) (c : SeenCarried) → Has (since later before) (Came c) → (lane : ℕ) × Has later (Back lane c) × (c.job.id.task ≡ Some n)
  since_back [] before c known = absurd known
  since_back (e ∷ later) before c known = by (has-append_cases (added e (later ++ before)) (since later before) (Came c) known) (λ f. since_back later before c f)
    where
      by : Has (added e (later ++ before)) (Came c) ⊎ Has (since later before) (Came c)
          → (Has (since later before) (Came c) → (lane : ℕ) × Has later (Back lane c) × (c.job.id.task ≡ Some n))
          → (lane : ℕ) × Has (e ∷ later) (Back lane c) × (c.job.id.task ≡ Some n)
      by (inl here) rest = let found = came_back e (later ++ before) c here in (found.0, inl found.1, found.2)
      by (inr more) rest = let found = rest more in (found.0, inr found.1, found.2)

  pub since_came : (later before : Events) (lane : ℕ) (c : SeenCarried) → Has later (Back lane c) → c.job.id.task ≡ Some n → Has (since later before) (Came c)
  since_came [] before lane c known is = absurd known
  since_came (e ∷ later) before lane c (inl same) is =
      has-append_left (added e (later ++ before)) (since later before) (Came c) (subst (λ (x : Event). Has (added x (later ++ before)) (Came c)) (sym same) (brought lane c (later ++ before) is))
  since_came (e ∷ later) before lane c (inr known) is = has-append_right (added e (later ++ before)) (since later before) (Came c) (since_came later before lane c known is)

  -- ---- jobs that were given, and cancels

  taken_gave : (o : Op) (k : ℕ) (a : Act) → Taken o k ≡ Gave a → ⊥
  taken_gave o k a e = cc

  came_gave : (c : SeenCarried) (a : Act) → Came c ≡ Gave a → ⊥
  came_gave c a e = cc

  returned_gave : (x : Act) (r : FileCame) (a : Act) → Returned x r ≡ Gave a → ⊥
  returned_gave x r a e = cc

  cancelled_gave : (r : Reason) (a : Act) → Cancelled r ≡ Gave a → ⊥
  cancelled_gave r a e = cc

  gave_same : (a b : Act) → Gave a ≡ Gave b → a ≡ b
  gave_same a b e = cc

  send_same : (o p : Op) (k m t : ℕ) (lane : ℕ) → act.Send o k ≡ act.Send p m → Sent t o k lane ≡ Sent t p m lane
  send_same o p k m t lane e = cc

  taken_no_gave : (b : Bool) (o : Op) (k : ℕ) (a : Act) → Has (if b then Taken o k ∷ [] else []) (Gave a) → ⊥
  taken_no_gave true o k a (inl e) = taken_gave o k a e
  taken_no_gave true o k a (inr none) = none
  taken_no_gave false o k a none = none

  no_call : (s : Shared) (before : Events) (t : ℕ) (a : Act) (o : Op) (k : ℕ) → call_of s before t a ≡ Some (next_move s before) → a ≡ act.Send o k → ⊥
  no_call s before t a o k called is = none_is_some (next_move s before) (subst (λ (x : Act). call_of s before t x ≡ Some (next_move s before)) is called)

  gave_sent : (s : Shared) (e : Event) (before : Events) (o : Op) (k : ℕ) → IsRun s (e ∷ before) → Has (added e before) (Gave (act.Send o k)) → (lane : ℕ) × (e ≡ Sent n o k lane)
  gave_sent s (Sent t p m lane) before o k run known = by (t == n) refl known
    where
      by : (b : Bool) → (t == n) ≡ b → Has (if b then Gave (act.Send p m) ∷ taken (share w n before) p m else []) (Gave (act.Send o k)) → (l : ℕ) × (Sent t p m lane ≡ Sent n o k l)
      by true is (inl e) = (lane, send_same p o m k t lane (gave_same (act.Send p m) (act.Send o k) e) ∙ ap (λ (x : ℕ). Sent x o k lane) (eqb-true t n is))
      by true is (inr more) = absurd (taken_no_gave (is_some (kept_job w (share w n before) (act.Send p m))) p m (act.Send o k) more)
      by false is none = absurd none
  gave_sent s (Back lane c) before o k run known = by (is_task n c.job.id.task) known
    where
      by : (b : Bool) → Has (if b then Came c ∷ [] else []) (Gave (act.Send o k)) → (l : ℕ) × (Back lane c ≡ Sent n o k l)
      by true (inl e) = absurd (came_gave c (act.Send o k) e)
      by true (inr none) = absurd none
      by false none = absurd none
  gave_sent s (Called t a r) before o k run known = by (t == n) known
    where
      by : (b : Bool) → Has (if b then Returned a r ∷ Gave a ∷ [] else []) (Gave (act.Send o k)) → (l : ℕ) × (Called t a r ≡ Sent n o k l)
      by true (inl e) = absurd (returned_gave a r (act.Send o k) e)
      by true (inr (inl e)) = absurd (no_call s before t a o k run.0.0 (gave_same a (act.Send o k) e))
      by true (inr (inr none)) = absurd none
      by false none = absurd none
  gave_sent s (Stopped reason) before o k run (inl e) = absurd (cancelled_gave reason (act.Send o k) e)
  gave_sent s (Stopped reason) before o k run (inr none) = absurd none
  gave_sent s (Made fits) before o k run none = absurd none
  gave_sent s Lined before o k run none = absurd none

  pub since_gave : (s : Shared) (later before : Events) (o : Op) (k : ℕ) → IsRun s (later ++ before) → Has (since later before) (Gave (act.Send o k)) → (lane : ℕ) × Has later (Sent n o k lane)
  since_gave s [] before o k run known = absurd known
  since_gave s (e ∷ later) before o k run known = by (has-append_cases (added e (later ++ before)) (since later before) (Gave (act.Send o k)) known) (λ f. since_gave s later before o k run.1 f)
    where
      by : Has (added e (later ++ before)) (Gave (act.Send o k)) ⊎ Has (since later before) (Gave (act.Send o k))
          → (Has (since later before) (Gave (act.Send o k)) → (lane : ℕ) × Has later (Sent n o k lane)) → (lane : ℕ) × Has (e ∷ later) (Sent n o k lane)
      by (inl here) rest = let found = gave_sent s e (later ++ before) o k run here in (found.0, inl found.1)
      by (inr more) rest = let found = rest more in (found.0, inr found.1)

-- the jobs of the task that came back
module _ (w : Work) (n : ℕ) where
  pub share_back : (before : Events) (c : SeenCarried) → Has (share w n before) (Came c) → (lane : ℕ) × Has before (Back lane c) × (c.job.id.task ≡ Some n)
  share_back [] c known = absurd known
  share_back (e ∷ before) c known =
      by (has-append_cases (added w n e before) (share w n before) (Came c) (subst (λ (h : History). Has h (Came c)) (added_is w n e before) known)) (λ f. share_back before c f)
    where
      by : Has (added w n e before) (Came c) ⊎ Has (share w n before) (Came c) → (Has (share w n before) (Came c) → (lane : ℕ) × Has before (Back lane c) × (c.job.id.task ≡ Some n))
          → (lane : ℕ) × Has (e ∷ before) (Back lane c) × (c.job.id.task ≡ Some n)
      by (inl here) rest = let found = came_back w n e before c here in (found.0, inl found.1, found.2)
      by (inr more) rest = let found = rest more in (found.0, inr found.1, found.2)

  pub share_came : (before : Events) (lane : ℕ) (c : SeenCarried) → Has before (Back lane c) → c.job.id.task ≡ Some n → Has (share w n before) (Came c)
  share_came [] lane c known is = absurd known
  share_came (e ∷ before) lane c (inl same) is = subst (λ (h : History). Has h (Came c)) (sym (added_is w n e before))
      (has-append_left (added w n e before) (share w n before) (Came c) (subst (λ (x : Event). Has (added w n x before) (Came c)) (sym same) (brought w n lane c before is)))
  share_came (e ∷ before) lane c (inr known) is = subst (λ (h : History). Has h (Came c)) (sym (added_is w n e before))
      (has-append_right (added w n e before) (share w n before) (Came c) (share_came before lane c known is))

  pub share_gave : (s : Shared) (before : Events) (o : Op) (k : ℕ) → IsRun s before → Has (share w n before) (Gave (act.Send o k)) → (lane : ℕ) × Has before (Sent n o k lane)
  share_gave s [] o k run known = absurd known
  share_gave s (e ∷ before) o k run known =
      by (has-append_cases (added w n e before) (share w n before) (Gave (act.Send o k)) (subst (λ (h : History). Has h (Gave (act.Send o k))) (added_is w n e before) known)) (λ f. share_gave s before o k run.1 f)
    where
      by : Has (added w n e before) (Gave (act.Send o k)) ⊎ Has (share w n before) (Gave (act.Send o k)) → (Has (share w n before) (Gave (act.Send o k)) → (lane : ℕ) × Has before (Sent n o k lane))
          → (lane : ℕ) × Has (e ∷ before) (Sent n o k lane)
      by (inl here) rest = let found = gave_sent w n s e before o k run here in (found.0, inl found.1)
      by (inr more) rest = let found = rest more in (found.0, inr found.1)

pub run_before : (s : Shared) (later before : Events) → IsRun s (later ++ before) → IsRun s before
run_before s [] before run = run
run_before s (e ∷ later) before run = run_before s later before run.1

-- ---- what the run shows of what happened to a task

module _ (w : Work) (n : ℕ) where
  sent_no_call : (o : Op) (k : ℕ) (a : Act) (r : FileCame) → Gave (act.Send o k) ≡ Returned a r → ⊥
  sent_no_call o k a r e = cc

  gave_no_call : (g a : Act) (r : FileCame) → Gave g ≡ Returned a r → ⊥
  gave_no_call g a r e = cc

  taken_no_call : (b : Bool) (o : Op) (k : ℕ) (a : Act) (r : FileCame) → Has (if b then Taken o k ∷ [] else []) (Returned a r) → ⊥
  taken_no_call true o k a r (inl e) = clash o k a r e
    where
      clash : (o : Op) (k : ℕ) (a : Act) (r : FileCame) → Taken o k ≡ Returned a r → ⊥
      clash o k a r e = cc
  taken_no_call true o k a r (inr none) = none
  taken_no_call false o k a r none = none

  came_no_call : (c : SeenCarried) (a : Act) (r : FileCame) → Came c ≡ Returned a r → ⊥
  came_no_call c a r e = cc

  cancelled_no_call : (reason : Reason) (a : Act) (r : FileCame) → Cancelled reason ≡ Returned a r → ⊥
  cancelled_no_call reason a r e = cc

  returned_same : (m t : ℕ) (a b : Act) (r f : FileCame) → m ≡ t → Returned a r ≡ Returned b f → Called m a r ≡ Called t b f
  returned_same m t a b r f e g = cc

  called_by : (e : Event) (before : Events) (a : Act) (r : FileCame) → Has (added w n e before) (Returned a r) → e ≡ Called n a r
  called_by (Sent t o k lane) before a r known = by (t == n) known
    where
      by : (b : Bool) → Has (if b then Gave (act.Send o k) ∷ taken w n (share w n before) o k else []) (Returned a r) → Sent t o k lane ≡ Called n a r
      by true (inl e) = absurd (sent_no_call o k a r e)
      by true (inr more) = absurd (taken_no_call (is_some (kept_job w (share w n before) (act.Send o k))) o k a r more)
      by false none = absurd none
  called_by (Back lane c) before a r known = by (is_task n c.job.id.task) known
    where
      by : (b : Bool) → Has (if b then Came c ∷ [] else []) (Returned a r) → Back lane c ≡ Called n a r
      by true (inl e) = absurd (came_no_call c a r e)
      by true (inr none) = absurd none
      by false none = absurd none
  called_by (Called t b f) before a r known = by (t == n) refl known
    where
      by : (x : Bool) → (t == n) ≡ x → Has (if x then Returned b f ∷ Gave b ∷ [] else []) (Returned a r) → Called t b f ≡ Called n a r
      by true is (inl e) = returned_same t n b a f r (eqb-true t n is) e
      by true is (inr (inl e)) = absurd (gave_no_call b a r e)
      by true is (inr (inr none)) = absurd none
      by false is none = absurd none
  called_by (Stopped reason) before a r (inl e) = absurd (cancelled_no_call reason a r e)
  called_by (Stopped reason) before a r (inr none) = absurd none
  called_by (Made fits) before a r none = absurd none
  called_by Lined before a r none = absurd none

  -- a call on files
  pub share_called : (events : Events) (a : Act) (r : FileCame) → Has (share w n events) (Returned a r) → Has events (Called n a r)
  share_called [] a r known = absurd known
  share_called (e ∷ before) a r known =
      by (has-append_cases (added w n e before) (share w n before) (Returned a r) (subst (λ (h : History). Has h (Returned a r)) (added_is w n e before) known)) (λ f. share_called before a r f)
    where
      by : Has (added w n e before) (Returned a r) ⊎ Has (share w n before) (Returned a r) → (Has (share w n before) (Returned a r) → Has before (Called n a r)) → Has (e ∷ before) (Called n a r)
      by (inl here) rest = inl (called_by e before a r here)
      by (inr more) rest = inr (rest more)

  taken_no_cancel : (b : Bool) (o : Op) (k : ℕ) (reason : Reason) → Has (if b then Taken o k ∷ [] else []) (Cancelled reason) → ⊥
  taken_no_cancel true o k reason (inl e) = clash o k reason e
    where
      clash : (o : Op) (k : ℕ) (reason : Reason) → Taken o k ≡ Cancelled reason → ⊥
      clash o k reason e = cc
  taken_no_cancel true o k reason (inr none) = none
  taken_no_cancel false o k reason none = none

  gave_no_cancel : (a : Act) (reason : Reason) → Gave a ≡ Cancelled reason → ⊥
  gave_no_cancel a reason e = cc

  came_no_cancel : (c : SeenCarried) (reason : Reason) → Came c ≡ Cancelled reason → ⊥
  came_no_cancel c reason e = cc

  returned_no_cancel : (a : Act) (r : FileCame) (reason : Reason) → Returned a r ≡ Cancelled reason → ⊥
  returned_no_cancel a r reason e = cc

  cancelled_same : (one other : Reason) → Cancelled one ≡ Cancelled other → Stopped one ≡ Stopped other
  cancelled_same one other e = cc

  stopped_by : (e : Event) (before : Events) (reason : Reason) → Has (added w n e before) (Cancelled reason) → e ≡ Stopped reason
  stopped_by (Sent t o k lane) before reason known = by (t == n) known
    where
      by : (b : Bool) → Has (if b then Gave (act.Send o k) ∷ taken w n (share w n before) o k else []) (Cancelled reason) → Sent t o k lane ≡ Stopped reason
      by true (inl e) = absurd (gave_no_cancel (act.Send o k) reason e)
      by true (inr more) = absurd (taken_no_cancel (is_some (kept_job w (share w n before) (act.Send o k))) o k reason more)
      by false none = absurd none
  stopped_by (Back lane c) before reason known = by (is_task n c.job.id.task) known
    where
      by : (b : Bool) → Has (if b then Came c ∷ [] else []) (Cancelled reason) → Back lane c ≡ Stopped reason
      by true (inl e) = absurd (came_no_cancel c reason e)
      by true (inr none) = absurd none
      by false none = absurd none
  stopped_by (Called t a r) before reason known = by (t == n) known
    where
      by : (b : Bool) → Has (if b then Returned a r ∷ Gave a ∷ [] else []) (Cancelled reason) → Called t a r ≡ Stopped reason
      by true (inl e) = absurd (returned_no_cancel a r reason e)
      by true (inr (inl e)) = absurd (gave_no_cancel a reason e)
      by true (inr (inr none)) = absurd none
      by false none = absurd none
  stopped_by (Stopped other) before reason (inl e) = cancelled_same other reason e
  stopped_by (Stopped other) before reason (inr none) = absurd none
  stopped_by (Made fits) before reason none = absurd none
  stopped_by Lined before reason none = absurd none

  -- a cancel
  pub share_stopped : (events : Events) (reason : Reason) → Has (share w n events) (Cancelled reason) → Has events (Stopped reason)
  share_stopped [] reason known = absurd known
  share_stopped (e ∷ before) reason known =
      by (has-append_cases (added w n e before) (share w n before) (Cancelled reason) (subst (λ (h : History). Has h (Cancelled reason)) (added_is w n e before) known)) (λ f. share_stopped before reason f)
    where
      by : Has (added w n e before) (Cancelled reason) ⊎ Has (share w n before) (Cancelled reason) → (Has (share w n before) (Cancelled reason) → Has before (Stopped reason)) → Has (e ∷ before) (Stopped reason)
      by (inl here) rest = inl (stopped_by e before reason here)
      by (inr more) rest = inr (rest more)

  -- where a return stands in the run
  pub record BackAt (events : Events) (later before : History) (c : SeenCarried) : Type 0 where
    pub newer : Events
    pub lane : ℕ
    pub rest : Events
    pub is : events ≡ newer ++ Back lane c ∷ rest
    pub task : c.job.id.task ≡ Some n
    pub since_is : since w n newer (Back lane c ∷ rest) ≡ later
    pub rest_is : share w n rest ≡ before

  further : (e : Event) (events : Events) (later more before : History) (c : SeenCarried) → later ≡ added w n e events ++ more → BackAt events more before c → BackAt (e ∷ events) later before c
  further e events later more before c is at = record {
    newer = e ∷ at.newer;
    lane = at.lane;
    rest = at.rest;
    is = ap (λ (z : Events). e ∷ z) at.is;
    task = at.task;
    since_is = ap (λ (z : Events). added w n e z ++ since w n at.newer (Back at.lane c ∷ at.rest)) (sym at.is) ∙ ap (λ (h : History). added w n e events ++ h) at.since_is ∙ sym is;
    rest_is = at.rest_is;
  }

  here : (e : Event) (events : Events) (later front before : History) (c : SeenCarried) → added w n e events ≡ later ++ Came c ∷ front → before ≡ front ++ share w n events → BackAt (e ∷ events) later before c
  here e events later front before c is rest =
      let back = came_back w n e events c (subst (λ (h : History). Has h (Came c)) (sym is) (has_middle later (Came c) front)) in
      by back.0 back.1 back.2 later front (sym (ap (λ (x : Event). added w n x events) back.1 ∙ chosen (is_task n c.job.id.task) (Came c ∷ []) [] (is_its w n c.job.id.task back.2)) ∙ is) rest
    where
      by : (lane : ℕ) → e ≡ Back lane c → c.job.id.task ≡ Some n → (later front : History) → Came c ∷ [] ≡ later ++ Came c ∷ front → before ≡ front ++ share w n events → BackAt (e ∷ events) later before c
      by lane same task [] front f g = record {
        newer = [];
        lane = lane;
        rest = events;
        is = ap (λ (x : Event). x ∷ events) same;
        task = task;
        since_is = refl;
        rest_is = ap (λ (h : History). h ++ share w n events) (tail_is (Came c) (Came c) [] front f) ∙ sym g;
      }
      by lane same task (z ∷ later) front f g = absurd (no_middle later (Came c) front (tail_is (Came c) z [] (later ++ Came c ∷ front) f))

  pub back_at : (events : Events) (later before : History) (c : SeenCarried) → share w n events ≡ later ++ Came c ∷ before → BackAt events later before c
  back_at [] later before c is = absurd (no_middle later (Came c) before is)
  back_at (e ∷ events) later before c is =
      by (two_parts (added w n e events) (share w n events) later (Came c) before (sym (added_is w n e events) ∙ is)) (λ more f. back_at events more before c f)
    where
      by : ((r : History) × (later ≡ added w n e events ++ r) × (share w n events ≡ r ++ Came c ∷ before)) ⊎ ((r : History) × (added w n e events ≡ later ++ Came c ∷ r) × (before ≡ r ++ share w n events))
          → ((more : History) → share w n events ≡ more ++ Came c ∷ before → BackAt events more before c) → BackAt (e ∷ events) later before c
      by (inl more) rest = further e events later more.0 before c more.1 (rest more.0 more.2)
      by (inr inside) rest = here e events later inside.0 before c inside.1 inside.2
