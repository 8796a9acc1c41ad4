-- How often acts are given, and jobs come: no more often than each act of a task can.
use Rattle.std.proofs.Common.{◌≡◌, ◌==◌, ◌+◌, ◌*◌, ◌≤◌, [], ◌∷◌, ℕ, zero, suc, Bool, true, false, List}
use Rattle.std.proofs.Common.{Option, Some, None, refl, sym, subst, arith, length}
use Rattle.std.proofs.lemmas.Bool.{and_parts}
use Rattle.std.specs.Prelude.{is_some, slice_get, if◌then◌else◌}
use Rattle.jobs.specs.Endings.{SeenCarried}
use Rattle.s3_model.specs.declared.requests.Op.{Op}
use Rattle.shared_lemmas.proofs.Members.{Has}
use Rattle.task_acts.specs.declared.acts.Act.{Act}
use Rattle.task_acts.specs.declared.acts.Act.TheVariants as act
use Rattle.task_acts.specs.declared.acts.FileCame.{FileCame}
use Rattle.task_acts.specs.declared.work.Work.{Work}
use Rattle.task_acts.specs.Failures.{is_stopped}
use Rattle.task_acts.specs.Histories.{Came, Cancelled, Gave, History, Returned, Taken, sent}
use Rattle.task_acts.specs.Kept.{IsHistory, kept_job}
use Rattle.task_acts.specs.Rule.{is_named, is_ready_in}
use Rattle.task_acts.specs.Stages.{may_be_given, stage}
use Rattle.task_progress.proofs.Begun.{has_begun, out_has_begun}
use Rattle.task_progress.proofs.Endings.{no}
use Rattle.manager_moves.proofs.HoldLemmas.{same_number}
use Rattle.manager_moves.proofs.PartLaws.{nothing, same_value}
use Rattle.manager_moves.proofs.ShareLaws.{shares_are_histories}
use Rattle.manager_moves.specs.Laws.{IsOfTask, IsRun}
use Rattle.manager_moves.specs.Parts.{sum_from}
use Rattle.manager_moves.specs.Runs.{Called, Events, Sent, Shared, is_task, share, with_taken}
use Rattle.run_needs.proofs.Falls.{at_first, came_here, came_less, gave_falls, gave_less, lefts, never_more, one_falls}
use Rattle.run_needs.proofs.Falls.{returned_less}

-- ---- sums of which each term stays or grows

module _ (f g : ℕ → Work → ℕ) where
  abbrev Rises : ℕ → List Work → Type 0
  Rises n works = (i m : ℕ) (w : Work) → m ≡ n + i → slice_get works i ≡ Some w → f m w ≤ g m w

  pub all_rise : (n : ℕ) (works : List Work) → Rises n works → sum_from f n works ≤ sum_from g n works
  all_rise n [] rises = omega arith
  all_rise n (w ∷ works) rises =
      let here = rises 0 n w (omega arith) refl in
      let rest = all_rise (n + 1) works (λ i m v e is. rises (suc i) m v (omega arith) is) in
      omega arith

  pub one_rises : (t n : ℕ) (works : List Work) → Rises n works → (i : ℕ) (w : Work) → t ≡ n + i
      → slice_get works i ≡ Some w → f t w + 1 ≤ g t w → sum_from f n works + 1 ≤ sum_from g n works
  one_rises t n [] rises i w e is more = absurd (nothing is)
  one_rises t n (v ∷ works) rises zero w e is more =
      let same : v ≡ w = same_value is in
      let here : f n v + 1 ≤ g n v = subst (λ (x : Work). f n x + 1 ≤ g n x) (sym same)
      (subst (λ (m : ℕ). f m w + 1 ≤ g m w) (omega arith) more) in
      let rest = all_rise (n + 1) works (λ i m u e is. rises (suc i) m u (omega arith) is) in
      omega arith
  one_rises t n (v ∷ works) rises (suc i) w e is more =
      let here = rises 0 n v (omega arith) refl in
      let rest = one_rises t (n + 1) works (λ i m u e is. rises (suc i) m u (omega arith) is) i w (omega arith)
      is more in
      omega arith

-- ---- one task

-- `counts` says which acts count as they are given
module _ (counts : Act → Bool) where
  abbrev pub given_count : (counted : Bool) → ℕ
  given_count true = 1
  given_count false = 0

  -- how often such acts were given, and jobs came
  abbrev pub happened : History → ℕ
  happened [] = 0
  happened (Gave g ∷ before) = happened before + given_count (counts g)
  happened (Came c ∷ before) = happened before + 1
  happened (Returned called result ∷ before) = happened before
  happened (Cancelled reason ∷ before) = happened before
  happened (Taken o n ∷ before) = happened before

  -- those that are ready, and all jobs that have begun, are among these acts
  pub record AreAmong (w : Work) (acts : List Act) : Type 0 where
    pub ready : (h : History) → IsHistory w h → (a : Act) → counts a ≡ true → is_ready_in w h a ≡ true → Has acts a
    pub begun : (h : History) → IsHistory w h → (o : Op) (n : ℕ) → has_begun (stage w h (act.Send o n)) ≡ true
        → Has acts (act.Send o n)

  module _ (w : Work) (acts : List Act) (among : AreAmong w acts) where
    may_be : (h : History) (a : Act) → is_ready_in w h a ≡ true → may_be_given (stage w h a) ≡ true
    may_be h a ready = (and_parts (may_be_given (stage w h a)) (is_named w (stage w h) (is_stopped w h) a) ready).0

    -- what has happened, and what is left, is no more than each act comes to
    pub fits : (h : History) → IsHistory w h → happened h + lefts (stage w h) acts ≤ 4 * length acts
    fits [] holds = let all = at_first w acts in omega arith
    fits (Gave g ∷ h) holds = by (counts g) refl (fits h holds.1)
      where
        by : (b : Bool) → counts g ≡ b → happened h + lefts (stage w h) acts ≤ 4 * length acts
            → happened h + given_count b + lefts (stage w (Gave g ∷ h)) acts ≤ 4 * length acts
        by true counted so_far =
            let fewer = one_falls (stage w h) (stage w (Gave g ∷ h)) (gave_less w h g (may_be h g holds.0)) acts g
            (gave_falls w h g (may_be h g holds.0)) (among.ready h holds.1 g counted holds.0) in
            omega arith
        by false other so_far =
            let no_more = never_more (stage w h) (stage w (Gave g ∷ h)) (gave_less w h g (may_be h g holds.0)) acts in
            omega arith
    fits (Came c ∷ h) holds =
        let so_far = fits h holds.1 in
        let fewer = one_falls (stage w h) (stage w (Came c ∷ h)) (came_less w h c holds.0) acts (sent c)
        (came_here w h c holds.0) (among.begun h holds.1 c.job.id.op c.job.id.number
        (out_has_begun (stage w h (sent c)) holds.0.0)) in
        omega arith
    fits (Returned called result ∷ h) holds =
        let so_far = fits h holds.1 in
        let no_more = never_more (stage w h) (stage w (Returned called result ∷ h)) (returned_less w h called result)
        acts in
        omega arith
    fits (Cancelled reason ∷ h) holds = fits h holds.1
    fits (Taken o n ∷ h) holds = fits h holds.1

  -- ---- all tasks

  taken_same : (b : Bool) (o : Op) (n : ℕ) (h : History) → happened (if b then Taken o n ∷ h else h) ≡ happened h
  taken_same true o n h = refl
  taken_same false o n h = refl

  one_counts : (b : Bool) → b ≡ true → given_count b ≡ 1
  one_counts true e = refl
  one_counts false e = no e

  sent_more : (w : Work) (o : Op) (k : ℕ) (h : History) (b : Bool)
      → happened h ≤ happened (if b then Gave (act.Send o k) ∷ with_taken w o k h else h)
  sent_more w o k h true =
      let same = taken_same (is_some (kept_job w h (act.Send o k))) o k h in omega (arith, same)
  sent_more w o k h false = omega arith

  sent_one : (w : Work) (o : Op) (k : ℕ) (h : History) (b : Bool) → b ≡ true → counts (act.Send o k) ≡ true
      → happened h + 1 ≤ happened (if b then Gave (act.Send o k) ∷ with_taken w o k h else h)
  sent_one w o k h true e counted =
      let same = taken_same (is_some (kept_job w h (act.Send o k))) o k h in
      let one = one_counts (counts (act.Send o k)) counted in
      omega (arith, same, one)
  sent_one w o k h false e counted = no e

  called_more : (a : Act) (r : FileCame) (h : History) (b : Bool)
      → happened h ≤ happened (if b then Returned a r ∷ Gave a ∷ h else h)
  called_more a r h true = omega arith
  called_more a r h false = omega arith

  called_one : (a : Act) (r : FileCame) (h : History) (b : Bool) → b ≡ true → counts a ≡ true
      → happened h + 1 ≤ happened (if b then Returned a r ∷ Gave a ∷ h else h)
  called_one a r h true e counted = let one = one_counts (counts a) counted in omega (arith, one)
  called_one a r h false e counted = no e

  back_more : (c : SeenCarried) (h : History) (b : Bool) → happened h ≤ happened (if b then Came c ∷ h else h)
  back_more c h true = omega arith
  back_more c h false = omega arith

  back_one : (c : SeenCarried) (h : History) (b : Bool) → b ≡ true
      → happened h + 1 ≤ happened (if b then Came c ∷ h else h)
  back_one c h true e = omega arith
  back_one c h false e = no e

  module _ (s : Shared) where
    abbrev pub all_happened : Events → ℕ
    all_happened events = sum_from (λ (n : ℕ) (w : Work). happened (share w n events)) 0 s.works

    pub most_of : (acts_of : Work → List Act) → ((w : Work) → AreAmong w (acts_of w)) → (events : Events)
        → IsRun s events
        → all_happened events ≤ sum_from (λ (n : ℕ) (w : Work). 4 * length (acts_of w)) 0 s.works
    most_of acts_of among events run = all_rise (λ (n : ℕ) (w : Work). happened (share w n events))
        (λ (n : ℕ) (w : Work). 4 * length (acts_of w)) 0 s.works few
      where
        few : (i m : ℕ) (w : Work) → m ≡ 0 + i → slice_get s.works i ≡ Some w
            → happened (share w m events) ≤ 4 * length (acts_of w)
        few i m w e there =
            let same : i ≡ m = omega arith in
            let all = fits w (acts_of w) (among w) (share w m events)
            (shares_are_histories s events m w (subst (λ (k : ℕ). slice_get s.works k ≡ Some w) same there) run) in
            omega arith

    module _ (before : Events) where
      abbrev so_many : ℕ → Work → ℕ
      so_many n w = happened (share w n before)

      pub sent_step : (t : ℕ) (o : Op) (k lane : ℕ) (w : Work) → slice_get s.works t ≡ Some w
          → counts (act.Send o k) ≡ true → all_happened before + 1 ≤ all_happened (Sent t o k lane ∷ before)
      sent_step t o k lane w is counted =
          one_rises so_many (λ (n : ℕ) (v : Work). happened (share v n (Sent t o k lane ∷ before))) t 0 s.works
          (λ i m v e there. sent_more v o k (share v m before) (t == m)) t w (omega arith) is
          (sent_one w o k (share w t before) (t == t) (same_number t) counted)

      pub called_step : (t : ℕ) (a : Act) (r : FileCame) → all_happened before ≤ all_happened (Called t a r ∷ before)
      called_step t a r =
          all_rise so_many (λ (n : ℕ) (v : Work). happened (share v n (Called t a r ∷ before))) 0 s.works
          (λ i m v e there. called_more a r (share v m before) (t == m))

      pub called_step_one : (t : ℕ) (a : Act) (r : FileCame) (w : Work) → slice_get s.works t ≡ Some w
          → counts a ≡ true → all_happened before + 1 ≤ all_happened (Called t a r ∷ before)
      called_step_one t a r w is counted =
          one_rises so_many (λ (n : ℕ) (v : Work). happened (share v n (Called t a r ∷ before))) t 0 s.works
          (λ i m v e there. called_more a r (share v m before) (t == m)) t w (omega arith) is
          (called_one a r (share w t before) (t == t) (same_number t) counted)

      module _ (c : SeenCarried) where
        abbrev coming : Option ℕ → ℕ → Work → ℕ
        coming task n w = happened (if is_task n task then Came c ∷ share w n before else share w n before)

        pub back_step : (task : Option ℕ) → IsOfTask s before task c
            → all_happened before + 1 ≤ sum_from (coming task) 0 s.works
        back_step None of_task = absurd of_task
        back_step (Some t) of_task =
            one_rises so_many (coming (Some t)) t 0 s.works
            (λ i m v e there. back_more c (share v m before) (t == m)) t of_task.0 (omega arith) of_task.1
            (back_one c (share of_task.0 t before) (t == t) (same_number t))
