-- The places of the jobs that a task can have.
use Rattle.std.proofs.Common.{◌≡◌, ◌∙◌, ◌==◌, ◌||◌, ◌+◌, ◌-◌, ◌++◌, ◌<◌, ◌≤◌, ℕ, zero, suc, Bool, true, false}
use Rattle.std.proofs.Common.{Some, None, refl, sym, subst, ap, arith, inl, inr, get_or, length, nat_lt, not}
use Rattle.std.proofs.Common.{replicate, set}
use Rattle.std.proofs.Common.{if◌then◌else◌}
use Rattle.std.proofs.lemmas.Bool.{le-ltb, ltb-true}
use Rattle.std.proofs.lemmas.List.{get_or-replicate, get_or-set_same, length-replicate}
use Rattle.std.specs.List.{range_with_len}
use Rattle.jobs.specs.Jobs.{SeenJob}
use Rattle.jobs.specs.declared.what.What.TheVariants as what
use Rattle.kept_jobs.proofs.SlotLemmas.{after_put}
use Rattle.kept_jobs.specs.Slots.{HasSlot, SeenKept, job_at, piece_slot, rank, slot, slots}
use Rattle.manager_moves.proofs.HoldLemmas.{same_number}
use Rattle.run_needs.proofs.JobLemmas.{ready_job}
use Rattle.run_needs.specs.Jobs.{jobs_for, source_jobs, upload_jobs}
use Rattle.job_terms.specs.Ops.{is_op, op_number}
use Rattle.s3_model.specs.declared.requests.Ask.TheVariants as ask
use Rattle.s3_model.specs.declared.requests.Op.{Op}
use Rattle.s3_model.specs.declared.requests.Op.TheVariants as op
use Rattle.s3_model.specs.declared.tasks.Kind.{Kind}
use Rattle.s3_model.specs.declared.tasks.Kind.TheVariants as kind
use Rattle.shared_lemmas.proofs.Members.{Has, has-append_cases, mapped}
use Rattle.task_acts.specs.declared.acts.Act.{Act}
use Rattle.task_acts.specs.declared.acts.Act.TheVariants as act
use Rattle.task_acts.specs.declared.work.Work.{Work}
use Rattle.task_acts.specs.Histories.{History, is_act}
use Rattle.task_acts.specs.Kept.{IsHistory}
use Rattle.task_acts.specs.Rule.{is_ready_in, piece_sends}
use Rattle.task_acts.specs.Work.{first_number, numbers, piece_op}

-- ---- two jobs at one place are one

no_value : {X : Type 0} {x : X} → Some x ≡ None → ⊥
no_value e = cc

some_job : SeenJob
some_job = record {
  id = record { task = None; op = op.Head; number = 0 };
  what = what.Plan ask.Buckets;
  part = None;
  cell = None;
  had = 0;
}

module _ (w : Work) (a : Op) (n : ℕ) (inside : HasSlot w a n) where
  abbrev none : SeenKept
  none = record { work = w; jobs = replicate (slots w) None }

  abbrev one : SeenKept
  one = record { work = w; jobs = set (replicate (slots w) None) (slot w a n) (Some some_job) }

  pub same_job : (b : Op) (m : ℕ) → slot w b m ≡ slot w a n → is_act (act.Send b m) (act.Send a n) ≡ true
  same_job b m same = by (is_act (act.Send b m) (act.Send a n)) refl
    where
      here : job_at one b m ≡ Some some_job
      here = ap (λ (i : ℕ). get_or (set (replicate (slots w) None) (slot w a n) (Some some_job)) i None) same
          ∙ get_or-set_same (replicate (slots w) None) (slot w a n) (Some some_job) None
          (let many : length none.jobs ≡ slots w = length-replicate (slots w) None in omega (arith, inside, many))

      after : job_at one b m ≡ (if is_act (act.Send b m) (act.Send a n) then Some some_job else job_at none b m)
      after = after_put none a n (Some some_job) (length-replicate (slots w) None) inside one refl refl b m

      by : (t : Bool) → is_act (act.Send b m) (act.Send a n) ≡ t → is_act (act.Send b m) (act.Send a n) ≡ true
      by true e = e
      by false e = absurd (no_value (sym here ∙ after
          ∙ ap (λ (t : Bool). if t then Some some_job else job_at none b m) e
          ∙ get_or-replicate (slots w) (slot w b m) None None
          (omega (arith, same, inside))))

-- ---- each job that is ready has a place

in_range : (start count k : ℕ) → Has (range_with_len start count) k → (start ≤ k) × (k < start + count)
in_range start zero k known = absurd known
in_range start (suc count) k (inl same) = (omega arith, omega arith)
in_range start (suc count) k (inr known) =
    let rest = in_range (start + 1) count k known in (omega (arith, rest.0), omega (arith, rest.1))

module _ (w : Work) where
  abbrev HasPlace : Act → Type 0
  HasPlace (act.Send o n) = HasSlot w o n
  HasPlace a = Unit {0}

  single : (o : Op) → nat_lt (rank o) 4 ≡ true → HasSlot w o 0
  single o low =
      let at : slot w o 0 ≡ rank o =
      ap (λ (b : Bool). if b then (if 0 == 0 then rank o else slots w) else piece_slot w o 0) low in
      let below = ltb-true (rank o) 4 low in
      omega (arith, at, below)

  piece : (o : Op) (n : ℕ) → nat_lt (rank o) 4 ≡ false → piece_op w.of_kind w.small ≡ o → first_number w ≤ n
      → n < first_number w + w.count → HasSlot w o n
  piece o n high is from below =
      let first : slot w o n ≡ piece_slot w o n =
      ap (λ (b : Bool). if b then (if n == 0 then rank o else slots w) else piece_slot w o n) high in
      let of_op : is_op o (piece_op w.of_kind w.small) ≡ true =
      ap (λ (x : Op). is_op o x) is ∙ same_number (op_number o) in
      let second : piece_slot w o n ≡ 4 + (n - first_number w) =
      ap (λ (b : Bool). if not b || nat_lt n (first_number w) then slots w else 4 + (n - first_number w)) of_op
      ∙ ap (λ (b : Bool). if b then slots w else 4 + (n - first_number w)) (le-ltb n (first_number w) from) in
      omega (arith, first, second, from, below)

  pieces : nat_lt (rank (piece_op w.of_kind w.small)) 4 ≡ false → (a : Act) → Has (piece_sends w) a → HasPlace a
  pieces high a known =
      let its = mapped (λ (k : ℕ). act.Send (piece_op w.of_kind w.small) k) (numbers w) a known in
      let within = in_range (first_number w) w.count its.0 its.1 in
      subst HasPlace its.2 (piece (piece_op w.of_kind w.small) its.0 high refl within.0 within.1)

  uploads : (small : Bool) (a : Act) → Has (upload_jobs small) a → HasPlace a
  uploads true a known = absurd known
  uploads false a (inl e) = subst HasPlace e (single op.Create refl)
  uploads false a (inr (inl e)) = subst HasPlace e (single op.Complete refl)
  uploads false a (inr (inr (inl e))) = subst HasPlace e (single op.Abort refl)
  uploads false a (inr (inr (inr known))) = absurd known

  sources : (moves : Bool) (a : Act) → Has (source_jobs moves) a → HasPlace a
  sources false a known = absurd known
  sources true a (inl e) = subst HasPlace e (single op.Delete refl)
  sources true a (inr known) = absurd known

  upload_high : (small : Bool) → nat_lt (rank (piece_op kind.Upload small)) 4 ≡ false
  upload_high true = refl
  upload_high false = refl

  copy_high : (small : Bool) → nat_lt (rank (piece_op kind.Copy small)) 4 ≡ false
  copy_high true = refl
  copy_high false = refl

  high_as : (k : Kind) → w.of_kind ≡ k → nat_lt (rank (piece_op k w.small)) 4 ≡ false
      → nat_lt (rank (piece_op w.of_kind w.small)) 4 ≡ false
  high_as k is high = ap (λ (x : Kind). nat_lt (rank (piece_op x w.small)) 4) is ∙ high

  have_places : (k : Kind) → w.of_kind ≡ k → (a : Act) → Has (jobs_for w k) a → HasPlace a
  have_places kind.Upload is a known = elim (has-append_cases (piece_sends w) (upload_jobs w.small) a known) [
    | inl one ↦ pieces (high_as kind.Upload is (upload_high w.small)) a one
    | inr one ↦ uploads w.small a one
  ]
  have_places kind.Download is a known = elim (has-append_cases (piece_sends w) (source_jobs w.moves) a known) [
    | inl one ↦ pieces (high_as kind.Download is refl) a one
    | inr one ↦ sources w.moves a one
  ]
  have_places kind.Copy is a known =
      elim (has-append_cases (piece_sends w ++ upload_jobs w.small) (source_jobs w.moves) a known) [
        | inl some ↦ elim (has-append_cases (piece_sends w) (upload_jobs w.small) a some) [
          | inl one ↦ pieces (high_as kind.Copy is (copy_high w.small)) a one
          | inr one ↦ uploads w.small a one
        ]
        | inr one ↦ sources w.moves a one
      ]
  have_places kind.RemoveObject is a (inl e) = subst HasPlace e (single op.Delete refl)
  have_places kind.RemoveObject is a (inr known) = absurd known
  have_places kind.RemoveFile is a known = absurd known

  pub ready_has_slot : (h : History) → IsHistory w h → (o : Op) (n : ℕ) → is_ready_in w h (act.Send o n) ≡ true
      → HasSlot w o n
  ready_has_slot h holds o n ready = have_places w.of_kind refl (act.Send o n) (ready_job w h holds o n ready)
