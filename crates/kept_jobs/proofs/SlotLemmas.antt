-- The jobs at all places after one was put down.
use Rattle.std.proofs.Common.{◌≡◌, ◌∙◌, ◌⊎◌, ◌<◌, ◌≤◌, ◌+◌, ◌-◌, ◌==◌, ◌&&◌, ◌||◌, ℕ, Bool, true, false, not, List, Option, None, get_or, set, length, nat_lt, refl, sym, ap, arith, inl, inr, if◌then◌else◌}
use Rattle.std.proofs.lemmas.Bool.{and_parts, cases_lt, eq-eqb, eqb-true, lt-ltb, le-ltb}
use Rattle.std.proofs.lemmas.List.{get_or-set_same, get_or-set_other, get_or_past}
use Rattle.jobs.specs.Jobs.{SeenJob}
use Rattle.job_terms.specs.Ops.{is_op, op_number}
use Rattle.s3_model.specs.declared.requests.Op.{Op}
use Rattle.s3_model.specs.declared.requests.Op.TheVariants as op
use Rattle.task_acts.specs.declared.acts.Act.TheVariants as act
use Rattle.task_acts.specs.declared.work.Work.{Work}
use Rattle.task_acts.specs.Histories.{is_act}
use Rattle.task_acts.specs.Work.{first_number, piece_op}
use Rattle.kept_jobs.specs.Slots.{HasSlot, SeenKept, job_at, piece_slot, rank, slot, slots}

clash : {P : Type 0} → false ≡ true → P
clash e = cc

decided : (b : Bool) → (b ≡ true) ⊎ (b ≡ false)
decided true = inl refl
decided false = inr refl

-- ---- ops

op_of : ℕ → Op
op_of n =
    if n == 0 then op.Head else if n == 1 then op.Get else if n == 2 then op.Put else if n == 3 then op.Copy
    else if n == 4 then op.Delete else if n == 5 then op.Create else if n == 6 then op.Part else if n == 7 then op.PartCopy
    else if n == 8 then op.Complete else if n == 9 then op.Abort else if n == 10 then op.List else op.Buckets

back : (a : Op) → op_of (op_number a) ≡ a
unfolding op_of
back op.Head = refl
back op.Get = refl
back op.Put = refl
back op.Copy = refl
back op.Delete = refl
back op.Create = refl
back op.Part = refl
back op.PartCopy = refl
back op.Complete = refl
back op.Abort = refl
back op.List = refl
back op.Buckets = refl

pub same_op : (a b : Op) → is_op a b ≡ true → a ≡ b
same_op a b e = sym (back a) ∙ ap op_of (eqb-true (op_number a) (op_number b) e) ∙ back b

-- the op of a job that a task has once, by its place
single_of : ℕ → Op
single_of n = if n == 0 then op.Create else if n == 1 then op.Complete else if n == 2 then op.Abort else op.Delete

ranked : (a : Op) → rank a < 4 → single_of (rank a) ≡ a
unfolding single_of
ranked op.Create below = refl
ranked op.Complete below = refl
ranked op.Abort below = refl
ranked op.Delete below = refl
ranked a below = absurd (omega arith)

reflexive : (a : Op) → is_op a a ≡ true
reflexive a = eq-eqb (op_number a) (op_number a) refl

-- ---- places

-- where a job stands that the task has
pub record IsSingle (w : Work) (a : Op) (n : ℕ) : Type 0 where
  pub low : rank a < 4
  pub zero : n ≡ 0
  pub at : slot w a n ≡ rank a

pub record IsPiece (w : Work) (a : Op) (n : ℕ) : Type 0 where
  pub op_is : is_op a (piece_op w.of_kind w.small) ≡ true
  pub from : first_number w ≤ n
  pub at : slot w a n ≡ 4 + (n - first_number w)

not_true : (x : Bool) → not x ≡ false → x ≡ true
not_true true e = refl
not_true false e = sym e

single_place : (w : Work) (a : Op) (n : ℕ) (z : Bool) → rank a < 4 → (n == 0) ≡ z → slot w a n < slots w → IsSingle w a n
single_place w a n true low is inside = record {
  low = low;
  zero = eqb-true n 0 is;
  at = ap (λ (b : Bool). if b then (if n == 0 then rank a else slots w) else piece_slot w a n) (lt-ltb (rank a) 4 low)
      ∙ ap (λ (b : Bool). if b then rank a else slots w) is;
}
single_place w a n false low is inside =
    let far : slot w a n ≡ slots w = ap (λ (b : Bool). if b then (if n == 0 then rank a else slots w) else piece_slot w a n) (lt-ltb (rank a) 4 low)
    ∙ ap (λ (b : Bool). if b then rank a else slots w) is in
    absurd (omega arith)

piece_place : (w : Work) (a : Op) (n : ℕ) (o l : Bool) → 4 ≤ rank a → is_op a (piece_op w.of_kind w.small) ≡ o → nat_lt n (first_number w) ≡ l
    → (slot w a n ≡ (if not o || l then slots w else 4 + (n - first_number w))) → slot w a n < slots w → IsPiece w a n
piece_place w a n true true high is below at inside = absurd (omega arith)
piece_place w a n false l high is below at inside = absurd (omega arith)
piece_place w a n true false high is below at inside = record {
  op_is = is;
  from = elim (cases_lt n (first_number w)) [
    | inl under ↦ clash (sym below ∙ lt-ltb n (first_number w) under)
    | inr over ↦ over
  ];
  at = at;
}

place_of : (w : Work) (a : Op) (n : ℕ) → HasSlot w a n → IsSingle w a n ⊎ IsPiece w a n
place_of w a n inside = elim (cases_lt (rank a) 4) [
  | inl low ↦ inl (single_place w a n (n == 0) low refl inside)
  | inr high ↦ inr (piece_place w a n (is_op a (piece_op w.of_kind w.small)) (nat_lt n (first_number w)) high refl refl
      (ap (λ (b : Bool). if b then (if n == 0 then rank a else slots w) else piece_slot w a n) (le-ltb (rank a) 4 high)) inside)
]

both_true : (x y : Bool) → x ≡ true → y ≡ true → x && y ≡ true
both_true x y a b = ap (λ (t : Bool). t && y) a ∙ b

-- jobs at one place are one job
same_job : (w : Work) (a b : Op) (n m : ℕ) → HasSlot w a n → slot w b m ≡ slot w a n → is_act (act.Send b m) (act.Send a n) ≡ true
same_job w a b n m inside same =
    elim (place_of w a n inside) [
      | inl one ↦ elim (place_of w b m (omega arith)) [
        | inl other ↦
            both_true (is_op b a) (m == n)
            (ap (λ (o : Op). is_op o a) (sym (ranked b other.low) ∙ ap single_of (sym other.at ∙ same ∙ one.at) ∙ ranked a one.low) ∙ reflexive a)
            (eq-eqb m n (other.zero ∙ sym one.zero))
        | inr other ↦ absurd (omega (arith, one.low, one.at, other.at, same))
      ]
      | inr one ↦ elim (place_of w b m (omega arith)) [
        | inl other ↦ absurd (omega (arith, other.low, other.at, one.at, same))
        | inr other ↦
            both_true (is_op b a) (m == n)
            (ap (λ (o : Op). is_op o a) (same_op b (piece_op w.of_kind w.small) other.op_is ∙ sym (same_op a (piece_op w.of_kind w.small) one.op_is)) ∙ reflexive a)
            (eq-eqb m n (omega (arith, one.from, one.at, other.from, other.at, same)))
      ]
    ]

-- one job has one place
same_place : (w : Work) (a b : Op) (n m : ℕ) → is_act (act.Send b m) (act.Send a n) ≡ true → slot w b m ≡ slot w a n
same_place w a b n m e =
    let h = and_parts (is_op b a) (m == n) e in
    ap (λ (o : Op). slot w o m) (same_op b a h.0) ∙ ap (λ (k : ℕ). slot w a k) (eqb-true m n h.1)

-- ---- one job is put down

module _ (k : SeenKept) (a : Op) (n : ℕ) (job : Option SeenJob) (many : length k.jobs ≡ slots k.work) (inside : HasSlot k.work a n) where
  abbrev put : SeenKept
  put = record { work = k.work; jobs = set k.jobs (slot k.work a n) job }

  put_by : (b : Op) (m : ℕ) (t : Bool) → is_act (act.Send b m) (act.Send a n) ≡ t → job_at put b m ≡ (if t then job else job_at k b m)
  put_by b m true e =
      ap (λ (i : ℕ). get_or (set k.jobs (slot k.work a n) job) i None) (same_place k.work a b n m e)
      ∙ get_or-set_same k.jobs (slot k.work a n) job None (omega arith)
  put_by b m false e =
      get_or-set_other k.jobs (slot k.work a n) (slot k.work b m) job None (λ is. clash (sym e ∙ same_job k.work a b n m inside is))

  pub after_put : (new : SeenKept) → new.work ≡ k.work → new.jobs ≡ set k.jobs (slot k.work a n) job → (b : Op) (m : ℕ)
      → job_at new b m ≡ (if is_act (act.Send b m) (act.Send a n) then job else job_at k b m)
  after_put new same is b m =
      ap (λ (jobs : List (Option SeenJob)). get_or jobs (slot new.work b m) None) is
      ∙ ap (λ (w : Work). get_or (set k.jobs (slot k.work a n) job) (slot w b m) None) same
      ∙ put_by b m (is_act (act.Send b m) (act.Send a n)) refl

-- a place that is not there is empty
pub after_none : (k : SeenKept) (a : Op) (n : ℕ) → length k.jobs ≤ slot k.work a n → (b : Op) (m : ℕ)
    → job_at k b m ≡ (if is_act (act.Send b m) (act.Send a n) then None else job_at k b m)
after_none k a n past b m = by (is_act (act.Send b m) (act.Send a n)) refl
  where
    by : (t : Bool) → is_act (act.Send b m) (act.Send a n) ≡ t → job_at k b m ≡ (if t then None else job_at k b m)
    by true e = ap (λ (i : ℕ). get_or k.jobs i None) (same_place k.work a b n m e) ∙ get_or_past k.jobs (slot k.work a n) None past
    by false e = refl
