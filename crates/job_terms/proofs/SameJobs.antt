-- Two jobs are one or differ, and the test of jobs says which.
use Rattle.std.proofs.Common.{◌≡◌, ◌∙◌, ◌⊎◌, ◌==◌, ◌&&◌, ℕ, Bool, true, false, Option, Some, None, refl, sym, ap, inl, inr, if◌then◌else◌, arith}
use Rattle.s3_model.specs.declared.outcomes.JobId.{JobId}
use Rattle.s3_model.specs.declared.requests.Op.{Op}
use Rattle.s3_model.specs.declared.requests.Op.TheVariants as op
use Rattle.job_terms.specs.Jobs.{is_job, is_task}
use Rattle.job_terms.specs.Ops.{is_op, op_number}

op_of : ℕ → Op
op_of n =
    if n == 0 then op.Head else if n == 1 then op.Get else if n == 2 then op.Put else if n == 3 then op.Copy else if n == 4 then op.Delete else if n == 5 then op.Create
    else if n == 6 then op.Part else if n == 7 then op.PartCopy else if n == 8 then op.Complete else if n == 9 then op.Abort else if n == 10 then op.List else op.Buckets

op_back : (a : Op) → op_of (op_number a) ≡ a
unfolding op_of
op_back op.Head = refl
op_back op.Get = refl
op_back op.Put = refl
op_back op.Copy = refl
op_back op.Delete = refl
op_back op.Create = refl
op_back op.Part = refl
op_back op.PartCopy = refl
op_back op.Complete = refl
op_back op.Abort = refl
op_back op.List = refl
op_back op.Buckets = refl

same_number : (n : ℕ) → (n == n) ≡ true
same_number n = grind arith

number_same : (m n : ℕ) → (m == n) ≡ true → m ≡ n
number_same m n e = grind arith

task_itself : (task : Option ℕ) → is_task task task ≡ true
task_itself None = refl
task_itself (Some n) = same_number n

all_three : (a b c : Bool) → a ≡ true → b ≡ true → c ≡ true → (a && b && c) ≡ true
all_three a b c p q r = rw (p, q, r) refl

pub job_itself : (job : JobId) → is_job job job ≡ true
job_itself job = all_three (is_task job.task job.task) (is_op job.op job.op) (job.number == job.number) (task_itself job.task) (same_number (op_number job.op)) (same_number job.number)

each_of_three : (a b c : Bool) → (a && b && c) ≡ true → (a ≡ true) × (b ≡ true) × (c ≡ true)
each_of_three true true true e = (refl, refl, refl)
each_of_three true true false e = cc
each_of_three true false c e = cc
each_of_three false b c e = cc

task_same : (a b : Option ℕ) → is_task a b ≡ true → a ≡ b
task_same None None e = refl
task_same (Some m) (Some n) e = ap Some (number_same m n e)
task_same None (Some n) e = cc
task_same (Some m) None e = cc

made_of : (t u : Option ℕ) (o q : Op) (m n : ℕ) → t ≡ u → o ≡ q → m ≡ n → ◌≡◌ {A = JobId} (record { task = t; op = o; number = m }) (record { task = u; op = q; number = n })
made_of t u o q m n e f g = cc

pub job_is : (a b : JobId) → a.task ≡ b.task → a.op ≡ b.op → a.number ≡ b.number → a ≡ b
job_is a b e f g = made_of a.task b.task a.op b.op a.number b.number e f g

pub op_same : (a b : Op) → op_number a ≡ op_number b → a ≡ b
op_same a b e = sym (op_back a) ∙ ap op_of e ∙ op_back b

pub job_same : (a b : JobId) → is_job a b ≡ true → a ≡ b
job_same a b e =
    let each = each_of_three (is_task a.task b.task) (is_op a.op b.op) (a.number == b.number) e in
    job_is a b (task_same a.task b.task each.0) (op_same a.op b.op (number_same (op_number a.op) (op_number b.op) each.1)) (number_same a.number b.number each.2)

other_test : (test : Bool) → test ≡ true → test ≡ false → ⊥
other_test test p q = cc

pub either_way : (test : Bool) → (test ≡ true) ⊎ (test ≡ false)
either_way true = inl refl
either_way false = inr refl

pub job_decided : (a b : JobId) → (a ≡ b) ⊎ (a ≡ b → ⊥)
job_decided a b = elim (either_way (is_job a b)) [
  | inl e ↦ inl (job_same a b e)
  | inr e ↦ inr (λ same. other_test (is_job a b) (sym (ap (is_job a) same) ∙ job_itself a) e)
]
