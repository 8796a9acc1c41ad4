-- The jobs that are kept for the pieces of a task are taken one after the other.
use Rattle.std.proofs.Common.{◌≡◌, ◌∙◌, ◌==◌, ◌&&◌, ◌+◌, ◌<◌, ◌≤◌, ℕ, Bool, true, false, Option, None, refl, sym}
use Rattle.std.proofs.Common.{subst, ap, arith}
use Rattle.std.proofs.Common.{nat_lt, if◌then◌else◌}
use Rattle.std.proofs.lemmas.Bool.{le-ltb, lt-ltb}
use Rattle.jobs.specs.Jobs.{SeenJob}
use Rattle.job_terms.specs.Ops.{is_op}
use Rattle.s3_model.specs.declared.bytes.Part.{Part}
use Rattle.s3_model.specs.declared.requests.Op.{Op}
use Rattle.task_acts.specs.declared.acts.Act.TheVariants as act
use Rattle.task_acts.specs.declared.work.Work.{Work}
use Rattle.task_acts.specs.Histories.{is_act}
use Rattle.task_acts.specs.Work.{first_number, is_piece}
use Rattle.move_laws.specs.Freed.{IsWith}

both : (a b : Bool) → a ≡ true → b ≡ true → (a && b) ≡ true
both true b e f = f
both false b e f = e

pub piece_in : (w : Work) (n : ℕ) → first_number w ≤ n → n < first_number w + w.count → is_piece w n ≡ true
piece_in w n from below = both (nat_lt n (first_number w + w.count)) (nat_lt (first_number w) (n + 1))
    (lt-ltb n (first_number w + w.count) below) (lt-ltb (first_number w) (n + 1) (omega (arith, from)))

pub with_so : (r r0 : ℕ) (held held0 : Option (Option Part)) (job job0 : Option SeenJob) → r ≡ r0 → held ≡ held0
    → job ≡ job0 → IsWith r0 held0 job0 → IsWith r held job
with_so r r0 held held0 job job0 a b c is =
    subst (λ (x : ℕ). IsWith x held job) (sym a)
    (subst (λ (x : Option (Option Part)). IsWith r0 x job) (sym b)
    (subst (λ (x : Option SeenJob). IsWith r0 held0 x) (sym c) is))

none_right : (b : Bool) → (b && false) ≡ false
none_right true = refl
none_right false = refl

-- a piece that was not reached holds what it held
pub not_reached : (its keeps : Bool) (n : ℕ) (before : Option (Option Part))
    → (if its && (keeps && nat_lt n n) then None else before) ≡ before
not_reached its keeps n before =
    ap (λ (b : Bool). if its && (keeps && b) then None else before) (le-ltb n n (omega arith))
    ∙ ap (λ (b : Bool). if its && b then None else before) (none_right keeps)
    ∙ ap (λ (b : Bool). if b then None else before) (none_right its)

-- the job of a later piece is kept still
pub later_stays : (o : Op) (number n : ℕ) (job : Option SeenJob) → number + 1 ≤ n
    → (if is_act (act.Send o n) (act.Send o number) then None else job) ≡ job
later_stays o number n job l =
    ap (λ (b : Bool). if is_op o o && b then None else job) (apart number n l)
    ∙ ap (λ (b : Bool). if b then None else job) (none_right (is_op o o))
  where
    apart : (number n : ℕ) → number + 1 ≤ n → (n == number) ≡ false
    apart number n l = grind arith
