-- Part buffers that are out.
use Rattle.std.proofs.Common.{◌≡◌, ◌≤◌, ℕ, true, List, [], ◌∷◌, refl, arith}
use Rattle.s3_model.specs.declared.outcomes.Event.{Event}
use Rattle.s3_model.specs.declared.outcomes.Event.TheVariants as entry
use Rattle.s3_model.specs.declared.requests.Op.{Op}
use Rattle.s3_model.specs.declared.requests.Op.TheVariants as op
use Rattle.job_terms.specs.Buffers.{KeepsBuffers, buffers_out, holds_buffer}
use Rattle.job_terms.specs.Jobs.{job_of}
use Rattle.promise_examples.proofs.Concrete.{Fronts, front_of}
use Rattle.rare_runs.specs.FileNeighbours.{BuffersAreMet, BuffersAreRefused, both_out, one_by_one}

keeps : (buffers : ℕ) (journal : List Event) → Fronts (λ (f : List Event). buffers_out f ≤ buffers) journal → KeepsBuffers buffers journal
keeps buffers journal all front back is = front_of (λ (f : List Event). buffers_out f ≤ buffers) journal all front back is

pub buffers_are_met : BuffersAreMet
buffers_are_met = record {
  parts = keeps 1 (one_by_one op.Part op.Part) (omega arith, (omega arith, (omega arith, (omega arith, omega arith))));
  beside = keeps 1 (both_out op.Part op.PartCopy) (omega arith, (omega arith, (omega arith, (omega arith, omega arith))));
  two = keeps 2 (both_out op.Part op.Part) (omega arith, (omega arith, (omega arith, (omega arith, omega arith))));
}

-- both are out behind the second Given
two_out : (a b : Op) → holds_buffer a ≡ true → holds_buffer b ≡ true → KeepsBuffers 1 (both_out a b) → ⊥
two_out a b holds also kept =
    let over = kept (entry.Given (job_of 0 a 1) 0 ∷ entry.Given (job_of 0 b 2) 1 ∷ []) _ refl in
    clash (rw (holds, also) at over)
  where
    clash : 2 ≤ 1 → ⊥
    clash over = omega arith

none : (a b : Op) → holds_buffer a ≡ true → KeepsBuffers 0 (one_by_one a b) → ⊥
none a b holds kept =
    let over = kept (entry.Given (job_of 0 a 1) 0 ∷ []) _ refl in
    clash (rw holds at over)
  where
    clash : 1 ≤ 0 → ⊥
    clash over = omega arith

pub buffers_are_refused : BuffersAreRefused
buffers_are_refused = record { two_out = two_out; none = none }
