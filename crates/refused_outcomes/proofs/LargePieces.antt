-- A run with pieces of 2^35 bytes is what the laws ask of one.
use Rattle.std.proofs.Common.{◌≡◌, ◌^◌, ℕ, zero, suc, true, List, [], ◌∷◌, Some, refl, sym, subst, inl, inr, slice_get, arith}
use Rattle.s3_model.specs.declared.answers.Listed.{Listed}
use Rattle.s3_model.specs.declared.outcomes.Cause.TheVariants as cause
use Rattle.s3_model.specs.declared.outcomes.Outcome.{Outcome}
use Rattle.s3_model.specs.declared.outcomes.Outcome.TheVariants as outcome
use Rattle.s3_model.specs.declared.outcomes.Reason.TheVariants as reason
use Rattle.s3_model.specs.declared.tasks.Task.{Task}
use Rattle.s3_model.specs.Parts.{IsFirstFitting}
use Rattle.s3_model.specs.Validity.{IsValidConfig, IsValidLimits}
use Rattle.run_promise.specs.Outcomes.{HasOutcome}
use Rattle.world_laws.specs.Promises.{IsByRequests, IsOrderly}
use Rattle.world_laws.specs.Tasks.{MayBeNew}
use Rattle.shared_lemmas.proofs.Clashes.{false_true as never}
use Rattle.promise_examples.specs.Reading.{Reads, HasNoStatus, NeverFailed, signed_body}
use Rattle.promise_examples.proofs.Concrete.{has, none_is_some, slot, some_is}
use Rattle.promise_examples.proofs.IdleRun.{no_jobs, nothing_carried}
use Rattle.refused_outcomes.specs.LargePieces.{LargePiecesAreMet, config, large, large_run, limits}
use Rattle.refused_outcomes.proofs.Untried.{cancelled_untried}

not_valid : IsValidConfig config → ⊥
not_valid valid = let most = valid.chunk.most in omega arith

first_fitting : IsFirstFitting (2 ^ 35) (2 ^ 36) 2 (2 ^ 35)
first_fitting = record { doublings = 0; is_multiple = refl; fits = omega arith; first = λ k before. absurd (omega arith) }

valid_limits : IsValidLimits limits
valid_limits = record {
  min_part = omega arith;
  parts = omega arith;
  max_part = omega arith;
  max_parts = record { least = omega arith; most = omega arith };
  max_object = record { least = omega arith; most = omega arith };
  reached = omega arith;
}

zero_of : (m : ℕ) (a : Task) → slice_get (large ∷ []) m ≡ Some a → m ≡ 0
zero_of zero a is = refl
zero_of (suc m) a is = absurd (none_is_some a is)

abbrev cancelled : Outcome
cancelled = outcome.Failed (cause.Cancelled reason.OutputFailed)

module _ (page_of : List ℕ → Listed) where
  abbrev Has : ℕ → Task → Outcome → Type 0
  Has n t how = HasOutcome (Reads page_of) HasNoStatus NeverFailed large_run.setting [] [] n t how

  orderly : IsOrderly (Reads page_of) HasNoStatus (λ planning. planning ≡ []) NeverFailed signed_body [] 80 large_run [] []
  orderly = record {
    schedule = no_jobs page_of large_run.setting refl;
    carried = nothing_carried page_of large_run.setting refl;
    outcomes = inl refl;
    causes = λ n t how at_task at_how. cause n t how at_task at_how;
    questions = λ c known of_none. absurd (has [] c known);
    tasks = slot (λ n t. IsByRequests t) (large ∷ []) (record { bucket = _; key = _; is_dest = refl; decided = tt; keeps = λ removal. refl }, tt);
    apart = record {
      destinations = λ m n a b bucket key at_a at_b of_a of_b. subst (λ (k : ℕ). m ≡ k) (sym (zero_of n b at_b)) (zero_of m a at_a);
      sources = λ m n a b bucket key at_a at_b moves is_source is_dest. slot (λ k (t : Task). t.moves ≡ true → ⊥) (large ∷ []) (never, tt) m a at_a moves;
    };
    sources = λ run same fits n t how at_task at_how new. absurd (old n how at_how new);
    files = λ n t how path at_task at_how moves is_source. absurd (slot (λ k (t : Task). t.moves ≡ true → ⊥) (large ∷ []) (never, tt) n t at_task moves);
    one_class = λ n t at_task fresh. absurd (slot (λ k (t : Task). t.fresh ≡ true → ⊥) (large ∷ []) (never, tt) n t at_task fresh);
    threshold = omega arith;
    limits = valid_limits;
  }
    where
      old : (n : ℕ) (how : Outcome) → slice_get large_run.outcomes n ≡ Some how → MayBeNew how → ⊥
      old n how at_how new = slot (λ k (o : Outcome). MayBeNew o → ⊥) (cancelled ∷ []) ((λ none. none), tt) n how at_how new

      cause : (n : ℕ) (t : Task) (how : Outcome) → slice_get (large ∷ []) n ≡ Some t → slice_get (cancelled ∷ []) n ≡ Some how → Has n t how
      cause zero t how at_task at_how = subst (Has 0 t) (some_is cancelled how at_how) (subst (λ (x : Task). Has 0 x cancelled) (some_is large t at_task) (cancelled_untried page_of large_run.setting large reason.OutputFailed refl refl))
      cause (suc n) t how at_task at_how = absurd (none_is_some t at_task)

pub large_pieces_are_met : LargePiecesAreMet
large_pieces_are_met page_of = record { not_valid = not_valid; pieces = inr (omega arith, (2 ^ 35, first_fitting, refl, refl)); orderly = orderly page_of }
