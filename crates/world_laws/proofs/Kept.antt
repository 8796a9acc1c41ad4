-- Places that nobody else writes, and contents that an ETag stands for.
use Rattle.std.proofs.Common.{◌≡◌, ◌∙◌, ℕ, List, sym, subst, inl, inr}
use Rattle.s3_service.specs.ServiceState.{State}
use Rattle.run_promise.specs.Traces.{Step, IsHonest, states}
use Rattle.run_promise.specs.Truthful.{IsExternal}
use Rattle.world_laws.specs.Premises.{IsPlace}
use Rattle.world_laws.specs.SmallTransfers.{HadContent}

module _ (start : State) (trace : List Step) (IsKept : List ℕ → List ℕ → Type 0) (honest : IsHonest start trace IsKept) where
  -- nobody else writes a kept place
  pub unwritten : (bucket key : List ℕ) → IsKept bucket key → IsExternal trace bucket key → ⊥
  unwritten bucket key kept (inl written) = honest.not_written bucket key written.0 written.1 kept
  unwritten bucket key kept (inr removed) = honest.not_removed bucket key removed kept

  -- a trace that keeps several places keeps each of them
  pub kept_at : (bucket key : List ℕ) → IsKept bucket key → IsHonest start trace (IsPlace bucket key)
  kept_at bucket key kept = record {
    one_content = honest.one_content;
    not_written = λ b k object happened at. honest.not_written b k object happened (subst (λ (x : List ℕ). IsKept b x) (sym at.1) (subst (λ (x : List ℕ). IsKept x key) (sym at.0) kept));
    not_removed = λ b k happened at. honest.not_removed b k happened (subst (λ (x : List ℕ). IsKept b x) (sym at.1) (subst (λ (x : List ℕ). IsKept x key) (sym at.0) kept));
  }

  -- and it keeps fewer
  pub kept_none : IsHonest start trace (λ bucket key. ⊥)
  kept_none = record {
    one_content = honest.one_content;
    not_written = λ b k object happened at. at;
    not_removed = λ b k happened at. at;
  }

  -- an ETag of a key stands for one content
  pub one_content : (bucket key etag a b : List ℕ) → HadContent (states start trace) bucket key etag a → HadContent (states start trace) bucket key etag b → a ≡ b
  one_content bucket key etag a b at_a at_b =
      sym at_a.4 ∙ honest.one_content at_a.0 at_b.0 bucket key at_a.1 at_b.1 at_a.2 at_b.2 at_a.3.held at_b.3.held (at_a.3.etag ∙ sym at_b.3.etag) ∙ at_b.4
