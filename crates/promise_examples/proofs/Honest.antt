-- A trace in whose states each object's ETag is its content, and in which nobody else writes, is honest.
use Rattle.std.proofs.Common.{◌≡◌, ◌∙◌, ℕ, List, Option, Some, None, refl, sym, ap, inl, inr, unwrap_or}
use Rattle.std.specs.Prelude.{IsSome}
use Rattle.std.specs.Ordering.{nat_cmp}
use Rattle.std.specs.Cmp.Lexicographic.{slice_cmp, nat_list_cmp_total}
use Rattle.std.specs.FinMap.{get, insert, empty}
use Rattle.s3_model.specs.Maps.{MapOf}
use Rattle.s3_service.specs.ServiceState.{State, Object, HasBucket}
use Rattle.s3_service.specs.Serves.{Writes, Removes}
use Rattle.run_promise.specs.Traces.{Step, TraceEvent, External, IsHonest, states, events_of}
use Rattle.promise_examples.specs.Services.{one_bucket}
use Rattle.promise_examples.proofs.Concrete.{Each, each}
use Rattle.world_laws.proofs.Faithful.{IsFaithful}
use Rattle.shared_lemmas.proofs.Maps.{found_after_insert, found_in_empty, get-insert_same, text_exact}

-- ---- a service with one bucket that is empty

pub one_bucket_is_faithful : (bucket : List ℕ) → IsFaithful (one_bucket bucket)
one_bucket_is_faithful bucket b key object e = in_bucket (get (insert (empty {X = MapOf Object} {R = slice_cmp nat_cmp}) bucket empty) b) (found b) e
  where
    found : (b : List ℕ) (inner : MapOf Object) → get (insert (empty {X = MapOf Object} {R = slice_cmp nat_cmp}) bucket empty) b ≡ Some inner → inner ≡ empty
    found b inner f = elim (found_after_insert nat_list_cmp_total text_exact empty bucket empty b inner f) [
      | inl now ↦ sym now.1
      | inr before ↦ absurd (found_in_empty (slice_cmp nat_cmp) b inner before)
    ]

    in_bucket : (at : Option (MapOf Object)) → ((inner : MapOf Object) → at ≡ Some inner → inner ≡ empty) → get (unwrap_or at empty) key ≡ Some object → object.etag ≡ object.bytes
    in_bucket None each f = absurd (found_in_empty (slice_cmp nat_cmp) key object f)
    in_bucket (Some inner) each f = absurd (found_in_empty (slice_cmp nat_cmp) key object (ap (λ (m : MapOf Object). get m key) (sym (each inner refl)) ∙ f))

is_some : {V : Type 0} (found : Option V) (v : V) → found ≡ Some v → IsSome found
is_some None v e = cc
is_some (Some w) v e = refl

-- a bucket is there after a change of an object in it
pub has_bucket : (t : State) (bucket : List ℕ) (inner : MapOf Object) → HasBucket (record t { objects = insert t.objects bucket inner }) bucket
has_bucket t bucket inner = is_some (get (insert t.objects bucket inner) bucket) inner (get-insert_same nat_list_cmp_total text_exact t.objects bucket inner)

-- ---- nobody else writes

abbrev pub IsInside : TraceEvent → Type 0
IsInside (External write) = ⊥
IsInside event = Unit {0}

module _ (start : State) (trace : List Step) (faithful : Each IsFaithful (states start trace)) (inside : Each IsInside (events_of trace)) where
  pub honest : (IsKept : List ℕ → List ℕ → Type 0) → IsHonest start trace IsKept
  honest IsKept = record {
    one_content = λ t u bucket key a b among_t among_u at_t at_u same.
        sym (each IsFaithful (states start trace) faithful t among_t bucket key a at_t) ∙ same ∙ each IsFaithful (states start trace) faithful u among_u bucket key b at_u;
    not_written = λ bucket key object happened. absurd (each IsInside (events_of trace) inside (External (Writes bucket key object)) happened);
    not_removed = λ bucket key happened. absurd (each IsInside (events_of trace) inside (External (Removes bucket key)) happened);
  }
