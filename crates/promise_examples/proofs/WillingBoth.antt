-- The plan of both kinds of task over a service that does what it may.
use Rattle.std.proofs.Common.{◌≡◌, ◌∙◌, ℕ, zero, suc, List, [], ◌∷◌, Option, Some, refl, sym, ap, subst, slice_get, arith}
use Rattle.std.specs.Prelude.{unwrap_or}
use Rattle.std.specs.FinMap.{empty, get}
use Rattle.std.specs.Cmp.Lexicographic.{nat_list_cmp_total}
use Rattle.s3_model.specs.declared.answers.Class.TheVariants as class
use Rattle.s3_model.specs.declared.answers.Reply.{Reply}
use Rattle.s3_model.specs.declared.answers.Reply.TheVariants as reply
use Rattle.s3_model.specs.declared.answers.Why.{Why}
use Rattle.s3_model.specs.declared.outcomes.Cause.{Cause}
use Rattle.s3_model.specs.declared.outcomes.Cause.TheVariants as cause
use Rattle.s3_model.specs.declared.requests.Op.TheVariants as op
use Rattle.s3_model.specs.declared.outcomes.Outcome.{Outcome}
use Rattle.s3_model.specs.declared.outcomes.Outcome.TheVariants as outcome
use Rattle.s3_model.specs.declared.tasks.Task.{Task}
use Rattle.s3_model.specs.Maps.{MapOf}
use Rattle.s3_service.specs.ServiceState.{State, Object, object_at}
use Rattle.s3_service.specs.Serves.{Succeeds}
use Rattle.job_terms.specs.Dispatches.{Attempt}
use Rattle.job_terms.specs.Jobs.{IsObject}
use Rattle.run_promise.specs.Traces.{IsWilling}
use Rattle.shared_lemmas.proofs.Lists.{head_is}
use Rattle.shared_lemmas.proofs.Maps.{found_in_empty, get-insert_same, text_exact}
use Rattle.world_laws.proofs.Objects.{object_at-with_object, object_at-with_object_other}
use Rattle.file_laws.specs.FileEnds.{HasFailedCall}
use Rattle.file_completeness.specs.FileCompleteness.{IsDownloadThere}
use Rattle.promise_examples.specs.BothKinds.{bucket, bytes, calls, content, denied, first_key, first_load, limits, plan, second_get, second_key, shown, start, stored, stored_key, trace}
use Rattle.promise_examples.specs.Services.{object_of, one_bucket}
use Rattle.promise_examples.proofs.BothPlan.{of_plan, still}
use Rattle.promise_examples.proofs.Concrete.{none_is_some, slot, some_is}

-- ---- what is refused could not be done

other_key : (a b : ℕ) → (a ≡ b → ⊥) → (x y : List ℕ) → (x ≡ y) × (a ∷ [] ≡ b ∷ []) → ⊥
other_key a b apart x y same = apart (head_is a b [] [] same.1)

nothing_there : (object : Object) → object_at stored bucket second_key ≡ Some object → ⊥
nothing_there object at = found_in_empty _ second_key object (ap (λ (o : Option (MapOf Object)). get (unwrap_or o empty) second_key) (sym in_bucket) ∙ first)
  where
    in_bucket : get (one_bucket bucket).objects bucket ≡ Some empty
    in_bucket = get-insert_same nat_list_cmp_total text_exact empty bucket empty

    first : object_at (one_bucket bucket) bucket second_key ≡ Some object
    first =
        sym (object_at-with_object_other (one_bucket bucket) bucket first_key (object_of content) bucket second_key (other_key 120 121 (λ e. absurd (omega arith)) bucket bucket))
        ∙ sym (object_at-with_object_other start bucket stored_key (object_of bytes) bucket second_key (other_key 117 121 (λ e. absurd (omega arith)) bucket bucket)) ∙ at

in_vain : (answered : Reply) (b : List ℕ) (new : State) → Succeeds limits stored second_get [] answered b new → ⊥
in_vain (reply.Got status range size) b new h = nothing_there h.0 h.1.held
in_vain answered b new h = h

pub willing : IsWilling limits start trace
willing = (tt, (tt, ((λ ranged whole. ranged), (tt, (tt, (tt, ((λ ranged whole. ranged), (tt, (tt, (tt, (((λ answered b new succeeds. in_vain answered b new succeeds), tt), (tt, tt))))))))))))

-- ---- each answer is certain

pub success_uncertain : (answered : Reply) (why : Why) → class.Success answered ≡ class.Uncertain why → ⊥
success_uncertain answered why e = cc

pub refusal_uncertain : (code message : List ℕ) (why : Why) → class.Refusal code message ≡ class.Uncertain why → ⊥
refusal_uncertain code message why e = cc

-- ---- the first download is there

pub first_is_there : IsDownloadThere plan start 1 first_load
first_is_there = record {
  there = λ b k is_source. (
    object_of content,
    record { held = subst (λ (key : List ℕ). object_at start b key ≡ Some (object_of content)) is_source.1 (subst (λ (in_bucket : List ℕ). object_at start in_bucket first_key ≡ Some (object_of content)) is_source.0 (object_at-with_object (one_bucket bucket) bucket first_key (object_of content))); etag = refl },
    refl,
  );
  no_dest = λ m other b k at is_source. of_plan (λ (n : ℕ) (task : Task). IsObject task.dest b k → ⊥)
      (λ dest. other_key 117 120 (λ e. absurd (omega arith)) b b (refl, dest.1 ∙ sym is_source.1)) (λ dest. dest) (λ dest. dest) (λ dest. dest) m other at;
  moved_once = λ m other b k at is_source moves from. absurd (still m other at moves);
}

-- ---- no call on files decides an outcome

failed_is : (a b : Cause) → outcome.Failed a ≡ outcome.Failed b → a ≡ b
failed_is a b e = cc

done_is_no_failure : (why : Cause) → outcome.Done ≡ outcome.Failed why → ⊥
done_is_no_failure why e = cc

pub none_by_call : (n : ℕ) (why : Cause) → slice_get shown.outcomes n ≡ Some (outcome.Failed why) → HasFailedCall calls n why → ⊥
none_by_call n why at failed = slot (λ (k : ℕ) (how : Outcome). how ≡ outcome.Failed why → HasFailedCall calls k why → ⊥) shown.outcomes (
  (λ e f. done_is_no_failure why e),
  (
    (λ e f. done_is_no_failure why e),
    ((λ e f. subst (λ (w : Cause). HasFailedCall calls 2 w) (sym (failed_is (cause.Service op.Get denied []) why e)) f), ((λ e f. done_is_no_failure why e), tt)),
  ),
) n (outcome.Failed why) at refl failed

-- the one attempt of a job
pub one_attempt : (only attempt : Attempt) (place : ℕ) → slice_get (only ∷ []) place ≡ Some attempt → only ≡ attempt
one_attempt only attempt zero at = some_is only attempt at
one_attempt only attempt (suc place) at = absurd (none_is_some attempt at)
