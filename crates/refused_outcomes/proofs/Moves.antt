-- A moved copy whose Delete was lost is copied, for that loss, and not done.
use Rattle.std.proofs.Common.{◌≡◌, ◌++◌, ℕ, false, List, [], ◌∷◌, Some, refl, sym, subst, inl, inr, map, Contains}
use Rattle.std.proofs.lemmas.List.Sorted.{IsPermutation-sym, Contains-permutation}
use Rattle.s3_model.specs.declared.answers.Class.{Class}
use Rattle.s3_model.specs.declared.answers.Class.TheVariants as class
use Rattle.s3_model.specs.declared.answers.Listed.{Listed}
use Rattle.s3_model.specs.declared.answers.Reply.{Reply}
use Rattle.s3_model.specs.declared.answers.Why.{Why}
use Rattle.s3_model.specs.declared.answers.Why.TheVariants as why
use Rattle.s3_model.specs.declared.outcomes.Cause.{Cause}
use Rattle.s3_model.specs.declared.outcomes.Cause.TheVariants as cause
use Rattle.s3_model.specs.declared.outcomes.Outcome.{Outcome}
use Rattle.s3_model.specs.declared.outcomes.Outcome.TheVariants as outcome
use Rattle.s3_model.specs.declared.requests.Ask.{Ask}
use Rattle.s3_model.specs.declared.requests.Op.{Op}
use Rattle.s3_model.specs.declared.requests.Op.TheVariants as op
use Rattle.s3_model.specs.declared.tries.Mark.TheVariants as mark
use Rattle.s3_model.specs.declared.outcomes.FileCall.TheVariants as call
use Rattle.s3_model.specs.Talks.{Talk}
use Rattle.job_terms.specs.Dispatches.{Dispatch, Dispatched, dispatches, last_of}
use Rattle.run_promise.specs.Outcomes.{FailsFirstBy, HasOutcome, IsLastCause, OnlyDeleteFailed}
use Rattle.run_promise.specs.Schedule.{HasReply, IsSchedule}
use Rattle.shared_lemmas.proofs.Clashes.{false_true as never}
use Rattle.shared_lemmas.proofs.Members.{has-map}
use Rattle.promise_examples.specs.Everything.{copy, create_job, part_job, complete_job, copy_job, delete_again, delete_job, eventful_run}
use Rattle.promise_examples.specs.Everything as everything
use Rattle.promise_examples.specs.Reading.{Reads, HasNoStatus, NeverFailed}
use Rattle.promise_examples.proofs.Concrete.{contains_of, each_has, has, has_middle}
use Rattle.promise_examples.proofs.Readings.{uncertain_success}
use Rattle.promise_examples.proofs.Repeats.{other_job}
use Rattle.promise_examples.proofs.Shown.{made}
use Rattle.refused_outcomes.specs.Moves.{EachMoveIsRefused, MovesAreRefused, delete_lost}

lost_is : (of_op : Op) (reason : Why) → of_op ≡ op.Delete → class.Uncertain why.WireFailed ≡ class.Uncertain reason → cause.Lost of_op reason ≡ delete_lost
lost_is of_op reason is same = cc

lost_refused : (code message : List ℕ) → class.Uncertain why.WireFailed ≡ class.Refusal code message → ⊥
lost_refused code message e = cc

lost_answered : (said : Reply) → class.Uncertain why.WireFailed ≡ class.Success said → ⊥
lost_answered said e = cc

copy_is_lost : cause.Lost op.Copy why.WireFailed ≡ delete_lost → ⊥
copy_is_lost e = cc

reply_is_lost : cause.BadReply op.Copy ≡ delete_lost → ⊥
reply_is_lost e = cc

-- the Delete, lost at both attempts
abbrev lost_delete : Dispatch
lost_delete = record {
  job = delete_job;
  lane = 1;
  given_at = 9;
  came_at = Some 10;
  earlier = 0;
  is_second = false;
  attempts = record { mark = mark.Uncertain; talk = everything.delete_lost } ∷ record { mark = mark.Uncertain; talk = delete_again } ∷ [];
}

abbrev given : List Dispatch
given = dispatches eventful_run.journal eventful_run.logs

module _ (page_of : List ℕ → Listed) where
  abbrev Shows : Ask → ℕ → Talk → Class → List ℕ → Type 0
  Shows = Reads page_of

  -- a member of the reading is one of what was given
  is_given : (dispatched : List Dispatched) (c : Dispatched) → map (λ (d : Dispatched). d.dispatch) dispatched ≡ given → Contains dispatched c → (P : Dispatch → Type 0) → ((d : Dispatch) → Contains given d → P d) → P c.dispatch
  is_given dispatched c shown known P all =
      all c.dispatch (subst (λ (ds : List Dispatch). Contains ds c.dispatch) shown (contains_of (map (λ (d : Dispatched). d.dispatch) dispatched) c.dispatch (has-map (λ (d : Dispatched). d.dispatch) dispatched c (has dispatched c known))))

  -- what holds of a Delete that was lost, as a job of the run that is the Delete of the move
  only_delete : (P : Dispatch → Type 0) → P lost_delete → (d : Dispatch) → Contains given d → d.job ≡ delete_job → P d
  only_delete P holds d known is = each_has (λ (x : Dispatch). x.job ≡ delete_job → P x) given
      ((λ e. absurd (other_job create_job delete_job refl e)), ((λ e. absurd (other_job copy_job delete_job refl e)), ((λ e. absurd (other_job (part_job 1) delete_job refl e)), ((λ e. absurd (other_job (part_job 2) delete_job refl e)), ((λ e. absurd (other_job (part_job 1) delete_job refl e)), ((λ e. holds), ((λ e. absurd (other_job complete_job delete_job refl e)), tt)))))))
      d (has given d known) is

  abbrev Shown : List Dispatched → Type 0
  Shown dispatched = map (λ (d : Dispatched). d.dispatch) dispatched ≡ given

  not_deleted : (dispatched : List Dispatched) (c : Dispatched) (answered : Reply) → Shown dispatched → Contains dispatched c → c.dispatch.job ≡ delete_job → HasReply Shows c (last_of c.dispatch.attempts) answered → ⊥
  not_deleted dispatched c answered shown known is reply =
      is_given dispatched c shown known (λ (d : Dispatch). d.job ≡ delete_job → HasReply Shows (made d c.ask c.body c.limit c.size) (last_of d.attempts) answered → ⊥)
      (λ d among e. only_delete (λ (x : Dispatch). HasReply Shows (made x c.ask c.body c.limit c.size) (last_of x.attempts) answered → ⊥) (λ said. uncertain_success said.0) d among e) is reply

  -- the lost Delete shows its loss and nothing else
  shows_loss : (asked : Ask) (body : List ℕ) (limit size : ℕ) (reason : Cause) → IsLastCause Shows HasNoStatus (made lost_delete asked body limit size) reason → reason ≡ delete_lost
  shows_loss asked body limit size (cause.Service of_op said message) is = absurd (lost_refused said message is.1.1.0)
  shows_loss asked body limit size (cause.Lost of_op reason) is = lost_is of_op reason is.0 is.3.0
  shows_loss asked body limit size cause.Changed is = absurd is.0
  shows_loss asked body limit size (cause.BadReply of_op) is = absurd (lost_answered is.1 is.3.0)
  shows_loss asked body limit size other is = absurd is

  module _ (dispatched coming : List Dispatched) (schedule : IsSchedule Shows eventful_run.setting (λ planning. planning ≡ []) dispatched coming) (shown : Shown dispatched) where
    abbrev Is : Outcome → Type 0
    Is how = HasOutcome Shows HasNoStatus NeverFailed eventful_run.setting dispatched coming 1 copy how

    first_by : (reason : Cause) → FailsFirstBy Shows HasNoStatus NeverFailed eventful_run.setting dispatched coming 1 reason → OnlyDeleteFailed Shows HasNoStatus NeverFailed eventful_run.setting dispatched coming 1 → reason ≡ delete_lost
    first_by reason by only =
        is_given dispatched by.0 shown (came by.0 by.1.0.0.0 by.1.0.0.1 by.1.0.0.2) (λ (d : Dispatch). d.job ≡ delete_job → IsLastCause Shows HasNoStatus (made d by.0.ask by.0.body by.0.limit by.0.size) reason → reason ≡ delete_lost)
        (λ d among e. only_delete (λ (x : Dispatch). IsLastCause Shows HasNoStatus (made x by.0.ask by.0.body by.0.limit by.0.size) reason → reason ≡ delete_lost) (shows_loss by.0.ask by.0.body by.0.limit by.0.size reason) d among e)
        (only by.0 by.1.0) by.2
      where
        came : (c : Dispatched) (front later : List Dispatched) → coming ≡ front ++ c ∷ later → Contains dispatched c
        came c front later e = Contains-permutation coming dispatched c (IsPermutation-sym dispatched coming schedule.is_coming) (subst (λ (xs : List Dispatched). Contains xs c) (sym e) (contains_of (front ++ c ∷ later) c (has_middle front c later)))

    copied : (reason : Cause) → Is (outcome.Copied reason) → reason ≡ delete_lost
    copied cause.Memory how = absurd (never how.3)
    copied (cause.Files call.Remove) how = absurd how.3.0
    copied (cause.Files other) how = absurd how.3
    copied (cause.Blocked length) how = absurd how.3
    copied (cause.Cancelled reason) how = absurd (never how.3.0)
    copied cause.Changed how = absurd how.3
    copied (cause.Service of_op code message) how = first_by (cause.Service of_op code message) how.3.0 how.4
    copied (cause.Lost of_op reason) how = first_by (cause.Lost of_op reason) how.3 how.4
    copied (cause.BadReply of_op) how = first_by (cause.BadReply of_op) how.3 how.4

    done : Is outcome.Done → ⊥
    done how = let deleted = how.2 refl tt in not_deleted dispatched deleted.1.0 deleted.0 shown deleted.1.1 deleted.1.2 deleted.1.3

  moves : MovesAreRefused page_of
  moves = record {
    done = λ dispatched coming schedule carried how. done dispatched coming schedule carried.shown how;
    other_cause = λ reason differs dispatched coming schedule carried how. differs (copied dispatched coming schedule carried.shown reason how);
    copy_lost = λ dispatched coming schedule carried how. copy_is_lost (copied dispatched coming schedule carried.shown _ how);
    bad_copy = λ dispatched coming schedule carried how. reply_is_lost (copied dispatched coming schedule carried.shown _ how);
    dry = λ dispatched coming schedule carried how. never how;
    skipped = λ dispatched coming schedule carried how. elim how.1 [ inl by_request ↦ never by_request.0 | inr by_file ↦ never by_file.0 ];
  }

pub each_move_is_refused : EachMoveIsRefused
each_move_is_refused page_of = moves page_of
