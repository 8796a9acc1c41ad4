-- Runs that meet the premises of the laws.
use Rattle.std.proofs.Common.{Contains, ◌≡◌, ◌∙◌, ℕ, zero, suc, true, false, List, [], ◌∷◌, Option, Some, None, refl, sym, ap, subst, inl, inr, arith}
use Rattle.std.specs.FinMap.{insert}
use Rattle.s3_model.specs.declared.requests.Ask.{Ask}
use Rattle.s3_model.specs.declared.requests.Ask.TheVariants as ask
use Rattle.s3_model.specs.declared.requests.Op.TheVariants as op
use Rattle.s3_model.specs.declared.outcomes.JobId.{JobId}
use Rattle.s3_model.specs.declared.settings.Limits.{Limits}
use Rattle.s3_service.specs.ServiceState.{State, objects_in, HasBucket, with_object, without_object}
use Rattle.s3_service.specs.Serves.{MayChange, IsThere}
use Rattle.job_terms.specs.Dispatches.{Attempt, Dispatched}
use Rattle.job_terms.specs.Ops.{op_number}
use Rattle.run_promise.specs.Schedule.{IsBefore}
use Rattle.job_terms.specs.Jobs.{job_of}
use Rattle.run_promise.specs.Fits.{request_at}
use Rattle.shared_lemmas.proofs.Clashes.{false_true}
use Rattle.shared_lemmas.proofs.Members.{contains_of, Has, has}
use Rattle.run_promise.specs.Traces.{SentRequest, Begin, events_of}
use Rattle.world_laws.specs.Moves.{IsGivenAfter}
use Rattle.world_laws.specs.Premises.{HasSucceeded, IsPlace, AllRefused}
use Rattle.run_promise.specs.Runs.{Run}
use Rattle.world_laws.specs.Destinations.{AllThatChange, Requests}
use Rattle.world_laws.specs.Frame.{IsAskedOf}
use Rattle.world_laws.specs.SmallTransfers.{AsksPut, AsksCopy, AsksDelete}
use Rattle.world_laws.specs.Rounds.{Told, Round, reply_to, body_by, class_by, ending_by, attempt_of, dispatch_at, dispatched_from, journal_of, AreServed}
use Rattle.world_laws.specs.Witnesses.{IsMet, IsDestMet, UploadIsMet, CopyIsMet, DeleteIsMet, RefusalIsMet, IsMoveMet, FrameIsMet, MoveIsMet, WasMade}
use Rattle.world_laws.proofs.Objects.{object_at-with_object}
use Rattle.world_laws.proofs.Rounds.{AreApart, rounds_given, rounds_come}
use Rattle.world_laws.proofs.Faithful.{IsFaithful, AreFaithful, object_of, bare, bare_is_faithful, bare_has, faithful_with, faithful_without, run_by, has_bucket_after, has_bucket_still, rounds_fitting, rounds_whole, rounds_unwritten}

-- a request that is answered with success
abbrev pub round : JobId → Ask → List ℕ → List ℕ → State → Round
round job asked body got after = record { job = job; ask = asked; body = body; refused = false; got = got; size = 0; after = after }

abbrev pub succeeds : (place : ℕ) (r : Round) → r.refused ≡ false → HasSucceeded Told (dispatch_at place r)
succeeds place r not_refused = record {
  place = 0;
  attempt = attempt_of r;
  reply = reply_to r.ask r.got r.size;
  bytes = body_by r.ask r.got;
  is_attempt = refl;
  shows = (sym (ap (λ refused. class_by (ending_by refused) r.ask r.got r.size) not_refused), refl);
}

unfoldable pub met : (limits : Limits) (bucket key : List ℕ) (AreOurs : Requests) (start : State) (rounds : List Round) → AreServed limits start rounds → AreApart rounds → IsFaithful start → AreFaithful rounds
    → AreOurs (journal_of rounds) (dispatched_from 0 rounds) → (place : ℕ) (r : Round) → r.refused ≡ false → Has (dispatched_from 0 rounds) (dispatch_at place r) → MayChange r.ask bucket key
    → IsDestMet limits bucket key AreOurs
met limits bucket key AreOurs start rounds served apart first all ours place r not_refused known may = record {
  run = run_by start rounds;
  fitting = rounds_fitting limits start rounds served apart first all (IsPlace bucket key);
  such = record {
    given = rounds_given rounds start apart;
    whole = rounds_whole limits start rounds served apart first all;
    ours = ours;
    success = record {
      request = dispatch_at place r;
      known = contains_of (dispatched_from 0 rounds) (dispatch_at place r) known;
      may = may;
      come = rounds_come rounds start apart (dispatch_at place r) known;
      succeeded = succeeds place r not_refused;
    };
  };
}

-- one round is apart
pub alone : (r : Round) → AreApart (r ∷ [])
alone r = (λ other h. absurd h, tt)

-- what holds of one dispatch holds of all where there is one
of_one : (bucket key : List ℕ) (IsSuch : Dispatched → Type 0) (one : Dispatched) → IsSuch one → AllThatChange bucket key IsSuch (one ∷ [])
of_one bucket key IsSuch one such c known may = which (has (one ∷ []) c known)
  where
    which : Has (one ∷ []) c → IsSuch c
    which (inl e) = subst IsSuch e such
    which (inr h) = absurd h

-- ---- small requests

module _ (limits : Limits) (bucket key body : List ℕ) where
  abbrev put : Round
  put = round (job_of 0 op.Put 0) (ask.Put bucket key None false) body [] (with_object (bare (bucket ∷ [])) bucket key (object_of body))

  put_is_met : IsDestMet limits bucket key (λ journal dispatched. AllThatChange bucket key (AsksPut bucket key body) dispatched)
  put_is_met =
      met limits bucket key (λ journal dispatched. AllThatChange bucket key (AsksPut bucket key body) dispatched) (bare (bucket ∷ [])) (put ∷ []) ((bare_has bucket [], λ never. absurd (false_true never), (object_of body, refl, refl)), tt) (alone put)
      (bare_is_faithful (bucket ∷ [])) (faithful_with (bare (bucket ∷ [])) bucket key body (bare_is_faithful (bucket ∷ [])), tt)
      (of_one bucket key (AsksPut bucket key body) (dispatch_at 0 put) (None, false, refl, refl)) 0 put refl (inl refl) (refl, refl)

pub upload_is_met : UploadIsMet
upload_is_met limits bucket key body = put_is_met limits bucket key body

module _ (limits : Limits) (bucket key from_bucket from_key etag : List ℕ) where
  -- both buckets, and the source
  abbrev pub two_buckets : State
  two_buckets = bare (bucket ∷ from_bucket ∷ [])

  abbrev pub with_source : State
  with_source = with_object two_buckets from_bucket from_key (object_of etag)

  pub source_is_there : IsThere with_source from_bucket from_key etag (object_of etag)
  source_is_there = record { held = object_at-with_object two_buckets from_bucket from_key (object_of etag); etag = refl }

  pub bucket_is_there : HasBucket with_source bucket
  bucket_is_there = has_bucket_still two_buckets from_bucket (insert (objects_in two_buckets from_bucket) from_key (object_of etag)) bucket (bare_has bucket (from_bucket ∷ []))

  pub source_is_faithful : IsFaithful with_source
  source_is_faithful = faithful_with two_buckets from_bucket from_key etag (bare_is_faithful (bucket ∷ from_bucket ∷ []))

  abbrev pub copied : State
  copied = with_object with_source bucket key (object_of etag)

  abbrev pub copy : Round
  copy = round (job_of 0 op.Copy 0) (ask.Copy bucket key from_bucket from_key etag) [] [] copied

  copy_is_met : IsDestMet limits bucket key (λ journal dispatched. AllThatChange bucket key (AsksCopy bucket key from_bucket from_key etag) dispatched)
  copy_is_met =
      met limits bucket key (λ journal dispatched. AllThatChange bucket key (AsksCopy bucket key from_bucket from_key etag) dispatched) with_source (copy ∷ [])
      ((object_of etag, source_is_there, bucket_is_there, (object_of etag, refl, refl)), tt) (alone copy)
      source_is_faithful (faithful_with with_source bucket key etag source_is_faithful, tt) (of_one bucket key (AsksCopy bucket key from_bucket from_key etag) (dispatch_at 0 copy) refl) 0 copy refl (inl refl) (refl, refl)

pub copies_is_met : CopyIsMet
copies_is_met limits bucket key from_bucket from_key etag = copy_is_met limits bucket key from_bucket from_key etag

module _ (limits : Limits) (bucket key : List ℕ) where
  abbrev pub one_bucket : State
  one_bucket = bare (bucket ∷ [])

  abbrev delete : Round
  delete = round (job_of 0 op.Delete 0) (ask.Delete bucket key) [] [] (without_object one_bucket bucket key)

  deletes : IsDestMet limits bucket key (λ journal dispatched. AllThatChange bucket key (AsksDelete bucket key) dispatched)
  deletes =
      met limits bucket key (λ journal dispatched. AllThatChange bucket key (AsksDelete bucket key) dispatched) one_bucket (delete ∷ []) ((bare_has bucket [], refl), tt) (alone delete) (bare_is_faithful (bucket ∷ []))
      (faithful_without one_bucket bucket key (bare_is_faithful (bucket ∷ [])), tt) (of_one bucket key (AsksDelete bucket key) (dispatch_at 0 delete) refl) 0 delete refl (inl refl) (refl, refl)

  -- ---- a refusal

  abbrev pub refused_delete : Round
  refused_delete = record { job = job_of 0 op.Delete 0; ask = ask.Delete bucket key; body = []; refused = true; got = []; size = 0; after = one_bucket }

  pub is_refused : AllRefused Told (dispatch_at 0 refused_delete)
  is_refused zero attempt slot = ([], [], [], (ap (λ (a : Attempt). class_by a.talk.ending (ask.Delete bucket key) a.talk.got a.talk.port) (first_is attempt slot), refl))
    where
      some_is : (a b : Attempt) → Some a ≡ Some b → b ≡ a
      some_is a b e = cc

      first_is : (a : Attempt) → Some (attempt_of refused_delete) ≡ Some a → attempt_of refused_delete ≡ a
      first_is a e = sym (some_is (attempt_of refused_delete) a e)
  is_refused (suc place) attempt slot = absurd (none_is attempt slot)
    where
      none_is : (a : Attempt) → ◌≡◌ {A = Option Attempt} None (Some a) → ⊥
      none_is a e = cc

  refused : IsMet limits (IsPlace bucket key)
      (λ (run : Run). AllThatChange bucket key (AllRefused Told) run.dispatched × ((c : Dispatched) × Contains run.dispatched c × MayChange c.ask bucket key × WasMade c))
  refused = record {
    run = run_by one_bucket (refused_delete ∷ []);
    fitting = rounds_fitting limits one_bucket (refused_delete ∷ []) ((refl, tt), tt) (alone refused_delete) (bare_is_faithful (bucket ∷ [])) (bare_is_faithful (bucket ∷ []), tt) (IsPlace bucket key);
    such = (of_one bucket key (AllRefused Told) (dispatch_at 0 refused_delete) is_refused, (dispatch_at 0 refused_delete, (0, omega arith, refl), (refl, refl), omega arith));
  }

pub delete_is_met : DeleteIsMet
delete_is_met limits bucket key = deletes limits bucket key

pub refusal_is_met : RefusalIsMet
refusal_is_met limits bucket key = refused limits bucket key

-- ---- an object apart

pub frame_is_met : FrameIsMet
frame_is_met limits bucket key other apart = record {
  run = run_by (bare (bucket ∷ [])) (put limits bucket other [] ∷ []);
  fitting = rounds_fitting limits (bare (bucket ∷ [])) (put limits bucket other [] ∷ []) ((bare_has bucket [], λ never. absurd (false_true never), (object_of [], refl, refl)), tt) (alone (put limits bucket other [])) (bare_is_faithful (bucket ∷ []))
      (faithful_with (bare (bucket ∷ [])) bucket other [] (bare_is_faithful (bucket ∷ [])), tt) (IsPlace bucket key);
  such = record {
    request = dispatch_at 0 (put limits bucket other []);
    known = (0, omega arith, refl);
    unasked = λ asked. elsewhere asked.0 (has (dispatched_from 0 (put limits bucket other [] ∷ [])) asked.0 asked.1) asked.2;
    unwritten = rounds_unwritten limits (bare (bucket ∷ [])) (put limits bucket other [] ∷ []) ((bare_has bucket [], λ never. absurd (false_true never), (object_of [], refl, refl)), tt) (alone (put limits bucket other [])) (bare_is_faithful (bucket ∷ []))
        (faithful_with (bare (bucket ∷ [])) bucket other [] (bare_is_faithful (bucket ∷ [])), tt) bucket key;
  };
}
  where
    elsewhere : (c : Dispatched) → Has (dispatched_from 0 (put limits bucket other [] ∷ [])) c → MayChange c.ask bucket key → ⊥
    elsewhere c (inl e) may = let changes : MayChange (ask.Put bucket other None false) bucket key = subst (λ (d : Dispatched). MayChange d.ask bucket key) (sym e) may in apart changes.1
    elsewhere c (inr h) may = h

-- ---- a move

-- a run with a success for an object, and a later Delete of another that begins
pub moved_by : (limits : Limits) (bucket key from_bucket from_key : List ℕ) (AreOurs : Requests) (done : IsDestMet limits bucket key AreOurs) (sent : SentRequest)
    → IsGivenAfter done.such.success.request (job_of 0 op.Delete 0) done.run.dispatched → Contains (events_of done.run.trace) (Begin 0 sent) → sent.job ≡ job_of 0 op.Delete 0
    → sent.ask ≡ ask.Delete from_bucket from_key → IsMoveMet limits bucket key from_bucket from_key AreOurs
moved_by limits bucket key from_bucket from_key AreOurs done sent waits begins of_job deletes = record {
  run = done.run;
  fitting = done.fitting;
  such = record { copy = done.such; job = job_of 0 op.Delete 0; waits = waits; lane = 0; sent = sent; begins = begins; of_job = of_job; deletes = deletes };
}

-- jobs of different numbers of their op, or of different numbers, are apart
pub by_op : (a b : JobId) → a ≡ b → op_number a.op ≡ op_number b.op
by_op a b e = ap (λ (j : JobId). op_number j.op) e

copy_delete : job_of 0 op.Copy 0 ≡ job_of 0 op.Delete 0 → ⊥
copy_delete e = let level : ◌≡◌ {A = ℕ} 3 4 = by_op (job_of 0 op.Copy 0) (job_of 0 op.Delete 0) e in absurd (omega arith)

module _ (limits : Limits) (bucket key from_bucket from_key etag : List ℕ) (apart : (from_bucket ≡ bucket) × (from_key ≡ key) → ⊥) where
  abbrev pub source_gone : Round
  source_gone = round (job_of 0 op.Delete 0) (ask.Delete from_bucket from_key) [] [] (without_object (copied limits bucket key from_bucket from_key etag) from_bucket from_key)

  abbrev pub move : List Round
  move = copy limits bucket key from_bucket from_key etag ∷ source_gone ∷ []

  -- only the copy changes the destination
  copy_alone : AllThatChange bucket key (AsksCopy bucket key from_bucket from_key etag) (dispatched_from 0 move)
  copy_alone c known may = which (has (dispatched_from 0 move) c known)
    where
      which : Has (dispatched_from 0 move) c → AsksCopy bucket key from_bucket from_key etag c
      which (inl e) = sym (ap (λ (d : Dispatched). d.ask) e)
      which (inr (inl e)) = absurd (apart (subst (λ (d : Dispatched). MayChange d.ask bucket key) (sym e) may))
      which (inr (inr h)) = absurd h

  pub move_served : AreServed limits (with_source limits bucket key from_bucket from_key etag) move
  move_served = (
    (object_of etag, source_is_there limits bucket key from_bucket from_key etag, bucket_is_there limits bucket key from_bucket from_key etag, (object_of etag, refl, refl)),
    (
      (
        has_bucket_still (with_source limits bucket key from_bucket from_key etag) bucket
            (insert (objects_in (with_source limits bucket key from_bucket from_key etag) bucket) key (object_of etag)) from_bucket
            (has_bucket_after (two_buckets limits bucket key from_bucket from_key etag) from_bucket (insert (objects_in (two_buckets limits bucket key from_bucket from_key etag) from_bucket) from_key (object_of etag))),
        refl,
      ),
      tt,
    ),
  )

  pub move_apart : AreApart move
  move_apart = ((λ other h. which other h), alone source_gone)
    where
      which : (other : Round) → Has (source_gone ∷ []) other → job_of 0 op.Copy 0 ≡ other.job → ⊥
      which other (inl e) same = copy_delete (same ∙ sym (ap (λ (r : Round). r.job) e))
      which other (inr h) same = h

  pub copied_is_faithful : IsFaithful (copied limits bucket key from_bucket from_key etag)
  copied_is_faithful = faithful_with (with_source limits bucket key from_bucket from_key etag) bucket key etag (source_is_faithful limits bucket key from_bucket from_key etag)

  abbrev done : IsDestMet limits bucket key (λ journal dispatched. AllThatChange bucket key (AsksCopy bucket key from_bucket from_key etag) dispatched)
  done = met limits bucket key (λ journal dispatched. AllThatChange bucket key (AsksCopy bucket key from_bucket from_key etag) dispatched) (with_source limits bucket key from_bucket from_key etag) move move_served move_apart
      (source_is_faithful limits bucket key from_bucket from_key etag) (copied_is_faithful, (faithful_without (copied limits bucket key from_bucket from_key etag) from_bucket from_key copied_is_faithful, tt)) copy_alone
      0 (copy limits bucket key from_bucket from_key etag) refl (inl refl) (refl, refl)

  moves : IsMoveMet limits bucket key from_bucket from_key (λ journal dispatched. AllThatChange bucket key (AsksCopy bucket key from_bucket from_key etag) dispatched)
  unfolding met
  moves =
      moved_by limits bucket key from_bucket from_key (λ journal dispatched. AllThatChange bucket key (AsksCopy bucket key from_bucket from_key etag) dispatched) done (request_at (dispatch_at 2 source_gone) 0)
      (λ d known same. later d (has (dispatched_from 0 move) d known) same) (5, omega arith, refl) refl refl
    where
      later : (d : Dispatched) → Has (dispatched_from 0 move) d → d.dispatch.job ≡ job_of 0 op.Delete 0 → IsBefore (Some 1) d.dispatch.given_at
      later d (inl e) same = absurd (copy_delete (ap (λ (x : Dispatched). x.dispatch.job) e ∙ same))
      later d (inr (inl e)) same = subst (λ (x : Dispatched). IsBefore (Some 1) x.dispatch.given_at) e (omega arith)
      later d (inr (inr h)) same = absurd h

pub move_is_met : MoveIsMet
move_is_met limits bucket key from_bucket from_key etag apart = moves limits bucket key from_bucket from_key etag apart
