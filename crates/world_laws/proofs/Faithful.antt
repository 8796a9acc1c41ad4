-- Rounds over states in which each object's ETag is its content: such a trace is honest.
use Rattle.std.proofs.Common.{◌≡◌, ◌∙◌, ◌+◌, ℕ, List, [], ◌∷◌, Option, Some, None, refl, sym, ap, subst, inl, inr, unwrap_or}
use Rattle.std.proofs.lemmas.List.{append-nil}
use Rattle.std.specs.Prelude.{IsSome}
use Rattle.std.specs.Ordering.{nat_cmp}
use Rattle.std.specs.Cmp.Lexicographic.{slice_cmp, nat_list_cmp_total}
use Rattle.std.specs.FinMap.{get, insert, empty, get-empty}
use Rattle.s3_model.specs.declared.settings.Limits.{Limits}
use Rattle.s3_model.specs.Maps.{MapOf}
use Rattle.s3_service.specs.ServiceState.{objects_in, State, Object, object_at, HasBucket, with_object, without_object}
use Rattle.s3_service.specs.Serves.{ExternalWrite, Writes, Removes}
use Rattle.run_promise.specs.Traces.{Given, Begin, Serve, External, Came, states, events_of}
use Rattle.run_promise.specs.Truthful.{IsExternal}
use Rattle.run_promise.specs.Runs.{HasJournal, Run, IsFitting}
use Rattle.shared_lemmas.proofs.Clashes.{some_is}
use Rattle.shared_lemmas.proofs.Maps.{found_after_insert, found_in_empty, get-insert_other, get-insert_same, not_both, text_decided, text_exact}
use Rattle.shared_lemmas.proofs.Members.{Has, has}
use Rattle.world_laws.specs.Rounds.{Told, Round, dispatched_from, journal_of, steps_from, AreServed}
use Rattle.world_laws.proofs.Objects.{place_decided, object_at-with_object, object_at-with_object_other, object_at-without_object, object_at-without_object_other}
use Rattle.world_laws.proofs.Rounds.{AreApart, rounds_trace, rounds_fit}

-- each object's ETag is its content
abbrev pub IsFaithful : State → Type 0
IsFaithful t = (bucket key : List ℕ) (object : Object) → object_at t bucket key ≡ Some object → object.etag ≡ object.bytes

-- the object with these bytes, under themselves
abbrev pub object_of : List ℕ → Object
object_of bytes = record { bytes = bytes; etag = bytes; micros = 0 }

pub faithful_with : (t : State) (bucket key bytes : List ℕ) → IsFaithful t → IsFaithful (with_object t bucket key (object_of bytes))
faithful_with t bucket key bytes was b k object e = elim (place_decided bucket key b k) [
  | inl here ↦
      let is : object_at (with_object t bucket key (object_of bytes)) b k ≡ Some (object_of bytes) =
      subst (λ (x : List ℕ). object_at (with_object t bucket key (object_of bytes)) b x ≡ Some (object_of bytes)) here.1
      (subst (λ (x : List ℕ). object_at (with_object t bucket key (object_of bytes)) x key ≡ Some (object_of bytes)) here.0 (object_at-with_object t bucket key (object_of bytes))) in
      let same : object_of bytes ≡ object = some_is (object_of bytes) object (sym is ∙ e) in
      sym (ap (λ (o : Object). o.etag) same) ∙ ap (λ (o : Object). o.bytes) same
  | inr apart ↦ was b k object (sym (object_at-with_object_other t bucket key (object_of bytes) b k apart) ∙ e)
]

pub faithful_without : (t : State) (bucket key : List ℕ) → IsFaithful t → IsFaithful (without_object t bucket key)
faithful_without t bucket key was b k object e = elim (place_decided bucket key b k) [
  | inl here ↦
      let is : object_at (without_object t bucket key) b k ≡ None =
      subst (λ (x : List ℕ). object_at (without_object t bucket key) b x ≡ None) here.1
      (subst (λ (x : List ℕ). object_at (without_object t bucket key) x key ≡ None) here.0 (object_at-without_object t bucket key)) in
      absurd (not_both (object_at (without_object t bucket key) b k) object is e)
  | inr apart ↦ was b k object (sym (object_at-without_object_other t bucket key b k apart) ∙ e)
]

-- ---- states without objects

buckets_of : List (List ℕ) → MapOf (MapOf Object)
buckets_of [] = empty
buckets_of (bucket ∷ buckets) = insert (buckets_of buckets) bucket empty

-- a service with these buckets, and nothing in them
pub bare : List (List ℕ) → State
bare buckets = record { objects = buckets_of buckets; uploads = empty; ended = empty; tokens = empty }

all_empty : (buckets : List (List ℕ)) (bucket : List ℕ) (inner : MapOf Object) → get (buckets_of buckets) bucket ≡ Some inner → inner ≡ empty
unfolding buckets_of
all_empty [] bucket inner e = absurd (found_in_empty (slice_cmp nat_cmp) bucket inner e)
all_empty (b ∷ buckets) bucket inner e = elim (found_after_insert nat_list_cmp_total text_exact (buckets_of buckets) b empty bucket inner e) [
  | inl now ↦ sym now.1
  | inr before ↦ all_empty buckets bucket inner before
]

pub bare_objects : (bucket : List ℕ) (buckets : List (List ℕ)) → objects_in (bare (bucket ∷ buckets)) bucket ≡ empty
unfolding bare buckets_of
bare_objects bucket buckets = ap (λ (found : Option (MapOf Object)). unwrap_or found empty) (get-insert_same nat_list_cmp_total text_exact (buckets_of buckets) bucket empty)

pub bare_is_faithful : (buckets : List (List ℕ)) → IsFaithful (bare buckets)
unfolding bare
bare_is_faithful buckets bucket key object e = in_bucket (get (buckets_of buckets) bucket) (all_empty buckets bucket) e
  where
    in_bucket : (found : Option (MapOf Object)) → ((inner : MapOf Object) → found ≡ Some inner → inner ≡ empty) → get (unwrap_or found empty) key ≡ Some object → object.etag ≡ object.bytes
    in_bucket None each f = absurd (found_in_empty (slice_cmp nat_cmp) key object f)
    in_bucket (Some inner) each f = absurd (found_in_empty (slice_cmp nat_cmp) key object (ap (λ (m : MapOf Object). get m key) (sym (each inner refl)) ∙ f))

pub bare_uploads : (buckets : List (List ℕ)) (id : List ℕ) → get (bare buckets).uploads id ≡ None
unfolding bare
bare_uploads buckets id = get-empty (slice_cmp nat_cmp) id

pub bare_ended : (buckets : List (List ℕ)) (id : List ℕ) → get (bare buckets).ended id ≡ None
unfolding bare
bare_ended buckets id = get-empty (slice_cmp nat_cmp) id

pub is_some : {V : Type 0} (found : Option V) (v : V) → found ≡ Some v → IsSome found
is_some None v e = cc
is_some (Some w) v e = refl

pub bare_has : (bucket : List ℕ) (buckets : List (List ℕ)) → HasBucket (bare (bucket ∷ buckets)) bucket
unfolding bare buckets_of
bare_has bucket buckets = is_some (get (insert (buckets_of buckets) bucket empty) bucket) empty (get-insert_same nat_list_cmp_total text_exact (buckets_of buckets) bucket empty)

-- a bucket is there after a change of an object in it
pub has_bucket_after : (t : State) (bucket : List ℕ) (inner : MapOf Object) → HasBucket (record t { objects = insert t.objects bucket inner }) bucket
has_bucket_after t bucket inner = is_some (get (insert t.objects bucket inner) bucket) inner (get-insert_same nat_list_cmp_total text_exact t.objects bucket inner)

pub has_bucket_still : (t : State) (bucket : List ℕ) (inner : MapOf Object) (other : List ℕ) → HasBucket t other → HasBucket (record t { objects = insert t.objects bucket inner }) other
has_bucket_still t bucket inner other there = elim (text_decided other bucket) [
  | inl same ↦ subst (HasBucket (record t { objects = insert t.objects bucket inner })) (sym same) (has_bucket_after t bucket inner)
  | inr apart ↦ subst (λ (found : Option (MapOf Object)). IsSome found) (sym (get-insert_other nat_list_cmp_total text_exact t.objects bucket inner other apart)) there
]

-- ---- rounds

-- a run that makes these rounds
abbrev pub run_by : State → List Round → Run
run_by start rounds = record { start = start; trace = steps_from 0 start rounds; journal = journal_of rounds; dispatched = dispatched_from 0 rounds; refused_page = None }

-- the states after the rounds are faithful
abbrev pub AreFaithful : List Round → Type 0
AreFaithful [] = Unit {0}
AreFaithful (r ∷ rounds) = IsFaithful r.after × AreFaithful rounds

pub states_faithful : (rounds : List Round) (place : ℕ) (old : State) → IsFaithful old → AreFaithful rounds → (t : State) → Has (states old (steps_from place old rounds)) t → IsFaithful t
states_faithful rounds place old first all t (inl e) = subst IsFaithful e first
states_faithful [] place old first all t (inr h) = absurd h
states_faithful (r ∷ rounds) place old first all t (inr (inl e)) = subst IsFaithful e first
states_faithful (r ∷ rounds) place old first all t (inr (inr (inl e))) = subst IsFaithful e first
states_faithful (r ∷ rounds) place old first all t (inr (inr (inr (inl e)))) = subst IsFaithful e all.0
states_faithful (r ∷ rounds) place old first all t (inr (inr (inr (inr (inl e))))) = subst IsFaithful e all.0
states_faithful (r ∷ rounds) place old first all t (inr (inr (inr (inr (inr h))))) = states_faithful rounds (place + 2) r.after all.0 all.1 t (inr h)

pub nobody_writes : (rounds : List Round) (place : ℕ) (old : State) (write : ExternalWrite) → Has (events_of (steps_from place old rounds)) (External write) → ⊥
nobody_writes [] place old write h = h
nobody_writes (r ∷ rounds) place old write (inl e) = not_given e
  where
    not_given : {j : _} {l : ℕ} → Given j l ≡ External write → ⊥
    not_given e = cc
nobody_writes (r ∷ rounds) place old write (inr (inl e)) = not_begin e
  where
    not_begin : {s : _} {l : ℕ} → Begin l s ≡ External write → ⊥
    not_begin e = cc
nobody_writes (r ∷ rounds) place old write (inr (inr (inl e))) = not_serve e
  where
    not_serve : {s : _} {a : _} → Serve s a ≡ External write → ⊥
    not_serve e = cc
nobody_writes (r ∷ rounds) place old write (inr (inr (inr (inl e)))) = not_came e
  where
    not_came : {j : _} {l : ℕ} {t : _} → Came j l t ≡ External write → ⊥
    not_came e = cc
nobody_writes (r ∷ rounds) place old write (inr (inr (inr (inr h)))) = nobody_writes rounds (place + 2) r.after write h

module _ (limits : Limits) (start : State) (rounds : List Round) (served : AreServed limits start rounds) (apart : AreApart rounds) (first : IsFaithful start) (all : AreFaithful rounds) where
  pub rounds_fitting : (IsKept : List ℕ → List ℕ → Type 0) → IsFitting Told limits (run_by start rounds) IsKept
  rounds_fitting IsKept = record {
    runs = rounds_trace limits rounds 0 [] start served;
    honest = record {
      one_content = λ t u bucket key a b among_t among_u at_t at_u same.
          let of_t = states_faithful rounds 0 start first all t (has (states start (steps_from 0 start rounds)) t among_t) bucket key a at_t in
          let of_u = states_faithful rounds 0 start first all u (has (states start (steps_from 0 start rounds)) u among_u) bucket key b at_u in
          sym of_t ∙ same ∙ of_u;
      not_written = λ bucket key object happened. absurd (nobody_writes rounds 0 start (Writes bucket key object) (has (events_of (steps_from 0 start rounds)) (External (Writes bucket key object)) happened));
      not_removed = λ bucket key happened. absurd (nobody_writes rounds 0 start (Removes bucket key) (has (events_of (steps_from 0 start rounds)) (External (Removes bucket key)) happened));
    };
    fits = rounds_fit rounds start apart;
  }

  pub rounds_whole : HasJournal (journal_of rounds) (steps_from 0 start rounds) (steps_from 0 start rounds)
  rounds_whole = ([], sym (append-nil (steps_from 0 start rounds)), (rounds_fit rounds start apart).moves)

  pub rounds_unwritten : (bucket key : List ℕ) → IsExternal (steps_from 0 start rounds) bucket key → ⊥
  rounds_unwritten bucket key (inl written) = nobody_writes rounds 0 start (Writes bucket key written.0) (has (events_of (steps_from 0 start rounds)) (External (Writes bucket key written.0)) written.1)
  rounds_unwritten bucket key (inr removed) = nobody_writes rounds 0 start (Removes bucket key) (has (events_of (steps_from 0 start rounds)) (External (Removes bucket key)) removed)
