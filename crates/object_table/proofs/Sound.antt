-- What stays true of the open uploads after a change.
use Rattle.std.proofs.Common.{◌≡◌, ◌∙◌, ℕ, List, Option, Some, Result, Ok, Err, refl, sym, ap, subst, inl, inr}
use Rattle.std.specs.Prelude.{IsNone, IsSome, OnOk, OnErr}
use Rattle.std.specs.FinMap.{empty, get, insert, remove}
use Rattle.std.specs.Cmp.Lexicographic.{nat_list_cmp_total, slice_cmp}
use Rattle.std.specs.Ordering.{nat_cmp}
use Rattle.shared_lemmas.proofs.Maps.{found_after_insert, found_after_remove, found_in_empty, get-insert_other, get-insert_same, get-remove_same, not_both, text_decided, text_exact}
use Rattle.s3_model.specs.Maps.{MapOf}
use Rattle.s3_service.specs.ServiceState.{State, Object, Upload, Ended, HasBucket}
use Rattle.s3_service.specs.Serves.{IsOpen}
use Rattle.object_table.specs.Soundness.{AreSound}

still_some : {V : Type 0} (m : MapOf V) (k : List ℕ) (v : V) (q : List ℕ) → IsSome (get m q) → IsSome (get (insert m k v) q)
still_some {V} m k v q some =
    elim (text_decided q k) [
      | inl same ↦ subst (λ (o : Option V). IsSome o) (sym (ap (get (insert m k v)) same ∙ get-insert_same nat_list_cmp_total text_exact m k v)) refl
      | inr other ↦ subst (λ (o : Option V). IsSome o) (sym (get-insert_other nat_list_cmp_total text_exact m k v q other)) some
    ]

pub sound_none : (objects : MapOf (MapOf Object)) (uploads : MapOf Upload) (ended : MapOf Ended) → uploads ≡ empty → AreSound objects uploads ended
sound_none objects uploads ended none = λ id upload there.
    absurd (found_in_empty (slice_cmp nat_cmp) id upload (ap (λ (m : MapOf Upload). get m id) (sym none) ∙ there))

module _ (objects : MapOf (MapOf Object)) (uploads : MapOf Upload) (ended : MapOf Ended) (sound : AreSound objects uploads ended) where
  -- objects were put or taken away
  pub sound_objects : (objects' : MapOf (MapOf Object)) (bucket : List ℕ) (held : MapOf Object) → objects' ≡ insert objects bucket held → AreSound objects' uploads ended
  sound_objects objects' bucket held is = λ id upload there.
      let s = sound id upload there in
      (subst (λ (m : MapOf (MapOf Object)). IsSome (get m upload.bucket)) (sym is) (still_some objects bucket held upload.bucket s.0), s.1)

  pub sound_stored : {V E : Type 0} (r : Result V E) (objects' : MapOf (MapOf Object)) (bucket : List ℕ) (held : MapOf Object) → OnOk r (objects' ≡ insert objects bucket held) → OnErr r (objects' ≡ objects) → AreSound objects' uploads ended
  sound_stored (Ok done) objects' bucket held put same = sound_objects objects' bucket held put
  sound_stored (Err fault) objects' bucket held put same = subst (λ (m : MapOf (MapOf Object)). AreSound m uploads ended) (sym same) sound

  -- nothing changed
  pub sound_still : (objects' : MapOf (MapOf Object)) (uploads' : MapOf Upload) (ended' : MapOf Ended) → objects' ≡ objects → uploads' ≡ uploads → ended' ≡ ended → AreSound objects' uploads' ended'
  sound_still objects' uploads' ended' one two three =
      subst (λ (m : MapOf (MapOf Object)). AreSound m uploads' ended') (sym one)
      (subst (λ (m : MapOf Upload). AreSound objects m ended') (sym two)
      (subst (λ (m : MapOf Ended). AreSound objects uploads m) (sym three) sound))

  -- an upload was begun, or has one more part
  pub sound_upload : (uploads' : MapOf Upload) (at : List ℕ) (new : Upload) → uploads' ≡ insert uploads at new → IsSome (get objects new.bucket) → IsNone (get ended at) → AreSound objects uploads' ended
  sound_upload uploads' at new is bucket apart = λ id upload there.
      elim (found_after_insert nat_list_cmp_total text_exact uploads at new id upload (ap (λ (m : MapOf Upload). get m id) (sym is) ∙ there)) [
        | inl now ↦ (
          subst (λ (u : Upload). IsSome (get objects u.bucket)) now.1 bucket,
          subst (λ (x : List ℕ). IsNone (get ended x)) (sym now.0) apart,
        )
        | inr before ↦ sound id upload before
      ]

  -- an upload ended
  pub sound_ended : (uploads' : MapOf Upload) (ended' : MapOf Ended) (at : List ℕ) (how : Ended) → uploads' ≡ remove uploads at → ended' ≡ insert ended at how → AreSound objects uploads' ended'
  sound_ended uploads' ended' at how took put = λ id upload there.
      let found : get (remove uploads at) id ≡ Some upload = ap (λ (m : MapOf Upload). get m id) (sym took) ∙ there in
      let s = sound id upload (found_after_remove nat_list_cmp_total text_exact uploads at id upload found) in
      let other : id ≡ at → ⊥ = λ same. not_both (get (remove uploads at) id) upload (ap (get (remove uploads at)) same ∙ get-remove_same nat_list_cmp_total text_exact uploads at) found in (
        s.0,
        subst (λ (o : Option Ended). IsNone o) (sym (ap (λ (m : MapOf Ended). get m id) put ∙ get-insert_other nat_list_cmp_total text_exact ended at how id other)) s.1,
      )

-- an upload of a bucket that is there was begun, or has one more part
pub sound_begun : (objects : MapOf (MapOf Object)) (uploads : MapOf Upload) (ended : MapOf Ended) (tokens : MapOf (List ℕ)) (t : State) → record { objects = objects; uploads = uploads; ended = ended; tokens = tokens } ≡ t → AreSound objects uploads ended
    → (uploads' : MapOf Upload) (at bucket : List ℕ) (new : Upload) → uploads' ≡ insert uploads at new → new.bucket ≡ bucket → HasBucket t bucket → IsNone (get t.ended at) → AreSound objects uploads' ended
sound_begun objects uploads ended tokens t is sound uploads' at bucket new put same there apart =
    sound_upload objects uploads ended sound uploads' at new put
    (subst (λ (b : List ℕ). IsSome (get objects b)) (sym same) (subst (λ (s : State). HasBucket s bucket) (sym is) there))
    (subst (λ (s : State). IsNone (get s.ended at)) (sym is) apart)

-- the bucket of an open upload is there, and its id is none that ended
pub sound_open : (objects : MapOf (MapOf Object)) (uploads : MapOf Upload) (ended : MapOf Ended) (tokens : MapOf (List ℕ)) (t : State) → record { objects = objects; uploads = uploads; ended = ended; tokens = tokens } ≡ t → AreSound objects uploads ended
    → (id bucket key : List ℕ) (upload : Upload) → IsOpen t id bucket key upload → HasBucket t bucket × IsNone (get t.ended id)
sound_open objects uploads ended tokens t is sound id bucket key upload opened =
    let known : AreSound t.objects t.uploads t.ended = subst (λ (s : State). AreSound s.objects s.uploads s.ended) is sound in
    let s = known id upload opened.held in
    (subst (λ (b : List ℕ). HasBucket t b) opened.bucket s.0, s.1)
