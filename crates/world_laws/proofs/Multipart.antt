-- An object that is written by uploads in parts alone: it is as before, or all of the parts in order, whatever is lost, late or served twice.
use Rattle.std.proofs.Common.{append_assoc, ◌≡◌, ◌∙◌, ◌⊎◌, ◌+◌, ◌++◌, ◌≤◌, ℕ, suc, Bool, List, [], ◌∷◌, Option, Some, None, refl, sym, ap, subst, inl, inr, Contains, filter_map, slice_get, length}
use Rattle.std.specs.Prelude.{flat_map}
use Rattle.std.specs.Ordering.{nat_cmp}
use Rattle.std.specs.Cmp.{nat_cmp_total}
use Rattle.std.specs.Cmp.Lexicographic.{nat_list_cmp_total}
use Rattle.std.specs.FinMap.{get, insert, nat_cmp-IsAntisymmetric}
use Rattle.std.proofs.lemmas.List.{append-nil}
use Rattle.s3_model.specs.declared.requests.Ask.{Ask}
use Rattle.s3_model.specs.declared.requests.Ask.TheVariants as ask
use Rattle.s3_model.specs.declared.answers.Reply.{Reply}
use Rattle.s3_model.specs.declared.answers.Reply.TheVariants as reply
use Rattle.s3_model.specs.declared.answers.Class.{Class}
use Rattle.s3_model.specs.declared.outcomes.Event.{Event}
use Rattle.s3_model.specs.declared.settings.Limits.{Limits}
use Rattle.s3_model.specs.Replies.{IsSameReply}
use Rattle.s3_model.specs.Lists.{Reserved}
use Rattle.s3_model.specs.Talks.{Talk}
use Rattle.s3_service.specs.ServiceState.{State, Object, Upload, StoredPart, Ended, CompletedBy, Aborted, object_at}
use Rattle.s3_service.specs.Serves.{Replied, Succeeds, Assembles, Completes, StoresObject, IsOpen, MayChange, ExternalWrite, after_external}
use Rattle.job_terms.specs.Dispatches.{Dispatched}
use Rattle.run_promise.specs.Traces.{Step, TraceEvent, Serve, External, Steps, state_after, states, events_of, event_of}
use Rattle.run_promise.specs.Fits.{request_at, IsListing}
use Rattle.world_laws.specs.Premises.{IsPlace, HasCome}
use Rattle.run_promise.specs.Runs.{Run, IsFitting}
use Rattle.world_laws.specs.Destinations.{AllThatChange}
use Rattle.world_laws.specs.Multipart.{IsCreated, CompletesHere}
use Rattle.shared_lemmas.proofs.Maps.{found_after_insert, found_after_remove, found_in_empty, get-insert_same, not_both, nothing_is, text_exact}
use Rattle.shared_lemmas.proofs.Members.{Has, ordered}
use Rattle.world_laws.proofs.Objects.{object_at-with_object}
use Rattle.world_laws.proofs.Traces.{begun_through, step_of, state_after_step}
use Rattle.world_laws.proofs.Requests.{may_change_decided, success_elsewhere, external_elsewhere}
use Rattle.world_laws.proofs.Fitting as fitting
use Rattle.world_laws.proofs.Fitting.{IsServed, IsKept}
use Rattle.world_laws.proofs.Uploads as up
use Rattle.world_laws.specs.Uploads.{IsFree}
use Rattle.world_laws.proofs.Uploads.{Change, HasEnded, StoresPart, EndsUpload}
use Rattle.world_laws.proofs.Kept.{unwritten}
use Rattle.world_laws.proofs.Frame.{external_of}

module _ (IsPiece : ℕ → List ℕ → Type 0) where
  -- the pieces from `at` on, in order
  abbrev pub ArePiecesFrom : ℕ → List (List ℕ) → Type 0
  ArePiecesFrom at [] = Unit {0}
  ArePiecesFrom at (piece ∷ pieces) = IsPiece at piece × ArePiecesFrom (at + 1) pieces

  -- each part that is stored is its piece
  abbrev pub ArePieces : Upload → Type 0
  ArePieces upload = (n : ℕ) (part : StoredPart) → get upload.parts n ≡ Some part → IsPiece n part.bytes

  -- the parts of a Complete are the pieces in order, as many as it lists
  assembled : (upload : Upload) → ArePieces upload → (at : ℕ) (etags pieces : List (List ℕ)) → Assembles upload at etags pieces → ArePiecesFrom at pieces × (length pieces ≡ length etags)
  assembled upload are at [] pieces h = (rw h tt, ap length h)
  assembled upload are at (etag ∷ etags) [] h = absurd h
  assembled upload are at (etag ∷ etags) (piece ∷ pieces) h =
      let rest = assembled upload are (at + 1) etags pieces h.1 in
      ((are at _ h.0, rest.0), ap suc rest.1)

  -- the object found is made of pieces 1 to count
  pub record IsWholeOf (count : ℕ) (found : Option Object) : Type 0 where
    pub pieces : List (List ℕ)
    pub counted : length pieces ≡ count
    pub some : 1 ≤ length pieces
    pub are : ArePiecesFrom 1 pieces
    pub object : Object
    pub is_found : found ≡ Some object
    pub is_bytes : object.bytes ≡ flat_map (λ piece. piece) pieces

  -- ---- the parts of an upload after one change

  pieces_after_stored : (upload : Upload) (number : ℕ) (part : StoredPart) → ArePieces upload → IsPiece number part.bytes → ArePieces (record upload { parts = insert upload.parts number part })
  pieces_after_stored upload number part are is_piece n found at =
      elim (found_after_insert nat_cmp_total nat_cmp-IsAntisymmetric upload.parts number part n found at) [
        | inr before ↦ are n found before
        | inl now ↦ subst (λ (p : StoredPart). IsPiece n p.bytes) now.1 (subst (λ m. IsPiece m part.bytes) (sym now.0) is_piece)
      ]

module _ (Shows : Ask → ℕ → Talk → Class → List ℕ → Type 0) (limits : Limits) (run : Run) (bucket key : List ℕ) (p : IsFitting Shows limits run (IsPlace bucket key)) where
  abbrev start : State
  start = run.start

  abbrev trace : List Step
  trace = run.trace

  abbrev journal : List Event
  journal = run.journal

  abbrev dispatched : List Dispatched
  dispatched = run.dispatched

  abbrev HereServed : Dispatched → State → Reply → List ℕ → State → Type 0
  HereServed = IsServed Shows limits start trace dispatched

  -- ---- ids

  -- where and how an id was created
  pub record IsCreatedAt (id : List ℕ) : Type 0 where
    pub front : List Step
    pub step : Step
    pub back : List Step
    pub is : trace ≡ front ++ step ∷ back
    pub free : IsFree (state_after start front) id
    pub upload : Upload
    pub is_open : IsOpen step.state id bucket key upload
    pub not_ended : get step.state.ended id ≡ None

  all_come : (c : Dispatched) → HasCome journal c → HasCome (filter_map event_of (events_of trace)) c
  all_come c come = (come.0, come.1, come.2, ap (λ (j : List Event). slice_get j come.0) p.fits.moves ∙ come.3)

  pub opened : (old : State) (id body bytes : List ℕ) (content : Option (List ℕ)) (new : State) → Succeeds limits old (ask.Create bucket key content) body (reply.Created id) bytes new
      → IsFree old id × ((upload : Upload) × IsOpen new id bucket key upload × (get new.ended id ≡ None))
  opened old id body bytes content new h = (
    record { not_open = nothing_is (get old.uploads id) h.1; not_ended = nothing_is (get old.ended id) h.2 },
    (
      h.3,
      record { held = ap (λ (t : State). get t.uploads id) h.5 ∙ get-insert_same nat_list_cmp_total text_exact old.uploads id h.3; bucket = h.4.bucket; key = h.4.key },
      ap (λ (t : State). get t.ended id) h.5 ∙ nothing_is (get old.ended id) h.2,
    ),
  )

  pub created_at : (id : List ℕ) → IsCreated Shows bucket key journal dispatched id → IsCreatedAt id
  created_at id created =
      let sent = request_at created.create created.succeeded.place in
      let served = fitting.success_is_served Shows limits start trace dispatched journal p.runs p.fits trace [] (sym (append-nil trace)) created.create created.known (all_come created.create created.has_come) created.succeeded
      (λ page. subst IsListing created.is_create page.0) in
      let is_named : served.0 ≡ reply.Created id = sym (subst (λ (r : Reply). IsSameReply r served.0) created.names served.1) in
      let at = step_of trace (Serve sent (Replied served.0 created.succeeded.bytes)) served.2 in
      let steps = subst (λ (event : TraceEvent). Steps limits (begun_through [] at.front) (state_after start at.front) event at.step.state) at.is_event
      (fitting.steps_at Shows limits start trace dispatched journal p.runs p.fits at.front at.step at.back at.is) in
      let succeeds = subst (λ (r : Reply). Succeeds limits (state_after start at.front) (ask.Create bucket key created.content) created.create.body r created.succeeded.bytes at.step.state) is_named
      (subst (λ (asked : Ask). Succeeds limits (state_after start at.front) asked created.create.body served.0 created.succeeded.bytes at.step.state) created.is_create steps.1) in
      let is = opened (state_after start at.front) id created.create.body created.succeeded.bytes created.content at.step.state succeeds in
      record { front = at.front; step = at.step; back = at.back; is = at.is; free = is.0; upload = is.1.0; is_open = is.1.1; not_ended = is.1.2 }

  -- an id that is free at some moment was free before
  free_is_kept : (id : List ℕ) (from : State) → IsKept Shows limits start trace dispatched (λ (t : State). IsFree t id → IsFree from id)
  free_is_kept id from = record {
    served = λ c old answered bytes new served back free. back (up.free_before c.ask c.body answered old new id (up.success_changes limits old c.ask c.body answered bytes new served.succeeds) free);
    written = λ write old happened there back free. back (up.free_before_external write old id free);
  }

  pub free_earlier : (id : List ℕ) (front rest late : List Step) → trace ≡ front ++ (rest ++ late) → IsFree (state_after start (front ++ rest)) id → IsFree (state_after start front) id
  free_earlier id front rest late is free =
      fitting.holds_from Shows limits start trace dispatched journal p.runs p.fits (λ (t : State). IsFree t id → IsFree (state_after start front) id) (free_is_kept id (state_after start front)) rest front late is (λ f. f) free

  -- an id that this run created was not open at its start
  pub created_is_fresh : (id : List ℕ) → IsCreatedAt id → get start.uploads id ≡ None
  created_is_fresh id at = (free_earlier id [] at.front (at.step ∷ at.back) at.is at.free).not_open

  -- ---- parts

  module _ (IsPiece : ℕ → List ℕ → Type 0) (count : ℕ)
      (are_pieces : (c : Dispatched) (old : State) (id : List ℕ) (number : ℕ) (bytes : List ℕ) → Contains dispatched c → Has (states start trace) old → StoresPart c.ask c.body old bucket key id number bytes → IsPiece number bytes)
      (completes : AllThatChange bucket key (CompletesHere Shows bucket key count journal dispatched) dispatched) where
    -- of every upload for the object that began in this run
    abbrev AllPieces : State → Type 0
    AllPieces t = (id : List ℕ) (upload : Upload) → get start.uploads id ≡ None → IsOpen t id bucket key upload → ArePieces IsPiece upload

    pieces_kept : (c : Dispatched) (old new : State) (answered : Reply) → Contains dispatched c → Has (states start trace) old → Change c.ask c.body answered old new → AllPieces old → AllPieces new
    pieces_kept c old new answered known among (up.none same_uploads same_ended) all id upload fresh is_open =
        all id upload fresh (record { held = ap (λ uploads. get uploads id) (sym same_uploads) ∙ is_open.held; bucket = is_open.bucket; key = is_open.key })
    pieces_kept c old new answered known among (up.created b k content other made is_create is_created was_free is_fresh is_uploads same_ended) all id upload fresh is_open =
        elim (found_after_insert nat_list_cmp_total text_exact old.uploads other made id upload (ap (λ uploads. get uploads id) (sym is_uploads) ∙ is_open.held)) [
          | inr before ↦ all id upload fresh (record { held = before; bucket = is_open.bucket; key = is_open.key })
          | inl now ↦ λ n part at. absurd (found_in_empty nat_cmp n part (ap (λ parts. get parts n) (sym is_fresh.parts) ∙ ap (λ (u : Upload). get u.parts n) now.1 ∙ at))
        ]
    pieces_kept c old new answered known among (up.stored b k other number was part stores was_open is_uploads same_ended says) all id upload fresh is_open =
        elim (found_after_insert nat_list_cmp_total text_exact old.uploads other (record was { parts = insert was.parts number part }) id upload (ap (λ uploads. get uploads id) (sym is_uploads) ∙ is_open.held)) [
          | inr before ↦ all id upload fresh (record { held = before; bucket = is_open.bucket; key = is_open.key })
          | inl now ↦
              let here_bucket : was.bucket ≡ bucket = ap (λ (u : Upload). u.bucket) now.1 ∙ is_open.bucket in
              let here_key : was.key ≡ key = ap (λ (u : Upload). u.key) now.1 ∙ is_open.key in
              let were : ArePieces IsPiece was = all other was (ap (get start.uploads) (sym now.0) ∙ fresh) (record { held = was_open.held; bucket = here_bucket; key = here_key }) in
              let here : StoresPart c.ask c.body old bucket key other number part.bytes =
              subst (λ (x : List ℕ). StoresPart c.ask c.body old bucket x other number part.bytes) (sym was_open.key ∙ here_key)
              (subst (λ (x : List ℕ). StoresPart c.ask c.body old x k other number part.bytes) (sym was_open.bucket ∙ here_bucket) stores) in
              subst (ArePieces IsPiece) now.1 (pieces_after_stored IsPiece was number part were (are_pieces c old other number part.bytes known among here))
        ]
    pieces_kept c old new answered known among (up.closed b k other was how ends was_open is_uploads is_ended) all id upload fresh is_open =
        all id upload fresh (record {
          held = found_after_remove nat_list_cmp_total text_exact old.uploads other id upload (ap (λ uploads. get uploads id) (sym is_uploads) ∙ is_open.held);
          bucket = is_open.bucket;
          key = is_open.key;
        })

    all_pieces : (t : State) → Has (states start trace) t → AllPieces t
    all_pieces =
        fitting.holds_always Shows limits start trace dispatched journal p.runs p.fits AllPieces
        (record {
          served = λ c old answered bytes new served all. pieces_kept c old new answered served.known served.among (up.success_changes limits old c.ask c.body answered bytes new served.succeeds) all;
          written = λ write old happened there all id upload fresh is_open.
              all id upload fresh (record { held = ap (λ uploads. get uploads id) (sym (up.external_uploads write old)) ∙ is_open.held; bucket = is_open.bucket; key = is_open.key });
        })
        (λ id upload fresh is_open. absurd (not_both (get start.uploads id) upload fresh is_open.held))

    -- ---- the object

    abbrev IsNew : Option Object → Type 0
    IsNew = IsWholeOf IsPiece count

    -- a Complete that finds its upload open stores the pieces
    first_completes : (old new : State) (id : List ℕ) (etags : Reserved (List ℕ)) (upload : Upload) (whole : List ℕ) (mid : State) → Has (states start trace) old → get start.uploads id ≡ None
        → length etags.items ≡ count → IsOpen old id bucket key upload → Completes limits upload etags.items whole → StoresObject old bucket key whole mid
        → object_at new bucket key ≡ object_at mid bucket key → IsNew (object_at new bucket key)
    first_completes old new id etags upload whole mid among fresh counted is_open is_whole gains same =
        let are = assembled IsPiece upload (all_pieces old among id upload fresh is_open) 1 etags.items is_whole.0 is_whole.1 in
        record {
          pieces = is_whole.0;
          counted = are.1 ∙ counted;
          some = is_whole.3;
          are = are.0;
          object = gains.0;
          is_found = same ∙ ap (λ (t : State). object_at t bucket key) gains.2 ∙ object_at-with_object old bucket key gains.0;
          is_bytes = gains.1 ∙ is_whole.4;
        }

    -- what a request that may change the object does: it makes it new, or found its upload completed and changes nothing
    abbrev Outcome : Dispatched → State → State → Type 0
    Outcome c old new = IsNew (object_at new bucket key)
        ⊎ ((id : List ℕ) × (etags : List (List ℕ)) × IsCreatedAt id × (get old.ended id ≡ Some (CompletedBy etags)) × (new ≡ old))

    outcome : (c : Dispatched) (old new : State) (answered : Reply) (bytes : List ℕ) → HereServed c old answered bytes new → MayChange c.ask bucket key → Outcome c old new
    outcome c old new answered bytes served may =
        let says = completes c served.known may in
        let at = created_at says.id says.created in
        decide says.id says.etags says.fresh says.counted at answered (subst (λ (asked : Ask). Succeeds limits old asked c.body answered bytes new) says.is_complete served.succeeds)
      where
        decide : (id : List ℕ) (etags : Reserved (List ℕ)) (fresh : Bool) → length etags.items ≡ count → IsCreatedAt id → (told : Reply) → Succeeds limits old (ask.Complete bucket key id etags fresh) c.body told bytes new → Outcome c old new
        decide id etags fresh counted at reply.Completed (inr h) = inr (id, etags.items, at, h.0, h.1)
        decide id etags fresh counted at reply.Completed (inl h) =
            inl (first_completes old new id etags h.0 h.1 h.2 served.among (created_is_fresh id at) counted h.3 h.5 h.6 (ap (λ (t : State). object_at t bucket key) h.7))
        decide id etags fresh counted at told h = absurd h

    -- ---- an upload from its creation on

    -- open for the object and not ended
    pub record IsStillOpen (id : List ℕ) (t : State) : Type 0 where
      pub upload : Upload
      pub is_open : IsOpen t id bucket key upload
      pub not_ended : get t.ended id ≡ None

    pub record IsDone (id : List ℕ) (t : State) : Type 0 where
      pub etags : List (List ℕ)
      pub has_ended : HasEnded t id (CompletedBy etags)
      pub is_new : IsNew (object_at t bucket key)

    -- it is open for the object, was aborted, or was completed and the object is new
    abbrev IsOnItsWay : List ℕ → State → Type 0
    IsOnItsWay id t = IsStillOpen id t ⊎ HasEnded t id Aborted ⊎ IsDone id t

    -- the object stays new
    new_stays : (c : Dispatched) (old new : State) (answered : Reply) (bytes : List ℕ) → HereServed c old answered bytes new → IsNew (object_at old bucket key) → IsNew (object_at new bucket key)
    new_stays c old new answered bytes served is_new = elim (may_change_decided bucket key c.ask) [
      | inr apart ↦ subst IsNew (sym (success_elsewhere bucket key limits old c.ask c.body answered bytes new served.succeeds apart)) is_new
      | inl may ↦ elim (outcome c old new answered bytes served may) [
        | inl made ↦ made
        | inr again ↦ subst (λ (t : State). IsNew (object_at t bucket key)) (sym again.4) is_new
      ]
    ]

    -- a request that closes the upload aborts it, or makes the object new
    closes : (c : Dispatched) (old new : State) (answered : Reply) (bytes : List ℕ) (id : List ℕ) (upload : Upload) (how : Ended) → HereServed c old answered bytes new
        → EndsUpload c.ask bucket key id how → get old.uploads id ≡ Some upload → HasEnded new id how → IsOnItsWay id new
    closes c old new answered bytes id upload Aborted served ends held ended = inr (inl ended)
    closes c old new answered bytes id upload (CompletedBy etags) served ends held ended =
        let may : MayChange c.ask bucket key = subst (λ (asked : Ask). MayChange asked bucket key) (sym ends.2) (refl, refl) in
        elim (outcome c old new answered bytes served may) [
          | inl made ↦ inr (inr (record { etags = etags; has_ended = ended; is_new = made }))
          | inr again ↦ absurd (not_both (get old.uploads id) upload (ap (λ (t : State). get t.uploads id) (sym again.4) ∙ ended.not_open) held)
        ]

    still_open : (c : Dispatched) (old new : State) (answered : Reply) (bytes : List ℕ) (id : List ℕ) → HereServed c old answered bytes new → Change c.ask c.body answered old new → IsStillOpen id old → IsOnItsWay id new
    still_open c old new answered bytes id served change way = which (up.open_afterwards c.ask c.body answered old new id bucket key way.upload change way.is_open)
      where
        which : up.Afterwards c.ask c.body answered old new id bucket key way.upload → IsOnItsWay id new
        which (up.stays is_open same_ended) = inl (record { upload = way.upload; is_open = is_open; not_ended = same_ended ∙ way.not_ended })
        which (up.gains number part stores says is_open same_ended) =
            inl (record { upload = record way.upload { parts = insert way.upload.parts number part }; is_open = is_open; not_ended = same_ended ∙ way.not_ended })
        which (up.ends how ending ended) = closes c old new answered bytes id way.upload how served ending way.is_open.held ended

    goes_on : (id : List ℕ) (c : Dispatched) (old new : State) (answered : Reply) (bytes : List ℕ) → HereServed c old answered bytes new → IsOnItsWay id old → IsOnItsWay id new
    goes_on id c old new answered bytes served (inl way) = still_open c old new answered bytes id served (up.success_changes limits old c.ask c.body answered bytes new served.succeeds) way
    goes_on id c old new answered bytes served (inr (inl ended)) = inr (inl (up.ended_stays c.ask c.body answered old new id Aborted (up.success_changes limits old c.ask c.body answered bytes new served.succeeds) ended))
    goes_on id c old new answered bytes served (inr (inr done)) = inr (inr (record {
      etags = done.etags;
      has_ended = up.ended_stays c.ask c.body answered old new id (CompletedBy done.etags) (up.success_changes limits old c.ask c.body answered bytes new served.succeeds) done.has_ended;
      is_new = new_stays c old new answered bytes served done.is_new;
    }))

    goes_on_external : (id : List ℕ) (write : ExternalWrite) (old : State) → Has (events_of trace) (External write) → IsOnItsWay id old → IsOnItsWay id (after_external write old)
    goes_on_external id write old happened (inl way) = inl (record {
      upload = way.upload;
      is_open = record { held = ap (λ uploads. get uploads id) (up.external_uploads write old) ∙ way.is_open.held; bucket = way.is_open.bucket; key = way.is_open.key };
      not_ended = ap (λ all. get all id) (up.external_ended write old) ∙ way.not_ended;
    })
    goes_on_external id write old happened (inr (inl ended)) = inr (inl (up.ended_stays_external write old id Aborted ended))
    goes_on_external id write old happened (inr (inr done)) = inr (inr (record {
      etags = done.etags;
      has_ended = up.ended_stays_external write old id (CompletedBy done.etags) done.has_ended;
      is_new = subst IsNew (sym (external_elsewhere bucket key old write
          (λ at. unwritten start trace (IsPlace bucket key) p.honest bucket key (refl, refl) (external_of trace bucket key write happened at)))) done.is_new;
    }))

    on_its_way : (id : List ℕ) (at : IsCreatedAt id) (rest late : List Step) → trace ≡ (at.front ++ at.step ∷ []) ++ (rest ++ late) → IsOnItsWay id (state_after start ((at.front ++ at.step ∷ []) ++ rest))
    on_its_way id at rest late is =
        fitting.holds_from Shows limits start trace dispatched journal p.runs p.fits (IsOnItsWay id)
        (record {
          served = λ c old answered bytes new served way. goes_on id c old new answered bytes served way;
          written = λ write old happened there way. goes_on_external id write old happened way;
        })
        rest (at.front ++ at.step ∷ []) late is
        (subst (IsOnItsWay id) (sym (state_after_step at.front at.step start)) (inl (record { upload = at.upload; is_open = at.is_open; not_ended = at.not_ended })))

    -- an upload for the object that was completed by some time made it new by then
    completed_is_new : (id : List ℕ) (etags : List (List ℕ)) → IsCreatedAt id → (front : List Step) (step : Step) (back : List Step) → trace ≡ front ++ step ∷ back
        → get (state_after start front).ended id ≡ Some (CompletedBy etags) → IsNew (object_at (state_after start front) bucket key)
    completed_is_new id etags at front step back is ended = elim (ordered front step back at.front at.step at.back (sym is ∙ at.is)) [
      | inl before ↦
          let free : IsFree (state_after start front) id = free_earlier id front before.0 (at.step ∷ at.back)
          (at.is ∙ ap (λ (f : List Step). f ++ at.step ∷ at.back) before.1 ∙ append_assoc front before.0 (at.step ∷ at.back))
          (subst (λ (f : List Step). IsFree (state_after start f) id) before.1 at.free) in
          absurd (not_both (get (state_after start front).ended id) (CompletedBy etags) free.not_ended ended)
      | inr after ↦
          let is_front : front ≡ (at.front ++ at.step ∷ []) ++ after.0 = after.1 ∙ sym (append_assoc at.front (at.step ∷ []) after.0) in
          let split : trace ≡ (at.front ++ at.step ∷ []) ++ (after.0 ++ step ∷ back) = is ∙ ap (λ (f : List Step). f ++ step ∷ back) is_front ∙ append_assoc (at.front ++ at.step ∷ []) after.0 (step ∷ back) in
          let way : IsOnItsWay id (state_after start front) = subst (λ (f : List Step). IsOnItsWay id (state_after start f)) (sym is_front) (on_its_way id at after.0 (step ∷ back) split) in
          which way ended
    ]
      where
        which : {t : State} → IsOnItsWay id t → get t.ended id ≡ Some (CompletedBy etags) → IsNew (object_at t bucket key)
        which (inl still) e = absurd (not_both _ _ still.not_ended e)
        which (inr (inl aborted)) e = absurd (up.not_aborted etags (sym aborted.is_ended ∙ e))
        which (inr (inr done)) e = done.is_new

    -- so each success of a request that may change the object makes it new
    pub makes_new : (c : Dispatched) (old : State) (answered : Reply) (bytes : List ℕ) (new : State) → HereServed c old answered bytes new → MayChange c.ask bucket key → IsNew (object_at new bucket key)
    makes_new c old answered bytes new served may = elim (outcome c old new answered bytes served may) [
      | inl made ↦ made
      | inr again ↦
          let was_new : IsNew (object_at old bucket key) = subst (λ (t : State). IsNew (object_at t bucket key)) (sym served.is_old)
          (completed_is_new again.0 again.1 again.2 served.front served.step served.back served.is (subst (λ (t : State). get t.ended again.0 ≡ Some (CompletedBy again.1)) served.is_old again.3)) in
          subst (λ (t : State). IsNew (object_at t bucket key)) (sym again.4) was_new
    ]
