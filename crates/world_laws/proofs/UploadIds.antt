-- Uploads that no request names stay, and an id is created once.
use Rattle.std.proofs.Common.{append_assoc, ◌≡◌, ◌∙◌, ◌++◌, ℕ, List, [], ◌∷◌, refl, sym, ap, subst, inl, inr, length, arith}
use Rattle.std.proofs.lemmas.List.{append-nil, length-append}
use Rattle.std.specs.Cmp.Lexicographic.{nat_list_cmp_total}
use Rattle.std.specs.FinMap.{get, insert}
use Rattle.s3_model.specs.declared.requests.Ask.{Ask}
use Rattle.s3_model.specs.declared.requests.Ask.TheVariants as ask
use Rattle.s3_model.specs.declared.answers.Reply.{Reply}
use Rattle.s3_model.specs.declared.answers.Reply.TheVariants as reply
use Rattle.s3_model.specs.declared.answers.Class.{Class}
use Rattle.s3_model.specs.declared.settings.Limits.{Limits}
use Rattle.s3_model.specs.Talks.{Talk}
use Rattle.s3_service.specs.ServiceState.{State, Ended, CompletedBy, Aborted}
use Rattle.s3_service.specs.Serves.{Replied, Succeeds}
use Rattle.run_promise.specs.Traces.{SentRequest, Step, TraceEvent, Serve, IsTrace, Steps, begun_after, state_after}
use Rattle.world_laws.specs.Uploads.{IsFree, NamesUpload, IsSameUpload, OtherUploadsStay, IdsAreCreatedOnce}
use Rattle.shared_lemmas.proofs.Maps.{get-insert_other, get-insert_same, get-remove_other, not_both, nothing_is, text_exact}
use Rattle.shared_lemmas.proofs.Members.{ordered}
use Rattle.world_laws.proofs.Traces.{begun_through, trace_parts, step_within, state_after-append, IsStable, stable_along}
use Rattle.world_laws.proofs.Uploads as up
use Rattle.world_laws.proofs.Uploads.{Change, StoresPart, EndsUpload}
use Rattle.world_laws.proofs.Fitting as fitting

-- ---- one request

stored_names : (asked : Ask) (body : List ℕ) (old : State) (bucket key id : List ℕ) (number : ℕ) (bytes : List ℕ) → StoresPart asked body old bucket key id number bytes → NamesUpload asked id
stored_names asked body old bucket key id number bytes (inl part) = subst (λ (a : Ask). NamesUpload a id) (sym part.0) refl
stored_names asked body old bucket key id number bytes (inr copy) = subst (λ (a : Ask). NamesUpload a id) (sym copy.5) refl

ended_names : (asked : Ask) (bucket key id : List ℕ) (how : Ended) → EndsUpload asked bucket key id how → NamesUpload asked id
ended_names asked bucket key id (CompletedBy etags) ends = subst (λ (a : Ask). NamesUpload a id) (sym ends.2) refl
ended_names asked bucket key id Aborted ends = subst (λ (a : Ask). NamesUpload a id) (sym ends) refl

-- a request leaves an upload that was begun and that it does not name
unnamed_stays : (asked : Ask) (body : List ℕ) (answered : Reply) (old new : State) (id : List ℕ) → Change asked body answered old new → (NamesUpload asked id → ⊥) → (IsFree old id → ⊥) → IsSameUpload old new id
unnamed_stays asked body answered old new id (up.none same_uploads same_ended) unnamed begun = (ap (λ uploads. get uploads id) same_uploads, ap (λ all. get all id) same_ended)
unnamed_stays asked body answered old new id (up.created bucket key content other upload is_create is_created was_free fresh is_uploads same_ended) unnamed begun = (
  ap (λ uploads. get uploads id) is_uploads ∙ get-insert_other nat_list_cmp_total text_exact old.uploads other upload id (λ same. begun (subst (IsFree old) (sym same) was_free)),
  ap (λ all. get all id) same_ended,
)
unnamed_stays asked body answered old new id (up.stored bucket key other number upload part stores is_open is_uploads same_ended says) unnamed begun = (
  ap (λ uploads. get uploads id) is_uploads ∙ get-insert_other nat_list_cmp_total text_exact old.uploads other (record upload { parts = insert upload.parts number part }) id
      (λ same. unnamed (subst (NamesUpload asked) (sym same) (stored_names asked body old bucket key other number part.bytes stores))),
  ap (λ all. get all id) same_ended,
)
unnamed_stays asked body answered old new id (up.closed bucket key other upload how ends is_open is_uploads is_ended) unnamed begun =
    let apart : id ≡ other → ⊥ = λ same. unnamed (subst (NamesUpload asked) (sym same) (ended_names asked bucket key other how ends)) in (
      ap (λ uploads. get uploads id) is_uploads ∙ get-remove_other nat_list_cmp_total text_exact old.uploads other id apart,
      ap (λ all. get all id) is_ended ∙ get-insert_other nat_list_cmp_total text_exact old.ended other how id apart,
    )

-- what is the same as something that is not free is not free
begun_still : (old new : State) (id : List ℕ) → IsSameUpload old new id → (IsFree old id → ⊥) → IsFree new id → ⊥
begun_still old new id same begun free = begun (record { not_open = sym same.0 ∙ free.not_open; not_ended = sym same.1 ∙ free.not_ended })

-- ---- whole traces

pub other_uploads_stay : (Shows : Ask → ℕ → Talk → Class → List ℕ → Type 0) → OtherUploadsStay Shows
other_uploads_stay Shows limits run front rest id of unnamed begins begun =
    fitting.holds_from Shows limits run.start run.trace run.dispatched run.journal of.runs of.fits (λ (t : State). IsSameUpload (state_after run.start front) t id)
    (record {
      served = λ c old answered bytes new served same.
          let one = unnamed_stays c.ask c.body answered old new id (up.success_changes limits old c.ask c.body answered bytes new served.succeeds) (unnamed c served.known) (begun_still (state_after run.start front) old id same begun) in
          (one.0 ∙ same.0, one.1 ∙ same.1);
      written = λ write old happened there same.
          (ap (λ uploads. get uploads id) (up.external_uploads write old) ∙ same.0, ap (λ all. get all id) (up.external_ended write old) ∙ same.1);
    })
    rest front begins.0 (begins.1 ∙ append_assoc front rest begins.0) (refl, refl)

free_is_stable : (limits : Limits) (id : List ℕ) (from : State) → IsStable limits (λ (t : State). IsFree t id → IsFree from id)
free_is_stable limits id from = record {
  served = λ old asked body answered bytes new succeeds back free. back (up.free_before asked body answered old new id (up.success_changes limits old asked body answered bytes new succeeds) free);
  written = λ write old back free. back (up.free_before_external write old id free);
}

-- where a success names an id, it was free before and is not after
created_here : (limits : Limits) (old : State) (asked : Ask) (body id bytes : List ℕ) (new : State) → Succeeds limits old asked body (reply.Created id) bytes new → IsFree old id × (IsFree new id → ⊥)
created_here limits old (ask.Create b k content) body id bytes new h = (
  record { not_open = nothing_is (get old.uploads id) h.1; not_ended = nothing_is (get old.ended id) h.2 },
  λ free. not_both (get new.uploads id) h.3 free.not_open (ap (λ (t : State). get t.uploads id) h.5 ∙ get-insert_same nat_list_cmp_total text_exact old.uploads id h.3),
)
created_here limits old asked body id bytes new h = absurd h

module _ (limits : Limits) (start : State) (trace : List Step) (id : List ℕ) (runs : IsTrace limits [] start trace) where
  created_at : (front : List Step) (step : Step) (back : List Step) (sent : SentRequest) (bytes : List ℕ) → trace ≡ front ++ step ∷ back → step.event ≡ Serve sent (Replied (reply.Created id) bytes)
      → IsFree (state_after start front) id × (IsFree step.state id → ⊥)
  created_at front step back sent bytes is is_event =
      let steps = subst (λ (event : TraceEvent). Steps limits (begun_through [] front) (state_after start front) event step.state) is_event
      (step_within limits front step back [] start (subst (λ (t : List Step). IsTrace limits [] start t) is runs)) in
      created_here limits (state_after start front) sent.ask sent.body id bytes step.state steps.1

  -- an id that is no longer free after a step is never free again
  never_again : (front : List Step) (step : Step) (rest late : List Step) → trace ≡ front ++ step ∷ (rest ++ late) → (IsFree step.state id → ⊥) → IsFree (state_after start (front ++ step ∷ rest)) id → ⊥
  never_again front step rest late is taken free =
      let parts = trace_parts limits front (step ∷ (rest ++ late)) [] start (subst (λ (t : List Step). IsTrace limits [] start t) is runs) in
      let on = trace_parts limits rest late (begun_after (begun_through [] front) step.event) step.state parts.1.1 in
      taken (stable_along limits (λ (t : State). IsFree t id → IsFree step.state id) (free_is_stable limits id step.state) rest (begun_after (begun_through [] front) step.event) step.state on.0 (λ f. f)
      (subst (λ (t : State). IsFree t id) (state_after-append front (step ∷ rest) start) free))

  once : (front : List Step) (step : Step) (back : List Step) (sent : SentRequest) (bytes : List ℕ) (front' : List Step) (step' : Step) (back' : List Step) (sent' : SentRequest) (bytes' : List ℕ)
      → trace ≡ front ++ step ∷ back → trace ≡ front' ++ step' ∷ back' → step.event ≡ Serve sent (Replied (reply.Created id) bytes) → step'.event ≡ Serve sent' (Replied (reply.Created id) bytes')
      → (rest : List Step) × (front' ≡ front ++ rest)
  once front step back sent bytes front' step' back' sent' bytes' is is' is_event is_event' = elim (ordered front step back front' step' back' (sym is ∙ is')) [
    | inl before ↦ before
    | inr after ↦
        let here = created_at front step back sent bytes is is_event in
        let there = created_at front' step' back' sent' bytes' is' is_event' in
        absurd (never_again front' step' after.0 (step ∷ back) (is ∙ ap (λ (f : List Step). f ++ step ∷ back) after.1 ∙ append_assoc front' (step' ∷ after.0) (step ∷ back)) there.1
        (subst (λ (f : List Step). IsFree (state_after start f) id) after.1 here.0))
  ]

both_ways : {X : Type 0} (xs ys : List X) → (rest : List X) × (ys ≡ xs ++ rest) → (rest : List X) × (xs ≡ ys ++ rest) → xs ≡ ys
both_ways xs ys on back = go on.0 on.1
  where
    go : (rest : List _) → ys ≡ xs ++ rest → xs ≡ ys
    go [] e = sym (append-nil xs) ∙ sym e
    go (x ∷ rest) e =
        let long = ap length e ∙ length-append xs (x ∷ rest) in
        let short = ap length back.1 ∙ length-append ys back.0 in
        absurd (omega arith)

pub ids_are_created_once : IdsAreCreatedOnce
ids_are_created_once limits start trace front front' step step' back back' id runs is is' by by' =
    both_ways front front' (once limits start trace id runs front step back by.0 by.1 front' step' back' by'.0 by'.1 is is' by.2 by'.2)
    (once limits start trace id runs front' step' back' by'.0 by'.1 front step back by.0 by.1 is' is by'.2 by.2)
