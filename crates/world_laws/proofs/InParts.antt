-- Uploads in parts: with the bytes of their pieces, or copied from a source; and aborts.
use Rattle.std.proofs.Common.{◌≡◌, ◌∙◌, ◌+◌, ◌++◌, ◌≤◌, ℕ, List, [], ◌∷◌, Option, Some, refl, ap, subst, inl, inr, Contains, length, arith}
use Rattle.std.specs.Prelude.{flat_map}
use Rattle.std.specs.FinMap.{get}
use Rattle.s3_model.specs.declared.requests.Ask.{Ask}
use Rattle.s3_model.specs.declared.requests.Ask.TheVariants as ask
use Rattle.s3_model.specs.declared.answers.Reply.TheVariants as reply
use Rattle.s3_model.specs.declared.answers.Class.{Class}
use Rattle.s3_model.specs.declared.settings.Limits.{Limits}
use Rattle.s3_model.specs.Talks.{Talk}
use Rattle.s3_service.specs.ServiceState.{State, Object, Aborted, object_at}
use Rattle.s3_service.specs.Serves.{Succeeds, bytes_within, IsThere}
use Rattle.job_terms.specs.Dispatches.{Dispatched}
use Rattle.run_promise.specs.Traces.{Step, TraceEvent, IsTrace, Steps, begun_after, state_after}
use Rattle.world_laws.specs.Premises.{IsPlace}
use Rattle.run_promise.specs.Runs.{Run, moments, IsFitting}
use Rattle.world_laws.specs.Destinations.{IsNewOnceCome}
use Rattle.world_laws.specs.SmallTransfers.{HadContent, IsStored}
use Rattle.world_laws.specs.Multipart.{joined, IsCopiedInParts, AreParts, AreCopiedParts, PartsAreStored, PartsAreWhole, CopiedPartsAreStored, CopiedPartsAreWhole, AbortsAreFinal}
use Rattle.shared_lemmas.proofs.Maps.{is_nothing}
use Rattle.shared_lemmas.proofs.Members.{contains_of, Has}
use Rattle.world_laws.proofs.Traces.{begun_through, trace_parts, IsStable, stable_along}
use Rattle.world_laws.proofs.SmallTransfers.{after_success}
use Rattle.world_laws.proofs.Kept.{unwritten, one_content}
use Rattle.world_laws.proofs.Uploads as up
use Rattle.world_laws.proofs.Uploads.{StoresPart, HasEnded}
use Rattle.world_laws.proofs.Destinations as dest
use Rattle.world_laws.proofs.Multipart as multi
use Rattle.world_laws.proofs.Multipart.{ArePiecesFrom, IsWholeOf}

-- ---- pieces

-- pieces of which each is known are joined as they are
joined_is : (IsPiece : ℕ → List ℕ → Type 0) (pieces : ℕ → List ℕ) → ((n : ℕ) (bytes : List ℕ) → IsPiece n bytes → bytes ≡ pieces n)
    → (at : ℕ) (stored : List (List ℕ)) → ArePiecesFrom IsPiece at stored → flat_map (λ piece. piece) stored ≡ joined pieces at (length stored)
joined_is IsPiece pieces known at [] are = refl
joined_is IsPiece pieces known at (piece ∷ stored) are =
    ap (λ p. p ++ flat_map (λ q. q) stored) (known at piece are.0) ∙ ap (λ rest. pieces at ++ rest) (joined_is IsPiece pieces known (at + 1) stored are.1)

-- the first of some pieces
first_of : (IsPiece : ℕ → List ℕ → Type 0) (stored : List (List ℕ)) → 1 ≤ length stored → ArePiecesFrom IsPiece 1 stored → (bytes : List ℕ) × IsPiece 1 bytes
first_of IsPiece [] some are = absurd (omega arith)
first_of IsPiece (piece ∷ stored) some are = (piece, are.0)

made_of : (IsPiece : ℕ → List ℕ → Type 0) (pieces : ℕ → List ℕ) (count : ℕ) (found : Option Object) → ((n : ℕ) (bytes : List ℕ) → IsPiece n bytes → bytes ≡ pieces n) → IsWholeOf IsPiece count found
    → (object : Object) × (found ≡ Some object) × (object.bytes ≡ joined pieces 1 count)
made_of IsPiece pieces count found known whole = (whole.object, whole.is_found, whole.is_bytes ∙ joined_is IsPiece pieces known 1 whole.pieces whole.are ∙ ap (joined pieces 1) whole.counted)

module _ (Shows : Ask → ℕ → Talk → Class → List ℕ → Type 0) where
  -- ---- parts with their bytes

  module _ (bucket key : List ℕ) (pieces : ℕ → List ℕ) (count : ℕ) (limits : Limits) (run : Run) (p : IsFitting Shows limits run (IsPlace bucket key))
      (ours : AreParts Shows bucket key pieces count run.journal run.dispatched) where
    abbrev IsPiece : ℕ → List ℕ → Type 0
    IsPiece n bytes = bytes ≡ pieces n

    stores_piece : (c : Dispatched) (old : State) (id : List ℕ) (number : ℕ) (bytes : List ℕ) → Contains run.dispatched c → Has (moments run) old → StoresPart c.ask c.body old bucket key id number bytes → IsPiece number bytes
    stores_piece c old id number bytes known among (inl part) = part.1 ∙ ours.parts c id number known part.0
    stores_piece c old id number bytes known among (inr copy) = absurd (ours.no_copies c id number copy.0 copy.1 copy.2 copy.3 known copy.5)

    part_makes_new : dest.MakesNew Shows limits run.start run.trace run.dispatched run.journal p.runs p.fits bucket key (IsWholeOf IsPiece count)
    part_makes_new = multi.makes_new Shows limits run bucket key p IsPiece count stores_piece ours.completes

    part_writes_new : dest.WritesNew Shows limits run.start run.trace run.dispatched run.journal p.runs p.fits bucket key (IsWholeOf IsPiece count)
    part_writes_new = dest.unwritten_is_new Shows limits run.start run.trace run.dispatched run.journal p.runs p.fits bucket key (IsWholeOf IsPiece count) (unwritten run.start run.trace (IsPlace bucket key) p.honest bucket key (refl, refl))

  pub parts_once_come : (bucket key : List ℕ) (pieces : ℕ → List ℕ) (count : ℕ) → IsNewOnceCome Shows bucket key (AreParts Shows bucket key pieces count) (IsStored bucket key (joined pieces 1 count))
  parts_once_come bucket key pieces count limits run part p ours begins success =
      made_of (λ n bytes. bytes ≡ pieces n) pieces count (object_at (state_after run.start part) bucket key) (λ n bytes is. is)
      (dest.success_makes_new Shows limits run.start run.trace run.dispatched run.journal p.runs p.fits bucket key (IsWholeOf (λ n bytes. bytes ≡ pieces n) count)
      (part_makes_new bucket key pieces count limits run p ours) (part_writes_new bucket key pieces count limits run p ours)
      part begins.0 begins.1 success.request success.known success.may success.come success.succeeded)

  pub parts_are_stored : PartsAreStored Shows
  parts_are_stored bucket key pieces count = after_success Shows bucket key (AreParts Shows bucket key pieces count) (IsStored bucket key (joined pieces 1 count)) (parts_once_come bucket key pieces count)

  pub parts_are_whole : PartsAreWhole Shows
  parts_are_whole bucket key pieces count limits run part p ours begins =
      elim (dest.old_or_new Shows limits run.start run.trace run.dispatched run.journal p.runs p.fits bucket key (IsWholeOf (λ n bytes. bytes ≡ pieces n) count)
      (part_makes_new bucket key pieces count limits run p ours) (part_writes_new bucket key pieces count limits run p ours) part begins.0 begins.1) [
        | inl old ↦ inl old
        | inr new ↦ inr (made_of (λ n bytes. bytes ≡ pieces n) pieces count (object_at (state_after run.start part) bucket key) (λ n bytes is. is) new)
      ]

  -- ---- parts that are copied

  module _ (bucket key from_bucket from_key etag : List ℕ) (ranges : ℕ → ℕ × ℕ) (count : ℕ) (limits : Limits) (run : Run) (p : IsFitting Shows limits run (IsPlace bucket key))
      (ours : AreCopiedParts Shows bucket key from_bucket from_key etag ranges count run.journal run.dispatched) where
    abbrev IsCopied : ℕ → List ℕ → Type 0
    IsCopied n bytes = (source : List ℕ) × HadContent (moments run) from_bucket from_key etag source × (bytes ≡ bytes_within (ranges n) source)

    copies_piece : (c : Dispatched) (old : State) (id : List ℕ) (number : ℕ) (bytes : List ℕ) → Contains run.dispatched c → Has (moments run) old → StoresPart c.ask c.body old bucket key id number bytes → IsCopied number bytes
    copies_piece c old id number bytes known among (inl part) = absurd (ours.no_parts c id number known part.0)
    copies_piece c old id number bytes known among (inr copy) =
        let said = ours.copies c id number copy.0 copy.1 copy.2 copy.3 known copy.5 in
        let there : IsThere old from_bucket from_key etag copy.4 =
        subst (λ (x : List ℕ). IsThere old from_bucket from_key x copy.4) said.2 (subst (λ (x : List ℕ). IsThere old from_bucket x copy.2 copy.4) said.1 (subst (λ (x : List ℕ). IsThere old x copy.1 copy.2 copy.4) said.0 copy.6)) in
        (copy.4.bytes, (old, copy.4, contains_of (moments run) old among, there, refl), copy.7 ∙ ap (λ range. bytes_within range copy.4.bytes) said.3)

    copy_makes_new : dest.MakesNew Shows limits run.start run.trace run.dispatched run.journal p.runs p.fits bucket key (IsWholeOf IsCopied count)
    copy_makes_new = multi.makes_new Shows limits run bucket key p IsCopied count copies_piece ours.completes

    copy_writes_new : dest.WritesNew Shows limits run.start run.trace run.dispatched run.journal p.runs p.fits bucket key (IsWholeOf IsCopied count)
    copy_writes_new = dest.unwritten_is_new Shows limits run.start run.trace run.dispatched run.journal p.runs p.fits bucket key (IsWholeOf IsCopied count) (unwritten run.start run.trace (IsPlace bucket key) p.honest bucket key (refl, refl))

    -- all its pieces are of one content
    copied_of : (found : Option Object) → IsWholeOf IsCopied count found
        → (bytes : List ℕ) × HadContent (moments run) from_bucket from_key etag bytes × ((object : Object) × (found ≡ Some object) × (object.bytes ≡ joined (λ n. bytes_within (ranges n) bytes) 1 count))
    copied_of found whole =
        let first = first_of IsCopied whole.pieces whole.some whole.are in
        let source = first.1.0 in (
          source,
          first.1.1,
          made_of IsCopied (λ n. bytes_within (ranges n) source) count found
              (λ n bytes is. is.2 ∙ ap (bytes_within (ranges n)) (one_content run.start run.trace (IsPlace bucket key) p.honest from_bucket from_key etag is.0 source is.1 first.1.1)) whole,
        )

  pub copied_parts_once_come : (bucket key from_bucket from_key etag : List ℕ) (ranges : ℕ → ℕ × ℕ) (count : ℕ)
      → IsNewOnceCome Shows bucket key (AreCopiedParts Shows bucket key from_bucket from_key etag ranges count) (IsCopiedInParts bucket key from_bucket from_key etag ranges count)
  copied_parts_once_come bucket key from_bucket from_key etag ranges count limits run part p ours begins success =
      copied_of bucket key from_bucket from_key etag ranges count limits run p ours (object_at (state_after run.start part) bucket key)
      (dest.success_makes_new Shows limits run.start run.trace run.dispatched run.journal p.runs p.fits bucket key
      (IsWholeOf (IsCopied bucket key from_bucket from_key etag ranges count limits run p ours) count)
      (copy_makes_new bucket key from_bucket from_key etag ranges count limits run p ours)
      (copy_writes_new bucket key from_bucket from_key etag ranges count limits run p ours)
      part begins.0 begins.1 success.request success.known success.may success.come success.succeeded)

  pub copied_parts_are_stored : CopiedPartsAreStored Shows
  copied_parts_are_stored bucket key from_bucket from_key etag ranges count =
      after_success Shows bucket key (AreCopiedParts Shows bucket key from_bucket from_key etag ranges count) (IsCopiedInParts bucket key from_bucket from_key etag ranges count)
      (copied_parts_once_come bucket key from_bucket from_key etag ranges count)

  pub copied_parts_are_whole : CopiedPartsAreWhole Shows
  copied_parts_are_whole bucket key from_bucket from_key etag ranges count limits run part p ours begins =
      elim (dest.old_or_new Shows limits run.start run.trace run.dispatched run.journal p.runs p.fits bucket key
      (IsWholeOf (IsCopied bucket key from_bucket from_key etag ranges count limits run p ours) count)
      (copy_makes_new bucket key from_bucket from_key etag ranges count limits run p ours)
      (copy_writes_new bucket key from_bucket from_key etag ranges count limits run p ours) part begins.0 begins.1) [
        | inl old ↦ inl old
        | inr new ↦ inr (copied_of bucket key from_bucket from_key etag ranges count limits run p ours (object_at (state_after run.start part) bucket key) new)
      ]

-- ---- aborts

aborted_is_stable : (limits : Limits) (id : List ℕ) → IsStable limits (λ (t : State). HasEnded t id Aborted)
aborted_is_stable limits id = record {
  served = λ old asked body answered bytes new succeeds ended. up.ended_stays asked body answered old new id Aborted (up.success_changes limits old asked body answered bytes new succeeds) ended;
  written = λ write old ended. up.ended_stays_external write old id Aborted ended;
}

abort_ends : (limits : Limits) (old : State) (bucket key id body bytes : List ℕ) (new : State) → Succeeds limits old (ask.Abort bucket key id) body reply.Gone bytes new → HasEnded new id Aborted
abort_ends limits old bucket key id body bytes new h = up.closed_has_ended old new id Aborted (ap (λ (t : State). t.uploads) h.2) (ap (λ (t : State). t.ended) h.2)

pub aborts_are_final : AbortsAreFinal
aborts_are_final limits start trace runs front mid late step sent bucket key id bytes is is_event is_abort =
    let parts = trace_parts limits front (step ∷ (mid ++ late)) [] start (subst (λ (t : List Step). IsTrace limits [] start t) is runs) in
    let so_far = trace_parts limits mid late (begun_after (begun_through [] front) step.event) step.state parts.1.1 in
    let steps = subst (λ (event : TraceEvent). Steps limits (begun_through [] front) (state_after start front) event step.state) is_event parts.1.0 in
    let succeeds = subst (λ (asked : Ask). Succeeds limits (state_after start front) asked sent.body reply.Gone bytes step.state) is_abort steps.1 in
    let ended = stable_along limits (λ (t : State). HasEnded t id Aborted) (aborted_is_stable limits id) mid (begun_after (begun_through [] front) step.event) step.state so_far.0
    (abort_ends limits (state_after start front) bucket key id sent.body bytes step.state succeeds) in
    is_nothing (get (state_after step.state mid).uploads id) ended.not_open
