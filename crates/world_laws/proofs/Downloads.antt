-- What a Get that came with success tells of the object.
use Rattle.std.proofs.Common.{◌≡◌, ◌∙◌, ◌⊎◌, ◌≤◌, ℕ, List, [], ◌∷◌, Option, Some, None, refl, sym, ap, subst, inl, inr, Contains, length, filter_map, slice_get, arith}
use Rattle.std.proofs.lemmas.List.{append-nil}
use Rattle.s3_model.specs.declared.requests.Ask.{Ask}
use Rattle.s3_model.specs.declared.requests.Ask.TheVariants as ask
use Rattle.s3_model.specs.declared.answers.Reply.{Reply}
use Rattle.s3_model.specs.declared.answers.Reply.TheVariants as reply
use Rattle.s3_model.specs.declared.answers.Class.{Class}
use Rattle.s3_model.specs.declared.outcomes.Event.{Event}
use Rattle.s3_model.specs.declared.settings.Limits.{Limits}
use Rattle.s3_model.specs.Replies.{IsSameReply}
use Rattle.s3_model.specs.Talks.{Talk}
use Rattle.s3_service.specs.ServiceState.{State, Object}
use Rattle.s3_service.specs.Serves.{Replied, Succeeds, IsThere, bytes_within}
use Rattle.run_promise.specs.Traces.{Step, TraceEvent, Serve, Steps, state_after, states, events_of, event_of}
use Rattle.run_promise.specs.Fits.{request_at, IsListing}
use Rattle.s3_model.specs.Parts.{piece_count}
use Rattle.run_promise.specs.Schedule.{asked_range}
use Rattle.world_laws.specs.Premises.{IsNoPlace, HasCome}
use Rattle.run_promise.specs.Runs.{Run, moments, IsFitting}
use Rattle.world_laws.specs.SmallTransfers.{HadContent}
use Rattle.world_laws.specs.Multipart.{joined}
use Rattle.world_laws.specs.Downloads.{IsPartial, IsGot, GetTells, RangesTell}
use Rattle.shared_lemmas.proofs.Members.{contains_of, Has}
use Rattle.world_laws.proofs.Traces.{begun_through, step_of, has_state_after}
use Rattle.world_laws.proofs.Fitting as fitting
use Rattle.world_laws.proofs.Kept.{one_content}
use Rattle.world_laws.proofs.Pieces.{joined_same, ranges_make_whole}
use Rattle.job_terms.proofs.PieceCounts.{some_pieces}

-- ---- one Get

-- all of it, or a part that is the range
abbrev Tells : Option (ℕ × ℕ) → Reply → List ℕ → List ℕ → Type 0
Tells None answered bytes content = bytes ≡ content
Tells (Some asked) answered bytes content = IsPartial answered → bytes ≡ bytes_within asked content

same_partial : (a b : Reply) → IsSameReply a b → IsPartial a → IsPartial b
same_partial (reply.Got status range length) b same partial = subst IsPartial same partial
same_partial a b same partial = absurd partial

tells_same : (range : Option (ℕ × ℕ)) (answered same : Reply) (bytes content : List ℕ) → IsSameReply answered same → Tells range same bytes content → Tells range answered bytes content
tells_same None answered same bytes content is tells = tells
tells_same (Some asked) answered same bytes content is tells = λ partial. tells (same_partial answered same is partial)

-- what an object has at some moment
had : (moments : List State) (t : State) (bucket key etag : List ℕ) (object : Object) → Contains moments t → IsThere t bucket key etag object → HadContent moments bucket key etag object.bytes
had moments t bucket key etag object among there = (t, object, among, there, refl)

two_statuses : (status : ℕ) → status ≡ 200 → status ≡ 206 → ⊥
two_statuses status e f = omega arith

get_tells : (limits : Limits) (old : State) (bucket key etag : List ℕ) (range : Option (ℕ × ℕ)) (body : List ℕ) (answered : Reply) (bytes : List ℕ) (new : State)
    → Succeeds limits old (ask.Get bucket key etag range) body answered bytes new → (object : Object) × IsThere old bucket key etag object × Tells range answered bytes object.bytes
get_tells limits old bucket key etag None body (reply.Got status told size) bytes new h = (h.0, h.1, h.2.2)
get_tells limits old bucket key etag (Some asked) body (reply.Got status told size) bytes new h = (h.0, h.1, which h.2.1)
  where
    which : ((status ≡ 200) × (size ≡ length h.0.bytes) × (bytes ≡ h.0.bytes)) ⊎ ((status ≡ 206) × (told ≡ Some (asked.0, asked.1, length h.0.bytes)) × (size ≡ length bytes) × (bytes ≡ bytes_within asked h.0.bytes))
        → (status ≡ 206) → bytes ≡ bytes_within asked h.0.bytes
    which (inl whole) partial = absurd (two_statuses status whole.0 partial)
    which (inr part) partial = part.3
get_tells limits old bucket key etag range body answered bytes new h = absurd h

module _ (Shows : Ask → ℕ → Talk → Class → List ℕ → Type 0) where
  -- what a Get was told
  got : (limits : Limits) (run : Run) (bucket key etag : List ℕ) (range : Option (ℕ × ℕ)) (bytes : List ℕ) → IsFitting Shows limits run IsNoPlace
      → (is : IsGot Shows run.journal run.dispatched bucket key etag range bytes) → (content : List ℕ) × HadContent (moments run) bucket key etag content × Tells range is.succeeded.reply bytes content
  got limits run bucket key etag range bytes p is =
      let come : HasCome (filter_map event_of (events_of run.trace)) is.get = (is.come.0, is.come.1, is.come.2, ap (λ (j : List Event). slice_get j is.come.0) p.fits.moves ∙ is.come.3) in
      let served = fitting.success_is_served Shows limits run.start run.trace run.dispatched run.journal p.runs p.fits run.trace [] (sym (append-nil run.trace)) is.get is.known come is.succeeded (λ page. subst IsListing is.is_get page.0) in
      let at = step_of run.trace (Serve (request_at is.get is.succeeded.place) (Replied served.0 is.succeeded.bytes)) served.2 in
      let steps = subst (λ (event : TraceEvent). Steps limits (begun_through [] at.front) (state_after run.start at.front) event at.step.state) at.is_event
      (fitting.steps_at Shows limits run.start run.trace run.dispatched run.journal p.runs p.fits at.front at.step at.back at.is) in
      let tells = get_tells limits (state_after run.start at.front) bucket key etag range is.get.body served.0 is.succeeded.bytes at.step.state
      (subst (λ (asked : Ask). Succeeds limits (state_after run.start at.front) asked is.get.body served.0 is.succeeded.bytes at.step.state) is.is_get steps.1) in
      let among = subst (λ (t : List Step). Has (states run.start t) (state_after run.start at.front)) (sym at.is) (has_state_after at.front (at.step ∷ at.back) run.start) in (
        tells.0.bytes,
        had (moments run) (state_after run.start at.front) bucket key etag tells.0 (contains_of (moments run) (state_after run.start at.front) among) tells.1,
        subst (λ (b : List ℕ). Tells range is.succeeded.reply b tells.0.bytes) is.is_body (tells_same range is.succeeded.reply served.0 is.succeeded.bytes tells.0.bytes served.1 tells.2),
      )

  pub whole_tells : GetTells Shows
  whole_tells limits run bucket key etag bytes p is =
      let told = got limits run bucket key etag None bytes p is in
      subst (λ (b : List ℕ). HadContent (moments run) bucket key etag b) (sym told.2) told.1

  pub ranges_tell : RangesTell Shows
  ranges_tell limits run bucket key etag size piece bodies p sized some long each = subst (λ (b : List ℕ). HadContent (moments run) bucket key etag b) (sym all) first.1
    where
      counted : 1 ≤ piece_count size piece
      counted = some_pieces size piece sized some

      first : (content : List ℕ) × HadContent (moments run) bucket key etag content × Tells (Some (asked_range size piece 1)) (each 1 (omega arith) counted).0.succeeded.reply (bodies 1) content
      first = got limits run bucket key etag (Some (asked_range size piece 1)) (bodies 1) p (each 1 (omega arith) counted).0

      content : List ℕ
      content = first.0

      -- each body is its range of the one content
      of_content : (k : ℕ) → 1 ≤ k → k ≤ piece_count size piece → bodies k ≡ bytes_within (asked_range size piece k) content
      of_content k low high =
          let of = each k low high in
          let told = got limits run bucket key etag (Some (asked_range size piece k)) (bodies k) p of.0 in
          told.2 of.1 ∙ ap (bytes_within (asked_range size piece k)) (one_content run.start run.trace IsNoPlace p.honest bucket key etag told.0 content told.1 first.1)

      size_is : length content ≡ size
      size_is = long content first.1

      all : joined bodies 1 (piece_count size piece) ≡ content
      all =
          joined_same bodies (λ k. bytes_within (asked_range size piece k) content) (piece_count size piece) 1 (λ k low high. of_content k low (omega arith))
          ∙ ap (λ (n : ℕ). joined (λ k. bytes_within (asked_range n piece k) content) 1 (piece_count n piece)) (sym size_is) ∙ ranges_make_whole content piece some (subst (λ n. 1 ≤ n) (sym size_is) sized)
