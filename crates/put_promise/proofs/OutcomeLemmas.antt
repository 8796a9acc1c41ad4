-- The outcome of an upload is what the attempts of its Put show.
use Rattle.std.proofs.Common.{◌≡◌, ◌∙◌, ◌⊎◌, ◌+◌, ◌<◌, ◌≤◌, ℕ, zero, suc, Bool, true, false, List, [], ◌∷◌, Option, Some, refl, sym, ap, subst, inl, inr, map, length, slice_get, arith, if◌then◌else◌}
use Rattle.std.specs.Prelude.{IfSome}
use Rattle.shared_lemmas.proofs.Clashes.{false_true, none_is_some, some_is}
use Rattle.s3_model.specs.declared.answers.Class.{Class}
use Rattle.s3_model.specs.declared.answers.Class.TheVariants as class
use Rattle.s3_model.specs.declared.answers.Why.{Why}
use Rattle.s3_model.specs.declared.answers.Why.TheVariants as why
use Rattle.s3_model.specs.declared.outcomes.Cause.{Cause}
use Rattle.s3_model.specs.declared.outcomes.Cause.TheVariants as cause
use Rattle.s3_model.specs.declared.outcomes.Event.{Event}
use Rattle.s3_model.specs.declared.outcomes.Outcome.{Outcome}
use Rattle.s3_model.specs.declared.outcomes.Outcome.TheVariants as outcome
use Rattle.s3_model.specs.declared.places.Endpoint.{Endpoint}
use Rattle.s3_model.specs.declared.requests.Op.TheVariants as op
use Rattle.s3_model.specs.declared.settings.Keys.{Keys}
use Rattle.s3_model.specs.declared.tries.Mark.{Mark}
use Rattle.s3_model.specs.declared.tries.Mark.TheVariants as mark
use Rattle.s3_model.specs.Classes.{is_tried_again}
use Rattle.s3_model.specs.Talks.{Talk, Note}
use Rattle.answer_classes.specs.Showing.{HasStatus, Shows}
use Rattle.attempts.specs.Attempts.{HasClass, SignedRequest}
use Rattle.jobs.specs.declared.ending.Ending.{Ending}
use Rattle.jobs.specs.declared.ending.Ending.TheVariants as ending
use Rattle.lane_jobs.specs.Lanes.{AreMade, class_ending}
use Rattle.job_terms.specs.Attempts.{mark_of}
use Rattle.job_terms.specs.Dispatches.{Attempt, Dispatched, last_of, paired}
use Rattle.run_promise.specs.Outcomes.{HasOutcome}
use Rattle.run_promise.specs.Schedule.{source_bytes}
use Rattle.run_promise.specs.Settled.{cause_of, is_memory}
use Rattle.lane_laws.proofs.AttemptLaw.{at_place, attempts_are, attempts_of, index_below, index_last, last_index}
use Rattle.run_promise.specs.Settled.{tells_file_failed}
use Rattle.upload_promise.specs.Uploads.{is_open, upload_ask}
use Rattle.upload_promise.proofs.JobLemmas.{Planned, put_with, setting_of, task_of}
use Rattle.upload_promise.proofs.OutcomeLemmas as outcomes
use Rattle.upload_promise.proofs.PromiseLemmas.{IsOrdinary, done_ordinary, lost_open, memory_open, memory_ordinary, served_open, served_ordinary}
use Rattle.small_uploads.specs.Uploading.{IsPutCarried, lost_cause, outcome_of, put_request}

-- ---- marks

again_fails : (shown : Class) → is_tried_again shown ≡ true → mark_of shown ≡ mark.Success → ⊥
again_fails (class.Success said) again e = false_true again
again_fails (class.Refusal code message) again e = refusal_fails e
  where
    refusal_fails : mark.Refusal ≡ mark.Success → ⊥
    refusal_fails is = cc
again_fails (class.Uncertain reason) again e = uncertain_fails e
  where
    uncertain_fails : mark.Uncertain ≡ mark.Success → ⊥
    uncertain_fails is = cc

refusal_no_success : (code message : List ℕ) → mark_of (class.Refusal code message) ≡ mark.Success → ⊥
refusal_no_success code message e = cc

uncertain_no_success : (reason : Why) → mark_of (class.Uncertain reason) ≡ mark.Success → ⊥
uncertain_no_success reason e = cc

success_certain : mark.Success ≡ mark.Uncertain → ⊥
success_certain e = cc

refusal_certain : mark.Refusal ≡ mark.Uncertain → ⊥
refusal_certain e = cc

-- marks that leave nothing open, and those that do
closed : (ms : List Mark) → is_open ms ≡ false → (k : ℕ) → slice_get ms k ≡ Some mark.Uncertain → ⊥
closed [] e k at = none_is_some mark.Uncertain at
closed (mark.Uncertain ∷ ms) e k at = false_true (sym e)
closed (mark.Success ∷ ms) e zero at = success_certain (some_is _ _ at)
closed (mark.Success ∷ ms) e (suc k) at = closed ms e k at
closed (mark.Refusal ∷ ms) e zero at = refusal_certain (some_is _ _ at)
closed (mark.Refusal ∷ ms) e (suc k) at = closed ms e k at

opened : (ms : List Mark) → is_open ms ≡ true → (k : ℕ) × (slice_get ms k ≡ Some mark.Uncertain)
opened [] e = absurd (false_true e)
opened (mark.Uncertain ∷ ms) e = (0, refl)
opened (mark.Success ∷ ms) e = let (k, at) = opened ms e in (suc k, at)
opened (mark.Refusal ∷ ms) e = let (k, at) = opened ms e in (suc k, at)

mark_at : (classes : List Class) (k : ℕ) (shown : Class) → slice_get classes k ≡ Some shown → slice_get (map mark_of classes) k ≡ Some (mark_of shown)
mark_at [] k shown e = absurd (none_is_some shown e)
mark_at (c ∷ classes) zero shown e = ap (λ (x : Class). Some (mark_of x)) (some_is _ _ e)
mark_at (c ∷ classes) (suc k) shown e = mark_at classes k shown e

last_cons : {A : Type 0} (y : A) (ys : List A) (a : A) → last_of ys ≡ Some a → last_of (y ∷ ys) ≡ Some a
last_cons y [] a e = absurd (none_is_some a e)
last_cons y (z ∷ ys) a e = e

split : (a b : ℕ) → a ≤ b → (a < b) ⊎ (a ≡ b)
split zero zero h = inr refl
split zero (suc b) h = inl (omega arith)
split (suc a) zero h = absurd (omega arith)
split (suc a) (suc b) h = elim (split a b (omega arith)) [ inl less ↦ inl (omega arith) | inr same ↦ inr (ap suc same) ]

-- ---- attempts

module _ (r : SignedRequest) (place : List ℕ) where
  -- an attempt of each mark
  made_at : (classes : List Class) (number : ℕ) (talks : List Talk) (notes : List Note) → AreMade r number place classes talks notes → (k : ℕ) (m : Mark) → slice_get (map mark_of classes) k ≡ Some m
      → (a : Attempt) × (slice_get (attempts_of r place classes talks) k ≡ Some a) × (a.mark ≡ m)
  made_at [] number talks notes made k m e = absurd (none_is_some m e)
  made_at (c ∷ classes) number talks notes (first, more, noted, others, t, n, one, rest) zero m e =
      (record { mark = mark_of c; talk = one.made.talk }, ap (λ (xs : List Attempt). slice_get xs 0) (attempts_are r place number c classes talks first more noted t one), some_is _ _ e)
  made_at (c ∷ classes) number talks notes (first, more, noted, others, t, n, one, rest) (suc k) m e =
      let (a, at, is) = made_at classes (number + 1) more others rest k m e in
      (a, ap (λ (xs : List Attempt). slice_get xs (suc k)) (attempts_are r place number c classes talks first more noted t one) ∙ at, is)

  -- the last one shows the last class
  last_made : (classes : List Class) (number : ℕ) (talks : List Talk) (notes : List Note) → AreMade r number place classes talks notes → (shown : Class) → last_of classes ≡ Some shown
      → (a : Attempt) × (last_of (attempts_of r place classes talks) ≡ Some a) × (a.mark ≡ mark_of shown) × HasClass r a.talk shown place
  last_made [] number talks notes made shown e = absurd (none_is_some shown e)
  last_made (c ∷ []) number talks notes (first, more, noted, others, t, n, one, rest) shown e =
      let same = some_is c shown e in (
        record { mark = mark_of c; talk = one.made.talk },
        ap (λ (xs : List Attempt). last_of xs) (attempts_are r place number c [] talks first more noted t one),
        ap mark_of same,
        subst (λ (x : Class). HasClass r one.made.talk x place) same one.made.has_class,
      )
  last_made (c ∷ d ∷ classes) number talks notes (first, more, noted, others, t, n, one, rest) shown e =
      let (a, at, is, has) = last_made (d ∷ classes) (number + 1) more others rest shown e in (
        a,
        ap (λ (xs : List Attempt). last_of xs) (attempts_are r place number c (d ∷ classes) talks first more noted t one) ∙ last_cons _ (attempts_of r place (d ∷ classes) more) a at,
        is,
        has,
      )

-- ---- the outcome

module _ (endpoint : Endpoint) (keys : Keys) (Fails : ℕ → Cause → Type 0) (u : Planned) (journal : List Event) (talks : List Talk) (notes : List Note)
    (c : IsPutCarried endpoint keys u.config.attempts (upload_ask u.bucket u.key u.content) (source_bytes u.was.store.held (task_of u).source) journal u.how talks notes) where
  abbrev r : SignedRequest
  r = put_request endpoint keys (upload_ask u.bucket u.key u.content) (source_bytes u.was.store.held (task_of u).source)

  abbrev attempts : List Attempt
  attempts = paired (map mark_of c.classes) talks

  abbrev marks : List Mark
  marks = map mark_of c.classes

  abbrev put : Dispatched
  put = put_with u (paired (map mark_of c.classes) talks)

  abbrev Is : Outcome → Type 0
  Is how = HasOutcome Shows HasStatus Fails (setting_of u) (put ∷ []) (put ∷ []) 0 (task_of u) how × IsOrdinary how

  abbrev HasNo : Mark → Type 0
  HasNo = outcomes.HasNo Shows HasStatus Fails u attempts

  abbrev HasSome : Mark → Type 0
  HasSome = outcomes.HasSome Shows HasStatus Fails u attempts

  shown_at : (k : ℕ) (a : Attempt) → slice_get attempts k ≡ Some a → (shown : Class) × (slice_get c.classes k ≡ Some shown) × (a.mark ≡ mark_of shown) × HasClass r a.talk shown c.place
  shown_at k a e = at_place r c.place c.classes 1 talks c.shared.0 c.shared.3 k a e

  none_open : is_open marks ≡ false → HasNo mark.Uncertain
  none_open e k a at is =
      let (shown, in_classes, marked, has) = shown_at k a at in
      closed marks e k (mark_at c.classes k shown in_classes ∙ ap (λ (m : Mark). Some m) (sym marked ∙ is))

  some_open : is_open marks ≡ true → HasSome mark.Uncertain
  some_open e =
      let (k, at) = opened marks e in
      let (a, here, is) = made_at r c.place c.classes 1 talks c.shared.0 c.shared.3 k mark.Uncertain at in
      (k, a, here, is)

  -- none is a success where the last class is none
  no_success : ((shown : Class) → last_of c.classes ≡ Some shown → mark_of shown ≡ mark.Success → ⊥) → HasNo mark.Success
  no_success fails k a at is =
      let (shown, in_classes, marked, has) = shown_at k a at in
      let below = index_below c.classes k shown in_classes in
      elim (split (k + 1) (length c.classes) (omega arith)) [
        | inl less ↦ again_fails shown (c.again k shown in_classes less) (sym marked ∙ is)
        | inr same ↦ fails shown (index_last c.classes k shown in_classes same) (sym marked ∙ is)
      ]

  -- ---- memory ran out

  wanted : u.how ≡ outcome.Failed cause.Memory → (setting_of u).wanted_memory (Some 0) ≡ true
  wanted is = ap (λ (how : Outcome). is_memory (cause_of (Some how))) is

  wanted_open : u.how ≡ outcome.Unknown cause.Memory → (setting_of u).wanted_memory (Some 0) ≡ true
  wanted_open is = ap (λ (how : Outcome). is_memory (cause_of (Some how))) is

  memory_by : HasNo mark.Success → (b : Bool) → is_open marks ≡ b → u.how ≡ (if b then outcome.Unknown cause.Memory else outcome.Failed cause.Memory)
      → Is (if b then outcome.Unknown cause.Memory else outcome.Failed cause.Memory)
  memory_by none true open_ is = (outcomes.wanting_open Shows HasStatus Fails u attempts none (some_open open_) (wanted_open is), memory_open)
  memory_by none false open_ is = (outcomes.wanting_for Shows HasStatus Fails u attempts none (none_open open_) (wanted is), memory_ordinary)

  -- ---- the last attempt decides

  module _ (last : Attempt) (is_last : last_of attempts ≡ Some last) where
    still : (how : Outcome) → u.how ≡ how → tells_file_failed (Some (task_of u)) (Some how) ≡ false → tells_file_failed (Some (task_of u)) (Some u.how) ≡ false
    still how is e = ap (λ (x : Outcome). tells_file_failed (Some (task_of u)) (Some x)) is ∙ e

    abbrev ShowsLast : Class → Type 0
    ShowsLast = outcomes.ShowsLast Shows HasStatus Fails u attempts last is_last

    last_at : (m : Mark) → last.mark ≡ m → HasSome m
    last_at m is = let (k, end, at) = last_index attempts last is_last in (k, last, at, is)

    refused_by : HasNo mark.Success → (code message : List ℕ) → ShowsLast (class.Refusal code message) → (b : Bool) → is_open marks ≡ b
        → u.how ≡ (if b then outcome.Unknown (cause.Service op.Put code message) else outcome.Failed (cause.Service op.Put code message))
        → Is (if b then outcome.Unknown (cause.Service op.Put code message) else outcome.Failed (cause.Service op.Put code message))
    refused_by none code message shows true open_ is = (
      outcomes.refused_open Shows HasStatus Fails u attempts last is_last (still (outcome.Unknown (cause.Service op.Put code message)) is refl) none (some_open open_) code message shows,
      served_open op.Put code message,
    )
    refused_by none code message shows false open_ is = (
      outcomes.refused_for Shows HasStatus Fails u attempts last is_last (still (outcome.Failed (cause.Service op.Put code message)) is refl) none (none_open open_) code message shows,
      served_ordinary op.Put code message,
    )

    lost_by : HasNo mark.Success → (reason : Why) → (reason ≡ why.Memory → ⊥) → last.mark ≡ mark.Uncertain → ShowsLast (class.Uncertain reason) → u.how ≡ outcome.Unknown (cause.Lost op.Put reason)
        → Is (outcome.Unknown (cause.Lost op.Put reason))
    lost_by none reason no_memory is_open shows is = (
      outcomes.lost_open Shows HasStatus Fails u attempts last is_last (still (outcome.Unknown (cause.Lost op.Put reason)) is refl) none (last_at mark.Uncertain is_open) reason no_memory shows,
      lost_open op.Put reason,
    )

    shows_by : (shown : Class) → (shown ≡ class.Uncertain why.Memory → ⊥) → HasClass r last.talk shown c.place → ShowsLast shown
    shows_by shown no_memory (inl memory) = absurd (no_memory memory)
    shows_by shown no_memory (inr h) = (h.0, h.1)

    abbrev IsBy : (status : ℕ) → Class → Type 0
    IsBy status shown = HasClass r last.talk shown c.place → last.mark ≡ mark_of shown → last_of c.classes ≡ Some shown → u.how ≡ outcome_of marks (class_ending status shown)
        → Is (outcome_of marks (class_ending status shown))

    lost_class : (reason : Why) → (reason ≡ why.Memory → ⊥) → (class.Uncertain reason ≡ class.Uncertain why.Memory → ⊥) → lost_cause reason ≡ cause.Lost op.Put reason
        → HasClass r last.talk (class.Uncertain reason) c.place → last.mark ≡ mark.Uncertain → last_of c.classes ≡ Some (class.Uncertain reason)
        → u.how ≡ outcome.Unknown (cause.Lost op.Put reason) → Is (outcome.Unknown (cause.Lost op.Put reason))
    lost_class reason no_memory no_class same has is at how =
        lost_by (no_success (λ shown e success. uncertain_no_success reason (ap mark_of (some_is _ _ (sym at ∙ e)) ∙ success))) reason no_memory is (shows_by (class.Uncertain reason) no_class has) how

    by_class : (status : ℕ) (shown : Class) → IsBy status shown
    by_class answered (class.Success said) has is at how = (outcomes.done_for Shows HasStatus Fails u attempts last is_last is, done_ordinary)
    by_class answered (class.Refusal code message) has is at how =
        refused_by (no_success (λ shown e success. refusal_no_success code message (ap mark_of (some_is _ _ (sym at ∙ e)) ∙ success))) code message
        (shows_by (class.Refusal code message) (λ e. cc) has) (is_open marks) refl how
    by_class answered (class.Uncertain why.Memory) has is at how = (
      outcomes.wanting_open Shows HasStatus Fails u attempts (no_success (λ shown e success. uncertain_no_success why.Memory (ap mark_of (some_is _ _ (sym at ∙ e)) ∙ success))) (last_at mark.Uncertain is)
          (wanted_open how),
      memory_open,
    )
    by_class answered (class.Uncertain why.WireFailed) has is at how = lost_class why.WireFailed (λ e. cc) (λ e. cc) refl has is at how
    by_class answered (class.Uncertain why.EndedEarly) has is at how = lost_class why.EndedEarly (λ e. cc) (λ e. cc) refl has is at how
    by_class answered (class.Uncertain why.NotHttp) has is at how = lost_class why.NotHttp (λ e. cc) (λ e. cc) refl has is at how
    by_class answered (class.Uncertain why.HeadTooLong) has is at how = lost_class why.HeadTooLong (λ e. cc) (λ e. cc) refl has is at how
    by_class answered (class.Uncertain (why.BodyTooLong limit)) has is at how = lost_class (why.BodyTooLong limit) (λ e. cc) (λ e. cc) refl has is at how
    by_class answered (class.Uncertain why.BadLength) has is at how = lost_class why.BadLength (λ e. cc) (λ e. cc) refl has is at how
    by_class answered (class.Uncertain why.BadChunk) has is at how = lost_class why.BadChunk (λ e. cc) (λ e. cc) refl has is at how
    by_class answered (class.Uncertain (why.Status status)) has is at how = lost_class (why.Status status) (λ e. cc) (λ e. cc) refl has is at how
    by_class answered (class.Uncertain why.Internal) has is at how = lost_class why.Internal (λ e. cc) (λ e. cc) refl has is at how
    by_class answered (class.Uncertain why.Document) has is at how = lost_class why.Document (λ e. cc) (λ e. cc) refl has is at how

  -- ---- every ending

  abbrev IsSo : Ending → Type 0
  IsSo ended = u.how ≡ outcome_of marks ended → Is u.how

  of_class : (ended : Ending) (status : ℕ) (shown : Class) → last_of c.classes ≡ Some shown → ended ≡ class_ending status shown → u.how ≡ outcome_of marks ended → Is u.how
  of_class ended status shown at ends how =
      let (a, is_last, is, has) = last_made r c.place c.classes 1 talks c.shared.0 c.shared.3 shown at in
      let so = how ∙ ap (λ (e : Ending). outcome_of marks e) ends in
      subst Is (sym so) (by_class a is_last status shown has is at so)

  goes_on : (classes : List Class) → IfSome (last_of classes) (λ shown. is_tried_again shown ≡ true) → (shown : Class) → last_of classes ≡ Some shown → mark_of shown ≡ mark.Success → ⊥
  goes_on classes again shown e success =
      again_fails shown (subst (λ (o : Option Class). IfSome o (λ x. is_tried_again x ≡ true)) e again) success

  of_memory : (ended : Ending) → ended ≡ ending.Memory → IfSome (last_of c.classes) (λ shown. is_tried_again shown ≡ true) → u.how ≡ outcome_of marks ended → Is u.how
  of_memory ended ends again how =
      let so = how ∙ ap (λ (e : Ending). outcome_of marks e) ends in
      subst Is (sym so) (memory_by (no_success (goes_on c.classes again)) (is_open marks) refl so)

  pub put_outcome : HasOutcome Shows HasStatus Fails (setting_of u) (put_with u (paired (map mark_of c.classes) talks) ∷ []) (put_with u (paired (map mark_of c.classes) talks) ∷ []) 0 (task_of u) u.how × IsOrdinary u.how
  put_outcome =
      elim c.ends [
        | inl h ↦ of_class c.ended h.status h.shown h.last h.ending_is c.comes_to
        | inr others ↦ elim others [
          | inl h ↦ absurd (none_is_some h.reason h.gave_is)
          | inr h ↦ of_memory c.ended h.ending_is h.goes_on c.comes_to
        ]
      ]
