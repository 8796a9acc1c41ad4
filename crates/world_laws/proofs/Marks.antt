-- What the marks of a dispatch show of its talks, and that a job which came with success did not fail.
use Rattle.std.proofs.Common.{◌≡◌, ◌≢◌, ◌∙◌, ◌⊎◌, ◌+◌, ◌<◌, ◌++◌, ℕ, zero, suc, true, false, List, [], ◌∷◌, Option, Some, None, refl, sym, ap, subst, inl, inr, Contains, AllPairs, get_or, length, slice_get, arith}
use Rattle.std.proofs.lemmas.Bool.{cases_order}
use Rattle.std.proofs.lemmas.List.Sorted.{Contains-permutation}
use Rattle.std.proofs.lemmas.Option.{get_or_from_slice_get, slice_get-get_or, slice_get_within}
use Rattle.s3_model.specs.declared.requests.Ask.{Ask}
use Rattle.s3_model.specs.declared.answers.Class.{Class}
use Rattle.s3_model.specs.declared.answers.Class.TheVariants as class
use Rattle.s3_model.specs.declared.answers.Reply.{Reply}
use Rattle.s3_model.specs.declared.outcomes.Event.{Event}
use Rattle.s3_model.specs.declared.outcomes.JobId.{JobId}
use Rattle.s3_model.specs.declared.requests.Op.TheVariants as op
use Rattle.s3_model.specs.declared.tries.Mark.TheVariants as mark
use Rattle.s3_model.specs.Classes.{is_tried_again}
use Rattle.s3_model.specs.Replies.{IsSameClass}
use Rattle.s3_model.specs.Talks.{Talk, Note}
use Rattle.run_promise.specs.Carried.{IsCarried}
use Rattle.job_terms.specs.Attempts.{mark_of}
use Rattle.run_promise.specs.Dispatches.{FitsAsk, FitsLast, IsSuccessLast}
use Rattle.job_terms.specs.Dispatches.{Attempt, Dispatched, last_of}
use Rattle.run_promise.specs.Outcomes.{HasMark}
use Rattle.run_promise.specs.Schedule.{Setting, IsBefore, IsBeforeAny, IsFailed, IsSchedule, HasReply}
use Rattle.shared_lemmas.proofs.Clashes.{some_is}
use Rattle.shared_lemmas.proofs.Members.{contains_of, found_or_not, Has, has, has-append_cases, place_in_front, place_middle}
use Rattle.world_laws.specs.Premises.{AreGiven, HasCome, HasSucceeded, AllRefused}
use Rattle.world_laws.specs.Promises.{ShowsOneClass}
use Rattle.world_laws.proofs.Tasks.{last_place}

-- ---- marks and classes

success_refusal : mark.Success ≡ mark.Refusal → ⊥
success_refusal e = cc

success_uncertain : mark.Success ≡ mark.Uncertain → ⊥
success_uncertain e = cc

success_class : (shown : Class) → mark.Success ≡ mark_of shown → (answered : Reply) × (shown ≡ class.Success answered)
success_class (class.Success answered) e = (answered, refl)
success_class (class.Refusal code message) e = absurd (success_refusal e)
success_class (class.Uncertain why) e = absurd (success_uncertain e)

-- a success is not tried again
not_again : (answered : Reply) (same : Class) → IsSameClass (class.Success answered) same → is_tried_again same ≡ true → ⊥
not_again answered (class.Success other) same again = clash again
  where
    clash : false ≡ true → ⊥
    clash e = cc
not_again answered (class.Refusal code message) same again = clash same
  where
    clash : class.Success answered ≡ class.Refusal code message → ⊥
    clash e = cc
not_again answered (class.Uncertain why) same again = clash same
  where
    clash : class.Success answered ≡ class.Uncertain why → ⊥
    clash e = cc

-- ---- the last attempt

pub last_is : (attempts : List Attempt) (k : ℕ) (attempt : Attempt) → slice_get attempts k ≡ Some attempt → k + 1 ≡ length attempts → last_of attempts ≡ Some attempt
last_is [] k attempt at e = absurd (omega arith)
last_is (first ∷ []) zero attempt at e = at
last_is (first ∷ []) (suc k) attempt at e = absurd (omega arith)
last_is (first ∷ next ∷ rest) zero attempt at e = absurd (omega arith)
last_is (first ∷ next ∷ rest) (suc k) attempt at e = last_is (next ∷ rest) k attempt at (omega arith)

pub last_mark : (c : Dispatched) → IsSuccessLast (last_of c.dispatch.attempts) → HasMark c mark.Success
last_mark c ok = elim (found_or_not (last_of c.dispatch.attempts)) [
  | inl none ↦ absurd (subst (λ (o : Option Attempt). IsSuccessLast o) none ok)
  | inr last ↦
      let at = last_place c.dispatch.attempts last.0 last.1 in
      (at.0, last.0, at.1, subst (λ (o : Option Attempt). IsSuccessLast o) last.1 ok)
]

pub replied_last : (Shows : Ask → ℕ → Talk → Class → List ℕ → Type 0) (c : Dispatched) (last : Option Attempt) (answered : Reply) → HasReply Shows c last answered → IsSuccessLast last
replied_last Shows c None answered h = absurd h
replied_last Shows c (Some attempt) answered h = h.0

-- ---- marks that are carried

module _ (Shows : Ask → ℕ → Talk → Class → List ℕ → Type 0) (request_text : Ask → List ℕ → ℕ → List ℕ) (host : List ℕ) (port : ℕ) (s : Setting) (journal : List Event)
    (logs : ℕ → List Talk) (notes : ℕ → List Note) (dispatched coming : List Dispatched) (carried : IsCarried Shows request_text host port s journal logs notes dispatched coming) where
  success_told : (c : Dispatched) → Contains dispatched c → (marked : HasMark c mark.Success) → (answered : Reply) × (bytes : List ℕ) × Shows c.ask c.limit marked.1.talk (class.Success answered) bytes
  success_told c known marked = elim (carried.marks c marked.0 marked.1 known marked.2) [
    | inl told ↦
        let is = success_class told.0 (sym marked.3 ∙ told.3) in
        (is.0, told.1, subst (λ (shown : Class). Shows c.ask c.limit marked.1.talk shown told.1) is.1 told.2)
    | inr wanting ↦ absurd (success_uncertain (sym marked.3 ∙ wanting.1))
  ]

  pub succeeded_by : (c : Dispatched) → Contains dispatched c → HasMark c mark.Success → HasSucceeded Shows c
  succeeded_by c known marked =
      let told = success_told c known marked in
      record { place = marked.0; attempt = marked.1; reply = told.0; bytes = told.1; is_attempt = marked.2; shows = told.2 }

  -- each attempt was refused where none is marked otherwise
  pub refused_by : (c : Dispatched) → Contains dispatched c → ¬ (HasMark c mark.Success) → ¬ (HasMark c mark.Uncertain) → AllRefused Shows c
  refused_by c known no_success no_uncertain place attempt at = elim (carried.marks c place attempt known at) [
    | inl told ↦ by_class told.0 told.1 told.2 told.3
    | inr wanting ↦ absurd (no_uncertain (place, attempt, at, wanting.1))
  ]
    where
      by_class : (shown : Class) (bytes : List ℕ) → Shows c.ask c.limit attempt.talk shown bytes → attempt.mark ≡ mark_of shown
          → (code : List ℕ) × (message : List ℕ) × (body : List ℕ) × Shows c.ask c.limit attempt.talk (class.Refusal code message) body
      by_class (class.Success answered) bytes shows is = absurd (no_success (place, attempt, at, is))
      by_class (class.Refusal code message) bytes shows is = (code, message, bytes, shows)
      by_class (class.Uncertain why) bytes shows is = absurd (no_uncertain (place, attempt, at, is))

  -- nothing is tried after a success
  pub success_is_last : ShowsOneClass Shows → (c : Dispatched) → Contains dispatched c → HasMark c mark.Success → IsSuccessLast (last_of c.dispatch.attempts)
  success_is_last one_class c known marked = by_place (cases_order (marked.0 + 1) (length c.dispatch.attempts))
    where
      inside : marked.0 < length c.dispatch.attempts
      inside = slice_get_within c.dispatch.attempts marked.0 marked.1 marked.2

      by_place : (marked.0 + 1 ≡ length c.dispatch.attempts) ⊎ (marked.0 + 1 < length c.dispatch.attempts) ⊎ (length c.dispatch.attempts < marked.0 + 1) → IsSuccessLast (last_of c.dispatch.attempts)
      by_place (inl last) = subst (λ (o : Option Attempt). IsSuccessLast o) (sym (last_is c.dispatch.attempts marked.0 marked.1 marked.2 last)) marked.3
      by_place (inr (inl before)) =
          let told = success_told c known marked in
          let again = carried.again c marked.0 marked.1 known marked.2 before in
          absurd (not_again told.0 again.0 (one_class c.ask c.limit marked.1.talk (class.Success told.0) again.0 told.1 again.1 told.2 again.2) again.3)
      by_place (inr (inr beyond)) = let in_it = inside in absurd (omega arith)

-- ---- places

index_of : {X : Type 0} (xs : List X) (x : X) → Contains xs x → (k : ℕ) × (slice_get xs k ≡ Some x)
index_of xs x h = (h.0, slice_get-get_or xs h.0 x h.1 ∙ ap Some h.2)

pair_of : {X : Type 0} (R : X → X → Type 0) (xs : List X) → AllPairs R xs → (i j : ℕ) (a b : X) → i < j → slice_get xs i ≡ Some a → slice_get xs j ≡ Some b → R a b
pair_of R xs all i j a b before at_i at_j =
    subst (λ x. R a x) (get_or_from_slice_get xs j b a at_j) (subst (λ x. R x (get_or xs j a)) (get_or_from_slice_get xs i a a at_i) (all i j a before (slice_get_within xs j b at_j)))

-- ---- a job that came with success did not fail

module _ (Shows : Ask → ℕ → Talk → Class → List ℕ → Type 0) (Plans : List Dispatched → Type 0) (s : Setting) (journal : List Event) (dispatched coming : List Dispatched)
    (schedule : IsSchedule Shows s Plans dispatched coming) (given : AreGiven journal dispatched) (come : (c : Dispatched) → Contains dispatched c → HasCome journal c) where
  fits_last : (c : Dispatched) (last : Option Attempt) → IsSuccessLast last → ((shown : Class) → FitsAsk c c.ask shown) → FitsLast Shows c last
  fits_last c None ok fits = absurd ok
  fits_last c (Some attempt) ok fits = λ shown bytes shows. fits shown

  -- what is given after another came comes after it
  comes_later : (c d : Dispatched) → Contains dispatched c → Contains dispatched d → IsBefore c.dispatch.came_at d.dispatch.given_at → IsBeforeAny d.dispatch.came_at c.dispatch.came_at → ⊥
  comes_later c d known_c known_d before other =
      let at_c = come c known_c in
      let at_d = come d known_d in
      let first : at_c.0 < d.dispatch.given_at = subst (λ (o : Option ℕ). IsBefore o d.dispatch.given_at) at_c.2 before in
      let second = given.in_order d at_d.0 known_d at_d.2 in
      let third : at_d.0 < at_c.0 = subst (λ (o : Option ℕ). IsBeforeAny (Some at_d.0) o) at_c.2 (subst (λ (o : Option ℕ). IsBeforeAny o c.dispatch.came_at) at_d.2 other) in
      absurd (omega arith)

  not_itself : (c : Dispatched) → Contains dispatched c → IsBefore c.dispatch.came_at c.dispatch.given_at → ⊥
  not_itself c known before =
      let at = come c known in
      let first : at.0 < c.dispatch.given_at = subst (λ (o : Option ℕ). IsBefore o c.dispatch.given_at) at.2 before in
      let second = given.in_order c at.0 known at.2 in
      absurd (omega arith)

  abbrev ComesFirst : Dispatched → Dispatched → Type 0
  ComesFirst a b = IsBeforeAny a.dispatch.came_at b.dispatch.came_at

  -- a job is given again only after it came without success
  abbrev IsGivenAgain : Dispatched → Dispatched → Type 0
  IsGivenAgain a b = a.dispatch.job ≡ b.dispatch.job → IsBefore a.dispatch.came_at b.dispatch.given_at × ¬ (IsSuccessLast (last_of a.dispatch.attempts))

  all_again : AllPairs IsGivenAgain dispatched
  all_again i j d before inside same = let says = schedule.twice i j d before inside same in (says.0, says.1)

  -- a job comes with success once
  pub one_success : (a b : Dispatched) → Contains dispatched a → Contains dispatched b → a.dispatch.job ≡ b.dispatch.job → IsSuccessLast (last_of a.dispatch.attempts) → IsSuccessLast (last_of b.dispatch.attempts) → a ≡ b
  one_success a b known_a known_b same ok_a ok_b = by_place (cases_order at_a.0 at_b.0)
    where
      at_a : (k : ℕ) × (slice_get dispatched k ≡ Some a)
      at_a = index_of dispatched a known_a

      at_b : (k : ℕ) × (slice_get dispatched k ≡ Some b)
      at_b = index_of dispatched b known_b

      by_place : (at_a.0 ≡ at_b.0) ⊎ (at_a.0 < at_b.0) ⊎ (at_b.0 < at_a.0) → a ≡ b
      by_place (inl level) = some_is a b (sym at_a.1 ∙ ap (slice_get dispatched) level ∙ at_b.1)
      by_place (inr (inl before)) = absurd ((pair_of IsGivenAgain dispatched all_again at_a.0 at_b.0 a b before at_a.1 at_b.1 same).1 ok_a)
      by_place (inr (inr after)) = absurd ((pair_of IsGivenAgain dispatched all_again at_b.0 at_a.0 b a after at_b.1 at_a.1 (sym same)).1 ok_b)

  -- an Abort is given once
  pub abort_once : (a b : Dispatched) → Contains dispatched a → Contains dispatched b → a.dispatch.job ≡ b.dispatch.job → a.dispatch.job.op ≡ op.Abort → a ≡ b
  abort_once a b known_a known_b same is_abort = by_place (cases_order at_a.0 at_b.0)
    where
      at_a : (k : ℕ) × (slice_get dispatched k ≡ Some a)
      at_a = index_of dispatched a known_a

      at_b : (k : ℕ) × (slice_get dispatched k ≡ Some b)
      at_b = index_of dispatched b known_b

      never_again : AllPairs (λ (c d : Dispatched). c.dispatch.job ≡ d.dispatch.job → c.dispatch.job.op ≢ op.Abort) dispatched
      never_again i j d before inside alike = (schedule.twice i j d before inside alike).5

      by_place : (at_a.0 ≡ at_b.0) ⊎ (at_a.0 < at_b.0) ⊎ (at_b.0 < at_a.0) → a ≡ b
      by_place (inl level) = some_is a b (sym at_a.1 ∙ ap (slice_get dispatched) level ∙ at_b.1)
      by_place (inr (inl before)) =
          absurd (pair_of (λ (c d : Dispatched). c.dispatch.job ≡ d.dispatch.job → c.dispatch.job.op ≢ op.Abort) dispatched never_again at_a.0 at_b.0 a b before at_a.1 at_b.1 same is_abort)
      by_place (inr (inr after)) =
          absurd (pair_of (λ (c d : Dispatched). c.dispatch.job ≡ d.dispatch.job → c.dispatch.job.op ≢ op.Abort) dispatched never_again at_b.0 at_a.0 b a after at_b.1 at_a.1 (sym same)
          (ap (λ (j : JobId). j.op) (sym same) ∙ is_abort))

  pub success_not_failed : (d c : Dispatched) → Contains dispatched d → Contains dispatched c → d.dispatch.job ≡ c.dispatch.job → IsSuccessLast (last_of d.dispatch.attempts)
      → ((shown : Class) → FitsAsk c c.ask shown) → IsFailed Shows s coming c → ⊥
  success_not_failed d c known_d known_c same ok fits failed = by_place (cases_order at_d.0 at_c.0)
    where
      at_d : (k : ℕ) × (slice_get dispatched k ≡ Some d)
      at_d = index_of dispatched d known_d

      at_c : (k : ℕ) × (slice_get dispatched k ≡ Some c)
      at_c = index_of dispatched c known_c

      in_coming : Has (failed.0 ++ c ∷ failed.1) d
      in_coming = subst (λ (xs : List Dispatched). Has xs d) failed.2 (has coming d (Contains-permutation dispatched coming d schedule.is_coming known_d))

      given_again : IsBefore c.dispatch.came_at d.dispatch.given_at → Has failed.0 d ⊎ Has (c ∷ failed.1) d → ⊥
      given_again before (inl front) =
          let at = index_of failed.0 d (contains_of failed.0 d front) in
          let inside = slice_get_within failed.0 at.0 d at.1 in
          comes_later c d known_c known_d before
          (pair_of ComesFirst (failed.0 ++ c ∷ failed.1) (subst (λ (xs : List Dispatched). AllPairs ComesFirst xs) failed.2 schedule.in_order)
          at.0 (length failed.0) d c inside (place_in_front failed.0 (c ∷ failed.1) at.0 d at.1) (place_middle failed.0 c failed.1))
      given_again before (inr (inl itself)) = not_itself c known_c (subst (λ (x : Dispatched). IsBefore c.dispatch.came_at x.dispatch.given_at) (sym itself) before)
      given_again before (inr (inr later)) = failed.3 (inl (d, contains_of failed.1 d later, same))

      by_place : (at_d.0 ≡ at_c.0) ⊎ (at_d.0 < at_c.0) ⊎ (at_c.0 < at_d.0) → ⊥
      by_place (inl level) =
          let is : d ≡ c = some_is d c (sym at_d.1 ∙ ap (slice_get dispatched) level ∙ at_c.1) in
          let ok_c = subst (λ (x : Dispatched). IsSuccessLast (last_of x.dispatch.attempts)) is ok in
          failed.4 (ok_c, fits_last c (last_of c.dispatch.attempts) ok_c fits)
      by_place (inr (inl before)) = (pair_of IsGivenAgain dispatched all_again at_d.0 at_c.0 d c before at_d.1 at_c.1 same).1 ok
      by_place (inr (inr after)) = given_again (pair_of IsGivenAgain dispatched all_again at_c.0 at_d.0 c d after at_c.1 at_d.1 (sym same)).0 (has-append_cases failed.0 (c ∷ failed.1) d in_coming)
