-- What the dispatch of a job shows of its attempts.
use Rattle.shared_lemmas.proofs.Clashes.{none_is_some, some_is}
use Rattle.std.proofs.Common.{◌≡◌, ◌∙◌, ◌+◌, ◌<◌, ◌++◌, ℕ, zero, suc, List, [], ◌∷◌, Some, refl, sym, ap, subst, map, length, slice_get, arith}
use Rattle.s3_model.specs.declared.answers.Class.{Class}
use Rattle.s3_model.specs.Talks.{Talk, Note}
use Rattle.job_terms.specs.Attempts.{mark_of}
use Rattle.job_terms.specs.Dispatches.{Attempt, last_of, paired}
use Rattle.attempts.specs.Attempts.{HasClass, SignedRequest}
use Rattle.lane_jobs.specs.Lanes.{AreMade, IsMade}

-- ---- the last of a list

pub last_index : {A : Type 0} (xs : List A) (a : A) → last_of xs ≡ Some a → (k : ℕ) × (k + 1 ≡ length xs) × (slice_get xs k ≡ Some a)
last_index [] a e = absurd (none_is_some a e)
last_index (x ∷ []) a e = (0, refl, e)
last_index (x ∷ y ∷ xs) a e = let (k, long, at) = last_index (y ∷ xs) a e in (suc k, omega arith, at)

pub index_last : {A : Type 0} (xs : List A) (k : ℕ) (a : A) → slice_get xs k ≡ Some a → k + 1 ≡ length xs → last_of xs ≡ Some a
index_last [] k a e long = absurd (none_is_some a e)
index_last (x ∷ []) zero a e long = e
index_last (x ∷ []) (suc k) a e long = absurd (omega arith)
index_last (x ∷ y ∷ xs) zero a e long = absurd (omega arith)
index_last (x ∷ y ∷ xs) (suc k) a e long = index_last (y ∷ xs) k a e (omega arith)

pub index_below : {A : Type 0} (xs : List A) (k : ℕ) (a : A) → slice_get xs k ≡ Some a → k < length xs
index_below [] k a e = absurd (none_is_some a e)
index_below (x ∷ xs) zero a e = omega arith
index_below (x ∷ xs) (suc k) a e = let below = index_below xs k a e in omega arith

-- ---- attempts

module _ (r : SignedRequest) (place : List ℕ) where
  abbrev pub attempts_of : List Class → List Talk → List Attempt
  attempts_of classes talks = paired (map mark_of classes) talks

  abbrev pub IsShownBy : List Class → ℕ → Attempt → Type 0
  IsShownBy classes k a = (shown : Class) × (slice_get classes k ≡ Some shown) × (a.mark ≡ mark_of shown) × HasClass r a.talk shown place

  module _ (number : ℕ) (c : Class) (classes : List Class) (talks first more : List Talk) (noted : List Note) (t : talks ≡ first ++ more) (one : IsMade r number c place first noted) where
    abbrev pub attempt : Attempt
    attempt = record { mark = mark_of c; talk = one.made.talk }

    pub talks_are : talks ≡ one.made.talk ∷ more
    talks_are = t ∙ ap (λ (ts : List Talk). ts ++ more) one.made.one_talk

    pub attempts_are : attempts_of (c ∷ classes) talks ≡ attempt ∷ attempts_of classes more
    attempts_are = ap (λ (ts : List Talk). attempts_of (c ∷ classes) ts) talks_are

    pub by_index : (k : ℕ) (a : Attempt) → ((m : ℕ) → slice_get (attempts_of classes more) m ≡ Some a → IsShownBy classes m a)
        → slice_get (attempt ∷ attempts_of classes more) k ≡ Some a → IsShownBy (c ∷ classes) k a
    by_index zero a next e =
        let same = some_is _ _ e in
        (c, refl, sym (ap (λ (b : Attempt). b.mark) same), subst (λ (b : Attempt). HasClass r b.talk c place) same one.made.has_class)
    by_index (suc k) a next e = next k e

  pub at_place : (classes : List Class) (number : ℕ) (talks : List Talk) (notes : List Note) → AreMade r number place classes talks notes → (k : ℕ) (a : Attempt)
      → slice_get (attempts_of classes talks) k ≡ Some a → IsShownBy classes k a
  at_place [] number talks notes made k a e = absurd (none_is_some a e)
  at_place (c ∷ classes) number talks notes (first, more, noted, others, t, n, one, rest) k a e =
      by_index number c classes talks first more noted t one k a (λ m at. at_place classes (number + 1) more others rest m a at)
      (subst (λ (xs : List Attempt). slice_get xs k ≡ Some a) (attempts_are number c classes talks first more noted t one) e)

  pub as_many : (classes : List Class) (number : ℕ) (talks : List Talk) (notes : List Note) → AreMade r number place classes talks notes → length (attempts_of classes talks) ≡ length classes
  as_many [] number talks notes made = refl
  as_many (c ∷ classes) number talks notes (first, more, noted, others, t, n, one, rest) =
      let here = ap (λ (xs : List Attempt). length xs) (attempts_are number c classes talks first more noted t one) in
      let next = as_many classes (number + 1) more others rest in
      here ∙ ap suc next

  pub talks_same : (classes : List Class) (number : ℕ) (talks : List Talk) (notes : List Note) → AreMade r number place classes talks notes
      → map (λ (a : Attempt). a.talk) (attempts_of classes talks) ≡ talks
  talks_same [] number talks notes made = sym made.0
  talks_same (c ∷ classes) number talks notes (first, more, noted, others, t, n, one, rest) =
      ap (λ (xs : List Attempt). map (λ (a : Attempt). a.talk) xs) (attempts_are number c classes talks first more noted t one)
      ∙ ap (λ (ts : List Talk). one.made.talk ∷ ts) (talks_same classes (number + 1) more others rest)
      ∙ sym (talks_are number c classes talks first more noted t one)
