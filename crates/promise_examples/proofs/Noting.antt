-- Notes of a wire that are written out, one attempt after the other.
use Rattle.std.proofs.Common.{◌≡◌, ℕ, List, [], ◌∷◌, refl, sym, subst, inl, Contains}
use Rattle.std.proofs.lemmas.List.{append-nil}
use Rattle.s3_model.specs.declared.answers.Listed.{Listed}
use Rattle.s3_model.specs.Talks.{Note, Moment, Pause, Began}
use Rattle.job_terms.specs.Attempts.{AreNoted, IsPrefixOf, IsSaid, Numbered, SaysAll}
use Rattle.job_terms.specs.Dispatches.{Attempt, Dispatched}
use Rattle.promise_examples.specs.Reading.{Reads, signed_body}
use Rattle.promise_examples.proofs.Carrying.{nothing_begins}
use Rattle.promise_examples.proofs.Concrete.{each}
use Rattle.promise_examples.proofs.Readings.{says_whole}

pub only_pause : (seconds : ℕ) → ¬ (Contains (Pause seconds ∷ []) Began)
only_pause seconds h = each (λ (note : Note). note ≡ Began → ⊥) (Pause seconds ∷ []) (other, tt) Began h refl
  where
    other : Pause seconds ≡ Began → ⊥
    other same = cc

abbrev pub nth : ℕ → Dispatched → Attempt → Numbered
nth number c attempt = record { of = c; number = number; attempt = attempt }

module _ (page_of : List ℕ → Listed) where
  abbrev Noted : List Numbered → List Note → Type 0
  Noted = AreNoted (Reads page_of) signed_body [] 80 0

  -- it goes to the endpoint, and says its moment and its body
  abbrev pub Says : Numbered → ℕ → Type 0
  Says a moment = (a.attempt.talk.host ≡ []) × (a.attempt.talk.port ≡ 80) × (a.attempt.talk.sent ≡ moment ∷ a.of.body)

  pub said : (a : Numbered) (moment : ℕ) → Says a moment → IsSaid (Reads page_of) signed_body [] 80 a moment
  said a moment says = record {
    to_host = says.0;
    to_port = says.1;
    text = λ shown bytes shows. subst (λ (sent : List ℕ). SaysAll (Reads page_of) signed_body [] 80 shown sent (moment ∷ a.of.body)) (sym says.2)
        (says_whole page_of (Reads page_of) signed_body [] 80 shown (moment ∷ a.of.body));
    beginning = subst (λ (sent : List ℕ). IsPrefixOf sent (moment ∷ a.of.body)) (sym says.2) ([], append-nil (moment ∷ a.of.body));
  }

  pub done : Noted [] []
  done = (nothing_begins, inl refl)

  -- the first attempt of its job
  pub first : (a : Numbered) (moment : ℕ) (later : List Numbered) (notes : List Note) → a.number ≡ 1 → Says a moment → Noted later notes → Noted (a ∷ later) (Moment moment ∷ Began ∷ notes)
  first a moment later notes is says rest =
      ([], moment, notes, [], refl, nothing_begins, rw is refl, inl refl, said a moment says, rest)

  -- the second one
  pub second : (a : Numbered) (moment : ℕ) (later : List Numbered) (notes : List Note) → a.number ≡ 2 → Says a moment → Noted later notes → Noted (a ∷ later) (Pause 1 ∷ Moment moment ∷ Began ∷ notes)
  second a moment later notes is says rest =
      (Pause 1 ∷ [], moment, notes, [], refl, only_pause 1, rw is refl, inl refl, said a moment says, rest)
