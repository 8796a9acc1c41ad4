-- Bytes that come in pieces.
use Rattle.std.proofs.Common.{◌≡◌, ◌≢◌, ℕ, ◌≤◌, List, [], ◌++◌, length, take, drop, sym, refl, ap, subst, ◌∙◌, append_assoc, inl, inr, Err, arith}
use Rattle.std.proofs.lemmas.List.{append-nil, take-append-drop}
use Rattle.s3_model.specs.Talks.{Ending, Failed, Closed, Finished}
use Rattle.s3_model.specs.declared.answers.Why.{Why}
use Rattle.s3_model.specs.declared.answers.Why.TheVariants as why
use Rattle.http_exchange.specs.Exchange.{InPieces}
use Rattle.http_exchange.specs.Steps.{TakesForm}

pub closed_fine : (ending : Ending) → ending ≡ Closed → ending ≢ Failed
closed_fine ending closed failed = clash (sym closed ∙ failed)
  where
    clash : Closed ≡ Failed → ⊥
    clash e = cc

pub finished_fine : (ending : Ending) → ending ≡ Finished → ending ≢ Failed
finished_fine ending finished failed = clash (sym finished ∙ failed)
  where
    clash : Finished ≡ Failed → ⊥
    clash e = cc

-- one call more, made while P held
pub one_more : (P : List ℕ → Type 0) (before got more : List ℕ) → P (before ++ got) → length more ≤ 16_384 → InPieces P before (got ++ more) Finished
one_more P before got more holds small = inr (got, more, refl, small, holds)

-- one call more, of whose bytes P held of all but the last ones
pub last_piece : (P : List ℕ → Type 0) (before got more : List ℕ) (n : ℕ) → P (before ++ (got ++ take n more)) → length (drop n more) ≤ 16_384 → InPieces P before (got ++ more) Finished
last_piece P before got more n holds small =
    inr (got ++ take n more, drop n more, ap (λ (b : List ℕ). got ++ b) (sym (take-append-drop n more)) ∙ sym (append_assoc got (take n more) (drop n more)), small, holds)

pub nothing_more : (before got more : List ℕ) → more ≡ [] → before ++ (got ++ more) ≡ before ++ got
nothing_more before got more none = ap (λ (b : List ℕ). before ++ (got ++ b)) none ∙ ap (λ (b : List ℕ). before ++ b) (append-nil got)

-- one call more that took nothing
pub none_more : (P : List ℕ → Type 0) (before got more : List ℕ) (ending : Ending) → P (before ++ got) → more ≡ [] → InPieces P before (got ++ more) ending
none_more P before got more Finished holds none = one_more P before got more holds (omega (arith, ap length none))
none_more P before got more Closed holds none = subst P (sym (nothing_more before got more none)) holds
none_more P before got more Failed holds none = subst P (sym (nothing_more before got more none)) holds

-- the same pieces, of which less is said
pub pieces_as : (P R : List ℕ → Type 0) (before got : List ℕ) (ending : Ending) → ((bytes : List ℕ) → P bytes → R bytes) → InPieces P before got ending → InPieces R before got ending
pieces_as P R before got Finished lift (inl none) = inl none
pieces_as P R before got Finished lift (inr (first, last, split, small, holds)) = inr (first, last, split, small, lift (before ++ first) holds)
pieces_as P R before got Closed lift holds = lift (before ++ got) holds
pieces_as P R before got Failed lift holds = lift (before ++ got) holds

-- the pieces of one reader, and then those of another
pub pieces_after : (P Q R : List ℕ → Type 0) (before first middle second : List ℕ) (ending : Ending) → ((bytes : List ℕ) → P bytes → R bytes)
    → ((more : List ℕ) → Q (middle ++ more) → R (before ++ (first ++ more))) → InPieces P before first Finished → InPieces Q middle second ending → InPieces R before (first ++ second) ending
pieces_after P Q R before first middle second Finished lift over (inl none) (inl nothing) = inl (ap (λ (b : List ℕ). b ++ second) none ∙ nothing)
pieces_after P Q R before first middle second Finished lift over (inr (front, last, split, small, holds)) (inl nothing) =
    inr (front, last, ap (λ (b : List ℕ). first ++ b) nothing ∙ append-nil first ∙ split, small, lift (before ++ front) holds)
pieces_after P Q R before first middle second Finished lift over some (inr (front, last, split, small, holds)) =
    inr (first ++ front, last, ap (λ (b : List ℕ). first ++ b) split ∙ sym (append_assoc first front last), small, over front holds)
pieces_after P Q R before first middle second Closed lift over some holds = over second holds
pieces_after P Q R before first middle second Failed lift over some holds = over second holds

-- bytes behind some that were read
pub joined : (before first front middle more : List ℕ) → before ++ first ≡ front ++ middle → before ++ (first ++ more) ≡ front ++ (middle ++ more)
joined before first front middle more split =
    sym (append_assoc before first more) ∙ ap (λ (b : List ℕ). b ++ more) split ∙ append_assoc front middle more

-- a form that is not whole when a call fails, or when the connection closes
pub form_failed : (Has : List ℕ → ℕ → List ℕ → Type 0) (CannotBe Begins : List ℕ → Type 0) (before after got more : List ℕ) (ending : Ending) (reason : Why)
    → Begins (before ++ got) → more ≡ [] → reason ≡ why.WireFailed → ending ≡ Failed → TakesForm Has CannotBe Begins before after (Err reason) (got ++ more) ending
form_failed Has CannotBe Begins before after got more ending reason begins none fails failed =
    record { pieces = none_more Begins before got more ending begins none; comes = inl (fails, failed) }

pub form_ended : (Has : List ℕ → ℕ → List ℕ → Type 0) (CannotBe Begins : List ℕ → Type 0) (before after got more : List ℕ) (ending : Ending)
    → Begins (before ++ got) → more ≡ [] → ending ≡ Closed → TakesForm Has CannotBe Begins before after (Err why.EndedEarly) (got ++ more) ending
form_ended Has CannotBe Begins before after got more ending begins none closed = record {
  pieces = none_more Begins before got more ending begins none;
  comes = inr (closed_fine ending closed, inr (subst Begins (sym (nothing_more before got more none)) begins, closed, refl));
}
