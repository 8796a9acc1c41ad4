-- Bytes that come straight into a place.
use Rattle.std.proofs.Common.{◌≡◌, ℕ, ◌+◌, ◌≤◌, List, [], ◌++◌, length, take, drop, min, Result, Ok, Err, ap, subst, sym, ◌∙◌, append_assoc, arith}
use Rattle.std.proofs.Math.Seq.{take-append-add}
use Rattle.std.proofs.lemmas.List.{append-nil, length-take, take-append-drop, take-append-le, take-take}
use Rattle.s3_model.specs.Talks.{Ending}
use Rattle.s3_model.specs.declared.answers.Why.{Why}
use Rattle.http_exchange.specs.Steps.{TakesBytes, TakesMore, TakesPiece}

-- the first bytes of a place that was written behind its front
pub filled_to : (n m count : ℕ) (old front into post rest : List ℕ) → front ≡ old → n ≡ length old + count → n ≤ m → count ≤ length into
    → take n (take m ((front ++ (into ++ post)) ++ rest)) ≡ old ++ take count into
filled_to n m count old front into post rest same sum within bound =
    take-take n m ((front ++ (into ++ post)) ++ rest) within
    ∙ ap (λ (l : List ℕ). take n l) (ap (λ (f : List ℕ). (f ++ (into ++ post)) ++ rest) same ∙ append_assoc old (into ++ post) rest ∙ ap (λ (b : List ℕ). old ++ b) (append_assoc into post rest))
    ∙ ap (λ (i : ℕ). take i (old ++ (into ++ (post ++ rest)))) sum
    ∙ take-append-add old (into ++ (post ++ rest)) count
    ∙ ap (λ (b : List ℕ). old ++ b) (take-append-le count into (post ++ rest) bound)

-- what came straight into a body
pub straight_more : (missing most : ℕ) (unread old new : List ℕ) (result : Result ℕ Why) (got : List ℕ) (ending : Ending)
    → unread ≡ [] → most ≡ min missing 262_144 → TakesBytes most old new result got ending
    → TakesMore missing unread old new result got ending
straight_more missing most unread old new (Ok count) got ending none same (grown, long, few, closed, finished) = (
  got,
  sym (ap (λ (l : List ℕ). got ++ l) none ∙ append-nil got),
  grown,
  long,
  omega (arith, long, few, same),
  omega (arith, few, same),
  closed,
  finished,
)
straight_more missing most unread old new (Err reason) got ending none same failed = failed

-- what came with bytes behind it, and then was moved to a body
pub moved_more : (missing most count : ℕ) (before came after old new got : List ℕ) (ending : Ending)
    → before ≡ [] → most ≡ min (length came) missing → new ≡ old ++ take most came → after ≡ drop most came
    → TakesPiece before came (Ok count) got ending → TakesMore missing after old new (Ok count) got ending
moved_more missing most count before came after old new got ending none same moved left (grown, long, few, closed, finished) =
    let all : came ≡ got = grown ∙ ap (λ (l : List ℕ). l ++ got) none in (
      take most came,
      sym all ∙ sym (take-append-drop most came) ∙ ap (λ (l : List ℕ). take most came ++ l) (sym left),
      moved,
      long,
      omega (arith, length-take most came, same, ap length all, long),
      omega (arith, few),
      closed,
      finished,
    )

-- a call failed
pub failed_more : (missing : ℕ) (before came after old new : List ℕ) (result : Result ℕ Why) (other reason : Why) (got : List ℕ) (ending : Ending)
    → result ≡ Err other → other ≡ reason → TakesPiece before came (Err reason) got ending → TakesMore missing after old new result got ending
failed_more missing before came after old new result other reason got ending same is (none, fails, failed) =
    let P : Result ℕ Why → Type 0 = λ r. TakesMore missing after old new r got ending in
    subst P (sym same) (none, is ∙ fails, failed)
