use Rattle.std.proofs.Common.{◌≡◌, ◌∙◌, ◌<◌, ℕ, ltb, Option, None, Some, is_some, sym, arith, lit<, MatchOption}
use Rattle.std.proofs.lemmas.Bool.{lt-ltb, le-ltb}
use Rattle.std.proofs.lemmas.Str.Pattern.{split_once_first}
use Rattle.s3_words.specs.Roles.{is_equals}
use Rattle.s3_words.proofs.roles.split_at_equals.Goals as goal
use Rattle.shared_lemmas.proofs.Places.{list_any-position}

found : {X : Type 0} (result : Option X) (place size : ℕ) (P : X → Type 0) → MatchOption result (place ≡ size) P → ((x : X) → P x → place < size) → is_some result ≡ ltb place size
found None place size P none inside = sym (le-ltb place size (omega arith))
found (Some x) place size P some inside = sym (lt-ltb place size (inside x some))

pub returns-clause-assigned : goal.returns-clause-assigned
returns-clause-assigned c =
    let word = c.args.word.now in
    found c.split_once.result _ _ _ (split_once_first 61 word c.split_once.result c.split_once.ensures.cases (lit< tt)) (λ x first. first.0) ∙ sym (list_any-position is_equals word)
