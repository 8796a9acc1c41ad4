-- Texts that are cut at a byte.
use Rattle.std.proofs.Common.{◌≡◌, ℕ, Bool, true, false, not, cond, Some, None, eqb, List, [], ◌∷◌, ◌++◌, length, drop, sym, refl, ap, ap₂, ◌∙◌}
use Rattle.std.specs.Prelude.{codes, nat_le}
use Rattle.std.specs.List.{list_all}
use Rattle.std.specs.Char.{is_ascii_digit}
use Rattle.std.proofs.lemmas.Bool.{and_parts, and_from, false≢true, not_from_false, not_from_true, ne_eqb, eq-eqb, both_ways}
use Rattle.std.proofs.lemmas.List.{drop_at}
use Rattle.http1.specs.Fields.{is_number}
use Rattle.answer_grammar.specs.Head.{is_short_number, SpellsRange}
use Rattle.answer_grammar.specs.Parts.{Lacks}

-- a byte that is no digit is in no number
pub digits_lack : (b : ℕ) → is_ascii_digit b ≡ false → (xs : List ℕ) → list_all is_ascii_digit xs ≡ true → Lacks b xs
digits_lack b other [] all = refl
digits_lack b other (x ∷ xs) all =
    let parts = and_parts (is_ascii_digit x) (list_all is_ascii_digit xs) all in
    let apart : x ≡ b → ⊥ = λ same. false≢true (sym other ∙ ap is_ascii_digit (sym same) ∙ parts.0) in
    and_from (not (eqb x b)) (list_all (λ y. not (eqb y b)) xs) (not_from_false (eqb x b) (ne_eqb x b apart)) (digits_lack b other xs parts.1)

pub number_lacks : (b : ℕ) → is_ascii_digit b ≡ false → (xs : List ℕ) → is_short_number xs ≡ true → Lacks b xs
number_lacks b other xs short =
    let number = (and_parts (nat_le (length xs) 19) (is_number xs) short).1 in
    let digits = (and_parts _ _ (and_parts _ _ number).1).0 in
    digits_lack b other xs digits

-- what has a byte does not lack it
pub has_byte : (b : ℕ) (xs ys : List ℕ) → Lacks b (xs ++ b ∷ ys) → ⊥
has_byte b [] ys lacks =
    both_ways (not (eqb b b)) (not_from_true (eqb b b) (eq-eqb b b refl)) (and_parts (not (eqb b b)) _ lacks).0
has_byte b (x ∷ xs) ys lacks = has_byte b xs ys (and_parts (not (eqb x b)) _ lacks).1

-- a text is cut at its first such byte in one way
pub one_cut : (b : ℕ) (xs ys vs ws : List ℕ) → Lacks b xs → Lacks b vs → xs ++ b ∷ ys ≡ vs ++ b ∷ ws → (xs ≡ vs) × (ys ≡ ws)
one_cut b [] ys [] ws here there same = (refl, cc)
one_cut b [] ys (v ∷ vs) ws here there same =
    let first : v ≡ b = cc in
    absurd (both_ways (not (eqb v b)) (not_from_true (eqb v b) (eq-eqb v b first)) (and_parts (not (eqb v b)) _ there).0)
one_cut b (x ∷ xs) ys [] ws here there same =
    let first : x ≡ b = cc in
    absurd (both_ways (not (eqb x b)) (not_from_true (eqb x b) (eq-eqb x b first)) (and_parts (not (eqb x b)) _ here).0)
one_cut b (x ∷ xs) ys (v ∷ vs) ws here there same =
    let first : x ≡ v = cc in
    let rest : xs ++ b ∷ ys ≡ vs ++ b ∷ ws = cc in
    let later = one_cut b xs ys vs ws (and_parts (not (eqb x b)) _ here).1 (and_parts (not (eqb v b)) _ there).1 rest in
    (ap₂ ◌∷◌ first later.0, later.1)

pub behind_unit : (text numbers : List ℕ) (range : ℕ × ℕ × ℕ) → text ≡ codes "bytes " ++ numbers → (s : SpellsRange text range)
    → numbers ≡ s.first ++ 45 ∷ (s.last ++ 47 ∷ s.size)
behind_unit text numbers range unit s =
    sym (drop_at (codes "bytes ") numbers 6 refl) ∙ ap (drop 6) (sym unit ∙ s.text_is) ∙ drop_at (codes "bytes ") (s.first ++ 45 ∷ (s.last ++ 47 ∷ s.size)) 6 refl

pub no_dash : (text numbers : List ℕ) (range : ℕ × ℕ × ℕ) → text ≡ codes "bytes " ++ numbers → Lacks 45 numbers → SpellsRange text range → ⊥
no_dash text numbers range unit lacks s =
    has_byte 45 s.first (s.last ++ 47 ∷ s.size) (ap (list_all (λ y. not (eqb y 45))) (sym (behind_unit text numbers range unit s)) ∙ lacks)

pub at_dash : (text numbers first behind : List ℕ) (range : ℕ × ℕ × ℕ) → text ≡ codes "bytes " ++ numbers → numbers ≡ first ++ 45 ∷ behind → Lacks 45 first
    → (s : SpellsRange text range) → (s.first ≡ first) × (s.last ++ 47 ∷ s.size ≡ behind)
at_dash text numbers first behind range unit dash lacks s =
    one_cut 45 s.first (s.last ++ 47 ∷ s.size) first behind (number_lacks 45 refl s.first s.numbers.0) lacks (sym (behind_unit text numbers range unit s) ∙ dash)

pub no_slash : (text numbers first behind : List ℕ) (range : ℕ × ℕ × ℕ) → text ≡ codes "bytes " ++ numbers → numbers ≡ first ++ 45 ∷ behind → Lacks 45 first
    → Lacks 47 behind → SpellsRange text range → ⊥
no_slash text numbers first behind range unit dash lacks none s =
    has_byte 47 s.last s.size (ap (list_all (λ y. not (eqb y 47))) (at_dash text numbers first behind range unit dash lacks s).1 ∙ none)

pub at_slash : (text numbers first behind last size : List ℕ) (range : ℕ × ℕ × ℕ) → text ≡ codes "bytes " ++ numbers → numbers ≡ first ++ 45 ∷ behind → Lacks 45 first
    → behind ≡ last ++ 47 ∷ size → Lacks 47 last → (s : SpellsRange text range) → (s.first ≡ first) × (s.last ≡ last) × (s.size ≡ size)
at_slash text numbers first behind last size range unit dash lacks slash none s =
    let cut = at_dash text numbers first behind range unit dash lacks s in
    let more = one_cut 47 s.last s.size last size (number_lacks 47 refl s.last s.numbers.1) none (cut.1 ∙ slash) in
    (cut.0, more.0, more.1)

pub no_number : (short : Bool) (v : ℕ) → None ≡ cond short (Some v) None → short ≡ true → ⊥
no_number true v none is = cc
no_number false v none is = false≢true is
