-- How a set is read: where it closes, whether it is negated, and which ranges it spells.
use Rattle.std.proofs.Common.{inl, inr, ◌≡◌, ◌≢◌, ◌<◌, ◌+◌, ◌++◌, ℕ, Bool, true, false, eqb, List, [], ◌∷◌, Option, Some, None, Bor, length, get_or, take, drop, refl, sym, ap, subst, ◌∙◌, arith, lit<, MatchOption, IfSome}
use Rattle.std.specs.List.{All, AllByRecursion}
use Rattle.std.specs.Str.{chars, IsUtf8, IsCharBoundary, NonePass, NoCharPasses}
use Rattle.std.specs.Str.Pattern.{HasCharAt}
use Rattle.std.proofs.lemmas.Bool.{cases_eq, true≢false, cond-false, eqb-false, ne_eqb}
use Rattle.std.proofs.lemmas.List.{append_assoc, take-append-drop, get_or_at, length-append}
use Rattle.std.proofs.lemmas.List.Elements.{All-from_recursion, All-nil, All-cons}
use Rattle.std.proofs.lemmas.Str.{chars_from_encodes, chars_past_char, chars-append, IsUtf8-take, IsUtf8-drop, IsCharBoundary-before_ascii}
use Rattle.std.proofs.lemmas.Str.Pattern.{IsSplitOnceResult}
use Rattle.path_filters.specs.Patterns.{ranges_of, bracketed, IsInside, IsClosed}
use Rattle.path_filters.specs.Sets.{IsRangeEnd, NeverClosed}
use Rattle.path_filters.proofs.TextLemmas.{chars_empty}
use Rattle.shared_lemmas.proofs.Lists.{no_nil}

each_other : (cs : List ℕ) → NonePass (λ d. eqb d 93) cs → AllByRecursion (λ code. code ≢ 93) cs
each_other [] h = tt
each_other (c ∷ cs) h = (eqb-false c 93 h.0, each_other cs h.1)

lacks : (bs : List ℕ) → IsUtf8 bs → NoCharPasses (λ d. eqb d 93) bs → All (λ code. code ≢ 93) (chars bs)
lacks bs u (cs, e, none) = subst (All (λ code. code ≢ 93)) (chars_from_encodes cs bs u e) (All-from_recursion (λ code. code ≢ 93) cs (each_other cs none))

-- the characters around a `]`
at_bracket : (bs front back : List ℕ) (i j : ℕ) → IsUtf8 bs → NoCharPasses (λ d. eqb d 93) (take i bs) → HasCharAt 93 bs i j → front ≡ take i bs → back ≡ drop j bs → i < length bs → (chars bs ≡ chars front ++ 93 ∷ chars back) × All (λ code. code ≢ 93) (chars front)
at_bracket bs front back i j u none found f b inside =
    let edge : IsCharBoundary bs i = IsCharBoundary-before_ascii bs i inside (let small : get_or bs i 0 ≡ 93 = found.byte (lit< tt) in omega arith) in
    let before : IsUtf8 (take i bs) = IsUtf8-take bs i u edge in
    let tail : chars (drop i bs) ≡ 93 ∷ chars (drop j bs) = chars_past_char (drop i bs) (drop j bs) 93 (IsUtf8-drop bs i u edge) found.split in
    let whole : chars bs ≡ chars (take i bs) ++ (93 ∷ chars (drop j bs)) =
    ap chars (sym (take-append-drop i bs)) ∙ chars-append (take i bs) (drop i bs) before ∙ ap (λ ys. chars (take i bs) ++ ys) tail in
    (rw (f, b) whole, rw f (lacks (take i bs) before none))

-- the clause of `split_once` at `]`, in characters
pub split_chars : (bs : List ℕ) (r : Option (Bor (List ℕ) × Bor (List ℕ))) → IsUtf8 bs → IsSplitOnceResult 93 bs r →
    MatchOption r (All (λ code. code ≢ 93) (chars bs)) (λ parts. chars bs ≡ chars parts.0.now ++ 93 ∷ chars parts.1.now)
    × IfSome r (λ parts. All (λ code. code ≢ 93) (chars parts.0.now))
    × IfSome r (λ parts. length parts.1.now < length bs)
split_chars bs None u h = (lacks bs u h, tt, tt)
split_chars bs (Some parts) u h =
    let ends : h.1 ≡ h.0 + 1 = h.2.1.ends in
    let inside : h.0 < length bs = omega (arith, h.7) in
    let found = at_bracket bs parts.0.now parts.1.now h.0 h.1 u h.2.0 h.2.1 h.3 h.4 inside in
    (found.0, found.1, omega (arith, h.7))

pub tails_same : (code : ℕ) (codes : List ℕ) (other : ℕ) (others : List ℕ) → code ∷ codes ≡ other ∷ others → (code ≡ other) × (codes ≡ others)
tails_same code codes other others e = (cc, cc)

-- a set that is closed stands behind the same `!` or none
same_mark : (negated : Bool) (inner : List ℕ) (other : Bool) (first : ℕ) (inside rest : List ℕ) → (negated ≡ false → (after : List ℕ) → inner ≢ 33 ∷ after) → bracketed negated inner ≡ bracketed other (first ∷ inside) ++ 93 ∷ rest → IsInside other (first ∷ inside) → inner ≡ first ∷ (inside ++ 93 ∷ rest)
same_mark true inner true first inside rest plain e i = (tails_same _ _ _ _ e).1
same_mark true inner false first inside rest plain e i = absurd (i.0 refl (sym (tails_same _ _ _ _ e).0))
same_mark false inner true first inside rest plain e i = absurd (plain refl _ e)
same_mark false inner false first inside rest plain e i = e

closed_mark : (text : List ℕ) (negated : Bool) (inner : List ℕ) → text ≡ bracketed negated inner → (negated ≡ false → (after : List ℕ) → inner ≢ 33 ∷ after) → IsClosed text → (first : ℕ) × (inside : List ℕ) × (rest : List ℕ) × (inner ≡ first ∷ (inside ++ 93 ∷ rest))
closed_mark text negated inner w plain (other, [], rest, e, i) = absurd i
closed_mark text negated inner w plain (other, first ∷ inside, rest, e, i) = (first, inside, rest, same_mark negated inner other first inside rest plain (sym w ∙ e) i)

-- a text that ends where a set would begin closes none
pub unclosed_at_end : (text : List ℕ) (negated : Bool) (inner : List ℕ) → text ≡ bracketed negated inner → (negated ≡ false → (after : List ℕ) → inner ≢ 33 ∷ after) → inner ≡ [] → ¬ (IsClosed text)
unclosed_at_end text negated inner w plain none = λ closed.
    let found = closed_mark text negated inner w plain closed in
    no_nil found.0 (found.1 ++ 93 ∷ found.2) (sym none ∙ found.3)

-- nor does one with no `]` behind the first character
pub unclosed : (text : List ℕ) (negated : Bool) (inner : List ℕ) (first : ℕ) (more : List ℕ) → text ≡ bracketed negated inner → (negated ≡ false → (after : List ℕ) → inner ≢ 33 ∷ after) → inner ≡ first ∷ more → All (λ code. code ≢ 93) more → ¬ (IsClosed text)
unclosed text negated inner first more w plain e none = λ closed.
    let found = closed_mark text negated inner w plain closed in
    let tail : more ≡ found.1 ++ 93 ∷ found.2 = (tails_same first more found.0 (found.1 ++ 93 ∷ found.2) (sym e ∙ found.3)).1 in
    let at : get_or more (length found.1) 0 ≡ 93 = ap (λ xs. get_or xs (length found.1) 0) tail ∙ get_or_at found.1 93 found.2 0 _ refl in
    none (length found.1) 0 (omega (arith, ap length tail, length-append found.1 (93 ∷ found.2))) at

-- a character that no range end follows is a range of its own
pub ranges_of-alone : (first : ℕ) (codes : List ℕ) → ¬ (IsRangeEnd codes) → ranges_of (first ∷ codes) ≡ record { first = first; last = first } ∷ ranges_of codes
ranges_of-alone first [] apart = refl
ranges_of-alone first (dash ∷ []) apart = refl
ranges_of-alone first (dash ∷ to ∷ codes) apart = cond-false _ _ _ (ne_eqb dash 45 (λ e. apart (to, codes, ap (λ code. code ∷ to ∷ codes) e)))

-- a `-` and what the text behind it begins with
pub range_end_behind : (text after : List ℕ) (r : Option (ℕ × Bor (List ℕ))) → chars text ≡ 45 ∷ chars after → MatchOption r (after ≡ []) (λ parts. chars after ≡ parts.0 ∷ chars parts.1.now) →
    MatchOption r (¬ (IsRangeEnd (chars text))) (λ parts. chars text ≡ 45 ∷ parts.0 ∷ chars parts.1.now)
range_end_behind text after None e none = λ ends. no_nil ends.0 ends.1 (sym (chars_empty after none) ∙ (tails_same 45 (chars after) 45 (ends.0 ∷ ends.1) (sym e ∙ ends.2)).1)
range_end_behind text after (Some parts) e found = e ∙ ap (λ codes. 45 ∷ codes) found

pub no_range_end : (text : List ℕ) → text ≡ [] → ¬ (IsRangeEnd (chars text))
no_range_end text e = λ ends. no_nil 45 (ends.0 ∷ ends.1) (sym (chars_empty text e) ∙ ends.2)

pub no_mark : (text : List ℕ) → text ≡ [] → (rest : List ℕ) → chars text ≢ 33 ∷ rest
no_mark text e rest = λ m. no_nil 33 rest (sym (chars_empty text e) ∙ m)

-- a list that has a `]` has a first one
first_closing : (before after : List ℕ) → (others : List ℕ) × (rest : List ℕ) × (before ++ 93 ∷ after ≡ others ++ 93 ∷ rest) × All (λ code. code ≢ 93) others
first_closing [] after = ([], after, refl, All-nil (λ code. code ≢ 93))
first_closing (code ∷ before) after =
    elim (cases_eq code 93) [
      | inl is ↦ ([], before ++ 93 ∷ after, ap (λ c. c ∷ (before ++ 93 ∷ after)) is, All-nil (λ code. code ≢ 93))
      | inr other ↦
          let more = first_closing before after in
          (code ∷ more.0, more.1, ap (λ codes. code ∷ codes) more.2, All-cons (λ code. code ≢ 93) code more.0 other more.3)
    ]

-- a `]` behind the first character closes a set
closes : (first : ℕ) (before after : List ℕ) → first ≢ 33 → IsClosed (first ∷ (before ++ 93 ∷ after))
closes first before after plain =
    let found = first_closing before after in
    (false, first ∷ found.0, found.1, ap (λ codes. first ∷ codes) found.2, ((λ _. plain), found.3))

closes_negated : (first : ℕ) (before after : List ℕ) → IsClosed (33 ∷ first ∷ (before ++ 93 ∷ after))
closes_negated first before after =
    let found = first_closing before after in
    (true, first ∷ found.0, found.1, ap (λ codes. 33 ∷ first ∷ codes) found.2, ((λ e. absurd (true≢false e)), found.3))

behind_mark : (front before after : List ℕ) → IsClosed (33 ∷ (front ++ 91 ∷ (before ++ 93 ∷ after)))
behind_mark [] before after = closes_negated 91 before after
behind_mark (first ∷ front) before after = subst (λ (codes : List ℕ). IsClosed (33 ∷ first ∷ codes)) (append_assoc front (91 ∷ before) (93 ∷ after)) (closes_negated first (front ++ 91 ∷ before) after)

-- what closes a later `[` closes an earlier one
closed_behind : (front before after : List ℕ) → IsClosed (front ++ 91 ∷ (before ++ 93 ∷ after))
closed_behind [] before after = closes 91 before after (eqb-false 91 33 refl)
closed_behind (first ∷ front) before after =
    elim (cases_eq first 33) [
      | inl mark ↦ subst (λ (code : ℕ). IsClosed (code ∷ (front ++ 91 ∷ (before ++ 93 ∷ after)))) (sym mark) (behind_mark front before after)
      | inr plain ↦ subst (λ (codes : List ℕ). IsClosed (first ∷ codes)) (append_assoc front (91 ∷ before) (93 ∷ after)) (closes first (front ++ 91 ∷ before) after plain)
    ]

-- so once a `[` is not closed, none behind it is
pub NeverClosed-behind : (text : List ℕ) → ¬ (IsClosed text) → NeverClosed text
NeverClosed-behind text apart = λ front after e closed.
    let whole : text ≡ front ++ 91 ∷ (bracketed closed.0 closed.1 ++ 93 ∷ closed.2) = e ∙ ap (λ codes. front ++ 91 ∷ codes) closed.3 in
    apart (subst IsClosed (sym whole) (closed_behind front (bracketed closed.0 closed.1) closed.2))

pub NeverClosed-tail : (code : ℕ) (text : List ℕ) → NeverClosed (code ∷ text) → NeverClosed text
NeverClosed-tail code text never = λ front after e. never (code ∷ front) after (ap (λ codes. code ∷ codes) e)

pub NeverClosed-first : (code : ℕ) (text : List ℕ) → code ≡ 91 → NeverClosed (code ∷ text) → ¬ (IsClosed text)
NeverClosed-first code text e never = never [] text (ap (λ c. c ∷ text) e)
