-- References that the end of a text cuts short.
use Rattle.std.proofs.Common.{◌≡◌, ◌≢◌, ◌<◌, ◌≤◌, ◌^◌, ◌*◌, ◌++◌, ◌∷◌, ◌∙◌, ◌⊎◌, ◌||◌, ℕ, Bool, true, false, List, []}
use Rattle.std.proofs.Common.{length, inl, inr, sym, ap, refl, arith, lit<, subst, nat_eq, ⊎_elim}
use Rattle.std.specs.Prelude.{codes, encode_utf8}
use Rattle.std.specs.Char.{IsScalar, digit_value}
use Rattle.std.specs.List.{AllByRecursion, flat_map, starts_with}
use Rattle.std.specs.Str.Parse.{AllDigits, digits_value}
use Rattle.std.proofs.Math.Nat.{mul-le-mul_left}
use Rattle.std.proofs.Math.Seq.{take-append_seam}
use Rattle.std.proofs.lemmas.Bool.{and_parts, cases_lt, eqb-true, false≢true, or_cases, or_left, or_right}
use Rattle.std.proofs.lemmas.Bool.Decides.{nat_tests}
use Rattle.std.proofs.lemmas.Int.Digits.{digits_push, digits_value_push}
use Rattle.std.proofs.lemmas.List.{append_assoc, append-nil, append_cancel_left, length-append}
use Rattle.std.proofs.lemmas.Str.Parse.{digits_value-take-le}
use Rattle.reply_values.specs.Numbers.{Writes}
use Rattle.reply_values.specs.Spelling.{Piece, StartsNoPiece}
use Rattle.reply_values.specs.References.{begins_entity, BeginsNumber, GoesOn, IsCutShort, IsEntity, IsReference}
use Rattle.reply_values.specs.References.{IsUnescaped, Names, StandsForText}
use Rattle.reply_values.proofs.ReferenceLemmas.{no_decimal_x}
use Rattle.reply_values.proofs.SpellingLemmas.{heads, spells_behind, spells_more, tails}
use Rattle.reply_values.proofs.UnescapeLemmas.{text_code}
use Rattle.shared_lemmas.proofs.Lists.{no_cons, starts_front}

-- what begins with a text
starts_split : (whole front : List ℕ) → starts_with nat_eq whole front ≡ true
    → (more : List ℕ) × (front ++ more ≡ whole)
starts_split whole [] h = (whole, refl)
starts_split [] (f ∷ front) h = absurd (cc)
starts_split (w ∷ whole) (f ∷ front) h =
    let parts = and_parts (nat_eq f w) (starts_with nat_eq whole front) h in
    let below = starts_split whole front parts.1 in (
      below.0,
      ap (λ (b : ℕ). b ∷ (front ++ below.0)) (eqb-true _ _ parts.0)
          ∙ ap (λ (bytes : List ℕ). w ∷ bytes) below.1,
    )

-- of two fronts of a text one begins with the other
overlap : (a b c d : List ℕ) → a ++ b ≡ c ++ d → ((more : List ℕ) × (c ≡ a ++ more))
    ⊎ ((more : List ℕ) × (a ≡ c ++ more))
overlap [] b c d e = inl (c, refl)
overlap (x ∷ a) b [] d e = inr (x ∷ a, refl)
overlap (x ∷ a) b (y ∷ c) d e =
    ⊎_elim
    (λ l. inl (l.0, ap (λ (n : ℕ). n ∷ c) (sym (heads e)) ∙ ap (λ (t : List ℕ). x ∷ t) l.1))
    (λ r. inr (r.0, ap (λ (n : ℕ). n ∷ a) (heads e) ∙ ap (λ (t : List ℕ). y ∷ t) r.1))
    (overlap a b c d (tails e))

number_scalar : (number : ℕ) → number < 55296 → IsScalar number
number_scalar number small = grind (arith, nat_tests)

high_scalar : (number : ℕ) → 57344 ≤ number → number < 1114112 → IsScalar number
high_scalar number least most = grind (arith, nat_tests)

pub long_is : (bytes : List ℕ) → nat_eq (length bytes) 0 ≡ false → 0 < length bytes
long_is [] e = absurd (false≢true (sym e ∙ refl))
long_is (b ∷ bytes) e = omega arith

digits_front : (radix : ℕ) (xs ys : List ℕ) → AllDigits radix (xs ++ ys) → AllDigits radix xs
digits_front radix [] ys h = tt
digits_front radix (x ∷ xs) ys h = (h.0, digits_front radix xs ys h.1)

writes_front : (radix : ℕ) (digits more : List ℕ) (char : ℕ) → 1 ≤ radix → 0 < length digits
    → Writes radix (digits ++ more) char
    → Writes radix digits (digits_value radix digits) × (digits_value radix digits ≤ char)
writes_front radix digits more char some long w =
    let less = rw (take-append_seam digits more)
    at (digits_value-take-le radix (digits ++ more) (length digits) some) in
    (record { digits = (long, digits_front radix digits more w.digits.1); value = refl }, omega (arith, less, w.value))

pub no_digits : (radix : ℕ) → 2 ≤ radix → BeginsNumber radix []
no_digits radix least = (
  codes "0",
  0,
  number_scalar 0 (lit< tt),
  record { digits = (lit< tt, (omega arith, tt)); value = omega arith },
)

writes_more : (radix : ℕ) (digits : List ℕ) (number : ℕ) → 2 ≤ radix → Writes radix digits number
    → Writes radix (digits ++ codes "0") (number * radix)
writes_more radix digits number least w =
    let size = length-append digits (codes "0") in
    let value = digits_value_push radix digits 48 in
    let zero : digit_value 48 ≡ 0 = refl in
    record {
      digits = (omega (arith, size), digits_push radix digits 48 w.digits.1 (omega arith));
      value = rw (← w.value) (omega (arith, value, zero));
    }

pub digits_begin : (radix : ℕ) (digits : List ℕ) (number : ℕ) → 2 ≤ radix → radix ≤ 16 → Writes radix digits number
    → number ≤ 1114111 → BeginsNumber radix digits
digits_begin radix digits number least most w small =
    ⊎_elim (λ low. ([], number, number_scalar number low, rw (append-nil digits) w))
    (
    ⊎_elim (λ high. ([], number, high_scalar number high (omega (arith, small)), rw (append-nil digits) w))
    (
    λ (between : (55296 ≤ number) × (number < 57344)).
    let above = mul-le-mul_left number least in
    let below = mul-le-mul_left number most in (
      codes "0",
      number * radix,
      high_scalar (number * radix) (omega (arith, above, between.0))
          (omega (arith, below, between.1)),
      writes_more radix digits number least w,
    )
    )
    )
    (⊎_elim (λ low. inl low) (λ least. inr (⊎_elim (λ below. inr (least, below)) (λ high. inl high)
    (cases_lt number 57344))) (cases_lt number 55296))

pub no_number_begins : (radix : ℕ) (digits : List ℕ) → 1 ≤ radix → 0 < length digits
    → ((number : ℕ) → number < 2 ^ 64 → ¬ (Writes radix digits number)) → BeginsNumber radix digits → ⊥
no_number_begins radix digits some long none b =
    let front = writes_front radix digits b.0 b.1 some long b.3 in
    none (digits_value radix digits) (omega (arith, scalar_below b.1 b.2, front.1)) front.0
  where
    scalar_below : (c : ℕ) → IsScalar c → c < 1114112
    scalar_below c s = grind (arith, nat_tests)

pub great_begins : (radix : ℕ) (digits : List ℕ) (number : ℕ) → 1 ≤ radix → 1114111 < number
    → Writes radix digits number → BeginsNumber radix digits → ⊥
great_begins radix digits number some great w b =
    let front = writes_front radix digits b.0 b.1 some w.digits.0 b.3 in
    omega (arith, scalar_below b.1 b.2, front.1, w.value, great)
  where
    scalar_below : (c : ℕ) → IsScalar c → c < 1114112
    scalar_below c s = grind (arith, nat_tests)

-- names of entities
abbrev BeginsEntity : List ℕ → Type 0
BeginsEntity name = (more : List ℕ) × (entity : List ℕ) × (char : ℕ) × IsEntity entity char
    × (name ++ more ≡ entity ++ codes ";")

pub entity_text : (name : List ℕ) → begins_entity name ≡ true → BeginsEntity name
entity_text name h =
    ⊎_elim (λ e. let s = starts_split _ name e in (s.0, codes "lt", 60, inl (refl, refl), s.1))
    (
    λ h. ⊎_elim (λ e. let s = starts_split _ name e in (s.0, codes "gt", 62, inr (inl (refl, refl)), s.1))
    (
    λ h. ⊎_elim (λ e. let s = starts_split _ name e in (s.0, codes "amp", 38, inr (inr (inl (refl, refl))), s.1))
    (
    λ h. ⊎_elim (λ e. let s = starts_split _ name e in (s.0, codes "quot", 34, inr (inr (inr (inl (refl, refl)))), s.1))
    (λ e. let s = starts_split _ name e in (s.0, codes "apos", 39, inr (inr (inr (inr (refl, refl)))), s.1))
    (or_cases _ _ h)
    )
    (or_cases _ _ h)
    )
    (or_cases _ _ h)
    )
    (or_cases _ _ h)

front_true : (name more whole : List ℕ) → name ++ more ≡ whole → starts_with nat_eq whole name ≡ true
front_true name more whole e = subst (λ (w : List ℕ). starts_with nat_eq w name ≡ true) e (starts_front name more)

any_of : (a b c d e : Bool) → (a ≡ true) ⊎ (b ≡ true) ⊎ (c ≡ true) ⊎ (d ≡ true) ⊎ (e ≡ true)
    → (a || (b || (c || (d || e)))) ≡ true
any_of a b c d e (inl h) = or_left a (b || (c || (d || e))) h
any_of a b c d e (inr (inl h)) = or_right a (b || (c || (d || e))) (or_left b (c || (d || e)) h)
any_of a b c d e (inr (inr (inl h))) = or_right a (b || (c || (d || e)))
    (or_right b (c || (d || e)) (or_left c (d || e) h))
any_of a b c d e (inr (inr (inr (inl h)))) =
    or_right a (b || (c || (d || e))) (or_right b (c || (d || e)) (or_right c (d || e) (or_left d e h)))
any_of a b c d e (inr (inr (inr (inr h)))) =
    or_right a (b || (c || (d || e))) (or_right b (c || (d || e)) (or_right c (d || e) (or_right d e h)))

pub entity_true : (name : List ℕ) → BeginsEntity name → begins_entity name ≡ true
entity_true name (more, entity, char, is, e) =
    any_of (starts_with nat_eq (codes "lt;") name) (starts_with nat_eq (codes "gt;") name)
    (starts_with nat_eq (codes "amp;") name)
    (starts_with nat_eq (codes "quot;") name) (starts_with nat_eq (codes "apos;") name) (one_of is)
  where
    begun : (own : List ℕ) → entity ≡ own → starts_with nat_eq (own ++ codes ";") name ≡ true
    begun own same = front_true name more (own ++ codes ";") (e ∙ ap (λ (n : List ℕ). n ++ codes ";") same)

    one_of : IsEntity entity char → (starts_with nat_eq (codes "lt;") name ≡ true)
        ⊎ (starts_with nat_eq (codes "gt;") name ≡ true)
        ⊎ (starts_with nat_eq (codes "amp;") name ≡ true) ⊎ (starts_with nat_eq (codes "quot;") name ≡ true)
        ⊎ (starts_with nat_eq (codes "apos;") name ≡ true)
    one_of (inl h) = inl (begun (codes "lt") h.0)
    one_of (inr (inl h)) = inr (inl (begun (codes "gt") h.0))
    one_of (inr (inr (inl h))) = inr (inr (inl (begun (codes "amp") h.0)))
    one_of (inr (inr (inr (inl h)))) = inr (inr (inr (inl (begun (codes "quot") h.0))))
    one_of (inr (inr (inr (inr h)))) = inr (inr (inr (inr (begun (codes "apos") h.0))))

name_past : (name whole piece more : List ℕ) → name ≡ whole ++ piece → StartsNoPiece IsReference (38 ∷ name)
    → (char : ℕ) → Names whole char
    → name ++ more ≡ whole ++ codes ";" → (z : List ℕ) × (whole ≡ name ++ z)
name_past name whole [] more is none char names e = ([], sym (append-nil whole) ∙ sym is ∙ sym (append-nil name))
name_past name whole (p ∷ piece) more is none char names e =
    let behind : (p ∷ piece) ++ more ≡ codes ";" = append_cancel_left whole ((p ∷ piece) ++ more) (codes ";")
    (sym (append_assoc whole (p ∷ piece) more) ∙ ap (λ (n : List ℕ). n ++ more) (sym is) ∙ e) in
    let semicolon : p ≡ 59 = heads behind in
    let split : 38 ∷ name ≡ (codes "&" ++ whole ++ codes ";") ++ piece =
    ap (λ (t : List ℕ). 38 ∷ t) (is ∙ ap (λ (n : ℕ). whole ++ (n ∷ piece)) semicolon
    ∙ sym (append_assoc whole (codes ";") piece)) in
    absurd (none (codes "&" ++ whole ++ codes ";") (encode_utf8 char) piece split
    (record { name = whole; char = char; written = refl; named = names; meant = refl }))

completed : (name : List ℕ) → StartsNoPiece IsReference (38 ∷ name) → (c : IsCutShort (38 ∷ name))
    → (z : List ℕ) × Names (name ++ z) c.2.char
completed name none c =
    let r = c.2 in
    let whole : name ++ c.0 ≡ r.name ++ codes ";" = tails r.written in
    let longer : (z : List ℕ) × (r.name ≡ name ++ z) =
    ⊎_elim (λ l. l) (λ s. name_past name r.name s.0 c.0 s.1 none r.char r.named whole)
    (overlap name c.0 r.name (codes ";") whole) in
    (longer.0, subst (λ (n : List ℕ). Names n r.char) longer.1 r.named)

pub reference_begun : (name more whole : List ℕ) (char : ℕ) → name ++ more ≡ whole ++ codes ";" → Names whole char
    → IsCutShort (38 ∷ name)
reference_begun name more whole char e names = (
  more,
  encode_utf8 char,
  record {
    name = whole;
    char = char;
    written = ap (λ (t : List ℕ). 38 ∷ t) e;
    named = names;
    meant = refl;
  },
)

hash_is : (byte : ℕ) (rest more : List ℕ) → 35 ∷ rest ≡ byte ∷ more → 35 ≡ byte
hash_is byte rest more e = heads e

no_entity : (rest : List ℕ) (char : ℕ) → IsEntity (35 ∷ rest) char → ⊥
no_entity rest char (inl h) = let same = hash_is 108 rest (codes "t") h.0 in omega arith
no_entity rest char (inr (inl h)) = let same = hash_is 103 rest (codes "t") h.0 in omega arith
no_entity rest char (inr (inr (inl h))) = let same = hash_is 97 rest (codes "mp") h.0 in omega arith
no_entity rest char (inr (inr (inr (inl h)))) = let same = hash_is 113 rest (codes "uot") h.0 in omega arith
no_entity rest char (inr (inr (inr (inr h)))) = let same = hash_is 97 rest (codes "pos") h.0 in omega arith

-- behind `&#x`
pub hex_begins : (name digits hex : List ℕ) → name ≡ 35 ∷ digits → digits ≡ 120 ∷ hex → BeginsNumber 16 hex
    → IsCutShort (38 ∷ name)
hex_begins name digits hex a b n =
    reference_begun name (n.0 ++ codes ";") (35 ∷ 120 ∷ (hex ++ n.0)) n.1
    (
    ap (λ (t : List ℕ). t ++ (n.0 ++ codes ";")) (a ∙ ap (λ (t : List ℕ). 35 ∷ t) b)
    ∙ ap (λ (t : List ℕ). 35 ∷ 120 ∷ t) (sym (append_assoc hex n.0 (codes ";")))
    )
    (inr (n.2, inr (hex ++ n.0, refl, n.3)))

hex_named : (hex z : List ℕ) (char : ℕ) → Names (35 ∷ 120 ∷ (hex ++ z)) char → BeginsNumber 16 hex
hex_named hex z char (inl h) = absurd (no_entity (120 ∷ (hex ++ z)) char h)
hex_named hex z char (inr (s, inl (digits, e, w))) = absurd (no_decimal_x (sym (tails e)) w)
hex_named hex z char (inr (s, inr (digits, e, w))) =
    (z, char, s, subst (λ (d : List ℕ). Writes 16 d char) (sym (tails (tails e))) w)

pub hex_begun : (name digits hex : List ℕ) → name ≡ 35 ∷ digits → digits ≡ 120 ∷ hex
    → StartsNoPiece IsReference (38 ∷ name) → IsCutShort (38 ∷ name) → BeginsNumber 16 hex
hex_begun name digits hex a b none c =
    let done = completed name none c in
    hex_named hex done.0 c.2.char
    (subst (λ (n : List ℕ). Names (n ++ done.0) c.2.char) (a ∙ ap (λ (t : List ℕ). 35 ∷ t) b) done.1)

-- behind `&#` and no `x`
pub decimal_begins : (name digits : List ℕ) → name ≡ 35 ∷ digits → BeginsNumber 10 digits → IsCutShort (38 ∷ name)
decimal_begins name digits a n =
    reference_begun name (n.0 ++ codes ";") (35 ∷ (digits ++ n.0)) n.1
    (ap (λ (t : List ℕ). t ++ (n.0 ++ codes ";")) a ∙ ap (λ (t : List ℕ). 35 ∷ t)
    (sym (append_assoc digits n.0 (codes ";"))))
    (inr (n.2, inl (digits ++ n.0, refl, n.3)))

decimal_named : (digits z : List ℕ) (char : ℕ) → ((hex : List ℕ) → digits ≢ 120 ∷ hex) → Names (35 ∷ (digits ++ z)) char
    → BeginsNumber 10 digits
decimal_named digits z char plain (inl h) = absurd (no_entity (digits ++ z) char h)
decimal_named digits z char plain (inr (s, inl (own, e, w))) =
    (z, char, s, subst (λ (d : List ℕ). Writes 10 d char) (sym (tails e)) w)
decimal_named [] z char plain (inr (s, inr (own, e, w))) = no_digits 10 (omega arith)
decimal_named (d ∷ digits) z char plain (inr (s, inr (own, e, w))) =
    absurd (plain digits (ap (λ (n : ℕ). n ∷ digits) (heads (tails e))))

pub decimal_begun : (name digits : List ℕ) → name ≡ 35 ∷ digits → ((hex : List ℕ) → digits ≢ 120 ∷ hex)
    → StartsNoPiece IsReference (38 ∷ name) → IsCutShort (38 ∷ name) → BeginsNumber 10 digits
decimal_begun name digits a plain none c =
    let done = completed name none c in
    decimal_named digits done.0 c.2.char plain (subst (λ (n : List ℕ). Names (n ++ done.0) c.2.char) a done.1)

-- behind `&` and no `#`
pub entity_begun : (name : List ℕ) → BeginsEntity name → IsCutShort (38 ∷ name)
entity_begun name (more, entity, char, h, e) = reference_begun name more entity char e (inl h)

entity_named : (name z : List ℕ) (char : ℕ) → ((rest : List ℕ) → name ≢ 35 ∷ rest) → Names (name ++ z) char
    → BeginsEntity name
entity_named name z char plain (inl h) = (z ++ codes ";", name ++ z, char, h, sym (append_assoc name z (codes ";")))
entity_named [] z char plain (inr (s, n)) = (codes "lt;", codes "lt", 60, inl (refl, refl), refl)
entity_named (b ∷ name) z char plain (inr (s, inl (digits, e, w))) =
    absurd (plain name (ap (λ (n : ℕ). n ∷ name) (heads e)))
entity_named (b ∷ name) z char plain (inr (s, inr (digits, e, w))) =
    absurd (plain name (ap (λ (n : ℕ). n ∷ name) (heads e)))

pub entity_cut : (name : List ℕ) → ((rest : List ℕ) → name ≢ 35 ∷ rest) → StartsNoPiece IsReference (38 ∷ name)
    → IsCutShort (38 ∷ name) → BeginsEntity name
entity_cut name plain none c = let done = completed name none c in entity_named name done.0 c.2.char plain done.1

-- a text goes on exactly where more bytes complete its first bad reference
pub cut_goes_on : (raw front behind text : List ℕ) → raw ≡ front ++ (38 ∷ behind) → IsUnescaped front text
    → IsCutShort (38 ∷ behind) → GoesOn raw
cut_goes_on raw front behind text e h c = (
  c.0,
  text ++ c.1,
  subst (λ (t : List ℕ). IsUnescaped t (text ++ c.1))
      (sym (append_assoc front (38 ∷ behind) c.0) ∙ ap (λ (t : List ℕ). t ++ c.0) (sym e))
      (spells_more StandsForText front ((38 ∷ behind) ++ c.0) text c.1 h (spells_whole c.1 c.2)),
)
  where
    spells_whole : (t : List ℕ) → IsReference ((38 ∷ behind) ++ c.0) t → IsUnescaped ((38 ∷ behind) ++ c.0) t
    spells_whole t r = record {
      pieces = record { written = (38 ∷ behind) ++ c.0; meant = t } ∷ [];
      each = (inl r, tt);
      whole = append-nil _;
      meaning = append-nil t;
    }

first_cut_short : (rest more text : List ℕ) → StartsNoPiece IsReference (38 ∷ rest)
    → (s : IsUnescaped ((38 ∷ rest) ++ more) text) → IsCutShort (38 ∷ rest)
first_cut_short rest more text none s = by_pieces s.pieces s.each s.whole
  where
    stands : (p x r : List ℕ) → StandsForText p x → p ++ r ≡ (38 ∷ rest) ++ more → IsCutShort (38 ∷ rest)
    stands p x r (inl h) e =
        ⊎_elim (λ short. absurd (none p x short.0 short.1 h))
        (λ long. (long.0, x, subst (λ (t : List ℕ). IsReference t x) long.1 h))
        (overlap p r (38 ∷ rest) more e)
    stands p x r (inr h) e = absurd (h.no_reference (heads (ap (λ (t : List ℕ). t ++ r) (sym h.written) ∙ e)))

    by_pieces : (ps : List Piece) → AllByRecursion (λ piece. StandsForText piece.written piece.meant) ps
        → flat_map (λ piece. piece.written) ps ≡ (38 ∷ rest) ++ more → IsCutShort (38 ∷ rest)
    by_pieces [] each e = absurd (no_cons 38 (rest ++ more) (sym e))
    by_pieces (p ∷ ps) each e = stands p.written p.meant (flat_map (λ piece. piece.written) ps) each.0 e

pub goes_on_cut : (raw front behind text : List ℕ) → raw ≡ front ++ (38 ∷ behind) → IsUnescaped front text
    → StartsNoPiece IsReference (38 ∷ behind) → GoesOn raw → IsCutShort (38 ∷ behind)
goes_on_cut raw front behind text e h none g =
    let split : raw ++ g.0 ≡ front ++ ((38 ∷ behind) ++ g.0) = ap (λ (t : List ℕ). t ++ g.0) e
    ∙ append_assoc front (38 ∷ behind) g.0 in
    let left = spells_behind StandsForText text_code front ((38 ∷ behind) ++ g.0) text h g.1
    (subst (λ (t : List ℕ). IsUnescaped t g.1) split g.2) in
    first_cut_short behind g.0 left.0 none left.1
