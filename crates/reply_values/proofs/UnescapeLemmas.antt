-- Character data, read piece by piece.
use Rattle.std.proofs.Common.{◌≡◌, ◌+◌, ◌-◌, ◌<◌, ◌++◌, ◌∷◌, ◌∙◌, ℕ, cond, List, [], length, get_or, take, drop, Option}
use Rattle.std.proofs.Common.{Some, None, inl, inr, sym, ap, refl, arith, lit<, subst}
use Rattle.std.specs.Prelude.{codes, encode_utf8}
use Rattle.std.specs.Str.{bytes_eq}
use Rattle.std.proofs.lemmas.Bool.{and_parts}
use Rattle.std.proofs.lemmas.List.{append_assoc, length-append, length-drop, take-append-drop, get_or-drop}
use Rattle.std.proofs.lemmas.List.{get_or-append_right}
use Rattle.std.proofs.Math.Seq.{take-append_seam, drop-append_seam}
use Rattle.std.proofs.lemmas.Option.{same_Some}
use Rattle.reply_values.specs.Spelling.{StartsPiece, StartsNoPiece}
use Rattle.reply_values.specs.References.{IsEntity, IsNumbered, Names, IsReference, IsPlain, StandsForText, IsUnescaped}
use Rattle.reply_values.specs.References.{IsBadReference}
use Rattle.reply_values.proofs.SpellingLemmas.{IsPlainCode, heads, tails, head_is, spells_nothing, spells_piece}
use Rattle.reply_values.proofs.SpellingLemmas.{spells_more, spells_one, spells_stuck}
use Rattle.reply_values.proofs.NumberLemmas.{Writes-same}
use Rattle.reply_values.proofs.ReferenceLemmas.{Lacks, differs, first_cut, names_lack, no_decimal_x, reference_split}

-- the character of an entity's name
entity : List ℕ → Option ℕ
entity name =
    cond (bytes_eq name (codes "lt")) (Some 60)
    (cond (bytes_eq name (codes "gt")) (Some 62)
    (cond (bytes_eq name (codes "amp")) (Some 38)
    (cond (bytes_eq name (codes "quot")) (Some 34)
    (cond (bytes_eq name (codes "apos")) (Some 39) None))))

entity_is : (name : List ℕ) (char : ℕ) → IsEntity name char → entity name ≡ Some char
unfolding entity
entity_is name char (inl h) = rw (h.0, h.1) refl
entity_is name char (inr (inl h)) = rw (h.0, h.1) refl
entity_is name char (inr (inr (inl h))) = rw (h.0, h.1) refl
entity_is name char (inr (inr (inr (inl h)))) = rw (h.0, h.1) refl
entity_is name char (inr (inr (inr (inr h)))) = rw (h.0, h.1) refl

hash_is_none : (rest : List ℕ) → entity (35 ∷ rest) ≡ None
unfolding entity
hash_is_none rest = refl

not_both : (name : List ℕ) (char : ℕ) (rest : List ℕ) → IsEntity name char → name ≡ 35 ∷ rest → ⊥
not_both name char rest h e = let none : Some char ≡ None = sym (entity_is name char h) ∙ ap entity e
    ∙ hash_is_none rest in absurd_some none
  where
    absurd_some : Some char ≡ None → ⊥
    absurd_some k = cc

numbered_is : (name : List ℕ) (char : ℕ) → IsNumbered name char → (rest : List ℕ) × (name ≡ 35 ∷ rest)
numbered_is name char (scalar, inl (digits, e, h)) = (digits, e)
numbered_is name char (scalar, inr (digits, e, h)) = (120 ∷ digits, e)

-- a name stands for one character
pub Names-same : (name : List ℕ) (a b : ℕ) → Names name a → Names name b → a ≡ b
Names-same name a b (inl h) (inl k) = same_Some _ _ (sym (entity_is name a h) ∙ entity_is name b k)
Names-same name a b (inl h) (inr k) = let rest = numbered_is name b k in absurd (not_both name a rest.0 h rest.1)
Names-same name a b (inr h) (inl k) = let rest = numbered_is name a h in absurd (not_both name b rest.0 k rest.1)
Names-same name a b (inr (_, inl (ds, e, h))) (inr (_, inl (es, f, k))) = Writes-same (rw (tails (sym e ∙ f)) at h) k
Names-same name a b (inr (_, inl (ds, e, h))) (inr (_, inr (es, f, k))) = absurd (no_decimal_x (tails (sym e ∙ f)) h)
Names-same name a b (inr (_, inr (ds, e, h))) (inr (_, inl (es, f, k))) = absurd (no_decimal_x (tails (sym f ∙ e)) k)
Names-same name a b (inr (_, inr (ds, e, h))) (inr (_, inr (es, f, k))) =
    Writes-same (rw (tails (tails (sym e ∙ f))) at h) k

some : (p x : List ℕ) → StandsForText p x → 0 < length p
some p x (inl reference) = rw reference.written (omega arith)
some p x (inr plain) = rw plain.written (lit< tt)

reference_first : (p x r : List ℕ) (h : IsReference p x) → p ++ r ≡ 38 ∷ (h.name ++ (59 ∷ r))
reference_first p x r h = reference_split (p ++ r) p x r h refl

plain_first : (p x r : List ℕ) (h : IsPlain p x) → p ++ r ≡ h.own ∷ r
plain_first p x r h = rw h.written refl

same_name : (p q x y r s : List ℕ) (h : IsReference p x) (k : IsReference q y) → p ++ r ≡ q ++ s → h.name ≡ k.name
same_name p q x y r s h k e =
    first_cut 59 h.name k.name r s (names_lack h.name h.char h.named) (names_lack k.name k.char k.named)
    (tails (sym (reference_first p x r h) ∙ e ∙ reference_first q y s k))

first : (p q x y r s : List ℕ) → StandsForText p x → StandsForText q y → p ++ r ≡ q ++ s → p ≡ q
first p q x y r s (inl h) (inl k) e = h.written ∙ ap (λ name. codes "&" ++ name ++ codes ";")
    (same_name p q x y r s h k e) ∙ sym k.written
first p q x y r s (inl h) (inr k) e =
    absurd (k.no_reference (sym (heads (sym (reference_first p x r h) ∙ e ∙ plain_first q y s k))))
first p q x y r s (inr h) (inl k) e =
    absurd (h.no_reference (heads (sym (plain_first p x r h) ∙ e ∙ reference_first q y s k)))
first p q x y r s (inr h) (inr k) e = h.written ∙ ap (λ b. b ∷ [])
    (heads (sym (plain_first p x r h) ∙ e ∙ plain_first q y s k)) ∙ sym k.written

one : (p x y : List ℕ) → StandsForText p x → StandsForText p y → x ≡ y
one p x y (inl h) (inl k) =
    let named = rw (same_name p p x y [] [] h k refl) at h.named in
    h.meant ∙ ap encode_utf8 (Names-same k.name h.char k.char named k.named) ∙ sym k.meant
one p x y (inl h) (inr k) = absurd (k.no_reference
    (sym (heads (sym (reference_first p x [] h) ∙ plain_first p y [] k))))
one p x y (inr h) (inl k) = absurd (h.no_reference (heads (sym (plain_first p x [] h) ∙ reference_first p y [] k)))
one p x y (inr h) (inr k) = h.meant ∙ ap (λ b. b ∷ []) (heads (sym h.written ∙ k.written)) ∙ sym k.meant

pub text_code : IsPlainCode StandsForText
text_code = record { some = some; first = first; one = one }

-- character data spells one text
pub IsUnescaped-same : (raw x y : List ℕ) → IsUnescaped raw x → IsUnescaped raw y → x ≡ y
IsUnescaped-same = spells_one StandsForText text_code

-- without `&` it spells itself
pub plain_run : (raw : List ℕ) → Lacks 38 raw → IsUnescaped raw raw
plain_run [] none = spells_nothing StandsForText
plain_run (b ∷ raw) none =
    let parts = and_parts _ _ none in
    let piece : StandsForText (b ∷ []) (b ∷ []) =
    inr (record { own = b; written = refl; meant = refl; no_reference = differs b 38 parts.0 }) in
    spells_more StandsForText (b ∷ []) raw (b ∷ []) raw (spells_piece StandsForText (b ∷ []) (b ∷ []) piece)
    (plain_run raw parts.1)

pub unescaped_more : (front plain x : List ℕ) → IsUnescaped front x → Lacks 38 plain
    → IsUnescaped (front ++ plain) (x ++ plain)
unescaped_more front plain x h none = spells_more StandsForText front plain x plain h (plain_run plain none)

no_piece : (text : List ℕ) → StartsNoPiece IsReference (38 ∷ text) → StartsNoPiece StandsForText (38 ∷ text)
no_piece text none piece meant more e (inl h) = none piece meant more e h
no_piece text none piece meant more e (inr h) = h.no_reference (sym (heads (e ∙ plain_first piece meant more h)))

pub bad_reference : (raw front behind text : List ℕ) → raw ≡ front ++ (38 ∷ behind) → IsUnescaped front text
    → StartsNoPiece IsReference (38 ∷ behind) → IsBadReference raw (length front)
bad_reference raw front behind text e h none =
    let start : length front - length front ≡ 0 = omega arith in
    rw e (record {
      before = (text, rw (take-append_seam front (38 ∷ behind)) h);
      inside = omega (arith, length-append front (38 ∷ behind));
      ampersand = get_or-append_right front (38 ∷ behind) (length front) (length front) 0 refl (omega arith)
          ∙ ap (λ i. get_or (38 ∷ behind) i 0) start;
      bad = rw (drop-append_seam front (38 ∷ behind)) none;
    })

-- character data with a bad reference spells no text
pub bad_spells_none : (raw : List ℕ) (place : ℕ) → IsBadReference raw place → (text : List ℕ) → IsUnescaped raw text → ⊥
bad_spells_none raw place bad text h =
    let rest = drop place raw in
    let some : 0 < length rest = omega (arith, length-drop place raw, bad.inside) in
    let whole = sym (take-append-drop place raw) in
    let at : place + 0 ≡ place = omega arith in
    let ampersand : get_or rest 0 0 ≡ 38 = get_or-drop place raw 0 0 ∙ ap (λ i. get_or raw i 0) at ∙ bad.ampersand in
    let start = head_is rest 38 some ampersand in
    let none = no_piece (drop 1 rest) (subst (λ (t : List ℕ). StartsNoPiece IsReference t) start bad.bad) in
    spells_stuck StandsForText text_code (take place raw) rest bad.before.0 bad.before.1 some
    (subst (λ (t : List ℕ). StartsNoPiece StandsForText t) (sym start) none) text (rw whole at h)

-- a run without `&`, and then a bad reference
pub bad_at : (raw front rest plain behind text : List ℕ) (place : ℕ) → raw ≡ front ++ rest
    → rest ≡ plain ++ (38 ∷ behind) → Lacks 38 plain → IsUnescaped front text → StartsNoPiece IsReference (38 ∷ behind)
    → place ≡ length raw - length behind - 1 → IsBadReference raw place
bad_at raw front rest plain behind text place e f lacks h none at =
    let split : raw ≡ (front ++ plain) ++ (38 ∷ behind) = e ∙ ap (λ t. front ++ t) f
    ∙ sym (append_assoc front plain (38 ∷ behind)) in
    let here : length (front ++ plain) ≡ place =
    omega (arith, at, ap length split, length-append (front ++ plain) (38 ∷ behind)) in
    subst (λ (k : ℕ). IsBadReference raw k) here
    (bad_reference raw (front ++ plain) behind (text ++ plain) split (unescaped_more front plain text h lacks) none)

-- a run without `&`, and then a reference
pub reference_more : (raw front rest plain behind text char next : List ℕ) → raw ≡ front ++ rest
    → rest ≡ plain ++ (38 ∷ behind) → Lacks 38 plain → IsUnescaped front text
    → StartsPiece IsReference (38 ∷ behind) char next → (done : List ℕ) × (raw ≡ done ++ next)
    × IsUnescaped done (text ++ plain ++ char)
reference_more raw front rest plain behind text char next e f lacks h start =
    let run = unescaped_more front plain text h lacks in
    let split : raw ≡ front ++ plain ++ start.piece ++ next =
    e ∙ ap (λ t. front ++ t) (f ∙ ap (λ t. plain ++ t) start.split) ∙ simp append_assoc in (
      front ++ plain ++ start.piece,
      split,
      spells_more StandsForText (front ++ plain) start.piece (text ++ plain) char run
          (spells_piece StandsForText start.piece char (inl start.stands)),
    )
