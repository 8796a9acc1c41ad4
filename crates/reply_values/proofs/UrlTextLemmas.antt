-- The pieces of escaped texts.
use Rattle.std.proofs.Common.{◌≡◌, ◌≢◌, ◌+◌, ◌*◌, ◌<◌, ◌≤◌, ◌++◌, ◌∷◌, ◌∙◌, ℕ, Bool, true, false, List, [], length}
use Rattle.std.proofs.Common.{get_or, take, drop, Option, Some, None, inl, inr, sym, ap, refl, arith, lit<}
use Rattle.std.specs.Char.{digit_value}
use Rattle.std.specs.Prelude.{IfNone}
use Rattle.std.proofs.Math.Seq.{take-append_seam}
use Rattle.reply_values.specs.Spelling.{StartsPiece, StartsNoPiece}
use Rattle.reply_values.specs.UrlText.{IsSpace, IsEscape, IsItself, MeansText, StandsForByte, SpellsUrlText}
use Rattle.reply_values.proofs.SpellingLemmas.{IsPlainCode, spells_one, heads, tails}
use Rattle.reply_values.proofs.NumberLemmas.{Writes-same}

apart : {r s : List ℕ} → 43 ∷ r ≡ 37 ∷ s → ⊥
apart e = let same = heads e in omega arith

pub hex_piece : (digits : List ℕ) (high low : ℕ) → 2 ≤ length digits → digit_value (get_or digits 0 0) ≡ high
    → high < 16 → digit_value (get_or digits 1 0) ≡ low → low < 16
    → StartsPiece IsEscape (37 ∷ digits) ((high * 16 + low) ∷ []) (drop 2 digits)
hex_piece [] high low some h hs l ls = absurd (omega arith)
hex_piece (a ∷ []) high low some h hs l ls = absurd (omega arith)
hex_piece (a ∷ (b ∷ rest)) high low some h hs l ls = record {
  piece = 37 ∷ a ∷ b ∷ [];
  split = refl;
  stands = record {
    digits = a ∷ b ∷ [];
    number = high * 16 + low;
    written = refl;
    two = refl;
    hex = record { digits = (omega arith, (omega arith, (omega arith, tt))); value = omega arith };
    meant = refl;
  };
}

-- a `%` starts nothing but an escape
pub percent_refused : (text : List ℕ) → StartsNoPiece IsEscape (37 ∷ text) → StartsNoPiece StandsForByte (37 ∷ text)
percent_refused text none piece meant more e (inl space) = let both = rw space.0 at e in apart (sym both)
percent_refused text none piece meant more e (inr (inl escape)) = none piece meant more e escape
percent_refused text none piece meant more e (inr (inr itself)) =
    let first : 37 ∷ text ≡ itself.own ∷ more = rw itself.written at e in
    itself.no_percent (sym (heads first))

pub refused_from : {X : Type 0} (result : Option X) (P Q : Type 0) → (P → Q) → IfNone result P → IfNone result Q
refused_from None P Q f h = f h
refused_from (Some x) P Q f h = tt

pub space_stands : (text : List ℕ) → StartsPiece StandsForByte (43 ∷ text) (32 ∷ []) text
space_stands text = record { piece = 43 ∷ []; split = refl; stands = inl (refl, refl) }

pub byte_stands : (byte : ℕ) (text : List ℕ) → byte ≢ 37 → byte ≢ 43
    → StartsPiece StandsForByte (byte ∷ text) (byte ∷ []) text
byte_stands byte text percent plus = record {
  piece = byte ∷ [];
  split = refl;
  stands = inr (inr (record { own = byte; written = refl; meant = refl; no_percent = percent; no_plus = plus }));
}

-- what stands first in a piece
escape_first : (p x r : List ℕ) (escape : IsEscape p x) → p ++ r ≡ 37 ∷ (escape.digits ++ r)
escape_first p x r escape = rw escape.written refl

space_first : (p x r : List ℕ) → IsSpace p x → p ++ r ≡ 43 ∷ r
space_first p x r space = rw space.0 refl

itself_first : (p x r : List ℕ) (itself : IsItself p x) → p ++ r ≡ itself.own ∷ r
itself_first p x r itself = rw itself.written refl

some : (p x : List ℕ) → StandsForByte p x → 0 < length p
some p x (inl space) = rw space.0 (lit< tt)
some p x (inr (inl escape)) = rw escape.written (omega arith)
some p x (inr (inr itself)) = rw itself.written (lit< tt)

same_digits : (ds es r s : List ℕ) → length ds ≡ 2 → length es ≡ 2 → ds ++ r ≡ es ++ s → ds ≡ es
same_digits ds es r s two also e =
    sym (take_seam ds r 2 two) ∙ ap (take 2) e ∙ take_seam es s 2 also
  where
    take_seam : (xs ys : List ℕ) (n : ℕ) → length xs ≡ n → take n (xs ++ ys) ≡ xs
    take_seam xs ys n e = ap (λ k. take k (xs ++ ys)) (sym e) ∙ take-append_seam xs ys

first : (p q x y r s : List ℕ) → StandsForByte p x → StandsForByte q y → p ++ r ≡ q ++ s → p ≡ q
first p q x y r s (inl h) (inl k) e = h.0 ∙ sym k.0
first p q x y r s (inl h) (inr (inl k)) e = absurd (apart (sym (space_first p x r h) ∙ e ∙ escape_first q y s k))
first p q x y r s (inl h) (inr (inr k)) e =
    let both = sym (space_first p x r h) ∙ e ∙ itself_first q y s k in
    let own : k.own ≡ 43 = sym (heads both) in
    absurd (k.no_plus own)
first p q x y r s (inr (inl h)) (inl k) e = absurd (apart (sym (space_first q y s k) ∙ sym e ∙ escape_first p x r h))
first p q x y r s (inr (inl h)) (inr (inl k)) e =
    let both = sym (escape_first p x r h) ∙ e ∙ escape_first q y s k in
    let behind : h.digits ++ r ≡ k.digits ++ s = tails both in
    h.written ∙ ap (λ ds. 37 ∷ ds) (same_digits h.digits k.digits r s h.two k.two behind) ∙ sym k.written
first p q x y r s (inr (inl h)) (inr (inr k)) e =
    let both = sym (escape_first p x r h) ∙ e ∙ itself_first q y s k in
    let own : k.own ≡ 37 = sym (heads both) in
    absurd (k.no_percent own)
first p q x y r s (inr (inr h)) (inl k) e =
    let both = sym (itself_first p x r h) ∙ e ∙ space_first q y s k in
    let own : h.own ≡ 43 = heads both in
    absurd (h.no_plus own)
first p q x y r s (inr (inr h)) (inr (inl k)) e =
    let both = sym (itself_first p x r h) ∙ e ∙ escape_first q y s k in
    let own : h.own ≡ 37 = heads both in
    absurd (h.no_percent own)
first p q x y r s (inr (inr h)) (inr (inr k)) e =
    let both = sym (itself_first p x r h) ∙ e ∙ itself_first q y s k in
    let own : h.own ≡ k.own = heads both in
    h.written ∙ ap (λ b. b ∷ []) own ∙ sym k.written

one : (p x y : List ℕ) → StandsForByte p x → StandsForByte p y → x ≡ y
one p x y (inl h) (inl k) = h.1 ∙ sym k.1
one p x y (inl h) (inr (inl k)) = absurd (apart (sym (space_first p x [] h) ∙ escape_first p y [] k))
one p x y (inl h) (inr (inr k)) =
    let both = sym (space_first p x [] h) ∙ itself_first p y [] k in
    let own : k.own ≡ 43 = sym (heads both) in
    absurd (k.no_plus own)
one p x y (inr (inl h)) (inl k) = absurd (apart (sym (space_first p y [] k) ∙ escape_first p x [] h))
one p x y (inr (inl h)) (inr (inl k)) =
    let both = sym h.written ∙ k.written in
    let digits : h.digits ≡ k.digits = tails both in
    let number : h.number ≡ k.number = Writes-same (rw digits at h.hex) k.hex in
    h.meant ∙ ap (λ b. b ∷ []) number ∙ sym k.meant
one p x y (inr (inl h)) (inr (inr k)) =
    let both = sym (escape_first p x [] h) ∙ itself_first p y [] k in
    let own : k.own ≡ 37 = sym (heads both) in
    absurd (k.no_percent own)
one p x y (inr (inr h)) (inl k) =
    let both = sym (itself_first p x [] h) ∙ space_first p y [] k in
    let own : h.own ≡ 43 = heads both in
    absurd (h.no_plus own)
one p x y (inr (inr h)) (inr (inl k)) =
    let both = sym (itself_first p x [] h) ∙ escape_first p y [] k in
    let own : h.own ≡ 37 = heads both in
    absurd (h.no_percent own)
one p x y (inr (inr h)) (inr (inr k)) =
    let both = sym h.written ∙ k.written in
    let own : h.own ≡ k.own = heads both in
    h.meant ∙ ap (λ b. b ∷ []) own ∙ sym k.meant

pub url_code : IsPlainCode StandsForByte
url_code = record { some = some; first = first; one = one }

-- an escaped text spells one text
pub SpellsUrlText-same : (written x y : List ℕ) → SpellsUrlText written x → SpellsUrlText written y → x ≡ y
SpellsUrlText-same written x y h k = spells_one StandsForByte url_code written x y h.bytes k.bytes

-- a written text means one text
pub MeansText-same : (url : Bool) (written text other : List ℕ) → MeansText url written text
    → MeansText url written other → other ≡ text
MeansText-same false written text other r s = s ∙ sym r
MeansText-same true written text other r s = SpellsUrlText-same written other text s r
