-- What holds of every way to read a text piece by piece.
use Rattle.std.proofs.Common.{◌≡◌, ◌<◌, ◌++◌, ◌∷◌, ◌∙◌, ℕ, List, [], length, get_or, drop, sym, ap, refl, arith, subst}
use Rattle.std.specs.List.{AllByRecursion, flat_map}
use Rattle.std.proofs.lemmas.List.{append_assoc, append-nil, append_cancel_left, length-append}
use Rattle.std.proofs.lemmas.List.Concat.{flat_map-append}
use Rattle.reply_values.specs.Spelling.{Piece, Spells, StartsNoPiece}

pub heads : {a b : ℕ} {r s : List ℕ} → a ∷ r ≡ b ∷ s → a ≡ b
heads e = ap (λ text. get_or text 0 0) e

pub tails : {a b : ℕ} {r s : List ℕ} → a ∷ r ≡ b ∷ s → r ≡ s
tails e = ap (drop 1) e

pub head_is : (text : List ℕ) (byte : ℕ) → 0 < length text → get_or text 0 0 ≡ byte → text ≡ byte ∷ drop 1 text
head_is [] byte some e = absurd (omega arith)
head_is (b ∷ text) byte some e = ap (λ x. x ∷ text) e

abbrev pub written : List Piece → List ℕ
written = flat_map (λ piece. piece.written)

abbrev pub meant : List Piece → List ℕ
meant = flat_map (λ piece. piece.meant)

module _ (StandsFor : List ℕ → List ℕ → Type 0) where
  -- no piece is empty, only one piece stands at the front of a text, and it has one meaning
  pub record IsPlainCode : Type 0 where
    pub some : (p x : List ℕ) → StandsFor p x → 0 < length p
    pub first : (p q x y r s : List ℕ) → StandsFor p x → StandsFor q y → p ++ r ≡ q ++ s → p ≡ q
    pub one : (p x y : List ℕ) → StandsFor p x → StandsFor p y → x ≡ y

  abbrev pub Each : List Piece → Type 0
  Each = AllByRecursion (λ piece. StandsFor piece.written piece.meant)

  pub spells_nothing : Spells StandsFor [] []
  spells_nothing = record { pieces = []; each = tt; whole = refl; meaning = refl }

  pub spells_piece : (p x : List ℕ) → StandsFor p x → Spells StandsFor p x
  spells_piece p x h = record {
    pieces = record { written = p; meant = x } ∷ [];
    each = (h, tt);
    whole = append-nil p;
    meaning = append-nil x;
  }

  each-append : (ps qs : List Piece) → Each ps → Each qs → Each (ps ++ qs)
  each-append [] qs h k = k
  each-append (p ∷ ps) qs h k = (h.0, each-append ps qs h.1 k)

  pub spells_more : (a b x y : List ℕ) → Spells StandsFor a x → Spells StandsFor b y
      → Spells StandsFor (a ++ b) (x ++ y)
  spells_more a b x y h k = record {
    pieces = h.pieces ++ k.pieces;
    each = each-append h.pieces k.pieces h.each k.each;
    whole = flat_map-append (λ piece. piece.written) h.pieces k.pieces ∙ rw (h.whole, k.whole) refl;
    meaning = flat_map-append (λ piece. piece.meant) h.pieces k.pieces ∙ rw (h.meaning, k.meaning) refl;
  }

  not_empty : IsPlainCode → (p x r : List ℕ) → StandsFor p x → [] ≡ p ++ r → ⊥
  not_empty code p x r h e = let some = code.some p x h in omega (arith, length-append p r, ap length e)

  same_meaning : IsPlainCode → (ps qs : List Piece) → Each ps → Each qs → written ps ≡ written qs → meant ps ≡ meant qs
  same_meaning code [] [] h k e = refl
  same_meaning code [] (q ∷ qs) h k e = absurd (not_empty code q.written q.meant (written qs) k.0 e)
  same_meaning code (p ∷ ps) [] h k e = absurd (not_empty code p.written p.meant (written ps) h.0 (sym e))
  same_meaning code (p ∷ ps) (q ∷ qs) h k e =
      let piece = code.first p.written q.written p.meant q.meant (written ps) (written qs) h.0 k.0 e in
      let rest = append_cancel_left q.written (written ps) (written qs) (ap (λ t. t ++ written ps) (sym piece) ∙ e) in
      let head : p.meant ≡ q.meant = code.one q.written p.meant q.meant
      (subst (λ (t : List ℕ). StandsFor t p.meant) piece h.0) k.0 in
      ap (λ t. t ++ meant ps) head ∙ ap (λ t. q.meant ++ t) (same_meaning code ps qs h.1 k.1 rest)

  -- a text has one meaning
  pub spells_one : IsPlainCode → (text x y : List ℕ) → Spells StandsFor text x → Spells StandsFor text y → x ≡ y
  spells_one code text x y h k = sym h.meaning ∙ same_meaning code h.pieces k.pieces h.each k.each
      (h.whole ∙ sym k.whole) ∙ k.meaning

  stuck_pieces : IsPlainCode → (ps qs : List Piece) (rest : List ℕ) → Each ps → Each qs → 0 < length rest
      → StartsNoPiece StandsFor rest → written ps ++ rest ≡ written qs → ⊥
  stuck_pieces code [] [] rest h k some none e = let empty = ap length e in omega arith
  stuck_pieces code [] (q ∷ qs) rest h k some none e = none q.written q.meant (written qs) e k.0
  stuck_pieces code (p ∷ ps) [] rest h k some none e =
      not_empty code p.written p.meant (written ps ++ rest) h.0 (sym e ∙ append_assoc p.written (written ps) rest)
  stuck_pieces code (p ∷ ps) (q ∷ qs) rest h k some none e =
      let split = sym (append_assoc p.written (written ps) rest) ∙ e in
      let piece = code.first p.written q.written p.meant q.meant (written ps ++ rest) (written qs) h.0 k.0 split in
      let tail = append_cancel_left q.written (written ps ++ rest) (written qs)
      (ap (λ t. t ++ (written ps ++ rest)) (sym piece) ∙ split) in
      stuck_pieces code ps qs rest h.1 k.1 some none tail

  -- what is left spells nothing where no piece stands at its front, and so does the whole
  pub spells_stuck : IsPlainCode → (front rest x : List ℕ) → Spells StandsFor front x → 0 < length rest
      → StartsNoPiece StandsFor rest → (text : List ℕ) → Spells StandsFor (front ++ rest) text → ⊥
  spells_stuck code front rest x h some none text k =
      stuck_pieces code h.pieces k.pieces rest h.each k.each some none (ap (λ t. t ++ rest) h.whole ∙ sym k.whole)

  pieces_behind : IsPlainCode → (ps qs : List Piece) (rest : List ℕ) → Each ps → Each qs
      → written ps ++ rest ≡ written qs → (ts : List Piece) × Each ts × (written ts ≡ rest)
  pieces_behind code [] qs rest h k e = (qs, k, sym e)
  pieces_behind code (p ∷ ps) [] rest h k e =
      absurd (not_empty code p.written p.meant (written ps ++ rest) h.0
      (sym e ∙ append_assoc p.written (written ps) rest))
  pieces_behind code (p ∷ ps) (q ∷ qs) rest h k e =
      let split = sym (append_assoc p.written (written ps) rest) ∙ e in
      let piece = code.first p.written q.written p.meant q.meant (written ps ++ rest) (written qs) h.0 k.0 split in
      let tail = append_cancel_left q.written (written ps ++ rest) (written qs)
      (ap (λ t. t ++ (written ps ++ rest)) (sym piece) ∙ split) in
      pieces_behind code ps qs rest h.1 k.1 tail

  -- what is left behind a front that spells a text spells one too, where the whole does
  pub spells_behind : IsPlainCode → (front rest x : List ℕ) → Spells StandsFor front x → (text : List ℕ)
      → Spells StandsFor (front ++ rest) text → (y : List ℕ) × Spells StandsFor rest y
  spells_behind code front rest x h text k =
      let left = pieces_behind code h.pieces k.pieces rest h.each k.each (ap (λ t. t ++ rest) h.whole ∙ sym k.whole) in
      (meant left.0, record { pieces = left.0; each = left.1; whole = left.2; meaning = refl })
