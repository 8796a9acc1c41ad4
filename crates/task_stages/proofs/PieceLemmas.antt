-- The stages of one piece, before and after a change.
use Rattle.std.proofs.Common.{◌≡◌, ◌∙◌, ◌<◌, ◌≤◌, ◌-◌, ◌==◌, ◌&&◌, ℕ, Bool, true, false, List, get_or, length, replicate, refl, sym, ap, arith, inl, inr, if◌then◌else◌}
use Rattle.std.proofs.lemmas.Bool.{cases_eq, cases_lt, eq-eqb, eqb-true, ne_eqb, lt-ltb, le-ltb}
use Rattle.std.proofs.lemmas.List.{get_or-set_same, get_or-set_other, get_or_past, get_or-replicate, length-replicate}
use Rattle.piece_stages.specs.declared.piece.PieceStages.{PieceStages}
use Rattle.piece_stages.specs.Pieces.{no_piece}
use Rattle.job_terms.specs.Ops.{is_op, op_number}
use Rattle.s3_model.specs.declared.requests.Op.{Op}
use Rattle.task_acts.specs.declared.acts.Stage.{Stage}
use Rattle.task_acts.specs.declared.acts.Stage.TheVariants as at
use Rattle.task_acts.specs.Work.{first_number, piece_op}
use Rattle.task_stages.specs.Stages.{HasPiece, SeenStages, piece_at, sent_at, with_piece}

-- ---- a piece is looked up

pub before_first : (s : SeenStages) (number : ℕ) → number < first_number s.work → piece_at s number ≡ no_piece
before_first s number below = rw (lt-ltb number (first_number s.work) below) refl

pub from_first : (s : SeenStages) (number : ℕ) → first_number s.work ≤ number → piece_at s number ≡ get_or s.pieces (number - first_number s.work) no_piece
from_first s number from = rw (le-ltb number (first_number s.work) from) refl

pub past : (s : SeenStages) (number : ℕ) → first_number s.work ≤ number → length s.pieces ≤ number - first_number s.work → piece_at s number ≡ no_piece
past s number from end = from_first s number from ∙ get_or_past s.pieces (number - first_number s.work) no_piece end

-- ---- one of them is changed

module _ (s : SeenStages) (n : ℕ) (piece : PieceStages) (has : HasPiece s n) where
  piece_put : (m : ℕ) → piece_at (with_piece s n piece) m ≡ (if m == n then piece else piece_at s m)
  piece_put m = elim (cases_lt m (first_number s.work)) [
    | inl below ↦ before_first (with_piece s n piece) m below ∙ sym (before_first s m below)
        ∙ sym (ap (λ (b : Bool). if b then piece else piece_at s m) (ne_eqb m n (λ e. omega (arith, has.0))))
    | inr from ↦ from_first (with_piece s n piece) m from ∙ elim (cases_eq m n) [
      | inl e ↦ rw e (get_or-set_same s.pieces (n - first_number s.work) piece no_piece (omega (arith, has.0, has.1)))
          ∙ sym (ap (λ (b : Bool). if b then piece else piece_at s m) (eq-eqb m n e))
      | inr other ↦ get_or-set_other s.pieces (n - first_number s.work) (m - first_number s.work) piece no_piece (λ e. other (omega (arith, has.0)))
          ∙ sym (from_first s m from) ∙ sym (ap (λ (b : Bool). if b then piece else piece_at s m) (ne_eqb m n other))
    ]
  ]

  choose : (field : PieceStages → Stage) (b : Bool) (z : PieceStages) → field (if b then piece else z) ≡ (if b then field piece else field z)
  choose field true z = refl
  choose field false z = refl

  -- the field of that piece is the new one
  pub changed : (field : PieceStages → Stage) (m : ℕ) → field (piece_at (with_piece s n piece) m) ≡ (if m == n then field piece else field (piece_at s m))
  changed field m = ap field (piece_put m) ∙ choose field (m == n) (piece_at s m)

  -- a field that is the same stays in all of them
  pub still : (field : PieceStages → Stage) → field piece ≡ field (piece_at s n) → (m : ℕ) → field (piece_at (with_piece s n piece) m) ≡ field (piece_at s m)
  still field same m = changed field m ∙ elim (cases_eq m n) [
    | inl e ↦ ap (λ (b : Bool). if b then field piece else field (piece_at s m)) (eq-eqb m n e) ∙ same ∙ ap (λ (k : ℕ). field (piece_at s k)) (sym e)
    | inr other ↦ ap (λ (b : Bool). if b then field piece else field (piece_at s m)) (ne_eqb m n other)
  ]

-- ---- requests

both : (x y : Bool) (how old : Stage) → (if x then (if y then how else old) else at.Waiting) ≡ (if x && y then how else if x then old else at.Waiting)
both true true how old = refl
both true false how old = refl
both false y how old = refl

same_op : (a b c : Op) → is_op a c ≡ true → is_op b a ≡ is_op b c
same_op a b c is = ap (λ (k : ℕ). op_number b == k) (eqb-true (op_number a) (op_number c) is)

pub sent : (s : SeenStages) (a b : Op) (n m : ℕ) (how : Stage) (piece : PieceStages) → piece.send ≡ how → is_op a (piece_op s.work.of_kind s.work.small) ≡ true → HasPiece s n
    → sent_at (with_piece s n piece) b m ≡ (if is_op b a && (m == n) then how else sent_at s b m)
sent s a b n m how piece is_how is has =
    let pop = piece_op s.work.of_kind s.work.small in
    ap (λ (t : Stage). if is_op b pop then t else at.Waiting)
    (changed s n piece has (λ (p : PieceStages). p.send) m ∙ ap (λ (t : Stage). if m == n then t else (piece_at s m).send) is_how)
    ∙ both (is_op b pop) (m == n) how ((piece_at s m).send)
    ∙ ap (λ (x : Bool). if x && (m == n) then how else sent_at s b m) (sym (same_op a b pop is))

-- ---- nothing was given

pub none_at : (s : SeenStages) (count : ℕ) → s.pieces ≡ replicate count no_piece → (number : ℕ) → piece_at s number ≡ no_piece
none_at s count is number = elim (cases_lt number (first_number s.work)) [
  | inl below ↦ before_first s number below
  | inr from ↦ from_first s number from ∙ ap (λ (ps : List PieceStages). get_or ps (number - first_number s.work) no_piece) is ∙ waiting (number - first_number s.work)
]
  where
    waiting : (k : ℕ) → get_or (replicate count no_piece) k no_piece ≡ no_piece
    waiting k = elim (cases_lt k count) [
      | inl inside ↦ get_or-replicate count k no_piece no_piece inside
      | inr end ↦ get_or_past (replicate count no_piece) k no_piece (rw (length-replicate count no_piece) end)
    ]
