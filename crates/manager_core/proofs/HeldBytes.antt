-- Which parts pieces have here after the calls of a run.
use Rattle.std.proofs.Common.{◌≡◌, ◌∙◌, ◌==◌, ◌&&◌, ◌≤◌, ℕ, Bool, Option, Some, None}
use Rattle.std.proofs.Common.{IfSome, sym, subst, ap, arith, if◌then◌else◌}
use Rattle.std.specs.Option.{option_or}
use Rattle.held_parts.specs.Held.{here_at, held_at, inner}
use Rattle.manager_moves.proofs.HoldLemmas.{same_number}
use Rattle.move_laws.proofs.KeptBytes.{bytes_put}
use Rattle.move_laws.specs.Bytes.{KeepsBytes, no_part, only_at}
use Rattle.part_tables.specs.Tables.{IsPut, Slots}
use Rattle.s3_model.specs.declared.bytes.Part.{Part}

-- nothing was brought at first
pub bytes_since : (brought : ℕ → ℕ → Option Part) (a b c : Slots) → KeepsBytes no_part a b → KeepsBytes brought b c
    → KeepsBytes brought a c
bytes_since brought a b c one two x y = by (here_at c x y) (brought x y) (here_at b x y) (one x y) (two x y)
  where
    by : (now came mid : Option Part) → IfSome mid (λ part. here_at a x y ≡ Some part)
        → IfSome now (λ part. option_or came mid ≡ Some part)
        → IfSome now (λ part. option_or came (here_at a x y) ≡ Some part)
    by None came mid first last = tt
    by (Some part) (Some q) mid first last = last
    by (Some part) None mid first last =
        subst (λ (o : Option Part). IfSome o (λ p. here_at a x y ≡ Some p)) last first

-- a piece that was lent a part
pub bytes_lent : (task number : ℕ) (part : Option (Option Part)) (slots new : Slots) → IsPut task number part slots new
    → KeepsBytes (only_at task number (here_at new task number)) slots new
bytes_lent task number part slots new put =
    subst (λ (o : Option Part). KeepsBytes (only_at task number o) slots new) (sym here)
    (bytes_put task number part slots new put)
  where
    here : here_at new task number ≡ inner part
    here =
        ap inner (put task number)
        ∙ ap (λ (b : Bool). inner (if b && (number == number) then part else held_at slots task number))
        (same_number task)
        ∙ ap (λ (b : Bool). inner (if b then part else held_at slots task number)) (same_number number)

-- a part with room for more has room for less
pub fits_part : (part : Option Part) (bytes room : ℕ) → bytes ≤ room → IfSome part (λ x. room ≤ x.bytes.room)
    → IfSome part (λ x. bytes ≤ x.bytes.room)
fits_part None bytes room less fits = tt
fits_part (Some x) bytes room less fits = omega (arith, less, fits)
