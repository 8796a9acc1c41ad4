-- The table is held against the definition at each of the 256 bytes, by computing.
use Rattle.std.proofs.Common.{◌≡◌, ℕ, ◌==◌, ◌<◌, Bool, true, false, not, map, cond, get_or, refl, ap, ◌∙◌, arith}
use Rattle.std.proofs.lemmas.List.FromFn.{get_or-map-range_with_len}
use Rattle.std.proofs.lemmas.Bool.{eqb-true, false≢true}
use Rattle.std.specs.List.{range_with_len}
use Rattle.reply_xml.specs.Runs.{is_name_byte}
use Rattle.reply_xml.specs.declared.runs.TheConstants.{NAME_BYTES}
use Rattle.reply_xml.proofs.runs.is_name_byte.Goals as goal

abbrev mark : ℕ → ℕ
mark byte = cond (is_name_byte byte) byte 44

table_is : NAME_BYTES ≡ map mark (range_with_len 0 256)
table_is = refl

marked : (t : Bool) (byte : ℕ) → (byte == 44) ≡ false → not (cond t byte 44 == 44) ≡ t
marked true byte other = ap not other
marked false byte other = refl

comma : (t : Bool) (byte : ℕ) → is_name_byte byte ≡ t → (byte == 44) ≡ true → is_name_byte 44 ≡ t
comma t byte h same = rw (eqb-true byte 44 same) at h

read : (byte : ℕ) → byte < 256 → not (get_or NAME_BYTES byte 0 == 44) ≡ is_name_byte byte
read byte h =
    ap (λ (n : ℕ). not (n == 44))
    (ap (λ t. get_or t byte 0) table_is ∙ get_or-map-range_with_len mark 0 256 byte byte 0 h (omega arith)) ∙ held byte
  where
    by_case : (t : Bool) (b : ℕ) (at : Bool) → is_name_byte b ≡ t → (b == 44) ≡ at → not (cond t b 44 == 44) ≡ t
    by_case t b false named other = marked t b other
    by_case false b true named same = refl
    by_case true b true named same = absurd (false≢true (comma true b named same))

    held : (b : ℕ) → not (cond (is_name_byte b) b 44 == 44) ≡ is_name_byte b
    held b = by_case (is_name_byte b) b (b == 44) refl refl

pub returns : goal.returns
returns c = read c.args.byte (omega arith)
