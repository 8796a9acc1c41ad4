-- The work of a task has pieces.
use Rattle.std.proofs.Common.{◌≡◌, ◌≤◌, ℕ, Bool, true, false, sym, subst, arith, inl, inr, nat_lt}
use Rattle.std.proofs.lemmas.Bool.{ltb-true}
use Rattle.s3_model.specs.declared.settings.Config.{Config}
use Rattle.s3_model.specs.declared.settings.Limits.{Limits}
use Rattle.s3_model.specs.declared.tasks.Kind.{Kind}
use Rattle.s3_model.specs.declared.tasks.Kind.TheVariants as kind
use Rattle.s3_model.specs.Parts.{HasPieces, IsTransfer}
use Rattle.s3_model.specs.Validity.{IsValidConfig, IsValidLimits}
use Rattle.task_progress.specs.Progress.{WorkHasPieces}
use Rattle.job_terms.proofs.PieceCounts.{in_parts, some_pieces}

module _ (config : Config) (limits : Limits) (valid : IsValidConfig config) (fit : IsValidLimits limits) (size piece count : ℕ) where
  abbrev Counted : Bool → Type 0
  Counted small = (1 ≤ count) × (small ≡ true → count ≡ 1)

  transfer : IsTransfer config limits size piece count → (small : Bool) → nat_lt size config.threshold ≡ small → Counted small
  transfer (inl whole) small e = let one = whole.2 in (omega arith, λ s. one)
  transfer (inr parts) true e = let below = ltb-true size config.threshold e in let above = parts.0 in absurd (omega arith)
  transfer (inr parts) false e =
      let large = in_parts config limits size piece count fit e (inr parts) in
      let least = valid.threshold.least in
      let reaches = large.2 in
      let sized : 1 ≤ size = omega arith in
      (subst (λ (n : ℕ). 1 ≤ n) (sym large.1) (some_pieces size piece sized large.0), λ s. absurd (apart s))
    where
      apart : false ≡ true → ⊥
      apart s = cc

  counted : (k : Kind) → HasPieces config limits k size piece count → (small : Bool) → nat_lt size config.threshold ≡ small → Counted small
  counted kind.Upload has small e = transfer has small e
  counted kind.Download has small e = transfer has small e
  counted kind.Copy has small e = transfer has small e
  counted kind.RemoveObject has small e = let one = has.1 in (omega arith, λ s. one)
  counted kind.RemoveFile has small e = let one = has.1 in (omega arith, λ s. one)

pub work_has_pieces : WorkHasPieces
work_has_pieces task config limits w valid fit of =
    let is = counted config limits valid fit task.size w.piece w.count task.kind of.pieces w.small (sym of.small_is) in
    record { some = is.0; one = is.1 }
