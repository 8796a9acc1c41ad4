-- What the holders of a cancel cell come to know.
use Rattle.std.specs.Prelude.{◌≡◌, Option, Some, None, IfSome}
use Rattle.s3_model.specs.declared.outcomes.Reason.{Reason}
use Rattle.jobs.specs.Holders.{Holder}

-- It is the same cell, and a reason that was known stays.
pub record IsSameCell (before after : Holder) : Type 0 where
  pub cell : after.cell ≡ before.cell
  pub stays : IfSome before.known (λ reason. after.known ≡ Some reason)

-- the holder knows the reason, the one that it knew before where it knew one
abbrev pub Knows : Holder → Holder → Reason → Type 0
Knows before after reason = IsSameCell before after × (after.known ≡ Some reason)

-- what the holder hears: the reason, or that it knows none
abbrev pub Hears : (before after : Holder) → Option Reason → Type 0
Hears before after (Some reason) = Knows before after reason
Hears before after None = (after ≡ before) × (before.known ≡ None)

-- The holder knows a reason now.
abbrev pub Keeps : (before after : Holder) → Type 0
Keeps before after = (reason : Reason) × Knows before after reason

-- where both know a reason it is the same
abbrev pub Agree : (one other : Holder) → Type 0
Agree one other = IfSome one.known (λ reason. IfSome other.known (λ same. same ≡ reason))
