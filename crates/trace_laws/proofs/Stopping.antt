-- Why a job ended: the reason of its cell counts only where the ending came of it.
use Rattle.std.proofs.Common.{◌≡◌, ◌≢◌, ℕ, List, Option, Some, None, refl, sym, inl, inr, ◌∙◌}
use Rattle.std.specs.Prelude.{IfSome}
use Rattle.jobs.specs.declared.ending.Ending.{Ending}
use Rattle.jobs.specs.declared.ending.Ending.TheVariants as ending
use Rattle.lane_jobs.specs.Lanes.{Ends, class_ending}
use Rattle.s3_model.specs.declared.answers.Class.{Class}
use Rattle.s3_model.specs.declared.answers.Class.TheVariants as class
use Rattle.s3_model.specs.declared.outcomes.Reason.{Reason}

no_memory : (status : ℕ) (shown : Class) → class_ending status shown ≡ ending.Memory → ⊥
no_memory status (class.Success said) e = cc
no_memory status (class.Refusal code message) e = cc
no_memory status (class.Uncertain why) e = cc

no_cancel : (reason : Reason) → ending.Cancelled reason ≡ ending.Memory → ⊥
no_cancel reason e = cc

module _ (made most : ℕ) (gave : Option Reason) (classes : List Class) (ended : Ending) where
  pub record Stopping : Type 0 where
    pub chosen : Option Reason
    pub ends : Ends made most chosen classes ended
    pub reason : IfSome chosen (λ given. (gave ≡ Some given) × (ended ≢ ending.Memory))

  given : (o : Option Reason) → gave ≡ o → (ended ≡ ending.Memory → ⊥) → IfSome o (λ given. (gave ≡ Some given) × (ended ≢ ending.Memory))
  given None e not = tt
  given (Some reason) e not = (e, not)

  pub stopping : Ends made most gave classes ended → Stopping
  stopping (inl by) = elim by.is_through [
    | inl final ↦ record {
      chosen = None;
      ends = inl (record { shown = by.shown; status = by.status; last = by.last; ending_is = by.ending_is; is_through = inl final });
      reason = tt;
    }
    | inr others ↦ elim others [
      | inl all ↦ record {
        chosen = None;
        ends = inl (record { shown = by.shown; status = by.status; last = by.last; ending_is = by.ending_is; is_through = inr (inl all) });
        reason = tt;
      }
      | inr some ↦ record { chosen = gave; ends = inl by; reason = given gave refl (λ e. no_memory by.status by.shown (sym by.ending_is ∙ e)) }
    ]
  ]
  stopping (inr (inl by)) = record { chosen = gave; ends = inr (inl by); reason = given gave refl (λ e. no_cancel by.reason (sym by.ending_is ∙ e)) }
  stopping (inr (inr by)) = record { chosen = None; ends = inr (inr by); reason = tt }
