-- What a wire gains in one call after the other.
use Rattle.shared_lemmas.proofs.Clashes.{none_is_some, some_is}
use Rattle.std.proofs.Common.{◌≡◌, ◌∙◌, ◌++◌, ◌⊎◌, ℕ, List, [], Option, Some, None, sym, ap, inl, inr, append_assoc, append-nil}
use Rattle.std.specs.Option.{option_map}
use Rattle.s3_model.specs.Counts.{Rose}
use Rattle.s3_model.specs.Talks.{Talk, Note, WireLog}
use Rattle.job_terms.specs.Gains.{Gains}

-- nothing was called
pub gains_nothing : (P : List Talk → List Note → Type 0) (seen : Option WireLog) → P [] [] → Gains seen seen P
gains_nothing P None p = tt
gains_nothing P (Some log) p = ([], [], sym (append-nil log.talks), sym (append-nil log.notes), p)

-- One call, whose step adds these talks and notes. Of a wire that is seen no more nothing holds.
pub gains_step : (P : List Talk → List Note → Type 0) (step : WireLog → WireLog) (talks : List Talk) (notes : List Note)
    → ((log : WireLog) → ((step log).talks ≡ log.talks ++ talks) × ((step log).notes ≡ log.notes ++ notes))
    → (before after : Option WireLog) (b a : ℕ) → ((after ≡ option_map step before) ⊎ ((after ≡ None) × Rose b a)) → P talks notes → Gains before after P
gains_step P step talks notes adds before None b a seen p = tt
gains_step P step talks notes adds None (Some after) b a (inl e) p = absurd (none_is_some after (sym e))
gains_step P step talks notes adds (Some before) (Some after) b a (inl e) p =
    let same = some_is _ _ e in
    (talks, notes, ap (λ (log : WireLog). log.talks) same ∙ (adds before).0, ap (λ (log : WireLog). log.notes) same ∙ (adds before).1, p)
gains_step P step talks notes adds before (Some after) b a (inr stops) p = absurd (none_is_some after (sym stops.0))

-- one and then the other
pub gains_both : (P Q R : List Talk → List Note → Type 0) → ((talks more : List Talk) (notes others : List Note) → P talks notes → Q more others → R (talks ++ more) (notes ++ others))
    → (first second third : Option WireLog) → Gains first second P → Gains second third Q → Gains first third R
gains_both P Q R both first second None p q = tt
gains_both P Q R both first None (Some third) p q = absurd q
gains_both P Q R both None (Some second) (Some third) p q = absurd p
gains_both P Q R both (Some first) (Some second) (Some third) p q =
    let (talks, notes, t, n, holds) = p in
    let (more, others, u, m, rest) = q in (
      talks ++ more,
      notes ++ others,
      u ∙ (ap (λ (xs : List Talk). xs ++ more) t ∙ append_assoc first.talks talks more),
      m ∙ (ap (λ (xs : List Note). xs ++ others) n ∙ append_assoc first.notes notes others),
      both talks more notes others holds rest,
    )

-- the same, said otherwise
pub gains_as : (P Q : List Talk → List Note → Type 0) → ((talks : List Talk) (notes : List Note) → P talks notes → Q talks notes)
    → (before after : Option WireLog) → Gains before after P → Gains before after Q
gains_as P Q so before None p = tt
gains_as P Q so None (Some after) p = absurd p
gains_as P Q so (Some before) (Some after) p = let (talks, notes, t, n, holds) = p in (talks, notes, t, n, so talks notes holds)
