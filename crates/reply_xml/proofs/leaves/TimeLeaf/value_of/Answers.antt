use Rattle.std.proofs.Common.{ℕ, List, refl, subst, sym}
use Rattle.reply_values.specs.Times.{SpellsTime}
use Rattle.reply_xml.proofs.leaves.TimeLeaf.value_of.Goals as goal

pub returns-in_default-clause-refused : goal.returns-in_default-clause-refused
returns-in_default-clause-refused c value s =
    c.in_default.ensures.refused value (subst (λ (t : List ℕ). SpellsTime t value) (sym c.as_str.ensures) s)

pub returns-in_default-clause-unfit : goal.returns-in_default-clause-unfit
returns-in_default-clause-unfit c = (
  refl,
  λ moment s. c.in_default.ensures.refused moment
      (subst (λ (t : List ℕ). SpellsTime t moment) (sym c.as_str.ensures) s),
)
