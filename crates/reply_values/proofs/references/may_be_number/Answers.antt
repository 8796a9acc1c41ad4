use Rattle.std.proofs.Common.{◌∙◌, sym, subst, refl, arith, ⊎_elim}
use Rattle.std.proofs.lemmas.Bool.{cases_Bool, false≢true}
use Rattle.std.proofs.lemmas.Bool.Decides.{nat_tests}
use Rattle.reply_values.specs.References.{BeginsNumber}
use Rattle.reply_values.proofs.CutLemmas.{digits_begin, great_begins, long_is, no_digits, no_number_begins}
use Rattle.reply_values.proofs.references.may_be_number.Goals as goal
use Rattle.shared_lemmas.proofs.Lists.{none_from_test}

pub returns-then-is_empty : goal.returns-then-is_empty
returns-then-is_empty c = (
  λ h. subst (BeginsNumber c.args.radix)
      (sym (none_from_test c.args.digits.now (sym c.is_empty.ensures ∙ c.if-is_empty.true)))
      (no_digits c.args.radix c.requires.least),
  λ b. refl,
)

pub returns-in-Some : goal.returns-in-Some
returns-in-Some c = (
  λ h. digits_begin c.args.radix c.args.digits.now c.in-Some.number c.requires.least c.requires.most
      c.in-Some.ensures.value (grind (arith, nat_tests)),
  λ b. ⊎_elim (λ e. e) (λ e. absurd (great_begins c.args.radix c.args.digits.now c.in-Some.number
      (omega (arith, c.requires.least)) (grind (arith, nat_tests)) c.in-Some.ensures.value b)) (cases_Bool _),
)

pub returns-in-None : goal.returns-in-None
returns-in-None c = (
  λ h. absurd (false≢true h),
  λ b. absurd (no_number_begins c.args.radix c.args.digits.now (omega (arith, c.requires.least))
      (long_is c.args.digits.now (sym c.is_empty.ensures ∙ c.if-is_empty.false)) c.in-None.ensures.refused b),
)
