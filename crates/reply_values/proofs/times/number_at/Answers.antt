use Rattle.std.proofs.Common.{◌^◌, ◌<◌, IfSome, arith, subst, ℕ}
use Rattle.reply_values.proofs.TimeLemmas.{part_length}
use Rattle.reply_values.proofs.times.number_at.Goals as goal

pub digits-requires-clause-some : goal.digits-requires-clause-some
digits-requires-clause-some c =
    omega (arith, part_length c.args.text.now c.args.start c.args.end c.requires.within, c.requires.some)

pub digits-requires-clause-few : goal.digits-requires-clause-few
digits-requires-clause-few c =
    omega (arith, part_length c.args.text.now c.args.start c.args.end c.requires.within, c.requires.few)

pub returns-clause-small : goal.returns-clause-small
returns-clause-small c =
    subst (λ (n : ℕ). IfSome c.digits.result (λ number. number < 10 ^ n))
    (part_length c.args.text.now c.args.start c.args.end c.requires.within) c.digits.ensures.small
