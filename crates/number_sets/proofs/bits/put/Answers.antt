use Rattle.std.proofs.Common.{◌/◌, ◌==◌, ℕ, not, ap, sym}
use Rattle.std.proofs.lemmas.List.{get_or-set_same}
use Rattle.number_sets.proofs.Changes.{put_bit}
use Rattle.number_sets.proofs.bits.put.Goals as goal

pub returns-clause-bits : goal.returns-clause-bits
returns-clause-bits c n =
    put_bit c.args.words.now c.args.number n c.with_bit-word.result c.args.is_member c.requires c.with_bit-word.ensures.same c.with_bit-word.ensures.others

pub returns-clause-used : goal.returns-clause-used
returns-clause-used c =
    ap (λ (w : ℕ). not (w == 0)) (sym (get_or-set_same c.args.words.now (c.args.number / 64) c.with_bit-word.result 0 c.requires))
