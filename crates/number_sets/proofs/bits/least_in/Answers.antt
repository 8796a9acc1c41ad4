use Rattle.std.proofs.Common.{◌<◌, ◌^◌, get_or, arith, w64}
use Rattle.std.proofs.lemmas.Nat.Bits.{bit_at-trailing_zeros}
use Rattle.number_sets.proofs.Changes.{is_lowest, none_lower}
use Rattle.number_sets.proofs.bits.least_in.Goals as goal

pub overflow_mul-result : goal.overflow_mul-result
overflow_mul-result c = omega (arith, c.requires.small)

pub overflow_add-result : goal.overflow_add-result
overflow_add-result c =
    let fits : get_or c.args.words.now c.args.index 0 < 2 ^ 64 = omega (arith, c.type_inv.words c.args.index) in
    let lowest = bit_at-trailing_zeros w64 (get_or c.args.words.now c.args.index 0) c.requires.first.some fits in
    omega (arith, c.requires.small, lowest.0)

pub returns-clause-is : goal.returns-clause-is
returns-clause-is c =
    let fits : get_or c.args.words.now c.args.index 0 < 2 ^ 64 = omega (arith, c.type_inv.words c.args.index) in
    let lowest = bit_at-trailing_zeros w64 (get_or c.args.words.now c.args.index 0) c.requires.first.some fits in
    is_lowest c.args.words.now c.args.index _ lowest.0 lowest.1

pub returns-clause-least : goal.returns-clause-least
returns-clause-least c =
    let fits : get_or c.args.words.now c.args.index 0 < 2 ^ 64 = omega (arith, c.type_inv.words c.args.index) in
    let lowest = bit_at-trailing_zeros w64 (get_or c.args.words.now c.args.index 0) c.requires.first.some fits in
    none_lower c.args.words.now c.args.index _ lowest.0 c.requires.first.before lowest.2
