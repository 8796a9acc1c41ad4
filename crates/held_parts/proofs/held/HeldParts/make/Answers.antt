use Rattle.held_parts.proofs.SlotLemmas as lemmas
use Rattle.held_parts.proofs.held.HeldParts.make.Goals as goal

pub invariant_of-result : goal.invariant_of-result
invariant_of-result c =
    rw (c.in_ok-pool.ensures, c.in_ok-slots.ensures) (lemmas.empty_table c.args.count c.args.bytes c.ranges.count.fits)
