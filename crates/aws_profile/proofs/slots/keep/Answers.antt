use Rattle.std.proofs.Common.{arith, set, length, ap, ◌∙◌, ◌<◌}
use Rattle.std.proofs.lemmas.List.{get_or_default}
use Rattle.std.proofs.lemmas.List.Edits.{map_over_more}
use Rattle.aws_profile.specs.Slots.{put}
use Rattle.aws_profile.proofs.slots.keep.Goals as goal

pub loop-slot-preserved : goal.loop-slot-preserved
loop-slot-preserved c =
    let e = c.after.ensures in
    let inside : c.loop-slot.slot-index < length c.loop-slot.slots = omega arith in
    ap (set c.loop-slot.slots c.loop-slot.slot-index) c.after.ensures
    ∙ map_over_more (put c.args.place c.args.line c.args.setting) c.args.slots.now c.loop-slot.slots c.loop-slot.slot-index _ c.loop-slot-test.true c.loop-slot.invariant (get_or_default _ _ _ _ inside)
