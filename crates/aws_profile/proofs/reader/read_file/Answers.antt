use Rattle.std.proofs.Common.{◌≡◌, ◌∙◌, ◌+◌, ◌||◌, sym, ap, arith, map, false}
use Rattle.std.specs.Str.Lines.{lines}
use Rattle.std.proofs.lemmas.Bool.{not-false, not-true}
use Rattle.aws_profile.specs.Contexts.{above, section_name}
use Rattle.aws_profile.specs.Lines.{kind_of}
use Rattle.aws_profile.specs.Sections.{has_section, is_wrong, reading_of, readings_from}
use Rattle.aws_profile.specs.Slots.{filled, slot_shown}
use Rattle.aws_profile.proofs.ReaderLemmas.{wrong_here, wrong_more, has_more, slots_more, filled_none}
use Rattle.aws_profile.proofs.reader.read_file.Goals as goal

pub loop-text-preserved : goal.loop-text-preserved
loop-text-preserved c =
    let line = c.loop-text.number + 1 in
    let old = above c.loop-text.context in
    let new = above c.in-Some-take_line.next in
    let text = c.in-Some.text.now in
    let rest = lines c.loop-text.rest.now in
    let after = lines c.in-Some.after.now in
    let parts = c.in-Some.ensures.parts in
    let section = section_name c.args.sought.now in
    let right : is_wrong (reading_of line old (kind_of text)) ≡ false = not-true _ (sym c.in-Some-take_line.ensures.right) in
    record {
      counted = omega (arith, c.in-Some.ensures.shorter);
      inside = c.in-Some-take_line.ensures.inside;
      wrong = c.loop-text.invariant.wrong ∙ wrong_more line old new text rest after parts c.in-Some-take_line.ensures.above right;
      has = c.loop-text.invariant.has ∙ has_more line old new text rest after parts section c.loop-text.context.seen ∙ ap (λ seen. seen || has_section section after) (sym c.in-Some-take_line.ensures.seen);
      slots = c.loop-text.invariant.slots ∙ slots_more line old new text rest after parts section c.loop-text.slots c.take_line.new.slots c.in-Some-take_line.ensures.above c.in-Some-take_line.ensures.slots;
    }

pub returns-clause-slots : goal.returns-clause-slots
returns-clause-slots c =
    let section = section_name c.args.sought.now in
    let slots = map slot_shown c.loop-text.slots in
    sym (c.loop-text.invariant.slots
    ∙ ap (λ rest. map (filled section (readings_from (c.loop-text.number + 1) (above c.loop-text.context) rest)) slots) c.in_default.ensures.parts
    ∙ filled_none section slots)

pub returns-in-None-clause-wrong : goal.returns-in-None-clause-wrong
returns-in-None-clause-wrong c =
    let old = above c.loop-text.context in
    let wrong = not-false _ (sym c.in-None.ensures.right) in
    c.loop-text.invariant.wrong
    ∙ wrong_here (c.loop-text.number + 1) old old c.in-Some.text.now (lines c.loop-text.rest.now) (lines c.in-Some.after.now) c.in-Some.ensures.parts wrong
