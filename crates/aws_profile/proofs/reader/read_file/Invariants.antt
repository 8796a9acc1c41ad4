use Rattle.std.proofs.Common.{◌≡◌, ◌≤◌, ◌+◌, ◌||◌, length, map}
use Rattle.std.specs.Str.Lines.{lines}
use Rattle.aws_profile.specs.Contexts.{above, is_inside, section_name}
use Rattle.aws_profile.specs.Sections.{bad_line, first_wrong, has_section, readings, readings_from}
use Rattle.aws_profile.specs.Slots.{filled, slot_shown}
use Rattle.aws_profile.proofs.reader.read_file.Given as goal

-- the file says what was taken in, and what the rest says below it
abbrev pub invariant-loop-text : goal.invariant-loop-text
invariant-loop-text l = record {
  counted : l.number + length l.rest ≤ length l.file;
  inside : l.context.inside ≡ is_inside (section_name l.sought) (above l.context).section;
  wrong : bad_line l.file ≡ first_wrong (l.number + 1) (readings_from (l.number + 1) (above l.context) (lines l.rest));
  has : has_section (section_name l.sought) (lines l.file) ≡ (l.context.seen || has_section (section_name l.sought) (lines l.rest));
  slots : map (filled (section_name l.sought) (readings l.file)) (map slot_shown l.fn.slots)
      ≡ map (filled (section_name l.sought) (readings_from (l.number + 1) (above l.context) (lines l.rest))) (map slot_shown l.slots);
}

abbrev pub decreases-loop-text : goal.decreases-loop-text
decreases-loop-text l = length l.rest
