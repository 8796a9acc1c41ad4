use Rattle.part_tables.proofs.Finding.{placing_finds_part, reading_finds_free, returning_finds_away, sending_finds_part}
use Rattle.part_tables.proofs.laws.calls_find_parts.Goals as goal

pub returns : goal.returns
returns c = record {
  sending = sending_finds_part;
  back = returning_finds_away;
  reading = reading_finds_free;
  placing = placing_finds_part;
}
