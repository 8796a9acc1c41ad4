use Rattle.std.proofs.Common.{◌≡◌, map, drop}
use Rattle.std.specs.List.{list_all}
use Rattle.httparse.specs.Spans.{header_bytes}
use Rattle.answer_grammar.specs.Head.{is_short_number, lengths}
use Rattle.answer_grammar.proofs.lines.Lines.lengths_are_short.Given as goal

abbrev pub invariant-loop-span : goal.invariant-loop-span
invariant-loop-span l =
    list_all is_short_number (lengths (map (header_bytes l.buf) (drop l.span-index l.spans))) ≡ list_all is_short_number (lengths (map (header_bytes l.buf) l.spans))
