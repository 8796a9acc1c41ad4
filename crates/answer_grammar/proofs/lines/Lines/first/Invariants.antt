use Rattle.std.proofs.Common.{◌≡◌, map, drop}
use Rattle.httparse.specs.Spans.{header_bytes}
use Rattle.answer_grammar.specs.Head.{first_named}
use Rattle.answer_grammar.proofs.lines.Lines.first.Given as goal

abbrev pub invariant-loop-span : goal.invariant-loop-span
invariant-loop-span l =
    first_named l.name (map (header_bytes l.buf) (drop l.span-index l.spans)) ≡ first_named l.name (map (header_bytes l.buf) l.spans)
