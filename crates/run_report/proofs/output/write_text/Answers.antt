use Rattle.std.proofs.Common.{List, ℕ, arith, subst}
use Rattle.run_report.specs.Printed.{PrintsFront}
use Rattle.run_report.proofs.OutputLemmas.{prints_front, prints_more}
use Rattle.run_report.proofs.output.write_text.Goals as goal

pub returns-in-Err-clause-front : goal.returns-in-Err-clause-front
returns-in-Err-clause-front g c =
    subst (λ (text : List ℕ). PrintsFront (g.S.Sink.seen c.args.sink.now) (g.S.Sink.seen c.write_more.new.sink) text) c.as_bytes-bytes.ensures.value
    (prints_front _ _ _ _ c.pieces.at c.pieces.invariant.printed c.in-Err.ensures.nothing)

pub pieces-preserved : goal.pieces-preserved
pieces-preserved g c =
    let further = c.in-Ok.ensures.further in record {
      inside = further.1;
      printed = prints_more _ _ _ _ c.pieces.at c.in-Ok.next (omega (arith, further.0)) c.pieces.invariant.printed c.in-Ok.ensures.printed;
      later = omega arith;
    }
