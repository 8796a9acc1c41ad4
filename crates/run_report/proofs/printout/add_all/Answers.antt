use Rattle.result_lines.specs.Warnings.{warning_line}
use Rattle.run_report.proofs.TextLemmas.{more_lines}
use Rattle.run_report.proofs.printout.add_all.Goals as goal

pub loop-warning-preserved : goal.loop-warning-preserved
loop-warning-preserved c =
    more_lines warning_line c.args.warnings.now c.loop-warning.warning-index c.warning-item.result _ _ _ _ c.loop-warning-test.true c.warning-item.is c.loop-warning.invariant c.in_ok-add_warning.ensures
