use Rattle.std.proofs.Common.{ap, sym}
use Rattle.aws_profile.specs.Contexts.{above}
use Rattle.aws_profile.specs.Sections.{reading_of}
use Rattle.aws_profile.proofs.SlotLemmas.{Takes-nothing}
use Rattle.aws_profile.proofs.context.take_line.Goals as goal

pub returns-in-Skipped-clause-slots : goal.returns-in-Skipped-clause-slots
returns-in-Skipped-clause-slots c = Takes-nothing _ _ c.args.slots.now (ap (reading_of c.args.line (above c.args.context)) (sym c.in-Skipped.ensures))

pub returns-in-Section-clause-slots : goal.returns-in-Section-clause-slots
returns-in-Section-clause-slots c = Takes-nothing _ _ c.args.slots.now (ap (reading_of c.args.line (above c.args.context)) (sym c.in-Section.ensures))
