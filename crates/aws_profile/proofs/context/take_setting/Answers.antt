use Rattle.std.proofs.Common.{◌∙◌, sym}
use Rattle.aws_profile.specs.Shown.{assignment_shown}
use Rattle.aws_profile.proofs.SlotLemmas.{Takes-put, Takes-other}
use Rattle.aws_profile.proofs.context.take_setting.Goals as goal

pub returns-then-context : goal.returns-then-context
returns-then-context c = λ name section e.
    rw c.keep.ensures (Takes-put name section c.args.place c.args.line c.args.setting (sym e ∙ c.if-context.true) c.args.slots.now)

pub returns-else-context : goal.returns-else-context
returns-else-context c = λ name section e.
    Takes-other name section c.args.place c.args.line (assignment_shown c.args.setting) (sym e ∙ c.if-context.false) c.args.slots.now
