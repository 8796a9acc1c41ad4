use Rattle.std.proofs.Common.{ap}
use Rattle.s3_words.specs.declared.roles.Role.{Role}
use Rattle.s3_words.specs.Faults.{option_fault}
use Rattle.s3_words.specs.Shown.{all_shown, shown}
use Rattle.s3_words.proofs.faults.option_fault.Goals as goal

pub returns-in-Assigned : goal.returns-in-Assigned
returns-in-Assigned c =
    let e = ap (λ (role : Role). option_fault c.args.verb c.args.at (all_shown c.args.before.now) c.args.last (shown role)) c.in-Assigned.is in cc
