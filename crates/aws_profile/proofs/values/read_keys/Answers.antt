use Rattle.aws_profile.specs.Sections.{readings}
use Rattle.aws_profile.proofs.ValueLemmas.{keys_read}
use Rattle.aws_profile.proofs.values.read_keys.Goals as goal

pub returns-clause-values : goal.returns-clause-values
returns-clause-values c =
    keys_read c.args.profile.now (readings c.args.file.now) c.in_ok-has_section.has_section _ _ _ c.key_slots-slots.ensures c.in_ok-has_section.ensures.slots
