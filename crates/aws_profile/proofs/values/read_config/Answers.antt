use Rattle.std.proofs.Common.{◌∙◌, ap}
use Rattle.aws_profile.specs.Answers.{config_values}
use Rattle.aws_profile.specs.Contexts.{section_name}
use Rattle.aws_profile.specs.Sections.{readings}
use Rattle.aws_profile.proofs.ValueLemmas.{config_read}
use Rattle.aws_profile.proofs.values.read_config.Goals as goal

pub returns-clause-values : goal.returns-clause-values
returns-clause-values c =
    let found = readings c.args.file.now in
    config_read (section_name c.sought_config.result) found c.in_ok-has_section.has_section _ _ _ c.config_slots-slots.ensures c.in_ok-has_section.ensures.slots
    ∙ ap (config_values found) c.sought_config.ensures
