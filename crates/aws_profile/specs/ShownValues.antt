-- What the values of the code are to the definitions.
use Rattle.std.specs.Prelude.{Option, option_map}
use Rattle.aws_profile.specs.declared.slots.Found.{Found}
use Rattle.aws_profile.specs.declared.values.ConfigValues as config
use Rattle.aws_profile.specs.declared.values.KeyValues as keys
use Rattle.aws_profile.specs.Answers.{ConfigValues, KeyValues}
use Rattle.aws_profile.specs.Sections.{Value}
use Rattle.aws_profile.specs.Slots.{found_shown}

abbrev pub value_shown : Option Found → Option Value
value_shown found = option_map found_shown found

abbrev pub config_shown : config.ConfigValues → ConfigValues
config_shown values = record {
  region = value_shown values.region;
  attempts = value_shown values.attempts;
  lanes = value_shown values.lanes;
  queue = value_shown values.queue;
  threshold = value_shown values.threshold;
  chunk = value_shown values.chunk;
  buffers = value_shown values.buffers;
}

abbrev pub keys_shown : keys.KeyValues → KeyValues
keys_shown values =
    record { id = value_shown values.id; secret = value_shown values.secret; token = value_shown values.token }
