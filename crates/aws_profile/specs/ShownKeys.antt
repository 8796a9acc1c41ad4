-- What the keys of the code are to the definitions.
use Rattle.std.specs.Prelude.{option_copied}
use Rattle.aws_profile.specs.declared.keys.AccessKey as code
use Rattle.aws_profile.specs.Answers.{AccessKey}

abbrev pub key_shown : code.AccessKey → AccessKey
key_shown key = record { id = key.id.now; secret = key.secret.now; token = option_copied key.token }
