-- Settings whose texts are those of the environment's words where these have them.
use Rattle.std.specs.Prelude.{◌≡◌, List, ℕ, Option, IfSome, option_map}
use Rattle.std.specs.Option.{option_or}
use Rattle.s3_model.specs.declared.settings.EnvWords.{EnvWords}
use Rattle.aws_profile.specs.Answers.{AccessKey, key_of_words}
use Rattle.aws_profile.specs.ShownKeys.{key_shown}
use Rattle.aws_profile.specs.Values.{usable}
use Rattle.aws_profile.specs.declared.answers.Choice.{Choice}
use Rattle.aws_profile.specs.declared.taken.KeyTexts.{KeyTexts}

abbrev pub key_taken : KeyTexts → AccessKey
key_taken key = record { id = key.id; secret = key.secret; token = key.token }

-- the key of the words, else this one
abbrev pub key_with : EnvWords → Option KeyTexts → Option AccessKey
key_with words copy = option_or (key_of_words words) (option_map key_taken copy)

abbrev pub region_with : EnvWords → Option (List ℕ) → Option (List ℕ)
region_with words copy = option_or (usable words.region) copy

-- what the words have was chosen
pub record KeepsWords (words : EnvWords) (choice : Choice) : Type 0 where
  pub key : IfSome (key_of_words words) (λ key. key_shown choice.key ≡ key)
  pub region : IfSome (usable words.region) (λ region. choice.region.now ≡ region)
