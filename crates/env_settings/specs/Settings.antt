-- The settings of a run, from its variables and files (AWS CLI User Guide, "Environment variables").
use Rattle.std.specs.Prelude.{ℕ, List, Option, Result, codes, is_some}
use Rattle.std.specs.Option.{option_or}
use Rattle.std.specs.FinMap.{get}
use Rattle.s3_model.specs.Maps.{MapOf}
use Rattle.s3_model.specs.declared.settings.EnvWords.{EnvWords}
use Rattle.s3_model.specs.declared.settings.Settings.{Settings}
use Rattle.s3_model.specs.declared.faults.ProfileFault.{ProfileFault}
use Rattle.aws_profile.specs.Answers.{answer}
use Rattle.aws_profile.specs.Values.{usable}
use Rattle.env_settings.specs.Places.{set_value, config_path, credentials_path, bytes_at}

-- of `--region`, AWS_REGION and AWS_DEFAULT_REGION the first that can stand in a header
abbrev pub region_of : MapOf (List ℕ) → Option (List ℕ) → Option (List ℕ)
region_of variables region =
    option_or (usable region)
    (option_or (usable (get variables (codes "AWS_REGION"))) (usable (get variables (codes "AWS_DEFAULT_REGION"))))

-- what variables and command line say; `--profile` is asked before AWS_PROFILE
abbrev pub words_of : MapOf (List ℕ) → (region profile : Option (List ℕ)) → EnvWords
words_of variables region profile = record {
  id = get variables (codes "AWS_ACCESS_KEY_ID");
  secret = get variables (codes "AWS_SECRET_ACCESS_KEY");
  token = get variables (codes "AWS_SESSION_TOKEN");
  region = region_of variables region;
  profile = option_or profile (set_value variables (codes "AWS_PROFILE"));
  named = is_some profile;
}

abbrev pub settings_of : (variables files : MapOf (List ℕ)) → (region profile : Option (List ℕ))
    → Result Settings ProfileFault
settings_of variables files region profile =
    answer (words_of variables region profile) (bytes_at files (config_path variables))
    (bytes_at files (credentials_path variables))
