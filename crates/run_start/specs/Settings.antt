-- The settings of a command, from the variables and the files of the environment (AWS CLI User Guide, "Configuration
-- and credential file settings").
use Rattle.std.specs.Prelude.{◌≡◌, ◌⊎◌, ℕ, Option, None, Result, Ok, Err}
use Rattle.env_settings.specs.Calls.{AsksFirst}
use Rattle.env_settings.specs.Places.{settings_paths}
use Rattle.env_settings.specs.Settings.{settings_of}
use Rattle.env_settings.specs.declared.fault.SettingsFault.{SettingsFault}
use Rattle.env_settings.specs.declared.fault.SettingsFault.TheVariants as unread
use Rattle.s3_model.specs.declared.faults.ProfileFault.{ProfileFault}
use Rattle.s3_model.specs.declared.settings.Settings.{Settings}
use Rattle.s3_outside.specs.Env.{SeenEnv}
use Rattle.s3_words.specs.declared.commands.Command.{Command}
use Rattle.run_report.specs.declared.run.Fatal.{Fatal}
use Rattle.run_report.specs.declared.run.Fatal.TheVariants as fatal

-- what is left of a command whose region and profile its settings took over
abbrev pub without_settings : Command → Command
without_settings command = record command { region = None; profile = None }

abbrev pub settings_for : Command → SeenEnv → Result Settings ProfileFault
settings_for command seen = settings_of seen.variables seen.files command.region command.profile

abbrev pub AreSettings : Command → SeenEnv → Settings → Type 0
AreSettings command seen settings = settings_for command seen ≡ Ok settings

abbrev pub RefusesSettings : Command → SeenEnv → ProfileFault → Type 0
RefusesSettings command seen fault = settings_for command seen ≡ Err fault

-- how a run ends whose settings were not read
abbrev pub settings_fatal : SettingsFault → Fatal
settings_fatal (unread.Profile fault) = fatal.Profile fault
settings_fatal unread.EnvRead = fatal.EnvRead
settings_fatal unread.Memory = fatal.Memory

-- Nothing was asked of the environment; or its settings files were, each at most once and the config file first, and
-- nothing else.
abbrev pub AsksOnly : (old new : Option SeenEnv) → (faults_before faults_after : ℕ) → Type 0
AsksOnly old new before after =
    (new ≡ old)
    ⊎ ((result : Result Settings SettingsFault)
    × AsksFirst (λ seen. settings_paths seen.variables) result old new before after)
