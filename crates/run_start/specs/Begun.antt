-- How a run begins: its words are read, and then its settings.
use Rattle.std.specs.Prelude.{◌≡◌, ℕ, true, false, List, Option, Some, None, IfSome}
use Rattle.s3_model.specs.declared.settings.Settings.{Settings}
use Rattle.s3_model.specs.Counts.{Rose}
use Rattle.s3_model.specs.Validity.{IsValidConfig}
use Rattle.s3_outside.specs.Env.{SeenEnv}
use Rattle.s3_words.specs.declared.commands.Command.{Command}
use Rattle.s3_words.specs.Commands.{IsCommand}
use Rattle.s3_words.specs.Faults.{word_fault}
use Rattle.upload_plans.specs.Commands.{is_unbuilt}
use Rattle.run_report.specs.declared.run.Fatal.{Fatal}
use Rattle.run_report.specs.declared.run.Fatal.TheVariants as fatal
use Rattle.run_start.specs.Settings.{AreSettings, RefusesSettings, without_settings}

-- the words have no fault, and ask for this command, which the program does
pub record IsRead (words : List (List ℕ)) (command : Command) : Type 0 where
  pub no_fault : word_fault words ≡ None
  pub is_command : IsCommand words command
  pub built : is_unbuilt command ≡ false

-- what is left of it, once its settings took over the texts that are theirs
pub record IsRestOf (words : List (List ℕ)) (command : Command) : Type 0 where
  pub whole : Command
  pub reads : IsRead words whole
  pub is : command ≡ without_settings whole

-- and the settings are those of the variables and the files
pub record IsBegun (words : List (List ℕ)) (env : Option SeenEnv) (command : Command)
    (settings : Settings) : Type 0 where
  pub rest : IsRestOf words command
  pub settled : IfSome env (λ seen. AreSettings rest.whole seen settings)
  pub valid : IsValidConfig settings.config

-- ---- why a run ends there

abbrev pub StopsInWords : (words : List (List ℕ)) → Fatal → Type 0
StopsInWords words fatal.Memory = Unit {0}
StopsInWords words (fatal.Words fault) = word_fault words ≡ Some fault
StopsInWords words fatal.NotYet =
    (command : Command) × IsCommand words command × (word_fault words ≡ None) × (is_unbuilt command ≡ true)
StopsInWords words why = ⊥

-- the settings of the command are refused, or a file of them was not read
abbrev pub RefusedFor : Command → Option SeenEnv → (faults_before faults_after : ℕ) → Fatal → Type 0
RefusedFor command env before after fatal.Memory = Unit {0}
RefusedFor command env before after (fatal.Profile fault) = IfSome env (λ seen. RefusesSettings command seen fault)
RefusedFor command env before after fatal.EnvRead = Rose before after
RefusedFor command env before after why = ⊥

abbrev pub StopsInSettings : (words : List (List ℕ)) → Option SeenEnv → (faults_before faults_after : ℕ) → Fatal
    → Type 0
StopsInSettings words env before after why = (command : Command) × IsRead words command
    × RefusedFor command env before after why
