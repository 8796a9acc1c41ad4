-- What reading the settings answers, and which files it asks for.
use Rattle.std.specs.Prelude.{◌≡◌, ◌≤◌, ◌++◌, ℕ, List, Option, Result, Ok, Err, take}
use Rattle.s3_model.specs.declared.settings.Settings.{Settings}
use Rattle.s3_model.specs.declared.faults.ProfileFault.{ProfileFault}
use Rattle.s3_outside.specs.Env.{SeenEnv}
use Rattle.s3_outside.specs.Seen.{IsSeenAfter}
use Rattle.env_settings.specs.declared.fault.SettingsFault.{SettingsFault}
use Rattle.env_settings.specs.declared.fault.SettingsFault.TheVariants as fault

-- the answer is that of the settings, unless a file was not read or memory ran out
abbrev pub AnswersAs : Result Settings ProfileFault → Result Settings SettingsFault → Type 0
AnswersAs expected (Ok settings) = expected ≡ Ok settings
AnswersAs expected (Err (fault.Profile why)) = expected ≡ Err why
AnswersAs expected (Err fault.EnvRead) = Unit {0}
AnswersAs expected (Err fault.Memory) = Unit {0}

-- what reading a file may answer beside its bytes
abbrev pub IsReadFault : SettingsFault → Type 0
IsReadFault (fault.Profile why) = ⊥
IsReadFault fault.EnvRead = Unit {0}
IsReadFault fault.Memory = Unit {0}

-- both files before an answer, one at least before a failed read
abbrev pub least_asked : {T : Type 0} → Result T SettingsFault → ℕ
least_asked (Ok answer) = 2
least_asked (Err (fault.Profile why)) = 2
least_asked (Err fault.EnvRead) = 1
least_asked (Err fault.Memory) = 0

abbrev pub asks_first : ℕ → (SeenEnv → List (List ℕ)) → SeenEnv → SeenEnv
asks_first count paths env = record env { asked = env.asked ++ take count (paths env) }

-- the first of at most two paths were asked for, each once, in order, and no other; nothing else changed
pub record AsksFirst {T : Type 0} (paths : SeenEnv → List (List ℕ)) (result : Result T SettingsFault)
    (old new : Option SeenEnv) (before after : ℕ) : Type 0 where
  pub count : ℕ
  pub least : least_asked result ≤ count
  pub asked : IsSeenAfter (asks_first count paths) old new before after
