-- Settings that were not read.
use Rattle.std.proofs.Common.{Err, Result, refl, ◌≡◌, ℕ, Option, IfSome}
use Rattle.env_settings.specs.Calls.{AnswersAs}
use Rattle.env_settings.specs.declared.fault.SettingsFault.{SettingsFault}
use Rattle.env_settings.specs.declared.fault.SettingsFault.TheVariants as unread
use Rattle.s3_model.specs.declared.settings.Settings.{Settings}
use Rattle.s3_model.specs.Counts.{Rose}
use Rattle.s3_outside.specs.Env.{SeenEnv}
use Rattle.s3_words.specs.declared.commands.Command.{Command}
use Rattle.run_start.specs.Begun.{RefusedFor}
use Rattle.run_start.specs.Settings.{settings_fatal, settings_for}

-- they are refused for what reading them answers
pub refused_for : (command : Command) (env : Option SeenEnv) (before after : ℕ) (fault : SettingsFault) → IfSome env (λ seen. AnswersAs (settings_for command seen) (Err fault))
    → (◌≡◌ {A = Result Settings SettingsFault} (Err fault) (Err unread.EnvRead) → Rose before after) → RefusedFor command env before after (settings_fatal fault)
refused_for command env before after (unread.Profile fault) answers rose = answers
refused_for command env before after unread.EnvRead answers rose = rose refl
refused_for command env before after unread.Memory answers rose = tt
