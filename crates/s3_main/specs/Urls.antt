-- A run that makes a URL (AWS CLI Command Reference, `s3 presign`).
use Rattle.std.specs.Prelude.{◌≡◌, ℕ, true, List, [], ◌∷◌, Option}
use Rattle.s3_model.specs.declared.settings.Settings.{Settings}
use Rattle.s3_model.specs.Talks.{Talk, Note, Moment}
use Rattle.s3_outside.specs.Env.{SeenEnv}
use Rattle.s3_words.specs.declared.commands.Command.{Command}
use Rattle.s3_words.specs.Options.{is_presign}
use Rattle.run_start.specs.Begun.{IsBegun}
use Rattle.run_report.specs.declared.run.Run.{Run}
use Rattle.run_show.specs.Urls.{url_line}
use Rattle.run_report.specs.Taskless.{MayEnd}

-- no task, no job and no warning
pub record IsTaskless (run : Run) : Type 0 where
  pub ends : MayEnd run.fatal
  pub no_task : run.plan.tasks.items ≡ []
  pub no_skip : run.plan.warnings.items ≡ []
  pub no_warning : run.warnings.items ≡ []
  pub no_outcome : run.outcomes.items ≡ []
  pub no_job : run.journal.items ≡ []

-- nothing was sent: the first wire was asked for its moment alone
pub record IsPresigned (words : List (List ℕ)) (env : Option SeenEnv) (run : Run) (talks : List Talk)
    (notes : List Note) : Type 0 where
  pub command : Command
  pub settings : Settings
  pub begun : IsBegun words env command settings
  pub presign : is_presign command.verb ≡ true
  pub taskless : IsTaskless run
  pub moment : ℕ
  pub no_talk : talks ≡ []
  pub noted : notes ≡ Moment moment ∷ []

-- the text is the line of the URL from the moment that the first wire noted
pub record IsUrl (words : List (List ℕ)) (env : Option SeenEnv) (own : List ℕ) (talks : List Talk) (notes : List Note) : Type 0 where
  pub command : Command
  pub settings : Settings
  pub begun : IsBegun words env command settings
  pub moment : ℕ
  pub noted : notes ≡ Moment moment ∷ []
  pub is : own ≡ url_line command settings moment
