-- A dry run that asks nothing of a service (AWS CLI Command Reference, `s3 cp`, `s3 mv` and `s3 rm`, `--dryrun`).
use Rattle.std.specs.Prelude.{◌≡◌, ◌⊎◌, ℕ, true, List, [], Option, None}
use Rattle.s3_model.specs.declared.settings.Limits.{Limits}
use Rattle.s3_model.specs.declared.settings.Settings.{Settings}
use Rattle.s3_model.specs.Talks.{Talk, Note}
use Rattle.s3_outside.specs.Env.{SeenEnv}
use Rattle.s3_words.specs.declared.commands.Command.{Command}
use Rattle.tree_walk.specs.Trees.{OnlyLooks}
use Rattle.upload_plans.specs.Commands.{is_offline_dry_run}
use Rattle.upload_promise.specs.Sources.{LooksAt}
use Rattle.run_report.specs.declared.run.Fatal.{Fatal}
use Rattle.run_report.specs.declared.run.Run.{Run}
use Rattle.run_start.specs.Begun.{IsBegun, IsRestOf}
use Rattle.dry_runs.specs.Found.{FilesSeen, files_seen}
use Rattle.dry_runs.specs.Plans.{StopsDry}
use Rattle.dry_runs.specs.Runs.{ShowsPlan}
use Rattle.s3_main.specs.Asked.{dries_in, path_in}

-- The run began, and is a dry run: its plan is shown, each task is dry, and nothing was sent.
pub record IsShownOnly (words : List (List ℕ)) (env : Option SeenEnv) (limits : Limits) (files : FilesSeen) (run : Run)
    (talks : List Talk) (notes : List Note) : Type 0 where
  pub command : Command
  pub settings : Settings
  pub begun : IsBegun words env command settings
  pub offline : is_offline_dry_run command ≡ true
  pub shows : ShowsPlan command limits files run
  pub no_talk : talks ≡ []
  pub no_note : notes ≡ []

-- so of files that nobody sees
pub record MakesDryRun (words : List (List ℕ)) (limits : Limits) (run : Run) : Type 0 where
  pub command : Command
  pub rest : IsRestOf words command
  pub offline : is_offline_dry_run command ≡ true
  pub shows : ShowsPlan command limits (files_seen None None 0 0) run

-- why a dry run has no plan
abbrev pub StopsInDryRun : (words : List (List ℕ)) → Option SeenEnv → Limits → FilesSeen → Fatal → Type 0
StopsInDryRun words env limits files why =
    (command : Command) × (settings : Settings) × IsBegun words env command settings
    × (is_offline_dry_run command ≡ true) × StopsDry command limits files why

-- the files stay, and only the path of the words is asked for; or in a dry run only calls that look are made
abbrev pub LooksFor : (words : List (List ℕ)) → FilesSeen → Type 0
LooksFor words files = LooksAt (path_in words) files.was files.now
    ⊎ ((dries_in words ≡ true) × OnlyLooks files.was files.now files.faults_before files.faults_after)
