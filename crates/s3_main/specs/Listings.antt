-- A run that lists: what it asked, and how it ended.
use Rattle.std.specs.Prelude.{◌≡◌, ◌⊎◌, ℕ, true, List, Option, Some, Result, Ok, Err}
use Rattle.planning_questions.specs.declared.halt.Halt.{Halt}
use Rattle.s3_model.specs.declared.settings.Settings.{Settings}
use Rattle.s3_model.specs.Talks.{WireLog}
use Rattle.s3_outside.specs.Env.{SeenEnv}
use Rattle.s3_words.specs.declared.commands.Command.{Command}
use Rattle.s3_words.specs.Options.{is_listing}
use Rattle.service_listings.specs.declared.listing.Shown.{Shown}
use Rattle.run_report.specs.declared.run.Fatal.{Fatal}
use Rattle.run_report.specs.declared.run.Fatal.TheVariants as fatal
use Rattle.run_report.specs.declared.run.Run.{Run}
use Rattle.run_show.specs.Listings.{HasNoOutcome, ShowsListing, fatal_for}
use Rattle.run_start.specs.Begun.{IsBegun}
use Rattle.run_report.specs.Taskless.{MayEnd}

-- nothing but want of memory ends a run whose listing has an end
abbrev pub EndsListing : Result Shown Halt → Option Fatal → Type 0
EndsListing (Ok shown) why = MayEnd why
EndsListing (Err ends) why = (why ≡ Some (fatal_for ends)) ⊎ (why ≡ Some fatal.Memory)

-- The run began with a listing, its jobs are the requests of that, each with the attempts of its settings; they were
-- made over an unused wire, which then shows this, if it shows anything.
pub record IsListing (words : List (List ℕ)) (env : Option SeenEnv) (run : Run) (shows : Option WireLog)
    : Type 0 where
  pub command : Command
  pub settings : Settings
  pub begun : IsBegun words env command settings
  pub listing : is_listing command.verb ≡ true
  pub nothing : HasNoOutcome run
  pub result : Result Shown Halt
  pub lists : ShowsListing command settings run.journal.items result shows
  pub ends : EndsListing result run.fatal
