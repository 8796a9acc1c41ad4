-- What a command is there to show: the URL of `presign`, the rows of `ls`.
use Rattle.std.specs.Prelude.{◌≡◌, ◌⊎◌, ℕ, Bool, true, false, List, [], Option, Some, None, Ok, is_some}
use Rattle.question_runs.specs.Asked.{log_of}
use Rattle.s3_model.specs.declared.settings.Settings.{Settings}
use Rattle.s3_model.specs.Talks.{WireLog}
use Rattle.s3_outside.specs.Env.{SeenEnv}
use Rattle.s3_words.specs.declared.commands.Command.{Command}
use Rattle.s3_words.specs.Options.{is_listing}
use Rattle.job_terms.specs.Gains.{Gains}
use Rattle.run_show.specs.Listings.{ShowsListing}
use Rattle.run_start.specs.Begun.{IsBegun}
use Rattle.service_listings.specs.declared.listing.Shown.{Shown}
use Rattle.s3_main.specs.Asked.{lists_in, shows_url}
use Rattle.s3_main.specs.Urls.{IsUrl}
use Rattle.run_report.specs.declared.run.Run.{Run}
use Rattle.run_report.specs.Taskless.{MayEnd}

-- its text, and whether a key was given and nothing found
pub record Own : Type 0 where
  pub text : List ℕ
  pub missed : Bool

abbrev pub nothing_own : Own
nothing_own = record { text = []; missed = false }

abbrev pub only_text : List ℕ → Own
only_text text = record { text = text; missed = false }

-- The rows of the listing that the command asks for, by its requests and jobs over an unused wire, which then shows
-- this.
pub record IsRows (words : List (List ℕ)) (env : Option SeenEnv) (run : Run) (own : Own) (shows : Option WireLog)
    : Type 0 where
  pub command : Command
  pub settings : Settings
  pub begun : IsBegun words env command settings
  pub listing : is_listing command.verb ≡ true
  pub shown : Shown
  pub lists : ShowsListing command settings run.journal.items (Ok shown) shows
  pub text : own.text ≡ shown.text
  pub missed : own.missed ≡ shown.missed

-- The URL, where the words ask for one; the rows, where they ask for a listing, and they are those of its requests also
-- where the wire shows nothing; else nothing. A run that ended early shows nothing, and one that shows something was
-- ended by nothing but want of memory.
abbrev pub IsOwn : (words : List (List ℕ)) → Option SeenEnv → (before after : Option WireLog) → Run → Own → Type 0
IsOwn words env before after run own =
    ((shows_url words ≡ false) × (lists_in words ≡ false) × (own ≡ nothing_own))
    ⊎ ((shows_url words ≡ true) × MayEnd run.fatal × (own.missed ≡ false)
    × Gains before after (IsUrl words env own.text))
    ⊎ ((lists_in words ≡ true) × MayEnd run.fatal
    × Gains before after (λ talks notes. IsRows words env run own (Some (log_of talks notes)))
    × IsRows words None run own None)
    ⊎ ((is_some run.fatal ≡ true) × (own.text ≡ []))
