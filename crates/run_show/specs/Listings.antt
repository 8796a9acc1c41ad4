-- A run of `ls`: what it asked, and how it ended.
use Rattle.std.specs.Prelude.{◌≡◌, ℕ, Bool, List, [], ◌∷◌, Option, Some, None, Result, Ok, Err}
use Rattle.job_terms.specs.Gains.{Gains}
use Rattle.lane_workers.specs.LaneWorkers.{carrier_with}
use Rattle.planning_questions.specs.Questions.{Question, trace_of}
use Rattle.planning_questions.specs.declared.halt.Halt.{Halt}
use Rattle.planning_questions.specs.declared.halt.Halt.TheVariants as halt
use Rattle.question_runs.specs.Asked.{AskedOver, log_of}
use Rattle.result_lines.specs.Causes.{IsShown}
use Rattle.result_lines.specs.Faults.{IsListingFault}
use Rattle.run_traces.specs.Traces.{journal_of}
use Rattle.s3_model.specs.declared.faults.BadListing.TheVariants as bad
use Rattle.s3_model.specs.declared.list.OutOfMemory.{OutOfMemory}
use Rattle.s3_model.specs.declared.outcomes.Cause.{Cause}
use Rattle.s3_model.specs.declared.outcomes.Cause.TheVariants as cause
use Rattle.s3_model.specs.declared.outcomes.Event.{Event}
use Rattle.s3_model.specs.declared.places.Place.{Place}
use Rattle.s3_model.specs.declared.requests.Op.{Op}
use Rattle.s3_model.specs.declared.requests.Op.TheVariants as op
use Rattle.s3_model.specs.declared.settings.Settings.{Settings}
use Rattle.s3_model.specs.Talks.{WireLog}
use Rattle.s3_words.specs.declared.commands.Command.{Command}
use Rattle.run_report.specs.declared.run.Fatal.{Fatal}
use Rattle.run_report.specs.declared.run.Fatal.TheVariants as fatal
use Rattle.run_report.specs.declared.printout.Printout.{Printout}
use Rattle.run_report.specs.declared.run.Run.{Run}
use Rattle.run_report.specs.Texts.{HasTexts, IsTextOf}
use Rattle.service_listings.specs.Listings.{IsShownBy, ListsAt, key_of}
use Rattle.service_listings.specs.declared.listing.Listing.{Listing}
use Rattle.service_listings.specs.declared.listing.Shown.{Shown}

-- ---- what it asked

-- The questions of the listing of a command were asked over an unused wire, which then shows this, if it shows
-- anything: each with at most the attempts of the settings. The jobs are theirs, and the result is what they came to.
pub record ShowsListing (command : Command) (settings : Settings) (events : List Event) (result : Result Shown Halt)
    (shows : Option WireLog) : Type 0 where
  pub questions : List Question
  pub asked : AskedOver (carrier_with command.endpoint settings.keys settings.config.attempts) questions shows
  pub jobs : events ≡ journal_of (trace_of 0 questions)
  pub listed : Result Listing Halt
  pub lists : ListsAt 0 command.from command.recursive questions listed
  pub shown : IsShownBy (key_of command.from) command.recursive listed result

-- P of the first of two lists, and the others stay
abbrev pub OnFirstAlone : {W : Type 0} → (before after : List W) → (W → W → Type 0) → Type 0
OnFirstAlone (before ∷ others) (after ∷ rest) P = P before after × (rest ≡ others)
OnFirstAlone before after P = ⊥

-- ---- how it ended

-- how a listing that has no end ends the run; where memory ran out nothing else is said. No lane brings a stranger.
abbrev pub fatal_for : Halt → Fatal
fatal_for (halt.Listing bad.Memory) = fatal.Memory
fatal_for (halt.Listing refused) = fatal.Listing refused
fatal_for (halt.Answer why) = fatal.Answer why
fatal_for halt.Memory = fatal.Memory
fatal_for halt.Stranger = fatal.Memory

-- what a listing of this path asks, or one without a path
abbrev pub listed_op : Option Place → Op
listed_op None = op.Buckets
listed_op (Some at) = op.List

-- a request of this operation was refused, or nobody can know what it came to
abbrev pub IsCauseOf : Op → Cause → Type 0
IsCauseOf op (cause.Service called code message) = called ≡ op
IsCauseOf op (cause.Lost called reason) = called ≡ op
IsCauseOf op why = ⊥

-- a page was refused, or memory ran out, or so it was with a request of the operation
abbrev pub IsListingEnd : Option Place → Fatal → Type 0
IsListingEnd at (fatal.Listing fault) = IsListingFault fault
IsListingEnd at (fatal.Answer why) = IsCauseOf (listed_op at) why
IsListingEnd at fatal.Memory = Unit {0}
IsListingEnd at why = ⊥

-- what halts a listing has a line, and is no stranger
abbrev pub MayEndListing : Halt → Type 0
MayEndListing (halt.Answer why) = IsShown why
MayEndListing halt.Stranger = ⊥
MayEndListing other = Unit {0}

-- no task, no outcome and no warning
pub record HasNoOutcome (run : Run) : Type 0 where
  pub no_task : run.plan.tasks.items ≡ []
  pub no_skip : run.plan.warnings.items ≡ []
  pub no_warning : run.warnings.items ≡ []
  pub no_outcome : run.outcomes.items ≡ []

-- a run with these jobs and without a task
pub record HasListed (why : Option Fatal) (run : Run) : Type 0 where
  pub fatal : run.fatal ≡ why
  pub nothing : HasNoOutcome run

-- what was listed is to be printed, or the line of its end
abbrev pub IsMade : (words : List (List ℕ)) → Result Shown Halt → Run → Result Printout OutOfMemory → (missed : Bool)
    → Type 0
IsMade words (Ok shown) run text missed =
    HasListed None run × HasTexts shown.text [] text × (missed ≡ shown.missed)
IsMade words (Err ends) run text missed =
    HasListed (Some (fatal_for ends)) run × IsTextOf words [] run text

-- ---- the whole

-- `seen wire`: all that is seen of the wire, if it is
module _ {W : Type 0} (seen : W → Option WireLog) where
  -- the listing of a command, before it is printed
  pub record Lists (words : List (List ℕ)) (command : Command) (settings : Settings) (before after : List W)
      (run : Run) (text : Result Printout OutOfMemory) (missed : Bool) : Type 0 where
    pub result : Result Shown Halt
    -- what the first wire gained, and the others stay
    pub gained : OnFirstAlone before after (λ was now. Gains (seen was) (seen now)
        (λ talks notes. ShowsListing command settings run.journal.items result (Some (log_of talks notes))))
    -- the same where the wire shows nothing
    pub unseen : ShowsListing command settings run.journal.items result None
    pub made : IsMade words result run text missed
