-- From the words and the settings to what the run shows.
use Rattle.std.proofs.Common.{◌≡◌, ◌⊎◌, ℕ, false, List, [], Option, Some, None, IfSome, ap, subst, inl, inr}
use Rattle.s3_model.specs.declared.settings.Limits.{Limits}
use Rattle.s3_model.specs.declared.settings.Settings.{Settings}
use Rattle.s3_model.specs.Talks.{Talk, Note, WireLog}
use Rattle.s3_outside.specs.Env.{SeenEnv}
use Rattle.s3_outside.specs.Files.{SeenFiles}
use Rattle.s3_words.specs.declared.commands.Command.{Command}
use Rattle.s3_model.specs.Places.{path_at}
use Rattle.s3_words.specs.Options.{is_listing, is_presign}
use Rattle.upload_plans.specs.Commands.{source_path}
use Rattle.job_terms.specs.Gains.{Gains}
use Rattle.upload_promise.specs.Sources.{LooksAt}
use Rattle.job_terms.proofs.GainLemmas.{gains_as, gains_nothing}
use Rattle.run_report.specs.declared.run.Fatal.{Fatal}
use Rattle.run_report.specs.declared.run.Fatal.TheVariants as fatal
use Rattle.run_report.specs.declared.run.Run.{Run}
use Rattle.run_start.specs.Begun.{IsBegun, IsRestOf, RefusedFor, StopsInSettings, StopsInWords}
use Rattle.dry_runs.specs.Found.{files_seen}
use Rattle.s3_main.specs.Asked.{path_in}
use Rattle.s3_main.specs.Executed.{DoesOn, GoesOn}
use Rattle.s3_main.specs.Runs.{GoesAs, IsUnasked, StopsFor, StopsPlanning, Undertakes}
use Rattle.run_start.proofs.RestLemmas.{from_is}
use Rattle.s3_main.proofs.ExecutionLemmas.{nothing, stops_for, unplanned}
use Rattle.run_report.specs.Taskless.{HasNoTask}

-- the path of the command is that of the words
pub source_is : (words : List (List ℕ)) (command : Command) → IsRestOf words command → source_path command ≡ path_in words
source_is words command is = ap path_at (from_is words command is)

pub looks_words : (words : List (List ℕ)) (command : Command) → IsRestOf words command → (before after : Option SeenFiles) → LooksAt (source_path command) before after → LooksAt (path_in words) before after
looks_words words command is before after looks = subst (λ (path : List ℕ). LooksAt path before after) (source_is words command is) looks

-- ---- a run that ended in its words or in its settings

words_unasked : (words : List (List ℕ)) (why : Fatal) → StopsInWords words why → IsUnasked (Some why)
words_unasked words fatal.Memory h = tt
words_unasked words (fatal.Words fault) h = tt
words_unasked words fatal.NotYet h = tt
words_unasked words (fatal.Profile fault) h = absurd h
words_unasked words fatal.EnvRead h = absurd h
words_unasked words (fatal.Plan fault) h = absurd h
words_unasked words (fatal.Walk fault) h = absurd h
words_unasked words (fatal.Listing fault) h = absurd h
words_unasked words (fatal.Answer why) h = absurd h

refused_unasked : (command : Command) (env : Option SeenEnv) (before after : ℕ) (why : Fatal) → RefusedFor command env before after why → IsUnasked (Some why)
refused_unasked command env before after fatal.Memory h = tt
refused_unasked command env before after (fatal.Profile fault) h = tt
refused_unasked command env before after fatal.EnvRead h = tt
refused_unasked command env before after (fatal.Words fault) h = absurd h
refused_unasked command env before after fatal.NotYet h = absurd h
refused_unasked command env before after (fatal.Plan fault) h = absurd h
refused_unasked command env before after (fatal.Walk fault) h = absurd h
refused_unasked command env before after (fatal.Listing fault) h = absurd h
refused_unasked command env before after (fatal.Answer why) h = absurd h

pub early_unasked : (words : List (List ℕ)) (env : Option SeenEnv) (before after : ℕ) (why : Fatal) → StopsInWords words why ⊎ StopsInSettings words env before after why → IsUnasked (Some why)
early_unasked words env before after why (inl h) = words_unasked words why h
early_unasked words env before after why (inr h) = refused_unasked h.0 env before after why h.2

module _ (words : List (List ℕ)) (env : Option SeenEnv) (env_before env_after : ℕ) (limits : Limits) (was now : Option SeenFiles) (before after : ℕ) (run : Run) where
  abbrev Stops : Fatal → Type 0
  Stops = StopsFor words env env_before env_after limits (files_seen was now before after)

  abbrev Goes : List Talk → List Note → Type 0
  Goes = GoesAs words env limits was now before after run

  early_is : (why : Fatal) → StopsInWords words why ⊎ StopsInSettings words env env_before env_after why → Stops why
  early_is why (inl h) = inl h
  early_is why (inr h) = inr (inl h)

  pub early_stops : (why : Fatal) → HasNoTask (Some why) [] [] run → StopsInWords words why ⊎ StopsInSettings words env env_before env_after why → IfSome run.fatal Stops
  early_stops why h stops = stops_for Stops why [] [] run h (early_is why stops)

  pub early_goes : (seen : Option WireLog) (why : Fatal) → HasNoTask (Some why) [] [] run → StopsInWords words why ⊎ StopsInSettings words env env_before env_after why → Gains seen seen Goes
  early_goes seen why h stops = gains_nothing Goes seen (inl (unplanned why run (early_unasked words env env_before env_after why stops) h))

  pub early_does : (why : Fatal) → HasNoTask (Some why) [] [] run → StopsInWords words why ⊎ StopsInSettings words env env_before env_after why → Undertakes words limits before after run
  early_does why h stops = inl (nothing why run (early_unasked words env env_before env_after why stops) h)

  -- ---- a run that began

  module _ (command : Command) (settings : Settings) (begun : IsBegun words env command settings) (copies : is_presign command.verb ≡ false) (no_listing : is_listing command.verb ≡ false) (no_dry_run : command.mode.dryrun ≡ false) where
    goes : (talks : List Talk) (notes : List Note) → GoesOn command settings limits was now before after run talks notes → Goes talks notes
    goes talks notes (inl none) = inl none
    goes talks notes (inr (comes, fated, plan, works)) =
        inr (inl (record { command = command; settings = settings; comes = comes; begun = begun; copies = copies; no_listing = no_listing; no_dry_run = no_dry_run; fated = fated; plan = plan; works = works }))

    pub begun_goes : (seen last : Option WireLog) → Gains seen last (GoesOn command settings limits was now before after run) → Gains seen last Goes
    begun_goes seen last gains = gains_as (GoesOn command settings limits was now before after run) Goes goes seen last gains

    stops : (why : Option Fatal) → IfSome why (StopsPlanning command settings limits was before after) → IfSome why Stops
    stops None h = tt
    stops (Some why) h = inr (inr (inl (command, settings, begun, copies, no_listing, no_dry_run, h)))

    pub begun_stops : IfSome run.fatal (StopsPlanning command settings limits was before after) → IfSome run.fatal Stops
    begun_stops h = stops run.fatal h

    pub begun_does : DoesOn command settings limits before after run → Undertakes words limits before after run
    begun_does (inl none) = inl none
    begun_does (inr (comes, fated, plan, wants)) =
        inr (inl (record { command = command; settings = settings; comes = comes; rest = begun.rest; copies = copies; no_listing = no_listing; no_dry_run = no_dry_run; fated = fated; plan = plan; wants = wants }))
