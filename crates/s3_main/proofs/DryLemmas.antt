-- A dry run: from its plan to what the run shows.
use Rattle.std.proofs.Common.{◌≡◌, ◌∙◌, ◌&&◌, ◌||◌, ℕ, Bool, true, false, not, List, [], ◌∷◌, Option, Some, None, IfSome, refl, sym, ap, inl, inr}
use Rattle.shared_lemmas.proofs.Clashes.{false_true}
use Rattle.s3_model.specs.declared.places.Entry.{Entry}
use Rattle.s3_model.specs.declared.settings.Limits.{Limits}
use Rattle.s3_model.specs.declared.settings.Settings.{Settings}
use Rattle.s3_model.specs.declared.tasks.Mode.{Mode}
use Rattle.s3_model.specs.declared.tasks.Plan.{Plan}
use Rattle.s3_model.specs.declared.tasks.Task.{Task}
use Rattle.s3_model.specs.declared.tasks.Warning.{Warning}
use Rattle.s3_model.specs.Talks.{WireLog}
use Rattle.s3_outside.specs.Env.{SeenEnv}
use Rattle.s3_outside.specs.Files.{SeenFiles}
use Rattle.s3_words.specs.declared.commands.Command.{Command}
use Rattle.s3_words.specs.declared.commands.Verb.{Verb}
use Rattle.s3_words.specs.declared.commands.Verb.TheVariants as verb
use Rattle.s3_words.specs.Options.{is_copy, is_listing, is_presign}
use Rattle.sync_plan.specs.declared.errand.Errand.{Errand}
use Rattle.job_terms.specs.Gains.{Gains}
use Rattle.job_terms.proofs.GainLemmas.{gains_nothing}
use Rattle.upload_plans.specs.Commands.{is_move, is_offline_dry_run, is_removal, reads_object, source_path}
use Rattle.run_report.specs.declared.run.Fatal.{Fatal}
use Rattle.run_report.specs.declared.run.Fatal.TheVariants as fatal
use Rattle.run_report.specs.declared.run.Run.{Run}
use Rattle.run_report.specs.Taskless.{MayEnd}
use Rattle.run_report.specs.Texts.{mode_in}
use Rattle.run_start.specs.Begun.{IsBegun, IsRestOf}
use Rattle.run_start.proofs.RestLemmas.{mode_is}
use Rattle.sync_plan.specs.Plans.{copies, planned_removals}
use Rattle.dry_runs.specs.Errands.{removal_entry, removal_errand, upload_errand}
use Rattle.dry_runs.specs.Found.{FilesSeen, HoldsSource, HoldsTree, IsSourceFault, files_seen}
use Rattle.dry_runs.specs.Plans.{IsPlanFatal, IsDryPlanBy, StopsBy, StopsDry}
use Rattle.dry_runs.specs.Runs.{GoesDry, ShowsPlan}
use Rattle.s3_main.specs.Asked.{dries_in}
use Rattle.s3_main.specs.Runs.{GoesAs, IsUnasked, StopsFor, Undertakes}
use Rattle.s3_main.proofs.ExecutionLemmas.{nothing, stops_for, unplanned}
use Rattle.s3_main.proofs.UrlLemmas.{lists}

-- ---- why it has no plan

refused_unasked : (errand : Errand) (tasks : List Task) (why : Fatal) → IsPlanFatal errand tasks why → IsUnasked (Some why)
refused_unasked errand tasks fatal.Memory h = tt
refused_unasked errand tasks (fatal.Plan fault) h = tt
refused_unasked errand tasks (fatal.Walk fault) h = tt
refused_unasked errand tasks (fatal.Words fault) h = tt
refused_unasked errand tasks (fatal.Profile fault) h = tt
refused_unasked errand tasks fatal.EnvRead h = tt
refused_unasked errand tasks fatal.NotYet h = tt
refused_unasked errand tasks (fatal.Listing fault) h = absurd h
refused_unasked errand tasks (fatal.Answer why) h = absurd h

source_unasked : (files : FilesSeen) (many : Bool) (path : List ℕ) (why : Fatal) → IsSourceFault files many path why → IsUnasked (Some why)
source_unasked files many path fatal.Memory h = tt
source_unasked files many path (fatal.Plan fault) h = tt
source_unasked files many path (fatal.Walk fault) h = tt
source_unasked files many path (fatal.Words fault) h = tt
source_unasked files many path (fatal.Profile fault) h = tt
source_unasked files many path fatal.EnvRead h = tt
source_unasked files many path fatal.NotYet h = tt
source_unasked files many path (fatal.Listing fault) h = absurd h
source_unasked files many path (fatal.Answer why) h = absurd h

unasked_by : (removes : Bool) (command : Command) (limits : Limits) (files : FilesSeen) (why : Fatal) → StopsBy removes command limits files why → IsUnasked (Some why)
unasked_by true command limits files why h = refused_unasked (removal_errand command limits) (planned_removals (removal_errand command limits) (removal_entry command ∷ [])) why h
unasked_by false command limits files why (inl source) = source_unasked files command.recursive (source_path command) why source
unasked_by false command limits files why (inr (entries, looked, held, refused)) = refused_unasked (upload_errand command limits) (copies (upload_errand command limits) entries) why refused

dry_unasked : (command : Command) (limits : Limits) (files : FilesSeen) (why : Fatal) → StopsDry command limits files why → IsUnasked (Some why)
dry_unasked command limits files why h = unasked_by (is_removal command.verb) command limits files why h

-- ---- files that nobody sees

unseen_tree : (now : Option SeenFiles) (root : List ℕ) (entries : List Entry) (looked : List Warning) → HoldsTree now root entries looked → HoldsTree None root entries looked
unseen_tree now root entries looked h = record { ascending = h.ascending; few = h.few; described = tt; others = h.others; unnamed = h.unnamed; warned = h.warned; whole = tt }

unseen_source : (files : FilesSeen) (many : Bool) (path : List ℕ) (entries : List Entry) (looked : List Warning) → HoldsSource files many path entries looked → HoldsSource (files_seen None None 0 0) many path entries looked
unseen_source files many path entries looked h =
    record { stands = h.stands; stood = tt; fits = h.fits; one = h.one; tree = λ e. unseen_tree files.now path entries looked (h.tree e) }

unseen_by : (removes : Bool) (command : Command) (limits : Limits) (files : FilesSeen) (looked : List Warning) (plan : Plan) → IsDryPlanBy removes command limits files looked plan
    → IsDryPlanBy removes command limits (files_seen None None 0 0) looked plan
unseen_by true command limits files looked plan h = h
unseen_by false command limits files looked plan h = record { entries = h.entries; found = unseen_source files _ _ h.entries looked h.found; transfers = h.transfers }

unseen_plan : (command : Command) (limits : Limits) (files : FilesSeen) (run : Run) → ShowsPlan command limits files run → ShowsPlan command limits (files_seen None None 0 0) run
unseen_plan command limits files run h =
    record { looked = h.looked; plan = h.plan; planned = unseen_by (is_removal command.verb) command limits files h.looked h.plan h.planned; shown = h.shown }

-- ---- which commands these are

by_verb : (of_verb : Verb) (dry reads recursive : Bool) → (dry && ((is_copy of_verb || is_move of_verb) && not reads || is_removal of_verb && not recursive)) ≡ true
    → (is_presign of_verb ≡ false) × (is_listing of_verb ≡ false)
by_verb verb.Cp dry reads recursive e = (refl, refl)
by_verb verb.Mv dry reads recursive e = (refl, refl)
by_verb verb.Sync dry reads recursive e = (refl, refl)
by_verb verb.Rm dry reads recursive e = (refl, refl)
by_verb verb.Ls true reads recursive e = absurd (false_true e)
by_verb verb.Ls false reads recursive e = absurd (false_true e)
by_verb verb.Presign true reads recursive e = absurd (false_true e)
by_verb verb.Presign false reads recursive e = absurd (false_true e)

pub no_other : (command : Command) → is_offline_dry_run command ≡ true → (is_presign command.verb ≡ false) × (is_listing command.verb ≡ false)
no_other command dry = by_verb command.verb command.mode.dryrun (reads_object command.from) command.recursive dry

first_of : (a b : Bool) → (a && b) ≡ true → a ≡ true
first_of true b e = refl
first_of false b e = absurd (false_true e)

-- a command that is no listing is a dry run as it says
pub dries : (words : List (List ℕ)) (command : Command) → IsRestOf words command → is_listing command.verb ≡ false → dries_in words ≡ command.mode.dryrun
dries words command rest none =
    ap (λ (listed : Bool). not listed && (mode_in words).dryrun) (lists words command rest ∙ none) ∙ ap (λ (mode : Mode). mode.dryrun) (sym (mode_is words command rest))

pub dries_true : (words : List (List ℕ)) (command : Command) → IsRestOf words command → is_offline_dry_run command ≡ true → dries_in words ≡ true
dries_true words command rest dry = dries words command rest (no_other command dry).1 ∙ first_of command.mode.dryrun _ dry

pub lists_dries : (words : List (List ℕ)) (command : Command) → IsRestOf words command → is_listing command.verb ≡ true → dries_in words ≡ false
lists_dries words command rest listing = ap (λ (listed : Bool). not listed && (mode_in words).dryrun) (lists words command rest ∙ listing)

-- ---- the run

may_stop : (P : Fatal → Type 0) (why : Option Fatal) → MayEnd why → P fatal.Memory → IfSome why P
may_stop P None h p = tt
may_stop P (Some fatal.Memory) h p = p
may_stop P (Some (fatal.Words fault)) h p = absurd h
may_stop P (Some (fatal.Profile fault)) h p = absurd h
may_stop P (Some fatal.EnvRead) h p = absurd h
may_stop P (Some (fatal.Plan fault)) h p = absurd h
may_stop P (Some (fatal.Walk fault)) h p = absurd h
may_stop P (Some (fatal.Listing fault)) h p = absurd h
may_stop P (Some (fatal.Answer why)) h p = absurd h
may_stop P (Some fatal.NotYet) h p = absurd h

module _ (words : List (List ℕ)) (env : Option SeenEnv) (env_before env_after : ℕ) (limits : Limits) (was now : Option SeenFiles) (before after : ℕ) (command : Command) (settings : Settings)
    (begun : IsBegun words env command settings) (offline : is_offline_dry_run command ≡ true) (run : Run) (went : GoesDry command limits (files_seen was now before after) run) where
  pub dry_goes : (seen : Option WireLog) → Gains seen seen (GoesAs words env limits was now before after run)
  dry_goes seen = gains_nothing (GoesAs words env limits was now before after run) seen (elim went [
    | inl memory ↦ inl (unplanned fatal.Memory run tt memory)
    | inr more ↦ elim more [
      | inl ended ↦ inl (unplanned ended.why run (dry_unasked command limits (files_seen was now before after) ended.why ended.stops) ended.ends)
      | inr shows ↦ inr (inr (inr (inr (record { command = command; settings = settings; begun = begun; offline = offline; shows = shows; no_talk = refl; no_note = refl }))))
    ]
  ])

  pub dry_does : Undertakes words limits before after run
  dry_does = elim went [
    | inl memory ↦ inl (nothing fatal.Memory run tt memory)
    | inr more ↦ elim more [
      | inl ended ↦ inl (nothing ended.why run (dry_unasked command limits (files_seen was now before after) ended.why ended.stops) ended.ends)
      | inr shows ↦ inr (inr (inr (inr (record { command = command; rest = begun.rest; offline = offline; shows = unseen_plan command limits (files_seen was now before after) run shows }))))
    ]
  ]

  abbrev Stops : Fatal → Type 0
  Stops = StopsFor words env env_before env_after limits (files_seen was now before after)

  pub dry_stops : IfSome run.fatal Stops
  dry_stops = elim went [
    | inl memory ↦ stops_for Stops fatal.Memory [] [] run memory (inl tt)
    | inr more ↦ elim more [
      | inl ended ↦ stops_for Stops ended.why [] [] run ended.ends (inr (inr (inr (inr (command, settings, begun, offline, ended.stops)))))
      | inr shows ↦ may_stop Stops run.fatal shows.shown.ends (inl tt)
    ]
  ]
