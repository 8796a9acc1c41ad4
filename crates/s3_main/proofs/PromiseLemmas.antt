-- A run keeps its promise: it planned an upload and carried it out, or it has no task.
use Rattle.std.proofs.Common.{◌≡◌, ◌∙◌, ◌≤◌, ◌^◌, ℕ, Bool, true, false, List, [], ◌∷◌, Option, Some, None, Result, Ok, Err, if◌then◌else◌, refl, sym, ap, subst, inl, inr, arith, filter_map, ◌&&◌, ◌⊎◌, ◌++◌, drop, length, option_map, slice_get, not}
use Rattle.job_terms.specs.Attempts.{in_first}
use Rattle.s3_model.specs.declared.outcomes.Event.{Event}
use Rattle.s3_model.specs.declared.outcomes.Outcome.{Outcome}
use Rattle.s3_model.specs.declared.places.Endpoint.{Endpoint}
use Rattle.s3_model.specs.declared.settings.Config.{Config}
use Rattle.s3_model.specs.declared.settings.Keys.{Keys}
use Rattle.s3_model.specs.declared.settings.Limits.{Limits}
use Rattle.s3_model.specs.declared.settings.Settings.{Settings}
use Rattle.s3_model.specs.declared.tasks.Task.{Task}
use Rattle.s3_model.specs.declared.tasks.Warning.{Warning}
use Rattle.s3_model.specs.Talks.{Talk, Note, Moment, Began, WireLog}
use Rattle.upload_promise.specs.Puts.{AreIdle}
use Rattle.upload_promise.proofs.JobLemmas.{only}
use Rattle.upload_promise.proofs.WireLemmas.{none_idle}
use Rattle.answer_classes.specs.Showing.{HasStatus, Shows}
use Rattle.list_walk.specs.Pages.{IsRefusedPage}
use Rattle.lane_jobs.specs.Lanes.{SeenCarrier}
use Rattle.lane_workers.specs.LaneWorkers.{carrier_with}
use Rattle.planning_laws.specs.Asking.{AskFor}
use Rattle.planning_questions.specs.declared.halt.Halt.{Halt}
use Rattle.planning_questions.specs.declared.halt.Halt.TheVariants as halt
use Rattle.question_runs.proofs.Asking.{laws_of}
use Rattle.question_runs.proofs.Own.{AreOwn, all_own}
use Rattle.question_runs.proofs.Promise.{questions_keep}
use Rattle.question_runs.specs.Asked.{log_of}
use Rattle.service_listings.specs.Listings.{key_of as listed_key}
use Rattle.service_listings.specs.Needs.{needs_of}
use Rattle.service_listings.specs.declared.listing.Shown.{Shown}
use Rattle.run_promise.specs.Settled.{left_by, untimed_by}
use Rattle.run_promise.specs.Planning.{Need}
use Rattle.shared_lemmas.proofs.Clashes.{false_true, none_is_some, some_is}
use Rattle.std.specs.List.{AllByRecursion}
use Rattle.std.proofs.lemmas.List.{length-map}
use Rattle.std.proofs.lemmas.Option.{slice_get-map}
use Rattle.std.proofs.Math.Seq.{drop-append_seam}
use Rattle.s3_model.specs.declared.outcomes.Outcome.TheVariants as outcome
use Rattle.s3_model.specs.declared.tasks.Plan.{Plan}
use Rattle.s3_outside.specs.FileCalls.{call_of}
use Rattle.s3_outside.specs.declared.files.FileNote.{FileNote}
use Rattle.s3_outside.specs.declared.files.FileNote.TheVariants as note
use Rattle.tree_walk.specs.Trees.{IsLook, OnlyLooks}
use Rattle.upload_plans.specs.Commands.{is_offline_dry_run}
use Rattle.dry_runs.specs.Found.{FilesSeen, files_seen}
use Rattle.dry_runs.specs.Runs.{ShowsPlan}
use Rattle.dry_runs.specs.Shown.{all_dry}
use Rattle.dry_promise.proofs.PlanLemmas.{no_tasks, none_left, none_untimed, unasked_tasks}
use Rattle.dry_promise.proofs.PromiseLemmas.{dry_keeps}
use Rattle.s3_main.specs.DryRuns.{LooksFor}
use Rattle.s3_main.proofs.DryLemmas.{dries, dries_true, lists_dries, no_other}
use Rattle.s3_model.specs.declared.places.Place.{Place}
use Rattle.s3_words.specs.Commands.{arguments_of, first_of}
use Rattle.s3_words.specs.Given.{is_given}
use Rattle.s3_words.specs.Places.{places_in}
use Rattle.s3_words.specs.declared.options.OptionName.TheVariants.{Recursive}
use Rattle.s3_words.specs.Options.{is_listing}
use Rattle.run_report.specs.declared.run.Fatal.{Fatal}
use Rattle.run_report.specs.declared.run.Fatal.TheVariants as fatal
use Rattle.run_show.specs.Listings.{HasNoOutcome, ShowsListing, fatal_for}
use Rattle.s3_main.specs.Listings.{EndsListing}
use Rattle.s3_main.specs.Urls.{IsPresigned}
use Rattle.s3_model.specs.Validity.{IsValidConfig, IsValidLimits, IsWithin}
use Rattle.s3_outside.specs.Env.{SeenEnv}
use Rattle.s3_outside.specs.Files.{SeenFiles, shape_at}
use Rattle.s3_outside.specs.declared.files.Shape.TheVariants as shape
use Rattle.s3_words.specs.declared.commands.Command.{Command}
use Rattle.attempts.specs.Attempts.{text_of}
use Rattle.small_uploads.specs.Uploading.{Uploads, put_ask}
use Rattle.upload_plans.specs.Commands.{bucket_of, key_of, source_path}
use Rattle.upload_plans.specs.Plans.{content_for, planned_key, planned_task}
use Rattle.upload_plans.specs.declared.plan.Fate.{Fate}
use Rattle.upload_plans.specs.declared.plan.Fate.TheVariants as fate
use Rattle.upload_plans.proofs.FateLemmas.{task_of}
use Rattle.upload_promise.specs.Shown.{CallFailed, KeepsPromise, end_of, start_of}
use Rattle.upload_promise.specs.Sources.{AreLeft}
use Rattle.put_promise.proofs.PromiseLemmas.{uploaded}
use Rattle.run_report.specs.declared.run.Run.{Run}
use Rattle.run_start.specs.Begun.{IsBegun, IsRestOf}
use Rattle.run_start.proofs.RestLemmas.{from_is, recursive_is}
use Rattle.s3_model.specs.declared.faults.BadListing.TheVariants as bad
use Rattle.s3_main.specs.Asked.{dries_in, ends_here, lists_in, needs_in, path_in}
use Rattle.run_task.specs.Uploaded.{HasUploaded, path_of}
use Rattle.s3_main.specs.Plans.{HasPlan, IsFate, IsIdle, Works, warnings_of}
use Rattle.s3_main.specs.Runs.{GoesAs, IfSeen, IsTrue, IsUnasked, IsUnplanned, PlansBy, files_over, has_no_memory, start_for}
use Rattle.s3_main.proofs.AskedLemmas.{memory_ends, path_asked, path_ran}
use Rattle.s3_main.proofs.BeginLemmas.{source_is}
use Rattle.s3_main.proofs.UrlLemmas.{lists, presign_is_no_listing}
use Rattle.upload_promise.proofs.SourceLemmas.{looks_left}

abbrev no_keys : Keys
no_keys = record { id = []; secret = []; token = None; region = [] }

within : (low value high : ℕ) → low ≤ value → value ≤ high → IsWithin low value high
within low value high least most = record { least = least; most = most }

abbrev some_config : Config
some_config = record { threshold = 1; chunk = 1; lanes = 1; queue = 1; buffers = 1; attempts = 1 }

some_valid : IsValidConfig some_config
some_valid = record {
  threshold = within 1 1 (2 ^ 30) (omega arith) (omega arith);
  chunk = within 1 1 (2 ^ 30) (omega arith) (omega arith);
  lanes = within 1 1 1000 (omega arith) (omega arith);
  queue = within 1 1 100000 (omega arith) (omega arith);
  buffers = within 1 1 64 (omega arith) (omega arith);
  attempts = within 1 1 10 (omega arith) (omega arith);
}

no_left : (comes : Fate) → filter_map left_by (warnings_of comes) ≡ []
no_left fate.NotYet = refl
no_left (fate.Refused fault) = refl
no_left (fate.NotAFile path) = refl
no_left (fate.Skipped place why) = refl
no_left fate.LeftOut = refl
no_left (fate.Upload task) = refl

no_untimed : (comes : Fate) → filter_map untimed_by (warnings_of comes) ≡ []
no_untimed fate.NotYet = refl
no_untimed (fate.Refused fault) = refl
no_untimed (fate.NotAFile path) = refl
no_untimed (fate.Skipped place why) = refl
no_untimed fate.LeftOut = refl
no_untimed (fate.Upload task) = refl

-- a run that began nothing may say what it likes of its settings
abbrev some_settings : Settings
some_settings = record { keys = no_keys; config = some_config }

abbrev nowhere : Endpoint
nowhere = record { host = []; port = 0; written = [] }

moment_is_no_talk : (moment : ℕ) → Moment moment ≡ Began → ⊥
moment_is_no_talk moment e = cc

moment_idle : (moment : ℕ) → AreIdle (Moment moment ∷ [])
moment_idle moment = record { no_talk = λ h. moment_is_no_talk moment (only (Moment moment) Began h); no_pause = refl }

-- ---- files that are only looked at

looks_stay : (was now : SeenFiles) (before after : ℕ) → OnlyLooks (Some was) (Some now) before after → AreLeft was now
looks_stay was now before after looks = (
  looks.0,
  ap (λ (all : List FileNote). filter_map call_of (drop (length was.calls) all)) looks.2 ∙ ap (filter_map call_of) (drop-append_seam was.calls looks.1) ∙ none looks.1 looks.3,
)
  where
    none : (calls : List FileNote) → AllByRecursion IsLook calls → filter_map call_of calls ≡ []
    none [] asks = refl
    none (note.Kind asked answer ∷ calls) asks = none calls asks.1
    none (note.Names folder fault ∷ calls) asks = none calls asks.1
    none (other ∷ calls) asks = absurd asks.0

stays : (words : List (List ℕ)) (was now : SeenFiles) (before after : ℕ) → LooksFor words (files_seen (Some was) (Some now) before after) → AreLeft was now
stays words was now before after (inl looks) = looks_left (path_in words) was now looks
stays words was now before after (inr (dry, looks)) = looks_stay was now before after looks

-- ---- outcomes of a plan that is only shown

dry_at : (found : Option Task) (how : Outcome) → option_map (λ (task : Task). outcome.Dry) found ≡ Some how → how ≡ outcome.Dry
dry_at None how e = absurd (none_is_some how e)
dry_at (Some task) how e = sym (some_is outcome.Dry how e)

each_dry : (tasks : List Task) (n : ℕ) (how : Outcome) → slice_get (all_dry tasks) n ≡ Some how → how ≡ outcome.Dry
each_dry tasks n how at_n = dry_at (slice_get tasks n) how (sym (slice_get-map (λ (task : Task). outcome.Dry) tasks n) ∙ at_n)

-- ---- what planning needs

abbrev needs_where : (words : List (List ℕ)) → Bool → List Need
needs_where words lists_it = if lists_it then needs_of (first_of (places_in (arguments_of words))) (is_given Recursive (arguments_of words)) else []

no_needs : (words : List (List ℕ)) (command : Command) (why : Option Fatal) → IsRestOf words command → is_listing command.verb ≡ false → needs_in words why ≡ []
no_needs words command why is none = ap (λ (lists : Bool). needs_where words (lists && not (ends_here why))) (lists words command is ∙ none)

has_needs : (words : List (List ℕ)) (command : Command) (why : Option Fatal) → IsRestOf words command → is_listing command.verb ≡ true → ends_here why ≡ false → needs_in words why ≡ needs_of command.from command.recursive
has_needs words command why is listing goes_on =
    ap (λ (lists : Bool). needs_where words (lists && not (ends_here why))) (lists words command is ∙ listing)
    ∙ ap (λ (ends : Bool). needs_where words (not ends)) goes_on
    ∙ ap (λ (at : Option Place). needs_of at (is_given Recursive (arguments_of words))) (sym (from_is words command is)) ∙ ap (λ (recursive : Bool). needs_of command.from recursive) (sym (recursive_is words command is))

-- a run that ended by what no request shows asks nothing, unless memory ran out
asks_none : (words : List (List ℕ)) (why : Option Fatal) → IsUnasked why → PlansBy words why None []
asks_none words why unasked = elim (ends_so why unasked) [
  | inl memory ↦ (refl, inr memory)
  | inr ends ↦ (refl, inl (nothing (lists_in words) (ends_here why) ends))
]
  where
    ends_so : (end : Option Fatal) → IsUnasked end → (has_no_memory end ≡ true) ⊎ (ends_here end ≡ true)
    ends_so None h = absurd h
    ends_so (Some (fatal.Listing fault)) h = absurd h
    ends_so (Some (fatal.Answer reason)) h = absurd h
    ends_so (Some fatal.Memory) h = inl refl
    ends_so (Some end) h = inr refl

    nothing : (lists_it ends : Bool) → ends ≡ true → needs_where words (lists_it && not ends) ≡ []
    nothing false ends e = refl
    nothing true true e = refl
    nothing true false e = absurd (false_true e)

-- a listing does not end by what no request shows
listing_goes_on : (result : Result Shown Halt) (why : Option Fatal) → EndsListing result why → ends_here why ≡ false
listing_goes_on (Ok told) None ends = refl
listing_goes_on (Ok told) (Some fatal.Memory) ends = refl
listing_goes_on (Ok told) (Some end) ends = absurd ends
listing_goes_on (Err fault) why ends = elim ends [ inl is ↦ ap ends_here is ∙ by fault | inr is ↦ ap ends_here is ]
  where
    by : (h : Halt) → ends_here (Some (fatal_for h)) ≡ false
    by (halt.Listing bad.Memory) = refl
    by (halt.Listing refused) = refl
    by (halt.Answer reason) = refl
    by halt.Memory = refl
    by halt.Stranger = refl

module _ (words : List (List ℕ)) (env : Option SeenEnv) (limits : Limits) (valid : IsValidLimits limits) (wires : ℕ) (has_wire : 1 ≤ wires) (before after : ℕ) (run : Run) (talks : List Talk) (notes : List Note)
    (was now : SeenFiles) (same : AreLeft was now) (memory : run.fatal ≡ Some fatal.Memory → run.status ≡ 70) where
  abbrev path : List ℕ
  path = path_in words

  -- what the run promises
  abbrev Told : Type 0
  Told = IsTrue words env limits wires (files_over was now before after) run (in_first talks) (in_first notes)

  -- what is to be shown, of these lists
  abbrev Keeps : Option ℕ → Endpoint → Settings → List Task → List Outcome → List Event → List Warning → List Talk → List Note → Type 0
  Keeps page endpoint settings tasks outcomes journal warnings of_talks of_notes =
      KeepsPromise Shows HasStatus (text_of endpoint settings.keys) endpoint.host endpoint.port (PlansBy words run.fatal) (CallFailed path now before after tasks)
      (start_for words settings.config limits wires tasks was) (record (end_of run.status outcomes warnings journal of_talks of_notes was now) { refused_page = page }) None ⊥ ⊥

  abbrev PlansNone : Type 0
  PlansNone = PlansBy words run.fatal None []

  nothing : (endpoint : Endpoint) (settings : Settings) → IsValidConfig settings.config → PlansNone → (warnings : List Warning) → filter_map left_by warnings ≡ [] → filter_map untimed_by warnings ≡ []
      → (of_notes : List Note) → AreIdle of_notes → Keeps None endpoint settings [] [] [] warnings [] of_notes
  nothing endpoint settings configured none warnings left untimed of_notes idle =
      dry_keeps Shows HasStatus (text_of endpoint settings.keys) endpoint.host endpoint.port (PlansBy words run.fatal) none settings.config configured limits valid wires has_wire run.status before after path was now same warnings left untimed of_notes idle
      0 (dries_in words) [] no_tasks [] refl (λ n how at_n. absurd (none_is_some how at_n))

  -- the lists of the run are these
  of_run : (page : Option ℕ) (endpoint : Endpoint) (settings : Settings) (tasks : List Task) (outcomes : List Outcome) (journal : List Event) (warnings : List Warning) (of_talks : List Talk) (of_notes : List Note)
      → run.plan.tasks.items ≡ tasks → run.outcomes.items ≡ outcomes → run.journal.items ≡ journal → run.warnings.items ≡ warnings → talks ≡ of_talks → notes ≡ of_notes
      → Keeps page endpoint settings tasks outcomes journal warnings of_talks of_notes
      → Keeps page endpoint settings run.plan.tasks.items run.outcomes.items run.journal.items run.warnings.items talks notes
  of_run page endpoint settings tasks outcomes journal warnings of_talks of_notes t o j w ts ns keeps =
      subst (λ (all : List Task). Keeps page endpoint settings all run.outcomes.items run.journal.items run.warnings.items talks notes) (sym t)
      (subst (λ (all : List Outcome). Keeps page endpoint settings tasks all run.journal.items run.warnings.items talks notes) (sym o)
      (subst (λ (all : List Event). Keeps page endpoint settings tasks outcomes all run.warnings.items talks notes) (sym j)
      (subst (λ (all : List Warning). Keeps page endpoint settings tasks outcomes journal all talks notes) (sym w)
      (subst (λ (all : List Talk). Keeps page endpoint settings tasks outcomes journal warnings all notes) (sym ts)
      (subst (λ (all : List Note). Keeps page endpoint settings tasks outcomes journal warnings of_talks all) (sym ns) keeps)))))

  unplanned_true : IsUnplanned run talks notes → Told
  unplanned_true u = record {
    endpoint = nowhere;
    settings = some_settings;
    cancelled_at = None;
    refused_page = None;
    begun = λ some. absurd (some u.nothing.no_job);
    keeps = of_run None nowhere some_settings [] [] [] [] [] [] u.nothing.no_task u.nothing.no_outcome u.nothing.no_job u.nothing.no_warning u.no_talk u.no_note
        (nothing nowhere some_settings some_valid (asks_none words run.fatal u.nothing.stopped) [] refl refl [] none_idle);
  }

  url_true : IsPresigned words env run talks notes → Told
  url_true u = record {
    endpoint = nowhere;
    settings = some_settings;
    cancelled_at = None;
    refused_page = None;
    begun = λ some. absurd (some u.taskless.no_job);
    keeps = of_run None nowhere some_settings [] [] [] [] [] (Moment u.moment ∷ []) u.taskless.no_task u.taskless.no_outcome u.taskless.no_job u.taskless.no_warning u.no_talk u.noted
        (nothing nowhere some_settings some_valid (refl, inl (no_needs words u.command run.fatal u.begun.rest (presign_is_no_listing u.command.verb u.presign))) [] refl refl (Moment u.moment ∷ []) (moment_idle u.moment));
  }

  module _ (command : Command) (settings : Settings) (begun : IsBegun words env command settings) where
    abbrev endpoint : Endpoint
    endpoint = command.endpoint

    abbrev KeepsBoth : Option ℕ → List Task → List Outcome → List Event → List Warning → List Talk → List Note → Type 0
    KeepsBoth page = Keeps page endpoint settings

    true_by : (page : Option ℕ) → KeepsBoth page run.plan.tasks.items run.outcomes.items run.journal.items run.warnings.items talks notes → Told
    true_by page keeps = record { endpoint = endpoint; settings = settings; cancelled_at = None; refused_page = page; begun = λ some. (command, begun, refl); keeps = keeps }

    none_planned : is_listing command.verb ≡ false → PlansNone
    none_planned none = (refl, inl (no_needs words command run.fatal begun.rest none))

    -- a plan without a task
    idle_true : is_listing command.verb ≡ false → (comes : Fate) → run.plan.tasks.items ≡ [] → run.warnings.items ≡ warnings_of comes → IsIdle run talks notes → Told
    idle_true none comes tasks warnings idle =
        true_by None (of_run None endpoint settings [] [] [] (warnings_of comes) [] [] tasks idle.no_outcome idle.no_job warnings idle.no_talk idle.no_note
        (nothing endpoint settings begun.valid (none_planned none) (warnings_of comes) (no_left comes) (no_untimed comes) [] none_idle))

    -- a plan with its upload
    upload_true : is_listing command.verb ≡ false → command.mode.dryrun ≡ false → (task : Task) → IsFate command settings limits (Some was) (fate.Upload task) → run.plan.tasks.items ≡ task ∷ [] → run.warnings.items ≡ []
        → HasUploaded endpoint settings.keys settings.config.attempts task (Some now) before after run talks notes → Told
    upload_true none carried task fated tasks warnings (how, one, uploads) =
        let of_file = task_of command settings.config.threshold limits.max_object task fated.stands (sym fated.is) in
        let key = planned_key (source_path command) (key_of command) in
        let of_task = planned_task command (source_path command) (bucket_of command) key of_file.size of_file.micros in
        let sent = subst (λ (t : Task). Uploads endpoint settings.keys settings.config.attempts (put_ask t) (Some now) (path_of t) t.size before after run.journal.items how talks notes) of_file.is uploads in
        let stands : shape_at was.store (source_path command) ≡ shape.File of_file.size of_file.micros = fated.seen ∙ of_file.is_file in
        let keeps =
        uploaded endpoint settings.keys (PlansBy words run.fatal) (none_planned none) settings.config begun.valid limits valid wires has_wire run.status before after (source_path command) was now same [] refl refl
        (bucket_of command) key (content_for command (source_path command)) of_file.size of_file.micros of_file.small stands run.journal.items how talks notes sent in
        let here : KeepsBoth None (of_task ∷ []) (how ∷ []) run.journal.items [] talks notes =
        subst (λ (dry : Bool). KeepsPromise Shows HasStatus (text_of endpoint settings.keys) endpoint.host endpoint.port (PlansBy words run.fatal) (CallFailed path now before after (of_task ∷ []))
        (record (start_of settings.config limits wires (of_task ∷ []) was) { dryrun = dry }) (end_of run.status (how ∷ []) [] run.journal.items talks notes was now) None ⊥ ⊥) (sym (dries words command begun.rest none ∙ carried))
        (subst (λ (at : List ℕ). KeepsPromise Shows HasStatus (text_of endpoint settings.keys) endpoint.host endpoint.port (PlansBy words run.fatal) (CallFailed at now before after (of_task ∷ []))
        (start_of settings.config limits wires (of_task ∷ []) was) (end_of run.status (how ∷ []) [] run.journal.items talks notes was now) None ⊥ ⊥) (source_is words command begun.rest) keeps) in
        true_by None (of_run None endpoint settings (of_task ∷ []) (how ∷ []) run.journal.items [] talks notes
        (tasks ∙ ap (λ (t : Task). t ∷ []) of_file.is) one refl warnings refl refl here)

    planned_true : is_listing command.verb ≡ false → command.mode.dryrun ≡ false → (comes : Fate) → IsFate command settings limits (Some was) comes → HasPlan comes run → Works comes endpoint settings.keys settings.config.attempts (Some now) before after run talks notes
        → Told
    planned_true none carried fate.NotYet fated plan works = absurd plan.plan
    planned_true none carried (fate.Refused fault) fated plan works = absurd plan.plan
    planned_true none carried (fate.NotAFile at) fated plan works = idle_true none (fate.NotAFile at) plan.tasks plan.warnings works
    planned_true none carried (fate.Skipped place why) fated plan works = idle_true none (fate.Skipped place why) plan.tasks plan.warnings works
    planned_true none carried fate.LeftOut fated plan works = idle_true none fate.LeftOut plan.tasks plan.warnings works
    planned_true none carried (fate.Upload task) fated plan works = upload_true none carried task fated plan.tasks plan.warnings works

    -- a plan that is only shown
    dry_true : is_offline_dry_run command ≡ true → (files : FilesSeen) → ShowsPlan command limits files run → talks ≡ [] → notes ≡ [] → Told
    dry_true offline files h no_talk no_note =
        let tasks = h.plan.tasks.items in
        let warnings = h.looked ++ h.plan.warnings.items in
        true_by None (of_run None endpoint settings tasks (all_dry tasks) [] warnings [] [] (ap (λ (p : Plan). p.tasks.items) h.shown.plan_is) h.shown.all_shown h.shown.no_job h.shown.warned no_talk no_note
        (dry_keeps Shows HasStatus (text_of endpoint settings.keys) endpoint.host endpoint.port (PlansBy words run.fatal) (none_planned (no_other command offline).1) settings.config
        begun.valid limits valid wires has_wire run.status before after path was now same warnings (none_left command limits files h.looked h.plan h.planned)
        (none_untimed command limits files h.looked h.plan h.planned) [] none_idle limits.max_object (dries_in words) tasks (unasked_tasks command limits files h.looked h.plan h.planned) (all_dry tasks)
        (length-map tasks (λ (task : Task). outcome.Dry)) (λ n how at_n. (each_dry tasks n how at_n, dries_true words command begun.rest offline))))

    -- a listing: its requests are those that planning needs
    shown_true : is_listing command.verb ≡ true → HasNoOutcome run → (result : Result Shown Halt) → ShowsListing command settings run.journal.items result (Some (log_of talks notes)) → EndsListing result run.fatal → Told
    shown_true listing none result shows ends =
        let carrier : SeenCarrier = carrier_with endpoint settings.keys settings.config.attempts in
        let own : AreOwn carrier 0 shows.questions = all_own (λ (wire : Option WireLog). wire) carrier shows.questions _ _ shows.asked in
        let ran = memory_ends (listed_key command.from) command.recursive shows.listed result run.fatal in
        let asks = path_asked carrier shows.questions own (has_no_memory run.fatal ≡ true) command.from command.recursive shows.listed shows.lists (λ e. ap has_no_memory (ran e shows.shown ends)) in
        let needed = has_needs words command run.fatal begun.rest listing (listing_goes_on result run.fatal ends) in
        let all = subst (λ (needs : List Need). AskFor IsRefusedPage (has_no_memory run.fatal ≡ true) asks.0 needs (laws_of shows.questions)) (sym needed) asks.1 in
        true_by asks.0 (of_run asks.0 endpoint settings [] [] run.journal.items [] talks notes none.no_task none.no_outcome refl none.no_warning refl refl
        (subst (λ (dry : Bool). KeepsPromise Shows HasStatus (text_of endpoint settings.keys) endpoint.host endpoint.port (PlansBy words run.fatal) (CallFailed path now before after [])
        (record (start_of settings.config limits wires [] was) { dryrun = dry }) (record (end_of run.status [] [] run.journal.items talks notes was now) { refused_page = asks.0 }) None ⊥ ⊥) (sym (lists_dries words command begun.rest listing))
        (questions_keep settings.config begun.valid limits valid wires has_wire run.status before after path was now same asks.0 run.journal.items talks notes endpoint settings.keys shows.questions shows.asked shows.jobs
        (λ q known out. memory (ran (path_ran carrier shows.questions own command.from command.recursive shows.listed shows.lists q known out) shows.shown ends))
        (needs_in words run.fatal) (has_no_memory run.fatal) all)))

-- in each case, where the files are seen
pub all_true : (limits : Limits) → IsValidLimits limits → (wires : ℕ) → 1 ≤ wires → (run : Run) (talks : List Talk) (notes : List Note) (words : List (List ℕ)) (env : Option SeenEnv) (was now : Option SeenFiles) (before after : ℕ)
    → (run.fatal ≡ Some fatal.Memory → run.status ≡ 70) → LooksFor words (files_seen was now before after) → GoesAs words env limits was now before after run talks notes
    → IfSeen was now (λ w n. IsTrue words env limits wires (files_over w n before after) run (in_first talks) (in_first notes))
all_true limits valid wires some run talks notes words env was None before after memory looks goes = tt
all_true limits valid wires some run talks notes words env None (Some now) before after memory looks goes = tt
all_true limits valid wires some run talks notes words env (Some was) (Some now) before after memory looks (inl u) =
    unplanned_true words env limits valid wires some before after run talks notes was now (stays words was now before after looks) memory u
all_true limits valid wires some run talks notes words env (Some was) (Some now) before after memory looks (inr (inr (inl u))) =
    url_true words env limits valid wires some before after run talks notes was now (stays words was now before after looks) memory u
all_true limits valid wires some run talks notes words env (Some was) (Some now) before after memory looks (inr (inl p)) =
    planned_true words env limits valid wires some before after run talks notes was now (stays words was now before after looks) memory p.command p.settings p.begun p.no_listing p.no_dry_run p.comes p.fated p.plan p.works
all_true limits valid wires some run talks notes words env (Some was) (Some now) before after memory looks (inr (inr (inr (inl l)))) =
    shown_true words env limits valid wires some before after run talks notes was now (stays words was now before after looks) memory l.command l.settings l.begun l.listing l.nothing l.result l.lists l.ends
all_true limits valid wires some run talks notes words env (Some was) (Some now) before after memory looks (inr (inr (inr (inr d)))) =
    dry_true words env limits valid wires some before after run talks notes was now (stays words was now before after looks) memory d.command d.settings d.begun d.offline (files_seen (Some was) (Some now) before after) d.shows d.no_talk d.no_note
