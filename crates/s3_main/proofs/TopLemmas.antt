-- A run that was reported.
use Rattle.std.proofs.Common.{Bool, false, ◌≡◌, ◌∙◌, ◌++◌, flat_map, ℕ, List, [], Option, Some, None, Result, Ok, Err, IfSome, OnErr, refl, sym, ap, subst, inl, inr, is_some}
use Rattle.run_report.specs.declared.printout.Printout.{Printout}
use Rattle.s3_model.specs.declared.list.OutOfMemory.{OutOfMemory}
use Rattle.s3_model.specs.declared.outcomes.Event.{Event}
use Rattle.s3_model.specs.declared.places.Endpoint.{Endpoint}
use Rattle.s3_model.specs.declared.settings.Keys.{Keys}
use Rattle.s3_model.specs.declared.settings.Limits.{Limits}
use Rattle.s3_model.specs.Talks.{Talk, Note, WireLog}
use Rattle.s3_outside.specs.Env.{SeenEnv}
use Rattle.s3_outside.specs.Files.{SeenFiles}
use Rattle.upload_plans.specs.declared.plan.Fate.{Fate}
use Rattle.upload_plans.specs.declared.plan.Fate.TheVariants as fate
use Rattle.upload_promise.specs.Uploads.{WantsJournal}
use Rattle.small_uploads.specs.Uploading.{Uploads, put_ask}
use Rattle.run_report.specs.declared.run.Fatal.{Fatal}
use Rattle.run_report.specs.declared.run.Fatal.TheVariants as fatal
use Rattle.run_report.specs.declared.run.Run.{Run}
use Rattle.job_terms.proofs.GainLemmas.{gains_as}
use Rattle.s3_model.specs.declared.outcomes.Outcome.{Outcome}
use Rattle.s3_model.specs.declared.tasks.Warning.{Warning}
use Rattle.s3_words.specs.declared.commands.Command.{Command}
use Rattle.dry_runs.specs.Found.{FilesSeen, files_seen}
use Rattle.dry_runs.specs.Runs.{ShowsPlan}
use Rattle.s3_main.specs.Asked.{lists_in}
use Rattle.s3_main.specs.Executed.{HasTextOf, HasStatusOf}
use Rattle.planning_questions.specs.declared.halt.Halt.{Halt}
use Rattle.question_runs.specs.Asked.{log_of}
use Rattle.service_listings.specs.declared.listing.Shown.{Shown}
use Rattle.run_show.specs.Listings.{HasNoOutcome, ShowsListing}
use Rattle.s3_main.specs.Listings.{EndsListing, IsListing}
use Rattle.s3_main.specs.Own.{IsOwn, IsRows, Own, nothing_own}
use Rattle.s3_main.specs.Urls.{IsTaskless}
use Rattle.run_report.specs.Taskless.{MayEnd}
use Rattle.run_task.specs.Uploaded.{path_of}
use Rattle.s3_main.specs.Plans.{HasPlan, IsIdle, Wants, Works}
use Rattle.s3_main.specs.Runs.{EndsAsShown, GoesAs, IsNothingPlanned, IsPrinted, IsUnasked, StopsFor, Undertakes}
use Rattle.run_report.specs.Texts.{AreOfTasks, HasWarned, Warned, err_lines, err_of, err_text, fatal_after, mode_in, opening_text, out_lines, out_of, out_text}
use Rattle.run_report.proofs.PrintLemmas.{only_memory}
use Rattle.run_report.specs.Statuses.{EndsWith, run_status, status_by}
use Rattle.run_report.specs.Printed.{IsPrintedAs, Output}

-- ---- statuses

alike : (a b missed : Bool) (why : Option Fatal) (outcomes : List Outcome) (warnings : List Warning) → HasStatusOf b a why → status_by a missed why outcomes warnings ≡ status_by b missed why outcomes warnings
alike a b missed None outcomes warnings h = refl
alike a b missed (Some why) outcomes warnings h = sym h

ends_alike : (OutputFailed : Type 0) (a b missed : Bool) (run : Run) → HasStatusOf b a run.fatal → EndsWith a missed run OutputFailed → EndsWith b missed run OutputFailed
ends_alike OutputFailed a b missed run h (inl is) = inl (is ∙ alike a b missed run.fatal run.outcomes.items run.warnings.items h)
ends_alike OutputFailed a b missed run h (inr failed) = inr failed

-- where memory ran out nothing else decides the status
memory_by : (a missed : Bool) (run : Run) → run.fatal ≡ Some fatal.Memory → run_status a missed run ≡ 70
memory_by a missed run is = ap (λ (f : Option Fatal). status_by a missed f run.outcomes.items run.warnings.items) is

memory_ends : (OutputFailed : Type 0) (a b missed other : Bool) (run : Run) → run.fatal ≡ Some fatal.Memory → EndsWith a missed run OutputFailed → EndsWith b other run OutputFailed
memory_ends OutputFailed a b missed other run memory (inl is) = inl (is ∙ memory_by a missed run memory ∙ sym (memory_by b other run memory))
memory_ends OutputFailed a b missed other run memory (inr failed) = absurd (failed.2 memory)

pub memory_status : (OutputFailed : Type 0) (a missed : Bool) (run : Run) → EndsWith a missed run OutputFailed → run.fatal ≡ Some fatal.Memory → run.status ≡ 70
memory_status OutputFailed a missed run (inl is) memory = is ∙ memory_by a missed run memory
memory_status OutputFailed a missed run (inr failed) memory = absurd (failed.2 memory)

-- ---- a run that was reported

stays_stopped : (line : Result Printout OutOfMemory) (why : Option Fatal) → IsUnasked why → IsUnasked (fatal_after line why)
stays_stopped (Ok line) why is = is
stays_stopped (Err memory) why is = tt

still_ends : (line : Result Printout OutOfMemory) (why : Option Fatal) → MayEnd why → MayEnd (fatal_after line why)
still_ends (Ok line) why h = h
still_ends (Err memory) why h = tt

still_listed : (line : Result Printout OutOfMemory) (result : Result Shown Halt) (why : Option Fatal) → EndsListing result why → EndsListing result (fatal_after line why)
still_listed (Ok line) result why h = h
still_listed (Err memory) (Ok shown) why h = tt
still_listed (Err memory) (Err ends) why h = inr refl

-- it has the plan, the outcomes, the journal and the warnings of the run that worked
pub record IsReported (work run : Run) (line : Result Printout OutOfMemory) : Type 0 where
  pub plan : run.plan ≡ work.plan
  pub outcomes : run.outcomes ≡ work.outcomes
  pub journal : run.journal ≡ work.journal
  pub warnings : run.warnings ≡ work.warnings
  pub fatal : run.fatal ≡ fatal_after line work.fatal

module _ (work run : Run) (line : Result Printout OutOfMemory) (r : IsReported work run line) where
  nothing : IsNothingPlanned work → IsNothingPlanned run
  nothing n = record {
    stopped = subst (λ (f : Option Fatal). IsUnasked f) (sym r.fatal) (stays_stopped line work.fatal n.stopped);
    no_task = ap (λ p. p.tasks.items) r.plan ∙ n.no_task;
    no_skip = ap (λ p. p.warnings.items) r.plan ∙ n.no_skip;
    no_warning = ap (λ w. w.items) r.warnings ∙ n.no_warning;
    no_outcome = ap (λ o. o.items) r.outcomes ∙ n.no_outcome;
    no_job = ap (λ j. j.items) r.journal ∙ n.no_job;
  }

  ends : MayEnd work.fatal → MayEnd run.fatal
  ends h = subst (λ (f : Option Fatal). MayEnd f) (sym r.fatal) (still_ends line work.fatal h)

  taskless : IsTaskless work → IsTaskless run
  taskless n = record {
    ends = ends n.ends;
    no_task = ap (λ p. p.tasks.items) r.plan ∙ n.no_task;
    no_skip = ap (λ p. p.warnings.items) r.plan ∙ n.no_skip;
    no_warning = ap (λ w. w.items) r.warnings ∙ n.no_warning;
    no_outcome = ap (λ o. o.items) r.outcomes ∙ n.no_outcome;
    no_job = ap (λ j. j.items) r.journal ∙ n.no_job;
  }

  no_outcome : HasNoOutcome work → HasNoOutcome run
  no_outcome n = record {
    no_task = ap (λ p. p.tasks.items) r.plan ∙ n.no_task;
    no_skip = ap (λ p. p.warnings.items) r.plan ∙ n.no_skip;
    no_warning = ap (λ w. w.items) r.warnings ∙ n.no_warning;
    no_outcome = ap (λ o. o.items) r.outcomes ∙ n.no_outcome;
  }

  listed : (words : List (List ℕ)) (env : Option SeenEnv) (log : Option WireLog) → IsListing words env work log → IsListing words env run log
  listed words env log l = record {
    command = l.command;
    settings = l.settings;
    begun = l.begun;
    listing = l.listing;
    nothing = no_outcome l.nothing;
    result = l.result;
    lists = subst (λ (events : List Event). ShowsListing l.command l.settings events l.result log) (sym (ap (λ j. j.items) r.journal)) l.lists;
    ends = subst (λ (f : Option Fatal). EndsListing l.result f) (sym r.fatal) (still_listed line l.result work.fatal l.ends);
  }

  shows_plan : (command : Command) (limits : Limits) (files : FilesSeen) → ShowsPlan command limits files work → ShowsPlan command limits files run
  shows_plan command limits files h = record {
    looked = h.looked;
    plan = h.plan;
    planned = h.planned;
    shown = record {
      ends = ends h.shown.ends;
      plan_is = r.plan ∙ h.shown.plan_is;
      warned = ap (λ w. w.items) r.warnings ∙ h.shown.warned;
      all_shown = ap (λ o. o.items) r.outcomes ∙ h.shown.all_shown;
      no_job = ap (λ j. j.items) r.journal ∙ h.shown.no_job;
    };
  }

  has_plan : (comes : Fate) → HasPlan comes work → HasPlan comes run
  has_plan comes h = record {
    ends = ends h.ends;
    plan = h.plan;
    tasks = ap (λ p. p.tasks.items) r.plan ∙ h.tasks;
    skips = ap (λ p. p.warnings.items) r.plan ∙ h.skips;
    warnings = ap (λ w. w.items) r.warnings ∙ h.warnings;
  }

  module _ (endpoint : Endpoint) (keys : Keys) (attempts : ℕ) (now : Option SeenFiles) (before after : ℕ) (talks : List Talk) (notes : List Note) where
    idle : IsIdle work talks notes → IsIdle run talks notes
    idle h = record {
      no_outcome = ap (λ o. o.items) r.outcomes ∙ h.no_outcome;
      no_job = ap (λ j. j.items) r.journal ∙ h.no_job;
      no_talk = h.no_talk;
      no_note = h.no_note;
    }

    works : (comes : Fate) → Works comes endpoint keys attempts now before after work talks notes → Works comes endpoint keys attempts now before after run talks notes
    works (fate.Upload task) (how, one, uploads) = (
      how,
      ap (λ o. o.items) r.outcomes ∙ one,
      subst (λ (events : List Event). Uploads endpoint keys attempts (put_ask task) now (path_of task) task.size before after events how talks notes) (sym (ap (λ j. j.items) r.journal)) uploads,
    )
    works fate.NotYet h = idle h
    works (fate.Refused fault) h = idle h
    works (fate.NotAFile path) h = idle h
    works (fate.Skipped place why) h = idle h
    works fate.LeftOut h = idle h

  wants : (before after : ℕ) (comes : Fate) → Wants comes before after work → Wants comes before after run
  wants before after (fate.Upload task) (how, one, jobs) = (
    how,
    ap (λ o. o.items) r.outcomes ∙ one,
    subst (λ (events : List Event). WantsJournal before after how events) (sym (ap (λ j. j.items) r.journal)) jobs,
  )
  wants before after fate.NotYet h = (ap (λ o. o.items) r.outcomes ∙ h.0, ap (λ j. j.items) r.journal ∙ h.1)
  wants before after (fate.Refused fault) h = (ap (λ o. o.items) r.outcomes ∙ h.0, ap (λ j. j.items) r.journal ∙ h.1)
  wants before after (fate.NotAFile path) h = (ap (λ o. o.items) r.outcomes ∙ h.0, ap (λ j. j.items) r.journal ∙ h.1)
  wants before after (fate.Skipped place why) h = (ap (λ o. o.items) r.outcomes ∙ h.0, ap (λ j. j.items) r.journal ∙ h.1)
  wants before after fate.LeftOut h = (ap (λ o. o.items) r.outcomes ∙ h.0, ap (λ j. j.items) r.journal ∙ h.1)

  module _ (words : List (List ℕ)) (env : Option SeenEnv) (env_before env_after : ℕ) (limits : Limits) (was now : Option SeenFiles) (before after : ℕ) where
    pub goes : (talks : List Talk) (notes : List Note) → GoesAs words env limits was now before after work talks notes → GoesAs words env limits was now before after run talks notes
    goes talks notes (inl u) = inl (record { nothing = nothing u.nothing; no_talk = u.no_talk; no_note = u.no_note })
    goes talks notes (inr (inr (inr (inl l)))) = inr (inr (inr (inl (listed words env (Some (log_of talks notes)) l))))
    goes talks notes (inr (inr (inr (inr d)))) = inr (inr (inr (inr (record {
      command = d.command;
      settings = d.settings;
      begun = d.begun;
      offline = d.offline;
      shows = shows_plan d.command limits (files_seen was now before after) d.shows;
      no_talk = d.no_talk;
      no_note = d.no_note;
    }))))
    goes talks notes (inr (inr (inl u))) = inr (inr (inl (record {
      command = u.command;
      settings = u.settings;
      begun = u.begun;
      presign = u.presign;
      taskless = taskless u.taskless;
      moment = u.moment;
      no_talk = u.no_talk;
      noted = u.noted;
    })))
    goes talks notes (inr (inl p)) = inr (inl (record {
      command = p.command;
      settings = p.settings;
      comes = p.comes;
      begun = p.begun;
      copies = p.copies;
      no_listing = p.no_listing;
      no_dry_run = p.no_dry_run;
      fated = p.fated;
      plan = has_plan p.comes p.plan;
      works = works p.command.endpoint p.settings.keys p.settings.config.attempts now before after talks notes p.comes p.works;
    }))

    pub does : Undertakes words limits before after work → Undertakes words limits before after run
    does (inl n) = inl (nothing n)
    does (inr (inr (inr (inl l)))) = inr (inr (inr (inl (listed words None None l))))
    does (inr (inr (inr (inr d)))) = inr (inr (inr (inr (record { command = d.command; rest = d.rest; offline = d.offline; shows = shows_plan d.command limits (files_seen None None 0 0) d.shows }))))
    does (inr (inr (inl u))) = inr (inr (inl (record { command = u.command; rest = u.rest; presign = u.presign; taskless = taskless u.taskless })))
    does (inr (inl d)) = inr (inl (record {
      command = d.command;
      settings = d.settings;
      comes = d.comes;
      rest = d.rest;
      copies = d.copies;
      no_listing = d.no_listing;
      no_dry_run = d.no_dry_run;
      fated = d.fated;
      plan = has_plan d.comes d.plan;
      wants = wants before after d.comes d.wants;
    }))

    abbrev Stops : Fatal → Type 0
    Stops = StopsFor words env env_before env_after limits (files_seen was now before after)

    stops_after : (of_line : Result Printout OutOfMemory) (why : Option Fatal) → IfSome why Stops → IfSome (fatal_after of_line why) Stops
    stops_after (Ok of_line) why h = h
    stops_after (Err memory) why h = inl tt

    pub stops : IfSome work.fatal Stops → IfSome run.fatal Stops
    stops h = subst (λ (f : Option Fatal). IfSome f Stops) (sym r.fatal) (stops_after line work.fatal h)

  -- ---- what was printed

  out_text_is : (words : List (List ℕ)) (own : List ℕ) → out_text words own work ≡ out_text words own run
  out_text_is words own = subst (λ p. out_text words own work ≡ own ++ out_lines (mode_in words) p.tasks.items run.outcomes.items) (sym r.plan)
      (subst (λ o. out_text words own work ≡ own ++ out_lines (mode_in words) work.plan.tasks.items o.items) (sym r.outcomes) refl)

  err_text_is : (words : List (List ℕ)) (warned : Warned) → run.fatal ≡ work.fatal → err_text words warned work ≡ err_text words warned run
  err_text_is words warned same =
      subst (λ p. err_text words warned work ≡ opening_text words (warned.looked ++ p.warnings.items) run.fatal ++ err_lines (mode_in words) p.tasks.items run.outcomes.items warned.own) (sym r.plan)
      (subst (λ o. err_text words warned work ≡ opening_text words (warned.looked ++ work.plan.warnings.items) run.fatal ++ err_lines (mode_in words) work.plan.tasks.items o.items warned.own) (sym r.outcomes)
      (subst (λ (f : Option Fatal). err_text words warned work ≡ opening_text words (warned.looked ++ work.plan.warnings.items) f ++ err_lines (mode_in words) work.plan.tasks.items work.outcomes.items warned.own) (sym same) refl))

  warns : (warned : Warned) → HasWarned work warned → HasWarned run warned
  warns warned h = record {
    all = ap (λ w. w.items) r.warnings ∙ (h.all ∙ ap (λ p. (warned.looked ++ p.warnings.items) ++ flat_map (λ own. own) warned.own) (sym r.plan));
    looked = h.looked;
    own = subst (λ p. AreOfTasks p.tasks.items warned.own) (sym r.plan) h.own;
  }

  module _ (words : List (List ℕ)) (env : Option SeenEnv) (before after : Option WireLog) (to_out to_err : Output) where
    abbrev Shows : List ℕ → List ℕ → Type 0
    Shows out err = IsPrintedAs run.status out err to_out to_err

    rows_on : (seen : Option SeenEnv) (own : Own) (log : Option WireLog) → IsRows words seen work own log → IsRows words seen run own log
    rows_on seen own log h = record {
      command = h.command;
      settings = h.settings;
      begun = h.begun;
      listing = h.listing;
      shown = h.shown;
      lists = subst (λ (events : List Event). ShowsListing h.command h.settings events (Ok h.shown) log) (sym (ap (λ j. j.items) r.journal)) h.lists;
      text = h.text;
      missed = h.missed;
    }

    owns : (own : Own) → run.fatal ≡ work.fatal → IsOwn words env before after work own → IsOwn words env before after run own
    owns own same (inl nothing_shown) = inl nothing_shown
    owns own same (inr (inl url)) = inr (inl (url.0, ends url.1, url.2, url.3))
    owns own same (inr (inr (inl rows))) = inr (inr (inl (
      rows.0,
      ends rows.1,
      gains_as (λ talks notes. IsRows words env work own (Some (log_of talks notes))) (λ talks notes. IsRows words env run own (Some (log_of talks notes)))
          (λ talks notes h. rows_on env own (Some (log_of talks notes)) h) before after rows.2,
      rows_on None own None rows.3,
    )))
    owns own same (inr (inr (inr stopped))) = inr (inr (inr (ap is_some same ∙ stopped.0, stopped.1)))

    -- nothing is shown of a run that ended early
    ended_owns : (memory : Fatal) → run.fatal ≡ Some memory → IsOwn words env before after run nothing_own
    ended_owns memory is = inr (inr (inr (ap is_some is, refl)))

    printed_as : (missed : Bool) (of_text : Result Printout OutOfMemory) → HasTextOf words env before after work of_text missed → run.fatal ≡ fatal_after of_text work.fatal → OnErr of_text (run.status ≡ 70)
        → Shows (out_of of_text) (err_of of_text) → IsPrinted words env before after run to_out to_err
    printed_as missed (Err memory) (own, of_own, h, is) same ends shown =
        (nothing_own, h.warned, ended_owns fatal.Memory same, warns h.warned h.warnings, only_memory run.status (out_text words [] run) (err_text words h.warned run) to_out to_err ends shown)
    printed_as missed (Ok said) (own, of_own, h, is) same ends shown =
        let out : said.out ≡ out_text words own.text run = h.texts.0 ∙ out_text_is words own.text in
        let err : said.err ≡ err_text words h.warned run = h.texts.1 ∙ err_text_is words h.warned same in
        (own, h.warned, owns own same of_own, warns h.warned h.warnings, subst (λ (text : List ℕ). Shows text (err_text words h.warned run)) out (subst (λ (text : List ℕ). Shows said.out text) err shown))

    pub printed : (missed : Bool) → HasTextOf words env before after work line missed → OnErr line (run.status ≡ 70) → Shows (out_of line) (err_of line) → IsPrinted words env before after run to_out to_err
    printed missed h ends shown = printed_as missed line h r.fatal ends shown

    -- ---- the status

    ends_by : (OutputFailed : Type 0) (lists missed : Bool) (of_line : Result Printout OutOfMemory) → HasTextOf words env before after work of_line missed → HasStatusOf (lists_in words) lists work.fatal
        → run.fatal ≡ fatal_after of_line work.fatal → EndsWith lists missed run OutputFailed → EndsAsShown words env before after run OutputFailed
    ends_by OutputFailed lists missed (Err memory) h status same ends = (nothing_own, ended_owns fatal.Memory same, memory_ends OutputFailed lists (lists_in words) missed false run same ends)
    ends_by OutputFailed lists missed (Ok of_line) (own, of_own, h, is) status same ends =
        let with_missed = subst (λ (m : Bool). EndsWith lists m run OutputFailed) (sym is) ends in
        (own, owns own same of_own, ends_alike OutputFailed lists (lists_in words) own.missed run (subst (λ (f : Option Fatal). HasStatusOf (lists_in words) lists f) (sym same) status) with_missed)

    pub ends_as : (OutputFailed : Type 0) (lists missed : Bool) → HasTextOf words env before after work line missed → HasStatusOf (lists_in words) lists work.fatal → EndsWith lists missed run OutputFailed
        → EndsAsShown words env before after run OutputFailed
    ends_as OutputFailed lists missed h status ends = ends_by OutputFailed lists missed line h status r.fatal ends
