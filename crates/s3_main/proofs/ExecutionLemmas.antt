-- From the fate of a command's file to what the run shows.
use Rattle.std.proofs.Common.{◌≡◌, ◌≤◌, ℕ, List, [], Option, Some, None, IfSome, refl, sym, subst, inl, inr, arith}
use Rattle.result_lines.specs.Tasks.{HasSource}
use Rattle.s3_model.specs.declared.outcomes.Cause.{Cause}
use Rattle.s3_model.specs.declared.outcomes.Cause.TheVariants as cause
use Rattle.s3_model.specs.declared.outcomes.FileCall.TheVariants as call
use Rattle.s3_model.specs.declared.outcomes.Event.{Event}
use Rattle.s3_model.specs.declared.outcomes.Outcome.{Outcome}
use Rattle.s3_model.specs.declared.outcomes.Outcome.TheVariants as outcome
use Rattle.s3_model.specs.declared.faults.WalkFault.TheVariants as walk
use Rattle.s3_model.specs.declared.settings.Limits.{Limits}
use Rattle.s3_model.specs.declared.settings.Settings.{Settings}
use Rattle.s3_model.specs.declared.tasks.Task.{Task}
use Rattle.s3_model.specs.declared.tasks.Warning.{Warning}
use Rattle.s3_model.specs.Talks.{Talk, Note, WireLog}
use Rattle.s3_outside.specs.Files.{SeenFiles}
use Rattle.s3_words.specs.declared.commands.Command.{Command}
use Rattle.upload_plans.specs.Commands.{source_path}
use Rattle.upload_plans.specs.declared.plan.Fate.{Fate}
use Rattle.upload_plans.specs.declared.plan.Fate.TheVariants as fate
use Rattle.upload_plans.proofs.FateLemmas.{large_of, task_of}
use Rattle.job_terms.specs.Gains.{Gains}
use Rattle.upload_promise.specs.Uploads.{IsReadCause, WantsJournal}
use Rattle.job_terms.proofs.GainLemmas.{gains_as, gains_nothing}
use Rattle.small_uploads.specs.Uploading.{Uploads, put_ask}
use Rattle.run_report.specs.declared.run.Fatal.{Fatal}
use Rattle.run_report.specs.declared.run.Fatal.TheVariants as fatal
use Rattle.run_report.specs.declared.run.Run.{Run}
use Rattle.run_report.specs.Taskless.{HasNoTask, MayEnd}
use Rattle.run_task.specs.Uploaded.{MayUpload, MayWant}
use Rattle.s3_main.specs.Executed.{DoesOn, EndsAs, GoesOn, HasNoUpload, IsUnseen}
use Rattle.run_task.specs.Uploaded.{IsUpload, path_of}
use Rattle.s3_main.specs.Plans.{IsFate}
use Rattle.s3_main.specs.Runs.{IsNothingPlanned, IsUnasked, IsUnplanned, StopsPlanning}
use Rattle.run_report.specs.Texts.{HasLine}

none_some : {X : Type 0} (x : X) → None ≡ Some x → ⊥
none_some x e = cc

same_some : {X : Type 0} (x y : X) → Some x ≡ Some y → x ≡ y
same_some x y e = cc

pub if_some : {X : Type 0} (o : Option X) (P : X → Type 0) → ((x : X) → o ≡ Some x → P x) → IfSome o P
if_some None P h = tt
if_some (Some x) P h = h x refl

-- ---- a run without a task

pub nothing : (why : Fatal) (run : Run) → IsUnasked (Some why) → HasNoTask (Some why) [] [] run → IsNothingPlanned run
nothing why run unasked h = record {
  stopped = subst (λ (f : Option Fatal). IsUnasked f) (sym h.fatal) unasked;
  no_task = h.no_task;
  no_skip = h.skips_are;
  no_warning = h.warnings_are;
  no_outcome = h.no_outcome;
  no_job = h.no_job;
}

pub unplanned : (why : Fatal) (run : Run) → IsUnasked (Some why) → HasNoTask (Some why) [] [] run → IsUnplanned run [] []
unplanned why run unasked h = record { nothing = nothing why run unasked h; no_talk = refl; no_note = refl }

-- the one reason for which such a run stops
pub stops_for : (P : Fatal → Type 0) (why : Fatal) (skips warnings : List Warning) (run : Run) → HasNoTask (Some why) skips warnings run → P why → IfSome run.fatal P
stops_for P why skips warnings run h p = subst (λ (f : Option Fatal). IfSome f P) (sym h.fatal) p

goes_on : (P : Fatal → Type 0) (skips warnings : List Warning) (run : Run) → HasNoTask None skips warnings run → IfSome run.fatal P
goes_on P skips warnings run h = subst (λ (f : Option Fatal). IfSome f P) (sym h.fatal) tt

pub may_end : (run : Run) → run.fatal ≡ None → MayEnd run.fatal
may_end run none = subst (λ (f : Option Fatal). MayEnd f) (sym none) tt

unseen_unasked : (before after : ℕ) (why : Fatal) → IsUnseen before after why → IsUnasked (Some why)
unseen_unasked before after fatal.Memory h = tt
unseen_unasked before after (fatal.Walk fault) h = tt
unseen_unasked before after (fatal.Words fault) h = tt
unseen_unasked before after (fatal.Profile fault) h = tt
unseen_unasked before after fatal.EnvRead h = tt
unseen_unasked before after (fatal.Plan fault) h = tt
unseen_unasked before after fatal.NotYet h = tt
unseen_unasked before after (fatal.Listing fault) h = absurd h
unseen_unasked before after (fatal.Answer why) h = absurd h

-- ---- counts of faults since an earlier moment

reason_since : (seen : Option SeenFiles) (path : List ℕ) (size first before after : ℕ) (why : Cause) → first ≤ before → IsReadCause seen path size before after why → IsReadCause seen path size first after why
reason_since seen path size first before after cause.Memory earlier h = tt
reason_since seen path size first before after (cause.Files call.Read) earlier h = omega (arith, h, earlier)
reason_since seen path size first before after (cause.Files call.Create) earlier h = absurd h
reason_since seen path size first before after (cause.Files call.Write) earlier h = absurd h
reason_since seen path size first before after (cause.Files call.Rename) earlier h = absurd h
reason_since seen path size first before after (cause.Files call.Remove) earlier h = absurd h
reason_since seen path size first before after cause.Changed earlier h = h
reason_since seen path size first before after (cause.Service of_op code message) earlier h = absurd h
reason_since seen path size first before after (cause.Lost of_op why) earlier h = absurd h
reason_since seen path size first before after (cause.BadReply of_op) earlier h = absurd h
reason_since seen path size first before after (cause.Blocked length) earlier h = absurd h
reason_since seen path size first before after (cause.Cancelled reason) earlier h = absurd h

wants_since : (first before after : ℕ) (how : Outcome) (journal : List Event) → first ≤ before → WantsJournal before after how journal → WantsJournal first after how journal
wants_since first before after outcome.Done journal earlier h = h
wants_since first before after (outcome.Failed (cause.Service of_op code message)) journal earlier h = h
wants_since first before after (outcome.Failed cause.Memory) journal earlier h = h
wants_since first before after (outcome.Failed (cause.Files call.Read)) journal earlier h = (h.0, let rose = h.1 in omega (arith, rose, earlier))
wants_since first before after (outcome.Failed cause.Changed) journal earlier h = h
wants_since first before after (outcome.Unknown (cause.Service of_op code message)) journal earlier h = h
wants_since first before after (outcome.Unknown (cause.Lost of_op reason)) journal earlier h = h
wants_since first before after (outcome.Unknown cause.Memory) journal earlier h = h
wants_since first before after how journal earlier h = absurd h

module _ (command : Command) (settings : Settings) (limits : Limits) (was now : Option SeenFiles) (first before after : ℕ) (run : Run) where
  abbrev Goes : List Talk → List Note → Type 0
  Goes = GoesOn command settings limits was now first after run

  abbrev Stops : Fatal → Type 0
  Stops = StopsPlanning command settings limits was first after

  unseen : (comes : Fate) → IsFate command settings limits was comes → IsFate command settings limits None comes
  unseen comes h = record { stands = h.stands; seen = tt; is = h.is }

  -- ---- the file is not copied

  idle : (comes : Fate) → HasNoUpload comes → IsFate command settings limits was comes → EndsAs comes run → Goes [] []
  idle comes none fated (inl memory) = inl (unplanned fatal.Memory run tt memory)
  idle fate.NotYet none fated (inr h) = inl (unplanned fatal.NotYet run tt h)
  idle (fate.Refused fault) none fated (inr h) = inl (unplanned (fatal.Plan fault) run tt h)
  idle (fate.NotAFile path) none fated (inr h) =
      inr (
        fate.NotAFile path,
        fated,
        record { ends = may_end run h.fatal; plan = tt; tasks = h.no_task; skips = h.skips_are; warnings = h.warnings_are },
        record { no_outcome = h.no_outcome; no_job = h.no_job; no_talk = refl; no_note = refl },
      )
  idle (fate.Skipped place why) none fated (inr h) =
      inr (
        fate.Skipped place why,
        fated,
        record { ends = may_end run h.fatal; plan = tt; tasks = h.no_task; skips = h.skips_are; warnings = h.warnings_are },
        record { no_outcome = h.no_outcome; no_job = h.no_job; no_talk = refl; no_note = refl },
      )
  idle fate.LeftOut none fated (inr h) =
      inr (
        fate.LeftOut,
        fated,
        record { ends = may_end run h.fatal; plan = tt; tasks = h.no_task; skips = h.skips_are; warnings = h.warnings_are },
        record { no_outcome = h.no_outcome; no_job = h.no_job; no_talk = refl; no_note = refl },
      )
  idle (fate.Upload task) none fated (inr h) = absurd none

  pub ended_goes : (seen : Option WireLog) (comes : Fate) → HasNoUpload comes → IsFate command settings limits was comes → EndsAs comes run → Gains seen seen Goes
  ended_goes seen comes none fated ends = gains_nothing Goes seen (idle comes none fated ends)

  pub ended_does : (comes : Fate) → HasNoUpload comes → IsFate command settings limits was comes → EndsAs comes run → DoesOn command settings limits first after run
  ended_does comes none fated (inl memory) = inl (nothing fatal.Memory run tt memory)
  ended_does fate.NotYet none fated (inr h) = inl (nothing fatal.NotYet run tt h)
  ended_does (fate.Refused fault) none fated (inr h) = inl (nothing (fatal.Plan fault) run tt h)
  ended_does (fate.NotAFile path) none fated (inr h) =
      inr (fate.NotAFile path, unseen (fate.NotAFile path) fated, record { ends = may_end run h.fatal; plan = tt; tasks = h.no_task; skips = h.skips_are; warnings = h.warnings_are }, (h.no_outcome, h.no_job))
  ended_does (fate.Skipped place why) none fated (inr h) =
      inr (fate.Skipped place why, unseen (fate.Skipped place why) fated, record { ends = may_end run h.fatal; plan = tt; tasks = h.no_task; skips = h.skips_are; warnings = h.warnings_are }, (h.no_outcome, h.no_job))
  ended_does fate.LeftOut none fated (inr h) =
      inr (fate.LeftOut, unseen fate.LeftOut fated, record { ends = may_end run h.fatal; plan = tt; tasks = h.no_task; skips = h.skips_are; warnings = h.warnings_are }, (h.no_outcome, h.no_job))
  ended_does (fate.Upload task) none fated (inr h) = absurd none

  pub ended_stops : (comes : Fate) → HasNoUpload comes → IsFate command settings limits was comes → EndsAs comes run → IfSome run.fatal Stops
  ended_stops comes none fated (inl memory) = stops_for Stops fatal.Memory [] [] run memory tt
  ended_stops fate.NotYet none fated (inr h) =
      stops_for Stops fatal.NotYet [] [] run h (fated.stands, fated.seen, large_of command limits.max_object settings.config.threshold fated.stands fated.is)
  ended_stops (fate.Refused fault) none fated (inr h) = stops_for Stops (fatal.Plan fault) [] [] run h fated
  ended_stops (fate.NotAFile path) none fated (inr h) = goes_on Stops _ _ run h
  ended_stops (fate.Skipped place why) none fated (inr h) = goes_on Stops _ _ run h
  ended_stops fate.LeftOut none fated (inr h) = goes_on Stops _ _ run h
  ended_stops (fate.Upload task) none fated (inr h) = absurd none

  -- ---- the file was not seen

  pub unseen_goes : (seen : Option WireLog) (why : Fatal) → HasNoTask (Some why) [] [] run → IsUnseen first after why → Gains seen seen Goes
  unseen_goes seen why h is = gains_nothing Goes seen (inl (unplanned why run (unseen_unasked first after why is) h))

  pub unseen_does : (why : Fatal) → HasNoTask (Some why) [] [] run → IsUnseen first after why → DoesOn command settings limits first after run
  unseen_does why h is = inl (nothing why run (unseen_unasked first after why is) h)

  unseen_is : (why : Fatal) → IsUnseen first after why → Stops why
  unseen_is fatal.Memory h = tt
  unseen_is (fatal.Walk walk.Files) h = h
  unseen_is (fatal.Walk walk.TooDeep) h = absurd h
  unseen_is (fatal.Walk walk.TooMany) h = absurd h
  unseen_is (fatal.Walk walk.Memory) h = absurd h
  unseen_is (fatal.Words fault) h = absurd h
  unseen_is (fatal.Profile fault) h = absurd h
  unseen_is fatal.EnvRead h = absurd h
  unseen_is (fatal.Plan fault) h = absurd h
  unseen_is (fatal.Listing fault) h = absurd h
  unseen_is (fatal.Answer why) h = absurd h
  unseen_is fatal.NotYet h = absurd h

  pub unseen_stops : (why : Fatal) → HasNoTask (Some why) [] [] run → IsUnseen first after why → IfSome run.fatal Stops
  unseen_stops why h is = stops_for Stops why [] [] run h (unseen_is why is)

  -- ---- the file is copied

  module _ (task : Task) (earlier : first ≤ before) where
    since : (how : Outcome) (talks : List Talk) (notes : List Note) → Uploads command.endpoint settings.keys settings.config.attempts (put_ask task) now (path_of task) task.size before after run.journal.items how talks notes
        → Uploads command.endpoint settings.keys settings.config.attempts (put_ask task) now (path_of task) task.size first after run.journal.items how talks notes
    since how talks notes (inl u) =
        inl (record { why = u.why; failed = u.failed; reason = reason_since now (path_of task) task.size first before after u.why earlier u.reason; no_job = u.no_job; no_talk = u.no_talk; no_note = u.no_note })
    since how talks notes (inr g) = inr g

    uploaded : (talks : List Talk) (notes : List Note) → IsFate command settings limits was (fate.Upload task) → MayUpload command.endpoint settings.keys settings.config.attempts task now before after run talks notes → Goes talks notes
    uploaded talks notes fated (inl stopped) = inl (record { nothing = nothing fatal.Memory run tt stopped.stopped; no_talk = stopped.no_talk; no_note = stopped.no_note })
    uploaded talks notes fated (inr (has, (how, one, uploads))) =
        inr (fate.Upload task, fated, record { ends = may_end run has.fatal; plan = tt; tasks = has.one_task; skips = has.no_skip; warnings = has.no_warning }, (how, one, since how talks notes uploads))

    pub uploaded_goes : (seen last : Option WireLog) → IsFate command settings limits was (fate.Upload task) → Gains seen last (MayUpload command.endpoint settings.keys settings.config.attempts task now before after run) → Gains seen last Goes
    uploaded_goes seen last fated gains = gains_as (MayUpload command.endpoint settings.keys settings.config.attempts task now before after run) Goes (λ talks notes may. uploaded talks notes fated may) seen last gains

    pub uploaded_does : IsFate command settings limits was (fate.Upload task) → MayWant task before after run → DoesOn command settings limits first after run
    uploaded_does fated (inl memory) = inl (nothing fatal.Memory run tt memory)
    uploaded_does fated (inr (has, (how, one, wants))) =
        inr (
          fate.Upload task,
          unseen (fate.Upload task) fated,
          record { ends = may_end run has.fatal; plan = tt; tasks = has.one_task; skips = has.no_skip; warnings = has.no_warning },
          (how, one, wants_since first before after how run.journal.items earlier wants),
        )

    pub uploaded_stops : MayWant task before after run → IfSome run.fatal Stops
    uploaded_stops (inl memory) = stops_for Stops fatal.Memory [] [] run memory tt
    uploaded_stops (inr (has, done)) = subst (λ (f : Option Fatal). IfSome f Stops) (sym has.fatal) tt

-- what is planned of a small file is an upload
pub is_upload : (command : Command) (settings : Settings) (limits : Limits) (was : Option SeenFiles) (task : Task) → IsFate command settings limits was (fate.Upload task)
    → IsUpload task × HasSource task × (path_of task ≡ source_path command)
is_upload command settings limits was task fated =
    let of_file = task_of command settings.config.threshold limits.max_object task fated.stands (sym fated.is) in
    subst (λ (t : Task). IsUpload t × HasSource t × (path_of t ≡ source_path command)) (sym of_file.is) (record { source = tt; put = record { kind_is = refl; replaces = refl; to_object = tt } }, (λ other e. none_some _ (sym e)), refl)

pub unseen_line : (before after : ℕ) (why : Fatal) → IsUnseen before after why → HasLine why
unseen_line before after fatal.Memory h = tt
unseen_line before after (fatal.Walk walk.Files) h = tt
unseen_line before after (fatal.Walk walk.TooDeep) h = absurd h
unseen_line before after (fatal.Walk walk.TooMany) h = absurd h
unseen_line before after (fatal.Walk walk.Memory) h = absurd h
unseen_line before after (fatal.Words fault) h = absurd h
unseen_line before after (fatal.Profile fault) h = absurd h
unseen_line before after fatal.EnvRead h = absurd h
unseen_line before after (fatal.Plan fault) h = absurd h
unseen_line before after (fatal.Listing fault) h = absurd h
unseen_line before after (fatal.Answer why) h = absurd h
unseen_line before after fatal.NotYet h = absurd h
