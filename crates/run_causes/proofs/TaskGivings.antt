-- The giving of a task's job: where it came back, and what its history says of it.
use Rattle.std.proofs.Common.{◌≡◌, ◌≢◌, ◌∙◌, ◌++◌, ◌<◌, ◌≤◌, ℕ, true, false, List, ◌∷◌, Option, Some, None, Contains, refl, sym, subst, ap, inl, inr, arith, length}
use Rattle.std.proofs.lemmas.Bool.{and_parts, ltb-true}
use Rattle.std.proofs.lemmas.List.{length-map}
use Rattle.std.specs.Prelude.{IfSome, IsSome, is_some, nat_lt}
use Rattle.answer_classes.specs.Showing.{Shows}
use Rattle.job_terms.specs.Attempts.{mark_of}
use Rattle.job_terms.specs.Dispatches.{last_of}
use Rattle.jobs.specs.Endings.{SeenCarried}
use Rattle.jobs.specs.Holders.{Holder}
use Rattle.jobs.specs.declared.ending.Ending.{Ending}
use Rattle.jobs.specs.declared.ending.Ending.TheVariants as ending
use Rattle.lane_jobs.specs.Lanes.{Ends, class_ending, reason_of}
use Rattle.lane_laws.specs.Runs.{Giving, IsCutShort}
use Rattle.manager_moves.specs.Runs.{Sent, share}
use Rattle.s3_model.specs.Classes.{is_tried_again}
use Rattle.s3_model.specs.declared.answers.Class.{Class}
use Rattle.s3_model.specs.declared.answers.Class.TheVariants as class
use Rattle.s3_model.specs.declared.outcomes.Reason.{Reason}
use Rattle.s3_model.specs.declared.requests.Op.{Op}
use Rattle.s3_model.specs.declared.tries.Mark.{Mark}
use Rattle.shared_lemmas.proofs.Clashes.{none_is_some}
use Rattle.shared_lemmas.proofs.Members.{contains_of, has, has-map}
use Rattle.task_acts.specs.declared.acts.Stage.{Stage}
use Rattle.task_acts.specs.declared.acts.Stage.TheVariants as at
use Rattle.task_acts.specs.declared.work.Work.{Work}
use Rattle.task_acts.specs.Failures.{is_cut_short, is_unfinished}
use Rattle.task_acts.specs.Histories.{Came, History, sent}
use Rattle.task_acts.specs.Kept.{IsHistory, tries_before}
use Rattle.task_acts.specs.Stages.{has_ended, is_out, stage}
use Rattle.task_progress.proofs.Endings.{no}
use Rattle.task_progress.proofs.Progress.{both, less_is}
use Rattle.task_schedule.proofs.Cutting.{holds_then}
use Rattle.task_schedule.proofs.Joined.{HasWork, back_at, has_work, its_id}
use Rattle.task_schedule.proofs.SentJobs.{IsAt, at_of}
use Rattle.task_schedule.specs.Journals.{IsBack, IsRunOf}
use Rattle.trace_laws.specs.Journals.{IsGivingOf}
use Rattle.run_causes.proofs.Behind.{back_there, ds, events, is_run_of, planned, show_one}
use Rattle.run_causes.proofs.Tries.{few_before}
use Rattle.run_causes.specs.Causes.{IsTracedRun, TellsStops, TracedRun}

out_not_ended : (how : Stage) → is_out how ≡ true → has_ended how ≡ false
out_not_ended at.Out e = refl
out_not_ended at.Again e = refl
out_not_ended how e = no e

reason_has_cell : (cell : Option Holder) (reason : Reason) → reason_of cell ≡ Some reason → is_some cell ≡ true
reason_has_cell None reason e = absurd (none_is_some reason e)
reason_has_cell (Some cell) reason e = refl

-- an ending by a class that is tried again, where others are left
unfinished_class : (attempts made status : ℕ) (shown : Class) → made < attempts → is_tried_again shown ≡ true → is_unfinished attempts made (class_ending status shown) ≡ true
unfinished_class attempts made status (class.Success said) l e = no e
unfinished_class attempts made status (class.Refusal code message) l e = both (nat_lt made attempts) (is_tried_again (class.Refusal code message)) (less_is made attempts l) e
unfinished_class attempts made status (class.Uncertain reason) l e = both (nat_lt made attempts) (is_tried_again (class.Uncertain reason)) (less_is made attempts l) e

-- what ended so, and not for want of memory, was left unfinished
unfinished_by : (made most : ℕ) (gave : Option Reason) (classes : List Class) (ended : Ending) (attempts tries : ℕ) → Ends made most gave classes ended → ended ≢ ending.Memory
    → IfSome (last_of classes) (λ shown. is_tried_again shown ≡ true) → tries < attempts → is_unfinished attempts tries ended ≡ true
unfinished_by made most gave classes ended attempts tries (inl h) apart again l =
    let tried : is_tried_again h.shown ≡ true = subst (λ (x : Option Class). IfSome x (λ shown. is_tried_again shown ≡ true)) h.last again in
    subst (λ (e : Ending). is_unfinished attempts tries e ≡ true) (sym h.ending_is) (unfinished_class attempts tries h.status h.shown l tried)
unfinished_by made most gave classes ended attempts tries (inr (inl h)) apart again l = ap (is_unfinished attempts tries) h.ending_is
unfinished_by made most gave classes ended attempts tries (inr (inr h)) apart again l = absurd (apart h.ending_is)

class_again : (attempts made status : ℕ) (shown : Class) → is_unfinished attempts made (class_ending status shown) ≡ true → (is_tried_again shown ≡ true) × (made < attempts)
class_again attempts made status (class.Success said) e = no e
class_again attempts made status (class.Refusal code message) e =
    let two = and_parts (nat_lt made attempts) (is_tried_again (class.Refusal code message)) e in (two.1, ltb-true made attempts two.0)
class_again attempts made status (class.Uncertain reason) e =
    let two = and_parts (nat_lt made attempts) (is_tried_again (class.Uncertain reason)) e in (two.1, ltb-true made attempts two.0)

-- and what was left unfinished may be given again
short_by : (made most : ℕ) (gave : Option Reason) (classes : List Class) (ended : Ending) (attempts : ℕ) → Ends made most gave classes ended → is_unfinished attempts (length classes) ended ≡ true
    → 1 ≤ attempts → IfSome (last_of classes) (λ shown. is_tried_again shown ≡ true) × (length classes < attempts)
short_by made most gave classes ended attempts (inl h) e some =
    let two = class_again attempts (length classes) h.status h.shown (subst (λ (x : Ending). is_unfinished attempts (length classes) x ≡ true) h.ending_is e) in
    (subst (λ (x : Option Class). IfSome x (λ shown. is_tried_again shown ≡ true)) (sym h.last) two.0, two.1)
short_by made most gave classes ended attempts (inr (inl h)) e some =
    subst (λ (cs : List Class). IfSome (last_of cs) (λ shown. is_tried_again shown ≡ true) × (length cs < attempts)) (sym h.none_made) (cc, omega arith)
short_by made most gave classes ended attempts (inr (inr h)) e some = no (subst (λ (x : Ending). is_unfinished attempts (length classes) x ≡ true) h.ending_is e)

module _ (r : TracedRun) (is : IsTracedRun r) (tells : TellsStops r) where
  abbrev pub run : IsRunOf Shows r.shared r.setting (planned r is) (events r is) (ds r is) r.coming
  run = is_run_of r is tells

  module _ (g : Giving) (known : Contains r.givings g) (n : ℕ) (task : g.of.dispatch.job.task ≡ Some n) where
    abbrev pub o : Op
    o = g.of.dispatch.job.op

    abbrev pub k : ℕ
    k = g.of.dispatch.job.number

    -- the giving with the outcome of its job
    abbrev pub of : IsGivingOf r.carrier r.trace g
    of = is.givings.each g known

    abbrev pub c : SeenCarried
    c = of.carried

    pub among : Contains (ds r is) g.of
    among = contains_of (ds r is) g.of (has-map (λ (x : Giving). x.of) r.givings g (has r.givings g known))

    pub work : HasWork Shows r.shared r.setting (planned r is) (events r is) (ds r is) r.coming run n
    work = has_work Shows r.shared r.setting (planned r is) (events r is) (ds r is) r.coming run g.of n among task

    abbrev pub w : Work
    w = work.w

    pub a : IsAt Shows r.shared r.setting (planned r is) (events r is) (ds r is) r.coming run n w work.of_plan o k g.of
    a = at_of Shows r.shared r.setting (planned r is) (events r is) (ds r is) r.coming run n w work.of_plan o k g.of among
        (its_id Shows r.shared r.setting (planned r is) (events r is) (ds r is) r.coming run g.of n task)

    pub back : IsBack Shows (planned r is) a.later (Sent n o k a.lane ∷ a.before) g.of
    back = elim a.comes [
      | inl none ↦ let come = is.givings.journal.comes g.of among in absurd (none_is_some come.0 (sym none.0 ∙ come.2))
      | inr came ↦ came
    ]

    -- what came back first is its outcome
    pub came_same : (came : IsBack Shows (planned r is) a.later (Sent n o k a.lane ∷ a.before) g.of) → came.carried ≡ c
    came_same came = back_there r is came.newer (came.between ++ Sent n o k a.lane ∷ a.before) came.lane came.carried g known
        (back_at Shows r.shared r.setting (planned r is) (events r is) (ds r is) r.coming run n w work.of_plan o k g.of a came) came.came_at

    pub came_is : back.carried ≡ c
    came_is = came_same back

    -- the history as it came back
    abbrev pub then_ : History
    then_ = share w n (back.between ++ Sent n o k a.lane ∷ a.before)

    pub holds : IsHistory w (Came back.carried ∷ then_)
    holds = holds_then Shows r.shared r.setting (planned r is) (events r is) (ds r is) r.coming run show_one n w work.of_plan o k g.of a back

    attempts_are : w.attempts ≡ r.setting.config.attempts
    attempts_are = work.is_work.attempts_are

    -- it had an attempt left
    pub left : g.of.dispatch.earlier < r.setting.config.attempts
    left = by few earlier_is attempts_are
      where
        few : tries_before then_ (sent back.carried) < w.attempts
        few = few_before w (some is.some_attempt attempts_are) (sent back.carried) then_ holds.1 (out_not_ended (stage w then_ (sent back.carried)) holds.0.0)
          where
            some : 1 ≤ r.setting.config.attempts → w.attempts ≡ r.setting.config.attempts → 1 ≤ w.attempts
            some l e = omega arith

        earlier_is : g.of.dispatch.earlier ≡ tries_before then_ (sent back.carried)
        earlier_is = of.stands.earlier ∙ sym of.tells.same.had ∙ ap (λ (x : SeenCarried). x.job.had) (sym came_is) ∙ holds.0.2

        by : tries_before then_ (sent back.carried) < w.attempts → g.of.dispatch.earlier ≡ tries_before then_ (sent back.carried) → w.attempts ≡ r.setting.config.attempts
            → g.of.dispatch.earlier < r.setting.config.attempts
        by l e f = omega arith

    -- where its cell gave a reason, it was cut short as its task has it
    pub cut_by_cell : IsSome g.gave → IsCutShort r.setting g → is_cut_short w back.carried ≡ true
    cut_by_cell gave cut = subst (λ (x : SeenCarried). is_cut_short w x ≡ true) (sym came_is) (by g.gave gave of.tells.gave)
      where
        tries_few : length g.classes < r.setting.config.attempts → length c.tries < w.attempts
        tries_few l = less l attempts_are (ap (λ (ms : List Mark). length ms) of.tells.by.carries.marks ∙ length-map of.tells.by.carries.classes mark_of) (ap (λ (cs : List Class). length cs) of.tells.classes)
          where
            less : length g.classes < r.setting.config.attempts → w.attempts ≡ r.setting.config.attempts → length c.tries ≡ length of.tells.by.carries.classes
                → length g.classes ≡ length of.tells.by.carries.classes → length c.tries < w.attempts
            less l e f h = omega arith

        by : (why : Option Reason) → is_some why ≡ true → IfSome why (λ reason. (reason_of c.job.cell ≡ Some reason) × (c.ending ≢ ending.Memory)) → is_cut_short w c ≡ true
        by None e h = no e
        by (Some reason) e h =
            both (is_some c.job.cell) (is_unfinished w.attempts (length c.tries) c.ending) (reason_has_cell c.job.cell reason h.0)
            (unfinished_by _ _ _ of.tells.by.carries.classes c.ending w.attempts (length c.tries) of.tells.by.carries.ends h.1
            (subst (λ (cs : List Class). IfSome (last_of cs) (λ shown. is_tried_again shown ≡ true)) of.tells.classes cut.0) (tries_few cut.1))

    -- and what was cut short as its task has it may be given again
    pub cut_is_short : is_cut_short w c ≡ true → IsCutShort r.setting g
    cut_is_short cut =
        let unfinished = (and_parts (is_some c.job.cell) (is_unfinished w.attempts (length c.tries) c.ending) cut).1 in
        let long = ap (λ (ms : List Mark). length ms) of.tells.by.carries.marks ∙ length-map of.tells.by.carries.classes mark_of in
        subst (λ (cs : List Class). IfSome (last_of cs) (λ shown. is_tried_again shown ≡ true) × (length cs < r.setting.config.attempts)) (sym of.tells.classes)
        (short_by _ _ _ of.tells.by.carries.classes c.ending r.setting.config.attempts of.tells.by.carries.ends
        (subst (λ (m : ℕ). is_unfinished m (length of.tells.by.carries.classes) c.ending ≡ true) attempts_are
        (subst (λ (m : ℕ). is_unfinished w.attempts m c.ending ≡ true) long unfinished)) is.some_attempt)
