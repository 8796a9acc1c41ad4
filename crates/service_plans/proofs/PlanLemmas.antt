-- The plan of a command.
use Rattle.std.proofs.Common.{◌≡◌, ◌∙◌, ◌≤◌, ◌+◌, ◌++◌, ℕ, List, Option, Some, refl, sym, subst, inl, inr, length}
use Rattle.std.specs.Prelude.{◌≢◌, Result, Ok, Err, IfErr, IfOk}
use Rattle.command_errands.specs.Errands.{errand_of}
use Rattle.planning_questions.specs.Questions.{HasQuestions, Progress, Question}
use Rattle.planning_questions.specs.declared.halt.Halt.TheVariants as halt
use Rattle.planning_questions.proofs.PageLemmas.{come_as}
use Rattle.s3_model.specs.declared.faults.PlanFault.{PlanFault}
use Rattle.s3_model.specs.declared.faults.PlanFault.TheVariants as refused
use Rattle.s3_model.specs.declared.places.Entry.{Entry}
use Rattle.s3_model.specs.declared.settings.Limits.{Limits}
use Rattle.s3_model.specs.declared.tasks.Plan.{Plan}
use Rattle.s3_model.specs.declared.tasks.Task.{Task}
use Rattle.s3_outside.specs.Files.{SeenFiles}
use Rattle.s3_words.specs.declared.commands.Command.{Command}
use Rattle.s3_words.specs.declared.commands.Verb.{Verb}
use Rattle.s3_words.specs.declared.commands.Verb.TheVariants as verb
use Rattle.sync_plan.specs.Fit.{IsFit, IsRefused}
use Rattle.sync_plan.specs.Plans.{copies, warnings_for}
use Rattle.sync_plan.specs.declared.errand.Errand.{Errand}
use Rattle.tree_walk.specs.Trees.{OnlyLooks}
use Rattle.service_plans.specs.Faults.{plan_halted}
use Rattle.service_plans.specs.Local.{files_seen}
use Rattle.service_plans.specs.Plans.{ComesTo, IsPlanOf, PlansBoth, PlansCommand, RefusesPlan, tasks_by, warnings_by}
use Rattle.service_plans.specs.Sides.{DestOf, FindsBoth, SourceOf, entries_in}
use Rattle.service_plans.specs.declared.dests.Dest.{Dest}
use Rattle.service_plans.specs.declared.found.Found.{Found}
use Rattle.service_plans.specs.declared.halted.Halted.{Halted}
use Rattle.service_plans.specs.declared.halted.Halted.TheVariants as halted
use Rattle.service_plans.specs.declared.planned.Planned.{Planned}
use Rattle.service_plans.proofs.LiftLemmas.{behind, found_still}
use Rattle.service_plans.proofs.QuestionLemmas.{asked_both}

-- ---- the plan of an errand

-- of what is neither `sync` nor `rm` all names are copied
copies_by : (of_verb : Verb) (errand : Errand) (source dest : List Entry) → of_verb ≢ verb.Sync → of_verb ≢ verb.Rm
    → (tasks_by of_verb errand source dest ≡ copies errand source) × (warnings_by of_verb errand source ≡ warnings_for errand errand.to errand.many source)
copies_by verb.Cp errand source dest not_sync not_rm = (refl, refl)
copies_by verb.Mv errand source dest not_sync not_rm = (refl, refl)
copies_by verb.Sync errand source dest not_sync not_rm = absurd (not_sync refl)
copies_by verb.Rm errand source dest not_sync not_rm = absurd (not_rm refl)
copies_by verb.Ls errand source dest not_sync not_rm = (refl, refl)
copies_by verb.Presign errand source dest not_sync not_rm = (refl, refl)

module _ (of_verb : Verb) (errand : Errand) (source dest : List Entry) (not_sync : of_verb ≢ verb.Sync) (not_rm : of_verb ≢ verb.Rm) where
  pub copied : (r : Result Plan PlanFault) → IfOk r (λ plan. plan.tasks.items ≡ copies errand source) → IfOk r (λ plan. plan.warnings.items ≡ warnings_for errand errand.to errand.many source)
      → IfOk r (λ plan. IsFit errand.limits.max_object plan.tasks.items) → IfOk r (IsPlanOf of_verb errand source dest)
  copied (Ok plan) tasks warnings fit =
      let by = copies_by of_verb errand source dest not_sync not_rm in record { tasks = tasks ∙ sym by.0; warnings = warnings ∙ sym by.1; fit = fit }
  copied (Err fault) tasks warnings fit = tt

  pub copies_refused : (r : Result Plan PlanFault) → IfErr r (λ fault. fault ≢ refused.Memory → IsRefused errand.limits.max_object (copies errand source) fault)
      → IfErr r (λ fault. fault ≢ refused.Memory → IsRefused errand.limits.max_object (tasks_by of_verb errand source dest) fault)
  copies_refused r h =
      subst (λ (tasks : List Task). IfErr r (λ fault. fault ≢ refused.Memory → IsRefused errand.limits.max_object tasks fault)) (sym (copies_by of_verb errand source dest not_sync not_rm).0) h

pub refuses : (of_verb : Verb) (errand : Errand) (source dest : List Entry) (fault : PlanFault) → (fault ≢ refused.Memory → IsRefused errand.limits.max_object (tasks_by of_verb errand source dest) fault)
    → RefusesPlan of_verb errand source dest (plan_halted fault)
refuses of_verb errand source dest refused.Memory h = tt
refuses of_verb errand source dest (refused.Overlap key) h = h (λ e. cc)
refuses of_verb errand source dest refused.TooMany h = h (λ e. cc)
refuses of_verb errand source dest (refused.TooLarge path size) h = h (λ e. cc)
refuses of_verb errand source dest (refused.NoSource path) h = h (λ e. cc)
refuses of_verb errand source dest (refused.IsFolder path) h = h (λ e. cc)
refuses of_verb errand source dest (refused.NotFolder path) h = h (λ e. cc)

pub comes_to : (command : Command) (limits : Limits) (source : Found) (dest : Dest) (errand : Errand) (r : Result Plan Halted) → errand_of command limits dest.into_folder ≡ Some errand
    → IfOk r (IsPlanOf command.verb errand (entries_in source.side) (entries_in dest.found.side)) → IfErr r (RefusesPlan command.verb errand (entries_in source.side) (entries_in dest.found.side))
    → ComesTo command limits source dest r
comes_to command limits source dest errand (Ok plan) is plans fails = (errand, is, plans)
comes_to command limits source dest errand (Err (halted.Asked halt.Memory)) is plans fails = tt
comes_to command limits source dest errand (Err (halted.Asked (halt.Answer cause))) is plans fails = absurd fails
comes_to command limits source dest errand (Err (halted.Asked (halt.Listing bad))) is plans fails = absurd fails
comes_to command limits source dest errand (Err (halted.Asked halt.Stranger)) is plans fails = absurd fails
comes_to command limits source dest errand (Err (halted.Walk fault)) is plans fails = absurd fails
comes_to command limits source dest errand (Err (halted.Plan fault)) is plans fails = (errand, is, fails)

-- ---- the plan of a command

module _ (command : Command) (limits : Limits) (number between next : ℕ) (before mid after : Progress) (was seen now : Option SeenFiles) (x y z : ℕ) where
  -- the source has none
  pub source_ends : (r : Result Found Halted) (why : Halted) → r ≡ Err why → HasQuestions number between before mid (λ questions. SourceOf command (files_seen seen x y) number questions r)
      → HasQuestions number between before mid (λ questions. PlansCommand command limits (files_seen seen x y) number questions (Err why))
  source_ends r why is h =
      come_as number between before mid (λ questions. SourceOf command (files_seen seen x y) number questions r) (λ questions. PlansCommand command limits (files_seen seen x y) number questions (Err why))
      (λ questions came. inl (why, subst (λ (o : Result Found Halted). SourceOf command (files_seen seen x y) number questions o) is came, refl)) h

  finds : OnlyLooks seen now y z → x ≤ y → (source : Found) (d : Result Dest Halted) (qs later : List Question) → between ≡ number + length qs
      → SourceOf command (files_seen seen x y) number qs (Ok source) → DestOf command (files_seen now y z) between later d
      → FindsBoth command (files_seen now x z) number (qs ++ later) source d
  finds looks less source d qs later is at_source at_dest = record {
    first = qs;
    later = later;
    split = refl;
    at_source = found_still seen now x y z looks command number qs source at_source;
    at_dest = subst (λ (n : ℕ). DestOf command (files_seen now x z) n later d) is (behind now x y z less command between later d at_dest);
  }

  module _ (looks : OnlyLooks seen now y z) (less : x ≤ y) (r : Result Found Halted) (source : Found) (d : Result Dest Halted) (is : r ≡ Ok source)
      (sourced : HasQuestions number between before mid (λ questions. SourceOf command (files_seen seen x y) number questions r))
      (dested : HasQuestions between next mid after (λ questions. DestOf command (files_seen now y z) between questions d)) where
    -- the destination has none
    pub dest_ends : (why : Halted) → d ≡ Err why → HasQuestions number next before after (λ questions. PlansCommand command limits (files_seen now x z) number questions (Err why))
    dest_ends why fails =
        asked_both number between next before mid after (λ questions. SourceOf command (files_seen seen x y) number questions r) (λ questions. DestOf command (files_seen now y z) between questions d)
        (λ questions. PlansCommand command limits (files_seen now x z) number questions (Err why))
        (λ qs later from at_source at_dest. inr (inl (
          source,
          why,
          finds looks less source (Err why) qs later from (subst (λ (o : Result Found Halted). SourceOf command (files_seen seen x y) number qs o) is at_source)
              (subst (λ (o : Result Dest Halted). DestOf command (files_seen now y z) between later o) fails at_dest),
          refl,
        ))) sourced dested

    -- both have entries
    pub both_plan : (dest : Dest) (result : Result Planned Halted) → d ≡ Ok dest → PlansBoth command limits source dest result
        → HasQuestions number next before after (λ questions. PlansCommand command limits (files_seen now x z) number questions result)
    both_plan dest result came plans =
        asked_both number between next before mid after (λ questions. SourceOf command (files_seen seen x y) number questions r) (λ questions. DestOf command (files_seen now y z) between questions d)
        (λ questions. PlansCommand command limits (files_seen now x z) number questions result)
        (λ qs later from at_source at_dest. inr (inr (
          source,
          dest,
          finds looks less source (Ok dest) qs later from (subst (λ (o : Result Found Halted). SourceOf command (files_seen seen x y) number qs o) is at_source)
              (subst (λ (o : Result Dest Halted). DestOf command (files_seen now y z) between later o) came at_dest),
          plans,
        ))) sourced dested
