-- A planning of a command: its trace, and that it can end a run.
use Rattle.std.proofs.Common.{◌≡◌, ◌∙◌, ◌+◌, ◌++◌, ℕ, Bool, true, false, List, [], Option, Some, None, refl, sym, ap, subst, inl, inr, append-nil, length}
use Rattle.std.specs.Prelude.{Result, Ok, Err}
use Rattle.std.specs.List.{All}
use Rattle.std.proofs.lemmas.List.Elements.{All-nil}
use Rattle.command_errands.specs.Errands.{TakesPlaces, is_many, removes}
use Rattle.dry_runs.proofs.ShownLemmas.{have_sources, skips_shown}
use Rattle.lane_jobs.specs.Lanes.{SeenCarrier}
use Rattle.planning_desks.proofs.JoinLemmas.{begins}
use Rattle.planning_questions.specs.Questions.{Question, trace_of}
use Rattle.planning_questions.specs.declared.halt.Halt.TheVariants as halt
use Rattle.question_runs.proofs.Own.{AreOwn}
use Rattle.result_lines.specs.Warnings.{IsShown}
use Rattle.run_traces.specs.Traces.{IsRunTrace, RunTrace}
use Rattle.s3_model.specs.declared.places.Entry.{Entry}
use Rattle.s3_model.specs.declared.places.Place.{Place}
use Rattle.s3_model.specs.declared.places.Place.TheVariants as place
use Rattle.s3_model.specs.declared.settings.Limits.{Limits}
use Rattle.s3_model.specs.declared.tasks.Warning.{Warning}
use Rattle.s3_words.specs.Options.{is_sync}
use Rattle.s3_words.specs.declared.commands.Command.{Command}
use Rattle.s3_words.specs.declared.commands.Verb.{Verb}
use Rattle.s3_words.specs.declared.commands.Verb.TheVariants as verb
use Rattle.sync_plan.specs.declared.errand.Errand.{Errand}
use Rattle.service_plans.specs.Local.{FilesSeen}
use Rattle.service_plans.specs.Plans.{ComesTo, PlansBoth, PlansCommand, RefusesPlan, warnings_by}
use Rattle.service_plans.specs.Sides.{FindsBoth, SourceOf, SourceSide, entries_in}
use Rattle.service_plans.specs.declared.dests.Dest.{Dest}
use Rattle.service_plans.specs.declared.found.Found.{Found}
use Rattle.service_plans.specs.declared.halted.Halted.{Halted}
use Rattle.service_plans.specs.declared.halted.Halted.TheVariants as halted
use Rattle.service_plans.specs.declared.planned.Planned.{Planned}
use Rattle.service_dry_runs.specs.Endings.{CanEnd, MayHalt}
use Rattle.service_dry_runs.proofs.SideLemmas.{AreLooking, AsksSide, both_looking, dest_looking, dest_side, halt_in, source_looking, source_side}
use Rattle.service_dry_runs.proofs.TraceLemmas.{goes_on, is_traced, own_more, side_halts, trace_more}

-- ---- halts

halted_by : (X : Type 0) (carrier : SeenCarrier) (number : ℕ) (questions : List Question) (why : Halted) → AreOwn carrier number questions → AsksSide number questions (halt_in {X = X} (Err why)) → MayHalt why
halted_by X carrier number questions (halted.Asked h) own asks = side_halts carrier number questions own h asks
halted_by X carrier number questions (halted.Walk fault) own asks = tt
halted_by X carrier number questions (halted.Plan fault) own asks = tt

refused_may : (of_verb : Verb) (errand : Errand) (source dest : List Entry) (why : Halted) → RefusesPlan of_verb errand source dest why → MayHalt why
refused_may of_verb errand source dest (halted.Asked halt.Memory) h = tt
refused_may of_verb errand source dest (halted.Asked (halt.Answer cause)) h = absurd h
refused_may of_verb errand source dest (halted.Asked (halt.Listing bad)) h = absurd h
refused_may of_verb errand source dest (halted.Asked halt.Stranger) h = absurd h
refused_may of_verb errand source dest (halted.Walk fault) h = tt
refused_may of_verb errand source dest (halted.Plan fault) h = tt

-- ---- what a plan shows

warnings_shown : (of_verb : Verb) (errand : Errand) (source : List Entry) → All IsShown (warnings_by of_verb errand source)
warnings_shown verb.Rm errand source = All-nil IsShown
warnings_shown verb.Sync errand source = skips_shown errand errand.to true source
warnings_shown verb.Cp errand source = skips_shown errand errand.to errand.many source
warnings_shown verb.Mv errand source = skips_shown errand errand.to errand.many source
warnings_shown verb.Ls errand source = skips_shown errand errand.to errand.many source
warnings_shown verb.Presign errand source = skips_shown errand errand.to errand.many source

module _ (command : Command) (limits : Limits) (source : Found) (dest : Dest) where
  comes_may : (why : Halted) → ComesTo command limits source dest (Err why) → MayHalt why
  comes_may (halted.Asked halt.Memory) h = tt
  comes_may (halted.Asked (halt.Answer cause)) h = refused_may command.verb h.0 (entries_in source.side) (entries_in dest.found.side) (halted.Asked (halt.Answer cause)) h.2
  comes_may (halted.Asked (halt.Listing bad)) h = refused_may command.verb h.0 (entries_in source.side) (entries_in dest.found.side) (halted.Asked (halt.Listing bad)) h.2
  comes_may (halted.Asked halt.Stranger) h = refused_may command.verb h.0 (entries_in source.side) (entries_in dest.found.side) (halted.Asked halt.Stranger) h.2
  comes_may (halted.Walk fault) h = tt
  comes_may (halted.Plan fault) h = tt

  both_end : (result : Result Planned Halted) → AreLooking source.looked.items → AreLooking dest.found.looked.items → PlansBoth command limits source dest result → CanEnd result
  both_end (Ok planned) ours theirs h =
      let errand = h.0.0 in
      let plan = h.0.2 in record {
        looking = subst AreLooking (sym h.1) (both_looking source.looked.items dest.found.looked.items ours theirs);
        skips = subst (λ (all : List Warning). All IsShown all) (sym plan.warnings) (warnings_shown command.verb errand (entries_in source.side));
        sources = have_sources errand.limits.max_object planned.plan.tasks.items plan.fit;
      }
  both_end (Err why) ours theirs h = comes_may why h

-- ---- a planning

module _ (command : Command) (limits : Limits) (files : FilesSeen) (questions : List Question) (result : Result Planned Halted) (plans : PlansCommand command limits files 0 questions result) where
  source_asks : (qs : List Question) (found : Result Found Halted) → SourceOf command files 0 qs found → AsksSide 0 qs (halt_in found)
  source_asks qs found h = source_side (removes command.verb) (is_many command) command.from files 0 qs found h

  dest_asks : (source : Found) (dest : Result Dest Halted) (both : FindsBoth command files 0 questions source dest) → AsksSide (0 + length both.first) both.later (halt_in dest)
  dest_asks source dest both = dest_side (is_sync command.verb) command.recursive command.to files (0 + length both.first) both.later dest both.at_dest

  both_traced : (source : Found) (dest : Result Dest Halted) → FindsBoth command files 0 questions source dest → IsRunTrace (trace_of 0 questions)
  both_traced source dest both =
      let here = goes_on 0 both.first [] begins (source_asks both.first (Ok source) both.at_source) in
      subst IsRunTrace (ap (λ (t : RunTrace). trace_of (0 + length both.first) both.later ++ t) (append-nil (trace_of 0 both.first)) ∙ sym (trace_more 0 both.first both.later) ∙ ap (λ (qs : List Question). trace_of 0 qs) (sym both.split))
      (is_traced (0 + length both.first) both.later (trace_of 0 both.first ++ []) here (halt_in dest) (dest_asks source dest both))

  pub plan_traced : IsRunTrace (trace_of 0 questions)
  plan_traced = elim plans [
    | inl (why, source, is) ↦ subst IsRunTrace (append-nil (trace_of 0 questions)) (is_traced 0 questions [] begins (halt_in {X = Found} (Err why)) (source_asks questions (Err why) source))
    | inr later ↦ elim later [
      | inl (source, why, both, is) ↦ both_traced source (Err why) both
      | inr (source, dest, both, comes) ↦ both_traced source (Ok dest) both
    ]
  ]

  pub plan_ends : (carrier : SeenCarrier) → AreOwn carrier 0 questions → CanEnd result
  plan_ends carrier own = elim plans [
    | inl (why, source, is) ↦ subst CanEnd (sym is) (halted_by Found carrier 0 questions why own (source_asks questions (Err why) source))
    | inr later ↦ elim later [
      | inl (source, why, both, is) ↦
          let owned = own_more carrier 0 both.first both.later (subst (λ (qs : List Question). AreOwn carrier 0 qs) both.split own) in
          subst CanEnd (sym is) (halted_by Dest carrier (0 + length both.first) both.later why owned.1 (dest_asks source (Err why) both))
      | inr (source, dest, both, comes) ↦
          both_end command limits source dest result
          (source_looking (removes command.verb) (is_many command) command.from files 0 both.first source both.at_source)
          (dest_looking (is_sync command.verb) command.recursive command.to files (0 + length both.first) both.later dest both.at_dest) comes
    ]
  ]

-- nothing was asked, since memory ran out
source_unasked : (remove many : Bool) (from : Option Place) (files : FilesSeen) → (place : Place) → from ≡ Some place → SourceSide remove many from files 0 [] (Err (halted.Asked halt.Memory))
source_unasked remove many from files at is = subst (λ (f : Option Place). SourceSide remove many f files 0 [] (Err (halted.Asked halt.Memory))) (sym is) (by remove many at)
  where
    by : (r m : Bool) (p : Place) → SourceSide r m (Some p) files 0 [] (Err (halted.Asked halt.Memory))
    by r m (place.File path) = (refl, tt)
    by r true (place.Object bucket key) = refl
    by true false (place.Object bucket key) = (refl, refl)
    by false false (place.Object bucket key) = (Err halt.Memory, refl, tt)

has_from : (v : Verb) (from to : Option Place) → TakesPlaces v from to → (at : Place) × (from ≡ Some at)
has_from v (Some at) to h = (at, refl)
has_from verb.Cp None to h = absurd h
has_from verb.Mv None to h = absurd h
has_from verb.Sync None to h = absurd h
has_from verb.Rm None to h = absurd h
has_from verb.Ls None to h = absurd h
has_from verb.Presign None to h = absurd h

pub unplanned : (command : Command) (limits : Limits) (files : FilesSeen) → TakesPlaces command.verb command.from command.to → PlansCommand command limits files 0 [] (Err (halted.Asked halt.Memory))
unplanned command limits files takes =
    let from = has_from command.verb command.from command.to takes in
    inl (halted.Asked halt.Memory, source_unasked (removes command.verb) (is_many command) command.from files from.0 from.1, refl)
