-- What a plan is refused for, by the steps that refuse it.
use Rattle.std.proofs.Common.{◌≡◌, ℕ, Bool, true, false, cond, List, [], ◌∷◌, Option, Some, None, Result, Ok, Err, IfErr, sym, subst, nat_lt}
use Rattle.std.specs.Bool.{⊤}
use Rattle.std.specs.Option.{option_or}
use Rattle.std.specs.Result.{IsErrAnd}
use Rattle.s3_model.specs.declared.faults.PlanFault.{PlanFault}
use Rattle.s3_model.specs.declared.faults.PlanFault.TheVariants as fault
use Rattle.s3_model.specs.declared.places.Place.{Place}
use Rattle.s3_model.specs.declared.tasks.Task.{Task}
use Rattle.shared_lemmas.proofs.Clashes.{none_is_some, some_is}
use Rattle.sync_plan.specs.Fit.{IsJudged, is_too_large, place_text, size_fault}

-- the fault of a step is handed on
pub handed_on : {U : Type 0} (Holds : PlanFault → Type 0) (r : Result U PlanFault) (why : PlanFault) → IsErrAnd r (λ f. f ≡ why) → Holds why → IfErr r Holds
handed_on Holds (Ok x) why is holds = absurd is
handed_on Holds (Err f) why is holds = subst Holds (sym is) holds

abbrev IsOfSize : PlanFault → Type 0
IsOfSize (fault.TooLarge path size) = ⊤
IsOfSize why = ⊥

large_at : (b : Bool) (path : List ℕ) (size : ℕ) (later : Option PlanFault) (why : PlanFault) → option_or (cond b (Some (fault.TooLarge path size)) None) later ≡ Some why → (later ≡ Some why → IsOfSize why) → IsOfSize why
large_at true path size later why e rest = subst IsOfSize (some_is (fault.TooLarge path size) why e) tt
large_at false path size later why e rest = rest e

module _ (most : ℕ) where
  by_source : (task : Task) (later : Option PlanFault) (why : PlanFault) (source : Option Place) → option_or (is_too_large most task source) later ≡ Some why → (later ≡ Some why → IsOfSize why) → IsOfSize why
  by_source task later why None e rest = rest e
  by_source task later why (Some source) e rest = large_at (nat_lt most task.size) (place_text source) task.size later why e rest

  of_size : (tasks : List Task) (why : PlanFault) → size_fault most tasks ≡ Some why → IsOfSize why
  of_size [] why e = absurd (none_is_some why e)
  of_size (task ∷ tasks) why e = by_source task (size_fault most tasks) why task.source e (of_size tasks why)

  pub size_judged : (one_bucket : Bool) (tasks : List Task) (why : PlanFault) → size_fault most tasks ≡ Some why → IsJudged most one_bucket tasks why
  size_judged one_bucket tasks (fault.TooLarge path size) e = e
  size_judged one_bucket tasks (fault.Overlap key) e = absurd (of_size tasks (fault.Overlap key) e)
  size_judged one_bucket tasks fault.TooMany e = absurd (of_size tasks fault.TooMany e)
  size_judged one_bucket tasks fault.Memory e = absurd (of_size tasks fault.Memory e)
  size_judged one_bucket tasks (fault.NoSource path) e = absurd (of_size tasks (fault.NoSource path) e)
  size_judged one_bucket tasks (fault.IsFolder path) e = absurd (of_size tasks (fault.IsFolder path) e)
  size_judged one_bucket tasks (fault.NotFolder path) e = absurd (of_size tasks (fault.NotFolder path) e)
