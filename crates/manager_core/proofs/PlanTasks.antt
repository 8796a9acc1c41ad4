-- What a plan that can be carried out says of its tasks.
use Rattle.std.proofs.Common.{◌≡◌, ◌≤◌, [], ◌∷◌, ℕ, zero, suc, Bool, true, false, List, Option, Some, None, refl}
use Rattle.std.proofs.Common.{◌<◌, sym, subst, arith, get_or, length, if◌then◌else◌}
use Rattle.std.proofs.lemmas.Bool.{ltb-false}
use Rattle.std.specs.Option.{option_or}
use Rattle.std.specs.Prelude.{All, nat_lt, slice_get}
use Rattle.manager_moves.proofs.CountLemmas.{no}
use Rattle.manager_moves.proofs.PartLaws.{nothing, same_value}
use Rattle.run_needs.specs.Needs.{CanBegin}
use Rattle.job_terms.specs.Jobs.{IsObject, IsSource, Origin, Target}
use Rattle.s3_model.specs.declared.faults.PlanFault.{PlanFault}
use Rattle.s3_model.specs.declared.faults.PlanFault.TheVariants as fault
use Rattle.s3_model.specs.declared.places.Place.{Place}
use Rattle.s3_model.specs.declared.places.Place.TheVariants as place
use Rattle.s3_model.specs.declared.settings.Limits.{Limits}
use Rattle.s3_model.specs.declared.tasks.Kind.{Kind}
use Rattle.s3_model.specs.declared.tasks.Kind.TheVariants as kind
use Rattle.s3_model.specs.declared.tasks.Task.{Task}
use Rattle.step_jobs.specs.Requests.{HasObjects}
use Rattle.sync_plan.specs.Fit.{IsOfKind, is_too_large, place_text, size_fault}
use Rattle.task_stages.specs.Stages.{removes}
use Rattle.manager_core.specs.Running.{CanRun}

-- ---- sizes

neither : (a b : Option PlanFault) → option_or a b ≡ None → (a ≡ None) × (b ≡ None)
neither None b e = (refl, e)
neither (Some x) b e = cc

module _ (limits : Limits) (task : Task) where
  small_by : (b : Bool) (x : PlanFault) → nat_lt limits.max_object task.size ≡ b → (if b then Some x else None) ≡ None
      → task.size ≤ limits.max_object
  small_by true x is e = cc
  small_by false x is e = ltb-false limits.max_object task.size is

  within_by : (of_kind : Kind) (source : Option Place) (dest : Place) (moves : Bool)
      → IsOfKind of_kind source dest moves → is_too_large limits.max_object task source ≡ None
      → removes of_kind ≡ false → task.size ≤ limits.max_object
  within_by kind.Upload (Some at) dest moves is e moved =
      small_by (nat_lt limits.max_object task.size) (fault.TooLarge (place_text at) task.size) refl e
  within_by kind.Download (Some at) dest moves is e moved =
      small_by (nat_lt limits.max_object task.size) (fault.TooLarge (place_text at) task.size) refl e
  within_by kind.Copy (Some at) dest moves is e moved =
      small_by (nat_lt limits.max_object task.size) (fault.TooLarge (place_text at) task.size) refl e
  within_by kind.Upload None dest moves is e moved = absurd is
  within_by kind.Download None dest moves is e moved = absurd is
  within_by kind.Copy None dest moves is e moved = absurd is
  within_by kind.RemoveObject source dest moves is e moved = no (sym moved)
  within_by kind.RemoveFile source dest moves is e moved = no (sym moved)

small_at : (most : ℕ) (tasks : List Task) (n : ℕ) (task : Task) → size_fault most tasks ≡ None
    → slice_get tasks n ≡ Some task → is_too_large most task task.source ≡ None
small_at most (t ∷ tasks) zero task e there =
    subst (λ (x : Task). is_too_large most x x.source ≡ None) (same_value there)
    (neither (is_too_large most t t.source) (size_fault most tasks) e).0
small_at most (t ∷ tasks) (suc n) task e there =
    small_at most tasks n task (neither (is_too_large most t t.source) (size_fault most tasks) e).1 there
small_at most [] n task e there = absurd (nothing there)

index_there : (tasks : List Task) (k : ℕ) (d : Task) → k < length tasks → slice_get tasks k ≡ Some (get_or tasks k d)
index_there [] k d below = absurd (omega (arith, below))
index_there (t ∷ tasks) zero d below = refl
index_there (t ∷ tasks) (suc k) d below = index_there tasks k d (omega (arith, below))

module _ (limits : Limits) (tasks : List Task) (can : CanRun limits tasks) where
  pub task_begins : (n : ℕ) (task : Task) → slice_get tasks n ≡ Some task → CanBegin limits task
  task_begins n task there = record {
    within = within_by limits task task.kind task.source task.dest task.moves (can.fit.kinds n task there)
        (small_at limits.max_object tasks n task can.fit.sizes there);
    replaces = can.replace n task there;
  }

  pub tasks_begin : All (CanBegin limits) tasks
  tasks_begin k d below = task_begins k (get_or tasks k d) (index_there tasks k d below)

-- ---- objects

its_object : (of_place : Place) (bucket key : List ℕ) → of_place ≡ place.Object bucket key
    → IsObject of_place bucket key
its_object of_place bucket key e = subst (λ (p : Place). IsObject p bucket key) (sym e) (refl, refl)

its_source : (source : Option Place) (bucket key : List ℕ) → source ≡ Some (place.Object bucket key)
    → IsSource source bucket key
its_source source bucket key e = subst (λ (p : Option Place). IsSource p bucket key) (sym e) (refl, refl)

module _ (task : Task) where
  target : (bucket key : List ℕ) → task.dest ≡ place.Object bucket key → Target task
  target bucket key e = record { bucket = bucket; key = key; is_dest = its_object task.dest bucket key e }

  origin : (bucket key : List ℕ) → task.source ≡ Some (place.Object bucket key) → Origin task
  origin bucket key e = record { bucket = bucket; key = key; is_source = its_source task.source bucket key e }

  has_objects : (of_kind : Kind) (source : Option Place) (dest : Place) (moves : Bool) → task.source ≡ source
      → task.dest ≡ dest → IsOfKind of_kind source dest moves → HasObjects of_kind task
  has_objects kind.Upload source (place.Object bucket key) moves s d is = target bucket key d
  has_objects kind.Upload (Some (place.File path)) (place.File at) moves s d is = absurd is
  has_objects kind.Upload (Some (place.Object b k)) (place.File at) moves s d is = absurd is
  has_objects kind.Upload None (place.File at) moves s d is = absurd is
  has_objects kind.Download (Some (place.Object bucket key)) dest moves s d is = origin bucket key s
  has_objects kind.Download (Some (place.File path)) dest moves s d is = absurd is
  has_objects kind.Download None dest moves s d is = absurd is
  has_objects kind.Copy (Some (place.Object b k)) (place.Object bucket key) moves s d is =
      (target bucket key d, origin b k s)
  has_objects kind.Copy (Some (place.Object b k)) (place.File at) moves s d is = absurd is
  has_objects kind.Copy (Some (place.File path)) dest moves s d is = absurd is
  has_objects kind.Copy None dest moves s d is = absurd is
  has_objects kind.RemoveObject source (place.Object bucket key) moves s d is = target bucket key d
  has_objects kind.RemoveObject None (place.File at) true s d is = absurd is
  has_objects kind.RemoveObject None (place.File at) false s d is = absurd is
  has_objects kind.RemoveObject (Some x) (place.File at) moves s d is = absurd is
  has_objects kind.RemoveFile source dest moves s d is = tt

pub task_objects : (limits : Limits) (tasks : List Task) → CanRun limits tasks → (n : ℕ) (task : Task)
    → slice_get tasks n ≡ Some task → HasObjects task.kind task
task_objects limits tasks can n task e =
    has_objects task task.kind task.source task.dest task.moves refl refl (can.fit.kinds n task e)
