-- The file whose fate is a task, and the one that is too large.
use Rattle.std.proofs.Common.{◌≡◌, ◌<◌, ℕ, Bool, true, false, List, Option, Some, None, refl, if◌then◌else◌}
use Rattle.std.specs.Prelude.{nat_le, nat_lt}
use Rattle.std.specs.Str.{chars}
use Rattle.std.proofs.lemmas.Bool.{leb-false}
use Rattle.path_filters.specs.Filters.{is_kept}
use Rattle.s3_model.specs.declared.faults.KeySkip.{KeySkip}
use Rattle.s3_model.specs.declared.faults.PlanFault.{PlanFault}
use Rattle.s3_model.specs.declared.faults.PlanFault.TheVariants as plan
use Rattle.s3_model.specs.declared.places.Place.{Place}
use Rattle.s3_model.specs.declared.tasks.Task.{Task}
use Rattle.s3_model.specs.ContentTypes.{last_name}
use Rattle.s3_outside.specs.declared.files.Shape.{Shape}
use Rattle.s3_outside.specs.declared.files.Shape.TheVariants as shape
use Rattle.s3_paths.specs.Names.{key_skip}
use Rattle.s3_words.specs.declared.commands.Command.{Command}
use Rattle.upload_plans.specs.Commands.{bucket_of, key_of, source_path}
use Rattle.upload_plans.specs.Plans.{fate_of, file_fate, is_large, kept_fate, planned_key, planned_task, shape_fate, task_fate, unless_skipped}
use Rattle.upload_plans.specs.declared.plan.Fate.TheVariants as fate

-- a small file stands there, and the task is its
pub record IsTaskOf (command : Command) (threshold : ℕ) (stands : Shape) (task : Task) : Type 0 where
  pub size : ℕ
  pub micros : ℕ
  pub is_file : stands ≡ shape.File size micros
  pub small : size < threshold
  pub is : task ≡ planned_task command (source_path command) (bucket_of command) (planned_key (source_path command) (key_of command)) size micros

not_yet : (task : Task) → fate.NotYet ≡ fate.Upload task → ⊥
not_yet task e = cc

left_out : (task : Task) → fate.LeftOut ≡ fate.Upload task → ⊥
left_out task e = cc

refused : (fault : PlanFault) (task : Task) → fate.Refused fault ≡ fate.Upload task → ⊥
refused fault task e = cc

no_file : (path : List ℕ) (task : Task) → fate.NotAFile path ≡ fate.Upload task → ⊥
no_file path task e = cc

skipped : (place : Place) (why : KeySkip) (task : Task) → fate.Skipped place why ≡ fate.Upload task → ⊥
skipped place why task e = cc

same_task : (a b : Task) → fate.Upload a ≡ fate.Upload b → b ≡ a
same_task a b e = cc

module _ (command : Command) (threshold max_object : ℕ) (task : Task) where
  abbrev path : List ℕ
  path = source_path command

  abbrev bucket : List ℕ
  bucket = bucket_of command

  abbrev key : List ℕ
  key = planned_key path (key_of command)

  of_task : (size micros : ℕ) (large : Bool) → (if large then fate.Refused (plan.TooLarge path size) else fate.Upload (planned_task command path bucket key size micros)) ≡ fate.Upload task
      → task ≡ planned_task command path bucket key size micros
  of_task size micros true e = absurd (refused _ task e)
  of_task size micros false e = same_task _ task e

  of_skip : (size micros : ℕ) (skip : Option KeySkip) → unless_skipped skip path (task_fate command path bucket key max_object size micros) ≡ fate.Upload task
      → task ≡ planned_task command path bucket key size micros
  of_skip size micros (Some why) e = absurd (skipped _ why task e)
  of_skip size micros None e = of_task size micros (nat_lt max_object size) e

  of_kept : (size micros : ℕ) (kept : Bool) → (if kept then kept_fate command path bucket (key_of command) max_object size micros else fate.LeftOut) ≡ fate.Upload task
      → task ≡ planned_task command path bucket key size micros
  of_kept size micros true e = of_skip size micros (key_skip key) e
  of_kept size micros false e = absurd (left_out task e)

  of_large : (size micros : ℕ) (large : Bool) → nat_le threshold size ≡ large
      → (if large then fate.NotYet else file_fate command path bucket (key_of command) max_object size micros) ≡ fate.Upload task
      → IsTaskOf command threshold (shape.File size micros) task
  of_large size micros true is e = absurd (not_yet task e)
  of_large size micros false is e = record {
    size = size;
    micros = micros;
    is_file = refl;
    small = leb-false threshold size is;
    is = of_kept size micros (is_kept command.filters (chars (last_name path))) e;
  }

  pub task_of : (stands : Shape) → fate_of command threshold max_object stands ≡ fate.Upload task → IsTaskOf command threshold stands task
  task_of shape.Absent e = absurd (refused _ task e)
  task_of shape.Folder e = absurd (refused _ task e)
  task_of shape.Other e = absurd (no_file _ task e)
  task_of (shape.File size micros) e = of_large size micros (nat_le threshold size) refl e

-- ---- a large file

refused_yet : (fault : PlanFault) → fate.NotYet ≡ fate.Refused fault → ⊥
refused_yet fault e = cc

skipped_yet : (place : Place) (why : KeySkip) → fate.NotYet ≡ fate.Skipped place why → ⊥
skipped_yet place why e = cc

left_yet : fate.NotYet ≡ fate.LeftOut → ⊥
left_yet e = cc

no_file_yet : (path : List ℕ) → fate.NotYet ≡ fate.NotAFile path → ⊥
no_file_yet path e = cc

module _ (command : Command) (max_object : ℕ) where
  task_yet : (p b k : List ℕ) (size micros : ℕ) (large : Bool)
      → fate.NotYet ≡ (if large then fate.Refused (plan.TooLarge p size) else fate.Upload (planned_task command p b k size micros)) → ⊥
  task_yet p b k size micros true e = refused_yet _ e
  task_yet p b k size micros false e = not_yet _ e

  skip_yet : (p b k : List ℕ) (size micros : ℕ) (skip : Option KeySkip) → fate.NotYet ≡ unless_skipped skip p (task_fate command p b k max_object size micros) → ⊥
  skip_yet p b k size micros (Some why) e = skipped_yet _ why e
  skip_yet p b k size micros None e = task_yet p b k size micros (nat_lt max_object size) e

  kept_yet : (p b k : List ℕ) (size micros : ℕ) (kept : Bool) → fate.NotYet ≡ (if kept then kept_fate command p b k max_object size micros else fate.LeftOut) → ⊥
  kept_yet p b k size micros true e = skip_yet p b (planned_key p k) size micros (key_skip (planned_key p k)) e
  kept_yet p b k size micros false e = left_yet e

  shape_yet : (stands : Shape) → fate.NotYet ≡ shape_fate command max_object stands → ⊥
  shape_yet shape.Absent e = refused_yet _ e
  shape_yet shape.Folder e = refused_yet _ e
  shape_yet shape.Other e = no_file_yet _ e
  shape_yet (shape.File size micros) e =
      kept_yet (source_path command) (bucket_of command) (key_of command) size micros (is_kept command.filters (chars (last_name (source_path command)))) e

  large_by : (stands : Shape) (large : Bool) → fate.NotYet ≡ (if large then fate.NotYet else shape_fate command max_object stands) → large ≡ true
  large_by stands true e = refl
  large_by stands false e = absurd (shape_yet stands e)

  pub large_of : (threshold : ℕ) (stands : Shape) → fate.NotYet ≡ fate_of command threshold max_object stands → is_large threshold stands ≡ true
  large_of threshold stands e = large_by stands (is_large threshold stands) e
