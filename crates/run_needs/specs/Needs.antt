-- What the tasks of a run need of it.
use Rattle.std.specs.Prelude.{◌≡◌, [], ◌∷◌, ℕ, false, List, fold, max}
use Rattle.s3_model.specs.declared.settings.Config.{Config}
use Rattle.s3_model.specs.declared.settings.Limits.{Limits}
use Rattle.s3_model.specs.declared.tasks.Kind.{Kind}
use Rattle.s3_model.specs.declared.tasks.Kind.TheVariants as kind
use Rattle.s3_model.specs.declared.tasks.Task.{Task}
use Rattle.task_acts.specs.declared.work.Work.{Work}
use Rattle.task_acts.specs.Work.{IsWorkOf}
use Rattle.task_works.specs.Works.{IsWithinObject}
use Rattle.run_needs.specs.declared.needs.Needs.{Needs}
use Rattle.run_needs.specs.Entries.{journal_room}

-- ---- works

-- what is moved is no larger than the largest object, and may replace its destination
pub record CanBegin (limits : Limits) (task : Task) : Type 0 where
  pub within : IsWithinObject task limits
  pub replaces : task.fresh ≡ false

-- the work of each task, in their order
abbrev pub AreWorksOf : Config → Limits → List Task → List Work → Type 0
AreWorksOf config limits [] [] = Unit {0}
AreWorksOf config limits (task ∷ tasks) (w ∷ works) =
    IsWorkOf task config limits w × AreWorksOf config limits tasks works
AreWorksOf config limits tasks works = ⊥

-- ---- parts

-- the bytes of a piece that stand in a part; those of a copy go from object to object
abbrev pub piece_bytes : Kind → (piece : ℕ) → ℕ
piece_bytes kind.Upload piece = piece
piece_bytes kind.Download piece = piece
piece_bytes of_kind piece = 0

abbrev pub part_bytes : Work → ℕ
part_bytes w = piece_bytes w.of_kind w.piece

-- those of the longest piece
abbrev pub most_bytes : List Work → ℕ
most_bytes works = fold (λ (most : ℕ) (w : Work). max most (part_bytes w)) 0 works

-- ---- needs

pub record AreNeedsOf (config : Config) (limits : Limits) (tasks : List Task) (needs : Needs) : Type 0 where
  pub works : List Work
  pub works_are : AreWorksOf config limits tasks works
  pub entries_are : needs.entries ≡ journal_room works
  pub bytes_are : needs.bytes ≡ most_bytes works
