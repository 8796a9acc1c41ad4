-- How a dispatch went: well, cut, or failed.
use Rattle.std.specs.Prelude.{◌≡◌, ◌≢◌, ◌+◌, ◌<◌, ◌⊎◌, ℕ, true, false, List, [], ◌∷◌, Option, Some}
use Rattle.std.specs.Prelude.{None, IsSome, Contains, length}
use Rattle.s3_model.specs.declared.requests.Op.TheVariants as op
use Rattle.s3_model.specs.declared.requests.Ask.{Ask}
use Rattle.s3_model.specs.declared.requests.Ask.TheVariants as ask
use Rattle.s3_model.specs.declared.answers.Reply.TheVariants as reply
use Rattle.s3_model.specs.declared.answers.Class.{Class}
use Rattle.s3_model.specs.declared.answers.Class.TheVariants as class
use Rattle.s3_model.specs.declared.tries.Mark.TheVariants as mark
use Rattle.s3_model.specs.Classes.{is_tried_again}
use Rattle.s3_model.specs.Talks.{Talk}
use Rattle.job_terms.specs.Dispatches.{Attempt, Dispatched, last_of}

abbrev pub IsSuccessLast : Option Attempt → Type 0
IsSuccessLast None = ⊥
IsSuccessLast (Some attempt) = attempt.mark ≡ mark.Success

-- the reply to a Get is what was asked for: the whole of that size, or the range
abbrev pub FitsAsk : Dispatched → Ask → Class → Type 0
FitsAsk c (ask.Get bucket key etag None) (class.Success (reply.Got status range length)) =
    (status ≡ 200) × (length ≡ c.limit)
FitsAsk c (ask.Get bucket key etag (Some asked)) (class.Success (reply.Got status range length)) =
    (status ≡ 206) × (range ≡ Some (asked.0, asked.1, c.size)) × (length ≡ c.limit)
FitsAsk c asked answer = Unit {0}

-- `Shows ask limit talk class bytes`: the talk has that class for the ask, and its answer that body
module _ (Shows : Ask → ℕ → Talk → Class → List ℕ → Type 0) where
  abbrev pub ShowsIn : Dispatched → Attempt → Class → List ℕ → Type 0
  ShowsIn c attempt = Shows c.ask c.limit attempt.talk

  abbrev pub FitsLast : Dispatched → Option Attempt → Type 0
  FitsLast c None = ⊥
  FitsLast c (Some attempt) =
      (of_class : Class) (bytes : List ℕ) → ShowsIn c attempt of_class bytes → FitsAsk c c.ask of_class

  -- its last attempt was a Success, and a Get's reply is what was asked for
  abbrev pub IsCompletedWell : Dispatched → Type 0
  IsCompletedWell c = IsSuccessLast (last_of c.dispatch.attempts) × FitsLast c (last_of c.dispatch.attempts)

  -- no attempt was made, or the last one would be tried again and others were left
  abbrev pub IsUnfinished : ℕ → Dispatched → Option Attempt → Type 0
  IsUnfinished most c None = Unit {0}
  IsUnfinished most c (Some attempt) =
      (of_class : Class) × (bytes : List ℕ) × ShowsIn c attempt of_class bytes × (is_tried_again of_class ≡ true)
      × (c.dispatch.earlier + length c.dispatch.attempts < most)

  -- A job that came is cut where it is given again, or where it was unfinished and something else stopped it.
  abbrev pub IsCut : ℕ → Dispatched → List Dispatched → Type 0 → Type 0
  IsCut most c later IsStopped =
      ((other : Dispatched) × Contains later other × (other.dispatch.job ≡ c.dispatch.job))
      ⊎ ((c.dispatch.is_second ≡ false) × (c.dispatch.job.op ≢ op.Abort) × IsSome c.dispatch.job.task
      × IsUnfinished most c (last_of c.dispatch.attempts) × IsStopped)

  -- a job of the task, no Abort, failed among those that came, which stand in the order of their coming
  abbrev pub IsFailing : ℕ → Option ℕ → Type 0 → List Dispatched → Type 0
  IsFailing most task IsStopped [] = ⊥
  IsFailing most task IsStopped (c ∷ later) =
      ((c.dispatch.job.task ≡ task) × (c.dispatch.job.op ≢ op.Abort)
      × ¬ (IsCut most c later (IsStopped ⊎ IsFailing most task IsStopped later)) × ¬ (IsCompletedWell c))
      ⊎ IsFailing most task IsStopped later
