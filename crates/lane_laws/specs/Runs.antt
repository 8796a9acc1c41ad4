-- The jobs of a run, as its lanes carried them.
use Rattle.std.specs.Prelude.{◌≡◌, ◌⊎◌, ◌+◌, ◌<◌, ◌≤◌, ◌++◌, ◌==◌, ℕ, true, List, [], ◌∷◌, Option, Some, IfSome}
use Rattle.std.specs.Prelude.{IsSome, map, filter, length, slice_get, unwrap_or, Contains, AllPairs}
use Rattle.s3_model.specs.declared.answers.Class.{Class}
use Rattle.s3_model.specs.declared.answers.Why.TheVariants as why
use Rattle.s3_model.specs.declared.outcomes.Event.{Event}
use Rattle.s3_model.specs.declared.outcomes.Event.TheVariants as entry
use Rattle.s3_model.specs.declared.outcomes.JobId.{JobId}
use Rattle.s3_model.specs.declared.outcomes.Reason.{Reason}
use Rattle.s3_model.specs.declared.places.Endpoint.{Endpoint}
use Rattle.s3_model.specs.declared.settings.Keys.{Keys}
use Rattle.s3_model.specs.declared.tries.Mark.{Mark}
use Rattle.s3_model.specs.Classes.{is_tried_again}
use Rattle.s3_model.specs.Talks.{Talk, Note}
use Rattle.answer_classes.specs.Showing.{Shows}
use Rattle.attempts.specs.Attempts.{text_of}
use Rattle.jobs.specs.declared.ending.Ending.{Ending}
use Rattle.jobs.specs.declared.ending.Ending.TheVariants as ending
use Rattle.lane_jobs.specs.Lanes.{Ends, IsShare, most_attempts}
use Rattle.run_promise.specs.Carried.{IsCarried, MayStop}
use Rattle.job_terms.specs.Attempts.{in_lane, mark_of}
use Rattle.job_terms.specs.Dispatches.{Dispatched, dispatches, last_of, paired}
use Rattle.run_promise.specs.Schedule.{IsBefore, Setting, most_body}

-- one giving of a job: the dispatch, the classes of its attempts, how it ended, and the reason that its cell gave
pub record Giving : Type 0 where
  pub of : Dispatched
  pub classes : List Class
  pub ended : Ending
  pub gave : Option Reason

abbrev pub dispatched_of : List Giving → List Dispatched
dispatched_of givings = map (λ (g : Giving). g.of) givings

-- the givings to that lane, in order
abbrev pub given_to : (lane : ℕ) → List Giving → List Giving
given_to lane givings = filter (λ (g : Giving). g.of.dispatch.lane == lane) givings

-- ---- the lanes

-- The lane carried the job as it was dispatched: its wire gained these talks and notes, and the dispatch has their
-- marks.
pub record IsCarriedJob (endpoint : Endpoint) (keys : Keys) (attempts : ℕ) (g : Giving) (talks : List Talk)
    (notes : List Note) : Type 0 where
  pub limit : Option ℕ
  pub place : List ℕ
  pub limit_is : unwrap_or limit most_body ≡ g.of.limit
  pub attempts_are : g.of.dispatch.attempts ≡ paired (map mark_of g.classes) talks
  pub at_most : g.of.dispatch.earlier + length g.classes ≤ most_attempts attempts g.of.dispatch.earlier
  pub again : (k : ℕ) (shown : Class) → slice_get g.classes k ≡ Some shown → k + 1 < length g.classes
      → is_tried_again shown ≡ true
  pub ends : Ends (g.of.dispatch.earlier + length g.classes) (most_attempts attempts g.of.dispatch.earlier) g.gave
      g.classes g.ended
  pub shared : IsShare (record { endpoint = endpoint; keys = keys; asked = g.of.ask; body = g.of.body; limit = limit })
      g.of.dispatch.earlier place g.classes g.ended talks notes

-- what the wire of a lane gained is these jobs, one after the other
abbrev pub AreCarriedJobs : Endpoint → Keys → (attempts : ℕ) → List Giving → List Talk → List Note → Type 0
AreCarriedJobs endpoint keys attempts [] talks notes = (talks ≡ []) × (notes ≡ [])
AreCarriedJobs endpoint keys attempts (g ∷ givings) talks notes =
    (first : List Talk) × (more : List Talk) × (noted : List Note) × (others : List Note)
    × (talks ≡ first ++ more) × (notes ≡ noted ++ others)
    × IsCarriedJob endpoint keys attempts g first noted × AreCarriedJobs endpoint keys attempts givings more others

-- ---- the journal

-- What the journal says: each dispatch comes once, in the order of its lane, and nothing else does. These six are
-- fields of `IsCarried` word for word, which the law passes on: whoever writes the journal gives them.
pub record IsJournal (s : Setting) (journal : List Event) (logs : ℕ → List Talk) (notes : ℕ → List Note)
    (dispatched : List Dispatched) : Type 0 where
  pub shown : map (λ (c : Dispatched). c.dispatch) dispatched ≡ dispatches journal logs
  pub comes : (c : Dispatched) → Contains dispatched c → (place : ℕ) × (tries : List Mark)
      × (c.dispatch.came_at ≡ Some place)
      × (slice_get journal place ≡ Some (entry.Came c.dispatch.job c.dispatch.lane tries))
      × (length tries ≡ length c.dispatch.attempts)
  pub lanes : (c : Dispatched) → Contains dispatched c → c.dispatch.lane < s.lanes
  pub unused_lanes : (lane : ℕ) → s.lanes ≤ lane → (logs lane ≡ []) × (notes lane ≡ [])
  pub nothing_else : (place lane : ℕ) (job : JobId) (tries : List Mark)
      → slice_get journal place ≡ Some (entry.Came job lane tries)
      → (c : Dispatched) × Contains dispatched c × (c.dispatch.came_at ≡ Some place)
  pub in_turn : (lane : ℕ) → AllPairs (λ (a b : Dispatched). (at : ℕ) → b.dispatch.came_at ≡ Some at
      → IsBefore a.dispatch.came_at at) (in_lane lane dispatched)

-- ---- the causes

-- Memory ran out before or in an attempt.
abbrev pub RanOut : Ending → Type 0
RanOut ended = (ended ≡ ending.Memory) ⊎ (ended ≡ ending.Uncertain why.Memory)

-- It may be given again: its last attempt, if it made one, is tried again, and others are left.
abbrev pub IsCutShort : Setting → Giving → Type 0
IsCutShort s g =
    IfSome (last_of g.classes) (λ shown. is_tried_again shown ≡ true) × (length g.classes < s.config.attempts)

-- Why jobs wanted memory, stopped early or were given again. A reason that the cell gave stops a job only where the job
-- was cut short: one that ended by a class that is not tried again, or has had all its attempts, needs no cause.
pub record HaveCauses (endpoint : Endpoint) (keys : Keys) (s : Setting) (givings : List Giving)
    (coming : List Dispatched) : Type 0 where
  pub left : (g : Giving) → Contains givings g → g.of.dispatch.earlier < s.config.attempts
  pub wants : (g : Giving) → Contains givings g → RanOut g.ended → s.wanted_memory g.of.dispatch.job.task ≡ true
  pub stops : (g : Giving) → Contains givings g → IsSome g.gave → IsCutShort s g
      → MayStop Shows (text_of endpoint keys) endpoint.host endpoint.port s coming g.of
  pub given_again : AllPairs (λ (a b : Dispatched). a.dispatch.job ≡ b.dispatch.job
      → (g : Giving) × Contains givings g × (g.of ≡ a) × IsCutShort s g) (dispatched_of givings)

-- Where each wire gained what its lane's jobs say, and nothing else, the jobs of a run are carried.
abbrev pub JobsAreCarried : Type 0
JobsAreCarried =
    (endpoint : Endpoint) (keys : Keys) (s : Setting) (journal : List Event) (logs : ℕ → List Talk)
    (notes : ℕ → List Note) (givings : List Giving) (coming : List Dispatched)
    → IsJournal s journal logs notes (dispatched_of givings)
    → ((lane : ℕ) → AreCarriedJobs endpoint keys s.config.attempts (given_to lane givings) (logs lane) (notes lane))
    → HaveCauses endpoint keys s givings coming
    → IsCarried Shows (text_of endpoint keys) endpoint.host endpoint.port s journal logs notes (dispatched_of givings)
    coming
