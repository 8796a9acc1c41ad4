-- What the wires show of the jobs: every job given is carried, and nothing else is sent.
use Rattle.std.specs.Prelude.{◌≡◌, ◌≢◌, ◌+◌, ◌<◌, ◌≤◌, ◌⊎◌, ℕ, true, List, [], Some}
use Rattle.std.specs.Prelude.{map, count_by, flat_map, length, slice_get, Contains, AllPairs}
use Rattle.std.specs.Prelude.{IsSome}
use Rattle.s3_model.specs.declared.requests.Ask.{Ask}
use Rattle.s3_model.specs.declared.requests.Op.TheVariants as op
use Rattle.s3_model.specs.declared.outcomes.JobId.{JobId}
use Rattle.s3_model.specs.declared.outcomes.Event.{Event}
use Rattle.s3_model.specs.declared.outcomes.Event.TheVariants as entry
use Rattle.s3_model.specs.declared.answers.Class.{Class}
use Rattle.s3_model.specs.declared.answers.Class.TheVariants as class
use Rattle.s3_model.specs.declared.answers.Why.TheVariants as why
use Rattle.s3_model.specs.declared.tries.Mark.{Mark}
use Rattle.s3_model.specs.declared.tries.Mark.TheVariants as mark
use Rattle.s3_model.specs.Classes.{is_tried_again}
use Rattle.s3_model.specs.Talks.{Talk, Note}
use Rattle.job_terms.specs.Dispatches.{Attempt, Dispatched, dispatches, last_of}
use Rattle.run_promise.specs.Schedule.{Setting, IsBefore, IsBeforePlace, IsCutIn, IsFailed, file_call_failed}
use Rattle.job_terms.specs.Attempts.{AreNoted, in_lane, mark_of, numbered_from, talks_of}

-- `Shows ask limit talk class bytes`: the talk has that class for the ask, and its answer that body;
-- `request_text ask body moment`: the text of a request, signed at that moment
module _ (Shows : Ask → ℕ → Talk → Class → List ℕ → Type 0) (request_text : Ask → List ℕ → ℕ → List ℕ)
    (host : List ℕ) (port : ℕ) where
  -- a file call of its task failed, or before it came another job of its task had failed
  abbrev pub IsStoppedBefore : Setting → List Dispatched → Dispatched → Type 0
  IsStoppedBefore s coming c =
      (file_call_failed s c.dispatch.job.task ≡ true)
      ⊎ ((failed : Dispatched) × IsFailed Shows s coming failed × (failed.dispatch.job.task ≡ c.dispatch.job.task)
      × (failed.dispatch.job ≢ c.dispatch.job)
      × IsBeforePlace failed.dispatch.came_at c.dispatch.came_at)

  -- A task's job, no Abort, may stop before its attempts are through where it is cut, or where something had stopped
  -- its task before it came.
  abbrev pub MayStop : Setting → List Dispatched → Dispatched → Type 0
  MayStop s coming c =
      IsSome c.dispatch.job.task × (c.dispatch.job.op ≢ op.Abort)
      × (IsCutIn Shows s coming c ⊎ IsStoppedBefore s coming c)

  abbrev pub IsWanting : Setting → Dispatched → Type 0
  IsWanting s c = s.wanted_memory c.dispatch.job.task ≡ true

  -- the last attempt may be tried again, as far as its talk shows
  abbrev pub WouldGoOn : Dispatched → Attempt → Type 0
  WouldGoOn c attempt =
      (shown : Class) × (bytes : List ℕ) × Shows c.ask c.limit attempt.talk shown bytes × (is_tried_again shown ≡ true)

  pub record IsCarried (s : Setting) (journal : List Event) (logs : ℕ → List Talk) (notes : ℕ → List Note)
      (dispatched coming : List Dispatched) : Type 0 where
    -- the dispatches are those of the journal, with the talks of the logs; each comes once, with as many talks as
    -- marks, in the order of its lane
    pub shown : map (λ (c : Dispatched). c.dispatch) dispatched ≡ dispatches journal logs
    pub comes : (c : Dispatched) → Contains dispatched c → (place : ℕ) × (tries : List Mark)
        × (c.dispatch.came_at ≡ Some place)
        × (slice_get journal place ≡ Some (entry.Came c.dispatch.job c.dispatch.lane tries))
        × (length tries ≡ length c.dispatch.attempts)
    -- only the lanes used have jobs, and the other wires gain nothing
    pub lanes : (c : Dispatched) → Contains dispatched c → c.dispatch.lane < s.lanes
    pub unused_lanes : (lane : ℕ) → s.lanes ≤ lane → (logs lane ≡ []) × (notes lane ≡ [])
    pub nothing_else : (place lane : ℕ) (job : JobId) (tries : List Mark)
        → slice_get journal place ≡ Some (entry.Came job lane tries)
        → (c : Dispatched) × Contains dispatched c × (c.dispatch.came_at ≡ Some place)
    pub in_turn : (lane : ℕ) → AllPairs (λ (a b : Dispatched). (at : ℕ) → b.dispatch.came_at ≡ Some at
        → IsBefore a.dispatch.came_at at) (in_lane lane dispatched)
    pub gained : (lane : ℕ) → logs lane ≡ flat_map talks_of (in_lane lane dispatched)
    pub noted : (lane : ℕ) → (unused : ℕ)
        × (unused ≤ count_by (λ (c : Dispatched). s.wanted_memory c.dispatch.job.task) (in_lane lane dispatched))
        × AreNoted Shows request_text host port unused
        (flat_map (λ (c : Dispatched). numbered_from c 0 c.dispatch.attempts) (in_lane lane dispatched)) (notes lane)
    -- a mark is the talk's class, but that the last may be Uncertain since memory ran out
    pub marks : (c : Dispatched) (k : ℕ) (attempt : Attempt) → Contains dispatched c
        → slice_get c.dispatch.attempts k ≡ Some attempt
        → ((shown : Class) × (bytes : List ℕ) × Shows c.ask c.limit attempt.talk shown bytes
        × (attempt.mark ≡ mark_of shown)
        × (shown ≡ class.Uncertain why.Memory → IsWanting s c))
        ⊎ ((k + 1 ≡ length c.dispatch.attempts) × (attempt.mark ≡ mark.Uncertain) × IsWanting s c)
    -- each attempt but the last is tried again, and a job stops early only as above
    pub again : (c : Dispatched) (k : ℕ) (attempt : Attempt) → Contains dispatched c
        → slice_get c.dispatch.attempts k ≡ Some attempt → k + 1 < length c.dispatch.attempts
        → WouldGoOn c attempt
    -- also where the job is given again
    pub given_again : AllPairs (λ (a b : Dispatched). a.dispatch.job ≡ b.dispatch.job → (attempt : Attempt)
        → last_of a.dispatch.attempts ≡ Some attempt
        → WouldGoOn a attempt × (length a.dispatch.attempts < s.config.attempts)) dispatched
    pub at_most : (c : Dispatched) → Contains dispatched c
        → c.dispatch.earlier + length c.dispatch.attempts ≤ s.config.attempts
    pub to_the_end : (c : Dispatched) (attempt : Attempt) → Contains dispatched c
        → last_of c.dispatch.attempts ≡ Some attempt → WouldGoOn c attempt
        → (c.dispatch.earlier + length c.dispatch.attempts ≡ s.config.attempts) ⊎ IsWanting s c ⊎ MayStop s coming c
    pub silent : (c : Dispatched) → Contains dispatched c → c.dispatch.attempts ≡ []
        → IsWanting s c ⊎ MayStop s coming c
