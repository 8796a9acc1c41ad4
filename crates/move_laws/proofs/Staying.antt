-- What of a run stays as it was, by the tasks to which nothing happened.
use Rattle.std.proofs.Common.{◌≡◌, ◌∙◌, ◌+◌, ◌<◌, ◌^◌, ℕ, zero, suc, Bool, true, List, [], ◌∷◌, Option, Some, None}
use Rattle.std.proofs.Common.{refl, sym, subst, ap, arith, get_or, is_some, length, nat_lt, slice_get, if◌then◌else◌}
use Rattle.act_queues.specs.declared.act_queues.ActSort.{ActSort}
use Rattle.manager_moves.proofs.CountLemmas.{no}
use Rattle.manager_moves.specs.Moves.{made, ready, unfinished_from}
use Rattle.manager_moves.specs.Runs.{Events, Lined, Shared, lacks_memory, made_count, outcome_in, share}
use Rattle.part_tables.proofs.Tables.{unchanged}
use Rattle.queue_laws.proofs.LaneLaws.{others_stay}
use Rattle.queue_laws.specs.ReadyActs.{sort_at, sort_if}
use Rattle.s3_model.specs.declared.outcomes.Cause.TheVariants as cause
use Rattle.s3_model.specs.declared.outcomes.Outcome.{Outcome}
use Rattle.s3_model.specs.declared.outcomes.Outcome.TheVariants as outcome
use Rattle.task_acts.specs.declared.acts.Act.{Act}
use Rattle.task_acts.specs.declared.work.Work.{Work}
use Rattle.task_acts.specs.Ends.{outcome_of}
use Rattle.task_acts.specs.Histories.{History}
use Rattle.task_acts.specs.Rule.{first_ready_in}
use Rattle.move_laws.specs.Follows.{Follows, outcome_at}
use Rattle.task_core.specs.Machine.{SeenTask}
use Rattle.move_laws.specs.Kept.{IsSound, SeenMoves}

-- nothing happened to a task
module _ (s : Shared) (events after : Events) (n : ℕ)
    (made_so : nat_lt n (made_count after) ≡ nat_lt n (made_count events))
    (memory : lacks_memory n after ≡ lacks_memory n events)
    (same : (w : Work) → share w n after ≡ share w n events) where
  pub outcome_same : (w : Work) → outcome_in w n after ≡ outcome_in w n events
  outcome_same w =
      ap (λ (b : Bool). if b then (if lacks_memory n after then Some (outcome.Failed cause.Memory)
      else outcome_of w (share w n after)) else None) made_so
      ∙ ap (λ (b : Bool). if nat_lt n (made_count events) then (if b then Some (outcome.Failed cause.Memory)
      else outcome_of w (share w n after)) else None) memory
      ∙ ap (λ (h : History). if nat_lt n (made_count events) then (if lacks_memory n events
      then Some (outcome.Failed cause.Memory) else outcome_of w h) else None) (same w)

  pub outcome_at_same : (w : Option Work) → outcome_at n w after ≡ outcome_at n w events
  outcome_at_same None = refl
  outcome_at_same (Some w) = outcome_same w

  pub ready_same : (w : Work) → ready s after n w ≡ ready s events n w
  ready_same w =
      ap (λ (b : Bool). if b then None else first_ready_in w (share w n after)) memory
      ∙ ap (λ (h : History). if lacks_memory n events then None else first_ready_in w h) (same w)

  pub sort_same : (w : Option Work) → sort_at s after n w ≡ sort_at s events n w
  sort_same None = refl
  sort_same (Some w) =
      ap (λ (h : History). sort_if w h (ready s after n w)) (same w)
      ∙ ap (λ (a : Option Act). sort_if w (share w n events) a) (ready_same w)

-- no task has another outcome
module _ (s : Shared) (events after : Events) (same : (w : Work) (n : ℕ) → outcome_in w n after ≡ outcome_in w n events)
  where
    pub unfinished_same : (n : ℕ) (works : List Work)
        → unfinished_from s after n works ≡ unfinished_from s events n works
    unfinished_same n [] = refl
    unfinished_same n (w ∷ works) =
        ap (λ (o : Option Outcome). (if is_some o then 0 else 1) + unfinished_from s after (n + 1) works) (same w n)
        ∙ ap (λ (k : ℕ). (if is_some (outcome_in w n events) then 0 else 1) + k) (unfinished_same (n + 1) works)

-- ---- a line

pub within : {X : Type 0} (xs : List (Option X)) (n : ℕ) → is_some (get_or xs n None) ≡ true → n < length xs
within [] n e = no e
within (x ∷ xs) zero e = omega arith
within (x ∷ xs) (suc n) e = let below = within xs n e in omega (arith, below)

-- the number of a task that has ended can be counted up
pub line_fits : (acts : List (Option ActSort)) (slots : List (Option SeenTask)) (outcomes : List (Option Outcome))
    (made_so : ℕ) → IsSound acts slots outcomes made_so → (lined : ℕ) → is_some (get_or outcomes lined None) ≡ true
    → lined + 1 < 2 ^ 32
line_fits acts slots outcomes made_so sound lined e =
    let below = within outcomes lined e in omega (arith, below, sound.outcomes_are, sound.few)

module _ (s : Shared) (events : Events) (m new : SeenMoves) (follows : Follows s events m)
    (moved : new ≡ record m { lined = m.lined + 1 }) where
  abbrev after : Events
  after = Lined ∷ events

  lined_now : Follows s after (record m { lined = m.lined + 1 })
  lined_now = record {
    count = follows.count;
    queue = follows.queue;
    buffers = follows.buffers;
    some_lane = follows.some_lane;
    lanes = others_stay s events m.lanes Lined refl follows.lanes;
    acts = λ n. follows.acts n
        ∙ sym (sort_same s events after n refl refl (λ w. refl) (slice_get (made s events) n));
    parts = unchanged s.works events after m.parts.slots m.parts.slots (λ w n. refl) follows.parts;
    made_is = follows.made_is;
    lined = ap (λ (n : ℕ). n + 1) follows.lined;
    unfinished = follows.unfinished
        ∙ sym (unfinished_same s events after (λ w n. outcome_same s events after n refl refl (λ v. refl) w) 0
        (made s events));
    reason = follows.reason;
    outcomes = λ n. follows.outcomes n
        ∙ sym (outcome_at_same s events after n refl refl (λ w. refl) (slice_get s.works n));
    tasks = λ n w there memory. follows.tasks n w there memory;
    lost = λ n e. follows.lost n e;
  }

  pub line_follows : Follows s after new
  line_follows = subst (λ (x : SeenMoves). Follows s after x) (sym moved) lined_now
