-- One task more hears of a cancel.
use Rattle.std.proofs.Common.{◌≡◌, ◌∙◌, ◌+◌, ◌-◌, ◌<◌, ◌≤◌, ◌==◌, ◌&&◌, ◌||◌, ◌∷◌, ℕ, Bool, true, false, Option, Some, None}
use Rattle.std.proofs.Common.{◌⊎◌, inl, inr, refl, sym, subst, ap, arith, get_or, is_some, length, not, slice_get, if◌then◌else◌}
use Rattle.std.specs.Option.{option_or}
use Rattle.std.proofs.lemmas.Bool.{eqb-true, le-ltb, lt-ltb}
use Rattle.s3_model.specs.declared.bytes.Part.{Part}
use Rattle.s3_model.specs.declared.outcomes.Cause.{Cause}
use Rattle.s3_model.specs.declared.outcomes.Cause.TheVariants as cause
use Rattle.s3_model.specs.declared.outcomes.Outcome.{Outcome}
use Rattle.s3_model.specs.declared.outcomes.Outcome.TheVariants as outcome
use Rattle.s3_model.specs.declared.outcomes.Reason.{Reason}
use Rattle.alike_histories.proofs.Alike.{alike_says_the_same}
use Rattle.task_acts.specs.declared.acts.Act.{Act}
use Rattle.task_acts.specs.declared.work.Work.{Work}
use Rattle.task_acts.specs.Ends.{outcome_of, settled}
use Rattle.task_acts.specs.Failures.{first_failure, first_reason, is_stopped}
use Rattle.task_acts.specs.Histories.{Cancelled, History}
use Rattle.task_acts.specs.Kept.{IsHistory}
use Rattle.task_acts.specs.Rule.{first_ready_in}
use Rattle.task_acts.specs.Stages.{stage}
use Rattle.task_acts.specs.Work.{is_piece}
use Rattle.held_parts.specs.Held.{IsSamePool, SeenParts, held_at, inner}
use Rattle.manager_moves.proofs.CountLemmas.{no}
use Rattle.manager_moves.proofs.HoldLemmas.{same_number}
use Rattle.manager_moves.proofs.PartLaws.{nothing, same_value}
use Rattle.manager_moves.proofs.ShareLaws.{shares_are_histories}
use Rattle.manager_moves.specs.Moves.{made, ready}
use Rattle.manager_moves.specs.Parts.{has_part}
use Rattle.manager_moves.specs.Runs.{Events, Shared, Stopped, lacks_memory, made_count, share}
use Rattle.manager_parts.specs.Counts.{holds_of}
use Rattle.part_tables.specs.Tables.{IsFreed, IsTableBut, goes_on, is_cancelled}
use Rattle.queue_laws.specs.Holding.{HoldLanes}
use Rattle.queue_laws.specs.ReadyActs.{sort_at, sort_if}
use Rattle.run_progress.proofs.Limits.{few_made}
use Rattle.task_core.specs.Machine.{SeenTask}
use Rattle.task_progress.proofs.Quiet.{outcome_quiet}
use Rattle.task_progress.specs.Progress.{HasPiece}
use Rattle.move_laws.proofs.Cancels.{cancels_wait, share_cancels, stands_there}
use Rattle.move_laws.proofs.EndedParts.{none_held_ended, none_held_waiting}
use Rattle.move_laws.proofs.Moving.{front_at}
use Rattle.move_laws.proofs.OpenCounts.{one_if_open, open_changed, open_counts}
use Rattle.move_laws.proofs.Settled.{between, is_moved, same_outcome, slot_holds}
use Rattle.move_laws.proofs.Sorting.{sorted}
use Rattle.move_laws.proofs.ToldTable.{empty_told, freed_told, is_none, stopped_told, told_with_jobs}
use Rattle.move_laws.proofs.Stopping.{hears}
use Rattle.move_laws.specs.Admits.{IsRunOf}
use Rattle.move_laws.specs.Cancelling.{HaveHeard, IsKept, is_to_hear, open_from}
use Rattle.move_laws.specs.Follows.{HasEnded, HoldsTask, IsTaskIn, outcome_at}
use Rattle.move_laws.specs.Freed.{AreWithJobs, keeps_part}
use Rattle.move_laws.specs.Kept.{IsMoved, IsSound, SeenMoves, ended_count, slot_for, sort_by, state_at, with_state}

-- ---- the tasks below a number and one more

pub below_or : (n task : ℕ) → n < task + 1 → (b : Bool) → (task == n) ≡ b → (n < task) ⊎ (task ≡ n)
below_or n task l true e = inr (eqb-true task n e)
below_or n task l false e = inl (apart task n l e)
  where
    apart : (a b : ℕ) → b < a + 1 → (a == b) ≡ false → b < a
    apart a b l e = grind arith

above_apart : (n task : ℕ) → task + 1 ≤ n → (task == n) ≡ false
above_apart n task l = grind arith

below_apart : (n task : ℕ) → n < task → (task == n) ≡ false
below_apart n task l = grind arith

or_same : {X : Type 0} (x y : Option X) → is_some x ≡ true → option_or x y ≡ x
or_same None y e = no e
or_same (Some x) y e = refl

no_right : (a : Bool) (x : Option Reason) → x ≡ None → (a || is_some x) ≡ a
no_right true x e = refl
no_right false x e = ap (λ (y : Option Reason). is_some y) e

module _ (s : Shared) (events : Events) (reason : Reason) (run : IsRunOf s (Stopped reason ∷ events)) (task : ℕ)
    (w : Work) (there : slice_get s.works task ≡ Some w) (below : task < made_count events) where
  abbrev after : Events
  after = Stopped reason ∷ events

  abbrev h : History
  h = share w task events

  abbrev now : History
  now = Cancelled reason ∷ h

  piece : HasPiece w
  piece = run.pieces task w there

  is_history : IsHistory w now
  is_history = shares_are_histories s after task w there run.run

  is_made : slice_get (made s events) task ≡ Some w
  is_made =
      front_at (made_count events) s.works task
      ∙ ap (λ (b : Bool). if b then slice_get s.works task else None) (lt-ltb task (made_count events) below) ∙ there

  quiet : is_some (outcome_of w now) ≡ true → first_ready_in w now ≡ None
  quiet e = (outcome_quiet w now piece is_history e).0

  -- the outcome and the sort of a task that was made
  abbrev outcome_by : (made lost : Bool) → Option Outcome → Option Outcome
  outcome_by made lost ended =
      if made then (if lost then Some (outcome.Failed cause.Memory) else ended) else None

  outcome_now : (lost : Bool) → lacks_memory task events ≡ lost
      → outcome_at task (slice_get s.works task) after ≡ outcome_by true lost (outcome_of w now)
  outcome_now lost e =
      ap (λ (o : Option Work). outcome_at task o after) there
      ∙ ap (λ (b : Bool). outcome_by b (lacks_memory task events) (outcome_of w now))
      (lt-ltb task (made_count events) below) ∙ ap (λ (b : Bool). outcome_by true b (outcome_of w now)) e

  outcome_before : (lost : Bool) → lacks_memory task events ≡ lost
      → outcome_at task (slice_get s.works task) events ≡ outcome_by true lost (outcome_of w h)
  outcome_before lost e =
      ap (λ (o : Option Work). outcome_at task o events) there
      ∙ ap (λ (b : Bool). outcome_by b (lacks_memory task events) (outcome_of w h))
      (lt-ltb task (made_count events) below) ∙ ap (λ (b : Bool). outcome_by true b (outcome_of w h)) e

  abbrev ready_by : (lost : Bool) → Option Act → Option Act
  ready_by lost ready = if lost then None else ready

  sort_now : (lost : Bool) → lacks_memory task events ≡ lost
      → sort_at s after task (slice_get (made s after) task) ≡ sort_if w now (ready_by lost (first_ready_in w now))
  sort_now lost e =
      ap (λ (o : Option Work). sort_at s after task o) is_made
      ∙ ap (λ (b : Bool). sort_if w now (ready_by b (first_ready_in w now))) e

  sort_before : (lost : Bool) → lacks_memory task events ≡ lost
      → sort_at s events task (slice_get (made s events) task) ≡ sort_if w h (ready_by lost (first_ready_in w h))
  sort_before lost e =
      ap (λ (o : Option Work). sort_at s events task o) is_made
      ∙ ap (λ (b : Bool). sort_if w h (ready_by b (first_ready_in w h))) e

  module _ (m : SeenMoves) (heard : HaveHeard s events reason task m) where
    before : IsKept s events m task
    before = heard.untold task (omega arith)

    -- ---- its state is not there

    module _ (empty : state_at m task ≡ None) where
      has_ended : lacks_memory task events ≡ false → HasEnded w h
      has_ended e =
          subst (λ (o : Option SeenTask). HoldsTask m.parts.pool.room w h o) empty (before.state w is_made e)

      waits : (lost : Bool) → lacks_memory task events ≡ lost → sort_if w h (ready_by lost (first_ready_in w h)) ≡ None
      waits true e = refl
      waits false e = ap (λ (a : Option Act). sort_if w h a) (has_ended e).waits

      still_ended : lacks_memory task events ≡ false → outcome_of w now ≡ outcome_of w h
      still_ended e = or_same (outcome_of w h) (settled w now) (has_ended e).ended

      ended_now : lacks_memory task events ≡ false → is_some (outcome_of w now) ≡ true
      ended_now e = ap (λ (o : Option Outcome). is_some o) (still_ended e) ∙ (has_ended e).ended

      waits_now : (lost : Bool) → lacks_memory task events ≡ lost
          → sort_if w now (ready_by lost (first_ready_in w now)) ≡ None
      waits_now true e = refl
      waits_now false e = ap (λ (a : Option Act). sort_if w now a) (quiet (ended_now e))

      same_outcome_now : (lost : Bool) → lacks_memory task events ≡ lost
          → outcome_by true lost (outcome_of w h) ≡ outcome_by true lost (outcome_of w now)
      same_outcome_now true e = refl
      same_outcome_now false e = sym (still_ended e)

      abbrev lost_is : Bool
      lost_is = lacks_memory task events

      kept_empty : IsKept s after m task
      kept_empty = record {
        act = before.act ∙ sort_before lost_is refl ∙ waits lost_is refl ∙ sym (waits_now lost_is refl)
            ∙ sym (sort_now lost_is refl);
        outcome = before.outcome ∙ outcome_before lost_is refl ∙ same_outcome_now lost_is refl
            ∙ sym (outcome_now lost_is refl);
        lost = before.lost;
        state = λ v e fits.
            subst (λ (o : Option SeenTask). HoldsTask m.parts.pool.room v (share v task after) o) (sym empty)
            (subst (λ (x : Work). HasEnded x (share x task after)) (same_value (sym is_made ∙ e))
            (record { ended = ended_now fits; waits = quiet (ended_now fits) }));
      }

      none_of : (n : ℕ) (b : Bool) → is_piece w n ≡ b → (lost : Bool) → lacks_memory task events ≡ lost
          → (b && has_part w h n) ≡ false
      none_of n false its lost e = refl
      none_of n true its true e =
          none_held_waiting w h n
          (λ a. ap (λ (x : History). stage w x a) (share_cancels s task w there events run.run.1 (inr e))
          ∙ cancels_wait w events a)
      none_of n true its false e = none_held_ended w h n piece is_history.1 (has_ended e).ended its

      none_held : (n : ℕ) → held_at m.parts.slots task n ≡ None
      none_held n = is_none (held_at m.parts.slots task n)
          (heard.held task n (omega arith) ∙ ap (λ (o : Option Work). holds_of o events task n) there
          ∙ none_of n (is_piece w n) refl lost_is refl)

      pub tells_none : HaveHeard s events reason (task + 1) m
      tells_none = record {
        count = heard.count;
        queue = heard.queue;
        buffers = heard.buffers;
        some_lane = heard.some_lane;
        lanes = heard.lanes;
        made_is = heard.made_is;
        lined = heard.lined;
        unfinished = heard.unfinished;
        reason_is = heard.reason_is;
        first = heard.first;
        parts = empty_told s events reason run.run task w there m.parts.slots heard.parts none_held;
        held = λ n number l. heard.held n number (omega arith);
        told = λ n l. each n (below_or n task l (task == n) refl);
        untold = λ n l. heard.untold n (omega arith);
      }
        where
          each : (n : ℕ) → (n < task) ⊎ (task ≡ n) → IsKept s after m n
          each n (inl l) = heard.told n l
          each n (inr e) = subst (λ (k : ℕ). IsKept s after m k) e kept_empty

    -- ---- its state is there

    module _ (t : SeenTask) (slot : state_at m task ≡ Some t) where
      memory : (b : Bool) → lacks_memory task events ≡ b → b ≡ false
      memory true e = absurd (nothing (sym (before.lost e) ∙ slot))
      memory false e = refl

      fits : lacks_memory task events ≡ false
      fits = memory (lacks_memory task events) refl

      it_holds : HoldsTask m.parts.pool.room w h (Some t)
      it_holds =
          subst (λ (o : Option SeenTask). HoldsTask m.parts.pool.room w h o) slot (before.state w is_made fits)

      is_in : IsTaskIn m.parts.pool.room w h t
      is_in = it_holds.0

      no_reason : first_reason h ≡ None
      no_reason = hears w task events ∙ heard.first

      pub failing_is : t.causes.failing ≡ is_stopped w h
      failing_is =
          is_in.stands.failing_is
          ∙ ap (λ (x : Option Cause). is_some x) (alike_says_the_same w is_in.heard h is_in.alike.told_are).failure
          ∙ sym (no_right (is_some (first_failure w h)) (first_reason h) no_reason)

      hears_by : (stopped : Bool) → is_stopped w h ≡ stopped → is_to_hear s.works events task task ≡ not stopped
      hears_by stopped e =
          ap (λ (b : Bool). not b && is_cancelled s.works events task) (le-ltb task task (omega arith))
          ∙ ap (λ (b : Bool). b && goes_on (slice_get s.works task) task events) (lt-ltb task (made_count events) below)
          ∙ ap (λ (o : Option Work). goes_on o task events) there ∙ ap not e

      pub with_jobs : t.causes.failing ≡ false → AreWithJobs m.parts task t
      with_jobs e =
          let going = sym failing_is ∙ e in
          told_with_jobs s events reason run.run task w there m.parts.slots heard.parts m.parts.pool.room t is_in going
          (hears_by false going) m.parts refl refl

      no_outcome : get_or m.outcomes task None ≡ None
      no_outcome =
          before.outcome ∙ outcome_before false fits
          ∙ sym (same_outcome m.parts.pool.room w h t is_in) ∙ it_holds.1

      -- one task at least is unfinished
      pub is_counted : 1 ≤ m.unfinished
      is_counted =
          let one : one_if_open (get_or m.outcomes task None) ≡ 1 = ap one_if_open no_outcome in
          let many = open_counts m.outcomes task 0 task (made s events) w (omega arith) is_made in
          omega (arith, one, many, heard.unfinished)

      -- ---- what becomes of it

      module _ (sound : IsSound m.acts m.slots m.outcomes m.made) (t2 : SeenTask) (parts : SeenParts) (new : SeenMoves)
          (freed : t.causes.failing ≡ false → IsFreed task (keeps_part t) m.parts.slots parts.slots)
          (same : t.causes.failing ≡ true → parts ≡ m.parts) (pool : IsSamePool m.parts.pool parts.pool)
          (told_it : IsTaskIn m.parts.pool.room w now t2)
          (is : new ≡ with_state task t2 (between task parts m.lanes m)) where
        within : task < length m.slots
        within = omega (arith, sound.made_few, heard.made_is, below)

        moved : IsMoved task (sort_by t2) (slot_for t2) t2.outcome m new
        moved = is_moved task t2 parts m.lanes m new sound within pool is

        -- ---- the table

        other_freed : (b k : Bool) (x : Option (Option Part)) → b ≡ false
            → (if b && is_some (inner (if b && k then None else x)) then None else (if b && k then None else x)) ≡ x
        other_freed true k x e = no (sym e)
        other_freed false k x e = refl

        others_hold : (f : Bool) → t.causes.failing ≡ f → (n number : ℕ) → (task == n) ≡ false
            → held_at parts.slots n number ≡ held_at m.parts.slots n number
        others_hold true e n number other = ap (λ (p : SeenParts). held_at p.slots n number) (same e)
        others_hold false e n number other =
            freed e n number ∙ other_freed (task == n) (keeps_part t number) (held_at m.parts.slots n number) other

        abbrev IsTold : SeenParts → Type 0
        IsTold p = IsTableBut (is_to_hear s.works events (task + 1)) s.works after p.slots

        table : (f : Bool) → t.causes.failing ≡ f → IsTold parts
        table true e =
            subst IsTold (sym (same e))
            (stopped_told s events reason run.run task w there m.parts.slots heard.parts
            (hears_by true (sym failing_is ∙ e)))
        table false e =
            freed_told s events reason run.run task w there m.parts.slots heard.parts m.parts.pool.room t is_in
            (sym failing_is ∙ e) parts.slots (freed e)

        -- ---- the task and the others

        at_same : {X : Type 0} (b : Bool) (x y : X) → b ≡ true → (if b then x else y) ≡ x
        at_same true x y e = refl
        at_same false x y e = no e

        at_other : {X : Type 0} (b : Bool) (x y : X) → b ≡ false → (if b then x else y) ≡ y
        at_other true x y e = no (sym e)
        at_other false x y e = refl

        slot_now : state_at new task ≡ slot_for t2
        slot_now = moved.slots task ∙ at_same (task == task) (slot_for t2) (state_at m task) (same_number task)

        kept_now : IsKept s after new task
        kept_now = record {
          act = moved.acts task ∙ at_same (task == task) (sort_by t2) (get_or m.acts task None) (same_number task)
              ∙ sorted m.parts.pool.room w now t2 told_it ∙ sym (sort_now false fits);
          outcome = moved.outcomes task
              ∙ at_same (task == task) t2.outcome (get_or m.outcomes task None) (same_number task)
              ∙ same_outcome m.parts.pool.room w now t2 told_it ∙ sym (outcome_now false fits);
          lost = λ e. no (sym fits ∙ e);
          state = λ v e found.
              subst (λ (room : ℕ). HoldsTask room v (share v task after) (state_at new task)) (sym moved.room)
              (subst (λ (o : Option SeenTask). HoldsTask m.parts.pool.room v (share v task after) o) (sym slot_now)
              (subst (λ (x : Work). HoldsTask m.parts.pool.room x (share x task after) (slot_for t2))
              (same_value (sym is_made ∙ e)) (slot_holds m.parts.pool.room w now t2 told_it quiet)));
        }

        kept_other : (e : Events) (n : ℕ) → (task == n) ≡ false → IsKept s e m n → IsKept s e new n
        kept_other e n other kept =
            let slot_is : state_at new n ≡ state_at m n =
            moved.slots n ∙ at_other (task == n) (slot_for t2) (state_at m n) other in
            record {
              act = moved.acts n ∙ at_other (task == n) (sort_by t2) (get_or m.acts n None) other ∙ kept.act;
              outcome = moved.outcomes n ∙ at_other (task == n) t2.outcome (get_or m.outcomes n None) other
                  ∙ kept.outcome;
              lost = λ lacks. slot_is ∙ kept.lost lacks;
              state = λ v is found.
                  subst (λ (room : ℕ). HoldsTask room v (share v n e) (state_at new n)) (sym moved.room)
                  (subst (λ (o : Option SeenTask). HoldsTask m.parts.pool.room v (share v n e) o) (sym slot_is)
                  (kept.state v is found));
            }

        -- ---- how many are unfinished

        one_less : (ended : Bool) (was unfinished old count : ℕ) → was ≡ old
            → count + 1 ≡ old + (if ended then 0 else 1) → unfinished ≡ was - (if ended then 1 else 0)
            → unfinished ≡ count
        one_less true was unfinished old count a b c = omega (arith, a, b, c)
        one_less false was unfinished old count a b c = omega (arith, a, b, c)

        counts : new.unfinished ≡ open_from new.outcomes 0 (made s events)
        counts =
            let changed = open_changed m.outcomes new.outcomes task
            (λ n other. moved.outcomes n ∙ at_other (task == n) t2.outcome (get_or m.outcomes n None) other)
            0 task (made s events) w (omega arith) is_made in
            let was : one_if_open (get_or m.outcomes task None) ≡ 1 = ap one_if_open no_outcome in
            let later : one_if_open (get_or new.outcomes task None) ≡ (if is_some t2.outcome then 0 else 1) =
            ap one_if_open (moved.outcomes task
            ∙ at_same (task == task) t2.outcome (get_or m.outcomes task None) (same_number task)) in
            one_less (is_some t2.outcome) m.unfinished new.unfinished (open_from m.outcomes 0 (made s events))
            (open_from new.outcomes 0 (made s events)) heard.unfinished (omega (arith, changed, was, later))
            (ap (λ (x : SeenMoves). x.unfinished) is)

        pub tells_task : HaveHeard s events reason (task + 1) new
        tells_task = record {
          count = moved.count ∙ heard.count;
          queue = moved.queue ∙ heard.queue;
          buffers = moved.buffers ∙ heard.buffers;
          some_lane = heard.some_lane;
          lanes = subst (λ (x : SeenMoves). HoldLanes s events x.lanes) (sym is) heard.lanes;
          made_is = ap (λ (x : SeenMoves). x.made) is ∙ heard.made_is;
          lined = moved.lined ∙ heard.lined;
          unfinished = counts;
          reason_is = moved.reason ∙ heard.reason_is;
          first = heard.first;
          parts = subst (λ (x : SeenMoves). IsTold x.parts) (sym is) (table t.causes.failing refl);
          held = λ n number l.
              ap (λ (x : SeenMoves). is_some (held_at x.parts.slots n number)) is
              ∙ ap (λ (x : Option (Option Part)). is_some x)
              (others_hold t.causes.failing refl n number (above_apart n task l))
              ∙ heard.held n number (omega arith);
          told = λ n l. each n (below_or n task l (task == n) refl);
          untold = λ n l. kept_other events n (above_apart n task l) (heard.untold n (omega arith));
        }
          where
            each : (n : ℕ) → (n < task) ⊎ (task ≡ n) → IsKept s after new n
            each n (inl l) = kept_other after n (below_apart n task l) (heard.told n l)
            each n (inr e) = subst (λ (k : ℕ). IsKept s after new k) e kept_now

-- ---- by what is kept alone

-- a task with that state heard of the cancel, and its parts are free if that stopped it
pub record HasHeard (task : ℕ) (reason : Reason) (t : SeenTask) (parts : SeenParts) (t2 : SeenTask) (parts2 : SeenParts)
    : Type 0 where
  pub freed : t.causes.failing ≡ false → IsFreed task (keeps_part t) parts.slots parts2.slots
  pub same : t.causes.failing ≡ true → parts2 ≡ parts
  pub pool : IsSamePool parts.pool parts2.pool
  pub told : (room : ℕ) (w : Work) (h : History) → IsTaskIn room w h t → IsTaskIn room w (Cancelled reason ∷ h) t2

module _ (s : Shared) (events : Events) (reason : Reason) (run : IsRunOf s (Stopped reason ∷ events)) (task : ℕ)
    (m : SeenMoves) (heard : HaveHeard s events reason task m) (below : task < m.made) where
  pub has_slot : task < length m.slots
  has_slot =
      let few = few_made s (Stopped reason ∷ events) run.run in
      omega (arith, few, below, heard.made_is, heard.count)

  its : (w : Work) × (slice_get s.works task ≡ Some w)
  its = stands_there s.works task (omega (arith, has_slot, heard.count))

  made_so : task < made_count events
  made_so = omega (arith, below, heard.made_is)

  none_is : (o : Option SeenTask) → is_some o ≡ false → o ≡ None
  none_is None e = refl
  none_is (Some t) e = no (sym e)

  -- a task without a state has no need to hear
  pub tells_nobody : is_some (state_at m task) ≡ false → HaveHeard s events reason (task + 1) m
  tells_nobody e = tells_none s events reason run task its.0 its.1 made_so m heard (none_is (state_at m task) e)

  module _ (t : SeenTask) (slot : state_at m task ≡ Some t) where
    pub may_free : t.causes.failing ≡ false → AreWithJobs m.parts task t
    may_free = with_jobs s events reason run task its.0 its.1 made_so m heard t slot

    at_most_one : (b : Bool) → (if b then 1 else 0) ≤ 1
    at_most_one true = omega arith
    at_most_one false = omega arith

    -- it can be counted off
    pub counts_off : (t2 : SeenTask) → ended_count t2 ≤ m.unfinished
    counts_off t2 =
        let some = is_counted s events reason run task its.0 its.1 made_so m heard t slot in
        let one = at_most_one (is_some t2.outcome) in omega (arith, some, one)

    pub tells_one : IsSound m.acts m.slots m.outcomes m.made → (t2 : SeenTask) (parts : SeenParts) (new : SeenMoves)
        → HasHeard task reason t m.parts t2 parts → new ≡ with_state task t2 (between task parts m.lanes m)
        → HaveHeard s events reason (task + 1) new
    tells_one sound t2 parts new has is =
        tells_task s events reason run task its.0 its.1 made_so m heard t slot sound t2 parts new has.freed has.same
        has.pool
        (has.told m.parts.pool.room its.0 (share its.0 task events)
        (is_in s events reason run task its.0 its.1 made_so m heard t slot)) is
