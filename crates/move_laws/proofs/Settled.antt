-- A task is in another state, as its share says, and what is kept follows the run.
use Rattle.std.proofs.Common.{◌≡◌, ◌∙◌, ◌+◌, ◌-◌, ◌<◌, ℕ, Bool, true, false, Option, Some, None}
use Rattle.std.proofs.Common.{refl, sym, subst, ap, arith, get_or, is_some, length, length-set, slice_get}
use Rattle.std.proofs.Common.{if◌then◌else◌}
use Rattle.std.specs.Prelude.{set, take}
use Rattle.std.proofs.lemmas.Bool.{lt-ltb}
use Rattle.alike_histories.proofs.Alike.{alike_says_the_same}
use Rattle.held_parts.specs.Held.{IsSamePool, SeenParts}
use Rattle.lane_queues.specs.Lanes.{SeenLanes}
use Rattle.manager_moves.proofs.CountLemmas.{no}
use Rattle.manager_moves.proofs.MoveLaws.{in_front}
use Rattle.manager_moves.proofs.PartLaws.{same_value}
use Rattle.manager_moves.proofs.ShareLaws.{shares_are_histories}
use Rattle.manager_moves.specs.Moves.{made, unfinished_from}
use Rattle.manager_moves.specs.Runs.{Events, Shared, lacks_memory, made_count, outcome_in, share}
use Rattle.part_tables.specs.Tables.{IsTableOf}
use Rattle.queue_laws.specs.Holding.{HoldLanes}
use Rattle.queue_laws.specs.ReadyActs.{sort_at}
use Rattle.queue_laws.specs.ReadyActs as laws
use Rattle.s3_model.specs.declared.outcomes.Cause.TheVariants as cause
use Rattle.s3_model.specs.declared.outcomes.Outcome.{Outcome}
use Rattle.s3_model.specs.declared.outcomes.Outcome.TheVariants as outcome
use Rattle.task_acts.specs.declared.acts.Act.{Act}
use Rattle.task_acts.specs.declared.work.Work.{Work}
use Rattle.task_acts.specs.Ends.{outcome_of}
use Rattle.task_acts.specs.Histories.{History}
use Rattle.task_acts.specs.Rule.{first_ready_in}
use Rattle.task_core.specs.Machine.{SeenTask}
use Rattle.task_progress.proofs.Quiet.{outcome_quiet}
use Rattle.move_laws.proofs.Moving.{IsOfShare, OthersStay, one_counts, one_moves, open_in, set_at, set_twice}
use Rattle.move_laws.proofs.Open.{IsOpen, has_no_outcome, in_take, is_within}
use Rattle.move_laws.proofs.Sorting.{sorted}
use Rattle.move_laws.proofs.Staying.{outcome_same}
use Rattle.move_laws.specs.Admits.{IsRunOf}
use Rattle.move_laws.specs.Follows.{Follows, HoldsTask, IsTaskIn, outcome_at}
use Rattle.move_laws.specs.Kept.{IsMoved, IsSound, SeenMoves, at_task, slot_for, sort_by, with_state}

-- what is kept while the state of a task is taken out, with those parts and jobs
abbrev pub between : (task : ℕ) → SeenParts → SeenLanes → SeenMoves → SeenMoves
between task parts lanes m = record m { slots = set m.slots task None; parts = parts; lanes = lanes }

-- ---- what changes

module _ (task : ℕ) (t : SeenTask) (parts : SeenParts) (lanes : SeenLanes) (m new : SeenMoves)
    (sound : IsSound m.acts m.slots m.outcomes m.made) (within : task < length m.slots)
    (pool : IsSamePool m.parts.pool parts.pool) (is : new ≡ with_state task t (between task parts lanes m)) where
  pub is_moved : IsMoved task (sort_by t) (slot_for t) t.outcome m new
  is_moved = record {
    queue = ap (λ (x : SeenMoves). x.queue) is;
    count = ap (λ (x : SeenMoves). length x.slots) is
        ∙ length-set (set m.slots task None) task (slot_for t) ∙ length-set m.slots task None;
    buffers = ap (λ (x : SeenMoves). x.parts.pool.count) is ∙ pool.count;
    room = ap (λ (x : SeenMoves). x.parts.pool.room) is ∙ pool.room;
    acts = λ n. ap (λ (x : SeenMoves). get_or x.acts n None) is
        ∙ set_at None m.acts task (sort_by t) (omega (arith, within, sound.acts_are)) n;
    slots = λ n. ap (λ (x : SeenMoves). get_or x.slots n None) is
        ∙ set_at None (set m.slots task None) task (slot_for t)
        (omega (arith, within, length-set m.slots task None)) n
        ∙ ap (λ (x : Option SeenTask). at_task task n (slot_for t) x) (set_at None m.slots task None within n)
        ∙ set_twice task n None (slot_for t) (get_or m.slots n None);
    outcomes = λ n. ap (λ (x : SeenMoves). get_or x.outcomes n None) is
        ∙ set_at None m.outcomes task t.outcome (omega (arith, within, sound.outcomes_are)) n;
    lined = ap (λ (x : SeenMoves). x.lined) is;
    reason = ap (λ (x : SeenMoves). x.reason) is;
  }

-- ---- what its share says

none_is : (o : Option Outcome) → is_some o ≡ false → o ≡ None
none_is None e = refl
none_is (Some x) e = no (sym e)

module _ (room : ℕ) (w : Work) (h : History) (t : SeenTask) (is_in : IsTaskIn room w h t) where
  pub same_outcome : t.outcome ≡ outcome_of w h
  same_outcome =
      is_in.stands.outcome_is ∙ (alike_says_the_same w is_in.heard h is_in.alike.told_are).outcome

  -- its slot holds it, where it is ready for nothing once it has an outcome
  pub slot_holds : (is_some (outcome_of w h) ≡ true → first_ready_in w h ≡ None) → HoldsTask room w h (slot_for t)
  slot_holds quiet = by (is_some t.outcome) refl
    where
      by : (b : Bool) → is_some t.outcome ≡ b → HoldsTask room w h (if b then None else Some t)
      by true e =
          let ended : is_some (outcome_of w h) ≡ true = sym (ap is_some same_outcome) ∙ e in
          record { ended = ended; waits = quiet ended }
      by false e = (is_in, none_is t.outcome e)

-- one task less is unfinished, if it has ended
one_less : (ended : Bool) (unfinished before after now : ℕ) → unfinished ≡ before
    → after + 1 ≡ before + (if ended then 0 else 1) → now ≡ unfinished - (if ended then 1 else 0) → now ≡ after
one_less true unfinished before after now a b c = omega (arith, a, b, c)
one_less false unfinished before after now a b c = omega (arith, a, b, c)

module _ (s : Shared) (events after : Events) (task : ℕ) (t : SeenTask) (parts : SeenParts) (lanes : SeenLanes)
    (m new : SeenMoves) (w : Work) (follows : Follows s events m) (going : IsOpen s events m task w)
    (sound : IsSound m.acts m.slots m.outcomes m.made) (run : IsRunOf s after) (stay : OthersStay task events after)
    (made_same : made_count after ≡ made_count events) (fits : lacks_memory task after ≡ lacks_memory task events)
    (is_in : IsTaskIn m.parts.pool.room w (share w task after) t)
    (pool : IsSamePool m.parts.pool parts.pool) (holds : HoldLanes s after lanes)
    (table : IsTableOf s.works after parts.slots)
    (is : new ≡ with_state task t (between task parts lanes m)) where
  abbrev now : History
  now = share w task after

  abbrev room : ℕ
  room = m.parts.pool.room

  there : slice_get (made s after) task ≡ Some w
  there = ap (λ (k : ℕ). slice_get (take k s.works) task) made_same ∙ going.there

  in_plan : slice_get s.works task ≡ Some w
  in_plan = in_front (made_count after) s.works task w there

  memory : lacks_memory task after ≡ false
  memory = fits ∙ going.memory

  sort_is : sort_by t ≡ sort_at s after task (slice_get (made s after) task)
  sort_is =
      sorted room w now t is_in
      ∙ ap (λ (a : Option Act). laws.sort_if w now a)
      (sym (ap (λ (b : Bool). if b then None else first_ready_in w now) memory))
      ∙ sym (ap (λ (o : Option Work). sort_at s after task o) there)

  outcome_is : t.outcome ≡ outcome_of w now
  outcome_is = same_outcome room w now t is_in

  below_made : task < made_count after
  below_made = in_take (made_count after) s.works task w there

  in_it : outcome_in w task after ≡ outcome_of w now
  in_it =
      ap (λ (b : Bool). if b then (if lacks_memory task after then Some (outcome.Failed cause.Memory)
      else outcome_of w now) else None) (lt-ltb task (made_count after) below_made)
      ∙ ap (λ (b : Bool). if b then Some (outcome.Failed cause.Memory) else outcome_of w now) memory

  ended_is : t.outcome ≡ outcome_at task (slice_get s.works task) after
  ended_is = outcome_is ∙ sym in_it ∙ sym (ap (λ (o : Option Work). outcome_at task o after) in_plan)

  quiet : is_some (outcome_of w now) ≡ true → first_ready_in w now ≡ None
  quiet e = (outcome_quiet w now (run.pieces task w in_plan)
      (shares_are_histories s after task w in_plan run.run) e).0

  held : (v : Work) → slice_get (made s after) task ≡ Some v → lacks_memory task after ≡ false
      → HoldsTask room v (share v task after) (slot_for t)
  held v e found = subst (λ (x : Work). HoldsTask room x (share x task after) (slot_for t))
      (same_value (sym there ∙ e)) (slot_holds room w now t is_in quiet)

  of_share : IsOfShare s after task room (sort_by t) (slot_for t) t.outcome
  of_share = record {
    sort_is = sort_is;
    ended_is = ended_is;
    held = held;
    lost = λ e. no (sym memory ∙ e);
  }

  -- ---- how many are unfinished

  counts : unfinished_from s after 0 (made s after) + 1
      ≡ unfinished_from s events 0 (made s events) + (if is_some t.outcome then 0 else 1)
  counts =
      let moved = one_counts s events after task w
      (λ v n other. outcome_same s events after n (stay.made_so n other) (stay.memory n other) (stay.same n other) v)
      0 task (made s events) (omega arith) going.there in
      let before : open_in w task events ≡ 1 = ap (λ (o : Option Outcome). if is_some o then 0 else 1)
      (has_no_outcome s events m task w follows going) in
      let later : open_in w task after ≡ (if is_some t.outcome then 0 else 1) =
      ap (λ (o : Option Outcome). if is_some o then 0 else 1) (in_it ∙ sym outcome_is) in
      let as_many : unfinished_from s after 0 (made s after) ≡ unfinished_from s after 0 (made s events) =
      ap (λ (k : ℕ). unfinished_from s after 0 (take k s.works)) made_same in
      omega (arith, moved, before, later, as_many)

  pub settled_follows : Follows s after new
  settled_follows =
      one_moves s events after task (sort_by t) (slot_for t) t.outcome m new follows
      (is_moved task t parts lanes m new sound (is_within s events m task w follows going) pool is) stay of_share
      (subst (λ (x : SeenMoves). HoldLanes s after x.lanes) (sym is) holds)
      (subst (λ (x : SeenMoves). IsTableOf s.works after x.parts.slots) (sym is) table)
      (ap (λ (x : SeenMoves). x.made) is ∙ follows.made_is ∙ sym made_same)
      (one_less (is_some t.outcome) m.unfinished (unfinished_from s events 0 (made s events))
      (unfinished_from s after 0 (made s after)) new.unfinished follows.unfinished counts
      (ap (λ (x : SeenMoves). x.unfinished) is))
