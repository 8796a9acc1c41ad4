-- A job came back, and what is kept follows the run.
use Rattle.std.proofs.Common.{◌≡◌, ◌∙◌, ◌==◌, ◌∷◌, ◌<◌, ◌≤◌, ◌&&◌, ◌||◌, ℕ, Bool, true, false, Option, Some, None}
use Rattle.std.proofs.Common.{IfSome, refl, sym, subst, ap, drop, is_some, length, nat_lt, not, slice_get}
use Rattle.std.proofs.Common.{if◌then◌else◌}
use Rattle.std.proofs.lemmas.Bool.{and_parts, eqb-true}
use Rattle.alike_histories.proofs.Alike.{alike_says_the_same, stays_alike}
use Rattle.alike_histories.specs.Alike.{AreAlike}
use Rattle.held_parts.specs.Held.{IsSamePool, SeenParts, held_at}
use Rattle.jobs.specs.Endings.{SeenCarried}
use Rattle.jobs.specs.Jobs.{SeenJob}
use Rattle.lane_queues.specs.Lanes.{with_jobs}
use Rattle.lane_queues.specs.Lanes as kept
use Rattle.manager_moves.proofs.BufferLaws.{first_within}
use Rattle.manager_moves.proofs.CountLemmas.{no}
use Rattle.manager_moves.proofs.HoldLemmas.{same_number, same_op}
use Rattle.manager_moves.specs.Laws.{IsOfTask}
use Rattle.manager_moves.specs.Runs.{Back, Events, Shared, is_task, share}
use Rattle.part_changes.specs.Changes.{comes_down, stays_here}
use Rattle.part_tables.proofs.Finding.{returning_finds_away}
use Rattle.part_tables.proofs.Following.{returning_brings_part}
use Rattle.part_tables.specs.Tables.{IsPut, IsPutWhere, IsTableBut, IsTableOf, Slots, has_stopped, is_gone, stops_now}
use Rattle.queue_laws.proofs.LaneLaws.{back_leaves}
use Rattle.job_terms.specs.Buffers.{holds_buffer}
use Rattle.job_terms.specs.Ops.{is_op}
use Rattle.s3_model.specs.declared.bytes.Part.{Part}
use Rattle.s3_model.specs.declared.requests.Op.{Op}
use Rattle.s3_model.specs.declared.requests.Op.TheVariants as op
use Rattle.task_acts.specs.declared.acts.Act.TheVariants as act
use Rattle.task_acts.specs.declared.work.Work.{Work}
use Rattle.task_acts.specs.Failures.{is_cut_short, is_stopped}
use Rattle.task_acts.specs.Histories.{Came, History, is_act, sent}
use Rattle.task_acts.specs.Kept.{again, is_kept, kept_job, part_back}
use Rattle.task_acts.specs.Stages.{is_out}
use Rattle.task_core.specs.Machine.{SeenTask, Stands}
use Rattle.task_progress.proofs.Progress.{still_stopped}
use Rattle.task_stages.specs.Stages.{stage_by}
use Rattle.move_laws.proofs.KeptBytes.{bytes_brought}
use Rattle.move_laws.proofs.Moving.{OthersStay}
use Rattle.move_laws.proofs.Open.{IsOpen, in_slot_is, out_is_open}
use Rattle.move_laws.proofs.Settled.{between, settled_follows}
use Rattle.move_laws.proofs.Sorting.{stage_is}
use Rattle.move_laws.proofs.Steps.{same_pools}
use Rattle.move_laws.proofs.Stopping as stopping
use Rattle.move_laws.specs.Admits.{IsRunOf}
use Rattle.move_laws.specs.Bytes.{KeepsBytes, at_piece, part_by}
use Rattle.move_laws.specs.Calls.{IsBrought, IsFreedWhere}
use Rattle.move_laws.specs.Follows.{Follows, HasItsPart, IsTaskIn}
use Rattle.move_laws.specs.Freed.{AreWithJobs}
use Rattle.move_laws.specs.Kept.{IsSound, SeenMoves, state_at, with_state}

-- ---- what comes of the part

-- what the piece holds then, where the job is kept, and else by the part that came back
abbrev pub after_back : (is_kept : Bool) → Option Part → (stays : Bool) → Option (Option Part)
after_back true part stays = Some None
after_back false None stays = None
after_back false (Some part) stays = if stays then Some (Some part) else None

is_gone_so : (is_kept : Bool) (part : Option Part) (stays : Bool) → is_gone (after_back is_kept part stays) ≡ is_kept
is_gone_so true part stays = refl
is_gone_so false None stays = refl
is_gone_so false (Some part) true = refl
is_gone_so false (Some part) false = refl

-- a Get stays here where the task goes on
stays_so : (cut before after comes : Bool) → (before ≡ true → after ≡ true) → (after && not before) ≡ false
    → (cut && not before) ≡ false → (comes && not after) ≡ (not before && (cut || comes))
stays_so cut true false comes more now kept = no (more refl)
stays_so cut true true true more now kept = refl
stays_so cut true true false more now kept = refl
stays_so cut false true comes more now kept = no (sym now)
stays_so true false false comes more now kept = no (sym kept)
stays_so false false false true more now kept = refl
stays_so false false false false more now kept = refl

-- one that takes no part and is not kept does not
none_stays : (cut before : Bool) → (cut && not before) ≡ false → (not before && (cut || false)) ≡ false
none_stays cut true kept = refl
none_stays true false kept = kept
none_stays false false kept = refl

kept_stays : (cut before comes : Bool) → (cut && not before) ≡ true → true ≡ (not before && (cut || comes))
kept_stays true false comes kept = refl
kept_stays true true comes kept = no kept
kept_stays false before comes kept = no kept

no_buffer : (o : Op) → holds_buffer o ≡ false → comes_down o ≡ false
no_buffer op.Get b = no (sym b)
no_buffer op.Head b = refl
no_buffer op.Put b = refl
no_buffer op.Copy b = refl
no_buffer op.Delete b = refl
no_buffer op.Create b = refl
no_buffer op.Part b = refl
no_buffer op.PartCopy b = refl
no_buffer op.Complete b = refl
no_buffer op.Abort b = refl
no_buffer op.List b = refl
no_buffer op.Buckets b = refl

is_some_if : (b : Bool) (part : Part) → is_some (if b then Some (Some part) else None) ≡ b
is_some_if true part = refl
is_some_if false part = refl

-- a piece holds what it is said to hold
put_same : (task number : ℕ) (part : Option (Option Part)) (slots : Slots) → held_at slots task number ≡ part
    → IsPut task number part slots slots
put_same task number part slots e x y = by (task == x) (number == y) refl refl
  where
    by : (a b : Bool) → (task == x) ≡ a → (number == y) ≡ b
        → held_at slots x y ≡ (if a && b then part else held_at slots x y)
    by true true f g =
        ap (λ (k : ℕ). held_at slots k y) (sym (eqb-true task x f))
        ∙ ap (λ (k : ℕ). held_at slots task k) (sym (eqb-true number y g)) ∙ e
    by true false f g = refl
    by false b f g = refl

module _ (s : Shared) (events : Events) (lane : ℕ) (carried : SeenCarried) (task : ℕ) (m : SeenMoves)
    (run : IsRunOf s (Back lane carried ∷ events)) (follows : Follows s events m)
    (its : carried.job.id.task ≡ Some task) where
  abbrev after : Events
  after = Back lane carried ∷ events

  before : IsRunOf s events
  before = record { run = run.run.1; pieces = run.pieces }

  pub of_task : IsOfTask s events (Some task) carried
  of_task = subst (λ (x : Option ℕ). IsOfTask s events x carried) its run.run.0.1

  abbrev pub w : Work
  w = of_task.0

  pub there : slice_get s.works task ≡ Some w
  there = of_task.1

  pub going : IsOpen s events m task w
  going = out_is_open s events m before follows task w (sent carried) there of_task.2.0

  abbrev h : History
  h = share w task events

  abbrev room : ℕ
  room = m.parts.pool.room

  share_is : share w task after ≡ Came carried ∷ h
  share_is =
      ap (λ (o : Option ℕ). if is_task task o then Came carried ∷ h else h) its
      ∙ ap (λ (b : Bool). if b then Came carried ∷ h else h) (same_number task)

  -- the act by which the job was given is out
  its_out : is_out (stage_by going.state.stages (sent carried)) ≡ true
  its_out = ap is_out (stage_is room w h going.state going.in_it (sent carried)) ∙ of_task.2.0

  pub is_out_in : (t : SeenTask) → state_at m task ≡ Some t → is_out (stage_by t.stages (sent carried)) ≡ true
  is_out_in t e = subst (λ (x : SeenTask). is_out (stage_by x.stages (sent carried)) ≡ true)
      (in_slot_is s events m task w follows going t e) its_out

  -- ---- the state of the task

  abbrev pub heard : History
  heard = going.in_it.heard

  pub stood : (t : SeenTask) → state_at m task ≡ Some t → Stands w heard t
  stood t e = subst (λ (x : SeenTask). Stands w heard x) (in_slot_is s events m task w follows going t e)
      going.in_it.stands

  abbrev pub later : History
  later = Came carried ∷ heard

  pub alike_now : AreAlike w later (share w task after)
  alike_now = subst (λ (x : History). AreAlike w later x) (sym share_is)
      (stays_alike w heard h (Came carried) going.in_it.alike)

  pub same_now : is_stopped w h ≡ false → later ≡ share w task after
  same_now e = ap (λ (x : History). Came carried ∷ x) (going.in_it.alike.same e) ∙ sym share_is

  module _ (fits : IfSome carried.job.part (λ part. room ≤ part.bytes.room)) where
    again_has : (o : Op) (n : ℕ) (b keeps : Bool) → is_act (act.Send o n) (sent carried) ≡ b
        → HasItsPart room o (if b then (if keeps then Some (again carried) else None) else kept_job w heard (act.Send
        o n))
    again_has o n true true e = (
      run.run.0.2 ∙ ap holds_buffer (sym (same_op o carried.job.id.op
          (and_parts (is_op o carried.job.id.op) (n == carried.job.id.number) e).0)),
      fits,
    )
    again_has o n true false e = tt
    again_has o n false keeps e = subst (λ (x : Option SeenJob). HasItsPart room o x)
        (going.in_it.stands.kept_are o n) (going.in_it.parts o n)

    pub is_in : (t : SeenTask) → Stands w later t → IsTaskIn room w (share w task after) t
    is_in t stands = record {
      heard = later;
      stands = stands;
      alike = alike_now;
      parts = λ o n. subst (λ (x : Option SeenJob). HasItsPart room o x) (sym (stands.kept_are o n))
          (again_has o n (is_act (act.Send o n) (sent carried)) (is_kept w (is_stopped w heard) carried) refl);
    }

  -- ---- its lane

  pub in_lanes : lane < s.lanes
  in_lanes = first_within s follows.some_lane events run.run.1 lane carried.job.id run.run.0.0 (nat_lt lane s.lanes)
      refl

  pub within : lane < length m.lanes.jobs
  within = subst (λ (n : ℕ). lane < n) (sym follows.lanes.count) in_lanes

  -- ---- its part

  pub away : holds_buffer carried.job.id.op ≡ true → held_at m.parts.slots task carried.job.id.number ≡ Some None
  away b = returning_finds_away s events m.parts.slots lane carried task run.run follows.parts its b

  abbrev was_stopped : Bool
  was_stopped = is_stopped w h

  abbrev stopped_now : Bool
  stopped_now = is_stopped w (share w task after)

  abbrev keeps : Bool
  keeps = is_kept w was_stopped carried

  more : was_stopped ≡ true → stopped_now ≡ true
  more e = ap (λ (x : History). is_stopped w x) share_is ∙ still_stopped w (Came carried) h e

  -- the part that the task hands back, where its job is not kept
  abbrev pub part_of_back : Option Part
  part_of_back = part_back w was_stopped carried

  abbrev stays : Bool
  stays = comes_down carried.job.id.op && not stopped_now

  still_here : (k : Bool) (part : Option Part) → keeps ≡ k → carried.job.part ≡ part
      → stops_now w task events after ≡ false
      → is_some (after_back k (if k then None else part) stays) ≡ stays_here w h carried
  still_here true part e f now = kept_stays (is_cut_short w carried) was_stopped (comes_down carried.job.id.op) e
  still_here false None e f now =
      sym (ap (λ (b : Bool). not was_stopped && (is_cut_short w carried || b))
      (no_buffer carried.job.id.op (sym run.run.0.2 ∙ ap is_some f))
      ∙ none_stays (is_cut_short w carried) was_stopped e)
  still_here false (Some part) e f now =
      is_some_if stays part
      ∙ stays_so (is_cut_short w carried) was_stopped stopped_now (comes_down carried.job.id.op) more now e

  abbrev its_number : ℕ
  its_number = carried.job.id.number

  brought_so : (k : Bool) (part : Option Part) (b : Bool) → keeps ≡ k → carried.job.part ≡ part
      → holds_buffer carried.job.id.op ≡ b → (slots : Slots)
      → IsBrought task its_number (if k then None else part) stays m.parts.slots slots
      → IsPutWhere b task its_number (after_back k (if k then None else part) stays) m.parts.slots slots
  brought_so true part true e f g slots is =
      subst (λ (x : Slots). IsPut task its_number (Some None) m.parts.slots x) (sym is)
      (put_same task its_number (Some None) m.parts.slots (away g))
  brought_so true part false e f g slots is = is
  brought_so false None true e f g slots is = no (sym (ap is_some f) ∙ run.run.0.2 ∙ g)
  brought_so false None false e f g slots is = is
  brought_so false (Some part) true e f g slots is = is
  brought_so false (Some part) false e f g slots is = no (sym g ∙ sym run.run.0.2 ∙ ap is_some f)

  -- the table follows the run, but for what is to be freed
  pub brought : (slots : Slots) → IsBrought task its_number part_of_back stays m.parts.slots slots
      → IsTableBut (has_stopped w task events after) s.works after slots
  brought slots is =
      returning_brings_part s events m.parts.slots slots lane carried task w (after_back keeps part_of_back stays)
      run.run
      follows.parts its there (is_gone_so keeps part_of_back stays)
      (λ now. still_here keeps carried.job.part refl refl now)
      (brought_so keeps carried.job.part (holds_buffer carried.job.id.op) refl refl refl slots is)

  -- the part that came back is here now, or none
  pub brings_bytes : (part : Option Part) → part ≡ part_back w (is_stopped w heard) carried → (stays_now : Bool)
      → (slots : Slots) → IsBrought task its_number part stays_now m.parts.slots slots
      → KeepsBytes (part_by carried) m.parts.slots slots
  brings_bytes part is stays_now slots put =
      subst (λ (o : Option ℕ). KeepsBytes (at_piece o its_number carried.job.part) m.parts.slots slots) (sym its)
      (bytes_brought task its_number m.parts.slots (is_kept w (is_stopped w heard) carried) carried.job.part part
      stays_now slots is (λ some. away (sym run.run.0.2 ∙ some)) put)

  -- ---- what is kept

  not_its : (n : ℕ) → (task == n) ≡ false → is_task n carried.job.id.task ≡ false
  not_its n other = ap (λ (o : Option ℕ). is_task n o) its ∙ other

  others : OthersStay task events after
  others = record {
    made_so = λ n other. refl;
    memory = λ n other. refl;
    same = λ n other v.
        ap (λ (b : Bool). if b then Came carried ∷ share v n events else share v n events) (not_its n other);
    lines = refl;
    cancel = refl;
  }

  pub back_follows : (t : SeenTask) (parts : SeenParts) (new : SeenMoves)
      → IsSound m.acts m.slots m.outcomes m.made → IsTaskIn room w (share w task after) t
      → IsSamePool m.parts.pool parts.pool → IsTableOf s.works after parts.slots
      → new ≡ with_state task t (between task parts
      (with_jobs m.lanes lane (drop 1 (kept.jobs_in m.lanes lane))) m) → Follows s after new
  back_follows t parts new sound is_in_it pool table is =
      settled_follows s events after task t parts (with_jobs m.lanes lane (drop 1 (kept.jobs_in m.lanes lane))) m new w
      follows going sound run others refl refl is_in_it pool
      (back_leaves s events m.lanes lane carried follows.lanes in_lanes) table is

  -- ---- the steps of the return

  module _ (fits : IfSome carried.job.part (λ part. room ≤ part.bytes.room)) (t t_now : SeenTask)
      (slot : state_at m task ≡ Some t) (stands_now : Stands w later t_now) where
    is_in_it : IsTaskIn room w (share w task after) t_now
    is_in_it = is_in fits t_now stands_now

    -- it has stopped now, as it is tested
    pub stopped_after : (t_now.causes.failing || is_some m.reason) ≡ stopped_now
    stopped_after =
        stopping.after_is s events after m follows task w run.run there heard later t t_now (stood t slot)
        going.in_it.alike stands_now alike_now same_now refl

    -- the part that comes back with a job is away, and has its room
    pub part_away : (part : Option Part) → part ≡ part_back w (is_stopped w heard) carried → is_some part ≡ true
        → held_at m.parts.slots task carried.job.id.number ≡ Some None
    part_away part e some = away (sym run.run.0.2 ∙ by (is_kept w (is_stopped w heard) carried) (sym (ap is_some e) ∙
        some))
      where
        by : (b : Bool) → is_some (if b then None else carried.job.part) ≡ true → is_some carried.job.part ≡ true
        by true f = no f
        by false f = f

    pub part_fits : (part : Option Part) → part ≡ part_back w (is_stopped w heard) carried
        → IfSome part (λ x. room ≤ x.bytes.room)
    part_fits part e = subst (λ (x : Option Part). IfSome x (λ y. room ≤ y.bytes.room)) (sym e)
        (by (is_kept w (is_stopped w heard) carried))
      where
        by : (b : Bool) → IfSome (if b then None else carried.job.part) (λ y. room ≤ y.bytes.room)
        by true = tt
        by false = fits

    module _ (stopped fails stays_now : Bool) (stopped_is : stopped ≡ (t.causes.failing || is_some m.reason))
        (fails_is : fails ≡ (not stopped && t_now.causes.failing))
        (stays_is : stays_now ≡ (comes_down carried.job.id.op && not (t_now.causes.failing || is_some m.reason)))
        (part : Option Part) (part_is : part ≡ part_back w (is_stopped w heard) carried) (parts : SeenParts)
        (put : IsBrought task carried.job.id.number part stays_now m.parts.slots parts.slots)
        (pool : IsSamePool m.parts.pool parts.pool) where
      flag : fails ≡ (not (t.causes.failing || is_some m.reason) && t_now.causes.failing)
      flag = fails_is ∙ ap (λ (b : Bool). not b && t_now.causes.failing) stopped_is

      table : IsTableBut (has_stopped w task events after) s.works after parts.slots
      table = brought parts.slots
          (subst (λ (x : Option Part). IsBrought task its_number x stays m.parts.slots parts.slots)
          (part_is ∙ ap (λ (b : Bool). part_back w b carried)
          (alike_says_the_same w heard h going.in_it.alike.told_are).stopped)
          (subst (λ (b : Bool). IsBrought task its_number part b m.parts.slots parts.slots)
          (stays_is ∙ ap (λ (b : Bool). comes_down carried.job.id.op && not b) stopped_after) put))

      pub are_away : fails ≡ true → AreWithJobs parts task t_now
      are_away e =
          stopping.with_jobs s events after m follows task w run.run there heard later t t_now (stood t slot)
          going.in_it.alike stands_now alike_now same_now refl room is_in_it.parts parts.slots table parts refl
          pool.room
          (sym flag ∙ e)

      pub returned_follows : (t_after : SeenTask) (freed : SeenParts) (new : SeenMoves)
          → IsSound m.acts m.slots m.outcomes m.made
          → IsFreedWhere fails task t_now parts.slots freed.slots → IsSamePool parts.pool freed.pool
          → ((r : ℕ) (v : Work) (g : History) → (fails ≡ true → is_stopped v g ≡ true) → IsTaskIn r v g t_now
          → IsTaskIn r v g t_after)
          → new ≡ with_state task t_after (between task freed
          (with_jobs m.lanes lane (drop 1 (kept.jobs_in m.lanes lane))) m) → Follows s after new
      returned_follows t_after freed new sound is_freed pool_after known is =
          back_follows t_after freed new sound
          (known room w (share w task after)
          (λ e. stopping.has_stopped_now s events after m follows task w run.run there heard later t t_now (stood t
          slot)
          going.in_it.alike stands_now alike_now same_now refl (sym flag ∙ e)) is_in_it)
          (same_pools m.parts.pool parts.pool freed.pool pool pool_after)
          (stopping.table_follows s events after m follows task w run.run there heard later t t_now (stood t slot)
          going.in_it.alike stands_now alike_now same_now refl room is_in_it.parts parts.slots table freed.slots
          (subst (λ (b : Bool). IsFreedWhere b task t_now parts.slots freed.slots) flag is_freed)) is
