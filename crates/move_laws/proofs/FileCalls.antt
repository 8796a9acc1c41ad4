-- A call on files was made and came back, and what is kept follows the run.
use Rattle.std.proofs.Common.{◌≡◌, ◌∙◌, ◌∷◌, ℕ, Bool, true, false, Option, Some, None}
use Rattle.std.proofs.Common.{◌&&◌, ◌||◌, refl, sym, subst, ap, is_some, not, slice_get, if◌then◌else◌}
use Rattle.alike_histories.proofs.Alike.{alike_says_the_same, stays_alike}
use Rattle.alike_histories.specs.Alike.{AreAlike}
use Rattle.held_parts.specs.Held.{IsHere, IsSamePool, SeenParts, held_at}
use Rattle.jobs.specs.Jobs.{SeenJob}
use Rattle.kept_jobs.specs.Slots.{job_at}
use Rattle.manager_moves.proofs.HoldLemmas.{same_number}
use Rattle.manager_moves.proofs.MoveLaws.{in_front}
use Rattle.manager_moves.proofs.PartLaws.{ready_act}
use Rattle.manager_moves.proofs.ShareLaws.{IsReady, is_called}
use Rattle.manager_moves.specs.Runs.{Called, Events, Shared, lacks_memory, made_count, share}
use Rattle.part_tables.proofs.Finding.{placing_finds_part}
use Rattle.part_tables.proofs.Following.{calling_puts_part}
use Rattle.part_tables.specs.Tables.{IsPut, IsTableBut, IsTableOf, Slots, has_stopped}
use Rattle.queue_laws.proofs.LaneLaws.{others_stay}
use Rattle.s3_model.specs.declared.requests.Op.{Op}
use Rattle.task_acts.specs.declared.acts.Act.{Act}
use Rattle.task_acts.specs.declared.acts.Act.TheVariants as act
use Rattle.task_acts.specs.declared.acts.FileCame.{FileCame}
use Rattle.task_acts.specs.declared.work.Work.{Work}
use Rattle.task_acts.specs.Failures.{is_stopped}
use Rattle.task_acts.specs.Histories.{Gave, History, Returned, is_act}
use Rattle.task_acts.specs.Rule.{first_ready_in}
use Rattle.task_core.proofs.Standing as standing
use Rattle.task_core.specs.Machine.{SeenTask, Stands, ready_by}
use Rattle.move_laws.proofs.Moving.{OthersStay}
use Rattle.move_laws.proofs.Open.{IsOpen, in_slot_is, ready_is_open}
use Rattle.move_laws.proofs.Settled.{between, settled_follows}
use Rattle.move_laws.proofs.Steps.{same_pools}
use Rattle.move_laws.proofs.Stopping as stopping
use Rattle.move_laws.specs.Admits.{IsRunOf}
use Rattle.move_laws.specs.Calls.{HasPlaced, IsLentFor, IsFreedWhere, IsPlaced}
use Rattle.move_laws.specs.Follows.{Follows, HasItsPart, IsTaskIn}
use Rattle.move_laws.specs.Freed.{AreWithJobs}
use Rattle.move_laws.specs.Kept.{IsSound, SeenMoves, state_at, with_state}

-- ---- as the call is made

pub begun_rest : (task : ℕ) (called : Act) (m now : SeenMoves) → IsLentFor task called m now
    → now ≡ record m { parts = now.parts }
begun_rest task (act.Read n) m now is = is.rest
begun_rest task (act.Send o n) m now is = subst (λ (x : SeenMoves). x ≡ record m { parts = x.parts }) (sym is) refl
begun_rest task act.Assemble m now is = subst (λ (x : SeenMoves). x ≡ record m { parts = x.parts }) (sym is) refl
begun_rest task (act.Place n) m now is = subst (λ (x : SeenMoves). x ≡ record m { parts = x.parts }) (sym is) refl
begun_rest task act.Rename m now is = subst (λ (x : SeenMoves). x ≡ record m { parts = x.parts }) (sym is) refl
begun_rest task act.DropTemp m now is = subst (λ (x : SeenMoves). x ≡ record m { parts = x.parts }) (sym is) refl
begun_rest task act.Remove m now is = subst (λ (x : SeenMoves). x ≡ record m { parts = x.parts }) (sym is) refl
begun_rest task act.Stamp m now is = subst (λ (x : SeenMoves). x ≡ record m { parts = x.parts }) (sym is) refl

same_pool : (m now : SeenMoves) → now ≡ m → IsSamePool m.parts.pool now.parts.pool
same_pool m now e = subst (λ (x : SeenMoves). IsSamePool m.parts.pool x.parts.pool) (sym e)
    (record { count = refl; room = refl })

pub begun_pool : (task : ℕ) (called : Act) (m now : SeenMoves) → IsLentFor task called m now
    → IsSamePool m.parts.pool now.parts.pool
begun_pool task (act.Read n) m now is = is.pool
begun_pool task (act.Send o n) m now is = same_pool m now is
begun_pool task act.Assemble m now is = same_pool m now is
begun_pool task (act.Place n) m now is = same_pool m now is
begun_pool task act.Rename m now is = same_pool m now is
begun_pool task act.DropTemp m now is = same_pool m now is
begun_pool task act.Remove m now is = same_pool m now is
begun_pool task act.Stamp m now is = same_pool m now is

-- ---- a job that is kept

pub has_its_part : (room : ℕ) (o : Op) (b : Bool) (job : Option SeenJob) → HasItsPart room o job
    → HasItsPart room o (if b then None else job)
has_its_part room o true job has = tt
has_its_part room o false job has = has

module _ (s : Shared) (events : Events) (task : ℕ) (called : Act) (result : FileCame) (m now : SeenMoves)
    (begun : IsLentFor task called m now) (run : IsRunOf s (Called task called result ∷ events))
    (follows : Follows s events m) where
  abbrev after : Events
  after = Called task called result ∷ events

  before : IsRunOf s events
  before = record { run = run.run.1; pieces = run.pieces }

  pub is_ready : IsReady s events task called
  is_ready = is_called s events task called run.run.0.0

  abbrev pub w : Work
  w = is_ready.0

  pub going : IsOpen s events m task w
  going = ready_is_open s events m before follows task called is_ready

  abbrev h : History
  h = share w task events

  share_is : share w task after ≡ Returned called result ∷ Gave called ∷ h
  share_is = ap (λ (b : Bool). if b then Returned called result ∷ Gave called ∷ h else h) (same_number task)

  -- ---- the state of the task

  abbrev pub heard : History
  heard = going.in_it.heard

  pub stood : (t : SeenTask) → state_at now task ≡ Some t → Stands w heard t
  stood t e = subst (λ (x : SeenTask). Stands w heard x)
      (in_slot_is s events m task w follows going t
      (ap (λ (x : SeenMoves). state_at x task) (sym (begun_rest task called m now begun)) ∙ e)) going.in_it.stands

  pub slot_is : state_at now task ≡ Some going.state
  slot_is = ap (λ (x : SeenMoves). state_at x task) (begun_rest task called m now begun) ∙ going.slot

  abbrev pub later : History
  later = Returned called result ∷ Gave called ∷ heard

  pub alike_now : AreAlike w later (share w task after)
  alike_now = subst (λ (x : History). AreAlike w later x) (sym share_is)
      (stays_alike w (Gave called ∷ heard) (Gave called ∷ h) (Returned called result)
      (stays_alike w heard h (Gave called) going.in_it.alike))

  pub same_now : is_stopped w h ≡ false → later ≡ share w task after
  same_now e = ap (λ (x : History). Returned called result ∷ Gave called ∷ x) (going.in_it.alike.same e) ∙ sym share_is

  pub is_in : (t : SeenTask) → Stands w later t → IsTaskIn m.parts.pool.room w (share w task after) t
  is_in t stands = record {
    heard = later;
    stands = stands;
    alike = alike_now;
    parts = λ o n. subst (λ (job : Option SeenJob). HasItsPart m.parts.pool.room o job)
        (sym (stands.kept_are o n
        ∙ ap (λ (job : Option SeenJob). if is_act (act.Send o n) called then None else job)
        (sym (going.in_it.stands.kept_are o n))))
        (has_its_part m.parts.pool.room o (is_act (act.Send o n) called) (job_at going.state.kept o n)
        (going.in_it.parts o n));
  }

  -- ---- the table

  abbrev But : Slots → Type 0
  But slots = IsTableBut (has_stopped w task events after) s.works after slots

  unput : (slots : Slots) → now ≡ m → slots ≡ now.parts.slots → slots ≡ m.parts.slots
  unput slots e f = f ∙ ap (λ (x : SeenMoves). x.parts.slots) e

  pub placed : (slots : Slots) → slice_get s.works task ≡ Some w → IsPlaced task called now.parts.slots slots → But
      slots
  placed slots there is = by called begun run is
    where
      by : (a : Act) → IsLentFor task a m now → IsRunOf s (Called task a result ∷ events)
          → IsPlaced task a now.parts.slots slots
          → IsTableBut (has_stopped w task events (Called task a result ∷ events)) s.works
          (Called task a result ∷ events) slots
      by (act.Read n) is_begun is_run put =
          calling_puts_part s events m.parts.slots slots task (act.Read n) result w (Some (Some is_begun.part))
          is_run.run follows.parts there refl (λ e. refl)
          (subst (λ (x : Slots). IsPut task n (Some (Some is_begun.part)) m.parts.slots x)
          (sym put) is_begun.put)
      by (act.Place n) is_begun is_run put =
          calling_puts_part s events m.parts.slots slots task (act.Place n) result w None is_run.run follows.parts there
          refl (λ e. refl)
          (subst (λ (x : SeenMoves). IsPut task n None x.parts.slots slots) is_begun put)
      by (act.Send o n) is_begun is_run put =
          calling_puts_part s events m.parts.slots slots task (act.Send o n) result w None is_run.run follows.parts
          there
          refl (λ e. refl) (unput slots is_begun put)
      by act.Assemble is_begun is_run put =
          calling_puts_part s events m.parts.slots slots task act.Assemble result w None is_run.run follows.parts there
          refl (λ e. refl) (unput slots is_begun put)
      by act.Rename is_begun is_run put =
          calling_puts_part s events m.parts.slots slots task act.Rename result w None is_run.run follows.parts there
          refl (λ e. refl) (unput slots is_begun put)
      by act.DropTemp is_begun is_run put =
          calling_puts_part s events m.parts.slots slots task act.DropTemp result w None is_run.run follows.parts there
          refl (λ e. refl) (unput slots is_begun put)
      by act.Remove is_begun is_run put =
          calling_puts_part s events m.parts.slots slots task act.Remove result w None is_run.run follows.parts there
          refl (λ e. refl) (unput slots is_begun put)
      by act.Stamp is_begun is_run put =
          calling_puts_part s events m.parts.slots slots task act.Stamp result w None is_run.run follows.parts there
          refl (λ e. refl) (unput slots is_begun put)

  -- ---- what is kept

  others : OthersStay task events after
  others = record {
    made_so = λ n other. refl;
    memory = λ n other. refl;
    same = λ n other v.
        ap (λ (b : Bool). if b then Returned called result ∷ Gave called ∷ share v n events else share v n events)
        other;
    lines = refl;
    cancel = refl;
  }

  pub called_follows : (t : SeenTask) (parts : SeenParts) (new : SeenMoves)
      → IsSound m.acts m.slots m.outcomes m.made → IsTaskIn m.parts.pool.room w (share w task after) t
      → IsSamePool m.parts.pool parts.pool → IsTableOf s.works after parts.slots
      → new ≡ with_state task t (between task parts m.lanes m) → Follows s after new
  called_follows t parts new sound is_in_it pool table is =
      settled_follows s events after task t parts m.lanes m new w follows going sound run others refl refl is_in_it pool
      (others_stay s events m.lanes (Called task called result) refl follows.lanes) table is

  -- ---- the steps of the call

  there : slice_get s.works task ≡ Some w
  there = in_front (made_count events) s.works task w is_ready.1

  pub ready_now : (t x : SeenTask) → state_at now task ≡ Some t → x ≡ t → ready_by x ≡ Some called
  ready_now t x e same =
      standing.ready w heard x (subst (λ (y : SeenTask). Stands w heard y) (sym same) (stood t e))
      ∙ (alike_says_the_same w heard h going.in_it.alike.told_are).ready
      ∙ ready_act (lacks_memory task events) (first_ready_in w h) called is_ready.2

  pub has_placed : HasPlaced task called now.parts.slots
  has_placed = by called begun run
    where
      by : (a : Act) → IsLentFor task a m now → IsRunOf s (Called task a result ∷ events)
          → HasPlaced task a now.parts.slots
      by (act.Place n) is_begun is_run =
          subst (λ (x : SeenMoves). IsHere (held_at x.parts.slots task n)) (sym is_begun)
          (placing_finds_part s events m.parts.slots task n is_run.run.1 follows.parts is_run.run.0.0)
      by (act.Send o n) is_begun is_run = tt
      by (act.Read n) is_begun is_run = tt
      by act.Assemble is_begun is_run = tt
      by act.Rename is_begun is_run = tt
      by act.DropTemp is_begun is_run = tt
      by act.Remove is_begun is_run = tt
      by act.Stamp is_begun is_run = tt

  module _ (t t_now : SeenTask) (slot : state_at now task ≡ Some t) (stands_now : Stands w later t_now)
      (stopped fails : Bool) (stopped_is : stopped ≡ (t.causes.failing || is_some now.reason))
      (fails_is : fails ≡ (not stopped && t_now.causes.failing)) (parts : SeenParts)
      (put : IsPlaced task called now.parts.slots parts.slots) (pool : IsSamePool now.parts.pool parts.pool) where
    flag : fails ≡ (not (t.causes.failing || is_some m.reason) && t_now.causes.failing)
    flag =
        fails_is
        ∙ ap (λ (b : Bool). not b && t_now.causes.failing)
        (stopped_is ∙ ap (λ (x : SeenMoves). t.causes.failing || is_some x.reason) (begun_rest task called m now begun))

    its_pool : IsSamePool m.parts.pool parts.pool
    its_pool = same_pools m.parts.pool now.parts.pool parts.pool (begun_pool task called m now begun) pool

    pub are_away : fails ≡ true → AreWithJobs parts task t_now
    are_away e =
        stopping.with_jobs s events after m follows task w run.run there heard later t t_now (stood t slot)
        going.in_it.alike stands_now alike_now same_now refl m.parts.pool.room (is_in t_now stands_now).parts
        parts.slots
        (placed parts.slots there put) parts refl its_pool.room (sym flag ∙ e)

    pub returned_follows : (t_after : SeenTask) (freed : SeenParts) (new : SeenMoves)
        → IsSound now.acts now.slots now.outcomes now.made
        → IsFreedWhere fails task t_now parts.slots freed.slots → IsSamePool parts.pool freed.pool
        → ((room : ℕ) (v : Work) (g : History) → (fails ≡ true → is_stopped v g ≡ true) → IsTaskIn room v g t_now
        → IsTaskIn room v g t_after)
        → new ≡ with_state task t_after (between task freed now.lanes now) → Follows s after new
    returned_follows t_after freed new sound is_freed pool_after known is =
        called_follows t_after freed new
        (subst (λ (x : SeenMoves). IsSound x.acts x.slots x.outcomes x.made) (begun_rest task called m now begun) sound)
        (known m.parts.pool.room w (share w task after)
        (λ e. stopping.has_stopped_now s events after m follows task w run.run there heard later t t_now (stood t slot)
        going.in_it.alike stands_now alike_now same_now refl (sym flag ∙ e)) (is_in t_now stands_now))
        (same_pools m.parts.pool parts.pool freed.pool its_pool pool_after)
        (stopping.table_follows s events after m follows task w run.run there heard later t t_now (stood t slot)
        going.in_it.alike stands_now alike_now same_now refl m.parts.pool.room (is_in t_now stands_now).parts
        parts.slots
        (placed parts.slots there put) freed.slots
        (subst (λ (b : Bool). IsFreedWhere b task t_now parts.slots freed.slots) flag is_freed))
        (is ∙ ap (λ (x : SeenMoves). with_state task t_after (between task freed x.lanes x))
        (begun_rest task called m now begun))
