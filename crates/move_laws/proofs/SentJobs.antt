-- A job was given, and what is kept follows the run.
use Rattle.std.proofs.Common.{◌≡◌, ◌∙◌, ◌∷◌, ◌++◌, ◌<◌, [], ℕ, Bool, true, false, List, Option, Some, None}
use Rattle.std.proofs.Common.{refl, sym, subst, ap, is_some, length, slice_get, if◌then◌else◌}
use Rattle.std.proofs.lemmas.Bool.{and_parts}
use Rattle.alike_histories.proofs.Alike.{alike_says_the_same, giving_stays_alike}
use Rattle.alike_histories.specs.Alike.{AreAlike, told}
use Rattle.held_parts.specs.Held.{AreSingle, IsSamePool, SeenParts}
use Rattle.jobs.specs.Jobs.{SeenJob}
use Rattle.kept_jobs.specs.Slots.{job_at}
use Rattle.lane_queues.specs.Lanes.{with_jobs}
use Rattle.lane_queues.specs.Lanes as kept
use Rattle.manager_moves.proofs.BufferLaws.{sent_within}
use Rattle.manager_moves.proofs.CountLemmas.{no}
use Rattle.manager_moves.proofs.HoldLemmas.{same_number}
use Rattle.manager_moves.proofs.MoveLaws.{in_front, jobs_go_to_the_freest}
use Rattle.manager_moves.proofs.PartLaws.{find_passes, ready_act, same_value}
use Rattle.manager_moves.proofs.ShareLaws.{IsReady, act_of, is_next, shares_are_histories}
use Rattle.manager_moves.specs.Laws.{GoesToTheFreest}
use Rattle.manager_moves.specs.Runs.{Events, Sent, Shared, lacks_memory, made_count, share, with_taken}
use Rattle.manager_moves.specs.declared.moves.Move.{Move}
use Rattle.part_tables.proofs.Finding.{sending_finds_part}
use Rattle.part_tables.proofs.Following.{sending_takes_part}
use Rattle.part_tables.specs.Finding.{FindsPart}
use Rattle.part_tables.specs.Tables.{IsPutWhere}
use Rattle.queue_laws.proofs.LaneLaws.{sent_joins}
use Rattle.job_terms.specs.Buffers.{holds_buffer}
use Rattle.job_terms.specs.Jobs.{job_of}
use Rattle.s3_model.specs.declared.outcomes.JobId.{JobId}
use Rattle.s3_model.specs.declared.requests.Op.{Op}
use Rattle.s3_model.specs.declared.requests.Op.TheVariants as op
use Rattle.task_acts.specs.declared.acts.Act.{Act}
use Rattle.task_acts.specs.declared.acts.Act.TheVariants as act
use Rattle.task_acts.specs.declared.work.Work.{Work}
use Rattle.task_acts.specs.Failures.{is_stopped}
use Rattle.task_acts.specs.Histories.{Gave, History, Taken, is_act}
use Rattle.task_acts.specs.Kept.{kept_job}
use Rattle.task_acts.specs.Rule.{acts_of, first_ready_in, is_due, is_left_over, is_named, is_ready_in}
use Rattle.task_acts.specs.Stages.{may_be_given, stage}
use Rattle.task_core.proofs.Standing as standing
use Rattle.task_core.specs.Machine.{SeenTask, Stands, ready_by}
use Rattle.move_laws.proofs.Aborts.{NoCell, has_none, never_kept, none_told, stopped_aborts, told_none}
use Rattle.move_laws.proofs.FileCalls.{has_its_part}
use Rattle.move_laws.proofs.Moving.{OthersStay}
use Rattle.move_laws.proofs.Open.{IsOpen, in_slot_is, ready_is_open}
use Rattle.move_laws.proofs.Settled.{between, settled_follows}
use Rattle.move_laws.specs.Admits.{IsRunOf}
use Rattle.move_laws.specs.Follows.{Follows, HasItsPart, IsTaskIn}
use Rattle.move_laws.specs.Kept.{IsSound, SeenMoves, state_at, with_state}

-- a job that takes a part is ready for no task that has stopped
goes_on : (w : Work) (h : History) (o : Op) (k : ℕ) (stopped : Bool) → holds_buffer o ≡ true
    → (if stopped then is_left_over w (stage w h) stopped (act.Send o k)
    else is_due w (stage w h) stopped w.of_kind (act.Send o k)) ≡ true → stopped ≡ false
goes_on w h o k false b e = refl
goes_on w h op.Put k true b e = no e
goes_on w h op.Part k true b e = no e
goes_on w h op.Get k true b e = no e
goes_on w h op.Head k true b e = no b
goes_on w h op.Copy k true b e = no b
goes_on w h op.Delete k true b e = no b
goes_on w h op.Create k true b e = no b
goes_on w h op.PartCopy k true b e = no b
goes_on w h op.Complete k true b e = no b
goes_on w h op.Abort k true b e = no b
goes_on w h op.List k true b e = no b
goes_on w h op.Buckets k true b e = no b

module _ (s : Shared) (events : Events) (task : ℕ) (o : Op) (k lane : ℕ) (m : SeenMoves)
    (run : IsRunOf s (Sent task o k lane ∷ events)) (follows : Follows s events m) where
  abbrev after : Events
  after = Sent task o k lane ∷ events

  before : IsRunOf s events
  before = record { run = run.run.1; pieces = run.pieces }

  abbrev job : Act
  job = act.Send o k

  pub is_ready : IsReady s events task job
  is_ready = is_next s events task job (ap act_of run.run.0)

  abbrev pub w : Work
  w = is_ready.0

  pub there : slice_get s.works task ≡ Some w
  there = in_front (made_count events) s.works task w is_ready.1

  pub going : IsOpen s events m task w
  going = ready_is_open s events m before follows task job is_ready

  abbrev h : History
  h = share w task events

  abbrev pub heard : History
  heard = going.in_it.heard

  share_is : share w task after ≡ Gave job ∷ with_taken w o k h
  share_is = ap (λ (b : Bool). if b then Gave job ∷ with_taken w o k h else h) (same_number task)

  is_first : first_ready_in w h ≡ Some job
  is_first = ready_act (lacks_memory task events) (first_ready_in w h) job is_ready.2

  -- ---- the state of the task

  pub stood : (t : SeenTask) → state_at m task ≡ Some t → Stands w heard t
  stood t e = subst (λ (x : SeenTask). Stands w heard x) (in_slot_is s events m task w follows going t e)
      going.in_it.stands

  pub first_stood : (t now : SeenTask) → state_at m task ≡ Some t → now ≡ t → Stands w heard now
  first_stood t now e same = subst (λ (x : SeenTask). Stands w heard x) (sym same) (stood t e)

  -- an Abort is not kept
  module _ (stops : is_stopped w h ≡ true) where
    is_abort : o ≡ op.Abort
    is_abort = stopped_aborts w (stage w h) o k (subst (λ (b : Bool). is_named w (stage w h) b job ≡ true) stops
        (and_parts (may_be_given (stage w h job)) (is_named w (stage w h) (is_stopped w h) job)
        (find_passes (is_ready_in w h) (acts_of w) job is_first)).1)

    none_in : NoCell w k h
    none_in = has_none w k h (shares_are_histories s events task w there run.run.1)

    not_heard : kept_job w heard job ≡ None
    not_heard = subst (λ (p : Op). kept_job w heard (act.Send p k) ≡ None) (sym is_abort)
        (never_kept w k heard (told_none w k heard
        (subst (λ (x : History). NoCell w k x) (sym going.in_it.alike.told_are) (none_told w k h none_in))))

    not_kept : kept_job w h job ≡ None
    not_kept = subst (λ (p : Op). kept_job w h (act.Send p k) ≡ None) (sym is_abort) (never_kept w k h none_in)

  -- the job that is kept is the one that the run says
  pub again_is : (t now : SeenTask) → state_at m task ≡ Some t → now ≡ t → (v : Work) → slice_get s.works task ≡ Some v
      → job_at now.kept o k ≡ kept_job v (share v task events) job
  again_is t now e same v is = subst (λ (x : Work). job_at now.kept o k ≡ kept_job x (share x task events) job)
      (same_value (sym there ∙ is)) ((first_stood t now e same).kept_are o k ∙ by (is_stopped w h) refl)
    where
      by : (b : Bool) → is_stopped w h ≡ b → kept_job w heard job ≡ kept_job w h job
      by false goes = ap (λ (x : History). kept_job w x job) (going.in_it.alike.same goes)
      by true stops = not_heard stops ∙ sym (not_kept stops)

  abbrev pub taken : History
  taken = with_taken w o k heard

  taken_is_told : (b : Bool) → told (if b then Taken o k ∷ heard else heard) ≡ told heard
  taken_is_told true = refl
  taken_is_told false = refl

  -- once the job that was kept is taken, its giving is what the task is ready for
  pub ready_is : (t : SeenTask) → Stands w taken t → ready_by t ≡ Some job
  ready_is t stands =
      standing.ready w taken t stands
      ∙ (alike_says_the_same w taken h
      (taken_is_told (is_some (kept_job w heard job)) ∙ going.in_it.alike.told_are)).ready ∙ is_first

  abbrev pub later : History
  later = Gave job ∷ taken

  alike_now : AreAlike w later (share w task after)
  alike_now = subst (λ (x : History). AreAlike w later x) (sym share_is)
      (giving_stays_alike w heard h o k going.in_it.alike)

  kept_in_heard : (a : Op) (n : ℕ) → HasItsPart m.parts.pool.room a (kept_job w heard (act.Send a n))
  kept_in_heard a n = subst (λ (x : Option SeenJob). HasItsPart m.parts.pool.room a x)
      (going.in_it.stands.kept_are a n) (going.in_it.parts a n)

  kept_in_taken : (b : Bool) (a : Op) (n : ℕ)
      → HasItsPart m.parts.pool.room a (kept_job w (if b then Taken o k ∷ heard else heard) (act.Send a n))
  kept_in_taken true a n = has_its_part m.parts.pool.room a (is_act (act.Send a n) job) (kept_job w heard (act.Send a
      n))
      (kept_in_heard a n)
  kept_in_taken false a n = kept_in_heard a n

  is_in : (t : SeenTask) → Stands w later t → IsTaskIn m.parts.pool.room w (share w task after) t
  is_in t stands = record {
    heard = later;
    stands = stands;
    alike = alike_now;
    parts = λ a n. subst (λ (x : Option SeenJob). HasItsPart m.parts.pool.room a x) (sym (stands.kept_are a n))
        (has_its_part m.parts.pool.room a (is_act (act.Send a n) job) (kept_job w taken (act.Send a n))
        (kept_in_taken (is_some (kept_job w heard job)) a n));
  }

  -- ---- its part

  heard_all : holds_buffer o ≡ true → heard ≡ h
  heard_all b =
      let two = and_parts (may_be_given (stage w h job)) (is_named w (stage w h) (is_stopped w h) job)
      (find_passes (is_ready_in w h) (acts_of w) job is_first) in
      going.in_it.alike.same (goes_on w h o k (is_stopped w h) b two.1)

  finds : AreSingle m.parts.slots → holds_buffer o ≡ true
      → FindsPart (is_some (job_at going.state.kept o k)) m.parts.pool.count m.parts.slots task k
  finds single b =
      subst (λ (n : ℕ). FindsPart (is_some (job_at going.state.kept o k)) n m.parts.slots task k) (sym follows.buffers)
      (subst (λ (x : Option SeenJob). FindsPart (is_some x) s.buffers m.parts.slots task k)
      (ap (λ (x : History). kept_job w x job) (sym (heard_all b)) ∙ sym (going.in_it.stands.kept_are o k))
      (sending_finds_part s events m.parts.slots task o k lane w run.run.1 single follows.parts there run.run.0 b))

  pub finds_part : (t now : SeenTask) → state_at m task ≡ Some t → now ≡ t → AreSingle m.parts.slots
      → holds_buffer o ≡ true → FindsPart (is_some (job_at now.kept o k)) m.parts.pool.count m.parts.slots task k
  finds_part t now e same single b =
      subst (λ (x : SeenTask). FindsPart (is_some (job_at x.kept o k)) m.parts.pool.count m.parts.slots task k)
      (in_slot_is s events m task w follows going t e ∙ sym same) (finds single b)

  -- the job that was kept has its part
  pub kept_part : (t now : SeenTask) → state_at m task ≡ Some t → now ≡ t
      → HasItsPart m.parts.pool.room o (job_at now.kept o k)
  kept_part t now e same = subst (λ (x : SeenTask). HasItsPart m.parts.pool.room o (job_at x.kept o k))
      (in_slot_is s events m task w follows going t e ∙ sym same) (going.in_it.parts o k)

  -- ---- its lane

  pub within : lane < length m.lanes.jobs
  within = subst (λ (n : ℕ). lane < n) (sym follows.lanes.count)
      (sent_within s follows.some_lane events task o k lane run.run.0)

  in_lanes : lane < s.lanes
  in_lanes = sent_within s follows.some_lane events task o k lane run.run.0

  pub room : kept.out_in m.lanes lane < m.lanes.depth
  room =
      let goes = subst (λ (x : Move). GoesToTheFreest s events x) run.run.0 (jobs_go_to_the_freest s events) in
      subst (λ (n : ℕ). kept.out_in m.lanes lane < n) (sym follows.lanes.depth)
      (subst (λ (n : ℕ). n < s.depth)
      (ap (λ (jobs : List JobId). length jobs) (sym (follows.lanes.jobs lane in_lanes))) goes.0)

  -- ---- what is kept

  others : OthersStay task events after
  others = record {
    made_so = λ n other. refl;
    memory = λ n other. refl;
    same = λ n other v.
        ap (λ (b : Bool). if b then Gave job ∷ with_taken v o k (share v n events) else share v n events) other;
    lines = refl;
    cancel = refl;
  }

  pub sent_follows : (t : SeenTask) (parts : SeenParts) (new : SeenMoves)
      → IsSound m.acts m.slots m.outcomes m.made → Stands w later t → IsSamePool m.parts.pool parts.pool
      → IsPutWhere (holds_buffer o) task k (Some None) m.parts.slots parts.slots
      → new ≡ with_state task t (between task parts
      (with_jobs m.lanes lane (kept.jobs_in m.lanes lane ++ job_of task o k ∷ [])) m) → Follows s after new
  sent_follows t parts new sound stands pool put is =
      settled_follows s events after task t parts
      (with_jobs m.lanes lane (kept.jobs_in m.lanes lane ++ job_of task o k ∷ [])) m new w follows going sound run
      others
      refl refl (is_in t stands) pool (sent_joins s events m.lanes task o k lane follows.lanes in_lanes)
      (sending_takes_part s events m.parts.slots parts.slots task o k lane run.run follows.parts put) is
