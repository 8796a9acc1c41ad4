-- A run that is conducted stays what its trace says, move by move.
use Rattle.std.proofs.Common.{◌≡◌, ◌∙◌, ◌≤◌, ◌<◌, ◌++◌, [], ◌∷◌, ℕ, Bool, List, Option, Some, None}
use Rattle.std.proofs.Common.{sym, subst, ap, arith, append_assoc, get_or, length, map, set}
use Rattle.std.proofs.lemmas.List.{append_cancel_left, get_or-set_same, length-append, length-map, map-append}
use Rattle.std.specs.Prelude.{cond}
use Rattle.bounded_executor.specs.Desk.{DeskState, gives, lane_of}
use Rattle.bounded_executor.specs.Exchange.{jobs_out, unused, with_given}
use Rattle.held_parts.specs.Held.{held_at}
use Rattle.job_terms.specs.Jobs.{job_of}
use Rattle.jobs.specs.Endings.{SeenCarried}
use Rattle.jobs.specs.Jobs.{SeenJob}
use Rattle.lane_givings.proofs.Holding.{given_joins}
use Rattle.lane_givings.specs.Givings.{HasRoom, HoldJobs, IsGivenAs, IsGivenNext}
use Rattle.manager_core.proofs.ReadyJobs.{there_is}
use Rattle.manager_core.proofs.RunLemmas.{at_due, works_are}
use Rattle.manager_core.specs.Answers.{CanGoOn, IsDue}
use Rattle.manager_core.specs.Due.{IsSettled}
use Rattle.manager_core.specs.Formed.{IsHandedOut, IsJobFor}
use Rattle.manager_core.specs.Kept.{SeenManager}
use Rattle.manager_core.specs.Running.{IsRunning, Start}
use Rattle.manager_core.specs.declared.due.Due.TheVariants as due
use Rattle.manager_moves.proofs.BufferLaws.{sent_within}
use Rattle.manager_moves.proofs.MoveLaws.{jobs_go_to_the_freest}
use Rattle.manager_moves.specs.Lanes.{jobs_in, out_in}
use Rattle.manager_moves.specs.Laws.{GoesToTheFreest, IsRun}
use Rattle.manager_moves.specs.Moves.{next_move}
use Rattle.manager_moves.specs.Runs as runs
use Rattle.manager_moves.specs.Runs.{Event, Events, Sent, Shared, share}
use Rattle.manager_moves.specs.declared.moves.Move.{Move}
use Rattle.manager_moves.specs.declared.moves.Move.TheVariants as move
use Rattle.move_laws.specs.Calls.{HasBytes}
use Rattle.pending_jobs.specs.Pending.{SeenPendingJobs, out_of, pending_of, with_out}
use Rattle.pending_jobs.specs.declared.pending.Pending.{Pending}
use Rattle.run_needs.specs.Needs.{most_bytes}
use Rattle.run_steps.proofs.Settling.{slice_within}
use Rattle.run_traces.proofs.Exchanging.{exchanges_gave}
use Rattle.run_traces.proofs.Planned.{gave_event}
use Rattle.run_traces.proofs.Steps.{same_number}
use Rattle.run_traces.specs.Exchanges.{AreExchangesOf}
use Rattle.run_traces.specs.Traces.{Gave, events_of, journal_of}
use Rattle.s3_model.specs.declared.bytes.Part.{Part}
use Rattle.s3_model.specs.declared.outcomes.Event.{Event as Entry}
use Rattle.s3_model.specs.declared.outcomes.Event.TheVariants as entry
use Rattle.s3_model.specs.declared.outcomes.JobId.{JobId}
use Rattle.s3_model.specs.declared.requests.Op.{Op}
use Rattle.s3_model.specs.declared.tasks.Task.{Task}
use Rattle.task_acts.specs.declared.acts.Act.TheVariants as act
use Rattle.task_acts.specs.declared.work.Work.{Work}
use Rattle.task_acts.specs.Kept.{kept_job}
use Rattle.run_transfers.proofs.LaneLemmas.{known_count, out_at, out_count, outs_of, pending_at, pending_depth, pending_lanes, pendings, put_lane, with_job}
use Rattle.run_transfers.specs.Conducting.{Conducted, GoesOn, HasLanes, IsAt, IsConducting, IsFree, SeenConductor, conductor, further, pending_of_lane}

-- the events of a run of which nothing is to be answered are a run by the rule
pub free_run : {start : Start} {s : Shared} {events : Events} {m : SeenManager} → IsRunning start s events m
    → m.due ≡ due.Free → IsRun s events
free_run {start} {s} {events} {m} running free = (at_due start s events m running due.Free free).run.run

-- ---- what a run may be asked

module _ {W : Type 0} {c : SeenConductor} {d : DeskState W SeenJob SeenCarried} where
  pub can_go_on : IsFree c d → CanGoOn c.manager
  can_go_on is = record {
    start = is.run.start;
    s = is.run.shared;
    events = events_of is.run.trace;
    running = is.kept.running;
    settled = subst IsSettled (sym is.free) tt;
  }

  pub is_due : {moved : Move} → IsAt moved c d → IsDue moved c.manager
  is_due {moved} is = record {
    start = is.run.start;
    s = is.run.shared;
    events = events_of is.run.trace;
    running = is.kept.running;
    is = is.is;
  }

-- what was conducted from a run that was kept is kept
pub goes_free : {W : Type 0} {c : SeenConductor} {d : DeskState W SeenJob SeenCarried} {run : Conducted}
    → GoesOn run c d → c.manager.due ≡ due.Free → IsFree c d
goes_free {W} {c} {d} {run} on free = record { run = further on.since run; kept = on.kept; free = free }

-- one entry more stands in the journal
pub journal_more : {start : Start} {s : Shared} {events later : Events} {m new : SeenManager} (x : Entry)
    (so_far : List Entry) → IsRunning start s events m → IsRunning start s later new
    → runs.journal_of later ≡ runs.journal_of events ++ x ∷ [] → m.journal.items ≡ so_far
    → new.journal.items ≡ so_far ++ x ∷ []
journal_more {start} {s} {events} {later} {m} {new} x so_far was is more kept =
    is.journal.items ∙ ap (λ (es : List Entry). start.planning ++ es) more
    ∙ sym (append_assoc start.planning (runs.journal_of events) (x ∷ []))
    ∙ ap (λ (es : List Entry). es ++ x ∷ []) (sym was.journal.items ∙ kept)

-- ---- a job is given

roomy : (room : ℕ) (held : Option (Option Part)) (part : Option Part) → HasBytes room held part → HasRoom room part
roomy room held None has = tt
roomy room held (Some p) has = has.0

head_is : {X : Type 0} (x y : X) → x ∷ [] ≡ y ∷ [] → x ≡ y
head_is x y e = ap (λ (xs : List _). get_or xs 0 x) e

module _ {W : Type 0} {run : Conducted} {c : SeenConductor} {d : DeskState W SeenJob SeenCarried}
    (k : IsConducting run c d) {task : ℕ} {o : Op} {number lane : ℕ}
    (is : c.manager.due ≡ due.Next (move.Give task o number lane)) where
  abbrev s : Shared
  s = run.shared

  abbrev events : Events
  events = events_of run.trace

  named : next_move s events ≡ move.Give task o number lane
  named = (at_due run.start s events c.manager k.running (due.Next (move.Give task o number lane)) is).named

  pub lane_within : lane < length d.lanes
  lane_within = subst (λ (n : ℕ). lane < n) (sym k.lanes.lanes)
      (sent_within s k.running.given.means.lanes events task o number lane named)

  has_room : out_in lane events < s.depth
  has_room = (subst (λ (moved : Move). GoesToTheFreest s events moved) named (jobs_go_to_the_freest s events)).0

  pub desk_room : jobs_out (lane_of d lane) < d.depth
  desk_room = let out = out_count k.lanes lane in let deep = k.lanes.depth in let room = has_room in omega (arith, out, deep, room)

  pub pending_lane : lane < length c.pending.lanes
  pending_lane = subst (λ (n : ℕ). lane < n) (sym (pending_lanes k.lanes)) lane_within

  pub pending_room : length (out_of c.pending lane) < c.pending.depth
  pending_room =
      let out = known_count k.lanes lane in
      let same = pending_depth k.lanes in
      let deep = k.lanes.depth in
      let room = has_room in omega (arith, out, same, deep, room)

  -- the job that was formed is the one that the run says
  is_next : (job : SeenJob) → IsJobFor s events task o number c.manager job
      → IsGivenNext (most_bytes s.works) s events task o number job
  is_next job for w there =
      let below = slice_within s.works task w there in
      let same = works_are run.start s events c.manager k.running in
      let of_task = there_is c.manager.plan.tasks.items task (omega (arith, below, same)) in
      by of_task.0 w (kept_job w (share w task events) (act.Send o number)) (for of_task.0 w of_task.1 there)
    where
      by : (t : Task) (w : Work) (kept : Option SeenJob)
          → IsHandedOut kept t w s events task o number c.manager job
          → IsGivenAs (most_bytes s.works) (job_of task o number) kept job
      by t w (Some kept) same = same
      by t w None first = record {
        is = first.id;
        cell = first.has_cell;
        had = first.had;
        part = first.part.0;
        has_room = subst (λ (room : ℕ). HasRoom room job.part) k.running.given.bytes
            (roomy c.manager.moves.parts.pool.room (held_at c.manager.moves.parts.slots task number) job.part first.part.1);
      }

  module _ (job : SeenJob) (for : IsJobFor s events task o number c.manager job) (new : SeenManager)
      (running : IsRunning run.start s (Sent task o number lane ∷ events) new) (free : new.due ≡ due.Free) where
    abbrev out : List SeenJob
    out = get_or (outs_of d.lanes) lane []

    abbrev out_then : List SeenJob
    out_then = out ++ job ∷ []

    holds : HoldJobs (most_bytes s.works) s (Sent task o number lane ∷ events) (set (outs_of d.lanes) lane out_then)
    holds = given_joins (most_bytes s.works) s events (outs_of d.lanes) task o number lane job (free_run running free)
        k.lanes.jobs (is_next job for)
        (subst (λ (n : ℕ). lane < n) (sym (length-map d.lanes pending_of_lane)) lane_within)

    its_id : job.id ≡ job_of task o number
    its_id = head_is job.id (job_of task o number)
        (append_cancel_left (jobs_in lane events) (job.id ∷ []) (job_of task o number ∷ []) (
        ap (λ (ids : List JobId). ids ++ job.id ∷ []) (sym (k.lanes.jobs.each lane).ids)
        ∙ sym (map-append (λ (j : SeenJob). j.id) out (job ∷ []))
        ∙ ap (λ (js : List SeenJob). map (λ (j : SeenJob). j.id) js)
        (sym (get_or-set_same (outs_of d.lanes) lane out_then []
        (subst (λ (n : ℕ). lane < n) (sym (length-map d.lanes pending_of_lane)) lane_within)))
        ∙ (holds.each lane).ids
        ∙ ap (λ (b : Bool). cond b (jobs_in lane events ++ job_of task o number ∷ []) (jobs_in lane events)) (same_number lane)
        ))

    events_are : events_of (Gave lane job ∷ run.trace) ≡ Sent task o number lane ∷ events
    events_are =
        gave_event lane job run.trace task (ap (λ (id : JobId). id.task) its_id)
        ∙ ap (λ (id : JobId). Sent task id.op id.number lane ∷ events) its_id

    pub gives_on : {q : SeenPendingJobs} {e : DeskState W SeenJob SeenCarried} → e ≡ gives d lane job
        → q ≡ with_out c.pending lane (out_of c.pending lane ++ pending_of job ∷ []) → GoesOn run (conductor new q) e
    gives_on {q} {e} gave known = record {
      since = Gave lane job ∷ [];
      kept = record {
        running = subst (λ (es : Events). IsRunning run.start s es new) (sym events_are) running;
        journal = journal_more (entry.Given job.id lane) (journal_of run.trace) k.running running
            (ap (λ (id : JobId). runs.journal_of events ++ entry.Given id lane ∷ []) (sym its_id)) k.journal;
        exchanged = subst (λ (desk : DeskState W SeenJob SeenCarried). AreExchangesOf (Gave lane job ∷ run.trace) desk.lanes) (sym gave)
            (exchanges_gave run.trace d.lanes lane job lane_within k.exchanged);
        lanes = subst (λ (es : Events). HasLanes s es q e) (sym events_are)
            (put_lane lane (with_given (get_or d.lanes lane unused) job) out_then k.lanes lane_within gave behind
            (with_job (get_or d.lanes lane unused) job (k.lanes.behind lane)
            ∙ ap (λ (js : List SeenJob). js ++ job ∷ []) (sym (out_at d.lanes lane)))
            (known ∙ ap (λ (ps : List Pending). with_out c.pending lane ps) pending_then) holds);
      };
      right = (tt, tt);
    }
      where
        behind : length (get_or d.lanes lane unused).taken ≤ length ((get_or d.lanes lane unused).given ++ job ∷ [])
        behind = let so_far = k.lanes.behind lane in omega (arith, so_far, length-append (get_or d.lanes lane unused).given (job ∷ []))

        pending_then : out_of c.pending lane ++ pending_of job ∷ [] ≡ pendings out_then
        pending_then =
            ap (λ (ps : List Pending). ps ++ pending_of job ∷ []) (pending_at k.lanes lane ∙ ap pendings (sym (out_at d.lanes lane)))
            ∙ sym (map-append pending_of out (job ∷ []))
