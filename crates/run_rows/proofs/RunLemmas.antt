-- What is kept of a run with its lanes, move by move.
use Rattle.std.proofs.Common.{◌≡◌, ◌∙◌, ◌≤◌, ◌<◌, ◌++◌, ℕ, false, List, [], ◌∷◌, Option, Some, None, IfSome, refl}
use Rattle.std.proofs.Common.{sym, subst, ap, arith, drop, get_or, is_some, length, set, slice_get}
use Rattle.std.proofs.lemmas.List.{length-replicate, length-set}
use Rattle.std.specs.Prelude.{replicate}
use Rattle.held_parts.specs.Held.{held_at}
use Rattle.job_terms.specs.Jobs.{job_of}
use Rattle.jobs.specs.Endings.{SeenCarried}
use Rattle.jobs.specs.Holders.{Holder}
use Rattle.jobs.specs.Jobs.{SeenJob}
use Rattle.lane_givings.proofs.Holding.{given_joins, jobs_have_room, none_is_out, oldest_may_return, others_leave}
use Rattle.lane_givings.proofs.Holding.{returned_leaves}
use Rattle.lane_givings.specs.Givings.{HasRoom, IsGivenAs, IsGivenNext, IsSameJob}
use Rattle.manager_core.proofs.ReadyJobs.{there_is}
use Rattle.manager_core.proofs.RunLemmas.{at_due, works_are}
use Rattle.manager_core.specs.Answers.{CanGoOn, IsCallDue, IsDue, MayComeBack}
use Rattle.manager_core.specs.Due.{IsSettled, call_due}
use Rattle.manager_core.specs.Formed.{IsHandedOut, IsJobFor}
use Rattle.manager_core.specs.Kept.{SeenManager}
use Rattle.manager_core.specs.Running.{CanRun, IsRunning, IsSharedOf, Start}
use Rattle.manager_core.specs.declared.due.Due.TheVariants as due
use Rattle.manager_moves.proofs.BufferLaws.{sent_within}
use Rattle.manager_moves.specs.Laws.{IsRun, MayFollow}
use Rattle.manager_moves.specs.Runs.{Back, Event, Events, Sent, Shared, share}
use Rattle.manager_moves.specs.declared.moves.Move.{Move}
use Rattle.manager_moves.specs.declared.moves.Move.TheVariants as move
use Rattle.move_laws.specs.Calls.{HasBytes}
use Rattle.queue_laws.specs.Holding.{is_of_lanes}
use Rattle.run_needs.specs.Needs.{most_bytes}
use Rattle.run_steps.proofs.Settling.{slice_within}
use Rattle.s3_model.specs.declared.bytes.Part.{Part}
use Rattle.s3_model.specs.declared.requests.Op.{Op}
use Rattle.s3_model.specs.declared.settings.Config.{Config}
use Rattle.s3_model.specs.declared.settings.Limits.{Limits}
use Rattle.s3_model.specs.declared.tasks.Task.{Task}
use Rattle.task_acts.specs.declared.acts.Act.{Act}
use Rattle.task_acts.specs.declared.acts.Act.TheVariants as act
use Rattle.task_acts.specs.declared.acts.FileCame.{FileCame}
use Rattle.task_acts.specs.declared.work.Work.{Work}
use Rattle.task_acts.specs.Kept.{MayCome, kept_job}
use Rattle.run_scripts.specs.Returning.{ComesOf, room_of}
use Rattle.run_scripts.specs.Tasks.{EachReplaces}
use Rattle.sync_plan.specs.Fit.{IsFit}
use Rattle.run_rows.specs.Runs.{IsAt, IsCall, IsFree, IsKept}

-- the events of a run of which nothing is to be answered are a run by the rule
free_run : {start : Start} {s : Shared} {events : Events} {m : SeenManager} → IsRunning start s events m
    → m.due ≡ due.Free → IsRun s events
free_run {start} {s} {events} {m} running free = (at_due start s events m running due.Free free).run.run

-- ---- what a run may be asked

pub can_go_on : {m : SeenManager} {lanes : List (List SeenJob)} → IsFree m lanes → CanGoOn m
can_go_on {m} {lanes} is = record {
  start = is.kept.start;
  s = is.kept.s;
  events = is.kept.events;
  running = is.kept.running;
  settled = subst IsSettled (sym is.free) tt;
}

pub is_due : {moved : Move} {m : SeenManager} {lanes : List (List SeenJob)} → IsAt moved m lanes → IsDue moved m
is_due {moved} {m} {lanes} is = record {
  start = is.kept.start;
  s = is.kept.s;
  events = is.kept.events;
  running = is.kept.running;
  is = is.is;
}

-- a move that is a call on files
module _ {moved : Move} {m : SeenManager} {lanes : List (List SeenJob)} (is : IsAt moved m lanes) (call : ℕ × Act)
    (is_call : IsCall moved call) where
  pub call_is_due : call_due m.due ≡ Some (record { task = call.0; act = call.1 })
  call_is_due = ap call_due is.is ∙ is_call

  pub call_may : (came : FileCame) → MayCome call.1 came → IsCallDue came m
  call_may came may = record {
    start = is.kept.start;
    s = is.kept.s;
    events = is.kept.events;
    running = is.kept.running;
    call = record { task = call.0; act = call.1 };
    is = call_is_due;
    may = may;
  }

-- ---- what is kept

-- the same has happened
pub stays : {m new : SeenManager} {lanes : List (List SeenJob)} (k : IsKept m lanes)
    → IsRunning k.start k.s k.events new → IsKept new lanes
stays k running = record {
  start = k.start;
  s = k.s;
  events = k.events;
  running = running;
  jobs = k.jobs;
  count = k.count;
}

-- something happened that is no matter of lanes
pub goes_on : {m new : SeenManager} {lanes : List (List SeenJob)} (k : IsKept m lanes) (e : Event)
    → is_of_lanes e ≡ false → IsRunning k.start k.s (e ∷ k.events) new → new.due ≡ due.Free → IsFree new lanes
goes_on {m} {new} {lanes} k e other running free = record {
  kept = record {
    start = k.start;
    s = k.s;
    events = e ∷ k.events;
    running = running;
    jobs = others_leave (most_bytes k.s.works) k.s k.events lanes e other (free_run running free) k.jobs;
    count = k.count;
  };
  free = free;
}

-- ---- the start

pub can_run : {limits : Limits} {tasks : List Task} → limits.max_object ≡ 256 → IsFit 256 tasks → EachReplaces tasks
    → CanRun limits tasks
can_run {limits} {tasks} most fit replace = record {
  fit = subst (λ (x : ℕ). IsFit x tasks) (sym most) fit;
  replace = replace;
}

pub begins : {config : Config} {limits : Limits} {tasks : List Task} {start : Start} {s : Shared} {m : SeenManager}
    {lanes : ℕ} → IsSharedOf config limits lanes tasks s → IsRunning start s [] m → m.due ≡ due.Free
    → IsFree m (replicate lanes [])
begins {config} {limits} {tasks} {start} {s} {m} {lanes} shared running free = record {
  kept = record {
    start = start;
    s = s;
    events = [];
    running = running;
    jobs = none_is_out (most_bytes s.works) s lanes;
    count = length-replicate lanes [] ∙ sym shared.lanes_are;
  };
  free = free;
}

-- ---- a job is given

roomy : (room : ℕ) (held : Option (Option Part)) (part : Option Part) → HasBytes room held part → HasRoom room part
roomy room held None has = tt
roomy room held (Some p) has = has.0

module _ {task : ℕ} {o : Op} {number lane : ℕ} {m : SeenManager} {lanes : List (List SeenJob)}
    (is : IsAt (move.Give task o number lane) m lanes) where
  -- the lane is there
  pub lane_within : lane < length lanes
  lane_within =
      let k = is.kept in
      let at = at_due k.start k.s k.events m k.running (due.Next (move.Give task o number lane)) is.is in
      subst (λ (n : ℕ). lane < n) (sym k.count)
      (sent_within k.s k.running.given.means.lanes k.events task o number lane at.named)

  -- the job that was formed is the one that the run says
  is_next : (job : SeenJob) → IsJobFor is.kept.s is.kept.events task o number m job
      → IsGivenNext (most_bytes is.kept.s.works) is.kept.s is.kept.events task o number job
  is_next job for w there =
      let k = is.kept in
      let below = slice_within k.s.works task w there in
      let same = works_are k.start k.s k.events m k.running in
      let of_task = there_is m.plan.tasks.items task (omega (arith, below, same)) in
      by of_task.0 w (kept_job w (share w task k.events) (act.Send o number)) (for of_task.0 w of_task.1 there)
    where
      by : (t : Task) (w : Work) (kept : Option SeenJob)
          → IsHandedOut kept t w is.kept.s is.kept.events task o number m job
          → IsGivenAs (most_bytes is.kept.s.works) (job_of task o number) kept job
      by t w (Some kept) same = same
      by t w None first = record {
        is = first.id;
        cell = first.has_cell;
        had = first.had;
        part = first.part.0;
        has_room = subst (λ (room : ℕ). HasRoom room job.part) is.kept.running.given.bytes
            (roomy m.moves.parts.pool.room (held_at m.moves.parts.slots task number) job.part first.part.1);
      }

  pub gives : (job : SeenJob) → IsJobFor is.kept.s is.kept.events task o number m job → (new : SeenManager)
      → IsRunning is.kept.start is.kept.s (Sent task o number lane ∷ is.kept.events) new → new.due ≡ due.Free
      → (now : List (List SeenJob)) → now ≡ set lanes lane (get_or lanes lane [] ++ job ∷ []) → IsFree new now
  gives job for new running free now now_is =
      let k = is.kept in
      let more : List (List SeenJob) = set lanes lane (get_or lanes lane [] ++ job ∷ []) in
      subst (λ (x : List (List SeenJob)). IsFree new x) (sym now_is) (record {
        kept = record {
          start = k.start;
          s = k.s;
          events = Sent task o number lane ∷ k.events;
          running = running;
          jobs = given_joins (most_bytes k.s.works) k.s k.events lanes task o number lane job
              (free_run running free) k.jobs (is_next job for) lane_within;
          count = length-set lanes lane (get_or lanes lane [] ++ job ∷ []) ∙ k.count;
        };
        free = free;
      })

-- ---- a job comes back

some_room : (part : Option Part) → is_some (room_of part) ≡ is_some part
some_room None = refl
some_room (Some part) = refl

room_in : (room : ℕ) (part : Option Part) → HasRoom room part → IfSome (room_of part) (λ own. room ≤ own)
room_in room None has = tt
room_in room (Some part) has = has

room_back : (room : ℕ) (part : Option Part) → IfSome (room_of part) (λ own. room ≤ own) → HasRoom room part
room_back room None has = tt
room_back room (Some part) has = has

its_job : {given : SeenJob} {carried : SeenCarried} → ComesOf given carried → IsSameJob given carried.job
its_job {given} {carried} comes = record {
  id = comes.same.id;
  cell = ap (λ (cell : Option Holder). is_some cell) comes.same.cell;
  had = comes.same.had;
  part = sym (some_room carried.job.part) ∙ ap (λ (room : Option ℕ). is_some room) comes.same.room
      ∙ some_room given.part;
}

keeps_room : {given : SeenJob} {carried : SeenCarried} → ComesOf given carried → (room : ℕ) → HasRoom room given.part
    → HasRoom room carried.job.part
keeps_room {given} {carried} comes room has = room_back room carried.job.part
    (subst (λ (own : Option ℕ). IfSome own (λ r. room ≤ r)) (sym comes.same.room) (room_in room given.part has))

module _ {m : SeenManager} {lanes : List (List SeenJob)} (is : IsAt move.Wait m lanes) (lane : ℕ) {given : SeenJob}
    (first : slice_get (get_or lanes lane []) 0 ≡ Some given) {carried : SeenCarried} (comes : ComesOf given carried)
  where
    so_far : IsRun is.kept.s is.kept.events
    so_far =
        let k = is.kept in (at_due k.start k.s k.events m k.running (due.Next move.Wait) is.is).run.run

    pub may_follow : MayFollow is.kept.s is.kept.events (Back lane carried)
    may_follow = oldest_may_return (most_bytes is.kept.s.works) is.kept.s is.kept.events lanes lane given carried so_far
        is.kept.jobs first (its_job comes) comes.ended

    pub may_come_back : MayComeBack lane carried m
    may_come_back = record {
      start = is.kept.start;
      s = is.kept.s;
      events = is.kept.events;
      running = is.kept.running;
      settled = subst IsSettled (sym is.is) tt;
      may = may_follow;
    }

    its_room : HasRoom (most_bytes is.kept.s.works) carried.job.part
    its_room = keeps_room comes (most_bytes is.kept.s.works)
        (jobs_have_room (most_bytes is.kept.s.works) is.kept.s is.kept.events lanes lane 0 given so_far is.kept.jobs
        first)

    pub has_room : IfSome carried.job.part (λ part. m.moves.parts.pool.room ≤ part.bytes.room)
    has_room = subst (λ (room : ℕ). HasRoom room carried.job.part) (sym is.kept.running.given.bytes) its_room

    pub comes_back : (new : SeenManager)
        → IsRunning is.kept.start is.kept.s (Back lane carried ∷ is.kept.events) new → new.due ≡ due.Free
        → (now : List (List SeenJob)) → now ≡ set lanes lane (drop 1 (get_or lanes lane [])) → IsFree new now
    comes_back new running free now now_is =
        let k = is.kept in
        subst (λ (x : List (List SeenJob)). IsFree new x) (sym now_is) (record {
          kept = record {
            start = k.start;
            s = k.s;
            events = Back lane carried ∷ k.events;
            running = running;
            jobs = returned_leaves (most_bytes k.s.works) k.s k.events lanes lane carried (free_run running free) k.jobs
                its_room;
            count = length-set lanes lane (drop 1 (get_or lanes lane [])) ∙ k.count;
          };
          free = free;
        })
