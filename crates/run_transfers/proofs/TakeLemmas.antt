-- An outcome is taken, and is one of the oldest pending job of its lane, or a stranger.
use Rattle.std.proofs.Common.{◌≡◌, ◌∙◌, ◌≤◌, ◌<◌, ◌++◌, [], ◌∷◌, ℕ, List, Option, Some, None, IfSome, refl}
use Rattle.std.proofs.Common.{sym, subst, ap, arith, drop, get_or, is_some, length, slice_get}
use Rattle.std.proofs.lemmas.List.{drop-map, length-append, length-drop}
use Rattle.std.specs.Option.{option_map}
use Rattle.bounded_executor.specs.Desk.{DeskState, all_out, lane_of, takes}
use Rattle.bounded_executor.specs.Exchange.{jobs_out, unused, with_taken}
use Rattle.jobs.specs.Endings.{IsEnded, SeenCarried}
use Rattle.jobs.specs.Jobs.{SeenJob}
use Rattle.lane_givings.proofs.Holding.{jobs_have_room, oldest_may_return, returned_leaves}
use Rattle.lane_givings.specs.Givings.{HasRoom, IsSameJob}
use Rattle.manager_core.proofs.RunLemmas.{at_due}
use Rattle.manager_core.specs.Answers.{MayComeBack}
use Rattle.manager_core.specs.Due.{IsSettled}
use Rattle.manager_core.specs.Kept.{SeenManager}
use Rattle.manager_core.specs.Running.{IsRunning}
use Rattle.manager_core.specs.Shown.{HasTaskAt}
use Rattle.manager_core.specs.declared.due.Due.TheVariants as due
use Rattle.manager_moves.specs.Laws.{IsOfTask, IsRun, MayFollow}
use Rattle.manager_moves.specs.Moves.{next_move}
use Rattle.manager_moves.specs.Runs.{Back, Events, Shared}
use Rattle.manager_moves.specs.declared.moves.Move.TheVariants as move
use Rattle.pending_jobs.specs.Pending.{IsBack, IsOldestBack, IsOldestOf, KeepsRoom, SeenPendingJobs, out_of, pending_of, with_out}
use Rattle.pending_jobs.specs.declared.pending.Pending.{Pending}
use Rattle.run_needs.specs.Needs.{most_bytes}
use Rattle.run_progress.proofs.Progress.{waits_are_for_jobs}
use Rattle.run_traces.proofs.Exchanging.{exchanges_took}
use Rattle.run_traces.proofs.Planned.{took_event}
use Rattle.run_traces.specs.Exchanges.{AreExchangesOf, HasStranger, MayBeOf}
use Rattle.run_traces.specs.Exchanges as traced
use Rattle.run_traces.specs.Traces.{Took, events_of, journal_of, pending_in}
use Rattle.s3_model.specs.declared.bytes.Part.{Part}
use Rattle.s3_model.specs.declared.outcomes.Event.TheVariants as entry
use Rattle.run_transfers.proofs.LaneLemmas.{out_at, outs_of, pending_at, pending_lanes, pendings, put_lane, some_out, with_outcome}
use Rattle.run_transfers.proofs.RunLemmas.{free_run, journal_more}
use Rattle.run_transfers.specs.Conducting.{Conducted, GoesOn, HasLanes, IsConducting, MeetsStranger, SeenConductor, conductor, pending_of_lane}

-- ---- the test

oldest : (jobs : List SeenJob) (job : SeenJob) → IsOldestOf (pendings jobs) job
    → (given : SeenJob) × (slice_get jobs 0 ≡ Some given) × IsBack (pending_of given) job
oldest [] job is = absurd is
oldest (given ∷ jobs) job is = (given, refl, is)

is_oldest : (jobs : List SeenJob) (given job : SeenJob) → slice_get jobs 0 ≡ Some given → IsBack (pending_of given) job
    → IsOldestOf (pendings jobs) job
is_oldest [] given job e is = absurd cc
is_oldest (first ∷ jobs) given job e is =
    subst (λ (o : Option SeenJob). IfSome o (λ x. IsBack (pending_of x) job)) (sym e) is

some_at : (jobs : List SeenJob) → 0 < length jobs → (given : SeenJob) × (slice_get jobs 0 ≡ Some given)
some_at [] some = absurd (omega arith)
some_at (given ∷ jobs) some = (given, refl)

part_kept : (given now : Option Part) → KeepsRoom (option_map (λ (part : Part). part.bytes.room) given) now
    → is_some now ≡ is_some given
part_kept None None is = refl
part_kept None (Some now) is = absurd is
part_kept (Some given) None is = absurd is
part_kept (Some given) (Some now) is = refl

room_kept : (room : ℕ) (given now : Option Part) → KeepsRoom (option_map (λ (part : Part). part.bytes.room) given) now
    → HasRoom room given → HasRoom room now
room_kept room None None is has = tt
room_kept room None (Some now) is has = absurd is
room_kept room (Some given) None is has = absurd is
room_kept room (Some given) (Some now) is has = omega (arith, is, has)

same_room : (given now : Option Part) → traced.room_of now ≡ traced.room_of given
    → KeepsRoom (option_map (λ (part : Part). part.bytes.room) given) now
same_room None None e = tt
same_room None (Some now) e = absurd cc
same_room (Some given) None e = absurd cc
same_room (Some given) (Some now) e =
    let same : now.bytes.room ≡ given.bytes.room = ap (λ (o : Option ℕ). get_or_none o) e in omega (arith, same)
  where
    get_or_none : Option ℕ → ℕ
    get_or_none None = 0
    get_or_none (Some n) = n

its_job : {given : SeenJob} {job : SeenJob} → IsBack (pending_of given) job → IsSameJob given job
its_job {given} {job} is = record { id = is.id; cell = is.cell; had = is.had; part = part_kept given.part job.part is.part }

may_be_back : {given : SeenJob} {carried : SeenCarried} → MayBeOf given carried → IsBack (pending_of given) carried.job
may_be_back {given} {carried} may = record {
  id = may.same.id;
  cell = may.same.cell;
  part = same_room given.part carried.job.part may.room;
  had = may.same.had;
}

some_task : (s : Shared) (events : Events) (carried : SeenCarried) (o : Option ℕ) → IsOfTask s events o carried
    → (n : ℕ) × (o ≡ Some n)
some_task s events carried None is = absurd is
some_task s events carried (Some n) is = (n, refl)

-- ---- an outcome is taken

module _ {W : Type 0} {run : Conducted} {c : SeenConductor} {d : DeskState W SeenJob SeenCarried}
    (k : IsConducting run c d) (is : c.manager.due ≡ due.Next move.Wait) where
  abbrev s : Shared
  s = run.shared

  abbrev events : Events
  events = events_of run.trace

  named : next_move s events ≡ move.Wait
  named = (at_due run.start s events c.manager k.running (due.Next move.Wait) is).named

  so_far : IsRun s events
  so_far = (at_due run.start s events c.manager k.running (due.Next move.Wait) is).run.run

  pub some_are_out : 0 < all_out d
  some_are_out = let waits = waits_are_for_jobs s events named in some_out k.lanes waits.0 waits.1 waits.2

  module _ (lane : ℕ) (carried : SeenCarried) (within : lane < length d.lanes)
      (was_out : 0 < jobs_out (lane_of d lane)) where
    abbrev jobs : List SeenJob
    jobs = pending_of_lane (get_or d.lanes lane unused)

    pending_is : pending_in lane run.trace ≡ jobs
    pending_is = ap pending_of_lane (sym (k.exchanged lane))

    pub lane_known : lane < length c.pending.lanes
    lane_known = subst (λ (n : ℕ). lane < n) (sym (pending_lanes k.lanes)) within

    module _ (passed : IsOldestBack c.pending lane carried.job)
        (ended : IsEnded carried.ending carried.job.id.op carried.job.part carried.job.cell carried.tries)
        (few : length carried.tries ≤ 10) where
      given : (job : SeenJob) × (slice_get jobs 0 ≡ Some job) × IsBack (pending_of job) carried.job
      given = oldest jobs carried.job
          (subst (λ (ps : List Pending). IsOldestOf ps carried.job) (pending_at k.lanes lane) passed)

      first : slice_get (get_or (outs_of d.lanes) lane []) 0 ≡ Some given.0
      first = ap (λ (js : List SeenJob). slice_get js 0) (out_at d.lanes lane) ∙ given.1

      pub may_follow : MayFollow s events (Back lane carried)
      may_follow = oldest_may_return (most_bytes s.works) s events (outs_of d.lanes) lane given.0 carried so_far
          k.lanes.jobs first (its_job given.2) ended

      pub may_come_back : MayComeBack lane carried c.manager
      may_come_back = record {
        start = run.start;
        s = s;
        events = events;
        running = k.running;
        settled = subst IsSettled (sym is) tt;
        may = may_follow;
      }

      its_room : HasRoom (most_bytes s.works) carried.job.part
      its_room = room_kept (most_bytes s.works) given.0.part carried.job.part given.2.part
          (jobs_have_room (most_bytes s.works) s events (outs_of d.lanes) lane 0 given.0 so_far k.lanes.jobs first)

      pub has_room : IfSome carried.job.part (λ part. c.manager.moves.parts.pool.room ≤ part.bytes.room)
      has_room = subst (λ (room : ℕ). HasRoom room carried.job.part) (sym k.running.given.bytes) its_room

      its_task : (n : ℕ) × (carried.job.id.task ≡ Some n)
      its_task = some_task s events carried carried.job.id.task may_follow.1

      events_are : events_of (Took lane carried ∷ run.trace) ≡ Back lane carried ∷ events
      events_are = took_event lane carried run.trace its_task.0 its_task.1

      pub took_on : (new : SeenManager) {q : SeenPendingJobs} {e : DeskState W SeenJob SeenCarried}
          → IsRunning run.start s (Back lane carried ∷ events) new → new.due ≡ due.Free → e ≡ takes d lane carried
          → q ≡ with_out c.pending lane (drop 1 (out_of c.pending lane)) → GoesOn run (conductor new q) e
      took_on new {q} {e} running free took known = record {
        since = Took lane carried ∷ [];
        kept = record {
          running = subst (λ (es : Events). IsRunning run.start s es new) (sym events_are) running;
          journal = journal_more (entry.Came carried.job.id lane carried.tries) (journal_of run.trace) k.running running
              refl k.journal;
          exchanged = subst (λ (desk : DeskState W SeenJob SeenCarried). AreExchangesOf (Took lane carried ∷ run.trace) desk.lanes) (sym took)
              (exchanges_took run.trace d.lanes lane carried within k.exchanged);
          lanes = subst (λ (es : Events). HasLanes s es q e) (sym events_are)
              (put_lane lane (with_taken (get_or d.lanes lane unused) carried) (drop 1 (get_or (outs_of d.lanes) lane []))
              k.lanes within took behind
              (with_outcome (get_or d.lanes lane unused) carried
              ∙ ap (λ (js : List SeenJob). drop 1 js) (sym (out_at d.lanes lane)))
              (known ∙ ap (λ (ps : List Pending). with_out c.pending lane ps) pending_then)
              (returned_leaves (most_bytes s.works) s events (outs_of d.lanes) lane carried (free_run running free)
              k.lanes.jobs its_room));
        };
        right = (
          (
            record {
              job = given.0;
              oldest = ap (λ (js : List SeenJob). slice_get js 0) pending_is ∙ given.1;
              back = given.2;
              few = few;
            },
            named,
          ),
          tt,
        );
      }
        where
          behind : length ((get_or d.lanes lane unused).taken ++ carried ∷ []) ≤ length (get_or d.lanes lane unused).given
          behind = let one = length-append (get_or d.lanes lane unused).taken (carried ∷ []) in omega (arith, was_out, one)

          pending_then : drop 1 (out_of c.pending lane) ≡ pendings (drop 1 (get_or (outs_of d.lanes) lane []))
          pending_then =
              ap (λ (ps : List Pending). drop 1 ps) (pending_at k.lanes lane ∙ ap pendings (sym (out_at d.lanes lane)))
              ∙ drop-map pending_of 1 (get_or (outs_of d.lanes) lane [])

      pub its_task_is : (new : SeenManager) → IsRunning run.start s (Back lane carried ∷ events) new
          → IfSome carried.job.id.task (λ n. HasTaskAt n new)
      its_task_is new running = by carried.job.id.task may_follow.1
        where
          by : (o : Option ℕ) → IsOfTask s events o carried → IfSome o (λ n. HasTaskAt n new)
          by None of = tt
          by (Some n) of = record {
            start = run.start;
            s = s;
            events = Back lane carried ∷ events;
            running = running;
            work = of.0;
            there = of.1;
          }

    -- none of the job that is the oldest
    pub met : {e : DeskState W SeenJob SeenCarried} → (IsOldestBack c.pending lane carried.job → ⊥)
        → e ≡ takes d lane carried → MeetsStranger run e
    met {e} failed took =
        let some : 0 < length jobs = let long = length-drop (length (get_or d.lanes lane unused).taken) (get_or d.lanes lane unused).given in omega (arith, long, was_out) in
        let job = some_at jobs some in
        record {
          since = Took lane carried ∷ [];
          exchanged = subst (λ (desk : DeskState W SeenJob SeenCarried). AreExchangesOf (Took lane carried ∷ run.trace) desk.lanes) (sym took)
              (exchanges_took run.trace d.lanes lane carried within k.exchanged);
          stranger = record {
            later = [];
            before = run.trace;
            lane = lane;
            carried = carried;
            is = refl;
            job = job.0;
            oldest = ap (λ (js : List SeenJob). slice_get js 0) pending_is ∙ job.1;
            other = λ may. failed (subst (λ (ps : List Pending). IsOldestOf ps carried.job) (sym (pending_at k.lanes lane))
                (is_oldest jobs job.0 carried.job job.1 (may_be_back may)));
          };
        }
