-- A removal that is cut and given again meets what the law on causes takes, and a neighbour does not.
use Rattle.std.proofs.Common.{◌≡◌, ◌∙◌, ◌<◌, ◌++◌, ◌==◌, ℕ, zero, suc, Bool, true, false, cond, List, [], ◌∷◌, Some, None, AllPairs, Contains, refl, sym, subst, ap, inl, inr, arith, rules, slice_get, length}
use Rattle.std.proofs.lemmas.List.Sorted.{IsPermutation-refl}
use Rattle.std.specs.Arc.{arc_value}
use Rattle.std.specs.declared.alloc.Global.{Global}
use Rattle.std.specs.declared.sync.Arc.{Arc}
use Rattle.job_terms.specs.Attempts.{in_lane}
use Rattle.job_terms.specs.Dispatches.{Dispatched}
use Rattle.job_terms.specs.Jobs.{job_of}
use Rattle.jobs.specs.Endings.{HaveNoSuccess, SeenCarried}
use Rattle.jobs.specs.Jobs.{IsAskOf, IsOfTask, IsStepAsk, SeenJob}
use Rattle.jobs.specs.declared.ending.Ending.TheVariants as ending
use Rattle.jobs.specs.declared.what.What.{What}
use Rattle.lane_journals.specs.Journals.{AreOfLanes}
use Rattle.lane_laws.specs.Runs.{AreCarriedJobs, Giving, IsCarriedJob, IsJournal}
use Rattle.manager_moves.specs.Laws.{IsRun}
use Rattle.manager_moves.specs.Moves.{next_move}
use Rattle.manager_moves.specs.Runs.{Back, Event, Events, Shared, share}
use Rattle.manager_moves.specs.Runs as run
use Rattle.manager_moves.specs.declared.moves.Move.TheVariants as move
use Rattle.run_causes.specs.Causes.{AsksOnce, IsTracedRun, TellsPlanning, TellsStops}
use Rattle.run_causes.specs.Witness.{CutRunIsMet, NoneIsGivenLate, cut_once, cut_run, first_giving, first_sent, job, job_again, job_cut, job_forgotten, removal_carrier, removal_setting, removal_step, removal_task, removal_work, removals, second_giving, second_sent, sent}
use Rattle.run_progress.specs.RunProgress.{HasMeans}
use Rattle.run_promise.specs.Schedule.{IsBefore, IsBeforeAny}
use Rattle.run_traces.specs.Plannings.{IsOfTasks, IsPlannedFirst}
use Rattle.run_traces.specs.Traces.{Gave, Lined, Made, RunStep, RunTrace, Took, events_of}
use Rattle.s3_model.specs.declared.answers.Reply.{Reply}
use Rattle.s3_model.specs.declared.outcomes.Event.{Event as Entry}
use Rattle.s3_model.specs.declared.outcomes.Event.TheVariants as entry
use Rattle.s3_model.specs.declared.outcomes.JobId.{JobId}
use Rattle.s3_model.specs.declared.outcomes.Reason.{Reason}
use Rattle.s3_model.specs.declared.outcomes.Reason.TheVariants as reason_of
use Rattle.s3_model.specs.declared.places.Endpoint.{Endpoint}
use Rattle.s3_model.specs.declared.requests.Ask.TheVariants as ask
use Rattle.s3_model.specs.declared.requests.Op.{Op}
use Rattle.s3_model.specs.declared.requests.Op.TheVariants as op
use Rattle.s3_model.specs.declared.settings.Keys.{Keys}
use Rattle.s3_model.specs.declared.tasks.Kind.TheVariants as kind
use Rattle.s3_model.specs.declared.tasks.Task.{Task}
use Rattle.s3_model.specs.declared.tries.Mark.{Mark}
use Rattle.shared_lemmas.proofs.Clashes.{none_is_some, some_is}
use Rattle.shared_lemmas.proofs.Lists.{head_is, no_middle, tail_is}
use Rattle.shared_lemmas.proofs.Members.{Has, contains_of, has, has_middle}
use Rattle.task_acts.specs.Work.{IsWorkOf}
use Rattle.task_acts.specs.declared.work.Work.{Work}
use Rattle.task_progress.specs.Progress.{HasPiece}
use Rattle.task_progress.proofs.Endings.{no}
use Rattle.task_schedule.proofs.Failures.{all_pairs}
use Rattle.task_schedule.proofs.Shares.{two_parts}
use Rattle.task_schedule.specs.Journals.{AreAsked, AreWorks, ComeInOrder, IsAsked}
use Rattle.trace_laws.specs.Journals.{HasGivings, IsGivingOf}

-- ---- the task

removes : IsWorkOf removal_task removal_setting.config removal_setting.limits removal_work
removes = record {
  kind_is = refl;
  moves_is = refl;
  size_is = refl;
  small_is = refl;
  pieces = (refl, refl);
  attempts_are = refl;
  replaces = refl;
}

piece : HasPiece removal_work
piece = record { some = omega arith; one = λ e. refl }

no_move : removal_task.kind ≡ kind.RemoveObject → removal_task.moves ≡ false
no_move e = refl

works : AreWorks removal_setting (removal_work ∷ [])
works = record { as_many = refl; each = each }
  where
    each : (n : ℕ) (w : Work) → slice_get (removal_work ∷ []) n ≡ Some w → (task : Task) × (slice_get removal_setting.tasks n ≡ Some task) × IsWorkOf task removal_setting.config removal_setting.limits w × HasPiece w × (task.kind ≡ kind.RemoveObject → task.moves ≡ false)
    each zero w e = (removal_task, refl, subst (IsWorkOf removal_task removal_setting.config removal_setting.limits) (some_is removal_work w e) removes, subst HasPiece (some_is removal_work w e) piece, no_move)
    each (suc n) w e = absurd (none_is_some w e)

means : HasMeans removals
means = record { lanes = omega arith; depth = omega arith; queue = omega arith; buffers = omega arith; pieces = pieces }
  where
    pieces : (n : ℕ) (w : Work) → slice_get (removal_work ∷ []) n ≡ Some w → HasPiece w
    pieces zero w e = subst HasPiece (some_is removal_work w e) piece
    pieces (suc n) w e = absurd (none_is_some w e)

no_success : HaveNoSuccess []
no_success = search rules

module _ (for : What) (cell : ℕ) where
  is_run : IsRun removals (events_of (cut_once for cell))
  is_run = (
    refl,
    (
      (refl, (removal_work, refl, (refl, refl, refl, no_success)), refl),
      (refl, ((refl, (removal_work, refl, (refl, refl, refl, (refl, refl))), refl), (refl, (refl, tt)))),
    ),
  )

  -- ---- its steps

  gave_same : (lane other : ℕ) (a b : SeenJob) → ◌≡◌ {A = RunStep} (Gave lane a) (Gave other b) → a ≡ b
  gave_same lane other a b e = cc

  took_same : (lane other : ℕ) (a b : SeenCarried) → ◌≡◌ {A = RunStep} (Took lane a) (Took other b) → a ≡ b
  took_same lane other a b e = cc

  lined_gave : (lane : ℕ) (a : SeenJob) → ◌≡◌ {A = RunStep} Lined (Gave lane a) → ⊥
  lined_gave lane a e = cc

  took_gave : (lane other : ℕ) (c : SeenCarried) (a : SeenJob) → ◌≡◌ {A = RunStep} (Took other c) (Gave lane a) → ⊥
  took_gave lane other c a e = cc

  made_gave : (lane : ℕ) (a : SeenJob) → ◌≡◌ {A = RunStep} (Made true) (Gave lane a) → ⊥
  made_gave lane a e = cc

  lined_took : (lane : ℕ) (c : SeenCarried) → ◌≡◌ {A = RunStep} Lined (Took lane c) → ⊥
  lined_took lane c e = cc

  gave_took : (lane other : ℕ) (a : SeenJob) (c : SeenCarried) → ◌≡◌ {A = RunStep} (Gave other a) (Took lane c) → ⊥
  gave_took lane other a c e = cc

  made_took : (lane : ℕ) (c : SeenCarried) → ◌≡◌ {A = RunStep} (Made true) (Took lane c) → ⊥
  made_took lane c e = cc

  -- each job that was given is of the task
  gave_of_task : (lane : ℕ) (a : SeenJob) → Has (cut_once for cell) (Gave lane a) → a.id.task ≡ Some 0
  gave_of_task lane a (inl e) = absurd (lined_gave lane a e)
  gave_of_task lane a (inr (inl e)) = absurd (took_gave lane 0 (job_forgotten for cell) a e)
  gave_of_task lane a (inr (inr (inl e))) = ap (λ (j : SeenJob). j.id.task) (sym (gave_same 0 lane (job_again for cell) a e))
  gave_of_task lane a (inr (inr (inr (inl e)))) = absurd (took_gave lane 0 (job_cut for cell) a e)
  gave_of_task lane a (inr (inr (inr (inr (inl e))))) = ap (λ (j : SeenJob). j.id.task) (sym (gave_same 0 lane (job for cell) a e))
  gave_of_task lane a (inr (inr (inr (inr (inr (inl e)))))) = absurd (made_gave lane a e)
  gave_of_task lane a (inr (inr (inr (inr (inr (inr none)))))) = absurd none

  took_of_task : (lane : ℕ) (c : SeenCarried) → Has (cut_once for cell) (Took lane c) → c.job.id.task ≡ Some 0
  took_of_task lane c (inl e) = absurd (lined_took lane c e)
  took_of_task lane c (inr (inl e)) = ap (λ (x : SeenCarried). x.job.id.task) (sym (took_same 0 lane (job_forgotten for cell) c e))
  took_of_task lane c (inr (inr (inl e))) = absurd (gave_took lane 0 (job_again for cell) c e)
  took_of_task lane c (inr (inr (inr (inl e)))) = ap (λ (x : SeenCarried). x.job.id.task) (sym (took_same 0 lane (job_cut for cell) c e))
  took_of_task lane c (inr (inr (inr (inr (inl e))))) = absurd (gave_took lane 0 (job for cell) c e)
  took_of_task lane c (inr (inr (inr (inr (inr (inl e)))))) = absurd (made_took lane c e)
  took_of_task lane c (inr (inr (inr (inr (inr (inr none)))))) = absurd none

  of_tasks : (step : RunStep) → Has (cut_once for cell) step → IsOfTasks step
  of_tasks step (inl e) = subst IsOfTasks e tt
  of_tasks step (inr (inl e)) = subst IsOfTasks e refl
  of_tasks step (inr (inr (inl e))) = subst IsOfTasks e refl
  of_tasks step (inr (inr (inr (inl e)))) = subst IsOfTasks e refl
  of_tasks step (inr (inr (inr (inr (inl e))))) = subst IsOfTasks e refl
  of_tasks step (inr (inr (inr (inr (inr (inl e)))))) = subst IsOfTasks e tt
  of_tasks step (inr (inr (inr (inr (inr (inr none)))))) = absurd none

  planned_first : IsPlannedFirst [] (cut_once for cell)
  planned_first = record {
    since = cut_once for cell;
    is = refl;
    of_planning = λ step known. absurd (has [] step known);
    of_tasks = λ step known. of_tasks step (has (cut_once for cell) step known);
  }

  not_planned : (lane : ℕ) (a : SeenJob) → Contains (cut_once for cell) (Gave lane a) → a.id.task ≡ None → ⊥
  not_planned lane a known none = none_is_some 0 (sym none ∙ gave_of_task lane a (has (cut_once for cell) (Gave lane a) known))

  asks_once : AsksOnce (cut_once for cell)
  asks_once = record {
    plain = λ lane a known none. absurd (not_planned lane a known none);
    once = λ later before lane other a b is none known same. not_planned lane a (contains_of (cut_once for cell) (Gave lane a) (subst (λ (t : RunTrace). Has t (Gave lane a)) (sym is) (has_middle later (Gave lane a) before))) none;
  }

-- ---- its dispatches

abbrev journal : List Entry
journal =
    let id = job_of 0 op.Delete 0 in
    entry.Given id 0 ∷ entry.Came id 0 [] ∷ entry.Given id 0 ∷ entry.Came id 0 [] ∷ []

given_came : (id other : JobId) (lane to : ℕ) (tries : List Mark) → Some (entry.Given id lane) ≡ Some (entry.Came other to tries) → ⊥
given_came id other lane to tries e = cc

-- what is said of two that stand so
of_both : {X : Type 0} (R : X → X → Type 0) (x y : X) → R x y → AllPairs R (x ∷ y ∷ [])
of_both {X} R x y holds = all_pairs R (x ∷ y ∷ []) each
  where
    each : (i j : ℕ) (a b : X) → i < j → slice_get (x ∷ y ∷ []) i ≡ Some a → slice_get (x ∷ y ∷ []) j ≡ Some b → R a b
    each zero zero a b l e f = absurd (omega arith)
    each zero (suc zero) a b l e f = subst (λ (z : X). R z b) (some_is x a e) (subst (λ (z : X). R x z) (some_is y b f) holds)
    each zero (suc (suc j)) a b l e f = absurd (none_is_some b f)
    each (suc zero) zero a b l e f = absurd (omega arith)
    each (suc zero) (suc zero) a b l e f = absurd (omega arith)
    each (suc zero) (suc (suc j)) a b l e f = absurd (none_is_some b f)
    each (suc (suc i)) j a b l e f = absurd (none_is_some a e)

of_none : {X : Type 0} (R : X → X → Type 0) → AllPairs R []
of_none R = all_pairs R [] (λ i j a b l e f. absurd (none_is_some a e))

not_first : (lane : ℕ) → (0 == suc lane) ≡ false
not_first lane = grind arith

abbrev InTurn : Dispatched → Dispatched → Type 0
InTurn a b = (at : ℕ) → b.dispatch.came_at ≡ Some at → IsBefore a.dispatch.came_at at

turn : InTurn first_sent second_sent
turn at e = by (some_is 3 at e)
  where
    by : 3 ≡ at → 1 < at
    by f = omega arith

is_journal : IsJournal removal_setting journal (λ lane. []) (λ lane. []) (first_sent ∷ second_sent ∷ [])
is_journal = record {
  shown = refl;
  comes = λ c known. comes c (has (first_sent ∷ second_sent ∷ []) c known);
  lanes = λ c known. lanes c (has (first_sent ∷ second_sent ∷ []) c known);
  unused_lanes = λ lane above. (refl, refl);
  nothing_else = nothing_else;
  in_turn = in_turn;
}
  where
    comes : (c : Dispatched) → Has (first_sent ∷ second_sent ∷ []) c
        → (place : ℕ) × (tries : List Mark) × (c.dispatch.came_at ≡ Some place) × (slice_get journal place ≡ Some (entry.Came c.dispatch.job c.dispatch.lane tries)) × (length tries ≡ length c.dispatch.attempts)
    comes c (inl e) = subst (λ (d : Dispatched). (place : ℕ) × (tries : List Mark) × (d.dispatch.came_at ≡ Some place) × (slice_get journal place ≡ Some (entry.Came d.dispatch.job d.dispatch.lane tries)) × (length tries ≡ length d.dispatch.attempts))
        e (1, [], refl, refl, refl)
    comes c (inr (inl e)) = subst (λ (d : Dispatched). (place : ℕ) × (tries : List Mark) × (d.dispatch.came_at ≡ Some place) × (slice_get journal place ≡ Some (entry.Came d.dispatch.job d.dispatch.lane tries)) × (length tries ≡ length d.dispatch.attempts))
        e (3, [], refl, refl, refl)
    comes c (inr (inr none)) = absurd none

    lanes : (c : Dispatched) → Has (first_sent ∷ second_sent ∷ []) c → c.dispatch.lane < 1
    lanes c (inl e) = subst (λ (d : Dispatched). d.dispatch.lane < 1) e (omega arith)
    lanes c (inr (inl e)) = subst (λ (d : Dispatched). d.dispatch.lane < 1) e (omega arith)
    lanes c (inr (inr none)) = absurd none

    nothing_else : (place lane : ℕ) (id : JobId) (tries : List Mark) → slice_get journal place ≡ Some (entry.Came id lane tries)
        → (c : Dispatched) × Contains (first_sent ∷ second_sent ∷ []) c × (c.dispatch.came_at ≡ Some place)
    nothing_else zero lane id tries e = absurd (given_came (job_of 0 op.Delete 0) id 0 lane tries e)
    nothing_else (suc zero) lane id tries e = (first_sent, contains_of (first_sent ∷ second_sent ∷ []) first_sent (inl refl), refl)
    nothing_else (suc (suc zero)) lane id tries e = absurd (given_came (job_of 0 op.Delete 0) id 0 lane tries e)
    nothing_else (suc (suc (suc zero))) lane id tries e = (second_sent, contains_of (first_sent ∷ second_sent ∷ []) second_sent (inr (inl refl)), refl)
    nothing_else (suc (suc (suc (suc place)))) lane id tries e = absurd (none_is_some (entry.Came id lane tries) e)

    in_turn : (lane : ℕ) → AllPairs InTurn (in_lane lane (first_sent ∷ second_sent ∷ []))
    in_turn zero = of_both InTurn first_sent second_sent turn
    in_turn (suc lane) = by (0 == suc lane) (not_first lane)
      where
        by : (b : Bool) → b ≡ false → AllPairs InTurn (cond b (first_sent ∷ cond b (second_sent ∷ []) []) (cond b (second_sent ∷ []) []))
        by true e = no (sym e)
        by false e = of_none InTurn

come_in_order : ComeInOrder (first_sent ∷ second_sent ∷ [])
come_in_order = of_both (λ (a b : Dispatched). IsBeforeAny a.dispatch.came_at b.dispatch.came_at) first_sent second_sent by
  where
    by : IsBeforeAny (Some 1) (Some 3)
    by = omega arith

-- ---- its lanes, which make no attempt

module _ (endpoint : Endpoint) (keys : Keys) where
  first_carried : IsCarriedJob endpoint keys 3 first_giving [] []
  first_carried = record {
    limit = None;
    place = [];
    limit_is = refl;
    attempts_are = refl;
    at_most = omega arith;
    again = λ k shown at more. absurd (none_is_some shown at);
    ends = inr (inl (record { reason = reason_of.TaskFailed; none_made = refl; gave_is = refl; ending_is = refl }));
    shared = ([], [], refl, (refl, refl), refl, tt);
  }

  second_carried : IsCarriedJob endpoint keys 3 second_giving [] []
  second_carried = record {
    limit = None;
    place = [];
    limit_is = refl;
    attempts_are = refl;
    at_most = omega arith;
    again = λ k shown at more. absurd (none_is_some shown at);
    ends = inr (inr (record { ending_is = refl; goes_on = cc; left = omega arith }));
    shared = ([], [], refl, (refl, refl), inl refl, tt);
  }

  of_lanes : AreOfLanes endpoint keys 3 (first_giving ∷ second_giving ∷ []) (λ lane. []) (λ lane. [])
  of_lanes zero = ([], [], [], [], refl, refl, first_carried, ([], [], [], [], refl, refl, second_carried, (refl, refl)))
  of_lanes (suc lane) = by (0 == suc lane) (not_first lane)
    where
      by : (b : Bool) → b ≡ false → AreCarriedJobs endpoint keys 3 (cond b (first_giving ∷ cond b (second_giving ∷ []) []) (cond b (second_giving ∷ []) [])) [] []
      by true e = no (sym e)
      by false e = (refl, refl)

  module _ (cell : ℕ) (shared_task : Arc Task Global) (of_task : arc_value shared_task ≡ removal_task) where
    abbrev for_ : What
    for_ = removal_step shared_task

    asks : IsAskOf (job_of 0 op.Delete 0) for_ (ask.Delete [] [])
    asks = subst (λ (t : Task). IsOfTask t op.Delete × IsStepAsk t (0, 0) None None op.Delete 0 (ask.Delete [] [])) (sym of_task)
        (inl tt, (record { bucket = []; key = []; is_dest = (refl, refl) }, refl))

    first_of : IsGivingOf (removal_carrier endpoint keys) (cut_once for_ cell) first_giving
    first_of = record {
      job = job for_ cell;
      carried = job_cut for_ cell;
      stands = record {
        later = Lined ∷ Took 0 (job_forgotten for_ cell) ∷ Gave 0 (job_again for_ cell) ∷ [];
        between = [];
        before = Made true ∷ [];
        is = refl;
        given_at = refl;
        came_at = refl;
        earlier = refl;
        marks = refl;
      };
      tells = record {
        was = None;
        now = None;
        by = record {
          asked = ask.Delete [] [];
          place = [];
          asks = asks;
          placed = tt;
          carries = record {
            classes = [];
            marks = refl;
            at_most = omega arith;
            again = λ k shown at more. absurd (none_is_some shown at);
            ends = inr (inl (record { reason = reason_of.TaskFailed; none_made = refl; gave_is = refl; ending_is = refl }));
            gained = tt;
            shared = tt;
          };
        };
        same = record { id = refl; what = refl; part = refl; cell = record { cell = refl; stays = tt }; had = refl };
        of_job = record { id = refl; ask_is = refl; body = refl; limit = refl };
        size = sym (ap (λ (t : Task). t.size) of_task);
        classes = refl;
        ended = refl;
        gave = (refl, λ e. cc);
        brings = λ said gained get. absurd (clash said gained);
      };
    }
      where
        clash : (said : Reply) → ending.Cancelled reason_of.TaskFailed ≡ ending.Gained said → ⊥
        clash said e = cc

    second_of : IsGivingOf (removal_carrier endpoint keys) (cut_once for_ cell) second_giving
    second_of = record {
      job = job_again for_ cell;
      carried = job_forgotten for_ cell;
      stands = record {
        later = Lined ∷ [];
        between = [];
        before = Took 0 (job_cut for_ cell) ∷ Gave 0 (job for_ cell) ∷ Made true ∷ [];
        is = refl;
        given_at = refl;
        came_at = refl;
        earlier = refl;
        marks = refl;
      };
      tells = record {
        was = None;
        now = None;
        by = record {
          asked = ask.Delete [] [];
          place = [];
          asks = asks;
          placed = tt;
          carries = record {
            classes = [];
            marks = refl;
            at_most = omega arith;
            again = λ k shown at more. absurd (none_is_some shown at);
            ends = inr (inr (record { ending_is = refl; goes_on = cc; left = omega arith }));
            gained = tt;
            shared = tt;
          };
        };
        same = record { id = refl; what = refl; part = refl; cell = tt; had = refl };
        of_job = record { id = refl; ask_is = refl; body = refl; limit = refl };
        size = sym (ap (λ (t : Task). t.size) of_task);
        classes = refl;
        ended = refl;
        gave = cc;
        brings = λ said gained get. absurd (clash said gained);
      };
    }
      where
        clash : (said : Reply) → ending.Memory ≡ ending.Gained said → ⊥
        clash said e = cc

    -- ---- the run

    all_givings : HasGivings (removal_carrier endpoint keys) removal_setting (cut_once for_ cell) (λ lane. []) (λ lane. []) (first_giving ∷ second_giving ∷ []) (first_sent ∷ second_sent ∷ [])
    all_givings = record {
      each = λ g known. each g (has (first_giving ∷ second_giving ∷ []) g known);
      journal = is_journal;
      lanes = of_lanes;
      is_coming = IsPermutation-refl (first_sent ∷ second_sent ∷ []);
      in_order = come_in_order;
    }
      where
        each : (g : Giving) → Has (first_giving ∷ second_giving ∷ []) g → IsGivingOf (removal_carrier endpoint keys) (cut_once for_ cell) g
        each g (inl e) = subst (IsGivingOf (removal_carrier endpoint keys) (cut_once for_ cell)) e first_of
        each g (inr (inl e)) = subst (IsGivingOf (removal_carrier endpoint keys) (cut_once for_ cell)) e second_of
        each g (inr (inr none)) = absurd none

    abbrev events : Events
    events = events_of (cut_once for_ cell)

    abbrev behind : Events
    behind = run.Lined ∷ run.Back 0 (job_forgotten for_ cell) ∷ run.Sent 0 op.Delete 0 0 ∷ run.Back 0 (job_cut for_ cell) ∷ run.Sent 0 op.Delete 0 0 ∷ []

    made_sent : (n k lane : ℕ) (o : Op) → run.Made true ≡ run.Sent n o k lane → ⊥
    made_sent n k lane o e = cc

    -- what was sent was sent behind the task's state
    behind_made : (later before : Events) (n k lane : ℕ) (o : Op) → events ≡ later ++ run.Sent n o k lane ∷ before → (since : Events) × (before ≡ since ++ run.Made true ∷ [])
    behind_made later before n k lane o e = elim (two_parts behind (run.Made true ∷ []) later (run.Sent n o k lane) before e) [
      | inl first ↦ absurd (first_is first.0 first.2)
      | inr then ↦ (then.0, then.2)
    ]
      where
        first_is : (r : Events) → run.Made true ∷ [] ≡ r ++ run.Sent n o k lane ∷ before → ⊥
        first_is [] f = made_sent n k lane o (head_is (run.Made true) (run.Sent n o k lane) [] before f)
        first_is (x ∷ r) f = no_middle r (run.Sent n o k lane) before (tail_is (run.Made true) x [] (r ++ run.Sent n o k lane ∷ before) f)

    abbrev Asked : Events → Dispatched → Type 0
    Asked before c = IsAsked removal_setting 0 removal_task removal_work before c

    asked_so : (before since : Events) (given_at came_at : ℕ) (is_second : Bool) → before ≡ since ++ run.Made true ∷ [] → Asked before (sent given_at came_at is_second)
    asked_so before since given_at came_at is_second e = record {
      since = since;
      then = run.Made true ∷ [];
      is = e;
      ready = refl;
      for = for_;
      step = (of_task, refl, refl, refl);
      asks = asks;
      body = refl;
      size = refl;
      limit = refl;
    }

    asked : AreAsked removals removal_setting 0 events (first_sent ∷ second_sent ∷ [])
    asked c zero lane task w later before known task_is work_is at given_at =
        let found = behind_made later before 0 c.dispatch.job.number lane c.dispatch.job.op at in
        subst (λ (t : Task). IsAsked removal_setting 0 t w before c) (some_is removal_task task task_is)
        (subst (λ (v : Work). IsAsked removal_setting 0 removal_task v before c) (some_is removal_work w work_is) (by before found.0 found.1 (has (first_sent ∷ second_sent ∷ []) c known)))
      where
        by : (before since : Events) → before ≡ since ++ run.Made true ∷ [] → Has (first_sent ∷ second_sent ∷ []) c → Asked before c
        by before since e (inl f) = subst (Asked before) f (asked_so before since 0 1 false e)
        by before since e (inr (inl f)) = subst (Asked before) f (asked_so before since 2 3 true e)
        by before since e (inr (inr none)) = absurd none
    asked c (suc n) lane task w later before known task_is work_is at given_at = absurd (none_is_some task task_is)

    met : IsTracedRun (cut_run endpoint keys cell shared_task)
    met = record {
      first = planned_first for_ cell;
      once = asks_once for_ cell;
      givings = all_givings;
      attempts = refl;
      some_attempt = omega arith;
      ended = record { means = means; run = is_run for_ cell; end = refl; works = works };
      asked = asked;
    }

    not_stopped : (reason : Reason) → Has events (run.Stopped reason) → ⊥
    not_stopped reason (inl e) = lined reason e
      where
        lined : (reason : Reason) → run.Lined ≡ run.Stopped reason → ⊥
        lined reason e = cc
    not_stopped reason (inr (inl e)) = back 0 (job_forgotten for_ cell) reason e
      where
        back : (lane : ℕ) (c : SeenCarried) (reason : Reason) → run.Back lane c ≡ run.Stopped reason → ⊥
        back lane c reason e = cc
    not_stopped reason (inr (inr (inl e))) = sent_stopped reason e
      where
        sent_stopped : (reason : Reason) → run.Sent 0 op.Delete 0 0 ≡ run.Stopped reason → ⊥
        sent_stopped reason e = cc
    not_stopped reason (inr (inr (inr (inl e)))) = back 0 (job_cut for_ cell) reason e
      where
        back : (lane : ℕ) (c : SeenCarried) (reason : Reason) → run.Back lane c ≡ run.Stopped reason → ⊥
        back lane c reason e = cc
    not_stopped reason (inr (inr (inr (inr (inl e))))) = sent_stopped reason e
      where
        sent_stopped : (reason : Reason) → run.Sent 0 op.Delete 0 0 ≡ run.Stopped reason → ⊥
        sent_stopped reason e = cc
    not_stopped reason (inr (inr (inr (inr (inr (inl e)))))) = made reason e
      where
        made : (reason : Reason) → run.Made true ≡ run.Stopped reason → ⊥
        made reason e = cc
    not_stopped reason (inr (inr (inr (inr (inr (inr none)))))) = none

    tells : TellsStops (cut_run endpoint keys cell shared_task)
    tells = record {
      cancelled = λ reason known. absurd (not_stopped reason (has events (run.Stopped reason) known));
      cancelled_at = λ place e. absurd (none_is_some place e);
      files = λ n w why of_plan e so. refl;
    }

    no_planning : TellsPlanning removal_setting (cut_once for_ cell)
    no_planning lane c known none ran = absurd (none_is_some 0 (sym none ∙ took_of_task for_ cell lane c (has (cut_once for_ cell) (Took lane c) known)))

pub cut_run_is_met : CutRunIsMet
cut_run_is_met endpoint keys cell shared_task of_task =
    (met endpoint keys cell shared_task of_task, tells endpoint keys cell shared_task of_task, (λ n w how of_plan e memory. refl), no_planning endpoint keys cell shared_task of_task)

-- ---- a neighbour

-- its line is due, and no job
pub none_is_given_late : NoneIsGivenLate
none_is_given_late r for cell given trace is =
    line_give (sym (line_due for cell) ∙ (subst (λ (t : RunTrace). IsRun removals (events_of t)) trace (subst (λ (s : Shared). IsRun s (events_of r.trace)) given is.ended.run)).0)
  where
    line_due : (for : What) (cell : ℕ) → next_move removals (events_of (Took 0 (record (job_cut for cell) { ending = ending.Memory }) ∷ Gave 0 (job for cell) ∷ Made true ∷ [])) ≡ move.Line 0
    line_due for cell = refl

    line_give : move.Line 0 ≡ move.Give 0 op.Delete 0 0 → ⊥
    line_give e = cc
