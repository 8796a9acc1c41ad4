-- What a manager keeps of one small upload: as its Put is to be given, and at its end.
use Rattle.std.proofs.Common.{◌≡◌, ◌∙◌, ◌&&◌, ◌==◌, ◌<◌, [], ◌∷◌, ℕ, zero, suc, Bool, true, false, List, Option}
use Rattle.std.proofs.Common.{Some, None, refl, sym, subst, ap, arith, get_or, replicate, slice_get, if◌then◌else◌}
use Rattle.std.specs.Option.{option_or}
use Rattle.std.specs.Prelude.{IsSome}
use Rattle.act_queues.specs.declared.act_queues.ActSort.TheVariants as sort
use Rattle.jobs.specs.Holders.{Holder}
use Rattle.jobs.specs.declared.what.What.{What}
use Rattle.kept_jobs.specs.Slots.{slot}
use Rattle.manager_moves.proofs.ExampleRuns.{uploads_are_runs}
use Rattle.manager_moves.specs.Examples.{shared, upload}
use Rattle.manager_moves.specs.Laws.{IsRun}
use Rattle.manager_moves.specs.Lanes.{jobs_in}
use Rattle.manager_moves.specs.Runs.{Events, Made, Sent, Shared, lacks_memory, share}
use Rattle.move_laws.specs.Follows.{Follows, HasItsPart, HoldsTask, outcome_at}
use Rattle.move_laws.specs.Kept.{SeenMoves}
use Rattle.part_tables.proofs.Following.{calling_puts_part, others_move_no_part, returning_brings_part}
use Rattle.part_tables.proofs.Following.{sending_takes_part}
use Rattle.part_tables.proofs.Tables.{alike_unfreed, empty_tables_begin}
use Rattle.part_tables.specs.Tables.{IsTableBut, IsTableOf, Slots, has_stopped, none_unfreed}
use Rattle.queue_laws.specs.ReadyActs.{HoldActs}
use Rattle.run_steps.specs.Steps.{HoldSteps, HoldsStep, is_going}
use Rattle.s3_model.specs.declared.bytes.Part.{Part}
use Rattle.s3_model.specs.declared.outcomes.Outcome.TheVariants as outcome
use Rattle.s3_model.specs.declared.requests.Op.TheVariants as op
use Rattle.s3_model.specs.declared.tasks.Task.{Task}
use Rattle.shared_lemmas.proofs.Clashes.{false_true, none_is_some, some_is}
use Rattle.step_jobs.specs.Shares.{HasAll, SeenSteps, share_of}
use Rattle.step_laws.proofs.ShareLemmas.{shares_begin, shares_stay}
use Rattle.task_acts.specs.declared.acts.Act.TheVariants as act
use Rattle.task_acts.specs.declared.acts.FileCame.TheVariants as file
use Rattle.task_acts.specs.declared.acts.Stage.TheVariants as at
use Rattle.task_acts.specs.declared.work.Work.{Work}
use Rattle.task_acts.specs.Histories.{Gave}
use Rattle.task_core.proofs.Standing.{gave, returned, starts}
use Rattle.task_core.specs.Machine.{IsSettled, SeenTask, Stands, settled_by}
use Rattle.task_ends.specs.Causes.{no_causes}
use Rattle.task_schedule.specs.Witness.{put_back, put_run, read_run}
use Rattle.task_stages.proofs.Agreement.{agrees, waits}
use Rattle.task_stages.specs.Stages.{SeenStages, no_single, with_stage}
use Rattle.piece_stages.specs.Pieces.{no_piece}
use Rattle.whole_runs.specs.Witness.{put_part}

abbrev pub s : Shared
s = shared (upload ∷ []) 1 1 1

abbrev works : List Work
works = upload ∷ []

-- ---- lists

-- what holds of the only one, holds of each
pub of_only : {X : Type 0} (P : ℕ → X → Type 0) (x : X) → P 0 x → (n : ℕ) (y : X) → slice_get (x ∷ []) n ≡ Some y
    → P n y
of_only P x p zero y e = subst (P 0) (some_is x y e) p
of_only P x p (suc n) y e = absurd (none_is_some y e)

same_at : {X : Type 0} (count n : ℕ) (x : X) → get_or (replicate count x) n x ≡ x
same_at zero n x = refl
same_at (suc count) zero x = refl
same_at (suc count) (suc n) x = same_at count n x

some_at : {X : Type 0} (count n : ℕ) (x : X) → n < count → IsSome (get_or (replicate count (Some x)) n None)
some_at zero n x below = absurd (omega (arith, below))
some_at (suc count) zero x below = refl
some_at (suc count) (suc n) x below = some_at count n x (omega (arith, below))

-- ---- its task, once its file was read

abbrev fresh_stages : SeenStages
fresh_stages = record { work = upload; singles = no_single; pieces = replicate 1 no_piece }

abbrev out_stages : SeenStages
out_stages = with_stage fresh_stages (act.Read 0) at.Out

abbrev task_at : SeenStages → SeenTask
task_at stages = record {
  stages = stages;
  causes = no_causes;
  outcome = None;
  kept = record { work = upload; jobs = replicate 5 None };
  tags = None;
  upload = None;
}

abbrev pub read_task : SeenTask
read_task = task_at (with_stage out_stages (act.Read 0) at.Fine)

self_settled : (t : SeenTask) → t.outcome ≡ None → settled_by t ≡ None → IsSettled t t
self_settled t none goes = record {
  stages = refl;
  failing = refl;
  reason = refl;
  memory = refl;
  uncertain = refl;
  first = λ e. refl;
  last = λ e. refl;
  outcome = none ∙ sym (ap (λ o. option_or o (settled_by t)) none ∙ goes);
  kept = refl;
  tags = refl;
  upload = refl;
}

stands_fresh : Stands upload [] (task_at fresh_stages)
stands_fresh = starts upload (task_at fresh_stages) (task_at fresh_stages) refl (waits upload 1) refl refl
    (λ o n. same_at 5 (slot upload o n) None) refl tt (self_settled (task_at fresh_stages) refl refl)

stands_out : Stands upload (Gave (act.Read 0) ∷ []) (task_at out_stages)
stands_out = gave upload [] (task_at fresh_stages) stands_fresh (act.Read 0) (task_at out_stages) (task_at out_stages)
    (record {
      marked = record {
        work = refl;
        stages = λ b. agrees fresh_stages (act.Read 0) b at.Out (omega arith, omega arith);
      };
      causes = refl;
      outcome = refl;
      kept = λ o n. refl;
      tags = refl;
      upload = refl;
    })
    (self_settled (task_at out_stages) refl refl)

stands_read : Stands upload (share upload 0 read_run) read_task
stands_read = returned upload (Gave (act.Read 0) ∷ []) (task_at out_stages) stands_out (act.Read 0) file.Fine read_task
    read_task
    (record {
      marked = record {
        work = refl;
        stages = λ b. agrees out_stages (act.Read 0) b at.Fine (omega arith, omega arith);
      };
      failing = refl;
      first = refl;
      last = refl;
      reason = refl;
      memory = refl;
      uncertain = refl;
      outcome = refl;
      kept = refl;
      tags = refl;
      upload = refl;
    })
    (self_settled read_task refl refl)

-- ---- its part

-- the part of its piece is that, or away
abbrev lent : Option Part → Slots
lent part = Some (record { task = 0; number = 0; part = part }) ∷ []

abbrev none_lent : Slots
none_lent = None ∷ []

-- of two puts of a piece the last counts
put_twice : {X : Type 0} (b : Bool) (first last none : X)
    → (if b then last else none) ≡ (if b then last else if b then first else none)
put_twice true first last none = refl
put_twice false first last none = refl

put_away : {X : Type 0} (b : Bool) (first none : X) → none ≡ (if b then none else if b then first else none)
put_away true first none = refl
put_away false first none = refl

never : (b : Bool) → (b && false) ≡ false
never true = refl
never false = refl

-- nothing has stopped the task
settled : (before after : Events) (slots : Slots)
    → ((t : ℕ) → has_stopped upload 0 before after t ≡ ((0 == t) && false))
    → IsTableBut (has_stopped upload 0 before after) works after slots → IsTableOf works after slots
settled before after slots goes table = alike_unfreed (has_stopped upload 0 before after) none_unfreed works after slots
    (λ t. goes t ∙ never (0 == t)) table

made_table : IsTableOf works (Made true ∷ []) none_lent
made_table = (others_move_no_part works [] none_lent true (empty_tables_begin works 1)).0

module _ (for : What) (cell : Holder) where
  abbrev pub events : Events
  events = put_run for cell put_part

  run : IsRun s events
  run = (uploads_are_runs for cell put_part).0

  pub read_is_run : IsRun s read_run
  read_is_run = run.1.1.1

  read_table : IsTableOf works read_run (lent (Some put_part))
  read_table = settled (Made true ∷ []) read_run (lent (Some put_part)) (λ t. refl)
      (calling_puts_part s (Made true ∷ []) none_lent (lent (Some put_part)) 0 (act.Read 0) file.Fine upload
      (Some (Some put_part)) read_is_run made_table refl refl (λ e. refl) (λ x y. refl))

  sent_table : IsTableOf works (Sent 0 op.Put 0 0 ∷ read_run) (lent None)
  sent_table = sending_takes_part s read_run (lent (Some put_part)) (lent None) 0 op.Put 0 0 run.1.1 read_table
      (λ x y. put_twice ((0 == x) && (0 == y)) (Some (Some put_part)) (Some None) None)

  back_table : IsTableOf works (put_back for cell put_part) none_lent
  back_table = settled (Sent 0 op.Put 0 0 ∷ read_run) (put_back for cell put_part) none_lent (λ t. refl)
      (returning_brings_part s (Sent 0 op.Put 0 0 ∷ read_run) (lent None) none_lent 0 _ 0 upload None run.1 sent_table
      refl refl refl (λ e. refl) (λ x y. put_away ((0 == x) && (0 == y)) (Some None) None))

  end_table : IsTableOf works events none_lent
  end_table = (others_move_no_part works (put_back for cell put_part) none_lent true back_table).1

  -- ---- its moves

  abbrev pub read_moves : SeenMoves
  read_moves = record {
    queue = 1;
    lanes = record { depth = 1; jobs = [] ∷ [] };
    acts = Some sort.Job ∷ [];
    slots = Some read_task ∷ [];
    outcomes = None ∷ [];
    parts = record {
      pool = record { count = 1; free = 0; lent = 1; room = 5; most = 5 };
      slots = lent (Some put_part);
    };
    made = 1;
    lined = 0;
    unfinished = 1;
    reason = None;
  }

  abbrev pub end_moves : SeenMoves
  end_moves = record {
    queue = 1;
    lanes = record { depth = 1; jobs = [] ∷ [] };
    acts = None ∷ [];
    slots = None ∷ [];
    outcomes = Some outcome.Done ∷ [];
    parts = record {
      pool = record { count = 1; free = 1; lent = 0; room = 5; most = 5 };
      slots = none_lent;
    };
    made = 1;
    lined = 1;
    unfinished = 0;
    reason = None;
  }

  pub read_follows : Follows s read_run read_moves
  read_follows = record {
    count = refl;
    queue = refl;
    buffers = refl;
    some_lane = omega arith;
    lanes = record { depth = refl; count = refl; jobs = no_jobs };
    acts = acts;
    parts = read_table;
    made_is = refl;
    lined = refl;
    unfinished = refl;
    reason = refl;
    outcomes = outcomes;
    tasks = λ n w there memory. of_only
        (λ (k : ℕ) (v : Work). HoldsTask 5 v (share v k read_run) (get_or read_moves.slots k None)) upload (
          record {
            heard = share upload 0 read_run;
            stands = stands_read;
            alike = record { told_are = refl; same = λ e. refl };
            parts = λ o k. subst (λ j. HasItsPart 5 o j) (sym (same_at 5 (slot upload o k) None)) tt;
          },
          refl,
        )
        n w there;
    lost = lost;
  }
    where
      no_jobs : (lane : ℕ) → lane < 1 → get_or ([] ∷ []) lane [] ≡ jobs_in lane read_run
      no_jobs zero below = refl
      no_jobs (suc lane) below = absurd (omega (arith, below))

      acts : HoldActs s read_run read_moves.acts
      acts zero = refl
      acts (suc n) = refl

      outcomes : (n : ℕ) → get_or read_moves.outcomes n None ≡ outcome_at n (slice_get works n) read_run
      outcomes zero = refl
      outcomes (suc n) = refl

      lost : (n : ℕ) → lacks_memory n read_run ≡ true → get_or read_moves.slots n None ≡ None
      lost n e = absurd (false_true e)

  pub end_follows : Follows s events end_moves
  end_follows = record {
    count = refl;
    queue = refl;
    buffers = refl;
    some_lane = omega arith;
    lanes = record { depth = refl; count = refl; jobs = no_jobs };
    acts = acts;
    parts = end_table;
    made_is = refl;
    lined = refl;
    unfinished = refl;
    reason = refl;
    outcomes = outcomes;
    tasks = λ n w there memory. of_only
        (λ (k : ℕ) (v : Work). HoldsTask 5 v (share v k events) (get_or end_moves.slots k None)) upload
        (record { ended = refl; waits = refl }) n w there;
    lost = λ n e. same_at 1 n None;
  }
    where
      no_jobs : (lane : ℕ) → lane < 1 → get_or ([] ∷ []) lane [] ≡ jobs_in lane events
      no_jobs zero below = refl
      no_jobs (suc lane) below = absurd (omega (arith, below))

      acts : HoldActs s events end_moves.acts
      acts zero = refl
      acts (suc n) = refl

      outcomes : (n : ℕ) → get_or end_moves.outcomes n None ≡ outcome_at n (slice_get works n) events
      outcomes zero = refl
      outcomes (suc n) = refl

  -- ---- its jobs

  module _ (task : Task) where
    abbrev pub full_steps : SeenSteps
    full_steps = record { task = task; work = upload; cell = cell; shares = replicate 5 (Some (share_of task cell)) }

    all : HasAll full_steps
    all o k inside = some_at 5 (slot upload o k) (share_of task cell) inside

    pub read_steps : HoldSteps s read_run (task ∷ []) (Some full_steps ∷ [])
    read_steps = record {
      count = refl;
      each = λ n t w in_plan there. of_only
          (λ (k : ℕ) (x : Task). HoldsStep (is_going w k read_run) x w (share w k read_run)
          (get_or (Some full_steps ∷ []) k None)) task
          (of_only (λ (k : ℕ) (v : Work). HoldsStep (is_going v 0 read_run) task v (share v 0 read_run)
          (Some full_steps)) upload
          (shares_stay task upload _ _ full_steps
          (shares_stay task upload [] _ full_steps (shares_begin task upload full_steps refl refl all)))
          n w there) n t in_plan;
    }

    pub end_steps : HoldSteps s events (task ∷ []) (None ∷ [])
    end_steps = record {
      count = refl;
      each = λ n t w in_plan there. of_only
          (λ (k : ℕ) (x : Task). HoldsStep (is_going w k events) x w (share w k events)
          (get_or (None ∷ []) k None)) task
          (of_only (λ (k : ℕ) (v : Work). HoldsStep (is_going v 0 events) task v (share v 0 events) None) upload
          refl n w there) n t in_plan;
    }
