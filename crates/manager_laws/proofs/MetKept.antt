-- The states that a manager keeps of one small upload are those of its run.
use Rattle.std.proofs.Common.{◌≡◌, ◌∙◌, [], ◌∷◌, ℕ, true, false, List, Option, Some, None}
use Rattle.std.proofs.Common.{refl, sym, subst, ap, arith, inl, slice_get}
use Rattle.std.specs.Arc.{arc_value}
use Rattle.std.specs.declared.alloc.Global.{Global}
use Rattle.std.specs.declared.sync.Arc.{Arc}
use Rattle.job_terms.specs.Jobs.{job_of}
use Rattle.jobs.specs.Holders.{Holder}
use Rattle.jobs.specs.Jobs.{IsAskOf, IsOfTask, IsStepAsk}
use Rattle.jobs.specs.declared.what.What.{What}
use Rattle.kept_jobs.specs.Steps.{IsStepOf}
use Rattle.manager_core.specs.Formed.{IsHandedOut, IsJobFor}
use Rattle.manager_core.specs.Kept.{SeenManager}
use Rattle.manager_core.specs.Running.{IsGivenTo, IsRunning, Start}
use Rattle.manager_core.specs.declared.due.Due.{Due}
use Rattle.manager_core.specs.declared.due.Due.TheVariants as due
use Rattle.manager_moves.proofs.ExampleRuns.{uploads_are_runs}
use Rattle.manager_moves.specs.Examples.{stored, upload}
use Rattle.manager_moves.specs.Runs.{Called, Event, Events, Lined, Made, Sent, journal_of, share}
use Rattle.manager_moves.specs.declared.moves.Move.TheVariants as move
use Rattle.move_laws.specs.Kept.{SeenMoves}
use Rattle.s3_model.specs.declared.outcomes.Event.{Event as Entry}
use Rattle.s3_model.specs.declared.places.Place.TheVariants as place
use Rattle.s3_model.specs.declared.requests.Op.TheVariants as op
use Rattle.s3_model.specs.declared.tasks.Task.{Task}
use Rattle.shared_lemmas.proofs.Clashes.{false_true, some_is}
use Rattle.shared_lemmas.proofs.Lists.{no_middle}
use Rattle.step_jobs.specs.Shares.{SeenSteps}
use Rattle.sync_plan.specs.Fit.{IsOfKind}
use Rattle.task_acts.specs.Kept.{kept_job}
use Rattle.task_acts.specs.Work.{IsWorkOf}
use Rattle.task_acts.specs.declared.acts.Act.TheVariants as act
use Rattle.task_acts.specs.declared.acts.FileCame.TheVariants as file
use Rattle.task_acts.specs.declared.work.Work.{Work}
use Rattle.task_core.specs.Machine.{keeps_tags}
use Rattle.task_progress.specs.Progress.{HasPiece}
use Rattle.task_schedule.proofs.Witness.{each_work}
use Rattle.task_schedule.specs.Witness.{put_back, read_run, small_put, small_setting}
use Rattle.whole_runs.proofs.Growing.{grown}
use Rattle.whole_runs.specs.Given.{Jobs}
use Rattle.whole_runs.specs.Witness.{put_job, put_jobs, put_part, put_step}
use Rattle.manager_laws.proofs.MetStates.{end_follows, end_moves, end_steps, events, full_steps, of_only, read_follows}
use Rattle.manager_laws.proofs.MetStates.{read_is_run, read_moves, read_steps, s}
use Rattle.manager_laws.specs.Ends.{AreOfManager}
use Rattle.manager_laws.specs.Witness.{file_start, file_task}

object_file : (bucket key path : List ℕ) → place.Object bucket key ≡ place.File path → ⊥
object_file bucket key path e = cc

pieces : (n : ℕ) (w : Work) → slice_get s.works n ≡ Some w → HasPiece w
pieces n w there = (each_work n w there).3

-- it keeps no entity tags
no_tags : (n : ℕ) (w : Work) → slice_get (upload ∷ []) n ≡ Some w → keeps_tags w ≡ true → ⊥
no_tags n w there = of_only (λ (k : ℕ) (v : Work). keeps_tags v ≡ true → ⊥) upload false_true n w there

module _ (path : List ℕ) where
  abbrev task : Task
  task = file_task path

  abbrev start : Start
  start = file_start path

  is_work : IsWorkOf task small_setting.config small_setting.limits upload
  is_work = record {
    kind_is = refl;
    moves_is = refl;
    size_is = refl;
    small_is = refl;
    pieces = inl (omega arith, refl, refl);
    attempts_are = refl;
    replaces = refl;
  }

  -- ---- what it is given

  abbrev manager : SeenMoves → List (Option SeenSteps) → List Entry → Due → SeenManager
  manager moves steps entries of_due = record {
    plan = start.plan;
    journal = record { items = entries; spare = 4 };
    outcomes = record { items = []; spare = 1 };
    config = start.config;
    limits = start.limits;
    moves = moves;
    steps = steps;
    due = of_due;
  }

  only_task : (n : ℕ) (other : Task) → slice_get (task ∷ []) n ≡ Some other → (n ≡ 0) × (task ≡ other)
  only_task n other there = of_only (λ (k : ℕ) (x : Task). (k ≡ 0) × (task ≡ x)) task (refl, refl) n other there

  given : (moves : SeenMoves) (steps : List (Option SeenSteps)) (entries : List Entry) (d : Due)
      → moves.parts.pool.room ≡ 5 → IsGivenTo start s (manager moves steps entries d)
  given moves steps entries d room = record {
    plan_is = refl;
    config_is = refl;
    limits_are = refl;
    config = record {
      threshold = record { least = omega arith; most = omega arith };
      chunk = record { least = omega arith; most = omega arith };
      lanes = record { least = omega arith; most = omega arith };
      queue = record { least = omega arith; most = omega arith };
      buffers = record { least = omega arith; most = omega arith };
      attempts = record { least = omega arith; most = omega arith };
    };
    limits = record {
      min_part = omega arith;
      parts = omega arith;
      max_part = omega arith;
      max_parts = record { least = omega arith; most = omega arith };
      max_object = record { least = omega arith; most = omega arith };
      reached = omega arith;
    };
    plan = record {
      fit = record {
        destinations = λ m n a b at there e. (only_task m a at).0 ∙ sym (only_task n b there).0;
        sources = λ m n a b source at there e f. (only_task m a at).0 ∙ sym (only_task n b there).0;
        apart = λ m n a b source at there e f. object_file [] [] path
            (ap (λ (x : Task). x.dest) (only_task n b there).1 ∙ f
            ∙ some_is source (place.File path)
            (sym e ∙ ap (λ (x : Task). x.source) (sym (only_task m a at).1)));
        kinds = of_only (λ (k : ℕ) (x : Task). IsOfKind x.kind x.source x.dest x.moves) task tt;
        sizes = refl;
        few = omega arith;
      };
      replace = of_only (λ (k : ℕ) (x : Task). x.fresh ≡ false) task refl;
    };
    means = record {
      lanes = omega arith;
      depth = omega arith;
      queue = omega arith;
      buffers = omega arith;
      pieces = pieces;
    };
    works = (is_work, tt);
    no_outcome = refl;
    outcomes = omega arith;
    bytes = room;
  }

  module _ (cell : Holder) (shared_task : Arc Task Global) (same : arc_value shared_task ≡ task) where
    abbrev for : What
    for = put_step shared_task

    abbrev jobs : Jobs
    jobs = put_jobs for cell put_part

    step : IsStepOf task upload (share upload 0 read_run) op.Put 0 for
    step = (same, refl, refl, refl)

    pub asks : IsAskOf (job_of 0 op.Put 0) for small_put.ask
    asks = subst (λ (t : Task). IsOfTask t op.Put × IsStepAsk t (0, 5) None None op.Put 0 small_put.ask) (sym same)
        (tt, (record { bucket = []; key = []; is_dest = (refl, refl) }, refl))

    -- ---- its Put is to be given

    abbrev at_put : SeenManager
    at_put = manager (read_moves for cell) (Some (full_steps for cell task) ∷ []) [] (due.Next (move.Give 0 op.Put 0 0))

    keeps_put : IsRunning start s read_run at_put
    keeps_put = record {
      given = given (read_moves for cell) _ [] _ refl;
      journal = record { items = refl; room = omega arith };
      state = record {
        run = record { run = read_is_run for cell; pieces = pieces };
        follows = read_follows for cell;
        named = refl;
        steps = read_steps for cell task;
        tags = λ n w there keeps waiting goes. absurd (no_tags n w there keeps);
      };
    }

    hands_out : IsJobFor s read_run 0 op.Put 0 at_put (put_job for cell put_part)
    hands_out of_task w is_task of_plan = of_only
        (λ (k : ℕ) (x : Task). IsHandedOut (kept_job w (share w 0 read_run) (act.Send op.Put 0)) x w s read_run 0
        op.Put 0 at_put (put_job for cell put_part)) task
        (of_only
        (λ (k : ℕ) (v : Work). IsHandedOut (kept_job v (share v 0 read_run) (act.Send op.Put 0)) task v s read_run 0
        op.Put 0 at_put (put_job for cell put_part)) upload
        (record {
          id = refl;
          step = step;
          has_cell = refl;
          cell = refl;
          had = refl;
          part = (refl, (omega arith, refl));
        }) 0 w of_plan) 0 of_task is_task

    abbrev IsOfManager : Event → Events → Type 0
    IsOfManager (Sent n o k lane) past =
        (m : SeenManager) × IsRunning start s past m × IsJobFor s past n o k m (jobs past)
    IsOfManager e past = Unit {0}

    pub are_of_manager : AreOfManager start s (events for cell) jobs
    are_of_manager later before n k lane o is =
        grown IsOfManager Lined (put_back for cell put_part) tt
        (grown IsOfManager (stored for cell put_part 0 0) (Sent 0 op.Put 0 0 ∷ read_run) tt
        (grown IsOfManager (Sent 0 op.Put 0 0) read_run (at_put, keeps_put, hands_out)
        (grown IsOfManager (Called 0 (act.Read 0) file.Fine) (Made true ∷ []) tt
        (grown IsOfManager (Made true) [] tt (λ l past x none. absurd (no_middle l x past none)))))) later before
        (Sent n o k lane) is

    -- ---- its end

    abbrev pub at_end : SeenManager
    at_end = manager (end_moves for cell) (None ∷ []) (journal_of (events for cell)) (due.Next move.End)

    pub keeps_end : IsRunning start s (events for cell) at_end
    keeps_end = record {
      given = given (end_moves for cell) _ _ _ refl;
      journal = record { items = refl; room = omega arith };
      state = record {
        run = record { run = (uploads_are_runs for cell put_part).0; pieces = pieces };
        follows = end_follows for cell;
        named = refl;
        steps = end_steps for cell task;
        tags = λ n w there keeps waiting goes. absurd (no_tags n w there keeps);
      };
    }
