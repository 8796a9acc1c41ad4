-- A run at its start.
use Rattle.std.proofs.Common.{◌≡◌, ◌∙◌, ◌≤◌, [], ℕ, List, Option, None, refl, sym, subst, arith}
use Rattle.std.proofs.Common.{length, replicate}
use Rattle.std.proofs.lemmas.List.{append-nil}
use Rattle.std.specs.Prelude.{slice_get, Some}
use Rattle.manager_moves.proofs.PartLaws.{nothing}
use Rattle.manager_moves.specs.Runs.{Shared}
use Rattle.move_core.specs.Means.{IsSharedBy}
use Rattle.move_laws.specs.Follows.{Follows}
use Rattle.move_laws.specs.Kept.{SeenMoves}
use Rattle.move_core.specs.declared.move_core.Means.{Means}
use Rattle.run_needs.specs.Needs.{AreNeedsOf}
use Rattle.run_needs.specs.declared.needs.Needs.{Needs}
use Rattle.run_progress.specs.RunProgress.{HasMeans}
use Rattle.run_steps.proofs.Making.{jobs_begin}
use Rattle.run_steps.proofs.Settling.{slice_within}
use Rattle.run_steps.specs.Steps.{HoldSteps}
use Rattle.s3_model.specs.Lists.{Reserved}
use Rattle.s3_model.specs.Validity.{IsValidConfig, IsValidLimits}
use Rattle.s3_model.specs.declared.outcomes.Event.{Event as Entry}
use Rattle.s3_model.specs.declared.outcomes.Outcome.{Outcome}
use Rattle.s3_model.specs.declared.settings.Config.{Config}
use Rattle.s3_model.specs.declared.settings.Limits.{Limits}
use Rattle.s3_model.specs.declared.tasks.Plan.{Plan}
use Rattle.s3_model.specs.declared.tasks.Task.{Task}
use Rattle.step_jobs.specs.Shares.{SeenSteps}
use Rattle.task_acts.specs.declared.work.Work.{Work}
use Rattle.task_progress.proofs.Pieces.{work_has_pieces}
use Rattle.task_progress.specs.Progress.{HasPiece}
use Rattle.manager_core.proofs.OneWork.{work_at, works_count}
use Rattle.manager_core.proofs.ReadyJobs.{there_is}
use Rattle.manager_core.specs.declared.due.Due.TheVariants as due
use Rattle.manager_core.specs.Running.{CanRun, IsRunning, IsSharedOf, Start, lane_depth}

module _ (config : Config) (limits : Limits) (valid : IsValidConfig config) (fit : IsValidLimits limits)
    (plan : Plan) (can : CanRun limits plan.tasks.items) (lanes : ℕ) (some : 1 ≤ lanes) (needs : Needs)
    (are : AreNeedsOf config limits plan.tasks.items needs) where
  abbrev tasks : List Task
  tasks = plan.tasks.items

  abbrev pub shared : Shared
  shared = record {
    works = are.works;
    lanes = lanes;
    depth = lane_depth config.queue lanes;
    queue = config.queue;
    buffers = config.buffers;
  }

  pub shared_is : IsSharedOf config limits lanes tasks shared
  shared_is = record {
    works = are.works_are;
    lanes_are = refl;
    depth_is = refl;
    queue_is = refl;
    buffers_are = refl;
  }

  abbrev pub means : Means
  means = record {
    lanes = lanes;
    depth = lane_depth config.queue lanes;
    queue = config.queue;
    parts = config.buffers;
    room = needs.bytes;
  }

  pub shared_by : (count : ℕ) → count ≡ length tasks → IsSharedBy count means shared
  shared_by count is = record {
    count_is = works_count config limits tasks are.works are.works_are ∙ sym is;
    lanes_are = refl;
    depth_is = refl;
    queue_is = refl;
    buffers_are = refl;
  }

  pieces : (n : ℕ) (w : Work) → slice_get are.works n ≡ Some w → HasPiece w
  pieces n w there =
      let below = slice_within are.works n w there in
      let count = works_count config limits tasks are.works are.works_are in
      let task = there_is tasks n (omega (arith, below, count)) in
      work_has_pieces task.0 config limits w valid fit
      (work_at config limits tasks are.works n task.0 w are.works_are task.1 there)

  has_means : HasMeans shared
  has_means = record {
    lanes = some;
    depth = omega arith;
    queue = valid.queue.least;
    buffers = valid.buffers.least;
    pieces = pieces;
  }

  abbrev pub start_of : List Entry → Start
  start_of before = record { plan = plan; planning = before; config = config; limits = limits }

  pub starts : (before : List Entry) (journal : Reserved Entry) (outcomes : Reserved Outcome) (mv : SeenMoves)
      (steps : List (Option SeenSteps)) → journal.items ≡ before → needs.entries ≤ journal.spare
      → outcomes.items ≡ [] → length tasks ≤ outcomes.spare → Follows shared [] mv
      → mv.parts.pool.room ≡ needs.bytes → steps ≡ replicate (length tasks) None
      → IsRunning (start_of before) shared [] (record {
        plan = plan;
        journal = journal;
        outcomes = outcomes;
        config = config;
        limits = limits;
        moves = mv;
        steps = steps;
        due = due.Free;
      })
  starts before journal outcomes mv steps items spare none room follows bytes is = record {
    given = record {
      plan_is = refl;
      config_is = refl;
      limits_are = refl;
      config = valid;
      limits = fit;
      plan = can;
      means = has_means;
      works = are.works_are;
      no_outcome = none;
      outcomes = room;
      bytes = bytes ∙ are.bytes_are;
    };
    journal = record {
      items = items ∙ sym (append-nil before);
      room = let same = are.entries_are in omega (arith, same, spare);
    };
    state = record {
      run = record { run = tt; pieces = pieces };
      follows = follows;
      named = tt;
      steps = subst (λ (xs : List (Option SeenSteps)). HoldSteps shared [] tasks xs) (sym is) (jobs_begin shared tasks);
      tags = λ n w there keeps waiting goes. absurd (nothing there);
    };
  }
