-- What is kept is what has happened, as jobs are formed and given.
use Rattle.std.proofs.Common.{◌≡◌, ◌∙◌, ◌≤◌, ◌+◌, ◌++◌, [], ◌∷◌, ℕ, List, Option, Some, refl, sym, ap}
use Rattle.manager_moves.proofs.PartLaws.{same_value}
use Rattle.manager_moves.specs.Runs.{Events, Sent, Shared}
use Rattle.manager_moves.specs.declared.moves.Move.TheVariants as move
use Rattle.move_laws.specs.Admits.{IsRunOf}
use Rattle.move_laws.specs.Follows.{Follows}
use Rattle.move_laws.specs.Kept.{SeenMoves}
use Rattle.job_terms.specs.Jobs.{job_of}
use Rattle.run_steps.specs.Following.{IsSentIn}
use Rattle.run_steps.specs.Steps.{HoldSteps}
use Rattle.s3_model.specs.Lists.{Reserved}
use Rattle.s3_model.specs.declared.outcomes.Event.{Event as Entry}
use Rattle.s3_model.specs.declared.outcomes.Event.TheVariants as entry
use Rattle.s3_model.specs.declared.outcomes.JobId.{JobId}
use Rattle.s3_model.specs.declared.requests.Op.{Op}
use Rattle.s3_model.specs.declared.requests.Op.TheVariants as op
use Rattle.step_jobs.specs.Shares.{SeenSteps}
use Rattle.manager_core.proofs.RunLemmas.{at_due, given_by, has_room, journal_grows, kept_journal, with}
use Rattle.manager_core.specs.declared.due.Due.{Due}
use Rattle.manager_core.specs.declared.due.Due.TheVariants as due
use Rattle.manager_core.specs.Due.{lane_due}
use Rattle.manager_core.specs.Kept.{SeenManager}
use Rattle.manager_core.specs.Running.{IsAt, IsRunning, Start}
use Rattle.manager_core.specs.Tags.{HoldTags}

module _ (start : Start) (s : Shared) (events : Events) (m : SeenManager)
    (running : IsRunning start s events m) (task : ℕ) (o : Op) (k lane : ℕ) where
  abbrev after : Events
  after = Sent task o k lane ∷ events

  -- ---- a job that is formed

  module _ (is : m.due ≡ due.Next (move.Give task o k lane)) where
    pub give_at : IsAt (due.Next (move.Give task o k lane)) s events m
    give_at = at_due start s events m running (due.Next (move.Give task o k lane)) is

    pub sent_run : IsRunOf s after
    sent_run = record { run = (give_at.named, give_at.run.run); pieces = give_at.run.pieces }

    pub sent_in : IsSentIn s events task o k lane
    sent_in = record { run = sent_run.run; pieces = sent_run.pieces }

    pub formed_runs : (mv : SeenMoves) → Follows s after mv
        → mv.parts.pool.room ≡ m.moves.parts.pool.room → HoldTags s after mv → (steps : List (Option SeenSteps))
        → HoldSteps s after m.plan.tasks.items steps
        → IsRunning start s events (with m mv steps m.journal (due.Job task o k lane))
    formed_runs mv follows room tags steps hold = record {
      given = given_by start s events m running mv steps m.journal (due.Job task o k lane) room;
      journal = kept_journal start s events m running mv steps (due.Job task o k lane);
      state = record { run = sent_run; follows = follows; named = tt; steps = hold; tags = tags };
    }

  -- ---- a job that was given

  module _ (is : m.due ≡ due.Job task o k lane) where
    job_at : IsAt (due.Job task o k lane) s events m
    job_at = at_due start s events m running (due.Job task o k lane) is

    pub gave_room : 1 ≤ m.journal.spare
    gave_room = has_room start s events m running (entry.Given (job_of task o k) lane) (Sent task o k lane) refl
        job_at.run

    pub gave_runs : (journal : Reserved Entry)
        → journal.items ≡ m.journal.items ++ entry.Given (job_of task o k) lane ∷ []
        → journal.spare + 1 ≡ m.journal.spare
        → IsRunning start s after (with m m.moves m.steps journal due.Free)
    gave_runs journal items spare = record {
      given = given_by start s events m running m.moves m.steps journal due.Free refl;
      journal = journal_grows start s events m running (entry.Given (job_of task o k) lane) (Sent task o k lane)
          refl job_at.run journal items spare m.moves m.steps due.Free;
      state = record {
        run = job_at.run;
        follows = job_at.follows;
        named = tt;
        steps = job_at.steps;
        tags = job_at.tags;
      };
    }

-- the job that was formed
abbrev pub job_in : Due → JobId
job_in (due.Job task o k lane) = job_of task o k
job_in of_due = job_of 0 op.Head 0

-- the lane is the one that the move names
pub give_lane : (d : Due) (task : ℕ) (o : Op) (k to lane : ℕ) → d ≡ due.Next (move.Give task o k to)
    → lane_due d ≡ Some lane → d ≡ due.Next (move.Give task o k lane)
give_lane d task o k to lane is found =
    is ∙ ap (λ (l : ℕ). due.Next (move.Give task o k l)) (same_value (sym (ap lane_due is) ∙ found))
