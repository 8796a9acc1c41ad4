-- What is kept is what has happened, as calls are made, jobs come back and cancels come.
use Rattle.std.proofs.Common.{◌≡◌, ◌≢◌, ◌∙◌, ◌+◌, ◌++◌, ◌<◌, [], ◌∷◌, ℕ, List, Option, Some, None, refl, ap}
use Rattle.std.proofs.Common.{arith, get_or, length}
use Rattle.std.specs.Prelude.{slice_get}
use Rattle.jobs.specs.Endings.{SeenCarried}
use Rattle.manager_moves.proofs.MoveLaws.{in_front}
use Rattle.manager_moves.proofs.ShareLaws.{act_of, is_called}
use Rattle.manager_moves.specs.Laws.{IsOfTask, MayFollow}
use Rattle.manager_moves.specs.Moves.{call_of, next_move}
use Rattle.manager_moves.specs.declared.moves.Move.{Move}
use Rattle.manager_moves.specs.Runs.{Back, Called, Events, Shared, Stopped, made_count}
use Rattle.move_laws.proofs.NamedMoves.{call_named}
use Rattle.move_laws.specs.Admits.{IsRunOf}
use Rattle.move_laws.specs.Follows.{Follows}
use Rattle.move_laws.specs.Kept.{SeenMoves}
use Rattle.move_laws.specs.Steady.{IsSteady}
use Rattle.run_steps.proofs.Settling.{each_settles, one_settles, slice_within}
use Rattle.run_steps.specs.Steps.{settled_step, settled_steps}
use Rattle.s3_model.specs.Lists.{Reserved}
use Rattle.s3_model.specs.declared.outcomes.Event.{Event as Entry}
use Rattle.s3_model.specs.declared.outcomes.Event.TheVariants as entry
use Rattle.s3_model.specs.declared.outcomes.Reason.{Reason}
use Rattle.s3_model.specs.declared.outcomes.Reason.TheVariants as reason_of
use Rattle.step_jobs.specs.Shares.{SeenSteps}
use Rattle.task_acts.specs.declared.acts.FileCame.{FileCame}
use Rattle.task_acts.specs.declared.work.Work.{Work}
use Rattle.task_acts.specs.Kept.{MayCome}
use Rattle.manager_core.proofs.CallMoves.{Begins, call_acts, call_begins, due_call}
use Rattle.manager_core.proofs.RunLemmas.{at_due, given_by, journal_grows, same_journal, tells, with, works_are}
use Rattle.manager_core.proofs.TagLemmas.{tags_stay}
use Rattle.manager_core.specs.declared.due.Call.{Call}
use Rattle.manager_core.specs.declared.due.Due.TheVariants as due
use Rattle.manager_core.specs.Due.{call_due, call_in}
use Rattle.manager_core.specs.Kept.{SeenManager}
use Rattle.manager_core.specs.Running.{IsAt, IsRunning, Start}

module _ (start : Start) (s : Shared) (events : Events) (m : SeenManager)
    (running : IsRunning start s events m) where
  -- the place of a task of the run
  pub place_within : (t : ℕ) (w : Work) → slice_get s.works t ≡ Some w → length m.steps ≡ length m.plan.tasks.items
      → t < length m.steps
  place_within t w there count =
      let below = slice_within s.works t w there in
      let same = works_are start s events m running in
      omega (arith, below, same, count)

  -- ---- a call on files

  module _ (call : Call) (is : call_due m.due ≡ Some call) (came : FileCame) (may : MayCome call.act came) where
    its : (next : Move) × (m.due ≡ due.Next next) × (call_in next ≡ Some call)
    its = due_call call m.due is

    call_at : IsAt (due.Next its.0) s events m
    call_at = at_due start s events m running (due.Next its.0) its.1

    abbrev call_after : Events
    call_after = Called call.task call.act came ∷ events

    is_next : call_of s events call.task call.act ≡ Some (next_move s events)
    is_next =
        let acts = call_acts call its.0 its.2 in
        call_named s events call.task call.act (ap act_of call_at.named ∙ acts.0) acts.1

    pub call_run : IsRunOf s call_after
    call_run = record { run = ((is_next, may), call_at.run.run); pieces = call_at.run.pieces }

    pub call_begun : Begins call s events m.moves call
    call_begun = call_begins call s events m.moves its.0 its.2 call_at.follows

    pub call_within : call.task < length m.steps
    call_within =
        let ready = is_called s events call.task call.act is_next in
        place_within call.task ready.0 (in_front (made_count events) s.works call.task ready.0 ready.1)
        call_at.steps.count

    pub called_runs : (mv : SeenMoves) → Follows s call_after mv → IsSteady m.moves mv → IsRunning start s call_after
        (with m mv (settled_steps call.task mv.outcomes m.steps) m.journal due.Free)
    called_runs mv follows steady =
        let steps = settled_steps call.task mv.outcomes m.steps in record {
          given = given_by start s events m running mv steps m.journal due.Free steady.room;
          journal = same_journal start s events m running (Called call.task call.act came) refl mv steps due.Free;
          state = record {
            run = call_run;
            follows = follows;
            named = tt;
            steps = one_settles s events (Called call.task call.act came) call.task m.plan.tasks.items m.steps
                mv.outcomes refl call_within call_at.steps (tells s call_after mv follows);
            tags = tags_stay s events m.moves mv steady call_at.tags (Called call.task call.act came) refl;
          };
        }

  -- ---- a job that comes back

  module _ (free : m.due ≡ due.Free) where
    pub free_at : IsAt due.Free s events m
    free_at = at_due start s events m running due.Free free

    module _ (lane : ℕ) (c : SeenCarried) (may : MayFollow s events (Back lane c)) where
      abbrev back_after : Events
      back_after = Back lane c ∷ events

      pub back_run : IsRunOf s back_after
      back_run = record { run = (may, free_at.run.run); pieces = free_at.run.pieces }

      its_task : (found : Option ℕ) → IsOfTask s events found c
          → (t : ℕ) × (found ≡ Some t) × (w : Work) × (slice_get s.works t ≡ Some w)
      its_task (Some t) of_task = (t, refl, of_task.0, of_task.1)
      its_task None of_task = absurd of_task

      pub back_task : (t : ℕ) × (c.job.id.task ≡ Some t) × (w : Work) × (slice_get s.works t ≡ Some w)
      back_task = its_task c.job.id.task may.1

      pub back_runs : (t : ℕ) → c.job.id.task ≡ Some t → t < length m.steps → (mv : SeenMoves)
          → Follows s back_after mv → IsSteady m.moves mv → (journal : Reserved Entry)
          → journal.items ≡ m.journal.items ++ entry.Came c.job.id lane c.tries ∷ []
          → journal.spare + 1 ≡ m.journal.spare → IsRunning start s back_after
          (with m mv (settled_steps t mv.outcomes m.steps) journal due.Free)
      back_runs t is within mv follows steady journal items spare =
          let steps = settled_steps t mv.outcomes m.steps in record {
            given = given_by start s events m running mv steps journal due.Free steady.room;
            journal = journal_grows start s events m running (entry.Came c.job.id lane c.tries) (Back lane c) refl
                back_run journal items spare mv steps due.Free;
            state = record {
              run = back_run;
              follows = follows;
              named = tt;
              steps = one_settles s events (Back lane c) t m.plan.tasks.items m.steps mv.outcomes is within
                  free_at.steps (tells s back_after mv follows);
              tags = tags_stay s events m.moves mv steady free_at.tags (Back lane c) refl;
            };
          }

    -- ---- a cancel

    module _ (reason : Reason) (other : reason ≢ reason_of.TaskFailed) where
      abbrev stopped_after : Events
      stopped_after = Stopped reason ∷ events

      pub stopped_run : IsRunOf s stopped_after
      stopped_run = record { run = (other, free_at.run.run); pieces = free_at.run.pieces }

      pub stopped_runs : (mv : SeenMoves) → Follows s stopped_after mv → IsSteady m.moves mv
          → (steps : List (Option SeenSteps)) → length steps ≡ length m.steps
          → ((n : ℕ) → n < length m.steps → get_or steps n None ≡ settled_step mv.outcomes n (get_or m.steps n None))
          → IsRunning start s stopped_after (with m mv steps m.journal due.Free)
      stopped_runs mv follows steady steps count settled = record {
        given = given_by start s events m running mv steps m.journal due.Free steady.room;
        journal = same_journal start s events m running (Stopped reason) refl mv steps due.Free;
        state = record {
          run = stopped_run;
          follows = follows;
          named = tt;
          steps = each_settles s events reason m.plan.tasks.items m.steps steps mv.outcomes free_at.steps count settled
              (tells s stopped_after mv follows);
          tags = tags_stay s events m.moves mv steady free_at.tags (Stopped reason) refl;
        };
      }
