-- A run of one small upload meets what the law takes beside it.
use Rattle.std.proofs.Common.{◌≡◌, ◌∙◌, ℕ, zero, suc, Bool, true, false, List, [], ◌∷◌, Some, None, sym, subst, ap, inl, inr, slice_get}
use Rattle.jobs.specs.Endings.{SeenCarried}
use Rattle.jobs.specs.Holders.{Holder}
use Rattle.jobs.specs.declared.ending.Ending.TheVariants as ending
use Rattle.jobs.specs.declared.what.What.{What}
use Rattle.manager_moves.specs.Examples.{upload}
use Rattle.manager_moves.specs.Runs.{Back, Called, Events, Lined, Made, Sent, outcome_in}
use Rattle.run_promise.specs.Settled.{cause_of, is_memory}
use Rattle.s3_model.specs.declared.answers.Reply.TheVariants as reply
use Rattle.s3_model.specs.declared.bytes.Part.{Part}
use Rattle.s3_model.specs.declared.outcomes.Outcome.{Outcome}
use Rattle.s3_model.specs.declared.outcomes.Outcome.TheVariants as outcome
use Rattle.s3_model.specs.declared.requests.Op.{Op}
use Rattle.s3_model.specs.declared.tasks.Task.{Task}
use Rattle.shared_lemmas.proofs.Clashes.{none_is_some, some_is}
use Rattle.shared_lemmas.proofs.Members.{Has, has}
use Rattle.task_acts.specs.declared.acts.Act.{Act}
use Rattle.task_acts.specs.declared.acts.Act.TheVariants as act
use Rattle.task_acts.specs.declared.acts.FileCame.{FileCame}
use Rattle.task_acts.specs.declared.acts.FileCame.TheVariants as file
use Rattle.task_acts.specs.declared.work.Work.{Work}
use Rattle.task_acts.specs.Failures.{file_cause}
use Rattle.task_progress.proofs.Endings.{no}
use Rattle.task_schedule.proofs.Witness.{back_same, came_at}
use Rattle.task_schedule.specs.Witness.{put_run, small_setting, small_task}
use Rattle.task_outcomes.specs.Causes.{MovesSource}
use Rattle.task_outcomes.specs.Witness.{ToldIsMet}

gained_refused : (status : ℕ) (code message : List ℕ) → ending.Gained reply.Stored ≡ ending.Refused status code message → ⊥
gained_refused status code message e = cc

called_same : (m n : ℕ) (a b : Act) (r f : FileCame) → Called m a r ≡ Called n b f → file_cause a r ≡ file_cause b f
called_same m n a b r f e = cc

lined_called : (n : ℕ) (a : Act) (r : FileCame) → Lined ≡ Called n a r → ⊥
lined_called n a r e = cc

back_called : (l : ℕ) (c : SeenCarried) (n : ℕ) (a : Act) (r : FileCame) → Back l c ≡ Called n a r → ⊥
back_called l c n a r e = cc

sent_called : (t k l : ℕ) (o : Op) (n : ℕ) (a : Act) (r : FileCame) → Sent t o k l ≡ Called n a r → ⊥
sent_called t k l o n a r e = cc

made_called : (b : Bool) (n : ℕ) (a : Act) (r : FileCame) → Made b ≡ Called n a r → ⊥
made_called b n a r e = cc

module _ (for : What) (cell : Holder) (part : Part) where
  abbrev events : Events
  events = put_run for cell part

  -- its one call on files was fine
  call_was_fine : (n : ℕ) (a : Act) (r : FileCame) → Has events (Called n a r) → file_cause a r ≡ None
  call_was_fine n a r (inl e) = absurd (lined_called n a r e)
  call_was_fine n a r (inr (inl e)) = absurd (back_called _ _ n a r e)
  call_was_fine n a r (inr (inr (inl e))) = absurd (sent_called _ _ _ _ n a r e)
  call_was_fine n a r (inr (inr (inr (inl e)))) = sym (called_same 0 n (act.Read 0) a file.Fine r e)
  call_was_fine n a r (inr (inr (inr (inr (inl e))))) = absurd (made_called _ n a r e)
  call_was_fine n a r (inr (inr (inr (inr (inr none))))) = absurd none

  -- it was done
  none_forgotten : (n : ℕ) (w : Work) (how : Outcome) → slice_get (upload ∷ []) n ≡ Some w → outcome_in w n events ≡ Some how → is_memory (cause_of (Some how)) ≡ true → false ≡ true
  none_forgotten zero w how e is m = subst (λ (x : Outcome). is_memory (cause_of (Some x)) ≡ true)
      (sym (some_is outcome.Done how (subst (λ (x : Work). outcome_in x 0 events ≡ Some how) (sym (some_is upload w e)) is))) m
  none_forgotten (suc n) w how e is m = absurd (none_is_some w e)

  none_moved : (n : ℕ) (task : Task) → slice_get small_setting.tasks n ≡ Some task → task.moves ≡ true → MovesSource task task.kind
  none_moved zero task e moves = no (subst (λ (t : Task). t.moves ≡ true) (sym (some_is small_task task e)) moves)
  none_moved (suc n) task e moves = absurd (none_is_some task e)

pub told_is_met : ToldIsMet
told_is_met for cell part = (
  λ asked limit talk one same e f. e ∙ sym f,
  record {
    memory = none_forgotten for cell part;
    calls = λ n a r why known is. none_is_some why (sym (call_was_fine for cell part n a r (has (put_run for cell part) (Called n a r) known)) ∙ is);
    statuses = λ later before lane c d status code message is known came refused. absurd (gained_refused status code message
        (ap (λ (x : SeenCarried). x.ending) (back_same _ lane _ c (came_at for cell part later before lane c is).0) ∙ refused));
    moves = none_moved for cell part;
  },
)
