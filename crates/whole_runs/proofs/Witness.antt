-- Runs that meet what the laws take.
use Rattle.std.proofs.Common.{◌≡◌, ◌∙◌, ◌++◌, ℕ, zero, suc, List, [], ◌∷◌, Some, refl, sym, subst, ap, arith, slice_get}
use Rattle.job_terms.specs.Dispatches.{Dispatched}
use Rattle.job_terms.specs.Jobs.{job_of}
use Rattle.jobs.specs.Endings.{SeenCarried}
use Rattle.jobs.specs.Holders.{Holder}
use Rattle.jobs.specs.Jobs.{IsAskOf}
use Rattle.jobs.specs.declared.what.What.{What}
use Rattle.kept_jobs.specs.Steps.{IsStepOf}
use Rattle.manager_moves.proofs.ExampleRuns.{uploads_are_runs}
use Rattle.manager_moves.specs.Examples.{shared, upload}
use Rattle.manager_moves.specs.Laws.{IsRun}
use Rattle.manager_moves.specs.Runs.{Event, Events, Lined, Sent, Shared, share}
use Rattle.run_schedule.proofs.Witness.{whole_run_is_met}
use Rattle.run_schedule.specs.Witness.{logs, no_text, notes}
use Rattle.s3_model.specs.declared.bytes.Part.{Part}
use Rattle.s3_model.specs.declared.outcomes.JobId.{JobId}
use Rattle.s3_model.specs.declared.requests.Op.TheVariants as op
use Rattle.s3_model.specs.declared.tasks.Task.{Task}
use Rattle.shared_lemmas.proofs.Clashes.{none_is_some, some_is}
use Rattle.task_acts.specs.declared.work.Work.{Work}
use Rattle.task_schedule.proofs.Witness.{only}
use Rattle.task_acts.specs.Kept.{kept_job}
use Rattle.task_acts.specs.declared.acts.Act.TheVariants as act
use Rattle.task_schedule.specs.Journals.{ShowOne}
use Rattle.task_schedule.specs.Witness.{ShowsStored, put_run, read_run, small_put, small_setting, small_task}
use Rattle.whole_runs.proofs.Growing.{jobs_go_on}
use Rattle.whole_runs.specs.Ended.{IsCarriedRun}
use Rattle.whole_runs.specs.Given.{AreHandedOut, ComeAsGiven, ComesAsGiven, IsAskedBy, HandsOutItsJob, IsKeptOrFormed, Jobs}
use Rattle.whole_runs.specs.Given.{WasGiven}
use Rattle.whole_runs.specs.Witness.{CarriedRunIsMet, GivenAgainIsMet, put_job, put_jobs, put_lost, put_twice}
use Rattle.whole_runs.specs.Witness.{twice_jobs}

abbrev given : Shared
given = shared (upload ∷ []) 1 1 1

abbrev tasks : List Task
tasks = small_task ∷ []

-- there is one task, with one work
one_task : (n : ℕ) (task : Task) (w : Work) → slice_get tasks n ≡ Some task → slice_get given.works n ≡ Some w
    → (small_task ≡ task) × (upload ≡ w)
one_task zero task w e f = (some_is small_task task e, some_is upload w f)
one_task (suc n) task w e f = absurd (none_is_some task e)

module _ (P : Task → Work → Type 0) where
  pub of_one : P small_task upload → (n : ℕ) (task : Task) (w : Work) → slice_get tasks n ≡ Some task
      → slice_get given.works n ≡ Some w → P task w
  of_one p n task w e f =
      let is = one_task n task w e f in
      subst (λ (t : Task). P t w) is.0 (subst (λ (v : Work). P small_task v) is.1 p)

-- ---- event by event

module _ (jobs : Jobs) where
  abbrev Handed : Events → Type 0
  Handed events = AreHandedOut given tasks events jobs

  abbrev Come : Events → Type 0
  Come events = ComeAsGiven events jobs

  handed_next : (e : Event) (before : Events) → Handed before → HandsOutItsJob given tasks jobs before e
      → Handed (e ∷ before)
  handed_next e before so_far one = jobs_go_on.handed given tasks jobs before e so_far one

  come_next : (e : Event) (before : Events) → Come before → ComesAsGiven jobs before e → Come (e ∷ before)
  come_next e before so_far one = jobs_go_on.come jobs before e so_far one

  handed_read : Handed read_run
  handed_read = handed_next _ _ (handed_next _ [] (jobs_go_on.none given tasks jobs).0 tt) tt

  come_read : Come read_run
  come_read = come_next _ _ (come_next _ [] (jobs_go_on.none given tasks jobs).1 tt) tt

  -- a job of the task came back that was given behind these events
  came : (n lane : ℕ) (c : SeenCarried) (since first : Events) → c.job.id ≡ job_of 0 op.Put 0
      → c.job.what ≡ (jobs first).what → c.job.id.task ≡ Some n
      → WasGiven jobs n (since ++ Sent 0 op.Put 0 lane ∷ first) c
  came n lane c since first id what task =
      let same : n ≡ 0 = some_is n 0 (sym task ∙ ap (λ (j : JobId). j.task) id) in
      record {
        since = since;
        first = first;
        lane = lane;
        is = ap (λ (j : JobId). since ++ Sent 0 j.op j.number lane ∷ first) (sym id)
            ∙ ap (λ (m : ℕ). since ++ Sent m c.job.id.op c.job.id.number lane ∷ first) (sym same);
        what = what;
      }

module _ (for : What) (cell : Holder) (part : Part) where
  -- ---- one giving

  abbrev once : Jobs
  once = put_jobs for cell part

  pub put_comes : ComeAsGiven (put_run for cell part) once
  put_comes = come_next once Lined _ (come_next once _ _ (come_next once _ read_run (come_read once) tt)
      (λ n task. came once n 0 _ [] read_run refl refl task)) tt

module _ (for : What) (cell : Holder) (part : Part)
    (step : IsStepOf small_task upload (share upload 0 read_run) op.Put 0 for) where
  put_handed : AreHandedOut given tasks (put_run for cell part) (once for cell part)
  put_handed = handed_next _ Lined _ (handed_next _ _ _ (handed_next _ _ read_run (handed_read (once for cell part))
      (of_one (λ (t : Task) (v : Work). IsKeptOrFormed (kept_job v (share v 0 read_run) (act.Send op.Put 0)) t v
      (share v 0 read_run) op.Put 0 (put_job for cell part)) step 0)) tt) tt

  module _ (asks : IsAskOf (job_of 0 op.Put 0) for small_put.ask) where
    put_asked : IsAskedBy small_setting small_task upload (put_job for cell part) small_put
    put_asked = record { asks = asks; body = refl; size = refl; limit = refl }

    pub carried_out : ShowOne ShowsStored × IsCarriedRun ShowsStored no_text [] 0 given small_setting []
        (put_run for cell part) logs notes (once for cell part) (small_put ∷ []) (small_put ∷ [])
    carried_out =
        let met = whole_run_is_met for cell part step asks in
        let r = met.1 in (
          met.0,
          record {
            ended = record { means = r.means; run = r.run; end = r.end; works = r.works };
            handed = put_handed;
            shown = record {
              journaled = r.journaled;
              come = put_comes for cell part;
              asked = λ c n lane task w later before known is_task of_plan is at.
                  subst (λ (x : Dispatched). IsAskedBy small_setting task w (put_job for cell part) x) (only c known)
                  (of_one (λ (t : Task) (v : Work). IsAskedBy small_setting t v (put_job for cell part) small_put)
                  put_asked n task w is_task of_plan);
              is_coming = r.is_coming;
              in_order = r.in_order;
              cancelled_at = refl;
              files = r.files;
            };
          },
        )

  -- ---- two givings

  abbrev twice : Jobs
  twice = twice_jobs for cell part

  lost_handed : AreHandedOut given tasks (put_lost for cell part) twice
  lost_handed = handed_next twice _ _ (handed_next twice _ read_run (handed_read twice)
      (of_one (λ (t : Task) (v : Work). IsKeptOrFormed (kept_job v (share v 0 read_run) (act.Send op.Put 0)) t v
      (share v 0 read_run) op.Put 0 (put_job for cell part)) step 0)) tt

  twice_handed : AreHandedOut given tasks (put_twice for cell part) twice
  twice_handed = handed_next twice Lined _ (handed_next twice _ _ (handed_next twice _ (put_lost for cell part)
      lost_handed
      (of_one (λ (t : Task) (v : Work). IsKeptOrFormed
      (kept_job v (share v 0 (put_lost for cell part)) (act.Send op.Put 0)) t v (share v 0 (put_lost for cell part))
      op.Put 0 (twice (put_lost for cell part))) refl 0)) tt) tt

  lost_comes : ComeAsGiven (put_lost for cell part) twice
  lost_comes = come_next twice _ _ (come_next twice _ read_run (come_read twice) tt)
      (λ n task. came twice n 0 _ [] read_run refl refl task)

  twice_comes : ComeAsGiven (put_twice for cell part) twice
  twice_comes = come_next twice Lined _ (come_next twice _ _ (come_next twice _ (put_lost for cell part) lost_comes tt)
      (λ n task. came twice n 0 _ [] (put_lost for cell part) refl refl task)) tt

  twice_run : IsRun given (put_twice for cell part)
  twice_run = (
    refl,
    (
      (
        refl,
        (upload, refl, (refl, refl, refl, (([], refl, λ i d inside. absurd (omega (arith, inside))), tt, tt))),
        refl,
      ),
      (
        refl,
        (
          (refl, (upload, refl, (refl, refl, refl, ([], refl, λ i d inside. absurd (omega (arith, inside))))), refl),
          (uploads_are_runs for cell part).0.1.1,
        ),
      ),
    ),
  )

pub carried_run_is_met : CarriedRunIsMet
carried_run_is_met for cell part step asks = carried_out for cell part step asks

pub given_again_is_met : GivenAgainIsMet
given_again_is_met for cell part step =
    (twice_run for cell part step, twice_handed for cell part step, twice_comes for cell part step)
