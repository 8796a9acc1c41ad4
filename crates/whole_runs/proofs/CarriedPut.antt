-- A Put that a lane carried, and its run, meet what the laws on carried jobs take.
use Rattle.std.proofs.Common.{◌≡◌, ◌+◌, ◌<◌, [], ◌∷◌, Some, None, refl, sym, subst, arith, inl, inr}
use Rattle.std.specs.Arc.{arc_value}
use Rattle.std.specs.declared.alloc.Global.{Global}
use Rattle.std.specs.declared.sync.Arc.{Arc}
use Rattle.job_terms.specs.Dispatches.{Dispatched}
use Rattle.job_terms.specs.Jobs.{job_of}
use Rattle.jobs.specs.Holders.{Holder}
use Rattle.jobs.specs.Jobs.{IsAskOf, IsOfTask, IsStepAsk, SeenJob}
use Rattle.jobs.specs.declared.what.What.{What}
use Rattle.kept_jobs.specs.Steps.{IsStepOf}
use Rattle.lane_jobs.specs.Lanes.{IsCarriedBy}
use Rattle.lane_journals.proofs.Witness.{for_each, one_talk, shows}
use Rattle.lane_journals.specs.Witness.{put_talk}
use Rattle.manager_moves.specs.Examples.{upload}
use Rattle.manager_moves.specs.Runs.{share}
use Rattle.s3_model.specs.Talks.{Began, Moment}
use Rattle.s3_model.specs.declared.answers.Class.TheVariants as class
use Rattle.s3_model.specs.declared.answers.Reply.TheVariants as reply
use Rattle.s3_model.specs.declared.places.Endpoint.{Endpoint}
use Rattle.s3_model.specs.declared.requests.Op.TheVariants as op
use Rattle.s3_model.specs.declared.settings.Keys.{Keys}
use Rattle.s3_model.specs.declared.tasks.Task.{Task}
use Rattle.task_acts.specs.Work.{IsWorkOf}
use Rattle.task_acts.specs.declared.work.Work.{Work}
use Rattle.task_schedule.proofs.Witness.{each_work, is_small_task}
use Rattle.task_schedule.specs.Witness.{read_run, small_put, small_setting, small_task}
use Rattle.whole_runs.proofs.Witness.{carried_run_is_met, of_one}
use Rattle.whole_runs.specs.Carried.{WasCarried}
use Rattle.whole_runs.specs.Given.{WasFormed}
use Rattle.whole_runs.specs.Witness.{CarriedJobIsMet, CarriedRunsAreMet, carried_put, new_log, put_carrier, put_job}
use Rattle.whole_runs.specs.Witness.{put_log, put_part, put_sent, put_step}

small_work : IsWorkOf small_task small_setting.config small_setting.limits upload
small_work =
    let is = each_work 0 upload refl in
    subst (λ (t : Task). IsWorkOf t small_setting.config small_setting.limits upload)
    (sym (is_small_task [] is.0 is.1)) is.2

module _ (endpoint : Endpoint) (keys : Keys) (cell : Holder) (shared_task : Arc Task Global)
    (same : arc_value shared_task ≡ small_task) where
  abbrev for : What
  for = put_step shared_task

  abbrev job : SeenJob
  job = put_job for cell put_part

  step : IsStepOf small_task upload (share upload 0 read_run) op.Put 0 for
  step = (same, refl, refl, refl)

  asks : IsAskOf (job_of 0 op.Put 0) for small_put.ask
  asks = subst
      (λ (t : Task). IsOfTask t op.Put × IsStepAsk t (0, 5) None None op.Put 0 small_put.ask) (sym same)
      (tt, (record { bucket = []; key = []; is_dest = (refl, refl) }, refl))

  formed : WasFormed small_task upload 0 read_run op.Put 0 for
  formed = record { since = []; first = read_run; is = refl; ready = refl; step = step }

  by : IsCarriedBy (put_carrier endpoint keys) job (Some new_log) (Some (put_log endpoint keys)) (carried_put for cell)
  by = record {
    asked = small_put.ask;
    place = [];
    asks = asks;
    placed = tt;
    carries = record {
      classes = class.Success reply.Stored ∷ [];
      marks = refl;
      at_most = omega arith;
      again = λ k shown at more. absurd (let within : k + 1 < 1 = more in omega arith);
      ends = inl (record {
        shown = class.Success reply.Stored;
        status = 200;
        last = refl;
        ending_is = refl;
        is_through = inl refl;
      });
      gained = inr (put_talk endpoint keys, [], shows endpoint keys, tt);
      shared = (
        put_talk endpoint keys ∷ [],
        Moment 0 ∷ Began ∷ [],
        refl,
        refl,
        (
          _,
          [],
          refl,
          (_, [], _, [], refl, refl, record { own = _; paused = refl; made = one_talk endpoint keys }, (refl, refl)),
          refl,
          tt,
        ),
      );
    };
  }

  was : WasCarried small_setting small_task upload job (put_sent endpoint keys)
  unfolding by
  was = record {
    carrier = put_carrier endpoint keys;
    before = Some new_log;
    after = Some (put_log endpoint keys);
    carried = carried_put for cell;
    by = by;
    sends = refl;
    of_job = record { id = refl; ask_is = refl; body = refl; limit = refl };
    size = refl;
  }

pub carried_job_is_met : CarriedJobIsMet
carried_job_is_met endpoint keys cell shared_task same = (
  by endpoint keys cell shared_task same,
  small_work,
  formed endpoint keys cell shared_task same,
  was endpoint keys cell shared_task same,
)

pub carried_runs_are_met : CarriedRunsAreMet
carried_runs_are_met endpoint keys cell shared_task same =
    let for = put_step shared_task in
    let job = put_job for cell put_part in
    let run = (carried_run_is_met for cell put_part (step endpoint keys cell shared_task same)
    (asks endpoint keys cell shared_task same)).1 in (
      run.ended.run,
      run.ended.works,
      run.handed,
      run.shown.come,
      λ c n lane task w later before known is_task of_plan is at.
          of_one (λ (t : Task) (v : Work). WasCarried small_setting t v job c)
          (for_each (λ (x : Dispatched). WasCarried small_setting small_task upload job x)
          (put_sent endpoint keys ∷ []) (was endpoint keys cell shared_task same, tt) c known) n task w is_task of_plan,
    )
