use Rattle.std.proofs.Common.{refl, subst, sym}
use Rattle.s3_model.specs.declared.requests.Op.{Op}
use Rattle.jobs.specs.Endings.{IsEnded}
use Rattle.jobs.specs.Jobs.{IsAskOf, SeenJob}
use Rattle.lane_jobs.specs.Lanes.{IsSameJob}
use Rattle.lane_jobs.proofs.EndingLemmas.{asked_op, ended_so, keeps_by_op, still_job}
use Rattle.lane_jobs.proofs.carrier.Carrier.carry_by.Goals as goal

pub invariant_of-job : goal.invariant_of-job
invariant_of-job g c =
    let asks = subst (λ (j : SeenJob). IsAskOf j.id j.what c.args.ask.now) (sym c.job.view_is) c.requires in
    still_job c.job.inside.id c.job.inside.what c.job.inside.part c.serve-tries.new.part c.job.inside.hash c.serve-tries.new.hash c.job.inside.had
    c.job.invariant (keeps_by_op c.job.inside.id c.job.inside.what c.args.ask.now c.job.inside.part c.serve-tries.new.part asks c.serve-tries.ensures.part) c.serve-tries.ensures.hash

pub invariant_of-result : goal.invariant_of-result
invariant_of-result g c =
    let asks = subst (λ (j : SeenJob). IsAskOf j.id j.what c.args.ask.now) (sym c.job.view_is) c.requires in
    let h = c.serve-tries.ensures.carried in
    subst (λ (o : Op). IsEnded c.serve-tries.result.ending o c.serve-tries.new.part c.serve-tries.new.cell c.serve-tries.result.tries) (asked_op c.job.inside.id c.job.inside.what c.args.ask.now asks)
    (ended_so _ _ _ _ _ h.0 _ _ _ c.length_of-length.result h.1 refl _ h.2)

pub returns-clause-job : goal.returns-clause-job
returns-clause-job g c =
    let asks = subst (λ (j : SeenJob). IsAskOf j.id j.what c.args.ask.now) (sym c.job.view_is) c.requires in
    let after : SeenJob = record { id = c.job.inside.id; what = c.job.inside.what; part = c.serve-tries.new.part; cell = c.serve-tries.new.cell; had = c.job.inside.had } in
    subst (λ (j : SeenJob). IsSameJob j after) c.job.view_is
    (record {
      id = refl;
      what = refl;
      part = keeps_by_op c.job.inside.id c.job.inside.what c.args.ask.now c.job.inside.part c.serve-tries.new.part asks c.serve-tries.ensures.part;
      cell = c.serve-tries.ensures.cell;
      had = refl;
    })
