use Rattle.std.proofs.Common.{◌≡◌, ◌∙◌, ◌==◌, Option, sym, ap, arith, is_some}
use Rattle.std.proofs.lemmas.Grind.{common_steps}
use Rattle.jobs.specs.Jobs.{SeenJob}
use Rattle.held_parts.specs.Held.{held_at}
use Rattle.kept_jobs.specs.Slots.{job_at}
use Rattle.s3_model.specs.declared.requests.Op.{Op}
use Rattle.task_acts.specs.declared.work.Work.{Work}
use Rattle.task_acts.specs.Work.{first_number, piece_op}
use Rattle.move_laws.proofs.EachKept.{later_stays, not_reached, piece_in, with_so}
use Rattle.move_laws.proofs.KeptParts.{none_where, one_freed}
use Rattle.move_laws.proofs.Steps.{same_pools}
use Rattle.move_laws.specs.Freed.{keeps_part, kept_piece, part_in}
use Rattle.task_slots.proofs.freeing.free_each_kept.Goals as goal

pub free_kept-requires : goal.free_kept-requires
free_kept-requires c =
    let now = c.loop-number in
    let n = now.number in
    let t = c.args.state.now in
    let first : c.first_number-first.result ≡ first_number t.stages.work =
    c.first_number-first.ensures ∙ ap (λ (w : Work). first_number w) c.work-work.ensures.by in
    let count : c.work-work.result.count ≡ t.stages.work.count = ap (λ (w : Work). w.count) c.work-work.ensures.by in
    let from = now.auto.number in
    let below = c.loop-number-test.true in
    let op_is : c.piece_op-op.result ≡ piece_op t.stages.work.of_kind t.stages.work.small =
    c.piece_op-op.ensures ∙ ap (λ (w : Work). piece_op w.of_kind w.small) c.work-work.ensures.by in
    with_so now.parts.pool.room c.args.parts.now.pool.room (held_at now.parts.slots c.args.task n)
    (held_at c.args.parts.now.slots c.args.task n) (job_at now.state.kept c.piece_op-op.result n) (kept_piece t n)
    now.invariant.pool.room
    (now.invariant.held c.args.task n
    ∙ not_reached (c.args.task == c.args.task) (keeps_part t n) n (held_at c.args.parts.now.slots c.args.task n))
    (now.invariant.kept n (omega arith) ∙ ap (λ (o : Op). job_at t.kept o n) op_is)
    (c.requires n (piece_in t.stages.work n (omega (arith, first, from)) (omega (arith, first, count, below))))

pub loop-number-preserved : goal.loop-number-preserved
loop-number-preserved c =
    let now = c.loop-number in
    let n = now.number in
    let t = c.args.state.now in
    let first : c.first_number-first.result ≡ first_number t.stages.work =
    c.first_number-first.ensures ∙ ap (λ (w : Work). first_number w) c.work-work.ensures.by in
    let count : c.work-work.result.count ≡ t.stages.work.count = ap (λ (w : Work). w.count) c.work-work.ensures.by in
    let from = now.auto.number in
    let below = c.loop-number-test.true in
    let op_is : c.piece_op-op.result ≡ piece_op t.stages.work.of_kind t.stages.work.small =
    c.piece_op-op.ensures ∙ ap (λ (w : Work). piece_op w.of_kind w.small) c.work-work.ensures.by in
    let job_is : job_at now.state.kept c.piece_op-op.result n ≡ kept_piece t n =
    now.invariant.kept n (omega arith) ∙ ap (λ (o : Op). job_at t.kept o n) op_is in
    record {
      held = λ x y.
          none_where (is_some (part_in (job_at now.state.kept c.piece_op-op.result n))) c.args.task n now.parts.slots
          c.free_kept.new.parts.slots c.free_kept.ensures.held x y
          ∙ one_freed (first_number t.stages.work) t.stages.work.count (λ k. is_some (part_in (kept_piece t k)))
          c.args.task n
          (omega (arith, first, from)) (omega (arith, first, count, below))
          (is_some (part_in (job_at now.state.kept c.piece_op-op.result n)))
          (ap (λ (job : Option SeenJob). is_some (part_in job)) (sym job_is)) x (λ k. held_at now.parts.slots x k)
          (λ k. held_at c.args.parts.now.slots x k) (λ k. now.invariant.held x k) y;
      kept = λ k l.
          c.free_kept.ensures.kept c.piece_op-op.result k
          ∙ later_stays c.piece_op-op.result n k (job_at now.state.kept c.piece_op-op.result k) l
          ∙ now.invariant.kept k (omega (arith, l));
      pool = same_pools c.args.parts.now.pool now.parts.pool c.free_kept.new.parts.pool now.invariant.pool
          c.free_kept.ensures.pool;
      known = λ room w h stopped is. c.free_kept.ensures.known room w h stopped (now.invariant.known room w h stopped
          is);
      tags = c.free_kept.ensures.tags ∙ now.invariant.tags;
    }

pub returns-clause-held : goal.returns-clause-held
returns-clause-held c = grind (arith, common_steps)
