use Rattle.std.proofs.Common.{◌∙◌, arith}
use Rattle.std.proofs.lemmas.Grind.{common_steps}
use Rattle.act_queues.specs.Sorts.{is_call, is_get, is_job, is_read}
use Rattle.act_queues.proofs.PositionLemmas.{changed}
use Rattle.act_queues.proofs.act_queues.ActQueues.put.Goals as goal

pub invariant_of-self : goal.invariant_of-self
invariant_of-self c =
    let q = c.self.inside in
    let xs = q.sorts.items in
    let n = c.args.task in
    let now = c.args.sort in (
      c.put.ensures ∙ changed xs is_call n now c.is_call.result q.calls c.self.invariant.0 c.is_call.ensures,
      c.put-2.ensures ∙ changed xs is_read n now c.is_read.result q.reads c.self.invariant.1 c.is_read.ensures,
      c.put-3.ensures ∙ changed xs is_job n now c.is_job.result q.jobs c.self.invariant.2 c.is_job.ensures,
      c.put-4.ensures ∙ changed xs is_get n now c.is_get.result q.gets c.self.invariant.3 c.is_get.ensures,
    )

pub put-requires : goal.put-requires
put-requires c = grind (arith, common_steps)

pub put-requires-2 : goal.put-requires-2
put-requires-2 c = grind (arith, common_steps)

pub put-requires-3 : goal.put-requires-3
put-requires-3 c = grind (arith, common_steps)

pub put-requires-4 : goal.put-requires-4
put-requires-4 c = grind (arith, common_steps)
