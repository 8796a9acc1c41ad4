use Rattle.std.proofs.Common.{◌∙◌, Option, None, ap, is_some, subst, sym}
use Rattle.held_parts.specs.Held.{held_at}
use Rattle.jobs.specs.Jobs.{SeenJob}
use Rattle.part_tables.specs.Tables.{IsPutWhere}
use Rattle.s3_model.specs.declared.bytes.Part.{Part}
use Rattle.move_laws.proofs.TakenJobs.{stays_in}
use Rattle.move_laws.specs.Freed.{IsAway, part_in}
use Rattle.task_slots.proofs.freeing.free_kept.Goals as goal

pub free_part-requires : goal.free_part-requires
free_part-requires c =
    subst (λ (o : Option Part). IsAway c.args.parts.now.pool.room
    (held_at c.args.parts.now.slots c.args.task c.args.number) o)
    (sym (c.part_in-part.ensures ∙ ap (λ (j : Option SeenJob). part_in j) c.kept-job.ensures.by)) c.requires

pub returns-clause-held : goal.returns-clause-held
returns-clause-held c =
    subst (λ (o : Option Part). IsPutWhere (is_some o) c.args.task c.args.number None c.args.parts.now.slots
    c.free_part.new.parts.slots)
    (c.part_in-part.ensures ∙ ap (λ (j : Option SeenJob). part_in j) c.kept-job.ensures.by) c.free_part.ensures.held

pub returns-clause-known : goal.returns-clause-known
returns-clause-known c room w h stopped is =
    stays_in room w h c.args.op c.args.number c.args.state.now c.kept-job.new.self stopped c.kept-job.ensures.others is
    (is_some c.kept-job.result) c.kept-job.ensures.taken c.kept-job.ensures.none
