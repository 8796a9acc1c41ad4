use Rattle.std.proofs.Common.{ap, refl, ◌∙◌}
use Rattle.std.specs.FinMap.{insert}
use Rattle.s3_service.specs.ServiceState.{Aborted, Ended}
use Rattle.object_table.proofs.Changes.{ended_is}
use Rattle.object_table.proofs.Sound.{sound_ended, sound_still}
use Rattle.object_table.proofs.table.ObjectTable.abort.Goals as goal

pub returns-clause-aborted : goal.returns-clause-aborted
returns-clause-aborted c = (
  c.in_ok-open.field-0.now,
  c.in_ok-open.ensures.open,
  ended_is c.self.inside.objects c.self.inside.uploads c.remove.new.self c.self.inside.ended c.insert.new.self c.self.inside.tokens c.args.self.now c.self.view_is c.args.id.now Aborted c.remove.ensures.removed
      (c.in_ok-insert.ensures.put ∙ ap (λ (how : Ended). insert c.self.inside.ended c.args.id.now how) c.aborted.ensures),
)

pub invariant_of-self : goal.invariant_of-self
invariant_of-self c =
    sound_still c.self.inside.objects c.self.inside.uploads c.self.inside.ended c.self.invariant c.self.inside.objects c.self.inside.uploads c.insert.new.self refl refl c.in_err-insert.ensures.same

pub invariant_of-self-2 : goal.invariant_of-self-2
invariant_of-self-2 c =
    sound_ended c.self.inside.objects c.self.inside.uploads c.self.inside.ended c.self.invariant c.remove.new.self c.insert.new.self c.args.id.now c.aborted.result c.remove.ensures.removed c.in_ok-insert.ensures.put
