use Rattle.std.proofs.Common.{◌∷◌, rules}
use Rattle.task_acts.specs.Histories.{Cancelled}
use Rattle.move_laws.proofs.Cancels.{known_cancelled}
use Rattle.move_laws.proofs.ToldTable.{cancel_stops}
use Rattle.task_slots.proofs.freeing.cancel_task.Goals as goal

pub returns-then-not-had_stopped-clause-told : goal.returns-then-not-had_stopped-clause-told
returns-then-not-had_stopped-clause-told c room w h is =
    c.free_parts.ensures.known room w (Cancelled c.args.reason ∷ h) (cancel_stops w h c.args.reason)
    (known_cancelled room w h _ _ is c.args.reason (c.cancel.ensures.stands w is.heard is.stands) c.cancel.ensures.kept)

pub returns-else-not-had_stopped-clause-told : goal.returns-else-not-had_stopped-clause-told
returns-else-not-had_stopped-clause-told c room w h is =
    known_cancelled room w h _ _ is c.args.reason (c.cancel.ensures.stands w is.heard is.stands) c.cancel.ensures.kept

pub returns-else-not-had_stopped-clause-freed : goal.returns-else-not-had_stopped-clause-freed
returns-else-not-had_stopped-clause-freed c = search rules
