use Rattle.std.proofs.Common.{sym}
use Rattle.shared_lemmas.proofs.Clashes.{true_is_false}
use Rattle.std.proofs.Common.{◌∙◌, IfSome, subst}
use Rattle.manager_core.specs.Shown.{HasTaskAt}
use Rattle.s3_model.specs.declared.outcomes.JobId.{JobId}
use Rattle.run_transfers.proofs.RunLemmas.{goes_free}
use Rattle.run_transfers.proofs.TakeLemmas.{has_room, its_task_is, may_come_back, may_follow, met, some_are_out, took_on}
use Rattle.run_transfers.proofs.moves.take.Goals as goal

pub take-lane-requires-after_bounds : goal.take-lane-requires-after_bounds
take-lane-requires-after_bounds g c κs within = some_are_out c.requires.kept c.requires.is

pub returns-then-not-is_oldest-clause-stranger : goal.returns-then-not-is_oldest-clause-stranger
returns-then-not-is_oldest-clause-stranger g c run k =
    met k c.requires.is c.take-lane.result.0 c.take-lane.result.1 c.take-lane.ensures.lane c.take-lane.ensures.was_out
    (λ is. true_is_false (sym (c.is_oldest.ensures.1 is) ∙ c.if-not-is_oldest.true)) c.take-lane.ensures.taken

pub came-requires-clause-may : goal.came-requires-clause-may
came-requires-clause-may g c =
    may_come_back c.requires.kept c.requires.is c.take-lane.result.0 c.take-lane.result.1 c.take-lane.ensures.lane
    c.take-lane.ensures.was_out (c.is_oldest.ensures.0 c.if-not-is_oldest.false) c.see_ended.ensures.ended
    c.see_ended.ensures.few

pub came-requires-clause-room : goal.came-requires-clause-room
came-requires-clause-room g c =
    has_room c.requires.kept c.requires.is c.take-lane.result.0 c.take-lane.result.1 c.take-lane.ensures.lane
    c.take-lane.ensures.was_out (c.is_oldest.ensures.0 c.if-not-is_oldest.false) c.see_ended.ensures.ended
    c.see_ended.ensures.few

pub returns-clause-goes_on : goal.returns-clause-goes_on
returns-clause-goes_on g c run k =
    let passed = c.is_oldest.ensures.0 c.if-not-is_oldest.false in
    let lane = c.take-lane.result.0 in
    let carried = c.take-lane.result.1 in
    took_on k c.requires.is lane carried c.take-lane.ensures.lane c.take-lane.ensures.was_out passed
    c.see_ended.ensures.ended c.see_ended.ensures.few c.came.new.self
    (c.came.ensures.running _ _ _ k.running
    (may_follow k c.requires.is lane carried c.take-lane.ensures.lane c.take-lane.ensures.was_out passed
    c.see_ended.ensures.ended c.see_ended.ensures.few)) c.came.ensures.free c.take-lane.ensures.taken c.pop.ensures

pub returns-clause-free : goal.returns-clause-free
returns-clause-free g c =
    let k = c.requires.kept in
    let passed = c.is_oldest.ensures.0 c.if-not-is_oldest.false in
    let lane = c.take-lane.result.0 in
    let carried = c.take-lane.result.1 in
    goes_free
    (took_on k c.requires.is lane carried c.take-lane.ensures.lane c.take-lane.ensures.was_out passed
    c.see_ended.ensures.ended c.see_ended.ensures.few c.came.new.self
    (c.came.ensures.running _ _ _ k.running
    (may_follow k c.requires.is lane carried c.take-lane.ensures.lane c.take-lane.ensures.was_out passed
    c.see_ended.ensures.ended c.see_ended.ensures.few)) c.came.ensures.free c.take-lane.ensures.taken c.pop.ensures)
    c.came.ensures.free

pub returns-clause-task : goal.returns-clause-task
returns-clause-task g c =
    let k = c.requires.kept in
    let passed = c.is_oldest.ensures.0 c.if-not-is_oldest.false in
    let lane = c.take-lane.result.0 in
    let carried = c.take-lane.result.1 in
    let has = its_task_is k c.requires.is lane carried c.take-lane.ensures.lane c.take-lane.ensures.was_out passed
    c.see_ended.ensures.ended c.see_ended.ensures.few c.came.new.self
    (c.came.ensures.running _ _ _ k.running
    (may_follow k c.requires.is lane carried c.take-lane.ensures.lane c.take-lane.ensures.was_out passed
    c.see_ended.ensures.ended c.see_ended.ensures.few)) in
    subst (λ (id : JobId). IfSome id.task (λ n. HasTaskAt n c.came.new.self)) (sym c.id-id.ensures) has
