use Rattle.std.proofs.Common.{◌≤◌, ◌∙◌, refl}
use Rattle.std.proofs.lemmas.List.Elements.{All-same}
use Rattle.chunk_plan.proofs.Rooms.{both_rooms, most_written, rooms_written}
use Rattle.chunk_plan.proofs.pool.PartPool.enlarge.Goals as goal

pub invariant_of-self : goal.invariant_of-self
invariant_of-self c =
    let lent = c.deref_mut.ensures.value in
    let size = c.enlarge_all.auto.parts ∙ c.deref_mut.ensures.len in
    let rooms = All-same (λ part. c.self.inside.room ≤ part.bytes.room) _ _ lent c.self.invariant.2 in
    let most = All-same (λ part. part.bytes.room ≤ c.self.inside.most) _ _ lent c.self.invariant.3 in (
      c.self.invariant.0,
      c.self.invariant.1,
      rooms_written _ _ _ _ _ size refl (c.enlarge_all.ensures.kept _ rooms),
      most_written _ _ _ _ _ size c.max-self-inside.ensures (c.enlarge_all.ensures.most _ most),
    )

pub invariant_of-self-2 : goal.invariant_of-self-2
invariant_of-self-2 c =
    let lent = c.deref_mut.ensures.value in
    let size = c.enlarge_all.auto.parts ∙ c.deref_mut.ensures.len in
    let rooms = All-same (λ part. c.self.inside.room ≤ part.bytes.room) _ _ lent c.self.invariant.2 in
    let most = All-same (λ part. part.bytes.room ≤ c.self.inside.most) _ _ lent c.self.invariant.3 in (
      c.self.invariant.0,
      c.self.invariant.1,
      rooms_written _ _ _ _ _ size c.max-self-inside-2.ensures
          (both_rooms _ _ _ (c.enlarge_all.ensures.kept _ rooms) c.in_ok-enlarge_all.ensures.ok),
      most_written _ _ _ _ _ size c.max-self-inside.ensures (c.enlarge_all.ensures.most _ most),
    )
