use Rattle.std.proofs.Common.{ap, refl, ◌∙◌, List, ℕ}
use Rattle.std.specs.FinMap.{get, insert, remove}
use Rattle.file_table.proofs.Keys.{remove_new}
use Rattle.s3_model.specs.Maps.{MapOf}
use Rattle.shared_lemmas.proofs.Maps.{nothing_is}
use Rattle.s3_service.specs.ServiceState.{CompletedBy, Ended, Object, State, with_object}
use Rattle.object_table.proofs.Changes.{joined_is, undone}
use Rattle.object_table.proofs.Sound.{sound_ended, sound_objects, sound_still}
use Rattle.object_table.proofs.table.ObjectTable.join.Goals as goal

pub returns-in-Ok-clause-joined : goal.returns-in-Ok-clause-joined
returns-in-Ok-clause-joined c = (
  with_object c.args.self.now c.args.bucket.now c.args.key.now c.new-object.result,
  (c.new-object.result, ap (λ (o : Object). o.bytes) c.new-object.ensures, refl),
  joined_is c.self.inside.objects c.put_object.new.objects c.self.inside.uploads c.remove.new.self c.self.inside.ended c.insert.new.self c.insert.new.self c.self.inside.tokens c.args.self.now (c.self.view_is ∙ c.new_etag.ensures)
      c.args.bucket.now c.args.key.now c.args.id.now c.new-object.result (CompletedBy c.args.etags.now)
      (c.in_ok-insert.ensures.put ∙ ap (λ (how : Ended). insert c.self.inside.ended c.args.id.now how) (c.completed-ending.ensures ∙ ap (λ (etags : List (List ℕ)). CompletedBy etags) c.in_ok-copies_of.ensures))
      c.in-Ok.ensures.put c.remove.ensures.removed,
)

pub returns-in-Err-clause-same : goal.returns-in-Err-clause-same
returns-in-Err-clause-same c =
    undone c.self.inside.objects c.put_object.new.objects c.self.inside.uploads c.self.inside.uploads c.self.inside.ended c.insert.new.self c.remove-in-Err.new.self c.self.inside.tokens c.args.self.now (c.self.view_is ∙ c.new_etag.ensures) c.args.id.now
    c.completed-ending.result c.in_ok-insert.ensures.put c.in-Err.ensures.same c.remove-in-Err.ensures.removed
    (ap (λ (t : State). get t.ended c.args.id.now) (c.self.view_is ∙ c.new_etag.ensures) ∙ nothing_is _ c.requires.apart)

pub invariant_of-self : goal.invariant_of-self
invariant_of-self c =
    sound_still c.self.inside.objects c.self.inside.uploads c.self.inside.ended c.self.invariant c.self.inside.objects c.self.inside.uploads c.insert.new.self refl refl c.in_err-insert.ensures.same

pub invariant_of-self-in-Ok : goal.invariant_of-self-in-Ok
invariant_of-self-in-Ok c =
    sound_objects c.self.inside.objects c.remove.new.self c.insert.new.self
    (sound_ended c.self.inside.objects c.self.inside.uploads c.self.inside.ended c.self.invariant c.remove.new.self c.insert.new.self c.args.id.now c.completed-ending.result c.remove.ensures.removed c.in_ok-insert.ensures.put)
    c.put_object.new.objects c.args.bucket.now _ c.in-Ok.ensures.put

pub invariant_of-self-in-Err : goal.invariant_of-self-in-Err
invariant_of-self-in-Err c =
    sound_still c.self.inside.objects c.self.inside.uploads c.self.inside.ended c.self.invariant c.put_object.new.objects c.self.inside.uploads c.remove-in-Err.new.self c.in-Err.ensures.same refl
    (c.remove-in-Err.ensures.removed
    ∙ ap (λ (m : MapOf Ended). remove m c.args.id.now) c.in_ok-insert.ensures.put
    ∙ remove_new c.self.inside.ended c.args.id.now c.completed-ending.result (ap (λ (t : State). get t.ended c.args.id.now) (c.self.view_is ∙ c.new_etag.ensures) ∙ nothing_is _ c.requires.apart))
