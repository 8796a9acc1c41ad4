use Rattle.std.proofs.Common.{ap, refl, ◌∙◌, List, ℕ}
use Rattle.std.specs.FinMap.{get, insert}
use Rattle.s3_service.specs.ServiceState.{State, StoredPart, Upload, with_part}
use Rattle.object_table.proofs.Changes.{upload_is}
use Rattle.object_table.proofs.Sound.{sound_begun, sound_still}
use Rattle.object_table.proofs.table.ObjectTable.put_part.Goals as goal

pub returns-clause-stored : goal.returns-clause-stored
returns-clause-stored c =
    let upload : Upload = c.in_ok-open.field-0.now in
    let part : StoredPart = c.new-part.result in (
      upload,
      c.in_ok-open.ensures.open,
      upload_is c.self.inside.objects c.self.inside.uploads c.put_part.new.uploads c.self.inside.ended c.self.inside.ended c.self.inside.tokens c.args.self.now (c.self.view_is ∙ c.new_etag.ensures) c.args.id.now (record upload { parts = insert upload.parts c.args.number part })
          (c.in_ok-put_part.ensures.put upload (ap (λ (t : State). get t.uploads c.args.id.now) (c.self.view_is ∙ c.new_etag.ensures) ∙ c.in_ok-open.ensures.open.held))
          ∙ ap (λ (p : StoredPart). with_part c.args.self.now c.args.id.now upload c.args.number p) (c.new-part.ensures ∙ ap (λ (etag : List ℕ). record { bytes = c.args.bytes.items; etag = etag }) c.in_ok-copy.ensures),
    )

pub invariant_of-self : goal.invariant_of-self
invariant_of-self c =
    sound_still c.self.inside.objects c.self.inside.uploads c.self.inside.ended c.self.invariant c.self.inside.objects c.put_part.new.uploads c.self.inside.ended refl c.in_err-put_part.ensures.same refl

pub invariant_of-self-2 : goal.invariant_of-self-2
invariant_of-self-2 c =
    let upload : Upload = c.in_ok-open.field-0.now in
    sound_begun c.self.inside.objects c.self.inside.uploads c.self.inside.ended c.self.inside.tokens c.args.self.now (c.self.view_is ∙ c.new_etag.ensures) c.self.invariant
    c.put_part.new.uploads c.args.id.now c.args.bucket.now (record upload { parts = insert upload.parts c.args.number c.new-part.result })
    (c.in_ok-put_part.ensures.put upload (ap (λ (t : State). get t.uploads c.args.id.now) (c.self.view_is ∙ c.new_etag.ensures) ∙ c.in_ok-open.ensures.open.held))
    c.in_ok-open.ensures.open.bucket c.in_ok-open.ensures.bucket c.in_ok-open.ensures.apart
