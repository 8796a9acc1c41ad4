use Rattle.std.proofs.Common.{◌∙◌, ℕ, List, ap, rules}
use Rattle.s3_service.specs.ServiceState.{State, Upload, with_upload}
use Rattle.object_table.proofs.table.ObjectTable.create.Goals as goal

pub returns-clause-created : goal.returns-clause-created
returns-clause-created c =
    let made : Upload = c.in_ok-upload.upload in (
      search rules,
      c.in_ok-id.ensures.open,
      c.in_ok-id.ensures.ended,
      made,
      record {
        bucket = ap (λ (u : Upload). u.bucket) c.in_ok-upload.ensures;
        key = ap (λ (u : Upload). u.key) c.in_ok-upload.ensures;
        parts = ap (λ (u : Upload). u.parts) c.in_ok-upload.ensures;
      },
      c.in_ok-begin.ensures.begun
          ∙ ap (λ (t : State). with_upload t c.as_str.result.now made) c.new_id.ensures.same
          ∙ ap (λ (id : List ℕ). with_upload c.args.self.now id made) c.as_str.ensures,
    )

pub returns-then-not-has_bucket-clause-willing : goal.returns-then-not-has_bucket-clause-willing
returns-then-not-has_bucket-clause-willing c = search rules
