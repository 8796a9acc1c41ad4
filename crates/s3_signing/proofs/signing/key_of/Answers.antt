use Rattle.s3_signing.specs.Signing.{signing_key}
use Rattle.s3_signing.proofs.signing.key_of.Goals as goal

pub returns : goal.returns
unfolding signing_key
returns c =
    rw (
      c.hmac_sha256.ensures,
      c.hmac_sha256-of_service.ensures,
      c.hmac_sha256-of_region.ensures,
      c.hmac_sha256-of_date.ensures,
      c.as_bytes.ensures.value,
      c.as_bytes-2.ensures.value,
      c.as_bytes-3.ensures.value,
      c.in_ok-push_str-2.ensures.bytes,
      c.in_ok-push_str.ensures.bytes,
      c.in_ok-start.ensures.bytes,
    )
