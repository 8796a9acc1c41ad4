use Rattle.s3_signing.specs.Hmac.{hmac_sha256, inner_hash}
use Rattle.s3_signing.proofs.hmac.hmac_sha256.Goals as goal

pub returns : goal.returns
unfolding hmac_sha256 inner_hash
returns c = rw (c.hash_of_two.ensures, c.padded_by-2.ensures, c.hash_of_two-inner.ensures, c.padded_by.ensures, c.block_key-block.ensures)
