use Rattle.std.proofs.Common.{◌≡◌, ◌≤◌, ◌++◌, ◌-◌, ℕ, List, length, replicate, arith}
use Rattle.std.proofs.lemmas.Bool.Decides.{nat_tests}
use Rattle.std.proofs.lemmas.List.{drop-replicate}
use Rattle.s3_signing.specs.Hmac as spec
use Rattle.s3_signing.proofs.hmac.block_key.Goals as goal

short_key : (key : List ℕ) → length key ≤ 64 → spec.shortened key ≡ key
short_key key h = grind (arith, nat_tests)

short_block : (key : List ℕ) → length key ≤ 64 → key ++ replicate (64 - length key) 0 ≡ spec.block_key key
short_block key h = rw (short_key key h)

pub returns-else-key-gt-BLOCK : goal.returns-else-key-gt-BLOCK
returns-else-key-gt-BLOCK c =
    rw (c.copy_from_slice-else-key-gt-BLOCK.ensures.after, drop-replicate) (short_block c.args.key.now c.if-key-gt-BLOCK.false)
