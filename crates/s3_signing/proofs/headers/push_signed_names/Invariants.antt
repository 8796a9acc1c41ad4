use Rattle.std.proofs.Common.{◌≡◌, ◌++◌, string_bytes, take}
use Rattle.s3_signing.specs.Signing.{signed_names}
use Rattle.s3_signing.specs.Headers.{pairs_of}
use Rattle.s3_signing.proofs.headers.push_signed_names.Given as goal

abbrev pub invariant-loop-i : goal.invariant-loop-i
invariant-loop-i l = string_bytes l.out ≡ string_bytes l.initial.out ++ signed_names (pairs_of (take l.i l.headers))
