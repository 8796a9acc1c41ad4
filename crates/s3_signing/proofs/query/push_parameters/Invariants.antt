use Rattle.std.proofs.Common.{◌≡◌, ◌++◌, string_bytes, take}
use Rattle.s3_signing.specs.Signing.{parameters}
use Rattle.s3_signing.specs.Headers.{text_pairs}
use Rattle.s3_signing.proofs.query.push_parameters.Given as goal

abbrev pub invariant-loop-i : goal.invariant-loop-i
invariant-loop-i l = string_bytes l.out ≡ string_bytes l.initial.out ++ parameters (text_pairs (take l.i l.pairs))
