use Rattle.std.proofs.Common.{◌≡◌, ◌++◌, string_bytes, take}
use Rattle.std.specs.List.{flat_map}
use Rattle.s3_signing.specs.Signing.{canonical_header}
use Rattle.s3_signing.specs.Headers.{pairs_of}
use Rattle.s3_signing.proofs.headers.push_canonical_headers.Given as goal

abbrev pub invariant-loop-header : goal.invariant-loop-header
invariant-loop-header l = string_bytes l.out ≡ string_bytes l.initial.out ++ flat_map canonical_header (pairs_of (take l.header-index l.headers))
