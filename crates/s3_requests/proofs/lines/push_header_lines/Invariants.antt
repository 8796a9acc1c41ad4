use Rattle.std.proofs.Common.{◌≡◌, ◌++◌, string_bytes, take}
use Rattle.std.specs.List.{flat_map}
use Rattle.s3_requests.specs.Requests.{header_line}
use Rattle.s3_signing.specs.Headers.{pairs_of}
use Rattle.s3_requests.proofs.lines.push_header_lines.Given as goal

abbrev pub invariant-loop-header : goal.invariant-loop-header
invariant-loop-header l = string_bytes l.out ≡ string_bytes l.initial.out ++ flat_map header_line (pairs_of (take l.header-index l.headers))
