use Rattle.std.proofs.Common.{◌≡◌, ◌++◌, string_bytes, length, map, nat_eq}
use Rattle.std.specs.List.{join_with_byte}
use Rattle.s3_signing.specs.Signing.{words}
use Rattle.s3_signing.proofs.headers.push_trimmed.Given as goal

abbrev pub invariant-loop-word : goal.invariant-loop-word
invariant-loop-word l = record {
  text : string_bytes l.out ≡ string_bytes l.initial.out ++ join_with_byte 32 (words (map (λ p. p.now) l.yielded));
  first : l.first ≡ nat_eq (length (words (map (λ p. p.now) l.yielded))) 0;
}
