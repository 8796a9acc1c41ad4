use Rattle.std.proofs.Common.{◌≡◌, ◌++◌, string_bytes, flat_map}
use Rattle.s3_model.specs.Documents.{escape_markup}
use Rattle.s3_requests.proofs.body.push_markup.Given as goal

abbrev pub invariant-loop-ch : goal.invariant-loop-ch
invariant-loop-ch l = string_bytes l.out ≡ string_bytes l.initial.out ++ flat_map escape_markup l.yielded
