use Rattle.std.proofs.Common.{map, string_bytes}
use Rattle.std.proofs.lemmas.List.{length-map}
use Rattle.s3_words.proofs.PlaceLemmas.{placed_answer}
use Rattle.s3_words.proofs.words.read_words.Goals as goal

pub returns-clause-place : goal.returns-clause-place
returns-clause-place c = placed_answer (map string_bytes c.args.words.now) _ c.command_from.result (length-map c.args.words.now string_bytes) c.command_from.ensures.fault
