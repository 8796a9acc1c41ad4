use Rattle.std.proofs.Common.{[], refl, inl}
use Rattle.s3_model.specs.Talks.{Finished}
use Rattle.http_exchange.proofs.PieceLemmas.{finished_fine}
use Rattle.http_exchange.proofs.TalkLemmas.{heard_nothing}
use Rattle.http_exchange.proofs.talk.fill_answer.Goals as goal

pub returns-in_default-clause-heard : goal.returns-in_default-clause-heard
returns-in_default-clause-heard g c = ([], Finished, heard_nothing _, record { pieces = inl refl; comes = inl (refl, finished_fine Finished refl) })
