use Rattle.std.proofs.Common.{[], length, sym, refl, inl, arith, ap}
use Rattle.std.proofs.lemmas.List.{append-nil}
use Rattle.s3_model.specs.Talks.{Finished}
use Rattle.http_exchange.proofs.PieceLemmas.{finished_fine}
use Rattle.http_exchange.proofs.TalkLemmas.{heard_nothing}
use Rattle.http_exchange.proofs.body.take_body.Goals as goal

pub returns-in-NoBody-clause-heard : goal.returns-in-NoBody-clause-heard
returns-in-NoBody-clause-heard g c =
    ([], Finished, heard_nothing _, rw c.in-NoBody.is (record { pieces = inl refl; comes = ((c.requires.empty, sym (append-nil _)), omega (arith, ap length c.requires.empty), finished_fine Finished refl) }))
