use Rattle.std.proofs.Common.{[], refl, inl, inr, arith}
use Rattle.s3_model.specs.Talks.{Finished}
use Rattle.http_exchange.proofs.BodyLemmas.{content_body}
use Rattle.http_exchange.proofs.PieceLemmas.{finished_fine}
use Rattle.http_exchange.proofs.TalkLemmas.{heard_nothing}
use Rattle.http_exchange.proofs.body.take_sized.Goals as goal

pub returns-then-n-limit-clause-heard : goal.returns-then-n-limit-clause-heard
returns-then-n-limit-clause-heard g c =
    let above = c.if-n-limit.true in
    ([], Finished, heard_nothing _, record { pieces = inl refl; comes = inr (finished_fine Finished refl, inl (omega (arith, above), refl)) })

pub returns-clause-heard : goal.returns-clause-heard
returns-clause-heard g c =
    let h = c.take_content.ensures.heard in
    (h.0, h.1, h.2, content_body c.args.n c.args.limit _ _ _ _ c.take_content.result h.0 h.1 (omega (arith, c.if-n-limit.false)) c.requires.empty h.3)
