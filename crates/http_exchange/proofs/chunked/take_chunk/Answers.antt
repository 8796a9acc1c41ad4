use Rattle.std.proofs.Common.{◌++◌, Err, Ok}
use Rattle.std.proofs.lemmas.Result.{err_from_is_err_and}
use Rattle.http_exchange.proofs.BodyLemmas.{chunk_cut, chunk_after}
use Rattle.http_exchange.proofs.TalkLemmas.{heard_after}
use Rattle.http_exchange.proofs.chunked.take_chunk.Goals as goal

pub returns-in_err-take_content-clause-heard : goal.returns-in_err-take_content-clause-heard
returns-in_err-take_content-clause-heard g c =
    let p = err_from_is_err_and c.from_residual.result c.from_residual.ensures.1 in
    let now = c.in_err-take_content.ensures.heard in
    rw p.1 (now.0, now.1, now.2, chunk_cut c.args.size _ _ _ _ _ now.0 now.1 c.in_err-take_content.field-0.0 p.0 p.2 now.3)

pub returns-in_err-take_form-clause-heard : goal.returns-in_err-take_form-clause-heard
returns-in_err-take_form-clause-heard g c =
    let p = err_from_is_err_and c.from_residual-in_err-take_form.result c.from_residual-in_err-take_form.ensures.1 in
    let so = c.in_ok-take_content.ensures.heard in
    let now = c.in_err-take_form.ensures.heard in
    rw (p.1, p.2) (so.0 ++ now.0, now.1, heard_after so.0 now.0 so.1 now.1 _ _ _ so.3.comes.4 so.2 now.2, chunk_after c.args.size _ _ _ _ _ so.0 now.0 so.1 now.1 c.in_ok-take_content.field-0 (Err c.in_err-take_form.field-0.0) so.3 now.3)

pub returns-clause-heard : goal.returns-clause-heard
returns-clause-heard g c =
    let so = c.in_ok-take_content.ensures.heard in
    let now = c.in_ok-take_form.ensures.heard in
    (so.0 ++ now.0, now.1, heard_after so.0 now.0 so.1 now.1 _ _ _ so.3.comes.4 so.2 now.2, chunk_after c.args.size _ _ _ _ _ so.0 now.0 so.1 now.1 c.in_ok-take_content.field-0 (Ok c.in_ok-take_form.field-0) so.3 now.3)
