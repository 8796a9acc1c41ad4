use Rattle.reply_xml.proofs.FaultLemmas.{err_past, fault_past, not_err}
use Rattle.reply_xml.specs.declared.faults.DocFault.TheVariants as fault
use Rattle.reply_xml.proofs.BreakLemmas.{broken_past}
use Rattle.s3_replies.proofs.results.read_completed.Goals as goal
use Rattle.shared_lemmas.proofs.Clashes.{err_is}

pub returns-in_err-_etag-clause-other_root : goal.returns-in_err-_etag-clause-other_root
returns-in_err-_etag-clause-other_root c place o =
    err_past c.from_residual.result c.in_err-_etag.field-0.0 _ c.from_residual.ensures.1
    (err_is _ _ (c.in_err-_etag.ensures.other_root place o))

pub returns-clause-other_root : goal.returns-clause-other_root
returns-clause-other_root c place o = absurd (not_err _ _ (c.in_ok-_etag.ensures.other_root place o))

pub returns-in_err-_etag-clause-behind : goal.returns-in_err-_etag-clause-behind
returns-in_err-_etag-clause-behind c place b =
    fault_past c.from_residual.result c.in_err-_etag.field-0.0 (fault.NotADocument place) c.from_residual.ensures.1
    (c.in_err-_etag.ensures.behind place b)

pub returns-clause-behind : goal.returns-clause-behind
returns-clause-behind c place b = absurd (c.in_ok-_etag.ensures.behind place b)

pub returns-in_err-_etag-clause-broken : goal.returns-in_err-_etag-clause-broken
returns-in_err-_etag-clause-broken c =
    broken_past c.from_residual.result c.in_err-_etag.field-0.0 c.from_residual.ensures.1
    (λ reason b. b) c.in_err-_etag.ensures.broken
