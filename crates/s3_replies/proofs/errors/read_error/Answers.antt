use Rattle.std.proofs.Common.{◌∙◌, [], ap, sym, unwrap_or}
use Rattle.reply_xml.proofs.FaultLemmas.{err_past, fault_past, not_err, refused_past}
use Rattle.s3_replies.proofs.ErrorLemmas.{error_behind, error_found, error_told}
use Rattle.reply_xml.specs.declared.faults.DocFault.TheVariants as fault
use Rattle.reply_xml.proofs.BreakLemmas.{broken_past}
use Rattle.s3_replies.proofs.errors.read_error.Goals as goal
use Rattle.shared_lemmas.proofs.Clashes.{err_is}

pub returns-in_err-code-clause-refused : goal.returns-in_err-code-clause-refused
returns-in_err-code-clause-refused c =
    refused_past c.from_residual.result c.in_err-code.field-0.0 c.from_residual.ensures.1
    (λ none error r. let found = error_found c.args.doc.now error r in none (error.0, found.0) found.1)
    c.in_err-code.ensures.refused

pub returns-in-Some-clause-value : goal.returns-in-Some-clause-value
returns-in-Some-clause-value c = error_told c.args.doc.now c.in_ok-code.code c.in-Some.message c.in_ok-code.message
    (sym (ap (λ m. unwrap_or m []) c.in-Some.is)) c.in_ok-code.ensures.value

pub returns-in-None-clause-value : goal.returns-in-None-clause-value
returns-in-None-clause-value c = error_told c.args.doc.now c.in_ok-code.code _ c.in_ok-code.message
    (c.from.ensures ∙ c.new.ensures.bytes ∙ sym (ap (λ m. unwrap_or m []) c.in-None.is)) c.in_ok-code.ensures.value

pub returns-in_err-code-clause-other_root : goal.returns-in_err-code-clause-other_root
returns-in_err-code-clause-other_root c place o =
    err_past c.from_residual.result c.in_err-code.field-0.0 _ c.from_residual.ensures.1
    (err_is _ _ (c.in_err-code.ensures.other_root place o))

pub returns-in-Some-clause-other_root : goal.returns-in-Some-clause-other_root
returns-in-Some-clause-other_root c place o = absurd (not_err _ _ (c.in_ok-code.ensures.other_root place o))

pub returns-in-None-clause-other_root : goal.returns-in-None-clause-other_root
returns-in-None-clause-other_root c place o = absurd (not_err _ _ (c.in_ok-code.ensures.other_root place o))

pub returns-in_err-code-clause-behind : goal.returns-in_err-code-clause-behind
returns-in_err-code-clause-behind c place b =
    fault_past c.from_residual.result c.in_err-code.field-0.0 (fault.NotADocument place) c.from_residual.ensures.1
    (c.in_err-code.ensures.behind place (error_behind c.args.doc.now place b))

pub returns-in-Some-clause-behind : goal.returns-in-Some-clause-behind
returns-in-Some-clause-behind c place b =
    absurd (c.in_ok-code.ensures.behind place (error_behind c.args.doc.now place b))

pub returns-in-None-clause-behind : goal.returns-in-None-clause-behind
returns-in-None-clause-behind c place b =
    absurd (c.in_ok-code.ensures.behind place (error_behind c.args.doc.now place b))

pub returns-in_err-code-clause-broken : goal.returns-in_err-code-clause-broken
returns-in_err-code-clause-broken c =
    broken_past c.from_residual.result c.in_err-code.field-0.0 c.from_residual.ensures.1
    (λ reason b. b) c.in_err-code.ensures.broken
