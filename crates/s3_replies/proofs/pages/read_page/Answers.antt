use Rattle.std.proofs.Common.{Err, List, ap, codes, subst, ℕ}
use Rattle.reply_xml.specs.Documents.{ReadsSpace}
use Rattle.s3_replies.specs.Listing.{HasListing, HasPage}
use Rattle.reply_xml.proofs.FaultLemmas.{IfOk-map, not_err}
use Rattle.reply_xml.proofs.WholeLemmas.{behind_root, whole}
use Rattle.s3_replies.proofs.JudgedLemmas.{on_ok}
use Rattle.s3_replies.proofs.ListingLemmas.{said_there}
use Rattle.s3_replies.proofs.pages.read_page.Goals as goal
use Rattle.shared_lemmas.proofs.Clashes.{err_is}

pub returns-in-Err-clause-other_root : goal.returns-in-Err-clause-other_root
returns-in-Err-clause-other_root c place o = ap Err (err_is _ _ (c.in-Err.ensures.other place o))

pub returns-in_err-page-clause-other_root : goal.returns-in_err-page-clause-other_root
returns-in_err-page-clause-other_root c place o = absurd (not_err _ _ (c.in-Ok.ensures.other place o))

pub returns-in-Err-close-clause-other_root : goal.returns-in-Err-close-clause-other_root
returns-in-Err-close-clause-other_root c place o = absurd (not_err _ _ (c.in-Ok.ensures.other place o))

pub returns-in-Ok-close-clause-value : goal.returns-in-Ok-close-clause-value
returns-in-Ok-close-clause-value c =
    let written = whole HasPage (codes "ListBucketResult") c.args.doc.now _ _ c.in-Ok.parts.1 c.in_ok-page.page
    c.in-Ok.ensures.begins c.in-Ok.ensures.room c.in-Ok.ensures.named c.in_ok-page.ensures.value
    c.in-Ok-close.ensures.value in
    IfOk-map c.listed.result (λ listed says. (c.in_ok-page.page, written, says)) c.listed.ensures.value

pub returns-in-Ok-close-clause-other_root : goal.returns-in-Ok-close-clause-other_root
returns-in-Ok-close-clause-other_root c place o = absurd (not_err _ _ (c.in-Ok.ensures.other place o))

pub returns-in-Ok-close-clause-whole : goal.returns-in-Ok-close-clause-whole
returns-in-Ok-close-clause-whole c =
    on_ok c.listed.result
    (
    λ place b.
    let there = behind_root HasListing (codes "ListBucketResult") c.args.doc.now _ place c.in-Ok.parts.1
    c.in-Ok.ensures.begins c.in-Ok.ensures.room c.in-Ok.ensures.named b in
    let ends = (said_there _ _ b.at_end c.in-Ok.parts.1 c.in_ok-page.page b.value c.in_ok-page.ensures.value there).1 in
    let space = subst (λ (t : List ℕ). ReadsSpace t b.more) ends b.space in
    not_err _ _ (c.in-Ok-close.ensures.behind b.more space b.some)
    )
