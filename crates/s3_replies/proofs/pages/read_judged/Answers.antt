use Rattle.std.proofs.Common.{◌∙◌, Err, List, ap, codes, false, subst, sym, ℕ}
use Rattle.reply_xml.specs.Documents.{ReadsSpace}
use Rattle.reply_xml.specs.Unfit.{AKey, APrefix}
use Rattle.reply_xml.specs.declared.faults.DocFault.TheVariants as fault
use Rattle.s3_replies.specs.Encodings.{BreaksPage}
use Rattle.s3_replies.specs.Listing.{HasListing, HasPage, page_table}
use Rattle.reply_xml.proofs.FaultLemmas.{IfOk-map, Tells-map, fault_past, not_err, refused_past, refused_so}
use Rattle.reply_xml.proofs.FaultLemmas.{same_fault, untold}
use Rattle.reply_xml.proofs.WholeLemmas.{behind_root, no_root, no_whole, whole}
use Rattle.reply_xml.proofs.BreakLemmas.{broken_past, sized, unbroken}
use Rattle.s3_replies.proofs.JudgedLemmas.{breaks_behind, breaks_inside, broken_with, judged_holds, judged_means}
use Rattle.s3_replies.proofs.JudgedLemmas.{memory_broken, memory_fault, memory_refused, names_nothing, no_fault}
use Rattle.s3_replies.proofs.JudgedLemmas.{no_judged, no_judged_behind}
use Rattle.s3_replies.proofs.ListingLemmas.{said_there}
use Rattle.s3_replies.proofs.pages.read_judged.Goals as goal
use Rattle.shared_lemmas.proofs.Clashes.{err_is}

-- no root
pub returns-in-Err-clause-refused : goal.returns-in-Err-clause-refused
returns-in-Err-clause-refused c = Tells-map c.in-Err.fault
    (λ none listed l. no_root HasPage (codes "ListBucketResult") c.args.doc.now l.0 none l.1) c.in-Err.ensures.refused

pub returns-in-Err-clause-broken : goal.returns-in-Err-clause-broken
returns-in-Err-clause-broken c =
    broken_with c.in-Err.fault (λ reason none b.
    (false, names_nothing c.args.doc.now none, b (page_table (AKey false) (APrefix false))))
    c.in-Err.ensures.refused c.in-Err.ensures.broken

pub returns-in-Err-clause-other_root : goal.returns-in-Err-clause-other_root
returns-in-Err-clause-other_root c place o = ap Err (err_is _ _ (c.in-Err.ensures.other place o))

pub returns-in-Err-clause-behind : goal.returns-in-Err-clause-behind
returns-in-Err-clause-behind c place b =
    untold c.in-Err.fault (fault.NotADocument place)
    (Tells-map c.in-Err.fault (λ none. none b.closed b.at_content b.begins) c.in-Err.ensures.refused)

-- memory ran out
pub returns-in_err-url-clause-refused : goal.returns-in_err-url-clause-refused
returns-in_err-url-clause-refused c =
    memory_refused _ c.from_residual.result c.in_err-url.field-0.0 c.from_residual.ensures.1 c.in_err-url.ensures.memory

pub returns-in_err-url-clause-broken : goal.returns-in_err-url-clause-broken
returns-in_err-url-clause-broken c =
    memory_broken _ c.from_residual.result c.in_err-url.field-0.0 c.from_residual.ensures.1 c.in_err-url.ensures.memory

pub returns-in_err-url-clause-other_root : goal.returns-in_err-url-clause-other_root
returns-in_err-url-clause-other_root c place o = absurd (not_err _ _ (c.in-Ok.ensures.other place o))

pub returns-in_err-url-clause-behind : goal.returns-in_err-url-clause-behind
returns-in_err-url-clause-behind c place b = memory_fault
    (fault.NotADocument place) c.from_residual.result c.in_err-url.field-0.0 c.from_residual.ensures.1
    c.in_err-url.ensures.memory

-- a fault inside the root
pub returns-in_err-page-clause-refused : goal.returns-in_err-page-clause-refused
returns-in_err-page-clause-refused c =
    refused_past c.from_residual-in_err-page.result c.in_err-page.field-0.0 c.from_residual-in_err-page.ensures.1
    (no_judged c.in_ok-url.url c.args.doc.now _ c.in-Ok.parts.1 c.in-Ok.ensures.begins c.in-Ok.ensures.room
    c.in-Ok.ensures.named c.in_ok-url.ensures.page)
    (rw c.keys_of.ensures at c.in_err-page.ensures.refused)

pub returns-in_err-page-clause-broken : goal.returns-in_err-page-clause-broken
returns-in_err-page-clause-broken c =
    broken_past c.from_residual-in_err-page.result c.in_err-page.field-0.0 c.from_residual-in_err-page.ensures.1
    (
    λ reason b. breaks_inside c.in_ok-url.url c.args.doc.now _ c.in-Ok.parts.1 reason c.in-Ok.ensures.begins
    c.in-Ok.ensures.room c.in-Ok.ensures.named c.in_ok-url.ensures.first
    (sized _ _ reason _ _ _ _ c.in-Ok.ensures.size b)
    )
    (rw c.keys_of.ensures at c.in_err-page.ensures.broken)

pub returns-in_err-page-clause-other_root : goal.returns-in_err-page-clause-other_root
returns-in_err-page-clause-other_root c place o = absurd (not_err _ _ (c.in-Ok.ensures.other place o))

pub returns-in_err-page-clause-behind : goal.returns-in_err-page-clause-behind
returns-in_err-page-clause-behind c place b =
    let there = behind_root HasListing (codes "ListBucketResult") c.args.doc.now _ place c.in-Ok.parts.1
    c.in-Ok.ensures.begins c.in-Ok.ensures.room c.in-Ok.ensures.named b in
    let none = refused_past c.from_residual-in_err-page.result c.in_err-page.field-0.0
    c.from_residual-in_err-page.ensures.1
    (λ none. no_judged_behind c.in_ok-url.url c.args.doc.now _ b.at_end c.in-Ok.parts.1 b.value c.in-Ok.ensures.begins
    c.in-Ok.ensures.room c.in_ok-url.ensures.page none there)
    (rw c.keys_of.ensures at c.in_err-page.ensures.refused) in
    no_fault c.from_residual-in_err-page.result c.in_err-page.field-0.0
    (fault.NotADocument place) c.from_residual-in_err-page.ensures.1 none

-- bytes behind the root
pub returns-in_err-close-clause-refused : goal.returns-in_err-close-clause-refused
returns-in_err-close-clause-refused c =
    refused_past c.from_residual-in_err-close.result c.in_err-close.field-0.0 c.from_residual-in_err-close.ensures.1
    (
    λ none listed l.
    no_whole HasPage (codes "ListBucketResult") c.args.doc.now _ _ c.in-Ok.parts.1 c.in_ok-page.page
    c.in-Ok.ensures.begins c.in-Ok.ensures.room c.in-Ok.ensures.named
    (judged_holds c.in_ok-url.url c.in-Ok.parts.1 _ _ c.in_ok-page.page
    (rw c.keys_of.ensures at c.in_ok-page.ensures.value)) none l.0 l.1
    )
    c.in_err-close.ensures.refused

pub returns-in_err-close-clause-broken : goal.returns-in_err-close-clause-broken
returns-in_err-close-clause-broken c =
    broken_past c.from_residual-in_err-close.result c.in_err-close.field-0.0 c.from_residual-in_err-close.ensures.1
    (
    λ reason h. breaks_behind c.in_ok-url.url c.args.doc.now _ _ h.0 c.in-Ok.parts.1 reason c.in-Ok.ensures.begins
    c.in-Ok.ensures.room c.in-Ok.ensures.named c.in_ok-url.ensures.first
    (rw c.keys_of.ensures at c.in_ok-page.ensures.well) h.1 h.2 h.3
    )
    c.in_err-close.ensures.broken

pub returns-in_err-close-clause-other_root : goal.returns-in_err-close-clause-other_root
returns-in_err-close-clause-other_root c place o = absurd (not_err _ _ (c.in-Ok.ensures.other place o))

pub returns-in_err-close-clause-behind : goal.returns-in_err-close-clause-behind
returns-in_err-close-clause-behind c place b =
    let there = behind_root HasListing (codes "ListBucketResult") c.args.doc.now _ place c.in-Ok.parts.1
    c.in-Ok.ensures.begins c.in-Ok.ensures.room c.in-Ok.ensures.named b in
    let holds = judged_holds c.in_ok-url.url c.in-Ok.parts.1 _ _ c.in_ok-page.page
    (rw c.keys_of.ensures at c.in_ok-page.ensures.value) in
    let ends = (said_there _ _ b.at_end c.in-Ok.parts.1 c.in_ok-page.page b.value holds there).1 in
    let space = subst (λ (t : List ℕ). ReadsSpace t b.more) ends b.space in
    fault_past c.from_residual-in_err-close.result c.in_err-close.field-0.0
    (fault.NotADocument place) c.from_residual-in_err-close.ensures.1
    (same_fault c.in_err-close.field-0.0 (fault.NotADocument place)
    (err_is _ _ (c.in_err-close.ensures.behind b.more space b.some) ∙ ap (λ n. fault.NotADocument n) (sym b.at)))

-- a whole page
pub returns-clause-value : goal.returns-clause-value
returns-clause-value c =
    let holds = judged_holds c.in_ok-url.url c.in-Ok.parts.1 _ _ c.in_ok-page.page
    (rw c.keys_of.ensures at c.in_ok-page.ensures.value) in
    let written = whole HasPage (codes "ListBucketResult") c.args.doc.now _ _ c.in-Ok.parts.1 c.in_ok-page.page
    c.in-Ok.ensures.begins c.in-Ok.ensures.room c.in-Ok.ensures.named
    holds c.in_ok-close.ensures.value in
    IfOk-map c.listed.result (λ listed says. (c.in_ok-page.page, written, says)) c.listed.ensures.value

pub returns-clause-refused : goal.returns-clause-refused
returns-clause-refused c =
    refused_so c.listed.result
    (
    λ none. absurd (judged_means c.in_ok-url.url c.args.doc.now _ _ c.in-Ok.parts.1 c.in_ok-page.page
    c.in-Ok.ensures.begins c.in-Ok.ensures.room c.in_ok-url.ensures.page
    (rw c.keys_of.ensures at c.in_ok-page.ensures.value) none)
    )
    c.listed.ensures.refused

pub returns-clause-broken : goal.returns-clause-broken
returns-clause-broken c =
    unbroken (BreaksPage c.args.doc.now) c.listed.result
    (
    refused_so c.listed.result
    (
    λ none. judged_means c.in_ok-url.url c.args.doc.now _ _ c.in-Ok.parts.1 c.in_ok-page.page c.in-Ok.ensures.begins
    c.in-Ok.ensures.room c.in_ok-url.ensures.page
    (rw c.keys_of.ensures at c.in_ok-page.ensures.value) none
    )
    c.listed.ensures.refused
    )

pub returns-clause-other_root : goal.returns-clause-other_root
returns-clause-other_root c place o = absurd (not_err _ _ (c.in-Ok.ensures.other place o))

pub returns-clause-behind : goal.returns-clause-behind
returns-clause-behind c place b =
    let there = behind_root HasListing (codes "ListBucketResult") c.args.doc.now _ place c.in-Ok.parts.1
    c.in-Ok.ensures.begins c.in-Ok.ensures.room c.in-Ok.ensures.named b in
    let holds = judged_holds c.in_ok-url.url c.in-Ok.parts.1 _ _ c.in_ok-page.page
    (rw c.keys_of.ensures at c.in_ok-page.ensures.value) in
    let ends = (said_there _ _ b.at_end c.in-Ok.parts.1 c.in_ok-page.page b.value holds there).1 in
    let space = subst (λ (t : List ℕ). ReadsSpace t b.more) ends b.space in
    absurd (not_err _ _ (c.in_ok-close.ensures.behind b.more space b.some))
