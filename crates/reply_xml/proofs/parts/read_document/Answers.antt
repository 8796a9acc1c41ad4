use Rattle.std.proofs.Common.{◌∙◌, Err, ap, sym}
use Rattle.reply_xml.proofs.FaultLemmas.{Tells-map, fault_past, not_err, refused_past, same_fault, untold}
use Rattle.reply_xml.proofs.WholeLemmas.{behind_root, behind_there, no_root, no_inside, no_whole, whole}
use Rattle.reply_xml.specs.declared.faults.DocFault.TheVariants as fault
use Rattle.reply_xml.specs.Breaks.{BehindRoot, InRoot}
use Rattle.reply_xml.proofs.BreakLemmas.{OnBroken-map, broken_past, sized}
use Rattle.reply_xml.proofs.parts.read_document.Goals as goal
use Rattle.shared_lemmas.proofs.Clashes.{err_is}

pub returns-in-Err-clause-refused : goal.returns-in-Err-clause-refused
returns-in-Err-clause-refused g c =
    Tells-map c.in-Err.fault (λ h value. no_root (g.P.Parts.left c.args.parts) c.args.root.now c.args.doc.now value h)
    c.in-Err.ensures.refused

pub returns-in_err-whole-clause-refused : goal.returns-in_err-whole-clause-refused
returns-in_err-whole-clause-refused g c =
    refused_past c.from_residual.result c.in_err-whole.field-0.0 c.from_residual.ensures.1
    (no_inside (g.P.Parts.left c.args.parts) c.args.root.now c.args.doc.now _ c.in-Ok.parts.1 c.in-Ok.ensures.begins
    c.in-Ok.ensures.room c.in-Ok.ensures.named) c.in_err-whole.ensures.refused

pub returns-in_err-close-clause-refused : goal.returns-in_err-close-clause-refused
returns-in_err-close-clause-refused g c =
    refused_past c.from_residual-in_err-close.result c.in_err-close.field-0.0 c.from_residual-in_err-close.ensures.1
    (no_whole (g.P.Parts.left c.args.parts) c.args.root.now c.args.doc.now _ _ c.in-Ok.parts.1 _ c.in-Ok.ensures.begins
    c.in-Ok.ensures.room c.in-Ok.ensures.named c.in_ok-whole.ensures.value)
    c.in_err-close.ensures.refused

pub returns-clause-value : goal.returns-clause-value
returns-clause-value g c =
    whole (g.P.Parts.left c.args.parts) c.args.root.now c.args.doc.now _ _ c.in-Ok.parts.1 _ c.in-Ok.ensures.begins
    c.in-Ok.ensures.room c.in-Ok.ensures.named c.in_ok-whole.ensures.value c.in_ok-close.ensures.value

pub returns-in-Err-clause-other_root : goal.returns-in-Err-clause-other_root
returns-in-Err-clause-other_root g c place o = ap Err (err_is _ _ (c.in-Err.ensures.other place o))

pub returns-in_err-whole-clause-other_root : goal.returns-in_err-whole-clause-other_root
returns-in_err-whole-clause-other_root g c place o = absurd (not_err _ _ (c.in-Ok.ensures.other place o))

pub returns-in_err-close-clause-other_root : goal.returns-in_err-close-clause-other_root
returns-in_err-close-clause-other_root g c place o = absurd (not_err _ _ (c.in-Ok.ensures.other place o))

pub returns-clause-other_root : goal.returns-clause-other_root
returns-clause-other_root g c place o = absurd (not_err _ _ (c.in-Ok.ensures.other place o))

pub returns-in-Err-clause-behind : goal.returns-in-Err-clause-behind
returns-in-Err-clause-behind g c place b =
    untold c.in-Err.fault (fault.NotADocument place)
    (Tells-map c.in-Err.fault (λ none. none b.closed b.at_content b.begins) c.in-Err.ensures.refused)

pub returns-in_err-whole-clause-behind : goal.returns-in_err-whole-clause-behind
returns-in_err-whole-clause-behind g c place b =
    fault_past c.from_residual.result c.in_err-whole.field-0.0 (fault.NotADocument place) c.from_residual.ensures.1
    (
    untold c.in_err-whole.field-0.0 (fault.NotADocument place)
    (
    Tells-map c.in_err-whole.field-0.0
    (λ none. none b.at_end b.value
    (behind_root (g.P.Parts.left c.args.parts) c.args.root.now c.args.doc.now _ place c.in-Ok.parts.1
    c.in-Ok.ensures.begins c.in-Ok.ensures.room c.in-Ok.ensures.named b))
    c.in_err-whole.ensures.refused
    )
    )

pub returns-in_err-close-clause-behind : goal.returns-in_err-close-clause-behind
returns-in_err-close-clause-behind g c place b =
    let space = behind_there (g.P.Parts.left c.args.parts) c.args.root.now c.args.doc.now _ _ place c.in-Ok.parts.1 _
    c.in-Ok.ensures.begins c.in-Ok.ensures.room c.in-Ok.ensures.named c.in_ok-whole.ensures.value b in
    fault_past c.from_residual-in_err-close.result c.in_err-close.field-0.0
    (fault.NotADocument place) c.from_residual-in_err-close.ensures.1
    (same_fault c.in_err-close.field-0.0 (fault.NotADocument place)
    (err_is _ _ (c.in_err-close.ensures.behind b.more space b.some) ∙ ap (λ n. fault.NotADocument n) (sym b.at)))

pub returns-clause-behind : goal.returns-clause-behind
returns-clause-behind g c place b =
    let space = behind_there (g.P.Parts.left c.args.parts) c.args.root.now c.args.doc.now _ _ place c.in-Ok.parts.1 _
    c.in-Ok.ensures.begins c.in-Ok.ensures.room c.in-Ok.ensures.named c.in_ok-whole.ensures.value b in
    absurd (not_err _ _ (c.in_ok-close.ensures.behind b.more space b.some))

pub returns-in_err-whole-clause-broken : goal.returns-in_err-whole-clause-broken
returns-in_err-whole-clause-broken g c =
    broken_past c.from_residual.result c.in_err-whole.field-0.0 c.from_residual.ensures.1
    (
    λ reason b. InRoot c.in-Ok.parts.1 _
    (record { begins = c.in-Ok.ensures.begins; room = c.in-Ok.ensures.room; name = c.in-Ok.ensures.named })
    (sized _ _ reason _ _ _ _ c.in-Ok.ensures.size b)
    )
    c.in_err-whole.ensures.broken

pub returns-in_err-close-clause-broken : goal.returns-in_err-close-clause-broken
returns-in_err-close-clause-broken g c =
    broken_past c.from_residual-in_err-close.result c.in_err-close.field-0.0 c.from_residual-in_err-close.ensures.1
    (
    λ reason h. BehindRoot c.in-Ok.parts.1 _ _ h.0
    (record { begins = c.in-Ok.ensures.begins; room = c.in-Ok.ensures.room; name = c.in-Ok.ensures.named })
    c.in_ok-whole.ensures.well h.1 h.2 h.3
    )
    c.in_err-close.ensures.broken

pub returns-in-Err-clause-broken : goal.returns-in-Err-clause-broken
returns-in-Err-clause-broken g c =
    OnBroken-map c.in-Err.fault (λ reason b. b (g.P.Parts.table c.args.parts)) c.in-Err.ensures.broken
