use Rattle.std.proofs.Common.{Bool, List, ℕ, IfOk, sym, subst}
use Rattle.reply_xml.specs.Faults.{IfRefused}
use Rattle.reply_xml.specs.Places.{BeginsOtherwise, HasBytesBehind}
use Rattle.reply_xml.specs.Children.{HasLeaf}
use Rattle.reply_xml.specs.declared.elements.Element.TheVariants as element
use Rattle.s3_replies.specs.Results.{IsCopied, copied_table, copy_root}
use Rattle.reply_xml.specs.Breaks.{Breaks, IfBroken}
use Rattle.s3_replies.proofs.results.read_copied.Goals as goal

pub returns-then-part-clause-value : goal.returns-then-part-clause-value
returns-then-part-clause-value c = subst (λ (part : Bool). IfOk c.only_leaf.result (IsCopied part c.args.doc.now))
    (sym c.if-part.true) c.only_leaf.ensures.value

pub returns-then-part-clause-refused : goal.returns-then-part-clause-refused
returns-then-part-clause-refused c =
    subst (λ (part : Bool). IfRefused c.only_leaf.result ((etag : List ℕ) → ¬ (IsCopied part c.args.doc.now etag)))
    (sym c.if-part.true) c.only_leaf.ensures.refused

pub returns-clause-value : goal.returns-clause-value
returns-clause-value c = subst (λ (part : Bool). IfOk c.only_leaf-2.result (IsCopied part c.args.doc.now))
    (sym c.if-part.false) c.only_leaf-2.ensures.value

pub returns-clause-refused : goal.returns-clause-refused
returns-clause-refused c =
    subst (λ (part : Bool). IfRefused c.only_leaf-2.result ((etag : List ℕ) → ¬ (IsCopied part c.args.doc.now etag)))
    (sym c.if-part.false) c.only_leaf-2.ensures.refused

pub returns-then-part-clause-other_root : goal.returns-then-part-clause-other_root
returns-then-part-clause-other_root c place o =
    c.only_leaf.ensures.other_root place
    (subst (λ (part : Bool). BeginsOtherwise (copy_root part) c.args.doc.now place) c.if-part.true o)

pub returns-clause-other_root : goal.returns-clause-other_root
returns-clause-other_root c place o =
    c.only_leaf-2.ensures.other_root place
    (subst (λ (part : Bool). BeginsOtherwise (copy_root part) c.args.doc.now place) c.if-part.false o)

pub returns-then-part-clause-behind : goal.returns-then-part-clause-behind
returns-then-part-clause-behind c place b =
    c.only_leaf.ensures.behind place (subst
    (λ (part : Bool). HasBytesBehind (copy_root part) (HasLeaf element.ETag) c.args.doc.now place) c.if-part.true b)

pub returns-clause-behind : goal.returns-clause-behind
returns-clause-behind c place b =
    c.only_leaf-2.ensures.behind place (subst
    (λ (part : Bool). HasBytesBehind (copy_root part) (HasLeaf element.ETag) c.args.doc.now place) c.if-part.false
    b)

pub returns-then-part-clause-broken : goal.returns-then-part-clause-broken
returns-then-part-clause-broken c =
    subst (λ (part : Bool). IfBroken c.only_leaf.result (Breaks (copy_root part) copied_table c.args.doc.now))
    (sym c.if-part.true) c.only_leaf.ensures.broken

pub returns-clause-broken : goal.returns-clause-broken
returns-clause-broken c =
    subst (λ (part : Bool). IfBroken c.only_leaf-2.result (Breaks (copy_root part) copied_table c.args.doc.now))
    (sym c.if-part.false) c.only_leaf-2.ensures.broken
