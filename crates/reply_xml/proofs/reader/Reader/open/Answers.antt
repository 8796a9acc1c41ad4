use Rattle.std.proofs.Common.{Err, ap, ⊎_elim, refl, rules}
use Rattle.reply_xml.specs.declared.faults.DocFault.TheVariants as fault
use Rattle.reply_xml.proofs.FaultLemmas.{not_err}
use Rattle.reply_xml.proofs.DocumentLemmas.{otherwise_at, root_begins, root_end}
use Rattle.reply_xml.specs.Breaks.{InRootTag, NoRoot}
use Rattle.std.proofs.lemmas.Str.{is_utf8-from_IsUtf8}
use Rattle.reply_xml.proofs.Utf8Lemmas.{behind_begin}
use Rattle.reply_xml.proofs.reader.Reader.open.Goals as goal
use Rattle.shared_lemmas.proofs.Clashes.{err_is}

pub returns-in-Err-after_tag_end-clause-refused : goal.returns-in-Err-after_tag_end-clause-refused
returns-in-Err-after_tag_end-clause-refused c closed rest b =
    c.in-Err-after_tag_end.ensures.refused closed rest
    (root_end c.args.root.now _ _ rest closed c.in-Ok.ensures.value b)

pub returns-clause-begins : goal.returns-clause-begins
returns-clause-begins c = root_begins c.args.root.now _ _ _ _ c.in-Ok.ensures.value c.in-Ok-after_tag_end.ensures.value

pub returns-in-Err-clause-other : goal.returns-in-Err-clause-other
returns-in-Err-clause-other c place o =
    ap (λ n. Err (fault.NotADocument n))
    (
    otherwise_at c.args.root.now c.args.doc.now place c.in-Err.left o
    (λ x. err_is _ _ (c.in-Err.ensures.other place x)) (λ x. err_is _ _ (c.in-Err.ensures.bare place x))
    (λ x. err_is _ _ (c.in-Err.ensures.nameless place x))
    )

pub returns-in-Err-after_tag_end-clause-other : goal.returns-in-Err-after_tag_end-clause-other
returns-in-Err-after_tag_end-clause-other c place o =
    absurd
    (
    ⊎_elim (λ other. not_err _ _ (c.in-Ok.ensures.other place other))
    (⊎_elim (λ lacks. not_err _ _ (c.in-Ok.ensures.bare place lacks))
    (λ lacks. not_err _ _ (c.in-Ok.ensures.nameless place lacks))) o
    )

pub returns-clause-other : goal.returns-clause-other
returns-clause-other c place o =
    absurd
    (
    ⊎_elim (λ other. not_err _ _ (c.in-Ok.ensures.other place other))
    (⊎_elim (λ lacks. not_err _ _ (c.in-Ok.ensures.bare place lacks))
    (λ lacks. not_err _ _ (c.in-Ok.ensures.nameless place lacks))) o
    )

pub returns-in-Err-clause-broken : goal.returns-in-Err-clause-broken
returns-in-Err-clause-broken c table = NoRoot _ c.in-Err.ensures.fails refl

pub returns-in-Err-after_tag_end-clause-broken : goal.returns-in-Err-after_tag_end-clause-broken
returns-in-Err-after_tag_end-clause-broken c table =
    InRootTag _ c.in-Err-after_tag_end.left c.in-Ok.ensures.value
    c.in-Err-after_tag_end.ensures.leaves refl

pub invariant_of-reader-clause-judged : goal.invariant_of-reader-clause-judged
invariant_of-reader-clause-judged c sound =
    is_utf8-from_IsUtf8 _
    (
    behind_begin c.args.root.now c.args.doc.now _ _
    (root_begins c.args.root.now _ _ _ _ c.in-Ok.ensures.value c.in-Ok-after_tag_end.ensures.value)
    (c.is_utf8.ensures sound)
    )

pub returns-clause-room : goal.returns-clause-room
returns-clause-room c = search rules
