use Rattle.reply_xml.specs.Meaning.{meaning_of}
use Rattle.reply_xml.proofs.BreakLemmas.{text_closed, text_goes_on, text_open}
use Rattle.reply_xml.proofs.FaultLemmas.{IfOk-map, OnOk-map, refused_so}
use Rattle.reply_xml.proofs.reader.Reader.leaf_text.Goals as goal

pub returns-then-tag-clause-value : goal.returns-then-tag-clause-value
returns-then-tag-clause-value c = text_closed c.args.tag.now _ c.if-tag.true

pub returns-clause-value : goal.returns-clause-value
returns-clause-value c =
    IfOk-map c.text.result (λ found v. text_open c.args.tag.now _ _ v.0 (meaning_of found) c.if-tag.false v.1 v.2)
    c.text.ensures.value

pub returns-clause-followed : goal.returns-clause-followed
returns-clause-followed c = OnOk-map c.text.result (λ some plain. some) c.text.ensures.followed

pub returns-clause-refused : goal.returns-clause-refused
returns-clause-refused c =
    refused_so c.text.result
    (
    λ none text rest has followed.
    let on = text_goes_on c.args.tag.now _ rest text c.if-tag.false has (followed c.if-tag.false) in
    none on.0 on.1 on.2
    )
    c.text.ensures.refused
