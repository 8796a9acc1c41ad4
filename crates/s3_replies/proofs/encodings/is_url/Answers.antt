use Rattle.std.proofs.Common.{◌∙◌, ℕ, List, codes, subst, sym}
use Rattle.std.proofs.lemmas.Bool.{false≢true}
use Rattle.std.proofs.lemmas.Slice.Eq.{bytes_eq-Decides}
use Rattle.reply_xml.specs.Meaning.{meaning_of}
use Rattle.reply_xml.specs.Reading.{IsTagOf}
use Rattle.reply_xml.specs.Tags.{ReadsTagEnd}
use Rattle.reply_xml.proofs.FaultLemmas.{IfOk-map, told}
use Rattle.s3_replies.specs.Encodings.{HasElementText}
use Rattle.s3_replies.proofs.EncodingLemmas.{element_text_at, element_text_same}
use Rattle.s3_replies.proofs.encodings.is_url.Goals as goal

pub returns-in-Err-clause-text : goal.returns-in-Err-clause-text
returns-in-Err-clause-text c =
    IfOk-map c.unnamed.result
    (
    λ named n. (
      λ h. absurd (false≢true (sym n.0 ∙ h)),
      λ has. absurd
          (
          told c.in-Err.fault n.1 c.in-Err.ensures.refused has.tag.closed has.at
          (subst (λ (b : List ℕ). ReadsTagEnd has.tag.closed b has.at) (sym c.fork-ahead.ensures.rest) has.ends.ends)
          ),
    )
    )
    c.unnamed.ensures.none

pub returns-in-Err-leaf_text-clause-text : goal.returns-in-Err-leaf_text-clause-text
returns-in-Err-leaf_text-clause-text c =
    IfOk-map c.unnamed-in-Err-leaf_text.result
    (
    λ named n. (
      λ h. absurd (false≢true (sym n.0 ∙ h)),
      λ has. let tagged = subst (λ (b : List ℕ). IsTagOf c.args.child.now c.in-Ok.tag b c.tag.new.self.rest.now)
          c.fork-ahead.ensures.rest c.in-Ok.ensures.value in
          let there = element_text_at c.args.child.now c.in-Ok.tag _ _ (codes "url") tagged has in
          absurd (told c.in-Err-leaf_text.fault n.1 c.in-Err-leaf_text.ensures.refused
          (codes "url") there.0 there.1 there.2),
    )
    )
    c.unnamed-in-Err-leaf_text.ensures.none

pub returns-in-Ok-leaf_text-clause-text : goal.returns-in-Ok-leaf_text-clause-text
returns-in-Ok-leaf_text-clause-text c =
    let tagged = subst (λ (b : List ℕ). IsTagOf c.args.child.now c.in-Ok.tag b c.tag.new.self.rest.now)
    c.fork-ahead.ensures.rest c.in-Ok.ensures.value in
    let found : HasElementText c.args.child.now c.args.reader.now.rest.now (meaning_of c.in-Ok-leaf_text.text) =
    record {
      tag = c.in-Ok.tag;
      at = c.tag.new.self.rest.now;
      ends = tagged;
      rest = c.leaf_text.new.self.rest.now;
      has = c.in-Ok-leaf_text.ensures.value;
      followed = c.in-Ok-leaf_text.ensures.followed;
    } in
    let same = bytes_eq-Decides c.as_str.result.now (codes "url") in (
      λ h. subst (λ (t : List ℕ). HasElementText c.args.child.now c.args.reader.now.rest.now t)
          (sym c.as_str.ensures ∙ same.0 (sym c.eq.ensures ∙ h)) found,
      λ has. c.eq.ensures ∙ same.1 (c.as_str.ensures
          ∙ sym (element_text_same c.args.child.now c.args.child.now c.args.reader.now.rest.now
          (meaning_of c.in-Ok-leaf_text.text) (codes "url") found has)),
    )
