use Rattle.reply_xml.proofs.FrontLemmas.{missing_later}
use Rattle.std.proofs.Common.{refl}
use Rattle.reply_xml.specs.declared.elements.Element.TheVariants as element
use Rattle.reply_xml.proofs.FrontLemmas.{missing_here}
use Rattle.reply_values.specs.Numbers.{SpellsTruth}
use Rattle.s3_replies.specs.Listing.{Page, SpellsKey, SpellsPrefix}
use Rattle.s3_replies.proofs.ObjectLemmas.{part_missing}
use Rattle.s3_replies.proofs.PageLemmas.{page_left}
use Rattle.s3_replies.proofs.listing.PageFieldsParts.whole.Goals as goal

pub returns-in-Some-clause-value : goal.returns-in-Some-clause-value
returns-in-Some-clause-value c text =
    let page : Page = record {
      more = c.in-Some.more;
      token = c.args.self.token;
      url = c.args.self.url;
      entries =
          c.args.self.entries.items;
      prefixes = c.args.self.prefixes.items;
    } in
    page_left (SpellsKey c.args.self.keys) (SpellsPrefix c.args.self.keys) page c.args.self.more text c.in-Some.is

pub returns-in-None-clause-refused : goal.returns-in-None-clause-refused
returns-in-None-clause-refused c text page left =
    part_missing SpellsTruth c.args.self.more page.more c.in-None.is left.0.0

pub returns-in-None-clause-missing : goal.returns-in-None-clause-missing
returns-in-None-clause-missing c front found =
    (element.IsTruncated, refl, missing_here element.IsTruncated c.args.self.more front _ c.in-None.is found.0)

pub returns-in-Some-clause-complete : goal.returns-in-Some-clause-complete
returns-in-Some-clause-complete c front found =
    missing_later element.IsTruncated c.args.self.more c.in-Some.more front _ _ c.in-Some.is found.0
    (refl)
