use Rattle.reply_xml.proofs.FrontLemmas.{missing_later}
use Rattle.std.proofs.Common.{refl}
use Rattle.reply_xml.specs.declared.elements.Element.TheVariants as element
use Rattle.reply_xml.proofs.FrontLemmas.{missing_here}
use Rattle.s3_replies.proofs.BucketLemmas.{list_left, no_list}
use Rattle.s3_replies.proofs.buckets.BucketListParts.whole.Goals as goal

pub returns-in-Some-clause-value : goal.returns-in-Some-clause-value
returns-in-Some-clause-value c text = list_left c.args.self.found c.in-Some.rows text c.in-Some.is

pub returns-in-None-clause-refused : goal.returns-in-None-clause-refused
returns-in-None-clause-refused c text rows left = no_list c.args.self.found text rows.items c.in-None.is left

pub returns-in-None-clause-missing : goal.returns-in-None-clause-missing
returns-in-None-clause-missing c front found =
    (element.Buckets, refl, missing_here element.Buckets c.args.self.found front _ c.in-None.is found)

pub returns-in-Some-clause-complete : goal.returns-in-Some-clause-complete
returns-in-Some-clause-complete c front found =
    missing_later element.Buckets c.args.self.found c.in-Some.rows front _ _ c.in-Some.is found
    (refl)
