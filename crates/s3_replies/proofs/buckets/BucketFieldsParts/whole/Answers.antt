use Rattle.std.proofs.Common.{refl}
use Rattle.reply_xml.specs.declared.elements.Element.TheVariants as element
use Rattle.reply_xml.proofs.FrontLemmas.{missing_here, missing_later}
use Rattle.s3_replies.proofs.BucketLemmas.{bucket_left, no_bucket_name, no_bucket_date}
use Rattle.s3_replies.proofs.buckets.BucketFieldsParts.whole.Goals as goal

pub returns-in_default-clause-refused : goal.returns-in_default-clause-refused
returns-in_default-clause-refused c text value left =
    no_bucket_name c.args.self.name c.args.self.created text value c.in_default.is left

pub returns-in_default-created-clause-refused : goal.returns-in_default-created-clause-refused
returns-in_default-created-clause-refused c text value left =
    no_bucket_date c.args.self.name c.args.self.created text value c.in_default-created.is left

pub returns-clause-value : goal.returns-clause-value
returns-clause-value c text = bucket_left c.in-Some.name c.in-Some-created.created c.args.self.name c.args.self.created
    text c.in-Some.is c.in-Some-created.is

pub returns-in_default-clause-missing : goal.returns-in_default-clause-missing
returns-in_default-clause-missing c front found =
    (element.Name, refl, missing_here element.Name c.args.self.name front _ c.in_default.is found.0)

pub returns-in_default-created-clause-missing : goal.returns-in_default-created-clause-missing
returns-in_default-created-clause-missing c front found = (
  element.CreationDate,
  refl,
  missing_later element.Name c.args.self.name c.in-Some.name front _ _ c.in-Some.is found.0
      (missing_here element.CreationDate c.args.self.created front _ c.in_default-created.is found.1),
)

pub returns-clause-complete : goal.returns-clause-complete
returns-clause-complete c front found =
    missing_later element.Name c.args.self.name c.in-Some.name front _ _ c.in-Some.is found.0
    (missing_later element.CreationDate c.args.self.created c.in-Some-created.created front _ _ c.in-Some-created.is
    found.1
    (refl))
