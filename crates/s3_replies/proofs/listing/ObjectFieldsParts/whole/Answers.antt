use Rattle.std.proofs.Common.{refl}
use Rattle.reply_xml.proofs.FrontLemmas.{missing_here, missing_later}
use Rattle.reply_xml.specs.declared.elements.Element.TheVariants as element
use Rattle.reply_xml.specs.Children.{IsFormed}
use Rattle.reply_values.specs.Numbers.{SpellsNumber}
use Rattle.reply_values.specs.Times.{SpellsTime}
use Rattle.s3_replies.specs.Listing.{SpellsKey}
use Rattle.s3_replies.proofs.ObjectLemmas.{object_left, part_missing}
use Rattle.s3_replies.proofs.listing.ObjectFieldsParts.whole.Goals as goal

pub returns-in_default-clause-refused : goal.returns-in_default-clause-refused
returns-in_default-clause-refused c text entry left = part_missing
    (SpellsKey c.args.self.keys) c.args.self.key entry.key c.in_default.is left.0.0

pub returns-in_default-modified-clause-refused : goal.returns-in_default-modified-clause-refused
returns-in_default-modified-clause-refused c text entry left =
    part_missing SpellsTime c.args.self.modified entry.micros c.in_default-modified.is left.0.1

pub returns-in_default-etag-clause-refused : goal.returns-in_default-etag-clause-refused
returns-in_default-etag-clause-refused c text entry left =
    part_missing (IsFormed element.ETag) c.args.self.etag entry.etag c.in_default-etag.is left.1.0

pub returns-in_default-size-clause-refused : goal.returns-in_default-size-clause-refused
returns-in_default-size-clause-refused c text entry left =
    part_missing SpellsNumber c.args.self.size entry.size c.in_default-size.is left.1.1

pub returns-clause-value : goal.returns-clause-value
returns-clause-value c text = object_left (SpellsKey c.args.self.keys) _ text c.args.self.key c.args.self.modified
    c.args.self.etag c.args.self.size c.in-Some.is c.in-Some-modified.is c.in-Some-etag.is c.in-Some-size.is

pub returns-in_default-clause-missing : goal.returns-in_default-clause-missing
returns-in_default-clause-missing c front found =
    (element.Key, refl, missing_here element.Key c.args.self.key front _ c.in_default.is found.0)

pub returns-in_default-modified-clause-missing : goal.returns-in_default-modified-clause-missing
returns-in_default-modified-clause-missing c front found = (
  element.LastModified,
  refl,
  missing_later element.Key c.args.self.key c.in-Some.key front _ _ c.in-Some.is found.0
      (missing_here element.LastModified c.args.self.modified front _ c.in_default-modified.is found.1),
)

pub returns-in_default-etag-clause-missing : goal.returns-in_default-etag-clause-missing
returns-in_default-etag-clause-missing c front found = (
  element.ETag,
  refl,
  missing_later element.Key c.args.self.key c.in-Some.key front _ _ c.in-Some.is found.0
      (
      missing_later element.LastModified c.args.self.modified c.in-Some-modified.micros front _ _ c.in-Some-modified.is
      found.1
      (missing_here element.ETag c.args.self.etag front _ c.in_default-etag.is found.2)
      ),
)

pub returns-in_default-size-clause-missing : goal.returns-in_default-size-clause-missing
returns-in_default-size-clause-missing c front found = (
  element.Size,
  refl,
  missing_later element.Key c.args.self.key c.in-Some.key front _ _ c.in-Some.is found.0
      (
      missing_later element.LastModified c.args.self.modified c.in-Some-modified.micros front _ _ c.in-Some-modified.is
      found.1
      (
      missing_later element.ETag c.args.self.etag c.in-Some-etag.etag front _ _ c.in-Some-etag.is found.2
      (missing_here element.Size c.args.self.size front _ c.in_default-size.is found.3)
      )
      ),
)

pub returns-clause-complete : goal.returns-clause-complete
returns-clause-complete c front found =
    missing_later element.Key c.args.self.key c.in-Some.key front _ _ c.in-Some.is found.0
    (missing_later element.LastModified c.args.self.modified c.in-Some-modified.micros front _ _ c.in-Some-modified.is
    found.1
    (missing_later element.ETag c.args.self.etag c.in-Some-etag.etag front _ _ c.in-Some-etag.is found.2
    (missing_later element.Size c.args.self.size c.in-Some-size.size front _ _ c.in-Some-size.is found.3
    (refl))))

pub returns-in_default-size-clause-value : goal.returns-in_default-size-clause-value
returns-in_default-size-clause-value c = tt

pub returns-in_default-size-clause-complete : goal.returns-in_default-size-clause-complete
returns-in_default-size-clause-complete c = tt
