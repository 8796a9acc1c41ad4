use Rattle.reply_xml.proofs.FrontLemmas.{missing_later}
use Rattle.reply_xml.specs.declared.elements.Element.TheVariants as element
use Rattle.reply_xml.proofs.FrontLemmas.{missing_here}
use Rattle.s3_replies.proofs.ErrorLemmas.{error_left, no_code}
use Rattle.std.proofs.Common.{refl}
use Rattle.s3_replies.proofs.errors.ErrorFieldsParts.whole.Goals as goal

pub returns-in-Some-clause-value : goal.returns-in-Some-clause-value
returns-in-Some-clause-value c text =
    error_left c.in-Some.code c.args.self.message c.args.self.code c.args.self.message text c.in-Some.is refl

pub returns-in-None-clause-refused : goal.returns-in-None-clause-refused
returns-in-None-clause-refused c text value left =
    no_code c.args.self.code c.args.self.message text value c.in-None.is left

pub returns-in-None-clause-missing : goal.returns-in-None-clause-missing
returns-in-None-clause-missing c front found =
    (element.Code, refl, missing_here element.Code c.args.self.code front _ c.in-None.is found.0)

pub returns-in-Some-clause-complete : goal.returns-in-Some-clause-complete
returns-in-Some-clause-complete c front found =
    missing_later element.Code c.args.self.code c.in-Some.code front _ _ c.in-Some.is found.0
    (refl)
