use Rattle.std.proofs.Common.{◌∙◌, ap, refl, sym}
use Rattle.std.specs.Option.{is_some}
use Rattle.reply_xml.proofs.FrontLemmas.{missing_later, only_missing}
use Rattle.reply_xml.proofs.only.OnlyParts.whole.Goals as goal

pub returns-in-None-clause-missing : goal.returns-in-None-clause-missing
returns-in-None-clause-missing g c front found = (
  c.args.self.element,
  refl,
  only_missing c.args.self.element g.L.Leaf.form front
      (sym (ap (λ o. is_some o) c.in-None.is) ∙ found),
)

pub returns-in-Some-clause-complete : goal.returns-in-Some-clause-complete
returns-in-Some-clause-complete g c front found =
    missing_later c.args.self.element c.args.self.found c.in-Some.value front _ _ c.in-Some.is found refl
