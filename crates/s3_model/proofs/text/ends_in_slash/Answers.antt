use Rattle.std.proofs.Common.{◌∙◌, codes}
use Rattle.std.proofs.lemmas.Str.Pattern.{ends_text}
use Rattle.s3_model.proofs.SlashLemmas.{last_slash}
use Rattle.s3_model.proofs.text.ends_in_slash.Goals as goal

pub returns-clause-value : goal.returns-clause-value
returns-clause-value c = ends_text _ (codes "/") c.args.text.now c.ends_with.ensures.cases

pub returns-clause-last : goal.returns-clause-last
returns-clause-last c = ends_text _ (codes "/") c.args.text.now c.ends_with.ensures.cases ∙ last_slash c.args.text.now
