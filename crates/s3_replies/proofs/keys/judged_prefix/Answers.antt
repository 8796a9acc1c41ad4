use Rattle.std.proofs.Common.{◌∙◌, ℕ, List, subst}
use Rattle.reply_values.specs.UrlText.{MeansText}
use Rattle.s3_replies.proofs.keys.judged_prefix.Goals as goal

pub returns-clause-value : goal.returns-clause-value
returns-clause-value c = (
  c.in_ok-written.ensures.value,
  (
    c.in_ok-meaning.field-0,
    subst (λ (t : List ℕ). MeansText c.args.url t c.in_ok-meaning.field-0)
        (c.as_str.ensures ∙ c.in_ok-written.ensures.value) c.in_ok-meaning.ensures.value,
  ),
)
