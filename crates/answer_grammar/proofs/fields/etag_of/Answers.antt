use Rattle.std.proofs.Common.{sym, ◌∙◌}
use Rattle.answer_grammar.proofs.TagLemmas.{etag_is_text}
use Rattle.answer_grammar.proofs.fields.etag_of.Goals as goal

pub returns-in-Err : goal.returns-in-Err
returns-in-Err c =
    absurd (c.in-Err.ensures.cases.0 (etag_is_text c.in-Some.text.now (sym c.is_etag.ensures ∙ c.if-not-is_etag.false)))
