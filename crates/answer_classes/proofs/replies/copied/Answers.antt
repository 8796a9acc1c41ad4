use Rattle.std.proofs.Common.{rules}
use Rattle.answer_classes.proofs.replies.copied.Goals as goal

pub returns-in_err-_etag-clause-refused : goal.returns-in_err-_etag-clause-refused
returns-in_err-_etag-clause-refused c = search rules

pub returns-clause-value : goal.returns-clause-value
returns-clause-value c = (c.in_ok-_etag._etag, c.in_ok-_etag.ensures.value)
