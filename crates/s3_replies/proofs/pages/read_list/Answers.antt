use Rattle.std.proofs.Common.{◌∙◌, Err, ap, sym}
use Rattle.reply_xml.proofs.FaultLemmas.{not_err}
use Rattle.s3_replies.proofs.pages.read_list.Goals as goal
use Rattle.shared_lemmas.proofs.Clashes.{err_is}

pub returns-in-Ok-clause-other_root : goal.returns-in-Ok-clause-other_root
returns-in-Ok-clause-other_root c place o = absurd (not_err _ _ (c.in-Ok.ensures.other_root place o))

pub returns-in-Ok-clause-behind : goal.returns-in-Ok-clause-behind
returns-in-Ok-clause-behind c place b = absurd (c.in-Ok.ensures.whole place b)

-- memory ran out
pub returns-in-Err-Memory-clause-other_root : goal.returns-in-Err-Memory-clause-other_root
returns-in-Err-Memory-clause-other_root c place o =
    ap Err (sym c.in-Err-Memory.field-0-is ∙ err_is _ _ (c.in-Err-Memory.ensures.other_root place o))
