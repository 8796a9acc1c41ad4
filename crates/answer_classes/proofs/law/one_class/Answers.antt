use Rattle.answer_classes.specs.Documents.{ReadsError, ReadsReply}
use Rattle.answer_classes.proofs.OneClass.{has_one_class}
use Rattle.answer_classes.proofs.law.one_class.Goals as goal

pub returns : goal.returns
returns c = has_one_class ReadsError ReadsReply
