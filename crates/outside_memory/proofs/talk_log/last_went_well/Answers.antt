use Rattle.std.proofs.Common.{◌∙◌, ap, arith}
use Rattle.s3_outside.specs.Wire.{went_well}
use Rattle.outside_memory.specs.TalkLog.{ending_of}
use Rattle.outside_memory.specs.declared.talk_log.TalkRecord.{TalkRecord}
use Rattle.outside_memory.proofs.LastTalk.{last_goes_well}
use Rattle.outside_memory.proofs.talk_log.last_went_well.Goals as goal

pub returns-in-len1-up : goal.returns-in-len1-up
returns-in-len1-up c =
    c.went_well.ensures ∙ ap (λ (talk : TalkRecord). went_well (ending_of talk.ending)) c.last-item.is ∙ last_goes_well c.args.talks.now _ _ (omega arith)
