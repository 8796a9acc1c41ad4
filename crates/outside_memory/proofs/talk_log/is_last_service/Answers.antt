use Rattle.std.proofs.Common.{◌∙◌, ap, arith}
use Rattle.s3_outside.specs.Wire.{leads_to}
use Rattle.outside_memory.specs.TalkLog.{talk_of}
use Rattle.outside_memory.specs.declared.talk_log.TalkRecord.{TalkRecord}
use Rattle.outside_memory.proofs.LastTalk.{last_leads}
use Rattle.outside_memory.proofs.talk_log.is_last_service.Goals as goal

pub returns-in-len1-up : goal.returns-in-len1-up
returns-in-len1-up c =
    c.leads_to.ensures ∙ ap (λ (talk : TalkRecord). leads_to c.args.host.now c.args.port (talk_of talk)) c.last-item.is
    ∙ last_leads c.args.host.now c.args.port c.args.talks.now _ _ (omega arith)
