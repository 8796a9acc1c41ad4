use Rattle.std.proofs.Common.{rules}
use Rattle.outside_memory.proofs.talk_log.TalkLog.begin.Goals as goal

pub returns-clause-added : goal.returns-clause-added
returns-clause-added c = search rules
