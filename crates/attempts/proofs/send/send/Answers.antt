use Rattle.std.proofs.Common.{rules}
use Rattle.attempts.proofs.ClassLemmas.{failed_call}
use Rattle.attempts.proofs.send.send.Goals as goal

pub returns-clause-failed : goal.returns-clause-failed
returns-clause-failed g c is =
    let (talk, kept, tells, lives, e) = c.exchange-talked.ensures.talk in
    c.exchange-talked.ensures.failed (failed_call _ _ _ talk kept c.args.ask.now c.exchange-talked.result c.judge.result.class e c.judge.ensures.judged is)

pub returns-clause-answered : goal.returns-clause-answered
returns-clause-answered g c = search rules
