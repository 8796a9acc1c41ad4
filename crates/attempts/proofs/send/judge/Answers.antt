use Rattle.std.proofs.Common.{ℕ, Option, rules, subst, sym}
use Rattle.answer_dates.proofs.ListedLemmas.{answers_are_dated}
use Rattle.attempts.specs.Attempts.{IsToldOf}
use Rattle.attempts.specs.Steps.{IsJudged}
use Rattle.attempts.proofs.AttemptLemmas.{told_of}
use Rattle.attempts.proofs.send.judge.Goals as goal

pub returns-clause-dated : goal.returns-clause-dated
returns-clause-dated c =
    answers_are_dated c.args.ask.now c.args.talked c.classify-class.result
    (record { broken = c.classify-class.ensures.broken; answered = c.classify-class.ensures.answered; interim = c.classify-class.ensures.interim })

pub returns-clause-refused : goal.returns-clause-refused
returns-clause-refused c =
    let judged : IsJudged c.args.ask.now c.args.talked c.classify-class.result = record { broken = c.classify-class.ensures.broken; classed = c.classify-class.ensures.answered } in
    subst (λ (s : Option ℕ). IsToldOf c.classify-class.result s) (sym c.status_of-status.ensures) (told_of c.args.ask.now c.args.talked c.classify-class.result judged)

pub returns-clause-judged : goal.returns-clause-judged
returns-clause-judged c = search rules
