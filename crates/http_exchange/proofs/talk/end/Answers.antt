use Rattle.std.proofs.Common.{◌∙◌, Bool, Result, ap, rules, sym}
use Rattle.std.specs.Option.{option_map}
use Rattle.s3_model.specs.declared.answers.Answered.{Answered}
use Rattle.s3_model.specs.declared.answers.Why.{Why}
use Rattle.s3_outside.specs.Wire.{is_kept}
use Rattle.http_exchange.specs.Steps.{ends_kept, talked_of}
use Rattle.http_exchange.proofs.talk.end.Goals as goal

pub returns-in-Ok-clause-talked : goal.returns-in-Ok-clause-talked
returns-in-Ok-clause-talked g c = sym (ap (λ (answer : Result Answered Why). talked_of answer) c.in-Ok.is)

pub returns-in-Ok-clause-alive : goal.returns-in-Ok-clause-alive
returns-in-Ok-clause-alive g c =
    c.finish.ensures.alive
    ∙ ap (λ (kept : Bool). option_map (is_kept kept) (g.W.Wire.seen c.args.wire.now))
    (c.stays_open.ensures ∙ sym (ap (λ (answer : Result Answered Why). ends_kept c.args.keep c.args.is_entire answer) c.in-Ok.is))

pub returns-in-Err-clause-alive : goal.returns-in-Err-clause-alive
returns-in-Err-clause-alive g c = search rules
