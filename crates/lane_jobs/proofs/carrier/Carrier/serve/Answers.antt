use Rattle.std.proofs.Common.{Some, refl, subst, sym}
use Rattle.s3_model.specs.declared.requests.Ask.{Ask}
use Rattle.attempts.specs.Attempts.{IsGet, SignedRequest}
use Rattle.lane_jobs.specs.Lanes.{Carries, IsPlace, most_attempts, reason_of}
use Rattle.lane_jobs.proofs.EndingLemmas.{get_request, no_get, other_part, other_place, other_request}
use Rattle.lane_jobs.proofs.carrier.Carrier.serve.Goals as goal

pub returns-in-Some-clause-carried : goal.returns-in-Some-clause-carried
returns-in-Some-clause-carried g c =
    let place = c.fetch.new.part.bytes.bytes in
    let get = subst (λ (a : Ask). IsGet a) (sym c.in-Get.is) tt in (
      place,
      subst (λ (a : Ask). IsPlace a (Some c.fetch.new.part) c.fetch.new.part.bytes.bytes) (sym c.in-Get.is) refl,
      subst (λ (r : SignedRequest). Carries r c.args.had (most_attempts c.args.self.now.attempts c.args.had) (reason_of c.fetch.new.cell) c.fetch.new.part.bytes.bytes (g.W.Wire.seen c.args.wire.now)
          (g.W.Wire.seen c.fetch.new.wire) c.fetch.result.tries c.fetch.result.ending)
          (get_request c.args.self.now c.args.ask.now c.args.part.now c.args.length get) c.fetch.ensures.carried,
    )

pub returns-in_default-clause-carried : goal.returns-in_default-clause-carried
returns-in_default-clause-carried g c =
    let other : IsGet c.args.ask.now → ⊥ = no_get c.args.ask.now c.in_default.not-Get in (
      c.send.ensures.carried.0,
      other_place c.args.ask.now c.args.part.now c.send.ensures.carried.0 other,
      subst (λ (r : SignedRequest). Carries r c.args.had (most_attempts c.args.self.now.attempts c.args.had) (reason_of c.send.new.cell) c.send.ensures.carried.0 (g.W.Wire.seen c.args.wire.now)
          (g.W.Wire.seen c.send.new.wire) c.send.result.tries c.send.result.ending)
          (other_request c.args.self.now c.args.ask.now c.args.part.now c.args.length other) c.send.ensures.carried.1,
    )

pub returns-in_default-clause-part : goal.returns-in_default-clause-part
returns-in_default-clause-part g c = other_part c.args.ask.now c.args.part.now (no_get c.args.ask.now c.in_default.not-Get)
