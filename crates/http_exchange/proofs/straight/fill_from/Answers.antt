use Rattle.std.proofs.Common.{◌≡◌, ◌+◌, ◌-◌, length, take, drop, ap, ◌∙◌, arith}
use Rattle.std.proofs.lemmas.List.{length-take, length-take-le, length-drop}
use Rattle.http_exchange.proofs.StraightLemmas.{filled_to}
use Rattle.http_exchange.proofs.TalkLemmas.{taken_ending, taken_none, taken_some, take_heard}
use Rattle.http_exchange.proofs.straight.fill_from.Goals as goal

pub returns-in-Ok-clause-heard : goal.returns-in-Ok-clause-heard
returns-in-Ok-clause-heard g c =
    let into = c.take.new.into in
    let count = c.in-Ok.count in
    let old = c.args.body.now.bytes in
    let place = c.as_mut_slice.result.now in
    let have = length c.as_slice-have.result.now in
    let same : have ≡ length old = ap length c.as_slice-have.ensures in
    let front : take have place ≡ old = (λ i. take (same i) (c.as_mut_slice.ensures.value i)) ∙ c.grow.ensures.kept in
    let long : length into ≡ c.args.most = omega (arith, c.take.ensures.length, length-take (length place - have) (drop have place), length-drop have place, same, ap length c.as_mut_slice.ensures.value, c.grow.ensures.count) in
    let bound = c.in-Ok.ensures.bound in (
      take count into,
      taken_ending count,
      take_heard into count _ _ (omega (arith, long, c.requires.some)) c.in-Ok.ensures.log,
      (
        c.truncate.ensures.bytes ∙ filled_to (have + count) (length c.grow.new.self.bytes) count old (take have place) into _ _ front (omega (arith, same)) (omega (arith, same, long, bound, c.grow.ensures.count)) bound,
        length-take-le count into bound,
        omega (arith, bound, long),
        taken_none count,
        taken_some count,
      ),
    )
