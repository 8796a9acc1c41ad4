use Rattle.std.proofs.Common.{◌≡◌, ◌+◌, ◌-◌, ◌≤◌, ℕ, List, ◌++◌, length, take, drop, ap, ◌∙◌, arith}
use Rattle.std.proofs.lemmas.List.{length-take, length-take-le, length-drop}
use Rattle.http_exchange.proofs.IncomingLemmas.{refilled}
use Rattle.http_exchange.proofs.TalkLemmas.{taken_ending, taken_none, taken_some, take_heard}
use Rattle.http_exchange.proofs.incoming.take_behind.Goals as goal

pub returns-in-Ok-clause-heard : goal.returns-in-Ok-clause-heard
returns-in-Ok-clause-heard g c =
    let n = c.args.end - c.args.start in
    let into = c.take.new.into in
    let count = c.in-Ok.count in
    let bytes = c.move_to_front.new.buffer in
    let room : n + 16384 ≤ length bytes = omega (arith, c.requires.room, c.move_to_front.ensures.len) in
    let long : length into ≡ 16384 = omega (arith, c.take.ensures.length, length-take ((n + 16384) - n) (drop n bytes), length-drop n bytes, room) in
    let grown = refilled n count bytes into _ (omega (arith, room)) c.in-Ok.ensures.bound ∙ ap (λ (b : List ℕ). b ++ take count into) c.move_to_front.ensures.front in (
      take count into,
      taken_ending count,
      take_heard into count _ _ (omega (arith, long)) c.in-Ok.ensures.log,
      (grown, length-take-le count into c.in-Ok.ensures.bound, omega (arith, c.in-Ok.ensures.bound, long), taken_none count, taken_some count),
    )
