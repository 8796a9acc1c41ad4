use Rattle.std.proofs.Common.{◌≡◌, ◌≤◌, ◌+◌, ◌-◌, ◌∙◌, ap, length, sym, arith}
use Rattle.std.proofs.lemmas.List.{with_items_is}
use Rattle.std.specs.Vec.{with_items}
use Rattle.http_exchange.proofs.IncomingLemmas.{between, held}
use Rattle.http_exchange.proofs.incoming.Incoming.refill.Goals as goal

pub returns-in-Ok-clause-heard : goal.returns-in-Ok-clause-heard
returns-in-Ok-clause-heard g c =
    let h = c.in-Ok.ensures.heard in
    let start = c.self.inside.start in
    let end = c.self.inside.end in
    let now = with_items_is c.self.inside.buffer c.take_behind.new.buffer (c.take_behind.ensures.len ∙ c.deref_mut.ensures.len) in (
      h.0,
      h.1,
      h.2,
      (
        held start end (end - start + c.in-Ok.count) c.deref_mut.result.now c.take_behind.new.buffer c.self.inside.buffer.items
            (with_items c.self.inside.buffer c.take_behind.new.buffer).items c.args.self.now h.0 now h.3.0 c.deref_mut.ensures.value c.self.view_is,
        h.3.1,
        h.3.2,
        h.3.3,
        h.3.4,
      ),
    )

pub returns-in-Err-clause-heard : goal.returns-in-Err-clause-heard
returns-in-Err-clause-heard g c = c.in-Err.ensures.heard

pub invariant_of-self : goal.invariant_of-self
invariant_of-self g c =
    let start = c.self.inside.start in
    let end = c.self.inside.end in
    let len : length c.self.inside.buffer.items ≡ c.self.inside.buffer.len = sym (ap length c.deref_mut.ensures.value) ∙ c.deref_mut.ensures.len in
    let few : end - start ≤ length c.args.self.now = between start end c.self.inside.buffer.items c.args.self.now c.self.view_is (omega (arith, len, c.self.invariant)) in
    (omega arith, omega (arith, few, c.in-Ok.ensures.heard.3.2, c.self.invariant.2, c.requires), c.self.invariant.2)

pub invariant_of-self-in-Err : goal.invariant_of-self-in-Err
invariant_of-self-in-Err g c = c.self.invariant
