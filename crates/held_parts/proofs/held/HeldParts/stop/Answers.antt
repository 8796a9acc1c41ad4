use Rattle.std.proofs.Common.{◌≡◌, ◌∙◌, ◌+◌, ℕ, None, List, Option, sym, ap, arith, set, get_or, map, take, drop, ◌++◌, suc}
use Rattle.chunk_plan.specs.Pool.{Pool}
use Rattle.held_parts.specs.Held.{held_at, lent_in, stopped, IsSamePool}
use Rattle.held_parts.specs.declared.held.Held.{Held}
use Rattle.held_parts.proofs.SlotLemmas as lemmas
use Rattle.held_parts.proofs.held.HeldParts.stop.Goals as goal

next : (k : ℕ) → k + 1 ≡ suc k
next k = omega arith

same_pools : (a b c : Pool) → IsSamePool a b → IsSamePool b c → IsSamePool a c
same_pools a b c p q = record { count = q.count ∙ p.count; room = q.room ∙ p.room }

pub loop-place-preserved : goal.loop-place-preserved
loop-place-preserved c =
    let slots = c.args.self.now.slots in
    let k = c.loop-place.place in (
      c.stop_at.ensures.slots
          ∙ ap (λ (xs : List (Option Held)). set xs k (stopped c.args.task (get_or xs k None))) c.loop-place.invariant.0
          ∙ lemmas.one_stopped c.args.task slots k (omega arith)
          ∙ ap (λ (n : ℕ). map (stopped c.args.task) (take n slots) ++ drop n slots) (sym (next k)),
      same_pools c.args.self.now.pool c.loop-place.self.pool c.stop_at.new.self.pool c.loop-place.invariant.1 c.stop_at.ensures.pool,
    )

pub returns-clause-held : goal.returns-clause-held
returns-clause-held c x y =
    let slots = c.args.self.now.slots in
    ap (λ (xs : List (Option Held)). held_at xs x y)
    (c.loop-place.invariant.0 ∙ lemmas.all_stopped c.args.task slots c.loop-place.place (omega arith))
    ∙ lemmas.held_stopped c.args.task slots c.len-place-end.ensures.table.single x y

pub returns-clause-lent : goal.returns-clause-lent
returns-clause-lent c =
    ap (λ (xs : List (Option Held)). lent_in xs)
    (c.loop-place.invariant.0 ∙ lemmas.all_stopped c.args.task c.args.self.now.slots c.loop-place.place (omega arith))
