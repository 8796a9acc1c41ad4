use Rattle.std.proofs.Common.{◌∙◌, ◌/◌, ◌==◌, ℕ, List, Bool, ap, arith, length, set, get_or, if◌then◌else◌}
use Rattle.number_sets.specs.Members.{flags, has_bit}
use Rattle.number_sets.proofs.Changes.{is_below, put_flag, put_summed, written}
use Rattle.number_sets.proofs.number_set.NumberSet.put.Goals as goal

pub put-is_used-requires : goal.put-is_used-requires
put-is_used-requires c =
    let s = c.self.inside in
    let below = is_below s.words.items s.count c.args.number c.args.self.now c.self.view_is c.requires in
    let same = ap (λ (ws : List ℕ). length ws) c.deref_mut.ensures.value in
    omega (arith, below, same, c.self.invariant.long)

pub put-any-requires : goal.put-any-requires
put-any-requires c =
    let s = c.self.inside in
    let below = is_below s.words.items s.count c.args.number c.args.self.now c.self.view_is c.requires in
    let same = ap (λ (ws : List ℕ). length ws) c.deref_mut-2.ensures.value in
    omega (arith, below, same, c.self.invariant.long, c.self.invariant.summary_long)

pub invariant_of-self : goal.invariant_of-self
invariant_of-self c =
    let s = c.self.inside in
    let below = is_below s.words.items s.count c.args.number c.args.self.now c.self.view_is c.requires in
    let one = written s.words.len c.put-is_used.new.words s.words.items (c.put-is_used.ensures.length ∙ c.deref_mut.ensures.len) in
    let two = written s.summary.len c.put-any.new.words s.summary.items (c.put-any.ensures.length ∙ c.deref_mut-2.ensures.len) in
    rw (one, two)
    (put_summed s.count c.args.number s.words.items c.put-is_used.new.words s.summary.items c.put-any.new.words c.args.is_member below c.self.invariant
    (c.put-is_used.ensures.length ∙ ap (λ (ws : List ℕ). length ws) c.deref_mut.ensures.value)
    (c.put-any.ensures.length ∙ ap (λ (ws : List ℕ). length ws) c.deref_mut-2.ensures.value)
    (λ n. c.put-is_used.ensures.bits n ∙ ap (λ (ws : List ℕ). if n == c.args.number then c.args.is_member else has_bit ws n) c.deref_mut.ensures.value)
    (λ j other. c.put-is_used.ensures.others j other ∙ ap (λ (ws : List ℕ). get_or ws j 0) c.deref_mut.ensures.value)
    (λ j. c.put-any.ensures.bits j ∙ ap (λ (ws : List ℕ). if j == c.args.number / 64 then c.put-is_used.result else has_bit ws j) c.deref_mut-2.ensures.value
    ∙ ap (λ (b : Bool). if j == c.args.number / 64 then b else has_bit s.summary.items j) c.put-is_used.ensures.used))

pub returns : goal.returns
returns c =
    let s = c.self.inside in
    let below = is_below s.words.items s.count c.args.number c.args.self.now c.self.view_is c.requires in
    let one = written s.words.len c.put-is_used.new.words s.words.items (c.put-is_used.ensures.length ∙ c.deref_mut.ensures.len) in
    ap (λ (ws : List ℕ). flags ws s.count) one
    ∙ put_flag s.words.items c.put-is_used.new.words s.count c.args.number c.args.is_member below
    (λ n. c.put-is_used.ensures.bits n ∙ ap (λ (ws : List ℕ). if n == c.args.number then c.args.is_member else has_bit ws n) c.deref_mut.ensures.value)
    ∙ ap (λ (bs : List Bool). set bs c.args.number c.args.is_member) c.self.view_is
