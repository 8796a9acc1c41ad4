use Rattle.std.proofs.Common.{◌∙◌, ◌-◌, ℕ, get_or, length, sym, ap, arith}
use Rattle.piece_stages.specs.Pieces.{no_piece}
use Rattle.task_acts.specs.Work.{first_number}
use Rattle.task_stages.specs.Stages.{SeenStages}
use Rattle.task_stages.proofs.PieceLemmas.{before_first, from_first, past}
use Rattle.task_stages.proofs.task_stages.TaskStages.piece.Goals as goal

pub returns-then-number-first : goal.returns-then-number-first
returns-then-number-first c =
    let first = c.first_number-first.ensures in
    c.none.ensures ∙ sym (before_first c.args.self.now c.args.number (omega (arith, first, c.if-number-first.true)))

pub returns-then-number-first-2 : goal.returns-then-number-first-2
returns-then-number-first-2 c =
    let first = c.first_number-first.ensures in
    let many = c.self.invariant.many in
    let seen = ap (λ (x : SeenStages). length x.pieces) c.self.view_is in
    c.none-then-number-first-2.ensures ∙ sym (past c.args.self.now c.args.number (omega (arith, first, c.if-number-first.false))
    (omega (arith, first, many, seen, c.if-number-first-2.true)))

pub get-requires : goal.get-requires
get-requires c = omega (arith, c.self.invariant.many, c.if-number-first-2.false)

pub returns : goal.returns
returns c =
    let n = c.args.number in
    let s = c.args.self.now in
    let first = c.first_number-first.ensures in
    c.get.ensures ∙ ap (λ (k : ℕ). get_or c.self.inside.pieces.stages (n - k) no_piece) first
    ∙ ap (λ (x : SeenStages). get_or x.pieces (n - first_number s.work) no_piece) c.self.view_is
    ∙ sym (from_first s n (omega (arith, first, c.if-number-first.false)))
