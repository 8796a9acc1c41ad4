use Rattle.std.proofs.Common.{◌≡◌, ◌∙◌, sym, subst, ap}
use Rattle.std.specs.Option.{option_copied}
use Rattle.held_parts.specs.Held.{IsHere, held_at}
use Rattle.manager_moves.specs.declared.moves.Move.TheVariants as move
use Rattle.manager_core.proofs.PlacedRuns.{not_none, placed_here}
use Rattle.manager_core.specs.declared.due.Due.TheVariants as due
use Rattle.manager_core.specs.Kept.{SeenManager}
use Rattle.manager_core.proofs.manager.Manager.part.Goals as goal

pub unreachable-requires : goal.unreachable-requires
unreachable-requires c =
    let r = c.requires.2 in
    let task = c.due_place-task.result.0 in
    let number = c.due_place-task.result.1 in
    let is : c.args.self.now.due ≡ due.Next (move.Place task number) =
    ap (λ (x : SeenManager). x.due) (sym c.self.view_is) ∙ c.due_place-task.ensures in
    let here = subst (λ (x : SeenManager). IsHere (held_at x.moves.parts.slots task number)) (sym c.self.view_is)
    (placed_here r.start r.s r.events c.args.self.now r.running task number is) in
    not_none (held_at c.self.inside.moves.parts.slots task number) here
    (sym c.part.ensures ∙ ap option_copied c.in_default.is)
