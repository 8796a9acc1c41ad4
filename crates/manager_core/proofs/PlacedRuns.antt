-- A piece that is to be placed has its part.
use Rattle.std.proofs.Common.{◌≡◌, ℕ, Option, Some, None, refl, sym, ap}
use Rattle.held_parts.specs.Held.{IsHere, held_at, inner}
use Rattle.manager_moves.proofs.PartLaws.{nothing}
use Rattle.manager_moves.proofs.ShareLaws.{act_of}
use Rattle.manager_moves.specs.Runs.{Events, Shared}
use Rattle.manager_moves.specs.declared.moves.Move.TheVariants as move
use Rattle.move_laws.proofs.NamedMoves.{call_named}
use Rattle.part_tables.proofs.Finding.{placing_finds_part}
use Rattle.s3_model.specs.declared.bytes.Part.{Part}
use Rattle.task_acts.specs.declared.acts.Act.TheVariants as act
use Rattle.manager_core.proofs.RunLemmas.{at_due}
use Rattle.manager_core.specs.declared.due.Due.TheVariants as due
use Rattle.manager_core.specs.Kept.{SeenManager}
use Rattle.manager_core.specs.Running.{IsAt, IsRunning, Start}

module _ (start : Start) (s : Shared) (events : Events) (m : SeenManager)
    (running : IsRunning start s events m) (task number : ℕ) (is : m.due ≡ due.Next (move.Place task number)) where
  place_at : IsAt (due.Next (move.Place task number)) s events m
  place_at = at_due start s events m running (due.Next (move.Place task number)) is

  pub placed_here : IsHere (held_at m.moves.parts.slots task number)
  placed_here = placing_finds_part s events m.moves.parts.slots task number place_at.run.run place_at.follows.parts
      (call_named s events task (act.Place number) (ap act_of place_at.named) refl)

pub not_none : (x : Option (Option Part)) → IsHere x → inner x ≡ None → ⊥
not_none (Some (Some part)) here e = nothing (sym e)
not_none (Some None) here e = here
not_none None here e = here
