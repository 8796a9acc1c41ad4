-- Calls on files that moves are.
use Rattle.std.proofs.Common.{◌≡◌, ◌∙◌, true, Some, refl, sym, subst}
use Rattle.manager_moves.proofs.PartLaws.{nothing, same_value}
use Rattle.manager_moves.proofs.ShareLaws.{act_of}
use Rattle.manager_moves.specs.Runs.{Events, Shared}
use Rattle.manager_moves.specs.declared.moves.Move.{Move}
use Rattle.manager_moves.specs.declared.moves.Move.TheVariants as move
use Rattle.move_laws.specs.Calls.{IsLentFor}
use Rattle.move_laws.specs.Follows.{Follows}
use Rattle.move_laws.specs.Kept.{SeenMoves}
use Rattle.task_acts.specs.declared.acts.Act.TheVariants as act
use Rattle.task_acts.specs.Kept.{is_file_act}
use Rattle.manager_core.specs.declared.due.Call.{Call}
use Rattle.manager_core.specs.declared.due.Due.{Due}
use Rattle.manager_core.specs.declared.due.Due.TheVariants as due
use Rattle.manager_core.specs.Due.{call_due, call_in}
use Rattle.manager_core.specs.Running.{FollowsBut}

module _ (call : Call) where
  by_call : (m : Move) (c : Call) → call_in m ≡ Some c → (act_of m ≡ Some (c.task, c.act)) × (is_file_act c.act ≡ true)
      → call_in m ≡ Some call → (act_of m ≡ Some (call.task, call.act)) × (is_file_act call.act ≡ true)
  by_call m c is so e = subst (λ (x : Call). (act_of m ≡ Some (x.task, x.act)) × (is_file_act x.act ≡ true))
      (same_value (sym is ∙ e)) so

  -- a move that is a call is that act of its task
  pub call_acts : (m : Move) → call_in m ≡ Some call
      → (act_of m ≡ Some (call.task, call.act)) × (is_file_act call.act ≡ true)
  call_acts (move.Read t n) e = by_call (move.Read t n) (record { task = t; act = act.Read n }) refl (refl, refl) e
  call_acts (move.Place t n) e = by_call (move.Place t n) (record { task = t; act = act.Place n }) refl (refl, refl) e
  call_acts (move.Assemble t n) e =
      by_call (move.Assemble t n) (record { task = t; act = act.Assemble }) refl (refl, refl) e
  call_acts (move.Rename t n) e = by_call (move.Rename t n) (record { task = t; act = act.Rename }) refl (refl, refl) e
  call_acts (move.DropTemp t n) e =
      by_call (move.DropTemp t n) (record { task = t; act = act.DropTemp }) refl (refl, refl) e
  call_acts (move.Remove t n) e = by_call (move.Remove t n) (record { task = t; act = act.Remove }) refl (refl, refl) e
  call_acts (move.Stamp t n) e = by_call (move.Stamp t n) (record { task = t; act = act.Stamp }) refl (refl, refl) e
  call_acts m e = absurd (nothing e)

  pub due_call : (d : Due) → call_due d ≡ Some call → (m : Move) × (d ≡ due.Next m) × (call_in m ≡ Some call)
  due_call (due.Next m) e = (m, refl, e)
  due_call d e = absurd (nothing e)

  -- how it begins: a Read was lent its part
  module _ (s : Shared) (events : Events) (mv : SeenMoves) where
    abbrev pub Begins : Call → Type 0
    Begins c = (before : SeenMoves) × IsLentFor c.task c.act before mv × Follows s events before

    as_it_is : (m : Move) (c : Call) → call_in m ≡ Some c → Begins c → call_in m ≡ Some call → Begins call
    as_it_is m c is begins e = subst Begins (same_value (sym is ∙ e)) begins

    pub call_begins : (m : Move) → call_in m ≡ Some call → FollowsBut (due.Next m) s events mv → Begins call
    call_begins (move.Read t n) e f =
        as_it_is (move.Read t n) (record { task = t; act = act.Read n }) refl (f.before, f.lent, f.follows) e
    call_begins (move.Place t n) e f =
        as_it_is (move.Place t n) (record { task = t; act = act.Place n }) refl (mv, refl, f) e
    call_begins (move.Assemble t n) e f =
        as_it_is (move.Assemble t n) (record { task = t; act = act.Assemble }) refl (mv, refl, f) e
    call_begins (move.Rename t n) e f =
        as_it_is (move.Rename t n) (record { task = t; act = act.Rename }) refl (mv, refl, f) e
    call_begins (move.DropTemp t n) e f =
        as_it_is (move.DropTemp t n) (record { task = t; act = act.DropTemp }) refl (mv, refl, f) e
    call_begins (move.Remove t n) e f =
        as_it_is (move.Remove t n) (record { task = t; act = act.Remove }) refl (mv, refl, f) e
    call_begins (move.Stamp t n) e f =
        as_it_is (move.Stamp t n) (record { task = t; act = act.Stamp }) refl (mv, refl, f) e
    call_begins m e f = absurd (nothing e)
