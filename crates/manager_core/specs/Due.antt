-- What is to be answered, and the calls and jobs that moves are.
use Rattle.std.specs.Prelude.{◌∷◌, ℕ, Option, Some, None}
use Rattle.manager_moves.specs.Runs.{Events, Sent}
use Rattle.manager_moves.specs.declared.moves.Move.{Move}
use Rattle.manager_moves.specs.declared.moves.Move.TheVariants as move
use Rattle.task_acts.specs.declared.acts.Act.TheVariants as act
use Rattle.manager_core.specs.declared.due.Call.{Call}
use Rattle.manager_core.specs.declared.due.Due.{Due}
use Rattle.manager_core.specs.declared.due.Due.TheVariants as due

-- the call on files that a move is
abbrev pub call_in : Move → Option Call
call_in (move.Read task number) = Some (record { task = task; act = act.Read number })
call_in (move.Place task number) = Some (record { task = task; act = act.Place number })
call_in (move.Assemble task number) = Some (record { task = task; act = act.Assemble })
call_in (move.Rename task number) = Some (record { task = task; act = act.Rename })
call_in (move.DropTemp task number) = Some (record { task = task; act = act.DropTemp })
call_in (move.Remove task number) = Some (record { task = task; act = act.Remove })
call_in (move.Stamp task number) = Some (record { task = task; act = act.Stamp })
call_in moved = None

abbrev pub call_due : Due → Option Call
call_due (due.Next moved) = call_in moved
call_due of_due = None

-- the lane to which a job is to be given
abbrev pub lane_due : Due → Option ℕ
lane_due (due.Next (move.Give task of_op number lane)) = Some lane
lane_due of_due = None

-- no job was formed that is still to be given
abbrev pub IsSettled : Due → Type 0
IsSettled (due.Job task of_op number lane) = ⊥
IsSettled of_due = Unit {0}

-- what has happened, with a job that was formed and is to be given
abbrev pub told : Due → Events → Events
told (due.Job task of_op number lane) events = Sent task of_op number lane ∷ events
told of_due events = events
