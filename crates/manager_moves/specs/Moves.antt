-- What a run does next, by what happened.
use Rattle.std.specs.Option.{option_or}
use Rattle.std.specs.Prelude.{◌+◌, ◌&&◌, [], ◌∷◌, ℕ, Bool, false, List, Option, Some, None, is_some, length}
use Rattle.std.specs.Prelude.{nat_lt, not, slice_get, take, unwrap_or, if◌then◌else◌}
use Rattle.s3_model.specs.declared.requests.Op.{Op}
use Rattle.s3_model.specs.declared.requests.Op.TheVariants as op
use Rattle.task_acts.specs.declared.acts.Act.{Act}
use Rattle.task_acts.specs.declared.acts.Act.TheVariants as act
use Rattle.task_acts.specs.declared.work.Work.{Work}
use Rattle.task_acts.specs.Rule.{first_ready_in}
use Rattle.manager_moves.specs.declared.moves.Move.{Move}
use Rattle.manager_moves.specs.declared.moves.Move.TheVariants as move
use Rattle.manager_moves.specs.Lanes.{freest, out_before, out_in}
use Rattle.manager_moves.specs.Parts.{has_part, lent}
use Rattle.manager_moves.specs.Runs.{Events, Shared, lacks_memory, lined_count, made_count, outcome_in, share}

module _ (s : Shared) (events : Events) where
  abbrev pub made : List Work
  made = take (made_count events) s.works

  abbrev pub has_free_part : Bool
  has_free_part = nat_lt (lent s.works events) s.buffers

  -- some lane has room for a job
  abbrev pub has_room : Bool
  has_room = nat_lt (out_in (freest s.lanes events) events) s.depth

  -- the act that a made task is ready for
  abbrev pub ready : ℕ → Work → Option Act
  ready n w = if lacks_memory n events then None else first_ready_in w (share w n events)

  -- ---- calls on files

  -- the call that an act is, if it can be made now: a read wants a part
  abbrev pub call_of : ℕ → Act → Option Move
  call_of n (act.Send of_op number) = None
  call_of n (act.Read number) = if has_free_part then Some (move.Read n number) else None
  call_of n act.Assemble = Some (move.Assemble n 0)
  call_of n (act.Place number) = Some (move.Place n number)
  call_of n act.Rename = Some (move.Rename n 0)
  call_of n act.DropTemp = Some (move.DropTemp n 0)
  call_of n act.Remove = Some (move.Remove n 0)
  call_of n act.Stamp = Some (move.Stamp n 0)

  -- ---- jobs

  -- a Get wants a part, unless it has kept that of its first giving
  abbrev pub lacks_part : ℕ → Work → Op → ℕ → Bool
  lacks_part n w op.Get number = not (has_part w (share w n events) number) && not has_free_part
  lacks_part n w of_op number = false

  -- the giving that an act is, if it can be done now
  abbrev pub giving_of : ℕ → Work → Act → Option Move
  giving_of n w (act.Send of_op number) =
      if has_room && not (lacks_part n w of_op number) then Some (move.Give n of_op number (freest s.lanes events))
      else None
  giving_of n w of_act = None

  -- ---- the least task that can move

  abbrev pub if_ready : Option Act → (Act → Option Move) → Option Move
  if_ready None of_act = None
  if_ready (Some ready_act) of_act = of_act ready_act

  abbrev pub first_call : ℕ → List Work → Option Move
  first_call n [] = None
  first_call n (w ∷ works) = option_or (if_ready (ready n w) (call_of n)) (first_call (n + 1) works)

  abbrev pub first_giving : ℕ → List Work → Option Move
  first_giving n [] = None
  first_giving n (w ∷ works) = option_or (if_ready (ready n w) (giving_of n w)) (first_giving (n + 1) works)

  -- ---- lines, and tasks that are made

  abbrev pub line_for : Option Work → Option Move
  line_for None = None
  line_for (Some w) =
      if is_some (outcome_in w (lined_count events) events) then Some (move.Line (lined_count events)) else None

  -- the line of the first task that has none, once the task has ended
  abbrev pub next_line : Option Move
  next_line = line_for (slice_get made (lined_count events))

  abbrev pub unfinished_from : ℕ → List Work → ℕ
  unfinished_from n [] = 0
  unfinished_from n (w ∷ works) =
      (if is_some (outcome_in w n events) then 0 else 1) + unfinished_from (n + 1) works

  abbrev pub next_make : Option Move
  next_make =
      if nat_lt (made_count events) (length s.works) && nat_lt (unfinished_from 0 made) s.queue
      then Some (move.Make (made_count events)) else None

  abbrev pub is_any_out : Bool
  is_any_out = nat_lt 0 (out_before s.lanes events)

  -- ---- the next move

  -- The first of these that there is: a line; the call on files of the least task that can make one; a job of the least
  -- task that can give one; the next task is made; a wait, where a job is out; the end.
  abbrev pub next_move : Move
  next_move = unwrap_or (option_or next_line (option_or (first_call 0 made) (option_or (first_giving 0 made) next_make)))
      (if is_any_out then move.Wait else move.End)
