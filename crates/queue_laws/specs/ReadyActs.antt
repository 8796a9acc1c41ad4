-- What is known of the act that each task is ready for, after the events of a run.
use Rattle.std.specs.Prelude.{◌≡◌, ℕ, List, Option, Some, None, get_or, slice_get, if◌then◌else◌}
use Rattle.std.specs.List.{position}
use Rattle.act_queues.specs.Sorts.{may_call, may_give}
use Rattle.act_queues.specs.declared.act_queues.ActSort.{ActSort}
use Rattle.act_queues.specs.declared.act_queues.ActSort.TheVariants as sort
use Rattle.manager_moves.specs.Moves.{call_of, first_call, first_giving, giving_of, has_free_part, has_room, if_ready, made, ready}
use Rattle.manager_moves.specs.Parts.{has_part}
use Rattle.manager_moves.specs.Runs.{Events, Shared, share}
use Rattle.manager_moves.specs.declared.moves.Move.{Move}
use Rattle.s3_model.specs.declared.requests.Op.TheVariants as op
use Rattle.task_acts.specs.Histories.{History}
use Rattle.task_acts.specs.declared.acts.Act.{Act}
use Rattle.task_acts.specs.declared.acts.Act.TheVariants as act
use Rattle.task_acts.specs.declared.work.Work.{Work}

-- what an act needs; the piece of a Get may have kept the part of its first giving
abbrev pub sort_of : Work → History → Act → ActSort
sort_of w history (act.Send op.Get number) = if has_part w history number then sort.Job else sort.Get
sort_of w history (act.Send of_op number) = sort.Job
sort_of w history (act.Read number) = sort.Read
sort_of w history of_act = sort.Call

abbrev pub sort_if : Work → History → Option Act → Option ActSort
sort_if w history None = None
sort_if w history (Some of_act) = Some (sort_of w history of_act)

module _ (s : Shared) (events : Events) where
  abbrev pub sort_at : ℕ → Option Work → Option ActSort
  sort_at n None = None
  sort_at n (Some w) = sort_if w (share w n events) (ready s events n w)

  -- each task that is made has the sort of the act that it is ready for
  abbrev pub HoldActs : List (Option ActSort) → Type 0
  HoldActs acts = (n : ℕ) → get_or acts n None ≡ sort_at n (slice_get (made s events) n)

  -- the call, or the giving, of that task
  abbrev pub at_task : (ℕ → Work → Option Move) → ℕ → Option Work → Option Move
  at_task turn n None = None
  at_task turn n (Some w) = turn n w

  abbrev pub at_place : (ℕ → Work → Option Move) → Option ℕ → Option Move
  at_place turn None = None
  at_place turn (Some n) = at_task turn n (slice_get (made s events) n)

  abbrev pub call_at : Option ℕ → Option Move
  call_at place = at_place (λ n w. if_ready s events (ready s events n w) (call_of s events n)) place

  abbrev pub giving_at : Option ℕ → Option Move
  giving_at place = at_place (λ n w. if_ready s events (ready s events n w) (giving_of s events n w)) place

-- The first call on files is that of the least task that can make one, and the first job that of the least that can
-- give one.
abbrev pub CallsAreFirst : Type 0
CallsAreFirst = (s : Shared) (events : Events) (acts : List (Option ActSort)) → HoldActs s events acts
    → first_call s events 0 (made s events) ≡ call_at s events (position (may_call (has_free_part s events)) acts)

abbrev pub GivingsAreFirst : Type 0
GivingsAreFirst = (s : Shared) (events : Events) (acts : List (Option ActSort)) → HoldActs s events acts
    → first_giving s events 0 (made s events)
    ≡ giving_at s events (position (may_give (has_room s events) (has_free_part s events)) acts)
