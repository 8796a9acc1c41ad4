-- Which acts can move: those that need no more than there is.
use Rattle.std.specs.Prelude.{◌&&◌, ℕ, Bool, true, false, Option, Some, None, min}
use Rattle.act_queues.specs.declared.act_queues.ActSort.{ActSort}
use Rattle.act_queues.specs.declared.act_queues.ActSort.TheVariants as sort

-- the call on files of a task can be made: a Read wants a free part
abbrev pub may_call : (has_part : Bool) → Option ActSort → Bool
may_call has_part (Some sort.Call) = true
may_call has_part (Some sort.Read) = has_part
may_call has_part ready = false

-- the job of a task can be given: each wants room in a lane, and some want a free part
abbrev pub may_give : (has_room has_part : Bool) → Option ActSort → Bool
may_give has_room has_part (Some sort.Job) = has_room
may_give has_room has_part (Some sort.Get) = has_room && has_part
may_give has_room has_part ready = false

-- ---- how tasks are kept

abbrev pub is_call : Option ActSort → Bool
is_call (Some sort.Call) = true
is_call ready = false

abbrev pub is_read : Option ActSort → Bool
is_read (Some sort.Read) = true
is_read ready = false

abbrev pub is_job : Option ActSort → Bool
is_job (Some sort.Job) = true
is_job ready = false

abbrev pub is_get : Option ActSort → Bool
is_get (Some sort.Get) = true
is_get ready = false

-- the lesser of two numbers, as far as they are there
abbrev pub lesser : Option ℕ → Option ℕ → Option ℕ
lesser (Some a) (Some b) = Some (min a b)
lesser (Some a) None = Some a
lesser None b = b
