-- Small histories, computed.
use Rattle.std.specs.Prelude.{◌≡◌, ◌+◌, ◌-◌, ◌*◌, [], ◌∷◌, ℕ, Bool, true, false, List, Option, Some, None, codes}
use Rattle.jobs.specs.Holders.{Holder}
use Rattle.jobs.specs.declared.ending.Ending.{Ending}
use Rattle.jobs.specs.declared.ending.Ending.TheVariants as ending
use Rattle.jobs.specs.declared.what.What.{What}
use Rattle.s3_model.specs.declared.answers.Reply.TheVariants as reply
use Rattle.s3_model.specs.declared.answers.Why.TheVariants as reason
use Rattle.s3_model.specs.declared.outcomes.Cause.{Cause}
use Rattle.s3_model.specs.declared.outcomes.Cause.TheVariants as cause
use Rattle.s3_model.specs.declared.outcomes.FileCall.TheVariants as call
use Rattle.s3_model.specs.declared.outcomes.Outcome.{Outcome}
use Rattle.s3_model.specs.declared.outcomes.Outcome.TheVariants as outcome
use Rattle.s3_model.specs.declared.outcomes.Reason.TheVariants as reason_of
use Rattle.s3_model.specs.declared.requests.Op.{Op}
use Rattle.s3_model.specs.declared.requests.Op.TheVariants as op
use Rattle.s3_model.specs.declared.tasks.Kind.{Kind}
use Rattle.s3_model.specs.declared.tasks.Kind.TheVariants as kind
use Rattle.s3_model.specs.declared.tries.Mark.{Mark}
use Rattle.s3_model.specs.declared.tries.Mark.TheVariants as mark
use Rattle.s3_outside.specs.declared.files.FileFault.TheVariants as fault
use Rattle.task_acts.specs.declared.acts.Act.{Act}
use Rattle.task_acts.specs.declared.acts.Act.TheVariants as act
use Rattle.task_acts.specs.declared.acts.FileCame.TheVariants as file
use Rattle.task_acts.specs.Ends.{outcome_of}
use Rattle.task_acts.specs.Histories.{History, Happening, Gave, Came, Returned, Cancelled}
use Rattle.task_acts.specs.Rule.{first_ready_in}
use Rattle.task_acts.specs.declared.work.Work.{Work}

-- ---- tasks

-- 5 bytes in one piece
abbrev pub one_piece : Kind → (moves : Bool) → Work
one_piece of_kind moves = record {
  of_kind = of_kind;
  moves = moves;
  small = true;
  size = 5;
  piece = 5;
  count = 1;
  attempts = 3;
}

-- pieces of 4 bytes
abbrev pub in_pieces : Kind → (moves : Bool) → (count size : ℕ) → Work
in_pieces of_kind moves count size = record {
  of_kind = of_kind;
  moves = moves;
  small = false;
  size = size;
  piece = 4;
  count = count;
  attempts = 3;
}

-- ---- what is said of a history

abbrev pub Gives : Work → History → Act → Type 0
Gives w history of_act = first_ready_in w history ≡ Some of_act

-- an act is out, and none is ready
abbrev pub Waits : Work → History → Type 0
Waits w history = (first_ready_in w history ≡ None) × (outcome_of w history ≡ None)

abbrev pub Ends : Work → History → Outcome → Type 0
Ends w history how = outcome_of w history ≡ Some how

-- ---- what comes

module _ (for : What) (cell : Holder) where
  -- a job at its first giving, with a cell, or given again
  abbrev pub back : Option Holder → Op → ℕ → List Mark → Ending → Happening
  back held of_op number tries ended = Came (record {
    job = record {
      id = record { task = Some 0; op = of_op; number = number };
      what = for;
      part = None;
      cell = held;
      had = 0;
    };
    tries = tries;
    ending = ended;
  })

  abbrev pub came : Op → ℕ → List Mark → Ending → Happening
  came = back (Some cell)

  abbrev pub came_again : Op → ℕ → List Mark → Ending → Happening
  came_again = back None

  abbrev pub created : Happening
  created = came op.Create 0 (mark.Success ∷ []) (ending.Gained (reply.Created (codes "u")))

  abbrev pub stored : ℕ → Happening
  stored number = came op.Part number (mark.Success ∷ []) (ending.Gained (reply.PartStored (codes "e")))

  -- refused for good
  abbrev pub refused : Op → ℕ → Happening
  refused of_op number =
      came of_op number (mark.Refusal ∷ []) (ending.Refused 403 (codes "AccessDenied") (codes "Access Denied"))

  abbrev pub denied : Op → Cause
  denied of_op = cause.Service of_op (codes "AccessDenied") (codes "Access Denied")

  -- ---- histories of an upload in two parts

  abbrev pub both_read : History
  both_read = Returned (act.Read 2) file.Fine ∷ Gave (act.Read 2) ∷ Gave (act.Send op.Part 1)
      ∷ Returned (act.Read 1) file.Fine ∷ Gave (act.Read 1) ∷ created ∷ Gave (act.Send op.Create 0) ∷ []

  abbrev pub both_out : History
  both_out = Gave (act.Send op.Part 2) ∷ both_read

  abbrev pub both_stored : History
  both_stored = stored 1 ∷ stored 2 ∷ both_out

  abbrev pub completing : History
  completing = Gave (act.Send op.Complete 0) ∷ both_stored

  abbrev pub completed : History
  completed = came op.Complete 0 (mark.Success ∷ []) (ending.Gained reply.Completed) ∷ completing

  -- one part is refused while the other is out
  abbrev pub part_refused : History
  part_refused = refused op.Part 2 ∷ both_out

  abbrev pub aborted : History
  aborted = came_again op.Abort 0 (mark.Success ∷ []) (ending.Gained reply.Gone) ∷ Gave (act.Send op.Abort 0)
      ∷ refused op.Part 1 ∷ part_refused

  -- ---- histories of an upload in one piece

  abbrev pub put_out : History
  put_out = Gave (act.Send op.Put 0) ∷ Returned (act.Read 0) file.Fine ∷ Gave (act.Read 0) ∷ []

  -- its cell gave a reason before the first attempt
  abbrev pub put_cut : History
  put_cut = came op.Put 0 [] (ending.Cancelled reason_of.TaskFailed) ∷ put_out

  abbrev pub put_lost : History
  put_lost = came op.Put 0 (mark.Uncertain ∷ mark.Refusal ∷ [])
      (ending.Refused 403 (codes "AccessDenied") (codes "Access Denied")) ∷ put_out

  -- the first giving was left open and cut short, the second refused
  abbrev pub put_twice : History
  put_twice = came_again op.Put 0 (mark.Refusal ∷ [])
      (ending.Refused 403 (codes "AccessDenied") (codes "Access Denied")) ∷ Gave (act.Send op.Put 0)
      ∷ came op.Put 0 (mark.Uncertain ∷ []) (ending.Uncertain reason.EndedEarly) ∷ put_out

  -- ---- histories of a download in three ranges

  abbrev pub got : ℕ → Happening
  got number = came op.Get number (mark.Success ∷ [])
      (ending.Gained (reply.Got 206 (Some ((4 * (number - 1)), (4 * (number - 1) + 3), 12)) 4))

  abbrev pub ranges_out : History
  ranges_out = Gave (act.Send op.Get 3) ∷ Gave (act.Send op.Get 2) ∷ Gave (act.Send op.Get 1)
      ∷ Returned act.Assemble file.Fine ∷ Gave act.Assemble ∷ []

  abbrev pub placed : ℕ → History → History
  placed number before = Returned (act.Place number) file.Fine ∷ Gave (act.Place number) ∷ before

  abbrev pub all_placed : History
  all_placed = placed 2 (got 2 ∷ placed 1 (got 1 ∷ placed 3 (got 3 ∷ ranges_out)))

  abbrev pub renamed : History
  renamed = Returned act.Rename file.Fine ∷ Gave act.Rename ∷ all_placed

  abbrev pub stamped : History
  stamped = Returned act.Stamp (file.Fault fault.Failed) ∷ Gave act.Stamp ∷ renamed

  -- ---- histories of a copy that moves

  abbrev pub copy_out : History
  copy_out = Gave (act.Send op.Copy 0) ∷ []

  abbrev pub copied : History
  copied = came op.Copy 0 (mark.Success ∷ []) (ending.Gained reply.Copied) ∷ copy_out

  abbrev pub delete_refused : History
  delete_refused = refused op.Delete 0 ∷ Gave (act.Send op.Delete 0) ∷ copied

  -- ---- what they say

  -- An upload of 8 bytes in two parts, step by step; the parts come back in the other order.
  abbrev pub PartsInOrder : Type 0
  PartsInOrder =
      let w = in_pieces kind.Upload false 2 8 in
      Gives w [] (act.Send op.Create 0)
      × Waits w (Gave (act.Send op.Create 0) ∷ [])
      × Gives w (created ∷ Gave (act.Send op.Create 0) ∷ []) (act.Read 1)
      × Gives w (Gave (act.Read 1) ∷ created ∷ Gave (act.Send op.Create 0) ∷ []) (act.Read 2)
      × Gives w (both_read) (act.Send op.Part 2)
      × Waits w (both_out)
      × Waits w (stored 2 ∷ both_out)
      × Gives w (both_stored) (act.Send op.Complete 0)
      × Waits w (completing)
      × Ends w (completed) outcome.Done

  -- No part is given after a refusal, and the upload is aborted once the other part came. The cause is that of the first.
  abbrev pub PartIsRefused : Type 0
  PartIsRefused =
      let w = in_pieces kind.Upload false 2 8 in
      Waits w (part_refused)
      × Gives w (stored 1 ∷ part_refused) (act.Send op.Abort 0)
      × Waits w (Gave (act.Send op.Abort 0) ∷ stored 1 ∷ part_refused)
      × Ends w (aborted) (outcome.Failed (denied op.Part))

  -- A Put that came back cancelled is given again, unless the run was cancelled.
  abbrev pub CutShort : Type 0
  CutShort =
      let w = one_piece kind.Upload false in
      Gives w (put_cut) (act.Send op.Put 0)
      × Ends w (Cancelled reason_of.OutputFailed ∷ put_cut)
      (outcome.Failed (cause.Cancelled reason_of.OutputFailed))
      × Ends w (came op.Put 0 [] (ending.Cancelled reason_of.OutputFailed)
      ∷ Cancelled reason_of.OutputFailed ∷ put_out) (outcome.Failed (cause.Cancelled reason_of.OutputFailed))

  -- After a lost answer nobody can know, whatever came later; want of memory is the cause before any other.
  abbrev pub LeftOpen : Type 0
  LeftOpen =
      let w = one_piece kind.Upload false in
      Ends w (put_lost) (outcome.Unknown (denied op.Put))
      × Ends w (put_twice) (outcome.Unknown (denied op.Put))
      × Ends w (came op.Put 0 (mark.Uncertain ∷ []) (ending.Uncertain reason.Memory) ∷ put_out)
      (outcome.Unknown cause.Memory)
      × Ends w (refused op.Put 0 ∷ put_out) (outcome.Failed (denied op.Put))

  -- The source has changed where the status of a refusal says so, or its code; and a Put reads no source.
  abbrev pub SourceChanges : Type 0
  SourceChanges =
      let refuses : Op → (status : ℕ) → (code : List ℕ) → Happening =
      λ of_op status code. came of_op 0 (mark.Refusal ∷ []) (ending.Refused status code (codes "m")) in
      Ends (one_piece kind.Copy false) (refuses op.Copy 412 (codes "OperationAborted") ∷ copy_out)
      (outcome.Failed cause.Changed)
      × Ends (one_piece kind.Copy false) (refuses op.Copy 409 (codes "PreconditionFailed") ∷ copy_out)
      (outcome.Failed cause.Changed)
      × Ends (one_piece kind.Copy false) (refuses op.Copy 403 (codes "412") ∷ copy_out)
      (outcome.Failed (cause.Service op.Copy (codes "412") (codes "m")))
      × Ends (one_piece kind.Upload false) (refuses op.Put 412 (codes "PreconditionFailed") ∷ put_out)
      (outcome.Failed (cause.Service op.Put (codes "PreconditionFailed") (codes "m")))

  -- Three ranges in the order third, first, second; a time that could not be set changes nothing.
  abbrev pub RangesInAnyOrder : Type 0
  RangesInAnyOrder =
      let w = in_pieces kind.Download false 3 12 in
      Gives w [] act.Assemble
      × Gives w (Returned act.Assemble file.Fine ∷ Gave act.Assemble ∷ []) (act.Send op.Get 1)
      × Waits w ranges_out
      × Gives w (got 3 ∷ ranges_out) (act.Place 3)
      × Gives w (all_placed) act.Rename
      × Gives w (renamed) act.Stamp
      × Ends w (stamped) outcome.Done

  -- A range that another content answers, and a write that fails: the temporary file is dropped once nothing is out.
  abbrev pub RangeFails : Type 0
  RangeFails =
      let w = in_pieces kind.Download false 3 12 in
      let changed = came op.Get 3 (mark.Refusal ∷ []) (ending.Refused 412 (codes "412") (codes "Precondition Failed"))
      ∷ ranges_out in
      Waits w (got 2 ∷ changed)
      × Gives w (refused op.Get 1 ∷ got 2 ∷ changed) act.DropTemp
      × Ends w (Returned act.DropTemp file.Fine ∷ Gave act.DropTemp ∷ refused op.Get 1 ∷ got 2 ∷ changed)
      (outcome.Failed cause.Changed)

  -- The source of a move goes once the copy came with success.
  abbrev pub MovesLast : Type 0
  MovesLast =
      let w = one_piece kind.Copy true in
      Waits w copy_out
      × Gives w (copied) (act.Send op.Delete 0)
      × Ends w (delete_refused) (outcome.Copied (denied op.Delete))
      × Ends w (Cancelled reason_of.OutputFailed ∷ copied)
      (outcome.Copied (cause.Cancelled reason_of.OutputFailed))
      × Gives (in_pieces kind.Download true 3 12) (stamped) (act.Send op.Delete 0)

  -- A kept part is not given again after a cancel, and the Abort waits for the other part. A refused Abort is a failure,
  -- memory that ran out is a cause before any other, and a lost Complete leaves it open, whatever its Abort comes to.
  abbrev pub AbortsLast : Type 0
  AbortsLast =
      let w = in_pieces kind.Upload false 2 8 in
      let kept = came op.Part 1 (mark.Uncertain ∷ []) (ending.Uncertain reason.EndedEarly) ∷ both_out in
      let denies = came_again op.Abort 0 (mark.Refusal ∷ [])
      (ending.Refused 403 (codes "AccessDenied") (codes "Access Denied")) in
      Gives w kept (act.Send op.Part 1)
      × Waits w (Cancelled reason_of.OutputFailed ∷ kept)
      × Gives w (stored 2 ∷ Cancelled reason_of.OutputFailed ∷ kept) (act.Send op.Abort 0)
      × Ends w (denies ∷ Gave (act.Send op.Abort 0) ∷ stored 2 ∷ Cancelled reason_of.OutputFailed ∷ stored 1 ∷ both_out)
      (outcome.Failed (denied op.Abort))
      × Ends w (came_again op.Abort 0 [] ending.Memory ∷ Gave (act.Send op.Abort 0) ∷ refused op.Part 1 ∷ part_refused)
      (outcome.Failed cause.Memory)
      × Ends w (denies ∷ Gave (act.Send op.Abort 0)
      ∷ came op.Complete 0 (mark.Uncertain ∷ mark.Uncertain ∷ mark.Uncertain ∷ [])
      (ending.Uncertain reason.EndedEarly) ∷ completing) (outcome.Unknown (cause.Lost op.Complete reason.EndedEarly))

  -- The time is set also after a cancel, and a file that was not renamed is dropped.
  abbrev pub RenamedOrDropped : Type 0
  RenamedOrDropped =
      let w = in_pieces kind.Download true 3 12 in
      let late = Returned act.Rename file.Fine ∷ Cancelled reason_of.OutputFailed ∷ Gave act.Rename ∷ all_placed in
      Gives w late act.Stamp
      × Ends w (Returned act.Stamp file.Fine ∷ Gave act.Stamp ∷ late)
      (outcome.Copied (cause.Cancelled reason_of.OutputFailed))
      × Gives w (Returned act.Rename (file.Fault (fault.Blocked 1)) ∷ Gave act.Rename ∷ all_placed) act.DropTemp
      × Gives (one_piece kind.Download true) (came op.Get 0 (mark.Success ∷ []) (ending.Gained (reply.Got 206 None 5))
      ∷ Gave (act.Send op.Get 0) ∷ Returned act.Assemble file.Fine ∷ Gave act.Assemble ∷ []) act.DropTemp

  -- A moved file that stays leaves a copy, a file that became shorter has changed, and a removal moves nothing.
  abbrev pub FilesTell : Type 0
  FilesTell =
      Ends (one_piece kind.Upload true) (Returned act.Remove (file.Fault fault.Failed) ∷ Gave act.Remove
      ∷ came op.Put 0 (mark.Success ∷ []) (ending.Gained reply.Stored) ∷ put_out)
      (outcome.Copied (cause.Files call.Remove))
      × Ends (one_piece kind.Upload false) (Returned (act.Read 0) file.Short ∷ Gave (act.Read 0) ∷ [])
      (outcome.Failed cause.Changed)
      × Ends (one_piece kind.RemoveFile false) (Returned act.Remove file.Fine ∷ Gave act.Remove ∷ []) outcome.Done
      × Ends (one_piece kind.RemoveFile true) (Returned act.Remove file.Fine ∷ Gave act.Remove ∷ []) outcome.Done
