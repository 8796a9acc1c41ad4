-- Small runs, computed.
use Rattle.std.specs.Prelude.{◌≡◌, [], ◌∷◌, ℕ, true, false, List, Some, None, length, if◌then◌else◌}
use Rattle.jobs.specs.Holders.{Holder}
use Rattle.jobs.specs.declared.ending.Ending.{Ending}
use Rattle.jobs.specs.declared.ending.Ending.TheVariants as ending
use Rattle.jobs.specs.declared.what.What.{What}
use Rattle.job_terms.specs.Buffers.{holds_buffer}
use Rattle.s3_model.specs.declared.answers.Reply.TheVariants as reply
use Rattle.s3_model.specs.declared.outcomes.Cause.TheVariants as cause
use Rattle.s3_model.specs.declared.outcomes.Outcome.TheVariants as outcome
use Rattle.s3_model.specs.declared.outcomes.Reason.TheVariants as reason_of
use Rattle.s3_model.specs.declared.requests.Op.{Op}
use Rattle.s3_model.specs.declared.requests.Op.TheVariants as op
use Rattle.s3_model.specs.declared.tasks.Kind.TheVariants as kind
use Rattle.s3_model.specs.declared.tries.Mark.{Mark}
use Rattle.s3_model.specs.declared.tries.Mark.TheVariants as mark
use Rattle.task_acts.specs.declared.acts.Act.TheVariants as act
use Rattle.task_acts.specs.declared.acts.FileCame.TheVariants as file
use Rattle.task_acts.specs.declared.work.Work.{Work}
use Rattle.task_acts.specs.Examples.{one_piece}
use Rattle.manager_moves.specs.declared.moves.Move.{Move}
use Rattle.manager_moves.specs.declared.moves.Move.TheVariants as move
use Rattle.s3_model.specs.declared.bytes.Part.{Part}
use Rattle.manager_moves.specs.Laws.{IsRun}
use Rattle.manager_moves.specs.Moves.{next_move}
use Rattle.manager_moves.specs.Runs.{Event, Events, Shared, Made, Sent, Back, Called, Lined, Stopped, outcome_in}

abbrev pub shared : List Work → (lanes queue buffers : ℕ) → Shared
shared works lanes queue buffers = record {
  works = works;
  lanes = lanes;
  depth = 1;
  queue = queue;
  buffers = buffers;
}

abbrev pub Moves : Shared → Events → Move → Type 0
Moves s events moved = next_move s events ≡ moved

abbrev pub upload : Work
upload = one_piece kind.Upload false

abbrev pub download : Work
download = one_piece kind.Download false

module _ (for : What) (cell : Holder) (part : Part) where
  -- a job of that task at its first giving comes back, with its part if it takes one
  abbrev pub back : (task lane : ℕ) → Op → ℕ → List Mark → Ending → Event
  back task lane of_op number tries ended = Back lane (record {
    job = record {
      id = record { task = Some task; op = of_op; number = number };
      what = for;
      part = if holds_buffer of_op then Some part else None;
      cell = Some cell;
      had = 0;
    };
    tries = tries;
    ending = ended;
  })

  abbrev pub stored : (task lane : ℕ) → Event
  stored task lane = back task lane op.Put 0 (mark.Success ∷ []) (ending.Gained reply.Stored)

  abbrev pub got : (task lane number : ℕ) → Event
  got task lane number = back task lane op.Get number (mark.Success ∷ []) (ending.Gained (reply.Got 200 None 5))

  -- ---- one small upload

  abbrev pub put_out : (task lane : ℕ) → Events → Events
  put_out task lane before = Sent task op.Put 0 lane ∷ Called task (act.Read 0) file.Fine ∷ before

  -- It is made, read and sent, and its line is printed once it came back.
  abbrev pub SmallUpload : Type 0
  SmallUpload =
      let s = shared (upload ∷ []) 1 1 1 in
      let made = Made true ∷ [] in
      Moves s [] (move.Make 0)
      × Moves s made (move.Read 0 0)
      × Moves s (Called 0 (act.Read 0) file.Fine ∷ made) (move.Give 0 op.Put 0 0)
      × Moves s (put_out 0 0 made) move.Wait
      × Moves s (stored 0 0 ∷ put_out 0 0 made) (move.Line 0)
      × Moves s (Lined ∷ stored 0 0 ∷ put_out 0 0 made) move.End

  -- ---- two uploads on two lanes

  abbrev pub two_made : Events
  two_made = Made true ∷ put_out 0 0 (Made true ∷ [])

  abbrev pub both_out : Events
  both_out = put_out 1 1 two_made

  -- The first job goes to the first lane, the next one to the lane that has none.
  abbrev pub FreeLanes : Type 0
  FreeLanes =
      let s = shared (upload ∷ upload ∷ upload ∷ []) 2 3 3 in
      Moves s (put_out 0 0 (Made true ∷ [])) (move.Make 1)
      × Moves s (Called 1 (act.Read 0) file.Fine ∷ two_made) (move.Give 1 op.Put 0 1)
      × Moves s (Called 2 (act.Read 0) file.Fine ∷ Made true ∷ both_out) move.Wait
      × Moves s (stored 0 0 ∷ Called 2 (act.Read 0) file.Fine ∷ Made true ∷ both_out) (move.Line 0)
      × Moves s (Lined ∷ stored 0 0 ∷ Called 2 (act.Read 0) file.Fine ∷ Made true ∷ both_out)
      (move.Give 2 op.Put 0 0)

  -- The line of the second task waits for that of the first.
  abbrev pub LinesInOrder : Type 0
  LinesInOrder =
      let s = shared (upload ∷ upload ∷ []) 2 2 2 in
      Moves s (stored 1 1 ∷ both_out) move.Wait
      × Moves s (stored 0 0 ∷ stored 1 1 ∷ both_out) (move.Line 0)
      × Moves s (Lined ∷ stored 0 0 ∷ stored 1 1 ∷ both_out) (move.Line 1)
      × Moves s (Lined ∷ Lined ∷ stored 0 0 ∷ stored 1 1 ∷ both_out) move.End

  -- ---- one part for two downloads

  abbrev pub assembled : ℕ → Events → Events
  assembled task before = Called task act.Assemble file.Fine ∷ Made true ∷ before

  abbrev pub get_out : Events
  get_out = assembled 1 (Sent 0 op.Get 0 0 ∷ assembled 0 [])

  -- The second Get waits for the part of the first, which comes back when it is placed. A failed Get gives it back.
  abbrev pub PartsAreShared : Type 0
  PartsAreShared =
      let s = shared (download ∷ download ∷ []) 2 2 1 in
      let placed = Called 0 (act.Place 0) file.Fine ∷ got 0 0 0 ∷ get_out in
      Moves s get_out move.Wait
      × Moves s (got 0 0 0 ∷ get_out) (move.Place 0 0)
      × Moves s placed (move.Rename 0 0)
      × Moves s (Called 0 act.Rename file.Fine ∷ placed) (move.Stamp 0 0)
      × Moves s (Lined ∷ Called 0 act.Stamp file.Fine ∷ Called 0 act.Rename file.Fine ∷ placed) (move.Give 1 op.Get 0 0)
      × Moves s (Called 0 act.DropTemp file.Fine ∷ back 0 0 op.Get 0 [] ending.Memory ∷ get_out) (move.Line 0)
      × Moves s (Lined ∷ Called 0 act.DropTemp file.Fine ∷ back 0 0 op.Get 0 [] ending.Memory ∷ get_out)
      (move.Give 1 op.Get 0 0)

  -- ---- one task at a time

  -- The second task is made once the first has ended. One for which memory ran out has failed.
  abbrev pub OneAfterTheOther : Type 0
  OneAfterTheOther =
      let s = shared (upload ∷ upload ∷ []) 2 1 2 in
      let made = Made true ∷ [] in
      Moves s (put_out 0 0 made) move.Wait
      × Moves s (Lined ∷ stored 0 0 ∷ put_out 0 0 made) (move.Make 1)
      × Moves s (Made false ∷ []) (move.Line 0)
      × (outcome_in upload 0 (Made false ∷ []) ≡ Some (outcome.Failed cause.Memory))
      × Moves s (Lined ∷ Made false ∷ []) (move.Make 1)
      × Moves s (Made true ∷ Lined ∷ Made false ∷ []) (move.Read 1 0)

  -- ---- a cancel

  -- What is out is waited for; a task that was not made is made and has failed.
  abbrev pub CancelsEnd : Type 0
  CancelsEnd =
      let s = shared (upload ∷ upload ∷ []) 2 1 2 in
      let cancelled = Stopped reason_of.OutputFailed ∷ put_out 0 0 (Made true ∷ []) in
      Moves s cancelled move.Wait
      × Moves s (stored 0 0 ∷ cancelled) (move.Line 0)
      × (outcome_in upload 0 (stored 0 0 ∷ cancelled) ≡ Some outcome.Done)
      × Moves s (Lined ∷ stored 0 0 ∷ cancelled) (move.Make 1)
      × Moves s (Made true ∷ Lined ∷ stored 0 0 ∷ cancelled) (move.Line 1)
      × (outcome_in upload 1 (Made true ∷ Lined ∷ stored 0 0 ∷ cancelled)
      ≡ Some (outcome.Failed (cause.Cancelled reason_of.OutputFailed)))

  -- ---- whole runs

  -- These are runs that can come about: one small upload, two whose second came first, and a cancel.
  abbrev pub UploadsAreRuns : Type 0
  UploadsAreRuns =
      IsRun (shared (upload ∷ []) 1 1 1) (Lined ∷ stored 0 0 ∷ put_out 0 0 (Made true ∷ []))
      × IsRun (shared (upload ∷ upload ∷ []) 2 2 2) (Lined ∷ Lined ∷ stored 0 0 ∷ stored 1 1 ∷ both_out)
      × IsRun (shared (upload ∷ upload ∷ []) 2 1 2)
      (Lined ∷ Made true ∷ Lined ∷ stored 0 0 ∷ Stopped reason_of.OutputFailed ∷ put_out 0 0 (Made true ∷ []))

  -- So is a download whose Get brings the five bytes that it asked for, beside one that waits for its part.
  abbrev pub DownloadsAreARun : Type 0
  DownloadsAreARun = length part.bytes.bytes ≡ 5
      → IsRun (shared (download ∷ download ∷ []) 2 2 1)
      (Lined ∷ Called 0 act.Stamp file.Fine ∷ Called 0 act.Rename file.Fine ∷ Called 0 (act.Place 0) file.Fine
      ∷ got 0 0 0 ∷ get_out)
