use Rattle.std.specs.Prelude.{◌≡◌, ◌≢◌, IfErr, IfOk, OnOk}
use Rattle.local_files.specs.Changes.{IsFree}
use Rattle.s3_model.specs.Files.{FileStore}
use Rattle.s3_outside.specs.FileCalls.{HasObstacle, path_of}
use Rattle.s3_outside.specs.Files.{shape_at}
use Rattle.s3_outside.specs.declared.files.FileNote.TheVariants as note
use Rattle.s3_outside.specs.declared.files.Shape.TheVariants as shape
use Rattle.s3_outside.specs.declared.files.Temp.{Temp}
use Rattle.outside_memory.proofs.MadeLemmas.{made_call, seen_first}
use Rattle.outside_memory.proofs.mem_files.MemFilesFiles.make_temp.Goals as goal

pub returns-clause-absent : goal.returns-clause-absent
returns-clause-absent c =
    seen_first (λ (store : FileStore). IfOk c.make_in-answer.result (λ (temp : Temp). shape_at store temp.path ≡ shape.Absent)) _ _ _ _ c.next_call-is_failing.ensures.table c.make_in-answer.ensures.absent

pub returns-clause-way : goal.returns-clause-way
returns-clause-way c =
    seen_first (λ (store : FileStore). IfErr c.make_in-answer.result (HasObstacle store c.args.dest.now)) _ _ _ _ c.next_call-is_failing.ensures.table c.make_in-answer.ensures.way

pub returns-clause-free : goal.returns-clause-free
returns-clause-free c =
    seen_first (λ (store : FileStore). OnOk c.make_in-answer.result (IsFree store c.args.dest.now)) _ _ _ _ c.next_call-is_failing.ensures.table c.make_in-answer.ensures.free

pub returns-clause-kept : goal.returns-clause-kept
returns-clause-kept c =
    seen_first (λ (store : FileStore). OnOk c.make_in-answer.result (shape_at store c.args.dest.now ≢ shape.Other)) _ _ _ _ c.next_call-is_failing.ensures.table c.make_in-answer.ensures.kept

pub returns-clause-calls : goal.returns-clause-calls
returns-clause-calls c =
    made_call (note.MakeTemp c.args.dest.now (path_of c.make_in-answer.result)) _ _ _ _ _ _ _ _ _ _ _
    c.next_call-is_failing.ensures.table c.next_call-is_failing.ensures.calls c.next_call-is_failing.ensures.told c.next_call-is_failing.ensures.faults c.make_in-answer.ensures.later c.make_in-answer.ensures.changes
    _ c.make_note.result c.make_note.ensures c.record.ensures.seen c.record.ensures.none c.record.ensures.rose
