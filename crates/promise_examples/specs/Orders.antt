-- Runs of an upload in parts, or of a move, whose jobs stand in the wrong order, or lack one.
use Rattle.std.specs.Prelude.{ℕ, List, [], ◌∷◌, codes}
use Rattle.s3_model.specs.declared.answers.Listed.{Listed}
use Rattle.s3_model.specs.declared.outcomes.JobId.{JobId}
use Rattle.s3_model.specs.declared.outcomes.Event.{Event}
use Rattle.s3_model.specs.declared.outcomes.Event.TheVariants as entry
use Rattle.s3_model.specs.declared.requests.Op.TheVariants as op
use Rattle.s3_model.specs.declared.tries.Mark.TheVariants as mark
use Rattle.s3_model.specs.Talks.{Talk, Note, Closed, Finished, Moment, Began}
use Rattle.job_terms.specs.Jobs.{job_of}
use Rattle.promise_examples.specs.Everything.{create_job, part_job, complete_job, copy_job, delete_job, create_answered}
use Rattle.promise_examples.specs.Everything.{copy_answered, complete_again, first_etag, second_etag, document}
use Rattle.promise_examples.specs.Everything.{eventful_run, in_two, talk}
use Rattle.promise_examples.specs.Refused.{IsRefused}
use Rattle.promise_examples.specs.Runs.{Example}

abbrev pub abort_job : JobId
abort_job = job_of 0 op.Abort 0

abbrev pub part_denied : Talk
part_denied = talk 3 (1 ∷ []) Closed (codes "AccessDenied")

abbrev pub first_stored : Talk
first_stored = talk 3 (1 ∷ []) Finished first_etag

abbrev pub second_stored : Talk
second_stored = talk 4 (2 ∷ []) Finished second_etag

-- behind the last byte of the file
abbrev pub third_stored : Talk
third_stored = talk 5 [] Finished []

abbrev pub complete_answered : Talk
complete_answered = talk 5 document Finished []

abbrev pub abort_answered : Talk
abort_answered = talk 6 [] Finished []

abbrev pub delete_answered : Talk
delete_answered = talk 4 [] Finished []

-- a run with the tasks of the eventful one
abbrev pub run : List Event → List Talk → List Talk → List Note → List Note → Example
run journal first second first_notes second_notes =
    record {
      setting = eventful_run.setting;
      outcomes = eventful_run.outcomes;
      journal = journal;
      logs = in_two first second;
      notes = in_two first_notes second_notes;
    }

-- an upload is left open after a part failed
abbrev pub no_abort : Example
no_abort = run (entry.Given create_job 0 ∷ entry.Came create_job 0 (mark.Success ∷ []) ∷ entry.Given (part_job 1) 0
    ∷ entry.Came (part_job 1) 0 (mark.Refusal ∷ []) ∷ []) (create_answered ∷ part_denied ∷ []) []
    (Moment 2 ∷ Began ∷ Moment 3 ∷ Began ∷ []) []

-- an Abort is given while a part is out
abbrev pub early_abort : Example
early_abort = run (entry.Given create_job 0 ∷ entry.Came create_job 0 (mark.Success ∷ [])
    ∷ entry.Given (part_job 1) 1 ∷ entry.Given abort_job 0 ∷ entry.Came abort_job 0 (mark.Success ∷ [])
    ∷ entry.Came (part_job 1) 1 (mark.Refusal ∷ []) ∷ []) (create_answered ∷ abort_answered ∷ []) (part_denied ∷ [])
    (Moment 2 ∷ Began ∷ Moment 6 ∷ Began ∷ []) (Moment 3 ∷ Began ∷ [])

-- the source of a move is deleted while its copy is out
abbrev pub early_delete : Example
early_delete = run (entry.Given copy_job 0 ∷ entry.Given delete_job 1 ∷ entry.Came copy_job 0 (mark.Success ∷ [])
    ∷ entry.Came delete_job 1 (mark.Success ∷ []) ∷ []) (copy_answered ∷ []) (delete_answered ∷ [])
    (Moment 1 ∷ Began ∷ []) (Moment 4 ∷ Began ∷ [])

-- a part is given after another one failed
abbrev pub after_failure : Example
after_failure = run (entry.Given create_job 0 ∷ entry.Came create_job 0 (mark.Success ∷ [])
    ∷ entry.Given (part_job 1) 0 ∷ entry.Came (part_job 1) 0 (mark.Refusal ∷ []) ∷ entry.Given (part_job 2) 0
    ∷ entry.Came (part_job 2) 0 (mark.Success ∷ []) ∷ entry.Given abort_job 0
    ∷ entry.Came abort_job 0 (mark.Success ∷ []) ∷ [])
    (create_answered ∷ part_denied ∷ second_stored ∷ abort_answered ∷ []) []
    (Moment 2 ∷ Began ∷ Moment 3 ∷ Began ∷ Moment 4 ∷ Began ∷ Moment 6 ∷ Began ∷ []) []

-- a part is given while Create is out
abbrev pub early_part : Example
early_part = run (entry.Given create_job 0 ∷ entry.Given (part_job 1) 1 ∷ entry.Came create_job 0 (mark.Success ∷ [])
    ∷ entry.Came (part_job 1) 1 (mark.Success ∷ []) ∷ []) (create_answered ∷ []) (first_stored ∷ [])
    (Moment 2 ∷ Began ∷ []) (Moment 3 ∷ Began ∷ [])

-- a lane gives back its second job before its first
abbrev pub out_of_turn : Example
out_of_turn = run (entry.Given create_job 0 ∷ entry.Came create_job 0 (mark.Success ∷ [])
    ∷ entry.Given (part_job 1) 0 ∷ entry.Given (part_job 2) 0 ∷ entry.Came (part_job 2) 0 (mark.Success ∷ [])
    ∷ entry.Came (part_job 1) 0 (mark.Success ∷ []) ∷ entry.Given complete_job 0
    ∷ entry.Came complete_job 0 (mark.Success ∷ []) ∷ [])
    (create_answered ∷ first_stored ∷ second_stored ∷ complete_answered ∷ []) []
    (Moment 2 ∷ Began ∷ Moment 3 ∷ Began ∷ Moment 4 ∷ Began ∷ Moment 5 ∷ Began ∷ []) []

-- an upload that was completed is aborted
abbrev pub abort_after_complete : Example
abort_after_complete = run (entry.Given create_job 0 ∷ entry.Came create_job 0 (mark.Success ∷ [])
    ∷ entry.Given (part_job 1) 0 ∷ entry.Came (part_job 1) 0 (mark.Success ∷ []) ∷ entry.Given (part_job 2) 0
    ∷ entry.Came (part_job 2) 0 (mark.Success ∷ []) ∷ entry.Given complete_job 0
    ∷ entry.Came complete_job 0 (mark.Success ∷ []) ∷ entry.Given abort_job 0
    ∷ entry.Came abort_job 0 (mark.Success ∷ []) ∷ [])
    (create_answered ∷ first_stored ∷ second_stored ∷ complete_answered ∷ abort_answered ∷ []) []
    (Moment 2 ∷ Began ∷ Moment 3 ∷ Began ∷ Moment 4 ∷ Began ∷ Moment 5 ∷ Began ∷ Moment 6 ∷ Began ∷ []) []

-- Complete is given without one of the parts
abbrev pub early_complete : Example
early_complete = run (entry.Given create_job 0 ∷ entry.Came create_job 0 (mark.Success ∷ [])
    ∷ entry.Given (part_job 1) 0 ∷ entry.Came (part_job 1) 0 (mark.Success ∷ []) ∷ entry.Given complete_job 0
    ∷ entry.Came complete_job 0 (mark.Success ∷ []) ∷ [])
    (create_answered ∷ first_stored ∷ complete_answered ∷ []) []
    (Moment 2 ∷ Began ∷ Moment 3 ∷ Began ∷ Moment 5 ∷ Began ∷ []) []

-- a part is given behind the last one
abbrev pub part_beyond : Example
part_beyond = run (entry.Given create_job 0 ∷ entry.Came create_job 0 (mark.Success ∷ [])
    ∷ entry.Given (part_job 1) 0 ∷ entry.Came (part_job 1) 0 (mark.Success ∷ []) ∷ entry.Given (part_job 2) 0
    ∷ entry.Came (part_job 2) 0 (mark.Success ∷ []) ∷ entry.Given (part_job 3) 0
    ∷ entry.Came (part_job 3) 0 (mark.Success ∷ []) ∷ entry.Given complete_job 0
    ∷ entry.Came complete_job 0 (mark.Success ∷ []) ∷ [])
    (create_answered ∷ first_stored ∷ second_stored ∷ third_stored ∷ complete_again ∷ []) []
    (Moment 2 ∷ Began ∷ Moment 3 ∷ Began ∷ Moment 4 ∷ Began ∷ Moment 5 ∷ Began ∷ Moment 6 ∷ Began ∷ []) []

module _ (page_of : List ℕ → Listed) where
  pub record OrdersAreRefused : Type 0 where
    pub no_abort : IsRefused page_of no_abort
    pub early_abort : IsRefused page_of early_abort
    pub early_delete : IsRefused page_of early_delete
    pub after_failure : IsRefused page_of after_failure
    pub early_part : IsRefused page_of early_part
    pub out_of_turn : IsRefused page_of out_of_turn
    pub abort_after_complete : IsRefused page_of abort_after_complete
    pub early_complete : IsRefused page_of early_complete
    pub part_beyond : IsRefused page_of part_beyond

abbrev pub EachOrderIsRefused : Type 0
EachOrderIsRefused = (page_of : List ℕ → Listed) → OrdersAreRefused page_of
