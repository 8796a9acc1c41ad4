-- The jobs of the eventful run, as its journal and its wires show them.
use Rattle.std.specs.Prelude.{ℕ, Bool, true, false, List, [], ◌∷◌, Some}
use Rattle.s3_model.specs.declared.requests.Ask.{Ask}
use Rattle.s3_model.specs.declared.outcomes.JobId.{JobId}
use Rattle.s3_model.specs.declared.tries.Mark.TheVariants as mark
use Rattle.s3_model.specs.Talks.{Talk}
use Rattle.job_terms.specs.Dispatches.{Attempt, Dispatched}
use Rattle.run_promise.specs.Schedule.{most_body}
use Rattle.promise_examples.specs.Everything.{create_job, copy_job, part_job, delete_job, complete_job, create, copy_ask, part, delete, complete, document, create_lost, create_answered, copy_answered, part_lost, part_stored, other_stored, delete_lost, delete_again, complete_lost, complete_again}

abbrev pub lost : Talk → Attempt
lost talk = record { mark = mark.Uncertain; talk = talk }

abbrev pub well : Talk → Attempt
well talk = record { mark = mark.Success; talk = talk }

abbrev pub sent_as : JobId → (lane given came earlier : ℕ) → (is_second : Bool) → List Attempt → Ask → List ℕ → ℕ → Dispatched
sent_as job lane given came earlier is_second attempts asked body size = record {
  dispatch = record { job = job; lane = lane; given_at = given; came_at = Some came; earlier = earlier; is_second = is_second; attempts = attempts };
  ask = asked;
  body = body;
  limit = most_body;
  size = size;
}

abbrev pub create_sent : Dispatched
create_sent = sent_as create_job 0 0 2 0 false (lost create_lost ∷ well create_answered ∷ []) create [] 2

abbrev pub copy_sent : Dispatched
copy_sent = sent_as copy_job 1 1 3 0 false (well copy_answered ∷ []) copy_ask [] 1

abbrev pub part_sent : Dispatched
part_sent = sent_as (part_job 1) 0 4 6 0 false (lost part_lost ∷ []) (part 1) (1 ∷ []) 2

abbrev pub other_sent : Dispatched
other_sent = sent_as (part_job 2) 1 5 8 0 false (well other_stored ∷ []) (part 2) (2 ∷ []) 2

abbrev pub part_again : Dispatched
part_again = sent_as (part_job 1) 0 7 11 1 true (well part_stored ∷ []) (part 1) (1 ∷ []) 2

abbrev pub delete_sent : Dispatched
delete_sent = sent_as delete_job 1 9 10 0 false (lost delete_lost ∷ lost delete_again ∷ []) delete [] 1

abbrev pub complete_sent : Dispatched
complete_sent = sent_as complete_job 0 12 13 0 false (lost complete_lost ∷ well complete_again ∷ []) complete document 2

-- in the order of their Given, and in that of their Came
abbrev pub jobs : List Dispatched
jobs = create_sent ∷ copy_sent ∷ part_sent ∷ other_sent ∷ part_again ∷ delete_sent ∷ complete_sent ∷ []

abbrev pub coming : List Dispatched
coming = create_sent ∷ copy_sent ∷ part_sent ∷ other_sent ∷ delete_sent ∷ part_again ∷ complete_sent ∷ []
