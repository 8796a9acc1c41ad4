-- Runs of an upload in parts, and of a move, that break one clause of the schedule alone.
use Rattle.std.proofs.Common.{◌≡◌, ◌+◌, ◌<◌, ℕ, zero, suc, false, List, [], ◌∷◌, Some, refl, sym, ap, subst, inl, inr, ◌++◌, ◌∙◌, arith}
use Rattle.std.specs.Prelude.{IsPermutation}
use Rattle.std.proofs.lemmas.List.Sorted.{IsPermutation-refl, IsPermutation-append_right, IsPermutation-append_comm}
use Rattle.s3_model.specs.declared.answers.Listed.{Listed}
use Rattle.s3_model.specs.declared.answers.Reply.TheVariants as reply
use Rattle.s3_model.specs.declared.outcomes.JobId.{JobId}
use Rattle.s3_model.specs.declared.requests.Ask.{Ask}
use Rattle.s3_model.specs.declared.requests.Ask.TheVariants as ask
use Rattle.s3_model.specs.declared.requests.Op.TheVariants as op
use Rattle.s3_model.specs.declared.tries.Mark.TheVariants as mark
use Rattle.s3_model.specs.Parts.{piece_of}
use Rattle.job_terms.specs.Dispatches.{Attempt, Dispatched}
use Rattle.run_promise.specs.Schedule.{IsBefore, AreETags, gained_before}
use Rattle.job_terms.specs.Jobs.{job_of}
use Rattle.shared_lemmas.proofs.Clashes.{false_true as never}
use Rattle.promise_examples.specs.Everything.{bucket, uploaded, id, first_etag, second_etag, upload, copy, create, complete, copy_ask, delete, part, document, create_job, part_job, complete_job, copy_job, delete_job, create_answered, copy_answered}
use Rattle.promise_examples.specs.Orders as orders
use Rattle.promise_examples.specs.Orders.{abort_job, part_denied, first_stored, second_stored, complete_answered, abort_answered, delete_answered}
use Rattle.promise_examples.specs.Reading.{Reads}
use Rattle.promise_examples.specs.Rules.{IsComing, Asks, Stops, AbortLast, Aborts, CompletedStays, MovesLast, HasFailed, OrdersBreakAlone, EachOrderBreaksAlone}
use Rattle.promise_examples.proofs.Carrying as carrying
use Rattle.promise_examples.proofs.Concrete.{Each, at, each, slot, some_is}
use Rattle.promise_examples.proofs.EventfulJobs.{sent_as, well}
use Rattle.promise_examples.proofs.EventfulPlan.{body_is, copy_pieces, from_copy, to_copy, to_upload, upload_pieces}
use Rattle.promise_examples.proofs.Noting as noting
use Rattle.promise_examples.proofs.Orders as refuted
use Rattle.promise_examples.proofs.Ruling as ruling
use Rattle.promise_examples.proofs.Scheduling.{failures, other_op}

abbrev denied : Attempt
denied = record { mark = mark.Refusal; talk = part_denied }

abbrev abort : Ask
abort = ask.Abort bucket uploaded id

zero_of : (job : JobId) (n : ℕ) → job.task ≡ Some 0 → job.task ≡ Some n → 0 ≡ n
zero_of job n is also = some_is 0 n (sym is ∙ also)

module _ (page_of : List ℕ → Listed) where
  abbrev NoPlans : List Dispatched → Type 0
  NoPlans planning = planning ≡ []

  -- ---- no abort

  abbrev no_abort_create : Dispatched
  no_abort_create = sent_as create_job 0 0 1 0 false (well create_answered ∷ []) create [] 2

  abbrev no_abort_denied : Dispatched
  no_abort_denied = sent_as (part_job 1) 0 2 3 0 false (denied ∷ []) (part 1) (1 ∷ []) 2

  abbrev no_abort_jobs : List Dispatched
  no_abort_jobs = no_abort_create ∷ no_abort_denied ∷ []

  abbrev no_abort_coming : List Dispatched
  no_abort_coming = no_abort_create ∷ no_abort_denied ∷ []

  no_abort_lanes : (lane : ℕ) → lane < 2 → carrying.IsLane page_of orders.no_abort.setting no_abort_coming orders.no_abort.logs orders.no_abort.notes no_abort_jobs lane
  no_abort_lanes zero used = record { in_turn = (((λ place come. let is : 3 ≡ place = some_is 3 place come in omega arith), tt), (tt, tt)); gained = refl; noted = noting.first page_of (noting.nth 1 no_abort_create (well create_answered)) 2 (noting.nth 1 no_abort_denied (denied) ∷ []) _ refl (refl, refl, refl) (noting.first page_of (noting.nth 1 no_abort_denied (denied)) 3 [] _ refl (refl, refl, refl) (noting.done page_of)) }
  no_abort_lanes (suc zero) used = record { in_turn = tt; gained = refl; noted = noting.done page_of }
  no_abort_lanes (suc (suc lane)) used = absurd (omega arith)

  no_abort_written : carrying.IsWritten page_of orders.no_abort.setting no_abort_coming orders.no_abort.journal orders.no_abort.logs orders.no_abort.notes no_abort_jobs
  no_abort_written = record {
    shown = refl;
    comes = ((1, mark.Success ∷ [], refl, refl, refl), ((3, mark.Refusal ∷ [], refl, refl, refl), tt));
    inside = (omega arith, (omega arith, tt));
    unused = λ lane beyond. (carrying.none_in_two _ _ lane beyond, carrying.none_in_two _ _ lane beyond);
    known = (tt, ((no_abort_create, at no_abort_jobs 0 no_abort_create refl, refl), (tt, ((no_abort_denied, at no_abort_jobs 1 no_abort_denied refl, refl), tt))));
    lanes = no_abort_lanes;
    marks = ((refl, tt), ((refl, tt), tt));
    again = (((λ more. absurd (omega arith)), tt), (((λ more. absurd (omega arith)), tt), tt));
    given_again = (tt, (tt, tt));
    at_most = (omega arith, (omega arith, tt));
    ends = ((λ goes. absurd (never goes)), ((λ goes. absurd (never goes)), tt));
  }

  no_abort_failure : (failed : Dispatched) → HasFailed page_of NoPlans orders.no_abort no_abort_jobs no_abort_coming failed → no_abort_denied ≡ failed
  no_abort_failure failed is_failed = failures (Reads page_of) orders.no_abort.setting (λ (c : Dispatched). no_abort_denied ≡ c) no_abort_coming (inr (inl (refl, λ shown b shows. tt)), (inr (inr refl), tt)) failed is_failed

  no_abort_stops : ruling.Holds page_of NoPlans orders.no_abort no_abort_jobs no_abort_coming Stops
  no_abort_stops failed c is_failed of_task no_abort known same late =
      each (λ (d : Dispatched). 3 < d.dispatch.given_at → d.dispatch.job.op ≡ op.Abort) no_abort_jobs ((λ late. absurd (omega arith)), ((λ late. absurd (omega arith)), tt)) c known
      (subst (λ (d : Dispatched). IsBefore d.dispatch.came_at c.dispatch.given_at) (sym (no_abort_failure failed is_failed)) late)

  no_abort_parts : ruling.Parts page_of NoPlans orders.no_abort no_abort_jobs no_abort_coming Aborts
  unfolding to_upload to_copy from_copy
  no_abort_parts = record {
    is_coming = λ other. IsPermutation-refl no_abort_jobs;
    in_order = λ other. ((omega arith, tt), (tt, tt));
    asks = λ other. ((upload, 1, 2, refl, upload_pieces, refl, refl, (to_upload, refl, refl, refl)), ((upload, 1, 2, refl, upload_pieces, refl, refl, (to_upload, id, (no_abort_create, at no_abort_jobs 0 no_abort_create refl, refl, omega arith, (refl, [], (refl, refl))), (omega arith, omega arith), refl, ap (λ (all : List ℕ). piece_of all 1 1) body_is)), tt));
    plans = λ other. refl;
    planned = λ other. (tt, (tt, tt));
    numbered = λ other. tt;
    one_by_one = λ other. tt;
    dry = λ other. refl;
    twice = λ other. (tt, (tt, tt));
    no_third = λ other. (omega arith, (omega arith, tt));
    stops = λ other. no_abort_stops;
    abort_last = λ other. ruling.no_abort_last page_of NoPlans orders.no_abort no_abort_jobs no_abort_coming (refl, (refl, tt));
    aborts = λ other. absurd (other refl);
    completed_stays = λ other. ruling.none_completed page_of NoPlans orders.no_abort no_abort_jobs no_abort_coming (refl, (refl, tt));
    moves_last = λ other. ruling.none_deletes page_of NoPlans orders.no_abort no_abort_jobs no_abort_coming (refl, (refl, tt));
  }

  -- ---- early abort

  abbrev early_abort_create : Dispatched
  early_abort_create = sent_as create_job 0 0 1 0 false (well create_answered ∷ []) create [] 2

  abbrev early_abort_denied : Dispatched
  early_abort_denied = sent_as (part_job 1) 1 2 5 0 false (denied ∷ []) (part 1) (1 ∷ []) 2

  abbrev early_abort_abort : Dispatched
  early_abort_abort = sent_as abort_job 0 3 4 0 false (well abort_answered ∷ []) abort [] 2

  abbrev early_abort_jobs : List Dispatched
  early_abort_jobs = early_abort_create ∷ early_abort_denied ∷ early_abort_abort ∷ []

  abbrev early_abort_coming : List Dispatched
  early_abort_coming = early_abort_create ∷ early_abort_abort ∷ early_abort_denied ∷ []

  early_abort_lanes : (lane : ℕ) → lane < 2 → carrying.IsLane page_of orders.early_abort.setting early_abort_coming orders.early_abort.logs orders.early_abort.notes early_abort_jobs lane
  early_abort_lanes zero used = record { in_turn = (((λ place come. let is : 4 ≡ place = some_is 4 place come in omega arith), tt), (tt, tt)); gained = refl; noted = noting.first page_of (noting.nth 1 early_abort_create (well create_answered)) 2 (noting.nth 1 early_abort_abort (well abort_answered) ∷ []) _ refl (refl, refl, refl) (noting.first page_of (noting.nth 1 early_abort_abort (well abort_answered)) 6 [] _ refl (refl, refl, refl) (noting.done page_of)) }
  early_abort_lanes (suc zero) used = record { in_turn = (tt, tt); gained = refl; noted = noting.first page_of (noting.nth 1 early_abort_denied (denied)) 3 [] _ refl (refl, refl, refl) (noting.done page_of) }
  early_abort_lanes (suc (suc lane)) used = absurd (omega arith)

  early_abort_written : carrying.IsWritten page_of orders.early_abort.setting early_abort_coming orders.early_abort.journal orders.early_abort.logs orders.early_abort.notes early_abort_jobs
  early_abort_written = record {
    shown = refl;
    comes = ((1, mark.Success ∷ [], refl, refl, refl), ((5, mark.Refusal ∷ [], refl, refl, refl), ((4, mark.Success ∷ [], refl, refl, refl), tt)));
    inside = (omega arith, (omega arith, (omega arith, tt)));
    unused = λ lane beyond. (carrying.none_in_two _ _ lane beyond, carrying.none_in_two _ _ lane beyond);
    known = (tt, ((early_abort_create, at early_abort_jobs 0 early_abort_create refl, refl), (tt, (tt, ((early_abort_abort, at early_abort_jobs 2 early_abort_abort refl, refl), ((early_abort_denied, at early_abort_jobs 1 early_abort_denied refl, refl), tt))))));
    lanes = early_abort_lanes;
    marks = ((refl, tt), ((refl, tt), ((refl, tt), tt)));
    again = (((λ more. absurd (omega arith)), tt), (((λ more. absurd (omega arith)), tt), (((λ more. absurd (omega arith)), tt), tt)));
    given_again = (tt, (tt, (tt, tt)));
    at_most = (omega arith, (omega arith, (omega arith, tt)));
    ends = ((λ goes. absurd (never goes)), ((λ goes. absurd (never goes)), ((λ goes. absurd (never goes)), tt)));
  }

  early_abort_failure : (failed : Dispatched) → HasFailed page_of NoPlans orders.early_abort early_abort_jobs early_abort_coming failed → early_abort_denied ≡ failed
  early_abort_failure failed is_failed = failures (Reads page_of) orders.early_abort.setting (λ (c : Dispatched). early_abort_denied ≡ c) early_abort_coming (inr (inl (refl, λ shown b shows. tt)), (inr (inl (refl, λ shown b shows. tt)), (inr (inr refl), tt))) failed is_failed

  early_abort_stops : ruling.Holds page_of NoPlans orders.early_abort early_abort_jobs early_abort_coming Stops
  early_abort_stops failed c is_failed of_task no_abort known same late =
      each (λ (d : Dispatched). 5 < d.dispatch.given_at → d.dispatch.job.op ≡ op.Abort) early_abort_jobs ((λ late. absurd (omega arith)), ((λ late. absurd (omega arith)), ((λ late. absurd (omega arith)), tt))) c known
      (subst (λ (d : Dispatched). IsBefore d.dispatch.came_at c.dispatch.given_at) (sym (early_abort_failure failed is_failed)) late)

  early_abort_aborts : ruling.Holds page_of NoPlans orders.early_abort early_abort_jobs early_abort_coming Aborts
  early_abort_aborts n of_id end ended made =
      let zero : 0 ≡ n = each (λ (d : Dispatched). d.dispatch.job ≡ job_of n op.Create 0 → 0 ≡ n) early_abort_jobs ((λ is. zero_of create_job n refl (ap (λ (job : JobId). job.task) is)), ((λ is. zero_of (part_job 1) n refl (ap (λ (job : JobId). job.task) is)), ((λ is. zero_of abort_job n refl (ap (λ (job : JobId). job.task) is)), tt))) made.0 made.1 made.2 in
      inr (early_abort_abort, at early_abort_jobs 2 early_abort_abort refl, ap (λ (m : ℕ). job_of m op.Abort 0) zero)

  early_abort_swapped : IsPermutation early_abort_jobs early_abort_coming
  early_abort_swapped = IsPermutation-append_right (early_abort_create ∷ []) (early_abort_denied ∷ early_abort_abort ∷ []) (early_abort_abort ∷ early_abort_denied ∷ []) (IsPermutation-append_comm (early_abort_denied ∷ []) (early_abort_abort ∷ []))

  early_abort_parts : ruling.Parts page_of NoPlans orders.early_abort early_abort_jobs early_abort_coming AbortLast
  unfolding to_upload to_copy from_copy
  early_abort_parts = record {
    is_coming = λ other. early_abort_swapped;
    in_order = λ other. ((omega arith, (omega arith, tt)), ((omega arith, tt), (tt, tt)));
    asks = λ other. ((upload, 1, 2, refl, upload_pieces, refl, refl, (to_upload, refl, refl, refl)), ((upload, 1, 2, refl, upload_pieces, refl, refl, (to_upload, id, (early_abort_create, at early_abort_jobs 0 early_abort_create refl, refl, omega arith, (refl, [], (refl, refl))), (omega arith, omega arith), refl, ap (λ (all : List ℕ). piece_of all 1 1) body_is)), ((upload, 1, 2, refl, upload_pieces, refl, refl, ((to_upload, id, (early_abort_create, at early_abort_jobs 0 early_abort_create refl, refl, omega arith, (refl, [], (refl, refl))), refl), refl, refl)), tt)));
    plans = λ other. refl;
    planned = λ other. (tt, (tt, (tt, tt)));
    numbered = λ other. tt;
    one_by_one = λ other. tt;
    dry = λ other. refl;
    twice = λ other. (tt, (tt, (tt, tt)));
    no_third = λ other. (omega arith, (omega arith, (omega arith, tt)));
    stops = λ other. early_abort_stops;
    abort_last = λ other. absurd (other refl);
    aborts = λ other. early_abort_aborts;
    completed_stays = λ other. ruling.none_completed page_of NoPlans orders.early_abort early_abort_jobs early_abort_coming (refl, (refl, (refl, tt)));
    moves_last = λ other. ruling.none_deletes page_of NoPlans orders.early_abort early_abort_jobs early_abort_coming (refl, (refl, (refl, tt)));
  }

  -- ---- early delete

  abbrev early_delete_copy : Dispatched
  early_delete_copy = sent_as copy_job 0 0 2 0 false (well copy_answered ∷ []) copy_ask [] 1

  abbrev early_delete_delete : Dispatched
  early_delete_delete = sent_as delete_job 1 1 3 0 false (well delete_answered ∷ []) delete [] 1

  abbrev early_delete_jobs : List Dispatched
  early_delete_jobs = early_delete_copy ∷ early_delete_delete ∷ []

  abbrev early_delete_coming : List Dispatched
  early_delete_coming = early_delete_copy ∷ early_delete_delete ∷ []

  early_delete_lanes : (lane : ℕ) → lane < 2 → carrying.IsLane page_of orders.early_delete.setting early_delete_coming orders.early_delete.logs orders.early_delete.notes early_delete_jobs lane
  early_delete_lanes zero used = record { in_turn = (tt, tt); gained = refl; noted = noting.first page_of (noting.nth 1 early_delete_copy (well copy_answered)) 1 [] _ refl (refl, refl, refl) (noting.done page_of) }
  early_delete_lanes (suc zero) used = record { in_turn = (tt, tt); gained = refl; noted = noting.first page_of (noting.nth 1 early_delete_delete (well delete_answered)) 4 [] _ refl (refl, refl, refl) (noting.done page_of) }
  early_delete_lanes (suc (suc lane)) used = absurd (omega arith)

  early_delete_written : carrying.IsWritten page_of orders.early_delete.setting early_delete_coming orders.early_delete.journal orders.early_delete.logs orders.early_delete.notes early_delete_jobs
  early_delete_written = record {
    shown = refl;
    comes = ((2, mark.Success ∷ [], refl, refl, refl), ((3, mark.Success ∷ [], refl, refl, refl), tt));
    inside = (omega arith, (omega arith, tt));
    unused = λ lane beyond. (carrying.none_in_two _ _ lane beyond, carrying.none_in_two _ _ lane beyond);
    known = (tt, (tt, ((early_delete_copy, at early_delete_jobs 0 early_delete_copy refl, refl), ((early_delete_delete, at early_delete_jobs 1 early_delete_delete refl, refl), tt))));
    lanes = early_delete_lanes;
    marks = ((refl, tt), ((refl, tt), tt));
    again = (((λ more. absurd (omega arith)), tt), (((λ more. absurd (omega arith)), tt), tt));
    given_again = (tt, (tt, tt));
    at_most = (omega arith, (omega arith, tt));
    ends = ((λ goes. absurd (never goes)), ((λ goes. absurd (never goes)), tt));
  }

  early_delete_stops : ruling.Holds page_of NoPlans orders.early_delete early_delete_jobs early_delete_coming Stops
  early_delete_stops = ruling.none_stops page_of NoPlans orders.early_delete early_delete_jobs early_delete_coming (inr (inl (refl, λ shown b shows. tt)), (inr (inl (refl, λ shown b shows. tt)), tt))

  early_delete_parts : ruling.Parts page_of NoPlans orders.early_delete early_delete_jobs early_delete_coming MovesLast
  unfolding to_upload to_copy from_copy
  early_delete_parts = record {
    is_coming = λ other. IsPermutation-refl early_delete_jobs;
    in_order = λ other. ((omega arith, tt), (tt, tt));
    asks = λ other. ((copy, 1, 1, refl, copy_pieces, refl, refl, (to_copy, from_copy, refl, refl, refl)), ((copy, 1, 1, refl, copy_pieces, refl, refl, ((from_copy, refl, refl), refl, refl)), tt));
    plans = λ other. refl;
    planned = λ other. (tt, (tt, tt));
    numbered = λ other. tt;
    one_by_one = λ other. tt;
    dry = λ other. refl;
    twice = λ other. (tt, (tt, tt));
    no_third = λ other. (omega arith, (omega arith, tt));
    stops = λ other. early_delete_stops;
    abort_last = λ other. ruling.no_abort_last page_of NoPlans orders.early_delete early_delete_jobs early_delete_coming (refl, (refl, tt));
    aborts = λ other. ruling.none_created page_of NoPlans orders.early_delete early_delete_jobs early_delete_coming (refl, (refl, tt));
    completed_stays = λ other. ruling.none_completed page_of NoPlans orders.early_delete early_delete_jobs early_delete_coming (refl, (refl, tt));
    moves_last = λ other. absurd (other refl);
  }

  -- ---- after failure

  abbrev after_failure_create : Dispatched
  after_failure_create = sent_as create_job 0 0 1 0 false (well create_answered ∷ []) create [] 2

  abbrev after_failure_denied : Dispatched
  after_failure_denied = sent_as (part_job 1) 0 2 3 0 false (denied ∷ []) (part 1) (1 ∷ []) 2

  abbrev after_failure_part2 : Dispatched
  after_failure_part2 = sent_as (part_job 2) 0 4 5 0 false (well second_stored ∷ []) (part 2) (2 ∷ []) 2

  abbrev after_failure_abort : Dispatched
  after_failure_abort = sent_as abort_job 0 6 7 0 false (well abort_answered ∷ []) abort [] 2

  abbrev after_failure_jobs : List Dispatched
  after_failure_jobs = after_failure_create ∷ after_failure_denied ∷ after_failure_part2 ∷ after_failure_abort ∷ []

  abbrev after_failure_coming : List Dispatched
  after_failure_coming = after_failure_create ∷ after_failure_denied ∷ after_failure_part2 ∷ after_failure_abort ∷ []

  after_failure_lanes : (lane : ℕ) → lane < 2 → carrying.IsLane page_of orders.after_failure.setting after_failure_coming orders.after_failure.logs orders.after_failure.notes after_failure_jobs lane
  after_failure_lanes zero used = record { in_turn = (((λ place come. let is : 3 ≡ place = some_is 3 place come in omega arith), ((λ place come. let is : 5 ≡ place = some_is 5 place come in omega arith), ((λ place come. let is : 7 ≡ place = some_is 7 place come in omega arith), tt))), (((λ place come. let is : 5 ≡ place = some_is 5 place come in omega arith), ((λ place come. let is : 7 ≡ place = some_is 7 place come in omega arith), tt)), (((λ place come. let is : 7 ≡ place = some_is 7 place come in omega arith), tt), (tt, tt)))); gained = refl; noted = noting.first page_of (noting.nth 1 after_failure_create (well create_answered)) 2 (noting.nth 1 after_failure_denied (denied) ∷ noting.nth 1 after_failure_part2 (well second_stored) ∷ noting.nth 1 after_failure_abort (well abort_answered) ∷ []) _ refl (refl, refl, refl) (noting.first page_of (noting.nth 1 after_failure_denied (denied)) 3 (noting.nth 1 after_failure_part2 (well second_stored) ∷ noting.nth 1 after_failure_abort (well abort_answered) ∷ []) _ refl (refl, refl, refl) (noting.first page_of (noting.nth 1 after_failure_part2 (well second_stored)) 4 (noting.nth 1 after_failure_abort (well abort_answered) ∷ []) _ refl (refl, refl, refl) (noting.first page_of (noting.nth 1 after_failure_abort (well abort_answered)) 6 [] _ refl (refl, refl, refl) (noting.done page_of)))) }
  after_failure_lanes (suc zero) used = record { in_turn = tt; gained = refl; noted = noting.done page_of }
  after_failure_lanes (suc (suc lane)) used = absurd (omega arith)

  after_failure_written : carrying.IsWritten page_of orders.after_failure.setting after_failure_coming orders.after_failure.journal orders.after_failure.logs orders.after_failure.notes after_failure_jobs
  after_failure_written = record {
    shown = refl;
    comes = ((1, mark.Success ∷ [], refl, refl, refl), ((3, mark.Refusal ∷ [], refl, refl, refl), ((5, mark.Success ∷ [], refl, refl, refl), ((7, mark.Success ∷ [], refl, refl, refl), tt))));
    inside = (omega arith, (omega arith, (omega arith, (omega arith, tt))));
    unused = λ lane beyond. (carrying.none_in_two _ _ lane beyond, carrying.none_in_two _ _ lane beyond);
    known = (tt, ((after_failure_create, at after_failure_jobs 0 after_failure_create refl, refl), (tt, ((after_failure_denied, at after_failure_jobs 1 after_failure_denied refl, refl), (tt, ((after_failure_part2, at after_failure_jobs 2 after_failure_part2 refl, refl), (tt, ((after_failure_abort, at after_failure_jobs 3 after_failure_abort refl, refl), tt))))))));
    lanes = after_failure_lanes;
    marks = ((refl, tt), ((refl, tt), ((refl, tt), ((refl, tt), tt))));
    again = (((λ more. absurd (omega arith)), tt), (((λ more. absurd (omega arith)), tt), (((λ more. absurd (omega arith)), tt), (((λ more. absurd (omega arith)), tt), tt))));
    given_again = (tt, (tt, (tt, (tt, tt))));
    at_most = (omega arith, (omega arith, (omega arith, (omega arith, tt))));
    ends = ((λ goes. absurd (never goes)), ((λ goes. absurd (never goes)), ((λ goes. absurd (never goes)), ((λ goes. absurd (never goes)), tt))));
  }

  after_failure_abort_last : ruling.Holds page_of NoPlans orders.after_failure after_failure_jobs after_failure_coming AbortLast
  after_failure_abort_last a c known_a known is_abort same other =
      subst (λ (d : Dispatched). IsBefore c.dispatch.came_at d.dispatch.given_at)
      (each (λ (d : Dispatched). d.dispatch.job.op ≡ op.Abort → after_failure_abort ≡ d) after_failure_jobs ((λ same. absurd (other_op op.Create op.Abort refl same)), ((λ same. absurd (other_op op.Part op.Abort refl same)), ((λ same. absurd (other_op op.Part op.Abort refl same)), ((λ same. refl), tt)))) a known_a is_abort)
      (each (λ (d : Dispatched). (d.dispatch.job.op ≡ op.Abort → ⊥) → IsBefore d.dispatch.came_at 6) after_failure_jobs ((λ none. omega arith), ((λ none. omega arith), ((λ none. omega arith), ((λ none. absurd (none refl)), tt)))) c known other)

  after_failure_aborts : ruling.Holds page_of NoPlans orders.after_failure after_failure_jobs after_failure_coming Aborts
  after_failure_aborts n of_id end ended made =
      let zero : 0 ≡ n = each (λ (d : Dispatched). d.dispatch.job ≡ job_of n op.Create 0 → 0 ≡ n) after_failure_jobs ((λ is. zero_of create_job n refl (ap (λ (job : JobId). job.task) is)), ((λ is. zero_of (part_job 1) n refl (ap (λ (job : JobId). job.task) is)), ((λ is. zero_of (part_job 2) n refl (ap (λ (job : JobId). job.task) is)), ((λ is. zero_of abort_job n refl (ap (λ (job : JobId). job.task) is)), tt)))) made.0 made.1 made.2 in
      inr (after_failure_abort, at after_failure_jobs 3 after_failure_abort refl, ap (λ (m : ℕ). job_of m op.Abort 0) zero)

  after_failure_asks : Each (λ (c : Dispatched). ruling.AskRule page_of NoPlans orders.after_failure after_failure_jobs after_failure_coming c c.dispatch.job.task) after_failure_jobs
  unfolding to_upload
  after_failure_asks = ((upload, 1, 2, refl, upload_pieces, refl, refl, (to_upload, refl, refl, refl)), ((upload, 1, 2, refl, upload_pieces, refl, refl, (to_upload, id, (after_failure_create, at after_failure_jobs 0 after_failure_create refl, refl, omega arith, (refl, [], (refl, refl))), (omega arith, omega arith), refl, ap (λ (all : List ℕ). piece_of all 1 1) body_is)), ((upload, 1, 2, refl, upload_pieces, refl, refl, (to_upload, id, (after_failure_create, at after_failure_jobs 0 after_failure_create refl, refl, omega arith, (refl, [], (refl, refl))), (omega arith, omega arith), refl, ap (λ (all : List ℕ). piece_of all 1 2) body_is)), ((upload, 1, 2, refl, upload_pieces, refl, refl, ((to_upload, id, (after_failure_create, at after_failure_jobs 0 after_failure_create refl, refl, omega arith, (refl, [], (refl, refl))), refl), refl, refl)), tt))))

  after_failure_parts : ruling.Parts page_of NoPlans orders.after_failure after_failure_jobs after_failure_coming Stops
  unfolding to_upload to_copy from_copy
  after_failure_parts = record {
    is_coming = λ other. IsPermutation-refl after_failure_jobs;
    in_order = λ other. ((omega arith, (omega arith, (omega arith, tt))), ((omega arith, (omega arith, tt)), ((omega arith, tt), (tt, tt))));
    asks = λ other. after_failure_asks;
    plans = λ other. refl;
    planned = λ other. (tt, (tt, (tt, (tt, tt))));
    numbered = λ other. tt;
    one_by_one = λ other. tt;
    dry = λ other. refl;
    twice = λ other. (tt, (tt, (tt, (tt, tt))));
    no_third = λ other. (omega arith, (omega arith, (omega arith, (omega arith, tt))));
    stops = λ other. absurd (other refl);
    abort_last = λ other. after_failure_abort_last;
    aborts = λ other. after_failure_aborts;
    completed_stays = λ other. ruling.none_completed page_of NoPlans orders.after_failure after_failure_jobs after_failure_coming (refl, (refl, (refl, (refl, tt))));
    moves_last = λ other. ruling.none_deletes page_of NoPlans orders.after_failure after_failure_jobs after_failure_coming (refl, (refl, (refl, (refl, tt))));
  }

  -- with nothing among those that came

  unseen_written : carrying.IsWritten page_of orders.after_failure.setting [] orders.after_failure.journal orders.after_failure.logs orders.after_failure.notes after_failure_jobs
  unseen_written = record {
    shown = refl;
    comes = after_failure_written.comes;
    inside = after_failure_written.inside;
    unused = after_failure_written.unused;
    known = after_failure_written.known;
    lanes = λ lane used. let is = after_failure_lanes lane used in record { in_turn = is.in_turn; gained = is.gained; noted = is.noted };
    marks = after_failure_written.marks;
    again = after_failure_written.again;
    given_again = after_failure_written.given_again;
    at_most = after_failure_written.at_most;
    ends = ((λ goes. absurd (never goes)), ((λ goes. absurd (never goes)), ((λ goes. absurd (never goes)), ((λ goes. absurd (never goes)), tt))));
  }

  no_middle_of : (front : List Dispatched) (c : Dispatched) (later : List Dispatched) → [] ≡ front ++ c ∷ later → ⊥
  no_middle_of [] c later e = cc
  no_middle_of (d ∷ front) c later e = cc

  unseen_parts : ruling.Parts page_of NoPlans orders.after_failure after_failure_jobs [] IsComing
  unseen_parts = record {
    is_coming = λ other. absurd (other refl);
    in_order = λ other. tt;
    asks = λ other. after_failure_asks;
    plans = λ other. refl;
    planned = λ other. (tt, (tt, (tt, (tt, tt))));
    numbered = λ other. tt;
    one_by_one = λ other. tt;
    dry = λ other. refl;
    twice = λ other. (tt, (tt, (tt, (tt, tt))));
    no_third = λ other. (omega arith, (omega arith, (omega arith, (omega arith, tt))));
    stops = λ other failed c is_failed of_task no_abort known same late. absurd (no_middle_of is_failed.0 failed is_failed.1 is_failed.2);
    abort_last = λ other. after_failure_abort_last;
    aborts = λ other. after_failure_aborts;
    completed_stays = λ other. ruling.none_completed page_of NoPlans orders.after_failure after_failure_jobs [] (refl, (refl, (refl, (refl, tt))));
    moves_last = λ other. ruling.none_deletes page_of NoPlans orders.after_failure after_failure_jobs [] (refl, (refl, (refl, (refl, tt))));
  }

  -- ---- abort after complete

  abbrev abort_after_complete_create : Dispatched
  abort_after_complete_create = sent_as create_job 0 0 1 0 false (well create_answered ∷ []) create [] 2

  abbrev abort_after_complete_part1 : Dispatched
  abort_after_complete_part1 = sent_as (part_job 1) 0 2 3 0 false (well first_stored ∷ []) (part 1) (1 ∷ []) 2

  abbrev abort_after_complete_part2 : Dispatched
  abort_after_complete_part2 = sent_as (part_job 2) 0 4 5 0 false (well second_stored ∷ []) (part 2) (2 ∷ []) 2

  abbrev abort_after_complete_complete : Dispatched
  abort_after_complete_complete = sent_as complete_job 0 6 7 0 false (well complete_answered ∷ []) complete document 2

  abbrev abort_after_complete_abort : Dispatched
  abort_after_complete_abort = sent_as abort_job 0 8 9 0 false (well abort_answered ∷ []) abort [] 2

  abbrev abort_after_complete_jobs : List Dispatched
  abort_after_complete_jobs = abort_after_complete_create ∷ abort_after_complete_part1 ∷ abort_after_complete_part2 ∷ abort_after_complete_complete ∷ abort_after_complete_abort ∷ []

  abbrev abort_after_complete_coming : List Dispatched
  abort_after_complete_coming = abort_after_complete_create ∷ abort_after_complete_part1 ∷ abort_after_complete_part2 ∷ abort_after_complete_complete ∷ abort_after_complete_abort ∷ []

  abort_after_complete_lanes : (lane : ℕ) → lane < 2 → carrying.IsLane page_of orders.abort_after_complete.setting abort_after_complete_coming orders.abort_after_complete.logs orders.abort_after_complete.notes abort_after_complete_jobs lane
  abort_after_complete_lanes zero used = record { in_turn = (((λ place come. let is : 3 ≡ place = some_is 3 place come in omega arith), ((λ place come. let is : 5 ≡ place = some_is 5 place come in omega arith), ((λ place come. let is : 7 ≡ place = some_is 7 place come in omega arith), ((λ place come. let is : 9 ≡ place = some_is 9 place come in omega arith), tt)))), (((λ place come. let is : 5 ≡ place = some_is 5 place come in omega arith), ((λ place come. let is : 7 ≡ place = some_is 7 place come in omega arith), ((λ place come. let is : 9 ≡ place = some_is 9 place come in omega arith), tt))), (((λ place come. let is : 7 ≡ place = some_is 7 place come in omega arith), ((λ place come. let is : 9 ≡ place = some_is 9 place come in omega arith), tt)), (((λ place come. let is : 9 ≡ place = some_is 9 place come in omega arith), tt), (tt, tt))))); gained = refl; noted = noting.first page_of (noting.nth 1 abort_after_complete_create (well create_answered)) 2 (noting.nth 1 abort_after_complete_part1 (well first_stored) ∷ noting.nth 1 abort_after_complete_part2 (well second_stored) ∷ noting.nth 1 abort_after_complete_complete (well complete_answered) ∷ noting.nth 1 abort_after_complete_abort (well abort_answered) ∷ []) _ refl (refl, refl, refl) (noting.first page_of (noting.nth 1 abort_after_complete_part1 (well first_stored)) 3 (noting.nth 1 abort_after_complete_part2 (well second_stored) ∷ noting.nth 1 abort_after_complete_complete (well complete_answered) ∷ noting.nth 1 abort_after_complete_abort (well abort_answered) ∷ []) _ refl (refl, refl, refl) (noting.first page_of (noting.nth 1 abort_after_complete_part2 (well second_stored)) 4 (noting.nth 1 abort_after_complete_complete (well complete_answered) ∷ noting.nth 1 abort_after_complete_abort (well abort_answered) ∷ []) _ refl (refl, refl, refl) (noting.first page_of (noting.nth 1 abort_after_complete_complete (well complete_answered)) 5 (noting.nth 1 abort_after_complete_abort (well abort_answered) ∷ []) _ refl (refl, refl, refl) (noting.first page_of (noting.nth 1 abort_after_complete_abort (well abort_answered)) 6 [] _ refl (refl, refl, refl) (noting.done page_of))))) }
  abort_after_complete_lanes (suc zero) used = record { in_turn = tt; gained = refl; noted = noting.done page_of }
  abort_after_complete_lanes (suc (suc lane)) used = absurd (omega arith)

  abort_after_complete_written : carrying.IsWritten page_of orders.abort_after_complete.setting abort_after_complete_coming orders.abort_after_complete.journal orders.abort_after_complete.logs orders.abort_after_complete.notes abort_after_complete_jobs
  abort_after_complete_written = record {
    shown = refl;
    comes = ((1, mark.Success ∷ [], refl, refl, refl), ((3, mark.Success ∷ [], refl, refl, refl), ((5, mark.Success ∷ [], refl, refl, refl), ((7, mark.Success ∷ [], refl, refl, refl), ((9, mark.Success ∷ [], refl, refl, refl), tt)))));
    inside = (omega arith, (omega arith, (omega arith, (omega arith, (omega arith, tt)))));
    unused = λ lane beyond. (carrying.none_in_two _ _ lane beyond, carrying.none_in_two _ _ lane beyond);
    known = (tt, ((abort_after_complete_create, at abort_after_complete_jobs 0 abort_after_complete_create refl, refl), (tt, ((abort_after_complete_part1, at abort_after_complete_jobs 1 abort_after_complete_part1 refl, refl), (tt, ((abort_after_complete_part2, at abort_after_complete_jobs 2 abort_after_complete_part2 refl, refl), (tt, ((abort_after_complete_complete, at abort_after_complete_jobs 3 abort_after_complete_complete refl, refl), (tt, ((abort_after_complete_abort, at abort_after_complete_jobs 4 abort_after_complete_abort refl, refl), tt))))))))));
    lanes = abort_after_complete_lanes;
    marks = ((refl, tt), ((refl, tt), ((refl, tt), ((refl, tt), ((refl, tt), tt)))));
    again = (((λ more. absurd (omega arith)), tt), (((λ more. absurd (omega arith)), tt), (((λ more. absurd (omega arith)), tt), (((λ more. absurd (omega arith)), tt), (((λ more. absurd (omega arith)), tt), tt)))));
    given_again = (tt, (tt, (tt, (tt, (tt, tt)))));
    at_most = (omega arith, (omega arith, (omega arith, (omega arith, (omega arith, tt)))));
    ends = ((λ goes. absurd (never goes)), ((λ goes. absurd (never goes)), ((λ goes. absurd (never goes)), ((λ goes. absurd (never goes)), ((λ goes. absurd (never goes)), tt)))));
  }

  abort_after_complete_etags : AreETags (gained_before (Reads page_of) abort_after_complete_jobs 6) 0 op.Part 2 (first_etag ∷ second_etag ∷ [])
  abort_after_complete_etags = record {
    each_part = refl;
    in_order = λ n etag at_n. slot (λ (k : ℕ) (x : List ℕ). gained_before (Reads page_of) abort_after_complete_jobs 6 (job_of 0 op.Part (k + 1)) (reply.PartStored x)) (first_etag ∷ second_etag ∷ [])
        ((abort_after_complete_part1, at abort_after_complete_jobs 1 abort_after_complete_part1 refl, refl, omega arith, (refl, [], (refl, refl))), ((abort_after_complete_part2, at abort_after_complete_jobs 2 abort_after_complete_part2 refl, refl, omega arith, (refl, [], (refl, refl))), tt)) n etag at_n;
  }

  abort_after_complete_stops : ruling.Holds page_of NoPlans orders.abort_after_complete abort_after_complete_jobs abort_after_complete_coming Stops
  abort_after_complete_stops = ruling.none_stops page_of NoPlans orders.abort_after_complete abort_after_complete_jobs abort_after_complete_coming (inr (inl (refl, λ shown b shows. tt)), (inr (inl (refl, λ shown b shows. tt)), (inr (inl (refl, λ shown b shows. tt)), (inr (inl (refl, λ shown b shows. tt)), (inr (inl (refl, λ shown b shows. tt)), tt)))))

  abort_after_complete_abort_last : ruling.Holds page_of NoPlans orders.abort_after_complete abort_after_complete_jobs abort_after_complete_coming AbortLast
  abort_after_complete_abort_last a c known_a known is_abort same other =
      subst (λ (d : Dispatched). IsBefore c.dispatch.came_at d.dispatch.given_at)
      (each (λ (d : Dispatched). d.dispatch.job.op ≡ op.Abort → abort_after_complete_abort ≡ d) abort_after_complete_jobs ((λ same. absurd (other_op op.Create op.Abort refl same)), ((λ same. absurd (other_op op.Part op.Abort refl same)), ((λ same. absurd (other_op op.Part op.Abort refl same)), ((λ same. absurd (other_op op.Complete op.Abort refl same)), ((λ same. refl), tt))))) a known_a is_abort)
      (each (λ (d : Dispatched). (d.dispatch.job.op ≡ op.Abort → ⊥) → IsBefore d.dispatch.came_at 8) abort_after_complete_jobs ((λ none. omega arith), ((λ none. omega arith), ((λ none. omega arith), ((λ none. omega arith), ((λ none. absurd (none refl)), tt))))) c known other)

  abort_after_complete_aborts : ruling.Holds page_of NoPlans orders.abort_after_complete abort_after_complete_jobs abort_after_complete_coming Aborts
  abort_after_complete_aborts n of_id end ended made =
      let zero : 0 ≡ n = each (λ (d : Dispatched). d.dispatch.job ≡ job_of n op.Create 0 → 0 ≡ n) abort_after_complete_jobs ((λ is. zero_of create_job n refl (ap (λ (job : JobId). job.task) is)), ((λ is. zero_of (part_job 1) n refl (ap (λ (job : JobId). job.task) is)), ((λ is. zero_of (part_job 2) n refl (ap (λ (job : JobId). job.task) is)), ((λ is. zero_of complete_job n refl (ap (λ (job : JobId). job.task) is)), ((λ is. zero_of abort_job n refl (ap (λ (job : JobId). job.task) is)), tt))))) made.0 made.1 made.2 in
      inr (abort_after_complete_abort, at abort_after_complete_jobs 4 abort_after_complete_abort refl, ap (λ (m : ℕ). job_of m op.Abort 0) zero)

  abort_after_complete_parts : ruling.Parts page_of NoPlans orders.abort_after_complete abort_after_complete_jobs abort_after_complete_coming CompletedStays
  unfolding to_upload to_copy from_copy
  abort_after_complete_parts = record {
    is_coming = λ other. IsPermutation-refl abort_after_complete_jobs;
    in_order = λ other. ((omega arith, (omega arith, (omega arith, (omega arith, tt)))), ((omega arith, (omega arith, (omega arith, tt))), ((omega arith, (omega arith, tt)), ((omega arith, tt), (tt, tt)))));
    asks = λ other. ((upload, 1, 2, refl, upload_pieces, refl, refl, (to_upload, refl, refl, refl)), ((upload, 1, 2, refl, upload_pieces, refl, refl, (to_upload, id, (abort_after_complete_create, at abort_after_complete_jobs 0 abort_after_complete_create refl, refl, omega arith, (refl, [], (refl, refl))), (omega arith, omega arith), refl, ap (λ (all : List ℕ). piece_of all 1 1) body_is)), ((upload, 1, 2, refl, upload_pieces, refl, refl, (to_upload, id, (abort_after_complete_create, at abort_after_complete_jobs 0 abort_after_complete_create refl, refl, omega arith, (refl, [], (refl, refl))), (omega arith, omega arith), refl, ap (λ (all : List ℕ). piece_of all 1 2) body_is)), ((upload, 1, 2, refl, upload_pieces, refl, refl, ((to_upload, id, first_etag ∷ second_etag ∷ [], 0, (abort_after_complete_create, at abort_after_complete_jobs 0 abort_after_complete_create refl, refl, omega arith, (refl, [], (refl, refl))), abort_after_complete_etags, refl), refl, refl)), ((upload, 1, 2, refl, upload_pieces, refl, refl, ((to_upload, id, (abort_after_complete_create, at abort_after_complete_jobs 0 abort_after_complete_create refl, refl, omega arith, (refl, [], (refl, refl))), refl), refl, refl)), tt)))));
    plans = λ other. refl;
    planned = λ other. (tt, (tt, (tt, (tt, (tt, tt)))));
    numbered = λ other. tt;
    one_by_one = λ other. tt;
    dry = λ other. refl;
    twice = λ other. (tt, (tt, (tt, (tt, (tt, tt)))));
    no_third = λ other. (omega arith, (omega arith, (omega arith, (omega arith, (omega arith, tt)))));
    stops = λ other. abort_after_complete_stops;
    abort_last = λ other. abort_after_complete_abort_last;
    aborts = λ other. abort_after_complete_aborts;
    completed_stays = λ other. absurd (other refl);
    moves_last = λ other. ruling.none_deletes page_of NoPlans orders.abort_after_complete abort_after_complete_jobs abort_after_complete_coming (refl, (refl, (refl, (refl, (refl, tt)))));
  }

  -- ---- early complete

  abbrev early_complete_create : Dispatched
  early_complete_create = sent_as create_job 0 0 1 0 false (well create_answered ∷ []) create [] 2

  abbrev early_complete_part1 : Dispatched
  early_complete_part1 = sent_as (part_job 1) 0 2 3 0 false (well first_stored ∷ []) (part 1) (1 ∷ []) 2

  abbrev early_complete_complete : Dispatched
  early_complete_complete = sent_as complete_job 0 4 5 0 false (well complete_answered ∷ []) complete document 2

  abbrev early_complete_jobs : List Dispatched
  early_complete_jobs = early_complete_create ∷ early_complete_part1 ∷ early_complete_complete ∷ []

  abbrev early_complete_coming : List Dispatched
  early_complete_coming = early_complete_create ∷ early_complete_part1 ∷ early_complete_complete ∷ []

  early_complete_lanes : (lane : ℕ) → lane < 2 → carrying.IsLane page_of orders.early_complete.setting early_complete_coming orders.early_complete.logs orders.early_complete.notes early_complete_jobs lane
  early_complete_lanes zero used = record { in_turn = (((λ place come. let is : 3 ≡ place = some_is 3 place come in omega arith), ((λ place come. let is : 5 ≡ place = some_is 5 place come in omega arith), tt)), (((λ place come. let is : 5 ≡ place = some_is 5 place come in omega arith), tt), (tt, tt))); gained = refl; noted = noting.first page_of (noting.nth 1 early_complete_create (well create_answered)) 2 (noting.nth 1 early_complete_part1 (well first_stored) ∷ noting.nth 1 early_complete_complete (well complete_answered) ∷ []) _ refl (refl, refl, refl) (noting.first page_of (noting.nth 1 early_complete_part1 (well first_stored)) 3 (noting.nth 1 early_complete_complete (well complete_answered) ∷ []) _ refl (refl, refl, refl) (noting.first page_of (noting.nth 1 early_complete_complete (well complete_answered)) 5 [] _ refl (refl, refl, refl) (noting.done page_of))) }
  early_complete_lanes (suc zero) used = record { in_turn = tt; gained = refl; noted = noting.done page_of }
  early_complete_lanes (suc (suc lane)) used = absurd (omega arith)

  early_complete_written : carrying.IsWritten page_of orders.early_complete.setting early_complete_coming orders.early_complete.journal orders.early_complete.logs orders.early_complete.notes early_complete_jobs
  early_complete_written = record {
    shown = refl;
    comes = ((1, mark.Success ∷ [], refl, refl, refl), ((3, mark.Success ∷ [], refl, refl, refl), ((5, mark.Success ∷ [], refl, refl, refl), tt)));
    inside = (omega arith, (omega arith, (omega arith, tt)));
    unused = λ lane beyond. (carrying.none_in_two _ _ lane beyond, carrying.none_in_two _ _ lane beyond);
    known = (tt, ((early_complete_create, at early_complete_jobs 0 early_complete_create refl, refl), (tt, ((early_complete_part1, at early_complete_jobs 1 early_complete_part1 refl, refl), (tt, ((early_complete_complete, at early_complete_jobs 2 early_complete_complete refl, refl), tt))))));
    lanes = early_complete_lanes;
    marks = ((refl, tt), ((refl, tt), ((refl, tt), tt)));
    again = (((λ more. absurd (omega arith)), tt), (((λ more. absurd (omega arith)), tt), (((λ more. absurd (omega arith)), tt), tt)));
    given_again = (tt, (tt, (tt, tt)));
    at_most = (omega arith, (omega arith, (omega arith, tt)));
    ends = ((λ goes. absurd (never goes)), ((λ goes. absurd (never goes)), ((λ goes. absurd (never goes)), tt)));
  }

  early_complete_stops : ruling.Holds page_of NoPlans orders.early_complete early_complete_jobs early_complete_coming Stops
  early_complete_stops = ruling.none_stops page_of NoPlans orders.early_complete early_complete_jobs early_complete_coming (inr (inl (refl, λ shown b shows. tt)), (inr (inl (refl, λ shown b shows. tt)), (inr (inl (refl, λ shown b shows. tt)), tt)))

  early_complete_aborts : ruling.Holds page_of NoPlans orders.early_complete early_complete_jobs early_complete_coming Aborts
  early_complete_aborts n of_id end ended made =
      let zero : 0 ≡ n = each (λ (d : Dispatched). d.dispatch.job ≡ job_of n op.Create 0 → 0 ≡ n) early_complete_jobs ((λ is. zero_of create_job n refl (ap (λ (job : JobId). job.task) is)), ((λ is. zero_of (part_job 1) n refl (ap (λ (job : JobId). job.task) is)), ((λ is. zero_of complete_job n refl (ap (λ (job : JobId). job.task) is)), tt))) made.0 made.1 made.2 in
      inl (subst (λ (m : ℕ). gained_before (Reads page_of) early_complete_jobs end (job_of m op.Complete 0) reply.Completed) zero (early_complete_complete, at early_complete_jobs 2 early_complete_complete refl, refl, ended early_complete_complete (at early_complete_jobs 2 early_complete_complete refl), (refl, [], (refl, refl))))

  early_complete_parts : ruling.Parts page_of NoPlans orders.early_complete early_complete_jobs early_complete_coming Asks
  unfolding to_upload to_copy from_copy
  early_complete_parts = record {
    is_coming = λ other. IsPermutation-refl early_complete_jobs;
    in_order = λ other. ((omega arith, (omega arith, tt)), ((omega arith, tt), (tt, tt)));
    asks = λ other. absurd (other refl);
    plans = λ other. refl;
    planned = λ other. (tt, (tt, (tt, tt)));
    numbered = λ other. tt;
    one_by_one = λ other. tt;
    dry = λ other. refl;
    twice = λ other. (tt, (tt, (tt, tt)));
    no_third = λ other. (omega arith, (omega arith, (omega arith, tt)));
    stops = λ other. early_complete_stops;
    abort_last = λ other. ruling.no_abort_last page_of NoPlans orders.early_complete early_complete_jobs early_complete_coming (refl, (refl, (refl, tt)));
    aborts = λ other. early_complete_aborts;
    completed_stays = λ other. ruling.no_abort_of_one page_of NoPlans orders.early_complete early_complete_jobs early_complete_coming (refl, (refl, (refl, tt)));
    moves_last = λ other. ruling.none_deletes page_of NoPlans orders.early_complete early_complete_jobs early_complete_coming (refl, (refl, (refl, tt)));
  }

  abbrev refusals : orders.OrdersAreRefused page_of
  refusals = refuted.orders page_of

  order_breaks : OrdersBreakAlone page_of
  order_breaks = record {
    no_abort = ruling.alone page_of NoPlans orders.no_abort no_abort_jobs no_abort_coming Aborts refusals.no_abort (carrying.carried page_of orders.no_abort.setting no_abort_coming _ _ _ no_abort_jobs no_abort_written) no_abort_parts;
    early_abort = ruling.alone page_of NoPlans orders.early_abort early_abort_jobs early_abort_coming AbortLast refusals.early_abort (carrying.carried page_of orders.early_abort.setting early_abort_coming _ _ _ early_abort_jobs early_abort_written) early_abort_parts;
    early_delete = ruling.alone page_of NoPlans orders.early_delete early_delete_jobs early_delete_coming MovesLast refusals.early_delete (carrying.carried page_of orders.early_delete.setting early_delete_coming _ _ _ early_delete_jobs early_delete_written) early_delete_parts;
    after_failure = ruling.alone page_of NoPlans orders.after_failure after_failure_jobs after_failure_coming Stops refusals.after_failure (carrying.carried page_of orders.after_failure.setting after_failure_coming _ _ _ after_failure_jobs after_failure_written) after_failure_parts;
    after_failure_unseen = ruling.alone page_of NoPlans orders.after_failure after_failure_jobs [] IsComing refusals.after_failure (carrying.carried page_of orders.after_failure.setting [] _ _ _ after_failure_jobs unseen_written) unseen_parts;
    abort_after_complete = ruling.alone page_of NoPlans orders.abort_after_complete abort_after_complete_jobs abort_after_complete_coming CompletedStays refusals.abort_after_complete (carrying.carried page_of orders.abort_after_complete.setting abort_after_complete_coming _ _ _ abort_after_complete_jobs abort_after_complete_written) abort_after_complete_parts;
    early_complete = ruling.alone page_of NoPlans orders.early_complete early_complete_jobs early_complete_coming Asks refusals.early_complete (carrying.carried page_of orders.early_complete.setting early_complete_coming _ _ _ early_complete_jobs early_complete_written) early_complete_parts;
  }

pub each_order_breaks_alone : EachOrderBreaksAlone
each_order_breaks_alone page_of = order_breaks page_of
