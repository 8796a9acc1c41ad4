-- The eventful run keeps to the schedule, and its outcomes have the causes that its wires show.
use Rattle.std.proofs.Common.{◌≡◌, ◌∙◌, ◌+◌, ◌<◌, ◌≤◌, ℕ, zero, suc, List, [], ◌∷◌, Option, Some, refl, sym, ap, subst, inl, inr, Contains, slice_get, arith}
use Rattle.std.specs.Prelude.{IsPermutation}
use Rattle.std.specs.Cmp.Lexicographic.{nat_list_cmp_total}
use Rattle.std.specs.FinMap.{get, empty}
use Rattle.std.proofs.lemmas.List.Sorted.{IsPermutation-append_left, IsPermutation-append_comm, IsPermutation-append_right}
use Rattle.s3_model.specs.declared.requests.Ask.{Ask}
use Rattle.s3_model.specs.declared.requests.Op.TheVariants as op
use Rattle.s3_model.specs.declared.answers.Class.{Class}
use Rattle.s3_model.specs.declared.answers.Listed.{Listed}
use Rattle.s3_model.specs.declared.answers.Reply.{Reply}
use Rattle.s3_model.specs.declared.answers.Reply.TheVariants as reply
use Rattle.s3_model.specs.declared.answers.Why.TheVariants as why
use Rattle.s3_model.specs.declared.outcomes.Cause.TheVariants as cause
use Rattle.s3_model.specs.declared.outcomes.Event.{Event}
use Rattle.s3_model.specs.declared.outcomes.JobId.{JobId}
use Rattle.s3_model.specs.declared.outcomes.Outcome.{Outcome}
use Rattle.s3_model.specs.declared.outcomes.Outcome.TheVariants as outcome
use Rattle.s3_model.specs.declared.tasks.Kind.TheVariants as kind
use Rattle.s3_model.specs.declared.tasks.Task.{Task}
use Rattle.s3_model.specs.Parts.{HasPieces, IsFirstFitting, piece_of}
use Rattle.s3_model.specs.Talks.{Talk}
use Rattle.job_terms.specs.Buffers.{KeepsBuffers, buffers_out}
use Rattle.run_promise.specs.Dispatches.{IsCut}
use Rattle.job_terms.specs.Dispatches.{Dispatched, last_of}
use Rattle.run_promise.specs.Outcomes.{HasOutcome, IsFirstFailure}
use Rattle.run_promise.specs.Schedule.{HasReply, IsSchedule, IsFailed, IsUpload, IsDecided, IsBefore, AreETags, bytes_of, gained_before}
use Rattle.job_terms.specs.Jobs.{Target, Origin, job_of}
use Rattle.run_promise.specs.Truthful.{IsDest}
use Rattle.shared_lemmas.proofs.Clashes.{false_true as never}
use Rattle.shared_lemmas.proofs.Maps.{get-insert_same, text_exact}
use Rattle.promise_examples.specs.Reading.{Reads, HasNoStatus, NeverFailed}
use Rattle.promise_examples.specs.Runs.{Example, IsMet}
use Rattle.promise_examples.specs.Everything.{EverythingIsMet, bucket, uploaded, source, copied, path, bytes, id, first_etag, second_etag, upload, copy, create_job, part_job, complete_job, copy_job, delete_job, copy_answered, complete_again, events, eventful_run, start, eventful_trace}
use Rattle.promise_examples.proofs.Concrete.{at, each, front_of, none_is_some, slot, some_is}
use Rattle.promise_examples.proofs.EventfulJobs.{well, create_sent, copy_sent, part_sent, other_sent, part_again, delete_sent, complete_sent, jobs, coming}
use Rattle.promise_examples.proofs.EventfulTrace.{runs, is_honest, fits}
use Rattle.promise_examples.proofs.EventfulWires.{carried}
use Rattle.promise_examples.proofs.Scheduling as scheduling
use Rattle.promise_examples.proofs.Scheduling.{other_op}
use Rattle.promise_examples.proofs.Repeats.{other_job}
use Rattle.promise_examples.proofs.Readings.{uncertain_success}

abbrev e : Example
e = eventful_run

zero_one : ◌≡◌ {A = Option ℕ} (Some 0) (Some 1) → ⊥
zero_one same = numbers (some_is 0 1 same)
  where
    numbers : ◌≡◌ {A = ℕ} 0 1 → ⊥
    numbers is = omega arith

one_zero : ◌≡◌ {A = Option ℕ} (Some 1) (Some 0) → ⊥
one_zero same = zero_one (sym same)

-- ---- pieces

first_fitting : IsFirstFitting 1 2 2 1
first_fitting = record { doublings = 0; is_multiple = refl; fits = omega arith; first = λ k before. absurd (omega arith) }

pub upload_pieces : HasPieces e.setting.config e.setting.limits kind.Upload 2 1 2
upload_pieces = inr (omega arith, (1, first_fitting, refl, refl))

pub copy_pieces : HasPieces e.setting.config e.setting.limits kind.Copy 1 1 1
copy_pieces = inl (omega arith, refl, refl)

pub body_is : bytes ≡ bytes_of (get e.setting.held path)
body_is = sym (ap bytes_of (get-insert_same nat_list_cmp_total text_exact empty path (record { bytes = bytes; micros = 0 })))

unfoldable pub to_upload : Target upload
to_upload = record { bucket = bucket; key = uploaded; is_dest = (refl, refl) }

unfoldable pub to_copy : Target copy
to_copy = record { bucket = bucket; key = copied; is_dest = (refl, refl) }

unfoldable pub from_copy : Origin copy
from_copy = record { bucket = bucket; key = source; is_source = (refl, refl) }

module _ (page_of : List ℕ → Listed) where
  abbrev Shows : Ask → ℕ → Talk → Class → List ℕ → Type 0
  Shows = Reads page_of

  abbrev Plans : List Dispatched → Type 0
  Plans planning = planning ≡ []

  -- ---- what was gained

  created : (place : ℕ) → 2 < place → IsUpload (gained_before Shows jobs place) 0 id
  created place late = (create_sent, at jobs 0 create_sent refl, refl, late, (refl, [], (refl, refl)))

  first_gained : (place : ℕ) → 11 < place → gained_before Shows jobs place (part_job 1) (reply.PartStored first_etag)
  first_gained place late = (part_again, at jobs 4 part_again refl, refl, late, (refl, [], (refl, refl)))

  second_gained : (place : ℕ) → 8 < place → gained_before Shows jobs place (part_job 2) (reply.PartStored second_etag)
  second_gained place late = (other_sent, at jobs 3 other_sent refl, refl, late, (refl, [], (refl, refl)))

  copy_gained : (place : ℕ) → 3 < place → gained_before Shows jobs place copy_job reply.Copied
  copy_gained place late = (copy_sent, at jobs 1 copy_sent refl, refl, late, (refl, [], (refl, refl)))

  complete_gained : (place : ℕ) → 13 < place → gained_before Shows jobs place complete_job reply.Completed
  complete_gained place late = (complete_sent, at jobs 6 complete_sent refl, refl, late, (refl, [], (refl, refl)))

  etags : AreETags (gained_before Shows jobs 12) 0 op.Part 2 (first_etag ∷ second_etag ∷ [])
  etags = record {
    each_part = refl;
    in_order = λ n etag at_n. slot (λ (k : ℕ) (x : List ℕ). gained_before Shows jobs 12 (job_of 0 op.Part (k + 1)) (reply.PartStored x)) (first_etag ∷ second_etag ∷ [])
        (first_gained 12 (omega arith), (second_gained 12 (omega arith), tt)) n etag at_n;
  }

  -- ---- what each asks

  abbrev Asks : Dispatched → ℕ → Type 0
  Asks c n = scheduling.AsksFor Shows e.setting Plans jobs coming c n

  asks_create_sent : Asks create_sent 0
  unfolding to_upload
  asks_create_sent = (upload, 1, 2, refl, upload_pieces, refl, refl, (to_upload, refl, refl, refl))

  asks_copy_sent : Asks copy_sent 1
  unfolding to_copy from_copy
  asks_copy_sent = (copy, 1, 1, refl, copy_pieces, refl, refl, (to_copy, from_copy, refl, refl, refl))

  asks_part_sent : Asks part_sent 0
  unfolding to_upload
  asks_part_sent = (upload, 1, 2, refl, upload_pieces, refl, refl, (to_upload, id, created 4 (omega arith), (omega arith, omega arith), refl, ap (λ (all : List ℕ). piece_of all 1 1) body_is))

  asks_other_sent : Asks other_sent 0
  unfolding to_upload
  asks_other_sent = (upload, 1, 2, refl, upload_pieces, refl, refl, (to_upload, id, created 5 (omega arith), (omega arith, omega arith), refl, ap (λ (all : List ℕ). piece_of all 1 2) body_is))

  asks_part_again : Asks part_again 0
  unfolding to_upload
  asks_part_again = (upload, 1, 2, refl, upload_pieces, refl, refl, (to_upload, id, created 7 (omega arith), (omega arith, omega arith), refl, ap (λ (all : List ℕ). piece_of all 1 1) body_is))

  asks_delete_sent : Asks delete_sent 1
  unfolding from_copy
  asks_delete_sent = (copy, 1, 1, refl, copy_pieces, refl, refl, ((from_copy, refl, refl), refl, refl))

  asks_complete_sent : Asks complete_sent 0
  unfolding to_upload
  asks_complete_sent = (upload, 1, 2, refl, upload_pieces, refl, refl, ((to_upload, id, first_etag ∷ second_etag ∷ [], 0, created 12 (omega arith), etags, refl), refl, refl))

  -- ---- failures: the Delete alone

  failure : (failed : Dispatched) → IsFailed Shows e.setting coming failed → delete_sent ≡ failed
  failure failed is_failed = scheduling.failures Shows e.setting (λ (c : Dispatched). delete_sent ≡ c) coming
      (inr (inl (refl, (λ shown b shows. tt))), (inr (inl (refl, (λ shown b shows. tt))), (inl (inl (part_again, at (other_sent ∷ delete_sent ∷ part_again ∷ complete_sent ∷ []) 2 part_again refl, refl)), (inr (inl (refl, (λ shown b shows. tt))), (inr (inr refl), (inr (inl (refl, (λ shown b shows. tt))), (inr (inl (refl, (λ shown b shows. tt))), tt))))))) failed is_failed

  failed_task : (failed : Dispatched) → IsFailed Shows e.setting coming failed → failed.dispatch.job.task ≡ Some 1
  failed_task failed is_failed = sym (ap (λ (c : Dispatched). c.dispatch.job.task) (failure failed is_failed))

  abbrev behind : List Dispatched
  behind = part_again ∷ complete_sent ∷ []

  uncut : (WasStopped : Type 0) → ¬ (IsCut Shows 2 delete_sent behind WasStopped)
  uncut WasStopped (inl again) =
      each (λ (c : Dispatched). c.dispatch.job ≡ delete_job → ⊥) behind (other_job (part_job 1) delete_job refl, (other_job complete_job delete_job refl, tt)) again.0 again.1 again.2
  uncut WasStopped (inr stopped) = let open_ended = stopped.3 in let left : 2 < 2 = open_ended.4 in omega arith

  delete_failed : IsFailed Shows e.setting coming delete_sent
  delete_failed = (create_sent ∷ copy_sent ∷ part_sent ∷ other_sent ∷ [], behind, refl, uncut _, (λ well. uncertain_success well.0))

  -- ---- the schedule

  part_twice : scheduling.TwiceRule Shows e.setting Plans jobs coming part_sent part_again
  part_twice = (omega arith, uncertain_success, tt, (λ failed is_failed same. absurd (one_zero (sym (failed_task failed is_failed) ∙ same))), refl, other_op op.Part op.Abort refl)

  moves_delete : scheduling.MoveRule Shows e.setting Plans jobs coming delete_sent
  moves_delete n task of_task at_n moves deletes =
      subst (λ (m : ℕ). IsDecided e.setting task m (gained_before Shows jobs 9)) one_is
      (subst (λ (t : Task). IsDecided e.setting t 1 (gained_before Shows jobs 9)) task_is (λ piece count pieces. copy_gained 9 (omega arith)))
    where
      one_is : 1 ≡ n
      one_is = some_is 1 n of_task

      task_is : copy ≡ task
      task_is = some_is copy task (ap (slice_get e.setting.tasks) one_is ∙ at_n)

  zero_is : {n : ℕ} → create_job ≡ job_of n op.Create 0 → 0 ≡ n
  zero_is {n} same = some_is 0 n (ap (λ (job : JobId). job.task) same)

  completes : scheduling.CompletesEach Shows e.setting Plans jobs coming
  completes n of_id end ended made =
      let zero : 0 ≡ n = each (λ (c : Dispatched). c.dispatch.job ≡ job_of n op.Create 0 → 0 ≡ n) jobs ((λ same. zero_is same), ((λ same. absurd (other_op op.Copy op.Create refl (ap (λ (job : JobId). job.op) same))), ((λ same. absurd (other_op op.Part op.Create refl (ap (λ (job : JobId). job.op) same))), ((λ same. absurd (other_op op.Part op.Create refl (ap (λ (job : JobId). job.op) same))), ((λ same. absurd (other_op op.Part op.Create refl (ap (λ (job : JobId). job.op) same))), ((λ same. absurd (other_op op.Delete op.Create refl (ap (λ (job : JobId). job.op) same))), ((λ same. absurd (other_op op.Complete op.Create refl (ap (λ (job : JobId). job.op) same))), tt))))))) made.0 made.1 made.2 in
      subst (λ (m : ℕ). gained_before Shows jobs end (job_of m op.Complete 0) reply.Completed) zero (complete_gained end (ended complete_sent (at jobs 6 complete_sent refl)))

  stops : scheduling.StopsAll Shows e.setting Plans jobs coming
  stops failed c is_failed of_task no_abort known same late =
      each (λ (d : Dispatched). d.dispatch.job.task ≡ Some 1 → 10 < d.dispatch.given_at → d.dispatch.job.op ≡ op.Abort) jobs ((λ same late. absurd (zero_one same)), ((λ same late. absurd (omega arith)), ((λ same late. absurd (zero_one same)), ((λ same late. absurd (zero_one same)), ((λ same late. absurd (zero_one same)), ((λ same late. absurd (omega arith)), ((λ same late. absurd (zero_one same)), tt))))))) c known (same ∙ failed_task failed is_failed)
      (subst (λ (d : Dispatched). IsBefore d.dispatch.came_at c.dispatch.given_at) (sym (failure failed is_failed)) late)

  swapped : IsPermutation jobs coming
  swapped = IsPermutation-append_right (create_sent ∷ copy_sent ∷ part_sent ∷ other_sent ∷ []) (part_again ∷ delete_sent ∷ complete_sent ∷ []) (delete_sent ∷ part_again ∷ complete_sent ∷ [])
      (IsPermutation-append_left (complete_sent ∷ []) (part_again ∷ delete_sent ∷ []) (delete_sent ∷ part_again ∷ []) (IsPermutation-append_comm (part_again ∷ []) (delete_sent ∷ [])))

  scheduled : IsSchedule Shows e.setting Plans jobs coming
  scheduled = scheduling.scheduled Shows e.setting Plans jobs coming (record {
    is_coming = swapped;
    in_order = ((omega arith, (omega arith, (omega arith, (omega arith, (omega arith, (omega arith, tt)))))), ((omega arith, (omega arith, (omega arith, (omega arith, (omega arith, tt))))), ((omega arith, (omega arith, (omega arith, (omega arith, tt)))), ((omega arith, (omega arith, (omega arith, tt))), ((omega arith, (omega arith, tt)), ((omega arith, tt), (tt, tt)))))));
    asks = (asks_create_sent, (asks_copy_sent, (asks_part_sent, (asks_other_sent, (asks_part_again, (asks_delete_sent, (asks_complete_sent, tt)))))));
    plans = refl;
    numbered = tt;
    one_by_one = tt;
    carried_out = refl;
    twice = (tt, (tt, ((part_twice, tt), (tt, (tt, (tt, (tt, tt)))))));
    seconds = (omega arith, (omega arith, (omega arith, (omega arith, (omega arith, (omega arith, (omega arith, tt)))))));
    stops = stops;
    no_abort = (refl, (refl, (refl, (refl, (refl, (refl, (refl, tt)))))));
    completes = completes;
    moves_last = ((λ n task of_task at_n moves deletes. absurd (other_op op.Create op.Delete refl deletes)), ((λ n task of_task at_n moves deletes. absurd (other_op op.Copy op.Delete refl deletes)), ((λ n task of_task at_n moves deletes. absurd (other_op op.Part op.Delete refl deletes)), ((λ n task of_task at_n moves deletes. absurd (other_op op.Part op.Delete refl deletes)), ((λ n task of_task at_n moves deletes. absurd (other_op op.Part op.Delete refl deletes)), (moves_delete, ((λ n task of_task at_n moves deletes. absurd (other_op op.Complete op.Delete refl deletes)), tt)))))));
  })

  -- ---- its buffers

  keeps : KeepsBuffers 2 events
  keeps front back is = front_of (λ (f : List Event). buffers_out f ≤ 2) events (omega arith, (omega arith, (omega arith, (omega arith, (omega arith, (omega arith, (omega arith, (omega arith, (omega arith, (omega arith, (omega arith, (omega arith, (omega arith, (omega arith, omega arith)))))))))))))) front back is

  -- ---- its outcomes

  upload_done : HasOutcome Shows HasNoStatus NeverFailed e.setting jobs coming 0 upload outcome.Done
  upload_done = ((λ c failing. one_zero (sym (failed_task c failing.0) ∙ failing.1)), (complete_sent, at jobs 6 complete_sent refl, (tt, refl), (1, well complete_again, refl, refl)), (λ moves. absurd (never moves)), (λ fresh. absurd (never fresh)))

  first_failure : IsFirstFailure Shows HasNoStatus NeverFailed e.setting jobs coming 1 delete_sent
  first_failure = ((delete_failed, refl), (λ other failing. inl (sym (ap (λ (c : Dispatched). c.dispatch) (failure other failing.0)))))

  not_deleted : (c : Dispatched) (said : Reply) → Contains jobs c → c.dispatch.job ≡ delete_job → HasReply Shows c (last_of c.dispatch.attempts) said → ⊥
  not_deleted c said known is = each (λ (d : Dispatched). d.dispatch.job ≡ delete_job → HasReply Shows d (last_of d.dispatch.attempts) said → ⊥) jobs ((λ same said_so. other_job create_job delete_job refl same), ((λ same said_so. other_job copy_job delete_job refl same), ((λ same said_so. other_job (part_job 1) delete_job refl same), ((λ same said_so. other_job (part_job 2) delete_job refl same), ((λ same said_so. other_job (part_job 1) delete_job refl same), ((λ same said_so. uncertain_success said_so.0), ((λ same said_so. other_job complete_job delete_job refl same), tt))))))) c known is

  not_memory : why.WireFailed ≡ why.Memory → ⊥
  not_memory same = cc

  copy_copied : HasOutcome Shows HasNoStatus NeverFailed e.setting jobs coming 1 copy (outcome.Copied (cause.Lost op.Delete why.WireFailed))
  copy_copied = (
    refl,
    (copy_sent, at jobs 1 copy_sent refl, (tt, refl), (0, well copy_answered, refl, refl)),
    (λ deleted. not_deleted deleted.1.0 deleted.0 deleted.1.1 deleted.1.2 deleted.1.3),
    (delete_sent, first_failure, (refl, not_memory, [], (refl, refl))),
    (λ other failing. sym (ap (λ (c : Dispatched). c.dispatch.job) (failure other failing.0))),
    (λ fresh. absurd (never fresh)),
  )

  abbrev Caused : ℕ → Task → Outcome → Type 0
  Caused n task how = HasOutcome Shows HasNoStatus NeverFailed e.setting jobs coming n task how

  causes : (n : ℕ) (task : Task) (how : Outcome) → slice_get e.setting.tasks n ≡ Some task → slice_get e.outcomes n ≡ Some how → Caused n task how
  causes zero task how at_task at_how = subst (Caused 0 task) (some_is outcome.Done how at_how) (subst (λ (t : Task). Caused 0 t outcome.Done) (some_is upload task at_task) upload_done)
  causes (suc zero) task how at_task at_how =
      subst (Caused 1 task) (some_is (outcome.Copied (cause.Lost op.Delete why.WireFailed)) how at_how)
      (subst (λ (t : Task). Caused 1 t (outcome.Copied (cause.Lost op.Delete why.WireFailed))) (some_is copy task at_task) copy_copied)
  causes (suc (suc n)) task how at_task at_how = absurd (none_is_some task at_task)

  pub met : IsMet page_of Plans e start eventful_trace
  met = record {
    dispatched = jobs;
    coming = coming;
    schedule = scheduled;
    carried = carried page_of;
    buffers = keeps;
    runs = runs;
    honest = is_honest (IsDest e.setting.tasks);
    fits = fits page_of;
    whole = ([], refl, refl);
    causes = causes;
  }

pub everything_is_met : EverythingIsMet
everything_is_met page_of = met page_of
