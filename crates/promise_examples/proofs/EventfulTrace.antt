-- The trace of the eventful run: each request is served as it may be, it is honest, and it fits.
use Rattle.std.proofs.Common.{◌≡◌, ◌∙◌, ◌==◌, ℕ, zero, suc, false, List, [], ◌∷◌, Some, refl, inl, inr, ◌⊎◌, filter, filter_map, take, arith, None}
use Rattle.std.specs.Prelude.{flat_map}
use Rattle.std.specs.Ordering.{nat_cmp}
use Rattle.std.specs.Cmp.{nat_cmp_total}
use Rattle.std.specs.Cmp.Lexicographic.{slice_cmp, nat_list_cmp_total}
use Rattle.std.specs.FinMap.{get, insert, from_entries, get-empty, get-from_entries}
use Rattle.std.specs.FinMap.Entries.{find}
use Rattle.s3_model.specs.declared.requests.Ask.{Ask}
use Rattle.s3_model.specs.declared.answers.Class.{Class}
use Rattle.s3_model.specs.declared.answers.Listed.{Listed}
use Rattle.s3_model.specs.declared.answers.Reply.TheVariants as reply
use Rattle.s3_model.specs.declared.answers.Why.TheVariants as why
use Rattle.s3_model.specs.Talks.{Talk}
use Rattle.s3_service.specs.ServiceState.{Upload, CompletedBy, HasBucket, objects_in}
use Rattle.s3_service.specs.Serves.{Replied, Creates, Copies, StoresPart, Deletes, Joins, JoinsAgain, Completes}
use Rattle.run_promise.specs.Fits.{Fits, IsAnswered, Names, requests_of}
use Rattle.job_terms.specs.Dispatches.{Dispatched}
use Rattle.run_promise.specs.Schedule.{most_body}
use Rattle.run_promise.specs.Traces.{IsTrace, IsHonest, begun_in, events_of}
use Rattle.shared_lemmas.proofs.Clashes.{false_true as never}
use Rattle.shared_lemmas.proofs.Maps.{get-insert_same, is_nothing, text_exact}
use Rattle.promise_examples.specs.Reading.{Reads}
use Rattle.promise_examples.specs.Services.{object_of, one_bucket}
use Rattle.promise_examples.specs.Everything.{bucket, uploaded, source, copied, bytes, source_etag, lost_id, id, first_etag, second_etag, limits, create_job, part_job, complete_job, copy_job, delete_job, create_lost, create_answered, copy_answered, part_lost, part_stored, other_stored, delete_lost, delete_again, complete_lost, complete_again, events, unused, first_part, second_part, with_second, with_both, once_more, start, once_created, twice_created, after_copy, after_second, after_first, after_delete, after_late, joined, completed, after_all, create_request, copy_request, part_request, other_request, delete_request, complete_request, eventful_trace}
use Rattle.promise_examples.proofs.Concrete.{at}
use Rattle.promise_examples.proofs.EventfulJobs.{lost, well, create_sent, copy_sent, part_sent, other_sent, part_again, delete_sent, complete_sent, jobs}
use Rattle.promise_examples.proofs.Fitting as fitting
use Rattle.promise_examples.proofs.Honest.{one_bucket_is_faithful, has_bucket, honest}
use Rattle.world_laws.proofs.Faithful.{IsFaithful, faithful_with, faithful_without}
use Rattle.world_laws.proofs.Objects.{object_at-with_object}
use Rattle.promise_examples.proofs.Readings.{names, same_uncertain}
use Rattle.promise_examples.proofs.Repeats.{other_job}

-- ---- what is there

there : HasBucket start bucket
there = has_bucket (one_bucket bucket) bucket (insert (objects_in (one_bucket bucket) bucket) source (object_of source_etag))

there_later : HasBucket after_copy bucket
there_later = has_bucket twice_created bucket (insert (objects_in twice_created bucket) copied (object_of source_etag))

there_last : HasBucket completed bucket
there_last = has_bucket after_late bucket (insert (objects_in after_late bucket) uploaded (object_of bytes))

held_at : (key : List ℕ) (m : List (List ℕ × Upload)) (u : Upload) → find (slice_cmp nat_cmp) key m ≡ Some u → get (from_entries {R = slice_cmp nat_cmp} m) key ≡ Some u
held_at key m u e = get-from_entries nat_list_cmp_total m key ∙ e

-- ---- each is served as it may be

create_first : Creates start bucket uploaded lost_id once_created
create_first = (there, is_nothing _ (get-empty (slice_cmp nat_cmp) lost_id), is_nothing _ (get-empty (slice_cmp nat_cmp) lost_id), unused, record { bucket = refl; key = refl; parts = refl }, refl)

create_second : Creates once_created bucket uploaded id twice_created
create_second = (there, is_nothing _ (get-from_entries nat_list_cmp_total ((lost_id, unused) ∷ []) id), is_nothing _ (get-empty (slice_cmp nat_cmp) id), unused, record { bucket = refl; key = refl; parts = refl }, refl)

copy_served : Copies twice_created bucket copied bucket source source_etag after_copy
copy_served = (object_of source_etag, record { held = object_at-with_object (one_bucket bucket) bucket source (object_of source_etag); etag = refl }, there, (object_of source_etag, refl, refl))

second_served : StoresPart after_copy bucket uploaded id 2 (2 ∷ []) second_etag after_second
second_served = (unused, record { held = get-insert_same nat_list_cmp_total text_exact once_created.uploads id unused; bucket = refl; key = refl }, refl)

first_served : StoresPart after_second bucket uploaded id 1 (1 ∷ []) first_etag after_first
first_served = (with_second, record { held = get-insert_same nat_list_cmp_total text_exact after_copy.uploads id with_second; bucket = refl; key = refl }, refl)

delete_served : Deletes after_first bucket source after_delete
delete_served = (there_later, refl)

late_served : StoresPart after_delete bucket uploaded id 1 (1 ∷ []) first_etag after_late
late_served = (with_both, record { held = get-insert_same nat_list_cmp_total text_exact after_second.uploads id with_both; bucket = refl; key = refl }, refl)

made : Completes limits once_more (first_etag ∷ second_etag ∷ []) bytes
made = ((1 ∷ []) ∷ (2 ∷ []) ∷ [], (part_at 1, (part_at 2, refl)), (omega arith, tt), omega arith, refl)
  where
    part_at : (n : ℕ) → get once_more.parts n ≡ find nat_cmp n ((1, first_part) ∷ (1, first_part) ∷ (2, second_part) ∷ [])
    part_at n = get-from_entries nat_cmp_total ((1, first_part) ∷ (1, first_part) ∷ (2, second_part) ∷ []) n

joins : Joins limits after_late bucket uploaded id (first_etag ∷ second_etag ∷ []) false completed ⊎ JoinsAgain after_late id (first_etag ∷ second_etag ∷ []) completed
joins = inl (
  once_more,
  bytes,
  joined,
  record { held = get-insert_same nat_list_cmp_total text_exact after_delete.uploads id once_more; bucket = refl; key = refl },
  (λ fresh. absurd (never fresh)),
  made,
  (object_of bytes, refl, refl),
  refl,
)

joins_again : Joins limits completed bucket uploaded id (first_etag ∷ second_etag ∷ []) false completed ⊎ JoinsAgain completed id (first_etag ∷ second_etag ∷ []) completed
joins_again = inr (get-insert_same nat_list_cmp_total text_exact joined.ended id (CompletedBy (first_etag ∷ second_etag ∷ [])), refl)

delete_late : Deletes completed bucket source after_all
delete_late = (there_last, refl)

pub runs : IsTrace limits [] start eventful_trace
runs = (refl, (refl, (refl, (refl, (((1, omega arith, refl), create_first), (refl, (((0, omega arith, refl), create_second), (((1, omega arith, refl), copy_served), (refl, (refl, (refl, (refl, (refl, (refl, (refl, (refl, (((0, omega arith, refl), second_served), (refl, (refl, (refl, (((0, omega arith, refl), first_served), (refl, (((0, omega arith, refl), delete_served), (refl, (refl, (((4, omega arith, refl), late_served), (refl, (refl, (refl, (((0, omega arith, refl), joins), (refl, (((0, omega arith, refl), joins_again), (refl, (((2, omega arith, refl), delete_late), tt))))))))))))))))))))))))))))))))))

-- ---- honest

start_is : IsFaithful start
start_is = faithful_with (one_bucket bucket) bucket source source_etag (one_bucket_is_faithful bucket)

once_is : IsFaithful once_created
once_is b k object found = start_is b k object found

twice_is : IsFaithful twice_created
twice_is b k object found = start_is b k object found

copy_is : IsFaithful after_copy
copy_is = faithful_with twice_created bucket copied source_etag twice_is

second_is : IsFaithful after_second
second_is b k object found = copy_is b k object found

first_is : IsFaithful after_first
first_is b k object found = copy_is b k object found

delete_is : IsFaithful after_delete
delete_is = faithful_without after_first bucket source first_is

late_is : IsFaithful after_late
late_is b k object found = delete_is b k object found

joined_is : IsFaithful joined
joined_is = faithful_with after_late bucket uploaded bytes late_is

completed_is : IsFaithful completed
completed_is b k object found = joined_is b k object found

all_is : IsFaithful after_all
all_is = faithful_without completed bucket source completed_is

pub is_honest : (IsKept : List ℕ → List ℕ → Type 0) → IsHonest start eventful_trace IsKept
is_honest = honest start eventful_trace
    (start_is, (start_is, (start_is, (start_is, (start_is, (once_is, (once_is, (twice_is, (copy_is, (copy_is, (copy_is, (copy_is, (copy_is, (copy_is, (copy_is, (copy_is, (copy_is, (second_is, (second_is, (second_is, (second_is, (first_is, (first_is, (delete_is, (delete_is, (delete_is, (late_is, (late_is, (late_is, (late_is, (completed_is, (completed_is, (completed_is, (completed_is, (all_is, tt)))))))))))))))))))))))))))))))))))
    (tt, (tt, (tt, (tt, (tt, (tt, (tt, (tt, (tt, (tt, (tt, (tt, (tt, (tt, (tt, (tt, (tt, (tt, (tt, (tt, (tt, (tt, (tt, (tt, (tt, (tt, (tt, (tt, (tt, (tt, (tt, (tt, (tt, (tt, tt))))))))))))))))))))))))))))))))))

-- ---- it fits

module _ (page_of : List ℕ → Listed) where
  abbrev Shows : Ask → ℕ → Talk → Class → List ℕ → Type 0
  Shows = Reads page_of

  named_4 : (shown : Class) (b : List ℕ) → Shows create_sent.ask most_body (lost create_lost).talk shown b → Names shown b (Replied (reply.Created lost_id) [])
  named_4 = names page_of create_sent.ask most_body (lost create_lost).talk (Replied (reply.Created lost_id) []) tt

  answered_4 : IsAnswered Shows None jobs (create_request 1) (Replied (reply.Created lost_id) [])
  answered_4 = record { of = create_sent; known = at jobs 0 create_sent refl; place = 0; attempt = lost create_lost; is_attempt = refl; is_sent = refl; names = λ shown b shows certain. named_4 shown b shows }

  named_6 : (shown : Class) (b : List ℕ) → Shows create_sent.ask most_body (well create_answered).talk shown b → Names shown b (Replied (reply.Created id) [])
  named_6 = names page_of create_sent.ask most_body (well create_answered).talk (Replied (reply.Created id) []) (reply.Created id, refl, refl)

  answered_6 : IsAnswered Shows None jobs (create_request 2) (Replied (reply.Created id) [])
  answered_6 = record { of = create_sent; known = at jobs 0 create_sent refl; place = 1; attempt = well create_answered; is_attempt = refl; is_sent = refl; names = λ shown b shows certain. named_6 shown b shows }

  named_7 : (shown : Class) (b : List ℕ) → Shows copy_sent.ask most_body (well copy_answered).talk shown b → Names shown b (Replied reply.Copied [])
  named_7 = names page_of copy_sent.ask most_body (well copy_answered).talk (Replied reply.Copied []) (reply.Copied, refl, refl)

  answered_7 : IsAnswered Shows None jobs (copy_request) (Replied reply.Copied [])
  answered_7 = record { of = copy_sent; known = at jobs 1 copy_sent refl; place = 0; attempt = well copy_answered; is_attempt = refl; is_sent = refl; names = λ shown b shows certain. named_7 shown b shows }

  named_16 : (shown : Class) (b : List ℕ) → Shows other_sent.ask most_body (well other_stored).talk shown b → Names shown b (Replied (reply.PartStored second_etag) [])
  named_16 = names page_of other_sent.ask most_body (well other_stored).talk (Replied (reply.PartStored second_etag) []) (reply.PartStored second_etag, refl, refl)

  answered_16 : IsAnswered Shows None jobs (other_request) (Replied (reply.PartStored second_etag) [])
  answered_16 = record { of = other_sent; known = at jobs 3 other_sent refl; place = 0; attempt = well other_stored; is_attempt = refl; is_sent = refl; names = λ shown b shows certain. named_16 shown b shows }

  named_20 : (shown : Class) (b : List ℕ) → Shows part_again.ask most_body (well part_stored).talk shown b → Names shown b (Replied (reply.PartStored first_etag) [])
  named_20 = names page_of part_again.ask most_body (well part_stored).talk (Replied (reply.PartStored first_etag) []) (reply.PartStored first_etag, refl, refl)

  answered_20 : IsAnswered Shows None jobs (part_request 2) (Replied (reply.PartStored first_etag) [])
  answered_20 = record { of = part_again; known = at jobs 4 part_again refl; place = 0; attempt = well part_stored; is_attempt = refl; is_sent = refl; names = λ shown b shows certain. named_20 shown b shows }

  named_22 : (shown : Class) (b : List ℕ) → Shows delete_sent.ask most_body (lost delete_lost).talk shown b → Names shown b (Replied reply.Gone [])
  named_22 = names page_of delete_sent.ask most_body (lost delete_lost).talk (Replied reply.Gone []) tt

  answered_22 : IsAnswered Shows None jobs (delete_request 1) (Replied reply.Gone [])
  answered_22 = record { of = delete_sent; known = at jobs 5 delete_sent refl; place = 0; attempt = lost delete_lost; is_attempt = refl; is_sent = refl; names = λ shown b shows certain. named_22 shown b shows }

  named_25 : (shown : Class) (b : List ℕ) → Shows part_sent.ask most_body (lost part_lost).talk shown b → Names shown b (Replied (reply.PartStored first_etag) [])
  named_25 = names page_of part_sent.ask most_body (lost part_lost).talk (Replied (reply.PartStored first_etag) []) tt

  answered_25 : IsAnswered Shows None jobs (part_request 1) (Replied (reply.PartStored first_etag) [])
  answered_25 = record { of = part_sent; known = at jobs 2 part_sent refl; place = 0; attempt = lost part_lost; is_attempt = refl; is_sent = refl; names = λ shown b shows certain. named_25 shown b shows }

  named_29 : (shown : Class) (b : List ℕ) → Shows complete_sent.ask most_body (lost complete_lost).talk shown b → Names shown b (Replied reply.Completed [])
  named_29 = names page_of complete_sent.ask most_body (lost complete_lost).talk (Replied reply.Completed []) tt

  answered_29 : IsAnswered Shows None jobs (complete_request 1) (Replied reply.Completed [])
  answered_29 = record { of = complete_sent; known = at jobs 6 complete_sent refl; place = 0; attempt = lost complete_lost; is_attempt = refl; is_sent = refl; names = λ shown b shows certain. named_29 shown b shows }

  named_31 : (shown : Class) (b : List ℕ) → Shows complete_sent.ask most_body (well complete_again).talk shown b → Names shown b (Replied reply.Completed [])
  named_31 = names page_of complete_sent.ask most_body (well complete_again).talk (Replied reply.Completed []) (reply.Completed, refl, refl)

  answered_31 : IsAnswered Shows None jobs (complete_request 2) (Replied reply.Completed [])
  answered_31 = record { of = complete_sent; known = at jobs 6 complete_sent refl; place = 1; attempt = well complete_again; is_attempt = refl; is_sent = refl; names = λ shown b shows certain. named_31 shown b shows }

  named_33 : (shown : Class) (b : List ℕ) → Shows delete_sent.ask most_body (lost delete_again).talk shown b → Names shown b (Replied reply.Gone [])
  named_33 = names page_of delete_sent.ask most_body (lost delete_again).talk (Replied reply.Gone []) tt

  answered_33 : IsAnswered Shows None jobs (delete_request 2) (Replied reply.Gone [])
  answered_33 = record { of = delete_sent; known = at jobs 5 delete_sent refl; place = 1; attempt = lost delete_again; is_attempt = refl; is_sent = refl; names = λ shown b shows certain. named_33 shown b shows }

  served_create_sent_0 : fitting.IsServed Shows jobs (take 8 (events_of eventful_trace)) create_sent 0 (lost create_lost)
  served_create_sent_0 shown b shows certain = absurd (same_uncertain create_sent why.WireFailed shown shows.0 certain)

  served_create_sent_1 : fitting.IsServed Shows jobs (take 8 (events_of eventful_trace)) create_sent 1 (well create_answered)
  served_create_sent_1 shown b shows certain = (Replied (reply.Created id) [], at (take 8 (events_of eventful_trace)) 6 _ refl, named_6 shown b shows)

  served_copy_sent_0 : fitting.IsServed Shows jobs (take 9 (events_of eventful_trace)) copy_sent 0 (well copy_answered)
  served_copy_sent_0 shown b shows certain = (Replied reply.Copied [], at (take 9 (events_of eventful_trace)) 7 _ refl, named_7 shown b shows)

  served_part_sent_0 : fitting.IsServed Shows jobs (take 14 (events_of eventful_trace)) part_sent 0 (lost part_lost)
  served_part_sent_0 shown b shows certain = absurd (same_uncertain part_sent why.WireFailed shown shows.0 certain)

  served_other_sent_0 : fitting.IsServed Shows jobs (take 17 (events_of eventful_trace)) other_sent 0 (well other_stored)
  served_other_sent_0 shown b shows certain = (Replied (reply.PartStored second_etag) [], at (take 17 (events_of eventful_trace)) 16 _ refl, named_16 shown b shows)

  served_delete_sent_0 : fitting.IsServed Shows jobs (take 24 (events_of eventful_trace)) delete_sent 0 (lost delete_lost)
  served_delete_sent_0 shown b shows certain = absurd (same_uncertain delete_sent why.WireFailed shown shows.0 certain)

  served_delete_sent_1 : fitting.IsServed Shows jobs (take 24 (events_of eventful_trace)) delete_sent 1 (lost delete_again)
  served_delete_sent_1 shown b shows certain = absurd (same_uncertain delete_sent why.WireFailed shown shows.0 certain)

  served_part_again_0 : fitting.IsServed Shows jobs (take 26 (events_of eventful_trace)) part_again 0 (well part_stored)
  served_part_again_0 shown b shows certain = (Replied (reply.PartStored first_etag) [], at (take 26 (events_of eventful_trace)) 20 _ refl, named_20 shown b shows)

  served_complete_sent_0 : fitting.IsServed Shows jobs (take 32 (events_of eventful_trace)) complete_sent 0 (lost complete_lost)
  served_complete_sent_0 shown b shows certain = absurd (same_uncertain complete_sent why.WireFailed shown shows.0 certain)

  served_complete_sent_1 : fitting.IsServed Shows jobs (take 32 (events_of eventful_trace)) complete_sent 1 (well complete_again)
  served_complete_sent_1 shown b shows certain = (Replied reply.Completed [], at (take 32 (events_of eventful_trace)) 31 _ refl, named_31 shown b shows)

  begins : (lane : ℕ) → filter_map (begun_in lane) (events_of eventful_trace) ≡ flat_map requests_of (filter (λ (c : Dispatched). c.dispatch.lane == lane) jobs)
  begins zero = refl
  begins (suc zero) = refl
  begins (suc (suc lane)) =
      let a : (suc (suc lane) == 0) ≡ false = grind arith in
      let b : (0 == suc (suc lane)) ≡ false = grind arith in
      let c : (suc (suc lane) == 1) ≡ false = grind arith in
      let d : (1 == suc (suc lane)) ≡ false = grind arith in
      rw (a, b, c, d) refl

  one_two : ◌≡◌ {A = ℕ} 1 2 → ⊥
  one_two same = omega arith

  two_one : ◌≡◌ {A = ℕ} 2 1 → ⊥
  two_one same = omega arith

  pub fits : Fits Shows None (events_of eventful_trace) events jobs
  fits = fitting.fits Shows jobs (events_of eventful_trace) events refl begins
      (refl, (refl, (tt, (tt, (tt, (tt, (tt, (tt, (tt, (tt, (refl, (refl, (tt, (tt, (tt, (refl, (tt, (tt, (refl, (tt, (tt, (tt, (tt, (tt, (tt, (tt, (tt, (refl, (tt, (tt, (tt, (tt, (tt, (tt, tt))))))))))))))))))))))))))))))))))
      (tt, (tt, (tt, (tt, (tt, (tt, (tt, (tt, (refl, (refl, (tt, (tt, (tt, (tt, (refl, (tt, (tt, (refl, (tt, (tt, (tt, (tt, (tt, (tt, (refl, (tt, (refl, (tt, (tt, (tt, (tt, (tt, (refl, (tt, tt))))))))))))))))))))))))))))))))))
      (((λ same. one_two same.1), ((λ same. other_job create_job copy_job refl same.0), ((λ same. other_job create_job (part_job 2) refl same.0), ((λ same. other_job create_job (part_job 1) refl same.0), ((λ same. other_job create_job delete_job refl same.0), ((λ same. other_job create_job (part_job 1) refl same.0), ((λ same. other_job create_job complete_job refl same.0), ((λ same. other_job create_job complete_job refl same.0), ((λ same. other_job create_job delete_job refl same.0), tt))))))))), (((λ same. other_job create_job copy_job refl same.0), ((λ same. other_job create_job (part_job 2) refl same.0), ((λ same. other_job create_job (part_job 1) refl same.0), ((λ same. other_job create_job delete_job refl same.0), ((λ same. other_job create_job (part_job 1) refl same.0), ((λ same. other_job create_job complete_job refl same.0), ((λ same. other_job create_job complete_job refl same.0), ((λ same. other_job create_job delete_job refl same.0), tt)))))))), (((λ same. other_job copy_job (part_job 2) refl same.0), ((λ same. other_job copy_job (part_job 1) refl same.0), ((λ same. other_job copy_job delete_job refl same.0), ((λ same. other_job copy_job (part_job 1) refl same.0), ((λ same. other_job copy_job complete_job refl same.0), ((λ same. other_job copy_job complete_job refl same.0), ((λ same. other_job copy_job delete_job refl same.0), tt))))))), (((λ same. other_job (part_job 2) (part_job 1) refl same.0), ((λ same. other_job (part_job 2) delete_job refl same.0), ((λ same. other_job (part_job 2) (part_job 1) refl same.0), ((λ same. other_job (part_job 2) complete_job refl same.0), ((λ same. other_job (part_job 2) complete_job refl same.0), ((λ same. other_job (part_job 2) delete_job refl same.0), tt)))))), (((λ same. other_job (part_job 1) delete_job refl same.0), ((λ same. two_one same.1), ((λ same. other_job (part_job 1) complete_job refl same.0), ((λ same. other_job (part_job 1) complete_job refl same.0), ((λ same. other_job (part_job 1) delete_job refl same.0), tt))))), (((λ same. other_job delete_job (part_job 1) refl same.0), ((λ same. other_job delete_job complete_job refl same.0), ((λ same. other_job delete_job complete_job refl same.0), ((λ same. one_two same.1), tt)))), (((λ same. other_job (part_job 1) complete_job refl same.0), ((λ same. other_job (part_job 1) complete_job refl same.0), ((λ same. other_job (part_job 1) delete_job refl same.0), tt))), (((λ same. one_two same.1), ((λ same. other_job complete_job delete_job refl same.0), tt)), (((λ same. other_job complete_job delete_job refl same.0), tt), (tt, tt))))))))))
      (tt, (tt, (tt, (tt, (answered_4, (tt, (answered_6, (answered_7, (tt, (tt, (tt, (tt, (tt, (tt, (tt, (tt, (answered_16, (tt, (tt, (tt, (answered_20, (tt, (answered_22, (tt, (tt, (answered_25, (tt, (tt, (tt, (answered_29, (tt, (answered_31, (tt, (answered_33, tt))))))))))))))))))))))))))))))))))
      (tt, (tt, (tt, (tt, (tt, (tt, (tt, (tt, (((served_create_sent_0, (served_create_sent_1, tt)), tt), (((served_copy_sent_0, tt), tt), (tt, (tt, (tt, (tt, (((served_part_sent_0, tt), tt), (tt, (tt, (((served_other_sent_0, tt), tt), (tt, (tt, (tt, (tt, (tt, (tt, (((served_delete_sent_0, (served_delete_sent_1, tt)), tt), (tt, (((served_part_again_0, tt), tt), (tt, (tt, (tt, (tt, (tt, (((served_complete_sent_0, (served_complete_sent_1, tt)), tt), (tt, tt))))))))))))))))))))))))))))))))))
