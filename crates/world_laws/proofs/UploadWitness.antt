-- An orderly run of an upload in two parts, over a service that does what it may.
use Rattle.std.proofs.Common.{◌≡◌, ◌∙◌, ◌+◌, ◌<◌, ℕ, zero, suc, false, true, List, [], ◌∷◌, Option, Some, refl, sym, ap, subst, inl, inr, Contains, slice_get, arith}
use Rattle.std.specs.Cmp.Lexicographic.{nat_list_cmp_total}
use Rattle.std.specs.FinMap.{get, insert, empty}
use Rattle.std.proofs.lemmas.List.{append-nil}
use Rattle.s3_model.specs.declared.answers.Reply.TheVariants as reply
use Rattle.s3_model.specs.declared.outcomes.JobId.{JobId}
use Rattle.s3_model.specs.declared.outcomes.Outcome.TheVariants as outcome
use Rattle.s3_model.specs.declared.requests.Ask.{Ask}
use Rattle.s3_model.specs.declared.requests.Ask.TheVariants as ask
use Rattle.s3_model.specs.declared.requests.Op.TheVariants as op
use Rattle.s3_model.specs.declared.tasks.Kind.TheVariants as kind
use Rattle.s3_model.specs.declared.tasks.Task.{Task}
use Rattle.s3_model.specs.Files.{HeldFile}
use Rattle.s3_model.specs.Maps.{MapOf}
use Rattle.s3_model.specs.Parts.{HasPieces, piece_of}
use Rattle.s3_service.specs.ServiceState.{State}
use Rattle.job_terms.specs.Dispatches.{Dispatched}
use Rattle.job_terms.specs.Ops.{op_number}
use Rattle.run_promise.specs.Outcomes.{HasOutcome}
use Rattle.run_promise.specs.Schedule.{AreETags, IsSchedule, IsUpload, bytes_of, gained_before}
use Rattle.job_terms.specs.Jobs.{Target, job_of}
use Rattle.run_promise.specs.Traces.{IsWilling}
use Rattle.run_promise.specs.Truthful.{IsDest}
use Rattle.shared_lemmas.proofs.Clashes.{false_true, none_is_some, some_is}
use Rattle.shared_lemmas.proofs.Maps.{get-insert_same, text_exact}
use Rattle.shared_lemmas.proofs.Members.{Has, has}
use Rattle.world_laws.specs.ExampleTasks.{upload}
use Rattle.world_laws.specs.Completeness.{AreSourcesThere}
use Rattle.run_promise.specs.Runs.{IsFitting}
use Rattle.world_laws.specs.Promises.{IsByRequests}
use Rattle.world_laws.specs.Rounds.{AreNone, AreServed, NeverFailed, Round, Told, ToldStatus, attempt_of, dispatch_at, dispatched_from, steps_from}
use Rattle.world_laws.specs.Tasks.{AreApart, HasSourceFile}
use Rattle.world_laws.specs.Witnesses.{IsPromiseMet, IsUploadMet, UploadIsComplete}
use Rattle.world_laws.proofs.Faithful.{bare, bare_has, rounds_fitting, run_by}
use Rattle.world_laws.proofs.PartsWitness as parts
use Rattle.world_laws.proofs.PartsWitness.{bucket_is_ready, none_later}
use Rattle.world_laws.proofs.PromiseWitness.{alone_trace, bucket_of, certain_at, orderly, run}
use Rattle.world_laws.proofs.Rounds.{AreApart as AreOtherJobs}
use Rattle.world_laws.proofs.ScheduleWitness.{AllCompleted, AllPlain, AsksWith, CameWell, IsPlainRound, not_failed, one_task, rounds_schedule, setting_with, the_config, the_limits}

upload_copy : kind.Upload ≡ kind.Copy → ⊥
upload_copy e = cc

upload_removal : kind.Upload ≡ kind.RemoveObject → ⊥
upload_removal e = cc

-- no op of an upload that came is an Abort
no_abort : (a : ℕ) → (a < 9) → a ≡ 9 → ⊥
no_abort a below e = absurd (omega arith)

module _ (bucket key path : List ℕ) where
  abbrev task : Task
  task = upload bucket key path 2 false

  -- ---- the file

  abbrev file : HeldFile
  file = record { bytes = 1 ∷ 2 ∷ []; micros = 0 }

  abbrev held : MapOf HeldFile
  held = insert empty path file

  is_held : get held path ≡ Some file
  is_held = get-insert_same nat_list_cmp_total text_exact empty path file

  abbrev pieces : ℕ → List ℕ
  pieces n = piece_of file.bytes 1 n

  piece_is : (n : ℕ) → pieces n ≡ piece_of (bytes_of (get held path)) 1 n
  piece_is n = ap (λ (found : Option HeldFile). piece_of (bytes_of found) 1 n) (sym is_held)

  in_two : HasPieces the_config the_limits kind.Upload 2 1 2
  in_two = inr (omega arith, (1, record { doublings = 0; is_multiple = refl; fits = omega arith; first = λ k below. absurd (omega arith) }, refl, refl))

  -- ---- the rounds

  abbrev start : State
  start = bare (bucket ∷ [])

  abbrev part_of : ℕ → Ask
  part_of n = ask.Part bucket key [] n

  abbrev two : parts.TwoParts
  two = record {
    limits = the_limits;
    bucket = bucket;
    key = key;
    start = start;
    ready = bucket_is_ready bucket;
    pieces = pieces;
    part_ask = part_of;
    part_body = pieces;
    more = λ t. [];
    later = none_later bucket key;
    size = 2;
  }

  abbrev rounds : List Round
  rounds = parts.upload two

  abbrev create : Round
  create = parts.create two

  abbrev first : Round
  first = parts.part_round two 1 (parts.after_one two)

  abbrev second : Round
  second = parts.part_round two 2 (parts.after_two two)

  abbrev complete : Round
  complete = parts.complete two

  abbrev all : List Dispatched
  all = dispatched_from 0 rounds

  served : AreServed the_limits start rounds
  served = parts.upload_served two (parts.begun two, parts.open_created two, refl) (parts.one_part two, parts.open_one two, refl) (omega arith) tt

  other_jobs : AreOtherJobs rounds
  other_jobs = parts.upload_apart two

  fitting : IsFitting Told the_limits (run_by start rounds) (IsDest (task ∷ []))
  fitting = rounds_fitting the_limits start rounds served other_jobs (bucket_is_ready bucket).first (parts.all_faithful two) (IsDest (task ∷ []))

  -- what holds of these four holds of each
  each : (IsSuch : Dispatched → Type 0) → IsSuch (dispatch_at 0 create) → IsSuch (dispatch_at 2 first) → IsSuch (dispatch_at 4 second) → IsSuch (dispatch_at 6 complete)
      → (c : Dispatched) → Contains all c → IsSuch c
  each IsSuch a b d e c known = which (has all c known)
    where
      which : Has all c → IsSuch c
      which (inl is) = subst IsSuch is a
      which (inr (inl is)) = subst IsSuch is b
      which (inr (inr (inl is))) = subst IsSuch is d
      which (inr (inr (inr (inl is)))) = subst IsSuch is e
      which (inr (inr (inr (inr h)))) = absurd h

  each_round : (IsSuch : Round → Type 0) → IsSuch create → IsSuch first → IsSuch second → IsSuch complete → (r : Round) → Has rounds r → IsSuch r
  each_round IsSuch a b d e r (inl is) = subst IsSuch is a
  each_round IsSuch a b d e r (inr (inl is)) = subst IsSuch is b
  each_round IsSuch a b d e r (inr (inr (inl is))) = subst IsSuch is d
  each_round IsSuch a b d e r (inr (inr (inr (inl is)))) = subst IsSuch is e
  each_round IsSuch a b d e r (inr (inr (inr (inr h)))) = absurd h

  sized : (r : Round) → Has rounds r → r.size ≡ 2
  sized = each_round (λ (r : Round). r.size ≡ 2) refl refl refl refl

  plain : AllPlain rounds
  plain = each_round IsPlainRound
      (record { task = 0; of_task = refl; no_abort = λ e. no_abort 5 (omega arith) (ap op_number e) })
      (record { task = 0; of_task = refl; no_abort = λ e. no_abort 6 (omega arith) (ap op_number e) })
      (record { task = 0; of_task = refl; no_abort = λ e. no_abort 6 (omega arith) (ap op_number e) })
      (record { task = 0; of_task = refl; no_abort = λ e. no_abort 8 (omega arith) (ap op_number e) })

  well : (r : Round) → Has rounds r → CameWell r
  well = each_round CameWell
      (record { not_refused = refl; fits_ask = λ at shown. tt })
      (record { not_refused = refl; fits_ask = λ at shown. tt })
      (record { not_refused = refl; fits_ask = λ at shown. tt })
      (record { not_refused = refl; fits_ask = λ at shown. tt })

  -- ---- the schedule

  to : Target task
  to = record { bucket = bucket; key = key; is_dest = (refl, refl) }

  created : (at : ℕ) → 1 < at → IsUpload (gained_before Told all at) 0 []
  created at late = (dispatch_at 0 create, (0, omega arith, refl), refl, late, (refl, [], (refl, refl)))

  etags : AreETags (gained_before Told all 6) 0 op.Part 2 ([] ∷ [] ∷ [])
  etags = record { each_part = refl; in_order = gained }
    where
      stored : (at : ℕ) (r : Round) (number : ℕ) (etag : List ℕ) → Some [] ≡ Some etag → gained_before Told all 6 (job_of 0 op.Part number) (reply.PartStored []) → gained_before Told all 6 (job_of 0 op.Part number) (reply.PartStored etag)
      stored at r number etag e h = subst (λ (x : List ℕ). gained_before Told all 6 (job_of 0 op.Part number) (reply.PartStored x)) (same etag e) h
        where
          same : (x : List ℕ) → Some [] ≡ Some x → [] ≡ x
          same x f = cc

      gained : (n : ℕ) (etag : List ℕ) → slice_get ([] ∷ [] ∷ []) n ≡ Some etag → gained_before Told all 6 (job_of 0 op.Part (n + 1)) (reply.PartStored etag)
      gained zero etag e = stored 2 first 1 etag e (dispatch_at 2 first, (1, omega arith, refl), refl, omega arith, (refl, [], (refl, refl)))
      gained (suc zero) etag e = stored 4 second 2 etag e (dispatch_at 4 second, (2, omega arith, refl), refl, omega arith, (refl, [], (refl, refl)))
      gained (suc (suc n)) etag e = absurd (none_is_some etag e)

  abbrev Asks : Dispatched → Type 0
  Asks c = AsksWith held task all c 0

  create_asks : Asks (dispatch_at 0 create)
  unfolding to
  create_asks = (task, 1, 2, refl, in_two, refl, refl, (to, refl, refl, refl))

  first_asks : Asks (dispatch_at 2 first)
  unfolding to
  first_asks = (task, 1, 2, refl, in_two, refl, refl, (to, [], created 2 (omega arith), (omega arith, omega arith), refl, piece_is 1))

  second_asks : Asks (dispatch_at 4 second)
  unfolding to
  second_asks = (task, 1, 2, refl, in_two, refl, refl, (to, [], created 4 (omega arith), (omega arith, omega arith), refl, piece_is 2))

  complete_asks : Asks (dispatch_at 6 complete)
  unfolding to
  complete_asks = (task, 1, 2, refl, in_two, refl, refl, ((to, [], [] ∷ [] ∷ [], 0, created 6 (omega arith), etags, refl), refl, refl))

  asks : (c : Dispatched) (n : ℕ) → Contains all c → c.dispatch.job.task ≡ Some n → AsksWith held task all c n
  asks c n known of_task = subst (AsksWith held task all c) (first_task c n known of_task) (each Asks create_asks first_asks second_asks complete_asks c known)
    where
      first_task : (d : Dispatched) (m : ℕ) → Contains all d → d.dispatch.job.task ≡ Some m → 0 ≡ m
      first_task d m among of = some_is 0 m (sym (each (λ (x : Dispatched). x.dispatch.job.task ≡ Some 0) refl refl refl refl d among) ∙ of)

  completed : AllCompleted (setting_with held task) rounds other_jobs plain
  completed n id end all_come gained =
      let level : 0 ≡ n = some_is 0 n (sym (each (λ (x : Dispatched). x.dispatch.job.task ≡ Some 0) refl refl refl refl gained.0 gained.1) ∙ ap (λ (j : JobId). j.task) gained.2) in
      subst (λ (m : ℕ). gained_before Told all end (job_of m op.Complete 0) reply.Completed) level
      (dispatch_at 6 complete, (3, omega arith, refl), refl, all_come (dispatch_at 6 complete) (3, omega arith, refl), (refl, [], (refl, refl)))

  never_moves : (other : Task) (n : ℕ) → slice_get (task ∷ []) n ≡ Some other → other.moves ≡ true → ⊥
  never_moves other n at moved = false_true (ap (λ (t : Task). t.moves) (sym (one_task task n other at).1) ∙ moved)

  schedule : IsSchedule Told (setting_with held task) AreNone all all
  schedule =
      rounds_schedule (setting_with held task) rounds other_jobs plain AreNone refl refl
      (λ failed c is_failed known before. not_failed (setting_with held task) rounds well failed is_failed) completed asks
      (λ c n other known of_task at moved is_op. absurd (never_moves other n at moved))

  -- ---- its promise

  caused : HasOutcome Told ToldStatus NeverFailed (setting_with held task) all all 0 task outcome.Done
  caused = (
    λ c failed. not_failed (setting_with held task) rounds well c failed.0,
    (dispatch_at 6 complete, (3, omega arith, refl), (tt, refl), (0, attempt_of complete, refl, refl)),
    λ moves. absurd (false_true moves),
    λ fresh. absurd (false_true fresh),
  )

  has_file : HasSourceFile held task
  has_file = (path, file, refl, is_held, refl)

  apart : AreApart (task ∷ [])
  apart = record {
    destinations = λ m n a b b1 k1 at_m at_n here there. (one_task task m a at_m).0 ∙ sym (one_task task n b at_n).0;
    sources = λ m n a b b1 k1 at_m at_n moved is_source is_dest. never_moves a m at_m moved;
  }

  by_requests : IsByRequests task
  by_requests = record { bucket = bucket; key = key; is_dest = refl; decided = tt; keeps = λ removes. absurd (upload_removal removes) }

  promise : IsPromiseMet task outcome.Done
  promise = record {
    shown = run held task outcome.Done rounds start other_jobs plain sized refl;
    dispatched = all;
    start = start;
    trace = steps_from 0 start rounds;
    planned = refl;
    ended = refl;
    orderly = orderly held task outcome.Done rounds start other_jobs plain sized refl schedule caused by_requests apart (λ seen may. has_file) (λ p moves. absurd (false_true moves));
    traced = fitting;
    whole = ([], sym (append-nil (steps_from 0 start rounds)), fitting.fits.moves);
  }

  -- ---- over a service that does what it may

  willing : IsWilling the_limits start (steps_from 0 start rounds)
  willing = (tt, (tt, (λ ranged. absurd ranged, (tt, (tt, (tt, (λ ranged. absurd ranged, (tt, (tt, (tt, (λ ranged. absurd ranged, (tt, (tt, (tt, (λ ranged. absurd ranged, (tt, tt))))))))))))))))

  no_copy : (n : ℕ) (other : Task) → slice_get (task ∷ []) n ≡ Some other → other.kind ≡ kind.Copy → ⊥
  no_copy n other at is_copy = upload_copy (ap (λ (t : Task). t.kind) (sym (one_task task n other at).1) ∙ is_copy)

  sources : AreSourcesThere held (task ∷ []) start
  sources = record {
    files = λ n other at uploads. subst (HasSourceFile held) (sym (one_task task n other at).1) has_file;
    there = λ n other b k at is_copy. absurd (no_copy n other at is_copy);
    no_dest = λ m n a b bk k is_a is_b is_copy. absurd (no_copy m a is_a is_copy);
    moved_once = λ m n a b bk k is_a is_b is_copy. absurd (no_copy m a is_a is_copy);
  }

  met : IsUploadMet bucket key path
  unfolding promise
  met = record {
    done = record {
      met = promise;
      counted = λ n why ended never. absurd never;
      willing = willing;
      certain = certain_at rounds start;
      alone = alone_trace rounds start;
      buckets = bucket_of start task bucket key refl (bare_has bucket []);
      sources = sources;
      fresh = λ n other at fresh. absurd (false_true (ap (λ (t : Task). t.fresh) (sym (one_task task n other at).1) ∙ fresh));
      not_cancelled = refl;
    };
    in_parts = in_two;
  }

pub upload_is_complete : UploadIsComplete
upload_is_complete bucket key path = met bucket key path
