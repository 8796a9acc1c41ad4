-- Runs that download two bytes in two ranges: one in which they came in reverse order, and one whose second Get was refused.
use Rattle.std.proofs.Common.{◌<◌, ◌+◌, ◌≡◌, ◌∙◌, ◌⊎◌, ◌≤◌, ℕ, zero, suc, Bool, true, false, List, [], ◌∷◌, Option, Some, None, Ok, refl, sym, ap, subst, inl, inr, AllPairs, Contains, length, slice_get, arith}
use Rattle.std.specs.Prelude.{IsSome, codes}
use Rattle.std.specs.Cmp.Lexicographic.{nat_list_cmp_total, slice_cmp}
use Rattle.std.specs.Ordering.{nat_cmp}
use Rattle.std.specs.FinMap.{empty, get, get-empty, insert, remove}
use Rattle.std.proofs.lemmas.List.{append-nil}
use Rattle.std.proofs.lemmas.List.Sorted.{IsPermutation-refl}
use Rattle.std.proofs.lemmas.Option.{slice_get_within}
use Rattle.s3_model.specs.declared.answers.Class.{Class}
use Rattle.s3_model.specs.declared.answers.Class.TheVariants as class
use Rattle.s3_model.specs.declared.answers.Reply.{Reply}
use Rattle.s3_model.specs.declared.answers.Reply.TheVariants as reply
use Rattle.s3_model.specs.declared.outcomes.Cause.TheVariants as cause
use Rattle.s3_model.specs.declared.outcomes.JobId.{JobId}
use Rattle.s3_model.specs.declared.outcomes.Outcome.{Outcome}
use Rattle.s3_model.specs.declared.outcomes.Outcome.TheVariants as outcome
use Rattle.s3_model.specs.declared.requests.Ask.TheVariants as ask
use Rattle.s3_model.specs.declared.requests.Op.{Op}
use Rattle.s3_model.specs.declared.requests.Op.TheVariants as op
use Rattle.s3_model.specs.declared.settings.Config.{Config}
use Rattle.s3_model.specs.declared.tasks.Kind.TheVariants as kind
use Rattle.s3_model.specs.declared.tasks.Task.{Task}
use Rattle.s3_model.specs.declared.tries.Mark.TheVariants as mark
use Rattle.s3_model.specs.Files.{HeldFile}
use Rattle.s3_model.specs.Maps.{MapOf}
use Rattle.s3_model.specs.Parts.{HasPieces, piece_range}
use Rattle.s3_service.specs.ServiceState.{State, with_object}
use Rattle.s3_service.specs.Serves.{IsThere, LiesWithin}
use Rattle.run_promise.specs.Dispatches.{FitsAsk, IsCompletedWell, IsCut}
use Rattle.job_terms.specs.Dispatches.{Dispatched}
use Rattle.job_terms.specs.Ops.{op_number}
use Rattle.run_promise.specs.Endings.{Excused, IsLeftover}
use Rattle.run_promise.specs.Outcomes.{HasOutcome, IsFirstFailure, SaysChanged, came_with}
use Rattle.run_promise.specs.Schedule.{IsBefore, IsBeforeAny, IsDecided, IsFailed, IsSchedule, IsTaskAsk, Setting, asked_range, gained_before, is_small, limit_of, source_bytes}
use Rattle.job_terms.specs.Jobs.{Origin, job_of}
use Rattle.run_promise.specs.Traces.{Step, states}
use Rattle.run_promise.specs.Truthful.{IsDest}
use Rattle.local_files.specs.Calls.{DropTemp, IsCallRun, IsTempFor, Leads, MakeTemp, Rename, Stamp, WriteAt, written_at}
use Rattle.run_promise.specs.Runs.{IsFitting}
use Rattle.world_laws.specs.Rounds.{AreServed, Round, Told, ToldStatus, attempt_of, dispatch_at, dispatched_from, journal_of, steps_from}
use Rattle.world_laws.specs.SmallTransfers.{HadContent}
use Rattle.world_laws.specs.Tasks.{AreQuestions, HasSourceObject, IsScheduled}
use Rattle.world_laws.proofs.Faithful.{IsFaithful, bare, bare_is_faithful, faithful_with, object_of, rounds_fitting, run_by, states_faithful}
use Rattle.shared_lemmas.proofs.Maps.{get-insert_same, text_exact}
use Rattle.shared_lemmas.proofs.Members.{contains_of, Has, has, has_middle}
use Rattle.world_laws.proofs.Objects.{object_at-with_object}
use Rattle.job_terms.proofs.PieceCounts.{pieces_are_one}
use Rattle.world_laws.proofs.Rounds.{AreApart as AreOtherJobs, rounds_come, rounds_given}
use Rattle.world_laws.proofs.ScheduleWitness.{limits_are_valid, one_task, setting_of, the_limits}
use Rattle.run_promise.specs.FileOutcomes.{HasFailedAct, IsFailedAct, IsShownByCalls}
use Rattle.file_laws.specs.FileEnds.{HasFailedCall}
use Rattle.run_promise.specs.FileCalls.{AreFileCalls, AreFilesApart, AreWritten, HasFailedBefore, IsBody, IsDropped, IsRangeIn, IsRenamed, IsTidying, TaskCall, steps_of}
use Rattle.file_laws.specs.FileLaws.{in_the_end}
use Rattle.file_laws.specs.FileWitnesses.{DownloadIsMet, IsFileTaskMet, LeftFileIsMet, RefusedGetIsMet, offsets_written, two_bytes}
use Rattle.file_laws.proofs.CallWitness.{IsWarned, all_pairs, calls_keep, still_apart}
use Rattle.file_laws.proofs.Keeping.{removal_downloads, run_of, some_is_there, true_false, upload_downloads}
use Rattle.file_laws.proofs.Resized.{resized, resized_come, resized_fits, resized_given}

-- ---- what differs

other_op : (a b : Op) → (op_number a ≡ op_number b → ⊥) → a ≡ b → ⊥
other_op a b apart e = apart (ap op_number e)

some_none : (n : ℕ) → ◌≡◌ {A = Option ℕ} (Some n) None → ⊥
some_none n e = cc

some_is : (m n : ℕ) → Some m ≡ Some n → m ≡ n
some_is m n e = cc

refused_or_fine : mark.Refusal ≡ mark.Success → ⊥
refused_or_fine e = cc

one_or_two : (k : ℕ) → 1 ≤ k → k ≤ 2 → (k ≡ 1) ⊎ (k ≡ 2)
one_or_two zero low high = absurd (omega arith)
one_or_two (suc zero) low high = inl refl
one_or_two (suc (suc zero)) low high = inr refl
one_or_two (suc (suc (suc k))) low high = absurd (omega arith)

-- ---- paths

abbrev dest : List ℕ
dest = codes "k"

abbrev temp : List ℕ
temp = codes "k.0a1b2c3d.s3part"

is_temp : IsTempFor dest temp
is_temp = (λ e. let level : ◌≡◌ {A = ℕ} 17 1 = ap length e in absurd (omega arith), refl, refl)

-- ---- the setting

abbrev config : Config
config = record { threshold = 2; chunk = 1; lanes = 1; queue = 1; buffers = 1; attempts = 1 }

two_pieces : HasPieces config the_limits kind.Download 2 1 2
two_pieces = inr (omega arith, (1, record { doublings = 0; is_multiple = refl; fits = omega arith; first = λ k below. absurd (omega arith) }, refl, refl))

abbrev excused : Excused
excused = record { left = []; untimed = []; wanted_memory = false }

module _ (bucket key : List ℕ) (a b : ℕ) where
  abbrev task : Task
  task = two_bytes bucket key a b

  abbrev setting : Setting
  setting = record (setting_of task) { config = config }

  abbrev etag : List ℕ
  etag = a ∷ b ∷ []

  abbrev start : State
  start = with_object (bare (bucket ∷ [])) bucket key (object_of etag)

  is_there : IsThere start bucket key etag (object_of etag)
  is_there = record { held = object_at-with_object (bare (bucket ∷ [])) bucket key (object_of etag); etag = refl }

  is_faithful : IsFaithful start
  is_faithful = faithful_with (bare (bucket ∷ [])) bucket key etag (bare_is_faithful (bucket ∷ []))

  only : (n : ℕ) (other : Task) → slice_get setting.tasks n ≡ Some other → other ≡ task
  only n other is = (one_task task n other is).1

  stays : (n : ℕ) (other : Task) → slice_get setting.tasks n ≡ Some other → other.moves ≡ true → ⊥
  stays n other is moves = true_false (sym moves ∙ ap (λ (t : Task). t.moves) (only n other is))

  files_apart : AreFilesApart empty (task ∷ [])
  files_apart = still_apart empty task refl (λ path removal is_dest. absurd (removal_downloads (sym removal)))

  from : Origin task
  from = record { bucket = bucket; key = key; is_source = (refl, refl) }

  abbrev get_round : ℕ → Bool → List ℕ → Round
  get_round number refused got = record {
    job = job_of 0 op.Get number;
    ask = ask.Get bucket key etag (Some (asked_range 2 1 number));
    body = [];
    refused = refused;
    got = got;
    size = 2;
    after = start;
  }

  -- ---- a Get that came well

  well : (at number : ℕ) (got : List ℕ) → length got ≡ 1 → IsCompletedWell Told (resized 1 2 (dispatch_at at (get_round number false got)))
  well at number got long = (
    refl,
    λ shown bytes told. subst (λ (x : Class). FitsAsk (resized 1 2 (dispatch_at at (get_round number false got))) (ask.Get bucket key etag (Some (asked_range 2 1 number))) x) (sym told.0) (refl, refl, long),
  )

  body_of : (at number : ℕ) (got : List ℕ) (dispatched : List Dispatched) → length got ≡ 1 → 1 ≤ number → number ≤ 2 → Contains dispatched (resized 1 2 (dispatch_at at (get_round number false got)))
      → (before from_byte : ℕ) → at + 1 < before → piece_range 2 1 number ≡ (from_byte, length got) → IsBody Told setting dispatched 0 task before from_byte got
  body_of at number got dispatched long low high known before from_byte later range = record {
    get = resized 1 2 (dispatch_at at (get_round number false got));
    known = known;
    number = number;
    is_get = refl;
    came = later;
    well = well at number got long;
    attempt = attempt_of (get_round number false got);
    is_last = refl;
    status = 206;
    told = Some ((asked_range 2 1 number).0, (asked_range 2 1 number).1, 2);
    size = length got;
    shows = (refl, refl);
    range = (1, 2, two_pieces, (low, high, range));
  }

  -- ---- two Gets, the first of which came well

  module _ (m n : ℕ) (low_m : 1 ≤ m) (high_m : m ≤ 2) (low_n : 1 ≤ n) (high_n : n ≤ 2) (others : m ≡ n → ⊥) (got_m got_n : List ℕ) (long : length got_m ≡ 1) (refused : Bool)
      (served : AreServed the_limits start (get_round m false got_m ∷ get_round n refused got_n ∷ [])) where
    abbrev rounds : List Round
    rounds = get_round m false got_m ∷ get_round n refused got_n ∷ []

    abbrev one : Dispatched
    one = resized 1 2 (dispatch_at 0 (get_round m false got_m))

    abbrev two : Dispatched
    two = resized 1 2 (dispatch_at 2 (get_round n refused got_n))

    abbrev all : List Dispatched
    all = one ∷ two ∷ []

    other_jobs : AreOtherJobs rounds
    other_jobs = (λ other h same. by other h same, ((λ other h. absurd h), tt))
      where
        by : (other : Round) → Has (get_round n refused got_n ∷ []) other → job_of 0 op.Get m ≡ other.job → ⊥
        by other (inl e) same = others (ap (λ (j : JobId). j.number) (same ∙ sym (ap (λ (r : Round). r.job) e)))
        by other (inr h) same = absurd h

    either : (c : Dispatched) → Contains all c → (one ≡ c) ⊎ (two ≡ c)
    either c known = by (has all c known)
      where
        by : Has all c → (one ≡ c) ⊎ (two ≡ c)
        by (inl e) = inl e
        by (inr (inl e)) = inr e
        by (inr (inr h)) = absurd h

    -- what holds of both holds of each
    of_both : (P : Dispatched → Type 0) → P one → P two → (c : Dispatched) → Contains all c → P c
    of_both P first second c known = elim (either c known) [ inl e ↦ subst P e first | inr e ↦ subst P e second ]

    of_first_task : (c : Dispatched) → Contains all c → c.dispatch.job.task ≡ Some 0
    of_first_task = of_both (λ c. c.dispatch.job.task ≡ Some 0) refl refl

    is_get : (c : Dispatched) → Contains all c → c.dispatch.job.op ≡ op.Get
    is_get = of_both (λ c. c.dispatch.job.op ≡ op.Get) refl refl

    no_op : (of_op : Op) → (1 ≡ op_number of_op → ⊥) → (c : Dispatched) → Contains all c → c.dispatch.job.op ≡ of_op → ⊥
    no_op of_op apart c known is = other_op op.Get of_op apart (sym (is_get c known) ∙ is)

    first_well : IsCompletedWell Told one
    first_well = well 0 m got_m long

    failed_is : (c : Dispatched) → IsFailed Told setting all c → Contains all c
    failed_is c failed = contains_of all c (subst (λ (xs : List Dispatched). Has xs c) (sym failed.2) (has_middle failed.0 c failed.1))

    only_second_fails : (c : Dispatched) → IsFailed Told setting all c → two ≡ c
    only_second_fails c failed = elim (either c (failed_is c failed)) [ inl e ↦ absurd (failed.4 (subst (IsCompletedWell Told) e first_well)) | inr e ↦ e ]

    nothing_later : (c : Dispatched) → Contains all c → IsBefore (Some 3) c.dispatch.given_at → ⊥
    nothing_later = of_both (λ c. IsBefore (Some 3) c.dispatch.given_at → ⊥) (λ later. omega arith) (λ later. omega arith)

    abbrev Asks : Dispatched → ℕ → Type 0
    Asks c k = (other : Task) × (piece : ℕ) × (count : ℕ) × (slice_get setting.tasks k ≡ Some other) × HasPieces config the_limits other.kind other.size piece count × (c.size ≡ other.size)
        × (c.limit ≡ limit_of other.size piece c.dispatch.job.number c.ask)
        × IsTaskAsk (gained_before Told all c.dispatch.given_at) other
        (record { number = k; bytes = source_bytes setting.held other.source; piece = piece; count = count })
        other.kind (is_small setting other) c.dispatch.job.op c.dispatch.job.number c.ask c.body

    both_ask : (c : Dispatched) → Contains all c → Asks c 0
    unfolding from
    both_ask = of_both (λ c. Asks c 0)
        (task, 1, 2, refl, two_pieces, refl, omega arith, (from, (low_m, high_m), refl, refl))
        (task, 1, 2, refl, two_pieces, refl, omega arith, (from, (low_n, high_n), refl, refl))

    distinct : AllPairs (λ (x y : Dispatched). x.dispatch.job ≡ y.dispatch.job → ⊥) all
    distinct = all_pairs (λ (x y : Dispatched). x.dispatch.job ≡ y.dispatch.job → ⊥) all ((λ same. others (ap (λ (j : JobId). j.number) same), tt), (tt, tt))

    schedule : IsSchedule Told setting AreQuestions all all
    schedule = record {
      is_coming = IsPermutation-refl all;
      in_order = all_pairs (λ (x y : Dispatched). IsBeforeAny x.dispatch.came_at y.dispatch.came_at) all ((omega arith, tt), (tt, tt));
      asks = λ c k known of. let zero_is : 0 ≡ k = some_is 0 k (sym (of_first_task c known) ∙ of) in subst (Asks c) zero_is (both_ask c known);
      plans = λ c known. absurd (has [] c known);
      planned = λ c known none. absurd (some_none 0 (sym (of_first_task c known) ∙ none));
      numbered = λ k c at. absurd (let inside = slice_get_within [] k c at in omega arith);
      one_by_one = λ i j d before inside. absurd (omega arith);
      dry = λ c dried known. absurd (true_false (sym dried));
      twice = λ i j d before inside same. absurd (distinct i j d before inside same);
      no_third = λ x y z i j k before after at_x at_y at_z same same_too. let inside = slice_get_within all k z at_z in absurd (omega arith);
      stops = λ failed c is_failed some no_abort known same before.
          let second = only_second_fails failed is_failed in
          absurd (nothing_later c known (subst (λ (d : Dispatched). IsBefore d.dispatch.came_at c.dispatch.given_at) (sym second) before));
      abort_last = λ x c known_x known is_abort same other. absurd (no_op op.Abort (λ e. absurd (omega arith)) x known_x is_abort);
      aborts = λ k id end come gained. absurd (no_op op.Create (λ e. absurd (omega arith)) gained.0 gained.1 (ap (λ (j : JobId). j.op) gained.2));
      completed_stays = λ k end x known is gained. no_op op.Abort (λ e. absurd (omega arith)) x known (ap (λ (j : JobId). j.op) is);
      moves_last = λ c k other known of is moves is_op. absurd (no_op op.Delete (λ e. absurd (omega arith)) c known is_op);
    }

    scheduled : IsScheduled Told setting (journal_of rounds) all all
    scheduled = record {
      schedule = schedule;
      given = resized_given 1 2 (journal_of rounds) (dispatched_from 0 rounds) (rounds_given rounds start other_jobs);
      come = λ c known. resized_come 1 2 (journal_of rounds) (dispatched_from 0 rounds) (λ d h. rounds_come rounds start other_jobs d h) c known;
      apart = record {
        destinations = λ i j x y bk k is_x is_y here there. (one_task task i x is_x).0 ∙ sym (one_task task j y is_y).0;
        sources = λ i j x y bk k is_x is_y moves is_source is_dest. stays i x is_x moves;
      };
      threshold = omega arith;
      limits = limits_are_valid;
    }

    abbrev trace : List Step
    trace = steps_from 0 start rounds

    fitting : IsFitting Told the_limits (run_by start rounds) (IsDest (task ∷ []))
    fitting = rounds_fitting the_limits start rounds served other_jobs is_faithful (is_faithful, (is_faithful, tt)) (IsDest (task ∷ []))

    source : HasSourceObject (states start trace) task
    source = (bucket, key, refl, sized)
      where
        sized : (bytes : List ℕ) → HadContent (states start trace) bucket key etag bytes → length bytes ≡ 2
        sized bytes had =
            let faithful = states_faithful rounds 0 start is_faithful (is_faithful, (is_faithful, tt)) had.0 (has (states start trace) had.0 had.2) bucket key had.1 had.3.held in
            ap length (sym had.4 ∙ sym faithful ∙ had.3.etag)

    -- a run with these calls
    module _ (excused : Excused) (calls : List TaskCall) (keep : AreFileCalls Told setting excused all all calls) (runs : IsCallRun empty (steps_of calls)) where
      met : (how : Outcome) → HasOutcome Told ToldStatus (HasFailedCall calls) setting all all 0 task how → IsShownByCalls how (IsRenamed calls 0) (HasFailedAct calls 0) → IsFileTaskMet task how
      met how caused shown = record {
        run = run_of setting excused all all calls;
        start = start;
        trace = trace;
        journal = journal_of rounds;
        is_task = refl;
        are_calls = record { keep = keep; runs = runs; apart = files_apart };
        scheduled = scheduled;
        traced = record { runs = fitting.runs; honest = fitting.honest; fits = resized_fits 1 2 _ (journal_of rounds) (dispatched_from 0 rounds) fitting.fits };
        whole = ([], sym (append-nil trace), fitting.fits.moves);
        by_files = record { path = dest; is_dest = refl; decided = inl refl; from = λ load. (bucket, key, refl); keeps = λ removal. absurd (removal_downloads (sym removal)) };
        sourced = λ may load. source;
        caused = caused;
        shown = shown;
      }

  -- ---- the files

  abbrev empty_file : HeldFile
  empty_file = record { bytes = []; micros = 0 }

  abbrev with_bytes : List ℕ → HeldFile
  with_bytes bytes = record { bytes = bytes; micros = 0 }

  found : (held : MapOf HeldFile) (p : List ℕ) (file : HeldFile) → get (insert held p file) p ≡ Some file
  found held p file = get-insert_same nat_list_cmp_total text_exact held p file

  inside_one : LiesWithin (asked_range 2 1 1) etag
  inside_one = (omega arith, omega arith)

  inside_two : LiesWithin (asked_range 2 1 2) etag
  inside_two = (omega arith, omega arith)

  -- ---- both came, the second range first

  abbrev backwards : List Round
  backwards = get_round 2 false (b ∷ []) ∷ get_round 1 false (a ∷ []) ∷ []

  backwards_served : AreServed the_limits start backwards
  backwards_served = (
    (object_of etag, is_there, (inside_two, inr (refl, refl, refl, refl)), refl),
    ((object_of etag, is_there, (inside_one, inr (refl, refl, refl, refl)), refl), tt),
  )

  two_is_one : ◌≡◌ {A = ℕ} 2 1 → ⊥
  two_is_one e = omega arith

  abbrev reversed : List Dispatched
  reversed = all 2 1 (omega arith) (omega arith) (omega arith) (omega arith) two_is_one (b ∷ []) (a ∷ []) refl false backwards_served

  abbrev made_files : MapOf HeldFile
  made_files = insert empty temp empty_file

  abbrev part_files : MapOf HeldFile
  part_files = insert made_files temp (with_bytes (written_at 1 (b ∷ []) []))

  abbrev full_files : MapOf HeldFile
  full_files = insert part_files temp (with_bytes (written_at 0 (a ∷ []) (written_at 1 (b ∷ []) [])))

  abbrev renamed_files : MapOf HeldFile
  renamed_files = insert (remove full_files temp) dest (with_bytes (written_at 0 (a ∷ []) (written_at 1 (b ∷ []) [])))

  abbrev make : TaskCall
  make = record { task = 0; events_before = 0; step = record { call = MakeTemp dest (Ok temp); held = made_files } }

  abbrev write_two : TaskCall
  write_two = record { task = 0; events_before = 2; step = record { call = WriteAt temp 1 (b ∷ []) true; held = part_files } }

  abbrev write_one : TaskCall
  write_one = record { task = 0; events_before = 4; step = record { call = WriteAt temp 0 (a ∷ []) true; held = full_files } }

  abbrev rename : TaskCall
  rename = record { task = 0; events_before = 4; step = record { call = Rename temp dest None; held = renamed_files } }

  abbrev stamp : TaskCall
  stamp = record { task = 0; events_before = 4; step = record { call = Stamp dest 0 true; held = insert renamed_files dest (with_bytes (written_at 0 (a ∷ []) (written_at 1 (b ∷ []) []))) } }

  abbrev calls : List TaskCall
  calls = make ∷ write_two ∷ write_one ∷ rename ∷ stamp ∷ []

  last_well : IsCompletedWell Told (resized 1 2 (dispatch_at 2 (get_round 1 false (a ∷ []))))
  last_well = well 2 1 (a ∷ []) refl

  body_two : IsBody Told setting reversed 0 task 2 1 (b ∷ [])
  body_two = body_of 0 2 (b ∷ []) reversed refl (omega arith) (omega arith) (0, omega arith, refl) 2 1 (omega arith) refl

  body_one : IsBody Told setting reversed 0 task 4 0 (a ∷ [])
  body_one = body_of 2 1 (a ∷ []) reversed refl (omega arith) (omega arith) (1, omega arith, refl) 4 0 (omega arith) refl

  abbrev written : List TaskCall
  written = make ∷ write_two ∷ write_one ∷ []

  all_written : AreWritten setting written 0 task temp
  all_written = record { piece = 1; count = 2; pieces = two_pieces; each = each }
    where
      each : (number at long : ℕ) → IsRangeIn (is_small setting task) 2 1 2 number at long
          → (w : TaskCall) × Contains written w × (w.task ≡ 0) × (bytes : List ℕ) × (w.step.call ≡ WriteAt temp at bytes true)
      each number at long range = elim (one_or_two number range.0 range.1) [
        | inl first ↦
            let at_is : 0 ≡ at = ap (λ (k : ℕ). (piece_range 2 1 k).0) (sym first) ∙ ap (λ (p : ℕ × ℕ). p.0) range.2 in
            (write_one, (2, omega arith, refl), refl, a ∷ [], ap (λ (k : ℕ). WriteAt temp k (a ∷ []) true) at_is)
        | inr second ↦
            let at_is : 1 ≡ at = ap (λ (k : ℕ). (piece_range 2 1 k).0) (sym second) ∙ ap (λ (p : ℕ × ℕ). p.0) range.2 in
            (write_two, (1, omega arith, refl), refl, b ∷ [], ap (λ (k : ℕ). WriteAt temp k (b ∷ []) true) at_is)
      ]

  none_fails : (c : Dispatched) → IsFailed Told setting reversed c → ⊥
  none_fails c failed =
      let second = only_second_fails 2 1 (omega arith) (omega arith) (omega arith) (omega arith) two_is_one (b ∷ []) (a ∷ []) refl false backwards_served c failed in
      failed.4 (subst (IsCompletedWell Told) second last_well)

  keep : AreFileCalls Told setting excused reversed reversed calls
  keep = calls_keep Told setting excused reversed reversed task only refl calls (
    record { first = refl; is_call = refl; warned = tt; follows = tt; uses = tt; writes = tt; renames = tt; stamps = tt },
    (
      record { first = refl; is_call = tt; warned = tt; follows = (refl, tt); uses = (make, (0, omega arith, refl), refl, dest, refl); writes = body_two; renames = tt; stamps = tt },
      (
        record { first = refl; is_call = tt; warned = tt; follows = (refl, ((λ e. absurd (omega arith)), tt)); uses = (make, (0, omega arith, refl), refl, dest, refl); writes = body_one; renames = tt; stamps = tt },
        (
          record { first = refl; is_call = refl; warned = tt; follows = (refl, (tt, (tt, tt))); uses = (make, (0, omega arith, refl), refl, dest, refl); writes = tt; renames = all_written; stamps = tt },
          (
            record { first = refl; is_call = (refl, refl); warned = tt; follows = (tt, (tt, (tt, (tt, tt)))); uses = tt; writes = tt; renames = tt; stamps = (rename, (3, omega arith, refl), refl, temp, dest, refl) },
            tt,
          ),
        ),
      ),
    ),
  )
      refl (λ c known upload. absurd (upload_downloads (sym upload)))
      ((omega arith, (omega arith, (omega arith, (omega arith, tt)))), ((omega arith, (omega arith, (omega arith, tt))), ((omega arith, (omega arith, tt)), ((omega arith, tt), (tt, tt)))))
      (λ c known is. no_op 2 1 (omega arith) (omega arith) (omega arith) (omega arith) two_is_one (b ∷ []) (a ∷ []) refl false backwards_served op.Delete (λ e. absurd (omega arith)) c known is)
      (λ c known is_get. (make, (0, omega arith, refl), of_first_task 2 1 (omega arith) (omega arith) (omega arith) (omega arith) two_is_one (b ∷ []) (a ∷ []) refl false backwards_served c known, dest, temp, refl, omega arith))
      (λ c known h. elim h [ inl cancelled ↦ absurd cancelled | inr failed ↦ absurd (none_fails failed.0 failed.1) ]) (λ path h. absurd (has [] path h)) (λ temp h. absurd (has [] temp h))
      (λ re. (stamp, (4, omega arith, refl), refl, dest, 0, true, refl))
      (λ path made. inl (rename, (3, omega arith, refl), refl, temp, dest, refl))

  runs : IsCallRun empty (steps_of calls)
  runs = (
    (is_temp, get-empty (slice_cmp nat_cmp) temp, (0, refl)),
    (
      (empty_file, found empty temp empty_file, (0, refl)),
      (
        (with_bytes (written_at 1 (b ∷ []) []), found made_files temp (with_bytes (written_at 1 (b ∷ []) [])), (0, refl)),
        (
          (with_bytes (written_at 0 (a ∷ []) (written_at 1 (b ∷ []) [])), found part_files temp (with_bytes (written_at 0 (a ∷ []) (written_at 1 (b ∷ []) []))), refl),
          ((with_bytes (written_at 0 (a ∷ []) (written_at 1 (b ∷ []) [])), found (remove full_files temp) dest (with_bytes (written_at 0 (a ∷ []) (written_at 1 (b ∷ []) []))), refl), tt),
        ),
      ),
    ),
  )

  abbrev got_range : ℕ → Reply
  got_range number = reply.Got 206 (Some ((asked_range 2 1 number).0, (asked_range 2 1 number).1, 2)) 1

  decided : IsDecided setting task 0 (came_with Told ToldStatus (HasFailedCall calls) setting reversed reversed)
  decided piece count has k low high =
      let level = pieces_are_one config the_limits kind.Download 2 piece 1 count 2 has two_pieces in
      elim (one_or_two k low (subst (λ (c : ℕ). k ≤ c) level.1 high)) [
        | inl first ↦ (
          got_range 1,
          subst (λ (j : ℕ). came_with Told ToldStatus (HasFailedCall calls) setting reversed reversed (job_of 0 op.Get j) (got_range 1)) (sym first)
              (resized 1 2 (dispatch_at 2 (get_round 1 false (a ∷ []))), (1, omega arith, refl), refl, (refl, a ∷ [], (refl, refl))),
        )
        | inr second ↦ (
          got_range 2,
          subst (λ (j : ℕ). came_with Told ToldStatus (HasFailedCall calls) setting reversed reversed (job_of 0 op.Get j) (got_range 2)) (sym second)
              (resized 1 2 (dispatch_at 0 (get_round 2 false (b ∷ []))), (0, omega arith, refl), refl, (refl, b ∷ [], (refl, refl))),
        )
      ]

  done_met : (done : IsFileTaskMet task outcome.Done) × (offsets_written done.run.calls ≡ 1 ∷ 0 ∷ [])
  unfolding met
  done_met = (
    met 2 1 (omega arith) (omega arith) (omega arith) (omega arith) two_is_one (b ∷ []) (a ∷ []) refl false backwards_served excused calls keep runs outcome.Done
        (λ c failed. none_fails c failed.0, decided, λ moves. absurd (true_false (sym moves)), λ fresh. absurd (true_false (sym fresh)))
        ((rename, (3, omega arith, refl), refl, temp, dest, refl), tt),
    refl,
  )

  -- ---- the second Get was refused

  abbrev denied : List ℕ
  denied = codes "AccessDenied"

  abbrev half : List Round
  half = get_round 1 false (a ∷ []) ∷ get_round 2 true denied ∷ []

  half_served : AreServed the_limits start half
  half_served = ((object_of etag, is_there, (inside_one, inr (refl, refl, refl, refl)), refl), ((refl, tt), tt))

  one_is_two : ◌≡◌ {A = ℕ} 1 2 → ⊥
  one_is_two e = omega arith

  abbrev halved : List Dispatched
  halved = all 1 2 (omega arith) (omega arith) (omega arith) (omega arith) one_is_two (a ∷ []) denied refl true half_served

  abbrev refused_get : Dispatched
  refused_get = resized 1 2 (dispatch_at 2 (get_round 2 true denied))

  abbrev half_files : MapOf HeldFile
  half_files = insert made_files temp (with_bytes (written_at 0 (a ∷ []) []))

  abbrev write_half : TaskCall
  write_half = record { task = 0; events_before = 2; step = record { call = WriteAt temp 0 (a ∷ []) true; held = half_files } }

  body_half : IsBody Told setting halved 0 task 2 0 (a ∷ [])
  body_half = body_of 0 1 (a ∷ []) halved refl (omega arith) (omega arith) (0, omega arith, refl) 2 0 (omega arith) refl

  -- the drop went well, or a warning says that it did not
  module _ (fine : Bool) (warnings : Excused) (warned : IsWarned warnings (DropTemp temp fine)) (after : MapOf HeldFile) (leads : Leads (DropTemp temp fine) half_files after)
      (untimed_none : (path : List ℕ) → Contains warnings.untimed path → ⊥) (left_is : (path : List ℕ) → Contains warnings.left path → (temp ≡ path) × (fine ≡ false)) where
    abbrev drop_temp : TaskCall
    drop_temp = record { task = 0; events_before = 4; step = record { call = DropTemp temp fine; held = after } }

    abbrev half_calls : List TaskCall
    half_calls = make ∷ write_half ∷ drop_temp ∷ []

    none_renamed : IsRenamed half_calls 0 → ⊥
    none_renamed re = by (has half_calls re.0 re.1)
      where
        made_is : MakeTemp dest (Ok temp) ≡ Rename re.3 re.4 None → ⊥
        made_is e = cc

        write_is : WriteAt temp 0 (a ∷ []) true ≡ Rename re.3 re.4 None → ⊥
        write_is e = cc

        drop_is : DropTemp temp fine ≡ Rename re.3 re.4 None → ⊥
        drop_is e = cc

        by : Has half_calls re.0 → ⊥
        by (inl e) = made_is (ap (λ (c : TaskCall). c.step.call) e ∙ re.5)
        by (inr (inl e)) = write_is (ap (λ (c : TaskCall). c.step.call) e ∙ re.5)
        by (inr (inr (inl e))) = drop_is (ap (λ (c : TaskCall). c.step.call) e ∙ re.5)
        by (inr (inr (inr h))) = h

    -- the refusal came after the write and before the drop
    early : (c : TaskCall) → c.events_before ≤ 3 → IsBefore setting.cancelled_at c.events_before ⊎ HasFailedBefore Told setting halved c.task c.events_before → ⊥
    early c low (inl cancelled) = cancelled
    early c low (inr failed) =
        let second = only_second_fails 1 2 (omega arith) (omega arith) (omega arith) (omega arith) one_is_two (a ∷ []) denied refl true half_served failed.0 failed.1 in
        let later : 3 < c.events_before = subst (λ (d : Dispatched). IsBefore d.dispatch.came_at c.events_before) (sym second) failed.3 in
        absurd (omega arith)

    stops_half : (c : TaskCall) → Contains half_calls c → IsBefore setting.cancelled_at c.events_before ⊎ HasFailedBefore Told setting halved c.task c.events_before → IsTidying c.step.call
    stops_half c known stopped = by (has half_calls c known)
      where
        low : (x : TaskCall) → x ≡ c → x.events_before ≤ 3 → IsTidying c.step.call
        low x e small = absurd (early c (subst (λ (y : TaskCall). y.events_before ≤ 3) e small) stopped)

        by : Has half_calls c → IsTidying c.step.call
        by (inl e) = low make e (omega arith)
        by (inr (inl e)) = low write_half e (omega arith)
        by (inr (inr (inl e))) = subst (λ (x : TaskCall). IsTidying x.step.call) e tt
        by (inr (inr (inr h))) = absurd h

    no_act_failed : HasFailedAct half_calls 0 → ⊥
    no_act_failed failed = by (has half_calls failed.0 failed.1)
      where
        act : (c : TaskCall) → c ≡ failed.0 → IsFailedAct c.step.call
        act c e = subst (λ (x : TaskCall). IsFailedAct x.step.call) (sym e) failed.3

        by : Has half_calls failed.0 → ⊥
        by (inl e) = act make e
        by (inr (inl e)) = act write_half e
        by (inr (inr (inl e))) = act drop_temp e
        by (inr (inr (inr h))) = h

    keep_half : AreFileCalls Told setting warnings halved halved half_calls
    keep_half = calls_keep Told setting warnings halved halved task only refl half_calls (
      record { first = refl; is_call = refl; warned = tt; follows = tt; uses = tt; writes = tt; renames = tt; stamps = tt },
      (
        record { first = refl; is_call = tt; warned = tt; follows = (refl, tt); uses = (make, (0, omega arith, refl), refl, dest, refl); writes = body_half; renames = tt; stamps = tt },
        (record { first = refl; is_call = tt; warned = warned; follows = (refl, (tt, tt)); uses = (make, (0, omega arith, refl), refl, dest, refl); writes = tt; renames = tt; stamps = tt }, tt),
      ),
    )
        refl (λ c known upload. absurd (upload_downloads (sym upload)))
        ((omega arith, (omega arith, tt)), ((omega arith, tt), (tt, tt)))
        (λ c known is. no_op 1 2 (omega arith) (omega arith) (omega arith) (omega arith) one_is_two (a ∷ []) denied refl true half_served op.Delete (λ e. absurd (omega arith)) c known is)
        (λ c known is_get. (make, (0, omega arith, refl), of_first_task 1 2 (omega arith) (omega arith) (omega arith) (omega arith) one_is_two (a ∷ []) denied refl true half_served c known, dest, temp, refl, omega arith))
        stops_half (λ path h. absurd (untimed_none path h))
        (λ path h. let own = left_is path h in (drop_temp, (2, omega arith, refl), ap (λ (q : List ℕ). DropTemp q fine) own.0 ∙ ap (DropTemp path) own.1))
        (λ re. absurd (none_renamed re))
        (λ path made. inr (drop_temp, (2, omega arith, refl), refl, temp, fine, refl))

    runs_half : IsCallRun empty (steps_of half_calls)
    runs_half = (
      (is_temp, get-empty (slice_cmp nat_cmp) temp, (0, refl)),
      ((empty_file, found empty temp empty_file, (0, refl)), (leads, tt)),
    )

    not_cut : (Stopped : Type 0) → IsCut Told 1 refused_get [] Stopped → ⊥
    not_cut Stopped (inl again) = has [] again.0 again.1
    not_cut Stopped (inr cut) = let left = cut.3.4 in absurd (omega arith)

    second_fails : IsFailed Told setting halved refused_get
    second_fails = (resized 1 2 (dispatch_at 0 (get_round 1 false (a ∷ []))) ∷ [], [], refl, λ cut. not_cut _ cut, λ well. refused_or_fine well.0)

    first_failure : IsFirstFailure Told ToldStatus (HasFailedCall half_calls) setting halved halved 0 refused_get
    first_failure = (
      (second_fails, refl),
      λ other failing. inl (sym (ap (λ (c : Dispatched). c.dispatch)
          (only_second_fails 1 2 (omega arith) (omega arith) (omega arith) (omega arith) one_is_two (a ∷ []) denied refl true half_served other failing.0))),
    )

    not_changed : SaysChanged Told ToldStatus refused_get (attempt_of (get_round 2 true denied)) → ⊥
    not_changed changed = elim changed.1.4 [
      | inl status ↦ other_status status
      | inr code ↦ other_code (sym code ∙ code_is changed.1.0 changed.1.1 changed.1.3.0)
    ]
      where
        other_status : ◌≡◌ {A = ℕ} 412 403 → ⊥
        other_status e = omega arith

        code_is : (code message : List ℕ) → class.Refusal code message ≡ class.Refusal denied [] → code ≡ denied
        code_is code message e = cc

        other_code : codes "PreconditionFailed" ≡ denied → ⊥
        other_code e = let level : ◌≡◌ {A = ℕ} 18 12 = ap length e in absurd (omega arith)

    refused_met : (failed : IsFileTaskMet task (outcome.Failed (cause.Service op.Get denied []))) × (offsets_written failed.run.calls ≡ 0 ∷ []) × IsDropped failed.run.calls 0
    unfolding met
    refused_met = (
      met 1 2 (omega arith) (omega arith) (omega arith) (omega arith) one_is_two (a ∷ []) denied refl true half_served warnings half_calls keep_half runs_half (outcome.Failed (cause.Service op.Get denied [])) (
        λ decided. decided.2.0,
        λ left_open. left_open.0.2.0,
        ((refused_get, first_failure, (refl, (denied, (refl, refl)), not_changed)), λ skipped. upload_downloads (sym skipped.1)),
        λ fresh. absurd (true_false (sym fresh)),
      )
          (none_renamed, no_act_failed),
      refl,
      (drop_temp, (2, omega arith, refl), refl, temp, fine, refl),
    )

  abbrev warnings_of_temp : Excused
  warnings_of_temp = record { left = temp ∷ []; untimed = []; wanted_memory = false }

  left_met : (failed : IsFileTaskMet task (outcome.Failed (cause.Service op.Get denied [])))
      × ((path : List ℕ) × IsLeftover failed.run.excused failed.run.setting.held path × IsSome (in_the_end failed.run path))
  unfolding refused_met met
  left_met = (
    (refused_met false warnings_of_temp (refl, inl (0, omega arith, refl)) half_files refl (λ path h. has [] path h) left_is).0,
    (temp, ((refl, inl (0, omega arith, refl)), get-empty (slice_cmp nat_cmp) temp), some_is_there (get half_files temp) (with_bytes (written_at 0 (a ∷ []) [])) (found made_files temp (with_bytes (written_at 0 (a ∷ []) [])))),
  )
    where
      left_is : (path : List ℕ) → Contains (temp ∷ []) path → (temp ≡ path) × (false ≡ false)
      left_is path h = elim (has (temp ∷ []) path h) [ inl e ↦ (e, refl) | inr none ↦ absurd none ]

pub download_is_met : DownloadIsMet
download_is_met bucket key a b = done_met bucket key a b

pub refused_get_is_met : RefusedGetIsMet
refused_get_is_met bucket key a b = refused_met bucket key a b true excused tt _ refl (λ path h. has [] path h) (λ path h. absurd (has [] path h))

pub left_file_is_met : LeftFileIsMet
left_file_is_met bucket key a b = left_met bucket key a b
