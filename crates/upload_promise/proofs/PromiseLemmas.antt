-- A run of at most one small upload keeps its promise: its task was planned and carried, or none was.
use Rattle.std.proofs.Common.{◌≡◌, ◌∙◌, ◌==◌, ◌<◌, ◌≤◌, ℕ, Bool, true, false, List, [], ◌∷◌, Option, Some, None, refl, sym, ap, subst, inl, inr, Contains, length, slice_get, filter_map, if◌then◌else◌, arith, ◌≢◌}
use Rattle.std.specs.FinMap.{get}
use Rattle.std.proofs.lemmas.List.{take_all}
use Rattle.s3_model.specs.declared.requests.Ask.{Ask}
use Rattle.s3_model.specs.declared.answers.Why.{Why}
use Rattle.s3_model.specs.declared.answers.Class.{Class}
use Rattle.s3_model.specs.declared.outcomes.Cause.{Cause}
use Rattle.s3_model.specs.declared.outcomes.Cause.TheVariants as cause
use Rattle.s3_model.specs.declared.outcomes.Event.{Event}
use Rattle.s3_model.specs.declared.outcomes.FileCall.TheVariants as call
use Rattle.s3_model.specs.declared.outcomes.Outcome.{Outcome}
use Rattle.s3_model.specs.declared.outcomes.Outcome.TheVariants as outcome
use Rattle.s3_model.specs.declared.outcomes.Reason.{Reason}
use Rattle.s3_model.specs.declared.requests.Op.{Op}
use Rattle.s3_model.specs.declared.requests.Op.TheVariants as op
use Rattle.s3_model.specs.declared.settings.Config.{Config}
use Rattle.s3_model.specs.declared.settings.Limits.{Limits}
use Rattle.s3_model.specs.declared.tasks.Kind.TheVariants as kind
use Rattle.s3_model.specs.declared.tasks.Task.{Task}
use Rattle.s3_model.specs.declared.tasks.Warning.{Warning}
use Rattle.s3_model.specs.declared.tries.Mark.{Mark}
use Rattle.s3_model.specs.Files.{FileStore, HeldFile, is_folder, is_listed}
use Rattle.s3_model.specs.Talks.{Talk, Note}
use Rattle.s3_model.specs.Validity.{IsValidConfig, IsValidLimits, IsWithin}
use Rattle.job_terms.specs.Buffers.{KeepsBuffers}
use Rattle.run_promise.specs.Carried.{IsCarried}
use Rattle.job_terms.specs.Attempts.{in_first}
use Rattle.job_terms.specs.Dispatches.{Attempt, Dispatched}
use Rattle.run_promise.specs.Outcomes.{HasOutcome}
use Rattle.run_promise.specs.Schedule.{IsSchedule, is_small}
use Rattle.run_promise.specs.Settled.{IsSettingOf, cause_of, is_dry, is_upload, lanes_of, left_by, shown_by, tells_file_failed, untimed_by}
use Rattle.run_promise.specs.Truthful.{Shown}
use Rattle.world_laws.specs.Promises.{IsByRequests}
use Rattle.world_laws.specs.Tasks.{HasSource, HasSourceFile}
use Rattle.shared_lemmas.proofs.Clashes.{none_is_some}
use Rattle.s3_outside.specs.Files.{SeenFiles, shape_of}
use Rattle.s3_outside.specs.declared.files.Shape.TheVariants as shape
use Rattle.upload_promise.specs.Puts.{AreIdle}
use Rattle.upload_promise.specs.Sources.{AreFirstBytes, AreLeft}
use Rattle.upload_promise.specs.Uploads.{IsReadCause, Uploads, put_events, upload_ask, upload_task}
use Rattle.upload_promise.specs.Shown.{CallFailed, KeepsPromise, end_of, one_attempt, start_of}
use Rattle.upload_promise.proofs.JobLemmas.{Planned, each, first_only, in_none, no_buffers, no_jobs, no_schedule, put_alone, put_buffers, put_schedule, put_with, setting_of}
use Rattle.upload_promise.proofs.LawLemmas.{AreAlone, IsOrdered, done_where_willing, truthful}
use Rattle.upload_promise.proofs.OutcomeLemmas.{tells, unread_for}
use Rattle.upload_promise.proofs.WireLemmas.{none_carried, none_idle}

-- ---- the file

no_file : (a b : Bool) (size micros : ℕ) → (if a then shape.Folder else if b then shape.Other else shape.Absent) ≡ shape.File size micros → ⊥
no_file true b size micros e = cc
no_file false true size micros e = cc
no_file false false size micros e = cc

file_size : (size micros n m : ℕ) → shape.File size micros ≡ shape.File n m → size ≡ n
file_size size micros n m e = cc

pub shape_file : (store : FileStore) (path : List ℕ) (found : Option HeldFile) (size micros : ℕ) → shape_of store path found ≡ shape.File size micros
    → (file : HeldFile) × (found ≡ Some file) × (length file.bytes ≡ size)
shape_file store path None size micros e = absurd (no_file (is_folder store path) (is_listed store.others path) size micros e)
shape_file store path (Some file) size micros e = (file, refl, file_size (length file.bytes) file.micros size micros e)

-- all first bytes of a file are its bytes
whole_file : (store : FileStore) (path bytes : List ℕ) (file : HeldFile) → get store.held path ≡ Some file → AreFirstBytes store path bytes → length bytes ≡ length file.bytes → bytes ≡ file.bytes
whole_file store path bytes file held first same = (first file held).0 ∙ take_all (length bytes) file.bytes (omega arith)

-- ---- outcomes of an upload that is carried out

false_is_true : false ≡ true → ⊥
false_is_true e = cc

-- no run of today is cancelled or dry
abbrev pub IsOrdinary : Outcome → Type 0
IsOrdinary how = ((why : Reason) → cause_of (Some how) ≡ Some (cause.Cancelled why) → ⊥) × (is_dry how ≡ false)

no_cause : (why : Reason) → ◌≡◌ {A = Option Cause} None (Some (cause.Cancelled why)) → ⊥
no_cause why e = cc

other_cause : (a : Cause) (why : Reason) → (a ≡ cause.Cancelled why → ⊥) → Some a ≡ Some (cause.Cancelled why) → ⊥
other_cause a why other e = other (some_cause a (cause.Cancelled why) e)
  where
    some_cause : (x y : Cause) → Some x ≡ Some y → x ≡ y
    some_cause x y is = cc

read_ordinary : (told : Option SeenFiles) (path : List ℕ) (size before after : ℕ) (why : Cause) → IsReadCause told path size before after why → IsOrdinary (outcome.Failed why)
read_ordinary told path size before after cause.Memory h = ((λ reason. other_cause cause.Memory reason (λ e. cc)), refl)
read_ordinary told path size before after (cause.Files call.Read) h = ((λ reason. other_cause (cause.Files call.Read) reason (λ e. cc)), refl)
read_ordinary told path size before after cause.Changed h = ((λ reason. other_cause cause.Changed reason (λ e. cc)), refl)
read_ordinary told path size before after (cause.Files call.Create) h = absurd h
read_ordinary told path size before after (cause.Files call.Write) h = absurd h
read_ordinary told path size before after (cause.Files call.Rename) h = absurd h
read_ordinary told path size before after (cause.Files call.Remove) h = absurd h
read_ordinary told path size before after (cause.Service of_op code message) h = absurd h
read_ordinary told path size before after (cause.Lost of_op reason) h = absurd h
read_ordinary told path size before after (cause.BadReply of_op) h = absurd h
read_ordinary told path size before after (cause.Blocked length) h = absurd h
read_ordinary told path size before after (cause.Cancelled reason) h = absurd h

-- what a request shows is none either
pub served_ordinary : (of_op : Op) (code message : List ℕ) → IsOrdinary (outcome.Failed (cause.Service of_op code message))
served_ordinary of_op code message = ((λ reason. other_cause _ reason (λ e. cc)), refl)

pub served_open : (of_op : Op) (code message : List ℕ) → IsOrdinary (outcome.Unknown (cause.Service of_op code message))
served_open of_op code message = ((λ reason. other_cause _ reason (λ e. cc)), refl)

pub lost_open : (of_op : Op) (why : Why) → IsOrdinary (outcome.Unknown (cause.Lost of_op why))
lost_open of_op why = ((λ reason. other_cause _ reason (λ e. cc)), refl)

pub done_ordinary : IsOrdinary outcome.Done
done_ordinary = ((λ reason e. no_cause reason e), refl)

pub memory_open : IsOrdinary (outcome.Unknown cause.Memory)
memory_open = ((λ reason. other_cause cause.Memory reason (λ e. cc)), refl)

pub memory_ordinary : IsOrdinary (outcome.Failed cause.Memory)
memory_ordinary = ((λ reason. other_cause cause.Memory reason (λ e. cc)), refl)

-- ---- the setting

pub status_is : (n : ℕ) → (n == 70) ≡ true → n ≡ 70
status_is n e = grind arith

upload_is_no_copy : kind.Upload ≡ kind.Copy → ⊥
upload_is_no_copy e = cc

within : (low value high : ℕ) → low ≤ value → value ≤ high → IsWithin low value high
within low value high least most = record { least = least; most = most }

-- a run whose settings are valid, over some wires, has a lane
pub has_lanes : (config : Config) (wires : ℕ) → IsValidConfig config → 1 ≤ wires → 1 ≤ lanes_of config wires
has_lanes config wires configured some = let least = configured.lanes.least in omega arith

pub one_valid : (config : Config) → IsValidConfig config → IsValidConfig (one_attempt config)
one_valid config v = record {
  threshold = v.threshold;
  chunk = v.chunk;
  lanes = v.lanes;
  queue = v.queue;
  buffers = v.buffers;
  attempts = within 1 1 10 (omega arith) (omega arith);
}

module _ (Shows : Ask → ℕ → Talk → Class → List ℕ → Type 0) (HasStatus : Ask → ℕ → Talk → ℕ → Type 0) (request_text : Ask → List ℕ → ℕ → List ℕ) (host : List ℕ) (port : ℕ)
    (Plans : Option ℕ → List Dispatched → Type 0) (plans_none : Plans None []) (config : Config) (configured : IsValidConfig config) (limits : Limits) (valid : IsValidLimits limits) (wires : ℕ) (has_wire : 1 ≤ wires)
    (status before after : ℕ) (path : List ℕ) (was now : SeenFiles) (same : AreLeft was now) (warnings : List Warning)
    (no_left : filter_map left_by warnings ≡ []) (no_untimed : filter_map untimed_by warnings ≡ []) where
  abbrev Fails : List Task → ℕ → Cause → Type 0
  Fails tasks = CallFailed path now before after tasks

  -- what is to be shown of a run
  abbrev Keeps : List Task → List Outcome → List Event → List Talk → List Note → Type 0
  Keeps tasks outcomes journal talks notes =
      KeepsPromise Shows HasStatus request_text host port Plans (Fails tasks) (start_of config limits wires tasks was) (end_of status outcomes warnings journal talks notes was now) None ⊥ ⊥

  module _ (tasks : List Task) (outcomes : List Outcome) (journal : List Event) (talks : List Talk) (notes : List Note) (jobs : List Dispatched) where
    abbrev shown : Shown
    shown = shown_by (start_of config limits wires tasks was) (end_of status outcomes warnings journal talks notes was now) None

    abbrev Alone : Type 0
    Alone = AreAlone Shows HasStatus request_text host port Plans (Fails tasks) shown jobs

    abbrev Ordered : Type 0
    Ordered = IsOrdered Shows HasStatus request_text host port Plans (Fails tasks) shown jobs

    settles : ((n : ℕ) (how : Outcome) → slice_get outcomes n ≡ Some how → IsOrdinary how) → IsSettingOf shown wires warnings ⊥ ⊥
    settles ordinary = record {
      memory = λ n. refl;
      planning_memory = λ e. status_is status e;
      warning_memory = λ e. status_is status e;
      lanes = refl;
      left = refl;
      untimed = refl;
      files = λ n. refl;
      cancelled = λ e. absurd (false_is_true e);
      cancels = λ n reason e. absurd (none_cancelled (slice_get outcomes n) (ordinary n) reason e);
      dry = λ n how at_n. (ordinary n how at_n).1;
    }
      where
        none_cancelled : (found : Option Outcome) → ((how : Outcome) → found ≡ Some how → IsOrdinary how) → (reason : Reason) → cause_of found ≡ Some (cause.Cancelled reason) → ⊥
        none_cancelled None is reason e = none_is_some (cause.Cancelled reason) e
        none_cancelled (Some how) is reason e = (is how refl).0 reason e

    keeps : Ordered → ((n : ℕ) (how : Outcome) → slice_get outcomes n ≡ Some how → IsOrdinary how) → Keeps tasks outcomes journal talks notes
    keeps o ordinary = record {
      truthful = truthful Shows HasStatus request_text host port Plans (Fails tasks) shown jobs o;
      willing = done_where_willing Shows HasStatus request_text host port Plans (Fails tasks) shown jobs o;
      settles = settles ordinary;
    }

    -- a failed call is told by the outcome
    counted : ((n : ℕ) (task : Task) → slice_get tasks n ≡ Some task → is_upload (Some task) ≡ true) → (n : ℕ) (of_cause : Cause) → slice_get outcomes n ≡ Some (outcome.Failed of_cause) → Fails tasks n of_cause
        → tells_file_failed (slice_get tasks n) (slice_get outcomes n) ≡ true
    counted uploads n of_cause at_n fails =
        ap (tells_file_failed (slice_get tasks n)) at_n
        ∙ tells (slice_get tasks n) (ap is_upload fails.1 ∙ uploads n fails.0 fails.1) now path fails.0.size before after of_cause fails.2

  stays : now.store.held ≡ was.store.held
  stays = ap (λ (s : FileStore). s.held) same.0

  -- ---- a run that ended before its task

  pub unplanned : (notes : List Note) → AreIdle notes → Keeps [] [] [] [] notes
  unplanned notes idle =
      keeps [] [] [] [] notes []
      (record {
        schedule = no_schedule Shows (Plans None) (shown [] [] [] [] notes []).setting plans_none;
        carried = none_carried Shows request_text host port (shown [] [] [] [] notes []).setting notes idle (has_lanes config wires configured has_wire);
        alone = no_jobs Shows (Plans None) (shown [] [] [] [] notes []).setting;
        buffers = no_buffers config.buffers;
        as_many = refl;
        causes = λ n task how at_task at_how. absurd (none_is_some task at_task);
        questions = λ c known of_none. absurd (in_none c known);
        tasks = λ n task at_task. absurd (none_is_some task at_task);
        apart = record { destinations = λ m n a b bucket key at_m at_n of_a of_b. absurd (none_is_some a at_m); sources = λ m n a b bucket key at_m at_n moves of_a of_b. none_is_some a at_m };
        sources = λ moments n task at_task. absurd (none_is_some task at_task);
        there = λ start. record {
          files = λ n task at_task uploads. absurd (none_is_some task at_task);
          there = λ n task bucket key at_task copies from. absurd (none_is_some task at_task);
          no_dest = λ m n a b bucket key at_a at_b copies from to. none_is_some a at_a;
          moved_once = λ m n a b bucket key at_a at_b copies from moves of_b. absurd (none_is_some a at_a);
        };
        left = λ n task how at at_task at_how moves from. absurd (none_is_some task at_task);
        calls = record {
          quiet = same.1;
          untouched = stays;
          none_left = no_left;
          none_untimed = no_untimed;
          tasks = λ n task at_task. absurd (none_is_some task at_task);
          keeps = λ n task at_task moves. none_is_some task at_task;
          sends = λ c n known of_task. absurd (in_none c known);
        };
        replaces = λ n task at_task is_fresh. none_is_some task at_task;
        counted = counted [] [] [] [] notes [] (λ n task at_task. absurd (none_is_some task at_task));
        threshold = configured.threshold.least;
        limits = valid;
      })
      (λ n how at_n. absurd (none_is_some how at_n))

  -- ---- a run that was planned

  -- neither a Get nor a Delete
  abbrev SendsOnly : Dispatched → Type 0
  SendsOnly c = (c.dispatch.job.op ≢ op.Get) × (c.dispatch.job.op ≢ op.Delete)

  abbrev SendsNoOther : List Dispatched → Type 0
  SendsNoOther jobs = (c : Dispatched) → Contains jobs c → SendsOnly c

  module _ (bucket key : List ℕ) (content : Option (List ℕ)) (size micros : ℕ) (is_below : size < config.threshold) (file : HeldFile) (held : get was.store.held path ≡ Some file) (long : length file.bytes ≡ size) where
    abbrev upload : Outcome → Planned
    upload how = record {
      config = config;
      limits = limits;
      wires = wires;
      has_lane = has_lanes config wires configured has_wire;
      status = status;
      bucket = bucket;
      key = key;
      path = path;
      content = content;
      size = size;
      micros = micros;
      is_below = is_below;
      how = how;
      was = was;
    }

    abbrev task : Task
    task = upload_task path bucket key content size micros

    abbrev asked : Ask
    asked = upload_ask bucket key content

    the_task : (n : ℕ) (t : Task) → slice_get (task ∷ []) n ≡ Some t → task ≡ t
    the_task n t at_n = (first_only task n t at_n).1

    at_first : (n : ℕ) (t : Task) → slice_get (task ∷ []) n ≡ Some t → n ≡ 0
    at_first n t at_n = (first_only task n t at_n).0

    -- what is so of the task is so of each
    of_each : (P : Task → Type 0) → P task → (n : ℕ) (t : Task) → slice_get (task ∷ []) n ≡ Some t → P t
    of_each P p n t at_n = subst P (the_task n t at_n) p

    keeps_source : (n : ℕ) (t : Task) → slice_get (task ∷ []) n ≡ Some t → t.moves ≡ true → ⊥
    keeps_source = of_each (λ (t : Task). t.moves ≡ true → ⊥) false_is_true

    no_copy : (n : ℕ) (t : Task) → slice_get (task ∷ []) n ≡ Some t → t.kind ≡ kind.Copy → ⊥
    no_copy = of_each (λ (t : Task). t.kind ≡ kind.Copy → ⊥) upload_is_no_copy

    has_file : HasSourceFile was.store.held task
    has_file = (path, file, refl, held, long)

    module _ (how : Outcome) (journal : List Event) (talks : List Talk) (notes : List Note) (jobs : List Dispatched) where
      abbrev shows : Shown
      shows = shown (task ∷ []) (how ∷ []) journal talks notes jobs

      planned : IsSchedule Shows shows.setting (Plans None) jobs jobs → IsCarried Shows request_text host port shows.setting journal (in_first talks) (in_first notes) jobs jobs
          → Alone (task ∷ []) (how ∷ []) journal talks notes jobs → KeepsBuffers config.buffers journal → HasOutcome Shows HasStatus (Fails (task ∷ [])) shows.setting jobs jobs 0 task how
          → ((c : Dispatched) → Contains jobs c → c.dispatch.job.task ≡ None → ⊥) → SendsNoOther jobs → IsOrdinary how
          → Keeps (task ∷ []) (how ∷ []) journal talks notes
      planned schedule carried alone buffers has of_task sends ordinary =
          keeps (task ∷ []) (how ∷ []) journal talks notes jobs
          (record {
            schedule = schedule;
            carried = carried;
            alone = alone;
            buffers = buffers;
            as_many = refl;
            causes = λ n t of_how at_task at_how.
                subst (λ (k : ℕ). HasOutcome Shows HasStatus (Fails (task ∷ [])) shows.setting jobs jobs k t of_how) (sym (at_first n t at_task))
                (subst (λ (any : Task). HasOutcome Shows HasStatus (Fails (task ∷ [])) shows.setting jobs jobs 0 any of_how) (the_task n t at_task)
                (subst (λ (any : Outcome). HasOutcome Shows HasStatus (Fails (task ∷ [])) shows.setting jobs jobs 0 task any) (first_only how n of_how at_how).1 has));
            questions = λ c known of_none. absurd (of_task c known of_none);
            tasks = of_each IsByRequests (record { bucket = bucket; key = key; is_dest = refl; decided = tt; keeps = λ removes. refl });
            apart = record {
              destinations = λ m n a b bucket key at_m at_n of_a of_b. at_first m a at_m ∙ sym (at_first n b at_n);
              sources = λ m n a b bucket key at_m at_n moves of_a of_b. keeps_source m a at_m moves;
            };
            sources = λ moments. of_each (λ (t : Task). HasSource was.store.held moments t t.kind (is_small shows.setting t)) has_file;
            there = λ start. record {
              files = λ n t at_task uploads. of_each (HasSourceFile was.store.held) has_file n t at_task;
              there = λ n t bucket key at_task copies from. absurd (no_copy n t at_task copies);
              no_dest = λ m n a b bucket key at_a at_b copies from to. no_copy m a at_a copies;
              moved_once = λ m n a b bucket key at_a at_b copies from moves of_b. absurd (no_copy m a at_a copies);
            };
            left = λ n t of_how at at_task at_how moves from. absurd (keeps_source n t at_task moves);
            calls = record {
              quiet = same.1;
              untouched = stays;
              none_left = no_left;
              none_untimed = no_untimed;
              tasks = of_each IsByRequests (record { bucket = bucket; key = key; is_dest = refl; decided = tt; keeps = λ removes. refl });
              keeps = keeps_source;
              sends = λ c n known of_one. sends c known;
            };
            replaces = of_each (λ (t : Task). t.fresh ≡ true → ⊥) false_is_true;
            counted = counted (task ∷ []) (how ∷ []) journal talks notes jobs (of_each (λ (t : Task). is_upload (Some t) ≡ true) refl);
            threshold = configured.threshold.least;
            limits = valid;
          })
          (λ n of_how at_n. subst IsOrdinary (first_only how n of_how at_n).1 ordinary)

    -- the bytes of the file did not come
    unread_run : (of_cause : Cause) → IsReadCause (Some now) path size before after of_cause → Keeps (task ∷ []) (outcome.Failed of_cause ∷ []) [] [] []
    unread_run of_cause h =
        let how = outcome.Failed of_cause in
        planned how [] [] [] [] (no_schedule Shows (Plans None) (shows how [] [] [] []).setting plans_none)
        (none_carried Shows request_text host port (shows how [] [] [] []).setting [] none_idle (has_lanes config wires configured has_wire)) (no_jobs Shows (Plans None) (shows how [] [] [] []).setting) (no_buffers config.buffers)
        (unread_for Shows HasStatus (Fails (task ∷ [])) (upload how) now before after of_cause (λ reason. (task, refl, reason)) refl h) (λ c known of_none. in_none c known) (λ c known. absurd (in_none c known))
        (read_ordinary (Some now) path size before after of_cause h)

    -- the job was given: with these attempts, marks, talks and notes
    given_run : (how : Outcome) (tries : List Mark) (attempts : List Attempt) (talks : List Talk) (notes : List Note)
        → IsCarried Shows request_text host port (setting_of (upload how)) (put_events tries) (in_first talks) (in_first notes) (put_with (upload how) attempts ∷ []) (put_with (upload how) attempts ∷ [])
        → HasOutcome Shows HasStatus (Fails (task ∷ [])) (setting_of (upload how)) (put_with (upload how) attempts ∷ []) (put_with (upload how) attempts ∷ []) 0 task how → IsOrdinary how
        → Keeps (task ∷ []) (how ∷ []) (put_events tries) talks notes
    given_run how tries attempts talks notes carried has ordinary =
        let put : Dispatched = put_with (upload how) attempts in
        planned how (put_events tries) talks notes (put ∷ []) (put_schedule Shows (Plans None) (upload how) plans_none attempts) carried
        (λ dispatched coming scheduled are. put_alone Shows (Plans None) (upload how) dispatched coming attempts scheduled (are ∙ sym carried.shown)) (put_buffers config.buffers tries configured.buffers.least) has
        (each (λ (c : Dispatched). c.dispatch.job.task ≡ None → ⊥) put (λ e. none_is_some 0 (sym e))) (each SendsOnly put (λ e. cc, λ e. cc)) ordinary

    -- the job of the Put of the file's bytes, and that the outcome is what its attempts show
    pub record IsKept (how : Outcome) (journal : List Event) (talks : List Talk) (notes : List Note) : Type 0 where
      pub tries : List Mark
      pub attempts : List Attempt
      pub journals : journal ≡ put_events tries
      pub carried : IsCarried Shows request_text host port (setting_of (upload how)) (put_events tries) (in_first talks) (in_first notes) (put_with (upload how) attempts ∷ [])
          (put_with (upload how) attempts ∷ [])
      pub has : HasOutcome Shows HasStatus (Fails (task ∷ [])) (setting_of (upload how)) (put_with (upload how) attempts ∷ []) (put_with (upload how) attempts ∷ []) 0 task how
      pub ordinary : IsOrdinary how

    kept_keeps : (how : Outcome) (journal : List Event) (talks : List Talk) (notes : List Note) → IsKept how journal talks notes → Keeps (task ∷ []) (how ∷ []) journal talks notes
    kept_keeps how journal talks notes k =
        subst (λ (all : List Event). Keeps (task ∷ []) (how ∷ []) all talks notes) (sym k.journals) (given_run how k.tries k.attempts talks notes k.carried k.has k.ordinary)

    -- ---- what the run shows

    module _ (Carries : Ask → List ℕ → List Event → Outcome → List Talk → List Note → Type 0)
        (kept : (how : Outcome) (journal : List Event) (talks : List Talk) (notes : List Note) → Carries asked file.bytes journal how talks notes → IsKept how journal talks notes) where
      pub upload_keeps : (journal : List Event) (how : Outcome) (talks : List Talk) (notes : List Note)
          → Uploads Carries asked (Some now) path size before after journal how talks notes → Keeps (task ∷ []) (how ∷ []) journal talks notes
      upload_keeps journal how talks notes (inl u) =
          subst (λ (any : Outcome). Keeps (task ∷ []) (any ∷ []) journal talks notes) (sym u.failed)
          (subst (λ (all : List Event). Keeps (task ∷ []) (outcome.Failed u.why ∷ []) all talks notes) (sym u.no_job)
          (subst (λ (all : List Talk). Keeps (task ∷ []) (outcome.Failed u.why ∷ []) [] all notes) (sym u.no_talk)
          (subst (λ (all : List Note). Keeps (task ∷ []) (outcome.Failed u.why ∷ []) [] [] all) (sym u.no_note) (unread_run u.why u.reason))))
      upload_keeps journal how talks notes (inr g) =
          let read : AreFirstBytes was.store path g.bytes = subst (λ (s : FileStore). AreFirstBytes s path g.bytes) same.0 g.read in
          let whole : g.bytes ≡ file.bytes = whole_file was.store path g.bytes file held read (g.size_is ∙ sym long) in
          kept_keeps how journal talks notes (kept how journal talks notes (subst (λ (bytes : List ℕ). Carries asked bytes journal how talks notes) whole g.carries))
