-- A dry run keeps its promise: it has no job, makes no call that changes a file, and each of its tasks is as it was.
use Rattle.std.proofs.Common.{◌≡◌, ◌++◌, ◌∙◌, ◌≤◌, ℕ, Bool, true, false, List, [], ◌∷◌, Option, Some, None, refl, sym, ap, subst, inl, inr, arith, Contains, filter_map, length, slice_get}
use Rattle.std.specs.FinMap.{get}
use Rattle.shared_lemmas.proofs.Clashes.{false_true, none_is_some}
use Rattle.s3_model.specs.declared.answers.Class.{Class}
use Rattle.s3_model.specs.declared.outcomes.Cause.{Cause}
use Rattle.s3_model.specs.declared.outcomes.Cause.TheVariants as cause
use Rattle.s3_model.specs.declared.outcomes.Outcome.{Outcome}
use Rattle.s3_model.specs.declared.outcomes.Outcome.TheVariants as outcome
use Rattle.s3_model.specs.declared.places.Place.{Place}
use Rattle.s3_model.specs.declared.places.Place.TheVariants as place
use Rattle.s3_model.specs.declared.requests.Ask.{Ask}
use Rattle.s3_model.specs.declared.settings.Config.{Config}
use Rattle.s3_model.specs.declared.settings.Limits.{Limits}
use Rattle.s3_model.specs.declared.tasks.Kind.{Kind}
use Rattle.s3_model.specs.declared.tasks.Kind.TheVariants as kind
use Rattle.s3_model.specs.declared.tasks.Task.{Task}
use Rattle.s3_model.specs.declared.tasks.Warning.{Warning}
use Rattle.s3_model.specs.Files.{FileStore, HeldFile}
use Rattle.s3_model.specs.Maps.{MapOf}
use Rattle.s3_model.specs.Talks.{Talk, Note}
use Rattle.s3_model.specs.Validity.{IsValidConfig, IsValidLimits}
use Rattle.s3_outside.specs.Files.{SeenFiles}
use Rattle.sync_plan.specs.Fit.{IsOfKind}
use Rattle.job_terms.specs.Dispatches.{Dispatched}
use Rattle.run_promise.specs.FileCalls.{AreFileCalls, AreFilesApart, IsMoveOf, IsRemoved, TaskCall}
use Rattle.run_promise.specs.FileOutcomes.{HasFailedAct, IsFileLeft, IsMoveShown}
use Rattle.run_promise.specs.Outcomes.{HasOutcome, IsDecidedByRequest}
use Rattle.run_promise.specs.Settled.{IsSettingOf, RunEnd, RunStart, cause_of, is_dry, left_by, shown_by, untimed_by}
use Rattle.run_promise.specs.Truthful.{AreToldByCalls, IsDoneWhereWilling, IsFinished, IsTruthful, Shown, WasTaken}
use Rattle.world_laws.specs.Promises.{IsByRequests, IsOrderly}
use Rattle.world_laws.specs.Tasks.{AreApart, MayBeNew}
use Rattle.world_laws.proofs.Promises.{promise_holds}
use Rattle.world_laws.proofs.Rows.{place_is, source_is}
use Rattle.upload_promise.specs.Puts.{AreIdle}
use Rattle.upload_promise.specs.Shown.{CallFailed, KeepsPromise, end_of, start_of}
use Rattle.upload_promise.specs.Sources.{AreLeft}
use Rattle.upload_promise.proofs.JobLemmas.{in_none, no_buffers, no_schedule}
use Rattle.upload_promise.proofs.PromiseLemmas.{has_lanes, status_is}
use Rattle.upload_promise.proofs.WireLemmas.{none_carried}
use Rattle.dry_promise.specs.Tasks.{AreUploadsOrRemovals, IsUploadOrRemoval}

-- ---- such tasks

to_object : (of_kind : Kind) (source : Option Place) (dest : Place) (moves : Bool) → IsUploadOrRemoval of_kind → IsOfKind of_kind source dest moves → (bucket : List ℕ) × (key : List ℕ) × (dest ≡ place.Object bucket key)
to_object kind.Upload (Some (place.File path)) (place.Object bucket key) moves unasked is = (bucket, key, refl)
to_object kind.RemoveObject None (place.Object bucket key) false unasked is = (bucket, key, refl)
to_object kind.Download source dest moves unasked is = absurd unasked
to_object kind.Copy source dest moves unasked is = absurd unasked
to_object kind.RemoveFile source dest moves unasked is = absurd unasked
to_object of_kind source dest moves unasked is = absurd is

by_request : (of_kind : Kind) → IsUploadOrRemoval of_kind → IsDecidedByRequest of_kind
by_request kind.Upload h = tt
by_request kind.RemoveObject h = tt
by_request kind.Download h = absurd h
by_request kind.Copy h = absurd h
by_request kind.RemoveFile h = absurd h

upload_is_no_removal : kind.Upload ≡ kind.RemoveObject → ⊥
upload_is_no_removal e = cc

removal_stays : (of_kind : Kind) (source : Option Place) (dest : Place) (moves : Bool) → IsUploadOrRemoval of_kind → IsOfKind of_kind source dest moves → of_kind ≡ kind.RemoveObject → moves ≡ false
removal_stays kind.RemoveObject None (place.Object bucket key) false unasked is removes = refl
removal_stays kind.Upload source dest moves unasked is removes = absurd (upload_is_no_removal removes)
removal_stays kind.Download source dest moves unasked is removes = absurd unasked
removal_stays kind.Copy source dest moves unasked is removes = absurd unasked
removal_stays kind.RemoveFile source dest moves unasked is removes = absurd unasked
removal_stays of_kind source dest moves unasked is removes = absurd is

move_uploads : (of_kind : Kind) (source : Option Place) (dest : Place) (moves : Bool) → IsUploadOrRemoval of_kind → IsOfKind of_kind source dest moves → moves ≡ true → of_kind ≡ kind.Upload
move_uploads kind.Upload source dest moves unasked is move = refl
move_uploads kind.RemoveObject None (place.Object bucket key) false unasked is move = absurd (false_true move)
move_uploads kind.Download source dest moves unasked is move = absurd unasked
move_uploads kind.Copy source dest moves unasked is move = absurd unasked
move_uploads kind.RemoveFile source dest moves unasked is move = absurd unasked
move_uploads of_kind source dest moves unasked is move = absurd is

object_or_file : (at : Place) (bucket key path : List ℕ) → at ≡ place.Object bucket key → at ≡ place.File path → ⊥
object_or_file at bucket key path object file = apart (sym object ∙ file)
  where
    apart : place.Object bucket key ≡ place.File path → ⊥
    apart e = cc

module _ (most : ℕ) (tasks : List Task) (are : AreUploadsOrRemovals most tasks) where
  dest_is : (n : ℕ) (task : Task) → slice_get tasks n ≡ Some task → (bucket : List ℕ) × (key : List ℕ) × (task.dest ≡ place.Object bucket key)
  dest_is n task is_task = to_object task.kind task.source task.dest task.moves (are.kinds n task is_task) (are.fit.kinds n task is_task)

  no_file : (n : ℕ) (task : Task) (path : List ℕ) → slice_get tasks n ≡ Some task → task.dest ≡ place.File path → ⊥
  no_file n task path is_task is_file = let to = dest_is n task is_task in object_or_file task.dest to.0 to.1 path to.2 is_file

  are_by_requests : (n : ℕ) (task : Task) → slice_get tasks n ≡ Some task → IsByRequests task
  are_by_requests n task is_task =
      let to = dest_is n task is_task in record {
        bucket = to.0;
        key = to.1;
        is_dest = to.2;
        decided = by_request task.kind (are.kinds n task is_task);
        keeps = removal_stays task.kind task.source task.dest task.moves (are.kinds n task is_task) (are.fit.kinds n task is_task);
      }

  are_apart : AreApart tasks
  are_apart = record {
    destinations = λ m n a b bucket key at_m at_n of_a of_b. are.fit.destinations m n a b at_m at_n (place_is a.dest bucket key of_a ∙ sym (place_is b.dest bucket key of_b));
    sources = λ m n a b bucket key at_m at_n moves of_a of_b. are.fit.apart m n a b (place.Object bucket key) at_m at_n (source_is a.source bucket key of_a) (place_is b.dest bucket key of_b);
  }

  files_apart : (held : MapOf HeldFile) → AreFilesApart held tasks
  files_apart held = record {
    destinations = λ m n a b path to_a to_b. absurd (no_file m a path to_a.0 to_a.1);
    sources = λ m n a b path move to. no_file n b path to.0 to.1;
    moved_once = λ m n a b path move other. are.fit.sources m n a b (place.File path) move.0 other.0 move.2 other.2;
    uploads = λ n task path move. move_uploads task.kind task.source task.dest task.moves (are.kinds n task move.0) (are.fit.kinds n task move.0) move.1;
    one_way = λ m n a b path move is_b loads. subst IsUploadOrRemoval loads (are.kinds n b is_b);
    names = λ m n a b path to is_b load loads named. absurd (no_file m a path to.0 to.1);
    there = λ n task path to removal. absurd (no_file n task path to.0 to.1);
  }

-- ---- outcomes

dry_no_cause : (found : Option Outcome) → ((how : Outcome) → found ≡ Some how → how ≡ outcome.Dry) → (why : Cause) → cause_of found ≡ Some why → ⊥
dry_no_cause None dry why e = none_is_some why e
dry_no_cause (Some how) dry why e = none_is_some why (ap (λ (h : Outcome). cause_of (Some h)) (sym (dry how refl)) ∙ e)

dry_is_old : (how : Outcome) → how ≡ outcome.Dry → MayBeNew how → ⊥
dry_is_old how is new = subst MayBeNew is new

module _ (Shows : Ask → ℕ → Talk → Class → List ℕ → Type 0) (HasStatus : Ask → ℕ → Talk → ℕ → Type 0) (request_text : Ask → List ℕ → ℕ → List ℕ) (host : List ℕ) (port : ℕ)
    (Plans : Option ℕ → List Dispatched → Type 0) (plans_none : Plans None []) (config : Config) (configured : IsValidConfig config) (limits : Limits) (valid : IsValidLimits limits) (wires : ℕ) (has_wire : 1 ≤ wires)
    (status before after : ℕ) (path : List ℕ) (was now : SeenFiles) (same : AreLeft was now) (warnings : List Warning)
    (no_left : filter_map left_by warnings ≡ []) (no_untimed : filter_map untimed_by warnings ≡ []) (notes : List Note) (idle : AreIdle notes)
    (most : ℕ) (dryrun : Bool) (tasks : List Task) (are : AreUploadsOrRemovals most tasks) (outcomes : List Outcome) (as_many : length outcomes ≡ length tasks)
    (shown_only : (n : ℕ) (how : Outcome) → slice_get outcomes n ≡ Some how → (how ≡ outcome.Dry) × (dryrun ≡ true)) where
  abbrev start : RunStart
  start = record (start_of config limits wires tasks was) { dryrun = dryrun }

  abbrev came : RunEnd
  came = end_of status outcomes warnings [] [] notes was now

  abbrev shown : Shown
  shown = shown_by start came None

  abbrev Fails : ℕ → Cause → Type 0
  Fails = CallFailed path now before after tasks

  stays : now.store.held ≡ was.store.held
  stays = ap (λ (s : FileStore). s.held) same.0

  nothing_comes : (front : List TaskCall) (c : TaskCall) → (back : List TaskCall) × ([] ≡ front ++ c ∷ back) → ⊥
  nothing_comes [] c comes = no_item comes.1
    where
      no_item : {xs : List TaskCall} → ◌≡◌ {A = List TaskCall} [] (c ∷ xs) → ⊥
      no_item e = cc
  nothing_comes (x ∷ front) c comes = no_item comes.1
    where
      no_item : {xs : List TaskCall} → ◌≡◌ {A = List TaskCall} [] (x ∷ xs) → ⊥
      no_item e = cc

  keep : AreFileCalls Shows shown.setting shown.excused [] [] []
  keep = record {
    named = λ c known. absurd (in_none c known);
    in_order = λ i j d less inside. absurd (omega arith);
    dry = λ dry. refl;
    order = λ front earlier later comes among same. absurd (nothing_comes front later comes);
    stops = λ c known why. absurd (in_none c known);
    made = λ front c temp comes uses. absurd (nothing_comes front c comes);
    made_first = λ get n number known is_get. absurd (in_none get known);
    writes = λ c task temp at bytes fine known is_task is. absurd (in_none c known);
    renames = λ front c task temp dest fault comes is_task is. absurd (nothing_comes front c comes);
    stamps = λ n renamed. absurd (in_none renamed.0 renamed.1);
    stamps_last = λ front c path micros fine comes is. absurd (nothing_comes front c comes);
    untimed = λ c path micros known is. absurd (in_none c known);
    untimed_only = λ path known. absurd (in_none path (subst (λ (all : List (List ℕ)). Contains all path) no_untimed known));
    drops = λ n temp made. absurd (in_none made.0 made.1);
    left = λ c temp known is. absurd (in_none c known);
    left_only = λ temp known. absurd (in_none temp (subst (λ (all : List (List ℕ)). Contains all temp) no_left known));
    moves_last = λ c task path fine known is_task uploads is. absurd (in_none c known);
    deletes_last = λ delete n task known of_task deletes is_task loads. absurd (in_none delete known);
  }

  moved : (n : ℕ) (task : Task) (how : Outcome) (path : List ℕ) → IsMoveOf tasks n task path → slice_get outcomes n ≡ Some how → IsMoveShown how (IsRemoved [] n) (HasFailedAct [] n)
  moved n task how path move at_how =
      subst (λ (h : Outcome). IsMoveShown h (IsRemoved [] n) (HasFailedAct [] n)) (sym (shown_only n how at_how).0) ((λ removed. in_none removed.0 removed.1), tt)

  told : AreToldByCalls Shows shown [] [] []
  told = record {
    told = sym same.1;
    keep = record { keep = keep; runs = tt; apart = files_apart most tasks are was.store.held };
    held_after = stays;
    decided = λ n task how is_task is_how by. absurd (no_file most tasks are n task by.path is_task by.is_dest);
    moved = moved;
  }

  causes : (n : ℕ) (task : Task) (how : Outcome) → slice_get tasks n ≡ Some task → slice_get outcomes n ≡ Some how → HasOutcome Shows HasStatus Fails shown.setting [] [] n task how
  causes n task how is_task at_how = subst (HasOutcome Shows HasStatus Fails shown.setting [] [] n task) (sym (shown_only n how at_how).0) (shown_only n how at_how).1

  orderly : IsOrderly Shows HasStatus (Plans None) Fails request_text host port shown [] []
  orderly = record {
    schedule = no_schedule Shows (Plans None) shown.setting plans_none;
    carried = none_carried Shows request_text host port shown.setting notes idle (has_lanes config wires configured has_wire);
    outcomes = inl as_many;
    causes = causes;
    questions = λ c known of_none. absurd (in_none c known);
    tasks = are_by_requests most tasks are;
    apart = are_apart most tasks are;
    sources = λ run same of_shown n task how at_task at_how may. absurd (dry_is_old how (shown_only n how at_how).0 may);
    files = λ n task how at at_task at_how moves from.
        subst (λ (h : Outcome). IsFileLeft h (get now.store.held at ≡ None) (get now.store.held at ≡ get was.store.held at)) (sym (shown_only n how at_how).0) (ap (λ (held : MapOf HeldFile). get held at) stays);
    one_class = λ n task at_task is_fresh. absurd (false_true (sym (are.replace n task at_task) ∙ is_fresh));
    threshold = configured.threshold.least;
    limits = valid;
  }

  dry_truthful : IsTruthful Shows HasStatus request_text host port Plans Fails shown
  dry_truthful = record {
    dispatched = [];
    coming = [];
    schedule = no_schedule Shows (Plans None) shown.setting plans_none;
    carried = none_carried Shows request_text host port shown.setting notes idle (has_lanes config wires configured has_wire);
    buffers = no_buffers config.buffers;
    outcomes = inl as_many;
    causes = causes;
    calls = [];
    files = told;
    others = λ any. inr (inr (ap (λ (held : MapOf HeldFile). get held any) stays));
    holds = promise_holds Shows HasStatus (Plans None) Fails request_text host port shown [] [] orderly;
  }

  finished : (dried : Bool) (how : Outcome) (Taken : Type 0) → dried ≡ true → how ≡ outcome.Dry → IsFinished dried Taken how
  finished true how Taken e is = is
  finished false how Taken e is = absurd (false_true e)

  dry_willing : IsDoneWhereWilling Shows request_text host port Plans shown
  dry_willing = λ run coming scheduled carried of_shown willing certain alone buckets runs n how at_how.
      inl (finished dryrun how (WasTaken shown run.start n) (shown_only n how at_how).1 (shown_only n how at_how).0)

  dry_settles : IsSettingOf shown wires warnings ⊥ ⊥
  dry_settles = record {
    memory = λ n. refl;
    planning_memory = λ e. status_is status e;
    warning_memory = λ e. status_is status e;
    lanes = refl;
    left = refl;
    untimed = refl;
    files = λ n. refl;
    cancelled = λ e. absurd (false_true e);
    cancels = λ n reason e. absurd (dry_no_cause (slice_get outcomes n) (λ how at_how. (shown_only n how at_how).0) (cause.Cancelled reason) e);
    dry = λ n how at_how. ap is_dry (shown_only n how at_how).0 ∙ sym (shown_only n how at_how).1;
  }

  -- Where each task is dry and the run is a dry one, or where there is no outcome.
  pub dry_keeps : KeepsPromise Shows HasStatus request_text host port Plans Fails start came None ⊥ ⊥
  dry_keeps = record { truthful = dry_truthful; willing = dry_willing; settles = dry_settles }
