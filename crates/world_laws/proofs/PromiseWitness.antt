-- Orderly runs of one task: a moved copy that is done, a removal that failed, and an upload that was skipped.
use Rattle.std.proofs.Common.{◌≡◌, ◌∙◌, ℕ, Bool, true, false, List, [], ◌∷◌, Option, Some, None, refl, sym, ap, subst, inl, inr, Contains, length, map, slice_get, arith}
use Rattle.std.specs.Prelude.{IsSome, codes}
use Rattle.std.specs.FinMap.{empty}
use Rattle.std.proofs.lemmas.List.{append-nil}
use Rattle.s3_model.specs.declared.answers.Class.{Class}
use Rattle.s3_model.specs.declared.answers.Class.TheVariants as class
use Rattle.s3_model.specs.declared.answers.Reply.TheVariants as reply
use Rattle.s3_model.specs.declared.answers.Why.{Why}
use Rattle.s3_model.specs.declared.requests.Ask.{Ask}
use Rattle.s3_model.specs.declared.places.Place.{Place}
use Rattle.s3_model.specs.Talks.{Ending}
use Rattle.s3_model.specs.declared.outcomes.Cause.TheVariants as cause
use Rattle.s3_model.specs.declared.outcomes.Outcome.{Outcome}
use Rattle.s3_model.specs.declared.outcomes.Outcome.TheVariants as outcome
use Rattle.s3_model.specs.declared.places.Place.TheVariants as place
use Rattle.s3_model.specs.declared.requests.Ask.TheVariants as ask
use Rattle.s3_model.specs.declared.requests.Op.TheVariants as op
use Rattle.s3_model.specs.declared.tasks.Kind.TheVariants as kind
use Rattle.s3_model.specs.declared.tasks.Task.{Task}
use Rattle.s3_model.specs.declared.tries.Mark.{Mark}
use Rattle.s3_model.specs.declared.tries.Mark.TheVariants as mark
use Rattle.s3_model.specs.Replies.{IsSameClass}
use Rattle.s3_service.specs.ServiceState.{State, Object, HasBucket, with_object}
use Rattle.s3_service.specs.Serves.{IsThere}
use Rattle.run_promise.specs.Dispatches.{IsCut}
use Rattle.job_terms.specs.Dispatches.{Attempt, Dispatched, dispatches}
use Rattle.job_terms.specs.Ops.{op_number}
use Rattle.run_promise.specs.Outcomes.{HasMark, HasOutcome, IsFirstFailure}
use Rattle.run_promise.specs.Schedule.{IsFailed, IsSchedule, is_small, source_bytes}
use Rattle.job_terms.specs.Jobs.{IsObject, IsSource, Target, job_of}
use Rattle.run_promise.specs.Traces.{External, IsWilling, events_of}
use Rattle.run_promise.specs.Truthful.{AreCertain, HasDestBuckets, IsAlone, IsDest, Shown}
use Rattle.s3_model.specs.Maps.{MapOf}
use Rattle.s3_model.specs.Files.{HeldFile}
use Rattle.shared_lemmas.proofs.Clashes.{false_true, some_is}
use Rattle.shared_lemmas.proofs.Members.{Has, has}
use Rattle.world_laws.specs.ExampleTasks.{upload, moved_copy, removal}
use Rattle.world_laws.specs.Completeness.{AreSourcesThere}
use Rattle.run_promise.specs.Runs.{IsFitting, moments}
use Rattle.world_laws.specs.Promises.{IsByRequests, IsOrderly, ShowsOneClass}
use Rattle.world_laws.specs.Rounds.{AreNone, AreServed, NeverFailed, Round, Told, ToldStatus, attempt_of, class_by, dispatch_at, ending_by, dispatched_from, journal_of, mark_by, no_text, steps_from}
use Rattle.world_laws.specs.Tasks.{AreApart, HasSource, MayBeNew}
use Rattle.world_laws.specs.Witnesses.{CompleteIsMet, DoneIsMet, FailedIsMet, IsCompleteMet, IsPromiseMet, SkippedIsMet}
use Rattle.world_laws.proofs.CarriedWitness.{logs_of, notes_of, rounds_carried}
use Rattle.world_laws.proofs.Faithful.{nobody_writes, IsFaithful, bare, bare_is_faithful, faithful_with, object_of, run_by}
use Rattle.world_laws.proofs.Objects.{object_at-with_object}
use Rattle.world_laws.proofs.Rounds.{AreApart as AreOtherJobs, first_attempt, round_of, same_reply}
use Rattle.world_laws.proofs.ScheduleWitness as sched
use Rattle.world_laws.proofs.ScheduleWitness.{AllPlain, AsksOf, IsPlainRound, setting_of, setting_with, limits_are_valid, one_task, the_limits}
use Rattle.world_laws.proofs.Witnesses.{alone, bucket_is_there, one_bucket, source_is_there, with_source}

-- ---- one reading

same_class : (shown : Class) → IsSameClass shown shown
same_class (class.Success answered) = same_reply answered
same_class (class.Refusal code message) = refl
same_class (class.Uncertain why) = refl

pub told_one_class : ShowsOneClass Told
told_one_class asked limit talk one same bytes others told told_too = subst (IsSameClass one) (told.0 ∙ sym told_too.0) (same_class one)

no_upload : kind.Copy ≡ kind.Upload → ⊥
no_upload e = cc

-- ---- an orderly run of one task

module _ (held : MapOf HeldFile) (task : Task) (how : Outcome) (rounds : List Round) (start : State) (apart : AreOtherJobs rounds) (plain : AllPlain rounds)
    (sized : (r : Round) → Has rounds r → r.size ≡ task.size)
    (shown : map (λ (c : Dispatched). c.dispatch) (dispatched_from 0 rounds) ≡ dispatches (journal_of rounds) (logs_of (dispatched_from 0 rounds))) where
  abbrev all : List Dispatched
  all = dispatched_from 0 rounds

  abbrev pub run : Shown
  run = record {
    setting = setting_with held task;
    status = 0;
    outcomes = how ∷ [];
    journal = journal_of rounds;
    logs = logs_of all;
    notes = notes_of all;
    held_after = held;
    excused = record { left = []; untimed = []; wanted_memory = false };
    file_calls = [];
    refused_page = None;
  }

  pub orderly : IsSchedule Told (setting_with held task) AreNone all all → HasOutcome Told ToldStatus NeverFailed (setting_with held task) all all 0 task how → IsByRequests task → AreApart (task ∷ [])
      → ((moments : List State) → MayBeNew how → HasSource (setting_with held task).held moments task task.kind (is_small (setting_with held task) task)) → ((path : List ℕ) → task.moves ≡ true → task.source ≡ Some (place.File path) → ⊥)
      → IsOrderly Told ToldStatus AreNone NeverFailed no_text [] task.size run all all
  orderly schedule caused by_requests tasks_apart sourced no_file = record {
    schedule = schedule;
    carried = rounds_carried held task rounds start apart plain task.size sized shown;
    outcomes = inl refl;
    causes = λ n other ended is_task at_how.
        let one = one_task task n other is_task in
        let level : how ≡ ended = some_is how ended (ap (slice_get (how ∷ [])) (sym one.0) ∙ at_how) in
        subst (λ (k : ℕ). HasOutcome Told ToldStatus NeverFailed (setting_with held task) all all k other ended) (sym one.0)
        (subst (λ (t : Task). HasOutcome Told ToldStatus NeverFailed (setting_with held task) all all 0 t ended) (sym one.1) (subst (λ (h : Outcome). HasOutcome Told ToldStatus NeverFailed (setting_with held task) all all 0 task h) level caused));
    questions = λ c known none. absurd (planned c known none);
    tasks = λ n other is_task. subst (λ (t : Task). IsByRequests t) (sym (one_task task n other is_task).1) by_requests;
    apart = tasks_apart;
    sources = λ over same fitting n other ended is_task at_how may.
        let one = one_task task n other is_task in
        let level : how ≡ ended = some_is how ended (ap (slice_get (how ∷ [])) (sym one.0) ∙ at_how) in
        subst (λ (t : Task). HasSource (setting_with held task).held (moments over) t t.kind (is_small (setting_with held task) t)) (sym one.1) (sourced (moments over) (subst MayBeNew (sym level) may));
    files = λ n other ended path is_task at_how moves is_source.
        let one = one_task task n other is_task in
        absurd (no_file path (ap (λ (t : Task). t.moves) (sym one.1) ∙ moves) (ap (λ (t : Task). t.source) (sym one.1) ∙ is_source));
    one_class = λ n other is_task fresh. told_one_class;
    threshold = omega arith;
    limits = limits_are_valid;
  }
    where
      none_some : (m : ℕ) → ◌≡◌ {A = Option ℕ} None (Some m) → ⊥
      none_some m e = cc

      planned : (c : Dispatched) → Contains all c → c.dispatch.job.task ≡ None → ⊥
      planned c known none =
          let found = round_of rounds 0 c (has all c known) in
          let is = plain found.0 found.2 in
          none_some is.task (sym none ∙ sym (ap (λ (d : Dispatched). d.dispatch.job.task) found.3) ∙ is.of_task)

-- ---- what a willing service owes

module _ (rounds : List Round) (start : State) where
  pub certain_at : AreCertain Told (dispatched_from 0 rounds)
  certain_at c at attempt why bytes known slot told =
      let found = round_of rounds 0 c (has (dispatched_from 0 rounds) c known) in
      let here : slice_get (attempt_of found.0 ∷ []) at ≡ Some attempt = subst (λ (d : Dispatched). slice_get d.dispatch.attempts at ≡ Some attempt) (sym found.3) slot in
      let only : attempt_of found.0 ≡ attempt = some_is (attempt_of found.0) attempt (ap (slice_get (attempt_of found.0 ∷ [])) (sym (first_attempt found.0 at attempt here)) ∙ here) in
      came found.0.refused c.ask attempt.talk.got attempt.talk.port why
      (told.0 ∙ ap (λ (e : Ending). class_by e c.ask attempt.talk.got attempt.talk.port) (sym (ap (λ (a : Attempt). a.talk.ending) only)))
    where
      came : (refused : Bool) (asked : Ask) (got : List ℕ) (size : ℕ) (why : Why) → class.Uncertain why ≡ class_by (ending_by refused) asked got size → ⊥
      came true asked got size why e = cc
      came false asked got size why e = cc

  pub alone_trace : IsAlone (steps_from 0 start rounds)
  alone_trace write written = nobody_writes rounds 0 start write (has (events_of (steps_from 0 start rounds)) (External write) written)

-- the bucket of the only destination
pub bucket_of : (start : State) (task : Task) (bucket key : List ℕ) → task.dest ≡ place.Object bucket key → HasBucket start bucket → HasDestBuckets (task ∷ []) start
bucket_of start task bucket key is_task there b k is_dest =
    let only : task ≡ is_dest.0 = one_of is_dest.0 (has (task ∷ []) is_dest.0 is_dest.1) in
    let same : (bucket ≡ b) × (key ≡ k) = subst (λ (d : Place). IsObject d b k) (ap (λ (t : Task). t.dest) (sym only) ∙ is_task) (subst (λ (d : Place). IsObject d b k) (sym is_dest.2) (refl, refl)) in
    subst (λ (x : List ℕ). HasBucket start x) same.0 there
  where
    one_of : (t : Task) → Has (task ∷ []) t → task ≡ t
    one_of t (inl e) = e
    one_of t (inr h) = absurd h

-- ---- a moved copy that is done

module _ (bucket key from_bucket from_key etag : List ℕ) (apart : (from_bucket ≡ bucket) × (from_key ≡ key) → ⊥) where
  abbrev copy_task : Task
  copy_task = moved_copy bucket key from_bucket from_key etag 0

  abbrev rounds : List Round
  rounds = sched.rounds bucket key from_bucket from_key etag apart

  abbrev start : State
  start = with_source the_limits bucket key from_bucket from_key etag

  rounds_sized : (r : Round) → Has rounds r → r.size ≡ 0
  rounds_sized r (inl e) = sym (ap (λ (x : Round). x.size) e)
  rounds_sized r (inr (inl e)) = sym (ap (λ (x : Round). x.size) e)
  rounds_sized r (inr (inr h)) = absurd h

  done_caused : HasOutcome Told ToldStatus NeverFailed (setting_of copy_task) (dispatched_from 0 rounds) (dispatched_from 0 rounds) 0 copy_task outcome.Done
  done_caused = (
    λ c failed. sched.not_failed (setting_of copy_task) rounds (sched.all_well bucket key from_bucket from_key etag apart) c failed.0,
    (dispatch_at 0 (sched.copy_round bucket key from_bucket from_key etag apart), (0, omega arith, refl), (tt, refl), (0, attempt_of (sched.copy_round bucket key from_bucket from_key etag apart), refl, refl)),
    λ moves is_object. (reply.Gone, (dispatch_at 2 (sched.delete_round bucket key from_bucket from_key etag apart), (1, omega arith, refl), refl, (refl, [], (refl, refl)))),
    λ fresh. absurd (false_true fresh),
  )

  done_met : IsPromiseMet copy_task outcome.Done
  done_met = record {
    shown = run empty copy_task outcome.Done rounds start (sched.other_jobs bucket key from_bucket from_key etag apart) (sched.all_plain bucket key from_bucket from_key etag apart) rounds_sized refl;
    dispatched = dispatched_from 0 rounds;
    start = start;
    trace = steps_from 0 start rounds;
    planned = refl;
    ended = refl;
    orderly = orderly empty copy_task outcome.Done rounds start (sched.other_jobs bucket key from_bucket from_key etag apart) (sched.all_plain bucket key from_bucket from_key etag apart) rounds_sized refl
        (sched.schedule_of bucket key from_bucket from_key etag apart AreNone refl) done_caused
        (record { bucket = bucket; key = key; is_dest = refl; decided = tt; keeps = λ removes. absurd (no_removal removes) })
        (sched.tasks_apart bucket key from_bucket from_key etag apart) (λ moments may. (from_bucket, from_key, refl)) (λ path moves is_file. no_file path is_file);
    traced = sched.fitting bucket key from_bucket from_key etag apart;
    whole = ([], sym (append-nil (steps_from 0 start rounds)), (sched.fitting bucket key from_bucket from_key etag apart).fits.moves);
  }
    where
      no_removal : kind.Copy ≡ kind.RemoveObject → ⊥
      no_removal e = cc

      no_file : (path : List ℕ) → Some (place.Object from_bucket from_key) ≡ Some (place.File path) → ⊥
      no_file path e = cc

  -- ---- over a service that does what it may

  willing_trace : IsWilling the_limits start (steps_from 0 start rounds)
  willing_trace = (tt, (tt, (λ ranged. absurd ranged, (tt, (tt, (tt, (λ ranged. absurd ranged, (tt, tt))))))))

  module _ (is_empty : etag ≡ []) where
    sources_there : AreSourcesThere empty (copy_task ∷ []) start
    sources_there = record {
      files = λ n task is_task uploads. absurd (no_upload (ap (λ (t : Task). t.kind) (sym (one_task copy_task n task is_task).1) ∙ uploads));
      there = λ n task b k is_task is_copy is_source.
          let only = sym (one_task copy_task n task is_task).1 in
          let same : (from_bucket ≡ b) × (from_key ≡ k) = subst (λ (o : Option Place). IsSource o b k) (ap (λ (t : Task). t.source) (sym only)) is_source in
          let there : IsThere start b k etag (object_of etag) =
          subst (λ (x : List ℕ). IsThere start b x etag (object_of etag)) same.1 (subst (λ (x : List ℕ). IsThere start x from_key etag (object_of etag)) same.0 (source_is_there the_limits bucket key from_bucket from_key etag)) in
          (object_of etag, subst (λ (t : Task). IsThere start b k t.etag (object_of etag)) only there, ap length is_empty ∙ ap (λ (t : Task). t.size) only);
      no_dest = λ m n a b bk k is_a is_b is_copy is_source is_dest.
          let from : (from_bucket ≡ bk) × (from_key ≡ k) = subst (λ (o : Option Place). IsSource o bk k) (ap (λ (t : Task). t.source) (one_task copy_task m a is_a).1) is_source in
          let to : (bucket ≡ bk) × (key ≡ k) = subst (λ (d : Place). IsObject d bk k) (ap (λ (t : Task). t.dest) (one_task copy_task n b is_b).1) is_dest in
          apart (from.0 ∙ sym to.0, from.1 ∙ sym to.1);
      moved_once = λ m n a b bk k is_a is_b is_copy is_source moves too. (one_task copy_task m a is_a).0 ∙ sym (one_task copy_task n b is_b).0;
    }

    complete_met : IsCompleteMet copy_task outcome.Done
    unfolding done_met
    complete_met = record {
      met = done_met;
      counted = λ n why ended never. absurd never;
      willing = willing_trace;
      certain = certain_at rounds start;
      alone = alone_trace rounds start;
      buckets = bucket_of start copy_task bucket key refl (bucket_is_there the_limits bucket key from_bucket from_key etag);
      sources = sources_there;
      fresh = λ n task is_task fresh. absurd (false_true (ap (λ (t : Task). t.fresh) (sym (one_task copy_task n task is_task).1) ∙ fresh));
      not_cancelled = refl;
    }

pub complete_is_met : CompleteIsMet
complete_is_met bucket key from_bucket from_key apart = complete_met bucket key from_bucket from_key [] apart refl

pub done_is_met : DoneIsMet
done_is_met bucket key from_bucket from_key etag apart = done_met bucket key from_bucket from_key etag apart

-- ---- one request, which is refused

refusal_success : mark.Refusal ≡ mark.Success → ⊥
refusal_success e = cc

refusal_uncertain : mark.Refusal ≡ mark.Uncertain → ⊥
refusal_uncertain e = cc

module _ (task : Task) (stays : task.moves ≡ false) (r : Round) (plain : IsPlainRound r) (start : State) (faithful : IsFaithful start) (served : AreServed the_limits start (r ∷ [])) (after : r.after ≡ start)
    (asked : AsksOf task (dispatch_at 0 r ∷ []) (dispatch_at 0 r) 0) (first : r.job.task ≡ Some 0) (no_create : r.job.op ≡ op.Create → ⊥) (refused : r.refused ≡ true) where
  abbrev request : Dispatched
  request = dispatch_at 0 r

  abbrev one : List Dispatched
  one = request ∷ []

  is_only : (c : Dispatched) → Contains one c → request ≡ c
  is_only = sched.is_only task stays r plain start faithful served after asked first no_create

  marked_refused : (c : Dispatched) (of_mark : Mark) → Contains one c → HasMark c of_mark → mark.Refusal ≡ of_mark
  marked_refused c of_mark known marked =
      let slot : slice_get (attempt_of r ∷ []) marked.0 ≡ Some marked.1 = subst (λ (d : Dispatched). slice_get d.dispatch.attempts marked.0 ≡ Some marked.1) (sym (is_only c known)) marked.2 in
      let only : attempt_of r ≡ marked.1 = some_is (attempt_of r) marked.1 (ap (slice_get (attempt_of r ∷ [])) (sym (first_attempt r marked.0 marked.1 slot)) ∙ slot) in
      sym (ap mark_by refused) ∙ ap (λ (a : Attempt). a.mark) only ∙ marked.3

  not_cut : (Stopped : Type 0) → IsCut Told 1 request [] Stopped → ⊥
  not_cut Stopped (inl again) = has [] again.0 again.1
  not_cut Stopped (inr cut) = let left = cut.3.4 in absurd (omega arith)

  is_failed : IsFailed Told (setting_of task) one request
  is_failed = ([], [], refl, λ cut. not_cut _ cut, λ well. refusal_success (sym (ap mark_by refused) ∙ well.0))

  first_failure : IsFirstFailure Told ToldStatus NeverFailed (setting_of task) one one 0 request
  first_failure = ((is_failed, first), λ other failing. inl (sym (ap (λ (c : Dispatched). c.dispatch) (sched.failed_is task stays r plain start faithful served after asked first no_create other failing.0))))

  met_by : (how : Outcome) → r.size ≡ task.size → map (λ (c : Dispatched). c.dispatch) one ≡ dispatches (journal_of (r ∷ [])) (logs_of one) → HasOutcome Told ToldStatus NeverFailed (setting_of task) one one 0 task how
      → IsByRequests task → (MayBeNew how → ⊥) → IsPromiseMet task how
  met_by how size shown caused by_requests never_new = record {
    shown = run empty task how (r ∷ []) start (alone r) one_plain sized shown;
    dispatched = one;
    start = start;
    trace = steps_from 0 start (r ∷ []);
    planned = refl;
    ended = refl;
    orderly = orderly empty task how (r ∷ []) start (alone r) one_plain sized shown (sched.one_schedule task stays r plain start faithful served after asked first no_create AreNone refl) caused by_requests
        (sched.one_apart task stays r plain start faithful served after asked first no_create) (λ moments may. absurd (never_new may)) (λ path moves is_file. absurd (false_true (sym stays ∙ moves)));
    traced = fitting;
    whole = ([], sym (append-nil (steps_from 0 start (r ∷ []))), fitting.fits.moves);
  }
    where
      one_plain : AllPlain (r ∷ [])
      one_plain = sched.one_plain task stays r plain start faithful served after asked first no_create

      sized : (other : Round) → Has (r ∷ []) other → other.size ≡ task.size
      sized other (inl e) = sym (ap (λ (x : Round). x.size) e) ∙ size
      sized other (inr h) = absurd h

      fitting : IsFitting Told the_limits (run_by start (r ∷ [])) (IsDest (task ∷ []))
      fitting = sched.one_fitting task stays r plain start faithful served after asked first no_create

-- ---- a removal that failed

module _ (bucket key : List ℕ) where
  abbrev gone_task : Task
  gone_task = removal bucket key

  abbrev gone_round : Round
  gone_round = sched.the_round bucket key

  failed_met : IsPromiseMet gone_task (outcome.Failed (cause.Service op.Delete [] []))
  failed_met =
      met_by gone_task refl gone_round (sched.removal_is_plain bucket key) (one_bucket the_limits bucket key) (bare_is_faithful (bucket ∷ [])) ((refl, tt), tt) refl (sched.removes bucket key) refl sched.delete_create refl
      (outcome.Failed (cause.Service op.Delete [] [])) refl refl (
        λ d. refusal_success (marked d.0 mark.Success d.1 d.3),
        λ left. refusal_uncertain (marked left.0.0 mark.Uncertain left.0.1 left.0.3),
        (
          (
            dispatch_at 0 gone_round,
            first_failure gone_task refl gone_round (sched.removal_is_plain bucket key) (one_bucket the_limits bucket key) (bare_is_faithful (bucket ∷ [])) ((refl, tt), tt) refl (sched.removes bucket key) refl sched.delete_create refl,
            (refl, ([], (refl, refl)), λ changed. changed.0),
          ),
          λ skipped. absurd (false_true skipped.0),
        ),
        λ fresh. absurd (false_true fresh),
      )
      (record { bucket = bucket; key = key; is_dest = refl; decided = tt; keeps = λ removes. refl }) (λ may. may)
    where
      marked : (c : Dispatched) (of_mark : Mark) → Contains (dispatch_at 0 gone_round ∷ []) c → HasMark c of_mark → mark.Refusal ≡ of_mark
      marked = marked_refused gone_task refl gone_round (sched.removal_is_plain bucket key) (one_bucket the_limits bucket key) (bare_is_faithful (bucket ∷ [])) ((refl, tt), tt) refl (sched.removes bucket key) refl sched.delete_create refl

pub failed_is_met : FailedIsMet
failed_is_met bucket key = failed_met bucket key

-- ---- an upload that was skipped

module _ (bucket key path : List ℕ) where
  abbrev skip_task : Task
  skip_task = upload bucket key path 0 true

  -- the object that is there
  abbrev taken : State
  taken = with_object (bare (bucket ∷ [])) bucket key (object_of [])

  abbrev skip_round : Round
  skip_round = record {
    job = job_of 0 op.Put 0;
    ask = ask.Put bucket key None true;
    body = source_bytes empty (Some (place.File path));
    refused = true;
    got = codes "PreconditionFailed";
    size = 0;
    after = taken;
  }

  put_create : op.Put ≡ op.Create → ⊥
  put_create e = let level : ◌≡◌ {A = ℕ} 2 5 = ap op_number e in absurd (omega arith)

  put_abort : op.Put ≡ op.Abort → ⊥
  put_abort e = let level : ◌≡◌ {A = ℕ} 2 9 = ap op_number e in absurd (omega arith)

  skip_plain : IsPlainRound skip_round
  skip_plain = record { task = 0; of_task = refl; no_abort = put_abort }

  to : Target skip_task
  to = record { bucket = bucket; key = key; is_dest = (refl, refl) }

  skip_asks : AsksOf skip_task (dispatch_at 0 skip_round ∷ []) (dispatch_at 0 skip_round) 0
  unfolding to
  skip_asks = (skip_task, 0, 1, refl, inl (omega arith, refl, refl), refl, refl, (to, refl, refl, refl))

  skip_faithful : IsFaithful taken
  skip_faithful = faithful_with (bare (bucket ∷ [])) bucket key [] (bare_is_faithful (bucket ∷ []))

  skip_served : AreServed the_limits taken (skip_round ∷ [])
  skip_served = ((refl, λ fresh listed. subst (λ (found : Option Object). IsSome found) (sym (object_at-with_object (bare (bucket ∷ [])) bucket key (object_of []))) refl), tt)

  skipped_met : IsPromiseMet skip_task outcome.Skipped
  skipped_met =
      met_by skip_task refl skip_round skip_plain taken skip_faithful skip_served refl skip_asks refl put_create refl
      outcome.Skipped refl refl (
        refl,
        inl (
          refl,
          refl,
          λ d. refusal_uncertain (marked_refused skip_task refl skip_round skip_plain taken skip_faithful skip_served refl skip_asks refl put_create refl d.0 mark.Uncertain d.1 d.3),
          (
            dispatch_at 0 skip_round,
            (0, omega arith, refl),
            (tt, refl),
            first_failure skip_task refl skip_round skip_plain taken skip_faithful skip_served refl skip_asks refl put_create refl,
            (codes "PreconditionFailed", [], [], (refl, refl), refl),
          ),
        ),
      )
      (record { bucket = bucket; key = key; is_dest = refl; decided = tt; keeps = λ removes. absurd (no_removal removes) }) (λ may. may)
    where
      no_removal : kind.Upload ≡ kind.RemoveObject → ⊥
      no_removal e = cc

pub skipped_is_met : SkippedIsMet
skipped_is_met bucket key path = skipped_met bucket key path
