-- Rounds without uploads keep to the clauses on given jobs; a small copy that is moved and a removal that is refused are such runs.
use Rattle.std.proofs.Common.{◌≡◌, ◌≢◌, ◌∙◌, ◌+◌, ◌<◌, ◌≤◌, ℕ, zero, suc, true, false, List, [], ◌∷◌, Option, Some, None, refl, sym, ap, subst, inl, inr, Contains, AllPairs, get_or, length, slice_get, arith}
use Rattle.std.specs.FinMap.{empty}
use Rattle.std.proofs.lemmas.List.{append-nil}
use Rattle.std.proofs.lemmas.List.Elements.{Contains-get_or}
use Rattle.std.proofs.lemmas.List.Kept.{AllPairs-cons}
use Rattle.std.proofs.lemmas.List.Sorted.{IsPermutation-refl}
use Rattle.std.proofs.lemmas.Option.{get_or_from_slice_get, slice_get-get_or, slice_get_within}
use Rattle.s3_model.specs.declared.requests.Op.{Op}
use Rattle.s3_model.specs.declared.requests.Op.TheVariants as op
use Rattle.s3_model.specs.declared.answers.Reply.TheVariants as reply
use Rattle.s3_model.specs.declared.answers.Class.{Class}
use Rattle.s3_model.specs.declared.outcomes.JobId.{JobId}
use Rattle.s3_model.specs.declared.places.Place.TheVariants as place
use Rattle.s3_model.specs.declared.settings.Config.{Config}
use Rattle.s3_model.specs.declared.settings.Limits.{Limits}
use Rattle.s3_model.specs.declared.tasks.Task.{Task}
use Rattle.s3_model.specs.Parts.{HasPieces}
use Rattle.run_promise.specs.Dispatches.{FitsAsk, IsCompletedWell}
use Rattle.job_terms.specs.Dispatches.{Dispatched}
use Rattle.job_terms.specs.Ops.{op_number, deciding}
use Rattle.run_promise.specs.Fits.{request_at}
use Rattle.run_promise.specs.Traces.{states}
use Rattle.s3_service.specs.ServiceState.{State}
use Rattle.run_promise.specs.Truthful.{IsDest}
use Rattle.s3_model.specs.Validity.{IsValidLimits}
use Rattle.run_promise.specs.Schedule.{IsUpload, Setting, limit_of, IsSchedule, IsTaskAsk, IsBefore, IsBeforeAny, IsDecided, IsFailed, gained_before, is_planning, planning_of, is_small, source_bytes}
use Rattle.job_terms.specs.Jobs.{Target, Origin, IsObject, IsSource, job_of}
use Rattle.s3_model.specs.Maps.{MapOf}
use Rattle.s3_model.specs.Files.{HeldFile}
use Rattle.shared_lemmas.proofs.Clashes.{false_true, some_is}
use Rattle.shared_lemmas.proofs.Members.{contains_of, Has, has, has_at, has_middle, kept, passes}
use Rattle.world_laws.specs.ExampleTasks.{moved_copy, removal}
use Rattle.world_laws.specs.Premises.{AllRefused}
use Rattle.run_promise.specs.Runs.{IsFitting}
use Rattle.world_laws.specs.Rounds.{AreServed, Told, Round, mark_by, dispatch_at, dispatched_from, journal_of, steps_from}
use Rattle.world_laws.specs.Tasks.{AreApart, AreQuestions, HasSource, IsScheduled}
use Rattle.world_laws.specs.Witnesses.{IsTaskMet, IsMovedCopy, IsRefusedTask, TaskIsMet, RefusedTaskIsMet}
use Rattle.world_laws.proofs.Tasks.{planned_none}
use Rattle.world_laws.proofs.Faithful.{run_by, IsFaithful, bare_is_faithful, faithful_without, rounds_fitting}
use Rattle.world_laws.proofs.Witnesses.{succeeds, with_source, source_is_faithful, copied, copy, source_gone, move, move_served, move_apart, copied_is_faithful, one_bucket, refused_delete, is_refused, alone}
use Rattle.world_laws.proofs.Rounds.{AreApart as AreOtherJobs, round_of, rounds_numbered, rounds_given, rounds_come}

-- what is asked of each round: it is of a task, and aborts no upload
pub record IsPlainRound (r : Round) : Type 0 where
  pub task : ℕ
  pub of_task : r.job.task ≡ Some task
  pub no_abort : r.job.op ≢ op.Abort

-- and it came with what it asked for
pub record CameWell (r : Round) : Type 0 where
  pub not_refused : r.refused ≡ false
  pub fits_ask : (place : ℕ) (shown : Class) → FitsAsk (dispatch_at place r) r.ask shown

abbrev pub AllPlain : List Round → Type 0
AllPlain rounds = (r : Round) → Has rounds r → IsPlainRound r

-- they come in order
abbrev pub ComesBefore : Dispatched → Dispatched → Type 0
ComesBefore a b = IsBeforeAny a.dispatch.came_at b.dispatch.came_at

later_places : (rounds : List Round) (place : ℕ) (c : Dispatched) → Has (dispatched_from place rounds) c → (at : ℕ) × (c.dispatch.came_at ≡ Some at) × (place < at)
later_places [] place c h = absurd h
later_places (r ∷ rounds) place c (inl e) = (place + 1, sym (ap (λ (d : Dispatched). d.dispatch.came_at) e), omega arith)
later_places (r ∷ rounds) place c (inr h) = let rest = later_places rounds (place + 2) c h in let beyond = rest.2 in (rest.0, rest.1, omega arith)

pub in_order : (rounds : List Round) (place : ℕ) → AllPairs ComesBefore (dispatched_from place rounds)
in_order [] place = λ i j d before inside. absurd (omega arith)
in_order (r ∷ rounds) place =
    AllPairs-cons ComesBefore (dispatch_at place r) (dispatched_from (place + 2) rounds)
    (λ k d inside.
    let later = dispatched_from (place + 2) rounds in
    let found = later_places rounds (place + 2) (get_or later k d) (has later (get_or later k d) (Contains-get_or later k d inside)) in
    let beyond = found.2 in
    subst (λ (o : Option ℕ). IsBeforeAny (Some (place + 1)) o) (sym found.1) (omega arith))
    (in_order rounds (place + 2))

-- what has no item is empty
nothing_in : (xs : List Dispatched) → ((c : Dispatched) → Has xs c → ⊥) → xs ≡ []
nothing_in [] never = refl
nothing_in (c ∷ xs) never = absurd (never c (inl refl))

-- no job of planning
no_questions : AreQuestions []
no_questions c known = absurd (has [] c known)

-- ---- a schedule

module _ (s : Setting) (rounds : List Round) (apart : AreOtherJobs rounds) (plain : AllPlain rounds) where
  abbrev pub all : List Dispatched
  all = dispatched_from 0 rounds

  -- each is a plain round
  plain_of : (c : Dispatched) → Contains all c → (r : Round) × (at : ℕ) × IsPlainRound r × (dispatch_at at r ≡ c)
  plain_of c known = let found = round_of rounds 0 c (has all c known) in (found.0, found.1, plain found.0 found.2, found.3)

  op_of_round : (c : Dispatched) → Contains all c → (of_op : Op) → ((r : Round) → IsPlainRound r → r.job.op ≡ of_op → ⊥) → c.dispatch.job.op ≡ of_op → ⊥
  op_of_round c known of_op never is = let found = plain_of c known in never found.0 found.2 (ap (λ (d : Dispatched). d.dispatch.job.op) found.3 ∙ is)

  -- one place stands for one job
  pub same_place : (i j : ℕ) (a b : Dispatched) → i < j → slice_get all i ≡ Some a → slice_get all j ≡ Some b → a.dispatch.job ≡ b.dispatch.job → ⊥
  same_place i j a b before at_i at_j same =
      let pair = rounds_numbered rounds 0 apart i j a before (slice_get_within all j b at_j) in
      let first = get_or_from_slice_get all i a a at_i in
      let second = get_or_from_slice_get all j b a at_j in
      let says = subst (λ (d : Dispatched). a.dispatch.job ≡ d.dispatch.job → a.dispatch.earlier + length a.dispatch.attempts ≤ d.dispatch.earlier) second
      (subst (λ (d : Dispatched). d.dispatch.job ≡ (get_or all j a).dispatch.job → d.dispatch.earlier + length d.dispatch.attempts ≤ (get_or all j a).dispatch.earlier) first pair) in
      let of_a = plain_of a (contains_of all a (has_at all i a at_i)) in
      let of_b = plain_of b (contains_of all b (has_at all j b at_j)) in
      let one : length a.dispatch.attempts ≡ 1 = ap (λ (d : Dispatched). length d.dispatch.attempts) (sym of_a.3) in
      let none : b.dispatch.earlier ≡ 0 = ap (λ (d : Dispatched). d.dispatch.earlier) (sym of_b.3) in
      let gap = says same in
      absurd (omega arith)

  -- no job is given after a dispatch that failed
  abbrev pub NoneAfterFailed : Type 0
  NoneAfterFailed = (failed c : Dispatched) → IsFailed Told s all failed → Contains all c → IsBefore failed.dispatch.came_at c.dispatch.given_at → ⊥

  -- each upload that was created was completed
  abbrev pub AllCompleted : Type 0
  AllCompleted = (n : ℕ) (id : List ℕ) (end : ℕ) → ((c : Dispatched) → Contains all c → IsBefore c.dispatch.came_at end) → IsUpload (gained_before Told all end) n id
      → gained_before Told all end (job_of n op.Complete 0) reply.Completed

  pub none_created : ((r : Round) → Has rounds r → r.job.op ≡ op.Create → ⊥) → AllCompleted
  none_created never n id end all_come gained =
      let found = round_of rounds 0 gained.0 (has all gained.0 gained.1) in
      absurd (never found.0 found.2 (ap (λ (d : Dispatched). d.dispatch.job.op) found.3 ∙ ap (λ (j : JobId). j.op) gained.2))

  pub rounds_schedule : (Plans : List Dispatched → Type 0) → Plans [] → s.dryrun ≡ false → NoneAfterFailed → AllCompleted → ((c : Dispatched) (n : ℕ) → Contains all c → c.dispatch.job.task ≡ Some n
      → (task : Task) × (piece : ℕ) × (count : ℕ) × (slice_get s.tasks n ≡ Some task) × HasPieces s.config s.limits task.kind task.size piece count × (c.size ≡ task.size)
      × (c.limit ≡ limit_of task.size piece c.dispatch.job.number c.ask) × IsTaskAsk (gained_before Told all c.dispatch.given_at) task (record { number = n; bytes = source_bytes s.held task.source; piece = piece; count = count })
      task.kind (is_small s task) c.dispatch.job.op c.dispatch.job.number c.ask c.body)
      → ((c : Dispatched) (n : ℕ) (task : Task) → Contains all c → c.dispatch.job.task ≡ Some n → slice_get s.tasks n ≡ Some task → task.moves ≡ true → c.dispatch.job.op ≡ op.Delete
      → IsDecided s task n (gained_before Told all c.dispatch.given_at))
      → IsSchedule Told s Plans all all
  rounds_schedule Plans no_plans carried_out none_after completed asks moves_last = record {
    is_coming = IsPermutation-refl all;
    in_order = in_order rounds 0;
    asks = asks;
    dry = λ c dried known. absurd (false_true (sym carried_out ∙ dried));
    plans = subst Plans (sym (nothing_in (planning_of all) no_planning)) no_plans;
    planned = λ c known none. let found = plain_of c known in absurd (none_task c found.0 found.1 found.2 found.3 none);
    numbered = λ k c at. absurd (no_planning c (has_at (planning_of all) k c at));
    one_by_one = λ i j d before inside. absurd (no_planning (get_or (planning_of all) j d) (has (planning_of all) (get_or (planning_of all) j d) (Contains-get_or (planning_of all) j d inside)));
    twice = λ i j d before inside same. absurd (never_twice i j d before inside same);
    no_third = λ a b c i j k before after at_i at_j at_k first second. same_place i j a b before at_i at_j first;
    stops = λ failed c is_failed of_task no_abort known same before. absurd (none_after failed c is_failed known before);
    abort_last = λ a c known_a known_c is_abort same other. absurd (op_of_round a known_a op.Abort (λ r p. p.no_abort) is_abort);
    aborts = λ n id end all_come gained. inl (completed n id end all_come gained);
    completed_stays = λ n end a known is gained. op_of_round a known op.Abort (λ r p. p.no_abort) (ap (λ (j : JobId). j.op) is);
    moves_last = moves_last;
  }
    where
      none_some : (m : ℕ) → ◌≡◌ {A = Option ℕ} None (Some m) → ⊥
      none_some m e = cc

      none_task : (c : Dispatched) (r : Round) (at : ℕ) → IsPlainRound r → dispatch_at at r ≡ c → c.dispatch.job.task ≡ None → ⊥
      none_task c r at p is none = none_some p.task (sym none ∙ sym (ap (λ (d : Dispatched). d.dispatch.job.task) is) ∙ p.of_task)

      no_planning : (c : Dispatched) → Has (planning_of all) c → ⊥
      no_planning c h = let found = plain_of c (contains_of all c (kept is_planning all c h)) in none_task c found.0 found.1 found.2 found.3 (planned_none c.dispatch.job.task (passes is_planning all c h))

      never_twice : (i j : ℕ) (d : Dispatched) → i < j → j < length all → (get_or all i d).dispatch.job ≡ (get_or all j d).dispatch.job → ⊥
      never_twice i j d before inside same =
          same_place i j (get_or all i d) (get_or all j d) before (slice_get-get_or all i d (omega arith)) (slice_get-get_or all j d inside) same

-- where all came well none failed
module _ (s : Setting) (rounds : List Round) (well : (r : Round) → Has rounds r → CameWell r) where
  completed_well : (c : Dispatched) → Contains (dispatched_from 0 rounds) c → IsCompletedWell Told c
  completed_well c known =
      let found = round_of rounds 0 c (has (dispatched_from 0 rounds) c known) in
      let came = well found.0 found.2 in
      subst (IsCompletedWell Told) found.3
      (ap mark_by came.not_refused, λ shown bytes told. came.fits_ask found.1 shown)

  pub not_failed : (c : Dispatched) → IsFailed Told s (dispatched_from 0 rounds) c → ⊥
  not_failed c failed =
      failed.4 (completed_well c (contains_of (dispatched_from 0 rounds) c (subst (λ (xs : List Dispatched). Has xs c) (sym failed.2) (has_middle failed.0 c failed.1))))

-- ---- a run of one task

abbrev pub the_limits : Limits
the_limits = record { min_part = 1; max_part = 64; max_parts = 4; max_object = 64 }

abbrev pub the_config : Config
the_config = record { threshold = 1; chunk = 1; lanes = 1; queue = 1; buffers = 1; attempts = 1 }

abbrev pub setting_with : MapOf HeldFile → Task → Setting
setting_with held task = record {
  config = the_config;
  limits = the_limits;
  lanes = 1;
  tasks = task ∷ [];
  dryrun = false;
  held = held;
  others = [];
  file_failed = λ n. false;
  cancelled_at = None;
  wanted_memory = λ t. false;
}

-- without files
abbrev pub setting_of : Task → Setting
setting_of task = setting_with empty task

pub limits_are_valid : IsValidLimits the_limits
limits_are_valid = record {
  min_part = omega arith;
  parts = omega arith;
  max_part = omega arith;
  max_parts = record { least = omega arith; most = omega arith };
  max_object = record { least = omega arith; most = omega arith };
  reached = omega arith;
}

-- the only task is the first
pub one_task : (task : Task) (m : ℕ) (a : Task) → slice_get (task ∷ []) m ≡ Some a → (m ≡ 0) × (a ≡ task)
one_task task zero a e = (refl, sym (some_is task a e))
one_task task (suc m) a e = absurd (nothing a e)
  where
    nothing : (t : Task) → ◌≡◌ {A = Option Task} None (Some t) → ⊥
    nothing t e = cc

-- what is asked of a dispatch of task n, in a run of one task
abbrev pub AsksWith : MapOf HeldFile → Task → List Dispatched → Dispatched → ℕ → Type 0
AsksWith held the_task dispatched c n = (task : Task) × (piece : ℕ) × (count : ℕ) × (slice_get (the_task ∷ []) n ≡ Some task) × HasPieces the_config the_limits task.kind task.size piece count × (c.size ≡ task.size)
    × (c.limit ≡ limit_of task.size piece c.dispatch.job.number c.ask) × IsTaskAsk (gained_before Told dispatched c.dispatch.given_at) task (record { number = n; bytes = source_bytes held task.source; piece = piece; count = count })
    task.kind (is_small (setting_of the_task) task) c.dispatch.job.op c.dispatch.job.number c.ask c.body

abbrev pub AsksOf : Task → List Dispatched → Dispatched → ℕ → Type 0
AsksOf = AsksWith empty

-- ---- a small copy that is moved

copy_delete : op.Copy ≡ op.Delete → ⊥
copy_delete e = let level : ◌≡◌ {A = ℕ} 3 4 = ap op_number e in absurd (omega arith)

copy_create : op.Copy ≡ op.Create → ⊥
copy_create e = let level : ◌≡◌ {A = ℕ} 3 5 = ap op_number e in absurd (omega arith)

copy_abort : op.Copy ≡ op.Abort → ⊥
copy_abort e = let level : ◌≡◌ {A = ℕ} 3 9 = ap op_number e in absurd (omega arith)

pub delete_create : op.Delete ≡ op.Create → ⊥
delete_create e = let level : ◌≡◌ {A = ℕ} 4 5 = ap op_number e in absurd (omega arith)

delete_abort : op.Delete ≡ op.Abort → ⊥
delete_abort e = let level : ◌≡◌ {A = ℕ} 4 9 = ap op_number e in absurd (omega arith)

module _ (bucket key from_bucket from_key etag : List ℕ) (apart : (from_bucket ≡ bucket) × (from_key ≡ key) → ⊥) where
  abbrev pub the_task : Task
  the_task = moved_copy bucket key from_bucket from_key etag 0

  abbrev pub the_setting : Setting
  the_setting = setting_of the_task

  abbrev pub copy_round : Round
  copy_round = copy the_limits bucket key from_bucket from_key etag

  abbrev pub delete_round : Round
  delete_round = source_gone the_limits bucket key from_bucket from_key etag apart

  abbrev pub rounds : List Round
  rounds = move the_limits bucket key from_bucket from_key etag apart

  abbrev pub dispatched : List Dispatched
  dispatched = dispatched_from 0 rounds

  pub other_jobs : AreOtherJobs rounds
  other_jobs = move_apart the_limits bucket key from_bucket from_key etag apart

  pub all_plain : AllPlain rounds
  all_plain r (inl e) = subst IsPlainRound e (record { task = 0; of_task = refl; no_abort = copy_abort })
  all_plain r (inr (inl e)) = subst IsPlainRound e (record { task = 0; of_task = refl; no_abort = delete_abort })
  all_plain r (inr (inr h)) = absurd h

  creates_nothing : (r : Round) → Has rounds r → r.job.op ≡ op.Create → ⊥
  creates_nothing r (inl e) is = copy_create (ap (λ (x : Round). x.job.op) e ∙ is)
  creates_nothing r (inr (inl e)) is = delete_create (ap (λ (x : Round). x.job.op) e ∙ is)
  creates_nothing r (inr (inr h)) is = absurd h

  pub all_well : (r : Round) → Has rounds r → CameWell r
  all_well r (inl e) = subst CameWell e (record { not_refused = refl; fits_ask = λ place shown. tt })
  all_well r (inr (inl e)) = subst CameWell e (record { not_refused = refl; fits_ask = λ place shown. tt })
  all_well r (inr (inr h)) = absurd h

  to : Target the_task
  to = record { bucket = bucket; key = key; is_dest = (refl, refl) }

  from : Origin the_task
  from = record { bucket = from_bucket; key = from_key; is_source = (refl, refl) }

  abbrev Asks : Dispatched → ℕ → Type 0
  Asks = AsksOf the_task dispatched

  copy_asks : Asks (dispatch_at 0 copy_round) 0
  unfolding to from
  copy_asks = (the_task, 0, 1, refl, inl (omega arith, refl, refl), refl, refl, (to, from, refl, refl, refl))

  delete_asks : Asks (dispatch_at 2 delete_round) 0
  unfolding from
  delete_asks = (the_task, 0, 1, refl, inl (omega arith, refl, refl), refl, refl, ((from, refl, refl), refl, refl))

  asks : (c : Dispatched) (n : ℕ) → Contains dispatched c → c.dispatch.job.task ≡ Some n → Asks c n
  asks c n known of_task = which (has dispatched c known)
    where
      which : Has dispatched c → Asks c n
      which (inl e) = let zero_is : 0 ≡ n = some_is 0 n (ap (λ (d : Dispatched). d.dispatch.job.task) e ∙ of_task) in subst (Asks c) zero_is (subst (λ (d : Dispatched). Asks d 0) e copy_asks)
      which (inr (inl e)) = let zero_is : 0 ≡ n = some_is 0 n (ap (λ (d : Dispatched). d.dispatch.job.task) e ∙ of_task) in subst (Asks c) zero_is (subst (λ (d : Dispatched). Asks d 0) e delete_asks)
      which (inr (inr h)) = absurd h

  -- the copy was gained before the Delete was given
  copy_is_gained : gained_before Told dispatched 2 (job_of 0 op.Copy 0) reply.Copied
  copy_is_gained = (dispatch_at 0 copy_round, (0, omega arith, refl), refl, omega arith, (refl, [], (refl, refl)))

  moves_last : (c : Dispatched) (n : ℕ) (task : Task) → Contains dispatched c → c.dispatch.job.task ≡ Some n → slice_get the_setting.tasks n ≡ Some task → task.moves ≡ true → c.dispatch.job.op ≡ op.Delete
      → IsDecided the_setting task n (gained_before Told dispatched c.dispatch.given_at)
  moves_last c n task known of_task at moved is_op = which (has dispatched c known)
    where
      which : Has dispatched c → IsDecided the_setting task n (gained_before Told dispatched c.dispatch.given_at)
      which (inl e) = absurd (copy_delete (ap (λ (d : Dispatched). d.dispatch.job.op) e ∙ is_op))
      which (inr (inl e)) =
          let zero_is : 0 ≡ n = some_is 0 n (ap (λ (d : Dispatched). d.dispatch.job.task) e ∙ of_task) in
          let task_is : the_task ≡ task = some_is the_task task (ap (slice_get the_setting.tasks) zero_is ∙ at) in
          subst (λ (d : Dispatched). IsDecided the_setting task n (gained_before Told dispatched d.dispatch.given_at)) e
          (subst (λ (m : ℕ). IsDecided the_setting task m (gained_before Told dispatched 2)) zero_is
          (subst (λ (t : Task). IsDecided the_setting t 0 (gained_before Told dispatched 2)) task_is (λ piece count pieces. copy_is_gained)))
      which (inr (inr h)) = absurd h

  pub tasks_apart : AreApart (the_task ∷ [])
  tasks_apart = record {
    destinations = λ m n a b b1 k1 at_m at_n here there. (one_task the_task m a at_m).0 ∙ sym (one_task the_task n b at_n).0;
    sources = λ m n a b b1 k1 at_m at_n moved is_source is_dest.
        let source : IsSource (Some (place.Object from_bucket from_key)) b1 k1 = subst (λ (t : Task). IsSource t.source b1 k1) (one_task the_task m a at_m).1 is_source in
        let dest : IsObject (place.Object bucket key) b1 k1 = subst (λ (t : Task). IsObject t.dest b1 k1) (one_task the_task n b at_n).1 is_dest in
        apart (source.0 ∙ sym dest.0, source.1 ∙ sym dest.1);
  }

  pub schedule_of : (Plans : List Dispatched → Type 0) → Plans [] → IsSchedule Told the_setting Plans dispatched dispatched
  schedule_of Plans no_plans = rounds_schedule the_setting rounds other_jobs all_plain Plans no_plans refl (λ failed c is_failed known before. not_failed the_setting rounds all_well failed is_failed)
      (none_created the_setting rounds other_jobs all_plain creates_nothing) asks moves_last

  pub scheduled : IsScheduled Told the_setting (journal_of rounds) dispatched dispatched
  scheduled = record {
    schedule = schedule_of AreQuestions no_questions;
    given = rounds_given rounds (with_source the_limits bucket key from_bucket from_key etag) other_jobs;
    come = λ c known. rounds_come rounds (with_source the_limits bucket key from_bucket from_key etag) other_jobs c (has dispatched c known);
    apart = tasks_apart;
    threshold = omega arith;
    limits = limits_are_valid;
  }

  pub fitting : IsFitting Told the_limits (run_by (with_source the_limits bucket key from_bucket from_key etag) rounds) (IsDest the_setting.tasks)
  fitting =
      rounds_fitting the_limits (with_source the_limits bucket key from_bucket from_key etag) rounds (move_served the_limits bucket key from_bucket from_key etag apart) other_jobs (source_is_faithful the_limits bucket key from_bucket from_key etag) (
        copied_is_faithful the_limits bucket key from_bucket from_key etag apart,
        (faithful_without (copied the_limits bucket key from_bucket from_key etag) from_bucket from_key (copied_is_faithful the_limits bucket key from_bucket from_key etag apart), tt),
      ) (IsDest the_setting.tasks)

  task_met : IsTaskMet bucket key (IsMovedCopy from_bucket from_key)
  task_met = record {
    setting = the_setting;
    run = run_by (with_source the_limits bucket key from_bucket from_key etag) rounds;
    of_plan = record { coming = dispatched; scheduled = scheduled; traced = fitting };
    whole = ([], sym (append-nil (steps_from 0 (with_source the_limits bucket key from_bucket from_key etag) rounds)), fitting.fits.moves);
    task = the_task;
    object = record { is_task = refl; is_dest = refl; has_source = (from_bucket, from_key, refl) };
    such = record {
      is_copy = refl;
      moves = refl;
      is_source = refl;
      copied = record { request = dispatch_at 0 copy_round; known = (0, omega arith, refl); decides = refl; succeeded = succeeds 0 copy_round refl };
      deleted = (dispatch_at 2 delete_round, (1, omega arith, refl), refl, succeeds 2 delete_round refl);
      begins = (0, request_at (dispatch_at 2 delete_round) 0, (5, omega arith, refl), refl);
    };
  }

pub task_is_met : TaskIsMet
task_is_met bucket key from_bucket from_key etag apart = task_met bucket key from_bucket from_key etag apart

-- ---- one request, which is refused

module _ (task : Task) (stays : task.moves ≡ false) (r : Round) (plain : IsPlainRound r) (start : State) (faithful : IsFaithful start) (served : AreServed the_limits start (r ∷ [])) (after : r.after ≡ start)
    (asked : AsksOf task (dispatch_at 0 r ∷ []) (dispatch_at 0 r) 0) (first : r.job.task ≡ Some 0) (no_create : r.job.op ≡ op.Create → ⊥) where
  abbrev pub request : Dispatched
  request = dispatch_at 0 r

  pub one_plain : AllPlain (r ∷ [])
  one_plain other (inl e) = subst IsPlainRound e plain
  one_plain other (inr h) = absurd h

  pub is_only : (c : Dispatched) → Contains (request ∷ []) c → request ≡ c
  is_only c known = which (has (request ∷ []) c known)
    where
      which : Has (request ∷ []) c → request ≡ c
      which (inl e) = e
      which (inr h) = absurd h

  asks_all : (c : Dispatched) (n : ℕ) → Contains (request ∷ []) c → c.dispatch.job.task ≡ Some n → AsksOf task (request ∷ []) c n
  asks_all c n known of_task =
      let only = is_only c known in
      let zero_is : 0 ≡ n = some_is 0 n (sym first ∙ ap (λ (d : Dispatched). d.dispatch.job.task) only ∙ of_task) in
      subst (AsksOf task (request ∷ []) c) zero_is (subst (λ (d : Dispatched). AsksOf task (request ∷ []) d 0) only asked)

  never_moves : (other : Task) (n : ℕ) → slice_get (task ∷ []) n ≡ Some other → other.moves ≡ true → ⊥
  never_moves other n at moved = false_true (sym stays ∙ ap (λ (t : Task). t.moves) (sym (one_task task n other at).1) ∙ moved)

  pub failed_is : (c : Dispatched) → IsFailed Told (setting_of task) (request ∷ []) c → request ≡ c
  failed_is c failed = is_only c (contains_of (request ∷ []) c (subst (λ (xs : List Dispatched). Has xs c) (sym failed.2) (has_middle failed.0 c failed.1)))

  none_after : (failed c : Dispatched) → IsFailed Told (setting_of task) (request ∷ []) failed → Contains (request ∷ []) c → IsBefore failed.dispatch.came_at c.dispatch.given_at → ⊥
  none_after failed c is_failed known before =
      let only = is_only c known in
      let late : 1 < 0 = subst (λ (d : Dispatched). IsBefore (Some 1) d.dispatch.given_at) (sym only) (subst (λ (d : Dispatched). IsBefore d.dispatch.came_at c.dispatch.given_at) (sym (failed_is failed is_failed)) before) in
      absurd (omega arith)

  one_creates : (other : Round) → Has (r ∷ []) other → other.job.op ≡ op.Create → ⊥
  one_creates other (inl e) is = no_create (ap (λ (x : Round). x.job.op) e ∙ is)
  one_creates other (inr h) is = absurd h

  pub one_schedule : (Plans : List Dispatched → Type 0) → Plans [] → IsSchedule Told (setting_of task) Plans (request ∷ []) (request ∷ [])
  one_schedule Plans no_plans =
      rounds_schedule (setting_of task) (r ∷ []) (alone r) one_plain Plans no_plans refl none_after
      (none_created (setting_of task) (r ∷ []) (alone r) one_plain one_creates) asks_all (λ c n other known of_task at moved is_op. absurd (never_moves other n at moved))

  pub one_apart : AreApart (task ∷ [])
  one_apart = record {
    destinations = λ m n a b b1 k1 at_m at_n here there. (one_task task m a at_m).0 ∙ sym (one_task task n b at_n).0;
    sources = λ m n a b b1 k1 at_m at_n moved is_source is_dest. never_moves a m at_m moved;
  }

  one_scheduled : IsScheduled Told (setting_of task) (journal_of (r ∷ [])) (request ∷ []) (request ∷ [])
  one_scheduled = record {
    schedule = one_schedule AreQuestions no_questions;
    given = rounds_given (r ∷ []) start (alone r);
    come = λ c known. rounds_come (r ∷ []) start (alone r) c (has (request ∷ []) c known);
    apart = one_apart;
    threshold = omega arith;
    limits = limits_are_valid;
  }

  pub one_fitting : IsFitting Told the_limits (run_by start (r ∷ [])) (IsDest (task ∷ []))
  one_fitting = rounds_fitting the_limits start (r ∷ []) served (alone r) faithful (subst IsFaithful (sym after) faithful, tt) (IsDest (task ∷ []))

  pub one_refused_met : (bucket key : List ℕ) → task.dest ≡ place.Object bucket key → HasSource (setting_of task).held (states start (steps_from 0 start (r ∷ []))) task task.kind (is_small (setting_of task) task)
      → r.job ≡ job_of 0 (deciding task.kind (is_small (setting_of task) task)) 0 → AllRefused Told request → IsTaskMet bucket key IsRefusedTask
  one_refused_met bucket key is_dest sourced decides refused = record {
    setting = setting_of task;
    run = run_by start (r ∷ []);
    of_plan = record { coming = request ∷ []; scheduled = one_scheduled; traced = one_fitting };
    whole = ([], sym (append-nil (steps_from 0 start (r ∷ []))), one_fitting.fits.moves);
    task = task;
    object = record { is_task = refl; is_dest = is_dest; has_source = sourced };
    such = record { request = request; known = (0, omega arith, refl); decides = decides; made = omega arith; refused = λ c known of_job. subst (AllRefused Told) (is_only c known) refused };
  }

-- ---- a removal that is refused

module _ (bucket key : List ℕ) where
  ends : Target (removal bucket key)
  ends = record { bucket = bucket; key = key; is_dest = (refl, refl) }

  abbrev pub the_round : Round
  the_round = refused_delete the_limits bucket key

  pub removes : AsksOf (removal bucket key) (dispatch_at 0 the_round ∷ []) (dispatch_at 0 the_round) 0
  unfolding ends
  removes = (removal bucket key, 0, 1, refl, (refl, refl), refl, refl, (ends, refl, refl, refl))

  pub removal_is_plain : IsPlainRound the_round
  removal_is_plain = record { task = 0; of_task = refl; no_abort = delete_abort }

  refused_met : IsTaskMet bucket key IsRefusedTask
  refused_met =
      one_refused_met (removal bucket key) refl the_round removal_is_plain (one_bucket the_limits bucket key) (bare_is_faithful (bucket ∷ [])) ((refl, tt), tt) refl removes refl delete_create
      bucket key refl refl refl (is_refused the_limits bucket key)

pub refused_task_is_met : RefusedTaskIsMet
refused_task_is_met bucket key = refused_met bucket key
