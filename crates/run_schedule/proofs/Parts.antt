-- A whole run of one upload in two parts meets what the laws take.
use Rattle.std.proofs.Common.{rules, ◌≡◌, ◌∙◌, ◌==◌, ◌+◌, ◌++◌, ◌<◌, ◌≤◌, ℕ, zero, suc, Bool, true, false, List, [], ◌∷◌, Some, None, AllPairs, Contains, refl, sym, subst, ap, inl, inr, arith, slice_get, length, if◌then◌else◌}
use Rattle.std.proofs.lemmas.List.Sorted.{IsPermutation-refl}
use Rattle.std.specs.Prelude.{count_by, flat_map, not}
use Rattle.jobs.specs.Endings.{HaveNoSuccess, SeenCarried}
use Rattle.jobs.specs.Holders.{Holder}
use Rattle.jobs.specs.declared.ending.Ending.TheVariants as ending
use Rattle.jobs.specs.declared.what.What.{What}
use Rattle.manager_moves.specs.Examples.{shared}
use Rattle.manager_moves.specs.Laws.{IsRun}
use Rattle.manager_moves.specs.Runs.{Back, Called, Event, Events, Lined, Sent, Stopped, journal_of, share}
use Rattle.run_progress.specs.RunProgress.{HasMeans}
use Rattle.job_terms.specs.Buffers.{holds_buffer}
use Rattle.run_promise.specs.Carried.{IsCarried, IsWanting, WouldGoOn}
use Rattle.job_terms.specs.Attempts.{AreNoted, IsSaid, Numbered, SaysAll, in_lane, mark_of, numbered_from, talks_of}
use Rattle.job_terms.specs.Dispatches.{Attempt, Dispatched, last_of}
use Rattle.run_promise.specs.Schedule.{IsBefore, IsBeforeAny}
use Rattle.job_terms.specs.Jobs.{job_of}
use Rattle.s3_model.specs.Classes.{is_tried_again}
use Rattle.s3_model.specs.Replies.{IsSameClass}
use Rattle.s3_model.specs.Talks.{Began, Note, Talk}
use Rattle.s3_model.specs.declared.answers.Class.{Class}
use Rattle.s3_model.specs.declared.answers.Class.TheVariants as class
use Rattle.s3_model.specs.declared.answers.Reply.{Reply}
use Rattle.s3_model.specs.declared.answers.Reply.TheVariants as reply
use Rattle.s3_model.specs.declared.answers.Why.TheVariants as why
use Rattle.s3_model.specs.declared.bytes.Part.{Part}
use Rattle.s3_model.specs.declared.outcomes.Cause.{Cause}
use Rattle.s3_model.specs.declared.outcomes.Event.TheVariants as entry
use Rattle.s3_model.specs.declared.outcomes.JobId.{JobId}
use Rattle.s3_model.specs.declared.outcomes.Outcome.TheVariants as outcome
use Rattle.s3_model.specs.declared.outcomes.Reason.{Reason}
use Rattle.s3_model.specs.declared.requests.Ask.{Ask}
use Rattle.s3_model.specs.declared.requests.Ask.TheVariants as ask
use Rattle.s3_model.specs.declared.requests.Op.{Op}
use Rattle.s3_model.specs.declared.requests.Op.TheVariants as op
use Rattle.s3_model.specs.declared.tasks.Kind.TheVariants as kind
use Rattle.s3_model.specs.declared.tasks.Task.{Task}
use Rattle.s3_model.specs.declared.tries.Mark.{Mark}
use Rattle.s3_model.specs.declared.tries.Mark.TheVariants as mark
use Rattle.shared_lemmas.proofs.Clashes.{none_is_some, some_is}
use Rattle.shared_lemmas.proofs.Lists.{no_cons, tail_is}
use Rattle.shared_lemmas.proofs.Members.{Has, contains_of, has}
use Rattle.task_acts.specs.declared.acts.Act.TheVariants as act
use Rattle.task_acts.specs.declared.acts.FileCame.TheVariants as file
use Rattle.task_acts.specs.declared.work.Work.{Work}
use Rattle.task_acts.specs.Ends.{outcome_of}
use Rattle.task_acts.specs.Work.{IsWorkOf}
use Rattle.task_progress.specs.Progress.{HasPiece}
use Rattle.task_progress.proofs.Endings.{no, skipped}
use Rattle.task_progress.proofs.Progress.{all_has}
use Rattle.task_schedule.proofs.Failures.{all_pairs}
use Rattle.task_schedule.proofs.Places.{filled, same_place}
use Rattle.task_schedule.specs.Journals.{AreWorks, EndsAs, IsAsked, ShowOne, fails_otherwise, place_after}
use Rattle.task_schedule.specs.Witness.{no_talk}
use Rattle.run_schedule.proofs.Entries.{given_came}
use Rattle.run_schedule.specs.Parts.{PartsRunIsMet, PartsRunsAreMet, ShowsReply, complete, create, created, first, first_read, first_stored, id, etag, jobs, large_task, logs, made, notes, parts_run, reply_to, second, second_stored, setting, work}
use Rattle.run_schedule.specs.Runs.{IsJournaled}
use Rattle.run_schedule.specs.Witness.{no_text}

-- ---- its four jobs

each : (P : Dispatched → Type 0) → P create → P first → P second → P complete → (c : Dispatched) → Contains jobs c → P c
each P a b d e c known = by (has jobs c known)
  where
    by : Has jobs c → P c
    by (inl is) = subst P is a
    by (inr (inl is)) = subst P is b
    by (inr (inr (inl is))) = subst P is d
    by (inr (inr (inr (inl is)))) = subst P is e
    by (inr (inr (inr (inr none)))) = absurd none

-- of those in a row the earlier comes first
in_row : (R : Dispatched → Dispatched → Type 0) → R create first → R create second → R create complete → R first second → R first complete → R second complete → AllPairs R jobs
in_row R a b c d e f = all_pairs R jobs by
  where
    two : (x y u v : Dispatched) → Some x ≡ Some u → Some y ≡ Some v → R x y → R u v
    two x y u v p q r = subst (λ (z : Dispatched). R z v) (some_is x u p) (subst (λ (z : Dispatched). R x z) (some_is y v q) r)

    by : (i j : ℕ) (x y : Dispatched) → i < j → slice_get jobs i ≡ Some x → slice_get jobs j ≡ Some y → R x y
    by zero zero x y l p q = absurd (omega arith)
    by zero (suc zero) x y l p q = two create first x y p q a
    by zero (suc (suc zero)) x y l p q = two create second x y p q b
    by zero (suc (suc (suc zero))) x y l p q = two create complete x y p q c
    by zero (suc (suc (suc (suc j)))) x y l p q = absurd (none_is_some y q)
    by (suc zero) zero x y l p q = absurd (omega arith)
    by (suc zero) (suc zero) x y l p q = absurd (omega arith)
    by (suc zero) (suc (suc zero)) x y l p q = two first second x y p q d
    by (suc zero) (suc (suc (suc zero))) x y l p q = two first complete x y p q e
    by (suc zero) (suc (suc (suc (suc j)))) x y l p q = absurd (none_is_some y q)
    by (suc (suc zero)) zero x y l p q = absurd (omega arith)
    by (suc (suc zero)) (suc zero) x y l p q = absurd (omega arith)
    by (suc (suc zero)) (suc (suc zero)) x y l p q = absurd (omega arith)
    by (suc (suc zero)) (suc (suc (suc zero))) x y l p q = two second complete x y p q f
    by (suc (suc zero)) (suc (suc (suc (suc j)))) x y l p q = absurd (none_is_some y q)
    by (suc (suc (suc zero))) (suc (suc (suc (suc j)))) x y l p q = absurd (none_is_some y q)
    by (suc (suc (suc zero))) zero x y l p q = absurd (omega arith)
    by (suc (suc (suc zero))) (suc zero) x y l p q = absurd (omega arith)
    by (suc (suc (suc zero))) (suc (suc zero)) x y l p q = absurd (omega arith)
    by (suc (suc (suc zero))) (suc (suc (suc zero))) x y l p q = absurd (omega arith)
    by (suc (suc (suc (suc i)))) j x y l p q = absurd (none_is_some x p)

-- ---- lanes that have nothing

other_lane : (lane : ℕ) → (0 == suc lane) ≡ false
other_lane lane = grind arith

not_first : (lane : ℕ) → (suc lane == 0) ≡ false
not_first lane = grind arith

nothing : {X : Type 0} (given : List X) (lane : ℕ) → (if suc lane == 0 then given else []) ≡ []
nothing given lane = skipped (suc lane == 0) given [] (not_first lane)

beyond : (lane : ℕ) → 1 ≤ lane → (logs lane ≡ []) × (notes lane ≡ [])
beyond zero l = absurd (omega arith)
beyond (suc lane) l = (nothing _ lane, nothing _ lane)

no_jobs : (lane : ℕ) → in_lane (suc lane) jobs ≡ []
no_jobs lane = rw (other_lane lane) refl

nothing_noted : (attempts : List Numbered) (noted : List Note) → attempts ≡ [] → noted ≡ [] → AreNoted ShowsReply no_text [] 0 0 attempts noted
nothing_noted attempts noted e f = subst (λ (z : List Numbered). AreNoted ShowsReply no_text [] 0 0 z noted) (sym e)
    (subst (λ (z : List Note). AreNoted ShowsReply no_text [] 0 0 [] z) (sym f) (λ known. has [] Began known, inl refl))

-- ---- talks

show_self : (asked : Ask) → IsSameClass (class.Success (reply_to asked)) (class.Success (reply_to asked))
show_self (ask.Create bucket key content) = refl
show_self (ask.Part bucket key upload number) = refl
show_self (ask.Complete bucket key upload etags fresh) = refl
show_self asked = refl

show_one : ShowOne ShowsReply
show_one asked limit talk one same bytes body e f =
    subst (λ (x : Class). IsSameClass x same) (sym e) (subst (λ (y : Class). IsSameClass (class.Success (reply_to asked)) y) (sym f) (show_self asked))

success_memory : (said : Reply) → class.Success said ≡ class.Uncertain why.Memory → ⊥
success_memory said e = cc

said : (a : Numbered) → a.attempt.talk ≡ no_talk → IsSaid ShowsReply no_text [] 0 a 0
said a is = record {
  to_host = ap (λ (t : Talk). t.host) is;
  to_port = ap (λ (t : Talk). t.port) is;
  text = λ shown bytes shows. subst (λ (c : Class). SaysAll ShowsReply no_text [] 0 c a.attempt.talk.sent []) (sym shows) (ap (λ (t : Talk). t.sent) is);
  beginning = ([], ap (λ (t : Talk). t.sent ++ []) is);
}

marked : (c : Dispatched) (k : ℕ) (attempt : Attempt) → c.dispatch.attempts ≡ record { mark = mark.Success; talk = no_talk } ∷ [] → slice_get c.dispatch.attempts k ≡ Some attempt
    → (shown : Class) × (bytes : List ℕ) × ShowsReply c.ask c.limit attempt.talk shown bytes × (attempt.mark ≡ mark_of shown)
    × (shown ≡ class.Uncertain why.Memory → IsWanting ShowsReply no_text [] 0 setting c)
marked c k attempt one at = by k (ap (λ (ts : List Attempt). slice_get ts k) (sym one) ∙ at)
  where
    by : (k : ℕ) → slice_get (record { mark = mark.Success; talk = no_talk } ∷ []) k ≡ Some attempt → (shown : Class) × (bytes : List ℕ) × ShowsReply c.ask c.limit attempt.talk shown bytes
        × (attempt.mark ≡ mark_of shown) × (shown ≡ class.Uncertain why.Memory → IsWanting ShowsReply no_text [] 0 setting c)
    by zero e = (class.Success (reply_to c.ask), [], refl, ap (λ (t : Attempt). t.mark) (sym (some_is _ attempt e)), λ f. absurd (success_memory (reply_to c.ask) f))
    by (suc k) e = absurd (none_is_some attempt e)

-- ---- its work

piece : HasPiece work
piece = record { some = omega arith; one = λ e. no e }

is_work : IsWorkOf large_task setting.config setting.limits work
is_work = record {
  kind_is = refl;
  moves_is = refl;
  size_is = refl;
  small_is = refl;
  pieces = inr (omega arith, (4, record { doublings = 0; is_multiple = refl; fits = omega arith; first = λ k below. absurd (omega arith) }, refl, refl));
  attempts_are = refl;
  replaces = refl;
}

are_works : AreWorks setting (work ∷ [])
are_works = record { as_many = refl; each = at }
  where
    at : (n : ℕ) (w : Work) → slice_get (work ∷ []) n ≡ Some w → (task : Task) × (slice_get setting.tasks n ≡ Some task) × IsWorkOf task setting.config setting.limits w × HasPiece w
        × (task.kind ≡ kind.RemoveObject → task.moves ≡ false)
    at zero w e = (large_task, refl, subst (IsWorkOf large_task setting.config setting.limits) (some_is work w e) is_work, subst HasPiece (some_is work w e) piece, λ e. refl)
    at (suc n) w e = absurd (none_is_some w e)

none : HaveNoSuccess []
none = search rules

-- ---- the run

abbrev is_stop : Event → Bool
is_stop (Stopped reason) = true
is_stop e = false

sent_task : (n m k i lane l : ℕ) (o p : Op) → Sent n o k lane ≡ Sent m p i l → n ≡ m
sent_task n m k i lane l o p e = cc

sent_first : (n k lane m i l : ℕ) (o p : Op) (xs ys : Events) → Sent n o k lane ∷ xs ≡ Sent m p i l ∷ ys → n ≡ m
sent_first n k lane m i l o p xs ys e = cc

back_first : (l m : ℕ) (c d : SeenCarried) (xs ys : Events) → Back l c ∷ xs ≡ Back m d ∷ ys → c ≡ d
back_first l m c d xs ys e = cc

module _ (to_create to_first to_second to_complete : What) (cell : Holder) (part : Part) where
  abbrev events : Events
  events = parts_run to_create to_first to_second to_complete cell part

  abbrev after_create : Events
  after_create = created to_create to_first to_second to_complete cell part

  abbrev reading : Events
  reading = first_read to_create to_first to_second to_complete cell part

  abbrev one_stored : Events
  one_stored = first_stored to_create to_first to_second to_complete cell part

  abbrev both_stored : Events
  both_stored = second_stored to_create to_first to_second to_complete cell part

  is_run : IsRun (shared (work ∷ []) 1 1 2) events
  is_run = (
    refl,
    (
      (refl, (work, refl, (refl, refl, refl, (([], refl, none), tt, tt))), refl),
      (
        refl,
        (
          (refl, (work, refl, (refl, refl, refl, (([], refl, none), tt, tt))), refl),
          (
            refl,
            (
              (refl, (work, refl, (refl, refl, refl, (([], refl, none), tt, tt))), refl),
              (
                (refl, tt),
                (
                  refl,
                  (
                    (refl, tt),
                    ((refl, (work, refl, (refl, refl, refl, (([], refl, none), tt, tt))), refl), (refl, (refl, tt))),
                  ),
                ),
              ),
            ),
          ),
        ),
      ),
    ),
  )

  -- ---- its journal

  came_there : (place lane : ℕ) (job : JobId) (tries : List Mark) → slice_get (journal_of events) place ≡ Some (entry.Came job lane tries) → (c : Dispatched) × Contains jobs c × (c.dispatch.came_at ≡ Some place)
  came_there zero lane job tries e = absurd (given_came job _ lane _ tries (some_is _ _ e))
  came_there (suc zero) lane job tries e = (create, contains_of jobs create (inl refl), refl)
  came_there (suc (suc zero)) lane job tries e = absurd (given_came job _ lane _ tries (some_is _ _ e))
  came_there (suc (suc (suc zero))) lane job tries e = (first, contains_of jobs first (inr (inl refl)), refl)
  came_there (suc (suc (suc (suc zero)))) lane job tries e = absurd (given_came job _ lane _ tries (some_is _ _ e))
  came_there (suc (suc (suc (suc (suc zero))))) lane job tries e = (second, contains_of jobs second (inr (inr (inl refl))), refl)
  came_there (suc (suc (suc (suc (suc (suc zero)))))) lane job tries e = absurd (given_came job _ lane _ tries (some_is _ _ e))
  came_there (suc (suc (suc (suc (suc (suc (suc zero))))))) lane job tries e = (complete, contains_of jobs complete (inr (inr (inr (inl refl)))), refl)
  came_there (suc (suc (suc (suc (suc (suc (suc (suc place)))))))) lane job tries e = absurd (none_is_some (entry.Came job lane tries) e)

  one_attempt : (c : Dispatched) → Contains jobs c → c.dispatch.attempts ≡ record { mark = mark.Success; talk = no_talk } ∷ []
  one_attempt = each (λ (c : Dispatched). c.dispatch.attempts ≡ record { mark = mark.Success; talk = no_talk } ∷ []) refl refl refl refl

  abbrev InTurn : Dispatched → Dispatched → Type 0
  InTurn a b = (at : ℕ) → b.dispatch.came_at ≡ Some at → IsBefore a.dispatch.came_at at

  turns : (at : ℕ) (u : ℕ) (v : ℕ) → u < v → Some v ≡ Some at → u < at
  turns at u v l e = subst (λ (z : ℕ). u < z) (some_is v at e) l

  in_turn : (lane : ℕ) → AllPairs InTurn (in_lane lane jobs)
  in_turn zero = in_row InTurn (λ at e. turns at 1 3 (omega arith) e) (λ at e. turns at 1 5 (omega arith) e) (λ at e. turns at 1 7 (omega arith) e) (λ at e. turns at 3 5 (omega arith) e)
      (λ at e. turns at 3 7 (omega arith) e) (λ at e. turns at 5 7 (omega arith) e)
  in_turn (suc lane) = subst (λ (ds : List Dispatched). AllPairs InTurn ds) (sym (no_jobs lane)) (λ i j d before inside. let within : j < 0 = inside in absurd (omega arith))

  gained : (lane : ℕ) → logs lane ≡ flat_map talks_of (in_lane lane jobs)
  gained zero = refl
  gained (suc lane) = nothing _ lane ∙ sym (ap (λ (ds : List Dispatched). flat_map talks_of ds) (no_jobs lane))

  quiet_before : ¬ (Contains [] Began)
  quiet_before known = has [] Began known

  noted : (lane : ℕ) → (unused : ℕ) × (unused ≤ count_by (λ (c : Dispatched). setting.wanted_memory c.dispatch.job.task) (in_lane lane jobs))
      × AreNoted ShowsReply no_text [] 0 unused (flat_map (λ (c : Dispatched). numbered_from c 0 c.dispatch.attempts) (in_lane lane jobs)) (notes lane)
  noted zero = (
    0,
    omega arith,
    (
      [],
      0,
      _,
      [],
      refl,
      quiet_before,
      refl,
      inl refl,
      said _ refl,
      (
        [],
        0,
        _,
        [],
        refl,
        quiet_before,
        refl,
        inl refl,
        said _ refl,
        (
          [],
          0,
          _,
          [],
          refl,
          quiet_before,
          refl,
          inl refl,
          said _ refl,
          ([], 0, [], [], refl, quiet_before, refl, inl refl, said _ refl, (quiet_before, inl refl)),
        ),
      ),
    ),
  )
  noted (suc lane) = (0, omega arith, nothing_noted _ _ (ap (λ (ds : List Dispatched). flat_map (λ (c : Dispatched). numbered_from c 0 c.dispatch.attempts) ds) (no_jobs lane)) (nothing _ lane))

  -- no job is given again
  abbrev Apart : Dispatched → Dispatched → Type 0
  Apart a b = a.dispatch.job ≡ b.dispatch.job → (attempt : Attempt) → last_of a.dispatch.attempts ≡ Some attempt
      → WouldGoOn ShowsReply no_text [] 0 a attempt × (length a.dispatch.attempts < 3)

  create_part_op : op.Create ≡ op.Part → ⊥
  create_part_op e = cc

  create_complete_op : op.Create ≡ op.Complete → ⊥
  create_complete_op e = cc

  part_complete_op : op.Part ≡ op.Complete → ⊥
  part_complete_op e = cc

  create_part : (k m : ℕ) → job_of 0 op.Create k ≡ job_of 0 op.Part m → ⊥
  create_part k m e = create_part_op (ap (λ (j : JobId). j.op) e)

  create_complete : (k m : ℕ) → job_of 0 op.Create k ≡ job_of 0 op.Complete m → ⊥
  create_complete k m e = create_complete_op (ap (λ (j : JobId). j.op) e)

  part_complete : (k m : ℕ) → job_of 0 op.Part k ≡ job_of 0 op.Complete m → ⊥
  part_complete k m e = part_complete_op (ap (λ (j : JobId). j.op) e)

  parts_apart : job_of 0 op.Part 1 ≡ job_of 0 op.Part 2 → ⊥
  parts_apart e = let same = ap (λ (j : JobId). j.number) e in omega arith

  one_each : AllPairs Apart jobs
  one_each = in_row Apart (λ e. absurd (create_part 0 1 e)) (λ e. absurd (create_part 0 2 e)) (λ e. absurd (create_complete 0 0 e)) (λ e. absurd (parts_apart e)) (λ e. absurd (part_complete 1 0 e))
      (λ e. absurd (part_complete 2 0 e))

  none_more : (k : ℕ) → k + 1 < 1 → ⊥
  none_more k l = omega arith

  ends_there : (c : Dispatched) (attempt : Attempt) → WouldGoOn ShowsReply no_text [] 0 c attempt → ⊥
  ends_there c attempt goes = no (ap is_tried_again (sym goes.2) ∙ goes.3)

  carried : IsCarried ShowsReply no_text [] 0 setting (journal_of events) logs notes jobs jobs
  carried = record {
    shown = refl;
    comes = each (λ (d : Dispatched). (at : ℕ) × (tries : List Mark) × (d.dispatch.came_at ≡ Some at)
        × (slice_get (journal_of events) at ≡ Some (entry.Came d.dispatch.job d.dispatch.lane tries)) × (length tries ≡ length d.dispatch.attempts))
        (1, mark.Success ∷ [], refl, refl, refl) (3, mark.Success ∷ [], refl, refl, refl) (5, mark.Success ∷ [], refl, refl, refl) (7, mark.Success ∷ [], refl, refl, refl);
    lanes = each (λ (d : Dispatched). d.dispatch.lane < 1) (omega arith) (omega arith) (omega arith) (omega arith);
    unused_lanes = beyond;
    nothing_else = came_there;
    in_turn = in_turn;
    gained = gained;
    noted = noted;
    marks = λ c k attempt known at. inl (marked c k attempt (one_attempt c known) at);
    again = λ c k attempt known at more. absurd (none_more k (subst (λ (ts : List Attempt). k + 1 < length ts) (one_attempt c known) more));
    given_again = one_each;
    at_most = each (λ (d : Dispatched). d.dispatch.earlier + length d.dispatch.attempts ≤ 3) (omega arith) (omega arith) (omega arith) (omega arith);
    to_the_end = λ c attempt known last goes. absurd (ends_there c attempt goes);
    silent = λ c known none. absurd (no_cons _ [] (sym (one_attempt c known) ∙ none));
  }

  -- ---- its events

  -- what came back of a job, and what happened later than each
  abbrev seen : What → Op → ℕ → Reply → SeenCarried
  seen for of_op number answered = record {
    job = record {
      id = record { task = Some 0; op = of_op; number = number };
      what = for;
      part = if holds_buffer of_op then Some part else None;
      cell = Some cell;
      had = 0;
    };
    tries = mark.Success ∷ [];
    ending = ending.Gained answered;
  }

  abbrev at_the_end : Events → Events
  at_the_end earlier = Lined ∷ Back 0 (seen to_complete op.Complete 0 reply.Completed) ∷ earlier

  abbrev second_back : Events → Events
  second_back earlier = Back 0 (seen to_second op.Part 2 (reply.PartStored etag)) ∷ earlier

  abbrev first_back : Events → Events
  first_back earlier = Back 0 (seen to_first op.Part 1 (reply.PartStored etag)) ∷ Called 0 (act.Read 2) file.Fine ∷ earlier

  abbrev since_second : Events → Events
  since_second earlier = at_the_end (Sent 0 op.Complete 0 0 ∷ earlier)

  abbrev since_first : Events → Events
  since_first earlier = since_second (second_back (Sent 0 op.Part 2 0 ∷ earlier))

  abbrev since_create : Events → Events
  since_create earlier = since_first (first_back (Sent 0 op.Part 1 0 ∷ Called 0 (act.Read 1) file.Fine ∷ earlier))

  not_stopped : (reason : Reason) → Has events (Stopped reason) → ⊥
  not_stopped reason known = no (all_has (λ e. not (is_stop e)) events refl (Stopped reason) known)

  -- where a job was given
  abbrev IsAskedSo : Dispatched → Type 0
  IsAskedSo c = (n lane : ℕ) (task : Task) (w : Work) (later before : Events) → slice_get setting.tasks n ≡ Some task → slice_get (work ∷ []) n ≡ Some w
      → events ≡ later ++ Sent n c.dispatch.job.op c.dispatch.job.number lane ∷ before → c.dispatch.given_at ≡ place_after 0 before → IsAsked setting n task w before c

  asked_at : (c : Dispatched) (later then_ : Events) → events ≡ later ++ Sent 0 c.dispatch.job.op c.dispatch.job.number 0 ∷ then_ → c.dispatch.given_at ≡ filled then_
      → IsAsked setting 0 large_task work then_ c → IsAskedSo c
  asked_at c later then_ is place asked n lane task w other before is_task is_plan at given =
      let o = c.dispatch.job.op in
      let k = c.dispatch.job.number in
      let same = same_place later then_ other before (Sent 0 o k 0) (Sent n o k lane) (sym is ∙ at) tt tt (level place given) in
      subst (λ (z : Events). IsAsked setting n task w z c) (tail_is (Sent 0 o k 0) (Sent n o k lane) then_ before same)
      (by n (sent_first 0 k 0 n k lane o o then_ before same) is_task is_plan)
    where
      level : c.dispatch.given_at ≡ filled then_ → c.dispatch.given_at ≡ 0 + filled before → filled then_ ≡ filled before
      level e f = omega arith

      by : (m : ℕ) → 0 ≡ m → slice_get setting.tasks m ≡ Some task → slice_get (work ∷ []) m ≡ Some w → IsAsked setting m task w then_ c
      by zero e t p = subst (λ (x : Task). IsAsked setting 0 x w then_ c) (some_is large_task task t) (subst (λ (x : Work). IsAsked setting 0 large_task x then_ c) (some_is work w p) asked)
      by (suc m) e t p = absurd (none_is_some w p)

  -- and where it came back
  abbrev EndsSo : Dispatched → Type 0
  EndsSo c = (later before : Events) (lane : ℕ) (x : SeenCarried) → events ≡ later ++ Back lane x ∷ before → c.dispatch.came_at ≡ Some (place_after 0 before) → EndsAs ShowsReply c x.ending

  ends_at : (c : Dispatched) (later then_ : Events) (x : SeenCarried) → events ≡ later ++ Back 0 x ∷ then_ → c.dispatch.came_at ≡ Some (filled then_) → EndsAs ShowsReply c x.ending → EndsSo c
  ends_at c later then_ x is place ended other before lane y at came =
      subst (λ (z : SeenCarried). EndsAs ShowsReply c z.ending)
      (back_first 0 lane x y then_ before (same_place later then_ other before (Back 0 x) (Back lane y) (sym is ∙ at) tt tt (level (some_is (filled then_) (place_after 0 before) (sym place ∙ came))))) ended
    where
      level : filled then_ ≡ 0 + filled before → filled then_ ≡ filled before
      level e = omega arith

  abbrev one_talk : Attempt
  one_talk = record { mark = mark.Success; talk = no_talk }

  shown_create : EndsAs ShowsReply create (ending.Gained (reply.Created id))
  shown_create = record { attempt = one_talk; last = refl; bytes = []; shows = refl }

  shown_first : EndsAs ShowsReply first (ending.Gained (reply.PartStored etag))
  shown_first = record { attempt = one_talk; last = refl; bytes = []; shows = refl }

  shown_second : EndsAs ShowsReply second (ending.Gained (reply.PartStored etag))
  shown_second = record { attempt = one_talk; last = refl; bytes = []; shows = refl }

  shown_complete : EndsAs ShowsReply complete (ending.Gained reply.Completed)
  shown_complete = record { attempt = one_talk; last = refl; bytes = []; shows = refl }

  ends_so : (c : Dispatched) → Contains jobs c → EndsSo c
  ends_so = each EndsSo
      (ends_at create (since_create []) (Sent 0 op.Create 0 0 ∷ made) (seen to_create op.Create 0 (reply.Created id)) refl refl shown_create)
      (ends_at first (since_first []) (Called 0 (act.Read 2) file.Fine ∷ Sent 0 op.Part 1 0 ∷ reading) (seen to_first op.Part 1 (reply.PartStored etag)) refl refl shown_first)
      (ends_at second (since_second []) (Sent 0 op.Part 2 0 ∷ one_stored) (seen to_second op.Part 2 (reply.PartStored etag)) refl refl shown_second)
      (ends_at complete (Lined ∷ []) (Sent 0 op.Complete 0 0 ∷ both_stored) (seen to_complete op.Complete 0 reply.Completed) refl refl shown_complete)

  fails_not : (n : ℕ) (w : Work) (why : Cause) → slice_get (work ∷ []) n ≡ Some w → outcome_of w (share w n events) ≡ Some (outcome.Failed why) → fails_otherwise w (share w n events) ≡ true → false ≡ true
  fails_not zero w why e failed f = subst (λ (x : Work). fails_otherwise x (share x 0 events) ≡ true) (sym (some_is work w e)) f
  fails_not (suc n) w why e failed f = absurd (none_is_some w e)

  means : HasMeans (shared (work ∷ []) 1 1 2)
  means = record { lanes = omega arith; depth = omega arith; queue = omega arith; buffers = omega arith; pieces = λ n w e. (are_works.each n w e).3 }

  journaled : IsJournaled ShowsReply no_text [] 0 setting [] events logs notes jobs jobs
  journaled = record {
    of_planning = λ e known. absurd (has [] e known);
    carried = carried;
    shown = λ later before lane x c is known came. ends_so c known later before lane x is came;
  }

  pub parts_run_is_met : PartsRunIsMet to_create to_first to_second to_complete cell part
  parts_run_is_met step_create step_first step_second step_complete asks_create asks_first asks_second asks_complete = (
    show_one,
    record {
      means = means;
      run = is_run;
      end = refl;
      works = are_works;
      journaled = journaled;
      asked = λ c n lane task w later before known is_task is_plan at given. asked c known n lane task w later before is_task is_plan at given;
      is_coming = IsPermutation-refl jobs;
      in_order = in_row (λ (a b : Dispatched). IsBeforeAny a.dispatch.came_at b.dispatch.came_at) (omega arith) (omega arith) (omega arith) (omega arith) (omega arith) (omega arith);
      cancelled = λ reason known. absurd (not_stopped reason (has events (Stopped reason) known));
      cancelled_at = λ place e. absurd (none_is_some place e);
      files = fails_not;
    },
  )
    where
      asked : (c : Dispatched) → Contains jobs c → IsAskedSo c
      asked = each IsAskedSo
          (asked_at create (since_create (Back 0 (seen to_create op.Create 0 (reply.Created id)) ∷ [])) made refl refl (record { since = []; then = made; is = refl; ready = refl; for = to_create; step = step_create; asks = asks_create; body = refl; size = refl; limit = refl }))
          (asked_at first (since_first (first_back [])) reading refl refl (record { since = []; then = reading; is = refl; ready = refl; for = to_first; step = step_first; asks = asks_first; body = refl; size = refl; limit = refl }))
          (asked_at second (since_second (second_back [])) one_stored refl refl (record { since = []; then = one_stored; is = refl; ready = refl; for = to_second; step = step_second; asks = asks_second; body = refl; size = refl; limit = refl }))
          (asked_at complete (at_the_end []) both_stored refl refl
          (record { since = []; then = both_stored; is = refl; ready = refl; for = to_complete; step = step_complete; asks = asks_complete; body = refl; size = refl; limit = refl }))

pub parts_runs_are_met : PartsRunsAreMet
parts_runs_are_met to_create to_first to_second to_complete cell part = parts_run_is_met to_create to_first to_second to_complete cell part
