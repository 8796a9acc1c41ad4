-- A run of a download in two ranges over two lanes meets what the laws take.
use Rattle.std.proofs.Common.{rules, ◌≡◌, ◌∙◌, ◌==◌, ◌+◌, ◌++◌, ◌<◌, ◌≤◌, ℕ, zero, suc, true, false, List, [], ◌∷◌, Some, None, AllPairs, Contains, refl, sym, subst, ap, inl, inr, arith, slice_get, length, if◌then◌else◌}
use Rattle.std.proofs.lemmas.List.Elements.{All-from_recursion}
use Rattle.std.proofs.lemmas.List.Kept.{AllPairs-cons}
use Rattle.std.specs.List.{AllByRecursion}
use Rattle.std.specs.Prelude.{IsSome}
use Rattle.answer_classes.specs.Showing.{Shows}
use Rattle.attempts.specs.Attempts.{IsOneTalk, SignedRequest, text_of}
use Rattle.jobs.specs.Endings.{HaveNoSuccess}
use Rattle.jobs.specs.Holders.{Holder}
use Rattle.jobs.specs.declared.ending.Ending.TheVariants as ending
use Rattle.jobs.specs.declared.what.What.{What}
use Rattle.lane_jobs.specs.Lanes.{IsMade, noted_before}
use Rattle.lane_laws.specs.Runs.{Giving, HaveCauses, IsCarriedJob, IsCutShort, IsJournal, RanOut, given_to}
use Rattle.manager_moves.specs.Examples.{shared}
use Rattle.manager_moves.specs.Laws.{IsRun}
use Rattle.manager_moves.specs.Runs.{journal_of}
use Rattle.run_promise.specs.Carried.{MayStop}
use Rattle.job_terms.specs.Attempts.{in_lane}
use Rattle.job_terms.specs.Dispatches.{Dispatched}
use Rattle.run_promise.specs.Schedule.{IsBefore}
use Rattle.job_terms.specs.Jobs.{job_of}
use Rattle.run_schedule.proofs.Entries.{given_came}
use Rattle.s3_model.specs.Classes.{is_tried_again}
use Rattle.s3_model.specs.Talks.{Began, Moment, Note, Talk}
use Rattle.s3_model.specs.declared.answers.Class.{Class}
use Rattle.s3_model.specs.declared.answers.Why.TheVariants as why
use Rattle.s3_model.specs.declared.bytes.Part.{Part}
use Rattle.s3_model.specs.declared.outcomes.Event.TheVariants as entry
use Rattle.s3_model.specs.declared.outcomes.JobId.{JobId}
use Rattle.s3_model.specs.declared.outcomes.Reason.TheVariants as reason_of
use Rattle.s3_model.specs.declared.places.Endpoint.{Endpoint}
use Rattle.s3_model.specs.declared.requests.Ask.{Ask}
use Rattle.s3_model.specs.declared.requests.Op.TheVariants as op
use Rattle.s3_model.specs.declared.settings.Keys.{Keys}
use Rattle.s3_model.specs.declared.tries.Mark.{Mark}
use Rattle.s3_model.specs.declared.tries.Mark.TheVariants as mark
use Rattle.shared_lemmas.proofs.Clashes.{false_true, none_is_some, some_is}
use Rattle.shared_lemmas.proofs.Members.{contains_of, has}
use Rattle.task_progress.proofs.Endings.{skipped}
use Rattle.lane_journals.specs.Journals.{AreOfLanes, IsOfLanes}
use Rattle.lane_journals.specs.Ranges.{RangesRunsAreOfLanes, failed_talk, first, first_again, first_ask, giving, givings, jobs, logs, lost, notes, ranges_run, second, second_ask, setting, two_lanes, work}
use Rattle.lane_journals.proofs.Witness.{for_each, handed_back, none_carried}

-- ---- lists that are written out

none_apart : {X : Type 0} (R : X → X → Type 0) → AllPairs R []
none_apart R i j d before inside = let within : j < 0 = inside in absurd (omega arith)

apart : {X : Type 0} (R : X → X → Type 0) (x : X) (xs : List X) → AllByRecursion (R x) xs → AllPairs R xs
    → AllPairs R (x ∷ xs)
apart R x xs all rest = AllPairs-cons R x xs (All-from_recursion (R x) xs all) rest

-- ---- a third lane

not_third : (n lane : ℕ) → n < 2 → (n == suc (suc lane)) ≡ false
not_third n lane l = grind arith

no_third : {A : Type 0} (xs ys : List A) (lane : ℕ) → two_lanes xs ys (suc (suc lane)) ≡ []
no_third xs ys lane = skipped (suc (suc lane) == 0) xs (if suc (suc lane) == 1 then ys else []) (grind arith)
    ∙ skipped (suc (suc lane) == 1) ys [] (grind arith)

-- ---- the run

get_abort : op.Get ≡ op.Abort → ⊥
get_abort e = cc

no_success : HaveNoSuccess []
no_success = search rules

one_without : HaveNoSuccess (mark.Uncertain ∷ [])
one_without = search rules

is_run : (for : What) (cell : Holder) (part : Part) → IsRun (shared (work ∷ []) 2 1 2) (ranges_run for cell part)
is_run for cell part = (
  refl,
  (
    (refl, tt),
    (
      (refl, (work, refl, (refl, refl, refl, ([], refl, no_success))), refl),
      (
        (refl, (work, refl, (refl, refl, refl, (mark.Uncertain ∷ [], refl, one_without))), refl),
        (
          refl,
          (
            (refl, (work, refl, (refl, refl, refl, ([], refl, no_success))), refl),
            (refl, (refl, ((refl, tt), (refl, tt)))),
          ),
        ),
      ),
    ),
  ),
)

-- ---- its talks

module _ (endpoint : Endpoint) (keys : Keys) where
  abbrev talk : Talk
  talk = failed_talk endpoint

  -- what is noted by the attempt of that number
  abbrev tried : ℕ → List Note
  tried number = noted_before number ++ Moment 0 ∷ Began ∷ []

  abbrev request : Ask → SignedRequest
  request asked = record { endpoint = endpoint; keys = keys; asked = asked; body = []; limit = Some 4 }

  shows : (asked : Ask) (limit : ℕ) → Shows asked limit talk lost []
  shows asked limit =
      inr (
        why.WireFailed,
        record {
          of_talk = tt;
          breaks = inl (refl, refl);
          failed = (λ e. refl, λ e. refl);
        },
        refl,
        refl,
      )

  one_talk : (asked : Ask) → IsOneTalk (request asked) lost [] (talk ∷ []) (Moment 0 ∷ Began ∷ [])
  one_talk asked = record {
    talk = talk;
    moment = 0;
    one_talk = refl;
    noted = refl;
    to_host = refl;
    to_port = refl;
    beginning = (text_of endpoint keys asked [] 0, refl);
    whole = λ not_failed. absurd (not_failed refl);
    has_class = inr ([], shows asked 4, tt);
  }

  made : (asked : Ask) (number : ℕ) → IsMade (request asked) number lost [] (talk ∷ []) (tried number)
  made asked number = record { own = _; paused = refl; made = one_talk asked }

  none_before : (k : ℕ) (shown : Class) → slice_get (lost ∷ []) k ≡ Some shown → k + 1 < 1
      → is_tried_again shown ≡ true
  none_before k shown at more = absurd (omega arith)

  first_before : (k : ℕ) (shown : Class) → slice_get (lost ∷ lost ∷ []) k ≡ Some shown → k + 1 < 2
      → is_tried_again shown ≡ true
  first_before zero shown at more = ap is_tried_again (sym (some_is lost shown at))
  first_before (suc k) shown at more = absurd (omega arith)

  -- ---- its jobs

  abbrev cut : Giving
  cut = giving endpoint (first endpoint) (lost ∷ []) (Some reason_of.TaskFailed)

  abbrev failed : Giving
  failed = giving endpoint (second endpoint) (lost ∷ lost ∷ []) None

  abbrev failed_again : Giving
  failed_again = giving endpoint (first_again endpoint) (lost ∷ []) None

  is_cut : IsCarriedJob endpoint keys 2 cut (talk ∷ []) (tried 1)
  is_cut = record {
    limit = Some 4;
    place = [];
    limit_is = refl;
    attempts_are = refl;
    at_most = omega arith;
    again = none_before;
    ends = inl (record { shown = lost; status = 0; last = refl; ending_is = refl; is_through = inr (inr refl) });
    shared = (_, [], refl, (_, [], _, [], refl, refl, made first_ask 1, (refl, refl)), refl, tt);
  }

  is_failed : IsCarriedJob endpoint keys 2 failed (talk ∷ talk ∷ []) (tried 1 ++ tried 2)
  is_failed = record {
    limit = Some 4;
    place = [];
    limit_is = refl;
    attempts_are = refl;
    at_most = omega arith;
    again = first_before;
    ends = inl (record { shown = lost; status = 0; last = refl; ending_is = refl; is_through = inr (inl refl) });
    shared = (
      _,
      [],
      refl,
      (
        talk ∷ [],
        talk ∷ [],
        _,
        _,
        refl,
        refl,
        made second_ask 1,
        (_, [], _, [], refl, refl, made second_ask 2, (refl, refl)),
      ),
      refl,
      tt,
    );
  }

  is_failed_again : IsCarriedJob endpoint keys 2 failed_again (talk ∷ []) (tried 2)
  is_failed_again = record {
    limit = Some 4;
    place = [];
    limit_is = refl;
    attempts_are = refl;
    at_most = omega arith;
    again = none_before;
    ends = inl (record { shown = lost; status = 0; last = refl; ending_is = refl; is_through = inr (inl refl) });
    shared = (_, [], refl, (_, [], _, [], refl, refl, made first_ask 2, (refl, refl)), refl, tt);
  }

  of_lanes : AreOfLanes endpoint keys 2 (givings endpoint) (logs endpoint) notes
  of_lanes zero = (
    talk ∷ [],
    talk ∷ [],
    tried 1,
    tried 2,
    refl,
    refl,
    is_cut,
    (talk ∷ [], [], tried 2, [], refl, refl, is_failed_again, (refl, refl)),
  )
  of_lanes (suc zero) = (talk ∷ talk ∷ [], [], tried 1 ++ tried 2, [], refl, refl, is_failed, (refl, refl))
  of_lanes (suc (suc lane)) =
      none_carried endpoint keys 2 _ _ _ (none_given lane) (no_third _ _ lane) (no_third _ _ lane)
    where
      none_given : (lane : ℕ) → given_to (suc (suc lane)) (givings endpoint) ≡ []
      none_given lane = rw (not_third 0 lane (omega arith), not_third 1 lane (omega arith)) refl

  -- ---- its causes

  each : (P : Giving → Type 0) → P cut → P failed → P failed_again → (g : Giving) → Contains (givings endpoint) g → P g
  each P a b c g known = for_each P (givings endpoint) (a, (b, (c, tt))) g known

  ran_out : RanOut (ending.Uncertain why.WireFailed) → ⊥
  ran_out (inl e) = cc
  ran_out (inr e) = cc

  other_job : job_of 0 op.Get 1 ≡ job_of 0 op.Get 2 → ⊥
  other_job e = let same = ap (λ (j : JobId). j.number) e in omega arith

  may_stop : MayStop Shows (text_of endpoint keys) endpoint.host endpoint.port setting (jobs endpoint) (first endpoint)
  may_stop = (
    refl,
    get_abort,
    inl (
      [],
      second endpoint ∷ first_again endpoint ∷ [],
      refl,
      inl (
        first_again endpoint,
        contains_of (second endpoint ∷ first_again endpoint ∷ []) (first_again endpoint)
            (inr (inl refl)),
        refl,
      ),
    ),
  )

  abbrev GivenAgain : Dispatched → Dispatched → Type 0
  GivenAgain a b = a.dispatch.job ≡ b.dispatch.job → (g : Giving) × Contains (givings endpoint) g × (g.of ≡ a)
      × IsCutShort setting g

  causes : HaveCauses endpoint keys setting (givings endpoint) (jobs endpoint)
  causes = record {
    left = each (λ (g : Giving). g.of.dispatch.earlier < 2) (omega arith) (omega arith) (omega arith);
    wants = each (λ (g : Giving). RanOut g.ended → false ≡ true) (λ out. absurd (ran_out out))
        (λ out. absurd (ran_out out)) (λ out. absurd (ran_out out));
    stops = each (λ (g : Giving). IsSome g.gave → IsCutShort setting g
        → MayStop Shows (text_of endpoint keys) endpoint.host endpoint.port setting (jobs endpoint) g.of)
        (λ gave short. may_stop) (λ gave short. absurd (false_true gave)) (λ gave short. absurd (false_true gave));
    given_again = apart GivenAgain (first endpoint) (second endpoint ∷ first_again endpoint ∷ []) (
      (λ e. absurd (other_job e)),
      (
        (λ e. (
          cut,
          contains_of (givings endpoint) cut (inl refl),
          refl,
          (refl, omega arith),
        )),
        tt,
      ),
    )
        (apart GivenAgain (second endpoint) (first_again endpoint ∷ []) ((λ e. absurd (other_job (sym e))), tt)
        (apart GivenAgain (first_again endpoint) [] tt (none_apart GivenAgain)));
  }

  -- ---- its journal

  each_of : (P : Dispatched → Type 0) → P (first endpoint) → P (second endpoint) → P (first_again endpoint)
      → (c : Dispatched) → Contains (jobs endpoint) c → P c
  each_of P a b c d known = for_each P (jobs endpoint) (a, (b, (c, tt))) d known

  unused : (lane : ℕ) → 2 ≤ lane → (logs endpoint lane ≡ []) × (notes lane ≡ [])
  unused zero l = absurd (omega arith)
  unused (suc zero) l = absurd (omega arith)
  unused (suc (suc lane)) l = (no_third _ _ lane, no_third _ _ lane)

  abbrev InTurn : Dispatched → Dispatched → Type 0
  InTurn a b = (at : ℕ) → b.dispatch.came_at ≡ Some at → IsBefore a.dispatch.came_at at

  none_in : (lane : ℕ) → in_lane (suc (suc lane)) (jobs endpoint) ≡ []
  none_in lane = rw (not_third 0 lane (omega arith), not_third 1 lane (omega arith)) refl

  in_turn : (lane : ℕ) → AllPairs InTurn (in_lane lane (jobs endpoint))
  in_turn zero = apart InTurn (first endpoint) (first_again endpoint ∷ [])
      ((λ at e. let is = some_is 5 at e in omega arith), tt)
      (apart InTurn (first_again endpoint) [] tt (none_apart InTurn))
  in_turn (suc zero) = apart InTurn (second endpoint) [] tt (none_apart InTurn)
  in_turn (suc (suc lane)) = subst (λ (ds : List Dispatched). AllPairs InTurn ds) (sym (none_in lane))
      (none_apart InTurn)

  module _ (for : What) (cell : Holder) (part : Part) where
    came_there : (place lane : ℕ) (job : JobId) (tries : List Mark)
        → slice_get (journal_of (ranges_run for cell part)) place ≡ Some (entry.Came job lane tries)
        → (c : Dispatched) × Contains (jobs endpoint) c × (c.dispatch.came_at ≡ Some place)
    came_there zero lane job tries e = absurd (given_came job _ lane _ tries (some_is _ _ e))
    came_there (suc zero) lane job tries e = absurd (given_came job _ lane _ tries (some_is _ _ e))
    came_there (suc (suc zero)) lane job tries e =
        (first endpoint, contains_of (jobs endpoint) (first endpoint) (inl refl), refl)
    came_there (suc (suc (suc zero))) lane job tries e = absurd (given_came job _ lane _ tries (some_is _ _ e))
    came_there (suc (suc (suc (suc zero)))) lane job tries e =
        (second endpoint, contains_of (jobs endpoint) (second endpoint) (inr (inl refl)), refl)
    came_there (suc (suc (suc (suc (suc zero))))) lane job tries e =
        (first_again endpoint, contains_of (jobs endpoint) (first_again endpoint) (inr (inr (inl refl))), refl)
    came_there (suc (suc (suc (suc (suc (suc place)))))) lane job tries e =
        absurd (none_is_some (entry.Came job lane tries) e)

    journal : IsJournal setting (journal_of (ranges_run for cell part)) (logs endpoint) notes (jobs endpoint)
    journal = record {
      shown = refl;
      comes = each_of (λ (c : Dispatched). (at : ℕ) × (tries : List Mark) × (c.dispatch.came_at ≡ Some at)
          × (slice_get (journal_of (ranges_run for cell part)) at
          ≡ Some (entry.Came c.dispatch.job c.dispatch.lane tries))
          × (length tries ≡ length c.dispatch.attempts))
          (2, mark.Uncertain ∷ [], refl, refl, refl) (4, mark.Uncertain ∷ mark.Uncertain ∷ [], refl, refl, refl)
          (5, mark.Uncertain ∷ [], refl, refl, refl);
      lanes = each_of (λ (c : Dispatched). c.dispatch.lane < 2) (omega arith) (omega arith) (omega arith);
      unused_lanes = unused;
      nothing_else = came_there;
      in_turn = in_turn;
    }

    pub is_of_lanes : IsOfLanes endpoint keys setting [] (ranges_run for cell part) (logs endpoint) notes
        (givings endpoint) (jobs endpoint)
    is_of_lanes = record {
      of_planning = λ e known. absurd (has [] e known);
      journal = journal;
      lanes = of_lanes;
      causes = causes;
      handed = handed_back 0 (ending.Uncertain why.WireFailed) (ranges_run for cell part) (givings endpoint)
          (tt, (tt, (refl, (refl, (tt, (refl, (tt, (tt, (tt, (tt, tt)))))))))) (refl, (refl, (refl, tt)));
    }

pub ranges_runs_are_of_lanes : RangesRunsAreOfLanes
ranges_runs_are_of_lanes for cell part =
    (is_run for cell part, λ endpoint keys. is_of_lanes endpoint keys for cell part)
