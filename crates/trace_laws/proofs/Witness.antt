-- A trace over two lanes meets what the laws take, and its neighbours do not.
use Rattle.std.proofs.Common.{◌≡◌, ◌∙◌, ◌+◌, ◌<◌, ◌≤◌, ◌++◌, ℕ, zero, suc, true, List, [], ◌∷◌, Option, Some, None, refl, sym, subst, ap, inl, inr, arith, slice_get}
use Rattle.std.specs.Prelude.{Contains}
use Rattle.answer_classes.specs.Showing.{Shows}
use Rattle.attempts.specs.Attempts.{IsOneTalk, SignedRequest, text_of}
use Rattle.attempts.specs.Payloads.{body_of}
use Rattle.bounded_executor.specs.Exchange.{Exchange}
use Rattle.job_terms.specs.Jobs.{job_of}
use Rattle.jobs.specs.Endings.{SeenCarried}
use Rattle.jobs.specs.Jobs.{IsAskOf, SeenJob}
use Rattle.jobs.specs.declared.what.What.{What}
use Rattle.lane_jobs.specs.Lanes.{IsMade, SeenLane, noted_before}
use Rattle.lane_journals.specs.Ranges as ranges
use Rattle.lane_journals.specs.Ranges.{failed_talk}
use Rattle.run_traces.proofs.Exchanging.{exchanges_begin, exchanges_gave, exchanges_took}
use Rattle.run_traces.proofs.Pending.{slice_get_drop}
use Rattle.run_traces.proofs.Splits.{given_at}
use Rattle.run_traces.proofs.Steps.{given_in, taken_count}
use Rattle.run_traces.specs.Exchanges.{AreExchangesOf}
use Rattle.run_traces.specs.Traces.{Gave, IsRunTrace, RunStep, RunTrace, Took, pending_in}
use Rattle.s3_model.specs.Classes.{is_tried_again}
use Rattle.s3_model.specs.Talks.{Began, Moment, Note, Talk, WireLog}
use Rattle.s3_model.specs.declared.answers.Class.{Class}
use Rattle.s3_model.specs.declared.answers.Why.TheVariants as why
use Rattle.s3_model.specs.declared.outcomes.JobId.{JobId}
use Rattle.s3_model.specs.declared.places.Endpoint.{Endpoint}
use Rattle.s3_model.specs.declared.requests.Ask.{Ask}
use Rattle.s3_model.specs.declared.requests.Ask.TheVariants as ask
use Rattle.s3_model.specs.declared.requests.Op.TheVariants as op
use Rattle.s3_model.specs.declared.settings.Keys.{Keys}
use Rattle.shared_lemmas.proofs.Clashes.{none_is_some, some_is}
use Rattle.shared_lemmas.proofs.Members.{Has, has, has_middle}
use Rattle.trace_laws.proofs.Own.{none_is_stranger}
use Rattle.trace_laws.specs.Joined.{CarriesJob, HasGained, IsJoined}
use Rattle.trace_laws.specs.Witness.{NoneAreExchanged, NoneIsGivenTwice, TwoLanesAreMet, afters, befores, carrier, exchanged, lane_with, logs, notes, question, question_lost, removal, removal_again, removal_lost, removal_stopped, tried_again, tried_once, two_lanes}

-- ---- what is pending

gave_there : (t : RunTrace) (lane place : ℕ) (job : SeenJob) → slice_get (pending_in lane t) place ≡ Some job → Has t (Gave lane job)
gave_there t lane place job e =
    let at = given_at lane (taken_count lane t + place) job t (sym (slice_get_drop (taken_count lane t) (given_in lane t) place) ∙ e) in
    subst (λ (s : RunTrace). Has s (Gave lane job)) (sym at.is) (has_middle at.later (Gave lane job) at.before)

gave_lane : (lane other : ℕ) (a b : SeenJob) → ◌≡◌ {A = RunStep} (Gave lane a) (Gave other b) → lane ≡ other
gave_lane lane other a b e = cc

gave_job : (lane other : ℕ) (a b : SeenJob) → ◌≡◌ {A = RunStep} (Gave lane a) (Gave other b) → a ≡ b
gave_job lane other a b e = cc

took_gave : (lane other : ℕ) (c : SeenCarried) (b : SeenJob) → ◌≡◌ {A = RunStep} (Took lane c) (Gave other b) → ⊥
took_gave lane other c b e = cc

task_is : (id other : JobId) → id ≡ other → id.task ≡ other.task
task_is id other e = ap (λ (i : JobId). i.task) e

none_is_zero : ◌≡◌ {A = Option ℕ} None (Some 0) → ⊥
none_is_zero e = cc

module _ (for : What) (cell : ℕ) where
  abbrev first : RunTrace
  first = Gave 0 question ∷ []

  abbrev stopped : RunTrace
  stopped = Took 1 (removal_stopped for cell) ∷ Gave 1 (removal for cell) ∷ first

  no_question : (job : SeenJob) → question ≡ job → job.id ≡ job_of 0 op.Delete 0 → ⊥
  no_question job e is = none_is_zero (task_is question.id (job_of 0 op.Delete 0) (ap (λ (j : SeenJob). j.id) e ∙ is))

  apart_first : (lane place : ℕ) (job : SeenJob) → slice_get (pending_in lane first) place ≡ Some job → job.id ≡ job_of 0 op.Delete 0 → ⊥
  apart_first lane place job e is = elim (gave_there first lane place job e) [
    | inl same ↦ no_question job (gave_job 0 lane question job same) is
    | inr none ↦ none
  ]

  none_in_second : (place : ℕ) (job : SeenJob) → slice_get (pending_in 1 stopped) place ≡ Some job → ⊥
  none_in_second place job e = none_is_some job e

  apart_stopped : (lane place : ℕ) (job : SeenJob) → slice_get (pending_in lane stopped) place ≡ Some job → job.id ≡ job_of 0 op.Delete 0 → ⊥
  apart_stopped lane place job e is = elim (gave_there stopped lane place job e) [
    | inl took ↦ took_gave 1 lane (removal_stopped for cell) job took
    | inr others ↦ elim others [
      | inl same ↦ none_in_second place job (subst (λ (l : ℕ). slice_get (pending_in l stopped) place ≡ Some job) (sym (gave_lane 1 lane (removal for cell) job same)) e)
      | inr more ↦ elim more [ inl same ↦ no_question job (gave_job 0 lane question job same) is | inr none ↦ none ]
    ]
  ]

  is_trace : IsRunTrace (two_lanes for cell)
  is_trace = (
    omega arith,
    (
      omega arith,
      (
        (apart_stopped, refl),
        (
          omega arith,
          ((apart_first, refl), (((λ lane place job e is. none_is_some job e), refl), tt)),
        ),
      ),
    ),
  )

-- ---- what is exchanged

abbrev exchange : List SeenJob → List SeenCarried → Exchange SeenJob SeenCarried
exchange given taken = record { given = given; taken = taken }

module _ (for : What) (cell : ℕ) where
  abbrev second_lane : Exchange SeenJob SeenCarried
  second_lane = exchange (removal for cell ∷ []) (removal_stopped for cell ∷ [])

  abbrev both : List SeenJob
  both = question ∷ removal_again for cell ∷ []

  asked_first : AreExchangesOf (first for cell) (exchange (question ∷ []) [] ∷ exchange [] [] ∷ [])
  asked_first = exchanges_gave [] (exchange [] [] ∷ exchange [] [] ∷ []) 0 question (omega arith) (exchanges_begin 2)

  asked_both : AreExchangesOf (Gave 1 (removal for cell) ∷ first for cell) (exchange (question ∷ []) [] ∷ exchange (removal for cell ∷ []) [] ∷ [])
  asked_both = exchanges_gave (first for cell) (exchange (question ∷ []) [] ∷ exchange [] [] ∷ []) 1 (removal for cell) (omega arith) asked_first

  one_stopped : AreExchangesOf (stopped for cell) (exchange (question ∷ []) [] ∷ second_lane ∷ [])
  one_stopped = exchanges_took (Gave 1 (removal for cell) ∷ first for cell) (exchange (question ∷ []) [] ∷ exchange (removal for cell ∷ []) [] ∷ []) 1 (removal_stopped for cell) (omega arith) asked_both

  given_again : AreExchangesOf (Gave 0 (removal_again for cell) ∷ stopped for cell) (exchange both [] ∷ second_lane ∷ [])
  given_again = exchanges_gave (stopped for cell) (exchange (question ∷ []) [] ∷ second_lane ∷ []) 0 (removal_again for cell) (omega arith) one_stopped

  one_back : AreExchangesOf (Took 0 question_lost ∷ Gave 0 (removal_again for cell) ∷ stopped for cell) (exchange both (question_lost ∷ []) ∷ second_lane ∷ [])
  one_back = exchanges_took (Gave 0 (removal_again for cell) ∷ stopped for cell) (exchange both [] ∷ second_lane ∷ []) 0 question_lost (omega arith) given_again

  are_exchanged : AreExchangesOf (two_lanes for cell) (exchange both (question_lost ∷ removal_lost for cell ∷ []) ∷ second_lane ∷ [])
  are_exchanged = exchanges_took (Took 0 question_lost ∷ Gave 0 (removal_again for cell) ∷ stopped for cell) (exchange both (question_lost ∷ []) ∷ second_lane ∷ []) 0 (removal_lost for cell) (omega arith) one_back

-- ---- one attempt that is lost

module _ (endpoint : Endpoint) (keys : Keys) where
  abbrev talk : Talk
  talk = failed_talk endpoint

  abbrev request : Ask → SignedRequest
  request asked = record { endpoint = endpoint; keys = keys; asked = asked; body = body_of asked []; limit = None }

  shows : (asked : Ask) (limit : ℕ) → Shows asked limit talk ranges.lost []
  shows asked limit =
      inr (
        why.WireFailed,
        record {
          of_talk = tt;
          breaks = inl (refl, refl);
          failed = (λ e. refl, λ e. refl);
        },
        refl,
        refl,
      )

  one_talk : (asked : Ask) → IsOneTalk (request asked) ranges.lost [] (talk ∷ []) (Moment 0 ∷ Began ∷ [])
  one_talk asked = record {
    talk = talk;
    moment = 0;
    one_talk = refl;
    noted = refl;
    to_host = refl;
    to_port = refl;
    beginning = (text_of endpoint keys asked (body_of asked []) 0, refl);
    whole = λ not_failed. absurd (not_failed refl);
    has_class = inr ([], shows asked 8_388_608, tt);
  }

  made : (asked : Ask) (number : ℕ) → IsMade (request asked) number ranges.lost [] (talk ∷ []) (noted_before number ++ Moment 0 ∷ Began ∷ [])
  made asked number = record { own = _; paused = refl; made = one_talk asked }

  none_before : (k : ℕ) (shown : Class) → slice_get (ranges.lost ∷ []) k ≡ Some shown → k + 1 < 1 → is_tried_again shown ≡ true
  none_before k shown at more = absurd (omega arith)

  first_before : (k : ℕ) (shown : Class) → slice_get (ranges.lost ∷ ranges.lost ∷ []) k ≡ Some shown → k + 1 < 2 → is_tried_again shown ≡ true
  first_before zero shown at more = ap is_tried_again (sym (some_is ranges.lost shown at))
  first_before (suc k) shown at more = absurd (omega arith)

  abbrev Seen : Option WireLog → Option WireLog
  Seen wire = wire

  abbrev with_log : List Talk → List Note → SeenLane (Option WireLog)
  with_log talks noted = lane_with endpoint keys talks noted

  -- ---- the question, tried twice

  asked_question : CarriesJob Seen (with_log [] []) question question_lost (with_log (talk ∷ talk ∷ []) (tried_once ++ tried_again))
  asked_question = record {
    carried = record {
      asked = ask.Buckets;
      place = [];
      asks = (tt, refl, refl);
      placed = tt;
      carries = record {
        classes = ranges.lost ∷ ranges.lost ∷ [];
        marks = refl;
        at_most = omega arith;
        again = first_before;
        ends = inl (record { shown = ranges.lost; status = 0; last = refl; ending_is = refl; is_through = inr (inl refl) });
        gained = tt;
        shared = (
          talk ∷ talk ∷ [],
          tried_once ++ tried_again,
          refl,
          refl,
          (
            _,
            [],
            refl,
            (talk ∷ [], talk ∷ [], _, _, refl, refl, made ask.Buckets 1, (_, [], _, [], refl, refl, made ask.Buckets 2, (refl, refl))),
            refl,
            tt,
          ),
        );
      };
    };
    same = record { id = refl; what = refl; part = refl; cell = tt; had = refl };
    carrier = record { endpoint = refl; keys = refl; attempts = refl };
  }

  -- ---- the removal, stopped and tried again

  module _ (for : What) (cell : ℕ) (asks : IsAskOf (job_of 0 op.Delete 0) for (ask.Delete [] [])) where
    abbrev removed : Ask
    removed = ask.Delete [] []

    asked_removal : CarriesJob Seen (with_log [] []) (removal for cell) (removal_stopped for cell) (with_log (talk ∷ []) tried_once)
    asked_removal = record {
      carried = record {
        asked = removed;
        place = [];
        asks = asks;
        placed = tt;
        carries = record {
          classes = ranges.lost ∷ [];
          marks = refl;
          at_most = omega arith;
          again = none_before;
          ends = inl (record { shown = ranges.lost; status = 0; last = refl; ending_is = refl; is_through = inr (inr refl) });
          gained = tt;
          shared = (talk ∷ [], tried_once, refl, refl, (_, [], refl, (_, [], _, [], refl, refl, made removed 1, (refl, refl)), refl, tt));
        };
      };
      same = record { id = refl; what = refl; part = refl; cell = record { cell = refl; stays = tt }; had = refl };
      carrier = record { endpoint = refl; keys = refl; attempts = refl };
    }

    asked_again : CarriesJob Seen (with_log (talk ∷ talk ∷ []) (tried_once ++ tried_again)) (removal_again for cell) (removal_lost for cell) (with_log (talk ∷ talk ∷ talk ∷ []) (tried_once ++ tried_again ++ tried_again))
    asked_again = record {
      carried = record {
        asked = removed;
        place = [];
        asks = asks;
        placed = tt;
        carries = record {
          classes = ranges.lost ∷ [];
          marks = refl;
          at_most = omega arith;
          again = none_before;
          ends = inl (record { shown = ranges.lost; status = 0; last = refl; ending_is = refl; is_through = inr (inl refl) });
          gained = tt;
          shared = (talk ∷ [], tried_again, refl, refl, (_, [], refl, (_, [], _, [], refl, refl, made removed 2, (refl, refl)), refl, tt));
        };
      };
      same = record { id = refl; what = refl; part = refl; cell = tt; had = refl };
      carrier = record { endpoint = refl; keys = refl; attempts = refl };
    }

    -- ---- the lanes

    carriers : (lane : SeenLane (Option WireLog)) → Contains (befores endpoint keys) lane → lane.carrier ≡ carrier endpoint keys
    carriers lane known = elim (has (befores endpoint keys) lane known) [
      | inl e ↦ ap (λ (l : SeenLane (Option WireLog)). l.carrier) (sym e)
      | inr others ↦ elim others [ inl e ↦ ap (λ (l : SeenLane (Option WireLog)). l.carrier) (sym e) | inr none ↦ absurd none ]
    ]

    is_joined : IsJoined Seen (carrier endpoint keys) (two_lanes for cell) (befores endpoint keys) (afters endpoint keys)
    is_joined = record {
      trace_is = is_trace for cell;
      carriers = carriers;
      lanes = exchange (question ∷ removal_again for cell ∷ []) (question_lost ∷ removal_lost for cell ∷ []) ∷ exchange (removal for cell ∷ []) (removal_stopped for cell ∷ []) ∷ [];
      exchanged = are_exchanged for cell;
      carried = (
        (with_log (talk ∷ talk ∷ []) (tried_once ++ tried_again), asked_question, (with_log (logs endpoint keys 0) (notes endpoint keys 0), asked_again, refl)),
        ((with_log (logs endpoint keys 1) (notes endpoint keys 1), asked_removal, refl), tt),
      );
    }

  abbrev Gain : ℕ → SeenLane (Option WireLog) → SeenLane (Option WireLog) → Type 0
  Gain lane before after = HasGained before.wire after.wire (logs endpoint keys lane) (notes endpoint keys lane)

  gain_of : (lane : ℕ) (b a before after : SeenLane (Option WireLog)) → Some b ≡ Some before → Some a ≡ Some after → Gain lane b a → Gain lane before after
  gain_of lane b a before after e f gain =
      subst (λ (l : SeenLane (Option WireLog)). Gain lane l after) (some_is b before e) (subst (λ (l : SeenLane (Option WireLog)). Gain lane b l) (some_is a after f) gain)

  gains : (lane : ℕ) (before after : SeenLane (Option WireLog)) → slice_get (befores endpoint keys) lane ≡ Some before → slice_get (afters endpoint keys) lane ≡ Some after → Gain lane before after
  gains zero before after e f = gain_of 0 _ _ before after e f (refl, (_, _, refl, refl, (refl, refl)))
  gains (suc zero) before after e f = gain_of 1 _ _ before after e f (refl, (_, _, refl, refl, (refl, refl)))
  gains (suc (suc lane)) before after e f = absurd (none_is_some before e)

  no_others : (lane : ℕ) → 2 ≤ lane → (logs endpoint keys lane ≡ []) × (notes endpoint keys lane ≡ [])
  no_others zero above = absurd (omega arith)
  no_others (suc zero) above = absurd (omega arith)
  no_others (suc (suc lane)) above = (refl, refl)

pub two_lanes_are_met : TwoLanesAreMet
two_lanes_are_met endpoint keys for cell asks = (is_joined endpoint keys for cell asks, record { each = gains endpoint keys; others = no_others endpoint keys })

-- ---- neighbours

pub none_are_exchanged : {W : Type 0} (seen : W → Option WireLog) → NoneAreExchanged seen
none_are_exchanged seen of_carrier lanes joined for cell is =
    none_is_stranger seen of_carrier (exchanged for cell) lanes joined is (record {
      later = [];
      before = Gave 1 (removal for cell) ∷ Gave 0 question ∷ [];
      lane = 1;
      carried = question_lost;
      is = refl;
      job = removal for cell;
      oldest = refl;
      other = λ may. none_is_zero (task_is question.id (job_of 0 op.Delete 0) may.same.id);
    })

pub none_is_given_twice : NoneIsGivenTwice
none_is_given_twice for cell run = run.0.0 1 0 (removal for cell) refl refl
