-- A listing of two pages over two lanes meets what the laws take, and nothing is asked behind a refused page.
use Rattle.std.proofs.Common.{◌≡◌, ◌∙◌, ◌+◌, ◌<◌, ◌≤◌, ◌++◌, ℕ, zero, suc, true, List, [], ◌∷◌, Option, Some, None, refl, sym, subst, ap, inl, inr, arith, slice_get}
use Rattle.std.specs.Prelude.{Contains, IsSome}
use Rattle.answer_classes.specs.Showing.{Shows}
use Rattle.attempts.specs.Attempts.{IsOneTalk, SignedRequest, text_of}
use Rattle.bounded_executor.specs.Exchange.{Exchange}
use Rattle.jobs.specs.Endings.{SeenCarried}
use Rattle.jobs.specs.Jobs.{SeenJob}
use Rattle.jobs.specs.declared.ending.Ending.TheVariants as ending
use Rattle.lane_jobs.specs.Lanes.{IsGained, SeenLane, request_for}
use Rattle.lane_journals.specs.Ranges as ranges
use Rattle.lane_journals.specs.Ranges.{failed_talk}
use Rattle.list_walk.specs.Pages.{IsRefusedPage, gathered_from, refusal_of}
use Rattle.run_traces.proofs.Exchanging.{exchanges_begin, exchanges_gave, exchanges_took}
use Rattle.run_traces.proofs.Pending.{slice_get_drop}
use Rattle.run_traces.proofs.Splits.{given_at}
use Rattle.run_traces.proofs.Steps.{given_in, taken_count}
use Rattle.run_traces.specs.Exchanges.{AreExchangesOf}
use Rattle.run_traces.specs.Traces.{Gave, IsRunTrace, RunStep, RunTrace, Took, pending_in}
use Rattle.s3_model.specs.Classes.{is_tried_again}
use Rattle.s3_model.specs.Talks.{Note, Talk, WireLog}
use Rattle.s3_model.specs.declared.answers.Class.{Class}
use Rattle.s3_model.specs.declared.answers.Class.TheVariants as class
use Rattle.s3_model.specs.declared.answers.Listed.{Listed}
use Rattle.s3_model.specs.declared.answers.Reply.{Reply}
use Rattle.s3_model.specs.declared.answers.Reply.TheVariants as reply
use Rattle.s3_model.specs.declared.answers.Why.TheVariants as why
use Rattle.s3_model.specs.declared.outcomes.JobId.{JobId}
use Rattle.s3_model.specs.declared.places.Endpoint.{Endpoint}
use Rattle.s3_model.specs.declared.requests.Ask.{Ask}
use Rattle.s3_model.specs.declared.settings.Keys.{Keys}
use Rattle.s3_model.specs.declared.tries.Mark.TheVariants as mark
use Rattle.shared_lemmas.proofs.Clashes.{false_true, none_is_some, some_is}
use Rattle.shared_lemmas.proofs.Lists.{head_is, no_cons, no_middle, tail_is}
use Rattle.shared_lemmas.proofs.Members.{Has, has, has_middle}
use Rattle.trace_laws.specs.Joined.{CarriesJob, HasGained, IsJoined}
use Rattle.trace_laws.specs.Witness.{befores, carrier, lane_with, tried_again, tried_once}
use Rattle.planning_questions.specs.Questions.{Question, question_job, trace_of}
use Rattle.planning_laws.specs.Witness.{BringsPage, ListingIsMet, NoneAsksBehindRefused, afters, bad_page, first_page, gains_page, last_page, listing, logs, notes, page_ask}

-- ---- its steps

abbrev one : Question
one = gains_page 0 (page_ask None) first_page (mark.Uncertain ∷ mark.Success ∷ [])

abbrev two : Question
two = gains_page 1 (page_ask (Some (7 ∷ []))) last_page (mark.Success ∷ [])

abbrev job_one : SeenJob
job_one = question_job 0 (page_ask None)

abbrev job_two : SeenJob
job_two = question_job 1 (page_ask (Some (7 ∷ [])))

abbrev behind_one : RunTrace
behind_one = Took 0 one.carried ∷ Gave 0 job_one ∷ []

gave_there : (t : RunTrace) (lane place : ℕ) (job : SeenJob) → slice_get (pending_in lane t) place ≡ Some job → Has t (Gave lane job)
gave_there t lane place job e =
    let at = given_at lane (taken_count lane t + place) job t (sym (slice_get_drop (taken_count lane t) (given_in lane t) place) ∙ e) in
    subst (λ (s : RunTrace). Has s (Gave lane job)) (sym at.is) (has_middle at.later (Gave lane job) at.before)

gave_job : (lane other : ℕ) (a b : SeenJob) → ◌≡◌ {A = RunStep} (Gave lane a) (Gave other b) → a ≡ b
gave_job lane other a b e = cc

took_gave : (lane other : ℕ) (c : SeenCarried) (b : SeenJob) → ◌≡◌ {A = RunStep} (Took lane c) (Gave other b) → ⊥
took_gave lane other c b e = cc

apart : (lane place : ℕ) (job : SeenJob) → slice_get (pending_in lane behind_one) place ≡ Some job → job.id ≡ job_two.id → ⊥
apart lane place job e is = elim (gave_there behind_one lane place job e) [
  | inl took ↦ took_gave 0 lane one.carried job took
  | inr others ↦ elim others [
    | inl same ↦ let number = ap (λ (j : SeenJob). j.id.number) (gave_job 0 lane job_one job same) ∙ ap (λ (id : JobId). id.number) is in omega (arith, number)
    | inr none ↦ absurd none
  ]
]

is_trace : IsRunTrace (trace_of 0 listing)
is_trace = (omega arith, ((apart, refl), (omega arith, (((λ lane place job e is. none_is_some job e), refl), tt))))

-- ---- what is exchanged

abbrev exchange : List SeenJob → List SeenCarried → Exchange SeenJob SeenCarried
exchange given taken = record { given = given; taken = taken }

first_given : AreExchangesOf (Gave 0 job_one ∷ []) (exchange (job_one ∷ []) [] ∷ exchange [] [] ∷ [])
first_given = exchanges_gave [] (exchange [] [] ∷ exchange [] [] ∷ []) 0 job_one (omega arith) (exchanges_begin 2)

first_taken : AreExchangesOf behind_one (exchange (job_one ∷ []) (one.carried ∷ []) ∷ exchange [] [] ∷ [])
first_taken = exchanges_took (Gave 0 job_one ∷ []) (exchange (job_one ∷ []) [] ∷ exchange [] [] ∷ []) 0 one.carried (omega arith) first_given

second_given : AreExchangesOf (Gave 0 job_two ∷ behind_one) (exchange (job_one ∷ job_two ∷ []) (one.carried ∷ []) ∷ exchange [] [] ∷ [])
second_given = exchanges_gave behind_one (exchange (job_one ∷ []) (one.carried ∷ []) ∷ exchange [] [] ∷ []) 0 job_two (omega arith) first_taken

are_exchanged : AreExchangesOf (trace_of 0 listing) (exchange (job_one ∷ job_two ∷ []) (one.carried ∷ two.carried ∷ []) ∷ exchange [] [] ∷ [])
are_exchanged = exchanges_took (Gave 0 job_two ∷ behind_one) (exchange (job_one ∷ job_two ∷ []) (one.carried ∷ []) ∷ exchange [] [] ∷ []) 0 two.carried (omega arith) second_given

-- ---- what its lanes carried

module _ (endpoint : Endpoint) (keys : Keys) (first last : Talk) (brings_first : BringsPage endpoint keys (page_ask None) first_page first) (brings_last : BringsPage endpoint keys (page_ask (Some (7 ∷ []))) last_page last) where
  abbrev lost : Talk
  lost = failed_talk endpoint

  abbrev request : Ask → SignedRequest
  request asked = request_for (carrier endpoint keys) asked None 0

  shows : (asked : Ask) (limit : ℕ) → Shows asked limit lost ranges.lost []
  shows asked limit =
      inr (
        why.WireFailed,
        record {
          of_talk = tt;
          breaks = inl (refl, refl);
          failed = (λ e. refl, λ e. refl);
        },
        refl,
        refl,
      )

  one_lost : IsOneTalk (request (page_ask None)) ranges.lost [] (lost ∷ []) tried_once
  one_lost = record {
    talk = lost;
    moment = 0;
    one_talk = refl;
    noted = refl;
    to_host = refl;
    to_port = refl;
    beginning = (text_of endpoint keys (page_ask None) (request (page_ask None)).body 0, refl);
    whole = λ not_failed. absurd (not_failed refl);
    has_class = inr ([], shows (page_ask None) 8_388_608, tt);
  }

  success_memory : (said : Reply) → class.Success said ≡ class.Uncertain why.Memory → ⊥
  success_memory said e = cc

  gained : (asked : Ask) (said : Reply) (talks : List Talk) → IsOneTalk (request asked) (class.Success said) [] talks tried_once → IsGained (request asked) [] (ending.Gained said)
  gained asked said talks t = elim t.has_class [
    | inl memory ↦ absurd (success_memory said memory)
    | inr shown ↦ inr (t.talk, shown.0, shown.1, shown.2)
  ]

  again : (c : Class) (k : ℕ) (shown : Class) → slice_get (ranges.lost ∷ c ∷ []) k ≡ Some shown → k + 1 < 2 → is_tried_again shown ≡ true
  again c zero shown at more = ap is_tried_again (sym (some_is ranges.lost shown at))
  again c (suc k) shown at more = absurd (omega arith)

  none_again : (c : Class) (k : ℕ) (shown : Class) → slice_get (c ∷ []) k ≡ Some shown → k + 1 < 1 → is_tried_again shown ≡ true
  none_again c k shown at more = absurd (omega arith)

  abbrev Seen : Option WireLog → Option WireLog
  Seen wire = wire

  abbrev Lane : Type 0
  Lane = SeenLane (Option WireLog)

  abbrev with_log : List Talk → List Note → Lane
  with_log talks noted = lane_with endpoint keys talks noted

  abbrev success : Listed → Class
  success page = class.Success (reply.Listed page)

  asked_one : CarriesJob Seen (with_log [] []) job_one one.carried (with_log (lost ∷ first ∷ []) (tried_once ++ tried_again))
  asked_one = record {
    carried = record {
      asked = page_ask None;
      place = [];
      asks = (tt, refl, refl);
      placed = tt;
      carries = record {
        classes = ranges.lost ∷ success first_page ∷ [];
        marks = refl;
        at_most = omega arith;
        again = again (success first_page);
        ends = inl (record { shown = success first_page; status = 0; last = refl; ending_is = refl; is_through = inl refl });
        gained = gained (page_ask None) (reply.Listed first_page) (first ∷ []) brings_first;
        shared = (
          lost ∷ first ∷ [],
          tried_once ++ tried_again,
          refl,
          refl,
          (
            _,
            [],
            refl,
            (
              lost ∷ [],
              first ∷ [],
              _,
              _,
              refl,
              refl,
              record { own = tried_once; paused = refl; made = one_lost },
              (_, [], _, [], refl, refl, record { own = tried_once; paused = refl; made = brings_first }, (refl, refl)),
            ),
            refl,
            tt,
          ),
        );
      };
    };
    same = record { id = refl; what = refl; part = refl; cell = tt; had = refl };
    carrier = record { endpoint = refl; keys = refl; attempts = refl };
  }

  asked_two : CarriesJob Seen (with_log (lost ∷ first ∷ []) (tried_once ++ tried_again)) job_two two.carried (with_log (logs endpoint keys first last 0) (notes endpoint keys first last 0))
  asked_two = record {
    carried = record {
      asked = page_ask (Some (7 ∷ []));
      place = [];
      asks = (tt, refl, refl);
      placed = tt;
      carries = record {
        classes = success last_page ∷ [];
        marks = refl;
        at_most = omega arith;
        again = none_again (success last_page);
        ends = inl (record { shown = success last_page; status = 0; last = refl; ending_is = refl; is_through = inl refl });
        gained = gained (page_ask (Some (7 ∷ []))) (reply.Listed last_page) (last ∷ []) brings_last;
        shared = (last ∷ [], tried_once, refl, refl, (_, [], refl, (_, [], _, [], refl, refl, record { own = tried_once; paused = refl; made = brings_last }, (refl, refl)), refl, tt));
      };
    };
    same = record { id = refl; what = refl; part = refl; cell = tt; had = refl };
    carrier = record { endpoint = refl; keys = refl; attempts = refl };
  }

  carriers : (lane : Lane) → Contains (befores endpoint keys) lane → lane.carrier ≡ carrier endpoint keys
  carriers lane known = elim (has (befores endpoint keys) lane known) [
    | inl e ↦ ap (λ (l : Lane). l.carrier) (sym e)
    | inr others ↦ elim others [ inl e ↦ ap (λ (l : Lane). l.carrier) (sym e) | inr none ↦ absurd none ]
  ]

  is_joined : IsJoined Seen (carrier endpoint keys) (trace_of 0 listing) (befores endpoint keys) (afters endpoint keys first last)
  is_joined = record {
    trace_is = is_trace;
    carriers = carriers;
    lanes = exchange (job_one ∷ job_two ∷ []) (one.carried ∷ two.carried ∷ []) ∷ exchange [] [] ∷ [];
    exchanged = are_exchanged;
    carried = (
      (with_log (lost ∷ first ∷ []) (tried_once ++ tried_again), asked_one, (with_log (logs endpoint keys first last 0) (notes endpoint keys first last 0), asked_two, refl)),
      (refl, tt),
    );
  }

  -- ---- what its wires gained

  abbrev Gain : ℕ → Lane → Lane → Type 0
  Gain lane before after = HasGained before.wire after.wire (logs endpoint keys first last lane) (notes endpoint keys first last lane)

  gain_of : (lane : ℕ) (b a before after : Lane) → Some b ≡ Some before → Some a ≡ Some after → Gain lane b a → Gain lane before after
  gain_of lane b a before after e f gain = subst (λ (l : Lane). Gain lane l after) (some_is b before e) (subst (λ (l : Lane). Gain lane b l) (some_is a after f) gain)

  gains : (lane : ℕ) (before after : Lane) → slice_get (befores endpoint keys) lane ≡ Some before → slice_get (afters endpoint keys first last) lane ≡ Some after → Gain lane before after
  gains zero before after e f = gain_of 0 _ _ before after e f (refl, (_, _, refl, refl, (refl, refl)))
  gains (suc zero) before after e f = gain_of 1 _ _ before after e f (refl, (_, _, refl, refl, (refl, refl)))
  gains (suc (suc lane)) before after e f = absurd (none_is_some before e)

  no_others : (lane : ℕ) → 2 ≤ lane → (logs endpoint keys first last lane ≡ []) × (notes endpoint keys first last lane ≡ [])
  no_others zero above = absurd (omega arith)
  no_others (suc zero) above = absurd (omega arith)
  no_others (suc (suc lane)) above = (refl, refl)

-- ---- its pages

first_taken_page : IsRefusedPage [] (first_page ∷ []) → ⊥
first_taken_page ([], page, e, some) = false_true (subst (λ (p : Listed). IsSome (refusal_of [] (gathered_from []) p)) (sym (head_is first_page page [] [] e)) some)
first_taken_page (x ∷ before, page, e, some) = no_middle before page [] (tail_is first_page x [] (before ++ page ∷ []) e)

last_taken_page : IsRefusedPage [] (first_page ∷ last_page ∷ []) → ⊥
last_taken_page ([], page, e, some) = no_cons last_page [] (tail_is first_page page (last_page ∷ []) [] e)
last_taken_page (x ∷ [], page, e, some) =
    let rest = tail_is first_page x (last_page ∷ []) (page ∷ []) e in
    false_true (subst (λ (p : Listed). IsSome (refusal_of [] (gathered_from (first_page ∷ [])) p)) (sym (head_is last_page page [] [] rest))
    (subst (λ (y : Listed). IsSome (refusal_of [] (gathered_from (y ∷ [])) page)) (sym (head_is first_page x (last_page ∷ []) (page ∷ []) e)) some))
last_taken_page (x ∷ y ∷ before, page, e, some) =
    no_middle before page [] (tail_is last_page y [] (before ++ page ∷ []) (tail_is first_page x (last_page ∷ []) (y ∷ (before ++ page ∷ [])) e))

pub listing_is_met : ListingIsMet
listing_is_met endpoint keys first last brings_first brings_last = (
  is_joined endpoint keys first last brings_first brings_last,
  record { each = gains endpoint keys first last brings_first brings_last; others = no_others endpoint keys first last brings_first brings_last },
  (refl, inl (first_page, refl, inr (inl (first_taken_page, refl, (refl, inl (last_page, refl, inr (inr (last_taken_page, refl, (refl, inl refl))))))))),
)

-- ---- behind a refused page

page_is : (a b : Listed) → ending.Gained (reply.Listed a) ≡ ending.Gained (reply.Listed b) → a ≡ b
page_is a b e = cc

bad_is_refused : IsRefusedPage [] (bad_page ∷ [])
bad_is_refused = ([], bad_page, refl, refl)

pub none_asks_behind : NoneAsksBehindRefused
none_asks_behind first next later wanting refused_page bad (is, inl (page, gains, inl (refused, none, of_job))) = no_cons next later none
none_asks_behind first next later wanting refused_page bad (is, inl (page, gains, inr (inl (taken, more, goes)))) =
    taken (subst (λ (p : Listed). IsRefusedPage [] (p ∷ [])) (page_is bad_page page (sym bad ∙ gains)) bad_is_refused)
none_asks_behind first next later wanting refused_page bad (is, inl (page, gains, inr (inr (taken, done, goes)))) =
    taken (subst (λ (p : Listed). IsRefusedPage [] (p ∷ [])) (page_is bad_page page (sym bad ∙ gains)) bad_is_refused)
none_asks_behind first next later wanting refused_page bad (is, inr (none, over, page)) = none (reply.Listed bad_page) bad
