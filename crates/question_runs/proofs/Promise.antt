-- A run that asked questions over the lane of its first wire and did nothing else keeps its promise.
use Rattle.std.proofs.Common.{◌≡◌, ◌∙◌, ◌≤◌, ℕ, zero, suc, Bool, true, List, [], ◌∷◌, Option, Some, None, refl, sym, subst, ap, inl, inr, arith, replicate, slice_get, slice_index_or, Contains}
use Rattle.std.proofs.lemmas.List.{length-replicate}
use Rattle.answer_classes.specs.Showing.{HasStatus, Shows}
use Rattle.attempts.specs.Attempts.{text_of}
use Rattle.bounded_executor.specs.Exchange.{Exchange, unused}
use Rattle.bounded_executor.specs.Runs.{EachRuns}
use Rattle.desk_promise.proofs.Promise.{desk_runs_keep}
use Rattle.desk_promise.specs.Desk.{ArePlanned, IsIdle}
use Rattle.job_terms.specs.Attempts.{in_first}
use Rattle.jobs.specs.Endings.{SeenCarried}
use Rattle.jobs.specs.Jobs.{SeenJob}
use Rattle.lane_jobs.specs.Lanes.{SeenCarrier, SeenLane}
use Rattle.lane_laws.specs.Runs.{RanOut}
use Rattle.lane_workers.specs.LaneWorkers.{carrier_with, lane_over}
use Rattle.list_walk.specs.Pages.{IsRefusedPage}
use Rattle.planning_laws.specs.Asking.{AskFor}
use Rattle.planning_questions.specs.Questions as laws
use Rattle.planning_questions.specs.Questions.{Question, trace_of}
use Rattle.run_promise.specs.Planning.{Need, PlansFor}
use Rattle.run_promise.specs.Settled.{RunEnd, RunStart, lanes_of}
use Rattle.run_traces.specs.Exchanges.{AreExchangesOf}
use Rattle.run_traces.specs.Traces.{RunTrace, journal_of}
use Rattle.s3_model.specs.Talks.{Note, Talk, WireLog}
use Rattle.s3_model.specs.Validity.{IsValidConfig, IsValidLimits}
use Rattle.s3_model.specs.declared.outcomes.Event.{Event}
use Rattle.s3_model.specs.declared.places.Endpoint.{Endpoint}
use Rattle.s3_model.specs.declared.settings.Config.{Config}
use Rattle.s3_model.specs.declared.settings.Keys.{Keys}
use Rattle.s3_model.specs.declared.settings.Limits.{Limits}
use Rattle.s3_model.specs.Files.{FileStore}
use Rattle.s3_outside.specs.Files.{SeenFiles}
use Rattle.shared_lemmas.proofs.Clashes.{none_is_some, some_is}
use Rattle.shared_lemmas.proofs.Members.{Has, has}
use Rattle.trace_laws.specs.Joined.{CarriesJob, HasGained, HaveGained, IsJoined}
use Rattle.upload_promise.proofs.PromiseLemmas.{has_lanes}
use Rattle.upload_promise.proofs.WireLemmas.{beyond_first, in_first_other}
use Rattle.upload_promise.specs.Shown.{CallFailed, KeepsPromise, end_of, start_of}
use Rattle.upload_promise.specs.Sources.{AreLeft}
use Rattle.question_runs.proofs.Asking.{law_of, laws_of, same_trace}
use Rattle.question_runs.specs.Asked.{AskedOver, log_of}

abbrev Wire : Type 0
Wire = Option WireLog

abbrev shows : Wire → Wire
shows wire = wire

-- ---- lanes that carry nothing

in_copies : {X : Type 0} (count : ℕ) (x y : X) → Has (replicate count x) y → x ≡ y
in_copies {X} zero x y known = absurd known
in_copies {X} (suc count) x y (inl same) = same
in_copies {X} (suc count) x y (inr known) = in_copies count x y known

at_copies : {X : Type 0} (count place : ℕ) (x y : X) → slice_get (replicate count x) place ≡ Some y → x ≡ y
at_copies {X} zero place x y e = absurd (none_is_some y e)
at_copies {X} (suc count) zero x y e = some_is x y e
at_copies {X} (suc count) (suc place) x y e = at_copies count place x y e

no_others : (lane : ℕ) (count : ℕ) → slice_index_or (replicate count unused) lane unused ≡ (unused {J = SeenJob} {D = SeenCarried})
no_others lane zero = refl
no_others zero (suc count) = refl
no_others (suc lane) (suc count) = no_others lane count

with_others : (steps : RunTrace) (first : Exchange SeenJob SeenCarried) (count : ℕ) → AreExchangesOf steps (first ∷ []) → AreExchangesOf steps (first ∷ replicate count unused)
with_others steps first count are zero = are zero
with_others steps first count are (suc lane) = no_others lane count ∙ are (suc lane)

idle_lanes : (lane : SeenLane Wire) (count : ℕ) → EachRuns (CarriesJob shows) (replicate count lane) (replicate count unused) (replicate count lane)
idle_lanes lane zero = tt
idle_lanes lane (suc count) = (refl, idle_lanes lane count)

module _ (carrier : SeenCarrier) (count : ℕ) where
  abbrev spare : SeenLane Wire
  spare = lane_over carrier (Some (log_of [] []))

  abbrev lanes_with : Wire → List (SeenLane Wire)
  lanes_with wire = lane_over carrier wire ∷ replicate count spare

  all_its : (wire : Wire) (lane : SeenLane Wire) → Contains (lanes_with wire) lane → lane.carrier ≡ carrier
  all_its wire lane known = elim (has (lanes_with wire) lane known) [
    | inl same ↦ ap (λ (l : SeenLane Wire). l.carrier) (sym same)
    | inr other ↦ ap (λ (l : SeenLane Wire). l.carrier) (sym (in_copies count spare lane other))
  ]

  -- lanes behind the first, which carry nothing
  joined_with : (steps other : RunTrace) (was now : Wire) → steps ≡ other → IsJoined shows carrier steps (lane_over carrier was ∷ []) (lane_over carrier now ∷ []) → IsJoined shows carrier other (lanes_with was) (lanes_with now)
  joined_with steps other was now same joined = subst (λ (t : RunTrace). IsJoined shows carrier t (lanes_with was) (lanes_with now)) same (by joined.lanes joined.exchanged joined.carried)
    where
      by : (lanes : List (Exchange SeenJob SeenCarried)) → AreExchangesOf steps lanes → EachRuns (CarriesJob shows) (lane_over carrier was ∷ []) lanes (lane_over carrier now ∷ []) → IsJoined shows carrier steps (lanes_with was) (lanes_with now)
      by [] are ran = absurd ran
      by (lane ∷ next ∷ lanes) are ran = absurd ran.1
      by (lane ∷ []) are ran = record {
        trace_is = joined.trace_is;
        carriers = all_its was;
        lanes = lane ∷ replicate count unused;
        exchanged = with_others steps lane count are;
        carried = (ran.0, idle_lanes spare count);
      }

  module _ (talks : List Talk) (notes : List Note) where
    abbrev Gained : SeenLane Wire → SeenLane Wire → ℕ → Type 0
    Gained before after lane = HasGained before.wire after.wire (in_first talks lane) (in_first notes lane)

    each_gained : (lane : ℕ) (before after : SeenLane Wire) → slice_get (lanes_with (Some (log_of [] []))) lane ≡ Some before → slice_get (lanes_with (Some (log_of talks notes))) lane ≡ Some after → Gained before after lane
    each_gained zero before after is_before is_after =
        subst (λ (b : SeenLane Wire). Gained b after 0) (some_is spare before is_before)
        (subst (λ (a : SeenLane Wire). Gained spare a 0) (some_is (lane_over carrier (Some (log_of talks notes))) after is_after) (refl, (talks, notes, refl, refl, (refl, refl))))
    each_gained (suc lane) before after is_before is_after =
        subst (λ (b : SeenLane Wire). Gained b after (suc lane)) (at_copies count lane spare before is_before)
        (subst (λ (a : SeenLane Wire). Gained spare a (suc lane)) (at_copies count lane spare after is_after)
        (refl, ([], [], refl, refl, (sym (in_first_other talks lane), sym (in_first_other notes lane)))))

    all_gained : HaveGained shows (lanes_with (Some (log_of [] []))) (lanes_with (Some (log_of talks notes))) (in_first talks) (in_first notes)
    all_gained = record { each = each_gained; others = λ lane beyond. let least : 1 ≤ lane = omega (arith, beyond) in (beyond_first talks lane least, beyond_first notes lane least) }

-- ---- the run

of_law : (questions : List Question) (law : laws.Question) → Has (laws_of questions) law → (q : Question) × Has questions q × (law_of q ≡ law)
of_law [] law known = absurd known
of_law (q ∷ questions) law (inl same) = (q, inl refl, same)
of_law (q ∷ questions) law (inr known) = let rest = of_law questions law known in (rest.0, inr rest.1, rest.2)

less_one : (n : ℕ) → 1 ≤ n → (count : ℕ) × (n ≡ suc count)
less_one zero some = absurd (omega (arith, some))
less_one (suc count) some = (count, refl)

module _ (config : Config) (valid : IsValidConfig config) (limits : Limits) (within : IsValidLimits limits) (wires : ℕ) (has_wire : 1 ≤ wires) (status before after : ℕ) (path : List ℕ)
    (was now : SeenFiles) (same : AreLeft was now) (page : Option ℕ) (journal : List Event) (talks : List Talk) (notes : List Note) where
  abbrev start : RunStart
  start = start_of config limits wires [] was

  abbrev came : RunEnd
  came = record (end_of status [] [] journal talks notes was now) { refused_page = page }

  planned : ArePlanned start
  planned = record {
    tasks = λ n task e. absurd (none_is_some task e);
    apart = record {
      destinations = λ m n a b bucket key at_m at_n of_a of_b. absurd (none_is_some a at_m);
      sources = λ m n a b bucket key at_m at_n moves of_a of_b. none_is_some a at_m;
    };
    files_apart = record {
      destinations = λ m n a b to to_a to_b. absurd (none_is_some a to_a.0);
      sources = λ m n a b to move of. none_is_some a move.0;
      moved_once = λ m n a b to move other. absurd (none_is_some a move.0);
      uploads = λ n task to move. absurd (none_is_some task move.0);
      one_way = λ m n a b to move is_b loads. none_is_some a move.0;
      names = λ m n a b to to_a is_b load loads named. absurd (none_is_some a to_a.0);
      there = λ n task to to_task removal. absurd (none_is_some task to_task.0);
    };
  }

  idle : IsIdle start came
  idle = record {
    configured = valid;
    limits = within;
    planned = planned;
    outcomes = inl (record { as_many = refl; each = λ n how e. absurd (none_is_some how e) });
    quiet = same.1;
    untouched = ap (λ (store : FileStore). store.held) same.0;
    none_left = refl;
    none_untimed = refl;
  }

  module _ (endpoint : Endpoint) (keys : Keys) (questions : List Question) where
    abbrev carrier : SeenCarrier
    carrier = carrier_with endpoint keys config.attempts

    -- It asked these over its first wire, and they ask for what its command needs; memory ran out for one of them only
    -- where its status says so.
    pub questions_keep : AskedOver carrier questions (Some (log_of talks notes)) → journal ≡ journal_of (trace_of 0 questions) → ((q : Question) → Has questions q → RanOut q.carried.ending → status ≡ 70)
        → (needs : List Need) (wanting : Bool) → AskFor IsRefusedPage (wanting ≡ true) page needs (laws_of questions)
        → KeepsPromise Shows HasStatus (text_of endpoint keys) endpoint.host endpoint.port (λ of_page. PlansFor Shows IsRefusedPage (wanting ≡ true) of_page needs) (CallFailed path now before after []) start came None ⊥ ⊥
    questions_keep asked told wants needs wanting asks =
        let many = less_one (lanes_of config wires) (has_lanes config wires valid has_wire) in
        let unused_wire : Wire = Some (log_of [] []) in
        let used_wire : Wire = Some (log_of talks notes) in
        desk_runs_keep shows (CallFailed path now before after []) carrier start came (lanes_with carrier many.0 unused_wire) (lanes_with carrier many.0 used_wire) (laws_of questions) needs wanting
        (record {
          idle = idle;
          lanes = ap (λ (n : ℕ). suc n) (length-replicate many.0 (spare carrier many.0)) ∙ sym many.1;
          attempts = refl;
          joined = joined_with carrier many.0 (trace_of 0 questions) (laws.trace_of 0 (laws_of questions)) unused_wire used_wire (sym (same_trace 0 questions)) asked;
          journal = told ∙ ap journal_of (sym (same_trace 0 questions));
          wants = λ law known out.
              let found = of_law questions law (has (laws_of questions) law known) in
              wants found.0 found.1 (subst (λ (x : laws.Question). RanOut x.carried.ending) (sym found.2) out);
        })
        (all_gained carrier many.0 talks notes) asks
