-- A run of one small upload over one lane meets what the laws take.
use Rattle.std.proofs.Common.{rules, append-nil, ◌≡◌, ◌∙◌, ◌==◌, ◌+◌, ◌<◌, ◌≤◌, ℕ, zero, suc, true, false, List, [], ◌∷◌, Some, None, Contains, refl, sym, subst, ap, inl, inr, arith, slice_get, length}
use Rattle.std.proofs.lemmas.List.Elements.{All-contains, All-from_recursion}
use Rattle.std.specs.List.{AllByRecursion}
use Rattle.std.specs.Prelude.{IsSome}
use Rattle.answer_classes.specs.Showing.{Shows}
use Rattle.answer_grammar.specs.Answer.{IsAnswer}
use Rattle.answer_grammar.specs.declared.framing.Framing.TheVariants as framing
use Rattle.attempts.specs.Attempts.{IsOneTalk, SignedRequest}
use Rattle.httparse.specs.Grammar.{print_response}
use Rattle.jobs.specs.Holders.{Holder}
use Rattle.jobs.specs.declared.ending.Ending.{Ending}
use Rattle.jobs.specs.declared.ending.Ending.TheVariants as ending
use Rattle.jobs.specs.declared.what.What.{What}
use Rattle.lane_laws.specs.Runs.{AreCarriedJobs, Giving, HaveCauses, IsCarriedJob, IsJournal, RanOut}
use Rattle.manager_moves.specs.Runs.{Back, Event, Events, journal_of}
use Rattle.job_terms.specs.Attempts.{in_lane}
use Rattle.job_terms.specs.Dispatches.{Dispatched}
use Rattle.run_schedule.proofs.Entries.{given_came}
use Rattle.run_schedule.specs.Witness.{notes}
use Rattle.s3_model.specs.Classes.{is_tried_again, succeeded}
use Rattle.s3_model.specs.Talks.{Began, Closed, Failed, Moment, Note, Talk}
use Rattle.s3_model.specs.declared.answers.Answered.{Answered}
use Rattle.s3_model.specs.declared.answers.Class.{Class}
use Rattle.s3_model.specs.declared.answers.Class.TheVariants as class
use Rattle.s3_model.specs.declared.answers.Reply.TheVariants as reply
use Rattle.s3_model.specs.declared.bytes.Part.{Part}
use Rattle.s3_model.specs.declared.outcomes.Event.TheVariants as entry
use Rattle.s3_model.specs.declared.outcomes.JobId.{JobId}
use Rattle.s3_model.specs.declared.places.Endpoint.{Endpoint}
use Rattle.s3_model.specs.declared.settings.Keys.{Keys}
use Rattle.s3_model.specs.declared.tries.Mark.{Mark}
use Rattle.s3_model.specs.declared.tries.Mark.TheVariants as mark
use Rattle.shared_lemmas.proofs.Clashes.{false_true, none_is_some, some_is}
use Rattle.shared_lemmas.proofs.Members.{Has, contains_of, has, has_middle}
use Rattle.task_progress.proofs.Endings.{skipped}
use Rattle.task_schedule.specs.Witness.{put_run, small_put, small_setting}
use Rattle.lane_journals.specs.Journals.{AreHandedBack, AreOfLanes}
use Rattle.lane_journals.specs.Witness.{UploadIsOfLanes, ok_head, put_giving, put_logs, put_talk}

-- ---- lists that are written out

pub for_each : {X : Type 0} (P : X → Type 0) (xs : List X) → AllByRecursion P xs → (x : X) → Contains xs x → P x
for_each P xs all x known = All-contains P xs x (All-from_recursion P xs all) known

-- ---- what came back

-- what comes back has this ending
abbrev pub ComesWith : Ending → Event → Type 0
ComesWith ended (Back lane carried) = carried.ending ≡ ended
ComesWith ended event = Unit {0}

-- where all that came back has one ending, and each lane gave it
pub handed_back : (planned : ℕ) (ended : Ending) (events : Events) (givings : List Giving) → AllByRecursion
    (ComesWith ended) events
    → AllByRecursion (λ (g : Giving). g.ended ≡ ended) givings → AreHandedBack planned events givings
handed_back planned ended events givings backs gave later before lane carried g is known came =
    for_each (ComesWith ended) events backs (Back lane carried)
    (contains_of events (Back lane carried) (subst (λ (es : Events). Has es (Back lane carried)) (sym is)
    (has_middle later (Back lane carried) before)))
    ∙ sym (for_each (λ (x : Giving). x.ended ≡ ended) givings gave g known)

-- ---- other lanes

pub none_carried : (endpoint : Endpoint) (keys : Keys) (attempts : ℕ) (givings : List Giving) (talks : List Talk)
    (noted : List Note) → givings ≡ [] → talks ≡ [] → noted ≡ []
    → AreCarriedJobs endpoint keys attempts givings talks noted
none_carried endpoint keys attempts givings talks noted none e f =
    subst (λ (gs : List Giving). AreCarriedJobs endpoint keys attempts gs talks noted) (sym none) (e, f)

other_lane : (lane : ℕ) → (0 == suc lane) ≡ false
other_lane lane = grind arith

not_first : (lane : ℕ) → (suc lane == 0) ≡ false
not_first lane = grind arith

closed_failed : Closed ≡ Failed → ⊥
closed_failed e = cc

-- ---- its talk

module _ (endpoint : Endpoint) (keys : Keys) where
  abbrev talk : Talk
  talk = put_talk endpoint keys

  abbrev giving : Giving
  giving = put_giving endpoint keys

  abbrev r : SignedRequest
  r = record { endpoint = endpoint; keys = keys; asked = small_put.ask; body = small_put.body; limit = None }

  abbrev answered : Answered
  answered = record {
    status = 200;
    etag = None;
    length = None;
    range = None;
    micros = None;
    keep = false;
    taken = 0;
    body = record { bytes = []; room = 0 };
  }

  is_answer : IsAnswer false (Some 8388608) talk.got Closed answered [] []
  unfolding print_response
  is_answer = record {
    head = ok_head;
    rest = [];
    reads = record {
      reads = (
        record {
          minor = omega arith;
          digits =
              (refl, search rules);
          reason = search rules;
          fields = search rules;
        },
        refl,
      );
      small = omega arith;
      few = omega arith;
      final = omega arith;
    };
    framed = framing.ToClose;
    says = record {
      framing_is = record { chunked = false; coded = refl; states = refl; one_way = λ e. refl; by = refl };
      status = refl;
      etag = refl;
      range = refl;
      micros = refl;
      keep = refl;
    };
    has_body = (refl, refl, refl);
    within = omega arith;
    taken = refl;
    no_fault = closed_failed;
  }

  pub shows : Shows small_put.ask 8388608 talk (class.Success reply.Stored) []
  shows = inl (answered, ([], is_answer), succeeded reply.Stored (omega arith, omega arith) tt)

  pub one_talk : IsOneTalk r (class.Success reply.Stored) [] (talk ∷ []) (Moment 0 ∷ Began ∷ [])
  one_talk = record {
    talk = talk;
    moment = 0;
    one_talk = refl;
    noted = refl;
    to_host = refl;
    to_port = refl;
    beginning = ([], sym (append-nil talk.sent));
    whole = λ not_failed. refl;
    has_class = inr ([], shows, tt);
  }

  -- ---- its job

  is_carried : IsCarriedJob endpoint keys 3 giving (talk ∷ []) (Moment 0 ∷ Began ∷ [])
  is_carried = record {
    limit = None;
    place = [];
    limit_is = refl;
    attempts_are = refl;
    at_most = omega arith;
    again = none_before;
    ends = inl (record {
      shown = class.Success reply.Stored;
      status = 200;
      last = refl;
      ending_is = refl;
      is_through = inl refl;
    });
    shared = (
      _,
      [],
      refl,
      (_, [], _, [], refl, refl, record { own = _; paused = refl; made = one_talk }, (refl, refl)),
      refl,
      tt,
    );
  }
    where
      none_before : (k : ℕ) (shown : Class) → slice_get giving.classes k ≡ Some shown → k + 1 < 1
          → is_tried_again shown ≡ true
      none_before k shown at more = absurd (omega arith)

  of_lanes : AreOfLanes endpoint keys 3 (giving ∷ []) (put_logs endpoint keys) notes
  of_lanes zero = (_, [], _, [], refl, refl, is_carried, (refl, refl))
  of_lanes (suc lane) = none_carried endpoint keys 3 _ _ _ (skipped (0 == suc lane) (giving ∷ []) [] (other_lane lane))
      (skipped (suc lane == 0) (talk ∷ []) [] (not_first lane))
      (skipped (suc lane == 0) (Moment 0 ∷ Began ∷ []) [] (not_first lane))

  -- ---- its journal

  only : (P : Giving → Type 0) → P giving → (g : Giving) → Contains (giving ∷ []) g → P g
  only P p = λ g known. for_each P (giving ∷ []) (p, tt) g known

  only_of : (P : Dispatched → Type 0) → P giving.of → (c : Dispatched) → Contains (giving.of ∷ []) c → P c
  only_of P p = λ c known. for_each P (giving.of ∷ []) (p, tt) c known

  ran_out : RanOut giving.ended → ⊥
  ran_out (inl e) = cc
  ran_out (inr e) = cc

  causes : HaveCauses endpoint keys small_setting (giving ∷ []) (giving.of ∷ [])
  causes = record {
    left = only (λ (g : Giving). g.of.dispatch.earlier < 3) (omega arith);
    wants = only (λ (g : Giving). RanOut g.ended → false ≡ true) (λ out. absurd (ran_out out));
    stops = λ g known gave cut. absurd (only (λ (x : Giving). IsSome x.gave → ⊥) false_true g known gave);
    given_again = λ i j d before inside. absurd (let within : j < 1 = inside in omega arith);
  }

  few : (lane : ℕ) → length (in_lane lane (giving.of ∷ [])) ≤ 1
  few zero = omega arith
  few (suc lane) = let none = ap (λ (ds : List Dispatched). length ds)
      (skipped (0 == suc lane) (giving.of ∷ []) [] (other_lane lane)) in omega arith

  unused : (lane : ℕ) → 1 ≤ lane → (put_logs endpoint keys lane ≡ []) × (notes lane ≡ [])
  unused zero l = absurd (omega arith)
  unused (suc lane) l = (
    skipped (suc lane == 0) (talk ∷ []) [] (not_first lane),
    skipped (suc lane == 0) (Moment 0 ∷ Began ∷ []) [] (not_first lane),
  )

  module _ (for : What) (cell : Holder) (part : Part) where
    came_there : (place lane : ℕ) (job : JobId) (tries : List Mark)
        → slice_get (journal_of (put_run for cell part)) place ≡ Some (entry.Came job lane tries)
        → (c : Dispatched) × Contains (giving.of ∷ []) c × (c.dispatch.came_at ≡ Some place)
    came_there zero lane job tries e = absurd (given_came job _ lane _ tries (some_is _ _ e))
    came_there (suc zero) lane job tries e = (giving.of, contains_of (giving.of ∷ []) giving.of (inl refl), refl)
    came_there (suc (suc place)) lane job tries e = absurd (none_is_some (entry.Came job lane tries) e)

    journal : IsJournal small_setting (journal_of (put_run for cell part)) (put_logs endpoint keys) notes
        (giving.of ∷ [])
    journal = record {
      shown = refl;
      comes = only_of (λ (c : Dispatched). (at : ℕ) × (tries : List Mark) × (c.dispatch.came_at ≡ Some at)
          × (slice_get (journal_of (put_run for cell part)) at ≡ Some (entry.Came c.dispatch.job c.dispatch.lane tries))
          × (length tries ≡ length c.dispatch.attempts))
          (1, mark.Success ∷ [], refl, refl, refl);
      lanes = only_of (λ (c : Dispatched). c.dispatch.lane < 1) (omega arith);
      unused_lanes = unused;
      nothing_else = came_there;
      in_turn = λ lane i j d before inside. absurd (let short = few lane in omega arith);
    }

pub upload_is_of_lanes : UploadIsOfLanes
upload_is_of_lanes endpoint keys for cell part = record {
  of_planning = λ e known. absurd (has [] e known);
  journal = journal endpoint keys for cell part;
  lanes = of_lanes endpoint keys;
  causes = causes endpoint keys;
  handed = handed_back 0 (ending.Gained reply.Stored) (put_run for cell part) (put_giving endpoint keys ∷ [])
      (tt, (refl, (tt, (tt, (tt, tt))))) (refl, tt);
}
