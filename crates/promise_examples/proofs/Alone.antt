-- Neighbours of the small upload break one clause of what is carried alone.
use Rattle.std.proofs.Common.{◌≡◌, ◌==◌, ◌+◌, ◌<◌, ◌≤◌, ℕ, zero, suc, false, List, [], ◌∷◌, Option, Some, None, refl, sym, subst, inl, length, Contains, arith}
use Rattle.std.specs.Prelude.{◌≢◌, count_by, flat_map}
use Rattle.s3_model.specs.declared.answers.Class.{Class}
use Rattle.s3_model.specs.declared.answers.Listed.{Listed}
use Rattle.s3_model.specs.declared.outcomes.Event.TheVariants as entry
use Rattle.s3_model.specs.declared.requests.Ask.{Ask}
use Rattle.s3_model.specs.declared.tries.Mark.{Mark}
use Rattle.s3_model.specs.declared.tries.Mark.TheVariants as mark
use Rattle.s3_model.specs.Talks.{Talk, Note, Ending, Failed, Closed, Finished, Moment, Pause, Began}
use Rattle.job_terms.specs.Attempts.{AreNoted, IsSaid, in_first, in_lane, numbered_from, talks_of}
use Rattle.job_terms.specs.Dispatches.{Attempt, Dispatched, last_of, paired}
use Rattle.shared_lemmas.proofs.Clashes.{false_true as never}
use Rattle.promise_examples.specs.Alone.{Clause, Shown, Comes, Lanes, UnusedLanes, NothingElse, InTurn, Gained, Noted, Marks, Again, GivenAgain, AtMost, ToTheEnd, Silent, Says, IsExcused, GoesOn, BreaksAlone, WiresBreakAlone, EachWireBreaksAlone}
use Rattle.promise_examples.specs.GivenAgain.{bytes}
use Rattle.promise_examples.specs.Reading.{Reads, body_by, signed_body}
use Rattle.promise_examples.specs.Refused as refused
use Rattle.promise_examples.specs.Refused.{IsRefused, WiresAreRefused, a_talk, denied_at, lost_at, once, run, sent_at, setting, stored_at}
use Rattle.promise_examples.specs.Runs.{Example}
use Rattle.promise_examples.proofs.Carrying as carrying
use Rattle.promise_examples.proofs.Clauses.{breaks, clauses_are_all}
use Rattle.promise_examples.proofs.Concrete.{Pairs, Slots, at, each, none_is_some, pairs, slot, some_is}
use Rattle.promise_examples.proofs.Readings.{never_memory, reads, says_whole, shown_by}
use Rattle.promise_examples.proofs.Refuted as refuted
use Rattle.promise_examples.proofs.Repeats.{all_repeats}
use Rattle.promise_examples.proofs.SmallPut.{put_with, scheduled}
use Rattle.promise_examples.proofs.WireBreaks as by_jobs
use Rattle.promise_examples.proofs.Noting.{only_pause}

-- ---- lanes

beyond : {X : Type 0} (given : List X) (lane : ℕ) → in_first given (suc lane) ≡ []
beyond given lane = carrying.none_in given (suc lane) (omega arith)

-- what holds of the first lane with its jobs, and of each other one without
by_lane : (P : ℕ → List Dispatched → Type 0) (attempts : List Attempt) → P 0 (put_with attempts ∷ []) → ((lane : ℕ) → P (suc lane) []) → (lane : ℕ) → P lane (in_lane lane (put_with attempts ∷ []))
by_lane P attempts here there zero = here
by_lane P attempts here there (suc lane) = subst (P (suc lane)) (sym (carrying.none_beyond 1 (suc lane) (put_with attempts ∷ []) (omega arith, tt) (omega arith))) (there lane)

module _ (page_of : List ℕ → Listed) where
  abbrev Shows : Ask → ℕ → Talk → Class → List ℕ → Type 0
  Shows = Reads page_of

  -- ---- one Put, by what is written out

  module _ (tries : List Mark) (talks : List Talk) (lines : List Note) where
    abbrev attempts : List Attempt
    attempts = paired tries talks

    abbrev sent : Dispatched
    sent = put_with attempts

    abbrev jobs : List Dispatched
    jobs = sent ∷ []

    abbrev e : Example
    e = run (once tries) (in_first talks) (in_first lines)

    abbrev LastEnds : Dispatched → Option Attempt → Type 0
    LastEnds c None = Unit {0}
    LastEnds c (Some attempt) = carrying.Goes page_of setting jobs c attempt → carrying.MayEnd page_of setting jobs c

    abbrev IsSpoken : Dispatched → List Attempt → Type 0
    IsSpoken c [] = IsExcused page_of e jobs jobs c
    IsSpoken c (attempt ∷ later) = Unit {0}

    -- what is to be shown of each clause but the broken one
    record Parts (broken : Clause) : Type 0 where
      comes : Comes ≢ broken → length tries ≡ length attempts
      gained : Gained ≢ broken → talks ≡ flat_map talks_of jobs
      noted : Noted ≢ broken → AreNoted Shows signed_body [] 80 0 (flat_map (λ (c : Dispatched). numbered_from c 0 c.dispatch.attempts) jobs) lines
      marks : Marks ≢ broken → Slots (carrying.IsMarked page_of setting jobs sent) attempts
      again : Again ≢ broken → Slots (carrying.GoesOn page_of setting jobs sent) attempts
      at_most : AtMost ≢ broken → 0 + length attempts ≤ 2
      ends : ToTheEnd ≢ broken → LastEnds sent (last_of attempts)
      silent : Silent ≢ broken → IsSpoken sent attempts

    of_last : (c : Dispatched) (last : Option Attempt) (attempt : Attempt) → LastEnds c last → last ≡ Some attempt → carrying.Goes page_of setting jobs c attempt → carrying.MayEnd page_of setting jobs c
    of_last c None attempt rule is goes = absurd (none_is_some attempt is)
    of_last c (Some last) attempt rule is goes = rule (subst (carrying.Goes page_of setting jobs c) (sym (some_is last attempt is)) goes)

    of_none : (c : Dispatched) (all : List Attempt) → IsSpoken c all → all ≡ [] → IsExcused page_of e jobs jobs c
    of_none c [] spoken none = spoken
    of_none c (attempt ∷ later) spoken none = cc

    abbrev Last : Dispatched → Type 0
    Last a = (attempt : Attempt) → last_of a.dispatch.attempts ≡ Some attempt → GoesOn page_of e jobs jobs a attempt × (length a.dispatch.attempts < 2)

    unused : (lane : ℕ) → 1 ≤ lane → (e.logs lane ≡ []) × (e.notes lane ≡ [])
    unused zero outside = absurd (omega arith)
    unused (suc lane) outside = (beyond talks lane, beyond lines lane)

    abbrev NotedIn : ℕ → List Dispatched → Type 0
    NotedIn lane those = (free : ℕ) × (free ≤ count_by (λ (c : Dispatched). e.setting.wanted_memory c.dispatch.job.task) those)
        × AreNoted Shows signed_body [] 80 free (flat_map (λ (c : Dispatched). numbered_from c 0 c.dispatch.attempts) those) (e.notes lane)

    holds : (broken : Clause) → Parts broken → (clause : Clause) → clause ≢ broken → Says page_of e jobs jobs clause
    holds broken parts Shown other = refl
    holds broken parts Comes other = λ c known. each (carrying.ComesOf page_of setting jobs jobs (once tries)) jobs ((1, tries, refl, refl, parts.comes other), tt) c known
    holds broken parts Lanes other = λ c known. each (λ (d : Dispatched). d.dispatch.lane < 1) jobs (omega arith, tt) c known
    holds broken parts UnusedLanes other = unused
    holds broken parts NothingElse other = λ place lane job marks is. slot (carrying.IsKnown page_of setting jobs jobs) (once tries) (tt, ((sent, at jobs 0 sent refl, refl), tt)) place (entry.Came job lane marks) is
    holds broken parts InTurn other = λ lane. pairs (carrying.InTurn page_of setting jobs) (in_lane lane jobs) (by_lane (λ n those. Pairs (carrying.InTurn page_of setting jobs) those) attempts (tt, tt) (λ n. tt) lane)
    holds broken parts Gained other = by_lane (λ lane those. e.logs lane ≡ flat_map talks_of those) attempts (parts.gained other) (beyond talks)
    holds broken parts Noted other = by_lane NotedIn attempts (0, omega arith, parts.noted other)
        (λ lane. (0, omega arith, subst (λ (notes : List Note). AreNoted Shows signed_body [] 80 0 [] notes) (sym (beyond lines lane)) (carrying.nothing_begins, inl refl)))
    holds broken parts Marks other = λ c k attempt known is.
        inl (shown_by page_of c.ask attempt.talk, body_by page_of c.ask attempt.talk.got, reads page_of c.ask c.limit attempt.talk, slot (carrying.IsMarked page_of setting jobs c) c.dispatch.attempts (each (λ (d : Dispatched). Slots (carrying.IsMarked page_of setting jobs d) d.dispatch.attempts) jobs (parts.marks other, tt) c known) k attempt is, λ wanting. absurd (never_memory page_of attempt.talk.ending c.ask attempt.talk.got wanting))
    holds broken parts Again other = λ c k attempt known is more.
        carrying.would_go_on page_of setting jobs c attempt (slot (carrying.GoesOn page_of setting jobs c) c.dispatch.attempts (each (λ (d : Dispatched). Slots (carrying.GoesOn page_of setting jobs d) d.dispatch.attempts) jobs (parts.again other, tt) c known) k attempt is more)
    holds broken parts GivenAgain other = all_repeats (λ (a b : Dispatched). Last a) jobs (tt, tt)
    holds broken parts AtMost other = λ c known. each (λ (d : Dispatched). d.dispatch.earlier + length d.dispatch.attempts ≤ 2) jobs (parts.at_most other, tt) c known
    holds broken parts ToTheEnd other = λ c attempt known last goes.
        of_last c (last_of c.dispatch.attempts) attempt (each (λ (d : Dispatched). LastEnds d (last_of d.dispatch.attempts)) jobs (parts.ends other, tt) c known) last (carrying.goes_on page_of setting jobs c attempt goes)
    holds broken parts Silent other = λ c known none. of_none c c.dispatch.attempts (each (λ (d : Dispatched). IsSpoken d d.dispatch.attempts) jobs (parts.silent other, tt) c known) none

    alone : (broken : Clause) → IsRefused page_of e → Parts broken → BreaksAlone page_of broken e
    alone broken refusal parts = breaks page_of broken e jobs jobs refusal (scheduled Shows attempts) (holds broken parts)

  -- ---- notes

  said : (all : List Attempt) (number moment : ℕ) (of_mark : Mark) (ending : Ending) (got : List ℕ)
      → IsSaid Shows signed_body [] 80 (record { of = put_with all; number = number; attempt = record { mark = of_mark; talk = sent_at moment ending got } }) moment
  said all number moment of_mark ending got = record { to_host = refl; to_port = refl; text = λ shown b shows. says_whole page_of Shows signed_body [] 80 shown (moment ∷ bytes); beginning = ([], refl) }

  -- ---- the neighbours

  -- answered at its first attempt, in whatever words, to whatever host
  stored_once : (host sent : List ℕ) (noted : List Note) → Parts (mark.Success ∷ []) (record { host = host; port = 80; sent = sent; got = []; ending = Finished } ∷ []) noted Noted
  stored_once host sent noted = record {
    comes = λ other. refl;
    gained = λ other. refl;
    noted = λ other. absurd (other refl);
    marks = λ other. (refl, tt);
    again = λ other. ((λ more. absurd (omega arith)), tt);
    at_most = λ other. omega arith;
    ends = λ other goes. absurd (never goes);
    silent = λ other. tt;
  }

  -- lost at its first attempt and answered at its second one
  stored_then : (noted : List Note) → Parts (mark.Uncertain ∷ mark.Success ∷ []) (lost_at 5 ∷ stored_at 6 ∷ []) noted Noted
  stored_then noted = record {
    comes = λ other. refl;
    gained = λ other. refl;
    noted = λ other. absurd (other refl);
    marks = λ other. (refl, (refl, tt));
    again = λ other. ((λ more. refl), ((λ more. absurd (omega arith)), tt));
    at_most = λ other. omega arith;
    ends = λ other goes. absurd (never goes);
    silent = λ other. tt;
  }

  further_talk : Parts (mark.Success ∷ []) (stored_at 5 ∷ stored_at 6 ∷ []) a_talk Gained
  further_talk = record {
    comes = λ other. refl;
    gained = λ other. absurd (other refl);
    noted = λ other. ([], 5, [], [], refl, carrying.nothing_begins, refl, inl refl, said _ 1 5 mark.Success Finished [], (carrying.nothing_begins, inl refl));
    marks = λ other. (refl, tt);
    again = λ other. ((λ more. absurd (omega arith)), tt);
    at_most = λ other. omega arith;
    ends = λ other goes. absurd (never goes);
    silent = λ other. tt;
  }

  other_mark : Parts (mark.Refusal ∷ []) (stored_at 5 ∷ []) a_talk Marks
  other_mark = record {
    comes = λ other. refl;
    gained = λ other. refl;
    noted = λ other. ([], 5, [], [], refl, carrying.nothing_begins, refl, inl refl, said _ 1 5 mark.Refusal Finished [], (carrying.nothing_begins, inl refl));
    marks = λ other. absurd (other refl);
    again = λ other. ((λ more. absurd (omega arith)), tt);
    at_most = λ other. omega arith;
    ends = λ other goes. absurd (never goes);
    silent = λ other. tt;
  }

  denied_again : Parts (mark.Refusal ∷ mark.Success ∷ []) (denied_at 5 ∷ stored_at 6 ∷ []) (Moment 5 ∷ Began ∷ Pause 1 ∷ Moment 6 ∷ Began ∷ []) Again
  denied_again = record {
    comes = λ other. refl;
    gained = λ other. refl;
    noted = λ other. ([], 5, Pause 1 ∷ Moment 6 ∷ Began ∷ [], [], refl, carrying.nothing_begins, refl, inl refl, said _ 1 5 mark.Refusal Closed _, (Pause 1 ∷ [], 6, [], [], refl, only_pause 1, refl, inl refl, said _ 2 6 mark.Success Finished [], (carrying.nothing_begins, inl refl)));
    marks = λ other. (refl, (refl, tt));
    again = λ other. absurd (other refl);
    at_most = λ other. omega arith;
    ends = λ other goes. absurd (never goes);
    silent = λ other. tt;
  }

  third_attempt : Parts (mark.Uncertain ∷ mark.Uncertain ∷ mark.Success ∷ []) (lost_at 5 ∷ lost_at 6 ∷ stored_at 8 ∷ []) (Moment 5 ∷ Began ∷ Pause 1 ∷ Moment 6 ∷ Began ∷ Pause 2 ∷ Moment 8 ∷ Began ∷ []) AtMost
  third_attempt = record {
    comes = λ other. refl;
    gained = λ other. refl;
    noted = λ other. (
      [],
      5,
      Pause 1 ∷ Moment 6 ∷ Began ∷ Pause 2 ∷ Moment 8 ∷ Began ∷ [],
      [],
      refl,
      carrying.nothing_begins,
      refl,
      inl refl,
      said _ 1 5 mark.Uncertain Failed [],
      (
        Pause 1 ∷ [],
        6,
        Pause 2 ∷ Moment 8 ∷ Began ∷ [],
        [],
        refl,
        only_pause 1,
        refl,
        inl refl,
        said _ 2 6 mark.Uncertain Failed [],
        (Pause 2 ∷ [], 8, [], [], refl, only_pause 2, refl, inl refl, said _ 3 8 mark.Success Finished [], (carrying.nothing_begins, inl refl)),
      ),
    );
    marks = λ other. (refl, (refl, (refl, tt)));
    again = λ other. ((λ more. refl), ((λ more. refl), ((λ more. absurd (omega arith)), tt)));
    at_most = λ other. absurd (other refl);
    ends = λ other goes. absurd (never goes);
    silent = λ other. tt;
  }

  given_up : Parts (mark.Uncertain ∷ []) (lost_at 5 ∷ []) a_talk ToTheEnd
  given_up = record {
    comes = λ other. refl;
    gained = λ other. refl;
    noted = λ other. ([], 5, [], [], refl, carrying.nothing_begins, refl, inl refl, said _ 1 5 mark.Uncertain Failed [], (carrying.nothing_begins, inl refl));
    marks = λ other. (refl, tt);
    again = λ other. ((λ more. absurd (omega arith)), tt);
    at_most = λ other. omega arith;
    ends = λ other. absurd (other refl);
    silent = λ other. tt;
  }

  never_tried : Parts [] [] [] Silent
  never_tried = record {
    comes = λ other. refl;
    gained = λ other. refl;
    noted = λ other. (carrying.nothing_begins, inl refl);
    marks = λ other. tt;
    again = λ other. tt;
    at_most = λ other. omega arith;
    ends = λ other. tt;
    silent = λ other. absurd (other refl);
  }

  -- what was stored at its first attempt, as it should be
  stored : (broken : Clause) → Parts (mark.Success ∷ []) (stored_at 5 ∷ []) a_talk broken
  stored broken = record {
    comes = λ other. refl;
    gained = λ other. refl;
    noted = λ other. ([], 5, [], [], refl, carrying.nothing_begins, refl, inl refl, said _ 1 5 mark.Success Finished [], (carrying.nothing_begins, inl refl));
    marks = λ other. (refl, tt);
    again = λ other. ((λ more. absurd (omega arith)), tt);
    at_most = λ other. omega arith;
    ends = λ other goes. absurd (never goes);
    silent = λ other. tt;
  }

  abbrev the_put : Dispatched
  the_put = sent (mark.Success ∷ []) (stored_at 5 ∷ []) a_talk

  abbrev whole : (broken clause : Clause) → clause ≢ broken → Says page_of refused.whole_run (the_put ∷ []) (the_put ∷ []) clause
  whole broken clause other = holds (mark.Success ∷ []) (stored_at 5 ∷ []) a_talk broken (stored broken) clause other

  came_twice : (clause : Clause) → clause ≢ NothingElse → Says page_of refused.came_twice (the_put ∷ []) (the_put ∷ []) clause
  came_twice Shown other = refl
  came_twice Comes other = λ c known. each (carrying.ComesOf page_of setting (the_put ∷ []) (the_put ∷ []) refused.came_twice.journal) (the_put ∷ []) ((1, mark.Success ∷ [], refl, refl, refl), tt) c known
  came_twice NothingElse other = absurd (other refl)
  came_twice clause other = whole NothingElse clause other

  moment_beyond : (clause : Clause) → clause ≢ UnusedLanes → Says page_of refused.moment_beyond (the_put ∷ []) (the_put ∷ []) clause
  moment_beyond UnusedLanes other = absurd (other refl)
  moment_beyond Noted other = by_lane (λ lane those. (free : ℕ) × (free ≤ count_by (λ (c : Dispatched). setting.wanted_memory c.dispatch.job.task) those)
      × AreNoted Shows signed_body [] 80 free (flat_map (λ (c : Dispatched). numbered_from c 0 c.dispatch.attempts) those) (refused.moment_beyond.notes lane)) (the_put.dispatch.attempts)
      (0, omega arith, (stored UnusedLanes).noted other)
      (λ lane. (0, omega arith, subst (λ (notes : List Note). AreNoted Shows signed_body [] 80 0 [] notes) (sym (elsewhere lane)) (only_moment, inl refl)))
    where
      elsewhere : (lane : ℕ) → refused.moment_beyond.notes (suc lane) ≡ Moment 5 ∷ []
      elsewhere lane = let other : (suc lane == 0) ≡ false = grind arith in rw other refl

      only_moment : ¬ (Contains (Moment 5 ∷ []) Began)
      only_moment h = each (λ (note : Note). note ≡ Began → ⊥) (Moment 5 ∷ []) (differs, tt) Began h refl
        where
          differs : Moment 5 ≡ Began → ⊥
          differs same = cc
  moment_beyond clause other = whole UnusedLanes clause other

  abbrev refusals : WiresAreRefused page_of
  refusals = refuted.wires page_of

  wires : WiresBreakAlone page_of
  wires = record {
    all_clauses = clauses_are_all page_of;
    further_talk = alone _ _ _ Gained refusals.further_talk further_talk;
    other_moment = alone _ _ _ Noted refusals.other_moment (stored_once [] (6 ∷ bytes) a_talk);
    other_body = alone _ _ _ Noted refusals.other_body (stored_once [] (5 ∷ 1 ∷ 3 ∷ []) a_talk);
    partly_sent = alone _ _ _ Noted refusals.partly_sent (stored_once [] (5 ∷ 1 ∷ []) a_talk);
    other_host = alone _ _ _ Noted refusals.other_host (stored_once (120 ∷ []) (5 ∷ bytes) a_talk);
    untold_talk = alone _ _ _ Noted refusals.untold_talk (stored_once [] (5 ∷ bytes) (Moment 5 ∷ Began ∷ Moment 6 ∷ Began ∷ []));
    no_pause = alone _ _ _ Noted refusals.no_pause (stored_then (Moment 5 ∷ Began ∷ Moment 6 ∷ Began ∷ []));
    longer_pause = alone _ _ _ Noted refusals.longer_pause (stored_then (Moment 5 ∷ Began ∷ Pause 2 ∷ Moment 6 ∷ Began ∷ []));
    other_mark = alone _ _ _ Marks refusals.other_mark other_mark;
    denied_again = alone _ _ _ Again refusals.denied_again denied_again;
    third_attempt = alone _ _ _ AtMost refusals.third_attempt third_attempt;
    given_up = alone _ _ _ ToTheEnd refusals.given_up given_up;
    never_tried = alone _ _ _ Silent refusals.never_tried never_tried;
    came_twice = breaks page_of NothingElse refused.came_twice (the_put ∷ []) (the_put ∷ []) refusals.came_twice (scheduled Shows the_put.dispatch.attempts) came_twice;
    moment_beyond = breaks page_of UnusedLanes refused.moment_beyond (the_put ∷ []) (the_put ∷ []) refusals.moment_beyond (scheduled Shows the_put.dispatch.attempts) moment_beyond;
    never_came = by_jobs.never_came_alone page_of;
    denied_given_again = by_jobs.denied_given_again_alone page_of;
    silent_never_came = by_jobs.silent_never_came_alone page_of;
    silent_other_lane = by_jobs.silent_other_lane_alone page_of;
    silent_out_of_turn = by_jobs.silent_out_of_turn_alone page_of;
  }

pub each_wire_breaks_alone : EachWireBreaksAlone
each_wire_breaks_alone page_of = wires page_of
