-- Traces of the small upload that break one clause alone.
use Rattle.std.proofs.Common.{◌≡◌, ◌∙◌, ◌==◌, ◌<◌, ℕ, zero, suc, false, List, [], ◌∷◌, Some, refl, sym, inl, filter, filter_map, length, take, slice_get, arith}
use Rattle.std.specs.Prelude.{◌≢◌, flat_map}
use Rattle.s3_model.specs.declared.answers.Listed.{Listed}
use Rattle.s3_model.specs.declared.answers.Class.TheVariants as class
use Rattle.s3_model.specs.declared.answers.Reply.{Reply}
use Rattle.s3_model.specs.declared.answers.Reply.TheVariants as reply
use Rattle.s3_model.specs.declared.answers.Why.TheVariants as why
use Rattle.s3_model.specs.declared.outcomes.Event.{Event}
use Rattle.s3_model.specs.declared.tries.Mark.TheVariants as mark
use Rattle.s3_model.specs.Talks.{Talk, Note}
use Rattle.s3_model.specs.declared.places.Place.TheVariants as place
use Rattle.s3_model.specs.declared.tasks.Task.{Task}
use Rattle.s3_service.specs.ServiceState.{HasBucket, objects_in}
use Rattle.std.specs.FinMap.{insert}
use Rattle.s3_service.specs.Serves.{Replied, Removes, Writes}
use Rattle.job_terms.specs.Dispatches.{Attempt, Dispatched}
use Rattle.run_promise.specs.Fits.{requests_of}
use Rattle.run_promise.specs.Schedule.{IsSchedule}
use Rattle.run_promise.specs.Traces.{External, IsSameAttempt, Serve, Step, TraceEvent, Begin, Came, Given, begun_in, event_of, events_of, served_in, states}
use Rattle.run_promise.specs.Truthful.{IsDest}
use Rattle.shared_lemmas.proofs.Clashes.{false_true as never}
use Rattle.shared_lemmas.proofs.Lists.{head_is}
use Rattle.promise_examples.specs.GivenAgain.{bytes, put_job}
use Rattle.promise_examples.specs.Misfits as misfits
use Rattle.promise_examples.specs.Misfits.{before, bucket, key, other_key, request, stored, written_again, with_byte, first_content}
use Rattle.promise_examples.specs.Lies.{lost_twice}
use Rattle.promise_examples.specs.Refused.{lost_at, run, setting, task, whole_run}
use Rattle.promise_examples.specs.Runs.{Example}
use Rattle.promise_examples.specs.Services.{object_of}
use Rattle.promise_examples.specs.TraceBreaks.{TraceClause, Moves, Begins, SinceGiven, UntilCame, Once, Answers, Served, Runs, OneContent, NotWritten, NotRemoved, SaysOfTrace, Carries, Shows, IsFit, TraceClausesAreAll, BreaksTraceAlone, TracesBreakAlone, EachTraceBreaksAlone}
use Rattle.promise_examples.proofs.Answers.{answers_follow}
use Rattle.promise_examples.proofs.Carrying as carrying
use Rattle.promise_examples.proofs.Clauses.{every_trace_clause}
use Rattle.promise_examples.proofs.Concrete.{Each, each, each_passing, Slots, slot, Pairs, pairs, Cuts, cut, at}
use Rattle.promise_examples.proofs.Fitting as fitting
use Rattle.promise_examples.proofs.Honest.{has_bucket}
use Rattle.promise_examples.proofs.Misfits as refuted
use Rattle.promise_examples.proofs.Noting as noting
use Rattle.promise_examples.proofs.SmallPut as small
use Rattle.promise_examples.proofs.WholePut as whole
use Rattle.world_laws.proofs.Faithful.{IsFaithful, faithful_with, faithful_without}

lost_success : (said : Reply) → class.Uncertain why.WireFailed ≡ class.Success said → ⊥
lost_success said e = cc

lost_refusal : (code message : List ℕ) → class.Uncertain why.WireFailed ≡ class.Refusal code message → ⊥
lost_refusal code message e = cc

bucket_stays : HasBucket stored bucket
bucket_stays = has_bucket before bucket (insert (objects_in before bucket) key (object_of bytes))

bucket_still : HasBucket first_content bucket
bucket_still = has_bucket stored bucket (insert (objects_in stored bucket) other_key (with_byte 8))

abbrev IsKept : List ℕ → List ℕ → Type 0
IsKept = IsDest whole_run.setting.tasks

-- nobody else writes, or removes, the destination
abbrev WriteRule : TraceEvent → Type 0
WriteRule (External (Writes b k object)) = ¬ (IsKept b k)
WriteRule event = Unit {0}

abbrev RemoveRule : TraceEvent → Type 0
RemoveRule (External (Removes b k)) = ¬ (IsKept b k)
RemoveRule event = Unit {0}

elsewhere : ¬ (IsKept bucket other_key)
elsewhere dest = each (λ (t : Task). t.dest ≡ place.Object bucket other_key → ⊥) (task ∷ []) (other, tt) dest.0 dest.1 dest.2
  where
    keys : (b k c l : List ℕ) → place.Object b k ≡ place.Object c l → k ≡ l
    keys b k c l e = cc

    other : place.Object bucket key ≡ place.Object bucket other_key → ⊥
    other e = let byte : ◌≡◌ {A = ℕ} 117 118 = head_is 117 118 [] [] (keys bucket key bucket other_key e) in omega arith

module _ (page_of : List ℕ → Listed) where
  -- ---- the clauses are all

  says_of : (e : Example) (dispatched : List Dispatched) (trace : List Step) → IsFit page_of e dispatched trace → (rule : TraceClause) → SaysOfTrace page_of e dispatched trace rule
  says_of e dispatched trace fit Moves = fit.fits.moves
  says_of e dispatched trace fit Begins = fit.fits.begins
  says_of e dispatched trace fit SinceGiven = fit.fits.since_given
  says_of e dispatched trace fit UntilCame = fit.fits.until_came
  says_of e dispatched trace fit Once = fit.fits.once
  says_of e dispatched trace fit Answers = fit.fits.answers
  says_of e dispatched trace fit Served = fit.fits.served
  says_of e dispatched trace fit Runs = fit.runs
  says_of e dispatched trace fit OneContent = fit.honest.one_content
  says_of e dispatched trace fit NotWritten = fit.honest.not_written
  says_of e dispatched trace fit NotRemoved = fit.honest.not_removed

  fit_of : (e : Example) (dispatched : List Dispatched) (trace : List Step) → ((rule : TraceClause) → SaysOfTrace page_of e dispatched trace rule) → IsFit page_of e dispatched trace
  fit_of e dispatched trace all = record {
    runs = all Runs;
    honest = record { one_content = all OneContent; not_written = all NotWritten; not_removed = all NotRemoved };
    fits = record {
      moves = all Moves;
      begins = all Begins;
      since_given = all SinceGiven;
      until_came = all UntilCame;
      once = all Once;
      answers = all Answers;
      served = all Served;
    };
  }

  all_clauses : TraceClausesAreAll page_of
  all_clauses e dispatched trace = (fit_of e dispatched trace, says_of e dispatched trace)

  -- ---- by what is written out

  -- a run of the small upload with this journal, these talks and these notes
  module _ (journal : List Event) (logs : ℕ → List Talk) (notes : ℕ → List Note) (jobs : List Dispatched) (trace : List Step) where
    abbrev Holds : TraceClause → Type 0
    Holds rule = SaysOfTrace page_of (run journal logs notes) jobs trace rule

    -- what is to be shown of each clause but the broken one
    record Parts (broken : TraceClause) : Type 0 where
      moves : Moves ≢ broken → Holds Moves
      begins : Begins ≢ broken → Holds Begins
      since_given : SinceGiven ≢ broken → Cuts fitting.GivenRule (events_of trace)
      until_came : UntilCame ≢ broken → Cuts fitting.CameRule (events_of trace)
      once : Once ≢ broken → Pairs (λ a b. ¬ (IsSameAttempt a b)) (filter_map served_in (events_of trace))
      answers : Answers ≢ broken → Each (fitting.AnswerRule (Shows page_of) jobs) (events_of trace)
      served : Served ≢ broken → Cuts (fitting.ServedRule (Shows page_of) jobs) (events_of trace)
      runs : Runs ≢ broken → Holds Runs
      one_content : OneContent ≢ broken → Each IsFaithful (states before trace)
      not_written : NotWritten ≢ broken → Each WriteRule (events_of trace)
      not_removed : NotRemoved ≢ broken → Each RemoveRule (events_of trace)

    holds : (broken : TraceClause) → Parts broken → (rule : TraceClause) → rule ≢ broken → Holds rule
    holds broken parts Moves other = parts.moves other
    holds broken parts Begins other = parts.begins other
    holds broken parts SinceGiven other = λ front back job lane e. cut fitting.GivenRule (events_of trace) (parts.since_given other) front (Given job lane) back e
    holds broken parts UntilCame other = λ front back job lane tries e. cut fitting.CameRule (events_of trace) (parts.until_came other) front (Came job lane tries) back e
    holds broken parts Once other = pairs (λ a b. ¬ (IsSameAttempt a b)) (filter_map served_in (events_of trace)) (parts.once other)
    holds broken parts Answers other = λ said answer happened. each (fitting.AnswerRule (Shows page_of) jobs) (events_of trace) (parts.answers other) (Serve said answer) happened
    holds broken parts Served other = λ front back job lane tries c place attempt shown b e known of_job came is_attempt shows certain.
        let here = cut (fitting.ServedRule (Shows page_of) jobs) (events_of trace) (parts.served other) front (Came job lane tries) back e in
        let n : ℕ = length (filter_map event_of front) in
        let of_c = each_passing (fitting.came_at n) (λ (d : Dispatched). Slots (fitting.IsServed (Shows page_of) jobs front d) d.dispatch.attempts) jobs here c known (fitting.passes_place n c.dispatch.came_at came) in
        slot (fitting.IsServed (Shows page_of) jobs front c) c.dispatch.attempts of_c place attempt is_attempt shown b shows certain
    holds broken parts Runs other = parts.runs other
    holds broken parts OneContent other = λ t u b k x y among_t among_u at_t at_u same.
        sym (each IsFaithful (states before trace) (parts.one_content other) t among_t b k x at_t) ∙ same ∙ each IsFaithful (states before trace) (parts.one_content other) u among_u b k y at_u
    holds broken parts NotWritten other = λ b k object happened. each WriteRule (events_of trace) (parts.not_written other) (External (Writes b k object)) happened
    holds broken parts NotRemoved other = λ b k happened. each RemoveRule (events_of trace) (parts.not_removed other) (External (Removes b k)) happened

  -- ---- the upload that was stored

  abbrev jobs : List Dispatched
  jobs = whole.jobs page_of

  abbrev sent : Dispatched
  sent = whole.sent page_of

  abbrev Stored : List Step → TraceClause → Type 0
  Stored trace broken = Parts whole_run.journal whole_run.logs whole_run.notes jobs trace broken

  stored_carried : Carries page_of whole_run jobs jobs
  stored_carried = carrying.carried page_of setting jobs _ _ _ jobs (whole.written page_of)

  -- a trace that is refused breaks the clause that is left
  alone : (trace : List Step) (broken : TraceClause) → misfits.IsUnfit page_of trace → Stored trace broken → BreaksTraceAlone page_of whole_run broken trace
  alone trace broken unfit parts = (jobs, jobs, scheduled, stored_carried, others, broke)
    where
      scheduled : IsSchedule (Shows page_of) whole_run.setting (λ planning. planning ≡ []) jobs jobs
      scheduled = small.scheduled (Shows page_of) (whole.well page_of ∷ [])

      others : (rule : TraceClause) → rule ≢ broken → SaysOfTrace page_of whole_run jobs trace rule
      others = holds whole_run.journal whole_run.logs whole_run.notes jobs trace broken parts

      broke : ¬ (SaysOfTrace page_of whole_run jobs trace broken)
      broke says =
          let fit = fit_of whole_run jobs trace (every_trace_clause (λ rule. SaysOfTrace page_of whole_run jobs trace rule) broken others says) in
          unfit jobs jobs scheduled stored_carried fit.runs fit.honest fit.fits

  -- ---- what is in each trace

  served_at : (front : List TraceEvent) (k : ℕ) → slice_get front k ≡ Some (Serve (request 1) (Replied reply.Stored [])) → fitting.IsServed (Shows page_of) jobs front sent 0 (whole.well page_of)
  served_at front k is shown b shows certain = (Replied reply.Stored [], at front k _ is, whole.named page_of shown b shows)

  still : IsFaithful before
  still = whole.still page_of

  now : IsFaithful stored
  now = whole.now page_of

  again : IsFaithful written_again
  again = faithful_with stored bucket key bytes now

  never_given : Stored misfits.never_given Moves
  never_given = record {
    moves = λ other. absurd (other refl);
    begins = λ other. whole.begins page_of;
    since_given = λ other. (tt, (tt, (tt, tt)));
    until_came = λ other. (tt, (tt, (refl, tt)));
    once = λ other. (tt, tt);
    answers = λ other. (tt, (whole.answered page_of, (tt, tt)));
    served = λ other. (tt, (tt, (tt, tt)));
    runs = λ other. (refl, (((0, omega arith, refl), (whole.there page_of, (λ fresh. absurd (never fresh)), (object_of bytes, refl, refl))), (refl, tt)));
    one_content = λ other. (still, (still, (now, (now, tt))));
    not_written = λ other. (tt, (tt, (tt, tt)));
    not_removed = λ other. (tt, (tt, (tt, tt)));
  }

  other_lane : Stored misfits.other_lane Begins
  other_lane = record {
    moves = λ other. refl;
    begins = λ other. absurd (other refl);
    since_given = λ other. (refl, (tt, (tt, (tt, tt))));
    until_came = λ other. (tt, (tt, (tt, (refl, tt))));
    once = λ other. (tt, tt);
    answers = λ other. (tt, (tt, (whole.answered page_of, (tt, tt))));
    served = λ other. (tt, (tt, (tt, (((served_at (take 3 (events_of misfits.other_lane)) 2 refl, tt), tt), tt))));
    runs = λ other. (refl, (refl, (((0, omega arith, refl), (whole.there page_of, (λ fresh. absurd (never fresh)), (object_of bytes, refl, refl))), (refl, tt))));
    one_content = λ other. (still, (still, (still, (now, (now, tt)))));
    not_written = λ other. (tt, (tt, (tt, (tt, tt))));
    not_removed = λ other. (tt, (tt, (tt, (tt, tt))));
  }

  begun_before_given : Stored misfits.begun_before_given SinceGiven
  begun_before_given = record {
    moves = λ other. refl;
    begins = λ other. whole.begins page_of;
    since_given = λ other. absurd (other refl);
    until_came = λ other. (tt, (tt, (tt, (refl, tt))));
    once = λ other. (tt, tt);
    answers = λ other. (tt, (tt, (whole.answered page_of, (tt, tt))));
    served = λ other. (tt, (tt, (tt, (((served_at (take 3 (events_of misfits.begun_before_given)) 2 refl, tt), tt), tt))));
    runs = λ other. (refl, (refl, (((0, omega arith, refl), (whole.there page_of, (λ fresh. absurd (never fresh)), (object_of bytes, refl, refl))), (refl, tt))));
    one_content = λ other. (still, (still, (still, (now, (now, tt)))));
    not_written = λ other. (tt, (tt, (tt, (tt, tt))));
    not_removed = λ other. (tt, (tt, (tt, (tt, tt))));
  }

  served_twice : Stored misfits.served_twice Once
  served_twice = record {
    moves = λ other. refl;
    begins = λ other. whole.begins page_of;
    since_given = λ other. (refl, (tt, (tt, (tt, (tt, tt)))));
    until_came = λ other. (tt, (tt, (tt, (tt, (refl, tt)))));
    once = λ other. absurd (other refl);
    answers = λ other. (tt, (tt, (whole.answered page_of, (whole.answered page_of, (tt, tt)))));
    served = λ other. (tt, (tt, (tt, (tt, (((served_at (take 4 (events_of misfits.served_twice)) 2 refl, tt), tt), tt)))));
    runs = λ other. (refl, (refl, (((0, omega arith, refl), (whole.there page_of, (λ fresh. absurd (never fresh)), (object_of bytes, refl, refl))), (((0, omega arith, refl), (bucket_stays, (λ fresh. absurd (never fresh)), (object_of bytes, refl, refl))), (refl, tt)))));
    one_content = λ other. (still, (still, (still, (now, (again, (again, tt))))));
    not_written = λ other. (tt, (tt, (tt, (tt, (tt, tt)))));
    not_removed = λ other. (tt, (tt, (tt, (tt, (tt, tt)))));
  }

  never_served : Stored misfits.never_served Served
  never_served = record {
    moves = λ other. refl;
    begins = λ other. whole.begins page_of;
    since_given = λ other. (refl, (tt, (tt, tt)));
    until_came = λ other. (tt, (tt, (refl, tt)));
    once = λ other. tt;
    answers = λ other. (tt, (tt, (tt, tt)));
    served = λ other. absurd (other refl);
    runs = λ other. (refl, (refl, (refl, tt)));
    one_content = λ other. (still, (still, (still, (still, tt))));
    not_written = λ other. (tt, (tt, (tt, tt)));
    not_removed = λ other. (tt, (tt, (tt, tt)));
  }

  served_after_came : Stored misfits.served_after_came Served
  served_after_came = record {
    moves = λ other. refl;
    begins = λ other. whole.begins page_of;
    since_given = λ other. (refl, (tt, (tt, (tt, tt))));
    until_came = λ other. (tt, (tt, (refl, (tt, tt))));
    once = λ other. (tt, tt);
    answers = λ other. (tt, (tt, (tt, (whole.answered page_of, tt))));
    served = λ other. absurd (other refl);
    runs = λ other. (refl, (refl, (refl, (((0, omega arith, refl), (whole.there page_of, (λ fresh. absurd (never fresh)), (object_of bytes, refl, refl))), tt))));
    one_content = λ other. (still, (still, (still, (still, (now, tt)))));
    not_written = λ other. (tt, (tt, (tt, (tt, tt))));
    not_removed = λ other. (tt, (tt, (tt, (tt, tt))));
  }

  served_before_begun : Stored misfits.served_before_begun Runs
  served_before_begun = record {
    moves = λ other. refl;
    begins = λ other. whole.begins page_of;
    since_given = λ other. (refl, (tt, (tt, (tt, tt))));
    until_came = λ other. (tt, (tt, (tt, (refl, tt))));
    once = λ other. (tt, tt);
    answers = λ other. (tt, (whole.answered page_of, (tt, (tt, tt))));
    served = λ other. (tt, (tt, (tt, (((served_at (take 3 (events_of misfits.served_before_begun)) 1 refl, tt), tt), tt))));
    runs = λ other. absurd (other refl);
    one_content = λ other. (still, (still, (now, (now, (now, tt)))));
    not_written = λ other. (tt, (tt, (tt, (tt, tt))));
    not_removed = λ other. (tt, (tt, (tt, (tt, tt))));
  }

  two_contents : Stored misfits.two_contents OneContent
  two_contents = record {
    moves = λ other. refl;
    begins = λ other. whole.begins page_of;
    since_given = λ other. (refl, (tt, (tt, (tt, (tt, (tt, tt))))));
    until_came = λ other. (tt, (tt, (tt, (refl, (tt, (tt, tt))))));
    once = λ other. (tt, tt);
    answers = λ other. (tt, (tt, (whole.answered page_of, (tt, (tt, (tt, tt))))));
    served = λ other. (tt, (tt, (tt, (((served_at (take 3 (events_of misfits.two_contents)) 2 refl, tt), tt), (tt, (tt, tt))))));
    runs = λ other. (refl, (refl, (((0, omega arith, refl), (whole.there page_of, (λ fresh. absurd (never fresh)), (object_of bytes, refl, refl))), (refl, ((bucket_stays, refl), ((bucket_still, refl), tt))))));
    one_content = λ other. absurd (other refl);
    not_written = λ other. (tt, (tt, (tt, (tt, (elsewhere, (elsewhere, tt))))));
    not_removed = λ other. (tt, (tt, (tt, (tt, (tt, (tt, tt))))));
  }

  overwritten : Stored misfits.overwritten NotWritten
  overwritten = record {
    moves = λ other. refl;
    begins = λ other. whole.begins page_of;
    since_given = λ other. (refl, (tt, (tt, (tt, (tt, tt)))));
    until_came = λ other. (tt, (tt, (tt, (refl, (tt, tt)))));
    once = λ other. (tt, tt);
    answers = λ other. (tt, (tt, (whole.answered page_of, (tt, (tt, tt)))));
    served = λ other. (tt, (tt, (tt, (((served_at (take 3 (events_of misfits.overwritten)) 2 refl, tt), tt), (tt, tt)))));
    runs = λ other. (refl, (refl, (((0, omega arith, refl), (whole.there page_of, (λ fresh. absurd (never fresh)), (object_of bytes, refl, refl))), (refl, ((bucket_stays, refl), tt)))));
    one_content = λ other. (still, (still, (still, (now, (now, (again, tt))))));
    not_written = λ other. absurd (other refl);
    not_removed = λ other. (tt, (tt, (tt, (tt, (tt, tt)))));
  }

  removed : Stored misfits.removed NotRemoved
  removed = record {
    moves = λ other. refl;
    begins = λ other. whole.begins page_of;
    since_given = λ other. (refl, (tt, (tt, (tt, (tt, tt)))));
    until_came = λ other. (tt, (tt, (tt, (refl, (tt, tt)))));
    once = λ other. (tt, tt);
    answers = λ other. (tt, (tt, (whole.answered page_of, (tt, (tt, tt)))));
    served = λ other. (tt, (tt, (tt, (((served_at (take 3 (events_of misfits.removed)) 2 refl, tt), tt), (tt, tt)))));
    runs = λ other. (refl, (refl, (((0, omega arith, refl), (whole.there page_of, (λ fresh. absurd (never fresh)), (object_of bytes, refl, refl))), (refl, ((bucket_stays, refl), tt)))));
    one_content = λ other. (still, (still, (still, (now, (now, (faithful_without stored bucket key now, tt))))));
    not_written = λ other. (tt, (tt, (tt, (tt, (tt, tt)))));
    not_removed = λ other. absurd (other refl);
  }

  -- ---- an upload that was lost twice, and began again after it came

  abbrev lost : ℕ → Attempt
  lost moment = record { mark = mark.Uncertain; talk = lost_at moment }

  abbrev put_lost : Dispatched
  put_lost = small.put_with (lost 5 ∷ lost 6 ∷ [])

  abbrev lost_jobs : List Dispatched
  lost_jobs = put_lost ∷ []

  lost_lane : (lane : ℕ) → lane < 1 → carrying.IsLane page_of setting lost_jobs lost_twice.logs lost_twice.notes lost_jobs lane
  lost_lane zero used = record {
    in_turn = (tt, tt);
    gained = refl;
    noted = noting.first page_of (noting.nth 1 put_lost (lost 5)) 5 (noting.nth 2 put_lost (lost 6) ∷ []) _ refl (refl, refl, refl)
        (noting.second page_of (noting.nth 2 put_lost (lost 6)) 6 [] _ refl (refl, refl, refl) (noting.done page_of));
  }
  lost_lane (suc lane) used = absurd (omega arith)

  lost_written : carrying.IsWritten page_of setting lost_jobs lost_twice.journal lost_twice.logs lost_twice.notes lost_jobs
  lost_written = record {
    shown = refl;
    comes = ((1, mark.Uncertain ∷ mark.Uncertain ∷ [], refl, refl, refl), tt);
    inside = (omega arith, tt);
    unused = λ lane beyond. (carrying.none_in _ lane beyond, carrying.none_in _ lane beyond);
    known = (tt, ((put_lost, at lost_jobs 0 put_lost refl, refl), tt));
    lanes = lost_lane;
    marks = ((refl, (refl, tt)), tt);
    again = (((λ more. refl), ((λ more. absurd (omega arith)), tt)), tt);
    given_again = (tt, tt);
    at_most = (omega arith, tt);
    ends = ((λ goes. inl refl), tt);
  }

  begins_lost : (lane : ℕ) → filter_map (begun_in lane) (events_of misfits.begun_late) ≡ flat_map requests_of (filter (λ (c : Dispatched). c.dispatch.lane == lane) lost_jobs)
  begins_lost zero = refl
  begins_lost (suc lane) =
      let a : (suc lane == 0) ≡ false = grind arith in
      let b : (0 == suc lane) ≡ false = grind arith in
      rw (a, b) refl

  -- of a lost talk nothing is certain
  none_certain : (place : ℕ) (moment : ℕ) → fitting.IsServed (Shows page_of) lost_jobs (take 2 (events_of misfits.begun_late)) put_lost place (lost moment)
  none_certain place moment (class.Success said) b shows certain = absurd (lost_success said shows.0)
  none_certain place moment (class.Refusal code message) b shows certain = absurd (lost_refusal code message shows.0)
  none_certain place moment (class.Uncertain why) b shows certain = absurd certain

  begun_late : Parts lost_twice.journal lost_twice.logs lost_twice.notes lost_jobs misfits.begun_late UntilCame
  begun_late = record {
    moves = λ other. refl;
    begins = λ other. begins_lost;
    since_given = λ other. (refl, (tt, (tt, (tt, tt))));
    until_came = λ other. absurd (other refl);
    once = λ other. tt;
    answers = λ other. (tt, (tt, (tt, (tt, tt))));
    served = λ other. (tt, (tt, (((none_certain 0 5, (none_certain 1 6, tt)), tt), (tt, tt))));
    runs = λ other. (refl, (refl, (refl, (refl, tt))));
    one_content = λ other. (still, (still, (still, (still, (still, tt)))));
    not_written = λ other. (tt, (tt, (tt, (tt, tt))));
    not_removed = λ other. (tt, (tt, (tt, (tt, tt))));
  }

  -- one began, and two came
  not_until : ¬ (SaysOfTrace page_of lost_twice lost_jobs misfits.begun_late UntilCame)
  not_until says = let n : ◌≡◌ {A = ℕ} 1 2 = says (Given put_job 0 ∷ Begin 0 (request 1) ∷ []) (Begin 0 (request 2) ∷ []) put_job 0 (mark.Uncertain ∷ mark.Uncertain ∷ []) refl in omega arith

  late_alone : BreaksTraceAlone page_of lost_twice UntilCame misfits.begun_late
  late_alone = (
    lost_jobs,
    lost_jobs,
    small.scheduled (Shows page_of) (lost 5 ∷ lost 6 ∷ []),
    carrying.carried page_of setting lost_jobs _ _ _ lost_jobs lost_written,
    holds lost_twice.journal lost_twice.logs lost_twice.notes lost_jobs misfits.begun_late UntilCame begun_late,
    not_until,
  )

  abbrev refusals : misfits.TracesAreRefused page_of
  refusals = refuted.traces page_of

  pub trace_breaks : TracesBreakAlone page_of
  trace_breaks = record {
    all_clauses = all_clauses;
    answers_follow = answers_follow page_of;
    begun_late = late_alone;
    never_given = alone misfits.never_given Moves refusals.never_given never_given;
    other_lane = alone misfits.other_lane Begins refusals.other_lane other_lane;
    begun_before_given = alone misfits.begun_before_given SinceGiven refusals.begun_before_given begun_before_given;
    served_twice = alone misfits.served_twice Once refusals.served_twice served_twice;
    never_served = alone misfits.never_served Served refusals.never_served never_served;
    served_after_came = alone misfits.served_after_came Served refusals.served_after_came served_after_came;
    served_before_begun = alone misfits.served_before_begun Runs refusals.served_before_begun served_before_begun;
    two_contents = alone misfits.two_contents OneContent refusals.two_contents two_contents;
    overwritten = alone misfits.overwritten NotWritten refusals.overwritten overwritten;
    removed = alone misfits.removed NotRemoved refusals.removed removed;
  }

pub each_trace_breaks_alone : EachTraceBreaksAlone
each_trace_breaks_alone page_of = trace_breaks page_of
