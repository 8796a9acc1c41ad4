-- A small upload beside which somebody else writes and removes another object.
use Rattle.std.proofs.Common.{◌≡◌, ◌∙◌, ◌==◌, ℕ, zero, suc, false, List, [], ◌∷◌, Some, None, refl, sym, ap, subst, inl, inr, filter, filter_map, take, slice_get, Contains, arith}
use Rattle.std.specs.Prelude.{flat_map}
use Rattle.s3_model.specs.declared.answers.Listed.{Listed}
use Rattle.s3_model.specs.declared.answers.Reply.TheVariants as reply
use Rattle.s3_model.specs.declared.outcomes.JobId.{JobId}
use Rattle.s3_model.specs.declared.outcomes.Outcome.{Outcome}
use Rattle.s3_model.specs.declared.outcomes.Outcome.TheVariants as outcome
use Rattle.s3_model.specs.declared.places.Place.TheVariants as place
use Rattle.s3_model.specs.declared.tasks.Task.{Task}
use Rattle.s3_model.specs.declared.tries.Mark.{Mark}
use Rattle.s3_service.specs.ServiceState.{HasBucket, Object}
use Rattle.s3_service.specs.Serves.{Answer, ExternalWrite, Removes, Replied, Writes}
use Rattle.job_terms.specs.Dispatches.{Dispatched}
use Rattle.run_promise.specs.Fits.{Fits, requests_of}
use Rattle.run_promise.specs.Outcomes.{HasOutcome}
use Rattle.run_promise.specs.Schedule.{IsFailed}
use Rattle.run_promise.specs.Traces.{Begin, Came, External, Given, IsHonest, IsTrace, SentRequest, Serve, TraceEvent, begun_in, events_of, states}
use Rattle.run_promise.specs.Truthful.{IsDest}
use Rattle.shared_lemmas.proofs.Clashes.{false_true as never}
use Rattle.shared_lemmas.proofs.Lists.{head_is}
use Rattle.world_laws.proofs.Faithful.{IsFaithful, faithful_with, faithful_without}
use Rattle.promise_examples.specs.GivenAgain.{bytes}
use Rattle.promise_examples.specs.Misfits.{before, bucket, key, other_key}
use Rattle.promise_examples.specs.Reading.{HasNoStatus, NeverFailed, Reads}
use Rattle.promise_examples.specs.Refused.{limits, task, whole_run}
use Rattle.promise_examples.specs.Services.{object_of}
use Rattle.promise_examples.proofs.Concrete.{Each, at, each, none_is_some, some_is}
use Rattle.promise_examples.proofs.Carrying as carrying
use Rattle.promise_examples.proofs.Fitting as fitting
use Rattle.promise_examples.proofs.Honest.{has_bucket, one_bucket_is_faithful}
use Rattle.promise_examples.proofs.Scheduling as scheduling
use Rattle.promise_examples.proofs.SmallPut as small
use Rattle.promise_examples.proofs.WholePut as whole
use Rattle.rare_runs.specs.ShortRuns.{ExternalWriteIsMet, beside_trace, removed, stored, written}

abbrev beside : Object
beside = object_of (8 ∷ [])

-- ---- what the service does

still_there : HasBucket written bucket
still_there = has_bucket before bucket _

there_after : HasBucket stored bucket
there_after = has_bucket written bucket _

-- ---- nobody else writes the destination

given_external : (job : JobId) (lane : ℕ) (write : ExternalWrite) → Given job lane ≡ External write → ⊥
given_external job lane write e = cc

begin_external : (lane : ℕ) (sent : SentRequest) (write : ExternalWrite) → Begin lane sent ≡ External write → ⊥
begin_external lane sent write e = cc

serve_external : (sent : SentRequest) (answer : Answer) (write : ExternalWrite) → Serve sent answer ≡ External write → ⊥
serve_external sent answer write e = cc

came_external : (job : JobId) (lane : ℕ) (tries : List Mark) (write : ExternalWrite) → Came job lane tries ≡ External write → ⊥
came_external job lane tries write e = cc

abbrev key_of : ExternalWrite → List ℕ
key_of (Writes of_bucket of_key object) = of_key
key_of (Removes of_bucket of_key) = of_key

same_write : (a b : ExternalWrite) → External a ≡ External b → a ≡ b
same_write a b e = cc

same_key : (a b c d : List ℕ) → place.Object a b ≡ place.Object c d → b ≡ d
same_key a b c d e = cc

keys_apart : other_key ≡ key → ⊥
keys_apart e = let byte : ◌≡◌ {A = ℕ} 118 117 = head_is 118 117 [] [] e in omega arith

-- who writes in this trace writes the other key
only_other : (write : ExternalWrite) → Each (λ (event : TraceEvent). event ≡ External write → other_key ≡ key_of write) (events_of beside_trace)
only_other write = (
  (λ e. absurd (given_external _ _ write e)),
  (
    (λ e. absurd (begin_external _ _ write e)),
    (
      (λ e. ap key_of (same_write (Writes bucket other_key beside) write e)),
      (
        (λ e. absurd (serve_external _ _ write e)),
        ((λ e. ap key_of (same_write (Removes bucket other_key) write e)), ((λ e. absurd (came_external _ _ _ write e)), tt)),
      ),
    ),
  ),
)

dest_key : (of_bucket of_key : List ℕ) → IsDest whole_run.setting.tasks of_bucket of_key → key ≡ of_key
dest_key b k dest = each (λ (t : Task). t.dest ≡ place.Object b k → key ≡ k) (task ∷ []) ((λ e. same_key bucket key b k e), tt) dest.0 dest.1 dest.2

not_dest : (write : ExternalWrite) (of_bucket : List ℕ) → Contains (events_of beside_trace) (External write) → IsDest whole_run.setting.tasks of_bucket (key_of write) → ⊥
not_dest write b happened dest = keys_apart (each (λ (event : TraceEvent). event ≡ External write → other_key ≡ key_of write) (events_of beside_trace) (only_other write) (External write) happened refl ∙ sym (dest_key b (key_of write) dest))

before_is : IsFaithful before
before_is = one_bucket_is_faithful bucket

written_is : IsFaithful written
written_is = faithful_with before bucket other_key (8 ∷ []) before_is

stored_is : IsFaithful stored
stored_is = faithful_with written bucket key bytes written_is

removed_is : IsFaithful removed
removed_is = faithful_without stored bucket other_key stored_is

faithful : Each IsFaithful (states before beside_trace)
faithful = (before_is, (before_is, (before_is, (written_is, (stored_is, (removed_is, (removed_is, tt)))))))

honest : IsHonest before beside_trace (IsDest whole_run.setting.tasks)
honest = record {
  one_content = λ t u of_bucket of_key a b among_t among_u at_t at_u same.
      sym (each IsFaithful (states before beside_trace) faithful t among_t of_bucket of_key a at_t) ∙ same ∙ each IsFaithful (states before beside_trace) faithful u among_u of_bucket of_key b at_u;
  not_written = λ of_bucket of_key object happened dest. not_dest (Writes of_bucket of_key object) of_bucket happened dest;
  not_removed = λ of_bucket of_key happened dest. not_dest (Removes of_bucket of_key) of_bucket happened dest;
}

module _ (page_of : List ℕ → Listed) where
  begins : (lane : ℕ) → filter_map (begun_in lane) (events_of beside_trace) ≡ flat_map requests_of (filter (λ (c : Dispatched). c.dispatch.lane == lane) (whole.jobs page_of))
  begins zero = refl
  begins (suc lane) =
      let a : (suc lane == 0) ≡ false = grind arith in
      let b : (0 == suc lane) ≡ false = grind arith in
      rw (a, b) refl

  fits : Fits (Reads page_of) None (events_of beside_trace) whole_run.journal (whole.jobs page_of)
  fits = fitting.fits (Reads page_of) (whole.jobs page_of) (events_of beside_trace) whole_run.journal refl begins
      (refl, (tt, (tt, (tt, (tt, (tt, tt)))))) (tt, (tt, (tt, (tt, (tt, (refl, tt)))))) (tt, tt)
      (tt, (tt, (tt, (whole.answered page_of, (tt, (tt, tt)))))) (tt, (tt, (tt, (tt, (tt, (((served, tt), tt), tt))))))
    where
      served : fitting.IsServed (Reads page_of) (whole.jobs page_of) (take 5 (events_of beside_trace)) (whole.sent page_of) 0 (whole.well page_of)
      served shown b shows certain = (Replied reply.Stored [], at (take 5 (events_of beside_trace)) 3 _ refl, whole.named page_of shown b shows)

  runs : IsTrace limits [] before beside_trace
  runs = (
    refl,
    (
      refl,
      (
        (whole.there page_of, refl),
        (((0, omega arith, refl), (still_there, (λ fresh. absurd (never fresh)), (object_of bytes, refl, refl))), ((there_after, refl), (refl, tt))),
      ),
    ),
  )

  -- ---- its outcome

  no_failure : (failed : Dispatched) → IsFailed (Reads page_of) whole_run.setting (whole.jobs page_of) failed → ⊥
  no_failure failed is_failed = scheduling.failures (Reads page_of) whole_run.setting (λ c. ⊥) (whole.jobs page_of) (inr (inl (refl, λ shown b shows. tt)), tt) failed is_failed

  abbrev Ended : ℕ → Task → Outcome → Type 0
  Ended n t how = HasOutcome (Reads page_of) HasNoStatus NeverFailed whole_run.setting (whole.jobs page_of) (whole.jobs page_of) n t how

  is_done : Ended 0 task outcome.Done
  is_done = ((λ c failure. no_failure c failure.0), (whole.sent page_of, at (whole.jobs page_of) 0 (whole.sent page_of) refl, (tt, refl), (0, whole.well page_of, refl, refl)), (λ moves. absurd (never moves)), (λ fresh. absurd (never fresh)))

  cause : (n : ℕ) (t : Task) (how : Outcome) → slice_get whole_run.setting.tasks n ≡ Some t → slice_get whole_run.outcomes n ≡ Some how → Ended n t how
  cause zero t how at_task at_how = subst (Ended 0 t) (some_is outcome.Done how at_how) (subst (λ (x : Task). Ended 0 x outcome.Done) (some_is task t at_task) is_done)
  cause (suc n) t how at_task at_how = absurd (none_is_some t at_task)

pub external_write_is_met : ExternalWriteIsMet
external_write_is_met page_of = record {
  dispatched = whole.jobs page_of;
  coming = whole.jobs page_of;
  schedule = small.scheduled (Reads page_of) (whole.well page_of ∷ []);
  carried = carrying.carried page_of whole_run.setting (whole.jobs page_of) whole_run.journal whole_run.logs whole_run.notes (whole.jobs page_of) (whole.written page_of);
  buffers = (whole.met page_of).buffers;
  runs = runs page_of;
  honest = honest;
  fits = fits page_of;
  whole = ([], refl, refl);
  causes = cause page_of;
}
