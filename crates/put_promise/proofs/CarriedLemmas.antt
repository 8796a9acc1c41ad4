-- The Put of an upload is carried as the promise of a run says it, by the law of the jobs of lanes.
use Rattle.std.proofs.Common.{◌≡◌, ◌∙◌, ◌+◌, ◌==◌, ◌<◌, ◌≤◌, ℕ, zero, suc, Bool, true, false, List, [], ◌∷◌, Some, None, refl, sym, subst, inl, inr, map, length, append-nil, Contains, slice_get, arith, if◌then◌else◌}
use Rattle.std.specs.Prelude.{IsSome}
use Rattle.std.proofs.lemmas.List.{length-map}
use Rattle.shared_lemmas.proofs.Clashes.{false_true, none_is_some, some_is}
use Rattle.s3_model.specs.declared.outcomes.Cause.TheVariants as cause
use Rattle.s3_model.specs.declared.outcomes.Event.{Event}
use Rattle.s3_model.specs.declared.outcomes.Event.TheVariants as entry
use Rattle.s3_model.specs.declared.outcomes.JobId.{JobId}
use Rattle.s3_model.specs.declared.outcomes.Outcome.{Outcome}
use Rattle.s3_model.specs.declared.outcomes.Outcome.TheVariants as outcome
use Rattle.s3_model.specs.declared.places.Endpoint.{Endpoint}
use Rattle.s3_model.specs.declared.settings.Keys.{Keys}
use Rattle.s3_model.specs.declared.tries.Mark.{Mark}
use Rattle.s3_model.specs.Talks.{Talk, Note}
use Rattle.answer_classes.specs.Showing.{Shows}
use Rattle.attempts.specs.Attempts.{text_of}
use Rattle.jobs.specs.declared.ending.Ending.{Ending}
use Rattle.jobs.specs.declared.ending.Ending.TheVariants as ending
use Rattle.lane_jobs.specs.Lanes.{Ends}
use Rattle.run_promise.specs.Carried.{IsCarried, MayStop}
use Rattle.job_terms.specs.Attempts.{in_first, in_lane, mark_of}
use Rattle.job_terms.specs.Dispatches.{Attempt, Dispatched, paired}
use Rattle.run_promise.specs.Schedule.{Setting, source_bytes}
use Rattle.run_promise.specs.Settled.{cause_of, is_memory}
use Rattle.lane_laws.specs.Runs.{AreCarriedJobs, Giving, HaveCauses, IsCarriedJob, IsCutShort, IsJournal, RanOut, given_to}
use Rattle.lane_laws.proofs.AttemptLaw.{as_many}
use Rattle.lane_laws.proofs.RunLaw.{jobs_are_carried}
use Rattle.upload_promise.specs.Uploads.{is_open, put_events, upload_ask}
use Rattle.upload_promise.proofs.JobLemmas.{Planned, each, in_one, put_with, setting_of, task_of}
use Rattle.upload_promise.proofs.WireLemmas.{beyond_first, in_first_other}
use Rattle.small_uploads.specs.Uploading.{IsPutCarried, most_puts, outcome_of, put_request}

given_came : (j k : JobId) (l m : ℕ) (tries : List Mark) → entry.Given j l ≡ entry.Came k m tries → ⊥
given_came j k l m tries e = cc

from_none : (n : ℕ) → n ≡ 0 + n
from_none n = omega arith

other_lane : (lane : ℕ) → (0 == suc lane) ≡ false
other_lane lane = grind arith

-- where memory ran out, the outcome says so
memory_by : (b : Bool) → is_memory (cause_of (Some (if b then outcome.Unknown cause.Memory else outcome.Failed cause.Memory))) ≡ true
memory_by true = refl
memory_by false = refl

memory_ended : (marks : List Mark) → is_memory (cause_of (Some (outcome_of marks ending.Memory))) ≡ true
memory_ended marks = memory_by (is_open marks)

ran_out : (marks : List Mark) (ended : Ending) → RanOut ended → is_memory (cause_of (Some (outcome_of marks ended))) ≡ true
ran_out marks ended (inl is) = subst (λ (e : Ending). is_memory (cause_of (Some (outcome_of marks e))) ≡ true) (sym is) (memory_ended marks)
ran_out marks ended (inr is) = subst (λ (e : Ending). is_memory (cause_of (Some (outcome_of marks e))) ≡ true) (sym is) refl

module _ (endpoint : Endpoint) (keys : Keys) (u : Planned) (least : 1 ≤ u.config.attempts) (journal : List Event) (talks : List Talk) (notes : List Note)
    (c : IsPutCarried endpoint keys u.config.attempts (upload_ask u.bucket u.key u.content) (source_bytes u.was.store.held (task_of u).source) journal u.how talks notes) where
  abbrev pub tries : List Mark
  tries = map mark_of c.classes

  abbrev pub attempts : List Attempt
  attempts = paired (map mark_of c.classes) talks

  abbrev pub put : Dispatched
  put = put_with u (paired (map mark_of c.classes) talks)

  abbrev s : Setting
  s = setting_of u

  abbrev giving : Giving
  giving = record { of = put_with u (paired (map mark_of c.classes) talks); classes = c.classes; ended = c.ended; gave = None }

  long : length tries ≡ length attempts
  long = length-map c.classes mark_of ∙ sym (as_many (put_request endpoint keys (upload_ask u.bucket u.key u.content) (source_bytes u.was.store.held (task_of u).source)) c.place c.classes 1 talks c.shared.0 c.shared.3)

  came_here : (at lane : ℕ) (j : JobId) (marks : List Mark) → slice_get (put_events tries) at ≡ Some (entry.Came j lane marks) → (d : Dispatched) × Contains (put ∷ []) d × (d.dispatch.came_at ≡ Some at)
  came_here zero lane j marks e = absurd (given_came _ _ _ _ _ (some_is _ _ e))
  came_here (suc zero) lane j marks e = (put, in_one put, refl)
  came_here (suc (suc n)) lane j marks e = absurd (none_is_some (entry.Came j lane marks) e)

  short : (lane : ℕ) → length (in_lane lane (put ∷ [])) ≤ 1
  short zero = omega arith
  short (suc lane) = let other = other_lane lane in rw other (omega arith)

  is_journal : IsJournal s (put_events tries) (in_first talks) (in_first notes) (put ∷ [])
  is_journal = record {
    shown = refl;
    comes = each (λ (d : Dispatched). (at : ℕ) × (marks : List Mark) × (d.dispatch.came_at ≡ Some at)
        × (slice_get (put_events tries) at ≡ Some (entry.Came d.dispatch.job d.dispatch.lane marks)) × (length marks ≡ length d.dispatch.attempts)) put (1, tries, refl, refl, long);
    lanes = each (λ (d : Dispatched). d.dispatch.lane < s.lanes) put (let some = u.has_lane in omega arith);
    unused_lanes = λ lane beyond. let some : 1 ≤ lane = (let least = u.has_lane in omega arith) in (beyond_first talks lane some, beyond_first notes lane some);
    nothing_else = λ at lane j marks e. came_here at lane j marks e;
    in_turn = λ lane i j d before inside. absurd (let few = short lane in omega arith);
  }

  is_carried_job : IsCarriedJob endpoint keys u.config.attempts giving talks notes
  is_carried_job = record {
    limit = None;
    place = c.place;
    limit_is = refl;
    attempts_are = refl;
    at_most = let few = c.at_most in omega (arith, few);
    again = c.again;
    ends = subst (λ (made : ℕ). Ends made (most_puts u.config.attempts) None c.classes c.ended) (from_none (length c.classes)) c.ends;
    shared = c.shared;
  }

  jobs_of : (lane : ℕ) → AreCarriedJobs endpoint keys u.config.attempts (given_to lane (giving ∷ [])) (in_first talks lane) (in_first notes lane)
  jobs_of zero = (talks, [], notes, [], sym (append-nil talks), sym (append-nil notes), is_carried_job, (refl, refl))
  jobs_of (suc lane) = let other = other_lane lane in rw other (in_first_other talks lane, in_first_other notes lane)

  causes : HaveCauses endpoint keys s (giving ∷ []) (put ∷ [])
  causes = record {
    left = each (λ (g : Giving). g.of.dispatch.earlier < u.config.attempts) giving (let some = least in omega arith);
    wants = each (λ (g : Giving). RanOut g.ended → s.wanted_memory g.of.dispatch.job.task ≡ true) giving
        (λ ran. subst (λ (how : Outcome). is_memory (cause_of (Some how)) ≡ true) (sym c.comes_to) (ran_out tries c.ended ran));
    stops = each (λ (g : Giving). IsSome g.gave → IsCutShort s g → MayStop Shows (text_of endpoint keys) endpoint.host endpoint.port s (put ∷ []) g.of) giving (λ gave cut. absurd (false_true gave));
    given_again = λ i j d before inside. absurd (omega arith);
  }

  pub put_carried : IsCarried Shows (text_of endpoint keys) endpoint.host endpoint.port (setting_of u) (put_events (map mark_of c.classes)) (in_first talks) (in_first notes)
      (put_with u (paired (map mark_of c.classes) talks) ∷ []) (put_with u (paired (map mark_of c.classes) talks) ∷ [])
  put_carried = jobs_are_carried endpoint keys s (put_events tries) (in_first talks) (in_first notes) (giving ∷ []) (put ∷ []) is_journal jobs_of causes
