-- Questions take no part buffer.
use Rattle.std.proofs.Common.{◌≡◌, ◌+◌, ◌++◌, ℕ, false, List, [], ◌∷◌, refl, sym, subst, arith}
use Rattle.std.specs.Prelude.{count_by}
use Rattle.job_terms.specs.Buffers.{KeepsBuffers, holds_buffer, takes_buffer}
use Rattle.job_terms.specs.Ops.{IsPlanning, op_of}
use Rattle.lane_laws.specs.Runs.{Giving}
use Rattle.planning_laws.proofs.Asked.{AreOf}
use Rattle.planning_questions.specs.Questions.{Question, question_job, trace_of}
use Rattle.run_traces.proofs.Steps.{journal-append}
use Rattle.run_traces.specs.Traces.{Gave, Took, journal_of}
use Rattle.s3_model.specs.declared.outcomes.Event.{Event}
use Rattle.s3_model.specs.declared.requests.Ask.{Ask}
use Rattle.s3_model.specs.declared.requests.Ask.TheVariants as ask

no_buffer : (asked : Ask) → IsPlanning asked → holds_buffer (op_of asked) ≡ false
no_buffer (ask.Head bucket key) is = refl
no_buffer (ask.List bucket prefix delimited token) is = refl
no_buffer ask.Buckets is = refl
no_buffer asked is = absurd is

abbrev AreBufferless : List Event → Type 0
AreBufferless [] = Unit {0}
AreBufferless (event ∷ events) = (takes_buffer event ≡ false) × AreBufferless events

bufferless : (n : ℕ) (qs : List Question) (gs : List Giving) → AreOf n qs gs → AreBufferless (journal_of (trace_of n qs))
bufferless n [] gs all = tt
bufferless n (q ∷ qs) [] all = absurd all
bufferless n (q ∷ qs) (g ∷ gs) all =
    subst AreBufferless (sym (journal-append (trace_of (n + 1) qs) (Took 0 q.carried ∷ Gave 0 (question_job n q.asked) ∷ [])))
    (no_buffer q.asked all.0.planning, (refl, bufferless (n + 1) qs gs all.1))

front_bufferless : (front back : List Event) → AreBufferless (front ++ back) → AreBufferless front
front_bufferless [] back h = tt
front_bufferless (event ∷ front) back h = (h.0, front_bufferless front back h.1)

none_taken : (events : List Event) → AreBufferless events → count_by takes_buffer events ≡ 0
none_taken [] h = refl
none_taken (event ∷ events) h = rw h.0 (none_taken events h.1)

pub keeps_buffers : (buffers : ℕ) (qs : List Question) (gs : List Giving) → AreOf 0 qs gs → KeepsBuffers buffers (journal_of (trace_of 0 qs))
keeps_buffers buffers qs gs all front back e =
    let none = none_taken front (front_bufferless front back (subst AreBufferless e (bufferless 0 qs gs all))) in
    omega (arith, none)
