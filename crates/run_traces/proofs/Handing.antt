-- Which job was given behind which events.
use Rattle.std.proofs.Common.{◌≡◌, ◌∙◌, ◌==◌, ◌+◌, ◌≤◌, ◌++◌, ℕ, Bool, true, false, cond, [], ◌∷◌, Option, Some, None, refl, ap, arith, length}
use Rattle.std.proofs.lemmas.List.{length-append}
use Rattle.jobs.specs.Jobs.{SeenJob}
use Rattle.jobs.specs.declared.what.What.TheVariants as what
use Rattle.manager_moves.specs.Runs.{Events}
use Rattle.s3_model.specs.declared.requests.Ask.TheVariants as ask
use Rattle.s3_model.specs.declared.requests.Op.TheVariants as op
use Rattle.run_traces.specs.Exchanges.{AreJobsOf}
use Rattle.run_traces.specs.Traces.{Called, Gave, Lined, Made, RunTrace, Stopped, Took, events_of}
use Rattle.run_traces.proofs.Planned.{gave_event}
use Rattle.run_traces.proofs.Steps.{events-append, same_number}

-- what stands for the job where none was given
abbrev no_job : SeenJob
no_job = record { id = record { task = None; op = op.Buckets; number = 0 }; what = what.Plan ask.Buckets; part = None; cell = None; had = 0 }

-- this job where it is of a task and the test holds, else that one
abbrev chosen : Option ℕ → Bool → (job other : SeenJob) → SeenJob
chosen None here job other = other
chosen (Some task) here job other = cond here job other

-- the job of a task that was given behind so many events
abbrev given_behind : RunTrace → (count : ℕ) → SeenJob
given_behind [] count = no_job
given_behind (Gave lane job ∷ before) count = chosen job.id.task (count == length (events_of before)) job (given_behind before count)
given_behind (step ∷ before) count = given_behind before count

chosen_this : (task : Option ℕ) (n : ℕ) (here : Bool) (job other : SeenJob) → task ≡ Some n → here ≡ true → chosen task here job other ≡ job
chosen_this task n here job other e so = ap (λ (o : Option ℕ). chosen o here job other) e ∙ ap (λ (b : Bool). cond b job other) so

chosen_other : (task : Option ℕ) (here : Bool) (job other : SeenJob) → here ≡ false → chosen task here job other ≡ other
chosen_other None here job other so = refl
chosen_other (Some n) here job other so = ap (λ (b : Bool). cond b job other) so

fewer : (m n : ℕ) → m + 1 ≤ n → (m == n) ≡ false
fewer m n less = grind arith

module _ (lane : ℕ) (job : SeenJob) (before : RunTrace) (n : ℕ) (of_task : job.id.task ≡ Some n) where
  -- behind it stands one event more at least
  more_events : (later : RunTrace) → length (events_of before) + 1 ≤ length (events_of (later ++ Gave lane job ∷ before))
  more_events later =
      let all = ap (λ (es : Events). length es) (events-append later (Gave lane job ∷ before)) in
      let parts = length-append (events_of later) (events_of (Gave lane job ∷ before)) in
      let one = ap (λ (es : Events). length es) (gave_event lane job before n of_task) in
      omega arith

  found : (later : RunTrace) → given_behind (later ++ Gave lane job ∷ before) (length (events_of before)) ≡ job
  found [] = chosen_this job.id.task n (length (events_of before) == length (events_of before)) job _ of_task (same_number (length (events_of before)))
  found (Gave to other ∷ later) =
      chosen_other other.id.task (length (events_of before) == length (events_of (later ++ Gave lane job ∷ before))) other _ (fewer _ _ (more_events later)) ∙ found later
  found (Took from c ∷ later) = found later
  found (Called task called result steps notes ∷ later) = found later
  found (Made fits ∷ later) = found later
  found (Lined ∷ later) = found later
  found (Stopped reason ∷ later) = found later

-- each trace has its jobs
pub jobs_of : (trace : RunTrace) → (jobs : Events → SeenJob) × AreJobsOf trace jobs
jobs_of trace = (
  λ events. given_behind trace (length events),
  λ later before lane task job is of_task. ap (λ (t : RunTrace). given_behind t (length (events_of before))) is ∙ found lane job before task of_task later,
)
