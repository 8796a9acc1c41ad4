-- The Put of the small upload, whatever its attempts were, keeps to the schedule.
use Rattle.std.proofs.Common.{◌≡◌, ℕ, true, false, List, [], ◌∷◌, Option, Some, None, refl, sym, ap, inl, Contains, arith}
use Rattle.std.specs.Cmp.Lexicographic.{nat_list_cmp_total}
use Rattle.std.specs.FinMap.{get, insert, empty}
use Rattle.std.proofs.lemmas.List.Sorted.{IsPermutation-refl}
use Rattle.s3_model.specs.declared.answers.Class.{Class}
use Rattle.s3_model.specs.declared.outcomes.JobId.{JobId}
use Rattle.s3_model.specs.declared.requests.Ask.{Ask}
use Rattle.s3_model.specs.declared.requests.Op.TheVariants as op
use Rattle.s3_model.specs.declared.tasks.Kind.TheVariants as kind
use Rattle.s3_model.specs.Files.{HeldFile}
use Rattle.s3_model.specs.Maps.{MapOf}
use Rattle.s3_model.specs.Talks.{Talk}
use Rattle.job_terms.specs.Dispatches.{Attempt, Dispatched}
use Rattle.run_promise.specs.Schedule.{Gained, IsBefore, IsSchedule, IsTaskAsk, bytes_of, gained_before, most_body, source_bytes}
use Rattle.job_terms.specs.Jobs.{Target, job_of}
use Rattle.shared_lemmas.proofs.Maps.{get-insert_same, text_exact}
use Rattle.promise_examples.specs.GivenAgain.{bytes, put, put_job, upload}
use Rattle.promise_examples.specs.Misfits.{bucket, key}
use Rattle.promise_examples.specs.Refused.{path, setting, task}
use Rattle.promise_examples.proofs.Concrete.{each}
use Rattle.promise_examples.proofs.Scheduling as scheduling

-- the Put with these attempts
abbrev pub put_with : List Attempt → Dispatched
put_with attempts = record {
  dispatch = record { job = put_job; lane = 0; given_at = 0; came_at = Some 1; earlier = 0; is_second = false; attempts = attempts };
  ask = put bucket key path;
  body = bytes;
  limit = most_body;
  size = 2;
}

-- ---- what it asks, of any bucket, key and path

-- the one file
abbrev pub held_at : List ℕ → MapOf HeldFile
held_at of_file = insert empty of_file (record { bytes = bytes; micros = 0 })

pub body_is : (path : List ℕ) → bytes ≡ bytes_of (get (held_at path) path)
body_is of_file = sym (ap bytes_of (get-insert_same nat_list_cmp_total text_exact empty of_file (record { bytes = bytes; micros = 0 })))

to : (bucket key path : List ℕ) → Target (upload bucket key path)
to of_bucket of_key of_file = record { bucket = of_bucket; key = of_key; is_dest = (refl, refl) }

pub asks : (bucket key path : List ℕ) (gained : Gained)
    → IsTaskAsk gained (upload bucket key path) (record { number = 0; bytes = source_bytes (held_at path) (upload bucket key path).source; piece = 2; count = 1 }) kind.Upload true op.Put 0 (put bucket key path) bytes
unfolding to
asks of_bucket of_key of_file gained = (to of_bucket of_key of_file, refl, refl, body_is of_file)

-- ---- its schedule

pub never_before : (place : Option ℕ) → IsBefore place 0 → ⊥
never_before None before = before
never_before (Some at) before = omega arith

module _ (Shows : Ask → ℕ → Talk → Class → List ℕ → Type 0) (attempts : List Attempt) where
  abbrev jobs : List Dispatched
  jobs = put_with attempts ∷ []

  not_created : (n : ℕ) (c : Dispatched) → Contains jobs c → c.dispatch.job ≡ job_of n op.Create 0 → ⊥
  not_created n c known is = each (λ (d : Dispatched). d.dispatch.job ≡ job_of n op.Create 0 → ⊥) jobs ((λ same. scheduling.other_op op.Put op.Create refl (ap (λ (job : JobId). job.op) same)), tt) c known is

  pub scheduled : IsSchedule Shows setting (λ planning. planning ≡ []) jobs jobs
  scheduled = scheduling.scheduled Shows setting (λ planning. planning ≡ []) jobs jobs (record {
    is_coming = IsPermutation-refl jobs;
    in_order = (tt, tt);
    asks = ((task, 2, 1, refl, inl (omega arith, refl, refl), refl, refl, asks bucket key path (gained_before Shows jobs 0)), tt);
    plans = refl;
    numbered = tt;
    one_by_one = tt;
    carried_out = refl;
    twice = (tt, tt);
    seconds = (omega arith, tt);
    stops = λ failed c is_failed of_task no_abort known same late. absurd (each (λ (d : Dispatched). IsBefore failed.dispatch.came_at d.dispatch.given_at → ⊥) jobs (never_before failed.dispatch.came_at, tt) c known late);
    no_abort = (refl, tt);
    completes = λ n id end ended created. absurd (not_created n created.0 created.1 created.2);
    moves_last = ((λ n t of_task at_n moves deletes. absurd (scheduling.other_op op.Put op.Delete refl deletes)), tt);
  })
