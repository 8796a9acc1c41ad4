-- The outcome of an upload has the cause that its talks show, or the calls on files.
use Rattle.std.proofs.Common.{◌≡◌, ◌∙◌, ◌⊎◌, ◌<◌, ℕ, suc, Bool, true, false, List, [], ◌∷◌, Option, Some, refl, sym, ap, subst, inl, inr, Contains, slice_get, arith}
use Rattle.s3_model.specs.declared.requests.Ask.{Ask}
use Rattle.s3_model.specs.declared.requests.Op.TheVariants as op
use Rattle.s3_model.specs.declared.answers.Class.{Class}
use Rattle.s3_model.specs.declared.answers.Class.TheVariants as class
use Rattle.s3_model.specs.declared.answers.Why.{Why}
use Rattle.s3_model.specs.declared.answers.Why.TheVariants as reason
use Rattle.s3_model.specs.declared.tasks.Kind.TheVariants as kind
use Rattle.s3_model.specs.declared.tries.Mark.{Mark}
use Rattle.s3_model.specs.declared.tries.Mark.TheVariants as mark
use Rattle.s3_model.specs.declared.outcomes.Cause.{Cause}
use Rattle.s3_model.specs.declared.outcomes.Cause.TheVariants as cause
use Rattle.s3_model.specs.declared.outcomes.FileCall.TheVariants as call
use Rattle.s3_model.specs.declared.outcomes.Outcome.{Outcome}
use Rattle.s3_model.specs.declared.outcomes.Outcome.TheVariants as outcome
use Rattle.s3_model.specs.Talks.{Talk}
use Rattle.run_promise.specs.Dispatches.{FitsLast, IsCompletedWell, IsCut, IsFailing, IsSuccessLast}
use Rattle.job_terms.specs.Dispatches.{Attempt, Dispatched, last_of}
use Rattle.run_promise.specs.Schedule.{Setting, IsFailed, IsStopped, most_body}
use Rattle.job_terms.specs.Jobs.{job_of}
use Rattle.run_promise.specs.Outcomes.{HasOutcome, HasDeciding, HasMark, IsCauseOf, IsDecidingJob, IsFailureOf, IsFreeOrIdle, IsLastCause}
use Rattle.job_terms.specs.Ops.{deciding}
use Rattle.run_promise.specs.Settled.{cause_of, is_memory, is_upload, tells_file_failed}
use Rattle.s3_model.specs.declared.tasks.Task.{Task}
use Rattle.s3_outside.specs.Files.{SeenFiles}
use Rattle.shared_lemmas.proofs.Clashes.{none_is_some}
use Rattle.shared_lemmas.proofs.Members.{contains_of, Has, has_middle}
use Rattle.upload_promise.specs.Puts.{put_job}
use Rattle.upload_promise.specs.Uploads.{IsReadCause, upload_ask}
use Rattle.upload_promise.proofs.JobLemmas.{Planned, below, in_none, in_one, only, put_with, setting_of, task_of}

-- the outcome of a task whose bytes did not come says that a file call failed
pub tells : (of_task : Option Task) → is_upload of_task ≡ true → (seen : SeenFiles) (path : List ℕ) (size before after : ℕ) (why : Cause) → IsReadCause (Some seen) path size before after why
    → tells_file_failed of_task (Some (outcome.Failed why)) ≡ true
tells of_task uploads seen path size before after cause.Memory h = refl
tells of_task uploads seen path size before after (cause.Files call.Read) h = refl
tells of_task uploads seen path size before after cause.Changed h = uploads
tells of_task uploads seen path size before after why h = absurd h

false_is_true : false ≡ true → ⊥
false_is_true e = cc

last_at : {A : Type 0} (xs : List A) (x : A) → last_of xs ≡ Some x → (k : ℕ) × (slice_get xs k ≡ Some x)
last_at [] x e = absurd (none_is_some x e)
last_at (a ∷ []) x e = (0, e)
last_at (a ∷ b ∷ xs) x e = let (k, at) = last_at (b ∷ xs) x e in (suc k, at)

module _ (Shows : Ask → ℕ → Talk → Class → List ℕ → Type 0) (HasStatus : Ask → ℕ → Talk → ℕ → Type 0) (Fails : ℕ → Cause → Type 0) (u : Planned) where
  abbrev s : Setting
  s = setting_of u

  abbrev HasHow : List Dispatched → Outcome → Type 0
  HasHow jobs how = HasOutcome Shows HasStatus Fails s jobs jobs 0 (task_of u) how

  -- ---- no job was given

  no_deciding : (of_mark : Mark) → HasDeciding Shows HasStatus Fails s [] [] 0 (task_of u) of_mark → ⊥
  no_deciding of_mark h = in_none h.0 h.1

  -- the task is one that may replace what is there
  replaces : (jobs : List Dispatched) → IsFreeOrIdle Shows HasStatus Fails s jobs jobs 0 (task_of u)
  replaces jobs is_fresh = absurd (false_is_true is_fresh)

  pub unread_for : (seen : SeenFiles) (before after : ℕ) (why : Cause) → (IsReadCause (Some seen) u.path u.size before after why → Fails 0 why)
      → u.how ≡ outcome.Failed why → IsReadCause (Some seen) u.path u.size before after why → HasHow [] (outcome.Failed why)
  unread_for seen before after cause.Memory fails is h =
      (no_deciding mark.Success, (λ open_. no_deciding mark.Uncertain open_.0), ap (λ (how : Outcome). is_memory (cause_of (Some how))) is, replaces [])
  unread_for seen before after (cause.Files call.Read) fails is h = (no_deciding mark.Success, (λ open_. no_deciding mark.Uncertain open_.0), (tt, fails h), replaces [])
  unread_for seen before after cause.Changed fails is h = (no_deciding mark.Success, (λ open_. no_deciding mark.Uncertain open_.0), inl (refl, fails h), replaces [])
  unread_for seen before after why fails is h = absurd h

  -- ---- the Put

  decides : IsDecidingJob s 0 (task_of u) put_job
  decides = (tt, sym (ap (λ (b : Bool). job_of 0 (deciding kind.Upload b) 0) (below u.size u.config.threshold u.is_below)))

  module _ (attempts : List Attempt) where
    abbrev put : Dispatched
    put = put_with u attempts

    -- some attempt has that mark, and none has
    abbrev pub HasSome : Mark → Type 0
    HasSome of_mark = (k : ℕ) × (a : Attempt) × (slice_get attempts k ≡ Some a) × (a.mark ≡ of_mark)

    abbrev pub HasNo : Mark → Type 0
    HasNo of_mark = (k : ℕ) (a : Attempt) → slice_get attempts k ≡ Some a → a.mark ≡ of_mark → ⊥

    no_mark : (of_mark : Mark) → HasNo of_mark → HasDeciding Shows HasStatus Fails s (put ∷ []) (put ∷ []) 0 (task_of u) of_mark → ⊥
    no_mark of_mark none h = let m = subst (λ (c : Dispatched). HasMark c of_mark) (sym (only put h.0 h.1)) h.3 in none m.0 m.1 m.2 m.3

    has_mark : (of_mark : Mark) → HasSome of_mark → HasDeciding Shows HasStatus Fails s (put ∷ []) (put ∷ []) 0 (task_of u) of_mark
    has_mark of_mark some = (put, in_one put, decides, some)

    failure_is_one : (n : ℕ) (c : Dispatched) → IsFailureOf Shows HasStatus Fails s (put ∷ []) (put ∷ []) n c → put ≡ c
    failure_is_one n c h = only put c (contains_of (put ∷ []) c (subst (λ (all : List Dispatched). Has all c) (sym h.0.2) (has_middle h.0.0 c h.0.1)))

    no_later : (d : Dispatched) → Contains (put ∷ []) d → put.dispatch.given_at < d.dispatch.given_at → ⊥
    no_later d known later = let same = ap (λ (c : Dispatched). c.dispatch.given_at) (only put d known) in omega arith

    -- ---- memory ran out

    pub wanting_for : HasNo mark.Success → HasNo mark.Uncertain → s.wanted_memory (Some 0) ≡ true → HasHow (put ∷ []) (outcome.Failed cause.Memory)
    wanting_for no_success certain wanting = (no_mark mark.Success no_success, (λ h. no_mark mark.Uncertain certain h.0), wanting, replaces (put ∷ []))

    pub wanting_open : HasNo mark.Success → HasSome mark.Uncertain → s.wanted_memory (Some 0) ≡ true → HasHow (put ∷ []) (outcome.Unknown cause.Memory)
    wanting_open no_success open_ wanting = ((has_mark mark.Uncertain open_, no_mark mark.Success no_success), wanting)

    module _ (last : Attempt) (is_last : last_of attempts ≡ Some last) where
      -- what the last attempt shows
      abbrev pub ShowsLast : Class → Type 0
      ShowsLast shown = (body : List ℕ) × Shows (upload_ask u.bucket u.key u.content) most_body last.talk shown body

      -- ---- it is done

      completed_well : last.mark ≡ mark.Success → IsCompletedWell Shows put
      completed_well success =
          subst (λ (o : Option Attempt). IsSuccessLast o × FitsLast Shows put o) (sym is_last) (success, λ of_class bytes showed. tt)

      pub done_for : last.mark ≡ mark.Success → HasHow (put ∷ []) outcome.Done
      done_for success =
          let (k, at) = last_at attempts last is_last in (
            (λ c h. h.0.4 (subst (λ (d : Dispatched). IsCompletedWell Shows d) (failure_is_one 0 c h) (completed_well success))),
            has_mark mark.Success (k, last, at, success),
            (λ moves from. absurd (false_is_true moves)),
            (λ is_fresh of_kind. absurd (false_is_true is_fresh)),
          )

      -- ---- it failed: nothing cut it short, since nothing else stopped its task

      module _ (still : tells_file_failed (Some (task_of u)) (Some u.how) ≡ false) (no_success : HasNo mark.Success) where
        not_stopped : IsStopped s (Some 0) ⊎ IsFailing Shows s.config.attempts (Some 0) (IsStopped s (Some 0)) [] → ⊥
        not_stopped (inl stopped) = false_is_true (sym still ∙ stopped)
        not_stopped (inr failing) = failing

        not_cut : IsCut Shows s.config.attempts put [] (IsStopped s (Some 0) ⊎ IsFailing Shows s.config.attempts (Some 0) (IsStopped s (Some 0)) []) → ⊥
        not_cut (inl again) = in_none again.0 again.1
        not_cut (inr cut) = not_stopped cut.4

        not_well : IsCompletedWell Shows put → ⊥
        not_well well =
            let (k, at) = last_at attempts last is_last in
            no_success k last at (subst (λ (o : Option Attempt). IsSuccessLast o) is_last well.0)

        has_failed : IsFailed Shows s (put ∷ []) put
        has_failed = ([], [], refl, not_cut, not_well)

        last_cause : (why : Cause) → IsCauseOf Shows HasStatus put (Some last) why → IsLastCause Shows HasStatus put why
        last_cause why = subst (λ (o : Option Attempt). IsCauseOf Shows HasStatus put o why) (sym is_last)

        pub refused_for : HasNo mark.Uncertain → (code message : List ℕ) → ShowsLast (class.Refusal code message) → HasHow (put ∷ []) (outcome.Failed (cause.Service op.Put code message))
        refused_for certain code message shows = (
          no_mark mark.Success no_success,
          (λ h. no_mark mark.Uncertain certain h.0),
          (
            (
              put,
              ((has_failed, refl), λ other h. inl (sym (ap (λ (c : Dispatched). c.dispatch) (failure_is_one 0 other h)))),
              last_cause (cause.Service op.Put code message) (refl, shows, λ changed. changed.0),
            ),
            λ skipped. false_is_true skipped.0,
          ),
          replaces (put ∷ []),
        )

        pub refused_open : HasSome mark.Uncertain → (code message : List ℕ) → ShowsLast (class.Refusal code message) → HasHow (put ∷ []) (outcome.Unknown (cause.Service op.Put code message))
        refused_open open_ code message shows = (
          (has_mark mark.Uncertain open_, no_mark mark.Success no_success),
          (put, in_one put, decides, (λ d known same later. absurd (no_later d known later)), last_cause (cause.Service op.Put code message) (refl, shows, λ changed. changed.0)),
        )

        pub lost_open : HasSome mark.Uncertain → (why : Why) → (why ≡ reason.Memory → ⊥) → ShowsLast (class.Uncertain why) → HasHow (put ∷ []) (outcome.Unknown (cause.Lost op.Put why))
        lost_open open_ why no_memory shows = (
          (has_mark mark.Uncertain open_, no_mark mark.Success no_success),
          (put, in_one put, decides, (λ d known same later. absurd (no_later d known later)), last_cause (cause.Lost op.Put why) (refl, no_memory, shows.0, shows.1)),
        )
