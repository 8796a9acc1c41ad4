-- The job that is formed is the one that the run says.
use Rattle.std.proofs.Common.{◌≡◌, ◌∙◌, ◌≤◌, ◌<◌, ◌^◌, [], ◌∷◌, ℕ, zero, suc, List, Option, Some, None, sym, subst}
use Rattle.std.proofs.Common.{ap, arith, fold, get_or, max, not, IfSome}
use Rattle.std.specs.Prelude.{slice_get}
use Rattle.held_parts.specs.Held.{held_at}
use Rattle.jobs.specs.Jobs.{SeenJob}
use Rattle.jobs.specs.declared.what.What.{What}
use Rattle.jobs.specs.declared.what.What.TheVariants as what
use Rattle.manager_moves.specs.Runs.{Events, Sent, Shared, share}
use Rattle.manager_moves.specs.declared.moves.Move.TheVariants as move
use Rattle.move_laws.specs.Calls.{HasBytes, IsPartFor}
use Rattle.move_laws.specs.Follows.{Follows}
use Rattle.move_laws.specs.Kept.{SeenMoves}
use Rattle.move_laws.specs.Steady.{IsSteady}
use Rattle.run_needs.specs.Needs.{part_bytes}
use Rattle.job_terms.specs.Buffers.{holds_buffer}
use Rattle.job_terms.specs.Ops.{is_op}
use Rattle.job_terms.specs.Jobs.{job_of}
use Rattle.s3_model.specs.Lists.{Reserved}
use Rattle.s3_model.specs.declared.bytes.Part.{Part}
use Rattle.s3_model.specs.declared.outcomes.JobId.{JobId}
use Rattle.s3_model.specs.declared.requests.Op.{Op}
use Rattle.s3_model.specs.declared.requests.Op.TheVariants as op
use Rattle.s3_model.specs.declared.tasks.Task.{Task}
use Rattle.step_jobs.specs.Formed.{FitsJob, IsFormed, IsStepFor, range_at}
use Rattle.step_jobs.specs.Shares.{HasShare, SeenSteps}
use Rattle.step_jobs.specs.declared.step_jobs.Given.{Given}
use Rattle.step_laws.specs.Fitting.{IsGivenIn}
use Rattle.step_laws.specs.Following.{HoldsShares}
use Rattle.task_acts.specs.declared.acts.Act.TheVariants as act
use Rattle.task_acts.specs.declared.work.Work.{Work}
use Rattle.task_acts.specs.Histories.{History}
use Rattle.task_acts.specs.Kept.{kept_job, upload_of}
use Rattle.kept_jobs.specs.Steps.{HasTags, IsStepOf}
use Rattle.manager_core.proofs.ReadyJobs.{fits, its_jobs, its_task, its_there, its_work, shares}
use Rattle.manager_core.proofs.SentRuns.{same_tags, same_upload}
use Rattle.manager_core.specs.declared.due.Due.TheVariants as due
use Rattle.manager_core.specs.Cells.{IsCellOf}
use Rattle.manager_core.specs.Formed.{IsFirst}
use Rattle.manager_core.specs.Kept.{SeenManager}
use Rattle.manager_core.specs.Running.{IsRunning, Start}
use Rattle.manager_core.specs.Steps.{CanForm}

-- ---- the longest piece

least_of : (works : List Work) (start : ℕ) → start ≤ fold (λ (most : ℕ) (w : Work). max most (part_bytes w)) start works
least_of [] start = omega arith
least_of (w ∷ works) start = let rest = least_of works (max start (part_bytes w)) in omega (arith, rest)

pub most_of : (works : List Work) (start n : ℕ) (w : Work) → slice_get works n ≡ Some w
    → part_bytes w ≤ fold (λ (most : ℕ) (w : Work). max most (part_bytes w)) start works
most_of (v ∷ works) start zero w e =
    let rest = least_of works (max start (part_bytes v)) in
    subst (λ (x : Work). part_bytes x ≤ fold (λ (most : ℕ) (w : Work). max most (part_bytes w)) start (v ∷ works))
    (some_is e) (omega (arith, rest))
  where
    some_is : {X : Type 0} {x y : X} → Some x ≡ Some y → x ≡ y
    some_is e = cc
most_of (v ∷ works) start (suc n) w e = most_of works (max start (part_bytes v)) n w e
most_of [] start n w e = cc

-- ---- the job

module _ (start : Start) (s : Shared) (events : Events) (m : SeenManager)
    (running : IsRunning start s events m) (task : ℕ) (o : Op) (k lane : ℕ)
    (is : m.due ≡ due.Next (move.Give task o k lane)) (mv : SeenMoves)
    (follows : Follows s (Sent task o k lane ∷ events) mv) (steady : IsSteady m.moves mv) where
  abbrev w : Work
  w = its_work start s events m running task o k lane is

  abbrev h : History
  h = share w task events

  abbrev of_task : Task
  of_task = its_task start s events m running task o k lane is

  module _ (first : kept_job w h (act.Send o k) ≡ None) (given : Given) (id : given.id ≡ job_of task o k)
      (upload : given.upload ≡ upload_of (share w task (Sent task o k lane ∷ events)))
      (tags : HasTags w (share w task (Sent task o k lane ∷ events)) o given.etags)
      (part : IsPartFor o m.moves.parts.pool.room (held_at m.moves.parts.slots task k) given.part)
      (size : of_task.size < 2 ^ 64) where
    op_is : given.id.op ≡ o
    op_is = ap (λ (j : JobId). j.op) id

    number_is : given.id.number ≡ k
    number_is = ap (λ (j : JobId). j.number) id

    its_tags : HasTags w h o given.etags
    its_tags = same_tags start s events m running task o k lane is mv follows steady given.etags tags

    its_upload : given.upload ≡ upload_of h
    its_upload = upload ∙ same_upload start s events m running task o k lane is mv follows steady

    roomy : (room : ℕ) (held : Option (Option Part)) (x : Option Part) → HasBytes room held x
        → IfSome x (λ p. room ≤ p.bytes.room)
    roomy room held None has = tt
    roomy room held (Some p) has = has.0

    given_in : IsGivenIn w h m.moves.parts.pool.room given
    given_in = record {
      upload = its_upload;
      tags = subst (λ (p : Op). HasTags w h p given.etags) (sym op_is) its_tags;
      takes = part.0 ∙ ap holds_buffer (sym op_is);
      room_is = roomy m.moves.parts.pool.room (held_at m.moves.parts.slots task k) given.part part.1;
    }

    its_fit : FitsJob of_task w given
    its_fit = fits start s events m running task o k lane is size given op_is number_is m.moves.parts.pool.room
        (let most = most_of s.works 0 task w (its_there start s events m running task o k lane is) in
        let room = running.given.bytes in omega (arith, most, room)) given_in

    abbrev pub jobs_are : (j : SeenSteps) × (get_or m.steps task None ≡ Some j) × HoldsShares of_task w h j
    jobs_are = its_jobs start s events m running task o k lane is

    pub can_form : CanForm (get_or m.steps task None) given
    can_form = subst (λ (x : Option SeenSteps). CanForm x given) (sym jobs_are.1) (
      subst (λ (p : Op). HasShare jobs_are.0 p given.id.number) (sym op_is)
          (subst (λ (n : ℕ). HasShare jobs_are.0 o n) (sym number_is)
          (shares start s events m running task o k lane is first).1),
      subst (λ (t : Task). FitsJob t jobs_are.0.work given) (sym jobs_are.2.task_is)
          (subst (λ (v : Work). FitsJob of_task v given) (sym jobs_are.2.work_is) its_fit),
    )

    module _ (job : SeenJob) (formed : IsFormed jobs_are.0 given job) where
      step_by : (x : What) → IsStepFor jobs_are.0.task jobs_are.0.work given x → IsStepOf of_task w h o k x
      step_by (what.Plan asked) for = for
      step_by (what.Step task_of range up etags) for = (
        for.0 ∙ jobs_are.2.task_is,
        for.1 ∙ ap (λ (v : Work). range_at v given.id.number) jobs_are.2.work_is
            ∙ ap (λ (n : ℕ). range_at w n) number_is,
        for.2 ∙ its_upload,
        subst (λ (x : Option (Reserved (List ℕ))). HasTags w h o x) (sym for.3) its_tags,
      )

      pub first_job : IsFirst of_task w s events task o k m job
      first_job = record {
        id = formed.id ∙ id;
        step = step_by job.what formed.for;
        has_cell = formed.has_cell ∙ ap (λ (p : Op). not (is_op p op.Abort)) op_is;
        cell = subst (λ (x : Option SeenSteps). IfSome job.cell (λ holder. IsCellOf holder x)) (sym jobs_are.1)
            formed.cell;
        had = formed.first;
        part = subst (λ (x : Option Part).
            IsPartFor o m.moves.parts.pool.room (held_at m.moves.parts.slots task k) x) (sym formed.part) part;
      }
