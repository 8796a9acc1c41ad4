-- Which acts of a task are out in a run: jobs in the lanes, and no call on files.
use Rattle.std.proofs.Common.{◌≡◌, ◌∙◌, ◌==◌, ◌&&◌, ◌++◌, ℕ, Bool, true, false, List, [], ◌∷◌, Some, refl, sym, subst, ap, inl, inr, drop, slice_get}
use Rattle.std.proofs.lemmas.Bool.{and_parts, eqb-true}
use Rattle.std.specs.Prelude.{is_some, if◌then◌else◌}
use Rattle.jobs.specs.Endings.{SeenCarried}
use Rattle.job_terms.specs.Ops.{is_op, op_number}
use Rattle.job_terms.specs.Jobs.{job_of}
use Rattle.s3_model.specs.declared.outcomes.JobId.{JobId}
use Rattle.s3_model.specs.declared.requests.Op.{Op}
use Rattle.task_acts.specs.declared.acts.Act.{Act}
use Rattle.task_acts.specs.declared.acts.Act.TheVariants as act
use Rattle.task_acts.specs.declared.acts.FileCame.{FileCame}
use Rattle.task_acts.specs.declared.acts.Stage.{Stage}
use Rattle.task_acts.specs.declared.acts.Stage.TheVariants as at
use Rattle.task_acts.specs.declared.work.Work.{Work}
use Rattle.task_acts.specs.Failures.{carried_cause, is_cut_short, is_fine, is_stopped}
use Rattle.task_acts.specs.Histories.{Came, Gave, History, Returned, Taken, is_act, sent}
use Rattle.task_acts.specs.Kept.{is_file_act, kept_job}
use Rattle.task_acts.specs.Stages.{carried_stage, file_stage, given_stage, is_out, stage}
use Rattle.shared_lemmas.proofs.Clashes.{some_is}
use Rattle.shared_lemmas.proofs.Members.{Has, contains_of, has-append_left, has-append_right}
use Rattle.job_terms.proofs.SameJobs.{op_same}
use Rattle.task_progress.proofs.Endings.{chosen, no}
use Rattle.manager_moves.proofs.HoldLemmas.{same_number}
use Rattle.manager_moves.proofs.PartLaws.{nothing}
use Rattle.manager_moves.specs.declared.moves.Move.{Move}
use Rattle.manager_moves.specs.Lanes.{jobs_in}
use Rattle.manager_moves.specs.Laws.{IsRun}
use Rattle.manager_moves.specs.Moves.{call_of, next_move}
use Rattle.manager_moves.specs.Runs.{Back, Called, Events, Lined, Made, Sent, Shared, Stopped, is_task, share, with_taken}
use Rattle.run_progress.specs.RunProgress.{OutIsInLanes}

-- ---- lanes

abbrev pub InLane : Events → JobId → Type 0
InLane events job = (lane : ℕ) × Has (jobs_in lane events) job

still_there : (b : Bool) (jobs : List JobId) (new job : JobId) → Has jobs job → Has (if b then jobs ++ new ∷ [] else jobs) job
still_there true jobs new job h = has-append_left jobs (new ∷ []) job h
still_there false jobs new job h = h

sent_keeps : (t : ℕ) (o : Op) (k to : ℕ) (before : Events) (job : JobId) → InLane before job → InLane (Sent t o k to ∷ before) job
sent_keeps t o k to before job h = (h.0, still_there (to == h.0) (jobs_in h.0 before) (job_of t o k) job h.1)

sent_adds : (t : ℕ) (o : Op) (k to : ℕ) (before : Events) → InLane (Sent t o k to ∷ before) (job_of t o k)
sent_adds t o k to before = (
  to,
  subst (λ (jobs : List JobId). Has jobs (job_of t o k))
      (sym (chosen (to == to) (jobs_in to before ++ job_of t o k ∷ []) (jobs_in to before) (same_number to)))
      (has-append_right (jobs_in to before) (job_of t o k ∷ []) (job_of t o k) (inl refl)),
)

in_rest : (jobs : List JobId) (first job : JobId) → slice_get jobs 0 ≡ Some first → (first ≡ job → ⊥) → Has jobs job → Has (drop 1 jobs) job
in_rest [] first job is apart h = absurd h
in_rest (x ∷ jobs) first job is apart (inl same) = absurd (apart (sym (some_is x first is) ∙ same))
in_rest (x ∷ jobs) first job is apart (inr h) = h

back_keeps : (from : ℕ) (c : SeenCarried) (before : Events) (job : JobId) → slice_get (jobs_in from before) 0 ≡ Some c.job.id → (c.job.id ≡ job → ⊥) → InLane before job → InLane (Back from c ∷ before) job
back_keeps from c before job is apart h = (h.0, by (from == h.0) refl)
  where
    by : (b : Bool) → (from == h.0) ≡ b → Has (if b then drop 1 (jobs_in h.0 before) else jobs_in h.0 before) job
    by true same = in_rest (jobs_in h.0 before) c.job.id job (subst (λ (l : ℕ). slice_get (jobs_in l before) 0 ≡ Some c.job.id) (eqb-true from h.0 same) is) apart h.1
    by false same = h.1

-- ---- stages

carried_never_out : (cut stopped cause : Bool) → is_out (if cut then (if stopped then at.Failed else at.Kept) else if cause then at.Failed else at.Fine) ≡ true → false ≡ true
carried_never_out true true cause e = e
carried_never_out true false cause e = e
carried_never_out false stopped true e = e
carried_never_out false stopped false e = e

file_never_out : (fine : Bool) → is_out (if fine then at.Fine else at.Failed) ≡ true → false ≡ true
file_never_out true e = e
file_never_out false e = e

pub same_job : (o p : Op) (k m : ℕ) → is_act (act.Send o k) (act.Send p m) ≡ true → (o ≡ p) × (k ≡ m)
same_job o p k m e =
    let two = and_parts (is_op o p) (k == m) e in
    (op_same o p (eqb-true (op_number o) (op_number p) two.0), eqb-true k m two.1)

act_itself : (o : Op) (k : ℕ) → is_act (act.Send o k) (act.Send o k) ≡ true
act_itself o k = both (is_op o o) (k == k) (same_number (op_number o)) (same_number k)
  where
    both : (a b : Bool) → a ≡ true → b ≡ true → (a && b) ≡ true
    both true true e f = refl
    both true false e f = f
    both false b e f = no e

pub taken_same : (w : Work) (o : Op) (k : ℕ) (h : History) (a : Act) → stage w (with_taken w o k h) a ≡ stage w h a
taken_same w o k h a = by (is_some (kept_job w h (act.Send o k)))
  where
    by : (b : Bool) → stage w (if b then Taken o k ∷ h else h) a ≡ stage w h a
    by true = refl
    by false = refl

-- a call on files leaves a job as it is
pub called_same : (w : Work) (s : Shared) (before : Events) (t : ℕ) (a : Act) (r : FileCame) (m : Move) → call_of s before t a ≡ Some m → (h : History) (o : Op) (k : ℕ)
    → stage w (Returned a r ∷ Gave a ∷ h) (act.Send o k) ≡ stage w h (act.Send o k)
called_same w s before t (act.Send p n) r m e h o k = absurd (nothing e)
called_same w s before t (act.Read n) r m e h o k = refl
called_same w s before t act.Assemble r m e h o k = refl
called_same w s before t (act.Place n) r m e h o k = refl
called_same w s before t act.Rename r m e h o k = refl
called_same w s before t act.DropTemp r m e h o k = refl
called_same w s before t act.Remove r m e h o k = refl
called_same w s before t act.Stamp r m e h o k = refl

-- and a job leaves a call on files
pub sent_same : (w : Work) (h : History) (a : Act) (o : Op) (k : ℕ) → is_file_act a ≡ true → stage w (Gave (act.Send o k) ∷ h) a ≡ stage w h a
sent_same w h (act.Send p n) o k e = no e
sent_same w h (act.Read n) o k e = refl
sent_same w h act.Assemble o k e = refl
sent_same w h (act.Place n) o k e = refl
sent_same w h act.Rename o k e = refl
sent_same w h act.DropTemp o k e = refl
sent_same w h act.Remove o k e = refl
sent_same w h act.Stamp o k e = refl

pub came_same : (w : Work) (h : History) (a : Act) (c : SeenCarried) → is_file_act a ≡ true → stage w (Came c ∷ h) a ≡ stage w h a
came_same w h (act.Send p n) c e = no e
came_same w h (act.Read n) c e = refl
came_same w h act.Assemble c e = refl
came_same w h (act.Place n) c e = refl
came_same w h act.Rename c e = refl
came_same w h act.DropTemp c e = refl
came_same w h act.Remove c e = refl
came_same w h act.Stamp c e = refl

if_out : (w : Work) (b : Bool) (g h : History) (a : Act) → is_out (stage w (if b then g else h) a) ≡ true → (b ≡ true → is_out (stage w g a) ≡ true → is_out (stage w h a) ≡ true) → is_out (stage w h a) ≡ true
if_out w true g h a e f = f refl e
if_out w false g h a e f = e

module _ (s : Shared) (n : ℕ) (w : Work) where
  -- ---- jobs

  module _ (o : Op) (k : ℕ) where
    abbrev this : Act
    this = act.Send o k

    abbrev IsOut : Events → Type 0
    IsOut events = is_out (stage w (share w n events) this) ≡ true

    sent_out : (t : ℕ) (p : Op) (m to : ℕ) (before : Events) → (b : Bool) → (t == n) ≡ b → (IsOut before → InLane before (job_of n o k))
        → is_out (stage w (if b then Gave (act.Send p m) ∷ with_taken w p m (share w n before) else share w n before) this) ≡ true → InLane (Sent t p m to ∷ before) (job_of n o k)
    sent_out t p m to before false same so_far e = sent_keeps t p m to before (job_of n o k) (so_far e)
    sent_out t p m to before true same so_far e = by (is_act this (act.Send p m)) refl e
      where
        by : (b : Bool) → is_act this (act.Send p m) ≡ b → is_out (if b then given_stage (stage w (with_taken w p m (share w n before)) (act.Send p m)) else stage w (with_taken w p m (share w n before)) this) ≡ true
            → InLane (Sent t p m to ∷ before) (job_of n o k)
        by true is f =
            let same_act = same_job o p k m is in
            subst (λ (j : JobId). InLane (Sent t p m to ∷ before) j)
            (ap (λ (i : ℕ). job_of i p m) (eqb-true t n same) ∙ ap (λ (x : Op). job_of n x m) (sym same_act.0) ∙ ap (job_of n o) (sym same_act.1)) (sent_adds t p m to before)
        by false is f = sent_keeps t p m to before (job_of n o k) (so_far (subst (λ (x : Stage). is_out x ≡ true) (taken_same w p m (share w n before) this) f))

    task_of : (id : JobId) → id ≡ job_of n o k → is_task n id.task ≡ true
    task_of id is = subst (λ (j : JobId). is_task n j.task ≡ true) (sym is) (same_number n)

    came_out : (from : ℕ) (c : SeenCarried) (before : Events) → slice_get (jobs_in from before) 0 ≡ Some c.job.id → (b : Bool) → is_task n c.job.id.task ≡ b → (IsOut before → InLane before (job_of n o k))
        → is_out (stage w (if b then Came c ∷ share w n before else share w n before) this) ≡ true → InLane (Back from c ∷ before) (job_of n o k)
    came_out from c before first false other so_far e = back_keeps from c before (job_of n o k) first (λ is. absurd (clash (sym other ∙ task_of c.job.id is))) (so_far e)
      where
        clash : false ≡ true → ⊥
        clash x = cc
    came_out from c before first true own so_far e = by (is_act this (sent c)) refl e
      where
        by : (b : Bool) → is_act this (sent c) ≡ b → is_out (if b then carried_stage w (is_stopped w (share w n before)) c else stage w (share w n before) this) ≡ true → InLane (Back from c ∷ before) (job_of n o k)
        by true is f = no (carried_never_out (is_cut_short w c) (is_stopped w (share w n before)) (is_some (carried_cause w c)) f)
        by false other f = back_keeps from c before (job_of n o k) first
            (λ is. absurd (clash (sym other ∙ subst (λ (j : JobId). is_act this (act.Send j.op j.number) ≡ true) (sym is) (act_itself o k)))) (so_far f)
          where
            clash : false ≡ true → ⊥
            clash x = cc

    called_out : (t : ℕ) (a : Act) (r : FileCame) (before : Events) → call_of s before t a ≡ Some (next_move s before) → (b : Bool)
        → is_out (stage w (if b then Returned a r ∷ Gave a ∷ share w n before else share w n before) this) ≡ true → IsOut before
    called_out t a r before e true f = subst (λ (x : Stage). is_out x ≡ true) (called_same w s before t a r (next_move s before) e (share w n before) o k) f
    called_out t a r before e false f = f

    pub out_in_lane : (events : Events) → IsRun s events → IsOut events → InLane events (job_of n o k)
    out_in_lane [] run e = no e
    out_in_lane (Made fits ∷ before) run e = out_in_lane before run.1 e
    out_in_lane (Sent t p m to ∷ before) run e = sent_out t p m to before (t == n) refl (λ f. out_in_lane before run.1 f) e
    out_in_lane (Back from c ∷ before) run e = came_out from c before run.0.0 (is_task n c.job.id.task) refl (λ f. out_in_lane before run.1 f) e
    out_in_lane (Called t a r ∷ before) run e = out_in_lane before run.1 (called_out t a r before run.0.0 (t == n) e)
    out_in_lane (Lined ∷ before) run e = out_in_lane before run.1 e
    out_in_lane (Stopped reason ∷ before) run e = out_in_lane before run.1 e

  -- ---- calls on files

  module _ (a : Act) (is_file : is_file_act a ≡ true) where
    returned_never : (b : Act) (r : FileCame) (h : History) (same : Bool) → is_out (if same then file_stage r else (if same then given_stage (stage w h b) else stage w h a)) ≡ true → is_out (stage w h a) ≡ true
    returned_never b r h true e = no (file_never_out (is_fine r) e)
    returned_never b r h false e = e

    pub never_out : (events : Events) → IsRun s events → is_out (stage w (share w n events) a) ≡ true → false ≡ true
    never_out [] run e = e
    never_out (Made fits ∷ before) run e = never_out before run.1 e
    never_out (Sent t p m to ∷ before) run e = never_out before run.1
        (if_out w (t == n) (Gave (act.Send p m) ∷ with_taken w p m (share w n before)) (share w n before) a e
        (λ same f. subst (λ (x : Stage). is_out x ≡ true) (sent_same w (with_taken w p m (share w n before)) a p m is_file ∙ taken_same w p m (share w n before) a) f))
    never_out (Back from c ∷ before) run e = never_out before run.1
        (if_out w (is_task n c.job.id.task) (Came c ∷ share w n before) (share w n before) a e (λ same f. subst (λ (x : Stage). is_out x ≡ true) (came_same w (share w n before) a c is_file) f))
    never_out (Called t b r ∷ before) run e = never_out before run.1
        (if_out w (t == n) (Returned b r ∷ Gave b ∷ share w n before) (share w n before) a e (λ same f. returned_never b r (share w n before) (is_act a b) f))
    never_out (Lined ∷ before) run e = never_out before run.1 e
    never_out (Stopped reason ∷ before) run e = never_out before run.1 e

pub out_is_in_lanes : OutIsInLanes
out_is_in_lanes s events n w o k run of_plan e =
    let is = out_in_lane s n w o k events run e in
    (is.0, contains_of (jobs_in is.0 events) (job_of n o k) is.1)
