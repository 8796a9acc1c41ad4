-- A job that is kept to be given again is as it came, and has the attempts of its first giving.
use Rattle.std.proofs.Common.{◌≡◌, ◌∙◌, ◌==◌, ℕ, Bool, true, false, [], ◌∷◌, Option, Some, None, refl, sym}
use Rattle.std.proofs.Common.{subst, ap, arith, is_some, length, not, slice_get, if◌then◌else◌}
use Rattle.std.proofs.lemmas.Bool.{and_parts}
use Rattle.jobs.specs.Endings.{SeenCarried}
use Rattle.jobs.specs.Jobs.{SeenJob}
use Rattle.manager_moves.proofs.CountLemmas.{no}
use Rattle.manager_moves.proofs.PartLaws.{nothing, same_value}
use Rattle.manager_moves.proofs.ShareLaws.{shares_are_histories}
use Rattle.manager_moves.specs.Laws.{IsRun}
use Rattle.manager_moves.specs.Runs.{Back, Called, Events, Lined, Made, Sent, Shared, Stopped, is_task, share}
use Rattle.manager_moves.specs.Runs.{with_taken}
use Rattle.run_progress.proofs.OutJobs.{same_job}
use Rattle.job_terms.specs.Buffers.{holds_buffer}
use Rattle.job_terms.specs.Jobs.{job_of}
use Rattle.s3_model.specs.declared.outcomes.JobId.{JobId}
use Rattle.s3_model.specs.declared.requests.Op.{Op}
use Rattle.s3_model.specs.declared.requests.Op.TheVariants as op
use Rattle.task_acts.specs.declared.acts.Act.{Act}
use Rattle.task_acts.specs.declared.acts.Act.TheVariants as act
use Rattle.task_acts.specs.declared.acts.Stage.{Stage}
use Rattle.task_acts.specs.declared.acts.Stage.TheVariants as at
use Rattle.task_acts.specs.declared.work.Work.{Work}
use Rattle.task_acts.specs.Failures.{carried_cause, is_cut_short, is_fine, is_stopped, is_unfinished}
use Rattle.task_acts.specs.Histories.{Came, Cancelled, Gave, History, Returned, Taken, is_act, sent}
use Rattle.task_acts.specs.Kept.{IsHistory, MayHappen, again, has_cell, is_kept, kept_job, tries_before}
use Rattle.task_acts.specs.Rule.{is_named}
use Rattle.task_acts.specs.Stages.{carried_stage, given_stage, may_be_given, stage}
use Rattle.task_progress.proofs.Endings.{chosen}
use Rattle.lane_givings.proofs.Staying.{same_id, taken_tries}
use Rattle.lane_givings.specs.Givings.{HadRoom, HasRoom}
use Rattle.lane_givings.specs.Laws.{FirstHasNone}

-- ---- at the first giving

-- it did not come back so far
abbrev pub is_first : Stage → Bool
is_first at.Waiting = true
is_first at.Out = true
is_first how = false

first_before : (how : Stage) → may_be_given how ≡ true → is_first (given_stage how) ≡ true → is_first how ≡ true
first_before at.Waiting may e = refl
first_before at.Kept may e = no e
first_before how may e = no may

carried_not_first : (cut stopped cause : Bool)
    → is_first (if cut then (if stopped then at.Failed else at.Kept) else if cause then at.Failed else at.Fine) ≡ false
carried_not_first true true cause = refl
carried_not_first true false cause = refl
carried_not_first false stopped true = refl
carried_not_first false stopped false = refl

file_not_first : (fine : Bool) → is_first (if fine then at.Fine else at.Failed) ≡ false
file_not_first true = refl
file_not_first false = refl

module _ (w : Work) (o : Op) (k : ℕ) where
  abbrev a : Act
  a = act.Send o k

  gave_first : (p : Op) (m : ℕ) (h : History) (b : Bool) → is_act a (act.Send p m) ≡ b
      → may_be_given (stage w h (act.Send p m)) ≡ true
      → is_first (if b then given_stage (stage w h (act.Send p m)) else stage w h a) ≡ true
      → is_first (stage w h a) ≡ true
  gave_first p m h true is may e =
      let same = same_job o p k m is in
      subst (λ (x : Op). is_first (stage w h (act.Send x k)) ≡ true) (sym same.0)
      (subst (λ (x : ℕ). is_first (stage w h (act.Send p x)) ≡ true) (sym same.1)
      (first_before (stage w h (act.Send p m)) may e))
  gave_first p m h false is may e = e

  came_first : (c : SeenCarried) (h : History) (b : Bool) → (is_first (stage w h a) ≡ true → tries_before h a ≡ 0)
      → is_first (if b then carried_stage w (is_stopped w h) c else stage w h a) ≡ true
      → (if b then length c.tries else tries_before h a) ≡ 0
  came_first c h true so_far e =
      no (sym (carried_not_first (is_cut_short w c) (is_stopped w h) (is_some (carried_cause w c))) ∙ e)
  came_first c h false so_far e = so_far e

  returned_first : (fine : Bool) (h : History) (b : Bool)
      → is_first (if b then (if fine then at.Fine else at.Failed) else stage w h a) ≡ true
      → is_first (stage w h a) ≡ true
  returned_first fine h true e = no (sym (file_not_first fine) ∙ e)
  returned_first fine h false e = e

  pub none_before : (h : History) → IsHistory w h → is_first (stage w h a) ≡ true → tries_before h a ≡ 0
  none_before [] holds e = refl
  none_before (Gave (act.Send p m) ∷ h) holds e =
      none_before h holds.1 (gave_first p m h (is_act a (act.Send p m)) refl
      (and_parts (may_be_given (stage w h (act.Send p m)))
      (is_named w (stage w h) (is_stopped w h) (act.Send p m)) holds.0).0 e)
  none_before (Gave (act.Read m) ∷ h) holds e = none_before h holds.1 e
  none_before (Gave act.Assemble ∷ h) holds e = none_before h holds.1 e
  none_before (Gave (act.Place m) ∷ h) holds e = none_before h holds.1 e
  none_before (Gave act.Rename ∷ h) holds e = none_before h holds.1 e
  none_before (Gave act.DropTemp ∷ h) holds e = none_before h holds.1 e
  none_before (Gave act.Remove ∷ h) holds e = none_before h holds.1 e
  none_before (Gave act.Stamp ∷ h) holds e = none_before h holds.1 e
  none_before (Came c ∷ h) holds e = came_first c h (is_act a (sent c)) (none_before h holds.1) e
  none_before (Returned called r ∷ h) holds e =
      none_before h holds.1 (returned_first (is_fine r) h (is_act a called) e)
  none_before (Cancelled reason ∷ h) holds e = none_before h holds.1 e
  none_before (Taken p m ∷ h) holds e = none_before h holds.1 e

pub first_has_none : FirstHasNone
first_has_none w h o k holds out = none_before w o k h holds (ap is_first out)

-- ---- kept jobs

pub record IsKeptAs (room : ℕ) (id : JobId) (tries : ℕ) (kept : SeenJob) : Type 0 where
  pub is : kept.id ≡ id
  pub cell : kept.cell ≡ None
  pub had : kept.had ≡ tries
  pub part : is_some kept.part ≡ holds_buffer id.op
  pub has_room : HasRoom room kept.part

has_cell_out : (how : Stage) (o : Op) → has_cell how o ≡ true → how ≡ at.Out
has_cell_out how op.Abort e = no e
has_cell_out at.Out o e = refl
has_cell_out how o e = no e

unless : {X : Type 0} (b : Bool) (x : Option X) (y : X) → (if b then None else x) ≡ Some y → x ≡ Some y
unless true x y e = absurd (nothing e)
unless false x y e = e

-- a job that comes with a cell had made no attempt before
pub had_none : (w : Work) (h : History) (c : SeenCarried) → IsHistory w h → MayHappen w h (Came c)
    → is_some c.job.cell ≡ true → c.job.had ≡ 0
had_none w h c holds may has =
    may.2 ∙ first_has_none w h c.job.id.op c.job.id.number holds
    (has_cell_out (stage w h (sent c)) c.job.id.op (sym may.1 ∙ has))

module _ (room : ℕ) (s : Shared) (n : ℕ) (w : Work) (there : slice_get s.works n ≡ Some w) (o : Op) (k : ℕ) where
  abbrev this : Act
  this = act.Send o k

  abbrev Keeps : History → Type 0
  Keeps h = (kept : SeenJob) → kept_job w h this ≡ Some kept
      → IsKeptAs room (job_of n o k) (tries_before h this) kept

  either : (b : Bool) (g h : History) → (b ≡ true → Keeps g) → Keeps h → Keeps (if b then g else h)
  either true g h keeps else_keeps = keeps refl
  either false g h keeps else_keeps = else_keeps

  sent_keeps : (p : Op) (m : ℕ) (h : History) → Keeps h → Keeps (Gave (act.Send p m) ∷ with_taken w p m h)
  sent_keeps p m h keeps kept e =
      subst (λ (tries : ℕ). IsKeptAs room (job_of n o k) tries kept) (sym (taken_tries w p m h this))
      (keeps kept (by (is_some (kept_job w h (act.Send p m)))
      (unless (is_act this (act.Send p m)) (kept_job w (with_taken w p m h) this) kept e)))
    where
      by : (b : Bool) → kept_job w (if b then Taken p m ∷ h else h) this ≡ Some kept → kept_job w h this ≡ Some kept
      by true f = unless (is_act this (act.Send p m)) (kept_job w h this) kept f
      by false f = f

  module _ (before : Events) (from : ℕ) (c : SeenCarried) (run : IsRun s (Back from c ∷ before))
      (rooms : HadRoom room (Back from c ∷ before)) (own : is_task n c.job.id.task ≡ true) where
    abbrev h : History
    h = share w n before

    holds : IsHistory w (Came c ∷ h)
    holds = subst (IsHistory w) (chosen (is_task n c.job.id.task) (Came c ∷ h) h own)
        (shares_are_histories s (Back from c ∷ before) n w there run)

    again_as : is_act this (sent c) ≡ true → is_kept w (is_stopped w h) c ≡ true
        → IsKeptAs room (job_of n o k) (length c.tries) (again c)
    again_as is kept =
        let same = same_id n (job_of n o k) c refl own is in
        let cut = (and_parts (is_cut_short w c) (not (is_stopped w h)) kept).0 in
        let has = (and_parts (is_some c.job.cell) (is_unfinished w.attempts (length c.tries) c.ending) cut).0 in
        let none = had_none w h c holds.1 holds.0 has in
        record {
          is = same;
          cell = refl;
          had = omega arith;
          part = run.0.2 ∙ ap (λ (id : JobId). holds_buffer id.op) same;
          has_room = rooms.0;
        }

    came_keeps : Keeps h → Keeps (Came c ∷ h)
    came_keeps keeps kept e = by (is_act this (sent c)) refl e
      where
        chosen_by : (b : Bool) → is_kept w (is_stopped w h) c ≡ b → is_act this (sent c) ≡ true
            → (if b then Some (again c) else None) ≡ Some kept → IsKeptAs room (job_of n o k) (length c.tries) kept
        chosen_by true is_so is f =
            subst (IsKeptAs room (job_of n o k) (length c.tries)) (same_value f) (again_as is is_so)
        chosen_by false is_so is f = absurd (nothing f)

        by : (b : Bool) → is_act this (sent c) ≡ b
            → (if b then (if is_kept w (is_stopped w h) c then Some (again c) else None) else kept_job w h this)
            ≡ Some kept
            → IsKeptAs room (job_of n o k) (if b then length c.tries else tries_before h this) kept
        by true is f = chosen_by (is_kept w (is_stopped w h) c) refl is f
        by false is f = keeps kept f

  pub kept_as : (events : Events) → IsRun s events → HadRoom room events → Keeps (share w n events)
  kept_as [] run rooms kept e = absurd (nothing e)
  kept_as (Made fits ∷ before) run rooms kept e = kept_as before run.1 rooms kept e
  kept_as (Lined ∷ before) run rooms kept e = kept_as before run.1 rooms kept e
  kept_as (Stopped reason ∷ before) run rooms kept e = kept_as before run.1 rooms kept e
  kept_as (Sent t p m to ∷ before) run rooms kept e =
      either (t == n) (Gave (act.Send p m) ∷ with_taken w p m (share w n before)) (share w n before)
      (λ own. sent_keeps p m (share w n before) (kept_as before run.1 rooms)) (kept_as before run.1 rooms) kept e
  kept_as (Back from c ∷ before) run rooms kept e =
      either (is_task n c.job.id.task) (Came c ∷ share w n before) (share w n before)
      (λ own. came_keeps before from c run rooms own (kept_as before run.1 rooms.1)) (kept_as before run.1 rooms.1)
      kept e
  kept_as (Called t called r ∷ before) run rooms kept e =
      either (t == n) (Returned called r ∷ Gave called ∷ share w n before) (share w n before)
      (λ own x f. kept_as before run.1 rooms x (unless (is_act this called) (kept_job w (share w n before) this) x f))
      (kept_as before run.1 rooms) kept e
