-- A job that was sent is formed with what the history says.
use Rattle.std.proofs.Common.{◌≡◌, ◌∙◌, ◌==◌, ◌&&◌, ◌<◌, ◌∷◌, ℕ, Bool, true, false, List, Option, Some, None}
use Rattle.std.proofs.Common.{refl, sym, subst, ap, arith, length, not, if◌then◌else◌}
use Rattle.std.proofs.lemmas.Bool.{and_parts, eqb-true}
use Rattle.std.specs.Prelude.{is_some, slice_get}
use Rattle.manager_moves.proofs.CountLemmas.{no}
use Rattle.manager_moves.proofs.HoldLemmas.{same_op}
use Rattle.manager_moves.specs.Moves.{made}
use Rattle.manager_moves.specs.Parts.{is_kept}
use Rattle.manager_moves.specs.Runs.{Events, Sent, Shared, share}
use Rattle.manager_moves.specs.declared.moves.Move.TheVariants as move
use Rattle.move_laws.specs.Follows.{Follows, HoldsTask}
use Rattle.move_laws.specs.Kept.{SeenMoves, state_at}
use Rattle.move_laws.specs.Lending.{IsGoing, slot_tags}
use Rattle.move_laws.specs.Steady.{IsSteady, has_tags}
use Rattle.job_terms.specs.Ops.{is_op}
use Rattle.run_steps.proofs.Giving.{out_now, sent_share, unended_now}
use Rattle.run_steps.proofs.Settling.{slice_within}
use Rattle.run_steps.specs.Following.{IsSentIn}
use Rattle.s3_model.specs.Lists.{Reserved}
use Rattle.s3_model.specs.declared.requests.Op.{Op}
use Rattle.s3_model.specs.declared.requests.Op.TheVariants as op
use Rattle.s3_model.specs.declared.tasks.Kind.{Kind}
use Rattle.s3_model.specs.declared.tasks.Kind.TheVariants as kind
use Rattle.task_acts.specs.declared.acts.Act.{Act}
use Rattle.task_acts.specs.declared.acts.Act.TheVariants as act
use Rattle.task_acts.specs.declared.acts.Stage.{Stage}
use Rattle.task_acts.specs.declared.acts.Stage.TheVariants as at
use Rattle.task_acts.specs.declared.work.Work.{Work}
use Rattle.task_acts.specs.Ends.{outcome_of}
use Rattle.task_acts.specs.Failures.{is_stopped}
use Rattle.task_acts.specs.Histories.{Gave, History, Taken}
use Rattle.task_acts.specs.Kept.{kept_job, upload_of}
use Rattle.task_acts.specs.Rule.{is_created, is_due, is_each_done, is_named}
use Rattle.task_acts.specs.Stages.{is_out, may_be_given, stage}
use Rattle.task_core.specs.Machine.{SeenTask, keeps_tags}
use Rattle.task_readiness.specs.Readiness.{has_parts}
use Rattle.kept_jobs.specs.Steps.{HasTags}
use Rattle.manager_core.proofs.GivenRuns.{sent_in}
use Rattle.manager_core.proofs.ReadyJobs.{is_ready, its_at, its_there, its_work, made_there, memory, not_kept}
use Rattle.manager_core.proofs.TagLemmas.{tags_stay}
use Rattle.manager_core.specs.declared.due.Due.TheVariants as due
use Rattle.manager_core.specs.Kept.{SeenManager}
use Rattle.manager_core.specs.Running.{IsRunning, Start}
use Rattle.manager_core.specs.Tags.{HoldTags}

-- ---- what completes an upload goes in parts

first_two : (a b c d : Bool) → (a && b && c && d) ≡ true → (a ≡ true) × (b ≡ true)
first_two true true c d e = (refl, refl)
first_two true false c d e = no e
first_two false b c d e = no e

completes : (w : Work) (stage_of : Act → Stage) (stopped : Bool) (k : ℕ) (of_kind : Kind) → w.of_kind ≡ of_kind
    → is_due w stage_of stopped of_kind (act.Send op.Complete k) ≡ true
    → (has_parts of_kind ≡ true) × (not w.small ≡ true) × ((k == 0) ≡ true)
completes w stage_of stopped k kind.Upload is e =
    let two = first_two (not w.small) (k == 0) (is_created w stage_of stopped)
    (is_each_done w stage_of stopped (act.Send op.Part)) e in
    (refl, two.0, two.1)
completes w stage_of stopped k kind.Copy is e =
    let two = first_two (not w.small) (k == 0) (is_created w stage_of stopped)
    (is_each_done w stage_of stopped (act.Send op.PartCopy)) e in
    (refl, two.0, two.1)
completes w stage_of stopped k kind.Download is e = no e
completes w stage_of stopped k kind.RemoveObject is e = no e
completes w stage_of stopped k kind.RemoveFile is e = no e

completes_so : (w : Work) (stage_of : Act → Stage) (stopped : Bool) (k : ℕ)
    → is_named w stage_of stopped (act.Send op.Complete k) ≡ true → (keeps_tags w ≡ true) × (k ≡ 0)
completes_so w stage_of true k e = no e
completes_so w stage_of false k e =
    let all = completes w stage_of false k w.of_kind refl e in (
      both (has_parts w.of_kind) (not w.small) all.0 all.1,
      eqb-true k 0 all.2,
    )
  where
    both : (a b : Bool) → a ≡ true → b ≡ true → (a && b) ≡ true
    both true b e f = f
    both false b e f = no e

waiting_then : (how : Stage) → may_be_given how ≡ true → is_kept how ≡ false → how ≡ at.Waiting
waiting_then at.Waiting e f = refl
waiting_then at.Kept e f = no (sym f)
waiting_then at.Out e f = no e
waiting_then at.Again e f = no e
waiting_then at.Fine e f = no e
waiting_then at.Failed e f = no e

state_there : (room : ℕ) (w : Work) (h : History) (x : Option SeenTask) → HoldsTask room w h x
    → is_some (outcome_of w h) ≡ false → is_some x ≡ true
state_there room w h (Some t) holds e = refl
state_there room w h None holds e = no (sym e ∙ holds.ended)

tags_so : (x : Option SeenTask) → has_tags x ≡ true → is_some (slot_tags x) ≡ true
tags_so (Some t) e = e
tags_so None e = no e

module _ (start : Start) (s : Shared) (events : Events) (m : SeenManager)
    (running : IsRunning start s events m) (task : ℕ) (o : Op) (k lane : ℕ)
    (is : m.due ≡ due.Next (move.Give task o k lane)) (mv : SeenMoves)
    (follows : Follows s (Sent task o k lane ∷ events) mv) (steady : IsSteady m.moves mv) where
  abbrev w : Work
  w = its_work start s events m running task o k lane is

  abbrev later : Events
  later = Sent task o k lane ∷ events

  abbrev h : History
  h = share w task events

  given : IsSentIn s events task o k lane
  given = sent_in start s events m running task o k lane is

  there : slice_get s.works task ≡ Some w
  there = its_there start s events m running task o k lane is

  of_made : slice_get (made s events) task ≡ Some w
  of_made = made_there start s events m running task o k lane is

  -- the task goes on with its job out
  pub still_going : IsGoing s later mv task w
  still_going = record {
    there = of_made;
    memory = memory start s events m running task o k lane is;
    state = state_there mv.parts.pool.room w (share w task later) (state_at mv task)
        (follows.tasks task w of_made (memory start s events m running task o k lane is))
        (unended_now s events task o k lane m.plan.tasks.items given w there);
  }

  pub slots_within : task < length mv.slots
  slots_within =
      let below = slice_within s.works task w there in
      let count = follows.count in
      omega (arith, below, count)

  -- ---- entity tags

  module _ (first : kept_job w h (act.Send o k) ≡ None) (joins : o ≡ op.Complete) where
    pub waits : (keeps_tags w ≡ true) × (k ≡ 0) × (stage w h (act.Send op.Complete 0) ≡ at.Waiting)
    waits =
        let two = and_parts (may_be_given (stage w h (act.Send o k)))
        (is_named w (stage w h) (is_stopped w h) (act.Send o k))
        (is_ready start s events m running task o k lane is) in
        let so = completes_so w (stage w h) (is_stopped w h) k
        (subst (λ (p : Op). is_named w (stage w h) (is_stopped w h) (act.Send p k) ≡ true) joins two.1) in (
          so.0,
          so.1,
          subst (λ (n : ℕ). stage w h (act.Send op.Complete n) ≡ at.Waiting) so.1
              (subst (λ (p : Op). stage w h (act.Send p k) ≡ at.Waiting) joins
              (waiting_then (stage w h (act.Send o k)) two.0
              (not_kept start s events m running task o k lane is first))),
        )

    pub tags_there : is_some (slot_tags (state_at mv task)) ≡ true
    tags_there =
        let goes = still_going.state in
        tags_so (state_at mv task) (steady.tags task goes
        ∙ (its_at start s events m running task o k lane is).tags task w of_made waits.0 waits.2
        (steady.went_on task goes))

  -- what is said of the task is what was said before
  upload_by : (b : Bool) → upload_of (if b then Taken o k ∷ h else h) ≡ upload_of h
  upload_by true = refl
  upload_by false = refl

  pub same_upload : upload_of (share w task later) ≡ upload_of h
  same_upload = ap upload_of (sent_share s events task o k lane m.plan.tasks.items given w)
      ∙ upload_by (is_some (kept_job w h (act.Send o k)))

  tags_by : (b : Bool) (etags : Option (Reserved (List ℕ))) (p : Op)
      → HasTags w (Gave (act.Send o k) ∷ (if b then Taken o k ∷ h else h)) p etags → HasTags w h p etags
  tags_by true etags op.Complete has = has
  tags_by false etags op.Complete has = has
  tags_by true etags p has = has
  tags_by false etags p has = has

  pub same_tags : (etags : Option (Reserved (List ℕ))) → HasTags w (share w task later) o etags → HasTags w h o etags
  same_tags etags has = tags_by (is_some (kept_job w h (act.Send o k))) etags o
      (subst (λ (x : History). HasTags w x o etags) (sent_share s events task o k lane m.plan.tasks.items given w) has)

  -- those that are joined are given away, and all others stay
  module _ (new : SeenMoves)
      (others : (n : ℕ) → (is_op o op.Complete && (task == n)) ≡ false → state_at new n ≡ state_at mv n) where
    not_waiting : (how : Stage) → is_out how ≡ true → how ≡ at.Waiting → false ≡ true
    not_waiting how out e = sym (ap is_out e) ∙ out

    gone : (n : ℕ) (v : Work) → slice_get (made s later) n ≡ Some v
        → stage v (share v n later) (act.Send op.Complete 0) ≡ at.Waiting
        → (is_op o op.Complete && (task == n)) ≡ true → k ≡ 0 → false ≡ true
    gone n v at_n waiting both zero_is =
        let two = and_parts (is_op o op.Complete) (task == n) both in
        let here : task ≡ n = eqb-true task n two.1 in
        let joins : o ≡ op.Complete = same_op o op.Complete two.0 in
        not_waiting (stage v (share v task later) (act.Send o k))
        (out_now s events task o k lane m.plan.tasks.items given v)
        (subst (λ (p : Op). stage v (share v task later) (act.Send p k) ≡ at.Waiting) (sym joins)
        (subst (λ (i : ℕ). stage v (share v task later) (act.Send op.Complete i) ≡ at.Waiting) (sym zero_is)
        (subst (λ (i : ℕ). stage v (share v i later) (act.Send op.Complete 0) ≡ at.Waiting) (sym here) waiting)))

    pub tags_left : (is_op o op.Complete ≡ true → k ≡ 0) → HoldTags s later new
    tags_left zero_is n v at_n keeps waiting goes = by (is_op o op.Complete && (task == n)) refl
      where
        before : HoldTags s later mv
        before = tags_stay s events m.moves mv steady (its_at start s events m running task o k lane is).tags
            (Sent task o k lane) refl

        by : (b : Bool) → (is_op o op.Complete && (task == n)) ≡ b → has_tags (state_at new n) ≡ true
        by true e = no (gone n v at_n waiting e (zero_is (and_parts (is_op o op.Complete) (task == n) e).0))
        by false e =
            let same = others n e in
            ap (λ (x : Option SeenTask). has_tags x) same
            ∙ before n v at_n keeps waiting (sym (ap (λ (x : Option SeenTask). is_some x) same) ∙ goes)
