-- An upload that was created is known by its name.
use Rattle.std.proofs.Common.{◌≡◌, ℕ, Bool, true, false, List, [], ◌∷◌, Option, Some, None, refl, sym, subst, ap}
use Rattle.std.specs.Option.{option_or}
use Rattle.std.specs.Prelude.{is_some, if◌then◌else◌}
use Rattle.jobs.specs.Endings.{IsEnded, IsReplyTo, SeenCarried}
use Rattle.jobs.specs.declared.ending.Ending.{Ending}
use Rattle.jobs.specs.declared.ending.Ending.TheVariants as ending
use Rattle.s3_model.specs.declared.answers.Reply.{Reply}
use Rattle.s3_model.specs.declared.answers.Reply.TheVariants as reply
use Rattle.s3_model.specs.declared.requests.Op.{Op}
use Rattle.s3_model.specs.declared.requests.Op.TheVariants as op
use Rattle.s3_model.specs.declared.tasks.Kind.{Kind}
use Rattle.s3_model.specs.declared.tasks.Kind.TheVariants as kind
use Rattle.std.proofs.Common.{◌||◌}
use Rattle.std.proofs.lemmas.Bool.{and_parts}
use Rattle.task_acts.specs.declared.acts.Act.{Act}
use Rattle.task_acts.specs.declared.acts.Act.TheVariants as act
use Rattle.task_acts.specs.declared.work.Work.{Work}
use Rattle.task_acts.specs.Failures.{is_stopped}
use Rattle.task_acts.specs.Histories.{Came, Cancelled, Gave, History, Returned, Taken, is_act, sent}
use Rattle.task_acts.specs.Kept.{IsHistory, MayHappen, created_in, upload_in, upload_of}
use Rattle.task_acts.specs.Rule.{is_created, is_due, is_named, is_ready_in}
use Rattle.task_acts.specs.Stages.{carried_stage, file_stage, given_stage, has_done, may_be_given, stage}
use Rattle.task_acts.specs.Work.{is_piece}
use Rattle.task_progress.proofs.Begun.{has_begun, out_has_begun, same_act}
use Rattle.task_progress.proofs.Endings.{no}
use Rattle.task_progress.proofs.Tags.{gained, given_not_done}

abbrev Create : Act
Create = act.Send op.Create 0

op_of_create : (c : SeenCarried) → is_act Create (sent c) ≡ true → c.job.id.op ≡ op.Create
op_of_create c same = ap (λ (a : Act). elim a as (λ _. Op) [ act.Send p n ↦ p | other ↦ op.Head ]) (sym (same_act Create (sent c) same))

named : (said : Reply) → IsReplyTo op.Create said → is_some (created_in (ending.Gained said)) ≡ true
named (reply.Created upload) is = refl
named said is = absurd is

module _ (w : Work) where
  named_now : (c : SeenCarried) (h : History) → MayHappen w h (Came c) → is_act Create (sent c) ≡ true
      → has_done (carried_stage w (is_stopped w h) c) ≡ true → is_some (upload_in c) ≡ true
  named_now c h may same done =
      let found = gained w c (is_stopped w h) done in
      let ended = subst (λ (x : Ending). IsEnded x c.job.id.op c.job.part c.job.cell c.tries) found.1 may.3 in
      let replies = subst (λ (p : Op). IsReplyTo p found.0) (op_of_create c same) ended.1 in
      let shows = subst (λ (x : Ending). is_some (created_in x) ≡ true) (sym found.1) (named found.0 replies) in
      subst (λ (b : Bool). is_some (if b then created_in c.ending else None) ≡ true) (sym same) shows

  some_first : (x y : Option (List ℕ)) → is_some x ≡ true → is_some (option_or x y) ≡ true
  some_first (Some id) y e = refl
  some_first None y e = no e

  some_later : (x y : Option (List ℕ)) → is_some y ≡ true → is_some (option_or x y) ≡ true
  some_later (Some id) y e = refl
  some_later None y e = e

  pub upload_there : (h : History) → IsHistory w h → has_done (stage w h Create) ≡ true → is_some (upload_of h) ≡ true
  upload_there [] is e = no e
  upload_there (Gave g ∷ h) is e = by (is_act Create g) e (λ f. upload_there h is.1 f)
    where
      by : (b : Bool) → has_done (if b then given_stage (stage w h g) else stage w h Create) ≡ true
          → (has_done (stage w h Create) ≡ true → is_some (upload_of h) ≡ true) → is_some (upload_of h) ≡ true
      by true f rest = no (given_not_done (stage w h g) f)
      by false f rest = rest f
  upload_there (Came c ∷ h) is e = by (is_act Create (sent c)) refl e (λ f. upload_there h is.1 f)
    where
      by : (b : Bool) → is_act Create (sent c) ≡ b
          → has_done (if b then carried_stage w (is_stopped w h) c else stage w h Create) ≡ true
          → (has_done (stage w h Create) ≡ true → is_some (upload_of h) ≡ true)
          → is_some (option_or (upload_in c) (upload_of h)) ≡ true
      by true same f rest = some_first (upload_in c) (upload_of h) (named_now c h is.0 same f)
      by false same f rest = some_later (upload_in c) (upload_of h) (rest f)
  upload_there (Returned (act.Send p n) r ∷ h) is e = no is.0.0
  upload_there (Returned called r ∷ h) is e = upload_there h is.1 e
  upload_there (Cancelled reason ∷ h) is e = upload_there h is.1 e
  upload_there (Taken p n ∷ h) is e = upload_there h is.1 e

  -- ---- before a part is read

  or_right : (a b : Bool) → a ≡ false → (a || b) ≡ true → b ≡ true
  or_right true b none e = no (sym none)
  or_right false b none e = e

  module _ (large : w.small ≡ false) (up : w.of_kind ≡ kind.Upload) (m : ℕ) where
    created_by : (h : History) (stopped : Bool) → is_named w (stage w h) stopped (act.Read m) ≡ true
        → has_done (stage w h Create) ≡ true
    created_by h true e = no e
    created_by h false e =
        let due = subst (λ (k : Kind). is_due w (stage w h) false k (act.Read m) ≡ true) up e in
        or_right w.small (is_created w (stage w h) false) large (and_parts (is_piece w m) _ due).1

    pub upload_read : (h : History) → IsHistory w h → has_begun (stage w h (act.Read m)) ≡ true
        → is_some (upload_of h) ≡ true
    upload_read [] is e = no e
    upload_read (Gave g ∷ h) is e = by (is_act (act.Read m) g) refl e (λ f. upload_read h is.1 f)
      where
        by : (b : Bool) → is_act (act.Read m) g ≡ b
            → has_begun (if b then given_stage (stage w h g) else stage w h (act.Read m)) ≡ true
            → (has_begun (stage w h (act.Read m)) ≡ true → is_some (upload_of h) ≡ true) → is_some (upload_of h) ≡ true
        by true same f rest =
            let ready = subst (λ (a : Act). is_ready_in w h a ≡ true) (sym (same_act (act.Read m) g same)) is.0 in
            upload_there h is.1 (created_by h (is_stopped w h) (and_parts (may_be_given (stage w h (act.Read m))) _ ready).1)
        by false same f rest = rest f
    upload_read (Came c ∷ h) is e = some_later (upload_in c) (upload_of h) (upload_read h is.1 e)
    upload_read (Returned (act.Send p n) r ∷ h) is e = no is.0.0
    upload_read (Returned called r ∷ h) is e = by (is_act (act.Read m) called) refl e (λ f. upload_read h is.1 f)
      where
        by : (b : Bool) → is_act (act.Read m) called ≡ b
            → has_begun (if b then file_stage r else stage w h (act.Read m)) ≡ true
            → (has_begun (stage w h (act.Read m)) ≡ true → is_some (upload_of h) ≡ true) → is_some (upload_of h) ≡ true
        by true same f rest =
            rest (subst (λ (a : Act). has_begun (stage w h a) ≡ true) (sym (same_act (act.Read m) called same))
            (out_has_begun (stage w h called) is.0.1))
        by false same f rest = rest f
    upload_read (Cancelled reason ∷ h) is e = upload_read h is.1 e
    upload_read (Taken p n ∷ h) is e = upload_read h is.1 e
