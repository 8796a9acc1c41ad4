-- What a job that did what it was to do has gained.
use Rattle.std.proofs.Common.{◌≡◌, ◌∙◌, ℕ, Bool, true, false, List, Option, refl, sym, subst, ap, inl, inr}
use Rattle.std.specs.Prelude.{[], ◌∷◌, is_some, if◌then◌else◌}
use Rattle.jobs.specs.Endings.{IsEnded, IsReplyTo, SeenCarried}
use Rattle.jobs.specs.declared.ending.Ending.{Ending}
use Rattle.jobs.specs.declared.ending.Ending.TheVariants as ending
use Rattle.s3_model.specs.declared.answers.Reply.{Reply}
use Rattle.s3_model.specs.declared.answers.Reply.TheVariants as reply
use Rattle.s3_model.specs.declared.requests.Op.{Op}
use Rattle.s3_model.specs.declared.requests.Op.TheVariants as op
use Rattle.s3_model.specs.declared.tasks.Kind.{Kind}
use Rattle.s3_model.specs.declared.tasks.Kind.TheVariants as kind
use Rattle.task_acts.specs.declared.acts.Act.{Act}
use Rattle.task_acts.specs.declared.acts.Act.TheVariants as act
use Rattle.task_acts.specs.declared.acts.Stage.{Stage}
use Rattle.task_acts.specs.declared.acts.Stage.TheVariants as at
use Rattle.task_acts.specs.declared.work.Work.{Work}
use Rattle.task_acts.specs.Failures.{ended_cause, is_cut_short, is_stopped}
use Rattle.task_acts.specs.Histories.{Came, Cancelled, Gave, History, Returned, Taken, is_act, sent}
use Rattle.task_acts.specs.Kept.{IsHistory, MayHappen, etag_in, etag_of}
use Rattle.task_acts.specs.Rule.{is_due, is_each_done, is_named, is_ready_in}
use Rattle.task_acts.specs.Stages.{carried_stage, given_stage, has_done, may_be_given, stage}
use Rattle.task_acts.specs.Work.{numbers, piece_op}
use Rattle.std.proofs.lemmas.Bool.{and_parts}
use Rattle.shared_lemmas.proofs.Members.{Has, has}
use Rattle.task_progress.specs.Progress.{TagsAreThere}
use Rattle.task_progress.proofs.Begun.{is_false, same_act}
use Rattle.task_progress.proofs.Endings.{no}
use Rattle.task_progress.proofs.Progress.{all_has}

not_fine : (cut stopped : Bool) → has_done (if cut then (if stopped then at.Failed else at.Kept) else at.Failed) ≡ true → false ≡ true
not_fine true true e = e
not_fine true false e = e
not_fine false stopped e = e

pub given_not_done : (how : Stage) → has_done (given_stage how) ≡ true → false ≡ true
given_not_done at.Waiting e = e
given_not_done at.Out e = e
given_not_done at.Kept e = e
given_not_done at.Again e = e
given_not_done at.Fine e = e
given_not_done at.Failed e = e

module _ (w : Work) where
  -- ---- one job

  module _ (c : SeenCarried) (stopped : Bool) where
    abbrev IsDoneBy : Ending → Type 0
    IsDoneBy of = has_done (if is_cut_short w c then (if stopped then at.Failed else at.Kept)
        else if is_some (ended_cause w c.job.id.op c.job.id.number of) then at.Failed else at.Fine) ≡ true

    gained_by : (of : Ending) → c.ending ≡ of → IsDoneBy of → (said : Reply) × (c.ending ≡ ending.Gained said)
    gained_by (ending.Gained said) e done = (said, e)
    gained_by (ending.Refused status code message) e done = no (not_fine (is_cut_short w c) stopped done)
    gained_by (ending.Uncertain reason) e done = no (not_fine (is_cut_short w c) stopped done)
    gained_by (ending.Cancelled reason) e done = no (not_fine (is_cut_short w c) stopped done)
    gained_by ending.Memory e done = no (not_fine (is_cut_short w c) stopped done)

    pub gained : has_done (carried_stage w stopped c) ≡ true → (said : Reply) × (c.ending ≡ ending.Gained said)
    gained done = gained_by c.ending refl done

  -- a success came for the job, with a reply to its request
  pub record CameFine (h : History) (o : Op) (k : ℕ) : Type 0 where
    pub carried : SeenCarried
    pub known : Has h (Came carried)
    pub op_is : carried.job.id.op ≡ o
    pub number_is : carried.job.id.number ≡ k
    pub said : Reply
    pub gains : carried.ending ≡ ending.Gained said
    pub replies : IsReplyTo o said

  earlier : (h : History) (o : Op) (k : ℕ) (e : _) → CameFine h o k → CameFine (e ∷ h) o k
  earlier h o k e c = record { carried = c.carried; known = inr c.known; op_is = c.op_is; number_is = c.number_is; said = c.said; gains = c.gains; replies = c.replies }

  module _ (o : Op) (k : ℕ) where
    now : (c : SeenCarried) (h : History) → MayHappen w h (Came c) → is_act (act.Send o k) (sent c) ≡ true → has_done (carried_stage w (is_stopped w h) c) ≡ true → CameFine (Came c ∷ h) o k
    now c h may same done =
        let is : act.Send o k ≡ sent c = same_act (act.Send o k) (sent c) same in
        let found = gained c (is_stopped w h) done in
        let is_op : c.job.id.op ≡ o = ap (λ (a : Act). elim a as (λ _. Op) [ act.Send p n ↦ p | other ↦ op.Head ]) (sym is) in
        let ended = subst (λ (x : Ending). IsEnded x c.job.id.op c.job.part c.job.cell c.tries) found.1 may.3 in
        record {
          carried = c;
          known = inl refl;
          op_is = is_op;
          number_is = ap (λ (a : Act). elim a as (λ _. ℕ) [ act.Send p n ↦ n | other ↦ 0 ]) (sym is);
          said = found.0;
          gains = found.1;
          replies = subst (λ (p : Op). IsReplyTo p found.0) is_op ended.1;
        }

    -- what did what it was to do came with success
    pub came_fine : (h : History) → IsHistory w h → has_done (stage w h (act.Send o k)) ≡ true → CameFine h o k
    came_fine [] is e = no e
    came_fine (Gave g ∷ h) is e = by (is_act (act.Send o k) g) e (λ f. came_fine h is.1 f)
      where
        by : (b : Bool) → has_done (if b then given_stage (stage w h g) else stage w h (act.Send o k)) ≡ true
            → (has_done (stage w h (act.Send o k)) ≡ true → CameFine h o k) → CameFine (Gave g ∷ h) o k
        by true f rest = no (given_not_done (stage w h g) f)
        by false f rest = earlier h o k (Gave g) (rest f)
    came_fine (Came c ∷ h) is e = by (is_act (act.Send o k) (sent c)) refl e (λ f. came_fine h is.1 f)
      where
        by : (b : Bool) → is_act (act.Send o k) (sent c) ≡ b → has_done (if b then carried_stage w (is_stopped w h) c else stage w h (act.Send o k)) ≡ true
            → (has_done (stage w h (act.Send o k)) ≡ true → CameFine h o k) → CameFine (Came c ∷ h) o k
        by true same f rest = now c h is.0 same f
        by false same f rest = earlier h o k (Came c) (rest f)
    came_fine (Returned (act.Send p n) r ∷ h) is e = no is.0.0
    came_fine (Returned called r ∷ h) is e = earlier h o k (Returned called r) (came_fine h is.1 e)
    came_fine (Cancelled reason ∷ h) is e = earlier h o k (Cancelled reason) (came_fine h is.1 e)
    came_fine (Taken p n ∷ h) is e = earlier h o k (Taken p n) (came_fine h is.1 e)

  -- ---- entity tags

  abbrev pub StoresPart : Op → Type 0
  StoresPart op.Part = Unit {0}
  StoresPart op.PartCopy = Unit {0}
  StoresPart o = ⊥

  tag_of_reply : (o : Op) (said : Reply) → StoresPart o → IsReplyTo o said → is_some (etag_in (ending.Gained said)) ≡ true
  tag_of_reply op.Part (reply.PartStored etag) stores is = refl
  tag_of_reply op.PartCopy (reply.PartStored etag) stores is = refl
  tag_of_reply op.Part said stores is = absurd is
  tag_of_reply op.PartCopy said stores is = absurd is
  tag_of_reply o said stores is = absurd stores

  module _ (o : Op) (k : ℕ) (stores : StoresPart o) where
    tagged_now : (c : SeenCarried) (h : History) → MayHappen w h (Came c) → is_act (act.Send o k) (sent c) ≡ true → has_done (carried_stage w (is_stopped w h) c) ≡ true
        → is_some (etag_in c.ending) ≡ true
    unfolding now
    tagged_now c h may same done =
        let came = now o k c h may same done in
        let found = gained c (is_stopped w h) done in
        let ended = subst (λ (x : Ending). IsEnded x c.job.id.op c.job.part c.job.cell c.tries) found.1 may.3 in
        let replies = subst (λ (p : Op). IsReplyTo p found.0) came.op_is ended.1 in
        subst (λ (x : Ending). is_some (etag_in x) ≡ true) (sym found.1) (tag_of_reply o found.0 stores replies)

    pub tag_there : (h : History) → IsHistory w h → has_done (stage w h (act.Send o k)) ≡ true → is_some (etag_of h (act.Send o k)) ≡ true
    tag_there [] is e = no e
    tag_there (Gave g ∷ h) is e = by (is_act (act.Send o k) g) e (λ f. tag_there h is.1 f)
      where
        by : (b : Bool) → has_done (if b then given_stage (stage w h g) else stage w h (act.Send o k)) ≡ true
            → (has_done (stage w h (act.Send o k)) ≡ true → is_some (etag_of h (act.Send o k)) ≡ true) → is_some (etag_of h (act.Send o k)) ≡ true
        by true f rest = no (given_not_done (stage w h g) f)
        by false f rest = rest f
    tag_there (Came c ∷ h) is e = by (is_act (act.Send o k) (sent c)) refl e (λ f. tag_there h is.1 f)
      where
        by : (b : Bool) → is_act (act.Send o k) (sent c) ≡ b → has_done (if b then carried_stage w (is_stopped w h) c else stage w h (act.Send o k)) ≡ true
            → (has_done (stage w h (act.Send o k)) ≡ true → is_some (etag_of h (act.Send o k)) ≡ true)
            → is_some (if b then etag_in c.ending else etag_of h (act.Send o k)) ≡ true
        by true same f rest = tagged_now c h is.0 same f
        by false same f rest = rest f
    tag_there (Returned (act.Send p n) r ∷ h) is e = no is.0.0
    tag_there (Returned called r ∷ h) is e = tag_there h is.1 e
    tag_there (Cancelled reason ∷ h) is e = tag_there h is.1 e
    tag_there (Taken p n ∷ h) is e = tag_there h is.1 e

  -- ---- before a Complete

  -- each part came with success
  pub each_part : (h : History) (n : ℕ) → is_ready_in w h (act.Send op.Complete n) ≡ true
      → StoresPart (piece_op w.of_kind w.small) × ((k : ℕ) → Has (numbers w) k → has_done (stage w h (act.Send (piece_op w.of_kind w.small) k)) ≡ true)
  each_part h n e = by (is_stopped w h) (and_parts (may_be_given (stage w h (act.Send op.Complete n))) _ e).1
    where
      of_parts : (k : Kind) → w.of_kind ≡ k → (o : Op) → StoresPart o → piece_op k false ≡ o → w.small ≡ false → is_each_done w (stage w h) false (act.Send o) ≡ true
          → StoresPart (piece_op w.of_kind w.small) × ((m : ℕ) → Has (numbers w) m → has_done (stage w h (act.Send (piece_op w.of_kind w.small) m)) ≡ true)
      of_parts k is o stores op_is large each =
          let same : o ≡ piece_op w.of_kind w.small = sym (ap (λ (x : Kind). piece_op x w.small) is ∙ ap (piece_op k) large ∙ op_is) in (
            subst StoresPart same stores,
            λ m known. subst (λ (p : Op). has_done (stage w h (act.Send p m)) ≡ true) same (all_has (λ number. has_done (stage w h (act.Send o number))) (numbers w) each m known),
          )

      due : (k : Kind) → w.of_kind ≡ k → is_due w (stage w h) false k (act.Send op.Complete n) ≡ true
          → StoresPart (piece_op w.of_kind w.small) × ((m : ℕ) → Has (numbers w) m → has_done (stage w h (act.Send (piece_op w.of_kind w.small) m)) ≡ true)
      due kind.Upload is f =
          let two = and_parts _ (is_each_done w (stage w h) false (act.Send op.Part)) f in
          let large = (and_parts _ _ (and_parts _ _ two.0).0).0 in
          of_parts kind.Upload is op.Part tt refl (is_false w.small large) two.1
      due kind.Copy is f =
          let two = and_parts _ (is_each_done w (stage w h) false (act.Send op.PartCopy)) f in
          let large = (and_parts _ _ (and_parts _ _ two.0).0).0 in
          of_parts kind.Copy is op.PartCopy tt refl (is_false w.small large) two.1
      due k is f = no f

      by : (b : Bool) → is_named w (stage w h) b (act.Send op.Complete n) ≡ true
          → StoresPart (piece_op w.of_kind w.small) × ((m : ℕ) → Has (numbers w) m → has_done (stage w h (act.Send (piece_op w.of_kind w.small) m)) ≡ true)
      by true f = no f
      by false f = due w.of_kind refl f

pub tags_are_there : TagsAreThere
tags_are_there w h n part is ready known none =
    let all = each_part w h n ready in
    some_clash (tag_there w (piece_op w.of_kind w.small) part all.0 h is (all.1 part (has (numbers w) part known)))
  where
    some_clash : is_some (etag_of h (act.Send (piece_op w.of_kind w.small) part)) ≡ true → ⊥
    some_clash e = no (ap (λ (x : Option (List ℕ)). is_some x) (sym none) ∙ e)
