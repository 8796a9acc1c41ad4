-- When the jobs of one task are given.
use Rattle.std.proofs.Common.{append_assoc, ◌≡◌, ◌≢◌, ◌∙◌, ◌&&◌, ◌⊎◌, ◌++◌, ℕ, Bool, true, false, List, [], ◌∷◌, Option, Some, None, Contains, refl, sym, subst, ap, inl, inr, not}
use Rattle.std.proofs.lemmas.Bool.{and_parts}
use Rattle.std.specs.Prelude.{if◌then◌else◌, is_some, length}
use Rattle.jobs.specs.Endings.{IsEnded, IsReplyTo, SeenCarried}
use Rattle.jobs.specs.declared.ending.Ending.{Ending}
use Rattle.jobs.specs.declared.ending.Ending.TheVariants as ending
use Rattle.s3_model.specs.declared.answers.Reply.{Reply}
use Rattle.s3_model.specs.declared.answers.Reply.TheVariants as reply
use Rattle.s3_model.specs.declared.requests.Op.{Op}
use Rattle.s3_model.specs.declared.requests.Op.TheVariants as op
use Rattle.task_acts.specs.declared.acts.Act.{Act}
use Rattle.task_acts.specs.declared.acts.Act.TheVariants as act
use Rattle.task_acts.specs.declared.acts.Stage.{Stage}
use Rattle.task_acts.specs.declared.acts.Stage.TheVariants as at
use Rattle.task_acts.specs.declared.work.Work.{Work}
use Rattle.task_acts.specs.Failures.{is_asked_for, carried_cause, is_cut_short, is_stopped, is_unfinished}
use Rattle.task_acts.specs.Histories.{Came, Gave, History, is_act, sent}
use Rattle.task_acts.specs.Kept.{IsHistory, has_cell, upload_of}
use Rattle.task_acts.specs.Laws.{IsLast, IsTidying}
use Rattle.task_acts.specs.Rule.{acts_of, is_named, is_ready_in}
use Rattle.task_acts.specs.Stages.{carried_stage, given_stage, has_done, has_ended, is_out, may_be_given, stage}
use Rattle.task_acts.proofs.RuleLaws.{aborts_are_last, stops_begin}
use Rattle.shared_lemmas.proofs.Clashes.{false_true}
use Rattle.shared_lemmas.proofs.Members.{Has, contains_of, has, has-append_cases, has_middle, split_of}
use Rattle.task_progress.proofs.Begun.{begun_known, has_begun, out_has_begun, same_act}
use Rattle.task_progress.proofs.Endings.{chosen, no}
use Rattle.task_progress.proofs.Progress.{all_has, all_three, both, opposite}
use Rattle.task_progress.proofs.Quiet.{IsQuiet, created_completed, not_ready, outcome_quiet}
use Rattle.task_progress.proofs.Tags.{came_fine}
use Rattle.task_schedule.specs.Givings.{AbortedIsNotCompleted, AbortsComeLast, CreatedIsEnded, HasCome, IsGiven, IsGivenAt, NoneIsGivenThrice, OnlyCutIsGivenAgain, StopsGivings}
use Rattle.task_schedule.proofs.Standing.{CameFirst, Went, begun_given, begun_stays, earlier, ended_is_not_given, ended_stays, given_is_out, given_out, given_since, out_is_not_given, since_given, stays_stopped, success_done}
use Rattle.task_schedule.proofs.Successes.{CameWith, upload_came}

tidying_abort : (o : Op) (k : ℕ) → IsTidying (act.Send o k) → o ≡ op.Abort
tidying_abort op.Abort k t = refl
tidying_abort o k t = absurd t

pub abort_has_no_cell : (how : Stage) (o : Op) → o ≡ op.Abort → has_cell how o ≡ true → false ≡ true
abort_has_no_cell how o is e = subst (λ (x : Op). has_cell how x ≡ true) is e

-- only what is given for the first time has a cell
pub fresh_cell : (how : Stage) (o : Op) → may_be_given how ≡ true → has_cell (given_stage how) o ≡ true → has_begun how ≡ false
fresh_cell at.Waiting o given cell = refl
fresh_cell at.Kept op.Abort given cell = no cell
fresh_cell at.Kept o given cell = no cell
fresh_cell at.Out o given cell = no given
fresh_cell at.Again o given cell = no given
fresh_cell at.Fine o given cell = no given
fresh_cell at.Failed o given cell = no given

job_ended : (cut stopped why : Bool) → (cut ≡ false) ⊎ (stopped ≡ true) → has_ended (if cut then (if stopped then at.Failed else at.Kept) else if why then at.Failed else at.Fine) ≡ true
job_ended true true why e = refl
job_ended true false why (inl e) = no (sym e)
job_ended true false why (inr e) = no e
job_ended false stopped true e = refl
job_ended false stopped false e = refl

pub cut_gained : (w : Work) (c : SeenCarried) (said : Reply) → c.ending ≡ ending.Gained said → is_cut_short w c ≡ true → false ≡ true
cut_gained w c said gained cut = sym (ap (λ (e : Ending). is_some c.job.cell && is_unfinished w.attempts (length c.tries) e) gained ∙ never (is_some c.job.cell)) ∙ cut
  where
    never : (b : Bool) → (b && false) ≡ false
    never true = refl
    never false = refl

not_waiting : (how : Stage) → may_be_given how ≡ false → has_begun how ≡ true
not_waiting at.Waiting e = sym e
not_waiting how e = refl

gave_came : (g : Act) (c : SeenCarried) → Gave g ≡ Came c → ⊥
gave_came g c e = cc

op_in : Act → Op
op_in (act.Send o k) = o
op_in a = op.Head

-- a list behind a place of another
regroup : {X : Type 0} (xs : List X) (y : X) (ys zs : List X) → (xs ++ y ∷ ys) ++ zs ≡ xs ++ y ∷ (ys ++ zs)
regroup xs y ys zs = append_assoc xs (y ∷ ys) zs

module _ (w : Work) where
  pub given_at : (h later before : History) (o : Op) (k : ℕ) → IsHistory w h → IsGivenAt h later before o k → IsHistory w (Gave (act.Send o k) ∷ before)
  given_at h later before o k is at = earlier w later (Gave (act.Send o k) ∷ before) (subst (IsHistory w) at is)

  pub stopped_is_abort : (before : History) (o : Op) (k : ℕ) → is_ready_in w before (act.Send o k) ≡ true → is_stopped w before ≡ true → o ≡ op.Abort
  stopped_is_abort before o k ready stopped = tidying_abort o k (stops_begin w before (act.Send o k) stopped ready)

  -- ---- given again

  module _ (o : Op) (k : ℕ) where
    pub record IsAgain (between before : History) : Type 0 where
      pub came : CameFirst w o k between (Gave (act.Send o k) ∷ before)
      pub cut : is_cut_short w came.carried ≡ true
      pub going_then : is_stopped w (came.between ++ Gave (act.Send o k) ∷ before) ≡ false
      pub going : is_stopped w (between ++ Gave (act.Send o k) ∷ before) ≡ false
      pub no_abort : o ≢ op.Abort
      pub fresh : has_begun (stage w before (act.Send o k)) ≡ false

    cell_of_cut : (c : SeenCarried) → is_cut_short w c ≡ true → is_some c.job.cell ≡ true
    cell_of_cut c e = (and_parts (is_some c.job.cell) (is_unfinished w.attempts (length c.tries) c.ending) e).0

    -- what it was when it came, as far as the second giving shows
    module _ (between before : History) (is : IsHistory w (Gave (act.Send o k) ∷ (between ++ Gave (act.Send o k) ∷ before)))
        (came : CameFirst w o k between (Gave (act.Send o k) ∷ before)) where
      abbrev then_ : History
      then_ = came.between ++ Gave (act.Send o k) ∷ before

      all_is : between ++ Gave (act.Send o k) ∷ before ≡ came.later ++ Came came.carried ∷ then_
      all_is = ap (λ (x : History). x ++ Gave (act.Send o k) ∷ before) came.is ∙ regroup came.later (Came came.carried) came.between (Gave (act.Send o k) ∷ before)

      all_holds : IsHistory w (came.later ++ Came came.carried ∷ then_)
      all_holds = subst (IsHistory w) all_is is.1

      came_holds : IsHistory w (Came came.carried ∷ then_)
      came_holds = earlier w came.later (Came came.carried ∷ then_) all_holds

      stage_is : stage w (Came came.carried ∷ then_) (act.Send o k) ≡ carried_stage w (is_stopped w then_) came.carried
      stage_is = chosen (is_act (act.Send o k) (sent came.carried)) (carried_stage w (is_stopped w then_) came.carried) (stage w then_ (act.Send o k)) came.act_is

      ready : may_be_given (stage w (between ++ Gave (act.Send o k) ∷ before) (act.Send o k)) ≡ true
      ready = (and_parts (may_be_given (stage w (between ++ Gave (act.Send o k) ∷ before) (act.Send o k))) _ is.0).0

      -- it did not end then
      not_ended : (is_cut_short w came.carried ≡ false) ⊎ (is_stopped w then_ ≡ true) → false ≡ true
      not_ended e =
          let ended = subst (λ (how : Stage). has_ended how ≡ true) (sym stage_is) (job_ended (is_cut_short w came.carried) (is_stopped w then_) (is_some (carried_cause w came.carried)) e) in
          let still = ended_stays w came.later (Came came.carried ∷ then_) (act.Send o k) all_holds ended in
          ended_is_not_given (stage w (came.later ++ Came came.carried ∷ then_) (act.Send o k)) (subst (λ (how : Stage). has_ended how ≡ true) (sym still) ended)
          (subst (λ (x : History). may_be_given (stage w x (act.Send o k)) ≡ true) all_is ready)

      pub is_cut : is_cut_short w came.carried ≡ true
      is_cut = by (is_cut_short w came.carried) refl
        where
          by : (b : Bool) → is_cut_short w came.carried ≡ b → is_cut_short w came.carried ≡ true
          by true e = e
          by false e = no (not_ended (inl e))

      pub was_going : is_stopped w then_ ≡ false
      was_going = by (is_stopped w then_) refl
        where
          by : (b : Bool) → is_stopped w then_ ≡ b → is_stopped w then_ ≡ false
          by true e = no (not_ended (inr e))
          by false e = e

      its_op : came.carried.job.id.op ≡ o
      unfolding op_in
      its_op = ap op_in (sym (same_act (act.Send o k) (sent came.carried) came.act_is))

      has_its_cell : has_cell (stage w then_ (act.Send o k)) o ≡ true
      has_its_cell =
          subst (λ (p : Op). has_cell (stage w then_ (act.Send o k)) p ≡ true) its_op
          (subst (λ (a : Act). has_cell (stage w then_ a) came.carried.job.id.op ≡ true) (sym (same_act (act.Send o k) (sent came.carried) came.act_is))
          (sym came_holds.0.1 ∙ cell_of_cut came.carried is_cut))

      pub no_abort : o ≢ op.Abort
      no_abort e = absurd (false_true (abort_has_no_cell (stage w then_ (act.Send o k)) o e has_its_cell))

      pub is_going : is_stopped w (between ++ Gave (act.Send o k) ∷ before) ≡ false
      is_going = by (is_stopped w (between ++ Gave (act.Send o k) ∷ before)) refl
        where
          by : (b : Bool) → is_stopped w (between ++ Gave (act.Send o k) ∷ before) ≡ b → is_stopped w (between ++ Gave (act.Send o k) ∷ before) ≡ false
          by true e = absurd (no_abort (stopped_is_abort (between ++ Gave (act.Send o k) ∷ before) o k is.0 e))
          by false e = e

      first_holds : IsHistory w (Gave (act.Send o k) ∷ before)
      first_holds = earlier w between (Gave (act.Send o k) ∷ before) is.1

      pub is_fresh : has_begun (stage w before (act.Send o k)) ≡ false
      is_fresh = fresh_cell (stage w before (act.Send o k)) o (and_parts (may_be_given (stage w before (act.Send o k))) _ first_holds.0).0
          (subst (λ (how : Stage). has_cell how o ≡ true) (came.still.same ∙ given_out w o k before) has_its_cell)

      pub again_by : IsAgain between before
      again_by = record { came = came; cut = is_cut; going_then = was_going; going = is_going; no_abort = no_abort; fresh = is_fresh }

    pub again : (between before : History) → IsHistory w (Gave (act.Send o k) ∷ (between ++ Gave (act.Send o k) ∷ before)) → IsAgain between before
    again between before is = by (since_given w o k between before is.1)
      where
        by : Went w o k between (Gave (act.Send o k) ∷ before) → IsAgain between before
        by (inl still) = no (out_is_not_given (stage w (between ++ Gave (act.Send o k) ∷ before) (act.Send o k))
            (subst (λ (how : Stage). is_out how ≡ true) (sym (still.same ∙ given_out w o k before)) (given_is_out (stage w before (act.Send o k))))
            (and_parts (may_be_given (stage w (between ++ Gave (act.Send o k) ∷ before) (act.Send o k))) _ is.0).0)
        by (inr came) = again_by between before is came

    pub never_thrice : (second first before : History) → IsHistory w (Gave (act.Send o k) ∷ (second ++ Gave (act.Send o k) ∷ (first ++ Gave (act.Send o k) ∷ before))) → ⊥
    never_thrice second first before is =
        let last = again second (first ++ Gave (act.Send o k) ∷ before) is in
        let began = begun_stays w first (Gave (act.Send o k) ∷ before) (act.Send o k)
        (out_has_begun _ (subst (λ (how : Stage). is_out how ≡ true) (sym (given_out w o k before)) (given_is_out (stage w before (act.Send o k))))) in
        false_true (sym last.fresh ∙ began)

  -- ---- an Abort

  module _ (before : History) (k : ℕ) (is : IsHistory w (Gave (act.Send op.Abort k) ∷ before)) where
    pub last_of_all : IsLast w before
    last_of_all = (aborts_are_last w before k is.0).1

    pub none_out : (a : Act) → is_out (stage w before a) ≡ true → false ≡ true
    none_out a e = clash (is_out (stage w before a)) e
        (all_has (λ of_act. not (is_out (stage w before of_act))) (acts_of w) last_of_all.idle a (begun_known w before is.1 a (out_has_begun (stage w before a) e)))
      where
        clash : (b : Bool) → b ≡ true → not b ≡ true → false ≡ true
        clash true e f = f
        clash false e f = e

    pub has_come : (o : Op) (n : ℕ) (since first : History) → IsGivenAt before since first o n → HasCome since o n
    has_come o n since first at = by (since_given w o n since first holds)
      where
        holds : IsHistory w (since ++ Gave (act.Send o n) ∷ first)
        holds = subst (IsHistory w) at is.1

        by : Went w o n since (Gave (act.Send o n) ∷ first) → HasCome since o n
        by (inl still) = no (none_out (act.Send o n) (subst (λ (x : History). is_out (stage w x (act.Send o n)) ≡ true) (sym at)
            (subst (λ (how : Stage). is_out how ≡ true) (sym (still.same ∙ given_out w o n first)) (given_is_out (stage w first (act.Send o n))))))
        by (inr came) = record {
          carried = came.carried;
          known = contains_of since (Came came.carried) (subst (λ (x : History). Has x (Came came.carried)) (sym came.is) (has_middle came.later (Came came.carried) came.between));
          sent_is = sym (same_act (act.Send o n) (sent came.carried) came.act_is);
        }

  -- what is given after a failure or a cancel is an Abort
  pub given_after : (h later before : History) (o : Op) (k : ℕ) → IsHistory w h → is_stopped w before ≡ true → h ≡ later ++ before → Has later (Gave (act.Send o k)) → o ≡ op.Abort
  given_after h later before o k is stopped at known =
      let split = split_of later (Gave (act.Send o k)) known in
      let whole : h ≡ split.front ++ Gave (act.Send o k) ∷ (split.back ++ before) = at ∙ ap (λ (x : History). x ++ before) split.is ∙ regroup split.front (Gave (act.Send o k)) split.back before in
      let given = given_at h split.front (split.back ++ before) o k is whole in
      stopped_is_abort (split.back ++ before) o k given.0 (stays_stopped w split.back before stopped)

pub only_cut_is_given_again : OnlyCutIsGivenAgain
only_cut_is_given_again w h later between before o k is at =
    let found = again w o k between before (given_at w h later (between ++ Gave (act.Send o k) ∷ before) o k is at) in
    record {
      come = record {
        carried = found.came.carried;
        known = contains_of between (Came found.came.carried) (subst (λ (x : History). Has x (Came found.came.carried)) (sym found.came.is) (has_middle found.came.later (Came found.came.carried) found.came.between));
        sent_is = sym (same_act (act.Send o k) (sent found.came.carried) found.came.act_is);
      };
      cut = found.cut;
      no_success = λ said e. false_true (cut_gained w found.came.carried said e found.cut);
      going = found.going;
      no_abort = found.no_abort;
    }

pub none_is_given_thrice : NoneIsGivenThrice
none_is_given_thrice w h last second first before o k is at = never_thrice w o k second first before (given_at w h last (second ++ Gave (act.Send o k) ∷ (first ++ Gave (act.Send o k) ∷ before)) o k is at)

pub stops_givings : StopsGivings
stops_givings w h later before o k is at stopped = stopped_is_abort w before o k (given_at w h later before o k is at).0 stopped

pub aborts_come_last : AbortsComeLast
aborts_come_last w h later before k is at o other apart =
    let given = given_at w h later before op.Abort k is at in
    let last = last_of_all w before k given in (
      λ known. apart (given_after w h later (Gave (act.Send op.Abort k) ∷ before) o other is (stays_stopped w (Gave (act.Send op.Abort k) ∷ []) before last.stopped) at (has later (Gave (act.Send o other)) known)),
      λ since first there. has_come w before k given o other since first there,
    )

-- ---- a Complete and an Abort

pub complete_reply : (said : Reply) → IsReplyTo op.Complete said → said ≡ reply.Completed
complete_reply reply.Completed is = refl
complete_reply said is = absurd is

pub copy_reply : (said : Reply) → IsReplyTo op.Copy said → said ≡ reply.Copied
copy_reply reply.Copied is = refl
copy_reply said is = absurd is

complete_abort : op.Complete ≡ op.Abort → ⊥
complete_abort e = cc

-- a Complete that came with success was asked for
completed_asked : (w : Work) (k : ℕ) (said : Reply) → IsReplyTo op.Complete said → is_asked_for w k said ≡ true
completed_asked w k reply.Completed is = refl
completed_asked w k said is = absurd is

module _ (w : Work) (h : History) (is : IsHistory w h) where
  -- the reply of a job that came
  reply_of : (c : SeenCarried) (said : Reply) → Has h (Came c) → c.ending ≡ ending.Gained said → IsReplyTo c.job.id.op said
  reply_of c said known gained =
      let split = split_of h (Came c) known in
      let holds = earlier w split.front (Came c ∷ split.back) (subst (IsHistory w) split.is is) in
      let ended = subst (λ (e : Ending). IsEnded e c.job.id.op c.job.part c.job.cell c.tries) gained holds.0.3 in
      ended.1

  op_of_sent : (c : SeenCarried) (o : Op) (k : ℕ) → sent c ≡ act.Send o k → c.job.id.op ≡ o
  unfolding op_in
  op_of_sent c o k e = ap op_in e

  -- a Complete that came with success is done from then on
  completed_done : (c : SeenCarried) (said : Reply) → Has h (Came c) → sent c ≡ act.Send op.Complete 0 → c.ending ≡ ending.Gained said → has_done (stage w h (act.Send op.Complete 0)) ≡ true
  completed_done c said known sent_is gained =
      let replies = subst (λ (o : Op). IsReplyTo o said) (op_of_sent c op.Complete 0 sent_is) (reply_of c said known gained) in
      subst (λ (a : Act). has_done (stage w h a) ≡ true) sent_is (success_done w c said gained (completed_asked w c.job.id.number said replies) h is known)

module _ (w : Work) (later before : History) (k : ℕ) (is : IsHistory w (later ++ Gave (act.Send op.Abort k) ∷ before)) where
  given : IsHistory w (Gave (act.Send op.Abort k) ∷ before)
  given = earlier w later (Gave (act.Send op.Abort k) ∷ before) is

  -- before the Abort
  not_before : (c : SeenCarried) (said : Reply) → Has before (Came c) → sent c ≡ act.Send op.Complete 0 → c.ending ≡ ending.Gained said → false ≡ true
  not_before c said known sent_is gained = sym (last_of_all w before k given).not_completed ∙ completed_done w before given.1 c said known sent_is gained

  -- after it: it would have been given after it
  not_later : (c : SeenCarried) → Has later (Came c) → sent c ≡ act.Send op.Complete 0 → false ≡ true
  not_later c known sent_is =
      let split = split_of later (Came c) known in
      let whole : later ++ Gave (act.Send op.Abort k) ∷ before ≡ split.front ++ Came c ∷ (split.back ++ Gave (act.Send op.Abort k) ∷ before) =
      ap (λ (x : History). x ++ Gave (act.Send op.Abort k) ∷ before) split.is ∙ regroup split.front (Came c) split.back (Gave (act.Send op.Abort k) ∷ before) in
      let came = earlier w split.front (Came c ∷ (split.back ++ Gave (act.Send op.Abort k) ∷ before)) (subst (IsHistory w) whole is) in
      let out = subst (λ (a : Act). is_out (stage w (split.back ++ Gave (act.Send op.Abort k) ∷ before) a) ≡ true) sent_is came.0.0 in
      let sent_later = given_since w (act.Send op.Complete 0) split.back (Gave (act.Send op.Abort k) ∷ before) came.1 (was_in (is_out (stage w before (act.Send op.Complete 0))) refl) out in
      absurd (complete_abort (given_after w (split.back ++ Gave (act.Send op.Abort k) ∷ before) split.back (Gave (act.Send op.Abort k) ∷ before) op.Complete 0 came.1
      (stays_stopped w (Gave (act.Send op.Abort k) ∷ []) before (last_of_all w before k given).stopped) refl sent_later))
    where
      was_in : (b : Bool) → is_out (stage w before (act.Send op.Complete 0)) ≡ b → is_out (stage w (Gave (act.Send op.Abort k) ∷ before) (act.Send op.Complete 0)) ≡ false
      was_in true e = no (none_out w before k given (act.Send op.Complete 0) e)
      was_in false e = e

  pub not_completed : (c : SeenCarried) (said : Reply) → Has (later ++ Gave (act.Send op.Abort k) ∷ before) (Came c) → sent c ≡ act.Send op.Complete 0 → c.ending ≡ ending.Gained said → false ≡ true
  not_completed c said known sent_is gained = by (has-append_cases later (Gave (act.Send op.Abort k) ∷ before) (Came c) known)
    where
      by : Has later (Came c) ⊎ Has (Gave (act.Send op.Abort k) ∷ before) (Came c) → false ≡ true
      by (inl after) = not_later c after sent_is
      by (inr (inl e)) = absurd (gave_came (act.Send op.Abort k) c e)
      by (inr (inr known)) = not_before c said known sent_is gained

pub aborted_is_not_completed : AbortedIsNotCompleted
aborted_is_not_completed w h k is given c said known sent_is gained =
    let split = split_of h (Gave (act.Send op.Abort k)) (has h (Gave (act.Send op.Abort k)) given) in
    false_true (not_completed w split.front split.back k (subst (IsHistory w) split.is is) c said
    (subst (λ (x : History). Has x (Came c)) split.is (has h (Came c) known)) sent_is gained)

created_asked : (w : Work) (h : History) (id : List ℕ) → IsHistory w h → CameWith h op.Create 0 (reply.Created id) → has_done (stage w h (act.Send op.Create 0)) ≡ true
created_asked w h id is c = subst (λ (a : Act). has_done (stage w h a) ≡ true) (ap (λ (o : Op). act.Send o c.carried.job.id.number) c.op_is ∙ ap (act.Send op.Create) c.number_is)
    (success_done w c.carried (reply.Created id) c.gains refl h is c.known)

pub created_is_ended : CreatedIsEnded
created_is_ended w h piece is ended upload = by (has_done (stage w h (act.Send op.Complete 0))) refl (is_stopped w h) refl
  where
    quiet : IsQuiet w h
    quiet = outcome_quiet w h piece is ended

    created : (x : Option (List ℕ)) → upload_of h ≡ x → is_some x ≡ true → has_done (stage w h (act.Send op.Create 0)) ≡ true
    created None e some = no some
    created (Some id) e some = created_asked w h id is (upload_came h id e)

    completed : has_done (stage w h (act.Send op.Complete 0)) ≡ true
        → ((carried : SeenCarried) × Contains h (Came carried) × (sent carried ≡ act.Send op.Complete 0) × (carried.ending ≡ ending.Gained reply.Completed)) ⊎ IsGiven h op.Abort 0
    completed done =
        let came = came_fine w op.Complete 0 h is done in
        inl (
          came.carried,
          contains_of h (Came came.carried) came.known,
          ap (λ (o : Op). act.Send o came.carried.job.id.number) came.op_is ∙ ap (act.Send op.Complete) came.number_is,
          came.gains ∙ ap ending.Gained (complete_reply came.said came.replies),
        )

    aborted : has_done (stage w h (act.Send op.Complete 0)) ≡ false → is_stopped w h ≡ true → IsGiven h op.Abort 0
    aborted not_done stopped = contains_of h (Gave (act.Send op.Abort 0)) (begun_given w h is (act.Send op.Abort 0) (begun (may_be_given (stage w h (act.Send op.Abort 0))) refl))
      where
        named : is_named w (stage w h) (is_stopped w h) (act.Send op.Abort 0) ≡ true
        named = subst (λ (b : Bool). is_named w (stage w h) b (act.Send op.Abort 0) ≡ true) (sym stopped) (all_three _ _ _ (created (upload_of h) refl upload) (opposite _ not_done) quiet.1)

        begun : (b : Bool) → may_be_given (stage w h (act.Send op.Abort 0)) ≡ b → has_begun (stage w h (act.Send op.Abort 0)) ≡ true
        begun true e = no (not_ready w h piece is quiet (act.Send op.Abort 0) (both _ _ e named))
        begun false e = not_waiting (stage w h (act.Send op.Abort 0)) e

    by : (done : Bool) → has_done (stage w h (act.Send op.Complete 0)) ≡ done → (stopped : Bool) → is_stopped w h ≡ stopped
        → ((carried : SeenCarried) × Contains h (Came carried) × (sent carried ≡ act.Send op.Complete 0) × (carried.ending ≡ ending.Gained reply.Completed)) ⊎ IsGiven h op.Abort 0
    by true done stopped s = completed done
    by false not_done true s = inr (aborted not_done s)
    by false not_done false s = completed (created_completed w h piece is quiet s (created (upload_of h) refl upload))
