-- What the outcome of a task shows of its history.
use Rattle.std.proofs.Common.{append_assoc, ◌≡◌, ◌≢◌, ◌∙◌, ◌==◌, ◌&&◌, ◌||◌, ◌⊎◌, ◌++◌, ℕ, Bool, true, false, List, [], ◌∷◌, Option, Some, None, Contains, refl, sym, subst, ap, inl, inr, arith, not}
use Rattle.std.proofs.lemmas.Bool.{and_parts}
use Rattle.std.proofs.lemmas.List.Elements.{All-contains}
use Rattle.std.specs.List.{list_any}
use Rattle.std.specs.Option.{option_or}
use Rattle.std.specs.Prelude.{if◌then◌else◌, is_some}
use Rattle.jobs.specs.Endings.{EndIn, IsEnded, IsReplyTo, SeenCarried}
use Rattle.jobs.specs.declared.ending.Ending.{Ending}
use Rattle.jobs.specs.declared.ending.Ending.TheVariants as ending
use Rattle.job_terms.specs.Ops.{is_op, op_number, deciding}
use Rattle.s3_model.specs.declared.answers.Reply.{Reply}
use Rattle.s3_model.specs.declared.answers.Reply.TheVariants as reply
use Rattle.s3_model.specs.declared.outcomes.Cause.{Cause}
use Rattle.s3_model.specs.declared.outcomes.Outcome.{Outcome}
use Rattle.s3_model.specs.declared.outcomes.Outcome.TheVariants as outcome
use Rattle.s3_model.specs.declared.requests.Op.{Op}
use Rattle.s3_model.specs.declared.requests.Op.TheVariants as op
use Rattle.s3_model.specs.declared.tasks.Kind.{Kind}
use Rattle.s3_model.specs.declared.tasks.Kind.TheVariants as kind
use Rattle.s3_model.specs.declared.tries.Mark.{Mark}
use Rattle.s3_model.specs.declared.tries.Mark.TheVariants as mark
use Rattle.task_acts.specs.declared.acts.Act.{Act}
use Rattle.task_acts.specs.declared.acts.Act.TheVariants as act
use Rattle.task_acts.specs.declared.acts.FileCame.{FileCame}
use Rattle.task_acts.specs.declared.acts.FileCame.TheVariants as file
use Rattle.task_acts.specs.declared.acts.Stage.{Stage}
use Rattle.task_acts.specs.declared.work.Work.{Work}
use Rattle.task_acts.specs.Ends.{copied_for, decides, failed_for, has_uncertain, how_ended, is_by_request, is_uncertain, open_cause, outcome_of, removal, settled, stop_cause, unknown_for}
use Rattle.task_acts.specs.Failures.{is_asked_for, is_stopped}
use Rattle.task_acts.specs.Histories.{Came, Cancelled, Gave, Happening, History, Returned, Taken, is_act, sent}
use Rattle.task_acts.specs.Kept.{IsHistory, is_file_act}
use Rattle.task_acts.specs.Rule.{first_ready_in, is_decided, is_decided_by, is_decided_in, is_due, is_idle_in, is_named}
use Rattle.task_acts.specs.Stages.{carried_stage, file_stage, given_stage, has_done, may_be_given, stage}
use Rattle.task_acts.specs.Work.{deciding_op}
use Rattle.task_acts.specs.Laws.{MayLoseSource}
use Rattle.task_acts.proofs.RuleLaws.{sources_go_last}
use Rattle.shared_lemmas.proofs.Clashes.{false_true, some_is}
use Rattle.shared_lemmas.proofs.Members.{Has, contains_of, has, has-append_cases, has_middle, split_of}
use Rattle.task_progress.specs.Progress.{HasPiece}
use Rattle.task_progress.proofs.Begun.{same_act}
use Rattle.task_progress.proofs.Endings.{chosen, no}
use Rattle.task_progress.proofs.Progress.{both}
use Rattle.task_progress.proofs.Quiet.{IsQuiet, not_out, not_ready, outcome_quiet}
use Rattle.task_progress.proofs.Tags.{came_fine, given_not_done}
use Rattle.task_schedule.specs.Givings.{IsGiven}
use Rattle.task_schedule.specs.Outcomes.{HasDecidingMark, HasGone, HasHappened, IsFine, IsShownBy, IsSpared, OutcomesShow}
use Rattle.task_schedule.proofs.Sources.{ended_has_begun}
use Rattle.task_schedule.proofs.Standing.{done_stays, earlier, success_done, was_given}

-- ---- marks

any_has : (p : Mark → Bool) (tries : List Mark) → list_any p tries ≡ true → (m : Mark) × Has tries m × (p m ≡ true)
any_has p [] e = no e
any_has p (x ∷ tries) e = by (p x) refl e (λ f. any_has p tries f)
  where
    by : (b : Bool) → p x ≡ b → (b || list_any p tries) ≡ true → (list_any p tries ≡ true → (m : Mark) × Has tries m × (p m ≡ true)) → (m : Mark) × Has (x ∷ tries) m × (p m ≡ true)
    by true is f rest = (x, inl refl, is)
    by false is f rest = let found = rest f in (found.0, inr found.1, found.2)

has_any : (p : Mark → Bool) (tries : List Mark) (m : Mark) → Has tries m → p m ≡ true → list_any p tries ≡ true
has_any p [] m known is = absurd known
has_any p (x ∷ tries) m (inl e) is = first (p x) (list_any p tries) (subst (λ (z : Mark). p z ≡ true) (sym e) is)
  where
    first : (a b : Bool) → a ≡ true → (a || b) ≡ true
    first true b f = refl
    first false b f = no f
has_any p (x ∷ tries) m (inr known) is = second (p x) (list_any p tries) (has_any p tries m known is)
  where
    second : (a b : Bool) → b ≡ true → (a || b) ≡ true
    second true b f = refl
    second false b f = f

uncertain_is : (m : Mark) → is_uncertain m ≡ true → m ≡ mark.Uncertain
uncertain_is mark.Success e = no e
uncertain_is mark.Refusal e = no e
uncertain_is mark.Uncertain e = refl

refusal_success : mark.Refusal ≡ mark.Success → ⊥
refusal_success e = cc

uncertain_success : mark.Uncertain ≡ mark.Success → ⊥
uncertain_success e = cc

-- a success is the last mark alone
no_success_in : (of : Mark) (tries : List Mark) → EndIn of tries → (of ≡ mark.Success → ⊥) → Has tries mark.Success → ⊥
no_success_in of tries is apart known =
    elim (has-append_cases is.0 (of ∷ []) mark.Success (subst (λ (z : List Mark). Has z mark.Success) is.1 known)) [
      | inl front ↦ All-contains (λ (each : Mark). each ≢ mark.Success) is.0 mark.Success is.2 (contains_of is.0 mark.Success front) refl
      | inr last ↦ elim last [ inl e ↦ apart e | inr none ↦ none ]
    ]

success_gained : (c : SeenCarried) (of : Ending) → IsEnded of c.job.id.op c.job.part c.job.cell c.tries → Has c.tries mark.Success → (said : Reply) × (of ≡ ending.Gained said)
success_gained c (ending.Gained said) is known = (said, refl)
success_gained c (ending.Refused status code message) is known = absurd (no_success_in mark.Refusal c.tries is refusal_success known)
success_gained c (ending.Uncertain reason) is known = absurd (no_success_in mark.Uncertain c.tries is uncertain_success known)
success_gained c (ending.Cancelled reason) is known = absurd (subst (λ (z : List Mark). Has z mark.Success) is.0 known)
success_gained c ending.Memory is known = absurd (All-contains (λ (each : Mark). each ≢ mark.Success) c.tries mark.Success is (contains_of c.tries mark.Success known) refl)

gained_success : (c : SeenCarried) (said : Reply) → IsEnded (ending.Gained said) c.job.id.op c.job.part c.job.cell c.tries → Has c.tries mark.Success
gained_success c said is = subst (λ (z : List Mark). Has z mark.Success) (sym is.0.1) (has_middle is.0.0 mark.Success [])

-- only a Get may gain what was not asked for
abbrev IsNoGet : Op → Type 0
IsNoGet op.Get = ⊥
IsNoGet o = Unit {0}

not_got : (o : Op) (status : ℕ) (range : Option (ℕ × ℕ × ℕ)) (length : ℕ) → IsNoGet o → IsReplyTo o (reply.Got status range length) → ⊥
not_got op.Get status range length other is = other
not_got o status range length other is = is

asked_unless_get : (w : Work) (o : Op) (number : ℕ) (said : Reply) → IsNoGet o → IsReplyTo o said → is_asked_for w number said ≡ true
asked_unless_get w o number (reply.Got status range length) other is = absurd (not_got o status range length other is)
asked_unless_get w o number said other is = refl

deciding_no_get : (k : Kind) (small : Bool) → IsNoGet (deciding k small)
deciding_no_get kind.Upload true = tt
deciding_no_get kind.Upload false = tt
deciding_no_get kind.Copy true = tt
deciding_no_get kind.Copy false = tt
deciding_no_get kind.Download small = tt
deciding_no_get kind.RemoveObject small = tt
deciding_no_get kind.RemoveFile small = tt

same_number : (n : ℕ) → (n == n) ≡ true
same_number n = grind arith

kinds_apart_copy : kind.RemoveObject ≡ kind.Copy → ⊥
kinds_apart_copy e = cc

kinds_apart_download : kind.RemoveObject ≡ kind.Download → ⊥
kinds_apart_download e = cc

-- ---- calls on files

module _ (w : Work) where
  -- a call that did what it was to do came back fine
  pub returned_fine : (h : History) → IsHistory w h → (a : Act) → is_file_act a ≡ true → has_done (stage w h a) ≡ true → Has h (Returned a file.Fine)
  returned_fine [] is a call e = no e
  returned_fine (Gave g ∷ h) is a call e = by (is_act a g) e (λ f. returned_fine h is.1 a call f)
    where
      by : (b : Bool) → has_done (if b then given_stage (stage w h g) else stage w h a) ≡ true → (has_done (stage w h a) ≡ true → Has h (Returned a file.Fine)) → Has (Gave g ∷ h) (Returned a file.Fine)
      by true f rest = no (given_not_done (stage w h g) f)
      by false f rest = inr (rest f)
  returned_fine (Came c ∷ h) is a call e = by (is_act a (sent c)) refl e (λ f. returned_fine h is.1 a call f)
    where
      by : (b : Bool) → is_act a (sent c) ≡ b → has_done (if b then carried_stage w (is_stopped w h) c else stage w h a) ≡ true → (has_done (stage w h a) ≡ true → Has h (Returned a file.Fine))
          → Has (Came c ∷ h) (Returned a file.Fine)
      by true same f rest = no (ap is_file_act (sym (same_act a (sent c) same)) ∙ call)
      by false same f rest = inr (rest f)
  returned_fine (Returned called r ∷ h) is a call e = by (is_act a called) refl e (λ f. returned_fine h is.1 a call f)
    where
      fine : (r : FileCame) → has_done (file_stage r) ≡ true → r ≡ file.Fine
      fine file.Fine f = refl
      fine file.Short f = no f
      fine (file.Fault fault) f = no f

      by : (b : Bool) → is_act a called ≡ b → has_done (if b then file_stage r else stage w h a) ≡ true → (has_done (stage w h a) ≡ true → Has h (Returned a file.Fine))
          → Has (Returned called r ∷ h) (Returned a file.Fine)
      by true same f rest = inl (ap (λ (x : Act). Returned x r) (sym (same_act a called same)) ∙ ap (Returned a) (fine r f))
      by false same f rest = inr (rest f)
  returned_fine (Cancelled reason ∷ h) is a call e = inr (returned_fine h is.1 a call e)
  returned_fine (Taken o k ∷ h) is a call e = inr (returned_fine h is.1 a call e)

  -- and the other way round
  fine_done : (h : History) → IsHistory w h → (a : Act) → is_act a a ≡ true → Has h (Returned a file.Fine) → has_done (stage w h a) ≡ true
  fine_done h is a itself known =
      let split = split_of h (Returned a file.Fine) known in
      let now : has_done (stage w (Returned a file.Fine ∷ split.back) a) ≡ true =
      subst (λ (how : Stage). has_done how ≡ true) (sym (chosen (is_act a a) (file_stage file.Fine) (stage w split.back a) itself)) refl in
      subst (λ (x : History). has_done (stage w x a) ≡ true) (sym split.is) (done_stays w split.front (Returned a file.Fine ∷ split.back) a (subst (IsHistory w) split.is is) now)

  -- ---- the deciding request

  module _ (h : History) (is : IsHistory w h) where
    came_holds : (c : SeenCarried) → Has h (Came c) → IsEnded c.ending c.job.id.op c.job.part c.job.cell c.tries
    came_holds c known =
        let split = split_of h (Came c) known in
        (earlier w split.front (Came c ∷ split.back) (subst (IsHistory w) split.is is)).0.3

    abbrev decider : Act
    decider = act.Send (deciding_op w) 0

    pub decides_is : (c : SeenCarried) → decides w c ≡ true → (is_by_request w.of_kind ≡ true) × (sent c ≡ decider)
    decides_is c e =
        let two = and_parts (is_by_request w.of_kind && is_op c.job.id.op (deciding_op w)) (c.job.id.number == 0) e in
        let one = and_parts (is_by_request w.of_kind) (is_op c.job.id.op (deciding_op w)) two.0 in
        (one.0, same_act (sent c) decider (both (is_op c.job.id.op (deciding_op w)) (c.job.id.number == 0) one.1 two.1))

    op_in : Act → Op
    op_in (act.Send o k) = o
    op_in a = op.Head

    op_is : (c : SeenCarried) (o : Op) (k : ℕ) → sent c ≡ act.Send o k → c.job.id.op ≡ o
    unfolding op_in
    op_is c o k e = ap op_in e

    -- with a success it is done
    mark_done : HasDecidingMark w h mark.Success → (is_by_request w.of_kind ≡ true) × (has_done (stage w h decider) ≡ true)
    mark_done m =
        let known = has h (Came m.0) m.1 in
        let its = decides_is m.0 m.2 in
        let ended = came_holds m.0 known in
        let gained = success_gained m.0 m.0.ending ended (has m.0.tries mark.Success m.3) in
        let replies = subst (λ (e : Ending). IsEnded e m.0.job.id.op m.0.job.part m.0.job.cell m.0.tries) gained.1 ended in
        let o_is = op_is m.0 (deciding_op w) 0 its.1 in
        let asked = asked_unless_get w (deciding_op w) m.0.job.id.number gained.0 (deciding_no_get w.of_kind w.small) (subst (λ (o : Op). IsReplyTo o gained.0) o_is replies.1) in
        (its.0, subst (λ (a : Act). has_done (stage w h a) ≡ true) its.1 (success_done w m.0 gained.0 gained.1 asked h is known))

    -- where it is done it came with a success
    done_mark : is_by_request w.of_kind ≡ true → has_done (stage w h decider) ≡ true → HasDecidingMark w h mark.Success
    done_mark by done =
        let came = came_fine w (deciding_op w) 0 h is done in
        let c = came.carried in
        let ended = subst (λ (e : Ending). IsEnded e c.job.id.op c.job.part c.job.cell c.tries) came.gains (came_holds c came.known) in (
          c,
          contains_of h (Came c) came.known,
          both (is_by_request w.of_kind && is_op c.job.id.op (deciding_op w)) (c.job.id.number == 0)
              (both (is_by_request w.of_kind) (is_op c.job.id.op (deciding_op w)) by (subst (λ (o : Op). is_op o (deciding_op w) ≡ true) (sym came.op_is) (same_number (op_number (deciding_op w)))))
              (subst (λ (m : ℕ). (m == 0) ≡ true) (sym came.number_is) refl),
          contains_of c.tries mark.Success (gained_success c came.said ended),
        )

    pub happened_by : (k : Kind) → w.of_kind ≡ k → is_decided_by w (stage w h) (is_stopped w h) k ≡ true → HasHappened w h k
    happened_by kind.Upload k e = done_mark (ap is_by_request k) e
    happened_by kind.Download k e = contains_of h (Returned act.Rename file.Fine) (returned_fine h is act.Rename refl e)
    happened_by kind.Copy k e = done_mark (ap is_by_request k) e
    happened_by kind.RemoveObject k e = done_mark (ap is_by_request k) e
    happened_by kind.RemoveFile k e = contains_of h (Returned act.Remove file.Fine) (returned_fine h is act.Remove refl e)

    decided_by : (k : Kind) → HasHappened w h k → is_decided_by w (stage w h) (is_stopped w h) k ≡ true
    decided_by kind.Upload e = (mark_done e).1
    decided_by kind.Download e = fine_done h is act.Rename refl (has h (Returned act.Rename file.Fine) e)
    decided_by kind.Copy e = (mark_done e).1
    decided_by kind.RemoveObject e = (mark_done e).1
    decided_by kind.RemoveFile e = fine_done h is act.Remove refl (has h (Returned act.Remove file.Fine) e)

    success_decided : HasDecidingMark w h mark.Success → is_decided_in w h ≡ true
    success_decided m = let done = mark_done m in by w.of_kind done.0 done.1
      where
        by : (k : Kind) → is_by_request k ≡ true → has_done (stage w h decider) ≡ true → is_decided_by w (stage w h) (is_stopped w h) k ≡ true
        by kind.Upload b e = e
        by kind.Copy b e = e
        by kind.RemoveObject b e = e
        by k b e = no b

    -- ---- the source of a move

    deleted : has_done (stage w h (act.Send op.Delete 0)) ≡ true
        → (carried : SeenCarried) × Contains h (Came carried) × (sent carried ≡ act.Send op.Delete 0) × (said : Reply) × (carried.ending ≡ ending.Gained said)
    deleted done =
        let came = came_fine w op.Delete 0 h is done in (
          came.carried,
          contains_of h (Came came.carried) came.known,
          ap (λ (o : Op). act.Send o came.carried.job.id.number) came.op_is ∙ ap (act.Send op.Delete) came.number_is,
          came.said,
          came.gains,
        )

    delete_done : ((carried : SeenCarried) × Contains h (Came carried) × (sent carried ≡ act.Send op.Delete 0) × (said : Reply) × (carried.ending ≡ ending.Gained said))
        → has_done (stage w h (act.Send op.Delete 0)) ≡ true
    delete_done d =
        let known = has h (Came d.0) d.1 in
        let ended = subst (λ (e : Ending). IsEnded e d.0.job.id.op d.0.job.part d.0.job.cell d.0.tries) d.4 (came_holds d.0 known) in
        let replies = subst (λ (o : Op). IsReplyTo o d.3) (op_is d.0 op.Delete 0 d.2) ended.1 in
        subst (λ (a : Act). has_done (stage w h a) ≡ true) d.2 (success_done w d.0 d.3 d.4 (asked_unless_get w op.Delete d.0.job.id.number d.3 tt replies) h is known)

    gone_by : (k : Kind) → has_done (stage w h (removal k)) ≡ true → HasGone h k
    gone_by kind.Upload e = contains_of h (Returned act.Remove file.Fine) (returned_fine h is act.Remove refl e)
    gone_by kind.Download e = deleted e
    gone_by kind.Copy e = deleted e
    gone_by kind.RemoveObject e = deleted e
    gone_by kind.RemoveFile e = contains_of h (Returned act.Remove file.Fine) (returned_fine h is act.Remove refl e)

    removed_by : (k : Kind) → HasGone h k → has_done (stage w h (removal k)) ≡ true
    removed_by kind.Upload e = fine_done h is act.Remove refl (has h (Returned act.Remove file.Fine) e)
    removed_by kind.Download e = delete_done e
    removed_by kind.Copy e = delete_done e
    removed_by kind.RemoveObject e = delete_done e
    removed_by kind.RemoveFile e = fine_done h is act.Remove refl (has h (Returned act.Remove file.Fine) e)

    -- a decision stands
    decided_since : (stopped : Bool) (k : Kind) (later before : History) → h ≡ later ++ before → is_decided_by w (stage w before) stopped k ≡ true → is_decided_by w (stage w h) (is_stopped w h) k ≡ true
    decided_since stopped k later before at e = by k e
      where
        stays : (a : Act) → has_done (stage w before a) ≡ true → has_done (stage w h a) ≡ true
        stays a f = subst (λ (x : History). has_done (stage w x a) ≡ true) (sym at) (done_stays w later before a (subst (IsHistory w) at is) f)

        by : (k : Kind) → is_decided_by w (stage w before) stopped k ≡ true → is_decided_by w (stage w h) (is_stopped w h) k ≡ true
        by kind.Upload f = stays decider f
        by kind.Download f = stays act.Rename f
        by kind.Copy f = stays decider f
        by kind.RemoveObject f = stays decider f
        by kind.RemoveFile f = stays act.Remove f

    -- nothing was done to a source before the decision
    module _ (undecided : is_decided_in w h ≡ false) where
      not_decided : (k : Kind) → w.of_kind ≡ k → (stopped : Bool) (later before : History) → h ≡ later ++ before → is_decided_by w (stage w before) stopped k ≡ true → ⊥
      not_decided k so stopped later before at e = false_true (sym undecided ∙ decided_since stopped w.of_kind later before at (subst (λ (x : Kind). is_decided_by w (stage w before) stopped x ≡ true) (sym so) e))

      no_delete : (k : Kind) → w.of_kind ≡ k → (later before : History) → h ≡ later ++ Gave (act.Send op.Delete 0) ∷ before → MayLoseSource w (stage w before) (is_stopped w before) k
          → IsHistory w before → (k ≡ kind.Copy) ⊎ (k ≡ kind.Download) → ⊥
      no_delete kind.Copy so later before at lost holds which =
          not_decided kind.Copy so (is_stopped w before) (later ++ Gave (act.Send op.Delete 0) ∷ []) before (at ∙ sym (append_assoc later (Gave (act.Send op.Delete 0) ∷ []) before))
          (subst (λ (x : Kind). is_decided_by w (stage w before) (is_stopped w before) x ≡ true) so lost.1)
      no_delete kind.Download so later before at lost holds which =
          let stamp = was_given w before holds act.Stamp (ended_has_begun (stage w before act.Stamp) lost.1) in
          let renamed = (and_parts (may_be_given (stage w stamp.before act.Stamp)) _ stamp.ready).1 in
          let front = (later ++ Gave (act.Send op.Delete 0) ∷ []) ++ (stamp.later ++ Gave act.Stamp ∷ []) in
          let whole : h ≡ front ++ stamp.before =
          at ∙ sym (append_assoc later (Gave (act.Send op.Delete 0) ∷ []) before)
          ∙ ap (λ (x : History). (later ++ Gave (act.Send op.Delete 0) ∷ []) ++ x) (stamp.is ∙ sym (append_assoc stamp.later (Gave act.Stamp ∷ []) stamp.before))
          ∙ sym (append_assoc (later ++ Gave (act.Send op.Delete 0) ∷ []) (stamp.later ++ Gave act.Stamp ∷ []) stamp.before) in
          not_decided kind.Download so (is_stopped w stamp.before) front stamp.before whole renamed
      no_delete kind.Upload so later before at lost holds which = lost
      no_delete kind.RemoveFile so later before at lost holds which = lost
      no_delete kind.RemoveObject so later before at lost holds (inl e) = kinds_apart_copy e
      no_delete kind.RemoveObject so later before at lost holds (inr e) = kinds_apart_download e

      not_deleted : (k : Kind) → w.of_kind ≡ k → (k ≡ kind.Copy) ⊎ (k ≡ kind.Download) → IsGiven h op.Delete 0 → ⊥
      not_deleted k so which given =
          let split = split_of h (Gave (act.Send op.Delete 0)) (has h (Gave (act.Send op.Delete 0)) given) in
          let then_ = earlier w split.front (Gave (act.Send op.Delete 0) ∷ split.back) (subst (IsHistory w) split.is is) in
          no_delete k so split.front split.back split.is (subst (λ (x : Kind). MayLoseSource w (stage w split.back) (is_stopped w split.back) x) so (sources_go_last w split.back 0 then_.0)) then_.1 which

      not_removed : w.of_kind ≡ kind.Upload → Contains h (Gave act.Remove) → ⊥
      not_removed so given =
          let split = split_of h (Gave act.Remove) (has h (Gave act.Remove) given) in
          let then_ = earlier w split.front (Gave act.Remove ∷ split.back) (subst (IsHistory w) split.is is) in
          by split.front split.back split.is (is_stopped w split.back) (and_parts (may_be_given (stage w split.back act.Remove)) _ then_.0).1
        where
          by : (later before : History) → h ≡ later ++ Gave act.Remove ∷ before → (stopped : Bool) → is_named w (stage w before) stopped act.Remove ≡ true → ⊥
          by later before at true named = false_true named
          by later before at false named =
              let due : is_due w (stage w before) false kind.Upload act.Remove ≡ true = subst (λ (x : Kind). is_due w (stage w before) false x act.Remove ≡ true) so named in
              let decided = (and_parts w.moves (is_decided w (stage w before) false) due).1 in
              not_decided kind.Upload so false (later ++ Gave act.Remove ∷ []) before (at ∙ sym (append_assoc later (Gave act.Remove ∷ []) before))
              (subst (λ (x : Kind). is_decided_by w (stage w before) false x ≡ true) so decided)

      spared_by : (k : Kind) → w.of_kind ≡ k → IsSpared h k
      spared_by kind.Upload so = not_removed so
      spared_by kind.Download so = not_deleted kind.Download so (inr refl)
      spared_by kind.Copy so = not_deleted kind.Copy so (inl refl)
      spared_by kind.RemoveObject so = tt
      spared_by kind.RemoveFile so = tt

    -- ---- how it ended

    uncertain_has : (g : History) → has_uncertain w g ≡ true → (c : SeenCarried) × Has g (Came c) × (decides w c ≡ true) × (list_any is_uncertain c.tries ≡ true)
    uncertain_has [] e = no e
    uncertain_has (Came c ∷ g) e = by (has_uncertain w g) refl e (λ f. uncertain_has g f)
      where
        by : (b : Bool) → has_uncertain w g ≡ b → (b || (decides w c && list_any is_uncertain c.tries)) ≡ true
            → (has_uncertain w g ≡ true → (d : SeenCarried) × Has g (Came d) × (decides w d ≡ true) × (list_any is_uncertain d.tries ≡ true))
            → (d : SeenCarried) × Has (Came c ∷ g) (Came d) × (decides w d ≡ true) × (list_any is_uncertain d.tries ≡ true)
        by true b f rest = let found = rest b in (found.0, inr found.1, found.2, found.3)
        by false b f rest = let two = and_parts (decides w c) (list_any is_uncertain c.tries) f in (c, inl refl, two.0, two.1)
    uncertain_has (Gave a ∷ g) e = let found = uncertain_has g e in (found.0, inr found.1, found.2, found.3)
    uncertain_has (Returned a r ∷ g) e = let found = uncertain_has g e in (found.0, inr found.1, found.2, found.3)
    uncertain_has (Cancelled reason ∷ g) e = let found = uncertain_has g e in (found.0, inr found.1, found.2, found.3)
    uncertain_has (Taken o k ∷ g) e = let found = uncertain_has g e in (found.0, inr found.1, found.2, found.3)

    came_same : (c d : SeenCarried) → Came c ≡ Came d → c ≡ d
    came_same c d e = cc

    gave_came : (a : Act) (c : SeenCarried) → Gave a ≡ Came c → ⊥
    gave_came a c e = cc

    returned_came : (a : Act) (r : FileCame) (c : SeenCarried) → Returned a r ≡ Came c → ⊥
    returned_came a r c e = cc

    cancelled_came : (r : _) (c : SeenCarried) → Cancelled r ≡ Came c → ⊥
    cancelled_came r c e = cc

    taken_came : (o : Op) (k : ℕ) (c : SeenCarried) → Taken o k ≡ Came c → ⊥
    taken_came o k c e = cc

    has_uncertain_mark : (g : History) (c : SeenCarried) → Has g (Came c) → decides w c ≡ true → list_any is_uncertain c.tries ≡ true → has_uncertain w g ≡ true
    has_uncertain_mark [] c known d u = absurd known
    has_uncertain_mark (Came x ∷ g) c (inl e) d u =
        second (has_uncertain w g) (decides w x && list_any is_uncertain x.tries) (subst (λ (z : SeenCarried). (decides w z && list_any is_uncertain z.tries) ≡ true) (sym (came_same x c e)) (both (decides w c) (list_any is_uncertain c.tries) d u))
      where
        second : (a b : Bool) → b ≡ true → (a || b) ≡ true
        second true b f = refl
        second false b f = f
    has_uncertain_mark (Came x ∷ g) c (inr known) d u = first (has_uncertain w g) (decides w x && list_any is_uncertain x.tries) (has_uncertain_mark g c known d u)
      where
        first : (a b : Bool) → a ≡ true → (a || b) ≡ true
        first true b f = refl
        first false b f = no f
    has_uncertain_mark (Gave a ∷ g) c (inl e) d u = absurd (gave_came a c e)
    has_uncertain_mark (Gave a ∷ g) c (inr known) d u = has_uncertain_mark g c known d u
    has_uncertain_mark (Returned a r ∷ g) c (inl e) d u = absurd (returned_came a r c e)
    has_uncertain_mark (Returned a r ∷ g) c (inr known) d u = has_uncertain_mark g c known d u
    has_uncertain_mark (Cancelled reason ∷ g) c (inl e) d u = absurd (cancelled_came reason c e)
    has_uncertain_mark (Cancelled reason ∷ g) c (inr known) d u = has_uncertain_mark g c known d u
    has_uncertain_mark (Taken o k ∷ g) c (inl e) d u = absurd (taken_came o k c e)
    has_uncertain_mark (Taken o k ∷ g) c (inr known) d u = has_uncertain_mark g c known d u

    uncertain_mark : has_uncertain w h ≡ true → HasDecidingMark w h mark.Uncertain
    uncertain_mark e =
        let found = uncertain_has h e in
        let some = any_has is_uncertain found.0.tries found.3 in
        (found.0, contains_of h (Came found.0) found.1, found.2, contains_of found.0.tries mark.Uncertain (subst (λ (m : Mark). Has found.0.tries m) (uncertain_is some.0 some.2) some.1))

    mark_uncertain : HasDecidingMark w h mark.Uncertain → has_uncertain w h ≡ true
    mark_uncertain m = has_uncertain_mark h m.0 (has h (Came m.0) m.1) m.2 (has_any is_uncertain m.0.tries mark.Uncertain (has m.0.tries mark.Uncertain m.3) refl)

    none_is : {X : Type 0} (x : X) → None ≡ Some x → ⊥
    none_is x e = cc

    shown_unknown : (why : Option Cause) (how : Outcome) → unknown_for why ≡ Some how → HasDecidingMark w h mark.Uncertain × ¬ (HasDecidingMark w h mark.Success) × IsSpared h w.of_kind → IsShownBy w h how
    shown_unknown None how e all = absurd (none_is how e)
    shown_unknown (Some why) how e all = subst (IsShownBy w h) (some_is (outcome.Unknown why) how e) all

    shown_copied : (why : Option Cause) (how : Outcome) → copied_for why ≡ Some how → HasHappened w h w.of_kind × (w.moves ≡ true) × ¬ (HasGone h w.of_kind) → IsShownBy w h how
    shown_copied None how e all = absurd (none_is how e)
    shown_copied (Some why) how e all = subst (IsShownBy w h) (some_is (outcome.Copied why) how e) all

    shown_failed : (why : Option Cause) (how : Outcome) → failed_for why ≡ Some how → ¬ (HasHappened w h w.of_kind) × ¬ (HasDecidingMark w h mark.Uncertain) × IsSpared h w.of_kind → IsShownBy w h how
    shown_failed None how e all = absurd (none_is how e)
    shown_failed (Some why) how e all = subst (IsShownBy w h) (some_is (outcome.Failed why) how e) all

    ended_so : (how : Outcome) → how_ended w h ≡ Some how → IsShownBy w h how
    ended_so how e = by (is_decided_in w h) refl w.moves refl (has_done (stage w h (removal w.of_kind))) refl (has_uncertain w h) refl e
      where
        by : (decided : Bool) → is_decided_in w h ≡ decided → (moves : Bool) → w.moves ≡ moves → (gone : Bool) → has_done (stage w h (removal w.of_kind)) ≡ gone → (unsure : Bool) → has_uncertain w h ≡ unsure
            → (if decided && (not moves || gone) then Some outcome.Done else if unsure && not decided then unknown_for (open_cause w h)
            else if decided then copied_for (stop_cause w h) else failed_for (stop_cause w h)) ≡ Some how → IsShownBy w h how
        by true d false m gone g unsure u f = subst (IsShownBy w h) (some_is outcome.Done how f) (happened_by w.of_kind refl d, λ t. absurd (false_true (sym m ∙ t)))
        by true d true m true g unsure u f = subst (IsShownBy w h) (some_is outcome.Done how f) (happened_by w.of_kind refl d, λ t. gone_by w.of_kind g)
        by true d true m false g true u f = shown_copied (stop_cause w h) how f (happened_by w.of_kind refl d, m, λ away. false_true (sym g ∙ removed_by w.of_kind away))
        by true d true m false g false u f = shown_copied (stop_cause w h) how f (happened_by w.of_kind refl d, m, λ away. false_true (sym g ∙ removed_by w.of_kind away))
        by false d moves m gone g true u f = shown_unknown (open_cause w h) how f (uncertain_mark u, λ s. false_true (sym d ∙ success_decided s), spared_by d w.of_kind refl)
        by false d moves m gone g false u f = shown_failed (stop_cause w h) how f (λ t. false_true (sym d ∙ decided_by w.of_kind t), λ t. false_true (sym u ∙ mark_uncertain t), spared_by d w.of_kind refl)

-- ---- whatever happens then

module _ (w : Work) (e : Happening) (h : History) (no_came : (c : SeenCarried) → e ≡ Came c → ⊥) (no_gave : (a : Act) → e ≡ Gave a → ⊥) (no_returned : (a : Act) (r : FileCame) → e ≡ Returned a r → ⊥) where
  more : (x : Happening) → Contains h x → Contains (e ∷ h) x
  more x known = contains_of (e ∷ h) x (inr (has h x known))

  less : (x : Happening) → (e ≡ x → ⊥) → Contains (e ∷ h) x → Contains h x
  less x apart known = elim (has (e ∷ h) x known) [ inl same ↦ absurd (apart same) | inr there ↦ contains_of h x there ]

  mark_more : (m : Mark) → HasDecidingMark w h m → HasDecidingMark w (e ∷ h) m
  mark_more m d = (d.0, more (Came d.0) d.1, d.2, d.3)

  mark_less : (m : Mark) → HasDecidingMark w (e ∷ h) m → HasDecidingMark w h m
  mark_less m d = (d.0, less (Came d.0) (no_came d.0) d.1, d.2, d.3)

  fine_less : (a : Act) → IsFine (e ∷ h) a → IsFine h a
  fine_less a f = less (Returned a file.Fine) (no_returned a file.Fine) f

  happened_more : (k : Kind) → HasHappened w h k → HasHappened w (e ∷ h) k
  happened_more kind.Download f = more (Returned act.Rename file.Fine) f
  happened_more kind.RemoveFile f = more (Returned act.Remove file.Fine) f
  happened_more kind.Upload f = mark_more mark.Success f
  happened_more kind.Copy f = mark_more mark.Success f
  happened_more kind.RemoveObject f = mark_more mark.Success f

  happened_less : (k : Kind) → HasHappened w (e ∷ h) k → HasHappened w h k
  happened_less kind.Download f = fine_less act.Rename f
  happened_less kind.RemoveFile f = fine_less act.Remove f
  happened_less kind.Upload f = mark_less mark.Success f
  happened_less kind.Copy f = mark_less mark.Success f
  happened_less kind.RemoveObject f = mark_less mark.Success f

  gone_more : (k : Kind) → HasGone h k → HasGone (e ∷ h) k
  gone_more kind.Upload f = more (Returned act.Remove file.Fine) f
  gone_more kind.RemoveFile f = more (Returned act.Remove file.Fine) f
  gone_more kind.Download f = (f.0, more (Came f.0) f.1, f.2, f.3, f.4)
  gone_more kind.Copy f = (f.0, more (Came f.0) f.1, f.2, f.3, f.4)
  gone_more kind.RemoveObject f = (f.0, more (Came f.0) f.1, f.2, f.3, f.4)

  gone_less : (k : Kind) → HasGone (e ∷ h) k → HasGone h k
  gone_less kind.Upload f = fine_less act.Remove f
  gone_less kind.RemoveFile f = fine_less act.Remove f
  gone_less kind.Download f = (f.0, less (Came f.0) (no_came f.0) f.1, f.2, f.3, f.4)
  gone_less kind.Copy f = (f.0, less (Came f.0) (no_came f.0) f.1, f.2, f.3, f.4)
  gone_less kind.RemoveObject f = (f.0, less (Came f.0) (no_came f.0) f.1, f.2, f.3, f.4)

  spared_still : (k : Kind) → IsSpared h k → IsSpared (e ∷ h) k
  spared_still kind.Upload f = λ g. f (less (Gave act.Remove) (no_gave act.Remove) g)
  spared_still kind.Download f = λ g. f (less (Gave (act.Send op.Delete 0)) (no_gave (act.Send op.Delete 0)) g)
  spared_still kind.Copy f = λ g. f (less (Gave (act.Send op.Delete 0)) (no_gave (act.Send op.Delete 0)) g)
  spared_still kind.RemoveObject f = tt
  spared_still kind.RemoveFile f = tt

  shown_still : (how : Outcome) → IsShownBy w h how → IsShownBy w (e ∷ h) how
  shown_still outcome.Done s = (happened_more w.of_kind s.0, λ m. gone_more w.of_kind (s.1 m))
  shown_still (outcome.Copied why) s = (happened_more w.of_kind s.0, s.1, λ g. s.2 (gone_less w.of_kind g))
  shown_still (outcome.Unknown why) s = (mark_more mark.Uncertain s.0, λ d. s.1 (mark_less mark.Success d), spared_still w.of_kind s.2)
  shown_still (outcome.Failed why) s = (λ d. s.0 (happened_less w.of_kind d), λ d. s.1 (mark_less mark.Uncertain d), spared_still w.of_kind s.2)
  shown_still how s = absurd s

pub settled_how : (w : Work) (h : History) (how : Outcome) → settled w h ≡ Some how → how_ended w h ≡ Some how
settled_how w h how e = by (is_some (first_ready_in w h) || not (is_idle_in w h)) e
  where
    none_is : None ≡ Some how → ⊥
    none_is f = cc

    by : (b : Bool) → (if b then None else how_ended w h) ≡ Some how → how_ended w h ≡ Some how
    by true f = absurd (none_is f)
    by false f = f

cancel_no_return : (r : _) (c : SeenCarried) → Cancelled r ≡ Came c → ⊥
cancel_no_return r c e = cc

cancel_no_giving : (r : _) (a : Act) → Cancelled r ≡ Gave a → ⊥
cancel_no_giving r a e = cc

cancel_no_call : (r : _) (a : Act) (f : FileCame) → Cancelled r ≡ Returned a f → ⊥
cancel_no_call r a f e = cc

taking_no_return : (o : Op) (k : ℕ) (c : SeenCarried) → Taken o k ≡ Came c → ⊥
taking_no_return o k c e = cc

taking_no_giving : (o : Op) (k : ℕ) (a : Act) → Taken o k ≡ Gave a → ⊥
taking_no_giving o k a e = cc

taking_no_call : (o : Op) (k : ℕ) (a : Act) (f : FileCame) → Taken o k ≡ Returned a f → ⊥
taking_no_call o k a f e = cc

module _ (w : Work) (piece : HasPiece w) where
  stays_shown : (e : Happening) (h : History) (how : Outcome) → IsHistory w (e ∷ h) → IsQuiet w h → IsShownBy w h how → IsShownBy w (e ∷ h) how
  stays_shown (Gave a) h how is quiet s = no (not_ready w h piece is.1 quiet a is.0)
  stays_shown (Came c) h how is quiet s = no (not_out w h piece is.1 quiet (sent c) is.0.0)
  stays_shown (Returned a r) h how is quiet s = no (not_out w h piece is.1 quiet a is.0.1)
  stays_shown (Cancelled reason) h how is quiet s = shown_still w (Cancelled reason) h (cancel_no_return reason) (cancel_no_giving reason) (cancel_no_call reason) how s
  stays_shown (Taken o k) h how is quiet s = shown_still w (Taken o k) h (taking_no_return o k) (taking_no_giving o k) (taking_no_call o k) how s

  shown : (h : History) (how : Outcome) → IsHistory w h → outcome_of w h ≡ Some how → IsShownBy w h how
  shown [] how is e = ended_so w [] is how (settled_how w [] how e)
  shown (event ∷ h) how is e = by (outcome_of w h) refl e (λ x f. shown h x is.1 f)
    where
      by : (x : Option Outcome) → outcome_of w h ≡ x → option_or x (settled w (event ∷ h)) ≡ Some how → ((y : Outcome) → outcome_of w h ≡ Some y → IsShownBy w h y) → IsShownBy w (event ∷ h) how
      by None x f rest = ended_so w (event ∷ h) is how (settled_how w (event ∷ h) how f)
      by (Some y) x f rest =
          stays_shown event h how is (outcome_quiet w h piece is.1 (ap (λ (z : Option Outcome). is_some z) x)) (rest how (x ∙ f))

pub outcomes_show : OutcomesShow
outcomes_show w h how piece is e = shown w piece h how is e
