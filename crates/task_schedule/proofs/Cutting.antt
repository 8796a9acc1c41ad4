-- Which jobs of a run were cut, and which failed.
use Rattle.std.proofs.Common.{append_assoc, ◌≡◌, ◌≢◌, ◌∙◌, ◌&&◌, ◌⊎◌, ◌+◌, ◌++◌, ◌<◌, ℕ, suc, Bool, true, false, List, [], ◌∷◌, Option, Some, Contains, refl, sym, subst, ap, inl, inr, arith, slice_get, length, map}
use Rattle.std.proofs.lemmas.Bool.{and_parts, ltb-true}
use Rattle.std.specs.Prelude.{if◌then◌else◌, is_some, nat_lt}
use Rattle.jobs.specs.Endings.{IsEnded, SeenCarried}
use Rattle.jobs.specs.declared.ending.Ending.{Ending}
use Rattle.jobs.specs.declared.ending.Ending.TheVariants as ending
use Rattle.run_promise.specs.Dispatches.{IsUnfinished}
use Rattle.job_terms.specs.Dispatches.{Attempt, Dispatched, last_of}
use Rattle.run_promise.specs.Schedule.{Setting}
use Rattle.s3_model.specs.Classes.{is_tried_again}
use Rattle.s3_model.specs.Replies.{IsSameClass}
use Rattle.s3_model.specs.Talks.{Talk}
use Rattle.s3_model.specs.declared.answers.Class.{Class}
use Rattle.s3_model.specs.declared.answers.Class.TheVariants as class
use Rattle.s3_model.specs.declared.answers.Reply.{Reply}
use Rattle.s3_model.specs.declared.answers.Why.{Why}
use Rattle.s3_model.specs.declared.answers.Why.TheVariants as why
use Rattle.s3_model.specs.declared.outcomes.JobId.{JobId}
use Rattle.s3_model.specs.declared.requests.Ask.{Ask}
use Rattle.s3_model.specs.declared.requests.Op.{Op}
use Rattle.s3_model.specs.declared.requests.Op.TheVariants as op
use Rattle.s3_model.specs.declared.tries.Mark.{Mark}
use Rattle.task_acts.specs.declared.acts.Act.{Act}
use Rattle.task_acts.specs.declared.acts.Act.TheVariants as act
use Rattle.task_acts.specs.declared.acts.Stage.{Stage}
use Rattle.task_acts.specs.declared.acts.Stage.TheVariants as at
use Rattle.task_acts.specs.declared.work.Work.{Work}
use Rattle.task_acts.specs.Failures.{carried_cause, ended_cause, is_cut_short, is_memory, is_unfinished}
use Rattle.task_acts.specs.Histories.{Came, Gave, History, Taken, sent}
use Rattle.task_acts.specs.Kept.{IsHistory, has_cell, kept_job}
use Rattle.task_acts.specs.Stages.{given_stage, is_out, stage}
use Rattle.shared_lemmas.proofs.Clashes.{false_true}
use Rattle.shared_lemmas.proofs.Members.{Has, contains_of, has, has_middle, split_of}
use Rattle.task_progress.proofs.Begun.{has_begun, out_has_begun}
use Rattle.task_progress.proofs.Endings.{no}
use Rattle.task_progress.proofs.Progress.{both}
use Rattle.manager_moves.specs.Laws.{IsRun}
use Rattle.manager_moves.specs.Runs.{Back, Events, Sent, Shared, share, with_taken}
use Rattle.task_schedule.specs.Journals.{EndsAs, IsBack, IsFirst, IsRunOf, IsSecond, ShowOne, ShowsLast}
use Rattle.task_schedule.proofs.Joined.{back_at, came_holds, is_ended}
use Rattle.task_schedule.proofs.SentJobs.{IsAt, given_holds, out_still, share_since}
use Rattle.task_schedule.proofs.Givings.{abort_has_no_cell, fresh_cell}
use Rattle.task_schedule.proofs.Shares.{run_before, share_gave, since}
use Rattle.task_schedule.proofs.Standing.{begun_given, begun_stays, given_is_out, given_out}

-- ---- lists

map_none : {X Y : Type 0} (f : X → Y) (xs : List X) → map f xs ≡ [] → xs ≡ []
map_none f [] e = refl
map_none f (x ∷ xs) e = absurd (cons_none (f x) (map f xs) e)
  where
    cons_none : {Z : Type 0} (z : Z) (zs : List Z) → z ∷ zs ≡ [] → ⊥
    cons_none z zs e = cc

map_long : {X Y : Type 0} (f : X → Y) (xs : List X) → length (map f xs) ≡ length xs
map_long f [] = refl
map_long f (x ∷ xs) = ap suc (map_long f xs)

less_is_true : (m n : ℕ) → m < n → nat_lt m n ≡ true
less_is_true m n l = grind arith

-- ---- classes

success_again : (x : Class) (said : Reply) → IsSameClass x (class.Success said) → is_tried_again x ≡ true → false ≡ true
success_again (class.Success a) said same again = again
success_again (class.Refusal code message) said same again = absurd (clash code message said same)
  where
    clash : (code message : List ℕ) (said : Reply) → class.Refusal code message ≡ class.Success said → ⊥
    clash code message said e = cc
success_again (class.Uncertain reason) said same again = absurd (clash reason said same)
  where
    clash : (reason : Why) (said : Reply) → class.Uncertain reason ≡ class.Success said → ⊥
    clash reason said e = cc

refusal_same : (x : Class) (code message : List ℕ) → IsSameClass x (class.Refusal code message) → x ≡ class.Refusal code message
refusal_same (class.Success a) code message same = same
refusal_same (class.Refusal c m) code message same = same
refusal_same (class.Uncertain reason) code message same = same

uncertain_same : (x : Class) (reason : Why) → IsSameClass x (class.Uncertain reason) → x ≡ class.Uncertain reason
uncertain_same (class.Success a) reason same = same
uncertain_same (class.Refusal c m) reason same = same
uncertain_same (class.Uncertain other) reason same = same

-- ---- cells

fresh_given : (how : Stage) (o : Op) → has_begun how ≡ false → o ≢ op.Abort → has_cell (given_stage how) o ≡ true
fresh_given at.Waiting op.Abort fresh apart = absurd (apart refl)
fresh_given at.Waiting o fresh apart = refl
fresh_given how o fresh apart = no (sym fresh)

module _ (Shows : Ask → ℕ → Talk → Class → List ℕ → Type 0) (s : Shared) (setting : Setting) (planned : ℕ) (events : Events) (dispatched coming : List Dispatched)
    (r : IsRunOf Shows s setting planned events dispatched coming) (one : ShowOne Shows) (n : ℕ) (w : Work) (of_plan : slice_get s.works n ≡ Some w) where
  abbrev pub At : Op → ℕ → Dispatched → Type 0
  At o k x = IsAt Shows s setting planned events dispatched coming r n w of_plan o k x

  attempts_are : w.attempts ≡ setting.config.attempts
  attempts_are = (r.works.each n w of_plan).2.attempts_are

  -- ---- the first giving of a job

  module _ (o : Op) (k : ℕ) (x : Dispatched) (a : At o k x) where
    abbrev base : Events
    base = Sent n o k a.lane ∷ a.before

    gave_begun : (h : History) → Has h (Gave (act.Send o k)) → has_begun (stage w h (act.Send o k)) ≡ true
    gave_begun h known =
        let split = split_of h (Gave (act.Send o k)) known in
        subst (λ (z : History). has_begun (stage w z (act.Send o k)) ≡ true) (sym split.is) (begun_stays w split.front (Gave (act.Send o k) ∷ split.back) (act.Send o k)
        (out_has_begun (stage w (Gave (act.Send o k) ∷ split.back) (act.Send o k)) (subst (λ (how : Stage). is_out how ≡ true) (sym (given_out w o k split.back)) (given_is_out (stage w split.back (act.Send o k))))))

    job_ops : (x.dispatch.job.op ≡ o) × (x.dispatch.job.number ≡ k)
    job_ops = (ap (λ (j : JobId). j.op) a.job_is, ap (λ (j : JobId). j.number) a.job_is)

    taken_begun : (h : History) → has_begun (stage w h (act.Send o k)) ≡ true → has_begun (stage w (with_taken w o k h) (act.Send o k)) ≡ true
    taken_begun h e = by (is_some (kept_job w h (act.Send o k)))
      where
        by : (b : Bool) → has_begun (stage w (if b then Taken o k ∷ h else h) (act.Send o k)) ≡ true
        by true = e
        by false = e

    not_taken : (h : History) → Has (with_taken w o k h) (Gave (act.Send o k)) → Has h (Gave (act.Send o k))
    not_taken h known = by (is_some (kept_job w h (act.Send o k))) known
      where
        clash : Taken o k ≡ Gave (act.Send o k) → ⊥
        clash e = cc

        by : (b : Bool) → Has (if b then Taken o k ∷ h else h) (Gave (act.Send o k)) → Has h (Gave (act.Send o k))
        by true (inl e) = absurd (clash e)
        by true (inr f) = f
        by false f = f

    -- of a second giving the act had begun
    second_begun : IsSecond Shows n a.before x → has_begun (stage w (with_taken w o k (share w n a.before)) (act.Send o k)) ≡ true
    second_begun second =
        let there = subst (λ (m : ℕ). Contains a.before (Sent n o m second.lane)) job_ops.1 (subst (λ (p : Op). Contains a.before (Sent n p x.dispatch.job.number second.lane)) job_ops.0 second.known) in
        let split = split_of a.before (Sent n o k second.lane) (has a.before (Sent n o k second.lane) there) in
        let is = ap (share w n) split.is ∙ share_since Shows s setting planned events dispatched coming r n w of_plan o k split.front split.back second.lane in
        taken_begun (share w n a.before) (gave_begun (share w n a.before) (subst (λ (h : History). Has h (Gave (act.Send o k))) (sym is)
        (has_middle (since w n split.front (Sent n o k second.lane ∷ split.back)) (Gave (act.Send o k)) (with_taken w o k (share w n split.back)))))

    given : IsHistory w (Gave (act.Send o k) ∷ with_taken w o k (share w n a.before))
    given = given_holds Shows s setting planned events dispatched coming r n w of_plan o k a.later a.before a.lane a.is

    -- of a first giving it had not
    first_fresh : IsFirst Shows n a.before x → has_begun (stage w (with_taken w o k (share w n a.before)) (act.Send o k)) ≡ false
    first_fresh first = by (has_begun (stage w (with_taken w o k (share w n a.before)) (act.Send o k))) refl
      where
        never : has_begun (stage w (with_taken w o k (share w n a.before)) (act.Send o k)) ≡ true → ⊥
        never e =
            let gave = not_taken (share w n a.before) (begun_given w (with_taken w o k (share w n a.before)) given.1 (act.Send o k) e) in
            let found = share_gave w n s a.before o k (run_before s (a.later ++ Sent n o k a.lane ∷ []) a.before (subst (IsRun s) (a.is ∙ sym (append_assoc a.later (Sent n o k a.lane ∷ []) a.before)) r.run)) gave in
            first.none found.0 (subst (λ (m : ℕ). Contains a.before (Sent n x.dispatch.job.op m found.0)) (sym job_ops.1)
            (subst (λ (p : Op). Contains a.before (Sent n p k found.0)) (sym job_ops.0) (contains_of a.before (Sent n o k found.0) found.1)))

        by : (b : Bool) → has_begun (stage w (with_taken w o k (share w n a.before)) (act.Send o k)) ≡ b → has_begun (stage w (with_taken w o k (share w n a.before)) (act.Send o k)) ≡ false
        by true e = absurd (never e)
        by false e = e

    module _ (back : IsBack Shows planned a.later base x) where
      abbrev pub c : SeenCarried
      c = back.carried

      -- the history as it came back
      abbrev pub then_ : History
      then_ = share w n (back.between ++ base)

      pub holds_then : IsHistory w (Came c ∷ then_)
      holds_then = came_holds Shows s setting planned events dispatched coming r n w of_plan o k x a back

      pub sent_is : sent c ≡ act.Send o k
      sent_is = ap (λ (j : JobId). act.Send j.op j.number) (back.of_job ∙ a.job_is)

      c_op : c.job.id.op ≡ o
      c_op = ap (λ (j : JobId). j.op) (back.of_job ∙ a.job_is)

      stage_then : stage w then_ (act.Send o k) ≡ given_stage (stage w (with_taken w o k (share w n a.before)) (act.Send o k))
      stage_then =
          ap (λ (h : History). stage w h (act.Send o k)) (share_since Shows s setting planned events dispatched coming r n w of_plan o k back.between a.before a.lane)
          ∙ (out_still Shows s setting planned events dispatched coming r n w of_plan o k (back.newer ++ Back back.lane c ∷ []) back.between a.before a.lane x.dispatch.job
          (back_at Shows s setting planned events dispatched coming r n w of_plan o k x a back ∙ sym (append_assoc back.newer (Back back.lane c ∷ []) (back.between ++ base))) a.job_is back.first).same
          ∙ given_out w o k (with_taken w o k (share w n a.before))

      cell_is : is_some c.job.cell ≡ has_cell (given_stage (stage w (with_taken w o k (share w n a.before)) (act.Send o k))) o
      cell_is = holds_then.0.1
          ∙ ap (λ (z : Act). has_cell (stage w then_ z) c.job.id.op) sent_is
          ∙ ap (λ (p : Op). has_cell (stage w then_ (act.Send o k)) p) c_op
          ∙ ap (λ (how : Stage). has_cell how o) stage_then

      ended : IsEnded c.ending c.job.id.op c.job.part c.job.cell c.tries
      ended = is_ended Shows s setting planned events dispatched coming r n w of_plan o k x a back

      pub not_abort : o ≢ op.Abort ⊎ (is_some c.job.cell ≡ false)
      not_abort = by (is_some c.job.cell) refl
        where
          by : (b : Bool) → is_some c.job.cell ≡ b → o ≢ op.Abort ⊎ (is_some c.job.cell ≡ false)
          by true e = inl (λ is. false_true (abort_has_no_cell (given_stage (stage w (with_taken w o k (share w n a.before)) (act.Send o k))) o is (sym cell_is ∙ e)))
          by false e = inr e

      -- ---- a job that was cut short

      module _ (cut : is_cut_short w c ≡ true) where
        abbrev parts : (is_some c.job.cell ≡ true) × (is_unfinished w.attempts (length c.tries) c.ending ≡ true)
        parts = and_parts (is_some c.job.cell) (is_unfinished w.attempts (length c.tries) c.ending) cut

        pub cut_no_abort : o ≢ op.Abort
        cut_no_abort is = false_true (abort_has_no_cell (given_stage (stage w (with_taken w o k (share w n a.before)) (act.Send o k))) o is (sym cell_is ∙ parts.0))

        fresh : has_begun (stage w (with_taken w o k (share w n a.before)) (act.Send o k)) ≡ false
        fresh = fresh_cell (stage w (with_taken w o k (share w n a.before)) (act.Send o k)) o (and_parts _ _ given.0).0 (sym cell_is ∙ parts.0)

        pub cut_first : IsFirst Shows n a.before x
        cut_first = elim a.giving [
          | inl first ↦ first
          | inr second ↦ no (sym fresh ∙ second_begun second)
        ]

        left : (m : ℕ) → nat_lt (length c.tries) w.attempts ≡ true → x.dispatch.earlier + length x.dispatch.attempts < setting.config.attempts
        left m e = by (ltb-true (length c.tries) w.attempts e) attempts_are cut_first.none_earlier (sym (map_long (λ (t : Attempt). t.mark) x.dispatch.attempts) ∙ ap (λ (z : List Mark). length z) back.brings.marks)
          where
            by : length c.tries < w.attempts → w.attempts ≡ setting.config.attempts → x.dispatch.earlier ≡ 0 → length x.dispatch.attempts ≡ length c.tries → x.dispatch.earlier + length x.dispatch.attempts < setting.config.attempts
            by l e f g = omega arith

        unfinished : (of_class : Class) → ShowsLast Shows x of_class → (nat_lt (length c.tries) w.attempts && is_tried_again of_class) ≡ true → IsUnfinished Shows setting.config.attempts x (last_of x.dispatch.attempts)
        unfinished of_class shown e =
            let two = and_parts (nat_lt (length c.tries) w.attempts) (is_tried_again of_class) e in
            subst (λ (z : Option Attempt). IsUnfinished Shows setting.config.attempts x z) (sym shown.last) (of_class, shown.bytes, shown.shows, two.1, left 0 two.0)

        by_ending : (of : Ending) → c.ending ≡ of → is_unfinished w.attempts (length c.tries) of ≡ true → IsEnded of c.job.id.op c.job.part c.job.cell c.tries → EndsAs Shows x of
            → IsUnfinished Shows setting.config.attempts x (last_of x.dispatch.attempts)
        by_ending (ending.Gained said) is e end shown = no e
        by_ending (ending.Refused status code message) is e end shown = unfinished (class.Refusal code message) shown e
        by_ending (ending.Uncertain why.Memory) is e end shown = no (and_parts (nat_lt (length c.tries) w.attempts) false e).1
        by_ending (ending.Uncertain reason) is e end shown = unfinished (class.Uncertain reason) shown e
        by_ending (ending.Cancelled reason) is e end shown =
            subst (λ (z : List Attempt). IsUnfinished Shows setting.config.attempts x (last_of z)) (sym (map_none (λ (t : Attempt). t.mark) x.dispatch.attempts (back.brings.marks ∙ end.0))) tt
        by_ending ending.Memory is e end shown = no e

        pub cut_unfinished : IsUnfinished Shows setting.config.attempts x (last_of x.dispatch.attempts)
        cut_unfinished = by_ending c.ending refl parts.1 ended back.brings.ends

      -- ---- a first giving that is unfinished was cut short

      module _ (first : x.dispatch.is_second ≡ false) (apart : o ≢ op.Abort) (rest : IsUnfinished Shows setting.config.attempts x (last_of x.dispatch.attempts))
          (has_cause : is_some (carried_cause w c) ≡ true) (not_memory : is_memory (carried_cause w c) ≡ false) where
        its_first : IsFirst Shows n a.before x
        its_first = elim a.giving [
          | inl is ↦ is
          | inr second ↦ no (sym first ∙ second.second)
        ]

        has_its_cell : is_some c.job.cell ≡ true
        has_its_cell = cell_is ∙ fresh_given (stage w (with_taken w o k (share w n a.before)) (act.Send o k)) o (first_fresh its_first) apart

        fewer : x.dispatch.earlier + length x.dispatch.attempts < setting.config.attempts → nat_lt (length c.tries) w.attempts ≡ true
        fewer l = less_is_true (length c.tries) w.attempts (by l attempts_are (sym (map_long (λ (t : Attempt). t.mark) x.dispatch.attempts) ∙ ap (λ (z : List Mark). length z) back.brings.marks))
          where
            by : x.dispatch.earlier + length x.dispatch.attempts < setting.config.attempts → w.attempts ≡ setting.config.attempts → length x.dispatch.attempts ≡ length c.tries → length c.tries < w.attempts
            by l e f = omega arith

        -- what its last talk shows is tried again
        pub again_by : (of_class : Class) → (shown : ShowsLast Shows x of_class)
            → (other : Class) × IsSameClass other of_class × (is_tried_again other ≡ true) × (x.dispatch.earlier + length x.dispatch.attempts < setting.config.attempts)
        again_by of_class shown =
            let is : IsUnfinished Shows setting.config.attempts x (Some shown.attempt) = subst (λ (z : Option Attempt). IsUnfinished Shows setting.config.attempts x z) shown.last rest in
            (is.0, one x.ask x.limit shown.attempt.talk is.0 of_class is.1 shown.bytes is.2 shown.shows, is.3, is.4)

        of_ending : (of : Ending) → c.ending ≡ of → IsEnded of c.job.id.op c.job.part c.job.cell c.tries → EndsAs Shows x of → is_memory (ended_cause w c.job.id.op c.job.id.number of) ≡ false → is_unfinished w.attempts (length c.tries) of ≡ true
        of_ending (ending.Gained said) is end shown memory = let found = again_by (class.Success said) shown in no (success_again found.0 said found.1 found.2)
        of_ending (ending.Refused status code message) is end shown memory =
            let found = again_by (class.Refusal code message) shown in
            both (nat_lt (length c.tries) w.attempts) (is_tried_again (class.Refusal code message)) (fewer found.3) (subst (λ (z : Class). is_tried_again z ≡ true) (refusal_same found.0 code message found.1) found.2)
        of_ending (ending.Uncertain why.Memory) is end shown memory = no (sym memory)
        of_ending (ending.Uncertain reason) is end shown memory =
            let found = again_by (class.Uncertain reason) shown in
            both (nat_lt (length c.tries) w.attempts) (is_tried_again (class.Uncertain reason)) (fewer found.3) (subst (λ (z : Class). is_tried_again z ≡ true) (uncertain_same found.0 reason found.1) found.2)
        of_ending (ending.Cancelled reason) is end shown memory = refl
        of_ending ending.Memory is end shown memory = no (sym memory)

        pub is_cut : is_cut_short w c ≡ true
        is_cut = both (is_some c.job.cell) (is_unfinished w.attempts (length c.tries) c.ending) has_its_cell (of_ending c.ending refl ended back.brings.ends not_memory)
