-- Nothing is given for a task that was not made, so that a cancel has no part of it to free.
use Rattle.std.proofs.Common.{◌≡◌, ◌∙◌, ◌<◌, ◌≤◌, ◌==◌, ◌&&◌, ◌||◌, ℕ, zero, suc, Bool, true, false, List, [], ◌∷◌, Option}
use Rattle.std.proofs.Common.{Some, None, refl, sym, subst, ap, arith, is_some, nat_lt, not, slice_get, if◌then◌else◌}
use Rattle.std.specs.Option.{option_or}
use Rattle.std.specs.Prelude.{take}
use Rattle.std.proofs.lemmas.Bool.{eqb-true, ltb-false}
use Rattle.jobs.specs.Endings.{SeenCarried}
use Rattle.s3_model.specs.declared.outcomes.Cause.{Cause}
use Rattle.s3_model.specs.declared.outcomes.Reason.{Reason}
use Rattle.task_acts.specs.declared.acts.Act.{Act}
use Rattle.task_acts.specs.declared.acts.Act.TheVariants as act
use Rattle.task_acts.specs.declared.acts.Stage.{Stage}
use Rattle.task_acts.specs.declared.acts.Stage.TheVariants as at
use Rattle.task_acts.specs.declared.work.Work.{Work}
use Rattle.task_acts.specs.Failures.{first_failure, first_reason, is_stopped}
use Rattle.task_acts.specs.Histories.{Cancelled, History, sent}
use Rattle.task_acts.specs.Stages.{has_done, is_out, stage}
use Rattle.task_acts.specs.Work.{is_piece}
use Rattle.manager_moves.proofs.CountLemmas.{no}
use Rattle.manager_moves.proofs.HoldLemmas.{skip}
use Rattle.manager_moves.proofs.ShareLaws.{act_of, is_called, is_next}
use Rattle.manager_moves.proofs.PartLaws.{nothing}
use Rattle.manager_moves.specs.Laws.{IsOfTask, IsRun}
use Rattle.manager_moves.specs.Moves.{made}
use Rattle.manager_moves.specs.Parts.{has_part}
use Rattle.manager_moves.specs.Runs.{Back, Called, Events, Lined, Made, Sent, Shared, Stopped, is_task, made_count}
use Rattle.manager_moves.specs.Runs.{share}
use Rattle.manager_parts.specs.Counts.{holds_of}
use Rattle.part_changes.proofs.Changing.{both_false, cancel_frees_parts}
use Rattle.part_tables.proofs.Tables.{none_with_waiting, stopped_has, unread_holds}
use Rattle.part_tables.specs.Tables.{CancelLeavesParts, away_of, goes_on, is_with_job, job_of}

in_take : {X : Type 0} (n : ℕ) (xs : List X) (i : ℕ) (x : X) → slice_get (take n xs) i ≡ Some x → i < n
in_take zero xs i x e = absurd (nothing e)
in_take (suc n) [] i x e = absurd (nothing e)
in_take (suc n) (y ∷ ys) zero x e = omega arith
in_take (suc n) (y ∷ ys) (suc i) x e = let l = in_take n ys i x e in omega arith

differ : (m t count : ℕ) → m < count → count ≤ t → (m == t) ≡ false
differ m t count l u = grind arith

waiting_is_not_out : {P : Type 0} (how : Stage) → how ≡ at.Waiting → is_out how ≡ true → P
waiting_is_not_out how e out = no (sym (ap is_out e) ∙ out)

module _ (s : Shared) where
  abbrev Waits : Events → Work → ℕ → Type 0
  Waits events v t = (a : Act) → stage v (share v t events) a ≡ at.Waiting

  passed_over : (v : Work) (a : Act) (b : Bool) (x h : History) → b ≡ false → stage v h a ≡ at.Waiting
      → stage v (if b then x else h) a ≡ at.Waiting
  passed_over v a b x h e w = ap (λ (y : History). stage v y a) (skip b x h e) ∙ w

  module _ (before : Events) (v : Work) (t : ℕ) (few : made_count before ≤ t) where
    not_its : (m : ℕ) (w : Work) → slice_get (made s before) m ≡ Some w → (m == t) ≡ false
    not_its m w e = differ m t (made_count before) (in_take (made_count before) s.works m w e) few

    module _ (c : SeenCarried) (waits : (w : Work) → slice_get s.works t ≡ Some w → Waits before w t) where
      not_back : (m : ℕ) (b : Bool) → (m == t) ≡ b → IsOfTask s before (Some m) c → b ≡ false
      not_back m true e of_task =
          let same = eqb-true m t e in
          let there : slice_get s.works t ≡ Some of_task.0 =
          subst (λ (x : ℕ). slice_get s.works x ≡ Some of_task.0) same of_task.1 in
          let out : is_out (stage of_task.0 (share of_task.0 t before) (sent c)) ≡ true =
          subst (λ (x : ℕ). is_out (stage of_task.0 (share of_task.0 x before) (sent c)) ≡ true) same of_task.2.0 in
          waiting_is_not_out _ (waits of_task.0 there (sent c)) out
      not_back m false e of_task = refl

      not_its_back : (o : Option ℕ) → IsOfTask s before o c → is_task t o ≡ false
      not_its_back None of_task = refl
      not_its_back (Some m) of_task = not_back m (m == t) refl of_task

  unmade : (events : Events) → IsRun s events → (v : Work) (t : ℕ) → slice_get s.works t ≡ Some v
      → made_count events ≤ t
      → Waits events v t
  unmade [] run v t there few a = refl
  unmade (Made fits ∷ before) run v t there few a = unmade before run.1 v t there (omega arith) a
  unmade (Lined ∷ before) run v t there few a = unmade before run.1 v t there few a
  unmade (Stopped reason ∷ before) run v t there few a = unmade before run.1 v t there few a
  unmade (Sent task o k lane ∷ before) run v t there few a =
      let next = is_next s before task (act.Send o k) (ap act_of run.0) in
      passed_over v a (task == t) _ (share v t before) (not_its before v t few task next.0 next.1)
      (unmade before run.1 v t there few a)
  unmade (Called task called result ∷ before) run v t there few a =
      let next = is_called s before task called run.0.0 in
      passed_over v a (task == t) _ (share v t before) (not_its before v t few task next.0 next.1)
      (unmade before run.1 v t there few a)
  unmade (Back lane c ∷ before) run v t there few a =
      passed_over v a (is_task t c.job.id.task) _ (share v t before)
      (not_its_back before v t few c (λ w e. unmade before run.1 w t e few) c.job.id.task run.0.1)
      (unmade before run.1 v t there few a)

has_none : (w : Work) (h : History) (n : ℕ) → ((a : Act) → stage w h a ≡ at.Waiting) → has_part w h n ≡ false
has_none w h n e = unread_holds w.of_kind (is_stopped w h) (has_done (stage w h (act.Read n)))
    (has_done (stage w h (act.Place n))) (stage w h (job_of w n))
    (ap has_done (e (act.Read n))) (e (job_of w n))

cancel_stops : (a : Option Cause) (b : Option Reason) (r : Reason)
    → (is_some (option_or a None) || is_some (option_or b (Some r))) ≡ true
cancel_stops None None r = refl
cancel_stops None (Some q) r = refl
cancel_stops (Some why) b r = refl

-- whether a task had stopped, by whether its parts are to be freed after the cancel
was_stopped : (stopped : Bool) → (not (not stopped) && true) ≡ stopped
was_stopped true = refl
was_stopped false = refl

had_stopped : (stopped : Bool) → not stopped ≡ false → stopped ≡ true
had_stopped true e = refl
had_stopped false e = no (sym e)

module _ (s : Shared) (events : Events) (reason : Reason) (run : IsRun s events) where
  abbrev after : Events
  after = Stopped reason ∷ events

  module _ (t n : ℕ) (w : Work) where
    abbrev h : History
    h = share w t events

    stops : is_stopped w (Cancelled reason ∷ h) ≡ true
    stops = cancel_stops (first_failure w h) (first_reason h) reason

    abbrev with_by : Bool → Bool
    with_by stopped = is_piece w n && is_with_job w.of_kind stopped (stage w h (job_of w n))

    none_with : slice_get s.works t ≡ Some w → made_count events ≤ t → (stopped : Bool) → with_by stopped ≡ false
    none_with there few stopped =
        both_false (is_piece w n) _
        (ap (λ (x : Stage). is_with_job w.of_kind stopped x) (unmade s events run w t there few (job_of w n))
        ∙ none_with_waiting w.of_kind stopped)

    away_made : slice_get s.works t ≡ Some w → (b : Bool) → nat_lt t (made_count events) ≡ b
        → with_by (is_stopped w h) ≡ with_by (not (b && not (is_stopped w h)) && is_stopped w (Cancelled reason ∷ h))
    away_made there true e = ap (λ (x : Bool). with_by x)
        (sym (was_stopped (is_stopped w h)) ∙ ap (λ (x : Bool). not (not (is_stopped w h)) && x) (sym stops))
    away_made there false e =
        let few = ltb-false t (made_count events) e in none_with there few _ ∙ sym (none_with there few _)

    held_made : slice_get s.works t ≡ Some w → (b : Bool) → nat_lt t (made_count events) ≡ b
        → (b && not (is_stopped w h)) ≡ false → has_part w h n ≡ has_part w (Cancelled reason ∷ h) n
    held_made there true e u =
        stopped_has w h n (had_stopped (is_stopped w h) u) ∙ sym (cancel_frees_parts w h reason n)
    held_made there false e u =
        let waits = unmade s events run w t there (ltb-false t (made_count events) e) in
        has_none w h n waits ∙ sym (has_none w (Cancelled reason ∷ h) n waits)

  cancel_away : (o : Option Work) (t n : ℕ) → slice_get s.works t ≡ o
      → away_of false o events t n
      ≡ away_of (nat_lt t (made_count events) && goes_on o t events) o after t n
  cancel_away None t n there = refl
  cancel_away (Some w) t n there = away_made t n w there (nat_lt t (made_count events)) refl

  cancel_held : (o : Option Work) (t n : ℕ) → slice_get s.works t ≡ o
      → (nat_lt t (made_count events) && goes_on o t events) ≡ false
      → holds_of o events t n ≡ holds_of o after t n
  cancel_held None t n there u = refl
  cancel_held (Some w) t n there u = ap (λ (b : Bool). is_piece w n && b)
      (held_made t n w there (nat_lt t (made_count events)) refl u)

pub cancel_leaves_parts : CancelLeavesParts
cancel_leaves_parts s events slots reason run table = record {
  away = λ t n. table.away t n ∙ cancel_away s events reason run (slice_get s.works t) t n refl;
  held = λ t n u. table.held t n refl ∙ cancel_held s events reason run (slice_get s.works t) t n refl u;
}
