-- A task that an event is about is made, has its state in its slot, and has not ended.
use Rattle.std.proofs.Common.{◌≡◌, ◌∙◌, ◌==◌, ◌<◌, ◌≤◌, ℕ, zero, suc, Bool, true, false, List, [], ◌∷◌, Option, Some}
use Rattle.std.proofs.Common.{None}
use Rattle.std.proofs.Common.{refl, sym, subst, ap, arith, is_some, length, slice_get, if◌then◌else◌}
use Rattle.std.specs.Prelude.{take}
use Rattle.std.proofs.lemmas.Bool.{eqb-true, lt-ltb}
use Rattle.alike_histories.proofs.Alike.{alike_says_the_same}
use Rattle.jobs.specs.Endings.{SeenCarried}
use Rattle.manager_moves.proofs.CountLemmas.{no}
use Rattle.manager_moves.proofs.MoveLaws.{in_front}
use Rattle.manager_moves.proofs.PartLaws.{nothing, ready_act, same_value}
use Rattle.manager_moves.proofs.ShareLaws.{IsReady, act_of, is_called, is_next, shares_are_histories}
use Rattle.manager_moves.specs.Laws.{IsOfTask, IsRun}
use Rattle.manager_moves.specs.Moves.{made}
use Rattle.manager_moves.specs.Runs.{Back, Called, Events, Lined, Made, Sent, Shared, Stopped, is_task, lacks_memory}
use Rattle.manager_moves.specs.Runs.{made_count, outcome_in, share}
use Rattle.s3_model.specs.declared.outcomes.Cause.TheVariants as cause
use Rattle.s3_model.specs.declared.outcomes.Outcome.{Outcome}
use Rattle.s3_model.specs.declared.outcomes.Outcome.TheVariants as outcome
use Rattle.task_acts.specs.declared.acts.Act.{Act}
use Rattle.task_acts.specs.declared.acts.Act.TheVariants as act
use Rattle.task_acts.specs.declared.work.Work.{Work}
use Rattle.task_acts.specs.Ends.{outcome_of}
use Rattle.task_acts.specs.Histories.{History, sent}
use Rattle.task_acts.specs.Kept.{IsHistory}
use Rattle.task_acts.specs.Rule.{first_ready_in}
use Rattle.task_acts.specs.Stages.{is_out, stage}
use Rattle.task_core.specs.Machine.{SeenTask}
use Rattle.task_progress.proofs.Quiet.{not_out, outcome_quiet}
use Rattle.task_progress.specs.Progress.{HasPiece}
use Rattle.move_laws.proofs.Moving.{counted, front_at, open_in}
use Rattle.move_laws.proofs.Staying.{within}
use Rattle.move_laws.specs.Admits.{IsRunOf}
use Rattle.move_laws.specs.Follows.{Follows, HasEnded, HoldsTask, IsTaskIn}
use Rattle.move_laws.specs.Kept.{SeenMoves, state_at}

pub record IsOpen (s : Shared) (events : Events) (m : SeenMoves) (task : ℕ) (w : Work) : Type 0 where
  pub there : slice_get (made s events) task ≡ Some w
  pub memory : lacks_memory task events ≡ false
  pub state : SeenTask
  pub slot : state_at m task ≡ Some state
  pub in_it : IsTaskIn m.parts.pool.room w (share w task events) state
  pub goes_on : outcome_of w (share w task events) ≡ None

pub in_take : {X : Type 0} (n : ℕ) (xs : List X) (i : ℕ) (x : X) → slice_get (take n xs) i ≡ Some x → i < n
in_take zero xs i x e = absurd (nothing e)
in_take (suc n) [] i x e = absurd (nothing e)
in_take (suc n) (y ∷ ys) zero x e = omega arith
in_take (suc n) (y ∷ ys) (suc i) x e = let l = in_take n ys i x e in omega arith

pub remembers : {X : Type 0} (b : Bool) (x : Option X) (a : X) → (if b then None else x) ≡ Some a → b ≡ false
remembers true x a e = absurd (nothing e)
remembers false x a e = refl

-- ---- what is in the slot

module _ (s : Shared) (events : Events) (m : SeenMoves) (task : ℕ) (w : Work) (run : IsRunOf s events)
    (follows : Follows s events m) (there : slice_get (made s events) task ≡ Some w)
    (memory : lacks_memory task events ≡ false) where
  abbrev h : History
  h = share w task events

  in_plan : slice_get s.works task ≡ Some w
  in_plan = in_front (made_count events) s.works task w there

  piece : HasPiece w
  piece = run.pieces task w in_plan

  is_history : IsHistory w h
  is_history = shares_are_histories s events task w in_plan run.run

  -- its state is there, if it has not ended
  in_slot : (HasEnded w h → ⊥) → (o : Option SeenTask) → state_at m task ≡ o → HoldsTask m.parts.pool.room w h o
      → IsOpen s events m task w
  in_slot goes None e holds = absurd (goes holds)
  in_slot goes (Some t) e holds = record {
    there = there;
    memory = memory;
    state = t;
    slot = e;
    in_it = holds.0;
    goes_on =
        sym (alike_says_the_same w holds.0.heard h holds.0.alike.told_are).outcome ∙ sym holds.0.stands.outcome_is
        ∙ holds.1;
  }

  in_its_slot : (HasEnded w h → ⊥) → IsOpen s events m task w
  in_its_slot goes = in_slot goes (state_at m task) refl (follows.tasks task w there memory)

  pub open_by_ready : (a : Act) → first_ready_in w h ≡ Some a → IsOpen s events m task w
  open_by_ready a e = in_its_slot (λ ended. nothing (sym ended.waits ∙ e))

  pub open_by_out : (a : Act) → is_out (stage w h a) ≡ true → IsOpen s events m task w
  open_by_out a e =
      in_its_slot (λ ended. no (not_out w h piece is_history (outcome_quiet w h piece is_history ended.ended) a e))

-- ---- what it adds to the counts

module _ (s : Shared) (events : Events) (m : SeenMoves) (task : ℕ) (w : Work) (follows : Follows s events m)
    (going : IsOpen s events m task w) where
  -- the state that is in its slot
  pub in_slot_is : (t : SeenTask) → state_at m task ≡ Some t → going.state ≡ t
  in_slot_is t e = same_value (sym going.slot ∙ e)

  pub is_within : task < length m.slots
  is_within = within m.slots task (ap is_some going.slot)

  below_made : task < made_count events
  below_made = in_take (made_count events) s.works task w going.there

  pub has_no_outcome : outcome_in w task events ≡ None
  has_no_outcome =
      ap (λ (b : Bool). if b then (if lacks_memory task events then Some (outcome.Failed cause.Memory)
      else outcome_of w (share w task events)) else None) (lt-ltb task (made_count events) below_made)
      ∙ ap (λ (b : Bool). if b then Some (outcome.Failed cause.Memory) else outcome_of w (share w task events))
      going.memory ∙ going.goes_on

  pub is_counted : 1 ≤ m.unfinished
  is_counted =
      let one : open_in w task events ≡ 1 =
      ap (λ (o : Option Outcome). if is_some o then 0 else 1) has_no_outcome in
      let many = counted s events task w 0 task (made s events) (omega arith) going.there in
      omega (arith, one, many, follows.unfinished)

-- ---- what an event is about

module _ (s : Shared) where
  abbrev IsThere : Events → ℕ → Type 0
  IsThere events task = (task < made_count events) × (lacks_memory task events ≡ false)

  abbrev IsMadeIfOut : Events → ℕ → Work → Type 0
  IsMadeIfOut events task w =
      (a : Act) → is_out (stage w (share w task events) a) ≡ true → IsThere events task

  was_ready : (events : Events) (task : ℕ) (a : Act) → IsReady s events task a → IsThere events task
  was_ready events task a is = (
    in_take (made_count events) s.works task is.0 is.1,
    remembers (lacks_memory task events) (first_ready_in is.0 (share is.0 task events)) a is.2,
  )

  module _ (before : Events) (task : ℕ) (w : Work) (rest : IsMadeIfOut before task w) where
    after_ready : (other : ℕ) (b : Bool) → (other == task) ≡ b → (a : Act) → IsReady s before other a
        → (h : History) (x : Act) → is_out (stage w (if b then h else share w task before) x) ≡ true
        → IsThere before task
    after_ready other true e a is h x out =
        subst (λ (n : ℕ). IsThere before n) (eqb-true other task e) (was_ready before other a is)
    after_ready other false e a is h x out = rest x out

    after_back : (c : SeenCarried) (o : Option ℕ) (b : Bool) → is_task task o ≡ b → slice_get s.works task ≡ Some w
        → IsOfTask s before o c → (h : History) (x : Act)
        → is_out (stage w (if b then h else share w task before) x) ≡ true → IsThere before task
    after_back c o false e there is h x out = rest x out
    after_back c None true e there is h x out = no e
    after_back c (Some other) true e there is h x out =
        let same = eqb-true other task e in
        let of_w : is.0 ≡ w = same_value (sym is.1 ∙ ap (λ (n : ℕ). slice_get s.works n) same ∙ there) in
        let of_task : is_out (stage w (share w task before) (sent c)) ≡ true =
        subst (λ (v : Work). is_out (stage v (share v task before) (sent c)) ≡ true) of_w
        (subst (λ (n : ℕ). is_out (stage is.0 (share is.0 n before) (sent c)) ≡ true) same is.2.0) in
        rest (sent c) of_task

  still_fits : (fits : Bool) (before : Events) (task : ℕ) → IsThere before task → IsThere (Made fits ∷ before) task
  still_fits true before task is = (omega (arith, is.0), is.1)
  still_fits false before task is = (
    omega (arith, is.0),
    ap (λ (b : Bool). if b then true else lacks_memory task before) (above (made_count before) task is.0) ∙ is.1,
  )
    where
      above : (count n : ℕ) → n < count → (count == n) ≡ false
      above count n l = grind arith

  made_if_out : (events : Events) (task : ℕ) (w : Work) → IsRun s events → slice_get s.works task ≡ Some w
      → IsMadeIfOut events task w
  made_if_out [] task w run there a out = no out
  made_if_out (Made fits ∷ before) task w run there a out =
      still_fits fits before task (made_if_out before task w run.1 there a out)
  made_if_out (Lined ∷ before) task w run there a out = made_if_out before task w run.1 there a out
  made_if_out (Stopped reason ∷ before) task w run there a out = made_if_out before task w run.1 there a out
  made_if_out (Sent other o k lane ∷ before) task w run there a out =
      after_ready before task w (made_if_out before task w run.1 there) other (other == task) refl (act.Send o k)
      (is_next s before other (act.Send o k) (ap act_of run.0)) _ a out
  made_if_out (Called other called result ∷ before) task w run there a out =
      after_ready before task w (made_if_out before task w run.1 there) other (other == task) refl called
      (is_called s before other called run.0.0) _ a out
  made_if_out (Back lane c ∷ before) task w run there a out =
      after_back before task w (made_if_out before task w run.1 there) c c.job.id.task (is_task task c.job.id.task) refl
      there run.0.1 _ a out

module _ (s : Shared) (events : Events) (m : SeenMoves) (run : IsRunOf s events) (follows : Follows s events m) where
  -- the task of the next move
  pub ready_is_open : (task : ℕ) (a : Act) (is : IsReady s events task a) → IsOpen s events m task is.0
  ready_is_open task a is =
      open_by_ready s events m task is.0 run follows is.1
      (remembers (lacks_memory task events) (first_ready_in is.0 (share is.0 task events)) a is.2) a
      (ready_act (lacks_memory task events) (first_ready_in is.0 (share is.0 task events)) a is.2)

  -- the task of a job that comes back
  pub out_is_open : (task : ℕ) (w : Work) (a : Act) → slice_get s.works task ≡ Some w
      → is_out (stage w (share w task events) a) ≡ true → IsOpen s events m task w
  out_is_open task w a there out =
      let is = made_if_out s events task w run.run there a out in
      let is_made : slice_get (made s events) task ≡ Some w =
      front_at (made_count events) s.works task
      ∙ ap (λ (b : Bool). if b then slice_get s.works task else None) (lt-ltb task (made_count events) is.0)
      ∙ there in
      open_by_out s events m task w run follows is_made is.1 a out
