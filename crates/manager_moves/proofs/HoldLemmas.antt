-- Which pieces of a task hold a part after one more thing happened.
use Rattle.std.proofs.Common.{◌≡◌, ◌∙◌, ◌==◌, ◌&&◌, ◌||◌, ℕ, Bool, true, false, ◌∷◌, Option, Some, None, refl, sym, subst, ap, arith, length}
use Rattle.std.proofs.lemmas.Bool.{and_parts, eqb-true}
use Rattle.std.specs.Option.{option_or}
use Rattle.std.specs.Prelude.{is_some, if◌then◌else◌}
use Rattle.jobs.specs.Endings.{SeenCarried}
use Rattle.s3_model.specs.declared.outcomes.Cause.{Cause}
use Rattle.s3_model.specs.declared.outcomes.Reason.{Reason}
use Rattle.s3_model.specs.declared.requests.Op.{Op}
use Rattle.s3_model.specs.declared.requests.Op.TheVariants as op
use Rattle.s3_model.specs.declared.tasks.Kind.{Kind}
use Rattle.s3_model.specs.declared.tasks.Kind.TheVariants as kind
use Rattle.job_terms.specs.Ops.{is_op, op_number}
use Rattle.s3_outside.specs.declared.files.FileFault.TheVariants as fault
use Rattle.task_acts.specs.declared.acts.Act.{Act}
use Rattle.task_acts.specs.declared.acts.Act.TheVariants as act
use Rattle.task_acts.specs.declared.acts.FileCame.{FileCame}
use Rattle.task_acts.specs.declared.acts.FileCame.TheVariants as file
use Rattle.task_acts.specs.declared.acts.Stage.{Stage}
use Rattle.task_acts.specs.declared.acts.Stage.TheVariants as at
use Rattle.task_acts.specs.declared.work.Work.{Work}
use Rattle.task_acts.specs.Failures.{failure_by, first_failure, first_reason, is_stopped, reason_by}
use Rattle.task_acts.specs.Histories.{History, Happening, Gave, Came, Returned, Cancelled, Taken, sent}
use Rattle.task_acts.specs.Stages.{has_done, is_out, stage}
use Rattle.task_acts.specs.Work.{piece_op}
use Rattle.manager_moves.proofs.CountLemmas.{no}
use Rattle.manager_moves.specs.Parts.{has_part, holds_part}

-- ---- a piece

-- what holds a part while the task is stopped holds it in any case
weaken : (k : Kind) (t s r p : Bool) (how : Stage) → (t ≡ false → s ≡ false) → holds_part k t r p how ≡ true
    → holds_part k s r p how ≡ true
weaken k true true r p how m h = h
weaken k false false r p how m h = h
weaken k false true r p how m h = no (sym (m refl))
weaken kind.Upload true false r p at.Waiting m h = no h
weaken kind.Upload true false r p at.Out m h = refl
weaken kind.Upload true false r p at.Kept m h = no h
weaken kind.Upload true false r p at.Again m h = refl
weaken kind.Upload true false r p at.Fine m h = no h
weaken kind.Upload true false r p at.Failed m h = no h
weaken kind.Download true false r p at.Waiting m h = no h
weaken kind.Download true false r p at.Out m h = refl
weaken kind.Download true false r p at.Kept m h = no h
weaken kind.Download true false r p at.Again m h = refl
weaken kind.Download true false r p at.Fine m h = no h
weaken kind.Download true false r p at.Failed m h = no h
weaken kind.Copy true false r p how m h = no h
weaken kind.RemoveObject true false r p how m h = no h
weaken kind.RemoveFile true false r p how m h = no h

-- a piece that is placed, or whose task is stopped, holds what it held before it was placed
placing : (k : Kind) (t r q p : Bool) (how : Stage) → (t ≡ false → q ≡ true) → holds_part k t r q how ≡ true
    → holds_part k t r p how ≡ true
placing kind.Upload t r q p how m h = h
placing kind.Download true r q p how m h = h
placing kind.Download false r q p at.Waiting m h = no h
placing kind.Download false r q p at.Out m h = refl
placing kind.Download false r q p at.Kept m h = refl
placing kind.Download false r q p at.Again m h = refl
placing kind.Download false r true p at.Fine m h = no h
placing kind.Download false r false p at.Fine m h = no (m refl)
placing kind.Download false r q p at.Failed m h = no h
placing kind.Copy t r q p how m h = h
placing kind.RemoveObject t r q p how m h = h
placing kind.RemoveFile t r q p how m h = h

-- a piece whose job is out holds a part, if pieces of that kind hold any
out_holds : (k : Kind) (t s r q p u : Bool) (new how : Stage) → is_out how ≡ true → holds_part k t r q new ≡ true
    → holds_part k s p u how ≡ true
out_holds kind.Upload t s r q p u new at.Out e h = refl
out_holds kind.Upload t s r q p u new at.Again e h = refl
out_holds kind.Upload t s r q p u new at.Waiting e h = no e
out_holds kind.Upload t s r q p u new at.Kept e h = no e
out_holds kind.Upload t s r q p u new at.Fine e h = no e
out_holds kind.Upload t s r q p u new at.Failed e h = no e
out_holds kind.Download t s r q p u new at.Out e h = refl
out_holds kind.Download t s r q p u new at.Again e h = refl
out_holds kind.Download t s r q p u new at.Waiting e h = no e
out_holds kind.Download t s r q p u new at.Kept e h = no e
out_holds kind.Download t s r q p u new at.Fine e h = no e
out_holds kind.Download t s r q p u new at.Failed e h = no e
out_holds kind.Copy t s r q p u new how e h = no h
out_holds kind.RemoveObject t s r q p u new how e h = no h
out_holds kind.RemoveFile t s r q p u new how e h = no h

-- ---- acts

numbered : ℕ → Op
numbered n =
    if n == 0 then op.Head else if n == 1 then op.Get else if n == 2 then op.Put else if n == 3 then op.Copy
    else if n == 4 then op.Delete else if n == 5 then op.Create else if n == 6 then op.Part else if n == 7 then op.PartCopy
    else if n == 8 then op.Complete else if n == 9 then op.Abort else if n == 10 then op.List else op.Buckets

back : (a : Op) → numbered (op_number a) ≡ a
unfolding numbered
back op.Head = refl
back op.Get = refl
back op.Put = refl
back op.Copy = refl
back op.Delete = refl
back op.Create = refl
back op.Part = refl
back op.PartCopy = refl
back op.Complete = refl
back op.Abort = refl
back op.List = refl
back op.Buckets = refl

pub same_op : (a b : Op) → is_op a b ≡ true → a ≡ b
same_op a b e = sym (back a) ∙ ap numbered (eqb-true (op_number a) (op_number b) e) ∙ back b

same_job : (a b : Op) (n k : ℕ) → (is_op a b && (n == k)) ≡ true → act.Send a n ≡ act.Send b k
same_job a b n k e =
    let each = and_parts (is_op a b) (n == k) e in
    ap (λ (o : Op). act.Send o n) (same_op a b each.0) ∙ ap (act.Send b) (eqb-true n k each.1)

pub same_number : (n : ℕ) → (n == n) ≡ true
same_number n = grind arith

either : (a b : Bool) → b ≡ false → (a && b) ≡ false
either true b e = e
either false b e = refl

other_act : (a b : Op) (n k : ℕ) → (n == k) ≡ false → (is_op a b && (n == k)) ≡ false
other_act a b n k e = either (is_op a b) (n == k) e

pub skip : {X : Type 0} (b : Bool) (x y : X) → b ≡ false → (if b then x else y) ≡ y
skip true x y e = no (sym e)
skip false x y e = refl

-- ---- one more thing

module _ (w : Work) where
  stays_by : (a b : Option Cause) (c d : Option Reason) → (is_some (option_or a b) || is_some (option_or c d)) ≡ false
      → (is_some a || is_some c) ≡ false
  stays_by None b None d e = refl
  stays_by None None (Some r) d e = no (sym e)
  stays_by None (Some f) (Some r) d e = no (sym e)
  stays_by (Some f) b c d e = no (sym e)

  -- a task that is stopped stays so
  stays : (h : History) (e : Happening) → is_stopped w (e ∷ h) ≡ false → is_stopped w h ≡ false
  stays h e = stays_by (first_failure w h) (failure_by w e) (first_reason h) (reason_by e)

  -- how far the acts of a piece are stays as it was
  pub record Same (e : Happening) (h : History) (n : ℕ) : Type 0 where
    pub read : stage w (e ∷ h) (act.Read n) ≡ stage w h (act.Read n)
    pub placed : stage w (e ∷ h) (act.Place n) ≡ stage w h (act.Place n)
    pub sent_is : stage w (e ∷ h) (act.Send (piece_op w.of_kind w.small) n)
        ≡ stage w h (act.Send (piece_op w.of_kind w.small) n)

  pub kept : (e : Happening) (h : History) (n : ℕ) → Same e h n → has_part w (e ∷ h) n ≡ true
      → has_part w h n ≡ true
  kept e h n same holds =
      let t = is_stopped w (e ∷ h) in
      let r = λ (g : History). has_done (stage w g (act.Read n)) in
      let p = λ (g : History). has_done (stage w g (act.Place n)) in
      let how = λ (g : History). stage w g (act.Send (piece_op w.of_kind w.small) n) in
      let one = subst (λ (x : Stage). holds_part w.of_kind t (has_done x) (p (e ∷ h)) (how (e ∷ h)) ≡ true) same.read holds in
      let two = subst (λ (x : Stage). holds_part w.of_kind t (r h) (has_done x) (how (e ∷ h)) ≡ true) same.placed one in
      let three = subst (λ (x : Stage). holds_part w.of_kind t (r h) (p h) x ≡ true) same.sent_is two in
      weaken w.of_kind t (is_stopped w h) (r h) (p h) (how h) (stays h e) three

  pub cancelled : (r : Reason) (h : History) (n : ℕ) → Same (Cancelled r) h n
  cancelled r h n = record { read = refl; placed = refl; sent_is = refl }

  pub taken : (o : Op) (k : ℕ) (h : History) (n : ℕ) → Same (Taken o k) h n
  taken o k h n = record { read = refl; placed = refl; sent_is = refl }

  pub other_gave : (o : Op) (k : ℕ) (h : History) (n : ℕ) → (n == k) ≡ false → Same (Gave (act.Send o k)) h n
  other_gave o k h n e = record {
    read = refl;
    placed = refl;
    sent_is = skip _ _ _ (other_act (piece_op w.of_kind w.small) o n k e);
  }

  -- ---- calls on files

  -- a call that is no Read and no Place of that piece leaves its acts as they are
  abbrev pub IsOther : Act → ℕ → Type 0
  IsOther (act.Send o k) n = ⊥
  IsOther (act.Read k) n = (n == k) ≡ false
  IsOther (act.Place k) n = (n == k) ≡ false
  IsOther a n = Unit {0}

  other_call : (a : Act) (h : History) (n : ℕ) → IsOther a n → Same (Gave a) h n
  other_call (act.Send o k) h n e = absurd e
  other_call (act.Read k) h n e = record { read = skip _ _ _ e; placed = refl; sent_is = refl }
  other_call (act.Place k) h n e = record { read = refl; placed = skip _ _ _ e; sent_is = refl }
  other_call act.Assemble h n e = record { read = refl; placed = refl; sent_is = refl }
  other_call act.Rename h n e = record { read = refl; placed = refl; sent_is = refl }
  other_call act.DropTemp h n e = record { read = refl; placed = refl; sent_is = refl }
  other_call act.Remove h n e = record { read = refl; placed = refl; sent_is = refl }
  other_call act.Stamp h n e = record { read = refl; placed = refl; sent_is = refl }

  other_return : (a : Act) (r : FileCame) (h : History) (n : ℕ) → IsOther a n → Same (Returned a r) h n
  other_return (act.Send o k) r h n e = absurd e
  other_return (act.Read k) r h n e = record { read = skip _ _ _ e; placed = refl; sent_is = refl }
  other_return (act.Place k) r h n e = record { read = refl; placed = skip _ _ _ e; sent_is = refl }
  other_return act.Assemble r h n e = record { read = refl; placed = refl; sent_is = refl }
  other_return act.Rename r h n e = record { read = refl; placed = refl; sent_is = refl }
  other_return act.DropTemp r h n e = record { read = refl; placed = refl; sent_is = refl }
  other_return act.Remove r h n e = record { read = refl; placed = refl; sent_is = refl }
  other_return act.Stamp r h n e = record { read = refl; placed = refl; sent_is = refl }

  pub called : (a : Act) (r : FileCame) (h : History) (n : ℕ) → IsOther a n
      → has_part w (Returned a r ∷ Gave a ∷ h) n ≡ true → has_part w h n ≡ true
  called a r h n e holds =
      kept (Gave a) h n (other_call a h n e) (kept (Returned a r) (Gave a ∷ h) n (other_return a r (Gave a ∷ h) n e) holds)

  fails : (x : Option Cause) (c : Cause) (y : Bool) → (is_some (option_or x (Some c)) || y) ≡ false → false ≡ true
  fails None c y e = sym e
  fails (Some d) c y e = sym e

  -- a piece that was placed counts as placed, or its task is stopped
  placed_or_stopped : (k : ℕ) (r : FileCame) (h : History)
      → is_stopped w (Returned (act.Place k) r ∷ Gave (act.Place k) ∷ h) ≡ false
      → has_done (stage w (Returned (act.Place k) r ∷ Gave (act.Place k) ∷ h) (act.Place k)) ≡ true
  placed_or_stopped k file.Fine h e = rw (same_number k) refl
  placed_or_stopped k file.Short h e = no (fails _ _ _ e)
  placed_or_stopped k (file.Fault fault.Failed) h e = no (fails _ _ _ e)
  placed_or_stopped k (file.Fault (fault.Blocked length)) h e = no (fails _ _ _ e)
  placed_or_stopped k (file.Fault fault.Memory) h e = no (fails _ _ _ e)

  pub placed : (k : ℕ) (r : FileCame) (h : History) → has_part w (Returned (act.Place k) r ∷ Gave (act.Place k) ∷ h) k ≡ true
      → has_part w h k ≡ true
  placed k r h holds =
      let g = Returned (act.Place k) r ∷ Gave (act.Place k) ∷ h in
      let read = has_done (stage w h (act.Read k)) in
      let how = stage w h (act.Send (piece_op w.of_kind w.small) k) in
      let was = has_done (stage w h (act.Place k)) in
      let one = placing w.of_kind (is_stopped w g) read (has_done (stage w g (act.Place k))) was how
      (placed_or_stopped k r h) holds in
      weaken w.of_kind (is_stopped w g) (is_stopped w h) read was how
      (λ e. stays h (Gave (act.Place k)) (stays (Gave (act.Place k) ∷ h) (Returned (act.Place k) r) e)) one

  -- ---- jobs

  came_by : (b : Bool) (c : SeenCarried) (h : History) (n : ℕ)
      → (is_op (piece_op w.of_kind w.small) c.job.id.op && (n == c.job.id.number)) ≡ b
      → is_out (stage w h (sent c)) ≡ true → has_part w (Came c ∷ h) n ≡ true → has_part w h n ≡ true
  came_by true c h n e out holds =
      let job = act.Send (piece_op w.of_kind w.small) n in
      let is_its = subst (λ (a : Act). is_out (stage w h a) ≡ true) (sym (same_job _ _ _ _ e)) out in
      out_holds w.of_kind _ (is_stopped w h) _ _ (has_done (stage w h (act.Read n))) (has_done (stage w h (act.Place n))) _
      (stage w h job) is_its holds
  came_by false c h n e out holds =
      kept (Came c) h n (record { read = refl; placed = refl; sent_is = skip _ _ _ e }) holds

  pub came : (c : SeenCarried) (h : History) (n : ℕ) → is_out (stage w h (sent c)) ≡ true
      → has_part w (Came c ∷ h) n ≡ true → has_part w h n ≡ true
  came c h n = came_by (is_op (piece_op w.of_kind w.small) c.job.id.op && (n == c.job.id.number)) c h n refl
