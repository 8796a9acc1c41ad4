-- What an act has left of its givings and returns, which whatever happens takes of.
use Rattle.std.proofs.Common.{◌≡◌, ◌∙◌, ◌&&◌, ◌+◌, ◌*◌, ◌≤◌, [], ◌∷◌, ℕ, Bool, true, false, List}
use Rattle.std.proofs.Common.{inl, inr, refl, sym, subst, arith, length}
use Rattle.std.specs.Prelude.{is_some, if◌then◌else◌}
use Rattle.jobs.specs.Endings.{SeenCarried}
use Rattle.job_terms.specs.Ops.{op_number}
use Rattle.s3_model.specs.declared.requests.Op.{Op}
use Rattle.s3_model.specs.declared.requests.Op.TheVariants as op
use Rattle.shared_lemmas.proofs.Members.{Has}
use Rattle.task_acts.specs.declared.acts.Act.{Act}
use Rattle.task_acts.specs.declared.acts.Act.TheVariants as act
use Rattle.task_acts.specs.declared.acts.FileCame.{FileCame}
use Rattle.task_acts.specs.declared.acts.Stage.{Stage}
use Rattle.task_acts.specs.declared.acts.Stage.TheVariants as at
use Rattle.task_acts.specs.declared.work.Work.{Work}
use Rattle.task_acts.specs.Failures.{carried_cause, is_cut_short, is_fine, is_stopped, is_unfinished}
use Rattle.task_acts.specs.Histories.{Came, Gave, History, Returned, is_act, sent}
use Rattle.task_acts.specs.Kept.{MayHappen, has_cell}
use Rattle.task_acts.specs.Stages.{carried_stage, file_stage, given_stage, is_out, may_be_given, stage}
use Rattle.task_progress.proofs.Begun.{same_act}
use Rattle.task_progress.proofs.Endings.{no}
use Rattle.manager_moves.proofs.HoldLemmas.{same_number}

-- ---- what an act has left

-- how often it can still be given or come
abbrev pub left : Stage → ℕ
left at.Waiting = 4
left at.Out = 3
left at.Kept = 2
left at.Again = 1
left at.Fine = 0
left at.Failed = 0

abbrev pub lefts : (Act → Stage) → List Act → ℕ
lefts f [] = 0
lefts f (a ∷ jobs) = left (f a) + lefts f jobs

module _ (f g : Act → Stage) (each : (a : Act) → left (g a) ≤ left (f a)) where
  pub never_more : (jobs : List Act) → lefts g jobs ≤ lefts f jobs
  never_more [] = omega arith
  never_more (a ∷ jobs) = let here = each a in let rest = never_more jobs in omega arith

  pub one_falls : (acts : List Act) (b : Act) → left (g b) + 1 ≤ left (f b) → Has acts b
      → lefts g acts + 1 ≤ lefts f acts
  one_falls [] b falls known = absurd known
  one_falls (a ∷ jobs) b falls (inl same) =
      let here : left (g a) + 1 ≤ left (f a) = subst (λ (x : Act). left (g x) + 1 ≤ left (f x)) (sym same) falls in
      let rest = never_more jobs in
      omega arith
  one_falls (a ∷ jobs) b falls (inr known) =
      let here = each a in
      let rest = one_falls jobs b falls known in
      omega arith

given_falls : (how : Stage) → may_be_given how ≡ true → left (given_stage how) + 1 ≤ left how
given_falls at.Waiting e = omega arith
given_falls at.Kept e = omega arith
given_falls at.Out e = no e
given_falls at.Again e = no e
given_falls at.Fine e = no e
given_falls at.Failed e = no e

abbrev back_stage : (cut stopped failed : Bool) → Stage
back_stage cut stopped failed =
    if cut then (if stopped then at.Failed else at.Kept) else if failed then at.Failed else at.Fine

few_left : (cut stopped failed : Bool) → left (back_stage cut stopped failed) ≤ 2
few_left true true failed = omega arith
few_left true false failed = omega arith
few_left false stopped true = omega arith
few_left false stopped false = omega arith

none_left : (cut stopped failed : Bool) → cut ≡ false → left (back_stage cut stopped failed) ≤ 0
none_left true stopped failed e = no (sym e)
none_left false stopped true e = omega arith
none_left false stopped false e = omega arith

-- a job that is given again has no cell, so it is not cut short
no_cell : (o : Op) → has_cell at.Again o ≡ false
no_cell op.Abort = refl
no_cell o = refl

neither : (a b : Bool) → a ≡ false → (a && b) ≡ false
neither true b e = no (sym e)
neither false b e = refl

back_falls : (w : Work) (stopped : Bool) (c : SeenCarried) (how : Stage) → is_out how ≡ true
    → is_some c.job.cell ≡ has_cell how c.job.id.op → left (carried_stage w stopped c) + 1 ≤ left how
back_falls w stopped c at.Out out cell =
    let few = few_left (is_cut_short w c) stopped (is_some (carried_cause w c)) in omega arith
back_falls w stopped c at.Again out cell =
    let none = none_left (is_cut_short w c) stopped (is_some (carried_cause w c))
    (neither (is_some c.job.cell) (is_unfinished w.attempts (length c.tries) c.ending)
    (cell ∙ no_cell c.job.id.op)) in omega arith
back_falls w stopped c at.Waiting out cell = no out
back_falls w stopped c at.Kept out cell = no out
back_falls w stopped c at.Fine out cell = no out
back_falls w stopped c at.Failed out cell = no out

none_then : (fine : Bool) → left (if fine then at.Fine else at.Failed) ≤ 0
none_then true = omega arith
none_then false = omega arith

-- ---- whatever happens takes of it

both_true : (a b : Bool) → a ≡ true → b ≡ true → (a && b) ≡ true
both_true true b e f = f
both_true false b e f = no e

itself : (a : Act) → is_act a a ≡ true
itself (act.Send o n) = both_true _ _ (same_number (op_number o)) (same_number n)
itself (act.Read n) = same_number n
itself act.Assemble = refl
itself (act.Place n) = same_number n
itself act.Rename = refl
itself act.DropTemp = refl
itself act.Remove = refl
itself act.Stamp = refl

module _ (w : Work) (h : History) where
  -- as an act is in another stage
  module _ (g : Act) (how : Stage) where
    now_less : left how ≤ left (stage w h g) → (a : Act)
        → left (if is_act a g then how else stage w h a) ≤ left (stage w h a)
    now_less less a = by (is_act a g) refl
      where
        by : (b : Bool) → is_act a g ≡ b → left (if b then how else stage w h a) ≤ left (stage w h a)
        by true same = subst (λ (x : Act). left how ≤ left (stage w h x)) (sym (same_act a g same)) less
        by false other = omega arith

    now_falls : (b : Bool) → b ≡ true → left how + 1 ≤ left (stage w h g)
        → left (if b then how else stage w h g) + 1 ≤ left (stage w h g)
    now_falls true e falls = falls
    now_falls false e falls = no e

  pub gave_less : (g : Act) → may_be_given (stage w h g) ≡ true → (a : Act)
      → left (stage w (Gave g ∷ h) a) ≤ left (stage w h a)
  gave_less g may a =
      now_less g (given_stage (stage w h g)) (let falls = given_falls (stage w h g) may in omega arith) a

  pub gave_falls : (g : Act) → may_be_given (stage w h g) ≡ true
      → left (stage w (Gave g ∷ h) g) + 1 ≤ left (stage w h g)
  gave_falls g may = now_falls g (given_stage (stage w h g)) (is_act g g) (itself g) (given_falls (stage w h g) may)

  module _ (c : SeenCarried) (may : MayHappen w h (Came c)) where
    came_falls : left (carried_stage w (is_stopped w h) c) + 1 ≤ left (stage w h (sent c))
    came_falls = back_falls w (is_stopped w h) c (stage w h (sent c)) may.0 may.1

    pub came_less : (a : Act) → left (stage w (Came c ∷ h) a) ≤ left (stage w h a)
    came_less a = now_less (sent c) (carried_stage w (is_stopped w h) c) (let falls = came_falls in omega arith) a

    pub came_here : left (stage w (Came c ∷ h) (sent c)) + 1 ≤ left (stage w h (sent c))
    came_here = now_falls (sent c) (carried_stage w (is_stopped w h) c) (is_act (sent c) (sent c))
        (itself (sent c)) came_falls

  pub returned_less : (called : Act) (result : FileCame) (a : Act)
      → left (stage w (Returned called result ∷ h) a) ≤ left (stage w h a)
  returned_less called result a =
      now_less called (file_stage result) (let none = none_then (is_fine result) in omega arith) a

module _ (w : Work) where
  pub at_first : (acts : List Act) → lefts (stage w []) acts ≡ 4 * length acts
  at_first [] = omega arith
  at_first (a ∷ acts) = let rest = at_first acts in omega arith
