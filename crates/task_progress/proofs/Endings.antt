-- What the deciding request of a task left open, its last attempts tell.
use Rattle.std.proofs.Common.{◌≡◌, ◌∙◌, ◌==◌, ◌&&◌, ◌||◌, ◌⊎◌, ℕ, Bool, true, false, List, [], ◌∷◌, Option, refl, sym, subst, ap, arith, inl, inr, length, nat_lt}
use Rattle.std.proofs.lemmas.Bool.{and_parts, eqb-true}
use Rattle.std.specs.List.{list_any}
use Rattle.std.specs.Prelude.{is_some, if◌then◌else◌}
use Rattle.jobs.specs.Endings.{SeenCarried}
use Rattle.jobs.specs.declared.ending.Ending.{Ending}
use Rattle.jobs.specs.declared.ending.Ending.TheVariants as ending
use Rattle.job_terms.specs.Ops.{is_op, op_number}
use Rattle.s3_model.specs.declared.outcomes.Cause.{Cause}
use Rattle.s3_model.specs.declared.requests.Op.{Op}
use Rattle.s3_model.specs.declared.tries.Mark.{Mark}
use Rattle.task_acts.specs.declared.acts.Act.{Act}
use Rattle.task_acts.specs.declared.acts.Act.TheVariants as act
use Rattle.task_acts.specs.declared.acts.Stage.{Stage}
use Rattle.task_acts.specs.declared.acts.Stage.TheVariants as at
use Rattle.task_acts.specs.declared.work.Work.{Work}
use Rattle.task_acts.specs.Ends.{decides, has_tries, has_uncertain, is_by_request, is_uncertain, last_cause}
use Rattle.task_acts.specs.Failures.{carried_cause, is_cut_short, is_stopped}
use Rattle.task_acts.specs.Histories.{Came, Cancelled, Gave, History, Returned, Taken, is_act, sent}
use Rattle.task_acts.specs.Kept.{IsHistory, MayHappen}
use Rattle.task_acts.specs.Rule.{is_named}
use Rattle.task_acts.specs.Stages.{carried_stage, given_stage, has_done, is_out, may_be_given, stage}
use Rattle.task_acts.specs.Work.{deciding_op}
use Rattle.job_terms.proofs.SameJobs.{op_same}

pub no : {P : Type 0} → false ≡ true → P
no e = cc

pub skipped : {X : Type 0} (b : Bool) (x y : X) → b ≡ false → (if b then x else y) ≡ y
skipped true x y e = no (sym e)
skipped false x y e = refl

pub chosen : {X : Type 0} (b : Bool) (x y : X) → b ≡ true → (if b then x else y) ≡ x
chosen true x y e = refl
chosen false x y e = no e

either_is : (a b : Bool) → (a || b) ≡ true → (a ≡ true) ⊎ (b ≡ true)
either_is true b e = inl refl
either_is false b e = inr e

pub decided_or : (b : Bool) → (b ≡ true) ⊎ (b ≡ false)
decided_or true = inl refl
decided_or false = inr refl

done_is_not_out : (how : Stage) → has_done how ≡ true → is_out how ≡ true → false ≡ true
done_is_not_out at.Fine d o = o
done_is_not_out how d o = d

done_is_not_given : (how : Stage) → has_done how ≡ true → may_be_given how ≡ true → false ≡ true
done_is_not_given at.Fine d g = g
done_is_not_given how d g = d

flipped : (a b : ℕ) → (a == b) ≡ true → (b == a) ≡ true
flipped a b e = grind arith

apart : (a b : ℕ) → (a == b) ≡ false → (b == a) ≡ false
apart a b e = grind arith

module _ (w : Work) where
  abbrev deciding_act : Act
  deciding_act = act.Send (deciding_op w) 0

  -- ---- one job that came

  -- a job without a cause was not cut short
  whole_way : (b : Bool) → (b && false) ≡ false
  whole_way true = refl
  whole_way false = refl

  not_cut : (c : SeenCarried) (of : Ending) → is_some (carried_cause w (record c { ending = of })) ≡ false → is_cut_short w (record c { ending = of }) ≡ false
  not_cut c (ending.Gained said) e = whole_way (is_some c.job.cell)
  not_cut c (ending.Refused status code message) e = no (sym e)
  not_cut c (ending.Uncertain reason) e = no (sym e)
  not_cut c (ending.Cancelled reason) e = no (sym e)
  not_cut c ending.Memory e = whole_way (is_some c.job.cell)

  fine_by : (cut cause stopped : Bool) → cut ≡ false → cause ≡ false → has_done (if cut then (if stopped then at.Failed else at.Kept) else if cause then at.Failed else at.Fine) ≡ true
  fine_by false false stopped e f = refl
  fine_by false true stopped e f = no (sym f)
  fine_by true cause stopped e f = no (sym e)

  is_its_act : (c : SeenCarried) → decides w c ≡ true → is_act deciding_act (sent c) ≡ true
  is_its_act c e =
      let two = and_parts (is_by_request w.of_kind && is_op c.job.id.op (deciding_op w)) (c.job.id.number == 0) e in
      let one = and_parts (is_by_request w.of_kind) (is_op c.job.id.op (deciding_op w)) two.0 in
      both_true (is_op (deciding_op w) c.job.id.op) (0 == c.job.id.number) (flipped (op_number c.job.id.op) (op_number (deciding_op w)) one.1) (flipped c.job.id.number 0 two.1)
    where
      both_true : (a b : Bool) → a ≡ true → b ≡ true → (a && b) ≡ true
      both_true true true p q = refl
      both_true true false p q = q
      both_true false b p q = no p

  is_other_act : (c : SeenCarried) → is_by_request w.of_kind ≡ true → decides w c ≡ false → is_act deciding_act (sent c) ≡ false
  is_other_act c by e = other (is_by_request w.of_kind) (is_op c.job.id.op (deciding_op w)) (c.job.id.number == 0) (is_op (deciding_op w) c.job.id.op) (0 == c.job.id.number) by e
      (λ is. apart (op_number c.job.id.op) (op_number (deciding_op w)) is) (λ is. apart c.job.id.number 0 is)
    where
      other : (b o n p m : Bool) → b ≡ true → (b && o && n) ≡ false → (o ≡ false → p ≡ false) → (n ≡ false → m ≡ false) → (p && m) ≡ false
      other false o n p m e f g h = no e
      other true true true p m e f g h = no (sym f)
      other true true false p m e f g h = second p m (h refl)
        where
          second : (p m : Bool) → m ≡ false → (p && m) ≡ false
          second true m e = e
          second false m e = refl
      other true false n p m e f g h = first p m (g refl)
        where
          first : (p m : Bool) → p ≡ false → (p && m) ≡ false
          first true m e = no (sym e)
          first false m e = refl

  -- that act, by its op and its number
  act_is : (a : Act) → is_act deciding_act a ≡ true → a ≡ deciding_act
  act_is (act.Send o n) e =
      let two = and_parts (is_op (deciding_op w) o) (0 == n) e in
      let same : op_number o ≡ op_number (deciding_op w) = eqb-true (op_number o) (op_number (deciding_op w)) (flipped (op_number (deciding_op w)) (op_number o) two.0) in
      ap (λ (x : Op). act.Send x n) (op_same o (deciding_op w) same) ∙ ap (act.Send (deciding_op w)) (sym (eqb-true 0 n two.1))
  act_is (act.Read n) e = no e
  act_is act.Assemble e = no e
  act_is (act.Place n) e = no e
  act_is act.Rename e = no e
  act_is act.DropTemp e = no e
  act_is act.Remove e = no e
  act_is act.Stamp e = no e

  none_uncertain : (tries : List Mark) → nat_lt 0 (length tries) ≡ false → list_any is_uncertain tries ≡ false
  none_uncertain [] e = refl
  none_uncertain (first ∷ tries) e = let some : nat_lt 0 (length (first ∷ tries)) ≡ true = grind arith in no (sym e ∙ some)

  -- ---- what is told

  abbrev IsTold : History → Type 0
  IsTold h = (is_by_request w.of_kind ≡ true) × ((is_some (last_cause w h) ≡ true) ⊎ (has_done (stage w h deciding_act) ≡ true))

  by_request : (c : SeenCarried) → decides w c ≡ true → is_by_request w.of_kind ≡ true
  by_request c e =
      (and_parts (is_by_request w.of_kind) (is_op c.job.id.op (deciding_op w))
      (and_parts (is_by_request w.of_kind && is_op c.job.id.op (deciding_op w)) (c.job.id.number == 0) e).0).0

  module _ (c : SeenCarried) (h : History) where
    -- the deciding request came back with attempts
    tried : decides w c ≡ true → has_tries c ≡ true → (b : Bool) → is_some (carried_cause w c) ≡ b → IsTold (Came c ∷ h)
    tried d t true has = (by_request c d, inl (subst (λ (x : Option Cause). is_some x ≡ true) (sym (chosen (decides w c && has_tries c) (carried_cause w c) (last_cause w h) (rw (d, t) refl))) has))
    tried d t false none = (
      by_request c d,
      inr (subst (λ (x : Stage). has_done x ≡ true) (sym (chosen (is_act deciding_act (sent c)) (carried_stage w (is_stopped w h) c) (stage w h deciding_act) (is_its_act c d)))
          (fine_by (is_cut_short w c) (is_some (carried_cause w c)) (is_stopped w h) (not_cut c c.ending none) none)),
    )

    -- it came back without any
    untried : decides w c ≡ true → has_tries c ≡ false → MayHappen w h (Came c) → IsTold h → IsTold (Came c ∷ h)
    untried d t may told = (
      told.0,
      elim told.1 [
        | inl has ↦ inl (subst (λ (x : Option Cause). is_some x ≡ true) (sym (skipped (decides w c && has_tries c) (carried_cause w c) (last_cause w h) (rw (d, t) refl))) has)
        | inr done ↦ no (done_is_not_out (stage w h deciding_act) done
            (subst (λ (a : Act). is_out (stage w h a) ≡ true) (act_is (sent c) (is_its_act c d)) may.0))
      ],
    )

    -- another job came back
    other_job : decides w c ≡ false → IsTold h → IsTold (Came c ∷ h)
    other_job d told = (
      told.0,
      elim told.1 [
        | inl has ↦ inl (subst (λ (x : Option Cause). is_some x ≡ true) (sym (skipped (decides w c && has_tries c) (carried_cause w c) (last_cause w h) (rw d refl))) has)
        | inr done ↦ inr (subst (λ (x : Stage). has_done x ≡ true) (sym (skipped (is_act deciding_act (sent c)) (carried_stage w (is_stopped w h) c) (stage w h deciding_act) (is_other_act c told.0 d))) done)
      ],
    )

  gave : (a : Act) (h : History) → MayHappen w h (Gave a) → IsTold h → IsTold (Gave a ∷ h)
  gave a h may told = (
    told.0,
    elim told.1 [
      | inl has ↦ inl has
      | inr done ↦ elim (decided_or (is_act deciding_act a)) [
        | inl same ↦ no (done_is_not_given (stage w h deciding_act) done
            (subst (λ (x : Act). may_be_given (stage w h x) ≡ true) (act_is a same) (and_parts (may_be_given (stage w h a)) (is_named w (stage w h) (is_stopped w h) a) may).0))
        | inr other ↦ inr (subst (λ (x : Stage). has_done x ≡ true) (sym (skipped (is_act deciding_act a) (given_stage (stage w h a)) (stage w h deciding_act) other)) done)
      ]
    ],
  )

  returned : (a : Act) (h : History) → (r : _) → MayHappen w h (Returned a r) → IsTold h → IsTold (Returned a r ∷ h)
  returned (act.Send o n) h r may told = no may.0
  returned (act.Read n) h r may told = told
  returned act.Assemble h r may told = told
  returned (act.Place n) h r may told = told
  returned act.Rename h r may told = told
  returned act.DropTemp h r may told = told
  returned act.Remove h r may told = told
  returned act.Stamp h r may told = told

  came : (c : SeenCarried) (h : History) → MayHappen w h (Came c) → (has_uncertain w h ≡ true → IsTold h) → has_uncertain w (Came c ∷ h) ≡ true → IsTold (Came c ∷ h)
  came c h may so_far e = elim (decided_or (decides w c)) [
    | inl d ↦ elim (decided_or (has_tries c)) [
      | inl t ↦ tried c h d t (is_some (carried_cause w c)) refl
      | inr t ↦ untried c h d t may (so_far (before (has_uncertain w h) (decides w c) (list_any is_uncertain c.tries) (none_uncertain c.tries t) e))
    ]
    | inr d ↦ other_job c h d (so_far (elsewhere (has_uncertain w h) (decides w c) (list_any is_uncertain c.tries) d e))
  ]
    where
      before : (x d u : Bool) → u ≡ false → (x || (d && u)) ≡ true → x ≡ true
      before true d u f g = refl
      before false true u f g = no (sym f ∙ g)
      before false false u f g = no g

      elsewhere : (x d u : Bool) → d ≡ false → (x || (d && u)) ≡ true → x ≡ true
      elsewhere true d u f g = refl
      elsewhere false true u f g = no (sym f)
      elsewhere false false u f g = no g

  pub uncertain_is_told : (h : History) → IsHistory w h → has_uncertain w h ≡ true → IsTold h
  uncertain_is_told [] is e = no e
  uncertain_is_told (Gave a ∷ h) is e = gave a h is.0 (uncertain_is_told h is.1 e)
  uncertain_is_told (Came c ∷ h) is e = came c h is.0 (λ f. uncertain_is_told h is.1 f) e
  uncertain_is_told (Returned a r ∷ h) is e = returned a h r is.0 (uncertain_is_told h is.1 e)
  uncertain_is_told (Cancelled reason ∷ h) is e = uncertain_is_told h is.1 e
  uncertain_is_told (Taken o n ∷ h) is e = uncertain_is_told h is.1 e
