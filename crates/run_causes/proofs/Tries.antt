-- How many attempts were made of a job that is not through: fewer than the most.
use Rattle.std.proofs.Common.{◌≡◌, ◌∙◌, ◌<◌, ◌≤◌, ℕ, Bool, true, false, List, [], ◌∷◌, refl, sym, subst, ap, arith, length}
use Rattle.std.proofs.lemmas.Bool.{and_parts, ltb-true}
use Rattle.std.specs.Prelude.{if◌then◌else◌, is_some, nat_lt}
use Rattle.jobs.specs.Endings.{IsEnded, SeenCarried}
use Rattle.jobs.specs.declared.ending.Ending.{Ending}
use Rattle.jobs.specs.declared.ending.Ending.TheVariants as ending
use Rattle.s3_model.specs.Classes.{is_tried_again}
use Rattle.s3_model.specs.declared.answers.Class.TheVariants as class
use Rattle.s3_model.specs.declared.tries.Mark.{Mark}
use Rattle.task_acts.specs.declared.acts.Act.{Act}
use Rattle.task_acts.specs.declared.acts.Stage.{Stage}
use Rattle.task_acts.specs.declared.acts.Stage.TheVariants as at
use Rattle.task_acts.specs.declared.work.Work.{Work}
use Rattle.task_acts.specs.Failures.{carried_cause, is_cut_short, is_fine, is_stopped, is_unfinished}
use Rattle.task_acts.specs.Histories.{Came, Cancelled, Gave, History, Returned, Taken, is_act, sent}
use Rattle.task_acts.specs.Kept.{IsHistory, tries_before}
use Rattle.task_acts.specs.Rule.{is_named}
use Rattle.task_acts.specs.Stages.{carried_stage, given_stage, has_ended, may_be_given, stage}
use Rattle.task_progress.proofs.Begun.{same_act}
use Rattle.task_progress.proofs.Endings.{no}

-- a job that was cut short had attempts left
few_of : (attempts : ℕ) (c : SeenCarried) (of : Ending) → 1 ≤ attempts → IsEnded of c.job.id.op c.job.part c.job.cell c.tries → is_unfinished attempts (length c.tries) of ≡ true → length c.tries < attempts
few_of attempts c (ending.Cancelled reason) some ended e = by (ap (λ (ms : List Mark). length ms) ended.0)
  where
    by : length c.tries ≡ 0 → length c.tries < attempts
    by none = omega arith
few_of attempts c (ending.Refused status code message) some ended e =
    ltb-true (length c.tries) attempts (and_parts (nat_lt (length c.tries) attempts) (is_tried_again (class.Refusal code message)) e).0
few_of attempts c (ending.Uncertain reason) some ended e =
    ltb-true (length c.tries) attempts (and_parts (nat_lt (length c.tries) attempts) (is_tried_again (class.Uncertain reason)) e).0
few_of attempts c (ending.Gained said) some ended e = no e
few_of attempts c ending.Memory some ended e = no e

not_given : (how : Stage) → may_be_given how ≡ true → has_ended how ≡ false
not_given at.Waiting e = refl
not_given at.Kept e = refl
not_given how e = no e

kept_cut : (cut stopped cause : Bool) → has_ended (if cut then (if stopped then at.Failed else at.Kept) else if cause then at.Failed else at.Fine) ≡ false → cut ≡ true
kept_cut true stopped cause e = refl
kept_cut false stopped true e = no (sym e)
kept_cut false stopped false e = no (sym e)

file_ended : (fine : Bool) → has_ended (if fine then at.Fine else at.Failed) ≡ true
file_ended true = refl
file_ended false = refl

module _ (w : Work) (some : 1 ≤ w.attempts) (a : Act) where
  gave_few : (given : Act) (h : History) (b : Bool) → is_act a given ≡ b → may_be_given (stage w h given) ≡ true
      → has_ended (if b then given_stage (stage w h given) else stage w h a) ≡ false → has_ended (stage w h a) ≡ false
  gave_few given h true is may e = subst (λ (x : Act). has_ended (stage w h x) ≡ false) (sym (same_act a given is)) (not_given (stage w h given) may)
  gave_few given h false is may e = e

  came_few : (c : SeenCarried) (h : History) (b : Bool) → IsEnded c.ending c.job.id.op c.job.part c.job.cell c.tries → (has_ended (stage w h a) ≡ false → tries_before h a < w.attempts)
      → has_ended (if b then carried_stage w (is_stopped w h) c else stage w h a) ≡ false → (if b then length c.tries else tries_before h a) < w.attempts
  came_few c h true ended so_far e =
      let cut = kept_cut (is_cut_short w c) (is_stopped w h) (is_some (carried_cause w c)) e in
      few_of w.attempts c c.ending some ended (and_parts (is_some c.job.cell) (is_unfinished w.attempts (length c.tries) c.ending) cut).1
  came_few c h false ended so_far e = so_far e

  returned_few : (fine : Bool) (h : History) (b : Bool) → has_ended (if b then (if fine then at.Fine else at.Failed) else stage w h a) ≡ false → has_ended (stage w h a) ≡ false
  returned_few fine h true e = no (sym e ∙ file_ended fine)
  returned_few fine h false e = e

  pub few_before : (h : History) → IsHistory w h → has_ended (stage w h a) ≡ false → tries_before h a < w.attempts
  few_before [] holds e = some
  few_before (Gave given ∷ h) holds e =
      few_before h holds.1 (gave_few given h (is_act a given) refl (and_parts (may_be_given (stage w h given)) (is_named w (stage w h) (is_stopped w h) given) holds.0).0 e)
  few_before (Came c ∷ h) holds e = came_few c h (is_act a (sent c)) holds.0.3 (few_before h holds.1) e
  few_before (Returned called r ∷ h) holds e = few_before h holds.1 (returned_few (is_fine r) h (is_act a called) e)
  few_before (Cancelled reason ∷ h) holds e = few_before h holds.1 e
  few_before (Taken o k ∷ h) holds e = few_before h holds.1 e
