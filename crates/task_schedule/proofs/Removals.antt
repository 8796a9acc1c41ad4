-- The source of a move goes only once what the task is for has happened.
use Rattle.std.proofs.Common.{◌≡◌, ◌≢◌, Bool, true, false, ◌∷◌, refl, sym, subst}
use Rattle.std.specs.Prelude.{if◌then◌else◌}
use Rattle.s3_model.specs.declared.tasks.Kind.{Kind}
use Rattle.s3_model.specs.declared.tasks.Kind.TheVariants as kind
use Rattle.task_acts.specs.declared.acts.Act.{Act}
use Rattle.task_acts.specs.declared.acts.Stage.{Stage}
use Rattle.task_acts.specs.declared.work.Work.{Work}
use Rattle.task_acts.specs.Ends.{removal}
use Rattle.task_acts.specs.Failures.{is_stopped}
use Rattle.task_acts.specs.Histories.{Gave, History, is_act}
use Rattle.task_acts.specs.Kept.{IsHistory}
use Rattle.task_acts.specs.Rule.{is_decided_by}
use Rattle.task_acts.specs.Stages.{given_stage, has_done, stage}
use Rattle.task_progress.proofs.Begun.{has_begun, out_has_begun}
use Rattle.task_progress.proofs.Endings.{chosen, no}
use Rattle.task_progress.proofs.Progress.{IsCounted}
use Rattle.task_progress.proofs.Tags.{given_not_done}
use Rattle.task_schedule.proofs.Deciders.{Follows, IsNoAbort, decider, decider_of, follows_done, itself}
use Rattle.task_schedule.proofs.Shown.{happened_by}
use Rattle.task_schedule.proofs.Standing.{earlier, given_is_out}
use Rattle.task_schedule.specs.Outcomes.{SourcesGoOnceDecided}

removal_follows : (k : Kind) → k ≢ kind.RemoveObject → k ≢ kind.RemoveFile → Follows k (removal k) × IsCounted (removal k) × IsNoAbort (removal k)
removal_follows kind.Upload a b = (tt, tt, tt)
removal_follows kind.Download a b = (refl, tt, tt)
removal_follows kind.Copy a b = (refl, tt, tt)
removal_follows kind.RemoveObject a b = absurd (a refl)
removal_follows kind.RemoveFile a b = absurd (b refl)

module _ (w : Work) (h : History) where
  -- what is done as an act is given was done before
  done_before : (given a : Act) → has_done (stage w (Gave given ∷ h) a) ≡ true → has_done (stage w h a) ≡ true
  done_before given a e = by (is_act a given) e
    where
      by : (b : Bool) → has_done (if b then given_stage (stage w h given) else stage w h a) ≡ true → has_done (stage w h a) ≡ true
      by true f = no (given_not_done (stage w h given) f)
      by false f = f

  given_begun : (a : Act) → has_begun (stage w (Gave a ∷ h) a) ≡ true
  given_begun a = subst (λ (how : Stage). has_begun how ≡ true) (sym (chosen (is_act a a) (given_stage (stage w h a)) (stage w h a) (itself w a)))
      (out_has_begun (given_stage (stage w h a)) (given_is_out (stage w h a)))

  by_kind : (k : Kind) → has_done (stage w h (decider_of w k)) ≡ true → is_decided_by w (stage w h) (is_stopped w h) k ≡ true
  by_kind kind.Upload e = e
  by_kind kind.Download e = e
  by_kind kind.Copy e = e
  by_kind kind.RemoveObject e = e
  by_kind kind.RemoveFile e = e

pub sources_go_once_decided : SourcesGoOnceDecided
sources_go_once_decided w history later before is no_object no_file at =
    let given = earlier w later (Gave (removal w.of_kind) ∷ before) (subst (IsHistory w) at is) in
    let follows = removal_follows w.of_kind no_object no_file in
    let done = follows_done w (Gave (removal w.of_kind) ∷ before) given w.of_kind refl (removal w.of_kind) follows.0 follows.1 follows.2 (given_begun w before (removal w.of_kind)) in
    happened_by w before given.1 w.of_kind refl (by_kind w before w.of_kind (done_before w before (removal w.of_kind) (decider w) done))
