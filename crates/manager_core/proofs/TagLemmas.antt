-- The entity tags of tasks stay until a Complete takes them along.
use Rattle.std.proofs.Common.{◌≡◌, ◌∙◌, ◌++◌, [], ◌∷◌, ℕ, Some, subst}
use Rattle.std.specs.Prelude.{slice_get, take}
use Rattle.manager_moves.specs.Runs.{Event, Events, Shared, made_count, share}
use Rattle.move_laws.specs.Kept.{SeenMoves}
use Rattle.move_laws.specs.Steady.{IsSteady}
use Rattle.s3_model.specs.declared.requests.Op.TheVariants as op
use Rattle.step_laws.proofs.ShareLemmas.{waited_so}
use Rattle.task_acts.specs.declared.acts.Act.{Act}
use Rattle.task_acts.specs.declared.acts.Act.TheVariants as act
use Rattle.task_acts.specs.declared.acts.Stage.TheVariants as at
use Rattle.task_acts.specs.declared.work.Work.{Work}
use Rattle.task_acts.specs.Histories.{History}
use Rattle.task_acts.specs.Stages.{stage}
use Rattle.run_steps.proofs.Growth.{share_grows}
use Rattle.manager_core.specs.Tags.{HoldTags}

waited_later : (w : Work) (later h : History) (a : Act) → stage w (later ++ h) a ≡ at.Waiting
    → stage w h a ≡ at.Waiting
waited_later w [] h a e = e
waited_later w (event ∷ later) h a e = waited_later w later h a (waited_so w (later ++ h) a event e)

module _ (s : Shared) (events : Events) (m new : SeenMoves) (steady : IsSteady m new) (hold : HoldTags s events m) where
  pub tags_same : HoldTags s events new
  tags_same n w there keeps waiting goes =
      steady.tags n goes ∙ hold n w there keeps waiting (steady.went_on n goes)

  pub tags_stay : (event : Event) → made_count (event ∷ events) ≡ made_count events → HoldTags s (event ∷ events) new
  tags_stay event same n w there keeps waiting goes =
      steady.tags n goes
      ∙ hold n w (subst (λ (count : ℕ). slice_get (take count s.works) n ≡ Some w) same there) keeps
      (waited_later w (share_grows w n events event).0 (share w n events) (act.Send op.Complete 0)
      (subst (λ (h : History). stage w h (act.Send op.Complete 0) ≡ at.Waiting) (share_grows w n events event).1
      waiting))
      (steady.went_on n goes)
