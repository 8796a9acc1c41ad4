use Rattle.std.proofs.Common.{◌≡◌, ◌∙◌, ◌||◌, ◌&&◌, Bool, true, false, Option, Some, None, is_some, not, refl, sym, ap, subst, if◌then◌else◌}
use Rattle.task_stages.specs.Stages.{stage_by}
use Rattle.task_core.specs.Machine.{IsSettled, SeenTask, settled_by}
use Rattle.task_core.proofs.Acts.{over}
use Rattle.std.specs.Option.{option_or}
use Rattle.s3_model.specs.declared.outcomes.Outcome.{Outcome}
use Rattle.task_acts.specs.Rule.{is_decided}
use Rattle.task_acts.specs.Ends.{removal}
use Rattle.task_acts.specs.Stages.{has_done}
use Rattle.task_ends.specs.Causes.{how_ended_by, is_stopped_by}
use Rattle.task_core.proofs.state.TaskState.settle.Goals as goal
use Rattle.task_core.proofs.state.TaskState.settle.Goals.{then-is_some-via-then-is_some, then-is_some-via-else-is_some+then-goes_on}

none_of : {X : Type 0} (o : Option X) → is_some o ≡ false → o ≡ None
none_of None e = refl
none_of (Some x) e = cc

pub returns : goal.returns
returns c =
    let t = c.self.inside in
    let s = c.self.inside.stages in
    let stopped = is_stopped_by t.causes in
    let e = c.end-ended.ensures in
    let now = c.replace.ensures.after in
    let none = none_of t.outcome (sym c.is_some.ensures ∙ c.if-is_some.false) in
    let idle = sym c.goes_on.ensures ∙ c.if-goes_on.false in
    over (IsSettled) _ _ _ c.self.view_is (record {
      stages = refl;
      failing = e.failing;
      reason = e.reason;
      memory = e.memory;
      uncertain = e.uncertain;
      first = λ no. e.first (sym now ∙ no);
      last = λ no. e.last (sym now ∙ no);
      outcome = now ∙ e.result
          ∙ ap (λ (b : Bool). how_ended_by b c.is_decided-decided.result t.causes) (c.is_whole-whole.ensures stopped)
          ∙ ap (λ (b : Bool). how_ended_by (is_decided s.work (stage_by s) stopped && (not s.work.moves || has_done (stage_by s (removal s.work.of_kind)))) b t.causes) (c.is_decided-decided.ensures stopped)
          ∙ sym (ap (λ (b : Bool). if b then None else how_ended_by (is_decided s.work (stage_by s) stopped && (not s.work.moves || has_done (stage_by s (removal s.work.of_kind)))) (is_decided s.work (stage_by s) stopped) t.causes) idle)
          ∙ sym (ap (λ (o : Option Outcome). option_or o (settled_by (record { stages = s; causes = t.causes; outcome = t.outcome; kept = t.kept; tags = t.tags; upload = t.upload }))) none);
      kept = refl;
      tags = refl;
      upload = refl;
    })

some_stays : {X : Type 0} (o s : Option X) → is_some o ≡ true → o ≡ option_or o s
some_stays None s e = cc
some_stays (Some x) s e = refl

or_none : {X : Type 0} (o s : Option X) → s ≡ None → o ≡ option_or o s
or_none None s e = sym e
or_none (Some x) s e = refl

already : (t : SeenTask) → t.outcome ≡ option_or t.outcome (settled_by t) → IsSettled t t
already t same = record {
  stages = refl;
  failing = refl;
  reason = refl;
  memory = refl;
  uncertain = refl;
  first = λ none. refl;
  last = λ none. refl;
  outcome = same;
  kept = refl;
  tags = refl;
  upload = refl;
}

pub returns-then-is_some : goal.returns-then-is_some
returns-then-is_some c =
    let t = c.self.inside in
    let seen : SeenTask = record { stages = t.stages; causes = t.causes; outcome = t.outcome; kept = t.kept; tags = t.tags; upload = t.upload } in
    elim c.then-is_some.branch [
      | then-is_some-via-then-is_some x ↦
          subst (λ (y : SeenTask). IsSettled y y) c.self.view_is (already seen (some_stays t.outcome (settled_by seen) (sym c.is_some.ensures ∙ x.if-is_some.true)))
      | then-is_some-via-else-is_some+then-goes_on x ↦
          subst (λ (y : SeenTask). IsSettled y y) c.self.view_is
          (already seen (or_none t.outcome (settled_by seen) (ap (λ (b : Bool). if b then None else how_ended_by (is_decided t.stages.work (stage_by t.stages) (is_stopped_by t.causes)
          && (not t.stages.work.moves || has_done (stage_by t.stages (removal t.stages.work.of_kind)))) (is_decided t.stages.work (stage_by t.stages) (is_stopped_by t.causes)) t.causes) (sym x.goes_on.ensures ∙ x.if-goes_on.true))))
    ]
