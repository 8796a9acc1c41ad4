use Rattle.std.proofs.Common.{◌≡◌, ◌∙◌, ◌||◌, ◌&&◌, ◌+◌, ◌≤◌, ℕ, Bool, true, not, List, Option, None, IfSome, is_some, length, refl, sym, ap, subst, if◌then◌else◌}
use Rattle.std.specs.Option.{option_or}
use Rattle.std.proofs.lemmas.Bool.{and_parts}
use Rattle.jobs.specs.Jobs.{SeenJob}
use Rattle.jobs.specs.declared.ending.Ending.{Ending}
use Rattle.kept_jobs.specs.Slots.{HasSlot, job_at}
use Rattle.kept_jobs.specs.Tags.{HasPart, SeenTags}
use Rattle.s3_model.specs.declared.outcomes.Cause.{Cause}
use Rattle.s3_model.specs.declared.outcomes.JobId.{JobId}
use Rattle.s3_model.specs.declared.requests.Op.TheVariants as op
use Rattle.task_acts.specs.declared.acts.Act.TheVariants as act
use Rattle.task_acts.specs.declared.acts.Stage.{Stage}
use Rattle.task_acts.specs.declared.work.Work.{Work}
use Rattle.task_acts.specs.Failures.{carried_cause, ended_cause, is_cut_short, is_memory}
use Rattle.task_acts.specs.Histories.{is_act, sent}
use Rattle.task_acts.specs.Kept.{created_in, etag_in}
use Rattle.task_acts.specs.Work.{first_number}
use Rattle.task_causes.specs.Pieces.{HasNumber}
use Rattle.task_ends.specs.Causes.{failure_of, is_stopped_by}
use Rattle.task_readiness.specs.Readiness.{has_parts}
use Rattle.task_stages.specs.Stages.{HasAct, stage_by}
use Rattle.task_core.specs.Machine.{SeenTask}
use Rattle.task_core.specs.Shown.{kept_if}
use Rattle.task_core.specs.Steps.{IsCame, is_part, tagged}
use Rattle.task_core.proofs.Acts.{came_at, few, has_number, has_part, has_slot, over, sound_after, tags_stay}
use Rattle.task_core.proofs.state.TaskState.mark_came.Goals as goal

pub report_of-report-requires : goal.report_of-report-requires
report_of-report-requires c =
    let C = c.args.carried in
    let s = c.self.inside.stages in
    let has = subst (λ (t : SeenTask). HasAct t.stages (sent C)) (sym c.self.view_is) c.requires.act in
    subst (λ (v : Work). HasNumber v C.job.id.number) (sym c.work-work.ensures.work) (has_number s C.job.id.op C.job.id.number c.self.invariant.numbers has)

pub gains_of-cause-requires : goal.gains_of-cause-requires
gains_of-cause-requires c =
    let C = c.args.carried in
    let s = c.self.inside.stages in
    let has = subst (λ (t : SeenTask). HasAct t.stages (sent C)) (sym c.self.view_is) c.requires.act in
    subst (λ (i : JobId). HasNumber c.work-work.result i.number) (sym c.report_of-report.ensures.id)
    (subst (λ (v : Work). HasNumber v C.job.id.number) (sym c.work-work.ensures.work) (has_number s C.job.id.op C.job.id.number c.self.invariant.numbers has))

pub tag-requires : goal.tag-requires
tag-requires c =
    let C = c.args.carried in
    let s = c.self.inside.stages in
    let tags = c.self.inside.tags in
    let has = subst (λ (t : SeenTask). HasAct t.stages (sent C)) (sym c.self.view_is) c.requires.act in
    let id = c.report_of-report.ensures.id in
    let here = subst (λ (i : JobId). IfSome tags (λ x. is_part s.work i.op ≡ true → HasPart x i.number)) (sym id) (has_part s C.job.id.op C.job.id.number tags c.self.invariant.tags_are has) in
    subst (λ (b : Bool). IfSome tags (λ x. b ≡ true → HasPart x c.report_of-report.result.id.number)) (sym c.is_piece_op-is_part.ensures) here

pub keep-requires-clause-slot : goal.keep-requires-clause-slot
keep-requires-clause-slot c =
    let C = c.args.carried in
    let s = c.self.inside.stages in
    let has = subst (λ (t : SeenTask). HasAct t.stages (sent C)) (sym c.self.view_is) c.requires.act in
    subst (λ (j : SeenJob). HasSlot c.self.inside.kept.work j.id.op j.id.number) (sym c.take_apart-job.ensures.job)
    (subst (λ (v : Work). HasSlot v C.job.id.op C.job.id.number) (sym c.self.invariant.kept_work) (has_slot s C.job.id.op C.job.id.number c.work-work.ensures.pieces has))

pub keep-requires-clause-few : goal.keep-requires-clause-few
keep-requires-clause-few c kept =
    let C = c.args.carried in
    let W = c.work-work.result in
    let cut = (and_parts (is_cut_short W C) (not c.is_stopped-stopped.result) (sym c.report_of-report.ensures.is_kept ∙ kept)).0 in
    let most = subst (λ (v : Work). v.attempts ≤ 10) (sym c.work-work.ensures.work) c.self.invariant.attempts in
    subst (λ (j : SeenJob). j.had + c.report_of-report.result.made ≤ 9) (sym c.take_apart-job.ensures.job)
    (few W C C.job.had c.report_of-report.result.made most c.requires.first c.report_of-report.ensures.made c.take_apart-job.ensures.ended cut)

pub invariant_of-self : goal.invariant_of-self
invariant_of-self c =
    let t = c.self.inside in
    let s = c.self.inside.stages in
    sound_after s c.set.new.self t.kept c.keep.new.kept t.tags c.tag.new.tags c.self.invariant c.set.ensures.work c.set.ensures.pieces c.keep.ensures.work
    (subst (λ (x : Option SeenTags). IfSome x (λ y. (has_parts s.work.of_kind ≡ true) × (y.first ≡ first_number s.work) × (length y.tags ≡ length s.pieces))) (sym c.tag.ensures)
    (tags_stay c.is_piece_op-is_part.result c.report_of-report.result.id.number c.gains_of-cause.result.tag t.tags (first_number s.work) (length s.pieces) (has_parts s.work.of_kind) c.self.invariant.tags_are))

pub returns-clause-came : goal.returns-clause-came
returns-clause-came c =
    let C = c.args.carried in
    let t = c.self.inside in
    let s = t.stages in
    let k = t.causes in
    let W = c.work-work.result in
    let B = c.is_stopped-stopped.result in
    let r = c.report_of-report.result in
    let e = c.report_of-report.ensures in
    let job = c.take_apart-job.ensures.job in
    let ending = c.take_apart-job.ensures.ending in
    let g = c.gains_of-cause.result in
    let has = subst (λ (x : SeenTask). HasAct x.stages (sent C)) (sym c.self.view_is) c.requires.act in
    let why : g.cause ≡ carried_cause W C = c.gains_of-cause.ensures.cause ∙ ap (λ (i : JobId). ended_cause W i.op i.number c.take_apart-job.result.ending) e.id
    ∙ ap (λ (x : Ending). ended_cause W C.job.id.op C.job.id.number x) ending in
    over (IsCame C) _ _ _ c.self.view_is (came_at W s.work B (is_stopped_by k) C _ _ c.work-work.ensures.work c.is_stopped-stopped.ensures (record {
      marked = record {
        work = c.set.ensures.work;
        stages = λ other. c.set.ensures.stages other
            ∙ ap (λ (i : JobId). if is_act other (act.Send i.op i.number) then r.stage else stage_by s other) e.id
            ∙ ap (λ (how : Stage). if is_act other (sent C) then how else stage_by s other) e.stage;
      };
      failing = c.came.ensures.failing ∙ ap (λ (o : Option Cause). k.failing || is_some (failure_of r.is_cut o)) why
          ∙ ap (λ (b : Bool). k.failing || is_some (failure_of b (carried_cause W C))) e.is_cut;
      first = c.came.ensures.first ∙ ap (λ (o : Option Cause). if k.failing then k.first else failure_of r.is_cut o) why
          ∙ ap (λ (b : Bool). if k.failing then k.first else failure_of b (carried_cause W C)) e.is_cut;
      last = c.came.ensures.last ∙ ap (λ (o : Option Cause). if r.is_last then o else k.last) why
          ∙ ap (λ (b : Bool). if b then carried_cause W C else k.last) e.is_last;
      reason = c.came.ensures.reason;
      memory = c.came.ensures.memory ∙ ap (λ (o : Option Cause). k.memory || is_memory (failure_of r.is_cut o)) why
          ∙ ap (λ (b : Bool). k.memory || is_memory (failure_of b (carried_cause W C))) e.is_cut;
      uncertain = c.came.ensures.uncertain ∙ ap (λ (b : Bool). k.uncertain || b) e.is_open;
      outcome = refl;
      kept = λ o n. c.keep.ensures.jobs o n
          ∙ ap (λ (j : SeenJob). if is_act (act.Send o n) (act.Send j.id.op j.id.number) then kept_if r.is_kept j r.made else job_at t.kept o n) job
          ∙ ap (λ (b : Bool). if is_act (act.Send o n) (sent C) then kept_if b C.job r.made else job_at t.kept o n) e.is_kept
          ∙ ap (λ (m : ℕ). if is_act (act.Send o n) (sent C) then kept_if (is_cut_short W C && not B) C.job m else job_at t.kept o n) e.made;
      part = subst (λ (v : Work). IfSome t.tags (λ x. is_part v C.job.id.op ≡ true → HasPart x C.job.id.number)) (sym c.work-work.ensures.work)
          (has_part s C.job.id.op C.job.id.number t.tags c.self.invariant.tags_are has);
      tags = c.tag.ensures
          ∙ ap (λ (b : Bool). tagged b r.id.number g.tag t.tags) c.is_piece_op-is_part.ensures
          ∙ ap (λ (i : JobId). tagged (is_part s.work i.op) i.number g.tag t.tags) e.id
          ∙ ap (λ (o : Option (List ℕ)). tagged (is_part s.work C.job.id.op) C.job.id.number o t.tags) (c.gains_of-cause.ensures.tag ∙ ap etag_in ending)
          ∙ ap (λ (v : Work). tagged (is_part v C.job.id.op) C.job.id.number (etag_in C.ending) t.tags) (sym c.work-work.ensures.work);
      upload = c.named-self-inside.ensures
          ∙ ap (λ (i : JobId). option_or (if is_act (act.Send op.Create 0) (act.Send i.op i.number) then g.upload else None) c.take.result) e.id
          ∙ ap (λ (o : Option (List ℕ)). option_or (if is_act (act.Send op.Create 0) (sent C) then o else None) c.take.result) (c.gains_of-cause.ensures.upload ∙ ap created_in ending)
          ∙ ap (λ (o : Option (List ℕ)). option_or (if is_act (act.Send op.Create 0) (sent C) then created_in C.ending else None) o) c.take.ensures.value;
    }))
