use Rattle.std.proofs.Common.{◌∙◌, ◌∷◌, Option, None, refl, sym, subst, arith}
use Rattle.manager_moves.specs.Runs.{Sent}
use Rattle.step_jobs.specs.Shares.{SeenSteps}
use Rattle.step_jobs.specs.declared.step_jobs.Given.{Given}
use Rattle.manager_core.proofs.CellLemmas.{set_cell}
use Rattle.manager_core.proofs.FirstJobs.{IsGivenBy, fits_place, formed_out, formed_runs, in_slots, in_steps}
use Rattle.manager_core.proofs.FirstJobs.{still_has_tags}
use Rattle.manager_core.proofs.Places.{place_is}
use Rattle.manager_core.specs.Cells.{CellStays}
use Rattle.manager_core.specs.Steps.{CanForm}
use Rattle.manager_core.proofs.giving.first_job.Goals as goal

pub upload-upload-requires : goal.upload-upload-requires
upload-upload-requires c =
    let r = c.requires in
    in_slots r.start r.s r.events c.args.task c.args.op c.args.number r.lane c.args.part r.m _ _ r.first

pub tags_for-etags-requires : goal.tags_for-etags-requires
tags_for-etags-requires c joins =
    let r = c.requires in
    still_has_tags r.start r.s r.events c.args.task c.args.op c.args.number r.lane c.args.part r.m _ _ r.first joins

pub index_mut-requires : goal.index_mut-requires
index_mut-requires c =
    let r = c.requires in
    let within = in_steps r.start r.s r.events c.args.task c.args.op c.args.number r.lane c.args.part r.m _ _ r.first in
    omega (arith, within)

pub form-requires : goal.form-requires
form-requires c =
    let r = c.requires in
    let steps = c.args.steps.now.items in
    let within = in_steps r.start r.s r.events c.args.task c.args.op c.args.number r.lane c.args.part r.m _ _ r.first in
    let was = place_is c.args.task steps None within c.index_mut.result.now c.index_mut.ensures.value in
    let given : Given = record {
      id = c.id_of-id.result;
      part = c.args.part;
      upload = c.upload-upload.result;
      etags = c.tags_for-etags.result;
    } in
    let by : IsGivenBy c.args.task c.args.op c.args.number c.args.part c.args.moves.now given = record {
      id = c.id_of-id.ensures;
      part_is = refl;
      upload = c.upload-upload.ensures.follows;
      tags = c.tags_for-etags.ensures.tags;
    } in
    subst (λ (x : Option SeenSteps). CanForm x given) (sym was)
    (fits_place r.start r.s r.events c.args.task c.args.op c.args.number r.lane c.args.part r.m _ _ r.first given by)

pub returns-clause-running : goal.returns-clause-running
returns-clause-running c start s events lane m first =
    let steps = c.args.steps.now.items in
    let within = in_steps start s events c.args.task c.args.op c.args.number lane c.args.part m _ _ first in
    let was = place_is c.args.task steps None within c.index_mut.result.now c.index_mut.ensures.value in
    let given : Given = record {
      id = c.id_of-id.result;
      part = c.args.part;
      upload = c.upload-upload.result;
      etags = c.tags_for-etags.result;
    } in
    formed_runs start s events c.args.task c.args.op c.args.number lane c.args.part m _ _ first given c.id_of-id.ensures
    c.tags_for-etags.new.moves
    (c.tags_for-etags.ensures.follows s (Sent c.args.task c.args.op c.args.number lane ∷ events))
    c.tags_for-etags.ensures.parts c.tags_for-etags.ensures.others c.form.new.self
    (λ j e. c.form.ensures.taken j (was ∙ e))

pub returns-clause-job : goal.returns-clause-job
returns-clause-job c start s events lane m first =
    let steps = c.args.steps.now.items in
    let within = in_steps start s events c.args.task c.args.op c.args.number lane c.args.part m _ _ first in
    let was = place_is c.args.task steps None within c.index_mut.result.now c.index_mut.ensures.value in
    let given : Given = record {
      id = c.id_of-id.result;
      part = c.args.part;
      upload = c.upload-upload.result;
      etags = c.tags_for-etags.result;
    } in
    let by : IsGivenBy c.args.task c.args.op c.args.number c.args.part c.args.moves.now given = record {
      id = c.id_of-id.ensures;
      part_is = refl;
      upload = c.upload-upload.ensures.follows;
      tags = c.tags_for-etags.ensures.tags;
    } in
    formed_out start s events c.args.task c.args.op c.args.number lane c.args.part m _ _ first given by c.form.result
    (λ j e. c.form.ensures.formed j (was ∙ e))

pub returns-clause-cells : goal.returns-clause-cells
returns-clause-cells c =
    let r = c.requires in
    let steps = c.args.steps.now.items in
    let within = in_steps r.start r.s r.events c.args.task c.args.op c.args.number r.lane c.args.part r.m _ _ r.first in
    let was = place_is c.args.task steps None within c.index_mut.result.now c.index_mut.ensures.value in
    λ n. set_cell steps c.args.task c.form.new.self n
    (subst (λ (x : Option SeenSteps). CellStays x c.form.new.self) was c.form.ensures.cell)
