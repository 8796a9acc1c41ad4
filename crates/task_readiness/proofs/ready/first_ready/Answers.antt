use Rattle.std.proofs.Common.{◌∙◌, ap, Option}
use Rattle.std.specs.List.{find}
use Rattle.std.specs.Option.{option_or}
use Rattle.task_acts.specs.declared.acts.Act.{Act}
use Rattle.task_acts.specs.Rule.{is_ready, single_sends}
use Rattle.task_stages.specs.Stages.{stage_by}
use Rattle.task_readiness.specs.Readiness.{single_calls}
use Rattle.task_readiness.proofs.Whole.{in_order, nested, piece_act, place_act}
use Rattle.task_readiness.proofs.ready.first_ready.Goals as goal

pub returns : goal.returns
returns c =
    let s = c.args.stages.now in
    let stopped = c.args.stopped in
    let long = c.work-work.ensures.pieces in
    let calls = find (is_ready s.work (stage_by s) stopped) single_calls in
    let jobs = find (is_ready s.work (stage_by s) stopped) single_sends in
    c.or-4.ensures
    ∙ ap (λ (o : Option Act). option_or o c.first_read.result) (c.or-3.ensures
    ∙ ap (λ (o : Option Act). option_or o c.first_send.result) (c.or-2.ensures
    ∙ ap (λ (o : Option Act). option_or o c.first_job.result) c.or.ensures))
    ∙ nested c.first_call.result c.first_place.result c.first_job.result c.first_send.result c.first_read.result
    ∙ ap (λ (o : Option Act). option_or o (option_or c.first_place.result (option_or c.first_job.result (option_or c.first_send.result c.first_read.result)))) c.first_call.ensures
    ∙ ap (λ (o : Option Act). option_or calls (option_or o (option_or c.first_job.result (option_or c.first_send.result c.first_read.result)))) c.first_place.ensures
    ∙ ap (λ (o : Option Act). option_or calls (option_or (place_act s stopped long) (option_or o (option_or c.first_send.result c.first_read.result)))) c.first_job.ensures
    ∙ ap (λ (o : Option Act). option_or calls (option_or (place_act s stopped long) (option_or jobs (option_or o c.first_read.result)))) c.first_send.ensures
    ∙ ap (λ (o : Option Act). option_or calls (option_or (place_act s stopped long) (option_or jobs (option_or (piece_act s stopped long) o)))) c.first_read.ensures
    ∙ in_order s stopped long
