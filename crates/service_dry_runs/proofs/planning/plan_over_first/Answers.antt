use Rattle.std.proofs.Common.{◌∙◌, ◌≤◌, ap, arith, length}
use Rattle.lane_workers.specs.LaneWorkers.{carrier_with}
use Rattle.s3_model.specs.Lists.{Reserved}
use Rattle.s3_model.specs.declared.outcomes.Event.{Event}
use Rattle.service_plans.specs.Local.{files_seen}
use Rattle.service_dry_runs.specs.Plannings.{assignment}
use Rattle.service_dry_runs.proofs.RunLemmas.{as_many, not_opened, planned_over}
use Rattle.service_dry_runs.proofs.planning.plan_over_first.Goals as goal

pub close-journal-requires-clause-room : goal.close-journal-requires-clause-room
close-journal-requires-clause-room g c κs within =
    let opened = c.in-Ok.ensures in
    let some : 1 ≤ length c.args.wires.now.items = omega (arith, c.requires.wire, c.args.wires.now.ok.0) in
    let carrier = carrier_with c.args.command.now.endpoint c.args.settings.now.keys c.args.settings.now.config.attempts in
    let workers = c.plan_at-planned.ensures.same_desk.workers ∙ opened.lanes in
    let many = as_many g.W.Wire.seen g.W.Wire.faults (assignment c.args.command.now c.args.limits.now carrier) (files_seen (g.F.Files.seen c.args.files.now) 0 0) c.args.wires.now.items c.open-opened.new.wires.items _ some workers opened.others in
    omega (arith, many, opened.room, c.args.wires.now.ok.0, c.open-opened.new.wires.ok.0)

pub returns-in-Ok-clause-planned : goal.returns-in-Ok-clause-planned
returns-in-Ok-clause-planned g c =
    let opened = c.in-Ok.ensures in
    let some : 1 ≤ length c.args.wires.now.items = omega (arith, c.requires.wire, c.args.wires.now.ok.0) in
    let carrier = carrier_with c.args.command.now.endpoint c.args.settings.now.keys c.args.settings.now.config.attempts in
    let files = files_seen (g.F.Files.seen c.plan_at-planned.new.files) (g.F.Files.faults c.args.files.now) (g.F.Files.faults c.plan_at-planned.new.files) in
    let known = planned_over g.W.Wire.seen g.W.Wire.faults (assignment c.args.command.now c.args.limits.now carrier) files c.args.wires.now.items _ _ _ _ _ _ _ _ _ c.plan_at-planned.result some opened.lanes opened.fresh opened.number opened.others
    (ap (λ (j : Reserved Event). j.items) c.close-journal.ensures.journal) c.plan_at-planned.ensures.same_desk c.plan_at-planned.ensures.planned c.close-journal.ensures.back in
    known.planning

pub returns-in-Ok-clause-can_end : goal.returns-in-Ok-clause-can_end
returns-in-Ok-clause-can_end g c =
    let opened = c.in-Ok.ensures in
    let some : 1 ≤ length c.args.wires.now.items = omega (arith, c.requires.wire, c.args.wires.now.ok.0) in
    let carrier = carrier_with c.args.command.now.endpoint c.args.settings.now.keys c.args.settings.now.config.attempts in
    let files = files_seen (g.F.Files.seen c.plan_at-planned.new.files) (g.F.Files.faults c.args.files.now) (g.F.Files.faults c.plan_at-planned.new.files) in
    let known = planned_over g.W.Wire.seen g.W.Wire.faults (assignment c.args.command.now c.args.limits.now carrier) files c.args.wires.now.items _ _ _ _ _ _ _ _ _ c.plan_at-planned.result some opened.lanes opened.fresh opened.number opened.others
    (ap (λ (j : Reserved Event). j.items) c.close-journal.ensures.journal) c.plan_at-planned.ensures.same_desk c.plan_at-planned.ensures.planned c.close-journal.ensures.back in
    known.can_end

pub returns-in-Err-clause-planned : goal.returns-in-Err-clause-planned
returns-in-Err-clause-planned g c =
    let some : 1 ≤ length c.args.wires.now.items = omega (arith, c.requires.wire, c.args.wires.now.ok.0) in
    let carrier = carrier_with c.args.command.now.endpoint c.args.settings.now.keys c.args.settings.now.config.attempts in
    let files = files_seen (g.F.Files.seen c.args.files.now) (g.F.Files.faults c.args.files.now) (g.F.Files.faults c.args.files.now) in
    let known = not_opened g.W.Wire.seen g.W.Wire.faults (assignment c.args.command.now c.args.limits.now carrier) files c.args.wires.now.items c.open-opened.new.wires.items c.make.result.items some c.requires.places c.in-Err.ensures.err c.make.ensures in
    known.planning
