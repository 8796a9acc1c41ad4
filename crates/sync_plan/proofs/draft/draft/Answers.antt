use Rattle.std.proofs.Common.{◌∙◌, option_copied, refl}
use Rattle.sync_plan.specs.Errands.{names_of}
use Rattle.sync_plan.specs.Plans.{planned, skipped}
use Rattle.sync_plan.proofs.DraftLemmas.{all_done, nothing_planned, nothing_skipped, ours_ascend, tasks_left, theirs_ascend, warnings_left}
use Rattle.sync_plan.proofs.draft.draft.Goals as goal

pub loop-turn-preserved : goal.loop-turn-preserved
loop-turn-preserved c =
    let errand = c.args.route.now.errand.now in let to = c.args.route.now.to.now in let many = c.args.route.now.many in
    let turn = c.in-Some.turn in
    record {
      tasks = tasks_left errand to many turn.path.now (option_copied turn.ours) (option_copied turn.theirs) c.loop-turn.ours.now c.loop-turn.theirs.now turn.source.now turn.dest.now c.in-Some.ensures.turn
          c.loop-turn.plan.tasks.items c.add.new.plan.tasks.items c.loop-turn.invariant.ours c.loop-turn.invariant.theirs c.in_ok-add.ensures.tasks ∙ c.loop-turn.invariant.tasks;
      warnings = warnings_left errand to many turn.path.now (option_copied turn.ours) (option_copied turn.theirs) c.loop-turn.ours.now c.loop-turn.theirs.now turn.source.now turn.dest.now c.in-Some.ensures.turn
          c.loop-turn.plan.warnings.items c.add.new.plan.warnings.items c.in_ok-add.ensures.warnings ∙ c.loop-turn.invariant.warnings;
      ours = ours_ascend turn.path.now (option_copied turn.ours) (option_copied turn.theirs) (names_of errand.from many c.loop-turn.ours.now) (names_of to many c.loop-turn.theirs.now) (names_of errand.from many turn.source.now) (names_of to many turn.dest.now)
          c.in-Some.ensures.turn c.loop-turn.invariant.ours;
      theirs = theirs_ascend turn.path.now (option_copied turn.ours) (option_copied turn.theirs) (names_of errand.from many c.loop-turn.ours.now) (names_of to many c.loop-turn.theirs.now) (names_of errand.from many turn.source.now) (names_of to many turn.dest.now)
          c.in-Some.ensures.turn c.loop-turn.invariant.theirs;
    }

pub returns-clause-tasks : goal.returns-clause-tasks
returns-clause-tasks c =
    let route = c.args.route.now in
    all_done c.loop-turn.plan.tasks.items (planned route.errand.now route.to.now route.many c.loop-turn.ours.now c.loop-turn.theirs.now) (planned route.errand.now route.to.now route.many c.args.source.now c.args.dest.now) c.loop-turn.invariant.tasks
    (nothing_planned route.errand.now route.to.now route.many c.loop-turn.ours.now c.loop-turn.theirs.now (c.in_default.ensures.source_end refl) (c.in_default.ensures.dest_end refl))

pub returns-clause-warnings : goal.returns-clause-warnings
returns-clause-warnings c =
    let route = c.args.route.now in
    all_done c.loop-turn.plan.warnings.items (skipped route.errand.now route.to.now route.many c.loop-turn.ours.now) (skipped route.errand.now route.to.now route.many c.args.source.now) c.loop-turn.invariant.warnings
    (nothing_skipped route.errand.now route.to.now route.many c.loop-turn.ours.now (c.in_default.ensures.source_end refl))
