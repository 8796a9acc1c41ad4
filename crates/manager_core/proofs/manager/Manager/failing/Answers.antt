use Rattle.std.proofs.Common.{◌∙◌, ◌&&◌, ◌<◌, Bool, Option, None, get_or, length, sym, subst, ap, arith}
use Rattle.std.specs.Prelude.{is_some}
use Rattle.move_laws.specs.Kept.{state_at}
use Rattle.move_laws.specs.Lending.{failing_in}
use Rattle.step_jobs.specs.Shares.{SeenSteps}
use Rattle.manager_core.proofs.Places.{place_is}
use Rattle.manager_core.proofs.ShownRuns.{failing_is, in_slots, in_steps}
use Rattle.manager_core.specs.Kept.{SeenManager}
use Rattle.manager_core.proofs.manager.Manager.failing.Goals as goal

pub index-requires : goal.index-requires
index-requires c =
    let r = c.requires in
    let within = subst (λ (x : SeenManager). c.args.task < length x.steps) (sym c.self.view_is)
    (in_steps r.start r.s r.events c.args.self.now r.running c.args.task r.work r.there) in
    omega (arith, within, c.self.inside.steps.ok.0)

pub failing-requires : goal.failing-requires
failing-requires c =
    let r = c.requires in
    subst (λ (x : SeenManager). c.args.task < length x.moves.slots) (sym c.self.view_is)
    (in_slots r.start r.s r.events c.args.self.now r.running c.args.task r.work r.there)

pub returns-then-has_jobs : goal.returns-then-has_jobs
returns-then-has_jobs c start s events w running there =
    let now = c.args.self.now in
    let task = c.args.task in
    let within = subst (λ (x : SeenManager). task < length x.steps) (sym c.self.view_is)
    (in_steps start s events now running task w there) in
    let was = place_is task c.self.inside.steps.items None within c.index.result.now c.index.ensures
    ∙ ap (λ (x : SeenManager). get_or x.steps task None) c.self.view_is in
    let has = sym (c.has_jobs.ensures ∙ ap (λ (x : Option SeenSteps). is_some x) was) ∙ c.if-has_jobs.true in
    c.failing.ensures ∙ ap (λ (x : SeenManager). failing_in (state_at x.moves task)) c.self.view_is
    ∙ sym (ap (λ (b : Bool). b && failing_in (state_at now.moves task)) has)
    ∙ failing_is start s events now running task w there

pub returns-else-has_jobs : goal.returns-else-has_jobs
returns-else-has_jobs c start s events w running there =
    let now = c.args.self.now in
    let task = c.args.task in
    let within = subst (λ (x : SeenManager). task < length x.steps) (sym c.self.view_is)
    (in_steps start s events now running task w there) in
    let was = place_is task c.self.inside.steps.items None within c.index.result.now c.index.ensures
    ∙ ap (λ (x : SeenManager). get_or x.steps task None) c.self.view_is in
    let has = sym (c.has_jobs.ensures ∙ ap (λ (x : Option SeenSteps). is_some x) was) ∙ c.if-has_jobs.false in
    c.if-has_jobs.false ∙ sym (ap (λ (b : Bool). b && failing_in (state_at now.moves task)) has)
    ∙ failing_is start s events now running task w there
