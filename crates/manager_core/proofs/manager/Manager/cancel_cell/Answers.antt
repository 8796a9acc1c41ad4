use Rattle.std.proofs.Common.{◌∙◌, ◌<◌, Option, None, get_or, length, rules, set, sym, subst, ap}
use Rattle.step_jobs.specs.Shares.{SeenSteps}
use Rattle.manager_core.proofs.HeardRuns.{SameBut, heard_runs, same_but}
use Rattle.manager_core.proofs.Places.{place_is, set_at_one, set_here}
use Rattle.manager_core.proofs.RunLemmas.{with}
use Rattle.manager_core.specs.Kept.{SeenManager}
use Rattle.manager_core.specs.Running.{IsRunning}
use Rattle.manager_core.specs.Steps.{HeardBy}
use Rattle.std.specs.Prelude.{OnOk}
use Rattle.manager_core.proofs.manager.Manager.cancel_cell.Goals as goal

pub returns-clause-running : goal.returns-clause-running
returns-clause-running c start s events running =
    let now = c.args.self.now in
    let new = c.cancel.new.self in
    let task = c.args.task in
    let is = c.self.view_is in
    let inside : task < length c.self.inside.steps.items =
    subst (λ (x : SeenManager). task < length x.steps) (sym is) c.requires in
    let same : SameBut (get_or now.steps task None) new =
    subst (λ (x : Option SeenSteps). SameBut x new)
    (place_is task c.self.inside.steps.items None inside c.index_mut.result.now c.index_mut.ensures.value
    ∙ ap (λ (x : SeenManager). get_or x.steps task None) is)
    (same_but c.cancel.result c.index_mut.result.now new c.cancel.ensures.kept c.cancel.ensures.heard) in
    subst (λ (x : SeenManager). IsRunning start s events (with x x.moves (set x.steps task new) x.journal x.due))
    (sym is)
    (heard_runs start s events now running task (set now.steps task new)
    (set_at_one task now.steps new c.requires)
    (subst (λ (x : Option SeenSteps). SameBut (get_or now.steps task None) x)
    (sym (set_here task now.steps new c.requires)) same))

pub returns-clause-heard : goal.returns-clause-heard
returns-clause-heard c =
    let new = c.cancel.new.self in
    let task = c.args.task in
    let steps = c.self.inside.steps.items in
    let is = c.self.view_is in
    let inside : task < length steps = subst (λ (x : SeenManager). task < length x.steps) (sym is) c.requires in
    subst (λ (x : Option SeenSteps). OnOk c.cancel.result (HeardBy x (get_or (set steps task new) task None)))
    (place_is task steps None inside c.index_mut.result.now c.index_mut.ensures.value
    ∙ ap (λ (x : SeenManager). get_or x.steps task None) is)
    (subst (λ (x : Option SeenSteps). OnOk c.cancel.result (HeardBy c.index_mut.result.now x))
    (sym (set_here task steps new inside)) c.cancel.ensures.heard)

pub returns-clause-others : goal.returns-clause-others
returns-clause-others c = search rules
