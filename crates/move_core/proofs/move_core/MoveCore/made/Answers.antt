use Rattle.std.proofs.Common.{◌∙◌, Option, [], ap, false, subst, sym}
use Rattle.std.specs.Prelude.{IfOk, Result, is_some}
use Rattle.std.specs.Result.{result_ok}
use Rattle.kept_jobs.specs.Tags.{SeenTags}
use Rattle.s3_model.specs.declared.list.OutOfMemory.{OutOfMemory}
use Rattle.s3_model.specs.declared.outcomes.Reason.{Reason}
use Rattle.task_core.specs.Machine.{SeenTask, Stands}
use Rattle.move_laws.proofs.MadeTasks.{counts_within, loses_one, makes_one, makes_within}
use Rattle.move_laws.proofs.SteadyLemmas.{steady_lost, steady_made}
use Rattle.move_laws.specs.Kept.{IsSound, SeenMoves}
use Rattle.move_laws.specs.Steady.{IsSteadyBut}
use Rattle.move_laws.specs.Making.{IsNew, first_cancel}
use Rattle.move_core.proofs.move_core.MoveCore.made.Goals as goal

pub begin-requires-clause-there : goal.begin-requires-clause-there
begin-requires-clause-there c =
    makes_within c.requires.s c.requires.events false c.args.self.now c.requires.run c.requires.follows

pub begin-requires-clause-few : goal.begin-requires-clause-few
begin-requires-clause-few c =
    counts_within c.requires.s c.requires.events false c.args.self.now c.requires.run c.requires.follows
    (subst (λ (x : SeenMoves). IsSound x.acts x.slots x.outcomes x.made) c.self.view_is c.self.invariant)

pub lose-requires : goal.lose-requires
lose-requires c =
    makes_within c.requires.s c.requires.events false c.args.self.now c.requires.run c.requires.follows

pub returns-in-Ok-clause-made : goal.returns-in-Ok-clause-made
returns-in-Ok-clause-made c s events new run follows =
    makes_one s events c.args.self.now follows
    (subst (λ (x : SeenMoves). IsSound x.acts x.slots x.outcomes x.made) c.self.view_is c.self.invariant) run
    c.in-Ok.state.value c.tell.new.state c.begin.new.self
    (subst (λ (r : Result SeenTask OutOfMemory). IfOk r (IsNew s events)) c.in-Ok.ensures new)
    (λ w stands. subst (λ (x : Option Reason). Stands w (first_cancel x) c.tell.new.state)
    (ap (λ (x : SeenMoves). x.reason) c.self.view_is)
    (c.tell.ensures.stands w (subst (λ (t : SeenTask). Stands w [] t) (sym c.deref_mut.ensures.value) stands)))
    c.begin.ensures

pub returns-in-Err-clause-made : goal.returns-in-Err-clause-made
returns-in-Err-clause-made c s events new run follows =
    loses_one s events c.args.self.now follows c.lose.ensures.sound run c.lose.new.self c.lose.ensures.lost

pub returns-in-Ok-clause-steady : goal.returns-in-Ok-clause-steady
returns-in-Ok-clause-steady c =
    let m = c.args.self.now in
    subst (λ (r : Result SeenTask OutOfMemory). IsSteadyBut (result_ok r) m c.begin.new.self) (sym c.in-Ok.ensures)
    (steady_made m c.begin.new.self
    (makes_within c.requires.s c.requires.events false m c.requires.run c.requires.follows) c.in-Ok.state.value
    c.tell.new.state
    (ap (λ (x : Option SeenTags). is_some x)
    (c.tell.ensures.tags ∙ ap (λ (x : SeenTask). x.tags) c.deref_mut.ensures.value)) c.begin.ensures)

pub returns-in-Err-clause-steady : goal.returns-in-Err-clause-steady
returns-in-Err-clause-steady c =
    steady_lost c.args.self.now c.lose.new.self
    (makes_within c.requires.s c.requires.events false c.args.self.now c.requires.run c.requires.follows)
    (result_ok c.args.state) c.lose.ensures.lost
