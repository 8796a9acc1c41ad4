use Rattle.std.proofs.Common.{◌∙◌, sym, subst, ap}
use Rattle.move_laws.proofs.Lent.{gives_tags, its_tags, slot_within}
use Rattle.move_laws.proofs.SteadyLemmas.{slot_apart}
use Rattle.move_laws.specs.Follows.{Follows}
use Rattle.move_laws.specs.Kept.{SeenMoves, state_at, with_slot}
use Rattle.move_core.proofs.move_core.MoveCore.etags.Goals as goal

pub returns-clause-tags : goal.returns-clause-tags
returns-clause-tags c s events w follows going =
    its_tags c.args.self.now _ c.args.task c.index_mut.result.now c.self.view_is c.index_mut.ensures.value c.requires s
    events w follows going c.etags.result.items c.etags.ensures.tags

pub returns-clause-follows : goal.returns-clause-follows
returns-clause-follows c s events follows =
    subst (λ (x : SeenMoves). Follows s events x)
    (sym (ap (λ (x : SeenMoves). with_slot c.args.task c.etags.new.self x) c.self.view_is))
    (gives_tags c.args.self.now _ c.args.task c.index_mut.result.now c.self.view_is c.index_mut.ensures.value c.requires
    s events follows c.etags.new.self c.etags.ensures.stands)

pub returns-clause-others : goal.returns-clause-others
returns-clause-others c n apart =
    ap (λ (x : SeenMoves). state_at (with_slot c.args.task c.etags.new.self x) n) c.self.view_is
    ∙ slot_apart c.args.self.now c.args.task n c.etags.new.self
    (slot_within c.args.self.now.slots c.args.task c.requires) apart
