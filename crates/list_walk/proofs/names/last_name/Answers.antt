use Rattle.std.proofs.Common.{◌∙◌, Some, None, ap}
use Rattle.list_walk.proofs.ItemLemmas.{last_named}
use Rattle.list_walk.proofs.names.last_name.Goals as goal

pub returns-in-Some : goal.returns-in-Some
returns-in-Some g c =
    ap Some c.name.ensures ∙ last_named g.T.Item.name_of c.args.items.now (Some c.in-Some.item.now) c.in-Some.ensures.value

pub returns-in-None : goal.returns-in-None
returns-in-None g c = last_named g.T.Item.name_of c.args.items.now None c.in-None.ensures.value
