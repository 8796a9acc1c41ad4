use Rattle.std.proofs.Common.{◌∙◌, Global, map, string_bytes, sym}
use Rattle.command_errands.proofs.WordLemmas.{takes_places}
use Rattle.call_rows.proofs.errands.takes.change_of.Goals as goal

pub returns-in-Ok : goal.returns-in-Ok
returns-in-Ok c =
    takes_places (map (string_bytes {Z = Global}) c.args.words.now) c.in-Ok.command c.in-Ok.ensures.right c.in-Ok.ensures.command (sym c.is_change.ensures ∙ c.if-is_change.true)
