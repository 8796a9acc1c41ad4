use Rattle.std.proofs.Common.{sym, ◌∙◌}
use Rattle.file_table.proofs.Stores.{moved, not_gone}
use Rattle.file_table.proofs.table.move_file.Goals as goal

pub returns-in-Some-clause-moved : goal.returns-in-Some-clause-moved
returns-in-Some-clause-moved c =
    moved c.args.held.now c.make_place.new.held c.remove.new.self c.replace.new.self c.args.temp.now c.args.dest.now c.requires.apart c.in_ok-make_place.ensures.made
    c.in-Some.file c.replace.result (sym c.in-Some.is ∙ c.remove.ensures.taken) c.remove.ensures.removed c.replace.ensures.old c.replace.ensures.put

pub returns-in_default-clause-moved : goal.returns-in_default-clause-moved
returns-in_default-clause-moved c =
    absurd (not_gone c.args.held.now c.make_place.new.held c.remove.new.self c.remove.new.self c.args.temp.now c.args.dest.now c.requires.apart c.in_ok-make_place.ensures.made
    c.requires.there (sym c.in_default.is ∙ c.remove.ensures.taken))
