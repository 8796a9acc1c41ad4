use Rattle.std.proofs.Common.{sym, ◌∙◌}
use Rattle.file_table.proofs.Fronts.{path_not}
use Rattle.file_table.proofs.names.path_below.Goals as goal

pub returns-in-None-clause-none : goal.returns-in-None-clause-none
unfolding lib.Utf8.encode
returns-in-None-clause-none c =
    path_not c.args.folder.now c.args.path.now c.in-Some.rest.now c.in-Some.ensures.cases.0 c.in-Some.ensures.cases.1.1 c.in-Some.ensures.cases.2
    (sym c.ends_in_slash.ensures ∙ c.if-ends_in_slash.false) c.in-None.ensures.cases
