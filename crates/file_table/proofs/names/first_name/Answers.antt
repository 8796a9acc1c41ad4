use Rattle.std.proofs.Common.{sym, ◌∙◌}
use Rattle.file_table.proofs.NameLemmas.{empty_text, unnamed_empty}
use Rattle.file_table.proofs.names.first_name.Goals as goal

pub returns-then-is_empty-clause-none : goal.returns-then-is_empty-clause-none
returns-then-is_empty-clause-none c =
    unnamed_empty c.args.folder.now c.args.path.now c.in-Some.rest.now c.first_part-name.result.now c.in-Some.ensures.below c.first_part-name.ensures
    (empty_text c.first_part-name.result.now (sym c.is_empty.ensures ∙ c.if-is_empty.true))
