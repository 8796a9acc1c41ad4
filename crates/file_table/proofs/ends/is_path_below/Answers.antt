use Rattle.std.proofs.Common.{sym, ◌∙◌}
use Rattle.file_table.proofs.Below.{below_not, below_at}
use Rattle.file_table.proofs.ends.is_path_below.Goals as goal

pub returns-then-not-starts_with : goal.returns-then-not-starts_with
returns-then-not-starts_with c = sym (below_not c.args.folder.now c.args.path.now (sym c.starts_with.ensures.value ∙ c.if-not-starts_with.true))

pub returns-then-folder-path : goal.returns-then-folder-path
returns-then-folder-path c = sym (below_at c.args.folder.now c.args.path.now (sym c.starts_with.ensures.value ∙ c.if-not-starts_with.false) (sym c.ends_in_slash.ensures ∙ c.if-ends_in_slash.false))
