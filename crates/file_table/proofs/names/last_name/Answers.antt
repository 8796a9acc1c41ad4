use Rattle.std.proofs.Common.{arith, sym, ◌∙◌}
use Rattle.std.proofs.lemmas.List.{append_cancel_left}
use Rattle.s3_model.specs.Files.{folder_path}
use Rattle.file_table.proofs.NameLemmas.{not_whole}
use Rattle.file_table.proofs.names.last_name.Goals as goal

pub returns-then-first_part-name-clause-none : goal.returns-then-first_part-name-clause-none
returns-then-first_part-name-clause-none c = λ name named e.
    not_whole c.in-Some.name.now c.first_part.result.now name c.first_part.ensures (omega (arith, c.if-first_part-name.true)) named
    (append_cancel_left (folder_path c.args.folder.now) c.in-Some.name.now name (sym c.in-Some.ensures.below ∙ e))
