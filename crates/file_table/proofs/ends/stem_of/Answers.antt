use Rattle.std.proofs.Common.{Some, None, arith}
use Rattle.std.proofs.lemmas.Str.Pattern.{strip_suffix_char}
use Rattle.file_table.proofs.Between.{stem_ended, stem_open}
use Rattle.file_table.proofs.ends.stem_of.Goals as goal

pub returns-in-Some : goal.returns-in-Some
returns-in-Some c = stem_ended c.args.folder.now c.in-Some.stem.now (strip_suffix_char 47 c.args.folder.now (Some c.in-Some.stem) c.in-Some.ensures.cases (omega arith))

pub returns-in-None : goal.returns-in-None
returns-in-None c = stem_open c.args.folder.now (strip_suffix_char 47 c.args.folder.now None c.in-None.ensures.cases (omega arith))
