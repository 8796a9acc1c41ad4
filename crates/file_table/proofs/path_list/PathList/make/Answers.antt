use Rattle.file_table.proofs.FolderLemmas.{index_none}
use Rattle.file_table.proofs.path_list.PathList.make.Goals as goal

pub invariant_of-result : goal.invariant_of-result
invariant_of-result c = index_none c.new.result.items c.make.result c.new.ensures.items c.make.ensures
