use Rattle.service_plans.specs.Local.{files_seen}
use Rattle.service_plans.proofs.SideLemmas.{names_of_files}
use Rattle.service_plans.proofs.dests.find_names.Goals as goal

pub returns-in-File-clause-asked : goal.returns-in-File-clause-asked
returns-in-File-clause-asked g c =
    names_of_files (files_seen (g.F.Files.seen c.find_tree.new.files) (g.F.Files.faults c.args.files.now) (g.F.Files.faults c.find_tree.new.files)) c.as_str-in-File.result.now _ _ _ c.in-File.path _ c.in-File.is c.as_str-in-File.ensures c.find_tree.ensures.found c.find_tree.ensures.refused
