use Rattle.std.proofs.Common.{◌≡◌, Some, rules}
use Rattle.s3_model.specs.declared.places.Place.TheVariants as place
use Rattle.service_plans.specs.Local.{files_seen}
use Rattle.service_plans.proofs.SideLemmas.{source_of_files, source_of_objects}
use Rattle.service_plans.proofs.sources.find_side.Goals as goal

pub returns-in-Some-File-clause-asked : goal.returns-in-Some-File-clause-asked
returns-in-Some-File-clause-asked g c =
    let from : c.args.command.now.from ≡ Some (place.File c.in-Some-File.path) = search rules in
    source_of_files (files_seen (g.F.Files.seen c.find_source.new.files) (g.F.Files.faults c.args.files.now) (g.F.Files.faults c.find_source.new.files)) c.as_str.result.now _ _ c.args.command.now c.is_many.result c.in-Some-File.path _
    c.is_many.ensures from c.as_str.ensures c.find_source.ensures.found c.find_source.ensures.refused

pub returns-in-Some-clause-asked : goal.returns-in-Some-clause-asked
returns-in-Some-clause-asked g c = source_of_objects _ _ _ _ c.args.command.now c.in-Some.from _ _ c.in-Some.is c.find_objects.ensures.asked
