use Rattle.std.proofs.Common.{arith, refl}
use Rattle.s3_outside.specs.declared.files.Shape.TheVariants as shape
use Rattle.tree_walk.proofs.WalkLemmas.{few_first, keeps_then, no_folder, no_look, one_look, says_nothing}
use Rattle.tree_walk.proofs.walks.find_all.Goals as goal

pub returns-in-Err-clause-alone : goal.returns-in-Err-clause-alone
returns-in-Err-clause-alone g c = one_look _ _ c.bare.ensures _ _ _ _ c.shape_of.ensures.asked

pub returns-in-Err-clause-refused : goal.returns-in-Err-clause-refused
returns-in-Err-clause-refused g c = says_nothing _

pub returns-in-Ok-clause-alone : goal.returns-in-Ok-clause-alone
returns-in-Ok-clause-alone g c = one_look _ _ c.bare.ensures _ _ _ _ c.shape_of.ensures.asked

pub returns-in-Ok-Folder-clause-alone : goal.returns-in-Ok-Folder-clause-alone
returns-in-Ok-Folder-clause-alone g c = no_look _ _ shape.Folder c.bare.ensures refl _ _ _ _ _ _ c.shape_of.ensures.kept
    c.find_below.ensures.kept (rw c.in-Ok-Folder.field-0-is at c.in-Ok-Folder.ensures.shape)

pub returns-in-Ok-Folder-clause-kept : goal.returns-in-Ok-Folder-clause-kept
returns-in-Ok-Folder-clause-kept g c = keeps_then _ _ _ _ _ _ c.shape_of.ensures.later c.find_below.ensures.later c.shape_of.ensures.kept
    c.find_below.ensures.kept

pub returns-in-Ok-clause-found : goal.returns-in-Ok-clause-found
returns-in-Ok-clause-found g c = grind (arith, no_folder)

pub returns-in-Err-clause-found : goal.returns-in-Err-clause-found
returns-in-Err-clause-found g c = says_nothing _

pub returns-in-Err-clause-kept : goal.returns-in-Err-clause-kept
returns-in-Err-clause-kept g c = c.in-Err.ensures.kept

pub returns-in-Ok-clause-few : goal.returns-in-Ok-clause-few
returns-in-Ok-clause-few g c = few_first c.make.result c.make.ensures.files

pub returns-in-Ok-clause-refused : goal.returns-in-Ok-clause-refused
returns-in-Ok-clause-refused g c = says_nothing _

pub returns-in-Ok-clause-kept : goal.returns-in-Ok-clause-kept
returns-in-Ok-clause-kept g c = c.in-Ok.ensures.kept
