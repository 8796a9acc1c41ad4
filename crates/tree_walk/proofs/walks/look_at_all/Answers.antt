use Rattle.std.proofs.lemmas.Grind.{common_steps}
use Rattle.std.proofs.Common.{◌∙◌, ℕ, List, [], Option, Some, None, rules, arith}
use Rattle.std.specs.Prelude.{IfSome}
use Rattle.std.specs.List.{AllByRecursion}
use Rattle.local_files.specs.Names.{IsName}
use Rattle.s3_outside.specs.Files.{SeenFiles}
use Rattle.tree_walk.specs.Finding.{IsPartway, IsSound}
use Rattle.tree_walk.specs.declared.found.Found.{Found}
use Rattle.tree_walk.proofs.FoundLemmas.{partway_none}
use Rattle.tree_walk.proofs.StepLemmas.{names_refused, names_step}
use Rattle.tree_walk.proofs.WalkLemmas.{keeps_all, keeps_then, unsaid_of_both}
use Rattle.std.proofs.lemmas.Result.{err_from_is_err_and}
use Rattle.tree_walk.proofs.walks.look_at_all.Goals as goal

-- no name was looked at
none_yet : (seen : Option SeenFiles) (root folder : List ℕ) (names : List (List ℕ)) (found : Found) → IfSome seen (λ now. AllByRecursion IsName names → IsSound now.store root found → IsPartway now.store root folder [] found found)
none_yet None root folder names found = tt
none_yet (Some now) root folder names found = λ named. λ sound. partway_none now.store root folder found sound

pub loop-name-init : goal.loop-name-init
loop-name-init g c = record {
  kept = keeps_all _ _;
  later = search rules;
  few = λ few. few;
  found = none_yet _ c.args.root.now c.args.folder.now c.args.names.now c.args.found.now;
}

pub loop-name-preserved : goal.loop-name-preserved
loop-name-preserved g c = record {
  kept = keeps_then _ _ _ _ _ _ c.loop-name.invariant.later c.look_at.ensures.later c.loop-name.invariant.kept c.look_at.ensures.kept;
  later = search rules;
  few = λ few. c.in_ok-look_at.ensures.few (c.loop-name.invariant.few few);
  found = names_step _ _ _ _ c.look_at.ensures.kept c.args.root.now c.args.folder.now c.args.names.now c.loop-name.name-index c.as_str.result.now _ _ _ c.loop-name-test.true (c.as_str.ensures ∙ c.name-item.is) c.loop-name.invariant.found _
      c.in_ok-look_at.ensures.found;
}

pub returns-in_err-look_at-clause-refused : goal.returns-in_err-look_at-clause-refused
returns-in_err-look_at-clause-refused g c =
    let why = err_from_is_err_and c.from_residual.result c.from_residual.ensures.1 in
    rw (why.1, why.2) (names_refused _ _ _ _ c.look_at.ensures.kept c.args.root.now c.args.folder.now c.args.names.now c.loop-name.name-index c.as_str.result.now _ _ _
    c.loop-name-test.true (c.as_str.ensures ∙ c.name-item.is) c.loop-name.invariant.found c.in_err-look_at.field-0.0 c.in_err-look_at.ensures.refused)

pub returns-in_err-look_at-clause-found : goal.returns-in_err-look_at-clause-found
returns-in_err-look_at-clause-found g c =
    let why = err_from_is_err_and c.from_residual.result c.from_residual.ensures.1 in
    rw why.1 (unsaid_of_both _ _ _)

pub returns-in_err-look_at-clause-kept : goal.returns-in_err-look_at-clause-kept
returns-in_err-look_at-clause-kept g c = keeps_then _ _ _ _ _ _ c.loop-name.invariant.later c.look_at.ensures.later c.loop-name.invariant.kept c.look_at.ensures.kept

pub returns-clause-kept : goal.returns-clause-kept
returns-clause-kept g c = c.loop-name.invariant.kept

pub returns-clause-refused : goal.returns-clause-refused
returns-clause-refused g c = unsaid_of_both _ _ _

pub returns-clause-later : goal.returns-clause-later
returns-clause-later g c = c.loop-name.invariant.later

pub returns-clause-found : goal.returns-clause-found
returns-clause-found g c = grind (arith, common_steps)
