use Rattle.std.proofs.Common.{◌∙◌, List, ℕ, ap, rules, length, arith}
use Rattle.tree_walk.proofs.StepLemmas.{got_at, way_ends, way_refused, way_step}
use Rattle.tree_walk.proofs.WalkLemmas.{keeps_then, keeps_all, still_so, unsaid}
use Rattle.std.proofs.lemmas.Result.{err_from_is_err_and}
use Rattle.tree_walk.proofs.walks.visit_all.Goals as goal

pub folders-preserved : goal.folders-preserved
folders-preserved g c = record {
  kept = keeps_then _ _ _ _ _ _ c.folders.invariant.later c.visit.ensures.later c.folders.invariant.kept c.visit.ensures.kept;
  later = search rules;
  few = λ few. c.in_ok-visit.ensures.few (c.folders.invariant.few few);
  visited = way_step _ _ _ _ c.visit.ensures.kept c.args.root.now c.as_str.result.now c.folders.place c.args.found.now c.folders.found c.folders.invariant.visited c.visit.new.found
      (got_at c.folders.found.folders.items c.deref.result.now c.folders.place c.in-Some.folder.now c.as_str.result.now c.deref.ensures.value c.in-Some.ensures.lookup.3.0 c.in-Some.ensures.lookup.1 (c.as_str.ensures ∙ c.in_ok-folder.ensures)) c.in_ok-visit.ensures.visited;
}

pub returns-in_err-visit-clause-refused : goal.returns-in_err-visit-clause-refused
returns-in_err-visit-clause-refused g c =
    let why = err_from_is_err_and c.from_residual-in_err-visit.result c.from_residual-in_err-visit.ensures.1 in
    rw (why.1, why.2) (way_refused _ _ _ _ c.visit.ensures.kept c.args.root.now c.as_str.result.now c.folders.place c.args.found.now c.folders.found
    c.folders.invariant.visited c.in_err-visit.field-0.0 c.in_err-visit.ensures.refused)

pub folders-init : goal.folders-init
folders-init g c = record { kept = keeps_all _ _; later = search rules; few = λ few. few; visited = still_so _ _ }

pub returns-in_err-folder-clause-visited : goal.returns-in_err-folder-clause-visited
returns-in_err-folder-clause-visited g c =
    let why = err_from_is_err_and c.from_residual.result c.from_residual.ensures.1 in
    rw why.1 (unsaid _ _)

pub returns-in_err-folder-clause-kept : goal.returns-in_err-folder-clause-kept
returns-in_err-folder-clause-kept g c = c.folders.invariant.kept

pub returns-in_err-folder-clause-refused : goal.returns-in_err-folder-clause-refused
returns-in_err-folder-clause-refused g c =
    let why = err_from_is_err_and c.from_residual.result c.from_residual.ensures.1 in
    rw (why.1, why.2) (unsaid _ _)

pub returns-in_err-visit-clause-visited : goal.returns-in_err-visit-clause-visited
returns-in_err-visit-clause-visited g c =
    let why = err_from_is_err_and c.from_residual-in_err-visit.result c.from_residual-in_err-visit.ensures.1 in
    rw why.1 (unsaid _ _)

pub returns-in_err-visit-clause-kept : goal.returns-in_err-visit-clause-kept
returns-in_err-visit-clause-kept g c = keeps_then _ _ _ _ _ _ c.folders.invariant.later c.visit.ensures.later c.folders.invariant.kept c.visit.ensures.kept

pub returns-clause-visited : goal.returns-clause-visited
returns-clause-visited g c =
    way_ends _ c.args.root.now c.folders.place c.args.found.now c.folders.found (omega (arith, c.in_default.ensures.lookup, ap (λ (xs : List (List ℕ)). length xs) c.deref.ensures.value)) c.folders.invariant.visited

pub returns-clause-kept : goal.returns-clause-kept
returns-clause-kept g c = c.folders.invariant.kept

pub returns-clause-refused : goal.returns-clause-refused
returns-clause-refused g c = unsaid _ _

pub returns-clause-later : goal.returns-clause-later
returns-clause-later g c = c.folders.invariant.later
