use Rattle.std.proofs.Common.{Some, None, inl, inr, arith, sym}
use Rattle.std.proofs.lemmas.Str.Pattern.{strip_suffix_char}
use Rattle.tree_walk.proofs.PathLemmas.{bare_goes, bare_none, bare_stays, bytes_none, bytes_some}
use Rattle.tree_walk.proofs.paths.bare.Goals as goal
use Rattle.tree_walk.proofs.paths.bare.Goals.{then-is_empty-via-then-is_empty, then-is_empty-via-else-is_empty+then-ends_in_slash}

pub returns-in_default : goal.returns-in_default
returns-in_default c = bare_none c.args.root.now (strip_suffix_char 47 c.args.root.now None c.in_default.ensures.cases (omega arith))

pub returns-then-is_empty : goal.returns-then-is_empty
returns-then-is_empty c =
    bare_stays c.args.root.now c.in-Some.front.now (strip_suffix_char 47 c.args.root.now (Some c.in-Some.front) c.in-Some.ensures.cases (omega arith))
    (elim c.then-is_empty.branch [
      | then-is_empty-via-then-is_empty w ↦ inl (bytes_none c.in-Some.front.now (sym w.if-is_empty.ensures))
      | then-is_empty-via-else-is_empty+then-ends_in_slash w ↦ inr (sym w.if-ends_in_slash.ensures.last)
    ])

pub returns : goal.returns
returns c =
    bare_goes c.args.root.now c.in-Some.front.now (strip_suffix_char 47 c.args.root.now (Some c.in-Some.front) c.in-Some.ensures.cases (omega arith))
    (bytes_some c.in-Some.front.now (sym c.if-is_empty.ensures)) (sym c.if-ends_in_slash.ensures.last)
