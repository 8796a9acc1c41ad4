use Rattle.std.proofs.Common.{◌≡◌, ◌<◌, ◌∙◌, ℕ, Some, List, Bor, ap, sym, map, length, slice_get, arith, below_more, true}
use Rattle.std.proofs.lemmas.Option.{same_Some, slice_get_within}
use Rattle.std.proofs.lemmas.List.{length-map}
use Rattle.std.proofs.lemmas.Slice.Eq.{slice_eq-Decides}
use Rattle.std.proofs.lemmas.Bool.Decides.{Decides-eqb}
use Rattle.s3_model.proofs.Rows.{row_name}
use Rattle.s3_model.proofs.cases.find_in.Goals as goal

pub returns-then-eq : goal.returns-then-eq
returns-then-eq c =
    let same = (slice_eq-Decides Decides-eqb _ _ _ c.eq.ensures).0 c.if-eq.true in
    let at_index = row_name c.args.names.now c.loop-each.each-index _ c.loop-each-test.true ∙ ap Some same in
    rw c.loop-each.invariant.row (at_index, c.loop-each.invariant.before)

pub loop-each-preserved : goal.loop-each-preserved
loop-each-preserved c = record {
  row = omega arith;
  before = below_more _ _ c.loop-each.invariant.before (λ e.
      let same : c.eq.result ≡ true = (slice_eq-Decides Decides-eqb _ _ _ c.eq.ensures).1 (same_Some _ _ (sym (row_name c.args.names.now c.loop-each.each-index _ c.loop-each-test.true) ∙ e)) in
      let other = c.if-eq.false in cc);
}

row_inside : (names : List (Bor (List ℕ))) (k : ℕ) (name : List ℕ) → slice_get (map (λ row. row.now) names) k ≡ Some name → k < length names
row_inside names k name e = simp length-map at (slice_get_within (map (λ row. row.now) names) k name e)

pub returns : goal.returns
returns c = λ k e.
    let inside = row_inside c.args.names.now k c.args.name.now e in
    c.loop-each.invariant.before k (omega arith) e
