use Rattle.std.proofs.Common.{◌≡◌, ◌∷◌, [], ℕ, List, append_assoc, subst, sym, arith}
use Rattle.std.specs.List.{AllZip}
use Rattle.std.specs.Vec.Iter.{into_iter_items}
use Rattle.std.proofs.lemmas.List.{append-nil, nil_from_length}
use Rattle.reply_values.specs.UrlText.{MeansText}
use Rattle.reply_xml.proofs.FaultLemmas.{refused_past}
use Rattle.s3_replies.proofs.PlainLemmas.{zip_parts}
use Rattle.s3_replies.proofs.pages.prefixes_of.Goals as goal

-- a row without a meaning leaves the rows without one
pub returns-in_err-decoded-clause-refused : goal.returns-in_err-decoded-clause-refused
returns-in_err-decoded-clause-refused c =
    refused_past c.from_residual.result c.in_err-decoded.field-0.0 c.from_residual.ensures.1
    (
    λ none values all.
    let later = c.loop-row.invariant.1 values all in
    let parts = zip_parts (MeansText c.args.url) c.in-Some.row (into_iter_items c.next.new.self) later.0
    (subst (λ (rows : List (List ℕ)). AllZip (MeansText c.args.url) rows later.0) c.in-Some.ensures.steps.0 later.1) in
    none parts.0 parts.2
    )
    c.in_err-decoded.ensures.refused

pub loop-row-preserved : goal.loop-row-preserved
loop-row-preserved c =
    let steps = c.in-Some.ensures.steps in (
      (λ later all.
          let whole = c.loop-row.invariant.0 (c.in_ok-decoded.field-0 ∷ later)
          (subst (λ (rows : List (List ℕ)). AllZip (MeansText c.args.url) rows (c.in_ok-decoded.field-0 ∷ later))
          (sym steps.0) (c.in_ok-decoded.ensures.value, all)) in
          rw (c.push.ensures.items, append_assoc) whole),
      (λ values all.
          let later = c.loop-row.invariant.1 values all in
          let parts = zip_parts (MeansText c.args.url) c.in-Some.row (into_iter_items c.next.new.self) later.0
          (subst (λ (rows : List (List ℕ)). AllZip (MeansText c.args.url) rows later.0) steps.0 later.1) in
          (parts.1, parts.3)),
      omega (arith, steps.1, c.push.ensures.spare, c.loop-row.invariant.2),
    )

pub returns-clause-value : goal.returns-clause-value
returns-clause-value c =
    let none_left : into_iter_items c.loop-row.row-iterator ≡ [] =
    nil_from_length (into_iter_items c.loop-row.row-iterator)
    (omega (arith, c.in-None.ensures.steps.0, c.loop-row.row-iterator.rest.ok.0)) in
    rw append-nil at (c.loop-row.invariant.0 [] (rw none_left tt))
