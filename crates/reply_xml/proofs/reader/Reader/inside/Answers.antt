use Rattle.std.proofs.Common.{refl, arith, ◌∙◌, ◌∷◌}
use Rattle.reply_xml.proofs.FaultLemmas.{refused_past}
use Rattle.reply_xml.proofs.TakeLemmas.{advanced, stopped, ended, at_end_left}
use Rattle.reply_xml.specs.Breaks.{Behind}
use Rattle.reply_xml.proofs.FrontLemmas.{complete_so, goes_on_before, goes_on_end, read_so}
use Rattle.reply_xml.proofs.BreakLemmas.{broken_past, child_breaks, lacks_there, sized, tabled}
use Rattle.reply_xml.proofs.reader.Reader.inside.Goals as goal
use Rattle.shared_lemmas.proofs.Tests.{iff_chain}

pub returns-in_err-child-clause-refused : goal.returns-in_err-child-clause-refused
returns-in_err-child-clause-refused g c =
    refused_past c.from_residual.result c.in_err-child.field-0.0 c.from_residual.ensures.1
    (λ none rest whole r. let left = (c.children.invariant.same rest whole).0 r in none left.0 rest left.1)
    c.in_err-child.ensures.refused

pub children-preserved : goal.children-preserved
children-preserved g c =
    let now = rw c.in-Some.is at c.in_ok-child.ensures in
    record {
      no_longer = omega (arith, c.in_ok-child.ensures.no_longer, c.in_ok-take.ensures.no_longer);
      same = λ rest whole. iff_chain (c.children.invariant.same rest whole)
          (advanced (g.P.Parts.left c.children.parts) (g.P.Parts.left c.take.new.self) c.args.parent.now c.in-Some.child
          _ _ _ rest whole now.apart now.child c.in_ok-take.ensures.value);
      size = c.in_ok-take.ensures.size ∙ now.size ∙ c.children.invariant.size;
      table = c.in_ok-take.ensures.same_table ∙ c.children.invariant.table;
      front = (
        c.in-Some.child.element ∷ c.children.invariant.front.0,
        c.in_ok-take.ensures.known c.children.invariant.front.0 c.children.invariant.front.1,
        λ reason b. c.children.invariant.front.2 reason
            (sized _ _ reason _ _ _ _ (c.in_ok-take.ensures.size ∙ now.size)
            (Behind c.in-Some.child _ _ now.apart now.child
            (read_so _ _ c.children.invariant.front.0 c.in-Some.child _ _ c.children.invariant.table
            (c.in_ok-take.ensures.well c.children.invariant.front.0 c.children.invariant.front.1))
            b)),
        λ rest r. c.children.invariant.front.3 rest
            (goes_on_before _ c.children.invariant.front.0 c.args.parent.now c.in-Some.child _ _ _ rest now.apart
            now.child
            (read_so _ _ c.children.invariant.front.0 c.in-Some.child _ _ c.children.invariant.table
            (c.in_ok-take.ensures.well c.children.invariant.front.0 c.children.invariant.front.1))
            r),
      );
    }

pub returns-in_err-take-clause-refused : goal.returns-in_err-take-clause-refused
returns-in_err-take-clause-refused g c =
    let now = rw c.in-Some.is at c.in_ok-child.ensures in
    refused_past c.from_residual-in_err-take.result c.in_err-take.field-0.0 c.from_residual-in_err-take.ensures.1
    (
    λ stops rest whole r.
    stopped (g.P.Parts.left c.children.parts) c.args.parent.now c.in-Some.child _ _ rest whole now.apart now.child stops
    ((c.children.invariant.same rest whole).0 r)
    )
    c.in_err-take.ensures.refused

pub returns-in_err-whole-clause-refused : goal.returns-in_err-whole-clause-refused
returns-in_err-whole-clause-refused g c =
    let now = rw c.in_default.is at c.in_ok-child.ensures in
    refused_past c.from_residual-in_err-whole.result c.in_err-whole.field-0.0 c.from_residual-in_err-whole.ensures.1
    (
    λ none rest whole r. let left = at_end_left (g.P.Parts.left c.children.parts) c.args.parent.now _ _ rest whole
    now.end ((c.children.invariant.same rest whole).0 r) in
    none left.0 whole left.1
    )
    c.in_err-whole.ensures.refused

pub returns-in_err-end-clause-refused : goal.returns-in_err-end-clause-refused
returns-in_err-end-clause-refused g c =
    let now = rw c.in_default.is at c.in_ok-child.ensures in
    refused_past c.from_residual-in_err-end.result c.in_err-end.field-0.0 c.from_residual-in_err-end.ensures.1
    (λ none rest whole r. let left = (c.children.invariant.same rest whole).0 r in none _ now.end left.0 rest left.1)
    c.in_err-end.ensures.refused

pub returns-clause-value : goal.returns-clause-value
returns-clause-value g c =
    let now = rw c.in_default.is at c.in_ok-child.ensures in
    let ends = c.in_ok-end.ensures.value _ now.end in
    (c.children.invariant.same _ c.in_ok-whole.whole).1
    ((ended (g.P.Parts.left c.children.parts) c.args.parent.now _ _ _ c.in_ok-whole.whole ends).1
    (refl, c.in_ok-whole.ensures.value ends.0))

pub returns-in_err-child-clause-broken : goal.returns-in_err-child-clause-broken
returns-in_err-child-clause-broken g c =
    broken_past c.from_residual.result c.in_err-child.field-0.0 c.from_residual.ensures.1
    (λ reason b. c.children.invariant.front.2 reason (b _ _))
    c.in_err-child.ensures.broken

pub returns-in_err-take-clause-broken : goal.returns-in_err-take-clause-broken
returns-in_err-take-clause-broken g c =
    let now = rw c.in-Some.is at c.in_ok-child.ensures in
    broken_past c.from_residual-in_err-take.result c.in_err-take.field-0.0 c.from_residual-in_err-take.ensures.1
    (
    λ reason b. c.children.invariant.front.2 reason
    (sized _ _ reason _ _ _ _ now.size
    (child_breaks _ reason _ _ c.args.parent.now c.in-Some.child _ _ now.apart now.child
    (tabled _ reason _ _ c.children.invariant.front.0 c.in-Some.child _ c.children.invariant.table
    (b c.children.invariant.front.0 c.children.invariant.front.1))))
    )
    c.in_err-take.ensures.broken

pub returns-in_err-whole-clause-broken : goal.returns-in_err-whole-clause-broken
returns-in_err-whole-clause-broken g c =
    let now = rw c.in_default.is at c.in_ok-child.ensures in
    broken_past c.from_residual-in_err-whole.result c.in_err-whole.field-0.0 c.from_residual-in_err-whole.ensures.1
    (
    λ reason m. c.children.invariant.front.2 reason
    (sized _ _ reason _ _ _ _ now.size
    (lacks_there _ reason _ _ c.children.invariant.front.0 c.args.parent.now _ _ c.children.invariant.table now.end
    (m c.children.invariant.front.0 c.children.invariant.front.1)))
    )
    c.in_err-whole.ensures.missing

pub returns-in_err-end-clause-broken : goal.returns-in_err-end-clause-broken
returns-in_err-end-clause-broken g c =
    let now = rw c.in_default.is at c.in_ok-child.ensures in
    broken_past c.from_residual-in_err-end.result c.in_err-end.field-0.0 c.from_residual-in_err-end.ensures.1
    (λ reason b. c.children.invariant.front.2 reason
    (sized _ _ reason _ _ _ _ now.size
    (b _ now.end _ c.children.invariant.front.0 (complete_so _ _ c.children.invariant.front.0 c.children.invariant.table
    (c.in_ok-whole.ensures.complete c.children.invariant.front.0 c.children.invariant.front.1)))))
    c.in_err-end.ensures.broken

pub returns-clause-well : goal.returns-clause-well
returns-clause-well g c =
    let now = rw c.in_default.is at c.in_ok-child.ensures in
    let ends = c.in_ok-end.ensures.value _ now.end in
    c.children.invariant.front.3 _
    (goes_on_end _ c.children.invariant.front.0 c.args.parent.now _ _ ends
    (complete_so _ _ c.children.invariant.front.0 c.children.invariant.table
    (c.in_ok-whole.ensures.complete c.children.invariant.front.0 c.children.invariant.front.1)))

pub children-smaller : goal.children-smaller
children-smaller g c =
    let now = rw c.in-Some.is at c.in_ok-child.ensures in omega (arith, now.shorter, c.take.ensures.no_longer)

pub returns-in_err-end-clause-no_longer : goal.returns-in_err-end-clause-no_longer
returns-in_err-end-clause-no_longer g c =
    omega (arith, c.children.invariant.no_longer, c.next_child.ensures.no_longer, c.end.ensures.no_longer)

pub returns-in_err-end-clause-size : goal.returns-in_err-end-clause-size
returns-in_err-end-clause-size g c = c.end.ensures.size ∙ c.next_child.ensures.size ∙ c.children.invariant.size
