use Rattle.std.proofs.Common.{◌-◌, [], refl, take, ap, arith, ◌∙◌, inl}
use Rattle.reply_xml.specs.Tables.{Done}
use Rattle.reply_xml.proofs.FrontLemmas.{fresh_outside}
use Rattle.std.proofs.lemmas.List.{append-nil}
use Rattle.reply_xml.proofs.FaultLemmas.{refused_past}
use Rattle.reply_xml.proofs.OpenLemmas.{child_begins, left_in, left_out, left_end, left_none, left_no_child}
use Rattle.reply_xml.specs.Breaks.{InTag}
use Rattle.reply_xml.proofs.BreakLemmas.{broken_past, open_sized, opened_in, opened_out, sized}
use Rattle.reply_xml.proofs.reader.Reader.skip_content.Goals as goal
use Rattle.shared_lemmas.proofs.Tests.{iff_chain}

pub returns-in_err-child-clause-refused : goal.returns-in_err-child-clause-refused
returns-in_err-child-clause-refused c =
    refused_past c.from_residual.result c.in_err-child.field-0.0 c.from_residual.ensures.1
    (λ none rest s. left_none c.elements.outer.items c.elements.inner _ rest none
    ((c.elements.invariant.same rest).1 s)) c.in_err-child.ensures.refused

pub returns-in_err-within-in-Some-clause-refused : goal.returns-in_err-within-in-Some-clause-refused
returns-in_err-within-in-Some-clause-refused c =
    let now = rw c.in-Some.is at c.in_ok-child.ensures in
    refused_past c.from_residual-in_err-within-in-Some.result c.in_err-within-in-Some.field-0.0
    c.from_residual-in_err-within-in-Some.ensures.1
    (λ none rest s. left_no_child c.elements.outer.items c.elements.inner c.in-Some.child _ _ rest now.apart now.child
    none ((c.elements.invariant.same rest).1 s))
    c.in_err-within-in-Some.ensures.refused

pub returns-in_err-end-in-None-clause-refused : goal.returns-in_err-end-in-None-clause-refused
returns-in_err-end-in-None-clause-refused c =
    let now = rw c.in-None.is at c.in_ok-child.ensures in
    refused_past c.from_residual-in_err-end-in-None.result c.in_err-end-in-None.field-0.0
    c.from_residual-in_err-end-in-None.ensures.1
    (λ none rest s. left_none c.elements.outer.items c.elements.inner _ rest (none _ now.end)
    ((c.elements.invariant.same rest).1 s))
    c.in_err-end-in-None.ensures.refused

pub elements-preserved-in-Ok : goal.elements-preserved-in-Ok
elements-preserved-in-Ok c =
    let now = rw c.in-Some.is at c.in_ok-child.ensures in
    let begins = child_begins c.elements.inner.room _ _ _ c.in-Some.child c.in_ok-within-in-Some.within now.child
    c.in_ok-within-in-Some.ensures.value in
    record {
      no_longer = omega (arith, c.in_ok-child.ensures.no_longer, c.in_ok-within-in-Some.ensures.no_longer);
      same = λ rest. iff_chain
          (left_in c.elements.outer.items c.push.new.self.items c.elements.inner c.in_ok-within-in-Some.within _ _ rest
          now.apart begins c.in-Ok.ensures.items) (c.elements.invariant.same rest);
      size = c.in_ok-within-in-Some.ensures.size ∙ now.size ∙ c.elements.invariant.size;
      broken = λ reason b. c.elements.invariant.broken reason
          (opened_in _ reason c.elements.outer.items c.push.new.self.items c.elements.inner
          c.in_ok-within-in-Some.within c.in-Some.child _ _ _ now.apart now.child
          c.in_ok-within-in-Some.ensures.value c.in-Ok.ensures.items
          (open_sized _ _ reason _ _ _ (c.in_ok-within-in-Some.ensures.size ∙ now.size) b));
    }

pub elements-preserved : goal.elements-preserved
elements-preserved c =
    let now = rw c.in-None.is at c.in_ok-child.ensures in
    record {
      no_longer = omega (arith, c.in_ok-child.ensures.no_longer, c.in_ok-end-in-None.ensures.no_longer);
      same = λ rest. iff_chain
          (left_out c.pop.new.self.items c.elements.outer.items c.elements.inner c.in-Some-pop.parent _ _ rest
          (c.in_ok-end-in-None.ensures.value _ now.end) c.in-Some-pop.ensures.items) (c.elements.invariant.same rest);
      size = c.in_ok-end-in-None.ensures.size ∙ now.size ∙ c.elements.invariant.size;
      broken = λ reason b. c.elements.invariant.broken reason
          (opened_out _ reason c.pop.new.self.items c.elements.outer.items c.elements.inner c.in-Some-pop.parent _ _
          (c.in_ok-end-in-None.ensures.value _ now.end) c.in-Some-pop.ensures.items
          (open_sized _ _ reason _ _ _ (c.in_ok-end-in-None.ensures.size ∙ now.size) b));
    }

pub returns-in-None-pop-clause-value : goal.returns-in-None-pop-clause-value
returns-in-None-pop-clause-value c =
    let now = rw c.in-None.is at c.in_ok-child.ensures in
    let none = c.in-None-pop.ensures.items ∙ append-nil _ ∙ c.in-None-pop.ensures.rest ∙ ap
    (λ n. take (n - 1) c.elements.outer.items) c.in-None-pop.ensures.cases.0 in
    (c.elements.invariant.same c.end.new.self.rest.now).0
    (left_end c.elements.outer.items c.elements.inner _ _ (c.in_ok-end-in-None.ensures.value _ now.end) none)

pub returns-in_err-child-clause-broken : goal.returns-in_err-child-clause-broken
returns-in_err-child-clause-broken c =
    broken_past c.from_residual.result c.in_err-child.field-0.0 c.from_residual.ensures.1
    (λ reason b. c.elements.invariant.broken reason (inl (b Done [])))
    c.in_err-child.ensures.broken

pub returns-in_err-within-in-Some-clause-broken : goal.returns-in_err-within-in-Some-clause-broken
returns-in_err-within-in-Some-clause-broken c =
    let now = rw c.in-Some.is at c.in_ok-child.ensures in
    broken_past c.from_residual-in_err-within-in-Some.result c.in_err-within-in-Some.field-0.0
    c.from_residual-in_err-within-in-Some.ensures.1
    (λ reason t. c.elements.invariant.broken reason
    (inl (sized _ _ reason Done [] _ _ now.size
    (InTag c.in-Some.child _ t.0 now.apart now.child (fresh_outside Done [] c.in-Some.child.element tt) t.1 t.2))))
    c.in_err-within-in-Some.ensures.broken

pub returns-in_err-end-in-None-clause-broken : goal.returns-in_err-end-in-None-clause-broken
returns-in_err-end-in-None-clause-broken c =
    let now = rw c.in-None.is at c.in_ok-child.ensures in
    broken_past c.from_residual-in_err-end-in-None.result c.in_err-end-in-None.field-0.0
    c.from_residual-in_err-end-in-None.ensures.1
    (λ reason b. c.elements.invariant.broken reason
    (inl (sized _ _ reason Done [] _ _ now.size (b _ now.end Done [] refl)))) c.in_err-end-in-None.ensures.broken

pub elements-smaller-in-Ok : goal.elements-smaller-in-Ok
elements-smaller-in-Ok c =
    let now = rw c.in-Some.is at c.in_ok-child.ensures in
    omega (arith, now.shorter, c.in_ok-within-in-Some.ensures.no_longer, c.in-Ok.ensures.len)
