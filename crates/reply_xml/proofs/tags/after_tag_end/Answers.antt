use Rattle.std.proofs.Common.{Bool, List, ℕ, arith, sym, ◌∙◌, refl}
use Rattle.reply_xml.specs.Tags.{ReadsTagEnd}
use Rattle.reply_xml.proofs.TagLemmas.{no_tag_end-slash, goes_on, tag_end_past, tag_end_before, OnErr-any}
use Rattle.reply_xml.specs.Leaves.{BadAttribute, NoSpace, NoTagEnd}
use Rattle.reply_xml.proofs.LeaveLemmas.{leaves_past, tag_leaves_before}
use Rattle.reply_xml.proofs.tags.after_tag_end.Goals as goal
use Rattle.shared_lemmas.proofs.Lists.{none_from_test, some_from_test}

pub returns-in-None-clause-refused : goal.returns-in-None-clause-refused
returns-in-None-clause-refused c closed rest r =
    no_tag_end-slash closed _ _ _ _ rest c.split_run.ensures.value c.in-Some-after_byte.ensures.value
    c.in-None.ensures.value ((c.attributes.invariant.same closed rest).1 r)

pub returns-then-is_empty-clause-refused : goal.returns-then-is_empty-clause-refused
returns-then-is_empty-clause-refused c closed rest r =
    let more = goes_on closed _ _ _ rest c.split_run.ensures.value c.in_default.ensures.value
    c.in_default-after_byte.ensures.value ((c.attributes.invariant.same closed rest).1 r) in
    more.1 (none_from_test _ (sym c.is_empty.ensures ∙ c.if-is_empty.true))

pub returns-in_err-here-clause-refused : goal.returns-in_err-here-clause-refused
returns-in_err-here-clause-refused c =
    let none : (closed : Bool) (rest : List ℕ) → ReadsTagEnd closed c.args.bytes.now rest → ⊥ =
    λ closed rest r. let more = goes_on closed _ _ _ rest c.split_run.ensures.value c.in_default.ensures.value
    c.in_default-after_byte.ensures.value ((c.attributes.invariant.same closed rest).1 r) in
    c.in_err-here.ensures.refused more.0 more.2 in
    OnErr-any c.from_residual.result none

pub attributes-preserved : goal.attributes-preserved
attributes-preserved c = record {
  shorter = omega (arith, c.in_ok-here.ensures.shorter);
  same = λ closed rest. (
    λ r. (c.attributes.invariant.same closed rest).0
        (tag_end_before closed _ _ _ _ rest c.split_run.ensures.value
        (some_from_test _ (sym c.is_empty.ensures ∙ c.if-is_empty.false)) c.in_ok-here.ensures.value r),
    λ r. tag_end_past closed _ _ _ _ rest c.split_run.ensures.value c.in_default.ensures.value
        c.in_default-after_byte.ensures.value c.in_ok-here.ensures.value
        ((c.attributes.invariant.same closed rest).1 r),
  );
  leaves = λ left l. c.attributes.invariant.leaves left
      (tag_leaves_before _ _ _ _ left c.split_run.ensures.value
      (some_from_test _ (sym c.is_empty.ensures ∙ c.if-is_empty.false)) c.in_ok-here.ensures.value l);
}

pub returns-in-None-clause-leaves : goal.returns-in-None-clause-leaves
returns-in-None-clause-leaves c =
    c.attributes.invariant.leaves _
    (record {
      count = 0;
      at = _;
      attributes = refl;
      leaves = NoTagEnd _ _ _ c.split_run.ensures.value c.in-Some-after_byte.ensures.value c.in-None.ensures.value refl;
    })

pub returns-then-is_empty-clause-leaves : goal.returns-then-is_empty-clause-leaves
returns-then-is_empty-clause-leaves c =
    c.attributes.invariant.leaves _
    (record {
      count = 0;
      at = _;
      attributes = refl;
      leaves = NoSpace _ _ c.split_run.ensures.value c.in_default.ensures.value c.in_default-after_byte.ensures.value
          (none_from_test _ (sym c.is_empty.ensures ∙ c.if-is_empty.true)) refl;
    })

pub returns-in_err-here-clause-leaves : goal.returns-in_err-here-clause-leaves
returns-in_err-here-clause-leaves c =
    leaves_past c.from_residual.result c.in_err-here.field-0.0 c.from_residual.ensures.1
    (
    λ left l. c.attributes.invariant.leaves left
    (record {
      count = 0;
      at = _;
      attributes = refl;
      leaves = BadAttribute _ _ c.split_run.ensures.value c.in_default.ensures.value
          c.in_default-after_byte.ensures.value
          (some_from_test _ (sym c.is_empty.ensures ∙ c.if-is_empty.false)) l;
    })
    )
    c.in_err-here.ensures.leaves
