use Rattle.std.proofs.Common.{arith, ◌∷◌, ap, sym, ◌∙◌, refl}
use Rattle.reply_xml.proofs.RunLemmas.{run_within}
use Rattle.reply_xml.proofs.TagLemmas.{end_tag_of, end_tag_name}
use Rattle.reply_xml.specs.Leaves.{NoEnd, NoEndName, NoEndTag, NoSlash, OtherName}
use Rattle.reply_xml.proofs.LeaveLemmas.{leaves_past, same_name}
use Rattle.reply_xml.proofs.tags.after_spaced_end_tag.Goals as goal

pub returns-then-not-is_same-clause-refused : goal.returns-then-not-is_same-clause-refused
returns-then-not-is_same-clause-refused c rest r =
    c.if-not-is_same.ensures
    (sym (end_tag_name c.args.name.now _ _ _ _ rest
    (c.in-Some.ensures.value ∙ ap (λ b. 60 ∷ b) c.in-Some-after_byte.ensures.value) c.in_ok-found.ensures.value r))

pub returns-in-None-clause-refused : goal.returns-in-None-clause-refused
returns-in-None-clause-refused c rest r =
    c.in-None.ensures.value rest
    (end_tag_of c.args.name.now _ _ _ _ _ _ rest
    (c.in-Some.ensures.value ∙ ap (λ b. 60 ∷ b) c.in-Some-after_byte.ensures.value) c.in_ok-found.ensures.value
    c.split_run.ensures.value r).1

pub returns-in_default-clause-leaves : goal.returns-in_default-clause-leaves
returns-in_default-clause-leaves c = NoEndTag c.in_default.ensures.value refl

pub returns-in_default-after_byte-clause-leaves : goal.returns-in_default-after_byte-clause-leaves
returns-in_default-after_byte-clause-leaves c =
    NoSlash _ c.in-Some.ensures.value c.in_default-after_byte.ensures.value refl

pub returns-in_err-found-clause-leaves : goal.returns-in_err-found-clause-leaves
returns-in_err-found-clause-leaves c =
    leaves_past c.from_residual.result c.in_err-found.field-0.0 c.from_residual.ensures.1
    (λ left l. NoEndName _ (c.in-Some.ensures.value ∙ ap (λ b. 60 ∷ b) c.in-Some-after_byte.ensures.value) l)
    c.in_err-found.ensures.leaves

pub returns-then-not-is_same-clause-leaves : goal.returns-then-not-is_same-clause-leaves
returns-then-not-is_same-clause-leaves c =
    OtherName c.common_front.result _ _ _
    (c.in-Some.ensures.value ∙ ap (λ b. 60 ∷ b) c.in-Some-after_byte.ensures.value) c.in_ok-found.ensures.value
    c.if-not-is_same.ensures c.common_front.ensures refl

pub returns-in-None-clause-leaves : goal.returns-in-None-clause-leaves
returns-in-None-clause-leaves c =
    NoEnd _ _ _ _ (c.in-Some.ensures.value ∙ ap (λ b. 60 ∷ b) c.in-Some-after_byte.ensures.value)
    (same_name _ _ _ _ c.if-not-is_same.ensures c.in_ok-found.ensures.value) c.split_run.ensures.value
    c.in-None.ensures.value refl

pub overflow_sub-result : goal.overflow_sub-result
overflow_sub-result c =
    omega (arith, c.common_front.ensures.within, run_within _ _ _ _ c.in_ok-found.ensures.value.run)

pub returns-then-not-is_same-clause-left : goal.returns-then-not-is_same-clause-left
returns-then-not-is_same-clause-left c =
    omega (arith, c.in-Some.ensures.shorter, c.in-Some-after_byte.ensures.shorter)

pub returns-in-Some-after_byte-2-clause-value : goal.returns-in-Some-after_byte-2-clause-value
returns-in-Some-after_byte-2-clause-value c = record {
  at_name = c.in-Some-after_byte.at_name.now;
  opens = c.in-Some.ensures.value ∙ ap (λ b. 60 ∷ b) c.in-Some-after_byte.ensures.value;
  at_space = c.in_ok-found.at_space.now;
  named = same_name _ _ _ _ c.if-not-is_same.ensures c.in_ok-found.ensures.value;
  space = c.split_run.result.0.now;
  at_close = c.split_run.result.1.now;
  run = c.split_run.ensures.value;
  closes = c.in-Some-after_byte-2.ensures.value;
}

pub returns-in-Some-after_byte-2-clause-shorter : goal.returns-in-Some-after_byte-2-clause-shorter
returns-in-Some-after_byte-2-clause-shorter c =
    omega (
      arith,
      c.in-Some.ensures.shorter,
      c.in-Some-after_byte.ensures.shorter,
      c.in_ok-found.ensures.shorter,
      c.split_run.ensures.shorter,
      c.in-Some-after_byte-2.ensures.shorter,
    )

pub returns-in-None-clause-left : goal.returns-in-None-clause-left
returns-in-None-clause-left c =
    omega (
      arith,
      c.in-Some.ensures.shorter,
      c.in-Some-after_byte.ensures.shorter,
      c.in_ok-found.ensures.shorter,
      c.split_run.ensures.shorter,
    )
