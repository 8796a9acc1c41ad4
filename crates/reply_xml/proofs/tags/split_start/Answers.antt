use Rattle.std.proofs.Common.{arith, List, ℕ, ap, length, sym, subst, ◌∙◌, refl}
use Rattle.reply_xml.proofs.TagLemmas.{first_none, first_of, tag_end_of, no_tag_end-first, no_tag_end-none, NamesTag-of}
use Rattle.reply_xml.proofs.TagLemmas.{no_name_end-first, no_name_end-none}
use Rattle.reply_xml.specs.Tags.{NameEnds, NamesTag, ReadsName}
use Rattle.reply_xml.proofs.TagLemmas.{IfErr-any, OnErr-any, err_given}
use Rattle.reply_xml.proofs.FaultLemmas.{not_err}
use Rattle.reply_xml.specs.Runs.{BeginsOutside, is_name_byte}
use Rattle.reply_xml.specs.Leaves.{NoNameEnd, NoTag, NoTagName}
use Rattle.reply_xml.proofs.LeaveLemmas.{leaves_past}
use Rattle.reply_xml.proofs.tags.split_start.Goals as goal
use Rattle.shared_lemmas.proofs.Lists.{cons_parts}
use Rattle.shared_lemmas.proofs.Clashes.{err_is}

pub returns-in_default-first-clause-refused : goal.returns-in_default-first-clause-refused
returns-in_default-first-clause-refused c closed name rest r =
    no_tag_end-none _ (first_none _ c.in_default-first.ensures.value) closed rest
    (tag_end_of closed name _ _ _ _ rest c.in-Some.ensures.value c.in_ok-name.ensures.value r).1

pub returns-then-not-ends_name-clause-refused : goal.returns-then-not-ends_name-clause-refused
returns-then-not-ends_name-clause-refused c closed name rest r =
    let first = first_of _ _ c.in-Some-first.ensures.value in
    no_tag_end-first _ _ _ first.1 (sym c.ends_name.ensures ∙ c.if-not-ends_name.true) closed rest
    (tag_end_of closed name _ _ _ _ rest c.in-Some.ensures.value c.in_ok-name.ensures.value r).1

pub returns-in_err-name-clause-unnamed : goal.returns-in_err-name-clause-unnamed
returns-in_err-name-clause-unnamed c =
    let none : (name rest : List ℕ) → NamesTag name c.args.bytes.now rest → ¬ (NameEnds rest) =
    λ name rest n ends. c.in_err-name.ensures.refused name rest
    (subst (λ (b : List ℕ). ReadsName name b rest)
    (cons_parts 60 60 n.at_name _ (sym n.opens ∙ c.in-Some.ensures.value)).1 n.named) in
    OnErr-any c.from_residual.result none

pub returns-in_default-first-clause-unnamed : goal.returns-in_default-first-clause-unnamed
returns-in_default-first-clause-unnamed c name rest n ends =
    let same = NamesTag-of name _ _ _ rest _ c.in-Some.ensures.value c.in_ok-name.ensures.value n in
    no_name_end-none _ (first_none _ c.in_default-first.ensures.value) (subst NameEnds same.1 ends)

pub returns-then-not-ends_name-clause-unnamed : goal.returns-then-not-ends_name-clause-unnamed
returns-then-not-ends_name-clause-unnamed c name rest n ends =
    let same = NamesTag-of name _ _ _ rest _ c.in-Some.ensures.value c.in_ok-name.ensures.value n in
    let first = first_of _ _ c.in-Some-first.ensures.value in
    no_name_end-first _ _ _ first.1 (sym c.ends_name.ensures ∙ c.if-not-ends_name.true) (subst NameEnds same.1 ends)

pub returns-in_err-name-clause-bare : goal.returns-in_err-name-clause-bare
returns-in_err-name-clause-bare c none = absurd (none _ c.in-Some.ensures.value)

pub returns-in_default-first-clause-bare : goal.returns-in_default-first-clause-bare
returns-in_default-first-clause-bare c none = absurd (none _ c.in-Some.ensures.value)

pub returns-then-not-ends_name-clause-bare : goal.returns-then-not-ends_name-clause-bare
returns-then-not-ends_name-clause-bare c none = absurd (none _ c.in-Some.ensures.value)

pub returns-clause-bare : goal.returns-clause-bare
returns-clause-bare c none = absurd (none _ c.in-Some.ensures.value)

pub returns-in_default-clause-nameless : goal.returns-in_default-clause-nameless
returns-in_default-clause-nameless c more e h = absurd (c.in_default.ensures.value more e)

pub returns-in_err-name-clause-nameless : goal.returns-in_err-name-clause-nameless
returns-in_err-name-clause-nameless c more e h =
    let same = (cons_parts 60 60 _ more (sym c.in-Some.ensures.value ∙ e)).1 in
    let outside = subst (BeginsOutside is_name_byte) (sym same) h in
    err_given c.from_residual.result c.in_err-name.field-0.0 (length more) c.from_residual.ensures.1
    (err_is _ _ (c.in_err-name.ensures.outside outside) ∙ ap length same)

pub returns-in_default-first-clause-nameless : goal.returns-in_default-first-clause-nameless
returns-in_default-first-clause-nameless c more e h =
    let same = (cons_parts 60 60 _ more (sym c.in-Some.ensures.value ∙ e)).1 in
    absurd (not_err _ _ (c.in_ok-name.ensures.outside (subst (BeginsOutside is_name_byte) (sym same) h)))

pub returns-then-not-ends_name-clause-nameless : goal.returns-then-not-ends_name-clause-nameless
returns-then-not-ends_name-clause-nameless c more e h =
    let same = (cons_parts 60 60 _ more (sym c.in-Some.ensures.value ∙ e)).1 in
    absurd (not_err _ _ (c.in_ok-name.ensures.outside (subst (BeginsOutside is_name_byte) (sym same) h)))

pub returns-clause-nameless : goal.returns-clause-nameless
returns-clause-nameless c more e h =
    let same = (cons_parts 60 60 _ more (sym c.in-Some.ensures.value ∙ e)).1 in
    absurd (not_err _ _ (c.in_ok-name.ensures.outside (subst (BeginsOutside is_name_byte) (sym same) h)))

pub returns-in_default-clause-named : goal.returns-in_default-clause-named
returns-in_default-clause-named c name rest n = absurd (c.in_default.ensures.value n.at_name n.opens)

pub returns-in_err-name-clause-named : goal.returns-in_err-name-clause-named
returns-in_err-name-clause-named c =
    IfErr-any c.from_residual.result
    (
    λ left name rest n. absurd
    (c.in_err-name.ensures.refused name rest
    (subst (λ (b : List ℕ). ReadsName name b rest)
    (cons_parts 60 60 n.at_name _ (sym n.opens ∙ c.in-Some.ensures.value)).1 n.named))
    )

pub returns-in_default-first-clause-named : goal.returns-in_default-first-clause-named
returns-in_default-first-clause-named c name rest n =
    let same = NamesTag-of name _ _ _ rest _ c.in-Some.ensures.value c.in_ok-name.ensures.value n in
    sym (ap length (same.1 ∙ first_none _ c.in_default-first.ensures.value))

pub returns-then-not-ends_name-clause-named : goal.returns-then-not-ends_name-clause-named
returns-then-not-ends_name-clause-named c name rest n =
    let same = NamesTag-of name _ _ _ rest _ c.in-Some.ensures.value c.in_ok-name.ensures.value n in
    sym (ap length same.1)

pub returns-clause-ended : goal.returns-clause-ended
returns-clause-ended c =
    let first = first_of _ _ c.in-Some-first.ensures.value in
    (_, first.0, first.1, sym c.ends_name.ensures ∙ c.if-not-ends_name.false)

pub returns-in_default-clause-leaves : goal.returns-in_default-clause-leaves
returns-in_default-clause-leaves c = NoTag c.in_default.ensures.value refl

pub returns-in_err-name-clause-leaves : goal.returns-in_err-name-clause-leaves
returns-in_err-name-clause-leaves c =
    leaves_past c.from_residual.result c.in_err-name.field-0.0 c.from_residual.ensures.1
    (λ left l. NoTagName _ c.in-Some.ensures.value l) c.in_err-name.ensures.leaves

pub returns-in_default-first-clause-leaves : goal.returns-in_default-first-clause-leaves
returns-in_default-first-clause-leaves c =
    let none = first_none _ c.in_default-first.ensures.value in
    NoNameEnd _ _ (record { at_name = _; opens = c.in-Some.ensures.value; named = c.in_ok-name.ensures.value })
    (no_name_end-none _ none) (sym (ap length none))

pub returns-then-not-ends_name-clause-leaves : goal.returns-then-not-ends_name-clause-leaves
returns-then-not-ends_name-clause-leaves c =
    let first = first_of _ _ c.in-Some-first.ensures.value in
    NoNameEnd _ _ (record { at_name = _; opens = c.in-Some.ensures.value; named = c.in_ok-name.ensures.value })
    (no_name_end-first _ _ _ first.1 (sym c.ends_name.ensures ∙ c.if-not-ends_name.true)) refl

pub returns-clause-shorter : goal.returns-clause-shorter
returns-clause-shorter c = omega (arith, c.in-Some.ensures.shorter, c.in_ok-name.ensures.shorter)

pub returns-clause-value : goal.returns-clause-value
returns-clause-value c = record {
  at_name = c.in-Some.at_name.now;
  opens = c.in-Some.ensures.value;
  named = c.in_ok-name.ensures.value;
}

pub returns-in_default-first-clause-value : goal.returns-in_default-first-clause-value
returns-in_default-first-clause-value c = tt

pub returns-in_default-first-clause-shorter : goal.returns-in_default-first-clause-shorter
returns-in_default-first-clause-shorter c = tt

pub returns-in_default-first-clause-ended : goal.returns-in_default-first-clause-ended
returns-in_default-first-clause-ended c = tt
