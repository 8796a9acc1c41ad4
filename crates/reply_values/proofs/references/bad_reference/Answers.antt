use Rattle.std.proofs.Common.{◌≡◌, ◌++◌, ◌∷◌, ◌∙◌, [], not, ◌==◌, ap, refl, sym, rules}
use Rattle.std.specs.Prelude.{encode_utf8}
use Rattle.std.proofs.lemmas.List.{append_assoc}
use Rattle.std.proofs.lemmas.List.Sums.{list_all-from_AllPass}
use Rattle.reply_values.specs.References.{StandsForText}
use Rattle.reply_values.proofs.SpellingLemmas.{spells_nothing}
use Rattle.reply_values.proofs.CutLemmas.{cut_goes_on, goes_on_cut}
use Rattle.reply_values.proofs.UnescapeLemmas.{bad_at, unescaped_more, reference_more}
use Rattle.reply_values.proofs.references.bad_reference.Goals as goal

pub loop-plain-init : goal.loop-plain-init
loop-plain-init c = (search rules, ([], [], refl, spells_nothing StandsForText))

pub returns-in_default-reference-clause-bad : goal.returns-in_default-reference-clause-bad
returns-in_default-reference-clause-bad c =
    let inv = c.loop-plain.invariant.1 in
    let plain = c.in-Some._plain in
    let behind = c.in-Some.behind in
    let lacks = list_all-from_AllPass (λ b. not (b == 38)) plain.now c.in-Some.ensures.first in
    bad_at c.args.raw.now inv.0 c.loop-plain.rest.now plain.now behind.now inv.1 _ inv.2 c.in-Some.ensures.value
    lacks inv.3 c.in_default-reference.ensures.refused refl

pub returns-in_default-reference-clause-cut_short : goal.returns-in_default-reference-clause-cut_short
returns-in_default-reference-clause-cut_short c =
    let inv = c.loop-plain.invariant.1 in
    let plain = c.in-Some._plain in
    let behind = c.in-Some.behind in
    let raw = c.args.raw.now in
    let lacks = list_all-from_AllPass (λ b. not (b == 38)) plain.now c.in-Some.ensures.first in
    let split : raw ≡ (inv.0 ++ plain.now) ++ (38 ∷ behind.now) =
    inv.2 ∙ ap (λ t. inv.0 ++ t) c.in-Some.ensures.value ∙ sym (append_assoc inv.0 plain.now (38 ∷ behind.now)) in
    let front = unescaped_more inv.0 plain.now inv.1 inv.3 lacks in (
      λ h. cut_goes_on raw (inv.0 ++ plain.now) behind.now (inv.1 ++ plain.now) split front
          (c.may_begin_reference.ensures.0 h),
      λ more. c.may_begin_reference.ensures.1
          (goes_on_cut raw (inv.0 ++ plain.now) behind.now (inv.1 ++ plain.now) split front
          c.in_default-reference.ensures.refused more),
    )

pub loop-plain-preserved : goal.loop-plain-preserved
loop-plain-preserved c =
    let inv = c.loop-plain.invariant.1 in
    let plain = c.in-Some._plain in
    let behind = c.in-Some.behind in
    let next = c.in-Some-reference.next.now in
    let lacks = list_all-from_AllPass (λ b. not (b == 38)) plain.now c.in-Some.ensures.first in
    let step = reference_more c.args.raw.now inv.0 c.loop-plain.rest.now plain.now behind.now inv.1
    (encode_utf8 c.in-Some-reference._char) next inv.2 c.in-Some.ensures.value
    lacks inv.3 c.in-Some-reference.ensures.value in
    (search rules, (step.0, inv.1 ++ plain.now ++ encode_utf8 c.in-Some-reference._char, step.1, step.2))

pub returns-clause-good : goal.returns-clause-good
returns-clause-good c =
    let inv = c.loop-plain.invariant.1 in
    let rest = c.loop-plain.rest.now in
    let lacks = list_all-from_AllPass (λ b. not (b == 38)) rest c.in_default.ensures.none in
    (inv.1 ++ rest, rw inv.2 (unescaped_more inv.0 rest inv.1 inv.3 lacks))
