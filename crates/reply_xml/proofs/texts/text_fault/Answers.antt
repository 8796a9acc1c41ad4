use Rattle.std.proofs.Common.{◌∙◌, ℕ, ap, inl, inr, refl, subst, take}
use Rattle.reply_values.specs.References.{GoesOn}
use Rattle.reply_xml.proofs.LeaveLemmas.{sound_goes_on}
use Rattle.reply_xml.proofs.texts.text_fault.Goals as goal

pub returns-in-None-clause-whole : goal.returns-in-None-clause-whole
returns-in-None-clause-whole c utf8 =
    let good = c.in-None.ensures.good in
    (refl, subst GoesOn c.in-Ok.ensures.cases.0 (sound_goes_on c.in-Ok.raw.now good.0 good.1))

pub returns-in-Some-clause-whole : goal.returns-in-Some-clause-whole
returns-in-Some-clause-whole c utf8 =
    (refl, subst GoesOn c.in-Ok.ensures.cases.0 (c.in-Some.ensures.cut_short.0 c.if-found.true))

pub returns-in-Some-clause-sound : goal.returns-in-Some-clause-sound
returns-in-Some-clause-sound c bad = absurd (bad c.in-Ok.ensures.cases.1)

pub returns-in-Some-clause-fault : goal.returns-in-Some-clause-fault
returns-in-Some-clause-fault c bad = absurd (bad c.in-Ok.ensures.cases.1)

pub returns-in-None-clause-sound : goal.returns-in-None-clause-sound
returns-in-None-clause-sound c bad = absurd (bad c.in-Ok.ensures.cases.1)

pub returns-in-None-clause-fault : goal.returns-in-None-clause-fault
returns-in-None-clause-fault c bad = absurd (bad c.in-Ok.ensures.cases.1)

pub returns-in-Some-2-clause-bad : goal.returns-in-Some-2-clause-bad
returns-in-Some-2-clause-bad c = (
  c.in-Ok.raw.now,
  c.in-Some-2.field-0.place,
  inl (c.in-Ok.ensures.cases.0, c.in-Ok.ensures.cases.1),
  c.in-Some-2.ensures.bad,
)

pub returns-in-Some-2-2-clause-bad : goal.returns-in-Some-2-2-clause-bad
returns-in-Some-2-2-clause-bad c = (
  c.in-Ok.raw.now,
  c.in-Some-2.field-0.place,
  inl (c.in-Ok.ensures.cases.0, c.in-Ok.ensures.cases.1),
  c.in-Some-2.ensures.bad,
)

pub returns-in-None-bad_reference-clause-whole : goal.returns-in-None-bad_reference-clause-whole
returns-in-None-bad_reference-clause-whole c utf8 = absurd (c.in-Err.ensures.cases.0 utf8)

pub returns-in-None-bad_reference-clause-sound : goal.returns-in-None-bad_reference-clause-sound
returns-in-None-bad_reference-clause-sound c bad = (
  c.valid_front.result.now,
  inr (
    _,
    c.in-Err.ensures.cases.1,
    c.valid_front.ensures ∙ ap (λ (n : ℕ). take n c.args.bytes.now) c.valid_up_to.ensures,
  ),
  c.in-None-bad_reference.ensures.good,
)

pub returns-in-Some-bad_reference-clause-bad : goal.returns-in-Some-bad_reference-clause-bad
returns-in-Some-bad_reference-clause-bad c = (
  c.valid_front.result.now,
  c.in-Some-bad_reference.field-0.place,
  inr (
    _,
    c.in-Err.ensures.cases.1,
    c.valid_front.ensures ∙ ap (λ (n : ℕ). take n c.args.bytes.now) c.valid_up_to.ensures,
  ),
  c.in-Some-bad_reference.ensures.bad,
)

pub returns-in-Some-clause-bad : goal.returns-in-Some-clause-bad
returns-in-Some-clause-bad c = tt

pub returns-in-Some-clause-uncut : goal.returns-in-Some-clause-uncut
returns-in-Some-clause-uncut c = tt
