use Rattle.std.proofs.Common.{ℕ, List, Err, ap, inl, sym, subst, ◌==◌, not}
use Rattle.std.proofs.lemmas.List.Sums.{list_all-from_AllPass}
use Rattle.reply_values.specs.References.{IsUnescaped}
use Rattle.reply_values.proofs.ReferenceLemmas.{Lacks}
use Rattle.reply_values.proofs.UnescapeLemmas.{plain_run}
use Rattle.reply_xml.proofs.LeaveLemmas.{OnEnds-any, OnEnds-both, TextTells-any}
use Rattle.reply_xml.proofs.texts.read_meaning.Goals as goal

pub returns-then-not-referenced-clause-value : goal.returns-then-not-referenced-clause-value
returns-then-not-referenced-clause-value c =
    let lacks : Lacks 38 c.args.bytes.now =
    list_all-from_AllPass (λ b. not (b == 38)) c.args.bytes.now (c.requires.plain c.if-not-referenced.true) in
    let raw = c.in-Some.raw.now in (
      c.in-Some.ensures.1,
      subst (λ (b : List ℕ). IsUnescaped b raw) c.in-Some.ensures.0
          (plain_run raw (subst (Lacks 38) (sym c.in-Some.ensures.0) lacks)),
    )

pub returns-in-Err-Bad-clause-refused : goal.returns-in-Err-Bad-clause-refused
returns-in-Err-Bad-clause-refused c utf8 text s =
    c.in-Err-Bad.ensures.refused c.in-Err-Bad.field-0-0 (ap Err c.in-Err-Bad.field-0-is) text
    (subst (λ (b : List ℕ). IsUnescaped b text) (sym c.in-Some.ensures.0) s)

pub returns-in_default-clause-broken : goal.returns-in_default-clause-broken
returns-in_default-clause-broken c = OnEnds-any c.text_fault.result (λ place. c.in_default.ensures)

pub returns-in-Err-Bad-clause-bad : goal.returns-in-Err-Bad-clause-bad
returns-in-Err-Bad-clause-bad c = (
  c.in-Some.raw.now,
  c.in-Err-Bad.field-0-0,
  inl (c.in-Some.ensures.0, c.in-Some.ensures.1),
  c.in-Err-Bad.ensures.bad c.in-Err-Bad.field-0-0 (ap Err c.in-Err-Bad.field-0-is),
)

pub returns-in_default-clause-sound : goal.returns-in_default-clause-sound
returns-in_default-clause-sound c =
    OnEnds-both c.text_fault.result (λ place sound fault. (sound c.in_default.ensures, fault c.in_default.ensures))
    c.text_fault.ensures.sound c.text_fault.ensures.fault

pub returns-in_default-clause-refused : goal.returns-in_default-clause-refused
returns-in_default-clause-refused c =
    TextTells-any c.text_fault.result (λ utf8. absurd (c.in_default.ensures utf8))

pub returns-in-Ok-clause-value : goal.returns-in-Ok-clause-value
returns-in-Ok-clause-value c = (
  c.in-Some.ensures.1,
  subst (λ (b : List ℕ). IsUnescaped b c.in-Ok.text) c.in-Some.ensures.0 c.in-Ok.ensures.value,
)
