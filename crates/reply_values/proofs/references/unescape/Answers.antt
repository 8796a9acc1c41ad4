use Rattle.std.proofs.Common.{◌≡◌, ◌-◌, ℕ, length, Result, Err, not, ◌==◌, sym, rules}
use Rattle.std.specs.Prelude.{encode_utf8}
use Rattle.std.specs.String.{string_bytes}
use Rattle.std.proofs.lemmas.List.Sums.{list_all-from_AllPass}
use Rattle.reply_values.specs.declared.references.ReferenceFault.{ReferenceFault}
use Rattle.reply_values.specs.declared.references.ReferenceFault.TheVariants.{Bad}
use Rattle.reply_values.proofs.UnescapeLemmas.{bad_at, bad_spells_none, unescaped_more, reference_more}
use Rattle.reply_values.proofs.references.unescape.Goals as goal

same_place : {T : Type 0} {a b : ℕ} → ◌≡◌ {A = Result T ReferenceFault} (Err (Bad a)) (Err (Bad b)) → a ≡ b
same_place e = cc

pub returns-in_default-reference-clause-bad : goal.returns-in_default-reference-clause-bad
returns-in_default-reference-clause-bad c = λ place e.
    let inv = c.loop-plain.invariant.1 in
    let plain = c.in-Some.plain in
    let behind = c.in-Some.behind in
    let lacks = list_all-from_AllPass (λ b. not (b == 38)) plain.now c.in-Some.ensures.first in
    let at : place ≡ length c.args.raw.now - length behind.now - 1 = sym (same_place e) in
    bad_at c.args.raw.now inv.0 c.loop-plain.rest.now plain.now behind.now
    (string_bytes c.loop-plain.text) place inv.1 c.in-Some.ensures.value
    lacks inv.2 c.in_default-reference.ensures.refused at

pub returns-in_default-reference-clause-refused : goal.returns-in_default-reference-clause-refused
returns-in_default-reference-clause-refused c = λ place e. bad_spells_none c.args.raw.now place
    (returns-in_default-reference-clause-bad c place e)

pub loop-plain-preserved : goal.loop-plain-preserved
loop-plain-preserved c =
    let inv = c.loop-plain.invariant.1 in
    let plain = c.in-Some.plain in
    let behind = c.in-Some.behind in
    let next = c.in-Some-reference.next.now in
    let lacks = list_all-from_AllPass (λ b. not (b == 38)) plain.now c.in-Some.ensures.first in
    let before = rw c.if-is_err.ensures.negation at c.push_str.ensures.bytes in
    let bytes = rw c.if-is_err-2.ensures.negation at c.push.ensures.bytes in
    let step = reference_more c.args.raw.now inv.0 c.loop-plain.rest.now plain.now behind.now
    (string_bytes c.loop-plain.text) (encode_utf8 c.in-Some-reference.char) next inv.1 c.in-Some.ensures.value
    lacks inv.2 c.in-Some-reference.ensures.value in
    (search rules, (step.0, step.1, rw (bytes, before) step.2))

pub returns-clause-value : goal.returns-clause-value
returns-clause-value c =
    let inv = c.loop-plain.invariant.1 in
    let rest = c.loop-plain.rest.now in
    let lacks = list_all-from_AllPass (λ b. not (b == 38)) rest c.in_default-split_at_byte.ensures.none in
    let bytes = rw c.if-is_err-3.ensures.negation at c.push_str-2.ensures.bytes in
    rw (c.from.ensures, bytes, inv.1) (unescaped_more inv.0 rest (string_bytes c.loop-plain.text) inv.2 lacks)
