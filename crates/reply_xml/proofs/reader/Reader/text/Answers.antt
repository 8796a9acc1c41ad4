use Rattle.std.proofs.Common.{arith, sym, ◌∙◌, ap, refl}
use Rattle.reply_xml.proofs.FaultLemmas.{Tells-any, bad_told, ends_told}
use Rattle.reply_xml.proofs.ContentLemmas.{no_meaning, no_text, no_text_at_end}
use Rattle.reply_xml.specs.declared.faults.DocFault.TheVariants as fault
use Rattle.reply_xml.specs.Breaks.{BadReference, Leaves}
use Rattle.reply_xml.specs.Leaves.{NotUtf8}
use Rattle.reply_xml.proofs.LeaveLemmas.{bad_at, ends_at, ends_within, text_ends}
use Rattle.reply_xml.proofs.RunLemmas.{run_within}
use Rattle.reply_xml.proofs.Utf8Lemmas.{judged, judged_on, text_parts}
use Rattle.reply_xml.proofs.reader.Reader.text.Goals as goal
use Rattle.shared_lemmas.proofs.Lists.{none_from_test, some_from_test}

pub returns-then-is_empty-clause-refused : goal.returns-then-is_empty-clause-refused
returns-then-is_empty-clause-refused c =
    Tells-any c.last_text_fault.result
    (λ text rest r. no_text_at_end _ _ _ text rest c.split_text-referenced.ensures.value
    (none_from_test _ (sym c.is_empty.ensures ∙ c.if-is_empty.true)) r)

pub returns-in-Err-Ends-clause-refused : goal.returns-in-Err-Ends-clause-refused
returns-in-Err-Ends-clause-refused c text rest r =
    no_meaning _ _ _ text _ c.split_text-referenced.ensures.value
    (ends_told c.in-Err-Ends.field-0 _ c.in-Err-Ends.field-0-is c.in-Err-Ends.ensures.refused) r

pub returns-in-Err-BadReference-clause-refused : goal.returns-in-Err-BadReference-clause-refused
returns-in-Err-BadReference-clause-refused c text rest r =
    no_meaning _ _ _ text _ c.split_text-referenced.ensures.value
    (bad_told c.in-Err-BadReference.field-0 c.in-Err-BadReference.field-0-is c.in-Err-BadReference.ensures.refused) r

pub last_text_fault-requires-whole : goal.last_text_fault-requires-whole
last_text_fault-requires-whole c lifetimes =
    let run = text_ends _ _ _ c.split_text-referenced.ensures.value
    (none_from_test _ (sym c.is_empty.ensures ∙ c.if-is_empty.true)) in
    (run_within _ _ _ _ run, run)

pub returns-in-Err-Ends-clause-broken : goal.returns-in-Err-Ends-clause-broken
returns-in-Err-Ends-clause-broken c =
    let fails = c.in-Err-Ends in
    Leaves _
    (
    NotUtf8 fails.place _ _ c.split_text-referenced.ensures.value
    (ends_at _ fails.field-0 fails.place fails.field-0-is fails.ensures.broken)
    (ends_at _ fails.field-0 fails.place fails.field-0-is fails.ensures.sound).0
    (ends_at _ fails.field-0 fails.place fails.field-0-is fails.ensures.sound).1 refl
    )
    (ap (λ n. fault.NotADocument n) (rw fails.field-0-is at c.place.ensures))

pub returns-in-Err-BadReference-clause-broken : goal.returns-in-Err-BadReference-clause-broken
returns-in-Err-BadReference-clause-broken c =
    let bad = c.in-Err-BadReference in
    BadReference _ _ c.split_text-referenced.ensures.value (bad_at _ bad.field-0 bad.field-0-is bad.ensures.bad)
    (λ none. absurd (some_from_test _ (sym c.is_empty.ensures ∙ c.if-is_empty.false) none)) refl

pub invariant_of-self-clause-judged : goal.invariant_of-self-clause-judged
invariant_of-self-clause-judged c =
    let followed = some_from_test _ (sym c.is_empty.ensures ∙ c.if-is_empty.false) in
    judged_on _ _ _ c.args.self.now.judged
    (λ utf8. (text_parts _ _ _ c.split_text-referenced.ensures.value followed utf8).1)

pub read_meaning-requires-clause-sound : goal.read_meaning-requires-clause-sound
read_meaning-requires-clause-sound c sound =
    let followed = some_from_test _ (sym c.is_empty.ensures ∙ c.if-is_empty.false) in
    (text_parts _ _ _ c.split_text-referenced.ensures.value followed (judged _ _ c.args.self.now.judged sound)).0

pub overflow_sub-self : goal.overflow_sub-self
overflow_sub-self c =
    omega (
      arith,
      run_within _ _ _ _ c.split_text-referenced.ensures.value,
      ends_within _ _ _ c.in-Err-Ends.field-0-is c.in-Err-Ends.ensures.place,
    )

pub returns-then-at_tag-clause-value : goal.returns-then-at_tag-clause-value
returns-then-at_tag-clause-value c = no_text _ _ c.if-at_tag.ensures.1
