use Rattle.std.proofs.Common.{◌∙◌, ℕ, ap, drop, rules, sym}
use Rattle.std.specs.Str.Lossy.{utf8_error_len}
use Rattle.reply_xml.proofs.FrontOfText.{fault_at_end, fault_at_first, fault_in_char}
use Rattle.reply_xml.proofs.places.utf8_front.Goals as goal

pub returns-in-None-clause-fault : goal.returns-in-None-clause-fault
returns-in-None-clause-fault c bad =
    fault_at_end c.args.bytes.now _ _ c.in-Err.ensures.cases.1.short c.in-Err.ensures.valid_len c.in-Err.ensures.fault
    (search rules)

pub returns-then-is_lead-clause-fault : goal.returns-then-is_lead-clause-fault
returns-then-is_lead-clause-fault c bad =
    fault_in_char c.args.bytes.now c.valid_up_to-valid.result c.in-Some.length c.error_len.result
    (c.valid_up_to-valid.ensures ∙ c.in-Err.ensures.valid_len)
    (c.error_len.ensures ∙ c.in-Err.ensures.fault
    ∙ ap (λ (n : ℕ). utf8_error_len (drop n c.args.bytes.now)) (sym c.valid_up_to-valid.ensures))
    c.in-Some.is (sym c.is_lead.ensures ∙ c.if-is_lead.true)

pub returns-else-is_lead-clause-fault : goal.returns-else-is_lead-clause-fault
returns-else-is_lead-clause-fault c bad =
    fault_at_first c.args.bytes.now c.valid_up_to-valid.result
    (c.valid_up_to-valid.ensures ∙ c.in-Err.ensures.valid_len) (sym c.is_lead.ensures ∙ c.if-is_lead.false)

pub returns-then-is_lead-clause-whole : goal.returns-then-is_lead-clause-whole
returns-then-is_lead-clause-whole c utf8 = absurd (c.in-Err.ensures.cases.0 utf8)

pub returns-else-is_lead-clause-whole : goal.returns-else-is_lead-clause-whole
returns-else-is_lead-clause-whole c utf8 = absurd (c.in-Err.ensures.cases.0 utf8)
