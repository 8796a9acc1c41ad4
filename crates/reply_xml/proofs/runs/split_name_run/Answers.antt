use Rattle.std.proofs.Common.{◌≡◌, true, sym, ◌∙◌}
use Rattle.std.proofs.lemmas.List.Elements.{All-more}
use Rattle.reply_xml.specs.Runs.{is_name_byte}
use Rattle.reply_xml.specs.declared.runs.Sort.TheVariants as sort
use Rattle.reply_xml.proofs.RunLemmas.{ReadsRun-to, ReadsRun-whole}
use Rattle.reply_xml.proofs.runs.split_name_run.Goals as goal

pub returns-then-not-is_name_byte-clause-value : goal.returns-then-not-is_name_byte-clause-value
returns-then-not-is_name_byte-clause-value c =
    ReadsRun-to sort.Name c.args.bytes.now _ _ c.loop-i.i c.loop-i-test.true c.split_at.ensures.front
    c.split_at.ensures.back c.loop-i.invariant (sym c.is_name_byte.ensures ∙ c.if-not-is_name_byte.true)

pub loop-i-preserved : goal.loop-i-preserved
loop-i-preserved c =
    All-more (λ byte. is_name_byte byte ≡ true) c.args.bytes.now c.loop-i.i 0 c.loop-i-test.true c.loop-i.invariant
    (sym c.is_name_byte.ensures ∙ c.if-not-is_name_byte.false)

pub returns-clause-value : goal.returns-clause-value
returns-clause-value c = ReadsRun-whole sort.Name c.args.bytes.now c.loop-i.i c.loop-i-test.false c.loop-i.invariant
