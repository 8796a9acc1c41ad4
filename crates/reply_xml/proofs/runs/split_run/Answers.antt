use Rattle.std.proofs.Common.{◌≡◌, true, sym, ◌∙◌}
use Rattle.std.proofs.lemmas.List.Elements.{All-more}
use Rattle.reply_xml.specs.Runs.{is_of}
use Rattle.reply_xml.proofs.RunLemmas.{ReadsRun-to, ReadsRun-whole}
use Rattle.reply_xml.proofs.runs.split_run.Goals as goal

pub returns-then-not-is_of-clause-value : goal.returns-then-not-is_of-clause-value
returns-then-not-is_of-clause-value c =
    ReadsRun-to c.args.sort c.args.bytes.now _ _ c.loop-i.i c.loop-i-test.true c.split_at.ensures.front
    c.split_at.ensures.back c.loop-i.invariant
    (sym c.is_of.ensures ∙ c.if-not-is_of.true)

pub loop-i-preserved : goal.loop-i-preserved
loop-i-preserved c =
    All-more (λ byte. is_of c.args.sort byte ≡ true) c.args.bytes.now c.loop-i.i 0 c.loop-i-test.true c.loop-i.invariant
    (sym c.is_of.ensures ∙ c.if-not-is_of.false)

pub returns-clause-value : goal.returns-clause-value
returns-clause-value c = ReadsRun-whole c.args.sort c.args.bytes.now c.loop-i.i c.loop-i-test.false c.loop-i.invariant
