use Rattle.std.proofs.Common.{ap}
use Rattle.reply_xml.specs.declared.faults.DocFault.TheVariants as fault
use Rattle.reply_xml.proofs.Utf8Lemmas.{behind_end_tag, judged_on}
use Rattle.reply_xml.proofs.reader.Reader.end_tag.Goals as goal

pub returns-in-Err-clause-broken : goal.returns-in-Err-clause-broken
returns-in-Err-clause-broken c =
    (c.in-Err.left, c.in-Err.ensures.leaves, ap (λ n. fault.NotADocument n) c.place.ensures)

pub invariant_of-self-clause-judged : goal.invariant_of-self-clause-judged
invariant_of-self-clause-judged c =
    judged_on _ _ _ c.args.self.now.judged (behind_end_tag c.args.name.now _ _ c.in-Ok.ensures.value)
