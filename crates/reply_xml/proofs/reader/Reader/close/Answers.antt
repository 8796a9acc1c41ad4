use Rattle.std.proofs.Common.{◌-◌, ◌∙◌, [], Err, ap, length, sym, refl}
use Rattle.reply_xml.specs.declared.faults.DocFault.TheVariants as fault
use Rattle.reply_xml.specs.declared.runs.Sort.TheVariants as sort
use Rattle.reply_xml.proofs.RunLemmas.{ReadsRun-same}
use Rattle.reply_xml.proofs.reader.Reader.close.Goals as goal
use Rattle.shared_lemmas.proofs.Lists.{none_from_test, some_from_test}

pub returns-then-not-is_empty-clause-refused : goal.returns-then-not-is_empty-clause-refused
returns-then-not-is_empty-clause-refused c space =
    some_from_test _ (sym c.is_empty.ensures ∙ c.if-not-is_empty.true)
    (sym (ReadsRun-same sort.Space _ space.0 _ _ [] c.split_run.ensures.value space.1).1)

pub returns-then-not-is_empty-clause-behind : goal.returns-then-not-is_empty-clause-behind
returns-then-not-is_empty-clause-behind c more space some =
    ap (λ n. Err (fault.NotADocument (c.args.size - n)))
    (sym (ap length (ReadsRun-same sort.Space _ space.0 _ _ more c.split_run.ensures.value space.1).1))

pub returns-clause-behind : goal.returns-clause-behind
returns-clause-behind c more space some =
    absurd
    (some ((ReadsRun-same sort.Space _ space.0 _ _ more c.split_run.ensures.value space.1).1 ∙ none_from_test _
    (sym c.is_empty.ensures ∙ c.if-not-is_empty.false)))

pub returns-then-not-is_empty-clause-broken : goal.returns-then-not-is_empty-clause-broken
returns-then-not-is_empty-clause-broken c =
    (_, (_, c.split_run.ensures.value), some_from_test _ (sym c.is_empty.ensures ∙ c.if-not-is_empty.true), refl)
