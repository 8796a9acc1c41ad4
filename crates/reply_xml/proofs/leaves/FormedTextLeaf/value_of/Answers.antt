use Rattle.reply_xml.proofs.FaultLemmas.{refused_so}
use Rattle.reply_xml.proofs.leaves.FormedTextLeaf.value_of.Goals as goal

pub returns-clause-refused : goal.returns-clause-refused
returns-clause-refused c = refused_so c.text_of.result (λ h. absurd h) c.text_of.ensures.memory
