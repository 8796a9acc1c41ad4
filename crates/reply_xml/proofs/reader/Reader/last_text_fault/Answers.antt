use Rattle.std.proofs.Common.{ap, refl}
use Rattle.reply_xml.specs.declared.faults.DocFault.TheVariants as fault
use Rattle.reply_xml.specs.Breaks.{BadReference, Leaves}
use Rattle.reply_xml.proofs.LeaveLemmas.{last_text_leaves}
use Rattle.reply_xml.proofs.reader.Reader.last_text_fault.Goals as goal

pub returns-in-Ends : goal.returns-in-Ends
returns-in-Ends c =
    Leaves _
    (last_text_leaves _ _ _ c.requires.whole c.in-Ends.ensures.whole
    (λ other. (c.in-Ends.ensures.sound other, c.in-Ends.ensures.fault other)))
    (ap (λ n. fault.NotADocument n) c.place.ensures)

pub returns-in-BadReference : goal.returns-in-BadReference
returns-in-BadReference c =
    BadReference _ _ c.requires.whole c.in-BadReference.ensures.bad (λ none. c.in-BadReference.ensures.uncut refl) refl
