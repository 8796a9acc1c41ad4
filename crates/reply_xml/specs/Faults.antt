-- What a fault says of a document.
use Rattle.std.specs.Prelude.{◌≡◌, ◌≤◌, ⊤, ℕ, Result, Ok, Err}
use Rattle.reply_xml.specs.declared.texts.TextFault.{TextFault}
use Rattle.reply_xml.specs.declared.texts.TextFault.TheVariants as text_fault
use Rattle.reply_xml.specs.declared.faults.DocFault.{DocFault}
use Rattle.reply_xml.specs.declared.faults.DocFault.TheVariants as fault

-- every fault but memory that ran out says that P holds
abbrev pub Tells : DocFault → Type 0 → Type 0
Tells fault.Memory P = ⊤
Tells other P = P

-- P, where the answer is a fault other than memory that ran out
abbrev pub IfRefused : {T : Type 0} → Result T DocFault → Type 0 → Type 0
IfRefused (Ok value) P = ⊤
IfRefused (Err reason) P = Tells reason P

-- the fault is this one, or memory ran out
abbrev pub IsSameFault : (wanted found : DocFault) → Type 0
IsSameFault wanted fault.Memory = ⊤
IsSameFault wanted other = other ≡ wanted

-- the answer is this fault, or memory ran out
abbrev pub IsFault : {T : Type 0} → Result T DocFault → DocFault → Type 0
IsFault (Ok value) wanted = ⊥
IsFault (Err found) wanted = IsSameFault wanted found

-- a text cannot go on behind a place of its own
abbrev pub EndsIn : TextFault → ℕ → Type 0
EndsIn (text_fault.Ends place) size = place ≤ size
EndsIn other size = ⊤

-- P, where a text cannot go on behind this place
abbrev pub OnEnds : TextFault → (ℕ → Type 0) → Type 0
OnEnds (text_fault.Ends place) P = P place
OnEnds other P = ⊤

abbrev pub IfEnds : {T : Type 0} → Result T TextFault → (ℕ → Type 0) → Type 0
IfEnds (Ok value) P = ⊤
IfEnds (Err fault) P = OnEnds fault P

abbrev pub EndsWithin : {T : Type 0} → Result T TextFault → ℕ → Type 0
EndsWithin (Ok value) size = ⊤
EndsWithin (Err fault) size = EndsIn fault size

-- every fault of a text but memory that ran out says that P holds
abbrev pub TextTells : TextFault → Type 0 → Type 0
TextTells text_fault.Memory P = ⊤
TextTells other P = P

-- P, where a text is refused for another reason than memory that ran out
abbrev pub TellsText : {T : Type 0} → Result T TextFault → Type 0 → Type 0
TellsText (Ok value) P = ⊤
TellsText (Err fault) P = TextTells fault P

-- P, where a reference of a text is bad
abbrev pub OnBad : TextFault → Type 0 → Type 0
OnBad text_fault.BadReference P = P
OnBad other P = ⊤

abbrev pub IfBad : {T : Type 0} → Result T TextFault → Type 0 → Type 0
IfBad (Ok value) P = ⊤
IfBad (Err fault) P = OnBad fault P
