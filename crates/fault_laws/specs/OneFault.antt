-- A document has one fault at most.
use Rattle.std.specs.Prelude.{◌≡◌, ℕ, List, []}
use Rattle.reply_xml.specs.declared.faults.DocFault.{DocFault}
use Rattle.reply_xml.specs.Breaks.{Breaks}
use Rattle.reply_xml.specs.Contents.{Content}
use Rattle.reply_xml.specs.Documents.{IsDocument}
use Rattle.reply_xml.specs.Fits.{Fits}
use Rattle.reply_xml.specs.Tables.{Table}
use Rattle.s3_replies.specs.Encodings.{BreaksPage}

-- the same bytes have no two faults
abbrev pub OneFault : Type 0
OneFault =
    (root : List ℕ) (table : Table) (doc : List ℕ) (a b : DocFault) → Breaks root table doc a → Breaks root table doc b
    → b ≡ a

-- a document in whose elements no fault stands has none
abbrev pub NoFault : Type 0
NoFault =
    (root : List ℕ) (table : Table) (doc : List ℕ) (content : Content) (reason : DocFault) → IsDocument root doc content
    → Fits content table [] → ¬ (Breaks root table doc reason)

-- nor has a page of a listing two, by the table of the encoding that it names
abbrev pub OnePageFault : Type 0
OnePageFault = (doc : List ℕ) (a b : DocFault) → BreaksPage doc a → BreaksPage doc b → b ≡ a
