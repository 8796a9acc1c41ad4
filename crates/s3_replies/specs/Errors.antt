-- The document that names an error (Amazon S3 API Reference, "Error responses").
use Rattle.std.specs.Prelude.{◌≡◌, ℕ, List, [], Option, Some, unwrap_or, codes}
use Rattle.reply_xml.specs.declared.elements.Element.{Element}
use Rattle.reply_xml.specs.declared.elements.Element.TheVariants as element
use Rattle.reply_xml.specs.Contents.{Content, named}
use Rattle.reply_xml.specs.Children.{AtMostOnce, HasLeaf, IsFormed, IsLeafOf}
use Rattle.reply_xml.specs.Documents.{IsOf}
use Rattle.reply_xml.specs.Reading.{AtMostLeft, LeafLeft}
use Rattle.reply_xml.specs.Tables.{AtMostOne, Done, ExactlyOnce, IsFound, Row, Table}
use Rattle.reply_xml.specs.Unfit.{OwnForm}

-- the code, and the message, which is empty where it is absent
abbrev pub HasError : Content → List ℕ × List ℕ → Type 0
HasError content value =
    HasLeaf element.Code content value.0
    × ((message : Option (List ℕ))
    × AtMostOnce (IsLeafOf (IsFormed element.Message)) (named element.Message content) message
    × (value.1 ≡ unwrap_or message []))

abbrev pub IsError : List ℕ → List ℕ × List ℕ → Type 0
IsError = IsOf (codes "Error") HasError

-- what is left to be found of a code and a message
abbrev pub ErrorLeft : (code message : Option (List ℕ)) → Content → List ℕ × Option (List ℕ) → Type 0
ErrorLeft code message content value =
    LeafLeft (IsFormed element.Code) element.Code code content value.0
    × AtMostLeft (IsFormed element.Message) element.Message message content value.1

-- the elements of an error
abbrev pub error_table : Table
error_table = Row element.Code ExactlyOnce (Some OwnForm) Done (Row element.Message AtMostOne (Some OwnForm) Done Done)

-- those that stood in front were found
abbrev pub KnowsError : (code message : Option (List ℕ)) → List (Option Element) → Type 0
KnowsError code message front = IsFound element.Code code front × IsFound element.Message message front
