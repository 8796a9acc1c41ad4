-- A code and a message, as they are found.
use Rattle.std.proofs.Common.{◌≡◌, ℕ, true, false, List, [], Option, Some, None, sym, refl, subst, unwrap_or, codes}
use Rattle.std.specs.Option.{IsSome}
use Rattle.reply_xml.specs.declared.elements.Element.TheVariants as element
use Rattle.reply_xml.specs.declared.tags.Child.{Child}
use Rattle.reply_xml.specs.Contents.{Content, Only, is_the}
use Rattle.reply_xml.specs.Documents.{IsOf}
use Rattle.reply_xml.specs.Children.{IsFormed, IsLeafOf}
use Rattle.reply_xml.specs.Places.{HasBytesBehind}
use Rattle.reply_xml.proofs.WholeLemmas.{behind_map}
use Rattle.s3_replies.specs.Errors.{ErrorLeft, HasError, IsError}
use Rattle.reply_xml.specs.Reading.{Advances, Stops, ReadsSome, OnceLeft, AtMostOnceLeft, LeafLeft, AtMostLeft}
use Rattle.reply_xml.proofs.ChildLemmas.{is_other, once_missing}
use Rattle.reply_xml.proofs.TakeLemmas.{Passes, first_advanced, other_advanced, first_stopped, other_stopped, both_pass}
use Rattle.reply_xml.proofs.TakeLemmas.{part_advanced, part_stopped, skipped, named_passes, at_most_advanced}
use Rattle.reply_xml.proofs.TakeLemmas.{at_most_stopped}

abbrev CodeLeft : Option (List ℕ) → Content → List ℕ × Option (List ℕ) → Type 0
CodeLeft code c v = LeafLeft (IsFormed element.Code) element.Code code c v.0

abbrev MessageLeft : Option (List ℕ) → Content → List ℕ × Option (List ℕ) → Type 0
MessageLeft message c v = AtMostLeft (IsFormed element.Message) element.Message message c v.1

code_passes : (code : Option (List ℕ)) (child : Child) → is_the element.Code child.element ≡ false
    → Passes (CodeLeft code) child
code_passes code child h = named_passes (λ cs v. OnceLeft (IsLeafOf (IsFormed element.Code)) code cs v.0) element.Code
    child h

message_passes : (message : Option (List ℕ)) (child : Child) → is_the element.Message child.element ≡ false
    → Passes (MessageLeft message) child
message_passes message child h = named_passes
    (λ cs v. AtMostOnceLeft (IsLeafOf (IsFormed element.Message)) message cs v.1) element.Message child h

pub code_advanced : (code now message : Option (List ℕ)) (child : Child) (bytes rest : List ℕ)
    → is_the element.Code child.element ≡ true
    → Advances (LeafLeft (IsFormed element.Code) element.Code code)
    (LeafLeft (IsFormed element.Code) element.Code now) child bytes rest
    → Advances (ErrorLeft code message) (ErrorLeft now message) child bytes rest
code_advanced code now message child bytes rest h a =
    first_advanced (CodeLeft code) (CodeLeft now) (MessageLeft message) child bytes rest
    (part_advanced (λ v. v.0) (LeafLeft (IsFormed element.Code) element.Code code)
    (LeafLeft (IsFormed element.Code) element.Code now) child bytes rest a)
    (message_passes message child (is_other element.Code element.Message child.element h refl))

pub code_stopped : (code message : Option (List ℕ)) (child : Child) (bytes : List ℕ)
    → Stops (LeafLeft (IsFormed element.Code) element.Code code) child bytes
    → Stops (ErrorLeft code message) child bytes
code_stopped code message child bytes s =
    first_stopped (CodeLeft code) (MessageLeft message) child bytes
    (part_stopped (λ v. v.0) (LeafLeft (IsFormed element.Code) element.Code code) child bytes s)

pub message_advanced : (code message now : Option (List ℕ)) (child : Child) (bytes rest : List ℕ)
    → is_the element.Code child.element ≡ false → is_the element.Message child.element ≡ true
    → Advances (LeafLeft (IsFormed element.Message) element.Message message)
    (LeafLeft (IsFormed element.Message) element.Message now) child bytes rest → message ≡ None → IsSome now
    → Advances (ErrorLeft code message) (ErrorLeft code now) child bytes rest
message_advanced code message now child bytes rest other h a e s =
    other_advanced (CodeLeft code) (MessageLeft message) (MessageLeft now) child bytes rest
    (
    part_advanced (λ v. v.1) (AtMostLeft (IsFormed element.Message) element.Message message)
    (AtMostLeft (IsFormed element.Message) element.Message now) child bytes rest
    (at_most_advanced (IsFormed element.Message) element.Message message now child bytes rest h e s a)
    )
    (code_passes code child other)

pub message_stopped : (code message : Option (List ℕ)) (child : Child) (bytes : List ℕ)
    → is_the element.Message child.element ≡ true
    → Stops (LeafLeft (IsFormed element.Message) element.Message message) child bytes
    → Stops (ErrorLeft code message) child bytes
message_stopped code message child bytes h s =
    other_stopped (CodeLeft code) (MessageLeft message) child bytes
    (part_stopped (λ v. v.1) (AtMostLeft (IsFormed element.Message) element.Message message) child bytes
    (at_most_stopped (IsFormed element.Message) element.Message message child bytes h s))

pub error_skipped : (code message : Option (List ℕ)) (child : Child) (bytes rest : List ℕ)
    → is_the element.Code child.element ≡ false → is_the element.Message child.element ≡ false
    → ReadsSome child bytes rest
    → Advances (ErrorLeft code message) (ErrorLeft code message) child bytes rest
error_skipped code message child bytes rest c m s =
    skipped (ErrorLeft code message) child bytes rest
    (both_pass (CodeLeft code) (MessageLeft message) child (code_passes code child c)
    (message_passes message child m)) s

-- an error, by what is left to be found of it at first
pub error_found : (doc : List ℕ) (error : List ℕ × List ℕ) → IsError doc error
    → (message : Option (List ℕ)) × IsOf (codes "Error") (ErrorLeft None None) doc (error.0, message)
    × (error.1 ≡ unwrap_or message [])
error_found doc error r = (r.2.1.0, (r.0, r.1, (r.2.0, r.2.1.1)), r.2.1.2)

pub error_behind : (doc : List ℕ) (place : ℕ) → HasBytesBehind (codes "Error") HasError doc place
    → HasBytesBehind (codes "Error") (ErrorLeft None None) doc place
error_behind doc place b = behind_map HasError (ErrorLeft None None) (codes "Error") doc place
    (λ content value m. ((value.0, m.1.0), (m.0, m.1.1))) b

pub error_told : (doc code text : List ℕ) (message : Option (List ℕ)) → text ≡ unwrap_or message []
    → IsOf (codes "Error") (ErrorLeft None None) doc (code, message) → IsError doc (code, text)
error_told doc code text message e r = (r.0, r.1, (r.2.0, (message, r.2.1, e)))

-- what is left at the end
pub error_left : (code : List ℕ) (message : Option (List ℕ)) (found said : Option (List ℕ)) (text : List ℕ)
    → found ≡ Some code → said ≡ message → ErrorLeft found said (Only text) (code, message)
error_left code None found said text e f =
    subst (λ (o : Option (List ℕ)). ErrorLeft o said (Only text) (code, None)) (sym e)
    (subst (λ (o : Option (List ℕ)). ErrorLeft (Some code) o (Only text) (code, None)) (sym f) ((refl, refl), refl))
error_left code (Some message) found said text e f =
    subst (λ (o : Option (List ℕ)). ErrorLeft o said (Only text) (code, Some message)) (sym e)
    (subst (λ (o : Option (List ℕ)). ErrorLeft (Some code) o (Only text) (code, Some message)) (sym f)
    ((refl, refl), (refl, refl)))

pub no_code : (found message : Option (List ℕ)) (text : List ℕ) (value : List ℕ × Option (List ℕ)) → found ≡ None
    → ErrorLeft found message (Only text) value → ⊥
no_code found message text value e h =
    once_missing (IsLeafOf (IsFormed element.Code)) value.0
    (subst (λ (o : Option (List ℕ)). OnceLeft (IsLeafOf (IsFormed element.Code)) o [] value.0) e h.0)
