-- A table has one row for an element.
use Rattle.std.proofs.Common.{◌≡◌, ◌∙◌, Bool, true, false, cond, List, [], ◌∷◌, Option, Some, None}
use Rattle.std.proofs.Common.{refl, sym, ap, slice_get}
use Rattle.std.specs.Option.{is_some}
use Rattle.std.proofs.lemmas.Bool.{eqb-true, false≢true}
use Rattle.std.proofs.lemmas.Option.{none-some, same_Some}
use Rattle.reply_xml.specs.declared.elements.Element.{Element}
use Rattle.reply_xml.specs.declared.elements.Element.TheVariants as element
use Rattle.reply_xml.specs.Contents.{is_the, row_of}
use Rattle.reply_xml.specs.Tables.{Done, IsAgain, IsOutside, IsParentOf, IsTextOf, Row, Table, form_in, inside_in}
use Rattle.reply_xml.specs.Unfit.{Form}
use Rattle.reply_xml.proofs.FrontLemmas.{fresh_outside, is_the_row, row_same}

elements : List Element
elements =
    element.Code ∷ element.Message ∷ element.IsTruncated ∷ element.EncodingType ∷ element.NextContinuationToken
    ∷ element.Contents ∷ element.Key ∷ element.LastModified ∷ element.ETag ∷ element.Size ∷ element.CommonPrefixes
    ∷ element.Prefix ∷ element.Buckets ∷ element.Bucket ∷ element.Name ∷ element.CreationDate ∷ element.UploadId ∷ []

at_row : (e : Element) → slice_get elements (row_of e) ≡ Some e
unfolding elements
at_row element.Code = refl
at_row element.Message = refl
at_row element.IsTruncated = refl
at_row element.EncodingType = refl
at_row element.NextContinuationToken = refl
at_row element.Contents = refl
at_row element.Key = refl
at_row element.LastModified = refl
at_row element.ETag = refl
at_row element.Size = refl
at_row element.CommonPrefixes = refl
at_row element.Prefix = refl
at_row element.Buckets = refl
at_row element.Bucket = refl
at_row element.Name = refl
at_row element.CreationDate = refl
at_row element.UploadId = refl

-- an element has one name
pub element_same : (a b : Element) (child : Option Element) → is_the a child ≡ true → is_the b child ≡ true → b ≡ a
element_same a b child h k =
    same_Some b a (sym (at_row b) ∙ ap (slice_get elements) (row_same b a child k h) ∙ at_row a)

pub again_same : (table : Table) (front : List (Option Element)) (child : Option Element) (a b : Element)
    → IsAgain table front child a → IsAgain table front child b → b ≡ a
again_same table front child a b r s = element_same a b child r.same s.same

pub text_same : (table : Table) (child : Option Element) (a b : Element) (form other : Form)
    → IsTextOf table child a form → IsTextOf table child b other → (b ≡ a) × (other ≡ form)
text_same table child a b form other r s =
    let same = element_same a b child r.same s.same in
    (same, same_Some other form (sym s.read_so ∙ ap (form_in table) same ∙ r.read_so))

pub parent_same : (table : Table) (child : Option Element) (a b : Element) (inside other : Table)
    → IsParentOf table child a inside → IsParentOf table child b other → other ≡ inside
parent_same table child a b inside other r s =
    let same = element_same a b child r.same s.same in
    same_Some other inside (sym s.read_so ∙ ap (inside_in table) same ∙ r.read_so)

-- a text is read, or elements are
row_case : (b : Bool) (form form_more : Option Form) (inside : Table) (inside_more : Option Table) (f : Form) (t : Table)
    → cond b form form_more ≡ Some f
    → cond b (cond (is_some form) None (Some inside)) inside_more ≡ Some t
    → (form_more ≡ Some f → inside_more ≡ Some t → ⊥) → ⊥
row_case true None form_more inside inside_more f t e h k = none-some f e
row_case true (Some x) form_more inside inside_more f t e h k = none-some t h
row_case false form form_more inside inside_more f t e h k = k e h

form_or_inside : (table : Table) (of : Element) (form : Form) (inside : Table) → form_in table of ≡ Some form
    → inside_in table of ≡ Some inside → ⊥
form_or_inside Done of form inside e h = none-some form e
form_or_inside (Row other count f t more) of form inside e h =
    row_case (is_the of (Some other)) f (form_in more of) t (inside_in more of) form inside e h
    (form_or_inside more of form inside)

pub text_or_parent : (table : Table) (child : Option Element) (a b : Element) (form : Form) (inside : Table)
    → IsTextOf table child a form → ¬ (IsParentOf table child b inside)
text_or_parent table child a b form inside r s =
    form_or_inside table a form inside r.read_so
    (ap (inside_in table) (element_same b a child s.same r.same) ∙ s.read_so)

other_row : {A : Type 0} (b : Bool) (x y : Option A) → (b ≡ true → ⊥) → y ≡ None → cond b x y ≡ None
other_row true x y differs e = absurd (differs refl)
other_row false x y differs e = e

outside_row : (table : Table) (child : Option Element) (other : Element) → IsOutside table child
    → is_the other child ≡ true → (form_in table other ≡ None) × (inside_in table other ≡ None)
outside_row Done child other out h = (refl, refl)
outside_row (Row of count form inside more) child other out h =
    let apart : is_the other (Some of) ≡ true → ⊥ =
    λ same. false≢true (sym out.0 ∙ is_the_row of other child (sym (eqb-true (row_of other) (row_of of) same)) ∙ h) in
    let rest = outside_row more child other out.1 h in (
      other_row (is_the other (Some of)) form (form_in more other) apart rest.0,
      other_row (is_the other (Some of)) (cond (is_some form) None (Some inside)) (inside_in more other) apart rest.1,
    )

pub outside_or_text : (table : Table) (child : Option Element) (of : Element) (form : Form) → IsOutside table child
    → ¬ (IsTextOf table child of form)
outside_or_text table child of form out t =
    none-some form (sym (outside_row table child of out t.same).0 ∙ t.read_so)

pub outside_or_parent : (table : Table) (child : Option Element) (of : Element) (inside : Table) → IsOutside table child
    → ¬ (IsParentOf table child of inside)
outside_or_parent table child of inside out p =
    none-some inside (sym (outside_row table child of out p.same).1 ∙ p.read_so)

pub outside_again : (table : Table) (front : List (Option Element)) (child : Option Element) (of : Element)
    → IsOutside table child → ¬ (IsAgain table front child of)
outside_again table front child of out again = fresh_outside table front child out of again
