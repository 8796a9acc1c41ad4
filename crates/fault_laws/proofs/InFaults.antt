-- What stands behind a tag has one fault.
use Rattle.std.proofs.Common.{◌≡◌, ◌∙◌, ◌-◌, ◌⊎◌, ⊎_elim, ℕ, Bool, true, false, List, [], ◌∷◌, Option, Some, None}
use Rattle.std.proofs.Common.{refl, sym, ap, subst, arith, inl, inr}
use Rattle.std.specs.Bool.{MatchBool}
use Rattle.std.proofs.lemmas.Bool.{cases_Bool, false≢true}
use Rattle.std.proofs.lemmas.Option.{none-some, same_Some}
use Rattle.reply_values.specs.References.{IsUnescaped}
use Rattle.reply_xml.specs.declared.elements.Element.{Element}
use Rattle.reply_xml.specs.declared.faults.DocFault.{DocFault}
use Rattle.reply_xml.specs.declared.faults.DocFault.TheVariants as fault
use Rattle.reply_xml.specs.declared.tags.Child.{Child}
use Rattle.reply_xml.specs.declared.tags.Tag.{Tag}
use Rattle.reply_xml.specs.Breaks.{Again, AtEndTag, AtStart, AtText, Behind, BehindLeafTag, BehindName, BehindOtherTag}
use Rattle.reply_xml.specs.Breaks.{BehindTag, BreaksElement, BreaksIn, BreaksLeaf, BreaksText, InLeaf, InOther, InTag}
use Rattle.reply_xml.specs.Breaks.{InText, Inside, Lacks, NoEndBehind, StandsAgain, TooLow, Unfit}
use Rattle.reply_xml.specs.Contents.{ReadsText}
use Rattle.reply_xml.specs.Elements.{element_named}
use Rattle.reply_xml.specs.Fits.{Fits, FitsChild, ReadsWell}
use Rattle.reply_xml.specs.Leaves.{LeavesEndTag, LeavesStart, LeavesTagEnd, NoNameEnd, NoTag, NoTagName}
use Rattle.reply_xml.specs.Reading.{AtEnd, IsTagOf, NamesChild, ReadsElement}
use Rattle.reply_xml.specs.Tables.{Done, IsAgain, IsFresh, IsOutside, IsParentOf, IsTextOf, Table, first_missing}
use Rattle.reply_xml.specs.Tags.{NameEnds, NamesTag}
use Rattle.reply_xml.specs.Unfit.{Form}
use Rattle.reply_xml.proofs.ContentLemmas.{ReadsText-same}
use Rattle.fault_laws.proofs.LeafFaults.{BreaksLeaf-same, leaf_whole, nil_or, starts_some}
use Rattle.fault_laws.proofs.LeavesSame.{LeavesEndTag-same, LeavesStart-same, LeavesTagEnd-same, start_left, tag_end_left}
use Rattle.reply_xml.proofs.OpenLemmas.{ReadsElement-same, inner_at, inner_of}
use Rattle.fault_laws.proofs.TablesSame.{again_same, outside_again, outside_or_parent, outside_or_text, parent_same}
use Rattle.fault_laws.proofs.TablesSame.{text_or_parent, text_same}
use Rattle.reply_xml.proofs.TagLemmas.{NamesTag-same, ReadsName-first, ReadsTagEnd-same}
use Rattle.fault_laws.proofs.TextsSame.{BreaksText-same, stands_same, text_at_end, text_whole}
use Rattle.fault_laws.proofs.WellFaults.{all_fit, fits_again, fits_parent, fits_text, well_breaks}
use Rattle.s3_replies.proofs.EncodingLemmas.{ends_open}
use Rattle.shared_lemmas.proofs.Lists.{cons_parts, no_nil}

-- tags that differ in nothing but where their names stand
pub record IsLike (tag other : Tag) : Type 0 where
  pub closed : other.closed ≡ tag.closed
  pub room : other.room ≡ tag.room
  pub name : other.name.now ≡ tag.name.now

leaf_moved : (size : ℕ) (reason : DocFault) (form : Form) (of : Element) (tag other : Tag) (bytes : List ℕ)
    → IsLike tag other → BreaksLeaf size reason form of tag bytes → BreaksLeaf size reason form of other bytes
leaf_moved size reason form of tag other bytes like (InText plain t) = InText (like.closed ∙ plain) t
leaf_moved size reason form of tag other bytes like (Unfit text rest has some unfit) =
    Unfit text rest
    (subst
    (λ (b : Bool). MatchBool b ((text ≡ []) × (rest ≡ bytes))
    ((raw : List ℕ) × ReadsText raw bytes rest × IsUnescaped raw text)) (sym like.closed) has)
    (λ e. some (sym like.closed ∙ e)) unfit
leaf_moved size reason form of tag other bytes like (NoEndBehind raw text end left plain reads unescaped fit leaves is) =
    NoEndBehind raw text end left (like.closed ∙ plain) reads unescaped fit
    (subst (λ (n : List ℕ). LeavesEndTag n end left) (sym like.name) leaves) is

names_moved : (tag other : Tag) (bytes from : List ℕ) (child : Child) → IsLike tag other
    → NamesChild tag.room bytes child from → NamesChild other.room bytes child from
names_moved tag other bytes from child like n = subst (λ (r : ℕ). NamesChild r bytes child from) (sym like.room) n

ends_moved : (tag other : Tag) (bytes at : List ℕ) → IsLike tag other → AtEnd tag bytes at → AtEnd other bytes at
ends_moved tag other bytes at like ends =
    subst
    (λ (b : Bool). MatchBool b (at ≡ bytes)
    ((text : List ℕ) × ReadsText text bytes at × (more : List ℕ) × (at ≡ 60 ∷ 47 ∷ more))) (sym like.closed) ends

pub tag_moved : (size : ℕ) (reason : DocFault) (table : Table) (front : List (Option Element)) (tag other : Tag)
    (bytes : List ℕ) → IsLike tag other → BreaksIn size reason table front tag bytes
    → BreaksIn size reason table front other bytes
tag_moved size reason table front tag other bytes like (AtText plain t) = AtText (like.closed ∙ plain) t
tag_moved size reason table front tag other bytes like (AtStart text at left plain reads apart leaves stands) =
    AtStart text at left (like.closed ∙ plain) reads apart leaves stands
tag_moved size reason table front tag other bytes like (TooLow text at name rest plain reads names ends low is) =
    TooLow text at name rest (like.closed ∙ plain) reads names ends (like.room ∙ low) is
tag_moved size reason table front tag other bytes like (InTag child from left plain names fresh leaves stands) =
    InTag child from left (like.closed ∙ plain) (names_moved tag other bytes from child like names) fresh leaves stands
tag_moved size reason table front tag other bytes like (Again child of from plain names again is) =
    Again child of from (like.closed ∙ plain) (names_moved tag other bytes from child like names) again is
tag_moved size reason table front tag other bytes like
    (InLeaf child inner form of from at plain names fresh is text breaks) =
    InLeaf child inner form of from at (like.closed ∙ plain) (names_moved tag other bytes from child like names) fresh is
    text breaks
tag_moved size reason table front tag other bytes like
    (Inside child inner of inside from at plain names fresh is parent breaks) =
    Inside child inner of inside from at (like.closed ∙ plain) (names_moved tag other bytes from child like names) fresh
    is parent breaks
tag_moved size reason table front tag other bytes like (InOther child inner from at plain names is outside breaks) =
    InOther child inner from at (like.closed ∙ plain) (names_moved tag other bytes from child like names) is outside
    breaks
tag_moved size reason table front tag other bytes like (Behind child from next plain names reads breaks) =
    Behind child from next (like.closed ∙ plain) (names_moved tag other bytes from child like names) reads
    (tag_moved size reason table (child.element ∷ front) tag other next like breaks)
tag_moved size reason table front tag other bytes like (AtEndTag at left plain ends complete leaves stands) =
    AtEndTag at left (like.closed ∙ plain) (ends_moved tag other bytes at like ends) complete
    (subst (λ (n : List ℕ). LeavesEndTag n at left) (sym like.name) leaves) stands
tag_moved size reason table front tag other bytes like (Lacks of at ends first is) =
    Lacks of at (ends_moved tag other bytes at like ends) first is

-- two tags of one element
likes : (child : Child) (tag other : Tag) (from at there : List ℕ) → IsTagOf child tag from at
    → IsTagOf child other from there → IsLike other tag × (there ≡ at)
likes child tag other from at there r s =
    let same = ReadsTagEnd-same tag.closed other.closed from at there r.ends s.ends in (
      record {
        closed = sym same.0;
        room = r.room ∙ sym s.room;
        name = r.name ∙ sym s.name;
      },
      same.1,
    )

-- what the bytes have, where an element stands twice in a proof
pub record IsSameChild (child other : Child) (from there : List ℕ) : Type 0 where
  pub name : other.name.now ≡ child.name.now
  pub element : other.element ≡ child.element
  pub room : other.room ≡ child.room
  pub at : there ≡ from

names_same : (room : ℕ) (bytes from there : List ℕ) (child other : Child) → NamesChild room bytes child from
    → NamesChild room bytes other there → IsSameChild child other from there
names_same room bytes from there child other r s =
    let at = (ReadsText-same r.text s.text bytes r.at_tag s.at_tag r.before s.before).1 in
    let same = NamesTag-same child.name.now other.name.now r.at_tag from there r.names
    (subst (λ (t : List ℕ). NamesTag other.name.now t there) at s.names) in
    let deep = r.deeper in
    let down = s.deeper in
    record {
      name = same.0;
      element = s.known ∙ ap element_named same.0 ∙ sym r.known;
      room = omega (arith, deep, down);
      at = same.1;
    }

tag_for : (child other : Child) (tag : Tag) (from there rest : List ℕ) → IsSameChild child other from there
    → IsTagOf other tag from rest → IsTagOf child tag from rest
tag_for child other tag from there rest same is = record {
  ends = is.ends;
  name = is.name ∙ same.name;
  element = is.element ∙ same.element;
  room = is.room ∙ same.room;
}

element_moved : (size : ℕ) (reason : DocFault) (table : Table) (front : List (Option Element)) (child other : Child)
    (from there : List ℕ) → IsSameChild child other from there → BreaksElement size reason table front other from
    → BreaksElement size reason table front child from
element_moved size reason table front child other from there same (BehindName left fresh leaves stands) =
    BehindName left (subst (λ (e : Option Element). IsFresh table front e) same.element fresh) leaves stands
element_moved size reason table front child other from there same (StandsAgain of again is) =
    StandsAgain of (subst (λ (e : Option Element). IsAgain table front e of) same.element again) is
element_moved size reason table front child other from there same (BehindLeafTag tag form of at fresh is text breaks) =
    BehindLeafTag tag form of at (subst (λ (e : Option Element). IsFresh table front e) same.element fresh)
    (tag_for child other tag from there at same is)
    (subst (λ (e : Option Element). IsTextOf table e of form) same.element text) breaks
element_moved size reason table front child other from there same (BehindTag tag of inside at fresh is parent breaks) =
    BehindTag tag of inside at (subst (λ (e : Option Element). IsFresh table front e) same.element fresh)
    (tag_for child other tag from there at same is)
    (subst (λ (e : Option Element). IsParentOf table e of inside) same.element parent) breaks
element_moved size reason table front child other from there same (BehindOtherTag tag at is outside breaks) =
    BehindOtherTag tag at (tag_for child other tag from there at same is)
    (subst (λ (e : Option Element). IsOutside table e) same.element outside) breaks

element_there : (size : ℕ) (reason : DocFault) (table : Table) (front : List (Option Element)) (child other : Child)
    (from there : List ℕ) → IsSameChild child other from there → BreaksElement size reason table front other there
    → BreaksElement size reason table front child from
element_there size reason table front child other from there same b =
    element_moved size reason table front child other from there same
    (subst (λ (t : List ℕ). BreaksElement size reason table front other t) same.at b)

well_there : (table : Table) (front : List (Option Element)) (child other : Child) (from there next : List ℕ)
    → IsSameChild child other from there → ReadsWell table front other there next → ReadsWell table front child from next
well_there table front child other from there next same w =
    let e = subst (λ (t : List ℕ). ReadsElement other w.0 t next) same.at w.1 in (
      w.0,
      (
        e.0,
        e.1,
        e.2,
        inner_at e.0 e.0 w.0 child.room other.room child.name.now other.name.now e.1 e.1 next refl
            same.room same.name refl e.3,
      ),
      subst (λ (k : Option Element). FitsChild (λ inside. Fits w.0 inside []) table front k w.0) same.element w.2,
    )

-- an element in which no fault stands does not break
well_or_broken : (size : ℕ) (reason : DocFault) (table : Table) (front : List (Option Element)) (child : Child)
    (from next : List ℕ) → ReadsWell table front child from next
    → ¬ (BreaksElement size reason table front child from)
well_or_broken size reason table front child from next w (BehindName left fresh leaves stands) =
    tag_end_left w.1.0 from w.1.1 left w.1.2 leaves
well_or_broken size reason table front child from next w (StandsAgain of again is) =
    fits_again (λ inside. Fits w.0 inside []) table front child.element w.0 of w.2 again
well_or_broken size reason table front child from next w (BehindLeafTag tag form of at fresh is text breaks) =
    let leaf = fits_text (λ inside. Fits w.0 inside []) table front child.element w.0 of form text w.2 in
    leaf_whole size reason form of tag w.0 at next leaf.0 (inner_of child tag w.0 from at next is w.1) leaf.1 leaf.2
    breaks
well_or_broken size reason table front child from next w (BehindTag tag of inside at fresh is parent breaks) =
    well_breaks size reason inside [] tag at next w.0 (inner_of child tag w.0 from at next is w.1)
    (fits_parent (λ inside. Fits w.0 inside []) table front child.element w.0 of inside parent w.2) breaks
well_or_broken size reason table front child from next w (BehindOtherTag tag at is outside breaks) =
    well_breaks size reason Done [] tag at next w.0 (inner_of child tag w.0 from at next is w.1) (all_fit w.0 []) breaks

-- what the end of an element lacks: its end tag, or an element
abbrev EndFault : (size : ℕ) (reason : DocFault) (table : Table) (front : List (Option Element)) (tag : Tag) (at : List ℕ)
    → Type 0
EndFault size reason table front tag at =
    ((first_missing table front ≡ None)
    × ((left : ℕ) × LeavesEndTag tag.name.now at left × (reason ≡ fault.NotADocument (size - left))))
    ⊎ ((of : Element) × (first_missing table front ≡ Some of) × (reason ≡ fault.Missing of))

end_faults_same : (size : ℕ) (a b : DocFault) (table : Table) (front : List (Option Element)) (tag : Tag) (at : List ℕ)
    → EndFault size a table front tag at → EndFault size b table front tag at → b ≡ a
end_faults_same size a b table front tag at (inl r) (inl s) =
    stands_same size r.1.0 s.1.0 a b (LeavesEndTag-same tag.name.now at r.1.0 s.1.0 r.1.1 s.1.1) r.1.2 s.1.2
end_faults_same size a b table front tag at (inl r) (inr s) = absurd (none-some s.0 (sym r.0 ∙ s.1))
end_faults_same size a b table front tag at (inr r) (inl s) = absurd (none-some r.0 (sym s.0 ∙ r.1))
end_faults_same size a b table front tag at (inr r) (inr s) =
    s.2 ∙ ap (λ (e : Element). fault.Missing e) (same_Some s.0 r.0 (sym s.1 ∙ r.1)) ∙ sym r.2

-- the faults behind an wide tag, by what stands there
data View (size : ℕ) (reason : DocFault) (table : Table) (front : List (Option Element)) (tag : Tag)
    (bytes : List ℕ) : Type 0 where
  OfText : BreaksText size reason bytes → View size reason table front tag bytes
  OfStart : (text at : List ℕ) (left : ℕ) → ReadsText text bytes at → ((more : List ℕ) → ¬ (at ≡ 60 ∷ 47 ∷ more))
      → LeavesStart at left → reason ≡ fault.NotADocument (size - left) → View size reason table front tag bytes
  OfDepth : (text at name rest : List ℕ) → ReadsText text bytes at → NamesTag name at rest → NameEnds rest
      → tag.room ≡ 0 → reason ≡ fault.TooDeep → View size reason table front tag bytes
  OfChild : (child : Child) (from : List ℕ) → NamesChild tag.room bytes child from
      → BreaksElement size reason table front child from → View size reason table front tag bytes
  OfLater : (child : Child) (from next : List ℕ) → NamesChild tag.room bytes child from
      → ReadsWell table front child from next → BreaksIn size reason table (child.element ∷ front) tag next
      → View size reason table front tag bytes
  OfEnd : (text at more : List ℕ) → ReadsText text bytes at → at ≡ 60 ∷ 47 ∷ more
      → EndFault size reason table front tag at → View size reason table front tag bytes

view : (size : ℕ) (reason : DocFault) (table : Table) (front : List (Option Element)) (tag : Tag) (bytes : List ℕ)
    → tag.closed ≡ false → BreaksIn size reason table front tag bytes → View size reason table front tag bytes
view size reason table front tag bytes wide (AtText plain t) = OfText t
view size reason table front tag bytes wide (AtStart text at left plain reads apart leaves stands) =
    OfStart text at left reads apart leaves stands
view size reason table front tag bytes wide (TooLow text at name rest plain reads names ends low is) =
    OfDepth text at name rest reads names ends low is
view size reason table front tag bytes wide (InTag child from left plain names fresh leaves stands) =
    OfChild child from names (BehindName left fresh leaves stands)
view size reason table front tag bytes wide (Again child of from plain names again is) =
    OfChild child from names (StandsAgain of again is)
view size reason table front tag bytes wide (InLeaf child inner form of from at plain names fresh is text breaks) =
    OfChild child from names (BehindLeafTag inner form of at fresh is text breaks)
view size reason table front tag bytes wide (Inside child inner of inside from at plain names fresh is parent breaks) =
    OfChild child from names (BehindTag inner of inside at fresh is parent breaks)
view size reason table front tag bytes wide (InOther child inner from at plain names is outside breaks) =
    OfChild child from names (BehindOtherTag inner at is outside breaks)
view size reason table front tag bytes wide (Behind child from next plain names reads breaks) =
    OfLater child from next names reads breaks
view size reason table front tag bytes wide (AtEndTag at left plain ends complete leaves stands) =
    let end = ends_open tag.closed bytes at wide ends in
    OfEnd end.0 at end.2 end.1 end.3 (inl (complete, (left, leaves, stands)))
view size reason table front tag bytes wide (Lacks of at ends first is) =
    let end = ends_open tag.closed bytes at wide ends in OfEnd end.0 at end.2 end.1 end.3 (inr (of, first, is))

-- what can stand behind a text stands there alone
start_at_end : (left : ℕ) → LeavesStart [] left → left ≡ 0
start_at_end left (NoTag lacks e) = e
start_at_end left (NoTagName more opens l) = absurd (no_nil 60 more opens)
start_at_end left (NoNameEnd name at names none e) = absurd (no_nil 60 names.at_name names.opens)

start_or_text : (size : ℕ) (a b : DocFault) (text bytes at : List ℕ) (left : ℕ) → BreaksText size a bytes
    → ReadsText text bytes at → LeavesStart at left → b ≡ fault.NotADocument (size - left) → b ≡ a
start_or_text size a b text bytes at left t r l e =
    ⊎_elim
    (
    λ none. e
    ∙ ap (λ n. fault.NotADocument (size - n))
    (start_at_end left (subst (λ (x : List ℕ). LeavesStart x left) none l))
    ∙ sym (text_at_end size a text bytes (subst (λ (x : List ℕ). ReadsText text bytes x) none r) t)
    )
    (λ some. absurd (text_whole size a text bytes at r some t)) (nil_or at)

tag_or_text : (size : ℕ) (reason : DocFault) (text bytes at name rest : List ℕ) → BreaksText size reason bytes
    → ReadsText text bytes at → NamesTag name at rest → ⊥
tag_or_text size reason text bytes at name rest t r n =
    text_whole size reason text bytes at r (starts_some at 60 n.at_name n.opens) t

end_or_text : (size : ℕ) (reason : DocFault) (text bytes at more : List ℕ) → BreaksText size reason bytes
    → ReadsText text bytes at → at ≡ 60 ∷ 47 ∷ more → ⊥
end_or_text size reason text bytes at more t r e =
    text_whole size reason text bytes at r (starts_some at 60 (47 ∷ more) e) t

tag_or_start : (text other bytes at there name rest : List ℕ) (left : ℕ) → ReadsText text bytes at → LeavesStart at left
    → ReadsText other bytes there → NamesTag name there rest → NameEnds rest → ⊥
tag_or_start text other bytes at there name rest left r l s n ends =
    start_left name there rest left n ends
    (subst (λ (t : List ℕ). LeavesStart t left) (sym (ReadsText-same text other bytes at there r s).1) l)

tag_or_end : (text other bytes at there name rest more : List ℕ) → ReadsText text bytes at → NamesTag name at rest
    → ReadsText other bytes there → there ≡ 60 ∷ 47 ∷ more → ⊥
tag_or_end text other bytes at there name rest more r n s e =
    let same = sym (ReadsText-same text other bytes at there r s).1 ∙ e in
    false≢true (ReadsName-first name n.at_name rest more 47 n.named
    (cons_parts 60 60 n.at_name (47 ∷ more) (sym n.opens ∙ same)).1)

text_first : (size : ℕ) (a b : DocFault) (table : Table) (front : List (Option Element)) (tag : Tag) (bytes : List ℕ)
    → BreaksText size a bytes → View size b table front tag bytes → b ≡ a
text_first size a b table front tag bytes t (OfText u) = BreaksText-same size a b bytes t u
text_first size a b table front tag bytes t (OfStart text at left r apart l e) =
    start_or_text size a b text bytes at left t r l e
text_first size a b table front tag bytes t (OfDepth text at name rest r n ends low e) =
    absurd (tag_or_text size a text bytes at name rest t r n)
text_first size a b table front tag bytes t (OfChild child from n broken) =
    absurd (tag_or_text size a n.text bytes n.at_tag child.name.now from t n.before n.names)
text_first size a b table front tag bytes t (OfLater child from next n well later) =
    absurd (tag_or_text size a n.text bytes n.at_tag child.name.now from t n.before n.names)
text_first size a b table front tag bytes t (OfEnd text at more r e end) =
    absurd (end_or_text size a text bytes at more t r e)

start_first : (size : ℕ) (a b : DocFault) (table : Table) (front : List (Option Element)) (tag : Tag)
    (bytes text at : List ℕ) (left : ℕ) → ReadsText text bytes at → ((more : List ℕ) → ¬ (at ≡ 60 ∷ 47 ∷ more))
    → LeavesStart at left → a ≡ fault.NotADocument (size - left) → View size b table front tag bytes → b ≡ a
start_first size a b table front tag bytes text at left r apart l e (OfText t) =
    sym (start_or_text size b a text bytes at left t r l e)
start_first size a b table front tag bytes text at left r apart l e (OfStart other there m s apart2 k f) =
    stands_same size left m a b
    (LeavesStart-same at left m l
    (subst (λ (t : List ℕ). LeavesStart t m) (ReadsText-same text other bytes at there r s).1 k)) e f
start_first size a b table front tag bytes text at left r apart l e (OfDepth other there name rest s n ends low f) =
    absurd (tag_or_start text other bytes at there name rest left r l s n ends)
start_first size a b table front tag bytes text at left r apart l e (OfChild child from n broken) =
    absurd (tag_or_start text n.text bytes at n.at_tag child.name.now from left r l n.before n.names n.ends)
start_first size a b table front tag bytes text at left r apart l e (OfLater child from next n well later) =
    absurd (tag_or_start text n.text bytes at n.at_tag child.name.now from left r l n.before n.names n.ends)
start_first size a b table front tag bytes text at left r apart l e (OfEnd other there more s f end) =
    absurd (apart more (sym (ReadsText-same text other bytes at there r s).1 ∙ f))

no_deeper : (room : ℕ) (bytes from : List ℕ) (child : Child) → room ≡ 0 → ¬ (NamesChild room bytes child from)
no_deeper room bytes from child low n = let deep = n.deeper in omega (arith, deep, low)

depth_first : (size : ℕ) (a b : DocFault) (table : Table) (front : List (Option Element)) (tag : Tag)
    (bytes text at name rest : List ℕ) → ReadsText text bytes at → NamesTag name at rest → NameEnds rest
    → tag.room ≡ 0 → a ≡ fault.TooDeep → View size b table front tag bytes → b ≡ a
depth_first size a b table front tag bytes text at name rest r n ends low e (OfText t) =
    absurd (tag_or_text size b text bytes at name rest t r n)
depth_first size a b table front tag bytes text at name rest r n ends low e (OfStart other there left s apart l f) =
    absurd (tag_or_start other text bytes there at name rest left s l r n ends)
depth_first size a b table front tag bytes text at name rest r n ends low e (OfDepth other there k m s q ends2 low2 f) =
    f ∙ sym e
depth_first size a b table front tag bytes text at name rest r n ends low e (OfChild child from q broken) =
    absurd (no_deeper tag.room bytes from child low q)
depth_first size a b table front tag bytes text at name rest r n ends low e (OfLater child from next q well later) =
    absurd (no_deeper tag.room bytes from child low q)
depth_first size a b table front tag bytes text at name rest r n ends low e (OfEnd other there more s f end) =
    absurd (tag_or_end text other bytes at there name rest more r n s f)

end_first : (size : ℕ) (a b : DocFault) (table : Table) (front : List (Option Element)) (tag : Tag)
    (bytes text at more : List ℕ) → ReadsText text bytes at → at ≡ 60 ∷ 47 ∷ more → EndFault size a table front tag at
    → View size b table front tag bytes → b ≡ a
end_first size a b table front tag bytes text at more r e end (OfText t) =
    absurd (end_or_text size b text bytes at more t r e)
end_first size a b table front tag bytes text at more r e end (OfStart other there left s apart l f) =
    absurd (apart more ((ReadsText-same text other bytes at there r s).1 ∙ e))
end_first size a b table front tag bytes text at more r e end (OfDepth other there name rest s n ends low f) =
    absurd (tag_or_end other text bytes there at name rest more s n r e)
end_first size a b table front tag bytes text at more r e end (OfChild child from n broken) =
    absurd (tag_or_end n.text text bytes n.at_tag at child.name.now from more n.before n.names r e)
end_first size a b table front tag bytes text at more r e end (OfLater child from next n well later) =
    absurd (tag_or_end n.text text bytes n.at_tag at child.name.now from more n.before n.names r e)
end_first size a b table front tag bytes text at more r e end (OfEnd other there next s f end2) =
    end_faults_same size a b table front tag at end
    (subst (λ (t : List ℕ). EndFault size b table front tag t) (ReadsText-same text other bytes at there r s).1 end2)

-- where an element is at fault, every fault is one of it
to_child : (size : ℕ) (a b : DocFault) (table : Table) (front : List (Option Element)) (tag : Tag) (bytes from : List ℕ)
    (child : Child) → NamesChild tag.room bytes child from → BreaksElement size a table front child from
    → View size b table front tag bytes → BreaksElement size b table front child from
to_child size a b table front tag bytes from child n broken (OfText t) =
    absurd (tag_or_text size b n.text bytes n.at_tag child.name.now from t n.before n.names)
to_child size a b table front tag bytes from child n broken (OfStart text at left r apart l e) =
    absurd (tag_or_start text n.text bytes at n.at_tag child.name.now from left r l n.before n.names n.ends)
to_child size a b table front tag bytes from child n broken (OfDepth text at name rest r q ends low e) =
    absurd (no_deeper tag.room bytes from child low n)
to_child size a b table front tag bytes from child n broken (OfChild other there m found) =
    element_there size b table front child other from there (names_same tag.room bytes from there child other n m) found
to_child size a b table front tag bytes from child n broken (OfLater other there next m well later) =
    absurd
    (well_or_broken size a table front child from next
    (well_there table front child other from there next (names_same tag.room bytes from there child other n m) well)
    broken)
to_child size a b table front tag bytes from child n broken (OfEnd text at more r e end) =
    absurd (tag_or_end n.text text bytes n.at_tag at child.name.now from more n.before n.names r e)

-- where an element is read well, every fault stands behind it
to_later : (size : ℕ) (b : DocFault) (table : Table) (front : List (Option Element)) (tag : Tag)
    (bytes from next : List ℕ) (child : Child) → NamesChild tag.room bytes child from
    → ReadsWell table front child from next → View size b table front tag bytes
    → BreaksIn size b table (child.element ∷ front) tag next
to_later size b table front tag bytes from next child n well (OfText t) =
    absurd (tag_or_text size b n.text bytes n.at_tag child.name.now from t n.before n.names)
to_later size b table front tag bytes from next child n well (OfStart text at left r apart l e) =
    absurd (tag_or_start text n.text bytes at n.at_tag child.name.now from left r l n.before n.names n.ends)
to_later size b table front tag bytes from next child n well (OfDepth text at name rest r q ends low e) =
    absurd (no_deeper tag.room bytes from child low n)
to_later size b table front tag bytes from next child n well (OfChild other there m found) =
    absurd
    (well_or_broken size b table front child from next well
    (element_there size b table front child other from there (names_same tag.room bytes from there child other n m)
    found))
to_later size b table front tag bytes from next child n well (OfLater other there after m well2 later) =
    let same = names_same tag.room bytes from there child other n m in
    let moved = well_there table front child other from there after same well2 in
    let place : after ≡ next = (ReadsElement-same child well.0 moved.0 from next after well.1 moved.1).1 in
    subst (λ (t : List ℕ). BreaksIn size b table (child.element ∷ front) tag t) place
    (subst (λ (e : Option Element). BreaksIn size b table (e ∷ front) tag after) same.element later)
to_later size b table front tag bytes from next child n well (OfEnd text at more r e end) =
    absurd (tag_or_end n.text text bytes n.at_tag at child.name.now from more n.before n.names r e)

-- the faults of one element
name_first : (size : ℕ) (a b : DocFault) (table : Table) (front : List (Option Element)) (child : Child)
    (bytes : List ℕ) (left : ℕ) → IsFresh table front child.element → LeavesTagEnd bytes left
    → a ≡ fault.NotADocument (size - left) → BreaksElement size b table front child bytes → b ≡ a
name_first size a b table front child bytes left fresh l e (BehindName m fresh2 k f) =
    stands_same size left m a b (LeavesTagEnd-same bytes left m l k) e f
name_first size a b table front child bytes left fresh l e (StandsAgain of again f) = absurd (fresh of again)
name_first size a b table front child bytes left fresh l e (BehindLeafTag tag form of at fresh2 is text breaks) =
    absurd (tag_end_left tag.closed bytes at left is.ends l)
name_first size a b table front child bytes left fresh l e (BehindTag tag of inside at fresh2 is parent breaks) =
    absurd (tag_end_left tag.closed bytes at left is.ends l)
name_first size a b table front child bytes left fresh l e (BehindOtherTag tag at is outside breaks) =
    absurd (tag_end_left tag.closed bytes at left is.ends l)

again_first : (size : ℕ) (a b : DocFault) (table : Table) (front : List (Option Element)) (child : Child)
    (bytes : List ℕ) (of : Element) → IsAgain table front child.element of → a ≡ fault.Twice of
    → BreaksElement size b table front child bytes → b ≡ a
again_first size a b table front child bytes of again e (BehindName m fresh k f) = absurd (fresh of again)
again_first size a b table front child bytes of again e (StandsAgain other again2 f) =
    f ∙ ap (λ (x : Element). fault.Twice x) (again_same table front child.element of other again again2) ∙ sym e
again_first size a b table front child bytes of again e (BehindLeafTag tag form o at fresh is text breaks) =
    absurd (fresh of again)
again_first size a b table front child bytes of again e (BehindTag tag o inside at fresh is parent breaks) =
    absurd (fresh of again)
again_first size a b table front child bytes of again e (BehindOtherTag tag at is outside breaks) =
    absurd (outside_again table front child.element of outside again)

leaf_first : (size : ℕ) (a b : DocFault) (table : Table) (front : List (Option Element)) (child : Child)
    (inner : Tag) (form : Form) (of : Element) (bytes at : List ℕ) → IsFresh table front child.element
    → IsTagOf child inner bytes at → IsTextOf table child.element of form → BreaksLeaf size a form of inner at
    → BreaksElement size b table front child bytes → b ≡ a
leaf_first size a b table front child inner form of bytes at fresh is text l (BehindName m fresh2 k f) =
    absurd (tag_end_left inner.closed bytes at m is.ends k)
leaf_first size a b table front child inner form of bytes at fresh is text l (StandsAgain other again f) =
    absurd (fresh other again)
leaf_first size a b table front child inner form of bytes at fresh is text l
    (BehindLeafTag tag other o there fresh2 is2 text2 k) =
    let like = likes child inner tag bytes at there is is2 in
    let same = text_same table child.element of o form other text text2 in
    BreaksLeaf-same size a b form of inner at l
    (subst (λ (t : List ℕ). BreaksLeaf size b form of inner t) like.1
    (leaf_moved size b form of tag inner there like.0
    (subst (λ (f : Form). BreaksLeaf size b f of tag there) same.1
    (subst (λ (x : Element). BreaksLeaf size b other x tag there) same.0 k))))
leaf_first size a b table front child inner form of bytes at fresh is text l
    (BehindTag tag o inside there fresh2 is2 parent breaks) =
    absurd (text_or_parent table child.element of o form inside text parent)
leaf_first size a b table front child inner form of bytes at fresh is text l (BehindOtherTag tag there is2 outside breaks) =
    absurd (outside_or_text table child.element of form outside text)

-- the fault stands inside the element too
inside_of : (size : ℕ) (b : DocFault) (table : Table) (front : List (Option Element)) (child : Child) (inner : Tag)
    (of : Element) (inside : Table) (bytes at : List ℕ) → IsFresh table front child.element
    → IsTagOf child inner bytes at → IsParentOf table child.element of inside
    → BreaksElement size b table front child bytes → BreaksIn size b inside [] inner at
inside_of size b table front child inner of inside bytes at fresh is parent (BehindName m fresh2 k f) =
    absurd (tag_end_left inner.closed bytes at m is.ends k)
inside_of size b table front child inner of inside bytes at fresh is parent (StandsAgain other again f) =
    absurd (fresh other again)
inside_of size b table front child inner of inside bytes at fresh is parent
    (BehindLeafTag tag form o there fresh2 is2 text k) =
    absurd (text_or_parent table child.element o of form inside text parent)
inside_of size b table front child inner of inside bytes at fresh is parent
    (BehindTag tag o other there fresh2 is2 parent2 breaks) =
    let like = likes child inner tag bytes at there is is2 in
    subst (λ (t : List ℕ). BreaksIn size b inside [] inner t) like.1
    (tag_moved size b inside [] tag inner there like.0
    (subst (λ (t : Table). BreaksIn size b t [] tag there)
    (parent_same table child.element of o inside other parent parent2) breaks))
inside_of size b table front child inner of inside bytes at fresh is parent (BehindOtherTag tag there is2 outside breaks) =
    absurd (outside_or_parent table child.element of inside outside parent)

inside_other : (size : ℕ) (b : DocFault) (table : Table) (front : List (Option Element)) (child : Child) (inner : Tag)
    (bytes at : List ℕ) → IsTagOf child inner bytes at → IsOutside table child.element
    → BreaksElement size b table front child bytes → BreaksIn size b Done [] inner at
inside_other size b table front child inner bytes at is outside (BehindName m fresh k f) =
    absurd (tag_end_left inner.closed bytes at m is.ends k)
inside_other size b table front child inner bytes at is outside (StandsAgain other again f) =
    absurd (outside_again table front child.element other outside again)
inside_other size b table front child inner bytes at is outside (BehindLeafTag tag form o there fresh is2 text k) =
    absurd (outside_or_text table child.element o form outside text)
inside_other size b table front child inner bytes at is outside (BehindTag tag o other there fresh is2 parent breaks) =
    absurd (outside_or_parent table child.element o other outside parent)
inside_other size b table front child inner bytes at is outside (BehindOtherTag tag there is2 outside2 breaks) =
    let like = likes child inner tag bytes at there is is2 in
    subst (λ (t : List ℕ). BreaksIn size b Done [] inner t) like.1
    (tag_moved size b Done [] tag inner there like.0 breaks)

-- behind a closed tag nothing can be at fault but what is missing
closed_lacks : (size : ℕ) (b : DocFault) (table : Table) (front : List (Option Element)) (tag : Tag) (bytes : List ℕ)
    → tag.closed ≡ true → BreaksIn size b table front tag bytes
    → (of : Element) × (first_missing table front ≡ Some of) × (b ≡ fault.Missing of)
closed_lacks size b table front tag bytes shut (AtText plain t) = absurd (false≢true (sym plain ∙ shut))
closed_lacks size b table front tag bytes shut (AtStart text at left plain reads apart leaves stands) =
    absurd (false≢true (sym plain ∙ shut))
closed_lacks size b table front tag bytes shut (TooLow text at name rest plain reads names ends low is) =
    absurd (false≢true (sym plain ∙ shut))
closed_lacks size b table front tag bytes shut (InTag child from left plain names fresh leaves stands) =
    absurd (false≢true (sym plain ∙ shut))
closed_lacks size b table front tag bytes shut (Again child of from plain names again is) =
    absurd (false≢true (sym plain ∙ shut))
closed_lacks size b table front tag bytes shut (InLeaf child inner form of from at plain names fresh is text breaks) =
    absurd (false≢true (sym plain ∙ shut))
closed_lacks size b table front tag bytes shut (Inside child inner of inside from at plain names fresh is parent breaks) =
    absurd (false≢true (sym plain ∙ shut))
closed_lacks size b table front tag bytes shut (InOther child inner from at plain names is outside breaks) =
    absurd (false≢true (sym plain ∙ shut))
closed_lacks size b table front tag bytes shut (Behind child from next plain names reads breaks) =
    absurd (false≢true (sym plain ∙ shut))
closed_lacks size b table front tag bytes shut (AtEndTag at left plain ends complete leaves stands) =
    absurd (false≢true (sym plain ∙ shut))
closed_lacks size b table front tag bytes shut (Lacks of at ends first is) = (of, first, is)

missing_first : (size : ℕ) (a b : DocFault) (table : Table) (front : List (Option Element)) (tag : Tag)
    (bytes at : List ℕ) (of : Element) → AtEnd tag bytes at → first_missing table front ≡ Some of
    → a ≡ fault.Missing of → BreaksIn size b table front tag bytes → b ≡ a
missing_first size a b table front tag bytes at of ends first e k =
    ⊎_elim
    (
    λ shut. let found = closed_lacks size b table front tag bytes shut k in
    found.2 ∙ ap (λ (x : Element). fault.Missing x) (same_Some found.0 of (sym found.1 ∙ first)) ∙ sym e
    )
    (
    λ wide. let end = ends_open tag.closed bytes at wide ends in
    end_first size a b table front tag bytes end.0 at end.2 end.1 end.3 (inr (of, first, e))
    (view size b table front tag bytes wide k)
    )
    (cases_Bool tag.closed)

pub BreaksIn-same : (size : ℕ) (a b : DocFault) (table : Table) (front : List (Option Element)) (tag : Tag)
    (bytes : List ℕ) → BreaksIn size a table front tag bytes → BreaksIn size b table front tag bytes → b ≡ a
BreaksIn-same size a b table front tag bytes (AtText plain t) k =
    text_first size a b table front tag bytes t (view size b table front tag bytes plain k)
BreaksIn-same size a b table front tag bytes (AtStart text at left plain reads apart leaves stands) k =
    start_first size a b table front tag bytes text at left reads apart leaves stands
    (view size b table front tag bytes plain k)
BreaksIn-same size a b table front tag bytes (TooLow text at name rest plain reads names ends low is) k =
    depth_first size a b table front tag bytes text at name rest reads names ends low is
    (view size b table front tag bytes plain k)
BreaksIn-same size a b table front tag bytes (InTag child from left plain names fresh leaves stands) k =
    name_first size a b table front child from left fresh leaves stands
    (to_child size a b table front tag bytes from child names (BehindName left fresh leaves stands)
    (view size b table front tag bytes plain k))
BreaksIn-same size a b table front tag bytes (Again child of from plain names again is) k =
    again_first size a b table front child from of again is
    (to_child size a b table front tag bytes from child names (StandsAgain of again is)
    (view size b table front tag bytes plain k))
BreaksIn-same size a b table front tag bytes (InLeaf child inner form of from at plain names fresh is text breaks) k =
    leaf_first size a b table front child inner form of from at fresh is text breaks
    (to_child size a b table front tag bytes from child names (BehindLeafTag inner form of at fresh is text breaks)
    (view size b table front tag bytes plain k))
BreaksIn-same size a b table front tag bytes (Inside child inner of inside from at plain names fresh is parent breaks) k =
    BreaksIn-same size a b inside [] inner at breaks
    (inside_of size b table front child inner of inside from at fresh is parent
    (to_child size a b table front tag bytes from child names (BehindTag inner of inside at fresh is parent breaks)
    (view size b table front tag bytes plain k)))
BreaksIn-same size a b table front tag bytes (InOther child inner from at plain names is outside breaks) k =
    BreaksIn-same size a b Done [] inner at breaks
    (inside_other size b table front child inner from at is outside
    (to_child size a b table front tag bytes from child names (BehindOtherTag inner at is outside breaks)
    (view size b table front tag bytes plain k)))
BreaksIn-same size a b table front tag bytes (Behind child from next plain names reads breaks) k =
    BreaksIn-same size a b table (child.element ∷ front) tag next breaks
    (to_later size b table front tag bytes from next child names reads (view size b table front tag bytes plain k))
BreaksIn-same size a b table front tag bytes (AtEndTag at left plain ends complete leaves stands) k =
    let end = ends_open tag.closed bytes at plain ends in
    end_first size a b table front tag bytes end.0 at end.2 end.1 end.3 (inl (complete, (left, leaves, stands)))
    (view size b table front tag bytes plain k)
BreaksIn-same size a b table front tag bytes (Lacks of at ends first is) k =
    missing_first size a b table front tag bytes at of ends first is k
