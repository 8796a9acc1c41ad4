-- Where what stands behind a tag is read and no fault stands in it, it does not break.
use Rattle.std.proofs.Common.{◌≡◌, ◌∙◌, ⊎_elim, ℕ, Bool, List, [], ◌∷◌, Option}
use Rattle.std.proofs.Common.{refl, sym, subst, arith}
use Rattle.std.proofs.lemmas.Option.{none-some}
use Rattle.reply_xml.specs.declared.elements.Element.{Element}
use Rattle.reply_xml.specs.declared.faults.DocFault.{DocFault}
use Rattle.reply_xml.specs.declared.tags.Tag.{Tag}
use Rattle.reply_xml.specs.Breaks.{Again, AtEndTag, AtStart, AtText, Behind, BreaksIn, InLeaf, InOther, InTag, Inside}
use Rattle.reply_xml.specs.Breaks.{Lacks, TooLow}
use Rattle.reply_xml.specs.Children.{IsLeaf}
use Rattle.reply_xml.specs.Contents.{Content, Only, Then, ReadsContent, ReadsInner}
use Rattle.reply_xml.specs.Fits.{Fits, FitsChild, IsParent, IsText, Passed}
use Rattle.reply_xml.specs.Tables.{Done, IsAgain, IsParentOf, IsTextOf, Table}
use Rattle.reply_xml.specs.Tags.{NameEnds, NamesTag, ReadsTag}
use Rattle.reply_xml.specs.Unfit.{Form, IsFit}
use Rattle.reply_xml.proofs.ContentLemmas.{content_begins, content_cases, content_inner, ends_there, inner_open, only_of}
use Rattle.fault_laws.proofs.LeafFaults.{leaf_whole, starts_some}
use Rattle.fault_laws.proofs.LeavesSame.{end_left, start_left, tag_end_left}
use Rattle.reply_xml.proofs.OpenLemmas.{ReadsElement-same, element_past, inner_of}
use Rattle.fault_laws.proofs.TablesSame.{outside_again, outside_or_parent, outside_or_text, parent_same, text_or_parent}
use Rattle.fault_laws.proofs.TablesSame.{text_same}
use Rattle.reply_xml.proofs.TagLemmas.{ReadsTagEnd-first, name_or_end}
use Rattle.fault_laws.proofs.TextsSame.{text_whole}
use Rattle.s3_replies.proofs.EncodingLemmas.{ends_open}

-- the name of a tag that is read
pub tag_name : (closed : Bool) (name bytes rest : List ℕ) → (t : ReadsTag closed name bytes rest)
    → NamesTag name bytes t.at_attributes
tag_name closed name bytes rest t = record { at_name = t.at_name; opens = t.opens; named = t.named }

pub tag_name_ends : (closed : Bool) (name bytes rest : List ℕ) → (t : ReadsTag closed name bytes rest)
    → NameEnds t.at_attributes
tag_name_ends closed name bytes rest t = ReadsTagEnd-first closed t.at_attributes rest t.ends

-- elements that fit are not at fault
pub fits_again : (Holds : Table → Type 0) (table : Table) (front : List (Option Element)) (child : Option Element)
    (inner : Content) (of : Element) → FitsChild Holds table front child inner → ¬ (IsAgain table front child of)
fits_again Holds table front child inner of (Passed out) again = outside_again table front child of out again
fits_again Holds table front child inner of (IsText o form text fresh is leaf fit) again = fresh of again
fits_again Holds table front child inner of (IsParent o inside fresh is fits) again = fresh of again

pub fits_text : (Holds : Table → Type 0) (table : Table) (front : List (Option Element)) (child : Option Element)
    (inner : Content) (of : Element) (form : Form) → IsTextOf table child of form
    → FitsChild Holds table front child inner → (text : List ℕ) × IsLeaf inner text × IsFit form of text
fits_text Holds table front child inner of form is (Passed out) = absurd (outside_or_text table child of form out is)
fits_text Holds table front child inner of form is (IsText o other text fresh is2 leaf fit) =
    let same = text_same table child o of other form is2 is in (
      text,
      leaf,
      subst (λ (f : Form). IsFit f of text) (sym same.1) (subst (λ (e : Element). IsFit other e text) (sym same.0) fit),
    )
fits_text Holds table front child inner of form is (IsParent o inside fresh is2 fits) =
    absurd (text_or_parent table child of o form inside is is2)

pub fits_parent : (Holds : Table → Type 0) (table : Table) (front : List (Option Element)) (child : Option Element)
    (inner : Content) (of : Element) (inside : Table) → IsParentOf table child of inside
    → FitsChild Holds table front child inner → Holds inside
fits_parent Holds table front child inner of inside is (Passed out) =
    absurd (outside_or_parent table child of inside out is)
fits_parent Holds table front child inner of inside is (IsText o form text fresh is2 leaf fit) =
    absurd (text_or_parent table child o of form inside is2 is)
fits_parent Holds table front child inner of inside is (IsParent o other fresh is2 fits) =
    subst Holds (sym (parent_same table child o of other inside is2 is)) fits

pub all_fit : (c : Content) (front : List (Option Element)) → Fits c Done front
all_fit (Only text) front = refl
all_fit (Then text child inner more) front = (Passed tt, all_fit more (child ∷ front))

pub well_breaks : (size : ℕ) (reason : DocFault) (table : Table) (front : List (Option Element)) (tag : Tag)
    (bytes rest : List ℕ) (c : Content) → ReadsInner tag.closed c tag.room tag.name.now bytes rest → Fits c table front
    → BreaksIn size reason table front tag bytes → ⊥
well_breaks size reason table front tag bytes rest c r fits (AtText plain t) =
    let k = content_begins c tag.room tag.name.now bytes rest
    (inner_open tag.closed c tag.room tag.name.now bytes rest plain r) in
    text_whole size reason k.0 bytes (60 ∷ k.1) k.2 (starts_some (60 ∷ k.1) 60 k.1 refl) t
well_breaks size reason table front tag bytes rest c r fits (AtStart text at left plain reads other leaves stands) =
    ⊎_elim (λ end. other end.at_name end.opens)
    (
    λ child. start_left child.2 at child.4.at_attributes left (tag_name child.1 child.2 at child.3 child.4)
    (tag_name_ends child.1 child.2 at child.3 child.4) leaves
    )
    (content_cases c tag.room text tag.name.now bytes at rest reads
    (inner_open tag.closed c tag.room tag.name.now bytes rest plain r))
well_breaks size reason table front tag bytes rest c r fits (TooLow text at name left plain reads names ends low is) =
    ⊎_elim (λ end. name_or_end name tag.name.now at left rest names end)
    (λ child. let some = child.0 in omega (arith, some, low))
    (content_cases c tag.room text tag.name.now bytes at rest reads
    (inner_open tag.closed c tag.room tag.name.now bytes rest plain r))
well_breaks size reason table front tag bytes rest c r fits (InTag child from left plain names fresh leaves stands) =
    let b = element_past c tag.room tag.name.now bytes from rest child names
    (inner_open tag.closed c tag.room tag.name.now bytes rest plain r) in
    tag_end_left b.inside.0 from b.inside.1 left b.inside.2 leaves
well_breaks size reason table front tag bytes rest c r fits (Again child of from plain names again is) =
    let b = element_past c tag.room tag.name.now bytes from rest child names
    (inner_open tag.closed c tag.room tag.name.now bytes rest plain r) in
    let each = subst (λ (d : Content). Fits d table front) b.is fits in
    fits_again (λ inside. Fits b.inner inside []) table front child.element b.inner of each.0 again
well_breaks size reason table front tag bytes rest c r fits
    (InLeaf child inner form of from at plain names fresh is text breaks) =
    let b = element_past c tag.room tag.name.now bytes from rest child names
    (inner_open tag.closed c tag.room tag.name.now bytes rest plain r) in
    let each = subst (λ (d : Content). Fits d table front) b.is fits in
    let leaf = fits_text (λ inside. Fits b.inner inside []) table front child.element b.inner of form text each.0 in
    leaf_whole size reason form of inner b.inner at b.next leaf.0 (inner_of child inner b.inner from at b.next is b.inside)
    leaf.1 leaf.2 breaks
well_breaks size reason table front tag bytes rest c r fits
    (Inside child inner of inside from at plain names fresh is parent breaks) =
    let b = element_past c tag.room tag.name.now bytes from rest child names
    (inner_open tag.closed c tag.room tag.name.now bytes rest plain r) in
    let each = subst (λ (d : Content). Fits d table front) b.is fits in
    well_breaks size reason inside [] inner at b.next b.inner (inner_of child inner b.inner from at b.next is b.inside)
    (fits_parent (λ inside. Fits b.inner inside []) table front child.element b.inner of inside parent each.0) breaks
well_breaks size reason table front tag bytes rest c r fits (InOther child inner from at plain names is outside breaks) =
    let b = element_past c tag.room tag.name.now bytes from rest child names
    (inner_open tag.closed c tag.room tag.name.now bytes rest plain r) in
    well_breaks size reason Done [] inner at b.next b.inner (inner_of child inner b.inner from at b.next is b.inside)
    (all_fit b.inner []) breaks
well_breaks size reason table front tag bytes rest c r fits (Behind child from next plain names reads breaks) =
    let b = element_past c tag.room tag.name.now bytes from rest child names
    (inner_open tag.closed c tag.room tag.name.now bytes rest plain r) in
    let each = subst (λ (d : Content). Fits d table front) b.is fits in
    let there : b.next ≡ next = (ReadsElement-same child reads.0 b.inner from next b.next reads.1 b.inside).1 in
    well_breaks size reason table (child.element ∷ front) tag next rest b.more
    (content_inner tag.closed b.more tag.room tag.name.now next rest plain
    (subst (λ (t : List ℕ). ReadsContent b.more tag.room tag.name.now t rest) there b.after)) each.1 breaks
well_breaks size reason table front tag bytes rest c r fits (AtEndTag at left plain ends complete leaves stands) =
    let end = ends_open tag.closed bytes at plain ends in
    end_left tag.name.now at rest left
    (ends_there c tag.room end.0 tag.name.now bytes at rest end.2 end.1 end.3
    (inner_open tag.closed c tag.room tag.name.now bytes rest plain r)) leaves
well_breaks size reason table front tag bytes rest c r fits (Lacks of at ends first is) =
    let only = only_of tag.closed c tag.room tag.name.now bytes at rest ends r in
    let complete = subst (λ (d : Content). Fits d table front) only.1 fits in
    none-some of (sym complete ∙ first)
