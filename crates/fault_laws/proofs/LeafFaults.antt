-- What stands behind the tag of a leaf has one fault, and none where the leaf is read in its form.
use Rattle.std.proofs.Common.{◌≡◌, ◌≢◌, ◌∙◌, ◌-◌, ◌⊎◌, ⊎_elim, ℕ, Bool, true, false, List, [], ◌∷◌}
use Rattle.std.proofs.Common.{refl, sym, ap, subst, inl, inr}
use Rattle.std.specs.Bool.{MatchBool}
use Rattle.std.proofs.lemmas.Bool.{false≢true}
use Rattle.reply_values.specs.References.{IsUnescaped}
use Rattle.reply_values.proofs.UnescapeLemmas.{IsUnescaped-same, plain_run}
use Rattle.reply_xml.specs.declared.elements.Element.{Element}
use Rattle.reply_xml.specs.declared.faults.DocFault.{DocFault}
use Rattle.reply_xml.specs.declared.faults.DocFault.TheVariants as fault
use Rattle.reply_xml.specs.declared.tags.Tag.{Tag}
use Rattle.reply_xml.specs.Breaks.{BreaksLeaf, BreaksText, InText, NoEndBehind, Unfit}
use Rattle.reply_xml.specs.Children.{IsLeaf}
use Rattle.reply_xml.specs.Contents.{Content, Only, Then, ReadsInner, ReadsText}
use Rattle.reply_xml.specs.Leaves.{LeavesEndTag, NoEnd, NoEndName, NoEndTag, NoSlash, OtherName}
use Rattle.reply_xml.specs.Tags.{ReadsEndTag}
use Rattle.reply_xml.specs.Unfit.{AKey, ANumber, APrefix, ATime, ATruth, AnEncoding, AnyText, Form, HasText, IsBadKey}
use Rattle.reply_xml.specs.Unfit.{IsFit, IsUnfit, OwnForm}
use Rattle.reply_xml.proofs.ContentLemmas.{ReadsText-same}
use Rattle.fault_laws.proofs.LeavesSame.{LeavesEndTag-same, end_left}
use Rattle.fault_laws.proofs.TextsSame.{BreaksText-same, stands_same, text_at_end, text_whole}
use Rattle.shared_lemmas.proofs.Lists.{no_nil}

pub bad_key_same : (url : Bool) (of : Element) (text : List ℕ) (a b : DocFault) → IsBadKey url of text a
    → IsBadKey url of text b → b ≡ a
bad_key_same url of text a b (inl r) (inl s) = s.0 ∙ sym r.0
bad_key_same url of text a b (inl r) (inr s) = absurd (r.1 s.1.0 s.1.1)
bad_key_same url of text a b (inr r) (inl s) = absurd (s.1 r.1.0 r.1.1)
bad_key_same url of text a b (inr r) (inr s) = s.0 ∙ sym r.0

pub IsUnfit-same : (form : Form) (of : Element) (text : List ℕ) (a b : DocFault) → IsUnfit form of text a
    → IsUnfit form of text b → b ≡ a
IsUnfit-same AnyText of text a b r s = absurd r
IsUnfit-same OwnForm of text a b r s = s.0 ∙ sym r.0
IsUnfit-same ANumber of text a b r s = s.0 ∙ sym r.0
IsUnfit-same ATruth of text a b r s = s.0 ∙ sym r.0
IsUnfit-same ATime of text a b r s = s.0 ∙ sym r.0
IsUnfit-same AnEncoding of text a b r s = s.0 ∙ sym r.0
IsUnfit-same (AKey url) of text a b r s = bad_key_same url of text a b r s
IsUnfit-same (APrefix url) of text a b r s = s.0 ∙ sym r.0

-- the text behind a tag
texts_same : (closed : Bool) (bytes rest left text other : List ℕ)
    → MatchBool closed ((text ≡ []) × (rest ≡ bytes)) ((raw : List ℕ) × ReadsText raw bytes rest × IsUnescaped raw text)
    → MatchBool closed ((other ≡ []) × (left ≡ bytes))
    ((raw : List ℕ) × ReadsText raw bytes left × IsUnescaped raw other)
    → (other ≡ text) × (left ≡ rest)
texts_same true bytes rest left text other r s = (s.0 ∙ sym r.0, s.1 ∙ sym r.1)
texts_same false bytes rest left text other r s =
    let same = ReadsText-same r.0 s.0 bytes rest left r.1 s.1 in (
      IsUnescaped-same r.0 other text (subst (λ (t : List ℕ). IsUnescaped t other) same.0 s.2) r.2,
      same.1,
    )

pub has_same : (tag : Tag) (bytes rest left text other : List ℕ) → HasText tag bytes rest text
    → HasText tag bytes left other → (other ≡ text) × (left ≡ rest)
has_same tag bytes rest left text other r s = texts_same tag.closed bytes rest left text other r s

open_has : (closed : Bool) (bytes rest text raw : List ℕ) → closed ≡ false → ReadsText raw bytes rest
    → IsUnescaped raw text
    → MatchBool closed ((text ≡ []) × (rest ≡ bytes)) ((raw : List ℕ) × ReadsText raw bytes rest × IsUnescaped raw text)
open_has true bytes rest text raw e r u = absurd (false≢true (sym e))
open_has false bytes rest text raw e r u = (raw, r, u)

has_open : (closed : Bool) (bytes rest text : List ℕ) → closed ≡ false
    → MatchBool closed ((text ≡ []) × (rest ≡ bytes)) ((raw : List ℕ) × ReadsText raw bytes rest × IsUnescaped raw text)
    → (raw : List ℕ) × ReadsText raw bytes rest
has_open true bytes rest text e h = absurd (false≢true (sym e))
has_open false bytes rest text e h = (h.0, h.1)

pub nil_or : (xs : List ℕ) → (xs ≡ []) ⊎ (xs ≢ [])
nil_or [] = inl refl
nil_or (x ∷ xs) = inr (λ e. cons_nil x xs e)
  where
    cons_nil : (y : ℕ) (ys : List ℕ) → y ∷ ys ≡ [] → ⊥
    cons_nil y ys e = cc

pub starts_some : (bytes : List ℕ) (x : ℕ) (xs : List ℕ) → bytes ≡ x ∷ xs → bytes ≢ []
starts_some bytes x xs e none = no_nil x xs (sym none ∙ e)

-- where the bytes end, no end tag stands there
pub end_at_end : (name : List ℕ) (left : ℕ) → LeavesEndTag name [] left → left ≡ 0
end_at_end name left (NoEndTag lacks e) = e
end_at_end name left (NoSlash more opens lacks e) = absurd (no_nil 60 more opens)
end_at_end name left (NoEndName more opens l) = absurd (no_nil 60 (47 ∷ more) opens)
end_at_end name left (OtherName size more found at opens named differs front e) =
    absurd (no_nil 60 (47 ∷ more) opens)
end_at_end name left (NoEnd more space at close opens named run lacks e) = absurd (no_nil 60 (47 ∷ more) opens)

-- the fault of a text, and of the end tag behind it
pub text_or_end : (size : ℕ) (a b : DocFault) (name raw bytes end : List ℕ) (left : ℕ) → BreaksText size a bytes
    → ReadsText raw bytes end → LeavesEndTag name end left → b ≡ fault.NotADocument (size - left) → b ≡ a
text_or_end size a b name raw bytes end left t r l e =
    ⊎_elim
    (
    λ none. e
    ∙ ap (λ n. fault.NotADocument (size - n))
    (end_at_end name left (subst (λ (x : List ℕ). LeavesEndTag name x left) none l))
    ∙ sym (text_at_end size a raw bytes (subst (λ (x : List ℕ). ReadsText raw bytes x) none r) t)
    )
    (λ some. absurd (text_whole size a raw bytes end r some t)) (nil_or end)

no_text_or_unfit : (size : ℕ) (reason : DocFault) (tag : Tag) (bytes rest text : List ℕ) → tag.closed ≡ false
    → BreaksText size reason bytes → HasText tag bytes rest text → (tag.closed ≡ false → rest ≢ []) → ⊥
no_text_or_unfit size reason tag bytes rest text wide t h some =
    let r = has_open tag.closed bytes rest text wide h in
    text_whole size reason r.0 bytes rest r.1 (some wide) t

unfit_or_end : (form : Form) (of : Element) (tag : Tag) (bytes rest text raw other end : List ℕ) (reason : DocFault)
    → HasText tag bytes rest text → IsUnfit form of text reason → tag.closed ≡ false → ReadsText raw bytes end
    → IsUnescaped raw other → IsFit form of other → ⊥
unfit_or_end form of tag bytes rest text raw other end reason h u wide r s fit =
    let same = texts_same tag.closed bytes rest end text other h (open_has tag.closed bytes end other raw wide r s) in
    fit reason (subst (λ (t : List ℕ). IsUnfit form of t reason) (sym same.0) u)

pub BreaksLeaf-same : (size : ℕ) (a b : DocFault) (form : Form) (of : Element) (tag : Tag) (bytes : List ℕ)
    → BreaksLeaf size a form of tag bytes → BreaksLeaf size b form of tag bytes → b ≡ a
BreaksLeaf-same size a b form of tag bytes (InText wide t) (InText open2 u) = BreaksText-same size a b bytes t u
BreaksLeaf-same size a b form of tag bytes (InText wide t) (Unfit text rest h some u) =
    absurd (no_text_or_unfit size a tag bytes rest text wide t h some)
BreaksLeaf-same size a b form of tag bytes (InText wide t) (NoEndBehind raw text end left open2 r u fit l e) =
    text_or_end size a b tag.name.now raw bytes end left t r l e
BreaksLeaf-same size a b form of tag bytes (Unfit text rest h some u) (InText wide t) =
    absurd (no_text_or_unfit size b tag bytes rest text wide t h some)
BreaksLeaf-same size a b form of tag bytes (Unfit text rest h some u) (Unfit other left k some2 v) =
    IsUnfit-same form of text a b u
    (subst (λ (t : List ℕ). IsUnfit form of t b) (has_same tag bytes rest left text other h k).0 v)
BreaksLeaf-same size a b form of tag bytes (Unfit text rest h some u) (NoEndBehind raw other end left wide r s fit l e) =
    absurd (unfit_or_end form of tag bytes rest text raw other end a h u wide r s fit)
BreaksLeaf-same size a b form of tag bytes (NoEndBehind raw text end left wide r s fit l e) (InText open2 t) =
    sym (text_or_end size b a tag.name.now raw bytes end left t r l e)
BreaksLeaf-same size a b form of tag bytes (NoEndBehind raw other end left wide r s fit l e) (Unfit text rest h some u) =
    absurd (unfit_or_end form of tag bytes rest text raw other end b h u wide r s fit)
BreaksLeaf-same size a b form of tag bytes (NoEndBehind raw text end left wide r s fit l e)
    (NoEndBehind found other there m open2 q v fit2 k f) =
    let same = (ReadsText-same raw found bytes end there r q).1 in
    stands_same size left m a b
    (LeavesEndTag-same tag.name.now end left m l
    (subst (λ (t : List ℕ). LeavesEndTag tag.name.now t m) same k)) e f

-- a leaf that is read
only_same : (x y : List ℕ) → Only x ≡ Only y → x ≡ y
only_same x y e = cc

pub leaf_reads : (closed : Bool) (inner : Content) (room : ℕ) (name bytes rest text : List ℕ)
    → ReadsInner closed inner room name bytes rest → IsLeaf inner text
    → MatchBool closed ((text ≡ []) × (rest ≡ bytes))
    ((raw : List ℕ) × (end : List ℕ) × ReadsText raw bytes end × IsUnescaped raw text × ReadsEndTag name end rest)
leaf_reads closed (Then raw child inner more) room name bytes rest text r l = absurd l
leaf_reads true (Only raw) room name bytes rest text r l = (
  IsUnescaped-same [] text [] (subst (λ (t : List ℕ). IsUnescaped t text) (only_same raw [] r.0) l) (plain_run [] refl),
  r.1,
)
leaf_reads false (Only raw) room name bytes rest text r l = (raw, r.0, r.1, l, r.2)

abbrev LeafParts : Bool → (name bytes rest text : List ℕ) → Type 0
LeafParts closed name bytes rest text =
    MatchBool closed ((text ≡ []) × (rest ≡ bytes))
    ((raw : List ℕ) × (end : List ℕ) × ReadsText raw bytes end × IsUnescaped raw text × ReadsEndTag name end rest)

parts_open : (closed : Bool) (name bytes rest text : List ℕ) → closed ≡ false → LeafParts closed name bytes rest text
    → (raw : List ℕ) × (end : List ℕ) × ReadsText raw bytes end × IsUnescaped raw text × ReadsEndTag name end rest
parts_open true name bytes rest text e p = absurd (false≢true (sym e))
parts_open false name bytes rest text e p = p

parts_has : (closed : Bool) (name bytes rest text : List ℕ) → LeafParts closed name bytes rest text
    → (at : List ℕ) × MatchBool closed ((text ≡ []) × (at ≡ bytes))
    ((raw : List ℕ) × ReadsText raw bytes at × IsUnescaped raw text)
parts_has true name bytes rest text p = (bytes, (p.0, refl))
parts_has false name bytes rest text p = (p.1, (p.0, p.2, p.3))

pub leaf_whole : (size : ℕ) (reason : DocFault) (form : Form) (of : Element) (tag : Tag) (inner : Content)
    (bytes rest text : List ℕ) → ReadsInner tag.closed inner tag.room tag.name.now bytes rest → IsLeaf inner text
    → IsFit form of text → ¬ (BreaksLeaf size reason form of tag bytes)
leaf_whole size reason form of tag inner bytes rest text r l fit (InText wide t) =
    let p = parts_open tag.closed tag.name.now bytes rest text wide
    (leaf_reads tag.closed inner tag.room tag.name.now bytes rest text r l) in
    text_whole size reason p.0 bytes p.1 p.2 (starts_some p.1 60 (47 ∷ p.4.at_name) p.4.opens) t
leaf_whole size reason form of tag inner bytes rest text r l fit (Unfit other left h some u) =
    let p = parts_has tag.closed tag.name.now bytes rest text
    (leaf_reads tag.closed inner tag.room tag.name.now bytes rest text r l) in
    let same = texts_same tag.closed bytes p.0 left text other p.1 h in
    fit reason (subst (λ (t : List ℕ). IsUnfit form of t reason) same.0 u)
leaf_whole size reason form of tag inner bytes rest text r l fit (NoEndBehind raw other end left wide q v fit2 k e) =
    let p = parts_open tag.closed tag.name.now bytes rest text wide
    (leaf_reads tag.closed inner tag.room tag.name.now bytes rest text r l) in
    end_left tag.name.now p.1 rest left p.4
    (subst (λ (t : List ℕ). LeavesEndTag tag.name.now t left) (ReadsText-same p.0 raw bytes p.1 end p.2 q).1 k)
