-- Bytes begin with one content, and in one way.
use Rattle.std.proofs.Common.{◌≡◌, ◌<◌, ◌-◌, ◌⊎◌, inl, inr, ⊎_elim, ◌∙◌, ℕ, Bool, true, false, List, [], ◌∷◌, Option}
use Rattle.std.proofs.Common.{refl, sym, ap, subst}
use Rattle.std.proofs.lemmas.Bool.{false≢true}
use Rattle.std.specs.Bool.{MatchBool}
use Rattle.std.specs.Str.{IsUtf8}
use Rattle.std.proofs.lemmas.Str.{IsUtf8-nil}
use Rattle.reply_values.proofs.UnescapeLemmas.{plain_run}
use Rattle.reply_values.specs.References.{IsUnescaped}
use Rattle.reply_xml.specs.Runs.{BeginsOutside, ReadsRun, is_of}
use Rattle.reply_xml.specs.declared.elements.Element.{Element}
use Rattle.reply_xml.specs.declared.tags.Tag.{Tag}
use Rattle.reply_xml.specs.Reading.{AtEnd, EndsContent}
use Rattle.reply_xml.specs.declared.runs.Sort.TheVariants as sort
use Rattle.reply_xml.specs.Elements.{element_named}
use Rattle.reply_xml.specs.Tags.{ReadsTag, ReadsEndTag}
use Rattle.reply_xml.specs.Contents.{Content, Only, Then, ReadsText, ReadsChild, ReadsContent, ReadsInner}
use Rattle.reply_xml.proofs.RunLemmas.{ReadsRun-same, empty_run}
use Rattle.reply_xml.proofs.TagLemmas.{ReadsTag-same, ReadsEndTag-same, tag_or_end, tag_at_end}

pub ReadsText-same : (text other bytes rest left : List ℕ) → ReadsText text bytes rest → ReadsText other bytes left
    → (other ≡ text) × (left ≡ rest)
ReadsText-same text other bytes rest left r s = ReadsRun-same sort.Text text other bytes rest left r.run s.run

then_same : (text other : List ℕ) (child found : Option Element) (inner within more rest : Content) → other ≡ text
    → found ≡ child → within ≡ inner → rest ≡ more
    → Then other found within rest ≡ Then text child inner more
then_same text other child found inner within more rest e f g h = cc

-- one content, one name of the end tag, and one place behind it
abbrev IsSame : Content → Content → (name other rest left : List ℕ) → Type 0
IsSame c d name other rest left = (d ≡ c) × (other ≡ name) × (left ≡ rest)

inner_same : (closed other : Bool) (inner within : Content) (room : ℕ) (name found bytes place rest left : List ℕ)
    → ((c : Content) (at to : List ℕ) (n : List ℕ) → ReadsContent inner room name bytes rest
    → ReadsContent c room n at to → at ≡ bytes → IsSame inner c name n rest to)
    → other ≡ closed → found ≡ name → place ≡ bytes
    → ReadsInner closed inner room name bytes rest → ReadsInner other within room found place left
    → (within ≡ inner) × (left ≡ rest)
inner_same true true inner within room name found bytes place rest left each e f g r s =
    (s.0 ∙ sym r.0, s.1 ∙ g ∙ sym r.1)
inner_same true false inner within room name found bytes place rest left each e f g r s = absurd (false≢true e)
inner_same false true inner within room name found bytes place rest left each e f g r s = absurd (false≢true (sym e))
inner_same false false inner within room name found bytes place rest left each e f g r s =
    let same = each within place left found r s g in
    (same.0, same.2)

end_and_child : (Inside : Bool → (name bytes rest : List ℕ) → Type 0) (text found name bytes at_end rest next : List ℕ)
    (child : Option Element)
    → ReadsText text bytes at_end → ReadsEndTag name at_end rest → ReadsChild Inside found child bytes next → ⊥
end_and_child Inside text found name bytes at_end rest next child t e c =
    let same = (ReadsText-same text found bytes at_end c.at_tag t c.before).1 in
    tag_or_end c.closed c.name name c.at_tag c.at_inner rest c.tag
    (subst (λ (b : List ℕ). ReadsEndTag name b rest) (sym same) e)

pub ReadsContent-same : (c d : Content) (room : ℕ) (name other bytes rest left : List ℕ)
    → ReadsContent c room name bytes rest → ReadsContent d room other bytes left → IsSame c d name other rest left
ReadsContent-same (Only text) (Only found) room name other bytes rest left r s =
    let texts = ReadsText-same text found bytes r.0 s.0 r.1 s.1 in
    let ends = ReadsEndTag-same name other r.0 rest left r.2
    (subst (λ (b : List ℕ). ReadsEndTag other b left) texts.1 s.2) in
    (ap Only texts.0, ends.0, ends.1)
ReadsContent-same (Only text) (Then found child inner more) room name other bytes rest left r s =
    absurd (end_and_child _ text found name bytes r.0 rest s.1.0 child r.1 r.2 s.1.1)
ReadsContent-same (Then text child inner more) (Only found) room name other bytes rest left r s =
    absurd (end_and_child _ found text other bytes s.0 left r.1.0 child s.1 s.2 r.1.1)
ReadsContent-same (Then text child inner more) (Then found kid within others) room name other bytes rest left r s =
    let a = r.1.1 in
    let b = s.1.1 in
    let texts = ReadsText-same text found bytes a.at_tag b.at_tag a.before b.before in
    let tags = ReadsTag-same a.closed b.closed a.name b.name a.at_tag a.at_inner b.at_inner a.tag
    (subst (λ (t : List ℕ). ReadsTag b.closed b.name t b.at_inner) texts.1 b.tag) in
    let inners = inner_same a.closed b.closed inner within (room - 1) a.name b.name a.at_inner b.at_inner r.1.0 s.1.0
    (λ c at to n x y e. ReadsContent-same inner c (room - 1) a.name n a.at_inner r.1.0 to x
    (subst (λ (t : List ℕ). ReadsContent c (room - 1) n t to) e y))
    tags.0 tags.1 tags.2 a.inside b.inside in
    let mores = ReadsContent-same more others room name other r.1.0 rest left r.1.2
    (subst (λ (t : List ℕ). ReadsContent others room other t left) inners.1 s.1.2) in (
      then_same text found child kid inner within more others texts.0
          (b.known ∙ ap element_named tags.1 ∙ sym a.known) inners.0 mores.0,
      mores.1,
      mores.2,
    )

pub inner_open : (closed : Bool) (inner : Content) (room : ℕ) (name bytes rest : List ℕ) → closed ≡ false
    → ReadsInner closed inner room name bytes rest → ReadsContent inner room name bytes rest
inner_open true inner room name bytes rest e r = absurd (false≢true (sym e))
inner_open false inner room name bytes rest e r = r

pub content_inner : (closed : Bool) (inner : Content) (room : ℕ) (name bytes rest : List ℕ) → closed ≡ false
    → ReadsContent inner room name bytes rest → ReadsInner closed inner room name bytes rest
content_inner true inner room name bytes rest e r = absurd (false≢true (sym e))
content_inner false inner room name bytes rest e r = r

-- every content begins with a text that `<` follows
pub content_begins : (c : Content) (room : ℕ) (name bytes rest : List ℕ) → ReadsContent c room name bytes rest
    → (text : List ℕ) × (more : List ℕ) × ReadsText text bytes (60 ∷ more)
content_begins (Only text) room name bytes rest r =
    (text, 47 ∷ r.2.at_name, subst (λ (b : List ℕ). ReadsText text bytes b) r.2.opens r.1)
content_begins (Then text child inner more) room name bytes rest r =
    (text, r.1.1.tag.at_name, subst (λ (b : List ℕ). ReadsText text bytes b) r.1.1.tag.opens r.1.1.before)

-- behind the text stands the end tag, or an element
pub content_cases : (c : Content) (room : ℕ) (text name bytes at rest : List ℕ) → ReadsText text bytes at
    → ReadsContent c room name bytes rest
    → ReadsEndTag name at rest ⊎ ((0 < room) × (closed : Bool) × (tag : List ℕ) × (from : List ℕ) × ReadsTag closed tag
    at from)
content_cases (Only found) room text name bytes at rest t r =
    inl (subst (λ (b : List ℕ). ReadsEndTag name b rest) (ReadsText-same text found bytes at r.0 t r.1).1 r.2)
content_cases (Then found child inner more) room text name bytes at rest t r =
    let a = r.1.1 in
    inr (
      r.0,
      a.closed,
      a.name,
      a.at_inner,
      subst (λ (b : List ℕ). ReadsTag a.closed a.name b a.at_inner)
          (ReadsText-same text found bytes at a.at_tag t a.before).1 a.tag,
    )

-- where an end tag begins, only the end tag of this content can stand
pub ends_there : (c : Content) (room : ℕ) (text name bytes at rest more : List ℕ) → ReadsText text bytes at
    → at ≡ 60 ∷ 47 ∷ more → ReadsContent c room name bytes rest → ReadsEndTag name at rest
ends_there c room text name bytes at rest more t e r =
    ⊎_elim (λ end. end) (λ child. absurd (tag_at_end child.1 child.2 at child.3 more e child.4))
    (content_cases c room text name bytes at rest t r)

-- where none begins, an element stands
pub child_there : (c : Content) (room : ℕ) (text name bytes at rest : List ℕ) → ReadsText text bytes at
    → ((more : List ℕ) → ¬ (at ≡ 60 ∷ 47 ∷ more)) → ReadsContent c room name bytes rest
    → (0 < room) × (closed : Bool) × (tag : List ℕ) × (from : List ℕ) × ReadsTag closed tag at from
child_there c room text name bytes at rest t other r =
    ⊎_elim (λ end. absurd (other end.at_name end.opens)) (λ child. child)
    (content_cases c room text name bytes at rest t r)

-- where the content ends, only a text stands
pub only_of : (closed : Bool) (c : Content) (room : ℕ) (name before at rest : List ℕ)
    → MatchBool closed (at ≡ before) ((text : List ℕ) × ReadsText text before at × (more : List ℕ) ×
    (at ≡ 60 ∷ 47 ∷ more))
    → ReadsInner closed c room name before rest → (text : List ℕ) × (c ≡ Only text)
only_of true c room name before at rest e r = ([], r.0)
only_of false (Only text) room name before at rest e r = (text, refl)
only_of false (Then text child inner more) room name before at rest e r =
    let a = r.1.1 in
    let same = (ReadsText-same e.0 text before at a.at_tag e.1 a.before).1 in
    absurd
    (tag_at_end a.closed a.name at a.at_inner e.2 e.3
    (subst (λ (t : List ℕ). ReadsTag a.closed a.name t a.at_inner) same a.tag))

-- the end of the content, with its end tag
pub closed_end : (tag : Tag) (before at : List ℕ) → tag.closed ≡ true → AtEnd tag before at → EndsContent tag before at
closed_end tag before at e h = closed_ends tag.closed tag.room tag.name.now e h
  where
    closed_ends : (closed : Bool) (room : ℕ) (name : List ℕ) → closed ≡ true
        → MatchBool closed (at ≡ before) ((text : List ℕ) × ReadsText text before at × (more : List ℕ) ×
        (at ≡ 60 ∷ 47 ∷ more))
        → (text : List ℕ) × ReadsInner closed (Only text) room name before at
    closed_ends true room name f k = ([], (refl, k))
    closed_ends false room name f k = absurd (false≢true f)

pub open_end : (tag : Tag) (before at rest : List ℕ) → tag.closed ≡ false → AtEnd tag before at
    → ReadsEndTag tag.name.now at rest → EndsContent tag before rest
open_end tag before at rest e h t = open_ends tag.closed tag.room tag.name.now e h t
  where
    open_ends : (closed : Bool) (room : ℕ) (name : List ℕ) → closed ≡ false
        → MatchBool closed (at ≡ before) ((text : List ℕ) × ReadsText text before at × (more : List ℕ) ×
        (at ≡ 60 ∷ 47 ∷ more))
        → ReadsEndTag name at rest → (text : List ℕ) × ReadsInner closed (Only text) room name before rest
    open_ends true room name f k u = absurd (false≢true (sym f))
    open_ends false room name f k u = (k.0, (at, k.1, u))

pub no_open_end : (tag : Tag) (before at rest : List ℕ) (inner : Content) → tag.closed ≡ false → AtEnd tag before at
    → ((left : List ℕ) → ¬ (ReadsEndTag tag.name.now at left))
    → ReadsInner tag.closed inner tag.room tag.name.now before rest → ⊥
no_open_end tag before at rest inner e h none r = no_open_ends tag.closed inner tag.room tag.name.now e h none r
  where
    no_open_ends : (closed : Bool) (c : Content) (room : ℕ) (name : List ℕ) → closed ≡ false
        → MatchBool closed (at ≡ before) ((text : List ℕ) × ReadsText text before at × (more : List ℕ) ×
        (at ≡ 60 ∷ 47 ∷ more))
        → ((left : List ℕ) → ¬ (ReadsEndTag name at left)) → ReadsInner closed c room name before rest → ⊥
    no_open_ends true c room name f k u i = absurd (false≢true (sym f))
    no_open_ends false c room name f k u i = u rest (ends_there c room k.0 name before at rest k.2 k.1 k.3 i)

-- the same places, by whether the tag is closed
pub at_closed : (tag : Tag) (bytes : List ℕ) → tag.closed ≡ true → AtEnd tag bytes bytes
at_closed tag bytes e = at_close tag.closed e
  where
    at_close : (closed : Bool) → closed ≡ true
        → MatchBool closed (bytes ≡ bytes) ((text : List ℕ) × ReadsText text bytes bytes × (more : List ℕ) ×
        (bytes ≡ 60 ∷ 47 ∷ more))
    at_close true f = refl
    at_close false f = absurd (false≢true f)

pub at_open : (tag : Tag) (before at text more : List ℕ) → tag.closed ≡ false → ReadsText text before at
    → at ≡ 60 ∷ 47 ∷ more → AtEnd tag before at
at_open tag before at text more e t o = at_tag tag.closed e
  where
    at_tag : (closed : Bool) → closed ≡ false
        → MatchBool closed (at ≡ before) ((text : List ℕ) × ReadsText text before at × (more : List ℕ) ×
        (at ≡ 60 ∷ 47 ∷ more))
    at_tag true f = absurd (false≢true (sym f))
    at_tag false f = (text, t, more, o)

-- no text ends at the end of the bytes, and none without a meaning
pub no_text_at_end : (text bytes rest found more : List ℕ) → ReadsRun sort.Text text bytes rest → rest ≡ []
    → ReadsText found bytes (60 ∷ more) → ⊥
no_text_at_end text bytes rest found more run e r =
    nothing (sym e ∙ sym (ReadsRun-same sort.Text text found bytes rest (60 ∷ more) run r.run).1)
  where
    nothing : [] ≡ 60 ∷ more → ⊥
    nothing f = cc

pub no_meaning : (text bytes rest found left : List ℕ) → ReadsRun sort.Text text bytes rest
    → (IsUtf8 text → (meaning : List ℕ) → ¬ (IsUnescaped text meaning)) → ReadsText found bytes left → ⊥
no_meaning text bytes rest found left run none r =
    let same = (ReadsRun-same sort.Text text found bytes rest left run r.run).0 in
    none (subst IsUtf8 same r.characters) r.meaning (subst (λ (b : List ℕ). IsUnescaped b r.meaning) same r.unescaped)

-- where a tag begins, no text stands in front of it
pub no_text : (bytes rest : List ℕ) → bytes ≡ 60 ∷ rest
    → (raw : List ℕ) × ReadsText raw bytes bytes × IsUnescaped raw []
no_text bytes rest e =
    let nothing : IsUnescaped [] [] = plain_run [] refl in (
      [],
      record {
        run = empty_run sort.Text bytes (subst (BeginsOutside (is_of sort.Text)) (sym e) refl);
        characters = IsUtf8-nil;
        meaning = [];
        unescaped = nothing;
      },
      nothing,
    )
