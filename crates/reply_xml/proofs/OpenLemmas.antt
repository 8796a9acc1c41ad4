-- Elements that are open, one in another.
use Rattle.std.proofs.Common.{◌≡◌, ◌+◌, ◌-◌, ◌++◌, ◌∙◌, ◌↔◌, ℕ, Bool, true, false, List, [], ◌∷◌, Option, refl, sym, ap}
use Rattle.std.proofs.Common.{subst, arith}
use Rattle.reply_xml.specs.declared.elements.Element.{Element}
use Rattle.reply_xml.specs.declared.tags.Child.{Child}
use Rattle.reply_xml.specs.declared.tags.Tag.{Tag}
use Rattle.reply_xml.specs.Contents.{Content, Only, Then, ReadsText, ReadsContent, ReadsInner}
use Rattle.reply_xml.specs.Elements.{element_named}
use Rattle.reply_xml.specs.Tags.{ReadsName, ReadsTag, ReadsTagEnd, ReadsEndTag}
use Rattle.reply_xml.specs.Reading.{NamesChild, IsTagOf, EndsContent, HoldsSome, ReadsOpen, ReadsElement}
use Rattle.reply_xml.proofs.TagLemmas.{ReadsTag-same, ReadsTagEnd-same, tag_end_of, tag_or_end, name_or_end}
use Rattle.reply_xml.proofs.ContentLemmas.{ReadsText-same, ReadsContent-same, inner_open, content_inner}

-- a text and the whole tag of an element, one level below an element with this room
pub record BeginsChild (room : ℕ) (bytes : List ℕ) (tag : Tag) (rest : List ℕ) : Type 0 where
  pub text : List ℕ
  pub at_tag : List ℕ
  pub before : ReadsText text bytes at_tag
  pub opens : ReadsTag tag.closed tag.name.now at_tag rest
  pub known : tag.element ≡ element_named tag.name.now
  pub deeper : tag.room + 1 ≡ room

-- the innermost of the open elements
pub open_in : (tags : List Tag) (tag : Tag) (bytes at rest : List ℕ) → HoldsSome tag bytes at → ReadsOpen tags at rest
    → ReadsOpen (tags ++ tag ∷ []) bytes rest
open_in [] tag bytes at rest s o = (bytes, refl, subst (λ (b : List ℕ). HoldsSome tag bytes b) (sym o) s)
open_in (outer ∷ tags) tag bytes at rest s o = (o.0, open_in tags tag bytes at o.0 s o.1, o.2)

pub open_out : (tags : List Tag) (tag : Tag) (bytes rest : List ℕ) → ReadsOpen (tags ++ tag ∷ []) bytes rest
    → (at : List ℕ) × HoldsSome tag bytes at × ReadsOpen tags at rest
open_out [] tag bytes rest o = (rest, subst (λ (b : List ℕ). HoldsSome tag b rest) o.1 o.2, refl)
open_out (outer ∷ tags) tag bytes rest o =
    let more = open_out tags tag bytes o.0 o.1 in
    (more.0, more.1, (o.0, more.2, o.2))

-- an element inside, and what follows it, are what stands there
pub child_before : (room : ℕ) (bytes from next rest name : List ℕ) (tag : Tag) (inner more : Content)
    → (b : BeginsChild room bytes tag from) → ReadsInner tag.closed inner tag.room tag.name.now from next
    → ReadsContent more room name next rest → ReadsContent (Then b.text tag.element inner more) room name bytes rest
child_before room bytes from next rest name tag inner more b i m =
    let less : tag.room ≡ room - 1 = omega (arith, b.deeper) in (
      omega (arith, b.deeper),
      (
        next,
        record {
          at_tag = b.at_tag;
          before = b.before;
          closed = tag.closed;
          name = tag.name.now;
          at_inner = from;
          tag = b.opens;
          known = b.known;
          inside = subst (λ r. ReadsInner tag.closed inner r tag.name.now from next) less i;
        },
        m,
      ),
    )

pub inner_at : (closed other : Bool) (inner : Content) (room less : ℕ) (name found from place next : List ℕ)
    → other ≡ closed → less ≡ room → found ≡ name → place ≡ from
    → ReadsInner other inner less found place next → ReadsInner closed inner room name from next
inner_at closed other inner room less name found from place next e f g h r =
    subst (λ (b : List ℕ). ReadsInner closed inner room name b next) h
    (subst (λ (n : List ℕ). ReadsInner closed inner room n place next) g
    (subst (λ l. ReadsInner closed inner l found place next) f
    (subst (λ (c : Bool). ReadsInner c inner less found place next) e r)))

then_at : (text other : List ℕ) (child found : Option Element) (inner more : Content) → text ≡ other → child ≡ found
    → Then text child inner more ≡ Then other found inner more
then_at text other child found inner more e f = cc

-- what a content has behind the element that it begins with
pub record BeginsWith (room : ℕ) (name from rest text : List ℕ) (tag : Tag) (c : Content) : Type 0 where
  pub inner : Content
  pub more : Content
  pub next : List ℕ
  pub is : c ≡ Then text tag.element inner more
  pub inside : ReadsInner tag.closed inner tag.room tag.name.now from next
  pub after : ReadsContent more room name next rest

-- and where an element was found, every content has it
pub child_past : (c : Content) (room : ℕ) (name bytes from rest : List ℕ) (tag : Tag)
    → (b : BeginsChild room bytes tag from) → ReadsContent c room name bytes rest
    → BeginsWith room name from rest b.text tag c
child_past (Only text) room name bytes from rest tag b r =
    absurd
    (
    tag_or_end tag.closed tag.name.now name b.at_tag from rest b.opens
    (subst (λ (t : List ℕ). ReadsEndTag name t rest) (ReadsText-same b.text text bytes b.at_tag r.0 b.before r.1).1 r.2)
    )
child_past (Then text child inner more) room name bytes from rest tag b r =
    let a = r.1.1 in
    let texts = ReadsText-same b.text text bytes b.at_tag a.at_tag b.before a.before in
    let tags = ReadsTag-same tag.closed a.closed tag.name.now a.name b.at_tag from a.at_inner b.opens
    (subst (λ (t : List ℕ). ReadsTag a.closed a.name t a.at_inner) texts.1 a.tag) in
    let less : room - 1 ≡ tag.room = omega (arith, b.deeper) in
    record {
      inner = inner;
      more = more;
      next = r.1.0;
      is = then_at text b.text child tag.element inner more texts.0 (a.known ∙ ap element_named tags.1 ∙ sym b.known);
      inside = inner_at tag.closed a.closed inner tag.room (room - 1) tag.name.now a.name from a.at_inner r.1.0 tags.0
          less tags.1 tags.2 a.inside;
      after = r.1.2;
    }

-- what stands inside a tag that is not closed, split at the element found there
pub some_before : (parent tag : Tag) (bytes from rest : List ℕ) → parent.closed ≡ false
    → BeginsChild parent.room bytes tag from
    → (at : List ℕ) → HoldsSome tag from at → HoldsSome parent at rest → HoldsSome parent bytes rest
some_before parent tag bytes from rest plain b at s p =
    let more = inner_open parent.closed p.0 parent.room parent.name.now at rest plain p.1 in (
      Then b.text tag.element s.0 p.0,
      content_inner parent.closed (Then b.text tag.element s.0 p.0) parent.room parent.name.now bytes rest plain
          (child_before parent.room bytes from at rest parent.name.now tag s.0 p.0 b s.1 more),
    )

pub some_past : (parent tag : Tag) (bytes from rest : List ℕ) → parent.closed ≡ false
    → BeginsChild parent.room bytes tag from
    → HoldsSome parent bytes rest → (at : List ℕ) × HoldsSome tag from at × HoldsSome parent at rest
some_past parent tag bytes from rest plain b p =
    let c = child_past p.0 parent.room parent.name.now bytes from rest tag b
    (inner_open parent.closed p.0 parent.room parent.name.now bytes rest plain p.1) in (
      c.next,
      (c.inner, c.inside),
      (c.more, content_inner parent.closed c.more parent.room parent.name.now c.next rest plain c.after),
    )

-- where the content ends, nothing else stands
pub ReadsInner-same : (closed : Bool) (c d : Content) (room : ℕ) (name bytes rest left : List ℕ)
    → ReadsInner closed c room name bytes rest → ReadsInner closed d room name bytes left → (d ≡ c) × (left ≡ rest)
ReadsInner-same true c d room name bytes rest left r s = (s.0 ∙ sym r.0, s.1 ∙ sym r.1)
ReadsInner-same false c d room name bytes rest left r s = let same =
    ReadsContent-same c d room name name bytes rest left r s in (same.0, same.2)

-- an element by its name, and by its whole tag
abbrev pub tag_of : Child → Bool → Tag
tag_of child closed = record {
  name = child.name;
  element = child.element;
  closed = closed;
  room = child.room;
  named = child.named;
}

abbrev pub child_begins : (room : ℕ) (bytes from at : List ℕ) (child : Child) (tag : Tag)
    → NamesChild room bytes child from → IsTagOf child tag from at → BeginsChild room bytes tag at
child_begins room bytes from at child tag b t = record {
  text = b.text;
  at_tag = b.at_tag;
  before = b.before;
  opens = record {
    at_name = b.names.at_name;
    opens = b.names.opens;
    at_attributes = from;
    named = subst (λ (n : List ℕ). ReadsName n b.names.at_name from) (sym t.name) b.names.named;
    ends = t.ends;
  };
  known = t.element ∙ b.known ∙ ap element_named (sym t.name);
  deeper = ap (λ r. r + 1) t.room ∙ b.deeper;
}

abbrev whole_tag : (child : Child) (closed : Bool) (from at : List ℕ) → ReadsTagEnd closed from at
    → IsTagOf child (tag_of child closed) from at
whole_tag child closed from at e = record { ends = e; name = refl; element = refl; room = refl }

pub element_of : (child : Child) (tag : Tag) (inner : Content) (from at rest : List ℕ) → IsTagOf child tag from at
    → ReadsInner tag.closed inner tag.room tag.name.now at rest
    → ReadsElement child inner from rest
element_of child tag inner from at rest t r = (
  tag.closed,
  at,
  t.ends,
  inner_at tag.closed tag.closed inner child.room tag.room child.name.now tag.name.now at at
      rest refl t.room t.name refl r,
)

pub inner_of : (child : Child) (tag : Tag) (inner : Content) (from at rest : List ℕ) → IsTagOf child tag from at
    → ReadsElement child inner from rest
    → ReadsInner tag.closed inner tag.room tag.name.now at rest
inner_of child tag inner from at rest t r =
    let same = ReadsTagEnd-same tag.closed r.0 from at r.1 t.ends r.2 in
    inner_at tag.closed r.0 inner tag.room child.room tag.name.now child.name.now at r.1 rest same.0 (sym t.room)
    (sym t.name) same.1 r.3

-- an element is one content
pub ReadsElement-same : (child : Child) (c d : Content) (bytes rest left : List ℕ) → ReadsElement child c bytes rest
    → ReadsElement child d bytes left → (d ≡ c) × (left ≡ rest)
ReadsElement-same child c d bytes rest left r s =
    let same = ReadsTagEnd-same r.0 s.0 bytes r.1 s.1 r.2 s.2 in
    ReadsInner-same r.0 c d child.room child.name.now r.1 rest left r.3
    (inner_at r.0 s.0 d child.room child.room child.name.now child.name.now r.1 s.1 left same.0 refl refl same.1 s.3)

-- an element inside, by its name, and what follows it, are what stands there
pub element_before : (room : ℕ) (bytes from next rest name : List ℕ) (child : Child) (inner more : Content)
    → (b : NamesChild room bytes child from) → ReadsElement child inner from next
    → ReadsContent more room name next rest → ReadsContent (Then b.text child.element inner more) room name bytes rest
element_before room bytes from next rest name child inner more b e m =
    child_before room bytes e.1 next rest name (tag_of child e.0) inner more
    (child_begins room bytes from e.1 child (tag_of child e.0) b (whole_tag child e.0 from e.1 e.2)) e.3 m

-- what a content has behind the element that it begins with
pub record BeginsElement (room : ℕ) (name from rest text : List ℕ) (child : Child) (c : Content) : Type 0 where
  pub inner : Content
  pub more : Content
  pub next : List ℕ
  pub is : c ≡ Then text child.element inner more
  pub inside : ReadsElement child inner from next
  pub after : ReadsContent more room name next rest

-- and where an element begins, every content has it
pub element_past : (c : Content) (room : ℕ) (name bytes from rest : List ℕ) (child : Child)
    → (b : NamesChild room bytes child from) → ReadsContent c room name bytes rest
    → BeginsElement room name from rest b.text child c
element_past (Only text) room name bytes from rest child b r =
    absurd
    (
    name_or_end child.name.now name b.at_tag from rest b.names
    (subst (λ (t : List ℕ). ReadsEndTag name t rest) (ReadsText-same b.text text bytes b.at_tag r.0 b.before r.1).1 r.2)
    )
element_past (Then text kid inner more) room name bytes from rest child b r =
    let a = r.1.1 in
    let texts = ReadsText-same b.text text bytes b.at_tag a.at_tag b.before a.before in
    let tag = tag_end_of a.closed a.name b.at_tag b.names.at_name child.name.now from a.at_inner b.names.opens
    b.names.named
    (subst (λ (t : List ℕ). ReadsTag a.closed a.name t a.at_inner) texts.1 a.tag) in
    let less : room - 1 ≡ child.room = omega (arith, b.deeper) in
    record {
      inner = inner;
      more = more;
      next = r.1.0;
      is = then_at text b.text kid child.element inner more texts.0 (a.known ∙ ap element_named tag.0 ∙ sym b.known);
      inside = (
        a.closed,
        a.at_inner,
        tag.1,
        inner_at a.closed a.closed inner child.room (room - 1) child.name.now a.name
            a.at_inner a.at_inner r.1.0 refl less tag.0 refl a.inside,
      );
      after = r.1.2;
    }

pub ends_at : (tag : Tag) (bytes rest left : List ℕ) → EndsContent tag bytes rest → HoldsSome tag bytes left
    → left ≡ rest
ends_at tag bytes rest left e s =
    (ReadsInner-same tag.closed (Only e.0) s.0 tag.room tag.name.now bytes rest left e.1 s.1).1

-- what an element inside and the elements around it leave to be read
abbrev pub Left : Tag → List Tag → List ℕ → List ℕ → Type 0
Left inner outer here rest = (at : List ℕ) × HoldsSome inner here at × ReadsOpen outer at rest

pub left_in : (outer items : List Tag) (inner child : Tag) (here from rest : List ℕ) → inner.closed ≡ false
    → BeginsChild inner.room here child from → items ≡ outer ++ inner ∷ []
    → Left child items from rest ↔ Left inner outer here rest
left_in outer items inner child here from rest plain b e = (
  λ l. let o = open_out outer inner l.0 rest (subst (λ (ts : List Tag). ReadsOpen ts l.0 rest) e l.2) in
      (o.0, some_before inner child here from o.0 plain b l.0 l.1 o.1, o.2),
  λ l. let s = some_past inner child here from l.0 plain b l.1 in
      (s.0, s.1, subst (λ (ts : List Tag). ReadsOpen ts s.0 rest) (sym e) (open_in outer inner s.0 l.0 rest s.2 l.2)),
)

pub left_out : (outer items : List Tag) (inner parent : Tag) (here from rest : List ℕ) → EndsContent inner here from
    → items ≡ outer ++ parent ∷ []
    → Left parent outer from rest ↔ Left inner items here rest
left_out outer items inner parent here from rest ends e = (
  λ l. (
    from,
    (Only ends.0, ends.1),
    subst (λ (ts : List Tag). ReadsOpen ts from rest) (sym e)
        (open_in outer parent from l.0 rest l.1 l.2),
  ),
  λ l. let at = ends_at inner here from l.0 ends l.1 in
      open_out outer parent from rest
      (subst (λ (ts : List Tag). ReadsOpen ts from rest) e (subst (λ (b : List ℕ). ReadsOpen items b rest) at l.2)),
)

pub left_end : (items : List Tag) (inner : Tag) (here from : List ℕ) → EndsContent inner here from → items ≡ []
    → Left inner items here from
left_end items inner here from ends e =
    (from, (Only ends.0, ends.1), subst (λ (ts : List Tag). ReadsOpen ts from from) (sym e) refl)

pub left_none : (items : List Tag) (inner : Tag) (here rest : List ℕ)
    → ((c : Content) (at : List ℕ) → ¬ (ReadsInner inner.closed c inner.room inner.name.now here at))
    → Left inner items here rest → ⊥
left_none items inner here rest none l = none l.1.0 l.0 l.1.1

-- no element whose tag cannot be read
pub left_no_child : (items : List Tag) (inner : Tag) (child : Child) (here from rest : List ℕ) → inner.closed ≡ false
    → NamesChild inner.room here child from
    → ((closed : Bool) (at : List ℕ) → ¬ (ReadsTagEnd closed from at)) → Left inner items here rest → ⊥
left_no_child items inner child here from rest plain b none l =
    let p = element_past l.1.0 inner.room inner.name.now here from l.0 child b
    (inner_open inner.closed l.1.0 inner.room inner.name.now here l.0 plain l.1.1) in
    none p.inside.0 p.inside.1 p.inside.2
