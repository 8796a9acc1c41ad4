-- Which encoding a page names, as its elements are read one after another.
use Rattle.std.proofs.Common.{◌≡◌, ◌≢◌, ◌≤◌, ◌-◌, ◌∙◌, ℕ, suc, Bool, true, false, List, [], ◌∷◌, refl, sym, ap, subst}
use Rattle.std.proofs.Common.{length, codes, arith, ⊎_elim}
use Rattle.std.specs.Bool.{MatchBool}
use Rattle.std.proofs.lemmas.Bool.{false≢true}
use Rattle.std.proofs.lemmas.List.{length-append}
use Rattle.reply_values.specs.References.{IsUnescaped, StandsForText}
use Rattle.reply_values.proofs.SpellingLemmas.{spells_nothing}
use Rattle.reply_values.proofs.UnescapeLemmas.{IsUnescaped-same}
use Rattle.reply_xml.specs.declared.elements.Element.{Element}
use Rattle.reply_xml.specs.declared.elements.Element.TheVariants as element
use Rattle.reply_xml.specs.declared.tags.Child.{Child}
use Rattle.reply_xml.specs.declared.tags.Tag.{Tag}
use Rattle.reply_xml.specs.Children.{IsLeaf}
use Rattle.reply_xml.specs.Contents.{Content, Only, Then, ReadsContent, ReadsInner, ReadsText, is_the, named}
use Rattle.reply_xml.specs.Documents.{BeginsDocument}
use Rattle.reply_xml.specs.Elements.{element_named}
use Rattle.reply_xml.specs.Reading.{AtEnd, HoldsAs, IsTagOf, NamesChild, ReadsElement, ReadsSome}
use Rattle.reply_xml.specs.Tags.{NamesTag, ReadsTagEnd}
use Rattle.reply_xml.proofs.ChildLemmas.{named_here, nothing_there}
use Rattle.reply_xml.proofs.ContentLemmas.{ReadsText-same, inner_open}
use Rattle.reply_xml.proofs.DocumentLemmas.{root_left}
use Rattle.reply_xml.proofs.OpenLemmas.{ReadsInner-same, element_past, inner_at, tag_of}
use Rattle.reply_xml.proofs.TagLemmas.{NamesTag-same, ReadsName-first, ReadsTagEnd-same}
use Rattle.reply_xml.specs.Unfit.{HasText}
use Rattle.s3_replies.specs.Encodings.{Behind, FirstIs, Found, HasElementText}
use Rattle.s3_replies.specs.Listing.{EncodingLeft, HasEncoding}
use Rattle.s3_replies.proofs.PageLemmas.{encoding_is}
use Rattle.shared_lemmas.proofs.Lists.{cons_parts, no_cons}

-- one element begins at the front
pub NamesChild-same : (room : ℕ) (bytes from other : List ℕ) (c d : Child) → NamesChild room bytes c from
    → NamesChild room bytes d other
    → (other ≡ from) × (d.element ≡ c.element) × (d.name.now ≡ c.name.now) × (d.room ≡ c.room)
NamesChild-same room bytes from other c d b o =
    let texts = ReadsText-same b.text o.text bytes b.at_tag o.at_tag b.before o.before in
    let tags = NamesTag-same c.name.now d.name.now b.at_tag from other b.names
    (subst (λ (t : List ℕ). NamesTag d.name.now t other) texts.1 o.names) in
    (tags.1, o.known ∙ ap element_named tags.0 ∙ sym b.known, tags.0, omega (arith, b.deeper, o.deeper))

-- and one thing follows it
ReadsSome-same : (c d : Child) (bytes next later : List ℕ) → d.name.now ≡ c.name.now → d.room ≡ c.room
    → ReadsSome c bytes next → ReadsSome d bytes later → later ≡ next
ReadsSome-same c d bytes next later name room r s =
    let same = ReadsTagEnd-same r.1.0 s.1.0 bytes r.1.1 s.1.1 r.1.2 s.1.2 in
    (
    ReadsInner-same r.1.0 r.0 s.0 c.room c.name.now r.1.1 next later r.1.3
    (inner_at r.1.0 s.1.0 s.0 c.room d.room c.name.now d.name.now r.1.1 s.1.1 later same.0 room name same.1 s.1.3)
    ).1

-- no element begins where the content ends
pub ends_open : (closed : Bool) (bytes at : List ℕ) → closed ≡ false
    → MatchBool closed (at ≡ bytes) ((text : List ℕ) × ReadsText text bytes at
    × (more : List ℕ) × (at ≡ 60 ∷ 47 ∷ more))
    → (text : List ℕ) × ReadsText text bytes at × (more : List ℕ) × (at ≡ 60 ∷ 47 ∷ more)
ends_open true bytes at plain ends = absurd (false≢true (sym plain))
ends_open false bytes at plain ends = ends

pub child_at_end : (root : Tag) (room : ℕ) (bytes at from : List ℕ) (child : Child) → root.closed ≡ false
    → AtEnd root bytes at → NamesChild room bytes child from → ⊥
child_at_end root room bytes at from child plain ends b =
    let open_end = ends_open root.closed bytes at plain ends in
    let there = (ReadsText-same b.text open_end.0 bytes b.at_tag at b.before open_end.1).1 in
    let slash : b.names.at_name ≡ 47 ∷ open_end.2 =
    (cons_parts 60 60 b.names.at_name (47 ∷ open_end.2) (sym b.names.opens ∙ sym there ∙ open_end.3)).1 in
    false≢true (ReadsName-first child.name.now b.names.at_name from open_end.2 47 b.names.named slash)

-- the first element of a name
first_element : (of : Element) (c d : Child) → d.element ≡ c.element → is_the of c.element ≡ is_the of d.element
first_element of c d same = sym (ap (λ e. is_the of e) same)

pub first_past : (of : Element) (room : ℕ) (text bytes from next : List ℕ) (child : Child)
    → NamesChild room bytes child from → is_the of child.element ≡ false
    → ReadsSome child from next → FirstIs of room text bytes → FirstIs of room text next
first_past of room text bytes from next child b other s (Found c at names is has) =
    let same = NamesChild-same room bytes from at child c b names in
    absurd (false≢true (sym other ∙ first_element of child c same.1 ∙ is))
first_past of room text bytes from next child b other s (Behind c at later names not some more) =
    let same = NamesChild-same room bytes from at child c b names in
    let ends = ReadsSome-same child c from next later same.2 same.3 s
    (subst (λ (t : List ℕ). ReadsSome c t later) same.0 some) in
    subst (λ (t : List ℕ). FirstIs of room text t) ends more

texts_same : (closed other : Bool) (at place rest left t u : List ℕ) → other ≡ closed → place ≡ at
    → MatchBool closed ((t ≡ []) × (rest ≡ at)) ((raw : List ℕ) × ReadsText raw at rest × IsUnescaped raw t)
    → MatchBool other ((u ≡ []) × (left ≡ place)) ((raw : List ℕ) × ReadsText raw place left × IsUnescaped raw u)
    → u ≡ t
texts_same true true at place rest left t u e f h k = k.0 ∙ sym h.0
texts_same true false at place rest left t u e f h k = absurd (false≢true e)
texts_same false true at place rest left t u e f h k = absurd (false≢true (sym e))
texts_same false false at place rest left t u e f h k =
    let texts = ReadsText-same h.0 k.0 at rest left h.1 (subst (λ (b : List ℕ). ReadsText k.0 b left) f k.1) in
    IsUnescaped-same k.0 u t k.2 (subst (λ (r : List ℕ). IsUnescaped r t) (sym texts.0) h.2)

pub element_text_same : (c d : Child) (bytes t u : List ℕ) → HasElementText c bytes t → HasElementText d bytes u → u ≡ t
element_text_same c d bytes t u h k =
    let same = ReadsTagEnd-same h.tag.closed k.tag.closed bytes h.at k.at h.ends.ends k.ends.ends in
    texts_same h.tag.closed k.tag.closed h.at k.at h.rest k.rest t u same.0 same.1 h.has k.has

-- a text, at the tag that was read
text_moved : (closed other : Bool) (at place rest text : List ℕ) → other ≡ closed → place ≡ at
    → MatchBool other ((text ≡ []) × (rest ≡ place)) ((raw : List ℕ) × ReadsText raw place rest × IsUnescaped raw text)
    → MatchBool closed ((text ≡ []) × (rest ≡ at)) ((raw : List ℕ) × ReadsText raw at rest × IsUnescaped raw text)
text_moved closed other at place rest text e f h =
    subst (λ (b : Bool). MatchBool b ((text ≡ []) × (rest ≡ at))
    ((raw : List ℕ) × ReadsText raw at rest × IsUnescaped raw text)) e
    (subst (λ (p : List ℕ). MatchBool other ((text ≡ []) × (rest ≡ p))
    ((raw : List ℕ) × ReadsText raw p rest × IsUnescaped raw text)) f h)

pub element_text_at : (child : Child) (tag : Tag) (bytes at text : List ℕ) → IsTagOf child tag bytes at
    → HasElementText child bytes text
    → (rest : List ℕ) × HasText tag at rest text × (tag.closed ≡ false → rest ≢ [])
element_text_at child tag bytes at text t h =
    let same = ReadsTagEnd-same tag.closed h.tag.closed bytes at h.at t.ends h.ends.ends in (
      h.rest,
      text_moved tag.closed h.tag.closed at h.at h.rest text same.0 same.1 h.has,
      λ plain. h.followed (same.0 ∙ plain),
    )

pub first_text : (of : Element) (room : ℕ) (text other bytes from : List ℕ) (child : Child)
    → NamesChild room bytes child from → is_the of child.element ≡ true
    → FirstIs of room text bytes → HasElementText child from other → text ≡ other
first_text of room text other bytes from child b is (Found c at names same has) own =
    let there = NamesChild-same room bytes from at child c b names in
    element_text_same child c from other text own (subst (λ (t : List ℕ). HasElementText c t text) there.0 has)
first_text of room text other bytes from child b is (Behind c at later names not some more) own =
    let there = NamesChild-same room bytes from at child c b names in
    absurd (false≢true (sym not ∙ sym (first_element of child c there.1) ∙ is))

pub first_here : (of : Element) (room : ℕ) (text bytes from : List ℕ) (child : Child) → NamesChild room bytes child from
    → is_the of child.element ≡ true
    → FirstIs of room text bytes → HasElementText child from text
first_here of room text bytes from child b is (Found c at names same has) =
    let there = NamesChild-same room bytes from at child c b names in
    let moved = subst (λ (t : List ℕ). HasElementText c t text) there.0 has in
    record {
      tag = tag_of child moved.tag.closed;
      at = moved.at;
      ends = record { ends = moved.ends.ends; name = refl; element = refl; room = refl };
      rest = moved.rest;
      has = moved.has;
      followed = moved.followed;
    }
first_here of room text bytes from child b is (Behind c at later names not some more) =
    let there = NamesChild-same room bytes from at child c b names in
    absurd (false≢true (sym not ∙ sym (first_element of child c there.1) ∙ is))

pub first_at_end : (of : Element) (root : Tag) (room : ℕ) (text bytes at : List ℕ) → root.closed ≡ false
    → AtEnd root bytes at → FirstIs of room text bytes → ⊥
first_at_end of root room text bytes at plain ends (Found c from names is has) =
    child_at_end root room bytes at from c plain ends names
first_at_end of root room text bytes at plain ends (Behind c from later names not some more) =
    child_at_end root room bytes at from c plain ends names

pub first_no_child : (of : Element) (room : ℕ) (text bytes : List ℕ)
    → ((child : Child) (from : List ℕ) → ¬ (NamesChild room bytes child from)) → FirstIs of room text bytes → ⊥
first_no_child of room text bytes none (Found c from names is has) = none c from names
first_no_child of room text bytes none (Behind c from later names not some more) = none c from names

pub first_no_end : (of : Element) (room : ℕ) (text bytes from : List ℕ) (child : Child)
    → NamesChild room bytes child from → is_the of child.element ≡ false
    → ((rest : List ℕ) → ¬ (ReadsSome child from rest)) → FirstIs of room text bytes → ⊥
first_no_end of room text bytes from child b other none (Found c at names is has) =
    let same = NamesChild-same room bytes from at child c b names in
    false≢true (sym other ∙ first_element of child c same.1 ∙ is)
first_no_end of room text bytes from child b other none (Behind c at later names not some more) =
    let same = NamesChild-same room bytes from at child c b names in
    let moved = subst (λ (t : List ℕ). ReadsSome c t later) same.0 some in
    none later (
      moved.0,
      (
        moved.1.0,
        moved.1.1,
        moved.1.2,
        inner_at moved.1.0 moved.1.0 moved.0 child.room c.room child.name.now c.name.now moved.1.1 moved.1.1 later refl
            same.3 same.2 refl moved.1.3,
      ),
    )

only_nothing : (raw : List ℕ) → Only raw ≡ Only [] → raw ≡ []
only_nothing raw e = cc

leaf_has_text : (child : Child) (inner : Content) (text from next : List ℕ) → ReadsElement child inner from next
    → IsLeaf inner text → HasElementText child from text
leaf_has_text child (Then raw kid inside more) text from next r leaf = absurd leaf
leaf_has_text child (Only raw) text from next r leaf = by_closed r.0 r.1 r.2 r.3
  where
    by_closed : (closed : Bool) (at : List ℕ) → ReadsTagEnd closed from at
        → ReadsInner closed (Only raw) child.room child.name.now at next → HasElementText child from text
    by_closed true at ends inside = record {
      tag = tag_of child true;
      at = at;
      ends = record { ends = ends; name = refl; element = refl; room = refl };
      rest = at;
      has = (
        IsUnescaped-same [] text [] (subst (λ (r : List ℕ). IsUnescaped r text) (only_nothing raw inside.0) leaf)
            (spells_nothing StandsForText),
        refl,
      );
      followed = λ plain. absurd (false≢true (sym plain));
    }
    by_closed false at ends inside = record {
      tag = tag_of child false;
      at = at;
      ends = record { ends = ends; name = refl; element = refl; room = refl };
      rest = inside.0;
      has = (raw, inside.1, leaf);
      followed = λ plain none. no_cons 60 (47 ∷ inside.2.at_name) (sym inside.2.opens ∙ none);
    }

url_named : (inner : Content) (contents all : List Content) (url : Bool) → all ≡ inner ∷ contents → HasEncoding all url
    → url ≡ true
url_named inner contents all false e h = absurd (nothing_there inner contents (sym e ∙ h))
url_named inner contents all true e h = refl

pub url_there : (root : Tag) (here from rest : List ℕ) (child : Child) (url : Bool) → root.closed ≡ false
    → NamesChild root.room here child from
    → is_the element.EncodingType child.element ≡ true → HoldsAs (EncodingLeft false) root here rest url
    → (url ≡ true) × HasElementText child from (codes "url")
url_there root here from rest child url plain b is r =
    let p = element_past r.0 root.room root.name.now here from rest child b
    (inner_open root.closed r.0 root.room root.name.now here rest plain r.1) in
    let contents = named element.EncodingType p.more in
    let all = named_here element.EncodingType b.text child.element p.inner p.more is in
    let held = subst (λ (c : Content). HasEncoding (named element.EncodingType c) url) p.is r.2 in (
      url_named p.inner contents (named element.EncodingType (Then b.text child.element p.inner p.more)) url all held,
      leaf_has_text child p.inner (codes "url") from p.next p.inside
          (encoding_is p.inner contents (named element.EncodingType (Then b.text child.element p.inner p.more)) url all
          held),
    )

pub nothing_named : (url : Bool) → HasEncoding [] url → url ≡ false
nothing_named false h = refl
nothing_named true h = absurd (nothing_there h.0 [] (sym h.1))

pub no_end_there : (root : Tag) (here from rest : List ℕ) (child : Child) (url : Bool) → root.closed ≡ false
    → NamesChild root.room here child from
    → ((next : List ℕ) → ¬ (ReadsSome child from next)) → HoldsAs (EncodingLeft false) root here rest url → ⊥
no_end_there root here from rest child url plain b none r =
    let p = element_past r.0 root.room root.name.now here from rest child b
    (inner_open root.closed r.0 root.room root.name.now here rest plain r.1) in
    none p.next (p.inner, p.inside)

-- more levels are allowed
inside_deeper : (closed : Bool) (inner : Content) (room more : ℕ) (tag from to : List ℕ)
    → (ReadsContent inner room tag from to → ReadsContent inner more tag from to)
    → MatchBool closed ((inner ≡ Only []) × (to ≡ from)) (ReadsContent inner room tag from to)
    → MatchBool closed ((inner ≡ Only []) × (to ≡ from)) (ReadsContent inner more tag from to)
inside_deeper true inner room more tag from to f h = h
inside_deeper false inner room more tag from to f h = f h

pub deeper : (c : Content) (room more : ℕ) (name bytes rest : List ℕ) → room ≤ more
    → ReadsContent c room name bytes rest → ReadsContent c more name bytes rest
deeper (Only text) room more name bytes rest less r = r
deeper (Then text child inner later) room more name bytes rest less r =
    let a = r.1.1 in (
      omega (arith, less, r.0),
      (
        r.1.0,
        record {
          at_tag = a.at_tag;
          before = a.before;
          closed = a.closed;
          name = a.name;
          at_inner = a.at_inner;
          tag = a.tag;
          known = a.known;
          inside = inside_deeper a.closed inner (room - 1) (more - 1) a.name a.at_inner r.1.0
              (λ h. deeper inner (room - 1) (more - 1) a.name a.at_inner r.1.0 (omega (arith, less)) h) a.inside;
        },
        deeper later room more name r.1.0 rest less r.1.2,
      ),
    )

pub deeper_inner : (closed : Bool) (c : Content) (room more : ℕ) (name bytes rest : List ℕ) → room ≤ more
    → ReadsInner closed c room name bytes rest → ReadsInner closed c more name bytes rest
deeper_inner true c room more name bytes rest less r = r
deeper_inner false c room more name bytes rest less r = deeper c room more name bytes rest less r

-- a document is longer than the name of its root
pub root_within : (root doc rest : List ℕ) (closed : Bool) → BeginsDocument root doc closed rest
    → length root ≤ length doc
root_within root doc rest closed b =
    let front = ap length b.before.1.split ∙ length-append b.before.0 b.at_declaration in
    let gap = ap length b.between.1.split ∙ length-append b.between.0 b.at_root in
    let opens = ap length b.tag.opens in
    let name = ap length b.tag.named.run.split ∙ length-append root b.tag.at_attributes in
    let declared : length b.at_root ≤ length b.at_declaration =
    ⊎_elim (λ d. let left = root_left b.at_declaration b.at_space b.between.0 b.at_root d b.between.1 in
    omega (arith, left))
    (λ p. let same = ap length p.0 in omega (arith, same, gap)) b.declared in
    let tag : length (60 ∷ b.tag.at_name) ≡ suc (length b.tag.at_name) = refl in
    omega (arith, front, declared, opens, name, tag)
