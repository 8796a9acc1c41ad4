-- What taking an element in does to what is left to be found.
use Rattle.std.proofs.Common.{◌≡◌, ◌∙◌, ◌↔◌, ℕ, true, false, List, [], ◌∷◌, Option, Some, None, inl, inr, ⊎_elim, ◌⊎◌}
use Rattle.std.proofs.Common.{sym, refl, subst, ap}
use Rattle.std.specs.Option.{is_some, IsSome}
use Rattle.std.proofs.lemmas.Bool.{false≢true}
use Rattle.std.proofs.lemmas.Option.{none-some, same_Some}
use Rattle.reply_xml.specs.declared.elements.Element.{Element}
use Rattle.reply_xml.specs.declared.tags.Child.{Child}
use Rattle.reply_xml.specs.declared.tags.Tag.{Tag}
use Rattle.reply_xml.specs.Contents.{Content, Only, Then, ReadsContent, ReadsInner, is_the, named}
use Rattle.reply_xml.specs.Children.{IsLeafOf}
use Rattle.reply_xml.specs.Reading.{AtEnd, EndsContent, HoldsAs, NamesChild, ReadsAs, ReadsNone, ReadsSome, Advances}
use Rattle.reply_xml.specs.Reading.{Stops, OnceLeft, AtMostOnceLeft, LeafLeft, AtMostLeft}
use Rattle.reply_xml.proofs.ContentLemmas.{inner_open, content_inner, only_of}
use Rattle.reply_xml.proofs.OpenLemmas.{element_before, element_past, ReadsElement-same, ReadsInner-same}
use Rattle.reply_xml.proofs.ChildLemmas.{named_here, named_past, nothing_there, once_here, once_twice, once_bad}
use Rattle.reply_xml.proofs.ChildLemmas.{IsLeafOf-same}

pub leaf_taken : {V : Type 0} (Spells : List ℕ → V → Type 0) (of : Element) (child : Child) (bytes rest : List ℕ)
    (value : V) → ((text : List ℕ) (v w : V) → Spells text v → Spells text w → w ≡ v)
    → is_the of child.element ≡ true → ReadsAs (IsLeafOf Spells) child bytes rest value
    → Advances (LeafLeft Spells of None) (LeafLeft Spells of (Some value)) child bytes rest
leaf_taken Spells of child bytes rest value alone h r = (
  r.0,
  r.1,
  λ before more other. once_here (IsLeafOf Spells) of before child.element r.0 more value other h r.2
      (λ found s. IsLeafOf-same Spells alone r.0 value found r.2 s),
)

pub leaf_twice : {V : Type 0} (Spells : List ℕ → V → Type 0) (of : Element) (found : V) (child : Child) (bytes : List ℕ)
    → is_the of child.element ≡ true → Stops (LeafLeft Spells of (Some found)) child bytes
leaf_twice Spells of found child bytes h inner rest before more value r l =
    once_twice (IsLeafOf Spells) of before child.element inner more found value h l

pub leaf_bad : {V : Type 0} (Spells : List ℕ → V → Type 0) (of : Element) (child : Child) (bytes : List ℕ)
    → is_the of child.element ≡ true → ReadsNone (IsLeafOf Spells) child bytes
    → Stops (LeafLeft Spells of None) child bytes
leaf_bad Spells of child bytes h none inner rest before more value r l =
    once_bad (IsLeafOf Spells) of before child.element inner more value h (λ other s. none rest other (inner, r, s)) l

-- the same, for the answer to an element of that name, found for the first time or not
pub leaf_taken_at : {V : Type 0} (Spells : List ℕ → V → Type 0) (of : Element) (found : Option V) (child : Child)
    (bytes rest : List ℕ) (value : V) → ((text : List ℕ) (v w : V) → Spells text v → Spells text w → w ≡ v)
    → is_some found ≡ false → is_the of child.element ≡ true → ReadsAs (IsLeafOf Spells) child bytes rest value
    → Advances (LeafLeft Spells of found) (LeafLeft Spells of (Some value)) child bytes rest
leaf_taken_at Spells of None child bytes rest value alone e h r = leaf_taken Spells of child bytes rest value alone h r
leaf_taken_at Spells of (Some v) child bytes rest value alone e h r = absurd (false≢true (sym e))

pub leaf_bad_at : {V : Type 0} (Spells : List ℕ → V → Type 0) (of : Element) (found : Option V) (child : Child)
    (bytes : List ℕ) → is_some found ≡ false → is_the of child.element ≡ true
    → ReadsNone (IsLeafOf Spells) child bytes → Stops (LeafLeft Spells of found) child bytes
leaf_bad_at Spells of None child bytes e h none = leaf_bad Spells of child bytes h none
leaf_bad_at Spells of (Some v) child bytes e h none = absurd (false≢true (sym e))

pub leaf_twice_at : {V : Type 0} (Spells : List ℕ → V → Type 0) (of : Element) (found : Option V) (child : Child)
    (bytes : List ℕ) → is_some found ≡ true → is_the of child.element ≡ true
    → Stops (LeafLeft Spells of found) child bytes
leaf_twice_at Spells of None child bytes e h = absurd (false≢true e)
leaf_twice_at Spells of (Some v) child bytes e h = leaf_twice Spells of v child bytes h

-- where nothing can stand inside the tag, no content goes on
pub stops_there : {V : Type 0} (Before : Content → V → Type 0) (child : Child) (bytes : List ℕ)
    → ((rest : List ℕ) → ¬ (ReadsSome child bytes rest)) → Stops Before child bytes
stops_there Before child bytes none inner rest text more value r b = none rest (inner, r)

-- An element inside is passed: what stood inside the parent has a value in the first sense exactly where what is left
-- has it in the second.
pub advanced : {V : Type 0} (Before After : Content → V → Type 0) (parent : Tag) (child : Child)
    (bytes from next rest : List ℕ) (value : V) → parent.closed ≡ false → NamesChild parent.room bytes child from
    → Advances Before After child from next
    → HoldsAs Before parent bytes rest value ↔ HoldsAs After parent next rest value
advanced Before After parent child bytes from next rest value plain b a = (
  λ r. let p = element_past r.0 parent.room parent.name.now bytes from rest child b
      (inner_open parent.closed r.0 parent.room parent.name.now bytes rest plain r.1) in
      let same = ReadsElement-same child a.0 p.inner from next p.next a.1 p.inside in
      let held =
      (a.2 b.text p.more value).0 (subst (λ (i : Content). Before (Then b.text child.element i p.more) value) same.0
      (subst (λ (c : Content). Before c value) p.is r.2)) in (
        p.more,
        content_inner parent.closed p.more parent.room parent.name.now next rest plain
            (subst (λ (t : List ℕ). ReadsContent p.more parent.room parent.name.now t rest) same.1 p.after),
        held,
      ),
  λ r. let more = inner_open parent.closed r.0 parent.room parent.name.now next rest plain r.1 in (
    Then b.text child.element a.0 r.0,
    content_inner parent.closed (Then b.text child.element a.0 r.0) parent.room parent.name.now bytes rest plain
        (element_before parent.room bytes from next rest parent.name.now child a.0 r.0 b a.1 more),
    (a.2 b.text r.0 value).1 r.2,
  ),
)

-- or nothing has a value
pub stopped : {V : Type 0} (Before : Content → V → Type 0) (parent : Tag) (child : Child) (bytes from rest : List ℕ)
    (value : V) → parent.closed ≡ false → NamesChild parent.room bytes child from
    → Stops Before child from → HoldsAs Before parent bytes rest value → ⊥
stopped Before parent child bytes from rest value plain b stops r =
    let p = element_past r.0 parent.room parent.name.now bytes from rest child b
    (inner_open parent.closed r.0 parent.room parent.name.now bytes rest plain r.1) in
    stops p.inner p.next b.text p.more value p.inside (subst (λ (c : Content). Before c value) p.is r.2)

-- at the end of the parent nothing is left
pub ended : {V : Type 0} (Left : Content → V → Type 0) (parent : Tag) (bytes rest left : List ℕ) (value : V)
    → (e : EndsContent parent bytes rest)
    → HoldsAs Left parent bytes left value ↔ ((left ≡ rest) × Left (Only e.0) value)
ended Left parent bytes rest left value e = (
  λ r. let same = ReadsInner-same parent.closed (Only e.0) r.0 parent.room parent.name.now bytes rest left e.1 r.1 in
      (same.1, subst (λ (c : Content). Left c value) same.0 r.2),
  λ h. (
    Only e.0,
    subst (λ (b : List ℕ). ReadsInner parent.closed (Only e.0) parent.room parent.name.now bytes b)
        (sym h.0) e.1,
    h.1,
  ),
)

-- and where it is about to end, nothing stands but a text
pub at_end_left : {V : Type 0} (Left : Content → V → Type 0) (parent : Tag) (bytes at rest : List ℕ) (value : V)
    → AtEnd parent bytes at → HoldsAs Left parent bytes rest value
    → (text : List ℕ) × Left (Only text) value
at_end_left Left parent bytes at rest value e r =
    let only = only_of parent.closed r.0 parent.room parent.name.now bytes at rest e r.1 in
    (only.0, subst (λ (c : Content). Left c value) only.1 r.2)

-- Several parts of a value are found side by side.
abbrev pub Both : {V : Type 0} → (One Other : Content → V → Type 0) → Content → V → Type 0
Both One Other content value = One content value × Other content value

-- an element that a part does not look for
abbrev pub Passes : {V : Type 0} → (Content → V → Type 0) → Child → Type 0
Passes {V} Left child =
    (inner : Content) (text : List ℕ) (more : Content) (value : V) → Left (Then text child.element inner more) value ↔
    Left more value

pub first_advanced : {V : Type 0} (One After Other : Content → V → Type 0) (child : Child) (bytes rest : List ℕ)
    → Advances One After child bytes rest → Passes Other child
    → Advances (Both One Other) (Both After Other) child bytes rest
first_advanced One After Other child bytes rest a p = (
  a.0,
  a.1,
  λ text more value. (
    λ h. ((a.2 text more value).0 h.0, (p a.0 text more value).0 h.1),
    λ h.
        ((a.2 text more value).1 h.0, (p a.0 text more value).1 h.1),
  ),
)

pub other_advanced : {V : Type 0} (One Other After : Content → V → Type 0) (child : Child) (bytes rest : List ℕ)
    → Advances Other After child bytes rest → Passes One child
    → Advances (Both One Other) (Both One After) child bytes rest
other_advanced One Other After child bytes rest a p = (
  a.0,
  a.1,
  λ text more value. (
    λ h. ((p a.0 text more value).0 h.0, (a.2 text more value).0 h.1),
    λ h.
        ((p a.0 text more value).1 h.0, (a.2 text more value).1 h.1),
  ),
)

pub first_stopped : {V : Type 0} (One Other : Content → V → Type 0) (child : Child) (bytes : List ℕ)
    → Stops One child bytes → Stops (Both One Other) child bytes
first_stopped One Other child bytes s inner rest text more value r h = s inner rest text more value r h.0

pub other_stopped : {V : Type 0} (One Other : Content → V → Type 0) (child : Child) (bytes : List ℕ)
    → Stops Other child bytes → Stops (Both One Other) child bytes
other_stopped One Other child bytes s inner rest text more value r h = s inner rest text more value r h.1

pub both_pass : {V : Type 0} (One Other : Content → V → Type 0) (child : Child) → Passes One child → Passes Other child
    → Passes (Both One Other) child
both_pass One Other child p q inner text more value = (
  λ h. ((p inner text more value).0 h.0, (q inner text more value).0 h.1),
  λ h.
      ((p inner text more value).1 h.0, (q inner text more value).1 h.1),
)

-- what a part of a value does, the value does
pub part_advanced : {V W : Type 0} (part : V → W) (Before After : Content → W → Type 0) (child : Child)
    (bytes rest : List ℕ) → Advances Before After child bytes rest
    → Advances (λ c v. Before c (part v)) (λ c v. After c (part v)) child bytes rest
part_advanced part Before After child bytes rest a = (a.0, a.1, λ text more value. a.2 text more (part value))

pub part_stopped : {V W : Type 0} (part : V → W) (Before : Content → W → Type 0) (child : Child) (bytes : List ℕ)
    → Stops Before child bytes → Stops (λ c v. Before c (part v)) child bytes
part_stopped part Before child bytes s inner rest text more value r h = s inner rest text more (part value) r h

-- passing over what no part looks for
pub skipped : {V : Type 0} (Left : Content → V → Type 0) (child : Child) (bytes rest : List ℕ) → Passes Left child
    → ReadsSome child bytes rest → Advances Left Left child bytes rest
skipped Left child bytes rest p s = (s.0, s.1, λ text more value. p s.0 text more value)

-- what depends on the elements of one name alone passes over the others
pub named_passes : {V : Type 0} (Left : List Content → V → Type 0) (of : Element) (child : Child)
    → is_the of child.element ≡ false → Passes (λ c v. Left (named of c) v) child
named_passes {V} Left of child h inner text more value =
    let e = named_past of text child.element inner more h in
    (λ l. subst (λ (cs : List Content). Left cs value) e l, λ l. subst (λ (cs : List Content). Left cs value) (sym e) l)

-- an element that may be absent, found for the first time
at_most_here : {V : Type 0} (P : Content → V → Type 0) (contents all : List Content) (inner : Content) (x : V)
    → all ≡ inner ∷ contents
    → ((v : V) → OnceLeft P None all v ↔ OnceLeft P (Some x) contents v) → (o : Option V)
    → AtMostOnceLeft P None all o ↔ AtMostOnceLeft P (Some x) contents o
at_most_here P contents all inner x e same None =
    (λ h. absurd (nothing_there inner contents (sym e ∙ h)), λ h. absurd (none-some x h.1))
at_most_here P contents all inner x e same (Some v) = (
  λ h. let left = (same v).0 h in (left.0, ap Some left.1),
  λ h. (same v).1 (h.0, same_Some v x h.1),
)

pub at_most_advanced : {V : Type 0} (Spells : List ℕ → V → Type 0) (of : Element) (found now : Option V) (child : Child)
    (bytes rest : List ℕ) → is_the of child.element ≡ true → found ≡ None → IsSome now
    → Advances (LeafLeft Spells of found) (LeafLeft Spells of now) child bytes rest
    → Advances (AtMostLeft Spells of found) (AtMostLeft Spells of now) child bytes rest
at_most_advanced Spells of None None child bytes rest h e s a = absurd (false≢true s)
at_most_advanced Spells of None (Some x) child bytes rest h e s a = (
  a.0,
  a.1,
  λ text more o. at_most_here (IsLeafOf Spells) (named of more) (named of (Then text child.element a.0 more)) a.0 x
      (named_here of text child.element a.0 more h) (λ v. a.2 text more v) o,
)
at_most_advanced Spells of (Some y) now child bytes rest h e s a = absurd (none-some y (sym e))

at_most_once : {V : Type 0} (P : Content → V → Type 0) (found : Option V) (contents : List Content) (o : Option V)
    → AtMostOnceLeft P found contents o → (contents ≡ []) ⊎ ((v : V) × OnceLeft P found contents v)
at_most_once P None contents None h = inl h
at_most_once P None contents (Some v) h = inr (v, h)
at_most_once P (Some x) contents o h = inr (x, (h.0, refl))

pub at_most_stopped : {V : Type 0} (Spells : List ℕ → V → Type 0) (of : Element) (found : Option V) (child : Child)
    (bytes : List ℕ) → is_the of child.element ≡ true
    → Stops (LeafLeft Spells of found) child bytes → Stops (AtMostLeft Spells of found) child bytes
at_most_stopped Spells of found child bytes h s inner rest text more o r l =
    ⊎_elim (λ e. nothing_there inner (named of more) (sym (named_here of text child.element inner more h) ∙ e))
    (λ once. s inner rest text more once.0 r once.1)
    (at_most_once (IsLeafOf Spells) found (named of (Then text child.element inner more)) o l)
