-- A document's value is that of what stands inside its root.
use Rattle.std.proofs.Common.{◌≡◌, ℕ, Bool, List, [], sym, refl, subst}
use Rattle.reply_xml.specs.declared.tags.Tag.{Tag}
use Rattle.reply_xml.specs.Contents.{Content}
use Rattle.reply_xml.specs.Documents.{IsOf, IsDocument, BeginsDocument, ReadsSpace}
use Rattle.reply_xml.specs.Places.{HasBytesBehind}
use Rattle.reply_xml.specs.Reading.{HoldsAs, HoldsNone}
use Rattle.reply_xml.proofs.OpenLemmas.{inner_at, ReadsInner-same}
use Rattle.reply_xml.proofs.LeafLemmas.{HoldsAs-same}
use Rattle.reply_xml.proofs.DocumentLemmas.{BeginsDocument-same}

-- without a root there is no document
pub no_root : {V : Type 0} (Means : Content → V → Type 0) (root doc : List ℕ) (value : V)
    → ((closed : Bool) (rest : List ℕ) → ¬ (BeginsDocument root doc closed rest)) → IsOf root Means doc value → ⊥
no_root Means root doc value none d = none d.1.closed d.1.at_content d.1.begins

-- what stands inside the root
pub inside_root : {V : Type 0} (Means : Content → V → Type 0) (root doc from : List ℕ) (tag : Tag) (value : V)
    → BeginsDocument root doc tag.closed from → tag.room ≡ 15 → tag.name.now ≡ root
    → (d : IsOf root Means doc value) → (rest : List ℕ) × HoldsAs Means tag from rest value × ReadsSpace rest []
inside_root Means root doc from tag value begins room name d =
    let same = BeginsDocument-same root doc from d.1.at_content tag.closed d.1.closed begins d.1.begins in (
      d.1.at_space,
      (
        d.0,
        inner_at tag.closed d.1.closed d.0 tag.room 15 tag.name.now root from d.1.at_content d.1.at_space same.0
            (sym room) (sym name) same.1 d.1.inside,
        d.2,
      ),
      d.1.behind,
    )

pub no_inside : {V : Type 0} (Means : Content → V → Type 0) (root doc from : List ℕ) (tag : Tag)
    → BeginsDocument root doc tag.closed from → tag.room ≡ 15 → tag.name.now ≡ root
    → HoldsNone Means tag from → (value : V) → ¬ (IsOf root Means doc value)
no_inside Means root doc from tag begins room name none value d =
    let inside = inside_root Means root doc from tag value begins room name d in none inside.0 value inside.1

-- the whole document, where white space follows the root
pub whole : {V : Type 0} (Means : Content → V → Type 0) (root doc from rest : List ℕ) (tag : Tag) (value : V)
    → BeginsDocument root doc tag.closed from → tag.room ≡ 15 → tag.name.now ≡ root
    → HoldsAs Means tag from rest value → ReadsSpace rest [] → IsOf root Means doc value
whole Means root doc from rest tag value begins room name r space = (
  r.0,
  record {
    closed = tag.closed;
    at_content = from;
    begins = begins;
    at_space = rest;
    inside = inner_at tag.closed tag.closed r.0 15 tag.room root tag.name.now from from rest refl room name refl r.1;
    behind = space;
  },
  r.2,
)

-- and none, where anything else does
pub no_whole : {V : Type 0} (Means : Content → V → Type 0) (root doc from rest : List ℕ) (tag : Tag) (found : V)
    → BeginsDocument root doc tag.closed from → tag.room ≡ 15 → tag.name.now ≡ root
    → HoldsAs Means tag from rest found → ¬ (ReadsSpace rest []) → (value : V) → ¬ (IsOf root Means doc value)
no_whole Means root doc from rest tag found begins room name r none value d =
    let inside = inside_root Means root doc from tag value begins room name d in
    none (subst (λ (b : List ℕ). ReadsSpace b [])
    (HoldsAs-same Means Means tag from rest inside.0 found value r inside.1).1 inside.2)

-- what stands behind the root of a document
pub behind_root : {V : Type 0} (Means : Content → V → Type 0) (root doc from : List ℕ) (place : ℕ) (tag : Tag)
    → BeginsDocument root doc tag.closed from → tag.room ≡ 15 → tag.name.now ≡ root
    → (b : HasBytesBehind root Means doc place) → HoldsAs Means tag from b.at_end b.value
behind_root Means root doc from place tag begins room name b =
    let same = BeginsDocument-same root doc from b.at_content tag.closed b.closed begins b.begins in (
      b.content,
      inner_at tag.closed b.closed b.content tag.room 15 tag.name.now root from b.at_content b.at_end same.0
          (sym room) (sym name) same.1 b.inside,
      b.means,
    )

pub behind_there : {V : Type 0} (Means : Content → V → Type 0) (root doc from rest : List ℕ) (place : ℕ) (tag : Tag)
    (found : V) → BeginsDocument root doc tag.closed from → tag.room ≡ 15 → tag.name.now ≡ root
    → HoldsAs Means tag from rest found → (b : HasBytesBehind root Means doc place) → ReadsSpace rest b.more
behind_there Means root doc from rest place tag found begins room name r b =
    subst (λ (t : List ℕ). ReadsSpace t b.more) (HoldsAs-same Means Means tag from rest b.at_end found b.value r
    (behind_root Means root doc from place tag begins room name b)).1 b.space

-- the same bytes, where another sense gives a value too
pub behind_map : {V W : Type 0} (Means : Content → V → Type 0) (Other : Content → W → Type 0) (root doc : List ℕ)
    (place : ℕ) → ((content : Content) (value : V) → Means content value → (w : W) × Other content w)
    → HasBytesBehind root Means doc place → HasBytesBehind root Other doc place
behind_map Means Other root doc place also b =
    let other = also b.content b.value b.means in
    record {
      closed = b.closed;
      at_content = b.at_content;
      begins = b.begins;
      content = b.content;
      at_end = b.at_end;
      inside = b.inside;
      value = other.0;
      means = other.1;
      more = b.more;
      space = b.space;
      some = b.some;
      at = b.at;
    }

-- A document has one content, and so one value.
pub IsDocument-same : (root doc : List ℕ) (c d : Content) → IsDocument root doc c → IsDocument root doc d → d ≡ c
IsDocument-same root doc c d r s =
    let same = BeginsDocument-same root doc r.at_content s.at_content r.closed s.closed r.begins s.begins in
    let inside = inner_at r.closed s.closed d 15 15 root root r.at_content s.at_content s.at_space same.0 refl refl
    same.1 s.inside in
    (ReadsInner-same r.closed c d 15 root r.at_content r.at_space s.at_space r.inside inside).0

pub IsOf-same : {V : Type 0} (Means : Content → V → Type 0) (root doc : List ℕ)
    → ((c : Content) (v w : V) → Means c v → Means c w → w ≡ v) → (v w : V) → IsOf root Means doc v
    → IsOf root Means doc w → w ≡ v
IsOf-same Means root doc alone v w r s =
    alone r.0 v w r.2 (subst (λ (c : Content). Means c w) (IsDocument-same root doc r.0 s.0 r.1 s.1) s.2)
