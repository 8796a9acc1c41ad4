-- A leaf has one text.
use Rattle.std.proofs.Common.{◌≡◌, ◌∷◌, ℕ, Bool, true, false, List, [], refl, subst}
use Rattle.std.proofs.lemmas.Bool.{false≢true}
use Rattle.reply_xml.specs.declared.tags.Child.{Child}
use Rattle.reply_xml.specs.declared.tags.Tag.{Tag}
use Rattle.reply_xml.specs.Contents.{Content, Only, Then, ReadsText, ReadsContent, ReadsInner}
use Rattle.reply_xml.specs.Children.{IsLeaf, IsLeafOf}
use Rattle.reply_xml.specs.Reading.{HoldsAs, HoldsNone, ReadsAs, ReadsNone}
use Rattle.reply_xml.specs.Tags.{ReadsEndTag, ReadsTagEnd}
use Rattle.reply_values.specs.References.{IsUnescaped}
use Rattle.reply_values.proofs.UnescapeLemmas.{IsUnescaped-same, plain_run}
use Rattle.reply_xml.proofs.ContentLemmas.{ReadsText-same, content_inner, inner_open}
use Rattle.reply_xml.proofs.OpenLemmas.{ReadsElement-same, ReadsInner-same}

pub IsLeaf-same : (c : Content) (text other : List ℕ) → IsLeaf c text → IsLeaf c other → other ≡ text
IsLeaf-same (Only raw) text other r s = IsUnescaped-same raw other text s r
IsLeaf-same (Then raw child inner more) text other r s = absurd r

-- what stands inside a tag is one content
pub HoldsAs-same : {V W : Type 0} (P : Content → V → Type 0) (Q : Content → W → Type 0) (tag : Tag)
    (bytes rest left : List ℕ) (v : V) (w : W)
    → (r : HoldsAs P tag bytes rest v) → HoldsAs Q tag bytes left w → Q r.0 w × (left ≡ rest)
HoldsAs-same P Q tag bytes rest left v w r s =
    let same = ReadsInner-same tag.closed r.0 s.0 tag.room tag.name.now bytes rest left r.1 s.1 in
    (subst (λ (c : Content). Q c w) same.0 s.2, same.1)

pub ReadsAs-same : {V W : Type 0} (P : Content → V → Type 0) (Q : Content → W → Type 0) (child : Child)
    (bytes rest left : List ℕ) (v : V) (w : W)
    → (r : ReadsAs P child bytes rest v) → ReadsAs Q child bytes left w → Q r.0 w × (left ≡ rest)
ReadsAs-same P Q child bytes rest left v w r s =
    let same = ReadsElement-same child r.0 s.0 bytes rest left r.1 s.1 in
    (subst (λ (c : Content). Q c w) same.0 s.2, same.1)

-- inside a leaf stand a text that has a value, and its end tag
pub leaf_read : {V : Type 0} (Spells : List ℕ → V → Type 0) (tag : Tag) (at at_end rest raw text : List ℕ) (value : V)
    → tag.closed ≡ false → ReadsText raw at at_end → IsUnescaped raw text → ReadsEndTag tag.name.now at_end rest
    → Spells text value → HoldsAs (IsLeafOf Spells) tag at rest value
leaf_read Spells tag at at_end rest raw text value e r u end s =
    (Only raw, content_inner tag.closed (Only raw) tag.room tag.name.now at rest e (at_end, r, end), (text, u, s))

-- what stands inside a leaf whose tag is not closed
pub record Opened {V : Type 0} (Spells : List ℕ → V → Type 0) (name at rest : List ℕ) (value : V) : Type 0 where
  pub raw : List ℕ
  pub at_end : List ℕ
  pub run : ReadsText raw at at_end
  pub end : ReadsEndTag name at_end rest
  pub text : List ℕ
  pub unescaped : IsUnescaped raw text
  pub spells : Spells text value

opened_content : {V : Type 0} (Spells : List ℕ → V → Type 0) (c : Content) (room : ℕ) (name at rest : List ℕ)
    (value : V) → IsLeafOf Spells c value → ReadsContent c room name at rest → Opened Spells name at rest value
opened_content Spells (Only raw) room name at rest value l r =
    record { raw = raw; at_end = r.0; run = r.1; end = r.2; text = l.0; unescaped = l.1; spells = l.2 }
opened_content Spells (Then raw child inner more) room name at rest value l r = absurd l.1

leaf_opened : {V : Type 0} (Spells : List ℕ → V → Type 0) (tag : Tag) (at rest : List ℕ) (value : V)
    → tag.closed ≡ false → HoldsAs (IsLeafOf Spells) tag at rest value → Opened Spells tag.name.now at rest value
leaf_opened Spells tag at rest value e r =
    opened_content Spells r.0 tag.room tag.name.now at rest value r.2
    (inner_open tag.closed r.0 tag.room tag.name.now at rest e r.1)

-- no text, no value, or no end tag
pub leaf_no_text : {V : Type 0} (Spells : List ℕ → V → Type 0) (tag : Tag) (at : List ℕ) → tag.closed ≡ false
    → ((text more : List ℕ) → ¬ (ReadsText text at (60 ∷ more))) → HoldsNone (IsLeafOf Spells) tag at
leaf_no_text Spells tag at e none rest value r =
    let o = leaf_opened Spells tag at rest value e r in
    none o.raw (47 ∷ o.end.at_name) (subst (λ (b : List ℕ). ReadsText o.raw at b) o.end.opens o.run)

pub leaf_no_value : {V : Type 0} (Spells : List ℕ → V → Type 0) (tag : Tag) (at at_end raw text : List ℕ)
    → tag.closed ≡ false → ReadsText raw at at_end → IsUnescaped raw text → ((value : V) → ¬ (Spells text value))
    → HoldsNone (IsLeafOf Spells) tag at
leaf_no_value Spells tag at at_end raw text e run u none rest value r =
    let o = leaf_opened Spells tag at rest value e r in
    let same = (ReadsText-same raw o.raw at at_end o.at_end run o.run).0 in
    let meant : o.text ≡ text = IsUnescaped-same raw o.text text
    (subst (λ (b : List ℕ). IsUnescaped b o.text) same o.unescaped) u in
    none value (subst (λ (b : List ℕ). Spells b value) meant o.spells)

pub leaf_no_end : {V : Type 0} (Spells : List ℕ → V → Type 0) (tag : Tag) (at at_end raw : List ℕ)
    → tag.closed ≡ false → ReadsText raw at at_end → ((left : List ℕ) → ¬ (ReadsEndTag tag.name.now at_end left))
    → HoldsNone (IsLeafOf Spells) tag at
leaf_no_end Spells tag at at_end raw e run none rest value r =
    let o = leaf_opened Spells tag at rest value e r in
    none rest
    (subst (λ (b : List ℕ). ReadsEndTag tag.name.now b rest) (ReadsText-same raw o.raw at at_end o.at_end run o.run).1
    o.end)

-- a leaf whose tag is closed has an empty text
closed_inner : (closed : Bool) (room : ℕ) (name at : List ℕ) → closed ≡ true
    → ReadsInner closed (Only []) room name at at
closed_inner true room name at f = (refl, refl)
closed_inner false room name at f = absurd (false≢true f)

closed_only : (closed : Bool) (c : Content) (room : ℕ) (name at rest : List ℕ) → closed ≡ true
    → ReadsInner closed c room name at rest → c ≡ Only []
closed_only true c room name at rest f r = r.0
closed_only false c room name at rest f r = absurd (false≢true f)

pub leaf_closed : {V : Type 0} (Spells : List ℕ → V → Type 0) (tag : Tag) (at : List ℕ) (value : V)
    → tag.closed ≡ true → Spells [] value → HoldsAs (IsLeafOf Spells) tag at at value
leaf_closed Spells tag at value e s =
    (Only [], closed_inner tag.closed tag.room tag.name.now at e, ([], plain_run [] refl, s))

pub leaf_no_closed : {V : Type 0} (Spells : List ℕ → V → Type 0) (tag : Tag) (at : List ℕ)
    → tag.closed ≡ true → ((value : V) → ¬ (Spells [] value)) → HoldsNone (IsLeafOf Spells) tag at
leaf_no_closed Spells tag at e none rest value r =
    let empty = closed_only tag.closed r.0 tag.room tag.name.now at rest e r.1 in
    let leaf = subst (λ (c : Content). IsLeaf c r.2.0) empty r.2.1 in
    let meant : r.2.0 ≡ [] = IsUnescaped-same [] r.2.0 [] leaf (plain_run [] refl) in
    none value (subst (λ (b : List ℕ). Spells b value) meant r.2.2)

pub leaf_no_tag : {V : Type 0} (P : Content → V → Type 0) (child : Child) (from : List ℕ)
    → ((closed : Bool) (rest : List ℕ) → ¬ (ReadsTagEnd closed from rest)) → ReadsNone P child from
leaf_no_tag P child from none rest value r = none r.1.0 r.1.1 r.1.2
