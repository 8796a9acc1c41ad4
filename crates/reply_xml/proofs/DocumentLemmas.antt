-- Bytes begin with one document's root.
use Rattle.std.proofs.Common.{◌≡◌, ◌<◌, ◌+◌, ◌∙◌, ℕ, Bool, List, ◌-◌, ◌≤◌, length, sym, subst, ap, drop}
use Rattle.std.proofs.Common.{codes, inl, inr, ⊎_elim, arith}
use Rattle.std.proofs.lemmas.List.{append_cancel_left, length-append, length-drop}
use Rattle.reply_xml.specs.declared.runs.Sort.TheVariants as sort
use Rattle.reply_xml.specs.Documents.{EndsAt, ReadsDeclaration, MayDeclare, BeginsDocument, NamesRoot}
use Rattle.reply_xml.specs.Places.{BeginsOtherwise, HasOtherRoot, LacksName, LacksRoot, ReachesRoot}
use Rattle.reply_xml.specs.Runs.{ReadsRun}
use Rattle.reply_xml.specs.Tags.{NamesTag, ReadsTag, ReadsTagEnd}
use Rattle.reply_xml.proofs.RunLemmas.{ReadsRun-same}
use Rattle.reply_xml.proofs.TagLemmas.{ReadsTag-same, tag_end_of}

place_same : (bytes : List ℕ) (i j : ℕ) → EndsAt bytes i → ((k : ℕ) → k < i → ¬ (EndsAt bytes k)) → EndsAt bytes j
    → ((k : ℕ) → k < j → ¬ (EndsAt bytes k)) → j ≡ i
place_same bytes i j a f b g =
    let not_less : i < j → ⊥ = λ h. g i h a in
    let not_more : j < i → ⊥ = λ h. f j h b in
    omega arith

declaration_same : (bytes rest left : List ℕ) → ReadsDeclaration bytes rest → ReadsDeclaration bytes left → left ≡ rest
declaration_same bytes rest left r s =
    let after : s.after ≡ r.after = append_cancel_left (codes "<?xml") s.after r.after (sym s.opens ∙ r.opens) in
    let place : s.place ≡ r.place =
    place_same r.after r.place s.place r.ends r.first (subst (λ (b : List ℕ). EndsAt b s.place) after s.ends)
    (subst (λ (b : List ℕ). (k : ℕ) → k < s.place → ¬ (EndsAt b k)) after s.first) in
    s.behind ∙ ap (λ p. drop (p + 2) s.after) place ∙ ap (drop (r.place + 2)) after ∙ sym r.behind

pub MayDeclare-same : (bytes rest left : List ℕ) → MayDeclare bytes rest → MayDeclare bytes left → left ≡ rest
MayDeclare-same bytes rest left r s =
    ⊎_elim
    (λ a. ⊎_elim (λ b. declaration_same bytes rest left a b) (λ b. absurd (b.1 _ a.opens)) s)
    (λ a. ⊎_elim (λ b. absurd (a.1 _ b.opens)) (λ b. b.0 ∙ sym a.0) s)
    r

-- the declaration of a document stands behind the white space in front
pub declared_at : (root bytes space at rest : List ℕ) (closed : Bool) → ReadsRun sort.Space space bytes at
    → (b : BeginsDocument root bytes closed rest) → MayDeclare at b.at_space
declared_at root bytes space at rest closed run b =
    subst (λ (t : List ℕ). MayDeclare t b.at_space)
    (ReadsRun-same sort.Space space b.before.0 bytes at b.at_declaration run b.before.1).1 b.declared

-- and its root behind the declaration and white space
pub root_at : (root bytes space at at_space between at_root rest : List ℕ) (closed : Bool)
    → ReadsRun sort.Space space bytes at → MayDeclare at at_space → ReadsRun sort.Space between at_space at_root
    → BeginsDocument root bytes closed rest → ReadsTag closed root at_root rest
root_at root bytes space at at_space between at_root rest closed run declared gap b =
    let there = MayDeclare-same at at_space b.at_space declared (declared_at root bytes space at rest closed run b) in
    let root_is = ReadsRun-same sort.Space between b.between.0 at_space at_root b.at_root gap
    (subst (λ (t : List ℕ). ReadsRun sort.Space b.between.0 t b.at_root) there b.between.1) in
    subst (λ (t : List ℕ). ReadsTag closed root t rest) root_is.1 b.tag

pub BeginsDocument-same : (root bytes rest left : List ℕ) (closed other : Bool) → BeginsDocument root bytes closed rest
    → BeginsDocument root bytes other left → (other ≡ closed) × (left ≡ rest)
BeginsDocument-same root bytes rest left closed other r s =
    let tag = root_at root bytes r.before.0 r.at_declaration r.at_space r.between.0 r.at_root left other r.before.1
    r.declared r.between.1 s in
    let same = ReadsTag-same closed other root root r.at_root rest left r.tag tag in
    (same.0, same.2)

-- what stands behind the name of the root
pub root_end : (root doc at rest : List ℕ) (closed : Bool) → NamesRoot root doc at → BeginsDocument root doc closed rest
    → ReadsTagEnd closed at rest
root_end root doc at rest closed n b =
    let tag = root_at root doc n.before.0 n.at_declaration n.at_space n.between.0 n.at_root rest closed n.before.1
    n.declared n.between.1 b in
    (tag_end_of closed root n.at_root n.names.at_name root at rest n.names.opens n.names.named tag).1

pub root_begins : (root doc at rest : List ℕ) (closed : Bool) → NamesRoot root doc at → ReadsTagEnd closed at rest
    → BeginsDocument root doc closed rest
root_begins root doc at rest closed n e = record {
  at_declaration = n.at_declaration;
  before = n.before;
  at_space = n.at_space;
  declared = n.declared;
  at_root = n.at_root;
  between = n.between;
  tag = record {
    at_name = n.names.at_name;
    opens = n.names.opens;
    at_attributes = at;
    named = n.names.named;
    ends = e;
  };
}

pub other_root : (root name at_root from rest : List ℕ) (closed : Bool) → NamesTag name at_root from
    → ReadsTag closed root at_root rest → root ≡ name
other_root root name at_root from rest closed n r =
    (tag_end_of closed root at_root n.at_name name from rest n.opens n.named r).0

-- bytes begin with one root's name
pub NamesRoot-declared : (name bytes space at rest : List ℕ) → ReadsRun sort.Space space bytes at
    → (n : NamesRoot name bytes rest) → MayDeclare at n.at_space
NamesRoot-declared name bytes space at rest run n =
    subst (λ (t : List ℕ). MayDeclare t n.at_space)
    (ReadsRun-same sort.Space space n.before.0 bytes at n.at_declaration run n.before.1).1 n.declared

pub NamesRoot-tag : (name bytes space at at_space between at_root rest : List ℕ) → ReadsRun sort.Space space bytes at
    → MayDeclare at at_space → ReadsRun sort.Space between at_space at_root
    → NamesRoot name bytes rest → NamesTag name at_root rest
NamesRoot-tag name bytes space at at_space between at_root rest run declared gap n =
    let there = MayDeclare-same at at_space n.at_space declared (NamesRoot-declared name bytes space at rest run n) in
    let root_is = ReadsRun-same sort.Space between n.between.0 at_space at_root n.at_root gap
    (subst (λ (t : List ℕ). ReadsRun sort.Space n.between.0 t n.at_root) there n.between.1) in
    subst (λ (t : List ℕ). NamesTag name t rest) root_is.1 n.names

-- where the root has to begin
pub reached_declared : (bytes space at rest : List ℕ) → ReadsRun sort.Space space bytes at
    → (r : ReachesRoot bytes rest) → MayDeclare at r.at_space
reached_declared bytes space at rest run r =
    subst (λ (t : List ℕ). MayDeclare t r.at_space)
    (ReadsRun-same sort.Space space r.before.0 bytes at r.at_declaration run r.before.1).1 r.declared

pub reached : (bytes space at at_space between at_root rest : List ℕ) → ReadsRun sort.Space space bytes at
    → MayDeclare at at_space → ReadsRun sort.Space between at_space at_root
    → ReachesRoot bytes rest → rest ≡ at_root
reached bytes space at at_space between at_root rest run declared gap r =
    let there = MayDeclare-same at at_space r.at_space declared (reached_declared bytes space at rest run r) in
    sym (ReadsRun-same sort.Space r.between.0 between at_space rest at_root
    (subst (λ (t : List ℕ). ReadsRun sort.Space r.between.0 t rest) there r.between.1) gap).1

pub reaches : (bytes space at at_space between at_root : List ℕ) → ReadsRun sort.Space space bytes at
    → MayDeclare at at_space → ReadsRun sort.Space between at_space at_root
    → ReachesRoot bytes at_root
reaches bytes space at at_space between at_root run declared gap =
    record {
      at_declaration = at;
      before = (space, run);
      at_space = at_space;
      declared = declared;
      between =
          (between, gap);
    }

-- behind a declaration it stands behind `<?xml`
pub root_left : (at at_space between at_root : List ℕ) → ReadsDeclaration at at_space
    → ReadsRun sort.Space between at_space at_root → length at_root + 5 ≤ length at
root_left at at_space between at_root d gap =
    let opens : length at ≡ 5 + length d.after = ap length d.opens ∙ length-append (codes "<?xml") d.after in
    let behind : length at_space ≡ length d.after - (d.place + 2) = ap length d.behind ∙ length-drop
    (d.place + 2) d.after in
    let space : length at_space ≡ length between + length at_root = ap length gap.split
    ∙ length-append between at_root in
    omega (arith, opens, behind, space)

-- the place at which bytes begin otherwise, by what is left there
pub otherwise_at : (root doc : List ℕ) (place left : ℕ) → BeginsOtherwise root doc place
    → ((o : HasOtherRoot root doc place) → left ≡ length o.rest) → ((l : LacksRoot doc place) → left ≡ length l.rest)
    → ((l : LacksName doc place) → left ≡ length l.rest) → length doc - left ≡ place
otherwise_at root doc place left (inl o) f g h = ap (λ n. length doc - n) (f o) ∙ sym o.at
otherwise_at root doc place left (inr (inl l)) f g h = ap (λ n. length doc - n) (g l) ∙ sym l.at
otherwise_at root doc place left (inr (inr l)) f g h = ap (λ n. length doc - n) (h l) ∙ sym l.at
