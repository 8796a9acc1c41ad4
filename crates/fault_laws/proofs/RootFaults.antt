-- A document has one fault, and none where it is read and no fault stands in its elements.
use Rattle.std.proofs.Common.{◌≡◌, ◌≢◌, ◌∙◌, ◌<◌, ◌-◌, ◌++◌, ◌==◌, ◌||◌, ◌⊎◌, ⊎_elim, ℕ, zero, suc, Bool, true, List, []}
use Rattle.std.proofs.Common.{◌∷◌, refl, sym, ap, subst, length, take, codes, arith, inl, inr}
use Rattle.std.specs.Str.{IsUtf8, is_utf8}
use Rattle.std.proofs.lemmas.Bool.{cases_Bool, false≢true}
use Rattle.std.proofs.lemmas.List.{append_cancel_left}
use Rattle.std.proofs.lemmas.List.Elements.{All-head}
use Rattle.std.proofs.lemmas.Str.{IsUtf8-from_is_utf8, is_utf8-from_IsUtf8}
use Rattle.reply_xml.specs.declared.faults.DocFault.{DocFault}
use Rattle.reply_xml.specs.declared.faults.DocFault.TheVariants as fault
use Rattle.reply_xml.specs.declared.tags.Tag.{Tag}
use Rattle.reply_xml.proofs.Sorts as sort
use Rattle.reply_xml.specs.Breaks.{BehindRoot, Breaks, BreaksIn, HasRoot, InRoot, InRootTag, NoRoot}
use Rattle.reply_xml.specs.Contents.{Content, ReadsInner}
use Rattle.reply_xml.specs.Documents.{BeginsDocument, EndsAt, IsDocument, MayDeclare, NamesRoot}
use Rattle.reply_xml.specs.Fits.{Fits, HoldsWell}
use Rattle.reply_xml.specs.Leaves.{BadAttribute, IsAtFault, Lacks, LeavesAttributes, LeavesDeclaration}
use Rattle.reply_xml.specs.Leaves.{LeavesTagEnd, NoCharacters, NoClose, NoOpening, NoSpace, NoTagEnd}
use Rattle.reply_xml.specs.Places.{BeginsOtherwise, LacksDeclaration, ReachesRoot}
use Rattle.reply_xml.specs.Runs.{BeginsOutside, ReadsRun, is_name_byte, is_space}
use Rattle.reply_xml.specs.Tables.{Table}
use Rattle.reply_xml.specs.Tags.{NameEnds, NamesTag, ReadsAttributes}
use Rattle.reply_xml.proofs.DocumentLemmas.{BeginsDocument-same, reached, root_end}
use Rattle.fault_laws.proofs.InFaults.{BreaksIn-same, IsLike, tag_moved}
use Rattle.fault_laws.proofs.LeavesSame.{IsCommonFront-same, LeavesTagEnd-same, name_left, tag_end_left}
use Rattle.reply_xml.proofs.OpenLemmas.{ReadsInner-same, inner_at}
use Rattle.reply_xml.proofs.RunLemmas.{ReadsRun-same}
use Rattle.reply_xml.proofs.TagLemmas.{NamesTag-same}
use Rattle.fault_laws.proofs.TextsSame.{stands_same}
use Rattle.fault_laws.proofs.WellFaults.{tag_name, tag_name_ends, well_breaks}
use Rattle.shared_lemmas.proofs.Lists.{cons_parts}

-- declarations
utf8_or : (text : List ℕ) → IsUtf8 text ⊎ ¬ (IsUtf8 text)
utf8_or text =
    ⊎_elim (λ yes. inl (IsUtf8-from_is_utf8 text yes))
    (λ no. inr (λ utf8. false≢true (sym no ∙ is_utf8-from_IsUtf8 text utf8))) (cases_Bool (is_utf8 text))

after_same : (bytes after other : List ℕ) → bytes ≡ codes "<?xml" ++ after → bytes ≡ codes "<?xml" ++ other
    → other ≡ after
after_same bytes after other e f = append_cancel_left (codes "<?xml") other after (sym f ∙ e)

ends_same : (after other : List ℕ) (i j : ℕ) → other ≡ after → EndsAt after i → ((k : ℕ) → k < i → ¬ (EndsAt after k))
    → EndsAt other j → ((k : ℕ) → k < j → ¬ (EndsAt other k)) → j ≡ i
ends_same after other i j same a f b g =
    let c = subst (λ (t : List ℕ). EndsAt t j) same b in
    let h = subst (λ (t : List ℕ). (k : ℕ) → k < j → ¬ (EndsAt t k)) same g in
    let not_less : i < j → ⊥ = λ less. h i less a in
    let not_more : j < i → ⊥ = λ less. f j less c in
    omega arith

sizes_same : (text other : List ℕ) (a b : ℕ) → other ≡ text → (IsUtf8 text → a ≡ length text)
    → (¬ (IsUtf8 text) → IsAtFault text a) → (IsUtf8 other → b ≡ length other) → (¬ (IsUtf8 other) → IsAtFault other b)
    → b ≡ a
sizes_same text other a b same f g h k =
    ⊎_elim (λ yes. h (subst IsUtf8 (sym same) yes) ∙ ap length same ∙ sym (f yes))
    (
    λ no. let bad : ¬ (IsUtf8 other) = λ utf8. no (subst IsUtf8 same utf8) in
    subst (λ (t : List ℕ). IsAtFault t b) same (k bad) ∙ sym (g no)
    )
    (utf8_or text)

pub LeavesDeclaration-same : (bytes : List ℕ) (a b : ℕ) → LeavesDeclaration bytes a → LeavesDeclaration bytes b → b ≡ a
LeavesDeclaration-same bytes a b (NoOpening size more begins none front e) (NoOpening count other starts none2 front2 f) =
    let same = IsCommonFront-same bytes (codes "<?xml") size count front front2 in omega (arith, e, f, same)
LeavesDeclaration-same bytes a b (NoOpening size more begins none front e) (NoClose count after opens lacks whole bad f) =
    absurd (none after opens)
LeavesDeclaration-same bytes a b (NoOpening size more begins none front e)
    (NoCharacters count place after opens ends first bad wrong f) =
    absurd (none after opens)
LeavesDeclaration-same bytes a b (NoClose size after opens lacks whole bad e) (NoOpening count more begins none front f) =
    absurd (none after opens)
LeavesDeclaration-same bytes a b (NoClose size after opens lacks whole bad e)
    (NoClose count other starts lacks2 whole2 bad2 f) =
    let same = after_same bytes after other opens starts in
    let sizes = sizes_same after other size count same whole bad whole2 bad2 in
    let long = ap length same in
    omega (arith, e, f, sizes, long)
LeavesDeclaration-same bytes a b (NoClose size after opens lacks whole bad e)
    (NoCharacters count place other starts ends first bad2 wrong f) =
    absurd (lacks place (subst (λ (t : List ℕ). EndsAt t place) (after_same bytes after other opens starts) ends))
LeavesDeclaration-same bytes a b (NoCharacters size place after opens ends first bad wrong e)
    (NoOpening count more begins none front f) =
    absurd (none after opens)
LeavesDeclaration-same bytes a b (NoCharacters size place after opens ends first bad wrong e)
    (NoClose count other starts lacks whole bad2 f) =
    absurd (lacks place (subst (λ (t : List ℕ). EndsAt t place) (sym (after_same bytes after other opens starts)) ends))
LeavesDeclaration-same bytes a b (NoCharacters size place after opens ends first bad wrong e)
    (NoCharacters count there other starts ends2 first2 bad2 wrong2 f) =
    let same = after_same bytes after other opens starts in
    let places = ends_same after other place there same ends first ends2 first2 in
    let text : take there other ≡ take place after = ap (λ (t : List ℕ). take there t) same ∙ ap (λ n. take n after)
    places in
    let sizes : count ≡ size = subst (λ (t : List ℕ). IsAtFault t count) text wrong2 ∙ sym wrong in
    let long = ap length same in
    omega (arith, e, f, sizes, long)

declared_or_left : (bytes rest : List ℕ) (left : ℕ) → MayDeclare bytes rest → ¬ (LeavesDeclaration bytes left)
declared_or_left bytes rest left (inl d) (NoOpening size more begins none front e) = none d.after d.opens
declared_or_left bytes rest left (inr p) (NoOpening size more begins none front e) = p.1 more begins
declared_or_left bytes rest left (inl d) (NoClose size after opens lacks whole bad e) =
    lacks d.place (subst (λ (t : List ℕ). EndsAt t d.place) (after_same bytes after d.after opens d.opens) d.ends)
declared_or_left bytes rest left (inr p) (NoClose size after opens lacks whole bad e) = p.1 _ opens
declared_or_left bytes rest left (inl d) (NoCharacters size place after opens ends first bad wrong e) =
    let same = after_same bytes after d.after opens d.opens in
    let places = ends_same after d.after place d.place same ends first d.ends d.first in
    bad
    (subst (λ n. IsUtf8 (take n after)) places (subst (λ (t : List ℕ). IsUtf8 (take d.place t)) same d.characters))
declared_or_left bytes rest left (inr p) (NoCharacters size place after opens ends first bad wrong e) = p.1 _ opens

-- where a root has to begin
data RootFault (root at : List ℕ) (left : ℕ) : Type 0 where
  OtherRoot : (name rest : List ℕ) → NamesTag name at rest → (NameEnds rest → name ≢ root) → left ≡ length rest
      → RootFault root at left
  NoLess : Lacks 60 at → left ≡ length at → RootFault root at left
  NoRootName : (rest : List ℕ) → at ≡ 60 ∷ rest → BeginsOutside is_name_byte rest → left ≡ length rest
      → RootFault root at left

no_name_there : (name at rest more : List ℕ) → NamesTag name at rest → at ≡ 60 ∷ more → BeginsOutside is_name_byte more
    → ⊥
no_name_there name at rest more n e outside =
    let same = (cons_parts 60 60 n.at_name more (sym n.opens ∙ e)).1 in
    name_left name n.at_name rest (length n.at_name) n.named
    (record { outside = subst (λ (t : List ℕ). BeginsOutside is_name_byte t) (sym same) outside; at = refl })

RootFault-same : (root at : List ℕ) (a b : ℕ) → RootFault root at a → RootFault root at b → b ≡ a
RootFault-same root at a b (OtherRoot name rest n differs e) (OtherRoot other there m differs2 f) =
    f ∙ ap length (NamesTag-same name other at rest there n m).1 ∙ sym e
RootFault-same root at a b (OtherRoot name rest n differs e) (NoLess lacks f) = absurd (lacks n.at_name n.opens)
RootFault-same root at a b (OtherRoot name rest n differs e) (NoRootName more is outside f) =
    absurd (no_name_there name at rest more n is outside)
RootFault-same root at a b (NoLess lacks e) (OtherRoot name rest n differs f) = absurd (lacks n.at_name n.opens)
RootFault-same root at a b (NoLess lacks e) (NoLess lacks2 f) = f ∙ sym e
RootFault-same root at a b (NoLess lacks e) (NoRootName more is outside f) = absurd (lacks more is)
RootFault-same root at a b (NoRootName more is outside e) (OtherRoot name rest n differs f) =
    absurd (no_name_there name at rest more n is outside)
RootFault-same root at a b (NoRootName more is outside e) (NoLess lacks f) = absurd (lacks more is)
RootFault-same root at a b (NoRootName more is outside e) (NoRootName other is2 outside2 f) =
    f ∙ ap length (cons_parts 60 60 other more (sym is2 ∙ is)).1 ∙ sym e

record IsRootFault (root doc : List ℕ) (place : ℕ) : Type 0 where
  pub at : List ℕ
  pub reaches : ReachesRoot doc at
  pub left : ℕ
  pub here : RootFault root at left
  pub stands : place ≡ length doc - left

names_reach : (name doc rest : List ℕ) → (n : NamesRoot name doc rest) → ReachesRoot doc n.at_root
names_reach name doc rest n = record {
  at_declaration = n.at_declaration;
  before = n.before;
  at_space = n.at_space;
  declared = n.declared;
  between = n.between;
}

root_fault : (root doc : List ℕ) (place : ℕ) → BeginsOtherwise root doc place → IsRootFault root doc place
root_fault root doc place (inl o) = record {
  at = o.names.at_root;
  reaches = names_reach o.name doc o.rest o.names;
  left = length o.rest;
  here = OtherRoot o.name o.rest o.names.names o.differs refl;
  stands = o.at;
}
root_fault root doc place (inr (inl l)) = record {
  at = l.rest;
  reaches = l.reaches;
  left = length l.rest;
  here = NoLess l.none refl;
  stands = l.at;
}
root_fault root doc place (inr (inr l)) = record {
  at = 60 ∷ l.rest;
  reaches = l.reaches;
  left = length l.rest;
  here = NoRootName l.rest refl l.unnamed refl;
  stands = l.at;
}

reached_same : (doc at there : List ℕ) → ReachesRoot doc at → ReachesRoot doc there → there ≡ at
reached_same doc at there r s =
    reached doc r.before.0 r.at_declaration r.at_space r.between.0 at there r.before.1 r.declared r.between.1 s

reached_or_left : (doc at : List ℕ) (place : ℕ) → ReachesRoot doc at → ¬ (LacksDeclaration doc place)
reached_or_left doc at place r l =
    let same = (ReadsRun-same sort.space r.before.0 l.before.0 doc r.at_declaration l.rest r.before.1 l.before.1).1 in
    declared_or_left r.at_declaration r.at_space l.left r.declared
    (subst (λ (t : List ℕ). LeavesDeclaration t l.left) same l.leaves)

otherwise_same : (root doc : List ℕ) (a b : ℕ) → BeginsOtherwise root doc a ⊎ LacksDeclaration doc a
    → BeginsOtherwise root doc b ⊎ LacksDeclaration doc b → b ≡ a
otherwise_same root doc a b (inl o) (inl p) =
    let r = root_fault root doc a o in
    let s = root_fault root doc b p in
    let same = reached_same doc r.at s.at r.reaches s.reaches in
    let lefts = RootFault-same root r.at r.left s.left r.here
    (subst (λ (t : List ℕ). RootFault root t s.left) same s.here) in
    s.stands ∙ ap (λ n. length doc - n) lefts ∙ sym r.stands
otherwise_same root doc a b (inl o) (inr l) =
    let r = root_fault root doc a o in absurd (reached_or_left doc r.at b r.reaches l)
otherwise_same root doc a b (inr l) (inl p) =
    let s = root_fault root doc b p in absurd (reached_or_left doc s.at a s.reaches l)
otherwise_same root doc a b (inr l) (inr m) =
    let same = (ReadsRun-same sort.space l.before.0 m.before.0 doc l.rest m.rest l.before.1 m.before.1).1 in
    let lefts = LeavesDeclaration-same l.rest l.left m.left l.leaves
    (subst (λ (t : List ℕ). LeavesDeclaration t m.left) same m.leaves) in
    m.at ∙ ap (λ n. length doc - n) lefts ∙ sym l.at

-- the tag of the root
gap_ends : (gap bytes at : List ℕ) → ReadsRun sort.space gap bytes at → gap ≢ [] → NameEnds bytes
gap_ends [] bytes at run some = absurd (some refl)
gap_ends (x ∷ gap) bytes at run some = (
  x,
  gap ++ at,
  run.split,
  ap (λ b. b || (x == 47 || x == 62)) (All-head (λ b. is_space b ≡ true) x gap run.inside),
)

slash_ends : (space bytes at last : List ℕ) → ReadsRun sort.space space bytes at → at ≡ 47 ∷ last → NameEnds bytes
slash_ends [] bytes at last run e = (47, last, run.split ∙ e, refl)
slash_ends (x ∷ space) bytes at last run e = gap_ends (x ∷ space) bytes at run (λ none. starts_nil x space none)
  where
    starts_nil : (y : ℕ) (ys : List ℕ) → y ∷ ys ≡ [] → ⊥
    starts_nil y ys none = cc

here_left : (bytes : List ℕ) (left : ℕ) → LeavesAttributes bytes left → ¬ (NameEnds bytes) → left ≡ length bytes
here_left bytes left (NoSpace space at run more slash none e) ends =
    e ∙ sym (ap length (run.split ∙ ap (λ (s : List ℕ). s ++ at) none))
here_left bytes left (NoTagEnd space at last run is lacks e) ends = absurd (ends (slash_ends space bytes at last run is))
here_left bytes left (BadAttribute space at run more slash some l) ends = absurd (ends (gap_ends space bytes at run some))

attributes_left : (count : ℕ) (bytes at : List ℕ) (left : ℕ) → ReadsAttributes count bytes at → LeavesAttributes at left
    → ¬ (NameEnds bytes) → left ≡ length bytes
attributes_left zero bytes at left a l ends =
    here_left bytes left (subst (λ (t : List ℕ). LeavesAttributes t left) a l) ends
attributes_left (suc n) bytes at left a l ends = absurd (ends (gap_ends a.2.space bytes a.0 a.2.run a.2.some))

unnamed_left : (bytes : List ℕ) (left : ℕ) → LeavesTagEnd bytes left → ¬ (NameEnds bytes) → left ≡ length bytes
unnamed_left bytes left l ends = attributes_left l.count bytes l.at left l.attributes l.leaves ends

tag_or_other : (root at rest : List ℕ) (left other : ℕ) → NamesTag root at rest → LeavesTagEnd rest left
    → RootFault root at other → other ≡ left
tag_or_other root at rest left other n l (OtherRoot name there m differs e) =
    let same = NamesTag-same root name at rest there n m in
    let apart : NameEnds rest → ⊥ = λ ends. differs (subst NameEnds (sym same.1) ends) same.0 in
    e ∙ ap length same.1 ∙ sym (unnamed_left rest left l apart)
tag_or_other root at rest left other n l (NoLess lacks e) = absurd (lacks n.at_name n.opens)
tag_or_other root at rest left other n l (NoRootName more is outside e) =
    absurd (no_name_there root at rest more n is outside)

other_or_tag : (root doc at : List ℕ) (place left : ℕ) → BeginsOtherwise root doc place ⊎ LacksDeclaration doc place
    → NamesRoot root doc at → LeavesTagEnd at left → place ≡ length doc - left
other_or_tag root doc at place left (inl o) n l =
    let r = root_fault root doc place o in
    let same = reached_same doc n.at_root r.at (names_reach root doc at n) r.reaches in
    let lefts = tag_or_other root n.at_root at left r.left n.names l
    (subst (λ (t : List ℕ). RootFault root t r.left) same r.here) in
    r.stands ∙ ap (λ n. length doc - n) lefts
other_or_tag root doc at place left (inr m) n l =
    absurd (reached_or_left doc n.at_root place (names_reach root doc at n) m)

begun_name : (root doc rest : List ℕ) (closed : Bool) → (b : BeginsDocument root doc closed rest)
    → NamesRoot root doc b.tag.at_attributes
begun_name root doc rest closed b = record {
  at_declaration = b.at_declaration;
  before = b.before;
  at_space = b.at_space;
  declared = b.declared;
  at_root = b.at_root;
  between = b.between;
  names = tag_name closed root b.at_root rest b.tag;
}

begun_or_other : (root at rest : List ℕ) (left : ℕ) → NamesTag root at rest → NameEnds rest → ¬ (RootFault root at left)
begun_or_other root at rest left n ends (OtherRoot name there m differs e) =
    let same = NamesTag-same root name at rest there n m in differs (subst NameEnds (sym same.1) ends) same.0
begun_or_other root at rest left n ends (NoLess lacks e) = lacks n.at_name n.opens
begun_or_other root at rest left n ends (NoRootName more is outside e) = no_name_there root at rest more n is outside

begun_or_none : (root doc rest : List ℕ) (closed : Bool) (place : ℕ) → BeginsDocument root doc closed rest
    → ¬ (BeginsOtherwise root doc place ⊎ LacksDeclaration doc place)
begun_or_none root doc rest closed place b (inl o) =
    let n = begun_name root doc rest closed b in
    let r = root_fault root doc place o in
    let same = reached_same doc n.at_root r.at (names_reach root doc b.tag.at_attributes n) r.reaches in
    begun_or_other root n.at_root b.tag.at_attributes r.left n.names
    (tag_name_ends closed root b.at_root rest b.tag) (subst (λ (t : List ℕ). RootFault root t r.left) same r.here)
begun_or_none root doc rest closed place b (inr l) =
    let n = begun_name root doc rest closed b in
    reached_or_left doc n.at_root place (names_reach root doc b.tag.at_attributes n) l

names_roots : (root doc at there : List ℕ) → NamesRoot root doc at → NamesRoot root doc there → there ≡ at
names_roots root doc at there n m =
    let same = reached_same doc n.at_root m.at_root (names_reach root doc at n) (names_reach root doc there m) in
    (NamesTag-same root root n.at_root at there n.names
    (subst (λ (t : List ℕ). NamesTag root t there) same m.names)).1

-- two roots of one document
roots_like : (root doc : List ℕ) (tag other : Tag) (rest there : List ℕ) → HasRoot root doc tag rest
    → HasRoot root doc other there → IsLike other tag × (there ≡ rest)
roots_like root doc tag other rest there r s =
    let same = BeginsDocument-same root doc rest there tag.closed other.closed r.begins s.begins in (
      record { closed = sym same.0; room = r.room ∙ sym s.room; name = r.name ∙ sym s.name },
      same.1,
    )

inner_like : (tag other : Tag) (c : Content) (bytes rest : List ℕ) → IsLike other tag
    → ReadsInner other.closed c other.room other.name.now bytes rest
    → ReadsInner tag.closed c tag.room tag.name.now bytes rest
inner_like tag other c bytes rest like r =
    inner_at tag.closed other.closed c tag.room other.room tag.name.now other.name.now bytes bytes rest
    (sym like.closed) (sym like.room) (sym like.name) refl r

inside_or_behind : (root doc : List ℕ) (table : Table) (size : ℕ) (reason : DocFault) (tag other : Tag)
    (rest there at : List ℕ) → HasRoot root doc tag rest → BreaksIn size reason table [] tag rest
    → HasRoot root doc other there → HoldsWell table other there at → ⊥
inside_or_behind root doc table size reason tag other rest there at r breaks s well =
    let like = roots_like root doc other tag there rest s r in
    let moved = subst (λ (t : List ℕ). BreaksIn size reason table [] other t) like.1
    (tag_moved size reason table [] tag other rest like.0 breaks) in
    well_breaks size reason table [] other there at well.0 well.1 well.2 moved

behind_same : (root doc : List ℕ) (table : Table) (tag other : Tag) (rest there at place : List ℕ)
    → HasRoot root doc tag rest → HoldsWell table tag rest at → HasRoot root doc other there
    → HoldsWell table other there place → place ≡ at
behind_same root doc table tag other rest there at place r well s well2 =
    let like = roots_like root doc tag other rest there r s in
    let moved = inner_like tag other well2.0 rest place like.0
    (subst (λ (t : List ℕ). ReadsInner other.closed well2.0 other.room other.name.now t place) like.1 well2.1) in
    (ReadsInner-same tag.closed well.0 well2.0 tag.room tag.name.now rest at place well.1 moved).1

pub Breaks-same : (root : List ℕ) (table : Table) (doc : List ℕ) (a b : DocFault) → Breaks root table doc a
    → Breaks root table doc b → b ≡ a
Breaks-same root table doc a b (NoRoot place x e) (NoRoot other y f) =
    f ∙ ap (λ n. fault.NotADocument n) (otherwise_same root doc place other x y) ∙ sym e
Breaks-same root table doc a b (NoRoot place x e) (InRootTag at left n l f) =
    f ∙ ap (λ n. fault.NotADocument n) (sym (other_or_tag root doc at place left x n l)) ∙ sym e
Breaks-same root table doc a b (NoRoot place x e) (InRoot tag rest r breaks) =
    absurd (begun_or_none root doc rest tag.closed place r.begins x)
Breaks-same root table doc a b (NoRoot place x e) (BehindRoot tag rest at more r well space some f) =
    absurd (begun_or_none root doc rest tag.closed place r.begins x)
Breaks-same root table doc a b (InRootTag at left n l e) (NoRoot place x f) =
    f ∙ ap (λ n. fault.NotADocument n) (other_or_tag root doc at place left x n l) ∙ sym e
Breaks-same root table doc a b (InRootTag at left n l e) (InRootTag there other m k f) =
    stands_same (length doc) left other a b
    (LeavesTagEnd-same at left other l
    (subst (λ (t : List ℕ). LeavesTagEnd t other) (names_roots root doc at there n m) k)) e f
Breaks-same root table doc a b (InRootTag at left n l e) (InRoot tag rest r breaks) =
    absurd (tag_end_left tag.closed at rest left (root_end root doc at rest tag.closed n r.begins) l)
Breaks-same root table doc a b (InRootTag at left n l e) (BehindRoot tag rest place more r well space some f) =
    absurd (tag_end_left tag.closed at rest left (root_end root doc at rest tag.closed n r.begins) l)
Breaks-same root table doc a b (InRoot tag rest r breaks) (NoRoot place x f) =
    absurd (begun_or_none root doc rest tag.closed place r.begins x)
Breaks-same root table doc a b (InRoot tag rest r breaks) (InRootTag at left n l f) =
    absurd (tag_end_left tag.closed at rest left (root_end root doc at rest tag.closed n r.begins) l)
Breaks-same root table doc a b (InRoot tag rest r breaks) (InRoot other there s found) =
    let like = roots_like root doc tag other rest there r s in
    BreaksIn-same (length doc) a b table [] tag rest breaks
    (subst (λ (t : List ℕ). BreaksIn (length doc) b table [] tag t) like.1
    (tag_moved (length doc) b table [] other tag there like.0 found))
Breaks-same root table doc a b (InRoot tag rest r breaks) (BehindRoot other there at more s well space some f) =
    absurd (inside_or_behind root doc table (length doc) a tag other rest there at r breaks s well)
Breaks-same root table doc a b (BehindRoot tag rest at more r well space some e) (NoRoot place x f) =
    absurd (begun_or_none root doc rest tag.closed place r.begins x)
Breaks-same root table doc a b (BehindRoot tag rest place more r well space some e) (InRootTag at left n l f) =
    absurd (tag_end_left tag.closed at rest left (root_end root doc at rest tag.closed n r.begins) l)
Breaks-same root table doc a b (BehindRoot tag rest at more r well space some e) (InRoot other there s breaks) =
    absurd (inside_or_behind root doc table (length doc) b other tag there rest at s breaks r well)
Breaks-same root table doc a b (BehindRoot tag rest at more r well space some e)
    (BehindRoot other there place left s well2 space2 some2 f) =
    let same = behind_same root doc table tag other rest there at place r well s well2 in
    let behind = (ReadsRun-same sort.space space.0 space2.0 at more left space.1
    (subst (λ (t : List ℕ). ReadsRun sort.space space2.0 t left) same space2.1)).1 in
    stands_same (length doc) (length more) (length left) a b (ap length behind) e f

-- a document in whose elements no fault stands has none
pub no_fault : (root : List ℕ) (table : Table) (doc : List ℕ) (content : Content) (reason : DocFault)
    → IsDocument root doc content → Fits content table [] → ¬ (Breaks root table doc reason)
no_fault root table doc content reason d fits (NoRoot place x e) =
    begun_or_none root doc d.at_content d.closed place d.begins x
no_fault root table doc content reason d fits (InRootTag at left n l e) =
    tag_end_left d.closed at d.at_content left (root_end root doc at d.at_content d.closed n d.begins) l
no_fault root table doc content reason d fits (InRoot tag rest r breaks) =
    let same = BeginsDocument-same root doc rest d.at_content tag.closed d.closed r.begins d.begins in
    well_breaks (length doc) reason table [] tag rest d.at_space content
    (inner_at tag.closed d.closed content tag.room 15 tag.name.now root rest d.at_content d.at_space same.0
    (sym r.room) (sym r.name) same.1 d.inside) fits breaks
no_fault root table doc content reason d fits (BehindRoot tag rest at more r well space some e) =
    let same = BeginsDocument-same root doc rest d.at_content tag.closed d.closed r.begins d.begins in
    let inside = inner_at tag.closed d.closed content tag.room 15 tag.name.now root rest d.at_content d.at_space same.0
    (sym r.room) (sym r.name) same.1 d.inside in
    let end = (ReadsInner-same tag.closed well.0 content tag.room tag.name.now rest at d.at_space well.1 inside).1 in
    let behind = (ReadsRun-same sort.space space.0 d.behind.0 at more [] space.1
    (subst (λ (t : List ℕ). ReadsRun sort.space d.behind.0 t []) end d.behind.1)).1 in
    some (sym behind)
