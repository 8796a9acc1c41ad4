-- Bytes leave a production at one place, and only where it does not stand.
use Rattle.std.proofs.Common.{◌≡◌, ◌≢◌, ◌∙◌, ◌<◌, ◌++◌, ⊎_elim, ℕ, zero, suc, Bool, false, List, [], ◌∷◌}
use Rattle.std.proofs.Common.{refl, sym, ap, subst, length, arith}
use Rattle.std.specs.Str.{IsUtf8}
use Rattle.std.proofs.lemmas.Bool.{false≢true}
use Rattle.reply_xml.proofs.Sorts as sort
use Rattle.reply_xml.specs.Leaves.{BadAttribute, BadValue, IsAtFault, IsCommonFront, IsQuote, Lacks, LeavesAttribute}
use Rattle.reply_xml.specs.Leaves.{LeavesAttributes, LeavesEndTag, LeavesName, LeavesStart, LeavesTagEnd, LeavesValue}
use Rattle.reply_xml.specs.Leaves.{NoEnd, NoEndName, NoEndQuote, NoEndTag, NoEquals, NoName, NoNameEnd, NoQuote, NoSlash}
use Rattle.reply_xml.specs.Leaves.{NoSpace, NoTag, NoTagEnd, NoTagName, NoValue, OtherName}
use Rattle.reply_xml.specs.Runs.{ReadsRun, is_name_byte}
use Rattle.reply_xml.specs.Tags.{NameEnds, NamesTag, ReadsAttribute, ReadsAttributes, ReadsEndTag, ReadsName, ReadsTagEnd}
use Rattle.reply_xml.specs.Tags.{ReadsValue}
use Rattle.reply_xml.proofs.RunLemmas.{ReadsRun-same}
use Rattle.reply_xml.proofs.TagLemmas.{NamesTag-same, ReadsAttribute-same, ReadsName-first, ReadsName-same}
use Rattle.reply_xml.proofs.TagLemmas.{goes_on, no_tag_end-slash, tag_end_past}
use Rattle.reply_xml.proofs.TagLemmas.{value_parts}
use Rattle.shared_lemmas.proofs.Lists.{cons_parts}

pub name_left : (name bytes rest : List ℕ) (left : ℕ) → ReadsName name bytes rest → ¬ (LeavesName bytes left)
name_left name [] rest left r l = no_name name rest r.some r.run.split
  where
    no_name : (n s : List ℕ) → n ≢ [] → [] ≡ n ++ s → ⊥
    no_name [] s some e = some refl
    no_name (x ∷ n) s some e = cc
name_left name (byte ∷ bytes) rest left r l =
    false≢true (sym l.outside ∙ ReadsName-first name (byte ∷ bytes) rest bytes byte r refl)

quote_there : (quote : ℕ) (bytes inside : List ℕ) → IsQuote quote → bytes ≡ quote ∷ inside → Lacks 34 bytes
    → Lacks 39 bytes → ⊥
quote_there quote bytes inside is e double single =
    ⊎_elim (λ q. double inside (e ∙ ap (λ b. b ∷ inside) q)) (λ q. single inside (e ∙ ap (λ b. b ∷ inside) q)) is

pub IsCommonFront-same : (name other : List ℕ) (a b : ℕ) → IsCommonFront name other a → IsCommonFront name other b
    → b ≡ a
IsCommonFront-same name other a b f g =
    let not_less : a < b → ⊥ = λ h. let w = g.within in let v = g.within_other in
    f.longest (omega arith) (omega arith) (g.same a h) in
    let not_more : b < a → ⊥ = λ h. let w = f.within in let v = f.within_other in
    g.longest (omega arith) (omega arith) (f.same b h) in
    omega arith

-- a value in quotes
value_there : (bytes rest inside value at : List ℕ) (quote left : ℕ) → bytes ≡ quote ∷ inside
    → ReadsRun (sort.value quote) value inside at → (r : ReadsValue bytes rest) → IsUtf8 value × (at ≡ quote ∷ rest)
value_there bytes rest inside value at quote left opens run r =
    let parts = value_parts bytes rest inside value at quote opens run r in
    (subst IsUtf8 parts.1 r.characters, parts.2)

pub value_left : (bytes rest : List ℕ) (left : ℕ) → ReadsValue bytes rest → ¬ (LeavesValue bytes left)
value_left bytes rest left r (NoQuote double single is) = quote_there r.quote bytes r.at_value r.is_quote r.opens double single
value_left bytes rest left r (NoValue quote size inside value at is opens run bad fault e) =
    bad (value_there bytes rest inside value at quote left opens run r).0
value_left bytes rest left r (NoEndQuote quote inside value at is opens run utf8 none e) =
    none rest (value_there bytes rest inside value at quote left opens run r).1

-- two readings of a value up to where it ends
value_same : (bytes inside other value found at there : List ℕ) (quote mark : ℕ) → bytes ≡ quote ∷ inside
    → bytes ≡ mark ∷ other → ReadsRun (sort.value quote) value inside at → ReadsRun (sort.value mark) found other there
    → (mark ≡ quote) × (other ≡ inside) × (found ≡ value) × (there ≡ at)
value_same bytes inside other value found at there quote mark e f run go =
    let first = cons_parts mark quote other inside (sym f ∙ e) in
    let moved = subst (λ (m : ℕ). ReadsRun (sort.value m) found inside there) first.0
    (subst (λ (o : List ℕ). ReadsRun (sort.value mark) found o there) first.1 go) in
    let same = ReadsRun-same (sort.value quote) value found inside at there run moved in
    (first.0, first.1, same.0, same.1)

pub LeavesValue-same : (bytes : List ℕ) (a b : ℕ) → LeavesValue bytes a → LeavesValue bytes b → b ≡ a
LeavesValue-same bytes a b (NoQuote d s e) (NoQuote d2 s2 f) = f ∙ sym e
LeavesValue-same bytes a b (NoQuote d s e) (NoValue quote size inside value at is opens run bad fault f) =
    absurd (quote_there quote bytes inside is opens d s)
LeavesValue-same bytes a b (NoQuote d s e) (NoEndQuote quote inside value at is opens run utf8 none f) =
    absurd (quote_there quote bytes inside is opens d s)
LeavesValue-same bytes a b (NoValue quote size inside value at is opens run bad fault f) (NoQuote d s e) =
    absurd (quote_there quote bytes inside is opens d s)
LeavesValue-same bytes a b (NoEndQuote quote inside value at is opens run utf8 none f) (NoQuote d s e) =
    absurd (quote_there quote bytes inside is opens d s)
LeavesValue-same bytes a b (NoValue quote size inside value at is opens run bad fault e)
    (NoValue mark count other found there is2 begins go bad2 wrong f) =
    let same = value_same bytes inside other value found at there quote mark opens begins run go in
    let sizes : count ≡ size = subst (λ (v : List ℕ). IsAtFault v count) same.2 wrong ∙ sym fault in
    let long = ap length same.1 in
    omega (arith, e, f, sizes, long)
LeavesValue-same bytes a b (NoValue quote size inside value at is opens run bad fault e)
    (NoEndQuote mark other found there is2 begins go utf8 none f) =
    absurd (bad (subst IsUtf8 (value_same bytes inside other value found at there quote mark opens begins run go).2 utf8))
LeavesValue-same bytes a b (NoEndQuote quote inside value at is opens run utf8 none e)
    (NoValue mark count other found there is2 begins go bad wrong f) =
    absurd
    (bad (subst IsUtf8 (sym (value_same bytes inside other value found at there quote mark opens begins run go).2) utf8))
LeavesValue-same bytes a b (NoEndQuote quote inside value at is opens run utf8 none e)
    (NoEndQuote mark other found there is2 begins go utf8b none2 f) =
    f ∙ ap length (value_same bytes inside other value found at there quote mark opens begins run go).3 ∙ sym e

-- an attribute
attribute_reaches : (bytes name other at there : List ℕ) → ReadsName name bytes at → ReadsName other bytes there
    → there ≡ at
attribute_reaches bytes name other at there r s = (ReadsName-same name other bytes at there r s).1

pub attribute_left : (bytes rest : List ℕ) (left : ℕ) → ReadsAttribute bytes rest → ¬ (LeavesAttribute bytes left)
attribute_left bytes rest left r (NoName l) = name_left r.name bytes r.at_equals left r.named l
attribute_left bytes rest left r (NoEquals name at named lacks e) =
    lacks r.at_value (sym (attribute_reaches bytes name r.name at r.at_equals named r.named) ∙ r.equals)
attribute_left bytes rest left r (BadValue name at value named opens l) =
    let same = sym (attribute_reaches bytes name r.name at r.at_equals named r.named) ∙ r.equals in
    let there : r.at_value ≡ value = (cons_parts 61 61 r.at_value value (sym same ∙ opens)).1 in
    value_left value rest left (subst (λ (v : List ℕ). ReadsValue v rest) there r.value) l

pub LeavesAttribute-same : (bytes : List ℕ) (a b : ℕ) → LeavesAttribute bytes a → LeavesAttribute bytes b → b ≡ a
LeavesAttribute-same bytes a b (NoName l) (NoName m) = m.at ∙ sym l.at
LeavesAttribute-same bytes a b (NoName l) (NoEquals name at named lacks e) = absurd (name_left name bytes at a named l)
LeavesAttribute-same bytes a b (NoName l) (BadValue name at value named opens m) =
    absurd (name_left name bytes at a named l)
LeavesAttribute-same bytes a b (NoEquals name at named lacks e) (NoName m) = absurd (name_left name bytes at b named m)
LeavesAttribute-same bytes a b (BadValue name at value named opens l) (NoName m) =
    absurd (name_left name bytes at b named m)
LeavesAttribute-same bytes a b (NoEquals name at named lacks e) (NoEquals other there named2 lacks2 f) =
    f ∙ ap length (attribute_reaches bytes name other at there named named2) ∙ sym e
LeavesAttribute-same bytes a b (NoEquals name at named lacks e) (BadValue other there value named2 opens m) =
    absurd (lacks value (sym (attribute_reaches bytes name other at there named named2) ∙ opens))
LeavesAttribute-same bytes a b (BadValue name at value named opens l) (NoEquals other there named2 lacks f) =
    absurd (lacks value (attribute_reaches bytes name other at there named named2 ∙ opens))
LeavesAttribute-same bytes a b (BadValue name at value named opens l) (BadValue other there found named2 begins m) =
    let same = sym begins ∙ attribute_reaches bytes name other at there named named2 ∙ opens in
    let to : found ≡ value = (cons_parts 61 61 found value same).1 in
    LeavesValue-same value a b l (subst (λ (v : List ℕ). LeavesValue v b) to m)

-- behind white space
attribute_lacks : (at next : List ℕ) (byte : ℕ) → is_name_byte byte ≡ false → ReadsAttribute at next → Lacks byte at
attribute_lacks at next byte other r more e =
    false≢true (sym other ∙ ReadsName-first r.name at r.at_equals more byte r.named e)

slash_more : (at last there : List ℕ) → at ≡ 47 ∷ last → at ≡ 47 ∷ there → there ≡ last
slash_more at last there e f = (cons_parts 47 47 there last (sym f ∙ e)).1

pub LeavesAttributes-same : (bytes : List ℕ) (a b : ℕ) → LeavesAttributes bytes a → LeavesAttributes bytes b → b ≡ a
LeavesAttributes-same bytes a b (NoSpace space at run more slash none e) (NoSpace gap there go more2 slash2 none2 f) =
    f ∙ ap length (ReadsRun-same sort.space space gap bytes at there run go).1 ∙ sym e
LeavesAttributes-same bytes a b (NoSpace space at run more slash none e) (NoTagEnd gap there last go is lacks f) =
    absurd (slash last (sym (ReadsRun-same sort.space space gap bytes at there run go).1 ∙ is))
LeavesAttributes-same bytes a b (NoSpace space at run more slash none e) (BadAttribute gap there go more2 slash2 some l) =
    absurd (some ((ReadsRun-same sort.space space gap bytes at there run go).0 ∙ none))
LeavesAttributes-same bytes a b (NoTagEnd space at last run is lacks e) (NoSpace gap there go more slash none f) =
    absurd (slash last ((ReadsRun-same sort.space space gap bytes at there run go).1 ∙ is))
LeavesAttributes-same bytes a b (NoTagEnd space at last run is lacks e) (NoTagEnd gap there end go is2 lacks2 f) =
    f ∙ ap length (slash_more at last end is (sym (ReadsRun-same sort.space space gap bytes at there run go).1 ∙ is2))
    ∙ sym e
LeavesAttributes-same bytes a b (NoTagEnd space at last run is lacks e) (BadAttribute gap there go more slash some l) =
    absurd (slash last ((ReadsRun-same sort.space space gap bytes at there run go).1 ∙ is))
LeavesAttributes-same bytes a b (BadAttribute space at run more slash some l) (NoSpace gap there go more2 slash2 none f) =
    absurd (some (sym (ReadsRun-same sort.space space gap bytes at there run go).0 ∙ none))
LeavesAttributes-same bytes a b (BadAttribute space at run more slash some l) (NoTagEnd gap there last go is lacks f) =
    absurd (slash last (sym (ReadsRun-same sort.space space gap bytes at there run go).1 ∙ is))
LeavesAttributes-same bytes a b (BadAttribute space at run more slash some l)
    (BadAttribute gap there go more2 slash2 some2 m) =
    LeavesAttribute-same at a b l
    (subst (λ (t : List ℕ). LeavesAttribute t b) (ReadsRun-same sort.space space gap bytes at there run go).1 m)

-- no attribute stands where bytes leave the attributes
past_attribute : (bytes at next : List ℕ) (left : ℕ) (gap : List ℕ) → ReadsRun sort.space gap bytes at → gap ≢ []
    → ReadsAttribute at next → ¬ (LeavesAttributes bytes left)
past_attribute bytes at next left gap run some r (NoSpace space there go more slash none e) =
    some (sym (ReadsRun-same sort.space gap space bytes at there run go).0 ∙ none)
past_attribute bytes at next left gap run some r (NoTagEnd space there last go is lacks e) =
    attribute_lacks at next 47 refl r last (sym (ReadsRun-same sort.space gap space bytes at there run go).1 ∙ is)
past_attribute bytes at next left gap run some r (BadAttribute space there go more slash some2 l) =
    attribute_left at next left r
    (subst (λ (t : List ℕ). LeavesAttribute t left) (ReadsRun-same sort.space gap space bytes at there run go).1 l)

no_end : (closed : Bool) (bytes rest : List ℕ) (left : ℕ) → ReadsTagEnd closed bytes rest → ¬ (LeavesAttributes bytes left)
no_end closed bytes rest left r (NoSpace space at run more slash none e) =
    (goes_on closed bytes space at rest run more slash r).1 none
no_end closed bytes rest left r (NoTagEnd space at last run is lacks e) =
    no_tag_end-slash closed bytes space at last rest run is lacks r
no_end closed bytes rest left r (BadAttribute space at run more slash some l) =
    let on = goes_on closed bytes space at rest run more slash r in
    attribute_left at on.0 left on.2 l

-- what stands in a tag behind its name
tag_end_from : (count : ℕ) (closed : Bool) (bytes at rest : List ℕ) (left : ℕ) → ReadsAttributes count bytes at
    → LeavesAttributes at left → ¬ (ReadsTagEnd closed bytes rest)
tag_end_from zero closed bytes at rest left a l r =
    no_end closed bytes rest left r (subst (λ (t : List ℕ). LeavesAttributes t left) a l)
tag_end_from (suc n) closed bytes at rest left a l r =
    tag_end_from n closed a.1 at rest left a.4 l
    (tag_end_past closed bytes a.2.space a.0 a.1 rest a.2.run (attribute_lacks a.0 a.1 62 refl a.3)
    (attribute_lacks a.0 a.1 47 refl a.3) a.3 r)

pub tag_end_left : (closed : Bool) (bytes rest : List ℕ) (left : ℕ) → ReadsTagEnd closed bytes rest
    → ¬ (LeavesTagEnd bytes left)
tag_end_left closed bytes rest left r l = tag_end_from l.count closed bytes l.at rest left l.attributes l.leaves r

tag_ends_same : (m n : ℕ) (bytes at there : List ℕ) (a b : ℕ) → ReadsAttributes m bytes at → LeavesAttributes at a
    → ReadsAttributes n bytes there → LeavesAttributes there b → b ≡ a
tag_ends_same zero zero bytes at there a b r l s k =
    LeavesAttributes-same at a b l (subst (λ (t : List ℕ). LeavesAttributes t b) (s ∙ sym r) k)
tag_ends_same zero (suc n) bytes at there a b r l s k =
    absurd (past_attribute bytes s.0 s.1 a s.2.space s.2.run s.2.some s.3
    (subst (λ (t : List ℕ). LeavesAttributes t a) r l))
tag_ends_same (suc m) zero bytes at there a b r l s k =
    absurd (past_attribute bytes r.0 r.1 b r.2.space r.2.run r.2.some r.3
    (subst (λ (t : List ℕ). LeavesAttributes t b) s k))
tag_ends_same (suc m) (suc n) bytes at there a b r l s k =
    let gap = (ReadsRun-same sort.space r.2.space s.2.space bytes r.0 s.0 r.2.run s.2.run).1 in
    let next = ReadsAttribute-same r.0 r.1 s.1 r.3 (subst (λ (t : List ℕ). ReadsAttribute t s.1) gap s.3) in
    tag_ends_same m n r.1 at there a b r.4 l (subst (λ (t : List ℕ). ReadsAttributes n t there) next s.4) k

pub LeavesTagEnd-same : (bytes : List ℕ) (a b : ℕ) → LeavesTagEnd bytes a → LeavesTagEnd bytes b → b ≡ a
LeavesTagEnd-same bytes a b l m =
    tag_ends_same l.count m.count bytes l.at m.at a b l.attributes l.leaves m.attributes m.leaves

-- a tag of an element
start_bytes : (bytes more at_name : List ℕ) → bytes ≡ 60 ∷ more → bytes ≡ 60 ∷ at_name → at_name ≡ more
start_bytes bytes more at_name e f = (cons_parts 60 60 at_name more (sym f ∙ e)).1

pub start_left : (name bytes rest : List ℕ) (left : ℕ) → NamesTag name bytes rest → NameEnds rest
    → ¬ (LeavesStart bytes left)
start_left name bytes rest left n ends (NoTag lacks e) = lacks n.at_name n.opens
start_left name bytes rest left n ends (NoTagName more opens l) =
    name_left name n.at_name rest left n.named
    (subst (λ (t : List ℕ). LeavesName t left) (start_bytes bytes n.at_name more n.opens opens) l)
start_left name bytes rest left n ends (NoNameEnd other at names none e) =
    none (subst NameEnds (NamesTag-same other name bytes at rest names n).1 ends)

pub LeavesStart-same : (bytes : List ℕ) (a b : ℕ) → LeavesStart bytes a → LeavesStart bytes b → b ≡ a
LeavesStart-same bytes a b (NoTag lacks e) (NoTag lacks2 f) = f ∙ sym e
LeavesStart-same bytes a b (NoTag lacks e) (NoTagName more opens l) = absurd (lacks more opens)
LeavesStart-same bytes a b (NoTag lacks e) (NoNameEnd name at n none f) = absurd (lacks n.at_name n.opens)
LeavesStart-same bytes a b (NoTagName more opens l) (NoTag lacks f) = absurd (lacks more opens)
LeavesStart-same bytes a b (NoTagName more opens l) (NoTagName other begins m) =
    m.at ∙ ap length (start_bytes bytes more other opens begins) ∙ sym l.at
LeavesStart-same bytes a b (NoTagName more opens l) (NoNameEnd name at n none f) =
    absurd
    (name_left name n.at_name at a n.named
    (subst (λ (t : List ℕ). LeavesName t a) (start_bytes bytes n.at_name more n.opens opens) l))
LeavesStart-same bytes a b (NoNameEnd name at n none e) (NoTag lacks f) = absurd (lacks n.at_name n.opens)
LeavesStart-same bytes a b (NoNameEnd name at n none e) (NoTagName more opens m) =
    absurd
    (name_left name n.at_name at b n.named
    (subst (λ (t : List ℕ). LeavesName t b) (start_bytes bytes n.at_name more n.opens opens) m))
LeavesStart-same bytes a b (NoNameEnd name at n none e) (NoNameEnd other there n2 none2 f) =
    f ∙ ap length (NamesTag-same name other bytes at there n n2).1 ∙ sym e

-- an end tag
end_bytes : (bytes more at_name : List ℕ) → bytes ≡ 60 ∷ 47 ∷ more → bytes ≡ 60 ∷ 47 ∷ at_name → at_name ≡ more
end_bytes bytes more at_name e f =
    (cons_parts 47 47 at_name more (start_bytes bytes (47 ∷ more) (47 ∷ at_name) e f)).1

no_slash : (bytes more at_name : List ℕ) → bytes ≡ 60 ∷ more → Lacks 47 more → bytes ≡ 60 ∷ 47 ∷ at_name → ⊥
no_slash bytes more at_name e lacks f = lacks at_name (sym (start_bytes bytes more (47 ∷ at_name) e f))

name_at : (bytes more other name found at there : List ℕ) → bytes ≡ 60 ∷ 47 ∷ more → bytes ≡ 60 ∷ 47 ∷ other
    → ReadsName name more at → ReadsName found other there → (other ≡ more) × (found ≡ name) × (there ≡ at)
name_at bytes more other name found at there e f r s =
    let to = end_bytes bytes more other e f in
    let same = ReadsName-same name found more at there r (subst (λ (t : List ℕ). ReadsName found t there) to s) in
    (to, same.0, same.1)

no_name_at : (bytes more other name at : List ℕ) (left : ℕ) → bytes ≡ 60 ∷ 47 ∷ more → bytes ≡ 60 ∷ 47 ∷ other
    → ReadsName name more at → LeavesName other left → ⊥
no_name_at bytes more other name at left e f r l =
    name_left name more at left r (subst (λ (t : List ℕ). LeavesName t left) (end_bytes bytes more other e f) l)

close_at : (at there space gap close end : List ℕ) → ReadsRun sort.space space at close
    → ReadsRun sort.space gap there end → there ≡ at → end ≡ close
close_at at there space gap close end run go same =
    (ReadsRun-same sort.space space gap at close end run (subst (λ (t : List ℕ). ReadsRun sort.space gap t end) same go)).1

pub end_left : (name bytes rest : List ℕ) (left : ℕ) → ReadsEndTag name bytes rest → ¬ (LeavesEndTag name bytes left)
end_left name bytes rest left r (NoEndTag lacks e) = lacks (47 ∷ r.at_name) r.opens
end_left name bytes rest left r (NoSlash more opens lacks e) = no_slash bytes more r.at_name opens lacks r.opens
end_left name bytes rest left r (NoEndName more opens l) =
    no_name_at bytes r.at_name more name r.at_space left r.opens opens r.named l
end_left name bytes rest left r (OtherName size more found at opens named differs front e) =
    differs (name_at bytes r.at_name more name found r.at_space at r.opens opens r.named named).1
end_left name bytes rest left r (NoEnd more space at close opens named run lacks e) =
    let same = name_at bytes r.at_name more name name r.at_space at r.opens opens r.named named in
    lacks rest (close_at r.at_space at r.space space r.at_close close r.run run same.2 ∙ r.closes)

pub LeavesEndTag-same : (name bytes : List ℕ) (a b : ℕ) → LeavesEndTag name bytes a → LeavesEndTag name bytes b → b ≡ a
LeavesEndTag-same name bytes a b (NoEndTag lacks e) (NoEndTag lacks2 f) = f ∙ sym e
LeavesEndTag-same name bytes a b (NoEndTag lacks e) (NoSlash more opens none f) = absurd (lacks more opens)
LeavesEndTag-same name bytes a b (NoEndTag lacks e) (NoEndName more opens l) = absurd (lacks (47 ∷ more) opens)
LeavesEndTag-same name bytes a b (NoEndTag lacks e) (OtherName size more found at opens named differs front f) =
    absurd (lacks (47 ∷ more) opens)
LeavesEndTag-same name bytes a b (NoEndTag lacks e) (NoEnd more space at close opens named run none f) =
    absurd (lacks (47 ∷ more) opens)
LeavesEndTag-same name bytes a b (NoSlash more opens none e) (NoEndTag lacks f) = absurd (lacks more opens)
LeavesEndTag-same name bytes a b (NoSlash more opens none e) (NoSlash other begins none2 f) =
    f ∙ ap length (start_bytes bytes more other opens begins) ∙ sym e
LeavesEndTag-same name bytes a b (NoSlash more opens none e) (NoEndName other begins l) =
    absurd (no_slash bytes more other opens none begins)
LeavesEndTag-same name bytes a b (NoSlash more opens none e) (OtherName size other found at begins named differs front f) =
    absurd (no_slash bytes more other opens none begins)
LeavesEndTag-same name bytes a b (NoSlash more opens none e) (NoEnd other space at close begins named run none2 f) =
    absurd (no_slash bytes more other opens none begins)
LeavesEndTag-same name bytes a b (NoEndName more opens l) (NoEndTag lacks f) = absurd (lacks (47 ∷ more) opens)
LeavesEndTag-same name bytes a b (NoEndName more opens l) (NoSlash other begins none f) =
    absurd (no_slash bytes other more begins none opens)
LeavesEndTag-same name bytes a b (NoEndName more opens l) (NoEndName other begins m) =
    m.at ∙ ap length (end_bytes bytes more other opens begins) ∙ sym l.at
LeavesEndTag-same name bytes a b (NoEndName more opens l) (OtherName size other found at begins named differs front f) =
    absurd (no_name_at bytes other more found at a begins opens named l)
LeavesEndTag-same name bytes a b (NoEndName more opens l) (NoEnd other space at close begins named run none f) =
    absurd (no_name_at bytes other more name at a begins opens named l)
LeavesEndTag-same name bytes a b (OtherName size more found at opens named differs front e) (NoEndTag lacks f) =
    absurd (lacks (47 ∷ more) opens)
LeavesEndTag-same name bytes a b (OtherName size more found at opens named differs front e) (NoSlash other begins none f) =
    absurd (no_slash bytes other more begins none opens)
LeavesEndTag-same name bytes a b (OtherName size more found at opens named differs front e) (NoEndName other begins m) =
    absurd (no_name_at bytes more other found at b opens begins named m)
LeavesEndTag-same name bytes a b (OtherName size more found at opens named differs front e)
    (OtherName count other name2 there begins named2 differs2 front2 f) =
    let same = name_at bytes more other found name2 at there opens begins named named2 in
    let sizes = IsCommonFront-same found name size count front
    (subst (λ (n : List ℕ). IsCommonFront n name count) same.1 front2) in
    let long = ap length same.0 in
    omega (arith, e, f, sizes, long)
LeavesEndTag-same name bytes a b (OtherName size more found at opens named differs front e)
    (NoEnd other space there close begins named2 run none f) =
    absurd (differs (sym (name_at bytes more other found name at there opens begins named named2).1))
LeavesEndTag-same name bytes a b (NoEnd more space at close opens named run none e) (NoEndTag lacks f) =
    absurd (lacks (47 ∷ more) opens)
LeavesEndTag-same name bytes a b (NoEnd more space at close opens named run none e) (NoSlash other begins lacks f) =
    absurd (no_slash bytes other more begins lacks opens)
LeavesEndTag-same name bytes a b (NoEnd more space at close opens named run none e) (NoEndName other begins m) =
    absurd (no_name_at bytes more other name at b opens begins named m)
LeavesEndTag-same name bytes a b (NoEnd more space at close opens named run none e)
    (OtherName size other found there begins named2 differs front f) =
    absurd (differs (name_at bytes more other name found at there opens begins named named2).1)
LeavesEndTag-same name bytes a b (NoEnd more space at close opens named run none e)
    (NoEnd other gap there end begins named2 go none2 f) =
    let same = name_at bytes more other name name at there opens begins named named2 in
    f ∙ ap length (close_at at there space gap close end run go same.2) ∙ sym e
