-- Where a document has a fault, from the innermost element outwards.
use Rattle.std.proofs.Common.{◌≡◌, ◌≢◌, ◌++◌, ◌⊎◌, ℕ, Bool, true, false, not, nat_eq, ap, Option, Some, ◌∙◌, Result, Ok}
use Rattle.std.proofs.Common.{Err, List, [], ◌∷◌, inl, inr, refl, subst, sym, ⊎_elim}
use Rattle.std.specs.Result.{IsErrAnd}
use Rattle.reply_xml.specs.declared.faults.DocFault.{DocFault}
use Rattle.reply_xml.specs.declared.faults.DocFault.TheVariants as fault
use Rattle.reply_xml.specs.declared.tags.Child.{Child}
use Rattle.reply_xml.specs.declared.tags.Tag.{Tag}
use Rattle.reply_xml.specs.Breaks.{Again, AtEndTag, AtStart, AtText, BreaksElement, BreaksIn, BehindLeafTag, BehindName}
use Rattle.reply_xml.specs.Breaks.{BehindOtherTag, BehindTag, Behind, IfBroken, InLeaf, InOther, InTag, Inside}
use Rattle.reply_xml.specs.Breaks.{BreaksLeaf, IsMissing, Lacks, OnBroken, StandsAgain, TooLow}
use Rattle.reply_xml.specs.Tables.{Done, Table, first_missing}
use Rattle.reply_xml.specs.declared.elements.Element.{Element}
use Rattle.reply_xml.specs.Faults.{IfRefused}
use Rattle.reply_xml.specs.Fits.{Fits, Passed}
use Rattle.reply_xml.proofs.FrontLemmas.{fits_any, fresh_done, nothing_missing}
use Rattle.reply_xml.specs.Reading.{AtEnd, EndsContent, HoldsSome, IsTagOf, NamesChild, ReadsOpen}
use Rattle.reply_xml.proofs.OpenLemmas.{child_begins, element_of, open_in, open_out, some_before}
use Rattle.std.specs.Bool.{MatchBool}
use Rattle.std.proofs.lemmas.Bool.{eqb-true, false≢true}
use Rattle.std.proofs.lemmas.Option.{none-some}
use Rattle.reply_values.specs.References.{IsUnescaped}
use Rattle.reply_xml.specs.Contents.{Only, ReadsText}
use Rattle.reply_xml.specs.Unfit.{Form, HasText}

pub OnBroken-map : {P Q : DocFault → Type 0} (e : DocFault) → ((reason : DocFault) → P reason → Q reason) → OnBroken e P
    → OnBroken e Q
OnBroken-map fault.Memory f h = tt
OnBroken-map (fault.NotADocument n) f h = f (fault.NotADocument n) h
OnBroken-map (fault.Missing element) f h = f (fault.Missing element) h
OnBroken-map (fault.Twice element) f h = f (fault.Twice element) h
OnBroken-map fault.BadNumber f h = f fault.BadNumber h
OnBroken-map fault.BadTime f h = f fault.BadTime h
OnBroken-map fault.BadEscape f h = f fault.BadEscape h
OnBroken-map fault.TooDeep f h = f fault.TooDeep h
OnBroken-map (fault.BadText element) f h = f (fault.BadText element) h

-- a fault that is handed on
pub broken_past : {U : Type 0} {P Q : DocFault → Type 0} (r : Result U DocFault) (e : DocFault)
    → IsErrAnd r (λ f. f ≡ e)
    → ((reason : DocFault) → P reason → Q reason) → OnBroken e P → IfBroken r Q
broken_past {U} {P} {Q} (Ok x) e h f b = absurd h
broken_past {U} {P} {Q} (Err other) e h f b = subst (λ (d : DocFault). OnBroken d Q) (sym h) (OnBroken-map e f b)

-- an answer that is handed on whole
pub broken_so : {T : Type 0} {P Q : DocFault → Type 0} (r : Result T DocFault)
    → ((reason : DocFault) → P reason → Q reason)
    → IfBroken r P → IfBroken r Q
broken_so (Ok x) f h = tt
broken_so (Err e) f h = OnBroken-map e f h

-- the size of the document stays
pub sized : (size other : ℕ) (reason : DocFault) (table : Table) (front : List (Option Element)) (tag : Tag)
    (bytes : List ℕ) → other ≡ size
    → BreaksIn other reason table front tag bytes → BreaksIn size reason table front tag bytes
sized size other reason table front tag bytes same b = subst (λ (s : ℕ). BreaksIn s reason table front tag bytes) same b

pub leaf_sized : (size other : ℕ) (reason : DocFault) (form : Form) (of : Element) (tag : Tag) (bytes : List ℕ)
    → other ≡ size → BreaksLeaf other reason form of tag bytes → BreaksLeaf size reason form of tag bytes
leaf_sized size other reason form of tag bytes same b = subst (λ (s : ℕ). BreaksLeaf s reason form of tag bytes) same b

-- an element breaks inside another one
pub child_breaks : (size : ℕ) (reason : DocFault) (table : Table) (front : List (Option Element)) (tag : Tag)
    (child : Child) (bytes from : List ℕ)
    → tag.closed ≡ false → NamesChild tag.room bytes child from → BreaksElement size reason table front child from
    → BreaksIn size reason table front tag bytes
child_breaks size reason table front tag child bytes from plain names (BehindName left fresh leaves stands) =
    InTag child from left plain names fresh leaves stands
child_breaks size reason table front tag child bytes from plain names (StandsAgain of again is) =
    Again child of from plain names again is
child_breaks size reason table front tag child bytes from plain names
    (BehindLeafTag inner form of at fresh is text breaks) =
    InLeaf child inner form of from at plain names fresh is text breaks
child_breaks size reason table front tag child bytes from plain names
    (BehindTag inner of inside at fresh is parent breaks) =
    Inside child inner of inside from at plain names fresh is parent breaks
child_breaks size reason table front tag child bytes from plain names (BehindOtherTag inner at is outside breaks) =
    InOther child inner from at plain names is outside breaks

-- the table stays
pub tabled : (size : ℕ) (reason : DocFault) (table other : Table) (front : List (Option Element)) (child : Child)
    (bytes : List ℕ) → other ≡ table
    → BreaksElement size reason other front child bytes → BreaksElement size reason table front child bytes
tabled size reason table other front child bytes same b =
    subst (λ (t : Table). BreaksElement size reason t front child bytes) same b

pub lacks_there : (size : ℕ) (reason : DocFault) (table other : Table) (front : List (Option Element)) (tag : Tag)
    (bytes at : List ℕ) → other ≡ table → AtEnd tag bytes at
    → IsMissing other front reason → BreaksIn size reason table front tag bytes
lacks_there size reason table other front tag bytes at same ends m =
    Lacks m.0 at ends (subst (λ (t : Table). first_missing t front ≡ Some m.0) same m.2) m.1

-- where no elements are read, it is of no account which stood in front
pub front_is_any : (size : ℕ) (reason : DocFault) (table : Table) (front other : List (Option Element)) (tag : Tag)
    (bytes : List ℕ)
    → table ≡ Done → BreaksIn size reason table front tag bytes → BreaksIn size reason table other tag bytes
front_is_any size reason table front other tag bytes e (AtText plain breaks) = AtText plain breaks
front_is_any size reason table front other tag bytes e (AtStart text at left plain reads other_tag leaves stands) =
    AtStart text at left plain reads other_tag leaves stands
front_is_any size reason table front other tag bytes e (TooLow text at name rest plain reads names ends low is) =
    TooLow text at name rest plain reads names ends low is
front_is_any size reason table front other tag bytes e (InTag child from left plain names fresh leaves stands) =
    InTag child from left plain names (fresh_done table other child.element e) leaves stands
front_is_any size reason table front other tag bytes e (Again child of from plain names again is) =
    absurd (fresh_done table front child.element e of again)
front_is_any size reason table front other tag bytes e
    (InLeaf child inner form of from at plain names fresh is text breaks) =
    InLeaf child inner form of from at plain names (fresh_done table other child.element e) is text breaks
front_is_any size reason table front other tag bytes e
    (Inside child inner of inside from at plain names fresh is parent breaks) =
    Inside child inner of inside from at plain names (fresh_done table other child.element e) is parent breaks
front_is_any size reason table front other tag bytes e (InOther child inner from at plain names is outside breaks) =
    InOther child inner from at plain names is outside breaks
front_is_any size reason table front other tag bytes e (Behind child from next plain names reads breaks) =
    Behind child from next plain names
    (reads.0, reads.1, fits_any (λ inside. Fits reads.0 inside []) table front other child.element reads.0 e reads.2)
    (front_is_any size reason table (child.element ∷ front) (child.element ∷ other) tag next e breaks)
front_is_any size reason table front other tag bytes e (AtEndTag at left plain ends complete leaves stands) =
    AtEndTag at left plain ends (nothing_missing table other e) leaves stands
front_is_any size reason table front other tag bytes e (Lacks of at ends first is) =
    absurd (none-some of (sym (nothing_missing table front e) ∙ first))

-- what is left of open elements that are passed over breaks, the innermost last
abbrev pub BreaksOuter : (size : ℕ) (reason : DocFault) → List Tag → List ℕ → Type 0
BreaksOuter size reason [] bytes = ⊥
BreaksOuter size reason (tag ∷ tags) bytes =
    BreaksOuter size reason tags bytes ⊎ ((at : List ℕ) × ReadsOpen tags bytes at × BreaksIn size reason Done [] tag at)

-- the same of an element and those around it
abbrev pub BreaksOpen : (size : ℕ) (reason : DocFault) → Tag → List Tag → List ℕ → Type 0
BreaksOpen size reason inner outer bytes =
    BreaksIn size reason Done [] inner bytes ⊎ ((at : List ℕ) × HoldsSome inner bytes at × BreaksOuter size reason outer
    at)

pub breaks_in : (size : ℕ) (reason : DocFault) (tags : List Tag) (tag : Tag) (bytes : List ℕ)
    → BreaksOpen size reason tag tags bytes
    → BreaksOuter size reason (tags ++ tag ∷ []) bytes
breaks_in size reason [] tag bytes b = ⊎_elim (λ i. inr (bytes, refl, i)) (λ o. absurd o.2) b
breaks_in size reason (outer ∷ tags) tag bytes b =
    ⊎_elim (λ i. inl (breaks_in size reason tags tag bytes (inl i)))
    (
    λ o. ⊎_elim (λ more. inl (breaks_in size reason tags tag bytes (inr (o.0, o.1, more))))
    (λ here. inr (here.0, open_in tags tag bytes o.0 here.0 o.1 here.1, here.2)) o.2
    )
    b

pub breaks_out : (size : ℕ) (reason : DocFault) (tags : List Tag) (tag : Tag) (bytes : List ℕ)
    → BreaksOuter size reason (tags ++ tag ∷ []) bytes → BreaksOpen size reason tag tags bytes
breaks_out size reason [] tag bytes b =
    ⊎_elim (λ none. absurd none) (λ o. inl (subst (λ (t : List ℕ). BreaksIn size reason Done [] tag t) o.1 o.2)) b
breaks_out size reason (outer ∷ tags) tag bytes b =
    ⊎_elim
    (λ more. ⊎_elim (λ i. inl i) (λ o. inr (o.0, o.1, inl o.2)) (breaks_out size reason tags tag bytes more))
    (λ o. let out = open_out tags tag bytes o.0 o.1 in inr (out.0, out.1, inr (o.0, out.2, o.2))) b

-- an element inside begins
pub opened_in : (size : ℕ) (reason : DocFault) (outer items : List Tag) (inner within : Tag) (child : Child)
    (here from at : List ℕ)
    → inner.closed ≡ false → NamesChild inner.room here child from → IsTagOf child within from at
    → items ≡ outer ++ inner ∷ []
    → BreaksOpen size reason within items at → BreaksOpen size reason inner outer here
opened_in size reason outer items inner within child here from at plain names is e b =
    ⊎_elim (λ i. inl (InOther child within from at plain names is tt i))
    (
    λ o. let out = breaks_out size reason outer inner o.0
    (subst (λ (ts : List Tag). BreaksOuter size reason ts o.0) e o.2) in
    ⊎_elim
    (λ i. inl (Behind child from o.0 plain names (o.1.0, element_of child within o.1.0 from at o.0 is o.1.1, Passed tt)
    (front_is_any size reason Done [] (child.element ∷ []) inner o.0 refl i)))
    (λ p. inr (
      p.0,
      some_before inner within here at p.0 plain (child_begins inner.room here from at child within names is) o.0
          o.1 p.1,
      p.2,
    )) out
    )
    b

-- and an element ends
pub opened_out : (size : ℕ) (reason : DocFault) (outer items : List Tag) (inner parent : Tag) (here from : List ℕ)
    → EndsContent inner here from → items ≡ outer ++ parent ∷ [] → BreaksOpen size reason parent outer from
    → BreaksOpen size reason inner items here
opened_out size reason outer items inner parent here from ends e b =
    inr (
      from,
      (Only ends.0, ends.1),
      subst (λ (ts : List Tag). BreaksOuter size reason ts from) (sym e)
          (breaks_in size reason outer parent from b),
    )

pub open_sized : (size other : ℕ) (reason : DocFault) (tag : Tag) (tags : List Tag) (bytes : List ℕ) → other ≡ size
    → BreaksOpen other reason tag tags bytes → BreaksOpen size reason tag tags bytes
open_sized size other reason tag tags bytes same b = subst (λ (s : ℕ). BreaksOpen s reason tag tags bytes) same b

-- a fault that is told instead of another one: the same one, or one that is told of in another way
pub broken_told : (P Q : DocFault → Type 0) (e f : DocFault) → OnBroken f (λ reason. (reason ≡ e) ⊎ Q reason)
    → OnBroken e P
    → OnBroken f (λ reason. P reason ⊎ Q reason)
broken_told P Q e fault.Memory told h = tt
broken_told P Q e (fault.Missing element) told h =
    ⊎_elim (λ same. inl (subst (λ (d : DocFault). OnBroken d P) (sym same) h)) inr told
broken_told P Q e (fault.Twice element) told h =
    ⊎_elim (λ same. inl (subst (λ (d : DocFault). OnBroken d P) (sym same) h)) inr told
broken_told P Q e (fault.NotADocument n) told h =
    ⊎_elim (λ same. inl (subst (λ (d : DocFault). OnBroken d P) (sym same) h)) inr told
broken_told P Q e fault.BadNumber told h =
    ⊎_elim (λ same. inl (subst (λ (d : DocFault). OnBroken d P) (sym same) h)) inr told
broken_told P Q e fault.BadTime told h =
    ⊎_elim (λ same. inl (subst (λ (d : DocFault). OnBroken d P) (sym same) h)) inr told
broken_told P Q e fault.BadEscape told h =
    ⊎_elim (λ same. inl (subst (λ (d : DocFault). OnBroken d P) (sym same) h)) inr told
broken_told P Q e fault.TooDeep told h =
    ⊎_elim (λ same. inl (subst (λ (d : DocFault). OnBroken d P) (sym same) h)) inr told
broken_told P Q e (fault.BadText element) told h =
    ⊎_elim (λ same. inl (subst (λ (d : DocFault). OnBroken d P) (sym same) h)) inr told

-- the same, where the other fault is of that way too
pub key_told : (P Q : DocFault → Type 0) (e f : DocFault) → OnBroken f (λ reason. (reason ≡ e) ⊎ Q reason)
    → OnBroken e Q
    → OnBroken f (λ reason. P reason ⊎ Q reason)
key_told P Q e f told h = OnBroken-map f (λ reason t. ⊎_elim inr inr t) (broken_told Q Q e f told h)

-- the text behind a tag
pub text_closed : (tag : Tag) (bytes : List ℕ) → tag.closed ≡ true → HasText tag bytes bytes []
text_closed tag bytes e = none tag.closed e
  where
    none : (closed : Bool) → closed ≡ true
        → MatchBool closed (◌≡◌ {A = List ℕ} [] [] × (bytes ≡ bytes))
        ((raw : List ℕ) × ReadsText raw bytes bytes × IsUnescaped raw [])
    none true f = (refl, refl)
    none false f = absurd (false≢true f)

pub text_open : (tag : Tag) (bytes rest raw text : List ℕ) → tag.closed ≡ false → ReadsText raw bytes rest
    → IsUnescaped raw text → HasText tag bytes rest text
text_open tag bytes rest raw text e r u =
    subst
    (λ (b : Bool). MatchBool b ((text ≡ []) × (rest ≡ bytes))
    ((raw : List ℕ) × ReadsText raw bytes rest × IsUnescaped raw text)) (sym e) (raw, r, u)

-- a text behind which bytes stand ends at a `<`
after_text : (raw bytes rest : List ℕ) → ReadsText raw bytes rest → rest ≢ [] → (more : List ℕ) × (rest ≡ 60 ∷ more)
after_text raw bytes [] r some = absurd (some refl)
after_text raw bytes (byte ∷ more) r some =
    (more, ap (λ (b : ℕ). b ∷ more) (less_than (nat_eq byte 60) refl r.run.ends))
  where
    less_than : (b : Bool) → nat_eq byte 60 ≡ b → not b ≡ false → byte ≡ 60
    less_than true e h = eqb-true byte 60 e
    less_than false e h = absurd (false≢true (sym h))

open_text : (closed : Bool) (bytes rest text : List ℕ) → closed ≡ false
    → MatchBool closed ((text ≡ []) × (rest ≡ bytes)) ((raw : List ℕ) × ReadsText raw bytes rest × IsUnescaped raw text)
    → (raw : List ℕ) × ReadsText raw bytes rest
open_text true bytes rest text e h = absurd (false≢true (sym e))
open_text false bytes rest text e h = (h.0, h.1)

pub text_goes_on : (tag : Tag) (bytes rest text : List ℕ) → tag.closed ≡ false → HasText tag bytes rest text → rest ≢ []
    → (raw : List ℕ) × (more : List ℕ) × ReadsText raw bytes (60 ∷ more)
text_goes_on tag bytes rest text e has some =
    let found = open_text tag.closed bytes rest text e has in
    let behind = after_text found.0 bytes rest found.1 some in
    (found.0, behind.0, subst (λ (t : List ℕ). ReadsText found.0 bytes t) behind.1 found.1)

-- an answer that is no fault but want of memory
pub unbroken : {T : Type 0} (Q : DocFault → Type 0) (r : Result T DocFault) → IfRefused r ⊥ → IfBroken r Q
unbroken Q (Ok x) h = tt
unbroken Q (Err fault.Memory) h = tt
unbroken Q (Err (fault.NotADocument n)) h = absurd h
unbroken Q (Err (fault.Missing element)) h = absurd h
unbroken Q (Err (fault.Twice element)) h = absurd h
unbroken Q (Err fault.BadNumber) h = absurd h
unbroken Q (Err fault.BadTime) h = absurd h
unbroken Q (Err fault.BadEscape) h = absurd h
unbroken Q (Err fault.TooDeep) h = absurd h
unbroken Q (Err (fault.BadText element)) h = absurd h
