-- Which elements stood in front of one, and what follows from that.
use Rattle.std.proofs.Common.{◌≡◌, ◌∙◌, ◌||◌, ℕ, Bool, true, false, nat_eq, eq-eqb, cond, List, [], ◌∷◌, Option, Some}
use Rattle.std.proofs.Common.{None, refl, subst, sym, ap}
use Rattle.std.specs.Option.{IsSome, is_some}
use Rattle.std.proofs.lemmas.Bool.{eqb-true, false≢true}
use Rattle.reply_xml.specs.declared.elements.Element.{Element}
use Rattle.reply_xml.specs.declared.tags.Child.{Child}
use Rattle.reply_xml.specs.declared.tags.Tag.{Tag}
use Rattle.reply_xml.specs.Contents.{Content, Only, Then, is_the, row_of}
use Rattle.reply_xml.specs.Fits.{FitsChild, GoesOnWell, Passed, ReadsWell}
use Rattle.reply_xml.specs.Reading.{EndsContent, NamesChild}
use Rattle.reply_xml.specs.Tables.{Done, ExactlyOnce, IsFound, IsFresh, IsOutside, Row, Table, first_missing, form_in}
use Rattle.reply_xml.specs.Tables.{is_single, stands_alone, stood}
use Rattle.reply_xml.specs.Unfit.{Form}
use Rattle.reply_xml.proofs.ContentLemmas.{content_inner, inner_open}
use Rattle.reply_xml.proofs.OpenLemmas.{element_before}

-- an element has one row
pub row_same : (a b : Element) (child : Option Element) → is_the a child ≡ true → is_the b child ≡ true
    → row_of a ≡ row_of b
row_same a b None h k = absurd (false≢true h)
row_same a b (Some x) h k = eqb-true (row_of a) (row_of x) h ∙ sym (eqb-true (row_of b) (row_of x) k)

pub is_the_row : (a b : Element) (child : Option Element) → row_of a ≡ row_of b → is_the a child ≡ is_the b child
is_the_row a b None e = refl
is_the_row a b (Some x) e = ap (λ n. nat_eq n (row_of x)) e

stood_row : (a b : Element) (front : List (Option Element)) → row_of a ≡ row_of b → stood a front ≡ stood b front
stood_row a b [] e = refl
stood_row a b (child ∷ front) e =
    ap (λ p. p || stood a front) (is_the_row a b child e) ∙ ap (λ q. is_the b child || q) (stood_row a b front e)

alone_row : (a b : Element) (table : Table) → row_of a ≡ row_of b → stands_alone table a ≡ stands_alone table b
alone_row a b Done e = refl
alone_row a b (Row of count form inside more) e =
    ap (λ p. cond p (is_single count) (stands_alone more a)) (is_the_row a b (Some of) e)
    ∙ ap (λ q. cond (is_the b (Some of)) (is_single count) q) (alone_row a b more e)

-- an element stands for the first time: none of its name was found, it may stand again, or the table has none
pub fresh_none : (table : Table) (front : List (Option Element)) (child : Option Element) (of : Element)
    → is_the of child ≡ true → false ≡ stood of front
    → IsFresh table front child
fresh_none table front child of h absent other again =
    false≢true (absent ∙ stood_row of other front (row_same of other child h again.same) ∙ again.before)

pub fresh_many : (table : Table) (front : List (Option Element)) (child : Option Element) (of : Element)
    → is_the of child ≡ true → stands_alone table of ≡ false
    → IsFresh table front child
fresh_many table front child of h many other again =
    false≢true (sym many ∙ alone_row of other table (row_same of other child h again.same) ∙ again.alone)

no_row : (b x y : Bool) → (b ≡ true → ⊥) → y ≡ false → cond b x y ≡ false
no_row true x y differs e = absurd (differs refl)
no_row false x y differs e = e

outside_alone : (table : Table) (child : Option Element) (other : Element) → IsOutside table child
    → is_the other child ≡ true → stands_alone table other ≡ false
outside_alone Done child other out h = refl
outside_alone (Row of count form inside more) child other out h =
    no_row (is_the other (Some of)) (is_single count) (stands_alone more other)
    (λ same. false≢true (sym out.0 ∙ is_the_row of other child (sym (eqb-true (row_of other) (row_of of) same)) ∙ h))
    (outside_alone more child other out.1 h)

pub fresh_outside : (table : Table) (front : List (Option Element)) (child : Option Element) → IsOutside table child
    → IsFresh table front child
fresh_outside table front child out other again =
    false≢true (sym (outside_alone table child other out again.same) ∙ again.alone)

pub fresh_done : (table : Table) (front : List (Option Element)) (child : Option Element) → table ≡ Done
    → IsFresh table front child
fresh_done table front child e other again =
    false≢true (subst (λ (t : Table). stands_alone t other ≡ true) e again.alone)

-- where the table has nothing, nothing is missing, and any element is passed over
pub nothing_missing : (table : Table) (front : List (Option Element)) → table ≡ Done → first_missing table front ≡ None
nothing_missing table front e = ap (λ (t : Table). first_missing t front) e

pub fits_any : (Inside : Table → Type 0) (table : Table) (front other : List (Option Element)) (child : Option Element)
    (inner : Content) → table ≡ Done
    → FitsChild Inside table front child inner → FitsChild Inside table other child inner
fits_any Inside table front other child inner e f = Passed (subst (λ (t : Table). IsOutside t child) (sym e) tt)

-- the table stays
pub read_so : (table other : Table) (front : List (Option Element)) (child : Child) (bytes rest : List ℕ)
    → other ≡ table → ReadsWell other front child bytes rest
    → ReadsWell table front child bytes rest
read_so table other front child bytes rest same well =
    subst (λ (t : Table). ReadsWell t front child bytes rest) same well

pub complete_so : (table other : Table) (front : List (Option Element)) → other ≡ table
    → first_missing other front ≡ None → first_missing table front ≡ None
complete_so table other front same complete = subst (λ (t : Table). first_missing t front ≡ None) same complete

-- what is left of a content, with an element in front of it, and at its end
pub goes_on_before : (table : Table) (front : List (Option Element)) (parent : Tag) (child : Child)
    (bytes from next rest : List ℕ) → parent.closed ≡ false
    → NamesChild parent.room bytes child from → ReadsWell table front child from next
    → GoesOnWell table (child.element ∷ front) parent next rest
    → GoesOnWell table front parent bytes rest
goes_on_before table front parent child bytes from next rest plain b well r =
    let more = inner_open parent.closed r.0 parent.room parent.name.now next rest plain r.1 in (
      Then b.text child.element well.0 r.0,
      content_inner parent.closed (Then b.text child.element well.0 r.0) parent.room parent.name.now bytes rest plain
          (element_before parent.room bytes from next rest parent.name.now child well.0 r.0 b well.1 more),
      (well.2, r.2),
    )

pub goes_on_end : (table : Table) (front : List (Option Element)) (parent : Tag) (bytes rest : List ℕ)
    → EndsContent parent bytes rest → first_missing table front ≡ None
    → GoesOnWell table front parent bytes rest
goes_on_end table front parent bytes rest ends complete = (Only ends.0, ends.1, complete)

-- what was found, with one more element in front
pub stood_here : (of : Element) (child : Option Element) (front : List (Option Element)) → is_the of child ≡ true
    → true ≡ stood of (child ∷ front)
stood_here of child front h = subst (λ (b : Bool). true ≡ (b || stood of front)) (sym h) refl

pub stood_past : (of : Element) (found : Bool) (child : Option Element) (front : List (Option Element))
    → is_the of child ≡ false → found ≡ stood of front
    → found ≡ stood of (child ∷ front)
stood_past of found child front h f = subst (λ (b : Bool). found ≡ (b || stood of front)) (sym h) f

pub found_here : {V : Type 0} (of : Element) (found : Option V) (child : Option Element) (front : List (Option Element))
    → is_the of child ≡ true → IsSome found
    → IsFound of found (child ∷ front)
found_here of None child front h some = absurd (false≢true some)
found_here of (Some x) child front h some = stood_here of child front h

pub found_past : {V : Type 0} (of : Element) (found : Option V) (child : Option Element) (front : List (Option Element))
    → is_the of child ≡ false → IsFound of found front
    → IsFound of found (child ∷ front)
found_past of found child front h f = stood_past of (is_some found) child front h f

-- the first element that was not found is the one that is missing
pub missing_here : {V : Type 0} (of : Element) (found : Option V) (front : List (Option Element))
    (later : Option Element) → found ≡ None → IsFound of found front
    → cond (stood of front) later (Some of) ≡ Some of
missing_here {V} of found front later none f =
    subst (λ (b : Bool). cond b later (Some of) ≡ Some of) (sym (ap (λ (o : Option V). is_some o) none) ∙ f) refl

pub missing_later : {V : Type 0} (of : Element) (found : Option V) (value : V) (front : List (Option Element))
    (later missing : Option Element) → found ≡ Some value
    → IsFound of found front → later ≡ missing → cond (stood of front) later (Some of) ≡ missing
missing_later {V} of found value front later missing some f rest =
    subst (λ (b : Bool). cond b later (Some of) ≡ missing) (sym (ap (λ (o : Option V). is_some o) some) ∙ f) rest

-- a table with one text
row_is_same : (of : Element) → nat_eq (row_of of) (row_of of) ≡ true
row_is_same of = eq-eqb (row_of of) (row_of of) refl

pub only_form : (of : Element) (form : Form) → form_in (Row of ExactlyOnce (Some form) Done Done) of ≡ Some form
only_form of form = subst (λ (b : Bool). cond b (Some form) None ≡ Some form) (sym (row_is_same of)) refl

pub only_alone : (of : Element) (form : Form) → stands_alone (Row of ExactlyOnce (Some form) Done Done) of ≡ true
only_alone of form = subst (λ (b : Bool). cond b true false ≡ true) (sym (row_is_same of)) refl

pub only_missing : (of : Element) (form : Form) (front : List (Option Element)) → false ≡ stood of front
    → first_missing (Row of ExactlyOnce (Some form) Done Done) front ≡ Some of
only_missing of form front absent = subst (λ (b : Bool). cond b None (Some of) ≡ Some of) absent refl
