-- Which elements are read inside an element, and which of them stood in front or are missing.
use Rattle.std.specs.Prelude.{◌≡◌, ◌||◌, ⊤, Bool, true, false, List, [], ◌∷◌, Option, Some, None, if◌then◌else◌}
use Rattle.std.specs.Option.{is_some}
use Rattle.reply_xml.specs.declared.elements.Element.{Element}
use Rattle.reply_xml.specs.Contents.{is_the}
use Rattle.reply_xml.specs.Unfit.{Form}

-- how often an element stands: once, at most once, or any number of times
pub data Count : Type 0 where
  ExactlyOnce : Count
  AtMostOne : Count
  AnyNumber : Count

-- The elements that are read inside an element. A row has the form in which the text of its element is read, or no form
-- and the table of the elements inside it.
pub data Table : Type 0 where
  Done : Table
  Row : (of : Element) (count : Count) (form : Option Form) (inside more : Table) → Table

abbrev pub is_single : Count → Bool
is_single ExactlyOnce = true
is_single AtMostOne = true
is_single AnyNumber = false

-- the form in which the text of an element is read
abbrev pub form_in : Table → Element → Option Form
form_in Done wanted = None
form_in (Row of count form inside more) wanted = if is_the wanted (Some of) then form else form_in more wanted

-- the table of the elements inside an element
abbrev pub inside_in : Table → Element → Option Table
inside_in Done wanted = None
inside_in (Row of count form inside more) wanted =
    if is_the wanted (Some of) then (if is_some form then None else Some inside) else inside_in more wanted

-- an element of this name stands once at most
abbrev pub stands_alone : Table → Element → Bool
stands_alone Done wanted = false
stands_alone (Row of count form inside more) wanted =
    if is_the wanted (Some of) then is_single count else stands_alone more wanted

-- the element is none of the table
abbrev pub IsOutside : Table → Option Element → Type 0
IsOutside Done child = ⊤
IsOutside (Row of count form inside more) child = (is_the of child ≡ false) × IsOutside more child

-- whether an element stood among those in front
abbrev pub stood : Element → List (Option Element) → Bool
stood wanted [] = false
stood wanted (child ∷ front) = is_the wanted child || stood wanted front

-- the first element of the table that must stand and did not
abbrev pub first_missing : Table → List (Option Element) → Option Element
first_missing Done front = None
first_missing (Row of ExactlyOnce form inside more) front = if stood of front then first_missing more front else Some of
first_missing (Row of other form inside more) front = first_missing more front

-- an element was found exactly where it stood in front
abbrev pub IsFound : {V : Type 0} → Element → Option V → List (Option Element) → Type 0
IsFound of found front = is_some found ≡ stood of front

-- an element of this name begins, which may stand once, and did so in front
pub record IsAgain (table : Table) (front : List (Option Element))
    (child : Option Element) (of : Element) : Type 0 where
  pub same : is_the of child ≡ true
  pub alone : stands_alone table of ≡ true
  pub before : stood of front ≡ true

-- the element that begins stands for the first time, or may stand again
abbrev pub IsFresh : Table → List (Option Element) → Option Element → Type 0
IsFresh table front child = (of : Element) → ¬ (IsAgain table front child of)

-- the table has the text of an element read in this form
pub record IsTextOf (table : Table) (child : Option Element) (of : Element) (form : Form) : Type 0 where
  pub same : is_the of child ≡ true
  pub read_so : form_in table of ≡ Some form

-- the table has these elements read inside an element
pub record IsParentOf (table : Table) (child : Option Element) (of : Element) (inside : Table) : Type 0 where
  pub same : is_the of child ≡ true
  pub read_so : inside_in table of ≡ Some inside
