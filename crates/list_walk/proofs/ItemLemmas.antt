-- Items that are copied, moved and named one after the other.
use Rattle.std.proofs.Common.{◌≡◌, ◌<◌, ◌≤◌, ◌+◌, ◌-◌, ◌++◌, ◌∙◌, ◌∷◌, ℕ, suc, List, [], Option, Some, None, Result, Ok}
use Rattle.std.proofs.Common.{Err, IfErr, ap, arith, drop, drop-cons, drop_of_length-le, get_or, length, map}
use Rattle.std.proofs.Common.{slice_get, subst, sym, take}
use Rattle.std.specs.Option.{option_map, option_or}
use Rattle.std.specs.Result.{IsErrAnd}
use Rattle.std.proofs.lemmas.List.{append-nil, append_assoc, length-map, take_more}
use Rattle.std.proofs.lemmas.Option.{slice_get-map}
use Rattle.s3_model.specs.declared.faults.BadListing.{BadListing}
use Rattle.list_walk.specs.Pages.{last_of, name_fault, names_fault}

-- an item is moved to the end of a list, and in the end none is left
pub one_moved : {X : Type 0} (list more left rest whole : List X) (item : X) → left ≡ item ∷ rest
    → more ≡ list ++ item ∷ [] → list ++ left ≡ whole → more ++ rest ≡ whole
one_moved {X} list more left rest whole item first pushed same =
    ap (λ (xs : List X). xs ++ rest) pushed ∙ append_assoc list (item ∷ []) rest
    ∙ ap (λ (xs : List X). list ++ xs) (sym first) ∙ same

pub all_moved : {X : Type 0} (list left whole : List X) → left ≡ [] → list ++ left ≡ whole → list ≡ whole
all_moved {X} list left whole none same =
    sym (append-nil list) ∙ ap (λ (xs : List X). list ++ xs) (sym none) ∙ same

-- one more item is copied
pub one_copied : {X : Type 0} (items copies more : List X) (i : ℕ) (item copy : X) → i < length items
    → item ≡ get_or items i item → copy ≡ item → copies ≡ take i items → more ≡ copies ++ copy ∷ []
    → more ≡ take (i + 1) items
one_copied {X} items copies more i item copy inside is same had pushed =
    pushed ∙ ap (λ (xs : List X). xs ++ copy ∷ []) had
    ∙ ap (λ (x : X). take i items ++ x ∷ []) (same ∙ is) ∙ sym (take_more items i item inside)

-- the items from one on
from_one : {X : Type 0} (items : List X) (i : ℕ) (item : X) → i < length items → item ≡ get_or items i item
    → drop i items ≡ item ∷ drop (i + 1) items
from_one {X} items i item inside is =
    let next : suc i ≡ i + 1 = omega arith in
    drop-cons items i item inside ∙ ap (λ (x : X). x ∷ drop (suc i) items) (sym is)
    ∙ ap (λ (n : ℕ). item ∷ drop n items) next

-- the name of an item passes, or is the first that does not
pub name_passed : {X : Type 0} (named : X → List ℕ) (prefix : List ℕ) (before : Option (List ℕ)) (items : List X) (i : ℕ)
    (item : X) (name last : List ℕ) (fault : Option BadListing) → i < length items → item ≡ get_or items i item
    → name ≡ named item → last ≡ named item → name_fault prefix before name ≡ None
    → names_fault prefix before (map named (drop i items)) ≡ fault
    → names_fault prefix (Some last) (map named (drop (i + 1) items)) ≡ fault
name_passed {X} named prefix before items i item name last fault inside is same also passes whole =
    let rest = names_fault prefix (Some (named item)) (map named (drop (i + 1) items)) in
    ap (λ (n : List ℕ). names_fault prefix (Some n) (map named (drop (i + 1) items))) also
    ∙ ap (λ (o : Option BadListing). option_or o rest)
    (sym passes ∙ ap (λ (n : List ℕ). name_fault prefix before n) same)
    ∙ ap (λ (xs : List X). names_fault prefix before (map named xs)) (sym (from_one items i item inside is)) ∙ whole

pub name_refused : {X : Type 0} (named : X → List ℕ) (prefix : List ℕ) (before : Option (List ℕ)) (items : List X) (i : ℕ)
    (item : X) (name : List ℕ) (fault : Option BadListing) (reason : BadListing) → i < length items
    → item ≡ get_or items i item → name ≡ named item → name_fault prefix before name ≡ Some reason
    → names_fault prefix before (map named (drop i items)) ≡ fault → fault ≡ Some reason
name_refused {X} named prefix before items i item name fault reason inside is same refused whole =
    let rest = names_fault prefix (Some (named item)) (map named (drop (i + 1) items)) in
    sym whole ∙ ap (λ (xs : List X). names_fault prefix before (map named xs)) (from_one items i item inside is)
    ∙ ap (λ (o : Option BadListing). option_or o rest)
    (ap (λ (n : List ℕ). name_fault prefix before n) (sym same) ∙ refused)

pub all_passed : {X : Type 0} (named : X → List ℕ) (prefix : List ℕ) (before : Option (List ℕ)) (items : List X) (i : ℕ)
    (fault : Option BadListing) → length items ≤ i → names_fault prefix before (map named (drop i items)) ≡ fault
    → fault ≡ None
all_passed {X} named prefix before items i fault end whole =
    sym whole ∙ ap (λ (xs : List X). names_fault prefix before (map named xs)) (drop_of_length-le items end)

-- a fault that is handed on
pub fault_past : {T E : Type 0} (P : E → Type 0) (r : Result T E) (e : E) → IsErrAnd r (λ f. f ≡ e) → P e → IfErr r P
fault_past P (Ok x) e h p = absurd h
fault_past P (Err f) e h p = subst P (sym h) p

-- the name of the last item
pub last_named : {X : Type 0} (named : X → List ℕ) (items : List X) (last : Option X)
    → last ≡ slice_get items (length items - 1) → option_map named last ≡ last_of (map named items)
last_named {X} named items last is =
    ap (option_map named) is ∙ sym (slice_get-map named items (length items - 1))
    ∙ ap (λ (n : ℕ). slice_get (map named items) (n - 1)) (sym (length-map items named))
