-- One entry is a list of entries of its place.
use Rattle.std.proofs.Common.{◌≡◌, ℕ, false, List, [], ◌∷◌, nat_eq, IsTrue, Some, Result, Ok, Err, IfOk, sym, append-nil, arith}
use Rattle.std.specs.List.{starts_with}
use Rattle.std.specs.List.Sorted.{IsStrictlySortedBy}
use Rattle.std.proofs.lemmas.List.Elements.{All-cons, All-nil}
use Rattle.s3_model.specs.Lists.{Reserved}
use Rattle.s3_model.specs.Places.{IsObject, key_at}
use Rattle.s3_model.specs.declared.places.Entry.{Entry}
use Rattle.s3_model.specs.declared.places.Place.{Place}
use Rattle.s3_model.specs.declared.places.Place.TheVariants as place
use Rattle.sync_plan.specs.Errands.{AreBelow, AreEntries}
use Rattle.sync_plan.proofs.PrefixLemmas.{begins}

one_of : (of_place : Place) (entry : Entry) → AreBelow of_place (entry ∷ []) → AreEntries of_place false (entry ∷ [])
unfolding IsStrictlySortedBy
one_of of_place entry below = record { ascending = (tt, tt); below = below; single = λ e. omega arith }

pub one_file : (path : List ℕ) (entry : Entry) → AreEntries (place.File path) false (entry ∷ [])
one_file path entry = one_of (place.File path) entry tt

-- a key begins with itself
pub one_object : (of_place : Place) (entry : Entry) → IsObject (Some of_place) → entry.key ≡ key_at (Some of_place) → AreEntries of_place false (entry ∷ [])
one_object (place.Object bucket key) entry object e =
    one_of (place.Object bucket key) entry
    (All-cons (λ (name : List ℕ). IsTrue (starts_with nat_eq name key)) entry.key [] (begins key entry.key [] (rw e (sym (append-nil key)))) (All-nil (λ (name : List ℕ). IsTrue (starts_with nat_eq name key))))
one_object (place.File path) entry object e = absurd object

pub files_are : {E : Type 0} (result : Result (Reserved Entry) E) (entry : Entry) → IfOk result (λ entries. entries.items ≡ entry ∷ [])
    → IfOk result (λ entries. (path : List ℕ) → AreEntries (place.File path) false entries.items)
files_are (Ok entries) entry e = λ path. rw e (one_file path entry)
files_are (Err why) entry e = tt

pub objects_are : {E : Type 0} (result : Result (Reserved Entry) E) (of_place : Place) (entry : Entry) → IsObject (Some of_place) → entry.key ≡ key_at (Some of_place)
    → IfOk result (λ entries. entries.items ≡ entry ∷ []) → IfOk result (λ entries. AreEntries of_place false entries.items)
objects_are (Ok entries) of_place entry object key e = rw e (one_object of_place entry object key)
objects_are (Err why) of_place entry object key e = tt
