-- The entries of a source, in order.
use Rattle.std.proofs.Common.{◌≡◌, ◌∙◌, ap, ◌≤◌, Bool, true, false, ℕ, List, [], ◌∷◌, refl, sym, subst, append-nil, arith, length, nat_eq, IsTrue}
use Rattle.std.specs.List.Sorted.{IsStrictlySortedBy}
use Rattle.shared_lemmas.proofs.Clashes.{true_is_false}
use Rattle.shared_lemmas.proofs.Lists.{starts_front}
use Rattle.std.specs.List.{starts_with}
use Rattle.std.proofs.lemmas.List.Elements.{All-cons, All-nil}
use Rattle.s3_model.specs.Entries.{IsAscending, keys_of}
use Rattle.s3_model.specs.declared.places.Entry.{Entry}
use Rattle.s3_model.specs.declared.places.Place.{Place}
use Rattle.s3_model.specs.declared.places.Place.TheVariants as place
use Rattle.s3_model.specs.declared.tasks.Warning.{Warning}
use Rattle.s3_outside.specs.declared.files.Shape.{Shape}
use Rattle.s3_outside.specs.declared.files.Shape.TheVariants as shape
use Rattle.s3_model.specs.Places.{IsObject, bucket_at, key_at}
use Rattle.s3_model.specs.declared.settings.Limits.{Limits}
use Rattle.s3_words.specs.declared.commands.Command.{Command}
use Rattle.sync_plan.specs.declared.errand.Errand.{Errand}
use Rattle.sync_plan.specs.Errands.{AreEntries}
use Rattle.dry_runs.specs.Errands.{removal_entry, removal_errand}
use Rattle.dry_runs.specs.Found.{FilesSeen, HoldsOne, HoldsSource}

one_ascends : (name : List ℕ) → IsAscending (name ∷ [])
unfolding IsStrictlySortedBy
one_ascends name = (tt, tt)

none_ascends : IsAscending []
unfolding IsStrictlySortedBy
none_ascends = tt

begins : (key : List ℕ) → IsTrue (starts_with nat_eq key key)
begins key = subst (λ (whole : List ℕ). IsTrue (starts_with nat_eq whole key)) (append-nil key) (starts_front key [])

-- ---- an object

pub one_object : (bucket key : List ℕ) (size micros : ℕ) (etag : List ℕ) → AreEntries (place.Object bucket key) false (record { key = key; size = size; etag = etag; micros = micros } ∷ [])
one_object bucket key size micros etag = record {
  ascending = one_ascends key;
  below = All-cons (λ name. IsTrue (starts_with nat_eq name key)) key [] (begins key) (All-nil (λ name. IsTrue (starts_with nat_eq name key)));
  single = λ e. omega arith;
}

-- ---- files

one_file : (path : List ℕ) (stands : Shape) (entries : List Entry) (looked : List Warning) → HoldsOne path stands entries looked → IsAscending (keys_of entries) × (length entries ≤ 1)
one_file path (shape.File size micros) entries looked h =
    subst (λ (all : List Entry). IsAscending (keys_of all) × (length all ≤ 1)) (sym h.0) (one_ascends _, omega arith)
one_file path shape.Other entries looked h = subst (λ (all : List Entry). IsAscending (keys_of all) × (length all ≤ 1)) (sym h.0) (none_ascends, omega arith)
one_file path shape.Absent entries looked h = absurd h
one_file path shape.Folder entries looked h = absurd h

pub found_entries : (files : FilesSeen) (many : Bool) (path : List ℕ) (entries : List Entry) (looked : List Warning) → HoldsSource files many path entries looked → AreEntries (place.File path) many entries
found_entries files true path entries looked h = record {
  ascending = (h.tree refl).ascending;
  below = tt;
  single = λ e. absurd (true_is_false e);
}
found_entries files false path entries looked h =
    let one = one_file path h.stands entries looked (h.one refl) in record {
      ascending = one.0;
      below = tt;
      single = λ e. one.1;
    }

pub of_file : (files : FilesSeen) (at : Place) (many : Bool) (path : List ℕ) (entries : List Entry) (looked : List Warning) → at ≡ place.File path → HoldsSource files many path entries looked → AreEntries at many entries
of_file files at many path entries looked is h = subst (λ (p : Place). AreEntries p many entries) (sym is) (found_entries files many path entries looked h)

-- the entry of a removal, at its object
pub removal_entries : (command : Command) (limits : Limits) (errand : Errand) (entry : Entry) (entries : List Entry) → IsObject command.from → errand ≡ removal_errand command limits → entry ≡ removal_entry command → entries ≡ entry ∷ []
    → AreEntries errand.from errand.many entries
removal_entries command limits errand entry entries object is of_entry all =
    subst (λ (e : Errand). AreEntries e.from e.many entries) (sym is)
    (subst (λ (es : List Entry). AreEntries (place.Object (bucket_at command.from) (key_at command.from)) false es) (sym (all ∙ ap (λ (e : Entry). e ∷ []) of_entry))
    (one_object (bucket_at command.from) (key_at command.from) 0 0 []))
