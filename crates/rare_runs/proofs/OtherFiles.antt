-- Files that no task is to touch.
use Rattle.std.proofs.Common.{◌≡◌, ◌∙◌, ◌⊎◌, ℕ, true, false, List, [], ◌∷◌, Some, None, refl, sym, ap, inl, inr, arith}
use Rattle.std.specs.Cmp.Lexicographic.{nat_list_cmp_total, slice_cmp}
use Rattle.std.specs.Ordering.{nat_cmp}
use Rattle.std.specs.FinMap.{empty, get, get-empty, insert, remove}
use Rattle.s3_model.specs.declared.places.Place.TheVariants as place
use Rattle.s3_model.specs.declared.answers.Listed.{Listed}
use Rattle.s3_model.specs.declared.tasks.Task.{Task}
use Rattle.s3_model.specs.Files.{HeldFile}
use Rattle.s3_model.specs.Maps.{MapOf}
use Rattle.run_promise.specs.Truthful.{IsTouchedFile}
use Rattle.shared_lemmas.proofs.Clashes.{false_true as never, none_is_some, some_is, some_is_none}
use Rattle.shared_lemmas.proofs.Lists.{head_is}
use Rattle.shared_lemmas.proofs.Maps.{get-insert_other, get-insert_same, get-remove_same, text_exact}
use Rattle.file_laws.proofs.FileEnds as ends
use Rattle.file_laws.proofs.Keeping.{same_path}
use Rattle.promise_examples.specs.BothKinds.{bucket, bytes, first_key, first_path, held, left_over, plan, removed_path, second_key, second_path, second_temp, shown, source_path, stamped, stored_key, with_bytes}
use Rattle.promise_examples.specs.Reading.{Reads}
use Rattle.promise_examples.proofs.BothKinds.{both_kinds_are_met}
use Rattle.promise_examples.proofs.BothPlan.{object_is_no_file, other_length, source_is}
use Rattle.promise_examples.proofs.Concrete.{each, has}
use Rattle.rare_runs.specs.FileNeighbours.{OtherFilesAreMet, OtherFilesAreRefused, other_path}

-- a page that no run of these asks for
no_page : List ℕ → Listed
no_page text = record {
  entries = record { items = []; spare = 0 };
  prefixes = record { items = []; spare = 0 };
  more = true;
  token = None;
}

pub other_files_are_met : OtherFilesAreMet
other_files_are_met =
    let run = both_kinds_are_met no_page in
    let over = run.carried_out.over_files in
    ends.promised_files_stay (Reads no_page) shown run.dispatched run.dispatched _ over.keep over.held_after

-- ---- what no task touches

of_file : (p path : List ℕ) → (p ≡ path → ⊥) → (place.File p ≡ place.File path) ⊎ (false ≡ true) × (None ≡ Some (place.File path)) → ⊥
of_file p path apart (inl e) = apart (same_path p path e)
of_file p path apart (inr moved) = never moved.0

from_object : (key p path : List ℕ) → (p ≡ path → ⊥) → (place.File p ≡ place.File path) ⊎ (false ≡ true) × (Some (place.Object bucket key) ≡ Some (place.File path)) → ⊥
from_object key p path apart (inl e) = apart (same_path p path e)
from_object key p path apart (inr moved) = never moved.0

untouched : (path : List ℕ) → (first_path ≡ path → ⊥) → (second_path ≡ path → ⊥) → (removed_path ≡ path → ⊥) → IsTouchedFile plan path → ⊥
untouched path a b c touched = each (λ (t : Task). (t.dest ≡ place.File path) ⊎ (t.moves ≡ true) × (t.source ≡ Some (place.File path)) → ⊥) plan (
  (λ h. elim h [ inl e ↦ object_is_no_file bucket stored_key path e | inr moved ↦ never moved.0 ]),
  (from_object first_key first_path path a, (from_object second_key second_path path b, (of_file removed_path path c, tt))),
) touched.0 touched.1 touched.2

byte_apart : (m n : ℕ) → (m ≡ n → ⊥) → m ∷ [] ≡ n ∷ [] → ⊥
byte_apart m n apart e = apart (head_is m n [] [] e)

other_untouched : IsTouchedFile plan other_path → ⊥
other_untouched = untouched other_path (byte_apart 107 122 (λ e. omega arith)) (byte_apart 108 122 (λ e. omega arith)) (byte_apart 114 122 (λ e. omega arith))

source_untouched : IsTouchedFile plan source_path → ⊥
source_untouched = untouched source_path (byte_apart 107 102 (λ e. omega arith)) (byte_apart 108 102 (λ e. omega arith)) (byte_apart 114 102 (λ e. omega arith))

temp_untouched : IsTouchedFile plan second_temp → ⊥
temp_untouched = untouched second_temp (other_length _ _ 1 17 refl refl (λ e. omega arith)) (other_length _ _ 1 17 refl refl (λ e. omega arith)) (other_length _ _ 1 17 refl refl (λ e. omega arith))

-- ---- what is held

found : (m : MapOf HeldFile) (path : List ℕ) (file : HeldFile) → get (insert m path file) path ≡ Some file
found m path file = get-insert_same nat_list_cmp_total text_exact m path file

gone : (m : MapOf HeldFile) (path : List ℕ) → get (remove m path) path ≡ None
gone m path = get-remove_same nat_list_cmp_total text_exact m path

none_held : (path : List ℕ) → (path ≡ removed_path → ⊥) → (path ≡ source_path → ⊥) → get held path ≡ None
none_held path a b =
    get-insert_other nat_list_cmp_total text_exact (insert empty source_path (with_bytes bytes)) removed_path (with_bytes []) path a
    ∙ (get-insert_other nat_list_cmp_total text_exact empty source_path (with_bytes bytes) path b ∙ get-empty (slice_cmp nat_cmp) path)

none_other : get held other_path ≡ None
none_other = none_held other_path (byte_apart 122 114 (λ e. omega arith)) (byte_apart 122 102 (λ e. omega arith))

none_temp : get held second_temp ≡ None
none_temp = none_held second_temp (other_length _ _ 17 1 refl refl (λ e. omega arith)) (other_length _ _ 17 1 refl refl (λ e. omega arith))

-- ---- the neighbours

pub other_files_are_refused : OtherFilesAreRefused
other_files_are_refused = record {
  new_file = λ stay. elim (stay other_path) [
    | inl touched ↦ other_untouched touched
    | inr rest ↦ elim rest [
      | inl over ↦ never over.0.0
      | inr same ↦ some_is_none (with_bytes []) (sym (found left_over other_path (with_bytes [])) ∙ same ∙ none_other)
    ]
  ];
  other_source = λ stay. elim (stay source_path) [
    | inl touched ↦ source_untouched touched
    | inr rest ↦ elim rest [
      | inl over ↦ never over.0.0
      | inr same ↦ other_length (9 ∷ []) bytes 1 2 refl refl (λ e. omega arith)
          (ap (λ (f : HeldFile). f.bytes) (some_is (with_bytes (9 ∷ [])) (with_bytes bytes) (sym (found left_over source_path (with_bytes (9 ∷ []))) ∙ same ∙ source_is)))
    ]
  ];
  no_source = λ stay. elim (stay source_path) [
    | inl touched ↦ source_untouched touched
    | inr rest ↦ elim rest [
      | inl over ↦ never over.0.0
      | inr same ↦ none_is_some (with_bytes bytes) (sym (gone left_over source_path) ∙ same ∙ source_is)
    ]
  ];
  unwarned = λ stay. elim (stay second_temp) [
    | inl touched ↦ temp_untouched touched
    | inr rest ↦ elim rest [
      | inl over ↦ elim over.0.1 [ inl known ↦ has [] second_temp known | inr wanting ↦ never wanting ]
      | inr same ↦ some_is_none (with_bytes []) (sym (found stamped second_temp (with_bytes [])) ∙ same ∙ none_temp)
    ]
  ];
  old_file = λ stay. elim (stay second_temp) [
    | inl touched ↦ temp_untouched touched
    | inr rest ↦ elim rest [
      | inl over ↦ some_is_none (with_bytes (1 ∷ [])) (sym (found held second_temp (with_bytes (1 ∷ []))) ∙ over.1)
      | inr same ↦ none_is_some (with_bytes (1 ∷ [])) (sym (gone left_over second_temp) ∙ same ∙ found held second_temp (with_bytes (1 ∷ [])))
    ]
  ];
}
