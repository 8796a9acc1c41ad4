-- What calls make of files and folders.
use Rattle.file_table.proofs.Keys.{any-insert, any-remove, decided, key_any, or_assoc, or_cases, or_left, or_right, insert_again, insert_twice, rename_new, rename_same, same_truth}
use Rattle.std.proofs.Common.{◌≡◌, ◌∙◌, ◌⊎◌, ◌||◌, ℕ, Bool, true, false, List, Option, Some, None, Result, Ok, Err, refl, sym, ap, subst, inl, inr}
use Rattle.std.specs.FinMap.{get, insert, keys, remove}
use Rattle.std.specs.List.{list_any}
use Rattle.std.specs.Prelude.{OnErr, OnOk, is_err}
use Rattle.std.specs.Option.{OnSome, is_some}
use Rattle.std.specs.Cmp.Lexicographic.{nat_list_cmp_total}
use Rattle.shared_lemmas.proofs.Clashes.{none_is_some}
use Rattle.shared_lemmas.proofs.Maps.{get-insert_same, get-insert_other, get-remove_other, text_exact}
use Rattle.s3_model.specs.Maps.{MapOf}
use Rattle.s3_model.specs.Files.{FileStore, HeldFile, is_below, is_folder, is_listed}
use Rattle.local_files.specs.Calls.{DropTemp, Remove, Rename, Stamp, WriteAt, written_at}
use Rattle.file_table.specs.Table.{AreAlike, HasPlace, Moves}
use Rattle.local_files.specs.Changes.{Changes}

-- Stores that are alike: only folders that were there are listed more often.
pub alike : (store : FileStore) (path : List ℕ) (folders : List (List ℕ)) → is_some (get store.held path) ≡ true
    → ((f : List ℕ) → is_listed folders f ≡ true → (is_below f path ≡ true) ⊎ (is_listed store.empty_folders f ≡ true))
    → ((f : List ℕ) → is_listed store.empty_folders f ≡ true → is_listed folders f ≡ true)
    → AreAlike store (record store { empty_folders = folders })
alike store path folders held only kept = record { held = refl; folders = each; others = refl; unnamed = refl }
  where
    any : List ℕ → Bool
    any f = list_any (is_below f) (keys store.held)

    each : (f : List ℕ) → is_folder (record store { empty_folders = folders }) f ≡ is_folder store f
    each f = same_truth (any f || is_listed folders f) (any f || is_listed store.empty_folders f) there back
      where
        there : (any f || is_listed folders f) ≡ true → (any f || is_listed store.empty_folders f) ≡ true
        there h = elim (or_cases (any f) (is_listed folders f) h) [
          | inl below ↦ or_left (any f) (is_listed store.empty_folders f) below
          | inr listed ↦ elim (only f listed) [
            | inl above ↦ or_left (any f) (is_listed store.empty_folders f) (key_any (is_below f) store.held path held above)
            | inr before ↦ or_right (any f) (is_listed store.empty_folders f) before
          ]
        ]

        back : (any f || is_listed store.empty_folders f) ≡ true → (any f || is_listed folders f) ≡ true
        back h = elim (or_cases (any f) (is_listed store.empty_folders f) h) [
          | inl below ↦ or_left (any f) (is_listed folders f) below
          | inr before ↦ or_right (any f) (is_listed folders f) (kept f before)
        ]

-- where nothing is added, an `or` that has it already stays
absorbed : (a b : Bool) → (a ≡ true → b ≡ true) → (a || b) ≡ b
absorbed true b h = sym (h refl)
absorbed false b h = refl

module _ (store : FileStore) where
  pub put_below : (path : List ℕ) (file : HeldFile) (f : List ℕ) → is_folder (record store { held = insert store.held path file }) f ≡ (is_below f path || is_folder store f)
  put_below path file f =
      ap (λ (b : Bool). b || is_listed store.empty_folders f) (any-insert (is_below f) store.held path file) ∙ or_assoc (is_below f path) (list_any (is_below f) (keys store.held)) (is_listed store.empty_folders f)

  above_held : (path : List ℕ) (f : List ℕ) → is_some (get store.held path) ≡ true → is_below f path ≡ true → is_folder store f ≡ true
  above_held path f held below = or_left (list_any (is_below f) (keys store.held)) (is_listed store.empty_folders f) (key_any (is_below f) store.held path held below)

  pub put_again : (path : List ℕ) (was file : HeldFile) → get store.held path ≡ Some was → (f : List ℕ) → is_folder (record store { held = insert store.held path file }) f ≡ is_folder store f
  put_again path was file held f = put_below path file f ∙ absorbed (is_below f path) (is_folder store f) (above_held path f (ap is_some held))

  pub take_away : (path : List ℕ) (folders : List (List ℕ)) → is_some (get store.held path) ≡ true → ((f : List ℕ) → is_listed folders f ≡ (is_below f path || is_listed store.empty_folders f))
      → (f : List ℕ) → is_folder (record store { held = remove store.held path; empty_folders = folders }) f ≡ is_folder store f
  take_away path folders held listed f =
      elim (decided (is_below f path)) [
        | inl below ↦ or_right (list_any (is_below f) (keys (remove store.held path))) (is_listed folders f) (listed f ∙ or_left (is_below f path) (is_listed store.empty_folders f) below) ∙ sym (above_held path f held below)
        | inr apart ↦ ap (λ (b : Bool). b || is_listed folders f) (any-remove (is_below f) store.held path apart)
            ∙ ap (λ (b : Bool). any_is || b) (listed f ∙ ap (λ (b : Bool). b || is_listed store.empty_folders f) apart)
      ]
    where
      any_is : Bool
      any_is = list_any (is_below f) (keys store.held)

  pub written : (path : List ℕ) (at : ℕ) (bytes : List ℕ) (file : HeldFile) → get store.held path ≡ Some file
      → Changes (WriteAt path at bytes true) store (record store { held = insert store.held path (record file { bytes = written_at at bytes file.bytes }) })
  written path at bytes file held = record {
    held = (file, held, (file.micros, refl));
    folders = put_again path file _ held;
    others = refl;
    unnamed = refl;
  }

  pub stamped : (path : List ℕ) (micros : ℕ) (file : HeldFile) → get store.held path ≡ Some file
      → Changes (Stamp path micros true) store (record store { held = insert store.held path (record file { micros = micros }) })
  stamped path micros file held = record { held = (file, held, refl); folders = put_again path file _ held; others = refl; unnamed = refl }

  module _ (path : List ℕ) (held : is_some (get store.held path) ≡ true) (folders : List (List ℕ)) (listed : (f : List ℕ) → is_listed folders f ≡ (is_below f path || is_listed store.empty_folders f)) where
    pub removed : Changes (Remove path true) store (record store { held = remove store.held path; empty_folders = folders })
    removed = record { held = refl; folders = take_away path folders held listed; others = refl; unnamed = refl }

    pub dropped : Changes (DropTemp path true) store (record store { held = remove store.held path; empty_folders = folders })
    dropped = record { held = refl; folders = take_away path folders held listed; others = refl; unnamed = refl }

  pub renamed_same : (path : List ℕ) (file : HeldFile) → get store.held path ≡ Some file → Changes (Rename path path None) store store
  renamed_same path file held = record {
    held = (file, held, sym (rename_same store.held path file held));
    folders = λ f. sym (absorbed (is_below f path) (is_folder store f) (above_held path f (ap is_some held)));
    others = refl;
    unnamed = refl;
  }

pub renamed : (store : FileStore) (temp dest : List ℕ) (file : HeldFile) → get store.held temp ≡ Some file → (folders : List (List ℕ)) → ((f : List ℕ) → is_listed folders f ≡ (is_below f temp || is_listed store.empty_folders f))
    → Changes (Rename temp dest None) store (record store { held = insert (remove store.held temp) dest file; empty_folders = folders })
renamed store temp dest file held folders listed = record {
  held = (file, held, refl);
  folders = λ f. put_below (record store { held = remove store.held temp; empty_folders = folders }) dest file f ∙ ap (λ (b : Bool). is_below f dest || b) (take_away store temp folders (ap is_some held) listed f);
  others = refl;
  unnamed = refl;
}

-- ---- the same of maps that were changed step by step

from_some : {V P : Type 0} (o : Option V) (v : V) → o ≡ Some v → OnSome o P → P
from_some None v e h = absurd (none_is_some v e)
from_some (Some w) v e h = h

-- a value that was taken for another, and put back
pub put_second : (held one two : MapOf HeldFile) (path : List ℕ) (e v : HeldFile) (found : Option HeldFile) → one ≡ insert held path e → found ≡ get one path → OnSome found (two ≡ insert one path v) → two ≡ insert held path v
put_second held one two path e v found first is put =
    from_some found e (is ∙ ap (λ (m : MapOf HeldFile). get m path) first ∙ get-insert_same nat_list_cmp_total text_exact held path e) put
    ∙ ap (λ (m : MapOf HeldFile). insert m path v) first ∙ insert_twice held path e v

pub put_back : (held two : MapOf HeldFile) (path : List ℕ) (v : HeldFile) → get held path ≡ Some v → two ≡ insert held path v → two ≡ held
put_back held two path v was is = is ∙ insert_again held path v was

pub written_to : (store : FileStore) (path : List ℕ) (at : ℕ) (bytes : List ℕ) (file new : HeldFile) (two : MapOf HeldFile) → get store.held path ≡ Some file → new ≡ record file { bytes = written_at at bytes file.bytes } → two ≡ insert store.held path new
    → Changes (WriteAt path at bytes true) store (record store { held = two })
written_to store path at bytes file new two held is put =
    subst (λ (m : MapOf HeldFile). Changes (WriteAt path at bytes true) store (record store { held = m })) (sym (put ∙ ap (insert store.held path) is)) (written store path at bytes file held)

pub stamped_to : (store : FileStore) (path : List ℕ) (micros : ℕ) (file new : HeldFile) (two : MapOf HeldFile) → get store.held path ≡ Some file → new ≡ record file { micros = micros } → two ≡ insert store.held path new
    → Changes (Stamp path micros true) store (record store { held = two })
stamped_to store path micros file new two held is put =
    subst (λ (m : MapOf HeldFile). Changes (Stamp path micros true) store (record store { held = m })) (sym (put ∙ ap (insert store.held path) is)) (stamped store path micros file held)

pub removed_to : (store : FileStore) (path : List ℕ) (two : MapOf HeldFile) (folders : List (List ℕ)) → is_some (get store.held path) ≡ true → ((f : List ℕ) → is_listed folders f ≡ (is_below f path || is_listed store.empty_folders f))
    → two ≡ remove store.held path → Changes (Remove path true) store (record store { held = two; empty_folders = folders })
removed_to store path two folders held listed is =
    subst (λ (m : MapOf HeldFile). Changes (Remove path true) store (record store { held = m; empty_folders = folders })) (sym is) (removed store path held folders listed)

pub dropped_to : (store : FileStore) (path : List ℕ) (two : MapOf HeldFile) (folders : List (List ℕ)) → is_some (get store.held path) ≡ true → ((f : List ℕ) → is_listed folders f ≡ (is_below f path || is_listed store.empty_folders f))
    → two ≡ remove store.held path → Changes (DropTemp path true) store (record store { held = two; empty_folders = folders })
dropped_to store path two folders held listed is =
    subst (λ (m : MapOf HeldFile). Changes (DropTemp path true) store (record store { held = m; empty_folders = folders })) (sym is) (dropped store path held folders listed)

pub renamed_to : (store : FileStore) (temp dest : List ℕ) (two : MapOf HeldFile) (folders : List (List ℕ)) → Moves temp dest store.held two → ((f : List ℕ) → is_listed folders f ≡ (is_below f temp || is_listed store.empty_folders f))
    → Changes (Rename temp dest None) store (record store { held = two; empty_folders = folders })
renamed_to store temp dest two folders (file, held, is) listed =
    subst (λ (m : MapOf HeldFile). Changes (Rename temp dest None) store (record store { held = m; empty_folders = folders })) (sym is) (renamed store temp dest file held folders listed)

pub renamed_on : (store : FileStore) (temp dest : List ℕ) → temp ≡ dest → is_some (get store.held temp) ≡ true → Changes (Rename temp dest None) store store
renamed_on store temp dest same held = subst (λ (d : List ℕ). Changes (Rename temp d None) store store) same (of_some (get store.held temp) held refl)
  where
    of_some : (o : Option HeldFile) → is_some o ≡ true → get store.held temp ≡ o → Changes (Rename temp temp None) store store
    of_some None h is = absurd (false_true h)
      where
        false_true : false ≡ true → ⊥
        false_true e = cc
    of_some (Some file) h is = renamed_same store temp file is

-- ---- a file that is moved

module _ (old place taken new : MapOf HeldFile) (temp dest : List ℕ) (apart : temp ≡ dest → ⊥) (has : HasPlace dest old place) where
  here : get place temp ≡ get old temp
  here = elim has.1 [
    | inl same ↦ ap (λ (m : MapOf HeldFile). get m temp) same
    | inr made ↦ ap (λ (m : MapOf HeldFile). get m temp) made.1 ∙ get-insert_other nat_list_cmp_total text_exact old dest made.0 temp apart
  ]

  pub moved : (file : HeldFile) (found : Option HeldFile) → Some file ≡ get place temp → taken ≡ remove place temp → found ≡ get taken dest → OnSome found (new ≡ insert taken dest file) → Moves temp dest old new
  moved file found is removes at put = (file, sym here ∙ sym is, put_there ∙ ap (λ (m : MapOf HeldFile). insert m dest file) removes ∙ same_end)
    where
      other : dest ≡ temp → ⊥
      other e = apart (sym e)

      still : is_some found ≡ true
      still = ap is_some (at ∙ ap (λ (m : MapOf HeldFile). get m dest) removes ∙ get-remove_other nat_list_cmp_total text_exact place temp dest other) ∙ has.0

      put_there : new ≡ insert taken dest file
      put_there = of_some found still put
        where
          of_some : (o : Option HeldFile) → is_some o ≡ true → OnSome o (new ≡ insert taken dest file) → new ≡ insert taken dest file
          of_some None h p = absurd (false_true h)
            where
              false_true : false ≡ true → ⊥
              false_true e = cc
          of_some (Some f) h p = p

      same_end : insert (remove place temp) dest file ≡ insert (remove old temp) dest file
      same_end = elim has.1 [
        | inl same ↦ ap (λ (m : MapOf HeldFile). insert (remove m temp) dest file) same
        | inr made ↦ ap (λ (m : MapOf HeldFile). insert (remove m temp) dest file) made.1 ∙ rename_new old dest temp made.0 file
      ]

  pub not_gone : is_some (get old temp) ≡ true → None ≡ get place temp → ⊥
  not_gone there gone = false_true (ap is_some (gone ∙ here) ∙ there)
    where
      false_true : false ≡ true → ⊥
      false_true e = cc

pub placed : (old new : MapOf HeldFile) (path : List ℕ) (file : HeldFile) → new ≡ insert old path file → HasPlace path old new
placed old new path file is = (ap is_some (ap (λ (m : MapOf HeldFile). get m path) is ∙ get-insert_same nat_list_cmp_total text_exact old path file), inr (file, is))

pub still_alike : (old : FileStore) (held two : MapOf HeldFile) (folders others : List (List ℕ)) (unnamed : MapOf ℕ) → two ≡ held
    → AreAlike old (record { held = held; empty_folders = folders; others = others; unnamed = unnamed }) → AreAlike old (record { held = two; empty_folders = folders; others = others; unnamed = unnamed })
still_alike old held two folders others unnamed is alike =
    subst (λ (m : MapOf HeldFile). AreAlike old (record { held = m; empty_folders = folders; others = others; unnamed = unnamed })) (sym is) alike

-- ---- what a result says

pub ok_from : {A E P : Type 0} (r : Result A E) → is_err r ≡ false → OnOk r P → P
ok_from (Ok a) e h = h
ok_from (Err x) e h = absurd (true_false e)
  where
    true_false : true ≡ false → ⊥
    true_false t = cc

pub err_from : {A E P : Type 0} (r : Result A E) → is_err r ≡ true → OnErr r P → P
err_from (Err x) e h = h
err_from (Ok a) e h = absurd (false_true e)
  where
    false_true : false ≡ true → ⊥
    false_true t = cc
