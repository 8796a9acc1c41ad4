-- What `ls` prints of a listing (AWS CLI Command Reference, `s3 ls`).
use Rattle.std.specs.Prelude.{◌≡◌, ◌++◌, ℕ, Bool, List, [], ◌∷◌, codes, if◌then◌else◌}
use Rattle.list_walk.specs.Pages.{Gathered}
use Rattle.path_names.specs.Names.{without_slash}
use Rattle.result_lines.specs.Rows.{IsRow, prefix_row}
use Rattle.s3_model.specs.ContentTypes.{last_name}
use Rattle.s3_model.specs.declared.places.Entry.{Entry}

-- ---- names

-- the whole key under `--recursive`, else what follows its last `/`
abbrev pub key_name : (recursive : Bool) → (key : List ℕ) → List ℕ
key_name recursive key = if recursive then key else last_name key

-- the whole prefix under `--recursive`, else its last component, with `/`
abbrev pub prefix_name : (recursive : Bool) → (prefix : List ℕ) → List ℕ
prefix_name recursive prefix = if recursive then prefix else last_name (without_slash prefix) ++ codes "/"

-- ---- rows

abbrev pub IsObjectRow : (recursive : Bool) → Entry → (row : List ℕ) → Type 0
IsObjectRow recursive entry row = IsRow entry (key_name recursive entry.key) row

abbrev pub IsPrefixRow : (recursive : Bool) → (prefix row : List ℕ) → Type 0
IsPrefixRow recursive prefix row = row ≡ prefix_row (prefix_name recursive prefix)

-- the text has a row of each of these, one after the other, and nothing else
abbrev pub AreRows : {A : Type 0} → (A → (row : List ℕ) → Type 0) → List A → (text : List ℕ) → Type 0
AreRows IsRowOf [] text = text ≡ []
AreRows IsRowOf (item ∷ items) text =
    (row : List ℕ) × (rest : List ℕ) × (text ≡ row ++ rest) × IsRowOf item row × AreRows IsRowOf items rest

-- their rows come behind the text that was there
abbrev pub AddsRows : {A : Type 0} → (A → (row : List ℕ) → Type 0) → List A → (before after : List ℕ) → Type 0
AddsRows IsRowOf items before after = (rows : List ℕ) × (after ≡ before ++ rows) × AreRows IsRowOf items rows

-- ---- a listing

-- all prefixes, and then all objects
abbrev pub IsListingText : (recursive : Bool) → Gathered → (text : List ℕ) → Type 0
IsListingText recursive gathered text =
    (front : List ℕ) × (back : List ℕ) × (text ≡ front ++ back)
    × AreRows (IsPrefixRow recursive) gathered.prefixes front × AreRows (IsObjectRow recursive) gathered.entries back
