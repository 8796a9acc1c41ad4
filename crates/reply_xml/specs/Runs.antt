-- Runs of bytes of one sort, each as long as it can be.
use Rattle.std.specs.Prelude.{◌≡◌, ◌==◌, ◌&&◌, ◌||◌, ⊤, ℕ, Bool, false, not, nat_le, List, [], ◌∷◌, ◌++◌}
use Rattle.std.specs.List.{AllPass}
use Rattle.reply_xml.specs.declared.runs.Sort.{Sort}
use Rattle.reply_xml.specs.declared.runs.Sort.TheVariants as sort

-- S (XML 1.0, production 3)
abbrev pub is_space : ℕ → Bool
is_space byte = byte == 32 || (byte == 9 || (byte == 10 || byte == 13))

abbrev pub is_between : ℕ → ℕ → ℕ → Bool
is_between least most byte = nat_le least byte && nat_le byte most

-- the bytes of names: letters, digits, `_`, `-`, `.` and `:`
abbrev pub is_name_byte : ℕ → Bool
is_name_byte byte =
    is_between 97 122 byte
    || (is_between 65 90 byte || (is_between 48 58 byte || (byte == 45 || (byte == 46 || byte == 95))))

-- the bytes of a sort; text ends at `<`, and the value of an attribute at its quote or at `<`
abbrev pub is_of : Sort → ℕ → Bool
is_of sort.Space byte = is_space byte
is_of sort.Name byte = is_name_byte byte
is_of sort.Text byte = not (byte == 60)
is_of (sort.Value quote) byte = not (byte == 60 || byte == quote)

-- the bytes do not begin with one that passes
abbrev pub BeginsOutside : (ℕ → Bool) → List ℕ → Type 0
BeginsOutside test [] = ⊤
BeginsOutside test (byte ∷ bytes) = test byte ≡ false

-- the longest run of the sort at the front of the bytes, and what follows it
pub record ReadsRun (of : Sort) (run bytes rest : List ℕ) : Type 0 where
  pub split : bytes ≡ run ++ rest
  pub inside : AllPass (is_of of) run
  pub ends : BeginsOutside (is_of of) rest

-- no `&` stands in the bytes, with which a reference begins
abbrev pub HasNoReference : List ℕ → Type 0
HasNoReference bytes = AllPass (λ byte. not (byte == 38)) bytes
