-- Sets of numbers as bits: number n is bit n % 64 of word n / 64.
use Rattle.std.specs.Prelude.{◌≡◌, ◌<◌, ◌+◌, ◌/◌, ◌%◌, ◌^◌, ◌==◌, ℕ, Bool, true, false, not, List, get_or, length, map}
use Rattle.std.specs.Int.{bit_at}
use Rattle.std.specs.List.{range_with_len}

abbrev pub is_set : Bool → Bool
is_set flag = flag

abbrev pub has_bit : List ℕ → ℕ → Bool
has_bit words n = bit_at (get_or words (n / 64) 0) (n % 64) == 1

-- for each number below the bound whether it is a member
abbrev pub flags : List ℕ → (count : ℕ) → List Bool
flags words count = map (λ n. has_bit words n) (range_with_len 0 count)

-- no number below that one is a member
abbrev pub AreNone : List ℕ → ℕ → Type 0
AreNone words number = (n : ℕ) → n < number → has_bit words n ≡ false

-- the word at that index is the first that has a member
pub record IsFirstUsed (words : List ℕ) (index : ℕ) : Type 0 where
  pub inside : index < length words
  pub some : 0 < get_or words index 0
  pub before : (j : ℕ) → j < index → get_or words j 0 ≡ 0

-- There is a bit for each number, none from the bound on is a member, and the bits of the summary are those of the words
-- that have a member.
pub record IsSummed (count : ℕ) (words summary : List ℕ) : Type 0 where
  pub small : count < 2 ^ 32
  pub long : length words ≡ count / 64 + 1
  pub summary_long : length summary ≡ length words / 64 + 1
  pub below : (n : ℕ) → has_bit words n ≡ true → n < count
  pub summed : (word : ℕ) → has_bit summary word ≡ not (get_or words word 0 == 0)
