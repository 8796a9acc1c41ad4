-- A set of bits where one of them changes.
use Rattle.std.proofs.Common.{◌≡◌, ◌≢◌, ◌∙◌, ◌<◌, ◌+◌, ◌*◌, ◌/◌, ◌%◌, ◌^◌, ◌==◌, ℕ, Bool, true, false, not, List, get_or, set, length, replicate, Some, None, zero, suc, refl, sym, ap, arith, inl, inr, length-set, if◌then◌else◌, take, drop, ◌++◌}
use Rattle.std.proofs.lemmas.Grind.{common_steps}
use Rattle.std.specs.Int.{bit_at}
use Rattle.std.specs.List.{position, position_or_len}
use Rattle.std.proofs.lemmas.Bool.{cases_eq, cases_lt, eq-eqb, ne_eqb, lt-ltb, le-ltb}
use Rattle.std.proofs.lemmas.List.{get_or-set_same, get_or-set_other, get_or-replicate, get_or_past, length-replicate}
use Rattle.std.proofs.lemmas.List.FromFn.{fill_by_all, get_or-map-range_with_len, length-map-range_with_len}
use Rattle.std.proofs.lemmas.List.Sums.{position_or_len_is}
use Rattle.std.proofs.lemmas.Nat.Bits.{bit_at-zero}
use Rattle.number_sets.specs.Members.{AreNone, IsFirstUsed, IsSummed, flags, has_bit, is_set}
use Rattle.shared_lemmas.proofs.Clashes.{clash}

-- ---- one bit

same_choice : (n k : ℕ) (is other : Bool) → n ≡ k → is ≡ (if n == k then is else other)
same_choice n k is other e = rw (eq-eqb n k e) refl

other_choice : (n k : ℕ) (is other : Bool) → n ≢ k → other ≡ (if n == k then is else other)
other_choice n k is other e = rw (ne_eqb n k e) refl

-- the word of a number takes this value, whose other bits are as before
pub put_bit : (words : List ℕ) (k n value : ℕ) (is : Bool) → k / 64 < length words → (bit_at value (k % 64) == 1) ≡ is
    → ((i : ℕ) → i < 64 → i ≢ k % 64 → bit_at value i ≡ bit_at (get_or words (k / 64) 0) i)
    → has_bit (set words (k / 64) value) n ≡ (if n == k then is else has_bit words n)
put_bit words k n value is inside at others = elim (cases_eq n k) [
  | inl e ↦ rw e (rw (get_or-set_same words (k / 64) value 0 inside) at) ∙ same_choice n k is (has_bit words n) e
  | inr other ↦ elim (cases_eq (n / 64) (k / 64)) [
    | inl e ↦ rw e (rw (get_or-set_same words (k / 64) value 0 inside) (ap (λ (b : ℕ). b == 1) (others (n % 64) (omega arith) (λ r. other (omega arith)))))
        ∙ ap (λ (j : ℕ). bit_at (get_or words j 0) (n % 64) == 1) (sym e) ∙ other_choice n k is (has_bit words n) other
    | inr far ↦ ap (λ (word : ℕ). bit_at word (n % 64) == 1) (get_or-set_other words (k / 64) (n / 64) value 0 far) ∙ other_choice n k is (has_bit words n) other
  ]
]

-- ---- the set

pub length_flags : (words : List ℕ) (count : ℕ) → length (flags words count) ≡ count
length_flags words count = length-map-range_with_len (λ n. has_bit words n) 0 count

at : (words : List ℕ) (count k : ℕ) → k < count → get_or (flags words count) k false ≡ has_bit words k
at words count k below = get_or-map-range_with_len (λ n. has_bit words n) 0 count k k false below (omega arith)

pub put_flag : (words after : List ℕ) (count k : ℕ) (is : Bool) → k < count
    → ((n : ℕ) → has_bit after n ≡ (if n == k then is else has_bit words n)) → flags after count ≡ set (flags words count) k is
put_flag words after count k is inside bits =
    sym (fill_by_all (λ n. has_bit after n) (set (flags words count) k is) count false (rw length-set (length_flags words count)) each)
  where
    each : (n : ℕ) → n < count → get_or (set (flags words count) k is) n false ≡ has_bit after n
    each n below = elim (cases_eq n k) [
      | inl e ↦ rw e (get_or-set_same (flags words count) k is false (rw (length_flags words count) inside))
          ∙ same_choice n k is (has_bit words n) e ∙ sym (bits n)
      | inr other ↦ get_or-set_other (flags words count) k n is false other ∙ at words count n below
          ∙ other_choice n k is (has_bit words n) other ∙ sym (bits n)
    ]

pub put_summed : (count k : ℕ) (words after summary summed : List ℕ) (is : Bool) → k < count → IsSummed count words summary
    → length after ≡ length words → length summed ≡ length summary
    → ((n : ℕ) → has_bit after n ≡ (if n == k then is else has_bit words n))
    → ((j : ℕ) → j ≢ k / 64 → get_or after j 0 ≡ get_or words j 0)
    → ((j : ℕ) → has_bit summed j ≡ (if j == k / 64 then not (get_or after (k / 64) 0 == 0) else has_bit summary j))
    → IsSummed count after summed
put_summed count k words after summary summed is inside s same same_summary bits others sums = record {
  small = s.small;
  long = let h = s.long in omega arith;
  summary_long = let h = s.summary_long in omega arith;
  below = λ n member. elim (cases_eq n k) [
    | inl e ↦ omega arith
    | inr other ↦ s.below n (other_choice n k is (has_bit words n) other ∙ sym (bits n) ∙ member)
  ];
  summed = λ j. elim (cases_eq j (k / 64)) [
    | inl e ↦ sums j ∙ sym (same_choice j (k / 64) (not (get_or after (k / 64) 0 == 0)) (has_bit summary j) e) ∙ ap (λ (w : ℕ). not (get_or after w 0 == 0)) (sym e)
    | inr other ↦ sums j ∙ sym (other_choice j (k / 64) (not (get_or after (k / 64) 0 == 0)) (has_bit summary j) other) ∙ s.summed j
        ∙ ap (λ (v : ℕ). not (v == 0)) (sym (others j other))
  ];
}

-- ---- the empty set

no_bit : (count n : ℕ) → has_bit (replicate count 0) n ≡ false
no_bit count n = elim (cases_lt (n / 64) count) [
  | inl below ↦ rw (get_or-replicate {A = ℕ} count (n / 64) 0 0 below) (ap (λ (b : ℕ). b == 1) (bit_at-zero (n % 64)))
  | inr past ↦ rw (get_or_past {X = ℕ} (replicate count 0) (n / 64) 0 (rw (length-replicate {A = ℕ} count 0) past)) (ap (λ (b : ℕ). b == 1) (bit_at-zero (n % 64)))
]

pub no_flags : (long count : ℕ) → flags (replicate long 0) count ≡ replicate count false
no_flags long count =
    sym (fill_by_all (λ n. has_bit (replicate long 0) n) (replicate count false) count false (length-replicate count false)
    (λ k below. get_or-replicate count k false false below ∙ sym (no_bit long k)))

no_word : (long j : ℕ) → get_or {A = ℕ} (replicate long 0) j 0 ≡ 0
no_word long j = elim (cases_lt j long) [
  | inl below ↦ get_or-replicate {A = ℕ} long j 0 0 below
  | inr past ↦ get_or_past {X = ℕ} (replicate long 0) j 0 (rw (length-replicate {A = ℕ} long 0) past)
]

pub none_summed : (count long : ℕ) → count < 2 ^ 32 → long ≡ count / 64 + 1 → IsSummed count (replicate long 0) (replicate (long / 64 + 1) 0)
none_summed count long small is = record {
  small = small;
  long = length-replicate long 0 ∙ is;
  summary_long = length-replicate (long / 64 + 1) 0 ∙ ap (λ (n : ℕ). n / 64 + 1) (sym (length-replicate long 0));
  below = λ n member. (clash (sym (no_bit long n) ∙ member));
  summed = λ j. no_bit (long / 64 + 1) j ∙ sym (ap (λ (v : ℕ). not (v == 0)) (no_word long j));
}

-- ---- the least member

-- the lowest bit of a word is the least member, where the words before it have none
pub is_lowest : (words : List ℕ) (index t : ℕ) → t < 64 → bit_at (get_or words index 0) t ≡ 1 → has_bit words (index * 64 + t) ≡ true
is_lowest words index t within one =
    let word : (index * 64 + t) / 64 ≡ index = omega arith in
    let bit : (index * 64 + t) % 64 ≡ t = omega arith in
    rw (word, bit) (ap (λ (b : ℕ). b == 1) one)

pub none_lower : (words : List ℕ) (index t : ℕ) → t < 64 → ((j : ℕ) → j < index → get_or words j 0 ≡ 0)
    → ((i : ℕ) → i < t → bit_at (get_or words index 0) i ≡ 0) → AreNone words (index * 64 + t)
none_lower words index t within before zeros n below = elim (cases_lt (n / 64) index) [
  | inl less ↦ rw (before (n / 64) less) (ap (λ (b : ℕ). b == 1) (bit_at-zero (n % 64)))
  | inr more ↦
      let word : n / 64 ≡ index = omega arith in
      ap (λ (j : ℕ). bit_at (get_or words j 0) (n % 64) == 1) word ∙ ap (λ (b : ℕ). b == 1) (zeros (n % 64) (omega arith))
]

-- a word is used where the summary says so
used : (v : ℕ) → not (v == 0) ≡ true → 0 < v
used zero e = (clash e)
used (suc v) e = omega arith

unused : (v : ℕ) → not (v == 0) ≡ false → v ≡ 0
unused zero e = refl
unused (suc v) e = (clash (sym e ∙ ap not (ne_eqb (suc v) 0 (λ is. omega arith))))

pub first_word : (count : ℕ) (words summary : List ℕ) (index : ℕ) → IsSummed count words summary → has_bit summary index ≡ true → AreNone summary index
    → IsFirstUsed words index
first_word count words summary index s is none = record {
  inside = elim (cases_lt index (length words)) [
    | inl below ↦ below
    | inr past ↦ absurd (omega (arith, used (get_or words index 0) (sym (s.summed index) ∙ is), get_or_past words index 0 past))
  ];
  some = used (get_or words index 0) (sym (s.summed index) ∙ is);
  before = λ j below. unused (get_or words j 0) (sym (s.summed j) ∙ none j below);
}

pub finds : (words : List ℕ) (count n : ℕ) → n < count → has_bit words n ≡ true → AreNone words n → Some n ≡ position is_set (flags words count)
finds words count n inside member none =
    let long = length_flags words count in
    let place : position_or_len is_set (flags words count) ≡ n =
    position_or_len_is is_set (flags words count) n false (rw long (omega arith)) (λ k below. at words count k (omega arith) ∙ none k below) (λ _. at words count n inside ∙ member) in
    rw (place, long, lt-ltb n count inside) refl

pub finds_none : (words : List ℕ) (count : ℕ) → ((n : ℕ) → has_bit words n ≡ false) → None ≡ position is_set (flags words count)
finds_none words count none =
    let long = length_flags words count in
    let place : position_or_len is_set (flags words count) ≡ count =
    position_or_len_is is_set (flags words count) count false (rw long (omega arith)) (λ k below. at words count k below ∙ none k) (λ inside. absurd (omega (arith, long))) in
    rw (place, long, le-ltb count count (omega arith)) refl

pub no_word_used : (count : ℕ) (words summary : List ℕ) → IsSummed count words summary → ((j : ℕ) → has_bit summary j ≡ false) → (n : ℕ) → has_bit words n ≡ false
no_word_used count words summary s none n =
    rw (unused (get_or words (n / 64) 0) (sym (s.summed (n / 64)) ∙ none (n / 64))) (ap (λ (b : ℕ). b == 1) (bit_at-zero (n % 64)))

-- ---- a vector whose items were written over

pub written : (long : ℕ) (after items : List ℕ) → length after ≡ long → take long (after ++ drop (length after) items) ≡ after
written long after items is = grind (arith, common_steps)

pub is_below : (words : List ℕ) (count number : ℕ) (seen : List Bool) → flags words count ≡ seen → number < length seen → number < count
is_below words count number seen is below = let long = length_flags words count in let same = ap (λ (bs : List Bool). length bs) is in omega arith

-- ---- the set of all numbers

pub all_members : (members : List Bool) (count : ℕ) → length members ≡ count → ((k : ℕ) → k < count → get_or members k false ≡ true) → members ≡ replicate count true
all_members members count long each =
    fill_by_all (λ _. true) members count false long each
    ∙ sym (fill_by_all (λ _. true) (replicate count true) count false (length-replicate count true) (λ k below. get_or-replicate count k true false below))
