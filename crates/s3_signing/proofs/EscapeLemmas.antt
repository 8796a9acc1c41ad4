-- The escape sets of the code keep the bytes that the definitions keep.
use Rattle.std.proofs.Common.{◌≡◌, ◌<◌, ◌≤◌, ◌++◌, ◌∷◌, ◌&&◌, ◌||◌, ℕ, Bool, true, false, not, cond, zero, suc, List, [], ap, sym, refl, ⊎_elim, eqb, arith}
use Rattle.std.proofs.lemmas.Bool.{and_parts, cases_eq, cases_lt}
use Rattle.std.proofs.lemmas.Bool.Decides.{nat_tests}
use Rattle.percent_encoding.specs.declared.ascii_set.AsciiSet.{AsciiSet}
use Rattle.percent_encoding.specs.AsciiSet.{contains, should_percent_encode}
use Rattle.percent_encoding.specs.Percent.{percent_encode, percent_encode_byte}
use Rattle.s3_signing.specs.declared.escapes.TheConstants.{PATH, QUERY}
use Rattle.s3_signing.specs.Signing.{encode_but, encode_path, encode_query, is_unreserved}

abbrev pub all_below : (ℕ → Bool) → ℕ → Bool
all_below test zero = true
all_below test (suc n) = test n && all_below test n

checked : (test : ℕ → Bool) (n : ℕ) → all_below test n ≡ true → (k : ℕ) → k < n → test k ≡ true
checked test zero all k below = absurd (omega arith)
checked test (suc n) all k below =
    ⊎_elim (λ last. rw last (and_parts _ _ all).0) (λ other. checked test n (and_parts _ _ all).1 k (omega arith)) (cases_eq k n)

-- of two tests one passes and the other does not
abbrev pub differ : Bool → Bool → Bool
differ true b = not b
differ false b = b

opposite : (a b : Bool) → differ a b ≡ true → a ≡ not b
opposite true true e = sym e
opposite true false e = refl
opposite false true e = refl
opposite false false e = e

-- a set escapes the ASCII bytes that are not kept, and no byte outside ASCII is kept
pub record Escapes (set : AsciiSet) (kept : ℕ → Bool) : Type 0 where
  pub ascii : all_below (λ b. differ (contains set b) (kept b)) 128 ≡ true
  pub high : (b : ℕ) → 128 ≤ b → kept b ≡ false

escapes_byte : (set : AsciiSet) (kept : ℕ → Bool) → Escapes set kept → (b : ℕ) → should_percent_encode set b ≡ not (kept b)
unfolding should_percent_encode
escapes_byte set kept h b =
    ⊎_elim (λ low. let here = opposite (contains set b) (kept b) (checked (λ x. differ (contains set x) (kept x)) 128 h.ascii b low) in rw here (grind (arith, nat_tests)))
    (λ high. rw (h.high b high) (grind (arith, nat_tests))) (cases_lt b 128)

choice : (b : ℕ) (should keep : Bool) → should ≡ not keep → cond should (percent_encode_byte b) (b ∷ []) ≡ cond keep (b ∷ []) (percent_encode_byte b)
choice b should true e = rw e refl
choice b should false e = rw e refl

pub percent_encode_is : (set : AsciiSet) (kept : ℕ → Bool) → Escapes set kept → (text : List ℕ) → percent_encode set text ≡ encode_but kept text
unfolding percent_encode
percent_encode_is set kept h [] = refl
percent_encode_is set kept h (b ∷ rest) =
    rw (choice b (should_percent_encode set b) (kept b) (escapes_byte set kept h b)) (ap (λ t. cond (kept b) (b ∷ []) (percent_encode_byte b) ++ t) (percent_encode_is set kept h rest))

query_set : Escapes QUERY is_unreserved
query_set = record { ascii = refl; high = λ b h. grind (arith, nat_tests) }

path_set : Escapes PATH (λ b. is_unreserved b || eqb b 47)
path_set = record { ascii = refl; high = λ b h. grind (arith, nat_tests) }

pub encode_query_is : (text : List ℕ) → percent_encode QUERY text ≡ encode_query text
unfolding encode_query
encode_query_is text = percent_encode_is QUERY is_unreserved query_set text

pub encode_path_is : (text : List ℕ) → percent_encode PATH text ≡ encode_path text
unfolding encode_path
encode_path_is text = percent_encode_is PATH (λ b. is_unreserved b || eqb b 47) path_set text
