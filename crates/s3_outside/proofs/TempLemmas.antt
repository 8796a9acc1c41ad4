-- Paths of temporary files.
use Rattle.std.proofs.Common.{◌≡◌, ◌∙◌, ◌==◌, ◌||◌, ◌++◌, ◌<◌, ◌+◌, ◌-◌, ℕ, zero, suc, Bool, true, false, List, [], ◌∷◌, None, Result, Ok, Err, get_or, length, take, drop, codes, refl, sym, ap, subst, arith, if◌then◌else◌}
use Rattle.std.specs.Prelude.{IfOk}
use Rattle.std.specs.List.{AllPass, list_any, list_all}
use Rattle.std.specs.Str.Pattern.{RFindsChar, SplitsAroundMatch}
use Rattle.std.proofs.Math.Seq.{split_at}
use Rattle.std.proofs.lemmas.Bool.{and_from, and_parts, eqb-true, false≢true, le-leb, or_from, or_right}
use Rattle.std.proofs.lemmas.List.{append_assoc, length-append, drop_at, take_at}
use Rattle.std.proofs.lemmas.List.Sums.{AllPass-from_list_all, list_all-from_AllPass}
use Rattle.std.proofs.lemmas.List.Folds.{list_all-append}
use Rattle.std.proofs.lemmas.Slice.Eq.{bytes_eq-Decides}
use Rattle.std.proofs.lemmas.Str.Pattern.{NoCharPasses-char}
use Rattle.s3_model.specs.TempNames.{is_lower_hex, is_temp_ending, is_temp_name}
use Rattle.local_files.specs.Calls.{IsTempFor, folder_of}
use Rattle.s3_outside.specs.FileCalls.{IsStem, IsTempPath}
use Rattle.shared_lemmas.proofs.Tests.{or_false}

abbrev is_slash : ℕ → Bool
is_slash byte = byte == 47

apart_from : (byte : ℕ) → (byte ≡ 47 → ⊥) → is_slash byte ≡ false
apart_from byte other = grind arith

slashless : (bytes : List ℕ) → ((k : ℕ) → k < length bytes → get_or bytes k 0 ≡ 47 → ⊥) → list_any is_slash bytes ≡ false
slashless [] none = refl
slashless (byte ∷ bytes) none = or_from (is_slash byte) (list_any is_slash bytes) (apart_from byte (none 0 (omega arith))) (slashless bytes (λ k inside. none (suc k) (omega arith)))

has_slash : (front back : List ℕ) → list_any is_slash (front ++ 47 ∷ back) ≡ true
has_slash [] back = refl
has_slash (byte ∷ front) back = or_right (is_slash byte) (list_any is_slash (front ++ 47 ∷ back)) (has_slash front back)

folder_none : (path : List ℕ) → list_any is_slash path ≡ false → folder_of path ≡ []
folder_none [] none = refl
folder_none (byte ∷ path) none = ap (λ (b : Bool). if b then byte ∷ folder_of path else []) none

folder_at : (front back : List ℕ) → list_any is_slash back ≡ false → folder_of (front ++ 47 ∷ back) ≡ front ++ 47 ∷ []
folder_at [] back none = ap (λ (bytes : List ℕ). 47 ∷ bytes) (folder_none back none)
folder_at (byte ∷ front) back none =
    ap (λ (b : Bool). if b then byte ∷ folder_of (front ++ 47 ∷ back) else []) (has_slash (byte ∷ front) back)
    ∙ ap (λ (bytes : List ℕ). byte ∷ bytes) (folder_at front back none)

-- ---- a path cut at its last `/`

pub none_slashless : (path : List ℕ) → RFindsChar 47 path None → list_any is_slash path ≡ false
none_slashless path none = slashless path (λ k inside same. NoCharPasses-char 47 path k none (omega arith) inside same)

record IsCutAt (path front back : List ℕ) : Type 0 where
  whole : path ≡ front ++ 47 ∷ back
  none : list_any is_slash back ≡ false

cut_at : (path front back : List ℕ) → SplitsAroundMatch (RFindsChar 47) path front back → IsCutAt path front back
cut_at path front back (i, j, found, is_front, is_back, le, at, rest) = record {
  whole = split_at path i 0 inside ∙ ap (λ (bytes : List ℕ). bytes ++ get_or path i 0 ∷ drop (suc i) path) (sym is_front)
      ∙ ap (λ (byte : ℕ). front ++ byte ∷ drop (suc i) path) (found.1.byte (omega arith))
      ∙ ap (λ (bytes : List ℕ). front ++ 47 ∷ bytes) (ap (λ (n : ℕ). drop n path) next ∙ sym is_back);
  none = ap (list_any is_slash) is_back ∙ none_slashless (drop j path) found.0;
}
  where
    next : suc i ≡ j
    next = omega (arith, found.1.ends)

    inside : i < length path
    inside = omega (arith, next, rest)

-- ---- the path of a temporary file

module _ (stem digits : List ℕ) (eight : length digits ≡ 8) (hex : AllPass is_lower_hex digits) where
  pub below_folder : (dest front name temp : List ℕ) → SplitsAroundMatch (RFindsChar 47) dest front name → IsStem name stem → temp ≡ front ++ (codes "/" ++ (stem ++ (codes "." ++ (digits ++ codes ".s3part")))) → IsTempPath dest temp
  below_folder dest front name temp splits is_stem is =
      let cut = cut_at dest front name splits in
      let folder : folder_of dest ≡ front ++ 47 ∷ [] = ap folder_of cut.whole ∙ folder_at front name cut.none in
      let rest : drop (length (folder_of dest)) dest ≡ name = ap (λ (bytes : List ℕ). drop (length bytes) dest) folder ∙ ap (drop (length (front ++ 47 ∷ []))) (cut.whole ∙ sym (simp append_assoc)) ∙ drop_at (front ++ 47 ∷ []) name _ refl in
      record {
        stem = stem;
        digits = digits;
        path = is ∙ sym (ap (λ (bytes : List ℕ). bytes ++ stem ++ codes "." ++ digits ++ codes ".s3part") folder ∙ simp append_assoc);
        cut = subst (λ (bytes : List ℕ). IsStem bytes stem) (sym rest) is_stem;
        eight = eight;
        hex = hex;
      }

  pub without_folder : (dest temp : List ℕ) → RFindsChar 47 dest None → IsStem dest stem → temp ≡ stem ++ (codes "." ++ (digits ++ codes ".s3part")) → IsTempPath dest temp
  without_folder dest temp none is_stem is =
      let folder : folder_of dest ≡ [] = folder_none dest (none_slashless dest none) in
      record {
        stem = stem;
        digits = digits;
        path = is ∙ sym (ap (λ (bytes : List ℕ). bytes ++ stem ++ codes "." ++ digits ++ codes ".s3part") folder ∙ simp append_assoc);
        cut = subst (λ (bytes : List ℕ). IsStem bytes stem) (sym (ap (λ (bytes : List ℕ). drop (length bytes) dest) folder)) is_stem;
        eight = eight;
        hex = hex;
      }

-- ---- it stands in its destination's folder, with a name of its own kind

any_append : (front back : List ℕ) → list_any is_slash (front ++ back) ≡ (list_any is_slash front || list_any is_slash back)
any_append [] back = refl
any_append (byte ∷ front) back = ap (λ (b : Bool). is_slash byte || b) (any_append front back) ∙ sym (or_assoc (is_slash byte) (list_any is_slash front) (list_any is_slash back))
  where
    or_assoc : (a b c : Bool) → ((a || b) || c) ≡ (a || (b || c))
    or_assoc true b c = refl
    or_assoc false b c = refl

any_each : (byte : ℕ) (path : List ℕ) → list_any is_slash (folder_of path) ≡ list_any is_slash path → (b : Bool) → list_any is_slash (byte ∷ path) ≡ b → list_any is_slash (if b then byte ∷ folder_of path else []) ≡ b
any_each byte path same true e = ap (λ (c : Bool). is_slash byte || c) same ∙ e
any_each byte path same false e = refl

any_folder : (path : List ℕ) → list_any is_slash (folder_of path) ≡ list_any is_slash path
any_folder [] = refl
any_folder (byte ∷ path) = any_each byte path (any_folder path) (list_any is_slash (byte ∷ path)) refl

again_each : (byte : ℕ) (path tail : List ℕ) → list_any is_slash tail ≡ false → folder_of (folder_of path ++ tail) ≡ folder_of path → (b : Bool) → list_any is_slash (byte ∷ path) ≡ b
    → folder_of ((if b then byte ∷ folder_of path else []) ++ tail) ≡ (if b then byte ∷ folder_of path else [])
again_each byte path tail none again true e =
    let some : list_any is_slash (byte ∷ (folder_of path ++ tail)) ≡ true =
    ap (λ (c : Bool). is_slash byte || c) (any_append (folder_of path) tail ∙ ap (λ (c : Bool). c || list_any is_slash tail) (any_folder path) ∙ ap (λ (c : Bool). list_any is_slash path || c) none ∙ or_false (list_any is_slash path)) ∙ e in
    ap (λ (c : Bool). if c then byte ∷ folder_of (folder_of path ++ tail) else []) some ∙ ap (λ (bytes : List ℕ). byte ∷ bytes) again
again_each byte path tail none again false e = folder_none tail none

folder_again : (path tail : List ℕ) → list_any is_slash tail ≡ false → folder_of (folder_of path ++ tail) ≡ folder_of path
folder_again [] tail none = folder_none tail none
folder_again (byte ∷ path) tail none = again_each byte path tail none (folder_again path tail none) (list_any is_slash (byte ∷ path)) refl

name_each : (byte : ℕ) (path : List ℕ) → list_any is_slash (drop (length (folder_of path)) path) ≡ false → (b : Bool) → list_any is_slash (byte ∷ path) ≡ b → list_any is_slash (drop (length (if b then byte ∷ folder_of path else [])) (byte ∷ path)) ≡ false
name_each byte path rest true e = rest
name_each byte path rest false e = e

name_none : (path : List ℕ) → list_any is_slash (drop (length (folder_of path)) path) ≡ false
name_none [] = refl
name_none (byte ∷ path) = name_each byte path (name_none path) (list_any is_slash (byte ∷ path)) refl

take_none : (n : ℕ) (path : List ℕ) → list_any is_slash path ≡ false → list_any is_slash (take n path) ≡ false
take_none zero path none = refl
take_none (suc n) [] none = refl
take_none (suc n) (byte ∷ path) none = both (is_slash byte) (list_any is_slash path) none (take_none n path)
  where
    both : (a b : Bool) → (a || b) ≡ false → (b ≡ false → list_any is_slash (take n path) ≡ false) → (a || list_any is_slash (take n path)) ≡ false
    both true b h f = h
    both false b h f = f h

hex_each : (byte : ℕ) → is_lower_hex byte ≡ true → (b : Bool) → is_slash byte ≡ b → b ≡ false
hex_each byte hex true e = absurd (false≢true (sym (ap is_lower_hex (eqb-true byte 47 e)) ∙ hex))
hex_each byte hex false e = refl

hex_apart : (byte : ℕ) → is_lower_hex byte ≡ true → is_slash byte ≡ false
hex_apart byte hex = hex_each byte hex (is_slash byte) refl

hex_none : (digits : List ℕ) → list_all is_lower_hex digits ≡ true → list_any is_slash digits ≡ false
hex_none [] hex = refl
hex_none (byte ∷ digits) hex = let parts = and_parts (is_lower_hex byte) (list_all is_lower_hex digits) hex in or_from (is_slash byte) (list_any is_slash digits) (hex_apart byte parts.0) (hex_none digits parts.1)

named_temp : (stem digits name : List ℕ) → name ≡ stem ++ codes "." ++ digits ++ codes ".s3part" → length digits ≡ 8 → AllPass is_lower_hex digits → is_temp_name name ≡ true
named_temp stem digits name is eight hex =
    let ending = 46 ∷ (digits ++ codes ".s3part") in
    let whole : name ≡ stem ++ ending = is ∙ simp append_assoc in
    let long : length name ≡ length stem + 16 = ap length whole ∙ omega (arith, length-append {A = ℕ}) in
    let cut : drop (length name - 16) name ≡ ending = ap (λ n. drop n name) (omega arith) ∙ ap (drop (length stem)) whole ∙ drop_at stem ending _ refl in
    let digits_is : take 8 (digits ++ codes ".s3part") ≡ digits = take_at digits _ 8 eight in
    let suffix_is : drop 8 (digits ++ codes ".s3part") ≡ codes ".s3part" = drop_at digits _ 8 eight in
    let ends : is_temp_ending ending ≡ true = and_from _ _ (and_from _ _ refl (ap (list_all is_lower_hex) digits_is ∙ list_all-from_AllPass is_lower_hex digits hex)) ((bytes_eq-Decides _ _).1 suffix_is) in
    and_from _ _ (le-leb _ _ (omega arith)) (ap is_temp_ending cut ∙ ends)

pub temp_for : (dest temp : List ℕ) → IsTempPath dest temp → (temp ≡ dest → ⊥) → IsTempFor dest temp
temp_for dest temp is apart =
    let tail = is.stem ++ (codes "." ++ (is.digits ++ codes ".s3part")) in
    let none : list_any is_slash tail ≡ false =
    any_append is.stem (codes "." ++ (is.digits ++ codes ".s3part")) ∙ or_from (list_any is_slash is.stem) (list_any is_slash (is.digits ++ codes ".s3part")) (ap (list_any is_slash) is.cut.front ∙ take_none is.cut.count (drop (length (folder_of dest)) dest) (name_none dest)) (any_append is.digits (codes ".s3part") ∙ or_from (list_any is_slash is.digits) false (hex_none is.digits (list_all-from_AllPass is_lower_hex is.digits is.hex)) refl) in
    let whole : temp ≡ folder_of dest ++ tail = is.path ∙ simp append_assoc in
    (apart, ap folder_of whole ∙ folder_again dest tail none, named_temp (folder_of dest ++ is.stem) is.digits temp is.path is.eight is.hex)

-- ---- digits

both_hex : (xs ys : List ℕ) → AllPass is_lower_hex xs → AllPass is_lower_hex ys → AllPass is_lower_hex (xs ++ ys)
both_hex xs ys hx hy =
    AllPass-from_list_all is_lower_hex (xs ++ ys) (list_all-append is_lower_hex xs ys ∙ and_from (list_all is_lower_hex xs) (list_all is_lower_hex ys) (list_all-from_AllPass is_lower_hex xs hx) (list_all-from_AllPass is_lower_hex ys hy))

pub hex_all : (a b c d e f g h : List ℕ) → AllPass is_lower_hex a → AllPass is_lower_hex b → AllPass is_lower_hex c → AllPass is_lower_hex d → AllPass is_lower_hex e → AllPass is_lower_hex f → AllPass is_lower_hex g → AllPass is_lower_hex h
    → AllPass is_lower_hex (a ++ (b ++ (c ++ (d ++ (e ++ (f ++ (g ++ (h ++ []))))))))
hex_all a b c d e f g h pa pb pc pd pe pf pg ph =
    both_hex a _ pa (both_hex b _ pb (both_hex c _ pc (both_hex d _ pd (both_hex e _ pe (both_hex f _ pf (both_hex g _ pg (both_hex h [] ph (AllPass-from_list_all is_lower_hex [] refl))))))))

-- what follows of a value that came
pub if_ok : {A E : Type 0} {P Q : A → Type 0} (r : Result A E) → ((a : A) → P a → Q a) → IfOk r P → IfOk r Q
if_ok (Ok a) f h = f a h
if_ok (Err e) f h = tt
