-- The paths below a folder, as the keys of a map between two texts.
use Rattle.file_table.proofs.Fronts.{ends_slash, ends_split}
use Rattle.file_table.proofs.Keys.{decided}
use Rattle.text_maps.proofs.TextMaps.{keys-text_map}
use Rattle.file_table.specs.Below.{AreEnds}
use Rattle.text_maps.specs.TextMap.{text_map}
use Rattle.s3_model.specs.Files.{ends_in_slash, folder_path, is_below}
use Rattle.std.proofs.Common.{◌≡◌, ◌∙◌, ◌++◌, ◌&&◌, ◌||◌, ◌<◌, ℕ, Bool, true, false, not, cond, List, [], ◌∷◌, Option, Some, None, MatchOption, String, string_bytes, map, filter, nat_eq, if◌then◌else◌, refl, sym, ap, inl, inr, arith}
use Rattle.std.specs.BTreeMap as tree
use Rattle.std.specs.BTreeMap.Range.{range_contains}
use Rattle.std.specs.Cmp.Lexicographic.{slice_cmp}
use Rattle.std.specs.FinMap.{keys}
use Rattle.std.specs.List.{list_any, starts_with}
use Rattle.std.specs.Option.{is_some}
use Rattle.std.specs.Ordering.{MatchOrdering, is_gt, is_le, nat_cmp, ordering_then}
use Rattle.std.specs.String.{string_cmp}
use Rattle.std.specs.declared.cmp.Ordering.{Ordering}
use Rattle.std.specs.declared.ops.Bound.TheVariants.{Included, Excluded}
use Rattle.std.proofs.lemmas.Bool.Decides.{nat_tests}
use Rattle.std.proofs.lemmas.Cmp.{nat_cmp_total, ranked, tied_itself}

-- ---- between two texts

-- whether a text stands between two, by how they compare with it
abbrev between : Ordering → Ordering → Bool
between first last = is_le first && not (is_le last)

-- the last byte decides
at_last : (byte : ℕ) (rest first last : Ordering) → is_le rest ≡ true → MatchOrdering first (47 < byte) (47 ≡ byte) (byte < 47) → MatchOrdering last (48 < byte) (48 ≡ byte) (byte < 48)
    → between (ordering_then first rest) (ordering_then last rest) ≡ (nat_eq 47 byte && true)
at_last byte rest first last le a b = grind (arith, nat_tests)

starts_least : (path : List ℕ) → is_le (slice_cmp nat_cmp [] path) ≡ true
starts_least [] = refl
starts_least (byte ∷ path) = refl

-- a byte before it decides, or those that follow
at_byte : (a b : ℕ) (o first last : Ordering) (rest : Bool) → MatchOrdering o (a < b) (a ≡ b) (b < a) → between first last ≡ rest → between (ordering_then o first) (ordering_then o last) ≡ (nat_eq a b && rest)
at_byte a b o first last rest m e = grind (arith, nat_tests)

starts_between : (stem path : List ℕ) → between (slice_cmp nat_cmp (stem ++ 47 ∷ []) path) (slice_cmp nat_cmp (stem ++ 48 ∷ []) path) ≡ starts_with nat_eq path (stem ++ 47 ∷ [])
starts_between [] [] = refl
starts_between [] (byte ∷ path) = at_last byte (slice_cmp nat_cmp [] path) (nat_cmp 47 byte) (nat_cmp 48 byte) (starts_least path) (ranked 47 byte _ refl) (ranked 48 byte _ refl)
starts_between (s ∷ stem) [] = refl
starts_between (s ∷ stem) (byte ∷ path) =
    at_byte s byte (nat_cmp s byte) (slice_cmp nat_cmp (stem ++ 47 ∷ []) path) (slice_cmp nat_cmp (stem ++ 48 ∷ []) path) (starts_with nat_eq path (stem ++ 47 ∷ [])) (ranked s byte _ refl) (starts_between stem path)

forward : (stem : List ℕ) → is_gt (slice_cmp nat_cmp (stem ++ 47 ∷ []) (stem ++ 48 ∷ [])) ≡ false
forward [] = refl
forward (byte ∷ stem) = ap (λ (o : Ordering). is_gt (ordering_then o (slice_cmp nat_cmp (stem ++ 47 ∷ []) (stem ++ 48 ∷ [])))) (tied_itself nat_cmp_total byte) ∙ forward stem

-- ---- the stem of a folder

pub stem_ended : (folder stem : List ℕ) → folder ≡ stem ++ 47 ∷ [] → folder_path folder ≡ stem ++ 47 ∷ []
stem_ended folder stem e = ap folder_path e ∙ ap (λ (b : Bool). if b then (stem ++ 47 ∷ []) else ((stem ++ 47 ∷ []) ++ 47 ∷ [])) (ends_slash stem)

pub stem_open : (folder : List ℕ) → ((front : List ℕ) → folder ≡ front ++ 47 ∷ [] → ⊥) → folder_path folder ≡ folder ++ 47 ∷ []
stem_open folder never =
    elim (decided (ends_in_slash folder)) [
      | inl closed ↦ let found = ends_split folder closed in absurd (never found.0 found.1)
      | inr unclosed ↦ ap (λ (b : Bool). if b then folder else (folder ++ 47 ∷ [])) unclosed
    ]

-- ---- the keys of a map

abbrev some_left : {X : Type 0} → List X → Bool
some_left [] = false
some_left (x ∷ xs) = true

any_left : {K V : Type 0} (p q : K → Bool) → ((k : K) → p k ≡ q k) → (es : List (K × V)) → some_left (filter (λ e. p e.0) es) ≡ list_any q (map (λ e. e.0) es)
any_left p q same [] = refl
any_left p q same (e ∷ es) = by (p e.0) refl (any_left p q same es)
  where
    by : (b : Bool) → p e.0 ≡ b → some_left (filter (λ e. p e.0) es) ≡ list_any q (map (λ e. e.0) es)
        → some_left (cond b (e ∷ filter (λ e. p e.0) es) (filter (λ e. p e.0) es)) ≡ (q e.0 || list_any q (map (λ e. e.0) es))
    by true is rest = ap (λ (b : Bool). b || list_any q (map (λ e. e.0) es)) (sym is ∙ same e.0)
    by false is rest = rest ∙ ap (λ (b : Bool). b || list_any q (map (λ e. e.0) es)) (sym is ∙ same e.0)

first_left : {A X : Type 0} (shows : A → X) (rest : List X) (r : Option A) (t : List X) → MatchOption r ((rest ≡ []) × (t ≡ [])) (λ x. rest ≡ shows x ∷ t) → is_some r ≡ some_left rest
first_left shows rest None t takes = sym (ap some_left takes.0)
first_left shows rest (Some x) t takes = sym (ap some_left takes)

kept_keys : {Y V : Type 0} (p : String Y → Bool) (q : List ℕ → Bool) → ((k : String Y) → p k ≡ q (string_bytes k)) → (es : List (String Y × V))
    → map (λ e. string_bytes e.0) (filter (λ e. p e.0) es) ≡ filter q (map string_bytes (map (λ e. e.0) es))
kept_keys p q same [] = refl
kept_keys p q same (e ∷ es) = by (p e.0) refl (kept_keys p q same es)
  where
    by : (b : Bool) → p e.0 ≡ b → map (λ e. string_bytes e.0) (filter (λ e. p e.0) es) ≡ filter q (map string_bytes (map (λ e. e.0) es)) → map (λ e. string_bytes e.0) (cond b (e ∷ filter (λ e. p e.0) es) (filter (λ e. p e.0) es))
        ≡ cond (q (string_bytes e.0)) (string_bytes e.0 ∷ filter q (map string_bytes (map (λ e. e.0) es))) (filter q (map string_bytes (map (λ e. e.0) es)))
    by true is rest =
        ap (λ (ks : List (List ℕ)). string_bytes e.0 ∷ ks) rest
        ∙ ap (λ (b : Bool). cond b (string_bytes e.0 ∷ filter q (map string_bytes (map (λ e. e.0) es))) (filter q (map string_bytes (map (λ e. e.0) es)))) (sym is ∙ same e.0)
    by false is rest =
        rest
        ∙ ap (λ (b : Bool). cond b (string_bytes e.0 ∷ filter q (map string_bytes (map (λ e. e.0) es))) (filter q (map string_bytes (map (λ e. e.0) es)))) (sym is ∙ same e.0)

module _ {Y : Type 0} (folder : List ℕ) (first last : String Y) (ends : AreEnds folder (string_bytes first) (string_bytes last)) where
  abbrev inside : String Y → Bool
  inside key = range_contains string_cmp (Included first) (Excluded last) key

  inside_is : (key : String Y) → inside key ≡ is_below folder (string_bytes key)
  inside_is key =
      ap (λ (bytes : List ℕ). between (slice_cmp nat_cmp bytes (string_bytes key)) (slice_cmp nat_cmp (string_bytes last) (string_bytes key))) ends.begins
      ∙ ap (λ (bytes : List ℕ). between (slice_cmp nat_cmp (ends.stem ++ 47 ∷ []) (string_bytes key)) (slice_cmp nat_cmp bytes (string_bytes key))) ends.ends
      ∙ starts_between ends.stem (string_bytes key)
      ∙ ap (λ (front : List ℕ). starts_with nat_eq (string_bytes key) front) (sym ends.path)

  pub ends_forward : is_gt (string_cmp first last) ≡ false
  ends_forward =
      ap (λ (bytes : List ℕ). is_gt (slice_cmp nat_cmp bytes (string_bytes last))) ends.begins
      ∙ ap (λ (bytes : List ℕ). is_gt (slice_cmp nat_cmp (ends.stem ++ 47 ∷ []) bytes)) ends.ends
      ∙ forward ends.stem

  -- one stands between the ends exactly where one is below the folder
  pub first_between : {V A : Type 0} (m : tree.BTreeMap (String Y) V) (shows : A → String Y × V) (rest t : List (String Y × V)) (r : Option A) → rest ≡ filter (λ e. inside e.0) m.entries
      → MatchOption r ((rest ≡ []) × (t ≡ [])) (λ x. rest ≡ shows x ∷ t) → is_some r ≡ list_any (λ k. is_below folder (string_bytes k)) (tree.keys m)
  first_between m shows rest t r is takes = first_left shows rest r t takes ∙ ap some_left is ∙ any_left inside (λ k. is_below folder (string_bytes k)) inside_is m.entries

  -- the keys between the ends
  pub keys_between : {V : Type 0} (m : tree.BTreeMap (String Y) V) (rest : List (String Y × V)) → tree.IsOrdered string_cmp m → rest ≡ filter (λ e. inside e.0) m.entries
      → map (λ e. string_bytes e.0) rest ≡ filter (is_below folder) (keys (text_map m.entries))
  keys_between m rest ordered is =
      ap (map (λ e. string_bytes e.0)) is ∙ kept_keys inside (is_below folder) inside_is m.entries ∙ ap (filter (is_below folder)) (sym (keys-text_map m ordered))
