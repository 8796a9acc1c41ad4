-- Names in ascending order: those of a map, and two lists with the same members.
use Rattle.shared_lemmas.proofs.Maps.{text_exact}
use Rattle.shared_lemmas.proofs.Members.{Has, has-filter, has-map, kept, mapped, passes}
use Rattle.merged_names.proofs.Orders.{behind_prefix, greater}
use Rattle.std.proofs.Common.{◌≡◌, ◌∙◌, ◌++◌, ◌||◌, ◌&&◌, ◌≤◌, ◌⊎◌, ℕ, Bool, true, false, cond, T, List, [], ◌∷◌, Option, Some, None, length, map, filter, drop, nat_eq, refl, sym, ap, subst, inl, inr, arith}
use Rattle.std.specs.Prelude.{IsSome}
use Rattle.std.specs.Cmp.{eq_by_cmp_equiv, nat_eq_equiv}
use Rattle.std.specs.Cmp.Lexicographic.{slice_cmp, nat_list_cmp_total}
use Rattle.std.specs.FinMap.{contains_key-keys, entries, entries_sorted, get, keys}
use Rattle.std.specs.FinMap.Entries.{below_all, is_sorted}
use Rattle.std.specs.List.{AllByRecursion, list_any, starts_with}
use Rattle.std.specs.List.Sorted.{IsStrictlySortedBy}
use Rattle.std.specs.Option.{is_some}
use Rattle.std.specs.Ordering.{eq_by_cmp, is_eq, is_lt, nat_cmp}
use Rattle.std.specs.declared.cmp.Ordering.{Ordering}
use Rattle.std.specs.declared.cmp.Ordering.TheVariants.{Less, Equal, Greater}
use Rattle.std.proofs.Math.Seq.{drop-append_seam}
use Rattle.std.proofs.lemmas.Bool.{and_parts, and_from, eqb-true}
use Rattle.std.proofs.lemmas.Cmp.{tied_itself}
use Rattle.s3_model.specs.Entries.{IsAscending}
use Rattle.s3_model.specs.Files.{FileStore, folder_path, is_below, tree}
use Rattle.s3_model.specs.Maps.{MapOf}
use Rattle.tree_walk.specs.Trees.{path_at}

abbrev AllAbove : List ℕ → List (List ℕ) → Type 0
AllAbove first names = AllByRecursion (λ (name : List ℕ). slice_cmp nat_cmp first name ≡ Less) names

abbrev Rise : List (List ℕ) → Type 0
Rise [] = Unit {0}
Rise (name ∷ names) = AllAbove name names × Rise names

rise : (names : List (List ℕ)) → IsAscending names → Rise names
unfolding IsStrictlySortedBy
rise [] h = tt
rise (name ∷ names) h = (h.0, rise names h.1)

ascend : (names : List (List ℕ)) → Rise names → IsAscending names
unfolding IsStrictlySortedBy
ascend [] h = tt
ascend (name ∷ names) h = (h.0, ascend names h.1)

-- ---- lists with the same members

above_of : (first : List ℕ) (names : List (List ℕ)) (name : List ℕ) → AllAbove first names → Has names name → slice_cmp nat_cmp first name ≡ Less
above_of first [] name all h = absurd h
above_of first (n ∷ names) name all (inl same) = subst (λ (x : List ℕ). slice_cmp nat_cmp first x ≡ Less) same all.0
above_of first (n ∷ names) name all (inr h) = above_of first names name all.1 h

less_equal : (o : Ordering) → o ≡ Less → o ≡ Equal → ⊥
less_equal o l e = cc

less_greater : (o : Ordering) → o ≡ Less → o ≡ Greater → ⊥
less_greater o l g = cc

not_above_itself : (x y : List ℕ) → x ≡ y → slice_cmp nat_cmp x y ≡ Less → ⊥
not_above_itself x y same less = less_equal _ (subst (λ (z : List ℕ). slice_cmp nat_cmp x z ≡ Less) (sym same) less) (tied_itself nat_list_cmp_total x)

not_both_ways : (x y : List ℕ) → slice_cmp nat_cmp x y ≡ Less → slice_cmp nat_cmp y x ≡ Less → ⊥
not_both_ways x y first second = less_greater _ second (greater x y first)

tail_into : (x y : List ℕ) (xs ys : List (List ℕ)) → y ≡ x → AllAbove x xs → ((z : List ℕ) → Has (x ∷ xs) z → Has (y ∷ ys) z) → (z : List ℕ) → Has xs z → Has ys z
tail_into x y xs ys same above into z h =
    elim (into z (inr h)) [
      | inl here ↦ absurd (not_above_itself x z (sym same ∙ here) (above_of x xs z above h))
      | inr rest ↦ rest
    ]

-- a list whose first name is above that of another list with all its names has them in the tail
past_first : (x y : List ℕ) (xs ys : List (List ℕ)) → AllAbove x xs → AllAbove y ys → Has ys x → ((z : List ℕ) → Has (x ∷ xs) z → Has (y ∷ ys) z) → (z : List ℕ) → Has (x ∷ xs) z → Has ys z
past_first x y xs ys above others later into z h =
    elim (into z h) [
      | inr rest ↦ rest
      | inl here ↦ absurd (elim h [
        | inl same ↦ not_above_itself y x (here ∙ sym same) (above_of y ys x others later)
        | inr there ↦ not_both_ways x y (subst (λ (w : List ℕ). slice_cmp nat_cmp x w ≡ Less) (sym here) (above_of x xs z above there)) (above_of y ys x others later)
      ])
    ]

risen_fewer : (xs ys : List (List ℕ)) → Rise xs → Rise ys → ((z : List ℕ) → Has xs z → Has ys z) → length xs ≤ length ys
risen_fewer [] ys first second into = omega arith
risen_fewer (x ∷ xs) [] first second into = absurd (into x (inl refl))
risen_fewer (x ∷ xs) (y ∷ ys) first second into =
    elim (into x (inl refl)) [
      | inl same ↦ let rest = risen_fewer xs ys first.1 second.1 (tail_into x y xs ys same first.0 into) in omega arith
      | inr later ↦ let rest = risen_fewer (x ∷ xs) ys first second.1 (past_first x y xs ys first.0 second.0 later into) in omega arith
    ]

risen_same : (xs ys : List (List ℕ)) → Rise xs → Rise ys → ((z : List ℕ) → Has xs z → Has ys z) → ((z : List ℕ) → Has ys z → Has xs z) → xs ≡ ys
risen_same [] [] first second into back = refl
risen_same [] (y ∷ ys) first second into back = absurd (back y (inl refl))
risen_same (x ∷ xs) [] first second into back = absurd (into x (inl refl))
risen_same (x ∷ xs) (y ∷ ys) first second into back =
    elim (into x (inl refl)) [
      | inl same ↦
          ap (λ (z : List ℕ). z ∷ xs) (sym same)
          ∙ ap (λ (zs : List (List ℕ)). y ∷ zs) (risen_same xs ys first.1 second.1 (tail_into x y xs ys same first.0 into) (tail_into y x ys xs (sym same) second.0 back))
      | inr later ↦ absurd (elim (back y (inl refl)) [
        | inl same ↦ not_above_itself y x (sym same) (above_of y ys x second.0 later)
        | inr there ↦ not_both_ways x y (above_of x xs y first.0 there) (above_of y ys x second.0 later)
      ])
    ]

pub no_more : (xs ys : List (List ℕ)) → IsAscending xs → IsAscending ys → ((z : List ℕ) → Has xs z → Has ys z) → length xs ≤ length ys
no_more xs ys first second into = risen_fewer xs ys (rise xs first) (rise ys second) into

pub same_names : (xs ys : List (List ℕ)) → IsAscending xs → IsAscending ys → ((z : List ℕ) → Has xs z → Has ys z) → ((z : List ℕ) → Has ys z → Has xs z) → xs ≡ ys
same_names xs ys first second into back = risen_same xs ys (rise xs first) (rise ys second) into back

-- ---- the keys of a map

less_of : (o : Ordering) → T (is_lt o) → o ≡ Less
less_of Less h = refl
less_of Equal h = absurd h
less_of Greater h = absurd h

both : (a b : Bool) → T (a && b) → T a × T b
both true b h = (tt, h)
both false b h = absurd h

above_entries : {V : Type 0} (key : List ℕ) (es : List (List ℕ × V)) → T (below_all (slice_cmp nat_cmp) key es) → AllAbove key (map (λ e. e.0) es)
above_entries key [] h = tt
above_entries key (e ∷ es) h = let parts = both _ _ h in (less_of _ parts.0, above_entries key es parts.1)

entries_rise : {V : Type 0} (es : List (List ℕ × V)) → T (is_sorted (slice_cmp nat_cmp) es) → Rise (map (λ e. e.0) es)
entries_rise [] h = tt
entries_rise (e ∷ es) h = let parts = both _ _ h in (above_entries e.0 es parts.0, entries_rise es parts.1)

is_some_from : {V : Type 0} (found : Option V) → IsSome found → is_some found ≡ true
is_some_from (Some v) h = h
is_some_from None h = h

some_from : {V : Type 0} (found : Option V) → is_some found ≡ true → IsSome found
some_from (Some v) h = h
some_from None h = h

same_key : (q k : List ℕ) → eq_by_cmp (slice_cmp nat_cmp) q k ≡ true → q ≡ k
same_key q k e = text_exact q k (equal_of _ e)
  where
    equal_of : (o : Ordering) → is_eq o ≡ true → o ≡ Equal
    equal_of Less h = absurd (cc)
    equal_of Equal h = refl
    equal_of Greater h = absurd (cc)

or_cases : (a b : Bool) → (a || b) ≡ true → (a ≡ true) ⊎ (b ≡ true)
or_cases true b h = inl refl
or_cases false b h = inr h

or_left : (a b : Bool) → a ≡ true → (a || b) ≡ true
or_left true b h = refl
or_left false b h = absurd (cc)

or_right : (a b : Bool) → b ≡ true → (a || b) ≡ true
or_right true b h = refl
or_right false b h = h

listed : (q : List ℕ) (ks : List (List ℕ)) → list_any (eq_by_cmp (slice_cmp nat_cmp) q) ks ≡ true → Has ks q
listed q [] h = absurd (cc)
listed q (k ∷ ks) h = elim (or_cases _ _ h) [ inl e ↦ inl (sym (same_key q k e)) | inr rest ↦ inr (listed q ks rest) ]

is_listed : (q : List ℕ) (ks : List (List ℕ)) → Has ks q → list_any (eq_by_cmp (slice_cmp nat_cmp) q) ks ≡ true
is_listed q [] h = absurd h
is_listed q (k ∷ ks) (inl same) = or_left _ _ (subst (λ (x : List ℕ). eq_by_cmp (slice_cmp nat_cmp) q x ≡ true) (sym same) ((eq_by_cmp_equiv nat_list_cmp_total).refl q))
is_listed q (k ∷ ks) (inr h) = or_right (eq_by_cmp (slice_cmp nat_cmp) q k) _ (is_listed q ks h)

module _ {V : Type 0} (m : MapOf V) where
  pub keys_ascend : IsAscending (keys m)
  keys_ascend = ascend _ (entries_rise (entries m) (entries_sorted m))

  pub key_is : (q : List ℕ) → IsSome (get m q) → Has (keys m) q
  key_is q some = listed q (keys m) (sym (contains_key-keys m q) ∙ is_some_from (get m q) some)

  pub is_key : (q : List ℕ) → Has (keys m) q → IsSome (get m q)
  is_key q h = some_from (get m q) (contains_key-keys m q ∙ is_listed q (keys m) h)

-- ---- the paths below a root

starts_split : (path front : List ℕ) → starts_with nat_eq path front ≡ true → path ≡ front ++ drop (length front) path
starts_split path [] h = refl
starts_split [] (f ∷ front) h = absurd (cc)
starts_split (p ∷ path) (f ∷ front) h =
    let parts = and_parts (nat_eq f p) (starts_with nat_eq path front) h in
    ap (λ (b : ℕ). b ∷ path) (sym (eqb-true _ _ parts.0)) ∙ ap (λ (bytes : List ℕ). f ∷ bytes) (starts_split path front parts.1)

starts_front : (front rest : List ℕ) → starts_with nat_eq (front ++ rest) front ≡ true
starts_front [] rest = refl
starts_front (f ∷ front) rest = and_from _ _ (nat_eq_equiv.refl f) (starts_front front rest)

-- all begin with a text
abbrev Begin : List ℕ → List (List ℕ) → Type 0
Begin front names = AllByRecursion (λ (name : List ℕ). starts_with nat_eq name front ≡ true) names

kept_above : (first : List ℕ) (test : List ℕ → Bool) (names : List (List ℕ)) → AllAbove first names → AllAbove first (filter test names)
kept_above first test [] all = tt
kept_above first test (name ∷ names) all = which (test name) (kept_above first test names all.1)
  where
    which : (b : Bool) → AllAbove first (filter test names) → AllAbove first (cond b (name ∷ filter test names) (filter test names))
    which true rest = (all.0, rest)
    which false rest = rest

kept_rise : (test : List ℕ → Bool) (names : List (List ℕ)) → Rise names → Rise (filter test names)
kept_rise test [] h = tt
kept_rise test (name ∷ names) h = which (test name) (kept_rise test names h.1)
  where
    which : (b : Bool) → Rise (filter test names) → Rise (cond b (name ∷ filter test names) (filter test names))
    which true rest = (kept_above name test names h.0, rest)
    which false rest = rest

kept_begin : (front : List ℕ) (names : List (List ℕ)) → Begin front (filter (λ (name : List ℕ). starts_with nat_eq name front) names)
kept_begin front [] = tt
kept_begin front (name ∷ names) = which (starts_with nat_eq name front) refl (kept_begin front names)
  where
    which : (b : Bool) → starts_with nat_eq name front ≡ b → Begin front (filter (λ (name : List ℕ). starts_with nat_eq name front) names)
        → Begin front (cond b (name ∷ filter (λ (name : List ℕ). starts_with nat_eq name front) names) (filter (λ (name : List ℕ). starts_with nat_eq name front) names))
    which true e rest = (e, rest)
    which false e rest = rest

module _ (front : List ℕ) where
  abbrev cut : List ℕ → List ℕ
  cut = drop (length front)

  cut_order : (x y : List ℕ) → starts_with nat_eq x front ≡ true → starts_with nat_eq y front ≡ true → slice_cmp nat_cmp x y ≡ slice_cmp nat_cmp (cut x) (cut y)
  cut_order x y first second =
      ap (λ (z : List ℕ). slice_cmp nat_cmp z y) (starts_split x front first)
      ∙ ap (slice_cmp nat_cmp (front ++ cut x)) (starts_split y front second)
      ∙ behind_prefix front (cut x) (cut y)

  cut_above : (x : List ℕ) (names : List (List ℕ)) → starts_with nat_eq x front ≡ true → Begin front names → AllAbove x names → AllAbove (cut x) (map cut names)
  cut_above x [] first begin all = tt
  cut_above x (name ∷ names) first begin all = (sym (cut_order x name first begin.0) ∙ all.0, cut_above x names first begin.1 all.1)

  cut_rise : (names : List (List ℕ)) → Begin front names → Rise names → Rise (map cut names)
  cut_rise [] begin h = tt
  cut_rise (name ∷ names) begin h = (cut_above name names begin.0 begin.1 h.0, cut_rise names begin.1 h.1)

module _ (store : FileStore) (root : List ℕ) where
  pub tree_ascends : IsAscending (tree store root)
  tree_ascends =
      ascend _ (cut_rise (folder_path root) _ (kept_begin (folder_path root) (keys store.held)) (kept_rise _ (keys store.held) (rise _ (keys_ascend store.held))))

  pub in_tree : (path : List ℕ) → IsSome (get store.held (path_at root path)) → Has (tree store root) path
  in_tree path some =
      subst (λ (p : List ℕ). Has (tree store root) p) (drop-append_seam (folder_path root) path)
      (has-map (drop (length (folder_path root))) (filter (is_below root) (keys store.held)) (path_at root path)
      (has-filter (is_below root) (keys store.held) (path_at root path) (starts_front (folder_path root) path) (key_is store.held _ some)))

  pub of_tree : (path : List ℕ) → Has (tree store root) path → IsSome (get store.held (path_at root path))
  of_tree path h =
      let from = mapped (drop (length (folder_path root))) (filter (is_below root) (keys store.held)) path h in
      let below = passes (is_below root) (keys store.held) from.0 from.1 in
      subst (λ (p : List ℕ). IsSome (get store.held p)) (starts_split from.0 (folder_path root) below ∙ ap (λ (rest : List ℕ). folder_path root ++ rest) from.2) (is_key store.held from.0 (kept (is_below root) (keys store.held) from.0 from.1))
