-- Names in a folder: what a path shows, and what stands in a table.
use Rattle.file_table.proofs.Fronts.{below_cases, front_below, starts_front}
use Rattle.file_table.proofs.Keys.{any_key, key_any, or_cases, or_left, or_right}
use Rattle.shared_lemmas.proofs.Clashes.{none_is_some, some_is}
use Rattle.shared_lemmas.proofs.Maps.{get-insert_same, get-insert_other, text_decided, text_exact}
use Rattle.std.proofs.Common.{◌≡◌, ◌∙◌, ◌==◌, ◌⊎◌, ◌||◌, ◌&&◌, ◌++◌, ◌+◌, ◌<◌, ◌≤◌, ◌↔◌, ℕ, zero, suc, Bool, true, false, T, List, [], ◌∷◌, Option, Some, None, IsSome, Result, Ok, Err, Contains, length, take, drop, get_or, map, slice_get, refl, sym, ap, subst, inl, inr, arith}
use Rattle.std.specs.Cmp.{eq_by_cmp_equiv}
use Rattle.std.specs.Cmp.Lexicographic.{slice_cmp, nat_list_cmp_total}
use Rattle.std.specs.FinMap.{contains_key-keys, empty, entries, entries_sorted, get, get-empty, insert, keys}
use Rattle.std.specs.FinMap.Entries.{below_all, is_sorted}
use Rattle.std.specs.List.{list_any}
use Rattle.std.specs.Prelude.{IfOk, OnOk}
use Rattle.std.specs.Option.{is_some}
use Rattle.std.specs.Ordering.{eq_by_cmp, is_eq, is_lt, nat_cmp}
use Rattle.std.specs.declared.cmp.Ordering.{Ordering}
use Rattle.std.specs.declared.cmp.Ordering.TheVariants.{Less, Equal, Greater}
use Rattle.std.proofs.lemmas.Bool.{eqb-true}
use Rattle.std.proofs.lemmas.List.{append_assoc, append_cancel_left, append-nil, drop_more, length-append, take-append-drop}
use Rattle.std.proofs.lemmas.Str.Pattern.{NoCharPasses-char}
use Rattle.std.specs.Str.Pattern.{FindsChar, SplitsAroundMatch}
use Rattle.std.proofs.lemmas.Map.Views.{list_any-from_Contains, Contains-from_any}
use Rattle.s3_model.specs.Files.{FileStore, folder_path, is_below, is_listed}
use Rattle.s3_model.specs.Maps.{MapOf}
use Rattle.file_table.specs.Names.{IsFirst, IsNamedIn}
use Rattle.local_files.specs.Names.{AreNames, IsName, IsThere}

-- ---- truth values and options

-- ---- texts without `/`

abbrev is_slash : ℕ → Bool
is_slash byte = byte == 47

slash_there : (bytes rest : List ℕ) → list_any is_slash (47 ∷ bytes) ≡ false → ⊥
slash_there bytes rest h = cc

pub first_part : (a b : List ℕ) (byte : ℕ) → list_any is_slash (byte ∷ a) ≡ false → (byte ≡ 47 → ⊥) × (list_any is_slash a ≡ false)
first_part a b byte h = (λ e. slash_there a b (subst (λ (x : ℕ). list_any is_slash (x ∷ a) ≡ false) e h), rest (is_slash byte) h)
  where
    rest : (t : Bool) → (t || list_any is_slash a) ≡ false → list_any is_slash a ≡ false
    rest true e = absurd (cc)
    rest false e = e

-- the end of a path, or the end of a name in it
abbrev IsEnd : List ℕ → Type 0
IsEnd rest = (rest ≡ []) ⊎ ((more : List ℕ) × (rest ≡ 47 ∷ more))

cons_is : (a b : ℕ) (xs ys : List ℕ) → a ∷ xs ≡ b ∷ ys → (a ≡ b) × (xs ≡ ys)
cons_is a b xs ys e = (cc, cc)

end_byte : (byte : ℕ) (bytes rest : List ℕ) → IsEnd rest → rest ≡ byte ∷ bytes → byte ≡ 47
end_byte byte bytes rest (inl none) e = absurd (nothing (sym none ∙ e))
  where
    nothing : [] ≡ byte ∷ bytes → ⊥
    nothing h = cc
end_byte byte bytes rest (inr more) e = sym (cons_is 47 byte more.0 bytes (sym more.1 ∙ e)).0

-- a text has one first name
pub same_name : (a b rest other : List ℕ) → list_any is_slash a ≡ false → list_any is_slash b ≡ false → IsEnd rest → IsEnd other → a ++ rest ≡ b ++ other → a ≡ b
same_name [] [] rest other na nb ends end e = refl
same_name [] (y ∷ b) rest other na nb ends end e = absurd ((first_part b b y nb).0 (end_byte y (b ++ other) rest ends e))
same_name (x ∷ a) [] rest other na nb ends end e = absurd ((first_part a a x na).0 (end_byte x (a ++ rest) other end (sym e)))
same_name (x ∷ a) (y ∷ b) rest other na nb ends end e =
    let parts = cons_is x y (a ++ rest) (b ++ other) e in
    let same = same_name a b rest other (first_part a a x na).1 (first_part b b y nb).1 ends end parts.1 in
    ap (λ (byte : ℕ). byte ∷ a) parts.0 ∙ ap (λ (bytes : List ℕ). y ∷ bytes) same

pub one_name : (folder path a b : List ℕ) → IsNamedIn folder a path → IsNamedIn folder b path → a ≡ b
one_name folder path a b (na, ra, ea, enda) (nb, rb, eb, endb) =
    same_name a b ra rb na.1 nb.1 enda endb (append_cancel_left (folder_path folder) (a ++ ra) (b ++ rb) (sym (append_assoc (folder_path folder) a ra) ∙ sym ea ∙ eb ∙ append_assoc (folder_path folder) b rb))

-- ---- the first part of a path

low_slash : (bytes : List ℕ) → ((k : ℕ) → k < length bytes → get_or bytes k 0 ≡ 47 → ⊥) → list_any is_slash bytes ≡ false
low_slash [] none = refl
low_slash (b ∷ bytes) none = both (is_slash b) (list_any is_slash bytes) (other b (none 0 (omega arith))) (low_slash bytes (λ k inside. none (suc k) (omega arith)))
  where
    other : (b : ℕ) → (b ≡ 47 → ⊥) → is_slash b ≡ false
    other b apart = grind arith

    both : (a c : Bool) → a ≡ false → c ≡ false → (a || c) ≡ false
    both true c h g = h
    both false c h g = g

pub first_none : (path : List ℕ) → FindsChar 47 path None → IsFirst path path
first_none path none = (low_slash path (λ k inside same. NoCharPasses-char 47 path k none (omega arith) inside same), [], sym (append-nil path), inl refl)

pub first_some : (path front back : List ℕ) → SplitsAroundMatch (FindsChar 47) path front back → IsFirst path front
first_some path front back (i, j, found, is_front, is_back, le, at, rest) = (
  ap (list_any is_slash) is_front ∙ low_slash (take i path) (λ k inside same. NoCharPasses-char 47 (take i path) k found.0 (omega arith) inside same),
  drop i path,
  sym (take-append-drop i path) ∙ ap (λ (bytes : List ℕ). bytes ++ drop i path) (sym is_front),
  inr (drop (i + 1) path, drop_more path i 0 inside ∙ ap (λ (b : ℕ). b ∷ drop (i + 1) path) (found.1.byte (omega arith))),
)
  where
    inside : i < length path
    inside = let ends = found.1.ends in omega arith

-- a path below a folder whose first part is empty shows no name
pub unnamed_empty : (folder path rest first : List ℕ) → path ≡ folder_path folder ++ rest → IsFirst rest first → first ≡ [] → (name : List ℕ) → IsNamedIn folder name path → ⊥
unnamed_empty folder path rest first below is none name (named, more, whole, end) =
    named.0 (same_name name first more is.1 named.1 is.0 end is.3 (append_cancel_left (folder_path folder) (name ++ more) (first ++ is.1) (sym (append_assoc (folder_path folder) name more) ∙ sym whole ∙ below ∙ ap (λ (bytes : List ℕ). folder_path folder ++ bytes) is.2)) ∙ none)

pub named_first : (folder path rest first : List ℕ) → path ≡ folder_path folder ++ rest → IsFirst rest first → (first ≡ [] → ⊥) → IsNamedIn folder first path
named_first folder path rest first below is some = ((some, is.0), is.1, below ∙ ap (λ (bytes : List ℕ). folder_path folder ++ bytes) is.2 ∙ sym (append_assoc (folder_path folder) first is.1), is.3)

-- a path that is not below a folder shows no name
pub unnamed_beside : (folder path : List ℕ) → ((rest : List ℕ) → path ≡ folder_path folder ++ rest → ⊥) → (name : List ℕ) → IsNamedIn folder name path → ⊥
unnamed_beside folder path never name (named, more, whole, end) = never (name ++ more) (whole ∙ append_assoc (folder_path folder) name more)

-- what follows a folder's path is a name, where it is its own first part
pub whole_first : (name first : List ℕ) → IsFirst name first → length name ≤ length first → first ≡ name
whole_first name first (none, rest, whole, end) long = sym (whole ∙ ap (λ (bytes : List ℕ). first ++ bytes) (nothing rest (let all = ap (λ (bytes : List ℕ). length bytes) whole in let parts = length-append first rest in omega arith)) ∙ append-nil first)
  where
    nothing : (bytes : List ℕ) → length bytes ≡ 0 → bytes ≡ []
    nothing [] e = refl
    nothing (b ∷ bytes) e = absurd (omega arith)

pub name_whole : (name first : List ℕ) → IsFirst name first → length name ≤ length first → list_any is_slash name ≡ false
name_whole name first is long = ap (list_any is_slash) (sym (whole_first name first is long)) ∙ is.0

pub not_whole : (name first other : List ℕ) → IsFirst name first → length first < length name → IsName other → name ≡ other → ⊥
not_whole name first other is short named same =
    let found : first ≡ other = same_name first other is.1 [] is.0 named.1 is.3 (inl refl) (sym is.2 ∙ same ∙ sym (append-nil other)) in
    shorter (ap (λ (bytes : List ℕ). length bytes) found) (ap (λ (bytes : List ℕ). length bytes) same)
  where
    shorter : length first ≡ length other → length name ≡ length other → ⊥
    shorter a b = omega arith

-- ---- a set of names, with one more

pub with_name : (found : MapOf Unit) (name : List ℕ) (unit : Unit) (q : List ℕ) → IsSome (get (insert found name unit) q) ↔ (IsSome (get found q) ⊎ (q ≡ name))
with_name found name unit q = (there, back)
  where
    there : IsSome (get (insert found name unit) q) → IsSome (get found q) ⊎ (q ≡ name)
    there h = elim (text_decided q name) [
      | inl same ↦ inr same
      | inr other ↦ inl (subst (λ (o : Option Unit). IsSome o) (get-insert_other nat_list_cmp_total text_exact found name unit q other) h)
    ]

    back : (IsSome (get found q) ⊎ (q ≡ name)) → IsSome (get (insert found name unit) q)
    back h = elim (text_decided q name) [
      | inl same ↦ subst (λ (o : Option Unit). IsSome o) (sym (ap (get (insert found name unit)) same ∙ get-insert_same nat_list_cmp_total text_exact found name unit)) refl
      | inr other ↦ elim h [
        | inl was ↦ subst (λ (o : Option Unit). IsSome o) (sym (get-insert_other nat_list_cmp_total text_exact found name unit q other)) was
        | inr same ↦ absurd (other same)
      ]
    ]

-- ---- the keys of a map stand once

first_true : (a b : Bool) → T (a && b) → T a
first_true true b h = tt
first_true false b h = h

second_true : (a b : Bool) → T (a && b) → T b
second_true true b h = h
second_true false b h = absurd h

not_below : (o : Ordering) → T (is_lt o) → is_eq o ≡ true → ⊥
not_below Less h e = cc
not_below Equal h e = h
not_below Greater h e = h

below_at : {V : Type 0} (k : List ℕ) (es : List (List ℕ × V)) → T (below_all (slice_cmp nat_cmp) k es) → (j : ℕ) → slice_get (map (λ e. e.0) es) j ≡ Some k → ⊥
below_at k [] h j e = none_is_some k e
below_at k (e ∷ es) h zero same =
    not_below (slice_cmp nat_cmp k e.0) (first_true (is_lt (slice_cmp nat_cmp k e.0)) (below_all (slice_cmp nat_cmp) k es) h) (ap (λ (x : List ℕ). eq_by_cmp (slice_cmp nat_cmp) k x) (some_is _ _ same) ∙ (eq_by_cmp_equiv nat_list_cmp_total).refl k)
below_at k (e ∷ es) h (suc j) same = below_at k es (second_true _ _ h) j same

once_in : {V : Type 0} (es : List (List ℕ × V)) → T (is_sorted (slice_cmp nat_cmp) es) → (i j : ℕ) (k : List ℕ) → slice_get (map (λ e. e.0) es) i ≡ Some k → slice_get (map (λ e. e.0) es) j ≡ Some k → i ≡ j
once_in [] h i j k a b = absurd (none_is_some k a)
once_in (e ∷ es) h zero zero k a b = refl
once_in (e ∷ es) h zero (suc j) k a b = absurd (below_at e.0 es (first_true _ _ h) j (b ∙ sym a))
once_in (e ∷ es) h (suc i) zero k a b = absurd (below_at e.0 es (first_true _ _ h) i (a ∙ sym b))
once_in (e ∷ es) h (suc i) (suc j) k a b = ap suc (once_in es (second_true _ _ h) i j k a b)

-- ---- what stands in a folder

-- a name behind a folder's path does not end in `/`
no_slash_end : (folder name front : List ℕ) → IsName name → folder ++ name ≡ front ++ 47 ∷ [] → ⊥
no_slash_end folder name front is e = slash_last (folder ++ name) front e (last_of folder name is)
  where
    last : List ℕ → ℕ
    last [] = 0
    last (b ∷ []) = b
    last (b ∷ c ∷ bs) = last (c ∷ bs)

    last_append : (xs : List ℕ) (y : ℕ) (ys : List ℕ) → last (xs ++ y ∷ ys) ≡ last (y ∷ ys)
    last_append [] y ys = refl
    last_append (x ∷ []) y ys = refl
    last_append (x ∷ z ∷ xs) y ys = last_append (z ∷ xs) y ys

    other : (b : ℕ) (bs : List ℕ) → list_any is_slash (b ∷ bs) ≡ false → last (b ∷ bs) ≡ 47 → ⊥
    other b [] none e = (first_part [] [] b none).0 e
    other b (c ∷ bs) none e = other c bs (first_part (c ∷ bs) [] b none).1 e

    last_of : (folder name : List ℕ) → IsName name → last (folder ++ name) ≡ 47 → ⊥
    last_of folder [] is e = is.0 refl
    last_of folder (b ∷ bs) is e = other b bs is.1 (sym (last_append folder b bs) ∙ e)

    slash_last : (all front : List ℕ) → all ≡ front ++ 47 ∷ [] → (last all ≡ 47 → ⊥) → ⊥
    slash_last all front e never = never (ap last e ∙ last_append front 47 [])

module _ (store : FileStore) (folder : List ℕ) (found : MapOf Unit)
    (has : (name : List ℕ) → IsSome (get found name) ↔ ((((key : List ℕ) × IsSome (get store.held key) × IsNamedIn folder name key)
    ⊎ (IsName name × (is_listed store.empty_folders (folder_path folder ++ name) ≡ true))) ⊎ (IsName name × (is_listed store.others (folder_path folder ++ name) ≡ true)))) where
  shown : (name : List ℕ) → IsSome (get found name) → IsName name × IsThere store (folder_path folder ++ name)
  shown name some =
      elim ((has name).0 some) [
        | inr other ↦ (other.0, inr (inr other.1))
        | inl rest ↦ elim rest [
          | inr empty ↦ (empty.0, inr (inl (or_right (list_any (is_below (folder_path folder ++ name)) (keys store.held)) (is_listed store.empty_folders (folder_path folder ++ name)) empty.1)))
          | inl held ↦ of_key held.0 held.1 held.2
        ]
      ]
    where
      of_key : (key : List ℕ) → IsSome (get store.held key) → IsNamedIn folder name key → IsName name × IsThere store (folder_path folder ++ name)
      of_key key there (is, rest, path, inl none) =
          (is, inl (subst (λ (k : List ℕ). IsSome (get store.held k)) (path ∙ ap (λ (bytes : List ℕ). folder_path folder ++ name ++ bytes) none ∙ append-nil (folder_path folder ++ name)) there))
      of_key key there (is, rest, path, inr more) =
          let split : key ≡ (folder_path folder ++ name) ++ 47 ∷ more.0 = path ∙ ap (λ (bytes : List ℕ). folder_path folder ++ name ++ bytes) more.1 in
          (is, inr (inl (or_left (list_any (is_below (folder_path folder ++ name)) (keys store.held)) (is_listed store.empty_folders (folder_path folder ++ name)) (key_any (is_below (folder_path folder ++ name)) store.held key (there) (ap (is_below (folder_path folder ++ name)) split ∙ front_below (folder_path folder ++ name) more.0)))))

  listed : (name : List ℕ) → IsName name × IsThere store (folder_path folder ++ name) → IsSome (get found name)
  listed name (is, inl held) = (has name).1 (inl (inl (folder_path folder ++ name, held, (is, [], sym (append-nil (folder_path folder ++ name)), inl refl))))
  listed name (is, inr (inr other)) = (has name).1 (inr (is, other))
  listed name (is, inr (inl in_folder)) =
      elim (or_cases (list_any (is_below (folder_path folder ++ name)) (keys store.held)) (is_listed store.empty_folders (folder_path folder ++ name)) in_folder) [
        | inr empty ↦ (has name).1 (inl (inr (is, empty)))
        | inl any ↦
            let key = any_key (is_below (folder_path folder ++ name)) store.held any in
            let cut = below_cases (folder_path folder ++ name) key.0 key.1 in
            elim cut.3 [
              | inr slash ↦ absurd (no_slash_end (folder_path folder) name cut.0 is slash)
              | inl same ↦ (has name).1 (inl (inl (key.0, key.2, (is, 47 ∷ cut.1, cut.2 ∙ ap (λ (bytes : List ℕ). bytes ++ 47 ∷ cut.1) (sym same), inr (cut.1, refl)))))
            ]
      ]

  key_there : (name : List ℕ) → Contains (keys found) name → IsSome (get found name)
  key_there name h = (contains_key-keys found name ∙ list_any-from_Contains (eq_by_cmp_equiv nat_list_cmp_total) name (keys found) h)

  there_key : (name : List ℕ) → IsSome (get found name) → Contains (keys found) name
  there_key name h = Contains-from_any text_equal name (keys found) (sym (contains_key-keys found name) ∙ h)
    where
      from_test : (o : Ordering) → is_eq o ≡ true → o ≡ Equal
      from_test Less e = absurd (cc)
      from_test Equal e = refl
      from_test Greater e = absurd (cc)

      text_equal : (x y : List ℕ) → eq_by_cmp (slice_cmp nat_cmp) x y ≡ true → x ≡ y
      text_equal x y e = text_exact x y (from_test _ e)

  pub are_names : AreNames store folder (keys found)
  are_names = record {
    there = λ name. (λ h. shown name (key_there name h), λ h. there_key name (listed name h));
    once = once_in (entries found) (entries_sorted found);
  }

-- ---- what single calls add

pub empty_text : (bytes : List ℕ) → (length bytes == 0) ≡ true → bytes ≡ []
empty_text [] h = refl
empty_text (b ∷ bytes) h = absurd (never (eqb-true (length (b ∷ bytes)) 0 h))
  where
    never : length (b ∷ bytes) ≡ 0 → ⊥
    never e = omega arith

pub on_ok : {A E : Type 0} {P Q : Type 0} (r : Result A E) → (P → Q) → OnOk r P → OnOk r Q
on_ok (Ok a) f h = f h
on_ok (Err e) f h = tt

-- a name that is shown is added, and no other is shown
pub name_added : (Shows : List ℕ → Type 0) (name : List ℕ) (found next : MapOf Unit) (unit : Unit) → next ≡ insert found name unit → Shows name → ((q : List ℕ) → Shows q → q ≡ name)
    → (q : List ℕ) → IsSome (get next q) ↔ (IsSome (get found q) ⊎ Shows q)
name_added Shows name found next unit is shown one q = (there, back)
  where
    there : IsSome (get next q) → IsSome (get found q) ⊎ Shows q
    there h = elim ((with_name found name unit q).0 (subst (λ (m : MapOf Unit). IsSome (get m q)) is h)) [
      | inl was ↦ inl was
      | inr same ↦ inr (subst Shows (sym same) shown)
    ]

    back : (IsSome (get found q) ⊎ Shows q) → IsSome (get next q)
    back h = subst (λ (m : MapOf Unit). IsSome (get m q)) (sym is) ((with_name found name unit q).1 (elim h [
      | inl was ↦ inl was
      | inr other ↦ inr (one q other)
    ]))

pub name_not_added : (Shows : List ℕ → Type 0) (found : MapOf Unit) → ((q : List ℕ) → Shows q → ⊥) → (q : List ℕ) → IsSome (get found q) ↔ (IsSome (get found q) ⊎ Shows q)
name_not_added Shows found never q = (λ h. inl h, λ h. elim h [ inl was ↦ was | inr shown ↦ absurd (never q shown) ])

-- ---- names and what is below a folder

below_path : (folder rest : List ℕ) → is_below folder (folder_path folder ++ rest) ≡ true
below_path folder rest = starts_front (folder_path folder) rest

pub named_below : (folder name path : List ℕ) → IsNamedIn folder name path → is_below folder path ≡ true
named_below folder name path (named, rest, is, ends) =
    ap (λ (p : List ℕ). is_below folder p) (is ∙ append_assoc (folder_path folder) name rest) ∙ below_path folder (name ++ rest)

pub direct_below : (folder name path : List ℕ) → IsName name × (path ≡ folder_path folder ++ name) → is_below folder path ≡ true
direct_below folder name path (named, is) = ap (λ (p : List ℕ). is_below folder p) is ∙ below_path folder name

pub one_direct : (folder path name q : List ℕ) → path ≡ folder_path folder ++ name → IsName q × (path ≡ folder_path folder ++ q) → q ≡ name
one_direct folder path name q is (named, at) = append_cancel_left (folder_path folder) q name (sym at ∙ is)

-- the path of a name is a key, or some key is the path
pub key_of_name : {V : Type 0} (m : MapOf V) (folder name : List ℕ) (Before After : Type 0)
    → After ↔ (Before ⊎ ((key : List ℕ) × IsSome (get m key) × (IsName name × (key ≡ folder_path folder ++ name)))) → After ↔ (Before ⊎ (IsName name × IsSome (get m (folder_path folder ++ name))))
key_of_name m folder name Before After (there, back) = (
  λ h. elim (there h) [ inl was ↦ inl was | inr (key, some, (named, is)) ↦ inr (named, subst (λ (k : List ℕ). IsSome (get m k)) is some) ],
  λ h. back (elim h [ inl was ↦ inl was | inr (named, some) ↦ inr (folder_path folder ++ name, some, (named, refl)) ]),
)

-- the same by a list whose paths are the keys
pub listed_name : (m : MapOf Unit) (paths : List (List ℕ)) (path : List ℕ) (Named Before After : Type 0) → is_some (get m path) ≡ is_listed paths path
    → After ↔ (Before ⊎ (Named × IsSome (get m path))) → After ↔ (Before ⊎ (Named × (is_listed paths path ≡ true)))
listed_name m paths path Named Before After index (there, back) = (
  λ h. elim (there h) [ inl was ↦ inl was | inr (named, some) ↦ inr (named, sym index ∙ some) ],
  λ h. back (elim h [ inl was ↦ inl was | inr (named, listed) ↦ inr (named, index ∙ listed) ]),
)

-- ---- the three sources of names

pub names_of : (store : FileStore) (folder : List ℕ) (none first second third : MapOf Unit) → none ≡ empty
    → ((name : List ℕ) → IsSome (get first name) ↔ (IsSome (get none name) ⊎ ((key : List ℕ) × IsSome (get store.held key) × IsNamedIn folder name key)))
    → ((name : List ℕ) → IsSome (get second name) ↔ (IsSome (get first name) ⊎ (IsName name × (is_listed store.empty_folders (folder_path folder ++ name) ≡ true))))
    → ((name : List ℕ) → IsSome (get third name) ↔ (IsSome (get second name) ⊎ (IsName name × (is_listed store.others (folder_path folder ++ name) ≡ true))))
    → AreNames store folder (keys third)
names_of store folder none first second third is a b c = are_names store folder third (λ name. (there name, back name))
  where
    nothing : (name : List ℕ) → IsSome (get none name) → ⊥
    nothing name h = false_true (sym (ap is_some (ap (λ (m : MapOf Unit). get m name) is ∙ get-empty (slice_cmp nat_cmp) name)) ∙ h)
      where
        false_true : false ≡ true → ⊥
        false_true e = cc

    there : (name : List ℕ) → IsSome (get third name) → (((key : List ℕ) × IsSome (get store.held key) × IsNamedIn folder name key) ⊎ (IsName name × (is_listed store.empty_folders (folder_path folder ++ name) ≡ true))) ⊎ (IsName name × (is_listed store.others (folder_path folder ++ name) ≡ true))
    there name h =
        elim ((c name).0 h) [
          | inr other ↦ inr other
          | inl two ↦ elim ((b name).0 two) [
            | inr folder_listed ↦ inl (inr folder_listed)
            | inl one ↦ elim ((a name).0 one) [ inl never ↦ absurd (nothing name never) | inr key ↦ inl (inl key) ]
          ]
        ]

    back : (name : List ℕ) → ((((key : List ℕ) × IsSome (get store.held key) × IsNamedIn folder name key) ⊎ (IsName name × (is_listed store.empty_folders (folder_path folder ++ name) ≡ true))) ⊎ (IsName name × (is_listed store.others (folder_path folder ++ name) ≡ true))) → IsSome (get third name)
    back name (inr other) = (c name).1 (inr other)
    back name (inl (inr folder_listed)) = (c name).1 (inl ((b name).1 (inr folder_listed)))
    back name (inl (inl key)) = (c name).1 (inl ((b name).1 (inl ((a name).1 (inr key)))))

pub if_ok : {A E : Type 0} {P Q : A → Type 0} (r : Result A E) → ((a : A) → P a → Q a) → IfOk r P → IfOk r Q
if_ok (Ok a) f h = f a h
if_ok (Err e) f h = tt
