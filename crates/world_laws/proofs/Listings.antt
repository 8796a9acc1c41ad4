-- What a page of a listing tells: each entry is of an object that is there.
use Rattle.std.proofs.Common.{◌≡◌, ◌∙◌, ◌&&◌, ◌+◌, ℕ, Bool, true, false, cond, T, List, [], ◌∷◌, Option, Some, None, refl, sym, ap, subst, inl, inr, bytes_eq, length, nat_eq, take}
use Rattle.std.specs.Ordering.{eq_by_cmp, is_eq, is_lt, nat_cmp}
use Rattle.std.specs.List.{starts_with}
use Rattle.std.specs.declared.cmp.Ordering.{Ordering}
use Rattle.std.specs.declared.cmp.Ordering.TheVariants.{Less, Equal, Greater}
use Rattle.std.specs.Cmp.{IsTotalOrder, eq_by_cmp_equiv}
use Rattle.std.specs.Cmp.Lexicographic.{slice_cmp, nat_list_cmp_total}
use Rattle.std.specs.FinMap.{FinMap, get, entries, entries_sorted, get-entries, IsAntisymmetric}
use Rattle.std.specs.FinMap.Entries.{below_all, find, is_sorted}
use Rattle.s3_model.specs.declared.places.Entry.{Entry}
use Rattle.s3_model.specs.declared.answers.Listed.{Listed}
use Rattle.s3_service.specs.ServiceState.{State, Object, object_at, objects_in}
use Rattle.s3_service.specs.Listing.{Name, Key, Prefix, IsEntryOf, IsPage, IsSplit, after, cut_at, listing, name_of, once, text_of}
use Rattle.shared_lemmas.proofs.Maps.{other_key, text_exact}
use Rattle.shared_lemmas.proofs.Members.{Has, has-append_left, kept, mapped}

-- ---- entries of a map

less_is_no_tie : (o : Ordering) → T (is_lt o) → is_eq o ≡ true → ⊥
less_is_no_tie Less less tie = cc
less_is_no_tie Equal less tie = less
less_is_no_tie Greater less tie = less

both : (a b : Bool) → T (a && b) → T a × T b
both true b h = (tt, h)
both false b h = absurd h

module _ {K V : Type 0} {R : K → K → Ordering} (total : IsTotalOrder R) (exact : IsAntisymmetric R) where
  is_below : (x : K) (es : List (K × V)) (entry : K × V) → T (below_all R x es) → Has es entry → T (is_lt (R x entry.0))
  is_below x [] entry below h = absurd h
  is_below x (e ∷ es) entry below (inl same) = subst (λ (f : K × V). T (is_lt (R x f.0))) same (both _ _ below).0
  is_below x (e ∷ es) entry below (inr h) = is_below x es entry (both _ _ below).1 h

  found_entry : (es : List (K × V)) (entry : K × V) → T (is_sorted R es) → Has es entry → find R entry.0 es ≡ Some entry.1
  found_entry [] entry sorted h = absurd h
  found_entry (e ∷ es) entry sorted (inl same) =
      subst (λ (f : K × V). find R f.0 (e ∷ es) ≡ Some f.1) same (ap (λ b. cond b (Some e.1) (find R e.0 es)) ((eq_by_cmp_equiv total).refl e.0))
  found_entry (e ∷ es) entry sorted (inr h) =
      let parts = both _ _ sorted in
      let less = is_below e.0 es entry parts.0 h in
      let apart : entry.0 ≡ e.0 → ⊥ = λ same. less_is_no_tie (R e.0 entry.0) less (subst (λ (k : K). eq_by_cmp R e.0 k ≡ true) (sym same) ((eq_by_cmp_equiv total).refl e.0)) in
      ap (λ b. cond b (Some e.1) (find R entry.0 es)) (other_key total exact entry.0 e.0 apart) ∙ found_entry es entry parts.1 h

  -- what stands among the entries of a map is found under its key
  pub entry_is_held : (m : FinMap R V) (entry : K × V) → Has (entries m) entry → get m entry.0 ≡ Some entry.1
  entry_is_held m entry h = get-entries m entry.0 ∙ found_entry (entries m) entry (entries_sorted m) h

-- ---- names of a listing

once_of : (names : List Name) (name : Name) → Has (once names) name → Has names name
once_of [] name h = h
once_of (first ∷ []) name h = h
once_of (first ∷ next ∷ names) name h = which (bytes_eq (text_of first) (text_of next)) h (once_of (next ∷ names) name)
  where
    which : (same : Bool) → Has (cond same (once (next ∷ names)) (first ∷ once (next ∷ names))) name → (Has (once (next ∷ names)) name → Has (next ∷ names) name)
        → Has (first ∷ next ∷ names) name
    which true g rest = inr (rest g)
    which false (inl e) rest = inl e
    which false (inr g) rest = inr (rest g)

key_is : (text other : List ℕ) (object same : Object) → Key text object ≡ Key other same → (text ≡ other) × (object ≡ same)
key_is text other object same e = (cc, cc)

no_prefix : (text other : List ℕ) (object : Object) → Prefix text ≡ Key other object → ⊥
no_prefix text other object e = cc

cut_is : (n : ℕ) (entry : List ℕ × Object) (at : Option ℕ) (text : List ℕ) (object : Object) → cut_at n entry at ≡ Key text object → (entry.0 ≡ text) × (entry.1 ≡ object)
cut_is n entry None text object e = key_is entry.0 text entry.1 object e
cut_is n entry (Some at) text object e = absurd (no_prefix (take (n + at + 1) entry.0) text object e)

named : (prefix : List ℕ) (delimited : Bool) (entry : List ℕ × Object) (text : List ℕ) (object : Object) → name_of prefix delimited entry ≡ Key text object → (entry.0 ≡ text) × (entry.1 ≡ object)
named prefix false entry text object e = key_is entry.0 text entry.1 object e
named prefix true entry text object e = cut_is (length prefix) entry _ text object e

-- a key of a listing is that of an object that is there
key_is_there : (t : State) (bucket prefix : List ℕ) (delimited : Bool) (text : List ℕ) (object : Object) → Has (listing t bucket prefix delimited) (Key text object) → object_at t bucket text ≡ Some object
key_is_there t bucket prefix delimited text object h =
    let of = mapped (name_of prefix delimited) _ (Key text object) (once_of _ (Key text object) h) in
    let held = entry_is_held nat_list_cmp_total text_exact (objects_in t bucket) of.0 (kept (λ (entry : List ℕ × Object). starts_with nat_eq entry.0 prefix) (entries (objects_in t bucket)) of.0 of.1) in
    let is = named prefix delimited of.0 text object of.2 in
    ap (get (objects_in t bucket)) (sym is.0) ∙ held ∙ ap Some is.1

after_of : (last : Option (List ℕ)) (names : List Name) (name : Name) → Has (after last names) name → Has names name
after_of None names name h = h
after_of (Some last) names name h = kept (λ (n : Name). is_lt (slice_cmp nat_cmp last (text_of n))) names name h

-- ---- a page

-- the name that an entry is of
split_of : (names : List Name) (listed : List Entry) (prefixes : List (List ℕ)) → IsSplit names listed prefixes → (entry : Entry) → Has listed entry
    → (text : List ℕ) × (object : Object) × Has names (Key text object) × IsEntryOf text object entry
split_of [] listed prefixes split entry h = absurd (subst (λ (all : List Entry). Has all entry) split.0 h)
split_of (Key text object ∷ names) [] prefixes split entry h = absurd h
split_of (Key text object ∷ names) (first ∷ listed) prefixes split entry (inl e) = (text, object, inl refl, subst (IsEntryOf text object) e split.0)
split_of (Key text object ∷ names) (first ∷ listed) prefixes split entry (inr h) =
    let rest = split_of names listed prefixes split.1 entry h in (rest.0, rest.1, inr rest.2, rest.3)
split_of (Prefix text ∷ names) listed [] split entry h = absurd split
split_of (Prefix text ∷ names) listed (prefix ∷ prefixes) split entry h =
    let rest = split_of names listed prefixes split.1 entry h in (rest.0, rest.1, inr rest.2, rest.3)

-- each entry of a page is of the object that is there under its key
pub entry_is_there : (old : State) (bucket prefix : List ℕ) (delimited : Bool) (token : Option (List ℕ)) (page : Listed) (new : State) → IsPage old bucket prefix delimited token page new
    → (entry : Entry) → Has page.entries.items entry → (object : Object) × (object_at old bucket entry.key ≡ Some object) × IsEntryOf entry.key object entry
entry_is_there old bucket prefix delimited token page new is entry h =
    let of = split_of is.1 page.entries.items page.prefixes.items is.7 entry h in
    let among = subst (λ (names : List Name). Has names (Key of.0 of.1)) is.4 (has-append_left is.1 is.2 (Key of.0 of.1) of.2) in
    let there = key_is_there old bucket prefix delimited of.0 of.1 (after_of is.0 (listing old bucket prefix delimited) (Key of.0 of.1) among) in
    (of.1, subst (λ (text : List ℕ). object_at old bucket text ≡ Some of.1) (sym of.3.0) there, (refl, of.3.1, of.3.2, of.3.3))
