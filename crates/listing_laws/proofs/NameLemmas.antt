-- The names of a listing ascend, each text once.
use Rattle.std.proofs.Common.{◌≡◌, ◌∙◌, ◌&&◌, ℕ, Bool, true, false, cond, T, List, [], ◌∷◌, refl, sym, subst, inl, inr, bytes_eq, map, nat_eq}
use Rattle.std.specs.Cmp.Lexicographic.{slice_cmp, nat_list_cmp_total}
use Rattle.std.specs.FinMap.{entries, entries_sorted}
use Rattle.std.specs.FinMap.Entries.{below_all, is_sorted}
use Rattle.std.specs.List.{AllByRecursion, filter, starts_with}
use Rattle.std.specs.Ordering.{is_lt, nat_cmp}
use Rattle.std.specs.declared.cmp.Ordering.{Ordering}
use Rattle.std.specs.declared.cmp.Ordering.TheVariants.{Less, Equal, Greater}
use Rattle.std.proofs.lemmas.Slice.Eq.{bytes_eq-Decides}
use Rattle.s3_service.specs.ServiceState.{Object, State, objects_in}
use Rattle.s3_service.specs.Listing.{Name, listing, name_of, once, text_of}
use Rattle.listing_laws.proofs.CutLemmas.{IsAtMost, IsBelow, names_at_most}

-- ---- facts of all members

pub all_kept : {X : Type 0} (P : X → Type 0) (test : X → Bool) (xs : List X) → AllByRecursion P xs → AllByRecursion P (filter test xs)
all_kept P test [] all = tt
all_kept {X} P test (x ∷ xs) all = which (test x) (all_kept P test xs all.1)
  where
    which : (b : Bool) → AllByRecursion P (filter test xs) → AllByRecursion P (cond b (x ∷ filter test xs) (filter test xs))
    which true rest = (all.0, rest)
    which false rest = rest

all_weaker : {X : Type 0} (P Q : X → Type 0) → ((x : X) → P x → Q x) → (xs : List X) → AllByRecursion P xs → AllByRecursion Q xs
all_weaker P Q f [] all = tt
all_weaker P Q f (x ∷ xs) all = (f x all.0, all_weaker P Q f xs all.1)

all_mapped : {X Y : Type 0} (f : X → Y) (Q : Y → Type 0) (xs : List X) → AllByRecursion (λ x. Q (f x)) xs → AllByRecursion Q (map f xs)
all_mapped f Q [] all = tt
all_mapped f Q (x ∷ xs) all = (all.0, all_mapped f Q xs all.1)

-- ---- the entries of a map

abbrev AreBelow : List (List ℕ × Object) → Type 0
AreBelow [] = Unit {0}
AreBelow (e ∷ es) = AllByRecursion (λ (f : List ℕ × Object). IsBelow e.0 f.0) es × AreBelow es

less_of : (o : Ordering) → T (is_lt o) → o ≡ Less
less_of Less h = refl
less_of Equal h = absurd h
less_of Greater h = absurd h

both : (a b : Bool) → T (a && b) → T a × T b
both true b h = (tt, h)
both false b h = absurd h

all_below : (key : List ℕ) (es : List (List ℕ × Object)) → T (below_all (slice_cmp nat_cmp) key es) → AllByRecursion (λ (f : List ℕ × Object). IsBelow key f.0) es
all_below key [] h = tt
all_below key (e ∷ es) h = let parts = both _ _ h in (less_of _ parts.0, all_below key es parts.1)

are_below : (es : List (List ℕ × Object)) → T (is_sorted (slice_cmp nat_cmp) es) → AreBelow es
are_below [] h = tt
are_below (e ∷ es) h = let parts = both _ _ h in (all_below e.0 es parts.0, are_below es parts.1)

kept_below : (test : List ℕ × Object → Bool) (es : List (List ℕ × Object)) → AreBelow es → AreBelow (filter test es)
kept_below test [] h = tt
kept_below test (e ∷ es) h = which (test e) (all_kept (λ (f : List ℕ × Object). IsBelow e.0 f.0) test es h.0) (kept_below test es h.1)
  where
    which : (b : Bool) → AllByRecursion (λ (f : List ℕ × Object). IsBelow e.0 f.0) (filter test es) → AreBelow (filter test es) → AreBelow (cond b (e ∷ filter test es) (filter test es))
    which true first rest = (first, rest)
    which false first rest = rest

-- ---- names

abbrev NoneFalls : List Name → Type 0
NoneFalls [] = Unit {0}
NoneFalls (name ∷ names) = AllByRecursion (λ (n : Name). IsAtMost (text_of name) (text_of n)) names × NoneFalls names

abbrev pub Rise : List Name → Type 0
Rise [] = Unit {0}
Rise (name ∷ names) = AllByRecursion (λ (n : Name). IsBelow (text_of name) (text_of n)) names × Rise names

named : (prefix : List ℕ) (delimited : Bool) (es : List (List ℕ × Object)) → AreBelow es → NoneFalls (map (name_of prefix delimited) es)
named prefix delimited [] h = tt
named prefix delimited (e ∷ es) h = (
  all_mapped (name_of prefix delimited) (λ (n : Name). IsAtMost (text_of (name_of prefix delimited e)) (text_of n)) es
      (all_weaker (λ (f : List ℕ × Object). IsBelow e.0 f.0) (λ (f : List ℕ × Object). IsAtMost (text_of (name_of prefix delimited e)) (text_of (name_of prefix delimited f))) (λ f. names_at_most prefix delimited e f) es h.0),
  named prefix delimited es h.1,
)

all_once : (P : Name → Type 0) (names : List Name) → AllByRecursion P names → AllByRecursion P (once names)
all_once P [] all = tt
all_once P (name ∷ []) all = all
all_once P (name ∷ next ∷ names) all = which (bytes_eq (text_of name) (text_of next)) (all_once P (next ∷ names) all.1)
  where
    which : (b : Bool) → AllByRecursion P (once (next ∷ names)) → AllByRecursion P (cond b (once (next ∷ names)) (name ∷ once (next ∷ names)))
    which true rest = rest
    which false rest = (all.0, rest)

then_below : (a b c : List ℕ) → IsBelow a b → IsAtMost b c → IsBelow a c
then_below a b c below (inl e) = subst (λ (t : List ℕ). IsBelow a t) e below
then_below a b c below (inr more) = nat_list_cmp_total.trans a b c below more

clash : true ≡ false → ⊥
clash e = cc

other_below : (a b : List ℕ) → bytes_eq a b ≡ false → IsAtMost a b → IsBelow a b
other_below a b apart (inr below) = below
other_below a b apart (inl e) = absurd (clash (sym ((bytes_eq-Decides a b).1 e) ∙ apart))

once_rise : (names : List Name) → NoneFalls names → Rise (once names)
once_rise [] h = tt
once_rise (name ∷ []) h = (tt, tt)
once_rise (name ∷ next ∷ names) h = which (bytes_eq (text_of name) (text_of next)) refl (once_rise (next ∷ names) h.1)
  where
    which : (b : Bool) → bytes_eq (text_of name) (text_of next) ≡ b → Rise (once (next ∷ names)) → Rise (cond b (once (next ∷ names)) (name ∷ once (next ∷ names)))
    which true e rest = rest
    which false e rest =
        let first = other_below (text_of name) (text_of next) e h.0.0 in (
          all_once (λ (n : Name). IsBelow (text_of name) (text_of n)) (next ∷ names)
              (first, all_weaker (λ (n : Name). IsAtMost (text_of next) (text_of n)) (λ (n : Name). IsBelow (text_of name) (text_of n)) (λ n most. then_below (text_of name) (text_of next) (text_of n) first most) names h.1.0),
          rest,
        )

pub listing_rises : (t : State) (bucket prefix : List ℕ) (delimited : Bool) → Rise (listing t bucket prefix delimited)
listing_rises t bucket prefix delimited =
    once_rise _ (named prefix delimited _ (kept_below (λ (entry : List ℕ × Object). starts_with nat_eq entry.0 prefix) (entries (objects_in t bucket)) (are_below _ (entries_sorted (objects_in t bucket)))))
