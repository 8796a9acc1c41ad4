-- Names without a fault ascend, behind those before them, and begin with the prefix.
use Rattle.std.proofs.Common.{◌≡◌, ◌∙◌, ℕ, Bool, true, false, cond, List, [], ◌∷◌, ◌++◌, Option, Some, None, IsTrue, refl, sym, ap, arith, nat_eq}
use native.Mathlib.Numerals.{unary_clauses}
use Rattle.std.specs.Cmp.Lexicographic.{slice_cmp, nat_list_cmp_total}
use Rattle.std.specs.List.{AllByRecursion, starts_with}
use Rattle.std.specs.List.Sorted.{IsStrictlySortedBy}
use Rattle.std.specs.Option.{option_or}
use Rattle.std.specs.Ordering.{nat_cmp}
use Rattle.std.specs.declared.cmp.Ordering.TheVariants.{Less}
use Rattle.std.proofs.lemmas.List.Elements.{All-cons}
use Rattle.list_walk.specs.Pages.{AllBeginWith, last_of, names_fault}
use Rattle.s3_model.specs.Entries.{IsAscending}
use Rattle.shared_lemmas.proofs.Options.{neither}
use Rattle.shared_lemmas.proofs.Orders.{less_from_test}

pub or_first : {T : Type 0} (o p : Option T) (x : T) → o ≡ Some x → option_or o p ≡ Some x
or_first {T} o p x e = ap (λ (q : Option T). option_or q p) e

pub or_second : {T : Type 0} (o p : Option T) (x : T) → o ≡ None → p ≡ Some x → option_or o p ≡ Some x
or_second {T} o p x none e = ap (λ (q : Option T). option_or q p) none ∙ e

passes : {T : Type 0} (b : Bool) (x : T) → cond b None (Some x) ≡ None → b ≡ true
passes true x e = refl
passes false x e = absurd cc

pub names_begin : (prefix : List ℕ) (before : Option (List ℕ)) (names : List (List ℕ)) → names_fault prefix before names ≡ None → AllBeginWith prefix names
names_begin prefix before [] e = λ k d l. absurd (omega arith)
names_begin prefix before (name ∷ names) e =
    let parts = neither _ _ e in
    All-cons (λ (n : List ℕ). IsTrue (starts_with nat_eq n prefix)) name names (passes _ _ (neither _ _ parts.0).1) (names_begin prefix (Some name) names parts.1)

abbrev AllAbove : List ℕ → List (List ℕ) → Type 0
AllAbove first names = AllByRecursion (λ name. slice_cmp nat_cmp first name ≡ Less) names

all_above : (first second : List ℕ) (names : List (List ℕ)) → slice_cmp nat_cmp first second ≡ Less → AllAbove second names → AllAbove first names
all_above first second [] less above = tt
all_above first second (name ∷ names) less above = (nat_list_cmp_total.trans first second name less above.0, all_above first second names less above.1)

names_above : (prefix before : List ℕ) (names : List (List ℕ)) → names_fault prefix (Some before) names ≡ None → AllAbove before names × IsAscending names
unfolding IsStrictlySortedBy
names_above prefix before [] e = (tt, tt)
names_above prefix before (name ∷ names) e =
    let parts = neither _ _ e in
    let less : slice_cmp nat_cmp before name ≡ Less = less_from_test _ (passes _ _ (neither _ _ parts.0).0) in
    let rest = names_above prefix name names parts.1 in
    ((less, all_above before name names less rest.0), rest)

pub last_behind : (first second : List ℕ) (before : List (List ℕ)) → last_of (first ∷ second ∷ before) ≡ last_of (second ∷ before)
last_behind first second before = simp unary_clauses refl

pub names_ascend : (prefix : List ℕ) (before names : List (List ℕ)) → IsAscending before → names_fault prefix (last_of before) names ≡ None → IsAscending (before ++ names)
unfolding IsStrictlySortedBy
names_ascend prefix [] [] ascend e = tt
names_ascend prefix [] (name ∷ names) ascend e = names_above prefix name names (neither _ _ e).1
names_ascend prefix (first ∷ []) names ascend e = names_above prefix first names e
names_ascend prefix (first ∷ second ∷ before) names ascend e =
    let rest = names_ascend prefix (second ∷ before) names ascend.1 (ap (λ (last : Option (List ℕ)). names_fault prefix last names) (sym (last_behind first second before)) ∙ e) in
    ((ascend.0.0, all_above first second (before ++ names) ascend.0.0 rest.0), rest)
