-- The laws of pages.
use Rattle.std.proofs.Common.{◌≡◌, ◌∙◌, ◌&&◌, ◌<◌, ◌≤◌, ℕ, Bool, true, false, List, [], ◌∷◌, ◌++◌, Option, Some, None, IsTrue, IsSome, ap, append_assoc, flat_map, fold, nat_eq, nat_le, nat_lt, refl, subst, sym}
use Rattle.std.specs.Cmp.Lexicographic.{slice_cmp}
use Rattle.std.specs.List.{starts_with}
use Rattle.std.specs.List.Sorted.{IsStrictlySortedBy}
use Rattle.std.specs.Option.{option_or, is_none}
use Rattle.std.specs.Ordering.{is_lt, nat_cmp}
use Rattle.std.specs.declared.cmp.Ordering.TheVariants.{Less}
use Rattle.std.proofs.lemmas.Bool.{cond-false, cond-true, false≢true, le-ltb, lt-leb}
use Rattle.std.proofs.lemmas.List.{append-nil}
use Rattle.std.proofs.lemmas.List.Elements.{All-head, All-tail}
use Rattle.s3_model.specs.declared.answers.Listed.{Listed}
use Rattle.s3_model.specs.declared.faults.BadListing.TheVariants.{EmptyPages, NoToken, TooMany}
use Rattle.list_walk.specs.Laws.{GathersInOrder, TakenAreSound, TakenWhereSound, WalkGathers}
use Rattle.list_walk.specs.Pages.{AllBeginWith, Gathered, IsSound, Walk, gathered_with, last_of, names_fault, new_walk, nothing, order_fault, prefix_fault, refusal_of, total_of, whole_fault, with_page}
use Rattle.s3_model.specs.Entries.{IsAscending, keys_of}
use Rattle.list_walk.proofs.OrderLemmas.{last_behind}
use Rattle.list_walk.proofs.PageLemmas.{all_false, keys-append, nothing_is_sound, sound_with_page}
use Rattle.shared_lemmas.proofs.Options.{neither}

-- ---- in order

entries_in_order : (before : Gathered) (pages : List Listed) → (fold gathered_with before pages).entries ≡ before.entries ++ flat_map (λ (page : Listed). page.entries.items) pages
entries_in_order before [] = sym (append-nil before.entries)
entries_in_order before (page ∷ pages) = entries_in_order (gathered_with before page) pages ∙ append_assoc before.entries page.entries.items (flat_map (λ (p : Listed). p.entries.items) pages)

prefixes_in_order : (before : Gathered) (pages : List Listed) → (fold gathered_with before pages).prefixes ≡ before.prefixes ++ flat_map (λ (page : Listed). page.prefixes.items) pages
prefixes_in_order before [] = sym (append-nil before.prefixes)
prefixes_in_order before (page ∷ pages) = prefixes_in_order (gathered_with before page) pages ∙ append_assoc before.prefixes page.prefixes.items (flat_map (λ (p : Listed). p.prefixes.items) pages)

pub gathers_in_order : GathersInOrder
gathers_in_order pages = (entries_in_order nothing pages, prefixes_in_order nothing pages)

walk_has : (walk : Walk) (pages : List Listed) → (fold with_page walk pages).gathered ≡ fold gathered_with walk.gathered pages
walk_has walk [] = refl
walk_has walk (page ∷ pages) = walk_has (with_page walk page) pages

pub walk_gathers : WalkGathers
walk_gathers bucket prefix delimited pages = walk_has (new_walk bucket prefix delimited) pages

-- ---- sound

sound_from : (prefix : List ℕ) (before : Gathered) (pages : List Listed) → IsSound prefix before
    → ((front : List Listed) (page : Listed) (after : List Listed) → pages ≡ front ++ page ∷ after → refusal_of prefix (fold gathered_with before front) page ≡ None) → IsSound prefix (fold gathered_with before pages)
sound_from prefix before [] sound taken = sound
sound_from prefix before (page ∷ pages) sound taken =
    sound_from prefix (gathered_with before page) pages (sound_with_page prefix before page sound (taken [] page pages refl))
    (λ front next after e. taken (page ∷ front) next after (ap (λ (ps : List Listed). page ∷ ps) e))

pub taken_are_sound : TakenAreSound
taken_are_sound prefix pages taken = sound_from prefix nothing pages (nothing_is_sound prefix) taken

-- ---- the way back

both_none : {T : Type 0} (o p : Option T) → o ≡ None → p ≡ None → option_or o p ≡ None
both_none {T} o p e f = ap (λ (q : Option T). option_or q p) e ∙ f

begins : (prefix name : List ℕ) → IsTrue (starts_with nat_eq name prefix) → prefix_fault prefix name ≡ None
begins prefix name e = cond-true _ _ _ e

in_order : (before name : List ℕ) → slice_cmp nat_cmp before name ≡ Less → order_fault (Some before) name ≡ None
in_order before name e = cond-true _ _ _ (ap is_lt e)

pass_behind : (prefix before : List ℕ) (names : List (List ℕ)) → IsAscending (before ∷ names) → AllBeginWith prefix names → names_fault prefix (Some before) names ≡ None
unfolding IsStrictlySortedBy
pass_behind prefix before [] ascend all = refl
pass_behind prefix before (name ∷ names) ascend all =
    both_none _ _ (both_none _ _ (in_order before name ascend.0.0) (begins prefix name (All-head (λ (n : List ℕ). IsTrue (starts_with nat_eq n prefix)) name names all)))
    (pass_behind prefix name names ascend.1 (All-tail (λ (n : List ℕ). IsTrue (starts_with nat_eq n prefix)) name names all))

pass_first : (prefix : List ℕ) (names : List (List ℕ)) → IsAscending names → AllBeginWith prefix names → names_fault prefix None names ≡ None
pass_first prefix [] ascend all = refl
pass_first prefix (name ∷ names) ascend all =
    both_none _ _ (begins prefix name (All-head (λ (n : List ℕ). IsTrue (starts_with nat_eq n prefix)) name names all))
    (pass_behind prefix name names ascend (All-tail (λ (n : List ℕ). IsTrue (starts_with nat_eq n prefix)) name names all))

names_pass : (prefix : List ℕ) (before names : List (List ℕ)) → IsAscending (before ++ names) → AllBeginWith prefix (before ++ names) → names_fault prefix (last_of before) names ≡ None
unfolding IsStrictlySortedBy
names_pass prefix [] names ascend all = pass_first prefix names ascend all
names_pass prefix (first ∷ []) names ascend all = pass_behind prefix first names ascend (All-tail (λ (n : List ℕ). IsTrue (starts_with nat_eq n prefix)) first names all)
names_pass prefix (first ∷ second ∷ before) names ascend all =
    ap (λ (last : Option (List ℕ)). names_fault prefix last names) (last_behind first second before)
    ∙ names_pass prefix (second ∷ before) names ascend.1 (All-tail (λ (n : List ℕ). IsTrue (starts_with nat_eq n prefix)) first (second ∷ before ++ names) all)

no_gap : {X : Type 0} (more : Bool) (token : Option X) → (more ≡ true → IsSome token) → (more && is_none token) ≡ false
no_gap false token h = refl
no_gap true None h = absurd (false≢true (h refl))
no_gap true (Some x) h = refl

has_token : {X : Type 0} (more : Bool) (token : Option X) → (more && is_none token) ≡ false → more ≡ true → IsSome token
has_token more (Some x) e h = refl
has_token true None e h = absurd cc
has_token false None e h = absurd cc

whole_passes : (before : Gathered) (page : Listed) → (gathered_with before page).empty < 1000 → total_of (gathered_with before page) ≤ 1000000
    → (page.more ≡ true → IsSome page.token) → whole_fault before page ≡ None
whole_passes before page empty few token =
    cond-false _ _ _ (no_gap page.more page.token token)
    ∙ cond-false _ _ _ (lt-leb 1000 (gathered_with before page).empty empty)
    ∙ cond-false _ _ _ (le-ltb 1000000 (total_of (gathered_with before page)) few)

taken_where : (prefix : List ℕ) (before : Gathered) (page : Listed) → IsSound prefix (gathered_with before page) → (page.more ≡ true → IsSome page.token) → refusal_of prefix before page ≡ None
taken_where prefix before page sound token =
    let joined = keys-append before.entries page.entries.items in
    both_none _ _ (names_pass prefix (keys_of before.entries) (keys_of page.entries.items) (subst IsAscending joined sound.keys_ascend) (subst (AllBeginWith prefix) joined sound.keys_within))
    (both_none _ _ (names_pass prefix before.prefixes page.prefixes.items sound.prefixes_ascend sound.prefixes_within)
    (whole_passes before page sound.few_empty sound.few_entries token))

token_of : (prefix : List ℕ) (before : Gathered) (page : Listed) → refusal_of prefix before page ≡ None → page.more ≡ true → IsSome page.token
token_of prefix before page none =
    let whole = (neither _ _ (neither _ _ none).1).1 in
    has_token page.more page.token
    (all_false (page.more && is_none page.token) (nat_le 1000 (gathered_with before page).empty) (nat_lt 1000000 (total_of (gathered_with before page))) NoToken EmptyPages TooMany whole).0

pub taken_where_sound : TakenWhereSound
taken_where_sound prefix before page sound =
    (λ none. (sound_with_page prefix before page sound none, token_of prefix before page none), λ both. taken_where prefix before page both.0 both.1)
