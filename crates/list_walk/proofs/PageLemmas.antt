-- Pages that were taken have what the limits and the order ask.
use Rattle.std.proofs.Common.{◌≡◌, ◌<◌, ◌≤◌, ◌&&◌, ◌++◌, ℕ, Bool, true, false, cond, List, [], ◌∷◌, Some, None, refl, sym, ap, subst, arith, nat_eq, nat_le, nat_lt, IsTrue}
use Rattle.std.specs.List.{starts_with}
use Rattle.std.specs.List.Sorted.{IsStrictlySortedBy}
use Rattle.std.specs.Option.{is_none}
use Rattle.std.proofs.lemmas.Bool.{leb-false, ltb-false}
use Rattle.std.proofs.lemmas.List.Elements.{All-append}
use Rattle.s3_model.specs.declared.answers.Listed.{Listed}
use Rattle.s3_model.specs.declared.faults.BadListing.TheVariants.{EmptyPages, NoToken, TooMany}
use Rattle.s3_model.specs.declared.places.Entry.{Entry}
use Rattle.list_walk.specs.Pages.{AllBeginWith, Gathered, IsSound, gathered_with, nothing, refusal_of, total_of, whole_fault}
use Rattle.s3_model.specs.Entries.{IsAscending, keys_of}
use Rattle.list_walk.proofs.OrderLemmas.{names_ascend, names_begin}
use Rattle.shared_lemmas.proofs.Options.{neither}

pub keys-append : (a b : List Entry) → keys_of (a ++ b) ≡ keys_of a ++ keys_of b
keys-append [] b = refl
keys-append (x ∷ a) b = ap (λ ks. x.key ∷ ks) (keys-append a b)

pub all_false : {T : Type 0} (a b c : Bool) (x y z : T) → cond a (Some x) (cond b (Some y) (cond c (Some z) None)) ≡ None → (a ≡ false) × (b ≡ false) × (c ≡ false)
all_false true b c x y z e = absurd cc
all_false false true c x y z e = absurd cc
all_false false false true x y z e = absurd cc
all_false false false false x y z e = (refl, refl, refl)

pub nothing_is_sound : (prefix : List ℕ) → IsSound prefix nothing
unfolding IsStrictlySortedBy
nothing_is_sound prefix =
    record {
      keys_ascend = tt;
      keys_within = λ k d l. absurd (omega arith);
      prefixes_ascend = tt;
      prefixes_within = λ k d l. absurd (omega arith);
      few_empty = omega arith;
      few_entries = omega arith;
    }

pub sound_with_page : (prefix : List ℕ) (before : Gathered) (page : Listed) → IsSound prefix before → refusal_of prefix before page ≡ None → IsSound prefix (gathered_with before page)
sound_with_page prefix before page sound none =
    let keys = neither _ _ none in
    let rest = neither _ _ keys.1 in
    let joined = sym (keys-append before.entries page.entries.items) in
    let limits = within_limits before page rest.1 in
    record {
      keys_ascend = subst IsAscending joined (names_ascend prefix (keys_of before.entries) (keys_of page.entries.items) sound.keys_ascend keys.0);
      keys_within = subst (AllBeginWith prefix) joined (All-append (λ (n : List ℕ). IsTrue (starts_with nat_eq n prefix)) (keys_of before.entries) (keys_of page.entries.items) sound.keys_within (names_begin prefix _ (keys_of page.entries.items) keys.0));
      prefixes_ascend = names_ascend prefix before.prefixes page.prefixes.items sound.prefixes_ascend rest.0;
      prefixes_within = All-append (λ (n : List ℕ). IsTrue (starts_with nat_eq n prefix)) before.prefixes page.prefixes.items sound.prefixes_within (names_begin prefix _ page.prefixes.items rest.0);
      few_empty = limits.0;
      few_entries = limits.1;
    }
  where
    within_limits : (before : Gathered) (page : Listed) → whole_fault before page ≡ None → ((gathered_with before page).empty < 1000) × (total_of (gathered_with before page) ≤ 1000000)
    within_limits before page none =
        let tests = all_false (page.more && is_none page.token) (nat_le 1000 (gathered_with before page).empty) (nat_lt 1000000 (total_of (gathered_with before page))) NoToken EmptyPages TooMany none in
        (leb-false 1000 _ tests.1, ltb-false 1000000 _ tests.2)

-- the same of what became those lists
pub sound_taken : (prefix : List ℕ) (before : Gathered) (page : Listed) (entries : List Entry) (prefixes : List (List ℕ)) (empty : ℕ) → entries ≡ before.entries ++ page.entries.items → prefixes ≡ before.prefixes ++ page.prefixes.items → empty ≡ (gathered_with before page).empty
    → IsSound prefix before → refusal_of prefix before page ≡ None → IsSound prefix (record { entries = entries; prefixes = prefixes; empty = empty })
sound_taken prefix before page entries prefixes empty e p n sound none =
    subst (λ (xs : List Entry). IsSound prefix (record { entries = xs; prefixes = prefixes; empty = empty })) (sym e)
    (subst (λ (ps : List (List ℕ)). IsSound prefix (record { entries = before.entries ++ page.entries.items; prefixes = ps; empty = empty })) (sym p)
    (subst (λ (k : ℕ). IsSound prefix (record { entries = before.entries ++ page.entries.items; prefixes = before.prefixes ++ page.prefixes.items; empty = k })) (sym n)
    (sound_with_page prefix before page sound none)))

-- the same entries and prefixes
pub same_sound : (prefix : List ℕ) (entries more : List Entry) (prefixes others : List (List ℕ)) (empty : ℕ)
    → more ≡ entries → others ≡ prefixes
    → IsSound prefix (record { entries = entries; prefixes = prefixes; empty = empty })
    → IsSound prefix (record { entries = more; prefixes = others; empty = empty })
same_sound prefix entries more prefixes others empty e f sound =
    subst (λ (names : List (List ℕ)). IsSound prefix (record { entries = more; prefixes = names; empty = empty })) (sym f)
    (subst (λ (rows : List Entry). IsSound prefix (record { entries = rows; prefixes = prefixes; empty = empty })) (sym e)
    sound)
