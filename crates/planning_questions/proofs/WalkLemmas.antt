-- A listing cannot go on for ever.
use Rattle.std.proofs.Common.{◌≡◌, ◌∙◌, ◌==◌, ◌+◌, ◌*◌, ◌<◌, ◌≤◌, ℕ, Bool, true, false, None, refl, sym, ap, subst, arith, length-append}
use Rattle.shared_lemmas.proofs.Clashes.{true_is_false}
use Rattle.std.specs.Prelude.{◌||◌, not}
use Rattle.s3_model.specs.declared.answers.Listed.{Listed}
use Rattle.list_walk.specs.Pages.{Gathered, IsSound, Walk, count_of, gathered_with, refusal_of, total_of, with_page}
use Rattle.list_walk.proofs.LawLemmas.{taken_where_sound}

-- each page adds an entry, or is one more without any
steps_up : (g : Gathered) (page : Listed) → g.empty < 1000 → 1000 * total_of g + g.empty + 1 ≤ 1000 * total_of (gathered_with g page) + (gathered_with g page).empty
steps_up g page few = by_count (count_of page == 0) refl
  where
    by_count : (none : Bool) → (count_of page == 0) ≡ none → 1000 * total_of g + g.empty + 1 ≤ 1000 * total_of (gathered_with g page) + (gathered_with g page).empty
    by_count true e =
        let entries = length-append g.entries page.entries.items in
        let prefixes = length-append g.prefixes page.prefixes.items in
        rw e (omega (arith, entries, prefixes))
    by_count false e =
        let entries = length-append g.entries page.entries.items in
        let prefixes = length-append g.prefixes page.prefixes.items in
        let some : 1 ≤ count_of page = grind (arith, e) in
        rw e (omega (arith, entries, prefixes, some))

open_behind : (over more : Bool) → over ≡ false → true ≡ more → (over || not more) ≡ false
open_behind true more e is = absurd (true_is_false e)
open_behind false true e is = refl
open_behind false false e is = absurd (true_is_false is)

-- what holds of a walk that goes on holds behind one page more
module _ (walk after : Walk) (page : Listed) (is : after ≡ with_page walk page) where
  pub still_open : walk.over ≡ false → true ≡ page.more → after.over ≡ false
  still_open open_before more = ap (λ (w : Walk). w.over) is ∙ open_behind walk.over page.more open_before more

  pub still_sound : IsSound walk.prefix walk.gathered → refusal_of walk.prefix walk.gathered page ≡ None → IsSound after.prefix after.gathered
  still_sound sound none =
      subst (λ (w : Walk). IsSound w.prefix w.gathered) (sym is) (((taken_where_sound walk.prefix walk.gathered page sound).0 none).0)

  pub still_bound : (count : ℕ) → walk.gathered.empty < 1000 → count ≤ 1000 * total_of walk.gathered + walk.gathered.empty → count + 1 ≤ 1000 * total_of after.gathered + after.gathered.empty
  still_bound count few bound =
      let up = steps_up walk.gathered page few in
      subst (λ (w : Walk). count + 1 ≤ 1000 * total_of w.gathered + w.gathered.empty) (sym is) (omega (arith, up))
