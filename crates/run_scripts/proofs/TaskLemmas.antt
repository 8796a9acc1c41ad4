-- The tasks of a row are a plan that can be carried out.
use Rattle.std.proofs.Common.{◌≡◌, ◌∙◌, ◌≤◌, ◌<◌, ◌++◌, ◌^◌, ℕ, suc, Bool, true, false, List, [], ◌∷◌}
use Rattle.std.proofs.Common.{Option}
use Rattle.std.proofs.Common.{Some, None, refl, sym, subst, ap, arith, inl, inr, drop, get_or, length, nat_lt}
use Rattle.std.proofs.Common.{slice_get, length-append}
use Rattle.std.proofs.Common.{if◌then◌else◌}
use Rattle.std.proofs.Math.Nat.{eq-or-lt_of_le}
use Rattle.std.proofs.lemmas.Bool.{ltb-true}
use Rattle.std.proofs.lemmas.Fmt.{decimal_is_IsNumeral}
use Rattle.std.proofs.lemmas.Option.{slice_get_within}
use Rattle.std.specs.Fmt.{decimal}
use Rattle.std.specs.Str.Parse.{digits_value}
use Rattle.shared_lemmas.proofs.Clashes.{some_is, true_is_false}
use Rattle.shared_lemmas.proofs.Members.{place_middle, place_within_front}
use Rattle.s3_model.specs.declared.faults.PlanFault.TheVariants as fault
use Rattle.s3_model.specs.declared.places.Place.{Place}
use Rattle.s3_model.specs.declared.places.Place.TheVariants as place
use Rattle.s3_model.specs.declared.tasks.Kind.{Kind}
use Rattle.s3_model.specs.declared.tasks.Kind.TheVariants as kind
use Rattle.s3_model.specs.declared.tasks.Task.{Task}
use Rattle.sync_plan.specs.Fit.{IsFit, IsOfKind, is_too_large, place_text, size_fault}
use Rattle.run_scripts.specs.Tasks.{AreTasks, EachReplaces, GoesFrom, GoesTo, IsFile, IsObject, IsTaskOf, can_move, from_name, to_name}

abbrev name_of : Place → List ℕ
name_of (place.File path) = path
name_of (place.Object bucket key) = key

file_name : (name : List ℕ) (at : Place) → IsFile name at → name_of at ≡ name
file_name name (place.File path) is = is
file_name name (place.Object bucket key) is = absurd is

object_name : (name : List ℕ) (at : Place) → IsObject name at → name_of at ≡ name
object_name name (place.Object bucket key) is = is
object_name name (place.File path) is = absurd is

named_to : (n : ℕ) (k : Kind) (at : Place) → GoesTo n k at → name_of at ≡ to_name n
named_to n kind.Download at is = file_name (to_name n) at is
named_to n kind.RemoveFile at is = file_name (to_name n) at is
named_to n kind.Upload at is = object_name (to_name n) at is
named_to n kind.Copy at is = object_name (to_name n) at is
named_to n kind.RemoveObject at is = object_name (to_name n) at is

named_from : (n : ℕ) (k : Kind) (at : Place) → GoesFrom n k (Some at) → name_of at ≡ from_name n
named_from n kind.Upload at is = file_name (from_name n) at is
named_from n kind.Download at is = object_name (from_name n) at is
named_from n kind.Copy at is = object_name (from_name n) at is
named_from n kind.RemoveObject at is = absurd is
named_from n kind.RemoveFile at is = absurd is

-- ---- names by numbers

same_number : (m n : ℕ) → m < 2 ^ 64 → n < 2 ^ 64 → decimal m ≡ decimal n → m ≡ n
same_number m n few other e =
    sym (decimal_is_IsNumeral m few).1 ∙ ap (λ (ds : List ℕ). digits_value 10 ds) e ∙ (decimal_is_IsNumeral n other).1

same_to : (m n : ℕ) → to_name m ≡ to_name n → decimal m ≡ decimal n
same_to m n e = ap (λ (name : List ℕ). drop 2 name) e

same_from : (m n : ℕ) → from_name m ≡ from_name n → decimal m ≡ decimal n
same_from m n e = ap (λ (name : List ℕ). drop 4 name) e

apart_codes : (a b : ℕ) → a ≡ 102 → b ≡ 116 → a ≡ b → ⊥
apart_codes a b of_from of_to same = omega arith

never_both : (m n : ℕ) → from_name m ≡ to_name n → ⊥
never_both m n e = apart_codes (get_or (from_name m) 0 0) (get_or (to_name n) 0 0) refl refl
    (ap (λ (name : List ℕ). get_or name 0 0) e)

-- ---- the plan

of_kind : (n : ℕ) (k : Kind) (from : Option Place) (to : Place) (moves : Bool) → GoesFrom n k from → GoesTo n k to
    → (can_move k ≡ false → moves ≡ false) → IsOfKind k from to moves
of_kind n kind.Upload (Some (place.File path)) (place.Object bucket key) moves from to stays = tt
of_kind n kind.Upload (Some (place.Object b k)) to moves from to_is stays = absurd from
of_kind n kind.Upload None to moves from to_is stays = absurd from
of_kind n kind.Upload (Some (place.File path)) (place.File other) moves from to stays = absurd to
of_kind n kind.Download (Some (place.Object b k)) (place.File path) moves from to stays = tt
of_kind n kind.Download (Some (place.File path)) to moves from to_is stays = absurd from
of_kind n kind.Download None to moves from to_is stays = absurd from
of_kind n kind.Download (Some (place.Object b k)) (place.Object c l) moves from to stays = absurd to
of_kind n kind.Copy (Some (place.Object b k)) (place.Object bucket key) moves from to stays = tt
of_kind n kind.Copy (Some (place.File path)) to moves from to_is stays = absurd from
of_kind n kind.Copy None to moves from to_is stays = absurd from
of_kind n kind.Copy (Some (place.Object b k)) (place.File path) moves from to stays = absurd to
of_kind n kind.RemoveObject None (place.Object bucket key) false from to stays = tt
of_kind n kind.RemoveObject None (place.Object bucket key) true from to stays = absurd (true_is_false (stays refl))
of_kind n kind.RemoveObject None (place.File path) moves from to stays = absurd to
of_kind n kind.RemoveObject (Some at) to moves from to_is stays = absurd from
of_kind n kind.RemoveFile None (place.File path) false from to stays = tt
of_kind n kind.RemoveFile None (place.File path) true from to stays = absurd (true_is_false (stays refl))
of_kind n kind.RemoveFile None (place.Object b k) moves from to stays = absurd to
of_kind n kind.RemoveFile (Some at) to moves from to_is stays = absurd from

no_fault : (most : ℕ) (task : Task) (source : Option Place) → task.size ≤ most → is_too_large most task source ≡ None
no_fault most task None few = refl
no_fault most task (Some source) few = by (nat_lt most task.size) refl
  where
    by : (b : Bool) → nat_lt most task.size ≡ b
        → (if b then Some (fault.TooLarge (place_text source) task.size) else None) ≡ None
    by true e = let above = ltb-true most task.size e in absurd (omega arith)
    by false e = refl

no_faults : (most : ℕ) (tasks : List Task) → ((n : ℕ) (task : Task) → slice_get tasks n ≡ Some task → task.size ≤ most)
    → size_fault most tasks ≡ None
no_faults most [] few = refl
no_faults most (task ∷ tasks) few =
    rw (no_fault most task task.source (few 0 task refl))
    (no_faults most tasks (λ n other at. few (suc n) other at))

module _ (most : ℕ) (tasks : List Task) (are : AreTasks most tasks) (count : length tasks ≤ 1000000) where
  few : (n : ℕ) (task : Task) → slice_get tasks n ≡ Some task → n < 2 ^ 64
  few n task at = let within = slice_get_within tasks n task at in omega arith

  its_source : (n : ℕ) (a : Task) (source : Place) → slice_get tasks n ≡ Some a → a.source ≡ Some source
      → name_of source ≡ from_name n
  its_source n a source at is =
      named_from n a.kind source (subst (λ (from : Option Place). GoesFrom n a.kind from) is (are.each n a at).from)

  its_dest : (n : ℕ) (a : Task) → slice_get tasks n ≡ Some a → name_of a.dest ≡ to_name n
  its_dest n a at = named_to n a.kind a.dest (are.each n a at).to

  pub are_fit : IsFit most tasks
  are_fit = record {
    destinations = λ m n a b at other same. same_number m n (few m a at) (few n b other)
        (same_to m n (sym (its_dest m a at) ∙ ap name_of same ∙ its_dest n b other));
    sources = λ m n a b source at other from too. same_number m n (few m a at) (few n b other)
        (same_from m n (sym (its_source m a source at from) ∙ its_source n b source other too));
    apart = λ m n a b source at other from same. never_both m n
        (sym (its_source m a source at from) ∙ ap name_of (sym same) ∙ its_dest n b other);
    kinds = λ n task at.
        let is = are.each n task at in of_kind n task.kind task.source task.dest task.moves is.from is.to is.stays;
    sizes = no_faults most tasks (λ n task at. (are.each n task at).few);
    few = count;
  }

pub replace : {most : ℕ} {tasks : List Task} → AreTasks most tasks → EachReplaces tasks
replace are n task at = (are.each n task at).replaces

-- ---- one more task

last_is : (most : ℕ) (tasks : List Task) (task : Task) (n : ℕ) (other : Task)
    → slice_get (tasks ++ task ∷ []) n ≡ Some other → n ≡ length tasks → IsTaskOf most (length tasks) task
    → IsTaskOf most n other
last_is most tasks task n other at last is =
    let there : slice_get (tasks ++ task ∷ []) (length tasks) ≡ Some other =
    subst (λ (k : ℕ). slice_get (tasks ++ task ∷ []) k ≡ Some other) last at in
    let same = some_is task other (sym (place_middle tasks task []) ∙ there) in
    subst (λ (k : ℕ). IsTaskOf most k other) (sym last) (subst (IsTaskOf most (length tasks)) same is)

pub one_more : (most : ℕ) (tasks : List Task) (task : Task) → AreTasks most tasks → IsTaskOf most (length tasks) task
    → AreTasks most (tasks ++ task ∷ [])
one_more most tasks task are is = record {
  each = λ n other at.
      let within = slice_get_within (tasks ++ task ∷ []) n other at in
      let long = length-append tasks (task ∷ []) in
      let up_to : n ≤ length tasks = omega (arith, within, long) in
      elim (eq-or-lt_of_le up_to) [
        | inl last ↦ last_is most tasks task n other at last is
        | inr before ↦ are.each n other (place_within_front tasks (task ∷ []) n other before at)
      ];
}
