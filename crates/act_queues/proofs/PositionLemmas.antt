-- The first place that passes one of two tests.
use Rattle.std.proofs.Common.{◌≡◌, ◌∙◌, ◌+◌, ◌||◌, ℕ, Bool, true, false, cond, not, List, [], ◌∷◌, Option, Some, None, length, map, min, nat_lt, replicate, set, zero, suc, refl, sym, ap, arith}
use Rattle.std.proofs.lemmas.List.{length-map, map-set}
use Rattle.std.specs.List.{position, position_or_len, prefix_len}
use Rattle.act_queues.specs.declared.act_queues.ActSort.{ActSort}
use Rattle.act_queues.specs.declared.act_queues.ActSort.TheVariants as sort
use Rattle.act_queues.specs.Sorts.{is_call, is_get, is_job, is_read, lesser, may_call, may_give}
use Rattle.number_sets.specs.Members.{is_set}

prefix_map : {X Y : Type 0} (p : Y → Bool) (f : X → Y) (xs : List X) → prefix_len p (map f xs) ≡ prefix_len (λ x. p (f x)) xs
prefix_map p f [] = refl
prefix_map p f (x ∷ xs) = ap (λ (n : ℕ). cond (p (f x)) (1 + n) 0) (prefix_map p f xs)

-- of a set of those that pass a test
pub passes : {X : Type 0} (f : X → Bool) (xs : List X) → position is_set (map f xs) ≡ position f xs
passes f xs =
    ap (λ (n : ℕ). cond (nat_lt n (length (map f xs))) (Some n) None) (prefix_map (λ (b : Bool). not b) f xs)
    ∙ ap (λ (n : ℕ). cond (nat_lt (position_or_len f xs) n) (Some (position_or_len f xs)) None) (length-map xs f)

step : (a b : Bool) (m n k : ℕ) → k ≡ min m n → cond (not (a || b)) (1 + k) 0 ≡ min (cond (not a) (1 + m) 0) (cond (not b) (1 + n) 0)
step true b m n k e = omega arith
step false true m n k e = omega arith
step false false m n k e = omega arith

least_of : {X : Type 0} (f g h : X → Bool) → ((x : X) → h x ≡ (f x || g x)) → (xs : List X) → position_or_len h xs ≡ min (position_or_len f xs) (position_or_len g xs)
least_of f g h is [] = refl
least_of f g h is (x ∷ xs) =
    ap (λ (b : Bool). cond (not b) (1 + position_or_len h xs) 0) (is x)
    ∙ step (f x) (g x) (position_or_len f xs) (position_or_len g xs) (position_or_len h xs) (least_of f g h is xs)

abbrev below : (n k : ℕ) → Option ℕ
below n k = cond (nat_lt k n) (Some k) None

lesser_below : (n a b k : ℕ) → k ≡ min a b → lesser (below n a) (below n b) ≡ below n k
lesser_below n a b k e = grind arith

pub either : {X : Type 0} (f g h : X → Bool) → ((x : X) → h x ≡ (f x || g x)) → (xs : List X) → lesser (position f xs) (position g xs) ≡ position h xs
either f g h is xs = lesser_below (length xs) (position_or_len f xs) (position_or_len g xs) (position_or_len h xs) (least_of f g h is xs)

same_place : {X : Type 0} (f g : X → Bool) → ((x : X) → f x ≡ g x) → (xs : List X) → position_or_len f xs ≡ position_or_len g xs
same_place f g is [] = refl
same_place f g is (x ∷ xs) =
    ap (λ (b : Bool). cond (not b) (1 + position_or_len f xs) 0) (is x)
    ∙ ap (λ (n : ℕ). cond (not (g x)) (1 + n) 0) (same_place f g is xs)

pub same : {X : Type 0} (f g : X → Bool) → ((x : X) → f x ≡ g x) → (xs : List X) → position f xs ≡ position g xs
same f g is xs = ap (λ (n : ℕ). below (length xs) n) (same_place f g is xs)

whole : {X : Type 0} (xs : List X) → position_or_len (λ (x : X). false) xs ≡ length xs
whole [] = refl
whole (x ∷ xs) = ap (λ (n : ℕ). 1 + n) (whole xs) ∙ omega arith

past : (n : ℕ) → below n n ≡ None
past n = grind arith

pub never : {X : Type 0} (f : X → Bool) → ((x : X) → f x ≡ false) → (xs : List X) → None ≡ position f xs
never f is xs = sym (same f (λ x. false) is xs ∙ ap (λ (n : ℕ). below (length xs) n) (whole xs) ∙ past (length xs))

pub all_of : {X Y : Type 0} (f : X → Y) (n : ℕ) (x : X) → replicate n (f x) ≡ map f (replicate n x)
all_of f zero x = refl
all_of f (suc n) x = ap (λ (ys : List _). f x ∷ ys) (all_of f n x)

-- ---- tasks

module _ (sorts : List (Option ActSort)) where
  first_of_either : (f g h : Option ActSort → Bool) → ((x : Option ActSort) → h x ≡ (f x || g x)) → (a b : List Bool) → a ≡ map f sorts → b ≡ map g sorts
      → lesser (position is_set a) (position is_set b) ≡ position h sorts
  first_of_either f g h is a b e k =
      ap (λ (xs : List Bool). lesser (position is_set xs) (position is_set b)) e
      ∙ ap (λ (xs : List Bool). lesser (position is_set (map f sorts)) (position is_set xs)) k
      ∙ ap (λ (o : Option ℕ). lesser o (position is_set (map g sorts))) (passes f sorts)
      ∙ ap (λ (o : Option ℕ). lesser (position f sorts) o) (passes g sorts)
      ∙ either f g h is sorts

  first_of_one : (f h : Option ActSort → Bool) → ((x : Option ActSort) → f x ≡ h x) → (a : List Bool) → a ≡ map f sorts → position is_set a ≡ position h sorts
  first_of_one f h is a e = ap (λ (xs : List Bool). position is_set xs) e ∙ passes f sorts ∙ same f h is sorts

  call_or_read : (x : Option ActSort) → may_call true x ≡ (is_call x || is_read x)
  call_or_read None = refl
  call_or_read (Some sort.Call) = refl
  call_or_read (Some sort.Read) = refl
  call_or_read (Some sort.Job) = refl
  call_or_read (Some sort.Get) = refl

  call_alone : (x : Option ActSort) → is_call x ≡ may_call false x
  call_alone None = refl
  call_alone (Some sort.Call) = refl
  call_alone (Some sort.Read) = refl
  call_alone (Some sort.Job) = refl
  call_alone (Some sort.Get) = refl

  job_or_get : (x : Option ActSort) → may_give true true x ≡ (is_job x || is_get x)
  job_or_get None = refl
  job_or_get (Some sort.Call) = refl
  job_or_get (Some sort.Read) = refl
  job_or_get (Some sort.Job) = refl
  job_or_get (Some sort.Get) = refl

  job_alone : (x : Option ActSort) → is_job x ≡ may_give true false x
  job_alone None = refl
  job_alone (Some sort.Call) = refl
  job_alone (Some sort.Read) = refl
  job_alone (Some sort.Job) = refl
  job_alone (Some sort.Get) = refl

  no_room : (has_part : Bool) (x : Option ActSort) → may_give false has_part x ≡ false
  no_room has_part None = refl
  no_room has_part (Some sort.Call) = refl
  no_room has_part (Some sort.Read) = refl
  no_room has_part (Some sort.Job) = refl
  no_room has_part (Some sort.Get) = refl

  pub call_free : (calls reads : List Bool) → calls ≡ map is_call sorts → reads ≡ map is_read sorts → lesser (position is_set calls) (position is_set reads) ≡ position (may_call true) sorts
  call_free calls reads e k = first_of_either is_call is_read (may_call true) call_or_read calls reads e k

  pub call_full : (calls : List Bool) → calls ≡ map is_call sorts → position is_set calls ≡ position (may_call false) sorts
  call_full calls e = first_of_one is_call (may_call false) call_alone calls e

  pub giving_free : (jobs gets : List Bool) → jobs ≡ map is_job sorts → gets ≡ map is_get sorts → lesser (position is_set jobs) (position is_set gets) ≡ position (may_give true true) sorts
  giving_free jobs gets e k = first_of_either is_job is_get (may_give true true) job_or_get jobs gets e k

  pub giving_full : (jobs : List Bool) → jobs ≡ map is_job sorts → position is_set jobs ≡ position (may_give true false) sorts
  giving_full jobs e = first_of_one is_job (may_give true false) job_alone jobs e

  pub no_giving : (has_part : Bool) → None ≡ position (may_give false has_part) sorts
  no_giving has_part = never (may_give false has_part) (no_room has_part) sorts

  -- one task's act is another one by now
  pub changed : (f : Option ActSort → Bool) (task : ℕ) (now : Option ActSort) (flag : Bool) (set_of : List Bool) → set_of ≡ map f sorts → flag ≡ f now → set set_of task flag ≡ map f (set sorts task now)
  changed f task now flag set_of e is =
      ap (λ (xs : List Bool). set xs task flag) e ∙ ap (λ (b : Bool). set (map f sorts) task b) is ∙ sym (map-set f sorts task now)
