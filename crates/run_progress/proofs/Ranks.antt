-- The acts of a task stand by rank: calls on files and single jobs first, the Gets of pieces by their numbers, reads last.
use Rattle.std.proofs.Common.{◌≡◌, ◌∙◌, ◌+◌, ◌++◌, ◌≤◌, ℕ, zero, suc, Bool, true, false, List, [], ◌∷◌, Some, refl, sym, subst, ap, arith, inl, inr, map}
use Rattle.std.specs.List.{find, range_with_len}
use Rattle.std.specs.Prelude.{if◌then◌else◌}
use Rattle.job_terms.specs.Ops.{is_op}
use Rattle.s3_model.specs.declared.requests.Op.{Op}
use Rattle.s3_model.specs.declared.requests.Op.TheVariants as op
use Rattle.task_acts.specs.declared.acts.Act.{Act}
use Rattle.task_acts.specs.declared.acts.Act.TheVariants as act
use Rattle.task_acts.specs.declared.work.Work.{Work}
use Rattle.task_acts.specs.Rule.{acts_of, file_acts, piece_sends, reads, single_sends}
use Rattle.task_acts.specs.Work.{first_number, numbers, piece_op}
use Rattle.shared_lemmas.proofs.Members.{Has}
use Rattle.task_progress.proofs.Endings.{no}
use Rattle.manager_moves.proofs.PartLaws.{same_value}

module _ (rank : Act → ℕ) where
  abbrev pub AtLeast : ℕ → List Act → Type 0
  AtLeast r [] = Unit {0}
  AtLeast r (x ∷ xs) = (r ≤ rank x) × AtLeast r xs

  abbrev pub AtMost : ℕ → List Act → Type 0
  AtMost r [] = Unit {0}
  AtMost r (x ∷ xs) = (rank x ≤ r) × AtMost r xs

  abbrev pub Sorted : List Act → Type 0
  Sorted [] = Unit {0}
  Sorted (x ∷ xs) = AtLeast (rank x) xs × Sorted xs

  lower : (r q : ℕ) (xs : List Act) → q ≤ r → AtLeast r xs → AtLeast q xs
  lower r q [] less h = tt
  lower r q (x ∷ xs) less h = let here = h.0 in (omega arith, lower r q xs less h.1)

  higher : (r q : ℕ) (xs : List Act) → r ≤ q → AtMost r xs → AtMost q xs
  higher r q [] less h = tt
  higher r q (x ∷ xs) less h = let here = h.0 in (omega arith, higher r q xs less h.1)

  joined_least : (r : ℕ) (xs ys : List Act) → AtLeast r xs → AtLeast r ys → AtLeast r (xs ++ ys)
  joined_least r [] ys a b = b
  joined_least r (x ∷ xs) ys a b = (a.0, joined_least r xs ys a.1 b)

  joined_most : (r : ℕ) (xs ys : List Act) → AtMost r xs → AtMost r ys → AtMost r (xs ++ ys)
  joined_most r [] ys a b = b
  joined_most r (x ∷ xs) ys a b = (a.0, joined_most r xs ys a.1 b)

  joined : (m : ℕ) (xs ys : List Act) → Sorted xs → Sorted ys → AtMost m xs → AtLeast m ys → Sorted (xs ++ ys)
  joined m [] ys a b most least = b
  joined m (x ∷ xs) ys a b most least = (joined_least (rank x) xs ys a.0 (lower m (rank x) ys most.0 least), joined m xs ys a.1 b most.1 least)

  least_has : (r : ℕ) (xs : List Act) (x : Act) → AtLeast r xs → Has xs x → r ≤ rank x
  least_has r [] x h known = absurd known
  least_has r (y ∷ ys) x h (inl same) = subst (λ (z : Act). r ≤ rank z) same h.0
  least_has r (y ∷ ys) x h (inr known) = least_has r ys x h.1 known

  -- what is found first has the least rank of all that pass
  pub found_least : (p : Act → Bool) (xs : List Act) (x y : Act) → Sorted xs → find p xs ≡ Some x → Has xs y → p y ≡ true → rank x ≤ rank y
  found_least p [] x y sorted e known passes = absurd known
  found_least p (z ∷ zs) x y sorted e known passes = by (p z) refl e known (λ f g. found_least p zs x y sorted.1 f g passes)
    where
      by : (b : Bool) → p z ≡ b → (if b then Some z else find p zs) ≡ Some x → Has (z ∷ zs) y → (find p zs ≡ Some x → Has zs y → rank x ≤ rank y) → rank x ≤ rank y
      by true q f (inl same) rest = subst (λ (v : Act). rank v ≤ rank y) (same_value f) (subst (λ (v : Act). rank z ≤ rank v) same (omega arith))
      by true q f (inr known) rest = subst (λ (v : Act). rank v ≤ rank y) (same_value f) (least_has (rank z) zs y sorted.0 known)
      by false q f (inl same) rest = no (sym q ∙ ap p same ∙ passes)
      by false q f (inr known) rest = rest f known

-- ---- the acts of a task

-- above the rank of each Get of a piece
abbrev pub last_rank : Work → ℕ
last_rank w = suc (first_number w + w.count)

abbrev pub rank : Work → Act → ℕ
rank w (act.Send o k) = if is_op o op.Get then suc k else 0
rank w (act.Read k) = last_rank w
rank w a = 0

module _ (w : Work) where
  places : (start count : ℕ) → Sorted (rank w) (map (λ (k : ℕ). act.Place k) (range_with_len start count)) × AtMost (rank w) 0 (map (λ (k : ℕ). act.Place k) (range_with_len start count))
      × AtLeast (rank w) 0 (map (λ (k : ℕ). act.Place k) (range_with_len start count))
  places start zero = (tt, tt, tt)
  places start (suc count) = let rest = places (start + 1) count in ((rest.2, rest.0), (omega arith, rest.1), (omega arith, rest.2))

  read_ranks : (start count : ℕ) → Sorted (rank w) (map (λ (k : ℕ). act.Read k) (range_with_len start count)) × AtLeast (rank w) (last_rank w) (map (λ (k : ℕ). act.Read k) (range_with_len start count))
  read_ranks start zero = (tt, tt)
  read_ranks start (suc count) = let rest = read_ranks (start + 1) count in ((rest.1, rest.0), (omega arith, rest.1))

  -- the requests of pieces, by whether they are Gets
  send_ranks : (o : Op) (b : Bool) → is_op o op.Get ≡ b → (start count : ℕ) → Sorted (rank w) (map (λ (k : ℕ). act.Send o k) (range_with_len start count))
      × AtMost (rank w) (start + count) (map (λ (k : ℕ). act.Send o k) (range_with_len start count))
      × AtLeast (rank w) (if b then suc start else 0) (map (λ (k : ℕ). act.Send o k) (range_with_len start count))
  send_ranks o b e start zero = (tt, tt, tt)
  send_ranks o true e start (suc count) =
      let rest = send_ranks o true e (start + 1) count in
      let here : rank w (act.Send o start) ≡ suc start = ap (λ (x : Bool). if x then suc start else 0) e in (
        (lower (rank w) (suc (start + 1)) (rank w (act.Send o start)) _ (omega arith) rest.2, rest.0),
        (omega arith, higher (rank w) (start + 1 + count) (start + suc count) _ (omega arith) rest.1),
        (omega arith, lower (rank w) (suc (start + 1)) (suc start) _ (omega arith) rest.2),
      )
  send_ranks o false e start (suc count) =
      let rest = send_ranks o false e (start + 1) count in
      let here : rank w (act.Send o start) ≡ 0 = ap (λ (x : Bool). if x then suc start else 0) e in (
        (lower (rank w) 0 (rank w (act.Send o start)) _ (omega arith) rest.2, rest.0),
        (omega arith, higher (rank w) (start + 1 + count) (start + suc count) _ (omega arith) rest.1),
        (omega arith, rest.2),
      )

  file_ranks : Sorted (rank w) (file_acts w) × AtMost (rank w) 0 (file_acts w)
  file_ranks =
      let rest = places (first_number w) w.count in
      let five : AtLeast (rank w) 0 (map (λ (k : ℕ). act.Place k) (numbers w)) = rest.2 in (
        (
          (omega arith, (omega arith, (omega arith, (omega arith, five)))),
          ((omega arith, (omega arith, (omega arith, five))), ((omega arith, (omega arith, five)), ((omega arith, five), (five, rest.0)))),
        ),
        (omega arith, (omega arith, (omega arith, (omega arith, (omega arith, rest.1))))),
      )

  single_ranks : Sorted (rank w) single_sends × AtMost (rank w) 0 single_sends × AtLeast (rank w) 0 single_sends
  single_ranks = (
    ((omega arith, (omega arith, (omega arith, tt))), ((omega arith, (omega arith, tt)), ((omega arith, tt), (tt, tt)))),
    (omega arith, (omega arith, (omega arith, (omega arith, tt)))),
    (omega arith, (omega arith, (omega arith, (omega arith, tt)))),
  )

  pub acts_sorted : Sorted (rank w) (acts_of w)
  acts_sorted =
      let sends = send_ranks (piece_op w.of_kind w.small) (is_op (piece_op w.of_kind w.small) op.Get) refl (first_number w) w.count in
      let above = read_ranks (first_number w) w.count in
      let calls_most : AtMost (rank w) 0 (file_acts w ++ single_sends) = joined_most (rank w) 0 (file_acts w) single_sends file_ranks.1 single_ranks.1 in
      let calls : Sorted (rank w) (file_acts w ++ single_sends) = joined (rank w) 0 (file_acts w) single_sends file_ranks.0 single_ranks.0 file_ranks.1 single_ranks.2 in
      let sends_least : AtLeast (rank w) 0 (piece_sends w) = lower (rank w) _ 0 (piece_sends w) (omega arith) sends.2 in
      let jobs : Sorted (rank w) ((file_acts w ++ single_sends) ++ piece_sends w) = joined (rank w) 0 (file_acts w ++ single_sends) (piece_sends w) calls sends.0 calls_most sends_least in
      let jobs_most : AtMost (rank w) (first_number w + w.count) ((file_acts w ++ single_sends) ++ piece_sends w) =
      joined_most (rank w) (first_number w + w.count) (file_acts w ++ single_sends) (piece_sends w) (higher (rank w) 0 (first_number w + w.count) (file_acts w ++ single_sends) (omega arith) calls_most) sends.1 in
      joined (rank w) (first_number w + w.count) ((file_acts w ++ single_sends) ++ piece_sends w) (reads w) jobs above.0 jobs_most (lower (rank w) (last_rank w) (first_number w + w.count) (reads w) (omega arith) above.1)
