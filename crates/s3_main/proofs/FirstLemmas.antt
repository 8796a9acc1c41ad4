-- The first of the wires of a run, and the others.
use Rattle.std.proofs.Common.{◌≡◌, ◌≤◌, ℕ, List, [], ◌∷◌, Option, Some, None, refl, sym, subst, inl, arith, drop, length, get_or, slice_set}
use Rattle.job_terms.proofs.GainLemmas.{gains_as}
use Rattle.job_terms.specs.Attempts.{in_first}
use Rattle.job_terms.specs.Gains.{Gains}
use Rattle.run_show.specs.Listings.{OnFirstAlone}
use Rattle.s3_model.specs.Talks.{Talk, Note, WireLog}
use Rattle.s3_outside.specs.Env.{SeenEnv}
use Rattle.upload_promise.proofs.WireLemmas.{beyond_first}
use Rattle.s3_main.specs.Wires.{AllGain, OnEach, OnFirst, OnWires}

-- ---- the first was written, and no other

module _ {W : Type 0} where
  pub on_first : (xs : List W) (before after : W) (P : W → W → Type 0) → 1 ≤ length xs → before ≡ get_or xs 0 before → P before after → OnFirst xs (slice_set xs 0 after) P
  on_first [] before after P some is holds = absurd (omega (arith, some))
  on_first (x ∷ xs) before after P some is holds = subst (λ w. P w after) is holds

  pub others_stay : (xs : List W) (after : W) → 1 ≤ length xs → drop 1 (slice_set xs 0 after) ≡ drop 1 xs
  others_stay [] after some = absurd (omega (arith, some))
  others_stay (x ∷ xs) after some = refl

  -- what holds of all that stay holds of each
  pub each_same : (P : W → W → Type 0) → ((w : W) → P w w) → (xs : List W) → OnEach xs xs P
  each_same P same [] = tt
  each_same P same (x ∷ xs) = (same x, each_same P same xs)

  pub on_each : (xs : List W) (before after : W) (P : W → W → Type 0) → ((w : W) → P w w) → 1 ≤ length xs → before ≡ get_or xs 0 before → P before after → OnEach xs (slice_set xs 0 after) P
  on_each [] before after P same some is holds = absurd (omega (arith, some))
  on_each (x ∷ xs) before after P same some is holds = (subst (λ w. P w after) is holds, each_same P same xs)

  -- ---- none was written

  pub first_same : (xs : List W) (P : W → W → Type 0) → 1 ≤ length xs → ((w : W) → P w w) → OnFirst xs xs P
  first_same [] P some same = absurd (omega (arith, some))
  first_same (x ∷ xs) P some same = same x

  -- ---- the first was lent, and came back

  pub first_as : (before after : List W) (P Q : W → W → Type 0) → ((was now : W) → P was now → Q was now) → OnFirst before after P → OnFirst before after Q
  first_as [] after P Q so on = absurd on
  first_as (was ∷ before) [] P Q so on = absurd on
  first_as (was ∷ before) (now ∷ after) P Q so on = so was now on

  -- what the first says of no wire
  pub first_says : (before after : List W) (P : W → W → Type 0) (Q : Type 0) → ((was now : W) → P was now → Q) → OnFirst before after P → Q
  first_says [] after P Q so on = absurd on
  first_says (was ∷ before) [] P Q so on = absurd on
  first_says (was ∷ before) (now ∷ after) P Q so on = so was now on

  pub alone_first : (before after : List W) (P Q : W → W → Type 0) → ((was now : W) → P was now → Q was now) → OnFirstAlone before after P → OnFirst before after Q
  alone_first [] after P Q so on = absurd on
  alone_first (was ∷ before) [] P Q so on = absurd on
  alone_first (was ∷ before) (now ∷ after) P Q so on = so was now on.0

  pub alone_others : (before after : List W) (P : W → W → Type 0) → OnFirstAlone before after P → drop 1 after ≡ drop 1 before
  alone_others [] after P on = absurd on
  alone_others (was ∷ before) [] P on = absurd on
  alone_others (was ∷ before) (now ∷ after) P on = on.1

  pub alone_each : (before after : List W) (P : W → W → Type 0) → ((w : W) → P w w) → OnFirstAlone before after P → OnEach before after P
  alone_each [] after P same on = absurd on
  alone_each (was ∷ before) [] P same on = absurd on
  alone_each (was ∷ before) (now ∷ after) P same on = (on.0, subst (λ (rest : List W). OnEach before rest P) (sym on.1) (each_same P same before))

-- ---- what the one wire gained that was used

all_gain : (was now : Option WireLog) (Q : (ℕ → List Talk) → (ℕ → List Note) → Type 0) → Gains was now (λ talks notes. Q (in_first talks) (in_first notes)) → AllGain (was ∷ []) (now ∷ []) Q
all_gain was None Q gained = tt
all_gain None (Some now) Q gained = absurd gained
all_gain (Some was) (Some now) Q (talks, notes, of_talks, of_notes, holds) = (
  in_first talks,
  in_first notes,
  ((talks, notes, of_talks, of_notes, (refl, refl)), λ lane beyond. (beyond_first talks lane beyond, beyond_first notes lane beyond)),
  holds,
)

pub on_used : {W : Type 0} (words : List (List ℕ)) (env : Option SeenEnv) (seen : W → Option WireLog) (before after : List W) (P : List Talk → List Note → Type 0)
    (Q : (ℕ → List Talk) → (ℕ → List Note) → Type 0) → ((talks : List Talk) (notes : List Note) → P talks notes → Q (in_first talks) (in_first notes))
    → OnFirst before after (λ was now. Gains (seen was) (seen now) P) → drop 1 after ≡ drop 1 before → OnWires words env seen before after Q
on_used words env seen [] after P Q so gained others = absurd gained
on_used words env seen (was ∷ before) [] P Q so gained others = absurd gained
on_used words env seen (was ∷ before) (now ∷ after) P Q so gained others = (
  1,
  inl (omega arith),
  (all_gain (seen was) (seen now) Q (gains_as P (λ talks notes. Q (in_first talks) (in_first notes)) so (seen was) (seen now) gained), others),
)
