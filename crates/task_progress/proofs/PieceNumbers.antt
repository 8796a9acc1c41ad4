-- The numbers of the pieces of a task.
use Rattle.std.proofs.Common.{◌≡◌, ◌==◌, ◌+◌, ◌<◌, ◌≤◌, ℕ, true, false, arith, inl, inr}
use Rattle.std.proofs.lemmas.Bool.{and_parts, eqb-true, ltb-true}
use Rattle.std.specs.Prelude.{nat_lt}
use Rattle.s3_model.specs.Parts.{HasPieces, IsTransfer}
use Rattle.s3_model.specs.declared.settings.Config.{Config}
use Rattle.s3_model.specs.declared.settings.Limits.{Limits}
use Rattle.s3_model.specs.declared.tasks.Kind.{Kind}
use Rattle.s3_model.specs.declared.tasks.Kind.TheVariants as kind
use Rattle.task_acts.specs.Work.{first_number, is_piece}
use Rattle.task_acts.specs.declared.work.Work.{Work}
use Rattle.task_progress.proofs.Endings.{chosen, skipped}

-- ---- numbers of pieces

module _ (w : Work) (m : ℕ) where
  inside : is_piece w m ≡ true → (first_number w ≤ m) × (m < first_number w + w.count)
  inside e =
      let two = and_parts (nat_lt m (first_number w + w.count)) (nat_lt (first_number w) (m + 1)) e in
      let below = ltb-true m (first_number w + w.count) two.0 in
      let above = ltb-true (first_number w) (m + 1) two.1 in
      (omega arith, below)

  pub only_piece : w.small ≡ true → w.count ≡ 1 → is_piece w m ≡ true → m ≡ 0
  only_piece small one e =
      let range = inside e in
      let first : first_number w ≡ 0 = chosen w.small 0 1 small in
      omega arith

  pub of_part : w.small ≡ false → is_piece w m ≡ true → (1 ≤ m) × (m ≤ w.count)
  of_part large e =
      let range = inside e in
      let first : first_number w ≡ 1 = skipped w.small 0 1 large in
      (omega arith, omega arith)

pub is_zero : (m : ℕ) → (m == 0) ≡ true → m ≡ 0
is_zero m e = eqb-true m 0 e

-- ---- how many

one_transfer : (config : Config) (limits : Limits) (size piece count : ℕ) → IsTransfer config limits size piece count → nat_lt size config.threshold ≡ true → count ≡ 1
one_transfer config limits size piece count (inl small) e = small.2
one_transfer config limits size piece count (inr large) e = let below = ltb-true size config.threshold e in let above = large.0 in absurd (omega arith)

pub one_piece : (config : Config) (limits : Limits) (k : Kind) (size piece count : ℕ) → HasPieces config limits k size piece count → nat_lt size config.threshold ≡ true → count ≡ 1
one_piece config limits kind.Upload size piece count has e = one_transfer config limits size piece count has e
one_piece config limits kind.Download size piece count has e = one_transfer config limits size piece count has e
one_piece config limits kind.Copy size piece count has e = one_transfer config limits size piece count has e
one_piece config limits kind.RemoveObject size piece count has e = has.1
one_piece config limits kind.RemoveFile size piece count has e = has.1
