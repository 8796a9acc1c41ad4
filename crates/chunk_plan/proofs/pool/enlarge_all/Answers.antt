use Rattle.std.proofs.Common.{rules, ◌<◌, ◌≤◌, ℕ, List, length, get_or, set, max, arith}
use Rattle.std.proofs.lemmas.List.Elements.{All-set, AllWithin-more_set}
use Rattle.s3_model.specs.declared.bytes.Part.{Part}
use Rattle.chunk_plan.specs.Pool.{HaveAtMost, HaveRoom}
use Rattle.chunk_plan.proofs.pool.enlarge_all.Goals as goal

-- a part that is not smaller takes the place of one
rooms_kept : (parts : List Part) (i : ℕ) (old new : Part) (room : ℕ) → i < length parts → (get_or parts i old).bytes.room ≤ new.bytes.room → HaveRoom room parts
    → HaveRoom room (set parts i new)
rooms_kept parts i old new room inside larger rooms =
    let had = rooms i old inside in
    All-set (λ part. room ≤ part.bytes.room) parts i new (omega arith) rooms

-- nor one that is larger than each of them and a number
most_kept : (parts : List Part) (i : ℕ) (old new : Part) (bytes most : ℕ) → i < length parts → new.bytes.room ≤ max (get_or parts i old).bytes.room bytes → HaveAtMost (max most bytes) parts
    → HaveAtMost (max most bytes) (set parts i new)
most_kept parts i old new bytes most inside larger rooms =
    let had = rooms i old inside in
    All-set (λ part. part.bytes.room ≤ max most bytes) parts i new (omega arith) rooms

pub loop-part-init : goal.loop-part-init
loop-part-init c = record { kept = λ _ h. h; most = λ most h k d l. let had = h k d l in omega arith; enlarged = search rules }

pub returns-in_err-enlarge_part-clause-most : goal.returns-in_err-enlarge_part-clause-most
returns-in_err-enlarge_part-clause-most c = λ most h.
    most_kept c.loop-part.parts c.loop-part.part-index c.part-item.result c.enlarge_part.new.part c.args.bytes most (omega arith) c.enlarge_part.ensures.most
    (c.loop-part.invariant.most most h)

pub returns-in_err-enlarge_part-clause-kept : goal.returns-in_err-enlarge_part-clause-kept
returns-in_err-enlarge_part-clause-kept c = λ room h.
    rooms_kept c.loop-part.parts c.loop-part.part-index c.part-item.result c.enlarge_part.new.part room (omega arith) c.enlarge_part.ensures.kept
    (c.loop-part.invariant.kept room h)

pub loop-part-preserved : goal.loop-part-preserved
loop-part-preserved c = record {
  kept = λ room h.
      rooms_kept c.loop-part.parts c.loop-part.part-index c.part-item.result c.enlarge_part.new.part room (omega arith) c.enlarge_part.ensures.kept
      (c.loop-part.invariant.kept room h);
  most = λ most h.
      most_kept c.loop-part.parts c.loop-part.part-index c.part-item.result c.enlarge_part.new.part c.args.bytes most (omega arith) c.enlarge_part.ensures.most
      (c.loop-part.invariant.most most h);
  enlarged =
      AllWithin-more_set c.loop-part.parts c.loop-part.part-index c.enlarge_part.new.part (omega arith) (λ part. c.args.bytes ≤ part.bytes.room)
      c.loop-part.invariant.enlarged c.in_ok-enlarge_part.ensures.ok;
}
