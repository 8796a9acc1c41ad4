-- The stage of each act after one was changed.
use Rattle.std.proofs.Common.{length, length-set, ◌≡◌, ◌==◌, ◌&&◌, ◌∙◌, ℕ, Bool, true, false, replicate, refl, sym, ap, subst, if◌then◌else◌}
use Rattle.piece_stages.specs.declared.piece.PieceStages.{PieceStages}
use Rattle.piece_stages.specs.Pieces.{no_piece}
use Rattle.job_terms.specs.Ops.{is_op}
use Rattle.s3_model.specs.declared.requests.Op.{Op}
use Rattle.s3_model.specs.declared.requests.Op.TheVariants as op
use Rattle.task_acts.specs.declared.acts.Act.{Act}
use Rattle.task_acts.specs.declared.acts.Act.TheVariants as act
use Rattle.task_acts.specs.declared.acts.Stage.{Stage}
use Rattle.task_acts.specs.declared.acts.Stage.TheVariants as at
use Rattle.task_acts.specs.Histories.{is_act}
use Rattle.task_acts.specs.Work.{piece_op}
use Rattle.task_acts.specs.declared.work.Work.{Work}
use Rattle.task_stages.specs.Stages.{HasAct, HasPiece, SeenStages, no_single, piece_at, stage_by, with_piece, with_stage}
use Rattle.task_stages.proofs.PieceLemmas.{changed, none_at, sent, still}

-- ---- acts that a task has once

twice : (b : Bool) (x y z : Stage) → (if b then x else z) ≡ (if b then x else if b then y else z)
twice true x y z = refl
twice false x y z = refl

abbrev After : SeenStages → Act → Stage → Act → Type 0
After s a how b = stage_by (with_stage s a how) b ≡ (if is_act b a then how else stage_by s b)

create : (s : SeenStages) (how : Stage) (b : Act) → After s (act.Send op.Create 0) how b
create s how (act.Send op.Create n) = twice (n == 0) how s.singles.create at.Waiting
create s how b = refl

complete : (s : SeenStages) (how : Stage) (b : Act) → After s (act.Send op.Complete 0) how b
complete s how (act.Send op.Complete n) = twice (n == 0) how s.singles.complete at.Waiting
complete s how b = refl

abort : (s : SeenStages) (how : Stage) (b : Act) → After s (act.Send op.Abort 0) how b
abort s how (act.Send op.Abort n) = twice (n == 0) how s.singles.abort at.Waiting
abort s how b = refl

delete : (s : SeenStages) (how : Stage) (b : Act) → After s (act.Send op.Delete 0) how b
delete s how (act.Send op.Delete n) = twice (n == 0) how s.singles.delete at.Waiting
delete s how b = refl

assemble : (s : SeenStages) (how : Stage) (b : Act) → After s act.Assemble how b
assemble s how act.Assemble = refl
assemble s how b = refl

rename : (s : SeenStages) (how : Stage) (b : Act) → After s act.Rename how b
rename s how act.Rename = refl
rename s how b = refl

drop_temp : (s : SeenStages) (how : Stage) (b : Act) → After s act.DropTemp how b
drop_temp s how act.DropTemp = refl
drop_temp s how b = refl

remove : (s : SeenStages) (how : Stage) (b : Act) → After s act.Remove how b
remove s how act.Remove = refl
remove s how b = refl

stamp : (s : SeenStages) (how : Stage) (b : Act) → After s act.Stamp how b
stamp s how act.Stamp = refl
stamp s how b = refl

-- ---- acts of pieces

abbrev IsNoPieceOp : Op → Type 0
IsNoPieceOp op.Put = ⊥
IsNoPieceOp op.Part = ⊥
IsNoPieceOp op.Get = ⊥
IsNoPieceOp op.Copy = ⊥
IsNoPieceOp op.PartCopy = ⊥
IsNoPieceOp of_op = Unit {0}

apart_put : (b : Op) → IsNoPieceOp b → is_op b op.Put ≡ false
apart_put op.Put none = absurd none
apart_put op.Part none = absurd none
apart_put op.Get none = absurd none
apart_put op.Copy none = absurd none
apart_put op.PartCopy none = absurd none
apart_put b none = refl

apart_part : (b : Op) → IsNoPieceOp b → is_op b op.Part ≡ false
apart_part op.Put none = absurd none
apart_part op.Part none = absurd none
apart_part op.Get none = absurd none
apart_part op.Copy none = absurd none
apart_part op.PartCopy none = absurd none
apart_part b none = refl

apart_get : (b : Op) → IsNoPieceOp b → is_op b op.Get ≡ false
apart_get op.Put none = absurd none
apart_get op.Part none = absurd none
apart_get op.Get none = absurd none
apart_get op.Copy none = absurd none
apart_get op.PartCopy none = absurd none
apart_get b none = refl

apart_copy : (b : Op) → IsNoPieceOp b → is_op b op.Copy ≡ false
apart_copy op.Put none = absurd none
apart_copy op.Part none = absurd none
apart_copy op.Get none = absurd none
apart_copy op.Copy none = absurd none
apart_copy op.PartCopy none = absurd none
apart_copy b none = refl

apart_part_copy : (b : Op) → IsNoPieceOp b → is_op b op.PartCopy ≡ false
apart_part_copy op.Put none = absurd none
apart_part_copy op.Part none = absurd none
apart_part_copy op.Get none = absurd none
apart_part_copy op.Copy none = absurd none
apart_part_copy op.PartCopy none = absurd none
apart_part_copy b none = refl

module _ (s : SeenStages) (n : ℕ) (how : Stage) (has : HasPiece s n) where
  abbrev was : PieceStages
  was = piece_at s n

  -- a piece with the same stage of its request keeps all requests
  sends_stay : (piece : PieceStages) → piece.send ≡ was.send → (b : Op) (m : ℕ)
      → (if is_op b (piece_op s.work.of_kind s.work.small) then (piece_at (with_piece s n piece) m).send else at.Waiting)
      ≡ (if is_op b (piece_op s.work.of_kind s.work.small) then (piece_at s m).send else at.Waiting)
  sends_stay piece same b m =
      ap (λ (t : Stage). if is_op b (piece_op s.work.of_kind s.work.small) then t else at.Waiting) (still s n piece has (λ (p : PieceStages). p.send) same m)

  abbrev with_read : PieceStages
  with_read = record { read = how; send = was.send; place = was.place }

  read : (b : Act) → After s (act.Read n) how b
  read (act.Read m) = changed s n with_read has (λ (p : PieceStages). p.read) m
  read (act.Place m) = still s n with_read has (λ (p : PieceStages). p.place) refl m
  read (act.Send op.Put m) = sends_stay with_read refl op.Put m
  read (act.Send op.Part m) = sends_stay with_read refl op.Part m
  read (act.Send op.Get m) = sends_stay with_read refl op.Get m
  read (act.Send op.Copy m) = sends_stay with_read refl op.Copy m
  read (act.Send op.PartCopy m) = sends_stay with_read refl op.PartCopy m
  read b = refl

  abbrev with_place : PieceStages
  with_place = record { read = was.read; send = was.send; place = how }

  place : (b : Act) → After s (act.Place n) how b
  place (act.Place m) = changed s n with_place has (λ (p : PieceStages). p.place) m
  place (act.Read m) = still s n with_place has (λ (p : PieceStages). p.read) refl m
  place (act.Send op.Put m) = sends_stay with_place refl op.Put m
  place (act.Send op.Part m) = sends_stay with_place refl op.Part m
  place (act.Send op.Get m) = sends_stay with_place refl op.Get m
  place (act.Send op.Copy m) = sends_stay with_place refl op.Copy m
  place (act.Send op.PartCopy m) = sends_stay with_place refl op.PartCopy m
  place b = refl

  abbrev with_send : PieceStages
  with_send = record { read = was.read; send = how; place = was.place }

  -- the request of the piece, whose op is that one
  module _ (a : Op) (is : is_op a (piece_op s.work.of_kind s.work.small) ≡ true) where
    abbrev Sent : Op → ℕ → Type 0
    Sent b m = stage_by (with_piece s n with_send) (act.Send b m) ≡ (if is_op b a && (m == n) then how else stage_by s (act.Send b m))

    other : (b : Op) (m : ℕ) → is_op b a ≡ false → stage_by (with_piece s n with_send) (act.Send b m) ≡ stage_by s (act.Send b m) → Sent b m
    other b m apart same = same ∙ sym (ap (λ (x : Bool). if x && (m == n) then how else stage_by s (act.Send b m)) apart)

    by_op : ((b : Op) → IsNoPieceOp b → is_op b a ≡ false) → (b : Op) (m : ℕ) → Sent b m
    by_op apart op.Put m = sent s a op.Put n m how with_send refl is has
    by_op apart op.Part m = sent s a op.Part n m how with_send refl is has
    by_op apart op.Get m = sent s a op.Get n m how with_send refl is has
    by_op apart op.Copy m = sent s a op.Copy n m how with_send refl is has
    by_op apart op.PartCopy m = sent s a op.PartCopy n m how with_send refl is has
    by_op apart op.Head m = other op.Head m (apart op.Head tt) refl
    by_op apart op.Delete m = other op.Delete m (apart op.Delete tt) refl
    by_op apart op.Create m = other op.Create m (apart op.Create tt) refl
    by_op apart op.Complete m = other op.Complete m (apart op.Complete tt) refl
    by_op apart op.Abort m = other op.Abort m (apart op.Abort tt) refl
    by_op apart op.List m = other op.List m (apart op.List tt) refl
    by_op apart op.Buckets m = other op.Buckets m (apart op.Buckets tt) refl

  reads_stay : (m : ℕ) → (piece_at (with_piece s n with_send) m).read ≡ (piece_at s m).read
  reads_stay m = still s n with_send has (λ (p : PieceStages). p.read) refl m

  places_stay : (m : ℕ) → (piece_at (with_piece s n with_send) m).place ≡ (piece_at s m).place
  places_stay m = still s n with_send has (λ (p : PieceStages). p.place) refl m

  put : is_op op.Put (piece_op s.work.of_kind s.work.small) ≡ true → (b : Act) → After s (act.Send op.Put n) how b
  put is (act.Send b m) = by_op op.Put is apart_put b m
  put is (act.Read m) = reads_stay m
  put is (act.Place m) = places_stay m
  put is b = refl

  part : is_op op.Part (piece_op s.work.of_kind s.work.small) ≡ true → (b : Act) → After s (act.Send op.Part n) how b
  part is (act.Send b m) = by_op op.Part is apart_part b m
  part is (act.Read m) = reads_stay m
  part is (act.Place m) = places_stay m
  part is b = refl

  get : is_op op.Get (piece_op s.work.of_kind s.work.small) ≡ true → (b : Act) → After s (act.Send op.Get n) how b
  get is (act.Send b m) = by_op op.Get is apart_get b m
  get is (act.Read m) = reads_stay m
  get is (act.Place m) = places_stay m
  get is b = refl

  copy : is_op op.Copy (piece_op s.work.of_kind s.work.small) ≡ true → (b : Act) → After s (act.Send op.Copy n) how b
  copy is (act.Send b m) = by_op op.Copy is apart_copy b m
  copy is (act.Read m) = reads_stay m
  copy is (act.Place m) = places_stay m
  copy is b = refl

  part_copy : is_op op.PartCopy (piece_op s.work.of_kind s.work.small) ≡ true → (b : Act) → After s (act.Send op.PartCopy n) how b
  part_copy is (act.Send b m) = by_op op.PartCopy is apart_part_copy b m
  part_copy is (act.Read m) = reads_stay m
  part_copy is (act.Place m) = places_stay m
  part_copy is b = refl

-- ---- any act that the task has

at_zero : (s : SeenStages) (of_op : Op) (n : ℕ) (how : Stage) (b : Act) → n ≡ 0 → After s (act.Send of_op 0) how b → After s (act.Send of_op n) how b
at_zero s of_op n how b is h = subst (λ (k : ℕ). After s (act.Send of_op k) how b) (sym is) h

pub agrees : (s : SeenStages) (a b : Act) (how : Stage) → HasAct s a → stage_by (with_stage s a how) b ≡ (if is_act b a then how else stage_by s b)
agrees s (act.Send op.Create n) b how is = at_zero s op.Create n how b is (create s how b)
agrees s (act.Send op.Complete n) b how is = at_zero s op.Complete n how b is (complete s how b)
agrees s (act.Send op.Abort n) b how is = at_zero s op.Abort n how b is (abort s how b)
agrees s (act.Send op.Delete n) b how is = at_zero s op.Delete n how b is (delete s how b)
agrees s (act.Send op.Put n) b how is = put s n how is.1 is.0 b
agrees s (act.Send op.Part n) b how is = part s n how is.1 is.0 b
agrees s (act.Send op.Get n) b how is = get s n how is.1 is.0 b
agrees s (act.Send op.Copy n) b how is = copy s n how is.1 is.0 b
agrees s (act.Send op.PartCopy n) b how is = part_copy s n how is.1 is.0 b
agrees s (act.Send of_op n) b how is = absurd is
agrees s (act.Read n) b how is = read s n how is b
agrees s (act.Place n) b how is = place s n how is b
agrees s act.Assemble b how is = assemble s how b
agrees s act.Rename b how is = rename s how b
agrees s act.DropTemp b how is = drop_temp s how b
agrees s act.Remove b how is = remove s how b
agrees s act.Stamp b how is = stamp s how b

-- ---- nothing was given

same_either : (b : Bool) (x : Stage) → (if b then x else x) ≡ x
same_either true x = refl
same_either false x = refl

module _ (work : Work) (count : ℕ) where
  abbrev nothing : SeenStages
  nothing = record { work = work; singles = no_single; pieces = replicate count no_piece }

  unsent : (b : Bool) (number : ℕ) → (if b then (piece_at nothing number).send else at.Waiting) ≡ at.Waiting
  unsent b number = ap (λ (p : PieceStages). if b then p.send else at.Waiting) (none_at nothing count refl number) ∙ same_either b at.Waiting

  pub waits : (a : Act) → stage_by nothing a ≡ at.Waiting
  waits (act.Send op.Create n) = same_either (n == 0) at.Waiting
  waits (act.Send op.Complete n) = same_either (n == 0) at.Waiting
  waits (act.Send op.Abort n) = same_either (n == 0) at.Waiting
  waits (act.Send op.Delete n) = same_either (n == 0) at.Waiting
  waits (act.Send op.Put n) = unsent (is_op op.Put (piece_op work.of_kind work.small)) n
  waits (act.Send op.Part n) = unsent (is_op op.Part (piece_op work.of_kind work.small)) n
  waits (act.Send op.Get n) = unsent (is_op op.Get (piece_op work.of_kind work.small)) n
  waits (act.Send op.Copy n) = unsent (is_op op.Copy (piece_op work.of_kind work.small)) n
  waits (act.Send op.PartCopy n) = unsent (is_op op.PartCopy (piece_op work.of_kind work.small)) n
  waits (act.Read n) = ap (λ (p : PieceStages). p.read) (none_at nothing count refl n)
  waits (act.Place n) = ap (λ (p : PieceStages). p.place) (none_at nothing count refl n)
  waits a = refl

-- ---- no piece is added

pub same_many : (s : SeenStages) (a : Act) (how : Stage) → length ((with_stage s a how).pieces) ≡ length s.pieces
same_many s (act.Send op.Create n) how = refl
same_many s (act.Send op.Complete n) how = refl
same_many s (act.Send op.Abort n) how = refl
same_many s (act.Send op.Delete n) how = refl
same_many s (act.Send of_op n) how = length-set s.pieces _ _
same_many s (act.Read n) how = length-set s.pieces _ _
same_many s (act.Place n) how = length-set s.pieces _ _
same_many s a how = refl
