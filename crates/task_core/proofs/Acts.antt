-- The acts that a task has: those that are out, and those that are ready.
use Rattle.std.proofs.Common.{◌≡◌, ◌∙◌, ◌<◌, ◌≤◌, ◌+◌, ◌-◌, ◌==◌, ◌&&◌, ◌||◌, ℕ, Bool, true, false, not, List, [], ◌∷◌, Option, Some, None, IfSome, cond, is_some, length, length-set, nat_lt, refl, sym, ap, subst, arith, inl, inr, if◌then◌else◌}
use Rattle.std.specs.List.{find}
use Rattle.std.proofs.lemmas.Bool.{and_parts, cases_lt, eqb-true, le-ltb, lt-ltb}
use Rattle.jobs.specs.Endings.{IsEnded, SeenCarried}
use Rattle.jobs.specs.declared.ending.Ending.{Ending}
use Rattle.jobs.specs.declared.ending.Ending.TheVariants as ending
use Rattle.kept_jobs.specs.Slots.{HasSlot, SeenKept, piece_slot, rank, slot, slots}
use Rattle.kept_jobs.specs.Tags.{HasPart, SeenTags}
use Rattle.piece_stages.specs.declared.piece.PieceStages.{PieceStages}
use Rattle.job_terms.specs.Ops.{is_op}
use Rattle.s3_model.specs.declared.requests.Op.{Op}
use Rattle.s3_model.specs.declared.requests.Op.TheVariants as op
use Rattle.s3_model.specs.declared.tasks.Kind.{Kind}
use Rattle.s3_model.specs.declared.tasks.Kind.TheVariants as kind
use Rattle.task_acts.specs.declared.acts.Act.{Act}
use Rattle.task_acts.specs.declared.acts.Act.TheVariants as act
use Rattle.task_acts.specs.declared.acts.Stage.{Stage}
use Rattle.task_acts.specs.declared.acts.Stage.TheVariants as at
use Rattle.task_acts.specs.declared.work.Work.{Work}
use Rattle.task_acts.specs.Failures.{is_cut_short, is_unfinished}
use Rattle.task_acts.specs.Rule.{acts_of, first_ready, is_ready}
use Rattle.task_acts.specs.Stages.{is_out, may_be_given}
use Rattle.task_acts.specs.Work.{first_number, is_piece, piece_op}
use Rattle.task_causes.specs.Pieces.{HasNumber}
use Rattle.task_stages.specs.Stages.{HasAct, HasPiece, HasSend, SeenStages, piece_at, piece_count, removes, stage_by}
use Rattle.task_stages.proofs.PieceLemmas.{before_first, past}
use Rattle.task_core.specs.Machine.{HasTags, IsNumbered, IsSound, SeenTask}
use Rattle.std.proofs.lemmas.List.{length-replicate}
use Rattle.task_core.specs.Steps.{IsCameAt, is_part, tagged}
use Rattle.kept_jobs.proofs.SlotLemmas.{same_op}
use Rattle.task_readiness.specs.Readiness.{has_parts}

clash : {P : Type 0} → false ≡ true → P
clash e = cc

-- ---- what is out

in_range : (s : SeenStages) (n : ℕ) (out : PieceStages → Bool) → out Rattle.piece_stages.specs.Pieces.no_piece ≡ false → out (piece_at s n) ≡ true → HasPiece s n
in_range s n out none is = elim (cases_lt n (first_number s.work)) [
  | inl below ↦ clash (sym none ∙ sym (ap out (before_first s n below)) ∙ is)
  | inr from ↦ elim (cases_lt (n - first_number s.work) (length s.pieces)) [
    | inl inside ↦ (from, omega arith)
    | inr end ↦ clash (sym none ∙ sym (ap out (past s n from end)) ∙ is)
  ]
]

single : (n : ℕ) (b : Bool) (how : Stage) → (n == 0) ≡ b → is_out (if b then how else at.Waiting) ≡ true → n ≡ 0
single n true how e is = eqb-true n 0 e
single n false how e is = clash is

sent : (s : SeenStages) (o : Op) (n : ℕ) (b : Bool) → is_op o (piece_op s.work.of_kind s.work.small) ≡ b → is_out (if b then (piece_at s n).send else at.Waiting) ≡ true → HasSend s o n
sent s o n true e is = (e, in_range s n (λ p. is_out p.send) refl is)
sent s o n false e is = clash is

pub out_has : (s : SeenStages) (a : Act) → is_out (stage_by s a) ≡ true → HasAct s a
out_has s (act.Send op.Create n) is = single n (n == 0) s.singles.create refl is
out_has s (act.Send op.Complete n) is = single n (n == 0) s.singles.complete refl is
out_has s (act.Send op.Abort n) is = single n (n == 0) s.singles.abort refl is
out_has s (act.Send op.Delete n) is = single n (n == 0) s.singles.delete refl is
out_has s (act.Send op.Put n) is = sent s op.Put n (is_op op.Put (piece_op s.work.of_kind s.work.small)) refl is
out_has s (act.Send op.Part n) is = sent s op.Part n (is_op op.Part (piece_op s.work.of_kind s.work.small)) refl is
out_has s (act.Send op.Get n) is = sent s op.Get n (is_op op.Get (piece_op s.work.of_kind s.work.small)) refl is
out_has s (act.Send op.Copy n) is = sent s op.Copy n (is_op op.Copy (piece_op s.work.of_kind s.work.small)) refl is
out_has s (act.Send op.PartCopy n) is = sent s op.PartCopy n (is_op op.PartCopy (piece_op s.work.of_kind s.work.small)) refl is
out_has s (act.Send o n) is = clash is
out_has s (act.Read n) is = in_range s n (λ p. is_out p.read) refl is
out_has s (act.Place n) is = in_range s n (λ p. is_out p.place) refl is
out_has s a is = tt

-- ---- what is ready

last : (a b : Bool) → a && b ≡ true → b ≡ true
last a b e = (and_parts a b e).1

front : (a b : Bool) → a && b ≡ true → a ≡ true
front a b e = (and_parts a b e).0

piece_there : (w : Work) (n : ℕ) → is_piece w n ≡ true → (first_number w ≤ n) × (n < first_number w + w.count)
piece_there w n e =
    let h = and_parts (nat_lt n (first_number w + w.count)) (nat_lt (first_number w) (n + 1)) e in (
      elim (cases_lt (first_number w) (n + 1)) [
        | inl below ↦ omega arith
        | inr from ↦ clash (sym (le-ltb (first_number w) (n + 1) from) ∙ h.1)
      ],
      elim (cases_lt n (first_number w + w.count)) [
        | inl below ↦ below
        | inr from ↦ clash (sym (le-ltb n (first_number w + w.count) from) ∙ h.0)
      ],
    )

module _ (moves : Bool) (size piece count attempts : ℕ) (singles : Rattle.task_stages.specs.declared.singles.Singles.Singles) (pieces : List PieceStages) where
  abbrev w_of : Kind → (small : Bool) → Work
  w_of k small = record { of_kind = k; moves = moves; small = small; size = size; piece = piece; count = count; attempts = attempts }

  abbrev s_of : Kind → (small : Bool) → SeenStages
  s_of k small = record { work = w_of k small; singles = singles; pieces = pieces }

  abbrev Due : Kind → (small : Bool) → Act → Type 0
  Due k small a = Rattle.task_acts.specs.Rule.is_due (w_of k small) (stage_by (s_of k small)) false k a ≡ true

  here : (k : Kind) (small : Bool) (n : ℕ) → length pieces ≡ count → is_piece (w_of k small) n ≡ true → HasPiece (s_of k small) n
  here k small n long e = let h = piece_there (w_of k small) n e in (h.0, omega (arith, h.1, long))

  due_has : (k : Kind) (small : Bool) (a : Act) → length pieces ≡ piece_count (w_of k small) → Due k small a → HasAct (s_of k small) a
  due_has kind.Upload small (act.Read n) long e = here kind.Upload small n long (front (is_piece (w_of kind.Upload small) n) _ e)
  due_has kind.Upload true (act.Send op.Put n) long e = (refl, here kind.Upload true n long (front (is_piece (w_of kind.Upload true) n) _ e))
  due_has kind.Upload false (act.Send op.Put n) long e = clash e
  due_has kind.Upload small (act.Send op.Create n) long e = eqb-true n 0 (last (not small) (n == 0) e)
  due_has kind.Upload true (act.Send op.Part n) long e = clash e
  due_has kind.Upload false (act.Send op.Part n) long e = (refl, here kind.Upload false n long (front (is_piece (w_of kind.Upload false) n) _ e))
  due_has kind.Upload true (act.Send op.Complete n) long e = clash e
  due_has kind.Upload false (act.Send op.Complete n) long e = eqb-true n 0 (front (n == 0) _ (front _ _ e))
  due_has kind.Upload small act.Remove long e = tt
  due_has kind.Download small act.Assemble long e = tt
  due_has kind.Download small (act.Send op.Get n) long e = (refl, here kind.Download small n long (front (is_piece (w_of kind.Download small) n) _ e))
  due_has kind.Download small (act.Place n) long e = here kind.Download small n long (front (is_piece (w_of kind.Download small) n) _ e)
  due_has kind.Download small act.Rename long e = tt
  due_has kind.Download small (act.Send op.Delete n) long e = eqb-true n 0 (last moves (n == 0) (front _ _ e))
  due_has kind.Copy true (act.Send op.Copy n) long e = (refl, here kind.Copy true n long e)
  due_has kind.Copy false (act.Send op.Copy n) long e = clash e
  due_has kind.Copy small (act.Send op.Create n) long e = eqb-true n 0 (last (not small) (n == 0) e)
  due_has kind.Copy true (act.Send op.PartCopy n) long e = clash e
  due_has kind.Copy false (act.Send op.PartCopy n) long e = (refl, here kind.Copy false n long (front (is_piece (w_of kind.Copy false) n) _ e))
  due_has kind.Copy true (act.Send op.Complete n) long e = clash e
  due_has kind.Copy false (act.Send op.Complete n) long e = eqb-true n 0 (front (n == 0) _ (front _ _ e))
  due_has kind.Copy small (act.Send op.Delete n) long e = eqb-true n 0 (last moves (n == 0) (front _ _ e))
  due_has kind.RemoveObject small (act.Send op.Delete n) long e = eqb-true n 0 e
  due_has kind.RemoveFile small act.Remove long e = tt
  due_has k small a long e = clash e

  left_has : (k : Kind) (small : Bool) (a : Act) → Rattle.task_acts.specs.Rule.is_left_over (w_of k small) (stage_by (s_of k small)) true a ≡ true → HasAct (s_of k small) a
  left_has k small (act.Send op.Abort n) e = eqb-true n 0 (front (n == 0) _ (front _ _ (front _ _ e)))
  left_has k small act.DropTemp e = tt
  left_has k small a e = clash e

  named_has : (k : Kind) (small stopped : Bool) (a : Act) → length pieces ≡ piece_count (w_of k small) → Rattle.task_acts.specs.Rule.is_named (w_of k small) (stage_by (s_of k small)) stopped a ≡ true
      → HasAct (s_of k small) a
  named_has k small stopped act.Stamp long e = tt
  named_has k small true a long e = left_has k small a e
  named_has k small false a long e = due_has k small a long e

find_is : (q : Act → Bool) (xs : List Act) (a : Act) → find q xs ≡ Some a → q a ≡ true
find_is q [] a e = cc
find_is q (x ∷ xs) a e = by (q x) refl e (find_is q xs a)
  where
    by : (b : Bool) → q x ≡ b → cond b (Some x) (find q xs) ≡ Some a → (find q xs ≡ Some a → q a ≡ true) → q a ≡ true
    by true is e rest = let same : x ≡ a = cc in subst (λ (y : Act). q y ≡ true) same is
    by false is e rest = rest e

pub ready_has : (s : SeenStages) (stopped : Bool) (a : Act) → length s.pieces ≡ piece_count s.work → first_ready s.work (stage_by s) stopped ≡ Some a → HasAct s a
ready_has s stopped a long e =
    let ready = find_is (is_ready s.work (stage_by s) stopped) (acts_of s.work) a e in
    named_has s.work.moves s.work.size s.work.piece s.work.count s.work.attempts s.singles s.pieces s.work.of_kind s.work.small stopped a long
    (last (may_be_given (stage_by s a)) _ ready)

-- ---- what comes with it

none_more : (s : SeenStages) → length s.pieces ≡ piece_count s.work → length s.pieces ≤ s.work.count
none_more s long = by (removes s.work.of_kind) long
  where
    by : (b : Bool) → length s.pieces ≡ (if b then 0 else s.work.count) → length s.pieces ≤ s.work.count
    by true e = omega arith
    by false e = omega arith

zero_slot : (w : Work) (o : Op) (n : ℕ) → rank o < 4 → n ≡ 0 → HasSlot w o n
zero_slot w o n low is =
    let place : slot w o n ≡ rank o = ap (λ (k : ℕ). slot w o k) is ∙ ap (λ (b : Bool). if b then rank o else piece_slot w o 0) (lt-ltb (rank o) 4 low) in
    omega (arith, place, low)

piece_place : (w : Work) (o : Op) (n : ℕ) → 4 ≤ rank o → is_op o (piece_op w.of_kind w.small) ≡ true → first_number w ≤ n → n < first_number w + w.count → HasSlot w o n
piece_place w o n high is from below =
    let place : slot w o n ≡ 4 + (n - first_number w) =
    ap (λ (b : Bool). if b then (if n == 0 then rank o else slots w) else piece_slot w o n) (le-ltb (rank o) 4 high)
    ∙ ap (λ (b : Bool). if not b || nat_lt n (first_number w) then slots w else 4 + (n - first_number w)) is
    ∙ ap (λ (b : Bool). if b then slots w else 4 + (n - first_number w)) (le-ltb n (first_number w) from) in
    omega (arith, place, from, below)

send_slot : (s : SeenStages) (o : Op) (n : ℕ) → length s.pieces ≡ piece_count s.work → 4 ≤ rank o → HasSend s o n → HasSlot s.work o n
send_slot s o n long high h = let few = none_more s long in piece_place s.work o n high h.0 h.1.0 (omega (arith, h.1.1, few))

pub has_slot : (s : SeenStages) (o : Op) (n : ℕ) → length s.pieces ≡ piece_count s.work → HasAct s (act.Send o n) → HasSlot s.work o n
has_slot s op.Create n long h = zero_slot s.work op.Create n (omega arith) h
has_slot s op.Complete n long h = zero_slot s.work op.Complete n (omega arith) h
has_slot s op.Abort n long h = zero_slot s.work op.Abort n (omega arith) h
has_slot s op.Delete n long h = zero_slot s.work op.Delete n (omega arith) h
has_slot s op.Put n long h = send_slot s op.Put n long (omega arith) h
has_slot s op.Part n long h = send_slot s op.Part n long (omega arith) h
has_slot s op.Get n long h = send_slot s op.Get n long (omega arith) h
has_slot s op.Copy n long h = send_slot s op.Copy n long (omega arith) h
has_slot s op.PartCopy n long h = send_slot s op.PartCopy n long (omega arith) h
has_slot s o n long h = absurd h

zero_number : (w : Work) (n : ℕ) → n ≡ 0 → HasNumber w n
zero_number w n is = λ some. absurd (omega arith)

pub has_number : (s : SeenStages) (o : Op) (n : ℕ) → ((k : ℕ) → HasPiece s k → HasNumber s.work k) → HasAct s (act.Send o n) → HasNumber s.work n
has_number s op.Create n each h = zero_number s.work n h
has_number s op.Complete n each h = zero_number s.work n h
has_number s op.Abort n each h = zero_number s.work n h
has_number s op.Delete n each h = zero_number s.work n h
has_number s op.Put n each h = each n h.1
has_number s op.Part n each h = each n h.1
has_number s op.Get n each h = each n h.1
has_number s op.Copy n each h = each n h.1
has_number s op.PartCopy n each h = each n h.1
has_number s o n each h = absurd h

-- a request of a piece that has parts is none that a task has once
piece_rank : (k : Kind) (small : Bool) → has_parts k ≡ true → rank (piece_op k small) ≡ 4
piece_rank kind.Upload true has = refl
piece_rank kind.Upload false has = refl
piece_rank kind.Copy true has = refl
piece_rank kind.Copy false has = refl
piece_rank k small has = clash has

part_rank : (w : Work) (o : Op) → has_parts w.of_kind ≡ true → is_part w o ≡ true → rank o ≡ 4
part_rank w o has is = ap rank (same_op o (piece_op w.of_kind w.small) is) ∙ piece_rank w.of_kind w.small has

-- a part has a place for its entity tag
pub has_part : (s : SeenStages) (o : Op) (n : ℕ) (t : Option SeenTags)
    → IfSome t (λ x. (has_parts s.work.of_kind ≡ true) × (x.first ≡ first_number s.work) × (length x.tags ≡ length s.pieces)) → HasAct s (act.Send o n)
    → IfSome t (λ x. is_part s.work o ≡ true → HasPart x n)
has_part s o n None are h = tt
has_part s o n (Some x) are h = λ is. place o h (part_rank s.work o are.0 is)
  where
    inside : HasPiece s n → HasPart x n
    inside has = (omega (arith, are.1, has.0), omega (arith, are.1, are.2, has.1))

    place : (o : Op) → HasAct s (act.Send o n) → rank o ≡ 4 → HasPart x n
    place op.Put has is = inside has.1
    place op.Part has is = inside has.1
    place op.Get has is = inside has.1
    place op.Copy has is = inside has.1
    place op.PartCopy has is = inside has.1
    place op.Create has is = absurd (omega arith)
    place op.Complete has is = absurd (omega arith)
    place op.Abort has is = absurd (omega arith)
    place op.Delete has is = absurd (omega arith)
    place o has is = absurd has

-- ---- a job that is kept

few_by : (attempts made : ℕ) (e : Ending) (o : Op) (part : Option _) (cell : Option _) (tries : List _) → attempts ≤ 10 → made ≡ length tries → is_unfinished attempts made e ≡ true → IsEnded e o part cell tries → made ≤ 9
few_by attempts made (ending.Cancelled reason) o part cell tries most is e ended = let none : length tries ≡ 0 = ap length ended.0 in omega arith
few_by attempts made (ending.Refused status code message) o part cell tries most is e ended = below attempts made most (front (nat_lt made attempts) _ e)
  where
    below : (a m : ℕ) → a ≤ 10 → nat_lt m a ≡ true → m ≤ 9
    below a m most e = elim (cases_lt m a) [ inl under ↦ omega arith | inr over ↦ clash (sym (le-ltb m a over) ∙ e) ]
few_by attempts made (ending.Uncertain reason) o part cell tries most is e ended = below attempts made most (front (nat_lt made attempts) _ e)
  where
    below : (a m : ℕ) → a ≤ 10 → nat_lt m a ≡ true → m ≤ 9
    below a m most e = elim (cases_lt m a) [ inl under ↦ omega arith | inr over ↦ clash (sym (le-ltb m a over) ∙ e) ]
few_by attempts made e o part cell tries most is never ended = clash never

-- it has made few attempts
pub few : (w : Work) (c : SeenCarried) (had tries : ℕ) → w.attempts ≤ 10 → (is_some c.job.cell ≡ true → had ≡ 0) → tries ≡ length c.tries
    → IsEnded c.ending c.job.id.op c.job.part c.job.cell c.tries → is_cut_short w c ≡ true → had + tries ≤ 9
few w c had tries most first is ended cut =
    let h = and_parts (is_some c.job.cell) (is_unfinished w.attempts (length c.tries) c.ending) cut in
    let none = first h.0 in
    let made = few_by w.attempts (length c.tries) c.ending c.job.id.op c.job.part c.job.cell c.tries most refl h.1 ended in
    omega arith

-- ---- the places after an act

pub sound_after : (s new : SeenStages) (kept kept_now : SeenKept) (tags tags_now : Option SeenTags) → IsSound s kept tags → new.work ≡ s.work → length new.pieces ≡ length s.pieces → kept_now.work ≡ kept.work
    → IfSome tags_now (λ x. (has_parts s.work.of_kind ≡ true) × (x.first ≡ first_number s.work) × (length x.tags ≡ length s.pieces)) → IsSound new kept_now tags_now
sound_after s new kept kept_now tags tags_now sound same long same_kept are = record {
  kept_work = same_kept ∙ sound.kept_work ∙ sym same;
  tags_are = moved tags_now are;
  numbers = λ n here. subst (λ (w : Work). HasNumber w n) (sym same) (sound.numbers n (back n here));
  attempts = subst (λ (w : Work). w.attempts ≤ 10) (sym same) sound.attempts;
}
  where
    back : (n : ℕ) → HasPiece new n → HasPiece s n
    back n here =
        let first : first_number new.work ≡ first_number s.work = ap first_number same in
        (omega (arith, here.0, first), omega (arith, here.1, first, long))

    moved : (t : Option SeenTags) → IfSome t (λ x. (has_parts s.work.of_kind ≡ true) × (x.first ≡ first_number s.work) × (length x.tags ≡ length s.pieces))
        → IfSome t (λ x. (has_parts new.work.of_kind ≡ true) × (x.first ≡ first_number new.work) × (length x.tags ≡ length new.pieces))
    moved None are = tt
    moved (Some x) are = (ap (λ (w : Work). has_parts w.of_kind) same ∙ are.0, are.1 ∙ sym (ap first_number same), are.2 ∙ sym long)

pub tags_stay : (is_part : Bool) (n : ℕ) (tag : Option (List ℕ)) (t : Option SeenTags) (first long : ℕ) (has : Bool)
    → IfSome t (λ x. (has ≡ true) × (x.first ≡ first) × (length x.tags ≡ long)) → IfSome (tagged is_part n tag t) (λ x. (has ≡ true) × (x.first ≡ first) × (length x.tags ≡ long))
tags_stay b n tag None first long has are = tt
tags_stay true n tag (Some x) first long has are = (are.0, are.1, length-set x.tags (n - x.first) tag ∙ are.2)
tags_stay false n tag (Some x) first long has are = are

-- what is true of the task as its parts are known is true of the task
pub over : (P : SeenTask → SeenTask → Type 0) (t same new : SeenTask) → t ≡ same → P t new → P same new
over P t same new e h = subst (λ (x : SeenTask). P x new) e h

pub came_at : (w same_work : Work) (stopped same_stop : Bool) (c : SeenCarried) (t new : SeenTask) → w ≡ same_work → stopped ≡ same_stop → IsCameAt w stopped c t new → IsCameAt same_work same_stop c t new
came_at w same_work stopped same_stop c t new e f h =
    subst (λ (b : Bool). IsCameAt same_work b c t new) f (subst (λ (v : Work). IsCameAt v stopped c t new) e h)

-- the places at the start
has_count : (k : Kind) (n : ℕ) → has_parts k ≡ true → (if removes k then 0 else n) ≡ n
has_count kind.Upload n has = refl
has_count kind.Download n has = refl
has_count kind.Copy n has = refl
has_count k n has = clash has

pub start_sound : (w : Work) (s : SeenStages) (kept : SeenKept) (tags : Option SeenTags) → s.work ≡ w → length s.pieces ≡ piece_count w → kept.work ≡ w → HasTags w tags → IsNumbered w
    → w.attempts ≤ 10 → IsSound s kept tags
start_sound w s kept tags same long kept_is has numbers most = record {
  kept_work = kept_is ∙ sym same;
  tags_are = moved tags has;
  numbers = λ n here. subst (λ (v : Work). HasNumber v n) (sym same)
      (let first : first_number s.work ≡ first_number w = ap first_number same in numbers n (omega (arith, first, here.0)) (omega (arith, first, here.1, long)));
  attempts = subst (λ (v : Work). v.attempts ≤ 10) (sym same) most;
}
  where
    moved : (t : Option SeenTags) → HasTags w t → IfSome t (λ x. (has_parts s.work.of_kind ≡ true) × (x.first ≡ first_number s.work) × (length x.tags ≡ length s.pieces))
    moved None has = tt
    moved (Some x) has = (
      ap (λ (v : Work). has_parts v.of_kind) same ∙ has.0,
      has.1 ∙ sym (ap first_number same),
      ap length has.2 ∙ length-replicate w.count None ∙ sym (has_count w.of_kind w.count has.0) ∙ sym long,
    )
