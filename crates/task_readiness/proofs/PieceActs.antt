-- The acts of pieces, by what each piece says.
use Rattle.std.proofs.Common.{◌≡◌, ◌∙◌, ◌<◌, ◌+◌, ◌==◌, ◌&&◌, ◌||◌, ℕ, Bool, true, false, not, List, Option, Some, None, cond, get_or, length, map, nat_lt, refl, sym, ap, arith, if◌then◌else◌}
use Rattle.std.specs.List.{find, list_all, position}
use Rattle.std.proofs.lemmas.Bool.{lt-ltb}
use Rattle.piece_stages.specs.declared.piece.PieceStages.{PieceStages}
use Rattle.piece_stages.specs.Pieces.{can_place, can_read, can_send, is_placed, is_sent, no_piece}
use Rattle.s3_model.specs.declared.requests.Op.TheVariants as op
use Rattle.s3_model.specs.declared.tasks.Kind.{Kind}
use Rattle.s3_model.specs.declared.tasks.Kind.TheVariants as kind
use Rattle.task_acts.specs.declared.acts.Act.{Act}
use Rattle.task_acts.specs.declared.acts.Act.TheVariants as act
use Rattle.task_acts.specs.declared.acts.Stage.{Stage}
use Rattle.task_acts.specs.declared.acts.Stage.TheVariants as at_stage
use Rattle.task_acts.specs.declared.work.Work.{Work}
use Rattle.task_acts.specs.Rule.{is_each_done, is_ready}
use Rattle.task_acts.specs.Stages.{has_done, may_be_given}
use Rattle.task_acts.specs.Work.{first_number, is_piece, numbers, piece_op}
use Rattle.task_stages.specs.declared.singles.Singles.{Singles}
use Rattle.task_stages.specs.Stages.{SeenStages, piece_at, piece_count, reads_first, stage_by}
use Rattle.task_stages.proofs.PieceLemmas.{from_first}
use Rattle.std.specs.Option.{option_or}
use Rattle.task_acts.specs.Rule.{single_sends}
use Rattle.task_readiness.specs.Readiness.{is_download, is_upload, may_send_by, numbered}
use Rattle.task_readiness.proofs.Finding.{alls, and_false, and_true, finds, finds_none, gated}

-- ---- a piece by its index

pub at_index : (s : SeenStages) (k : ℕ) → piece_at s (first_number s.work + k) ≡ get_or s.pieces k no_piece
at_index s k = from_first s (first_number s.work + k) (omega arith) ∙ ap (λ (n : ℕ). get_or s.pieces n no_piece) (omega arith)

pub has_number : (w : Work) (k : ℕ) → k < w.count → is_piece w (first_number w + k) ≡ true
has_number w k below =
    ap (λ (b : Bool). b && nat_lt (first_number w) (first_number w + k + 1)) (lt-ltb (first_number w + k) (first_number w + w.count) (omega arith))
    ∙ lt-ltb (first_number w) (first_number w + k + 1) (omega arith)

-- ---- by kind

module _ (moves : Bool) (size piece count attempts : ℕ) (singles : Singles) (pieces : List PieceStages) where
  abbrev pub work_of : Kind → (small : Bool) → Work
  work_of k small = record { of_kind = k; moves = moves; small = small; size = size; piece = piece; count = count; attempts = attempts }

  abbrev pub stages_of : Kind → (small : Bool) → SeenStages
  stages_of k small = record { work = work_of k small; singles = singles; pieces = pieces }

  abbrev pub ready_of : Kind → (small stopped : Bool) → Act → Bool
  ready_of k small stopped = is_ready (work_of k small) (stage_by (stages_of k small)) stopped

  abbrev at : Kind → (small : Bool) → ℕ → PieceStages
  at k small n = piece_at (stages_of k small) n

  abbrev first_of : (small : Bool) → ℕ
  first_of small = first_number (work_of kind.Upload small)

  abbrev nth : ℕ → PieceStages
  nth k = get_or pieces k no_piece

  -- what an act of a piece says, where the number is that of one
  given_by : (k : Kind) (small : Bool) (n : ℕ) (f : Bool → PieceStages → Bool) → n < count
      → f (is_piece (work_of k small) (first_of small + n)) (at k small (first_of small + n)) ≡ f true (nth n)
  given_by k small n f below =
      ap (λ (b : Bool). f b (at k small (first_of small + n))) (has_number (work_of k small) n below)
      ∙ ap (λ (p : PieceStages). f true p) (at_index (stages_of k small) n)

  -- ---- what is written

  pub places : (k : Kind) (small stopped : Bool) → length pieces ≡ piece_count (work_of k small)
      → find (ready_of k small stopped) (map act.Place (numbers (work_of k small)))
      ≡ (if not stopped && is_download k then numbered act.Place (first_of small) (position can_place pieces) else None)
  places k small true long = finds_none (ready_of k small true) act.Place (numbers (work_of k small)) (λ n. and_false (may_be_given ((at k small n).place)))
  places kind.Download small false long =
      finds (ready_of kind.Download small false) act.Place can_place no_piece pieces (first_of small) count long
      (λ n below. given_by kind.Download small n (λ (b : Bool) (p : PieceStages). may_be_given p.place && (b && has_done p.send)) (omega arith))
  places k small false long = finds_none (ready_of k small false) act.Place (numbers (work_of k small)) (λ n. and_false (may_be_given ((at k small n).place)))

  -- ---- what is sent

  abbrev sends_of : Kind → (small : Bool) → Type 0
  sends_of k small =
      find (ready_of k small false) (map (act.Send (piece_op k small)) (numbers (work_of k small)))
      ≡ (if may_send_by k small (has_done singles.create) (has_done singles.assemble)
      then numbered (act.Send (piece_op k small)) (first_of small) (position (can_send (reads_first k)) pieces) else None)

  -- a piece that was read
  after_read : (m d : Bool) → m && d ≡ (m && d) && true
  after_read m d = sym (and_true (m && d))

  -- nothing is read, and something comes first
  unread : (m d x : Bool) → m && d ≡ (m && (true || x)) && d
  unread m d x = ap (λ (b : Bool). b && d) (sym (and_true m))

  sends_upload : (small : Bool) → length pieces ≡ count → sends_of kind.Upload small
  sends_upload true long =
      gated (ready_of kind.Upload true false) (act.Send op.Put) (can_send true) no_piece true pieces (first_of true) count long
      (λ n below. given_by kind.Upload true n (λ (b : Bool) (p : PieceStages). may_be_given p.send && (b && has_done p.read)) (omega arith)
      ∙ after_read (may_be_given ((nth n).send)) (has_done ((nth n).read)))
  sends_upload false long =
      gated (ready_of kind.Upload false false) (act.Send op.Part) (can_send true) no_piece true pieces (first_of false) count long
      (λ n below. given_by kind.Upload false n (λ (b : Bool) (p : PieceStages). may_be_given p.send && (b && has_done p.read)) (omega arith)
      ∙ after_read (may_be_given ((nth n).send)) (has_done ((nth n).read)))

  sends_download : (small : Bool) → length pieces ≡ count → sends_of kind.Download small
  sends_download small long =
      gated (ready_of kind.Download small false) (act.Send op.Get) (can_send false) no_piece (has_done singles.assemble) pieces (first_of small) count long
      (λ n below. given_by kind.Download small n (λ (b : Bool) (p : PieceStages). may_be_given p.send && (b && has_done singles.assemble)) (omega arith)
      ∙ unread (may_be_given ((nth n).send)) (has_done singles.assemble) (has_done ((nth n).read)))

  sends_copy : (small : Bool) → length pieces ≡ count → sends_of kind.Copy small
  sends_copy true long =
      gated (ready_of kind.Copy true false) (act.Send op.Copy) (can_send false) no_piece true pieces (first_of true) count long
      (λ n below. given_by kind.Copy true n (λ (b : Bool) (p : PieceStages). may_be_given p.send && b) (omega arith)
      ∙ unread (may_be_given ((nth n).send)) true (has_done ((nth n).read)))
  sends_copy false long =
      gated (ready_of kind.Copy false false) (act.Send op.PartCopy) (can_send false) no_piece (has_done singles.create) pieces (first_of false) count long
      (λ n below. given_by kind.Copy false n (λ (b : Bool) (p : PieceStages). may_be_given p.send && (b && has_done singles.create)) (omega arith)
      ∙ unread (may_be_given ((nth n).send)) (has_done singles.create) (has_done ((nth n).read)))

  -- ---- what is read

  pub reads : (k : Kind) (small stopped : Bool) → length pieces ≡ piece_count (work_of k small)
      → find (ready_of k small stopped) (map act.Read (numbers (work_of k small)))
      ≡ (if not stopped && is_upload k && (small || has_done singles.create) then numbered act.Read (first_of small) (position can_read pieces) else None)
  reads k small true long = finds_none (ready_of k small true) act.Read (numbers (work_of k small)) (λ n. and_false (may_be_given ((at k small n).read)))
  reads kind.Upload small false long =
      gated (ready_of kind.Upload small false) act.Read can_read no_piece (small || has_done singles.create) pieces (first_of small) count long
      (λ n below. given_by kind.Upload small n (λ (b : Bool) (p : PieceStages). may_be_given p.read && (b && (small || has_done singles.create))) (omega arith))
  reads k small false long = finds_none (ready_of k small false) act.Read (numbers (work_of k small)) (λ n. and_false (may_be_given ((at k small n).read)))

  -- ---- all pieces

  pub each_placed : (small stopped : Bool) → length pieces ≡ count
      → is_each_done (work_of kind.Download small) (stage_by (stages_of kind.Download small)) stopped act.Place ≡ list_all is_placed pieces
  each_placed small stopped long =
      alls (λ a. has_done (stage_by (stages_of kind.Download small) a)) act.Place is_placed no_piece pieces (first_of small) count long
      (λ n below. ap (λ (p : PieceStages). has_done p.place) (at_index (stages_of kind.Download small) n))

  pub each_part : (stopped : Bool) → length pieces ≡ count
      → is_each_done (work_of kind.Upload false) (stage_by (stages_of kind.Upload false)) stopped (act.Send op.Part) ≡ list_all is_sent pieces
  each_part stopped long =
      alls (λ a. has_done (stage_by (stages_of kind.Upload false) a)) (act.Send op.Part) is_sent no_piece pieces (first_of false) count long
      (λ n below. ap (λ (p : PieceStages). has_done p.send) (at_index (stages_of kind.Upload false) n))

  pub each_copied : (stopped : Bool) → length pieces ≡ count
      → is_each_done (work_of kind.Copy false) (stage_by (stages_of kind.Copy false)) stopped (act.Send op.PartCopy) ≡ list_all is_sent pieces
  each_copied stopped long =
      alls (λ a. has_done (stage_by (stages_of kind.Copy false) a)) (act.Send op.PartCopy) is_sent no_piece pieces (first_of false) count long
      (λ n below. ap (λ (p : PieceStages). has_done p.send) (at_index (stages_of kind.Copy false) n))

  -- ---- jobs of pieces, behind those that a task has once

  none_stopped : (k : Kind) (small : Bool) → find (ready_of k small true) (map (act.Send (piece_op k small)) (numbers (work_of k small))) ≡ None
  none_stopped kind.Upload true = finds_none (ready_of kind.Upload true true) (act.Send op.Put) (numbers (work_of kind.Upload true)) (λ n. and_false (may_be_given ((at kind.Upload true n).send)))
  none_stopped kind.Upload false = finds_none (ready_of kind.Upload false true) (act.Send op.Part) (numbers (work_of kind.Upload false)) (λ n. and_false (may_be_given ((at kind.Upload false n).send)))
  none_stopped kind.Download small = finds_none (ready_of kind.Download small true) (act.Send op.Get) (numbers (work_of kind.Download small)) (λ n. and_false (may_be_given ((at kind.Download small n).send)))
  none_stopped kind.Copy true = finds_none (ready_of kind.Copy true true) (act.Send op.Copy) (numbers (work_of kind.Copy true)) (λ n. and_false (may_be_given ((at kind.Copy true n).send)))
  none_stopped kind.Copy false = finds_none (ready_of kind.Copy false true) (act.Send op.PartCopy) (numbers (work_of kind.Copy false)) (λ n. and_false (may_be_given ((at kind.Copy false n).send)))
  none_stopped kind.RemoveObject small = finds_none (ready_of kind.RemoveObject small true) (act.Send op.Delete) (numbers (work_of kind.RemoveObject small)) (λ n. and_false (may_be_given (stage_by (stages_of kind.RemoveObject small) (act.Send op.Delete n))))
  none_stopped kind.RemoveFile small = finds_none (ready_of kind.RemoveFile small true) (act.Send op.Delete) (numbers (work_of kind.RemoveFile small)) (λ n. and_false (may_be_given (stage_by (stages_of kind.RemoveFile small) (act.Send op.Delete n))))

  -- the job of a piece comes first
  abbrev pub piece_job : Kind → (small stopped : Bool) → Option Act
  piece_job k small stopped =
      if not stopped && may_send_by k small (has_done singles.create) (has_done singles.assemble)
      then numbered (act.Send (piece_op k small)) (first_of small) (position (can_send (reads_first k)) pieces) else None

  -- a removal has its one job already
  found_before : (a b c : Bool) (x y z w : Act) (here there : Option Act) → option_or (cond a (Some x) (cond b (Some y) (cond c (Some z) (cond true (Some w) None)))) here
      ≡ option_or (cond a (Some x) (cond b (Some y) (cond c (Some z) (cond true (Some w) None)))) there
  found_before true b c x y z w here there = refl
  found_before false true c x y z w here there = refl
  found_before false false true x y z w here there = refl
  found_before false false false x y z w here there = refl

  zero_only : (n : ℕ) (b : Bool) (how : Stage) → (n == 0) ≡ b → may_be_given how && true ≡ false → may_be_given (if b then how else at_stage.Waiting) && b ≡ false
  zero_only n true how e none = none
  zero_only n false how e none = refl

  removal_job : (small : Bool) (b : Bool) (reads : Option Act) → may_be_given singles.delete && true ≡ b
      → option_or (find (ready_of kind.RemoveObject small false) single_sends) (option_or (find (ready_of kind.RemoveObject small false) (map (act.Send op.Delete) (numbers (work_of kind.RemoveObject small)))) reads)
      ≡ option_or (find (ready_of kind.RemoveObject small false) single_sends) (option_or None reads)
  removal_job small true reads e =
      let q = ready_of kind.RemoveObject small false in
      let T = find q (map (act.Send op.Delete) (numbers (work_of kind.RemoveObject small))) in
      ap (λ (d : Bool). option_or (cond (q (act.Send op.Create 0)) (Some (act.Send op.Create 0)) (cond (q (act.Send op.Complete 0)) (Some (act.Send op.Complete 0))
      (cond (q (act.Send op.Abort 0)) (Some (act.Send op.Abort 0)) (cond d (Some (act.Send op.Delete 0)) None)))) (option_or T reads)) e
      ∙ found_before (q (act.Send op.Create 0)) (q (act.Send op.Complete 0)) (q (act.Send op.Abort 0)) _ _ _ _ (option_or T reads) reads
      ∙ sym (ap (λ (d : Bool). option_or (cond (q (act.Send op.Create 0)) (Some (act.Send op.Create 0)) (cond (q (act.Send op.Complete 0)) (Some (act.Send op.Complete 0))
      (cond (q (act.Send op.Abort 0)) (Some (act.Send op.Abort 0)) (cond d (Some (act.Send op.Delete 0)) None)))) reads) e)
  removal_job small false reads e =
      ap (λ (t : Option Act). option_or (find (ready_of kind.RemoveObject small false) single_sends) (option_or t reads))
      (finds_none (ready_of kind.RemoveObject small false) (act.Send op.Delete) (numbers (work_of kind.RemoveObject small)) (λ n. zero_only n (n == 0) singles.delete refl e))

  -- the jobs that a task has once, then those of its pieces
  pub jobs : (k : Kind) (small stopped : Bool) (reads : Option Act) → length pieces ≡ piece_count (work_of k small)
      → option_or (find (ready_of k small stopped) single_sends) (option_or (find (ready_of k small stopped) (map (act.Send (piece_op k small)) (numbers (work_of k small)))) reads)
      ≡ option_or (find (ready_of k small stopped) single_sends) (option_or (piece_job k small stopped) reads)
  jobs k small true reads long = ap (λ (t : Option Act). option_or (find (ready_of k small true) single_sends) (option_or t reads)) (none_stopped k small)
  jobs kind.Upload small false reads long = ap (λ (t : Option Act). option_or (find (ready_of kind.Upload small false) single_sends) (option_or t reads)) (sends_upload small long)
  jobs kind.Download small false reads long = ap (λ (t : Option Act). option_or (find (ready_of kind.Download small false) single_sends) (option_or t reads)) (sends_download small long)
  jobs kind.Copy small false reads long = ap (λ (t : Option Act). option_or (find (ready_of kind.Copy small false) single_sends) (option_or t reads)) (sends_copy small long)
  jobs kind.RemoveObject small false reads long = removal_job small (may_be_given singles.delete && true) reads refl
  jobs kind.RemoveFile small false reads long =
      ap (λ (t : Option Act). option_or (find (ready_of kind.RemoveFile small false) single_sends) (option_or t reads))
      (finds_none (ready_of kind.RemoveFile small false) (act.Send op.Delete) (numbers (work_of kind.RemoveFile small)) (λ n. and_false (may_be_given (stage_by (stages_of kind.RemoveFile small) (act.Send op.Delete n)))))
