-- What is known of a piece whose job was given, or that was placed.
use Rattle.std.proofs.Common.{◌≡◌, ◌∙◌, ◌==◌, ◌&&◌, ℕ, Bool, true, false, [], ◌∷◌, not, refl, sym, subst, ap}
use Rattle.std.proofs.Common.{if◌then◌else◌}
use Rattle.std.proofs.lemmas.Bool.{and_parts, eqb-true}
use Rattle.jobs.specs.Endings.{SeenCarried}
use Rattle.job_terms.specs.Buffers.{holds_buffer}
use Rattle.job_terms.specs.Ops.{is_op}
use Rattle.s3_model.specs.declared.requests.Op.{Op}
use Rattle.s3_model.specs.declared.requests.Op.TheVariants as op
use Rattle.s3_model.specs.declared.tasks.Kind.{Kind}
use Rattle.s3_model.specs.declared.tasks.Kind.TheVariants as kind
use Rattle.task_acts.specs.declared.acts.Act.{Act}
use Rattle.task_acts.specs.declared.acts.Act.TheVariants as act
use Rattle.task_acts.specs.declared.acts.Stage.{Stage}
use Rattle.task_acts.specs.declared.acts.Stage.TheVariants as at
use Rattle.task_acts.specs.declared.work.Work.{Work}
use Rattle.task_acts.specs.Failures.{is_stopped}
use Rattle.task_acts.specs.Histories.{Came, Cancelled, Gave, History, Returned, Taken, sent}
use Rattle.task_acts.specs.Kept.{IsHistory}
use Rattle.task_acts.specs.Rule.{is_due, is_left_over, is_named, is_ready_in}
use Rattle.task_acts.specs.Stages.{has_done, is_out, may_be_given, stage}
use Rattle.task_acts.specs.Work.{is_piece, piece_op}
use Rattle.manager_moves.proofs.CountLemmas.{no}
use Rattle.manager_moves.proofs.HoldLemmas.{same_op}
use Rattle.part_changes.specs.Changes.{moves_bytes}

-- ---- how far an act is

abbrev pub was_given : Stage → Bool
was_given at.Waiting = false
was_given how = true

pub fine : (how : Stage) → has_done how ≡ true → how ≡ at.Fine
fine at.Fine e = refl
fine at.Waiting e = no e
fine at.Out e = no e
fine at.Kept e = no e
fine at.Again e = no e
fine at.Failed e = no e

pub out_was_given : (how : Stage) → is_out how ≡ true → was_given how ≡ true
out_was_given at.Out e = refl
out_was_given at.Again e = refl
out_was_given at.Waiting e = no e
out_was_given at.Kept e = no e
out_was_given at.Fine e = no e
out_was_given at.Failed e = no e

pub fine_is_not_out : {P : Type 0} (how : Stage) → how ≡ at.Fine → is_out how ≡ true → P
fine_is_not_out how e out = no (sym (ap is_out e) ∙ out)

pub fine_is_not_given : {P : Type 0} (how : Stage) → how ≡ at.Fine → may_be_given how ≡ true → P
fine_is_not_given how e may = no (sym (ap may_be_given e) ∙ may)

-- the act is another one, or it cannot be
still_fine : (c : Bool) (new old : Stage) → (c ≡ true → old ≡ at.Fine → new ≡ at.Fine) → old ≡ at.Fine
    → (if c then new else old) ≡ at.Fine
still_fine true new old h e = h refl e
still_fine false new old h e = e

not_true : (b : Bool) → not b ≡ true → b ≡ false
not_true true e = no e
not_true false e = refl

abbrev pub goes_up : Op → Bool
goes_up op.Put = true
goes_up op.Part = true
goes_up of_op = false

-- the job of a piece that goes through a part: it is of that kind, and an upload's bytes were read
pub record IsPieceJob (w : Work) (of_kind : Kind) (of_op : Op) (number : ℕ) (read : Stage) : Type 0 where
  pub moves : moves_bytes of_kind ≡ true
  pub of_piece : piece_op of_kind w.small ≡ of_op
  pub piece : is_piece w number ≡ true
  pub was_read : goes_up of_op ≡ true → read ≡ at.Fine

-- ---- what the rule names

module _ (w : Work) (f : Act → Stage) (t : Bool) (n : ℕ) where
  abbrev IsDue : Kind → Op → Type 0
  IsDue k o = is_due w f t k (act.Send o n) ≡ true

  abbrev Named : Kind → Op → Type 0
  Named k o = IsPieceJob w k o n (f (act.Read n))

  due_put : IsDue kind.Upload op.Put → Named kind.Upload op.Put
  due_put e =
      let each = and_parts (w.small && is_piece w n) (has_done (f (act.Read n))) e in
      let front = and_parts w.small (is_piece w n) each.0 in
      record {
        moves = refl;
        of_piece = ap (piece_op kind.Upload) front.0;
        piece = front.1;
        was_read = λ u. fine _ each.1;
      }

  due_part : IsDue kind.Upload op.Part → Named kind.Upload op.Part
  due_part e =
      let each = and_parts (not w.small && is_piece w n) (has_done (f (act.Read n))) e in
      let front = and_parts (not w.small) (is_piece w n) each.0 in
      record {
        moves = refl;
        of_piece = ap (piece_op kind.Upload) (not_true w.small front.0);
        piece = front.1;
        was_read = λ u. fine _ each.1;
      }

  due_get : IsDue kind.Download op.Get → Named kind.Download op.Get
  due_get e =
      let each = and_parts (is_piece w n) (has_done (f act.Assemble)) e in
      record { moves = refl; of_piece = refl; piece = each.0; was_read = λ u. no u }

  due : (k : Kind) (o : Op) → holds_buffer o ≡ true → IsDue k o → Named k o
  due kind.Upload op.Put b e = due_put e
  due kind.Download op.Put b e = no e
  due kind.Copy op.Put b e = no e
  due kind.RemoveObject op.Put b e = no e
  due kind.RemoveFile op.Put b e = no e
  due kind.Upload op.Part b e = due_part e
  due kind.Download op.Part b e = no e
  due kind.Copy op.Part b e = no e
  due kind.RemoveObject op.Part b e = no e
  due kind.RemoveFile op.Part b e = no e
  due kind.Upload op.Get b e = no e
  due kind.Download op.Get b e = due_get e
  due kind.Copy op.Get b e = no e
  due kind.RemoveObject op.Get b e = no e
  due kind.RemoveFile op.Get b e = no e
  due k op.Head b e = no b
  due k op.Copy b e = no b
  due k op.Delete b e = no b
  due k op.Create b e = no b
  due k op.PartCopy b e = no b
  due k op.Complete b e = no b
  due k op.Abort b e = no b
  due k op.List b e = no b
  due k op.Buckets b e = no b

  left_none : (o : Op) → holds_buffer o ≡ true → is_left_over w f t (act.Send o n) ≡ true → false ≡ true
  left_none op.Put b e = e
  left_none op.Part b e = e
  left_none op.Get b e = e
  left_none op.Head b e = b
  left_none op.Copy b e = b
  left_none op.Delete b e = b
  left_none op.Create b e = b
  left_none op.PartCopy b e = b
  left_none op.Complete b e = b
  left_none op.Abort b e = b
  left_none op.List b e = b
  left_none op.Buckets b e = b

module _ (w : Work) where
  named_by : (f : Act → Stage) (t : Bool) (o : Op) (n : ℕ) → holds_buffer o ≡ true
      → is_named w f t (act.Send o n) ≡ true
      → (t ≡ false) × IsPieceJob w w.of_kind o n (f (act.Read n))
  named_by f true o n b e = no (left_none w f true n o b e)
  named_by f false o n b e = (refl, due w f false n w.of_kind o b e)

  -- a job that takes a part is ready for its piece alone, and before a failure
  pub named : (h : History) (o : Op) (n : ℕ) → holds_buffer o ≡ true → is_ready_in w h (act.Send o n) ≡ true
      → (is_stopped w h ≡ false) × IsPieceJob w w.of_kind o n (stage w h (act.Read n))
  named h o n b e =
      let f = stage w h in
      let t = is_stopped w h in
      named_by f t o n b (and_parts (may_be_given (f (act.Send o n))) (is_named w f t (act.Send o n)) e).1

  pub may_be : (h : History) (a : Act) → is_ready_in w h a ≡ true → may_be_given (stage w h a) ≡ true
  may_be h a e = (and_parts (may_be_given (stage w h a)) (is_named w (stage w h) (is_stopped w h) a) e).0

  -- ---- a job that was given

  same_job : (o p : Op) (k m : ℕ) → (is_op o p && (k == m)) ≡ true → act.Send o k ≡ act.Send p m
  same_job o p k m e =
      let each = and_parts (is_op o p) (k == m) e in
      ap (λ (x : Op). act.Send x k) (same_op o p each.0) ∙ ap (act.Send p) (eqb-true k m each.1)

  module _ (o : Op) (k : ℕ) (b : holds_buffer o ≡ true) where
    abbrev Known : History → Type 0
    Known h = IsPieceJob w w.of_kind o k (stage w h (act.Read k))

    with_read : (read now : Stage) → IsPieceJob w w.of_kind o k read
        → (goes_up o ≡ true → read ≡ at.Fine → now ≡ at.Fine)
        → IsPieceJob w w.of_kind o k now
    with_read read now known h = record {
      moves = known.moves;
      of_piece = known.of_piece;
      piece = known.piece;
      was_read = λ u. h u (known.was_read u);
    }

    given_now : (h : History) (p : Op) (m : ℕ) (c : Bool) (new : Stage) → (is_op o p && (k == m)) ≡ c
        → is_ready_in w h (act.Send p m) ≡ true
        → (was_given (stage w h (act.Send o k)) ≡ true → Known h)
        → was_given (if c then new else stage w h (act.Send o k)) ≡ true → Known h
    given_now h p m true new e ready before g =
        (named h o k b (subst (λ (a : Act). is_ready_in w h a ≡ true) (sym (same_job o p k m e)) ready)).1
    given_now h p m false new e ready before g = before g

    came_now : (h : History) (c : SeenCarried) (d : Bool) (new : Stage)
        → (is_op o c.job.id.op && (k == c.job.id.number)) ≡ d
        → is_out (stage w h (sent c)) ≡ true → (was_given (stage w h (act.Send o k)) ≡ true → Known h)
        → was_given (if d then new else stage w h (act.Send o k)) ≡ true → Known h
    came_now h c true new e out before g =
        before (out_was_given _
        (subst (λ (a : Act). is_out (stage w h a) ≡ true) (sym (same_job o c.job.id.op k c.job.id.number e)) out))
    came_now h c false new e out before g = before g

    number_is : (m : ℕ) → (k == m) ≡ true → act.Read k ≡ act.Read m
    number_is m e = ap (λ (x : ℕ). act.Read x) (eqb-true k m e)

    -- a job of a piece was given only as the rule names it
    pub given_piece : (h : History) → IsHistory w h → was_given (stage w h (act.Send o k)) ≡ true → Known h
    given_piece [] is g = no g
    given_piece (Cancelled reason ∷ h) is g = given_piece h is.1 g
    given_piece (Taken of_op number ∷ h) is g = given_piece h is.1 g
    given_piece (Gave (act.Send p m) ∷ h) is g =
        given_now h p m (is_op o p && (k == m)) _ refl is.0 (given_piece h is.1) g
    given_piece (Gave (act.Read m) ∷ h) is g =
        with_read (stage w h (act.Read k)) _ (given_piece h is.1 g)
        (λ u e. still_fine (k == m) _ (stage w h (act.Read k))
        (λ same old. fine_is_not_given (stage w h (act.Read m)) (ap (stage w h) (sym (number_is m same)) ∙ old)
        (may_be h (act.Read m) is.0)) e)
    given_piece (Gave act.Assemble ∷ h) is g = given_piece h is.1 g
    given_piece (Gave (act.Place m) ∷ h) is g = given_piece h is.1 g
    given_piece (Gave act.Rename ∷ h) is g = given_piece h is.1 g
    given_piece (Gave act.DropTemp ∷ h) is g = given_piece h is.1 g
    given_piece (Gave act.Remove ∷ h) is g = given_piece h is.1 g
    given_piece (Gave act.Stamp ∷ h) is g = given_piece h is.1 g
    given_piece (Came c ∷ h) is g =
        came_now h c (is_op o c.job.id.op && (k == c.job.id.number)) _ refl is.0.0 (given_piece h is.1) g
    given_piece (Returned (act.Send p m) r ∷ h) is g = no is.0.0
    given_piece (Returned (act.Read m) r ∷ h) is g =
        with_read (stage w h (act.Read k)) _ (given_piece h is.1 g)
        (λ u e. still_fine (k == m) _ (stage w h (act.Read k))
        (λ same old. fine_is_not_out (stage w h (act.Read m)) (ap (stage w h) (sym (number_is m same)) ∙ old) is.0.1) e)
    given_piece (Returned act.Assemble r ∷ h) is g = given_piece h is.1 g
    given_piece (Returned (act.Place m) r ∷ h) is g = given_piece h is.1 g
    given_piece (Returned act.Rename r ∷ h) is g = given_piece h is.1 g
    given_piece (Returned act.DropTemp r ∷ h) is g = given_piece h is.1 g
    given_piece (Returned act.Remove r ∷ h) is g = given_piece h is.1 g
    given_piece (Returned act.Stamp r ∷ h) is g = given_piece h is.1 g

  -- ---- a piece that was placed

  place_due : (f : Act → Stage) (t : Bool) (k : Kind) (m : ℕ) → is_due w f t k (act.Place m) ≡ true
      → (k ≡ kind.Download) × (is_piece w m ≡ true) × (f (act.Send op.Get m) ≡ at.Fine)
  place_due f t kind.Download m e =
      let each = and_parts (is_piece w m) (has_done (f (act.Send op.Get m))) e in (refl, each.0, fine _ each.1)
  place_due f t kind.Upload m e = no e
  place_due f t kind.Copy m e = no e
  place_due f t kind.RemoveObject m e = no e
  place_due f t kind.RemoveFile m e = no e

  place_by : (f : Act → Stage) (t : Bool) (m : ℕ) → is_named w f t (act.Place m) ≡ true
      → (t ≡ false) × (w.of_kind ≡ kind.Download) × (is_piece w m ≡ true) × (f (act.Send op.Get m) ≡ at.Fine)
  place_by f true m e = no e
  place_by f false m e = let d = place_due f false w.of_kind m e in (refl, d.0, d.1, d.2)

  -- a Place is ready for a piece of a download that came, and before a failure
  pub placing : (h : History) (m : ℕ) → is_ready_in w h (act.Place m) ≡ true
      → (is_stopped w h ≡ false) × (w.of_kind ≡ kind.Download) × (is_piece w m ≡ true)
      × (stage w h (act.Send op.Get m) ≡ at.Fine)
  placing h m e =
      let f = stage w h in
      let t = is_stopped w h in
      place_by f t m (and_parts (may_be_given (f (act.Place m))) (is_named w f t (act.Place m)) e).1

  read_due : (f : Act → Stage) (t : Bool) (k : Kind) (m : ℕ) → is_due w f t k (act.Read m) ≡ true
      → (k ≡ kind.Upload) × (is_piece w m ≡ true)
  read_due f t kind.Upload m e = (refl, (and_parts (is_piece w m) _ e).0)
  read_due f t kind.Download m e = no e
  read_due f t kind.Copy m e = no e
  read_due f t kind.RemoveObject m e = no e
  read_due f t kind.RemoveFile m e = no e

  read_by : (f : Act → Stage) (t : Bool) (m : ℕ) → is_named w f t (act.Read m) ≡ true
      → (t ≡ false) × (w.of_kind ≡ kind.Upload) × (is_piece w m ≡ true)
  read_by f true m e = no e
  read_by f false m e = let d = read_due f false w.of_kind m e in (refl, d.0, d.1)

  -- a Read is ready for a piece of an upload, and before a failure
  pub reading : (h : History) (m : ℕ) → is_ready_in w h (act.Read m) ≡ true
      → (is_stopped w h ≡ false) × (w.of_kind ≡ kind.Upload) × (is_piece w m ≡ true)
  reading h m e =
      let f = stage w h in
      let t = is_stopped w h in
      read_by f t m (and_parts (may_be_given (f (act.Read m))) (is_named w f t (act.Read m)) e).1

  module _ (k : ℕ) where
    abbrev get_fine : History → Type 0
    get_fine h = stage w h (act.Send op.Get k) ≡ at.Fine

    gives_place : (h : History) (m : ℕ) (c : Bool) (new : Stage) → (k == m) ≡ c → is_ready_in w h (act.Place m) ≡ true
        → (was_given (stage w h (act.Place k)) ≡ true → get_fine h)
        → was_given (if c then new else stage w h (act.Place k)) ≡ true → get_fine h
    gives_place h m true new e ready before g =
        subst (λ (n : ℕ). stage w h (act.Send op.Get n) ≡ at.Fine) (sym (eqb-true k m e)) (placing h m ready).3
    gives_place h m false new e ready before g = before g

    comes_place : (h : History) (m : ℕ) (c : Bool) (new : Stage) → (k == m) ≡ c
        → is_out (stage w h (act.Place m)) ≡ true
        → (was_given (stage w h (act.Place k)) ≡ true → get_fine h)
        → was_given (if c then new else stage w h (act.Place k)) ≡ true → get_fine h
    comes_place h m true new e out before g =
        before (out_was_given _ (subst (λ (n : ℕ). is_out (stage w h (act.Place n)) ≡ true) (sym (eqb-true k m e)) out))
    comes_place h m false new e out before g = before g

    -- only a piece that came is placed
    pub placed_came : (h : History) → IsHistory w h → was_given (stage w h (act.Place k)) ≡ true → get_fine h
    placed_came [] is g = no g
    placed_came (Cancelled reason ∷ h) is g = placed_came h is.1 g
    placed_came (Taken of_op number ∷ h) is g = placed_came h is.1 g
    placed_came (Gave (act.Send p m) ∷ h) is g =
        still_fine (is_op op.Get p && (k == m)) _ (stage w h (act.Send op.Get k))
        (λ same old. fine_is_not_given (stage w h (act.Send p m)) (ap (stage w h) (sym (same_job op.Get p k m same))
        ∙ old)
        (may_be h (act.Send p m) is.0)) (placed_came h is.1 g)
    placed_came (Gave (act.Place m) ∷ h) is g = gives_place h m (k == m) _ refl is.0 (placed_came h is.1) g
    placed_came (Gave (act.Read m) ∷ h) is g = placed_came h is.1 g
    placed_came (Gave act.Assemble ∷ h) is g = placed_came h is.1 g
    placed_came (Gave act.Rename ∷ h) is g = placed_came h is.1 g
    placed_came (Gave act.DropTemp ∷ h) is g = placed_came h is.1 g
    placed_came (Gave act.Remove ∷ h) is g = placed_came h is.1 g
    placed_came (Gave act.Stamp ∷ h) is g = placed_came h is.1 g
    placed_came (Came c ∷ h) is g =
        still_fine (is_op op.Get c.job.id.op && (k == c.job.id.number)) _ (stage w h (act.Send op.Get k))
        (λ same old. fine_is_not_out (stage w h (sent c))
        (ap (stage w h) (sym (same_job op.Get c.job.id.op k c.job.id.number same)) ∙ old) is.0.0) (placed_came h is.1 g)
    placed_came (Returned (act.Send p m) r ∷ h) is g = no is.0.0
    placed_came (Returned (act.Place m) r ∷ h) is g = comes_place h m (k == m) _ refl is.0.1 (placed_came h is.1) g
    placed_came (Returned (act.Read m) r ∷ h) is g = placed_came h is.1 g
    placed_came (Returned act.Assemble r ∷ h) is g = placed_came h is.1 g
    placed_came (Returned act.Rename r ∷ h) is g = placed_came h is.1 g
    placed_came (Returned act.DropTemp r ∷ h) is g = placed_came h is.1 g
    placed_came (Returned act.Remove r ∷ h) is g = placed_came h is.1 g
    placed_came (Returned act.Stamp r ∷ h) is g = placed_came h is.1 g
