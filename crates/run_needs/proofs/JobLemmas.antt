-- The jobs that a task can have: how many there are, and that each act that is ready is one of them.
use Rattle.std.proofs.Common.{◌≡◌, ◌∙◌, ◌==◌, ◌&&◌, ◌+◌, ◌++◌, ◌≤◌, [], ◌∷◌, ℕ, Bool, true, false, List}
use Rattle.std.proofs.Common.{refl, sym, subst, ap, arith, inl, inr, length, not}
use Rattle.std.proofs.lemmas.Bool.{and_parts, eqb-true}
use Rattle.std.proofs.lemmas.List.{length-append}
use Rattle.std.proofs.lemmas.List.FromFn.{length-map-range_with_len}
use Rattle.s3_model.specs.declared.requests.Op.{Op}
use Rattle.s3_model.specs.declared.requests.Op.TheVariants as op
use Rattle.s3_model.specs.declared.tasks.Kind.{Kind}
use Rattle.s3_model.specs.declared.tasks.Kind.TheVariants as kind
use Rattle.shared_lemmas.proofs.Members.{Has, has-append_left, has-append_right, has-map}
use Rattle.task_acts.specs.declared.acts.Act.{Act}
use Rattle.task_acts.specs.declared.acts.Act.TheVariants as act
use Rattle.task_acts.specs.declared.acts.Stage.{Stage}
use Rattle.task_acts.specs.declared.work.Work.{Work}
use Rattle.task_acts.specs.Failures.{is_stopped}
use Rattle.task_acts.specs.Histories.{History}
use Rattle.task_acts.specs.Kept.{IsHistory}
use Rattle.task_acts.specs.Rule.{is_due, is_left_over, is_named, is_ready_in, piece_sends}
use Rattle.task_acts.specs.Stages.{has_done, may_be_given, stage}
use Rattle.task_acts.specs.Work.{first_number, is_piece, numbers, piece_op}
use Rattle.task_progress.proofs.Begun.{begun, begun_calls, has_begun, has_number, is_false}
use Rattle.task_progress.proofs.Endings.{no}
use Rattle.task_progress.proofs.Quiet.{done_has_begun}
use Rattle.run_needs.specs.Jobs.{jobs_for, jobs_of, source_jobs, upload_jobs}

-- ---- how many there are

pieces_counted : (w : Work) → length (piece_sends w) ≡ w.count
pieces_counted w =
    length-map-range_with_len (λ (number : ℕ). act.Send (piece_op w.of_kind w.small) number) (first_number w) w.count

pub few_uploads : (small : Bool) → length (upload_jobs small) ≤ 3
few_uploads true = omega arith
few_uploads false = omega arith

pub few_sources : (moves : Bool) → length (source_jobs moves) ≤ 1
few_sources true = omega arith
few_sources false = omega arith

module _ (w : Work) where
  counted_as : (k : Kind) → w.of_kind ≡ k → length (jobs_of w) ≡ length (jobs_for w k)
  counted_as k is = ap (λ (x : Kind). length (jobs_for w x)) is

  pub upload_counted : w.of_kind ≡ kind.Upload → length (jobs_of w) ≡ w.count + length (upload_jobs w.small)
  upload_counted is =
      let whole = counted_as kind.Upload is in
      let parts = length-append (piece_sends w) (upload_jobs w.small) in
      let pieces = pieces_counted w in
      omega (arith, whole, parts, pieces)

  pub download_counted : w.of_kind ≡ kind.Download → length (jobs_of w) ≡ w.count + length (source_jobs w.moves)
  download_counted is =
      let whole = counted_as kind.Download is in
      let parts = length-append (piece_sends w) (source_jobs w.moves) in
      let pieces = pieces_counted w in
      omega (arith, whole, parts, pieces)

  pub copy_counted : w.of_kind ≡ kind.Copy
      → length (jobs_of w) ≡ w.count + length (upload_jobs w.small) + length (source_jobs w.moves)
  copy_counted is =
      let whole = counted_as kind.Copy is in
      let all = length-append (piece_sends w ++ upload_jobs w.small) (source_jobs w.moves) in
      let parts = length-append (piece_sends w) (upload_jobs w.small) in
      let pieces = pieces_counted w in
      omega (arith, whole, all, parts, pieces)

  pub object_counted : w.of_kind ≡ kind.RemoveObject → length (jobs_of w) ≡ 1
  object_counted is = let whole = counted_as kind.RemoveObject is in omega (arith, whole)

  pub file_counted : w.of_kind ≡ kind.RemoveFile → length (jobs_of w) ≡ 0
  file_counted is = let whole = counted_as kind.RemoveFile is in omega (arith, whole)

pub ruleset job_counts = (
  few_uploads,
  few_sources,
  upload_counted,
  download_counted,
  copy_counted,
  object_counted,
  file_counted,
)

-- ---- each that is ready

at_zero : (jobs : List Act) (o : Op) (n : ℕ) → (n == 0) ≡ true → Has jobs (act.Send o 0) → Has jobs (act.Send o n)
at_zero jobs o n e known = subst (λ (k : ℕ). Has jobs (act.Send o k)) (sym (eqb-true n 0 e)) known

module _ (w : Work) where
  abbrev pub HasJob : Op → ℕ → Type 0
  HasJob o n = Has (jobs_of w) (act.Send o n)

  abbrev pieces : List Act
  pieces = piece_sends w

  abbrev uploads : List Act
  uploads = upload_jobs w.small

  abbrev sources : List Act
  sources = source_jobs w.moves

  of_kind : (k : Kind) (a : Act) → w.of_kind ≡ k → Has (jobs_for w k) a → Has (jobs_of w) a
  of_kind k a is known = subst (λ (x : Kind). Has (jobs_for w x) a) (sym is) known

  op_is : (k : Kind) (small : Bool) → w.of_kind ≡ k → w.small ≡ small → piece_op w.of_kind w.small ≡ piece_op k small
  op_is k small is so = ap (λ (x : Kind). piece_op x w.small) is ∙ ap (piece_op k) so

  piece_job : (o : Op) (n : ℕ) → piece_op w.of_kind w.small ≡ o → is_piece w n ≡ true → Has pieces (act.Send o n)
  piece_job o n is e = subst (λ (x : Op). Has pieces (act.Send x n)) is
      (has-map (λ (k : ℕ). act.Send (piece_op w.of_kind w.small) k) (numbers w) n (has_number w n e))

  in_parts : (a : Act) → w.small ≡ false → Has (upload_jobs false) a → Has uploads a
  in_parts a large known = subst (λ (b : Bool). Has (upload_jobs b) a) (sym large) known

  moved : (n : ℕ) → w.moves ≡ true → (n == 0) ≡ true → Has sources (act.Send op.Delete n)
  moved n moves e = subst (λ (b : Bool). Has (source_jobs b) (act.Send op.Delete n)) (sym moves)
      (at_zero (source_jobs true) op.Delete n e (inl refl))

  upload_piece : (a : Act) → w.of_kind ≡ kind.Upload → Has pieces a → Has (jobs_of w) a
  upload_piece a is known = of_kind kind.Upload a is (has-append_left pieces uploads a known)

  upload_once : (o : Op) (n : ℕ) → w.of_kind ≡ kind.Upload → w.small ≡ false → (n == 0) ≡ true
      → Has (upload_jobs false) (act.Send o 0) → HasJob o n
  upload_once o n is large e known = of_kind kind.Upload (act.Send o n) is
      (has-append_right pieces uploads (act.Send o n)
      (in_parts (act.Send o n) large (at_zero (upload_jobs false) o n e known)))

  copy_piece : (a : Act) → w.of_kind ≡ kind.Copy → Has pieces a → Has (jobs_of w) a
  copy_piece a is known = of_kind kind.Copy a is
      (has-append_left (pieces ++ uploads) sources a (has-append_left pieces uploads a known))

  copy_once : (o : Op) (n : ℕ) → w.of_kind ≡ kind.Copy → w.small ≡ false → (n == 0) ≡ true
      → Has (upload_jobs false) (act.Send o 0) → HasJob o n
  copy_once o n is large e known = of_kind kind.Copy (act.Send o n) is
      (has-append_left (pieces ++ uploads) sources (act.Send o n) (has-append_right pieces uploads (act.Send o n)
      (in_parts (act.Send o n) large (at_zero (upload_jobs false) o n e known))))

  front : (a b c : Bool) → (a && b && c) ≡ true → (a && b) ≡ true
  front a b c e = (and_parts (a && b) c e).0

  module _ (f : Act → Stage) where
    due_job : (k : Kind) → w.of_kind ≡ k → (o : Op) (n : ℕ) → is_due w f false k (act.Send o n) ≡ true → HasJob o n
    due_job kind.Upload is op.Put n e =
        let two = and_parts w.small (is_piece w n) (front w.small (is_piece w n) _ e) in
        upload_piece (act.Send op.Put n) is (piece_job op.Put n (op_is kind.Upload true is two.0) two.1)
    due_job kind.Upload is op.Create n e =
        let two = and_parts (not w.small) (n == 0) e in
        upload_once op.Create n is (is_false w.small two.0) two.1 (inl refl)
    due_job kind.Upload is op.Part n e =
        let two = and_parts (not w.small) (is_piece w n) (front (not w.small) (is_piece w n) _ e) in
        upload_piece (act.Send op.Part n) is
        (piece_job op.Part n (op_is kind.Upload false is (is_false w.small two.0)) two.1)
    due_job kind.Upload is op.Complete n e =
        let two = and_parts (not w.small) (n == 0) (front (not w.small) (n == 0) _ (and_parts _ _ e).0) in
        upload_once op.Complete n is (is_false w.small two.0) two.1 (inr (inl refl))
    due_job kind.Download is op.Get n e =
        of_kind kind.Download (act.Send op.Get n) is (has-append_left pieces sources (act.Send op.Get n)
        (piece_job op.Get n (op_is kind.Download w.small is refl) (and_parts (is_piece w n) _ e).0))
    due_job kind.Download is op.Delete n e =
        let two = and_parts w.moves (n == 0) (front w.moves (n == 0) _ e) in
        of_kind kind.Download (act.Send op.Delete n) is
        (has-append_right pieces sources (act.Send op.Delete n) (moved n two.0 two.1))
    due_job kind.Copy is op.Copy n e =
        let two = and_parts w.small (is_piece w n) e in
        copy_piece (act.Send op.Copy n) is (piece_job op.Copy n (op_is kind.Copy true is two.0) two.1)
    due_job kind.Copy is op.Create n e =
        let two = and_parts (not w.small) (n == 0) e in
        copy_once op.Create n is (is_false w.small two.0) two.1 (inl refl)
    due_job kind.Copy is op.PartCopy n e =
        let two = and_parts (not w.small) (is_piece w n) (front (not w.small) (is_piece w n) _ e) in
        copy_piece (act.Send op.PartCopy n) is
        (piece_job op.PartCopy n (op_is kind.Copy false is (is_false w.small two.0)) two.1)
    due_job kind.Copy is op.Complete n e =
        let two = and_parts (not w.small) (n == 0) (front (not w.small) (n == 0) _ (and_parts _ _ e).0) in
        copy_once op.Complete n is (is_false w.small two.0) two.1 (inr (inl refl))
    due_job kind.Copy is op.Delete n e =
        let two = and_parts w.moves (n == 0) (front w.moves (n == 0) _ e) in
        of_kind kind.Copy (act.Send op.Delete n) is
        (has-append_right (pieces ++ uploads) sources (act.Send op.Delete n) (moved n two.0 two.1))
    due_job kind.RemoveObject is op.Delete n e =
        of_kind kind.RemoveObject (act.Send op.Delete n) is
        (at_zero (act.Send op.Delete 0 ∷ []) op.Delete n e (inl refl))
    due_job k is o n e = no e

  module _ (h : History) (holds : IsHistory w h) where
    left_job : (o : Op) (n : ℕ) → is_left_over w (stage w h) true (act.Send o n) ≡ true → HasJob o n
    left_job op.Abort n e =
        let made = (and_parts _ _ (and_parts _ _ e).0).0 in
        let two = and_parts (n == 0) (has_done (stage w h (act.Send op.Create 0))) made in
        let parts = begun_calls w h holds (act.Send op.Create 0)
        (done_has_begun (stage w h (act.Send op.Create 0)) two.1) in
        elim parts.1 [
          | inl up ↦ upload_once op.Abort n up parts.0 two.0 (inr (inr (inl refl)))
          | inr over ↦ copy_once op.Abort n over parts.0 two.0 (inr (inr (inl refl)))
        ]
    left_job o n e = no e

    named_job : (stopped : Bool) (o : Op) (n : ℕ) → is_named w (stage w h) stopped (act.Send o n) ≡ true → HasJob o n
    named_job true o n e = left_job o n e
    named_job false o n e = due_job (stage w h) w.of_kind refl o n e

  pub ready_job : (h : History) → IsHistory w h → (o : Op) (n : ℕ) → is_ready_in w h (act.Send o n) ≡ true → HasJob o n
  ready_job h holds o n ready = named_job h holds (is_stopped w h) o n
      (and_parts (may_be_given (stage w h (act.Send o n))) _ ready).1

  -- ---- and each that was given

  abbrev IsJob : Act → Type 0
  IsJob (act.Send o n) = HasJob o n
  IsJob a = Unit {0}

  ready_is : (h : History) (a : Act) → IsHistory w h → is_ready_in w h a ≡ true → IsJob a
  ready_is h (act.Send o n) holds ready = ready_job h holds o n ready
  ready_is h a holds ready = tt

  pub begun_job : (h : History) → IsHistory w h → (o : Op) (n : ℕ) → has_begun (stage w h (act.Send o n)) ≡ true
      → HasJob o n
  begun_job h holds o n e = begun w IsJob ready_is h holds (act.Send o n) e
