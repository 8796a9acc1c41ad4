-- The law of buffers: no more jobs that take a part are in the lanes than there are parts.
use Rattle.std.proofs.Common.{◌≡◌, ◌∙◌, ◌==◌, ◌&&◌, ◌+◌, ◌++◌, ◌≤◌, ◌<◌, ℕ, zero, suc, Bool, true, false, List, [], ◌∷◌, Option, Some, None, refl, sym, subst, ap, arith, drop, length, slice_get}
use Rattle.std.proofs.lemmas.Bool.{and_parts, eqb-true, ltb-false, ltb-true}
use Rattle.std.specs.List.{range_with_len}
use Rattle.std.specs.Prelude.{filter, is_some, nat_lt, not, if◌then◌else◌}
use Rattle.jobs.specs.Endings.{SeenCarried}
use Rattle.job_terms.specs.Buffers.{holds_buffer}
use Rattle.job_terms.specs.Ops.{is_op, op_number}
use Rattle.job_terms.specs.Jobs.{job_of}
use Rattle.s3_model.specs.declared.outcomes.JobId.{JobId}
use Rattle.s3_model.specs.declared.requests.Op.{Op}
use Rattle.s3_model.specs.declared.requests.Op.TheVariants as op
use Rattle.s3_model.specs.declared.tasks.Kind.{Kind}
use Rattle.s3_model.specs.declared.tasks.Kind.TheVariants as kind
use Rattle.task_acts.specs.declared.acts.Act.{Act}
use Rattle.task_acts.specs.declared.acts.Act.TheVariants as act
use Rattle.task_acts.specs.declared.acts.FileCame.{FileCame}
use Rattle.task_acts.specs.declared.acts.Stage.{Stage}
use Rattle.task_acts.specs.declared.acts.Stage.TheVariants as at
use Rattle.task_acts.specs.declared.work.Work.{Work}
use Rattle.task_acts.specs.Failures.{is_stopped}
use Rattle.task_acts.specs.Histories.{History, Cancelled, Came, Gave, Returned, Taken}
use Rattle.task_acts.specs.Kept.{kept_job}
use Rattle.task_acts.specs.Rule.{acts_of, first_ready_in, is_due, is_left_over, is_named, is_ready_in}
use Rattle.task_acts.specs.Stages.{given_stage, has_done, is_out, may_be_given, stage}
use Rattle.task_acts.specs.Work.{first_number, is_piece, numbers, piece_op}
use Rattle.manager_moves.proofs.CountLemmas.{all_kept, no, one_added, sums}
use Rattle.manager_moves.proofs.HoldLemmas.{same_number, same_op}
use Rattle.manager_moves.proofs.MoveLaws.{IsGiven, given, is_freest}
use Rattle.manager_moves.proofs.PartLaws.{find_passes, flip, nothing, one_if, parts_are_enough, ready_act, same_value}
use Rattle.manager_moves.specs.declared.moves.Move.{Move}
use Rattle.manager_moves.specs.declared.moves.Move.TheVariants as move
use Rattle.manager_moves.specs.Laws.{BuffersAreKept, IsOfTask, IsRun, part_jobs_before, part_jobs_in}
use Rattle.manager_moves.specs.Lanes.{freest, jobs_in}
use Rattle.manager_moves.specs.Moves.{call_of, next_move}
use Rattle.manager_moves.specs.Parts.{holds_part, lent, parts_of, sum_from}
use Rattle.manager_moves.specs.Runs.{Back, Called, Events, Lined, Made, Sent, Shared, Stopped, is_task, lacks_memory, share, with_taken}

-- ---- counts that grow

gain : (q p : Bool) (x : ℕ) (ys zs : List ℕ) → q ≡ false → p ≡ true → length ys ≤ length zs + 0
    → length (if q then x ∷ ys else ys) + 1 ≤ length (if p then x ∷ zs else zs)
gain true p x ys zs e f l = no (sym e)
gain false true x ys zs e f l = omega arith
gain false false x ys zs e f l = no f

keep_gain : (q p : Bool) (x : ℕ) (ys zs : List ℕ) → (q ≡ true → p ≡ true) → length ys + 1 ≤ length zs
    → length (if q then x ∷ ys else ys) + 1 ≤ length (if p then x ∷ zs else zs)
keep_gain true true x ys zs h l = omega arith
keep_gain true false x ys zs h l = no (h refl)
keep_gain false true x ys zs h l = omega arith
keep_gain false false x ys zs h l = l

past : (start k : ℕ) → (start == k) ≡ false → start ≤ k → start + 1 ≤ k
past start k e l = grind arith

module _ (Q P : ℕ → Bool) (k : ℕ) (kept : (n : ℕ) → Q n ≡ true → P n ≡ true) (was : Q k ≡ false) (is : P k ≡ true) where
  one_gained : (start count : ℕ) → start ≤ k → k < start + count
      → length (filter Q (range_with_len start count)) + 1 ≤ length (filter P (range_with_len start count))
  one_gained start zero low high = absurd (omega arith)
  one_gained start (suc count) low high = by (start == k) refl (λ next. one_gained (start + 1) count next (omega arith))
    where
      by : (b : Bool) → (start == k) ≡ b
          → (start + 1 ≤ k → length (filter Q (range_with_len (start + 1) count)) + 1 ≤ length (filter P (range_with_len (start + 1) count)))
          → length (filter Q (range_with_len start (suc count))) + 1 ≤ length (filter P (range_with_len start (suc count)))
      by true e rest =
          let same = eqb-true start k e in
          gain (Q start) (P start) start _ _ (ap Q same ∙ was) (ap P same ∙ is) (all_kept Q P (start + 1) count 0 (λ n l h. kept n h))
      by false e rest = keep_gain (Q start) (P start) start _ _ (kept start) (rest (past start k e low))

-- ---- sums of which each term stays or grows

module _ (f g : ℕ → Work → ℕ) where
  abbrev Rises : ℕ → List Work → Type 0
  Rises n works = (i m : ℕ) (w : Work) → m ≡ n + i → slice_get works i ≡ Some w → f m w ≤ g m w

  all_rise : (n : ℕ) (works : List Work) → Rises n works → sum_from f n works ≤ sum_from g n works
  all_rise n [] rises = omega arith
  all_rise n (w ∷ works) rises =
      let here = rises 0 n w (omega arith) refl in
      let rest = all_rise (n + 1) works (λ i m v e is. rises (suc i) m v (omega arith) is) in
      omega arith

  one_rises : (t d : ℕ) (n : ℕ) (works : List Work) → Rises n works → (i : ℕ) (w : Work) → t ≡ n + i → slice_get works i ≡ Some w → f t w + d ≤ g t w
      → sum_from f n works + d ≤ sum_from g n works
  one_rises t d n [] rises i w e is more = absurd (nothing is)
  one_rises t d n (v ∷ works) rises zero w e is more =
      let same : v ≡ w = same_value is in
      let here : f n v + d ≤ g n v = subst (λ (x : Work). f n x + d ≤ g n x) (sym same) (subst (λ (m : ℕ). f m w + d ≤ g m w) (omega arith) more) in
      let rest = all_rise (n + 1) works (λ i m u e is. rises (suc i) m u (omega arith) is) in
      omega arith
  one_rises t d n (v ∷ works) rises (suc i) w e is more =
      let here = rises 0 n v (omega arith) refl in
      let rest = one_rises t d (n + 1) works (λ i m u e is. rises (suc i) m u (omega arith) is) i w (omega arith) is more in
      omega arith

-- ---- pieces whose job is out

-- a task whose requests carry bytes
abbrev moves_bytes : Kind → Bool
moves_bytes kind.Upload = true
moves_bytes kind.Download = true
moves_bytes of_kind = false

abbrev piece_out : Work → History → ℕ → Bool
piece_out w h n = moves_bytes w.of_kind && is_out (stage w h (act.Send (piece_op w.of_kind w.small) n))

abbrev pieces_out : Work → History → ℕ
pieces_out w h = length (filter (λ n. piece_out w h n) (numbers w))

out_once_given : (how : Stage) → is_out (given_stage how) ≡ true
out_once_given at.Waiting = refl
out_once_given at.Out = refl
out_once_given at.Kept = refl
out_once_given at.Again = refl
out_once_given at.Fine = refl
out_once_given at.Failed = refl

not_out_yet : (how : Stage) → may_be_given how ≡ true → is_out how ≡ false
not_out_yet at.Waiting e = refl
not_out_yet at.Kept e = refl
not_out_yet at.Out e = no e
not_out_yet at.Again e = no e
not_out_yet at.Fine e = no e
not_out_yet at.Failed e = no e

both_true : (a b : Bool) → a ≡ true → b ≡ true → (a && b) ≡ true
both_true true true e f = refl
both_true true false e f = f
both_true false b e f = no e

not_true : (b : Bool) → not b ≡ true → b ≡ false
not_true true e = no e
not_true false e = refl

second_false : (a b : Bool) → b ≡ false → (a && b) ≡ false
second_false true b e = e
second_false false b e = refl

piece_takes : (k : Kind) (small : Bool) → moves_bytes k ≡ true → holds_buffer (piece_op k small) ≡ true
piece_takes kind.Upload true e = refl
piece_takes kind.Upload false e = refl
piece_takes kind.Download small e = refl
piece_takes kind.Copy small e = no e
piece_takes kind.RemoveObject small e = no e
piece_takes kind.RemoveFile small e = no e

module _ (w : Work) where
  out_holds : (k : Kind) (stopped read placed : Bool) (how : Stage) → (moves_bytes k && is_out how) ≡ true → holds_part k stopped read placed how ≡ true
  out_holds kind.Upload stopped read placed how e = rw e refl
  out_holds kind.Download stopped read placed how e = rw e refl
  out_holds kind.Copy stopped read placed how e = no e
  out_holds kind.RemoveObject stopped read placed how e = no e
  out_holds kind.RemoveFile stopped read placed how e = no e

  -- each of them holds a part
  pieces_hold : (h : History) → pieces_out w h ≤ parts_of w h
  pieces_hold h =
      let few = all_kept (piece_out w h) (λ n. holds_part w.of_kind (is_stopped w h) (has_done (stage w h (act.Read n))) (has_done (stage w h (act.Place n)))
      (stage w h (act.Send (piece_op w.of_kind w.small) n))) (first_number w) w.count 0
      (λ n l e. out_holds w.of_kind (is_stopped w h) (has_done (stage w h (act.Read n))) (has_done (stage w h (act.Place n)))
      (stage w h (act.Send (piece_op w.of_kind w.small) n)) e) in
      omega arith

  -- ---- a job is given

  given_out : (b : Bool) → b ≡ true → (x y : Stage) → is_out (if b then given_stage x else y) ≡ true
  given_out true e x y = out_once_given x
  given_out false e x y = no e

  op_itself : (a : Op) → is_op a a ≡ true
  op_itself a = same_number (op_number a)

  module _ (o : Op) (k : ℕ) (h : History) where
    abbrev given_next : History
    given_next = Gave (act.Send o k) ∷ with_taken w o k h

    taken_same : (b : Bool) (a : Act) → stage w (if b then Taken o k ∷ h else h) a ≡ stage w h a
    taken_same true a = refl
    taken_same false a = refl

    stays_out : (b : Bool) (x y : Stage) → is_out y ≡ true → is_out (if b then given_stage x else y) ≡ true
    stays_out true x y e = out_once_given x
    stays_out false x y e = e

    out_still : (n : ℕ) → piece_out w h n ≡ true → piece_out w given_next n ≡ true
    out_still n e =
        let two = and_parts (moves_bytes w.of_kind) (is_out (stage w h (act.Send (piece_op w.of_kind w.small) n))) e in
        let b = is_some (kept_job w h (act.Send o k)) in
        let here = subst (λ (x : Stage). is_out x ≡ true) (sym (taken_same b (act.Send (piece_op w.of_kind w.small) n))) two.1 in
        both_true _ _ two.0 (stays_out (is_op (piece_op w.of_kind w.small) o && (n == k)) (stage w (with_taken w o k h) (act.Send o k)) (stage w (with_taken w o k h) (act.Send (piece_op w.of_kind w.small) n)) here)

    never_fewer : pieces_out w h ≤ pieces_out w given_next
    never_fewer = let few = all_kept (piece_out w h) (piece_out w given_next) (first_number w) w.count 0 (λ n l e. out_still n e) in omega arith

    -- what the rule says of a job that takes a part
    abbrev f : Act → Stage
    f = stage w h

    due_piece : (x : Kind) (of_op : Op) → holds_buffer of_op ≡ true → is_due w f (is_stopped w h) x (act.Send of_op k) ≡ true
        → (of_op ≡ piece_op x w.small) × (moves_bytes x ≡ true) × (is_piece w k ≡ true)
    due_piece kind.Upload op.Put takes e =
        let is = and_parts w.small (is_piece w k) (and_parts (w.small && is_piece w k) (has_done (f (act.Read k))) e).0 in
        (ap (piece_op kind.Upload) (sym is.0), refl, is.1)
    due_piece kind.Upload op.Part takes e =
        let is = and_parts (not w.small) (is_piece w k) (and_parts (not w.small && is_piece w k) (has_done (f (act.Read k))) e).0 in
        (ap (piece_op kind.Upload) (sym (not_true w.small is.0)), refl, is.1)
    due_piece kind.Upload op.Get takes e = no e
    due_piece kind.Download op.Get takes e = (refl, refl, (and_parts (is_piece w k) (has_done (f act.Assemble)) e).0)
    due_piece kind.Download op.Put takes e = no e
    due_piece kind.Download op.Part takes e = no e
    due_piece kind.Copy op.Put takes e = no e
    due_piece kind.Copy op.Part takes e = no e
    due_piece kind.Copy op.Get takes e = no e
    due_piece kind.RemoveObject op.Put takes e = no e
    due_piece kind.RemoveObject op.Part takes e = no e
    due_piece kind.RemoveObject op.Get takes e = no e
    due_piece kind.RemoveFile op.Put takes e = no e
    due_piece kind.RemoveFile op.Part takes e = no e
    due_piece kind.RemoveFile op.Get takes e = no e
    due_piece x of_op takes e = no takes

    not_left_over : (of_op : Op) → holds_buffer of_op ≡ true → is_left_over w f true (act.Send of_op k) ≡ true → false ≡ true
    not_left_over op.Put takes e = e
    not_left_over op.Part takes e = e
    not_left_over op.Get takes e = e
    not_left_over of_op takes e = takes

    named_piece : (stopped : Bool) → is_stopped w h ≡ stopped → holds_buffer o ≡ true → (if stopped then is_left_over w f stopped (act.Send o k) else is_due w f (is_stopped w h) w.of_kind (act.Send o k)) ≡ true
        → (o ≡ piece_op w.of_kind w.small) × (moves_bytes w.of_kind ≡ true) × (is_piece w k ≡ true)
    named_piece true s takes e = no (not_left_over o takes e)
    named_piece false s takes e = due_piece w.of_kind o takes e

    -- one piece more is out
    one_more_out : is_ready_in w h (act.Send o k) ≡ true → holds_buffer o ≡ true → pieces_out w h + 1 ≤ pieces_out w given_next
    one_more_out ready takes = one_gained (piece_out w h) (piece_out w given_next) k (λ n e. out_still n e) was is (first_number w) w.count low high
      where
        two : (may_be_given (f (act.Send o k)) ≡ true) × (is_named w f (is_stopped w h) (act.Send o k) ≡ true)
        two = and_parts (may_be_given (f (act.Send o k))) (is_named w f (is_stopped w h) (act.Send o k)) ready

        own : (o ≡ piece_op w.of_kind w.small) × (moves_bytes w.of_kind ≡ true) × (is_piece w k ≡ true)
        own = named_piece (is_stopped w h) refl takes two.1

        was : piece_out w h k ≡ false
        was = second_false (moves_bytes w.of_kind) _ (subst (λ (x : Op). is_out (f (act.Send x k)) ≡ false) own.0 (not_out_yet (f (act.Send o k)) two.0))

        is : piece_out w given_next k ≡ true
        is = both_true _ _ own.1 (given_out (is_op (piece_op w.of_kind w.small) o && (k == k))
            (both_true _ _ (subst (λ (x : Op). is_op (piece_op w.of_kind w.small) x ≡ true) (sym own.0) (op_itself (piece_op w.of_kind w.small))) (same_number k))
            (stage w (with_taken w o k h) (act.Send o k)) (stage w (with_taken w o k h) (act.Send (piece_op w.of_kind w.small) k)))

        within : (nat_lt k (first_number w + w.count) ≡ true) × (nat_lt (first_number w) (k + 1) ≡ true)
        within = and_parts (nat_lt k (first_number w + w.count)) (nat_lt (first_number w) (k + 1)) own.2

        low : first_number w ≤ k
        low = let l = ltb-true (first_number w) (k + 1) within.1 in omega arith

        high : k < first_number w + w.count
        high = ltb-true k (first_number w + w.count) within.0

  -- ---- a job comes back

  module _ (c : SeenCarried) (h : History) where
    elsewhere : (b : Bool) (x y : Stage) → b ≡ false → is_out y ≡ true → is_out (if b then x else y) ≡ true
    elsewhere true x y e f = no (sym e)
    elsewhere false x y e f = f

    out_elsewhere : (n : ℕ) → (is_op (piece_op w.of_kind w.small) c.job.id.op && (n == c.job.id.number)) ≡ false → piece_out w h n ≡ true → piece_out w (Came c ∷ h) n ≡ true
    out_elsewhere n other e =
        let two = and_parts (moves_bytes w.of_kind) (is_out (stage w h (act.Send (piece_op w.of_kind w.small) n))) e in
        both_true _ _ two.0 (elsewhere (is_op (piece_op w.of_kind w.small) c.job.id.op && (n == c.job.id.number)) _ (stage w h (act.Send (piece_op w.of_kind w.small) n)) other two.1)

    -- a job that takes no part is of no piece that is counted
    other_job : holds_buffer c.job.id.op ≡ false → (b : Bool) → is_op (piece_op w.of_kind w.small) c.job.id.op ≡ b → moves_bytes w.of_kind ≡ true → is_op (piece_op w.of_kind w.small) c.job.id.op ≡ false
    other_job takes false e bytes = e
    other_job takes true e bytes =
        no (sym takes ∙ subst (λ (x : Op). holds_buffer x ≡ true) (same_op (piece_op w.of_kind w.small) c.job.id.op e) (piece_takes w.of_kind w.small bytes))

    first_false : (a b : Bool) → a ≡ false → (a && b) ≡ false
    first_false true b e = no (sym e)
    first_false false b e = refl

    one_fewer_out : (b : Bool) → holds_buffer c.job.id.op ≡ b → pieces_out w h ≤ pieces_out w (Came c ∷ h) + one_if b
    one_fewer_out true takes = one_added (piece_out w h) (piece_out w (Came c ∷ h)) c.job.id.number
        (λ n apart e. out_elsewhere n (second_false (is_op (piece_op w.of_kind w.small) c.job.id.op) (n == c.job.id.number) apart) e) (first_number w) w.count
    one_fewer_out false takes = all_kept (piece_out w h) (piece_out w (Came c ∷ h)) (first_number w) w.count 0
        (λ n l e. out_elsewhere n (first_false _ (n == c.job.id.number)
        (other_job takes (is_op (piece_op w.of_kind w.small) c.job.id.op) refl (and_parts (moves_bytes w.of_kind) (is_out (stage w h (act.Send (piece_op w.of_kind w.small) n))) e).0)) e)

  -- ---- a call on files

  module _ (s : Shared) (before : Events) (r : FileCame) (h : History) where
    out_after_call : (t : ℕ) (a : Act) (m : Move) → call_of s before t a ≡ Some m → (n : ℕ) → piece_out w h n ≡ true → piece_out w (Returned a r ∷ Gave a ∷ h) n ≡ true
    out_after_call t (act.Send o k) m e n out = absurd (nothing e)
    out_after_call t (act.Read k) m e n out = out
    out_after_call t act.Assemble m e n out = out
    out_after_call t (act.Place k) m e n out = out
    out_after_call t act.Rename m e n out = out
    out_after_call t act.DropTemp m e n out = out
    out_after_call t act.Remove m e n out = out
    out_after_call t act.Stamp m e n out = out

    call_keeps : (t : ℕ) (a : Act) (m : Move) → call_of s before t a ≡ Some m → pieces_out w h ≤ pieces_out w (Returned a r ∷ Gave a ∷ h)
    call_keeps t a m e =
        let few = all_kept (piece_out w h) (piece_out w (Returned a r ∷ Gave a ∷ h)) (first_number w) w.count 0 (λ n l out. out_after_call t a m e n out) in
        omega arith

-- ---- all tasks

if_rises : (w : Work) (b : Bool) (g h : History) → pieces_out w h ≤ pieces_out w g → pieces_out w h ≤ pieces_out w (if b then g else h)
if_rises w true g h l = l
if_rises w false g h l = omega arith

if_own : (w : Work) (b : Bool) (g h : History) (d : ℕ) → b ≡ true → pieces_out w h + d ≤ pieces_out w g → pieces_out w h + d ≤ pieces_out w (if b then g else h)
if_own w true g h d e l = l
if_own w false g h d e l = no e

if_falls : (w : Work) (b : Bool) (g h : History) (d : ℕ) → pieces_out w h ≤ pieces_out w g + d → pieces_out w h ≤ pieces_out w (if b then g else h) + d
if_falls w true g h d l = l
if_falls w false g h d l = omega arith

if_other : (w : Work) (b : Bool) (g h : History) → b ≡ false → pieces_out w h ≤ pieces_out w (if b then g else h)
if_other w true g h e = no (sym e)
if_other w false g h e = omega arith

module _ (s : Shared) where
  abbrev outs : Events → ℕ
  outs events = sum_from (λ n w. pieces_out w (share w n events)) 0 s.works

  module _ (before : Events) where
    abbrev were : ℕ → Work → ℕ
    were n w = pieces_out w (share w n before)

    sent_rises : (t : ℕ) (o : Op) (k lane : ℕ) → IsGiven s before t o k lane → (b : Bool) → holds_buffer o ≡ b → outs before + one_if b ≤ outs (Sent t o k lane ∷ before)
    sent_rises t o k lane g b takes = one_rises were (λ n w. pieces_out w (share w n (Sent t o k lane ∷ before))) t (one_if b) 0 s.works
        (λ i m w e is. if_rises w (t == m) (given_next w o k (share w m before)) (share w m before) (never_fewer w o k (share w m before)))
        t g.work (omega arith) g.of_plan (if_own g.work (t == t) (given_next g.work o k (share g.work t before)) (share g.work t before) (one_if b) (same_number t) (own b takes))
      where
        is_next : is_ready_in g.work (share g.work t before) (act.Send o k) ≡ true
        is_next = find_passes (is_ready_in g.work (share g.work t before)) (acts_of g.work) (act.Send o k)
            (ready_act (lacks_memory t before) (first_ready_in g.work (share g.work t before)) (act.Send o k) g.is_ready)

        own : (b : Bool) → holds_buffer o ≡ b → were t g.work + one_if b ≤ pieces_out g.work (given_next g.work o k (share g.work t before))
        own true e = one_more_out g.work o k (share g.work t before) is_next e
        own false e = let l = never_fewer g.work o k (share g.work t before) in omega arith

    came_falls : (c : SeenCarried) (task : Option ℕ) → IsOfTask s before task c → (b : Bool) → holds_buffer c.job.id.op ≡ b
        → outs before ≤ sum_from (λ n w. pieces_out w (if is_task n task then Came c ∷ share w n before else share w n before)) 0 s.works + one_if b
    came_falls c None of b takes = absurd of
    came_falls c (Some t) of b takes = sums were (λ n w. pieces_out w (if is_task n (Some t) then Came c ∷ share w n before else share w n before)) t (one_if b) 0 s.works
        (λ i m w e is apart. if_other w (t == m) (Came c ∷ share w m before) (share w m before) (flip m t apart))
        (λ i w e is. if_falls w (t == t) (Came c ∷ share w t before) (share w t before) (one_if b) (one_fewer_out w c (share w t before) b takes))

    called_keeps : (t : ℕ) (a : Act) (r : FileCame) → call_of s before t a ≡ Some (next_move s before) → outs before ≤ outs (Called t a r ∷ before)
    called_keeps t a r e = all_rise were (λ n w. pieces_out w (share w n (Called t a r ∷ before))) 0 s.works
        (λ i m w l is. if_rises w (t == m) (Returned a r ∷ Gave a ∷ share w m before) (share w m before) (call_keeps w s before r (share w m before) t a (next_move s before) e))

  outs_hold : (events : Events) → outs events ≤ lent s.works events
  outs_hold events = all_rise (λ n w. pieces_out w (share w n events)) (λ n w. parts_of w (share w n events)) 0 s.works (λ i m w e is. pieces_hold w (share w m events))

-- ---- lanes

added : (jobs : List JobId) (job : JobId) (b : Bool) → holds_buffer job.op ≡ b → length (filter (λ (j : JobId). holds_buffer j.op) (jobs ++ job ∷ [])) ≡ length (filter (λ (j : JobId). holds_buffer j.op) jobs) + one_if b
added [] job true e = rw e refl
added [] job false e = rw e refl
added (first ∷ jobs) job b e = by (holds_buffer first.op) refl (added jobs job b e)
  where
    by : (p : Bool) → holds_buffer first.op ≡ p
        → length (filter (λ (j : JobId). holds_buffer j.op) (jobs ++ job ∷ [])) ≡ length (filter (λ (j : JobId). holds_buffer j.op) jobs) + one_if b
        → length (filter (λ (j : JobId). holds_buffer j.op) ((first ∷ jobs) ++ job ∷ [])) ≡ length (filter (λ (j : JobId). holds_buffer j.op) (first ∷ jobs)) + one_if b
    by true q rest = rw q (omega arith)
    by false q rest = rw q rest

module _ (t : ℕ) (o : Op) (k to : ℕ) (before : Events) where
  abbrev with_sent : Events
  with_sent = Sent t o k to ∷ before

  -- lanes below that one stay as they are
  lower_sent : (lanes : ℕ) → lanes ≤ to → part_jobs_before lanes with_sent ≡ part_jobs_before lanes before
  lower_sent zero low = refl
  lower_sent (suc lane) low =
      let other : (to == lane) ≡ false = grind arith in
      let here : part_jobs_in lane with_sent ≡ part_jobs_in lane before = ap (λ (b : Bool). length (filter (λ (j : JobId). holds_buffer j.op) (if b then jobs_in lane before ++ job_of t o k ∷ [] else jobs_in lane before))) other in
      let rest = lower_sent lane (omega arith) in
      omega arith

  pub lanes_sent : (b : Bool) → holds_buffer o ≡ b → (lanes : ℕ) → to < lanes → part_jobs_before lanes with_sent ≡ part_jobs_before lanes before + one_if b
  lanes_sent b e zero within = absurd (omega arith)
  lanes_sent b e (suc lane) within = by (to == lane) refl (λ below. lanes_sent b e lane below)
    where
      not_at : (x y : ℕ) → (x == y) ≡ false → x < suc y → x < y
      not_at x y e l = grind arith

      by : (same : Bool) → (to == lane) ≡ same → (to < lane → part_jobs_before lane with_sent ≡ part_jobs_before lane before + one_if b) → part_jobs_before (suc lane) with_sent ≡ part_jobs_before (suc lane) before + one_if b
      by true is rest =
          let at = eqb-true to lane is in
          let lower = lower_sent lane (omega arith) in
          let here : part_jobs_in lane with_sent ≡ part_jobs_in lane before + one_if b =
          ap (λ (x : Bool). length (filter (λ (j : JobId). holds_buffer j.op) (if x then jobs_in lane before ++ job_of t o k ∷ [] else jobs_in lane before))) is ∙ added (jobs_in lane before) (job_of t o k) b e in
          omega arith
      by false is rest =
          let here : part_jobs_in lane with_sent ≡ part_jobs_in lane before = ap (λ (x : Bool). length (filter (λ (j : JobId). holds_buffer j.op) (if x then jobs_in lane before ++ job_of t o k ∷ [] else jobs_in lane before))) is in
          let lower = rest (not_at to lane is within) in
          omega arith

dropped : (jobs : List JobId) (job : JobId) (b : Bool) → slice_get jobs 0 ≡ Some job → holds_buffer job.op ≡ b
    → length (filter (λ (j : JobId). holds_buffer j.op) (drop 1 jobs)) + one_if b ≡ length (filter (λ (j : JobId). holds_buffer j.op) jobs)
dropped [] job b is e = absurd (nothing is)
dropped (first ∷ jobs) job b is e = by b (ap (λ (j : JobId). holds_buffer j.op) (same_value is) ∙ e)
  where
    by : (p : Bool) → holds_buffer first.op ≡ p → length (filter (λ (j : JobId). holds_buffer j.op) (drop 1 (first ∷ jobs))) + one_if p ≡ length (filter (λ (j : JobId). holds_buffer j.op) (first ∷ jobs))
    by true q = rw q (omega arith)
    by false q = rw q (omega arith)

module _ (from : ℕ) (c : SeenCarried) (before : Events) (is_first : slice_get (jobs_in from before) 0 ≡ Some c.job.id) where
  abbrev with_back : Events
  with_back = Back from c ∷ before

  back_elsewhere : (lane : ℕ) → (from == lane) ≡ false → part_jobs_in lane with_back ≡ part_jobs_in lane before
  back_elsewhere lane other = ap (λ (x : Bool). length (filter (λ (j : JobId). holds_buffer j.op) (if x then drop 1 (jobs_in lane before) else jobs_in lane before))) other

  lower_back : (lanes : ℕ) → lanes ≤ from → part_jobs_before lanes with_back ≡ part_jobs_before lanes before
  lower_back zero low = refl
  lower_back (suc lane) low =
      let other : (from == lane) ≡ false = grind arith in
      let here = back_elsewhere lane other in
      let rest = lower_back lane (omega arith) in
      omega arith

  pub lanes_back : (b : Bool) → holds_buffer c.job.id.op ≡ b → (lanes : ℕ) → from < lanes → part_jobs_before lanes with_back + one_if b ≡ part_jobs_before lanes before
  lanes_back b e zero within = absurd (omega arith)
  lanes_back b e (suc lane) within = by (from == lane) refl (λ below. lanes_back b e lane below)
    where
      not_at : (x y : ℕ) → (x == y) ≡ false → x < suc y → x < y
      not_at x y e l = grind arith

      by : (same : Bool) → (from == lane) ≡ same → (from < lane → part_jobs_before lane with_back + one_if b ≡ part_jobs_before lane before) → part_jobs_before (suc lane) with_back + one_if b ≡ part_jobs_before (suc lane) before
      by true is rest =
          let at = eqb-true from lane is in
          let lower = lower_back lane (omega arith) in
          let first : slice_get (jobs_in lane before) 0 ≡ Some c.job.id = subst (λ (l : ℕ). slice_get (jobs_in l before) 0 ≡ Some c.job.id) at is_first in
          let opened : part_jobs_in lane with_back ≡ length (filter (λ (j : JobId). holds_buffer j.op) (drop 1 (jobs_in lane before))) =
          ap (λ (x : Bool). length (filter (λ (j : JobId). holds_buffer j.op) (if x then drop 1 (jobs_in lane before) else jobs_in lane before))) is in
          let here = dropped (jobs_in lane before) c.job.id b first e in
          omega arith
      by false is rest =
          let here = back_elsewhere lane is in
          let lower = rest (not_at from lane is within) in
          omega arith

-- lanes with the same jobs have as many of them
pub same_jobs : (events before : Events) → ((lane : ℕ) → jobs_in lane events ≡ jobs_in lane before) → (lanes : ℕ) → part_jobs_before lanes events ≡ part_jobs_before lanes before
same_jobs events before same zero = refl
same_jobs events before same (suc lane) =
    let here : part_jobs_in lane events ≡ part_jobs_in lane before = ap (λ (jobs : List JobId). length (filter (λ (j : JobId). holds_buffer j.op) jobs)) (same lane) in
    let rest = same_jobs events before same lane in
    omega arith

-- ---- every run

module _ (s : Shared) (some : 1 ≤ s.lanes) where
  pub none_beyond : (events : Events) → IsRun s events → (lane : ℕ) → s.lanes ≤ lane → jobs_in lane events ≡ []
  none_beyond [] h lane beyond = refl
  none_beyond (Made fits ∷ before) h lane beyond = none_beyond before h.1 lane beyond
  none_beyond (Sent t o k to ∷ before) h lane beyond =
      let g = given s before t o k to h.0 in
      let in_range : freest s.lanes before < s.lanes = (is_freest s before).within some in
      let at = g.to in
      let other : (to == lane) ≡ false = grind arith in
      ap (λ (b : Bool). if b then jobs_in lane before ++ job_of t o k ∷ [] else jobs_in lane before) other ∙ none_beyond before h.1 lane beyond
  none_beyond (Back from c ∷ before) h lane beyond = by (from == lane) (none_beyond before h.1 lane beyond)
    where
      by : (b : Bool) → jobs_in lane before ≡ [] → (if b then drop 1 (jobs_in lane before) else jobs_in lane before) ≡ []
      by true none = ap (λ (jobs : List JobId). drop 1 jobs) none
      by false none = none
  none_beyond (Called t a r ∷ before) h lane beyond = none_beyond before h.1 lane beyond
  none_beyond (Lined ∷ before) h lane beyond = none_beyond before h.1 lane beyond
  none_beyond (Stopped reason ∷ before) h lane beyond = none_beyond before h.1 lane beyond

  pub first_within : (events : Events) → IsRun s events → (lane : ℕ) (job : JobId) → slice_get (jobs_in lane events) 0 ≡ Some job → (b : Bool) → nat_lt lane s.lanes ≡ b → lane < s.lanes
  first_within events h lane job is true e = ltb-true lane s.lanes e
  first_within events h lane job is false e =
      let beyond = ltb-false lane s.lanes e in
      absurd (nothing (ap (λ (jobs : List JobId). slice_get jobs 0) (sym (none_beyond events h lane beyond)) ∙ is))

  pub sent_within : (before : Events) (t : ℕ) (o : Op) (k to : ℕ) → next_move s before ≡ move.Give t o k to → to < s.lanes
  sent_within before t o k to e =
      let g = given s before t o k to e in
      subst (λ (l : ℕ). l < s.lanes) (sym g.to) ((is_freest s before).within some)

  pub none_at_first : (lanes : ℕ) → part_jobs_before lanes [] ≡ 0
  none_at_first zero = refl
  none_at_first (suc lane) = let rest = none_at_first lane in omega arith

  few : (events : Events) → IsRun s events → part_jobs_before s.lanes events ≤ outs s events
  few [] h = let none = none_at_first s.lanes in omega arith
  few (Made fits ∷ before) h =
      let so_far = few before h.1 in
      let jobs = same_jobs (Made fits ∷ before) before (λ lane. refl) s.lanes in
      omega arith
  few (Sent t o k to ∷ before) h =
      let so_far = few before h.1 in
      let more = sent_rises s before t o k to (given s before t o k to h.0) (holds_buffer o) refl in
      let jobs = lanes_sent t o k to before (holds_buffer o) refl s.lanes (sent_within before t o k to h.0) in
      omega arith
  few (Back from c ∷ before) h =
      let so_far = few before h.1 in
      let fewer = came_falls s before c c.job.id.task h.0.1 (holds_buffer c.job.id.op) refl in
      let jobs = lanes_back from c before h.0.0 (holds_buffer c.job.id.op) refl s.lanes (first_within before h.1 from c.job.id h.0.0 (nat_lt from s.lanes) refl) in
      omega arith
  few (Called t a r ∷ before) h =
      let so_far = few before h.1 in
      let more = called_keeps s before t a r h.0.0 in
      let jobs = same_jobs (Called t a r ∷ before) before (λ lane. refl) s.lanes in
      omega arith
  few (Lined ∷ before) h =
      let so_far = few before h.1 in
      let jobs = same_jobs (Lined ∷ before) before (λ lane. refl) s.lanes in
      omega arith
  few (Stopped reason ∷ before) h =
      let so_far = few before h.1 in
      let same = all_rise (λ n w. pieces_out w (share w n before)) (λ n w. pieces_out w (share w n (Stopped reason ∷ before))) 0 s.works (λ i m w e is. stop_keeps w (share w m before)) in
      let jobs = same_jobs (Stopped reason ∷ before) before (λ lane. refl) s.lanes in
      omega arith
    where
      stop_keeps : (w : Work) (h : History) → pieces_out w h ≤ pieces_out w (Cancelled reason ∷ h)
      stop_keeps w h = omega arith

pub buffers_are_kept : BuffersAreKept
buffers_are_kept s events h = by s.lanes refl
  where
    by : (lanes : ℕ) → s.lanes ≡ lanes → part_jobs_before s.lanes events ≤ s.buffers
    by zero none = let nothing_out : part_jobs_before s.lanes events ≡ 0 = ap (λ (l : ℕ). part_jobs_before l events) none in omega arith
    by (suc lanes) some =
        let jobs = few s (omega arith) events h in
        let held = outs_hold s events in
        let enough = parts_are_enough s events h in
        omega arith
