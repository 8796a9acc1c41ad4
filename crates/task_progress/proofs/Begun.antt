-- Which acts of a task were given, and what the rule said of them then.
use Rattle.std.proofs.Common.{◌≡◌, ◌∙◌, ◌==◌, ◌&&◌, ◌⊎◌, ◌+◌, ◌++◌, ◌<◌, ◌≤◌, ℕ, zero, suc, Bool, true, false, refl, sym, subst, ap, arith, inl, inr, nat_lt, not}
use Rattle.std.proofs.lemmas.Bool.{and_parts, eqb-true, ltb-true}
use Rattle.std.specs.List.{range_with_len}
use Rattle.std.specs.Prelude.{[], ◌∷◌, if◌then◌else◌}
use Rattle.job_terms.specs.Ops.{is_op, op_number}
use Rattle.s3_model.specs.declared.requests.Op.{Op}
use Rattle.s3_model.specs.declared.requests.Op.TheVariants as op
use Rattle.s3_model.specs.declared.tasks.Kind.{Kind}
use Rattle.s3_model.specs.declared.tasks.Kind.TheVariants as kind
use Rattle.task_acts.specs.declared.acts.Act.{Act}
use Rattle.task_acts.specs.declared.acts.Act.TheVariants as act
use Rattle.task_acts.specs.declared.acts.Stage.{Stage}
use Rattle.task_acts.specs.declared.acts.Stage.TheVariants as at
use Rattle.task_acts.specs.declared.work.Work.{Work}
use Rattle.task_acts.specs.Failures.{is_stopped}
use Rattle.task_acts.specs.Histories.{Came, Cancelled, Gave, History, Returned, Taken, is_act, sent}
use Rattle.task_acts.specs.Kept.{IsHistory}
use Rattle.task_acts.specs.Rule.{acts_of, file_acts, is_due, is_left_over, is_named, is_ready_in, piece_sends, reads, single_sends}
use Rattle.task_acts.specs.Stages.{carried_stage, file_stage, given_stage, is_out, may_be_given, stage}
use Rattle.task_acts.specs.Work.{first_number, is_piece, numbers, piece_op}
use Rattle.job_terms.proofs.SameJobs.{op_same}
use Rattle.shared_lemmas.proofs.Members.{Has, has-append_left, has-append_right, has-map}
use Rattle.task_progress.proofs.Endings.{no}

-- ---- one act

pub same_act : (a b : Act) → is_act a b ≡ true → a ≡ b
same_act (act.Send o k) (act.Send p m) e =
    let two = and_parts (is_op o p) (k == m) e in
    ap (λ (x : Op). act.Send x k) (op_same o p (eqb-true (op_number o) (op_number p) two.0)) ∙ ap (act.Send p) (eqb-true k m two.1)
same_act (act.Read k) (act.Read m) e = ap act.Read (eqb-true k m e)
same_act act.Assemble act.Assemble e = refl
same_act (act.Place k) (act.Place m) e = ap act.Place (eqb-true k m e)
same_act act.Rename act.Rename e = refl
same_act act.DropTemp act.DropTemp e = refl
same_act act.Remove act.Remove e = refl
same_act act.Stamp act.Stamp e = refl
same_act a b e = no e

abbrev pub has_begun : Stage → Bool
has_begun at.Waiting = false
has_begun how = true

pub out_has_begun : (how : Stage) → is_out how ≡ true → has_begun how ≡ true
out_has_begun at.Waiting e = e
out_has_begun how e = refl

-- What the rule says of every act that it names is so of every act that was given.
module _ (w : Work) (P : Act → Type 0) (from : (h : History) (a : Act) → IsHistory w h → is_ready_in w h a ≡ true → P a) where
  pub begun : (h : History) → IsHistory w h → (a : Act) → has_begun (stage w h a) ≡ true → P a
  begun [] is a e = no e
  begun (Gave g ∷ h) is a e = by (is_act a g) refl e (λ f. begun h is.1 a f)
    where
      by : (b : Bool) → is_act a g ≡ b → has_begun (if b then given_stage (stage w h g) else stage w h a) ≡ true → (has_begun (stage w h a) ≡ true → P a) → P a
      by true same f rest = subst P (sym (same_act a g same)) (from h g is.1 is.0)
      by false same f rest = rest f
  begun (Came c ∷ h) is a e = by (is_act a (sent c)) refl e (λ x f. begun h is.1 x f)
    where
      by : (b : Bool) → is_act a (sent c) ≡ b → has_begun (if b then carried_stage w (is_stopped w h) c else stage w h a) ≡ true
          → ((x : Act) → has_begun (stage w h x) ≡ true → P x) → P a
      by true same f rest = subst P (sym (same_act a (sent c) same)) (rest (sent c) (out_has_begun (stage w h (sent c)) is.0.0))
      by false same f rest = rest a f
  begun (Returned called r ∷ h) is a e = by (is_act a called) refl e (λ x f. begun h is.1 x f)
    where
      by : (b : Bool) → is_act a called ≡ b → has_begun (if b then file_stage r else stage w h a) ≡ true
          → ((x : Act) → has_begun (stage w h x) ≡ true → P x) → P a
      by true same f rest = subst P (sym (same_act a called same)) (rest called (out_has_begun (stage w h called) is.0.1))
      by false same f rest = rest a f
  begun (Cancelled reason ∷ h) is a e = begun h is.1 a e
  begun (Taken o n ∷ h) is a e = begun h is.1 a e

-- ---- which acts there are

pub from_range : (start count n : ℕ) → start ≤ n → n < start + count → Has (range_with_len start count) n
from_range start zero n least below = absurd (omega arith)
from_range start (suc count) n least below = by (start == n) refl (λ more. from_range (start + 1) count n more (omega arith))
  where
    later : (a b : ℕ) → a ≤ b → (a == b) ≡ false → a + 1 ≤ b
    later a b l f = grind arith

    by : (b : Bool) → (start == n) ≡ b → (start + 1 ≤ n → Has (range_with_len (start + 1) count) n) → Has (range_with_len start (suc count)) n
    by true same rest = inl (eqb-true start n same)
    by false apart rest = inr (rest (later start n least apart))

pub is_false : (b : Bool) → not b ≡ true → b ≡ false
is_false true e = no e
is_false false e = refl

module _ (w : Work) where
  pub known_file : (a : Act) → Has (file_acts w) a → Has (acts_of w) a
  known_file a known = has-append_left ((file_acts w ++ single_sends) ++ piece_sends w) (reads w) a
      (has-append_left (file_acts w ++ single_sends) (piece_sends w) a (has-append_left (file_acts w) single_sends a known))

  pub known_single : (a : Act) → Has single_sends a → Has (acts_of w) a
  known_single a known = has-append_left ((file_acts w ++ single_sends) ++ piece_sends w) (reads w) a
      (has-append_left (file_acts w ++ single_sends) (piece_sends w) a (has-append_right (file_acts w) single_sends a known))

  pub has_number : (n : ℕ) → is_piece w n ≡ true → Has (numbers w) n
  has_number n e =
      let two = and_parts (nat_lt n (first_number w + w.count)) (nat_lt (first_number w) (n + 1)) e in
      let below = ltb-true n (first_number w + w.count) two.0 in
      let above = ltb-true (first_number w) (n + 1) two.1 in
      from_range (first_number w) w.count n (omega arith) below

  known_send : (o : Op) (n : ℕ) → piece_op w.of_kind w.small ≡ o → is_piece w n ≡ true → Has (acts_of w) (act.Send o n)
  known_send o n is e = subst (λ (x : Op). Has (acts_of w) (act.Send x n)) is
      (has-append_left ((file_acts w ++ single_sends) ++ piece_sends w) (reads w) (act.Send (piece_op w.of_kind w.small) n)
      (has-append_right (file_acts w ++ single_sends) (piece_sends w) (act.Send (piece_op w.of_kind w.small) n)
      (has-map (λ (k : ℕ). act.Send (piece_op w.of_kind w.small) k) (numbers w) n (has_number n e))))

  known_read : (n : ℕ) → is_piece w n ≡ true → Has (acts_of w) (act.Read n)
  known_read n e = has-append_right ((file_acts w ++ single_sends) ++ piece_sends w) (reads w) (act.Read n) (has-map (λ (k : ℕ). act.Read k) (numbers w) n (has_number n e))

  known_place : (n : ℕ) → is_piece w n ≡ true → Has (acts_of w) (act.Place n)
  known_place n e = known_file (act.Place n) (inr (inr (inr (inr (inr (has-map (λ (k : ℕ). act.Place k) (numbers w) n (has_number n e)))))))

  known_once : (o : Op) (n : ℕ) → Has single_sends (act.Send o 0) → (n == 0) ≡ true → Has (acts_of w) (act.Send o n)
  known_once o n known e = subst (λ (k : ℕ). Has (acts_of w) (act.Send o k)) (sym (eqb-true n 0 e)) (known_single (act.Send o 0) known)

  -- ---- what the rule names

  first_part : (a b : Bool) → (a && b) ≡ true → a ≡ true
  first_part a b e = (and_parts a b e).0

  middle_part : (a b c : Bool) → (a && b && c) ≡ true → b ≡ true
  middle_part a b c e = (and_parts a b (and_parts (a && b) c e).0).1

  module _ (f : Act → Stage) where
    op_is : (k : Kind) (small : Bool) → w.of_kind ≡ k → w.small ≡ small → piece_op w.of_kind w.small ≡ piece_op k small
    op_is k small is so = ap (λ (x : Kind). piece_op x w.small) is ∙ ap (piece_op k) so

    large_by : (a b c : Bool) → (not a && b && c) ≡ true → a ≡ false
    large_by a b c e = is_false a (and_parts (not a) b (and_parts (not a && b) c e).0).0

    due_known : (stopped : Bool) (k : Kind) → w.of_kind ≡ k → (a : Act) → is_due w f stopped k a ≡ true → Has (acts_of w) a
    due_known stopped kind.Upload is (act.Read n) e = known_read n (first_part (is_piece w n) _ e)
    due_known stopped kind.Upload is (act.Send op.Put n) e =
        known_send op.Put n (op_is kind.Upload true is (first_part w.small _ (and_parts (w.small && is_piece w n) _ e).0)) (middle_part w.small (is_piece w n) _ e)
    due_known stopped kind.Upload is (act.Send op.Create n) e = known_once op.Create n (inl refl) (and_parts (not w.small) (n == 0) e).1
    due_known stopped kind.Upload is (act.Send op.Part n) e =
        known_send op.Part n (op_is kind.Upload false is (large_by w.small (is_piece w n) _ e)) (middle_part (not w.small) (is_piece w n) _ e)
    due_known stopped kind.Upload is (act.Send op.Complete n) e = known_once op.Complete n (inr (inl refl)) (middle_part (not w.small) (n == 0) _ (and_parts _ _ e).0)
    due_known stopped kind.Upload is act.Remove e = known_file act.Remove (inr (inr (inr (inl refl))))
    due_known stopped kind.Download is act.Assemble e = known_file act.Assemble (inl refl)
    due_known stopped kind.Download is (act.Send op.Get n) e = known_send op.Get n (op_is kind.Download w.small is refl) (first_part (is_piece w n) _ e)
    due_known stopped kind.Download is (act.Place n) e = known_place n (first_part (is_piece w n) _ e)
    due_known stopped kind.Download is act.Rename e = known_file act.Rename (inr (inl refl))
    due_known stopped kind.Download is (act.Send op.Delete n) e = known_once op.Delete n (inr (inr (inr (inl refl)))) (middle_part w.moves (n == 0) _ e)
    due_known stopped kind.Copy is (act.Send op.Copy n) e =
        known_send op.Copy n (op_is kind.Copy true is (first_part w.small _ e)) (and_parts w.small (is_piece w n) e).1
    due_known stopped kind.Copy is (act.Send op.Create n) e = known_once op.Create n (inl refl) (and_parts (not w.small) (n == 0) e).1
    due_known stopped kind.Copy is (act.Send op.PartCopy n) e =
        known_send op.PartCopy n (op_is kind.Copy false is (large_by w.small (is_piece w n) _ e)) (middle_part (not w.small) (is_piece w n) _ e)
    due_known stopped kind.Copy is (act.Send op.Complete n) e = known_once op.Complete n (inr (inl refl)) (middle_part (not w.small) (n == 0) _ (and_parts _ _ e).0)
    due_known stopped kind.Copy is (act.Send op.Delete n) e = known_once op.Delete n (inr (inr (inr (inl refl)))) (middle_part w.moves (n == 0) _ e)
    due_known stopped kind.RemoveObject is (act.Send op.Delete n) e = known_once op.Delete n (inr (inr (inr (inl refl)))) e
    due_known stopped kind.RemoveFile is act.Remove e = known_file act.Remove (inr (inr (inr (inl refl))))
    due_known stopped k is a e = no e

    left_known : (a : Act) → is_left_over w f true a ≡ true → Has (acts_of w) a
    left_known (act.Send op.Abort n) e = known_once op.Abort n (inr (inr (inl refl))) (first_part (n == 0) _ (and_parts _ _ (and_parts _ _ e).0).0)
    left_known act.DropTemp e = known_file act.DropTemp (inr (inr (inl refl)))
    left_known a e = no e

    pub named_known : (stopped : Bool) (a : Act) → is_named w f stopped a ≡ true → Has (acts_of w) a
    named_known stopped act.Stamp e = known_file act.Stamp (inr (inr (inr (inr (inl refl)))))
    named_known true a e = left_known a e
    named_known false a e = due_known false w.of_kind refl a e

  pub ready_known : (h : History) (a : Act) → is_ready_in w h a ≡ true → Has (acts_of w) a
  ready_known h a e = named_known (stage w h) (is_stopped w h) a (and_parts (may_be_given (stage w h a)) _ e).1

  pub begun_known : (h : History) → IsHistory w h → (a : Act) → has_begun (stage w h a) ≡ true → Has (acts_of w) a
  begun_known h is a e = begun w (λ (x : Act). Has (acts_of w) x) (λ g x holds r. ready_known g x r) h is a e

  -- ---- uploads in parts, and temporary files

  abbrev pub IsInParts : Type 0
  IsInParts = (w.small ≡ false) × ((w.of_kind ≡ kind.Upload) ⊎ (w.of_kind ≡ kind.Copy))

  -- an upload is created, completed and aborted for what goes in parts, and a temporary file made for a download
  abbrev pub Calls : Act → Type 0
  Calls (act.Send op.Create n) = IsInParts
  Calls act.Assemble = w.of_kind ≡ kind.Download
  Calls a = Unit {0}

  module _ (f : Act → Stage) where
    due_calls : (stopped : Bool) (k : Kind) → w.of_kind ≡ k → (a : Act) → is_due w f stopped k a ≡ true → Calls a
    due_calls stopped kind.Upload is (act.Send op.Create n) e = (is_false w.small (first_part (not w.small) _ e), inl is)
    due_calls stopped kind.Copy is (act.Send op.Create n) e = (is_false w.small (first_part (not w.small) _ e), inr is)
    due_calls stopped k is (act.Send op.Create n) e = no e
    due_calls stopped kind.Download is act.Assemble e = is
    due_calls stopped k is act.Assemble e = no e
    due_calls stopped k is a e = tt

    left_calls : (a : Act) → is_left_over w f true a ≡ true → Calls a
    left_calls (act.Send op.Create n) e = no e
    left_calls act.Assemble e = no e
    left_calls a e = tt

    named_calls : (stopped : Bool) (a : Act) → is_named w f stopped a ≡ true → Calls a
    named_calls stopped act.Stamp e = tt
    named_calls true a e = left_calls a e
    named_calls false a e = due_calls false w.of_kind refl a e

  pub begun_calls : (h : History) → IsHistory w h → (a : Act) → has_begun (stage w h a) ≡ true → Calls a
  begun_calls h is a e = begun w Calls (λ g x holds r. named_calls (stage w g) (is_stopped w g) x (and_parts (may_be_given (stage w g x)) _ r).1) h is a e
