-- Where nothing is ready and nothing is out, a task has an outcome.
use Rattle.std.proofs.Common.{◌≡◌, ◌∙◌, ◌&&◌, ◌||◌, ◌⊎◌, ◌+◌, ◌++◌, ◌<◌, ◌≤◌, ℕ, zero, suc, Bool, true, false, List, [], ◌∷◌, Option, Some, None, refl, sym, subst, ap, arith, inl, inr, nat_lt, not}
use Rattle.std.proofs.lemmas.Bool.{and_parts}
use Rattle.std.specs.List.{find, list_all, range_with_len}
use Rattle.std.specs.Option.{option_or}
use Rattle.std.specs.Prelude.{is_some, if◌then◌else◌}
use Rattle.s3_model.specs.declared.outcomes.Cause.{Cause}
use Rattle.s3_model.specs.declared.outcomes.Outcome.{Outcome}
use Rattle.s3_model.specs.declared.outcomes.Outcome.TheVariants as outcome
use Rattle.s3_model.specs.declared.outcomes.Reason.{Reason}
use Rattle.s3_model.specs.declared.requests.Op.{Op}
use Rattle.s3_model.specs.declared.requests.Op.TheVariants as op
use Rattle.s3_model.specs.declared.tasks.Kind.{Kind}
use Rattle.s3_model.specs.declared.tasks.Kind.TheVariants as kind
use Rattle.s3_outside.specs.declared.files.FileFault.TheVariants as fault
use Rattle.job_terms.specs.Ops.{deciding}
use Rattle.task_acts.specs.declared.acts.Act.{Act}
use Rattle.task_acts.specs.declared.acts.Act.TheVariants as act
use Rattle.task_acts.specs.declared.acts.FileCame.{FileCame}
use Rattle.task_acts.specs.declared.acts.FileCame.TheVariants as file
use Rattle.task_acts.specs.declared.acts.Stage.{Stage}
use Rattle.task_acts.specs.declared.acts.Stage.TheVariants as at
use Rattle.task_acts.specs.declared.work.Work.{Work}
use Rattle.task_acts.specs.Ends.{cancel_cause, copied_for, failed_for, has_uncertain, how_ended, is_by_request, is_left_open, is_whole, last_cause, open_cause, outcome_of, removal, settled, stop_cause, unknown_for, unless_memory}
use Rattle.task_acts.specs.Failures.{carried_cause, failure_by, file_cause, first_failure, first_reason, is_cut_short, is_fine, is_stopped, reason_by, result_cause, wanted_memory}
use Rattle.task_acts.specs.Histories.{Came, Cancelled, Gave, Happening, History, Returned, Taken, is_act, sent}
use Rattle.task_acts.specs.Kept.{IsHistory}
use Rattle.task_acts.specs.Rule.{acts_of, file_acts, first_ready_in, is_decided_by, is_decided_in, is_due, is_each_done, is_idle_in, is_named, is_ready, is_ready_in, piece_sends, reads, single_sends}
use Rattle.task_acts.specs.Stages.{carried_stage, file_stage, given_stage, has_done, has_ended, is_out, may_be_given, stage}
use Rattle.task_acts.specs.Work.{deciding_op, first_number, is_piece, numbers, piece_op}
use Rattle.shared_lemmas.proofs.Members.{Has, has-append_left, has-append_right, has-map}
use Rattle.task_progress.specs.Progress.{HasPiece, TasksEnd}
use Rattle.task_progress.proofs.Endings.{chosen, decided_or, no, skipped, uncertain_is_told}

-- ---- lists

pub all_has : {X : Type 0} (p : X → Bool) (xs : List X) → list_all p xs ≡ true → (x : X) → Has xs x → p x ≡ true
all_has p [] e x h = absurd h
all_has p (y ∷ ys) e x (inl same) = subst (λ z. p z ≡ true) same (and_parts (p y) (list_all p ys) e).0
all_has p (y ∷ ys) e x (inr h) = all_has p ys (and_parts (p y) (list_all p ys) e).1 x h

pub all_from : {X : Type 0} (p : X → Bool) (xs : List X) → ((x : X) → Has xs x → p x ≡ true) → list_all p xs ≡ true
all_from p [] each = refl
all_from p (y ∷ ys) each = rw (each y (inl refl), all_from p ys (λ x h. each x (inr h))) refl

some_none : {X : Type 0} {P : Type 0} (x : X) → Some x ≡ None → P
some_none x e = cc

pub none_found : {X : Type 0} (p : X → Bool) (xs : List X) → find p xs ≡ None → (x : X) → Has xs x → p x ≡ false
none_found p [] e x h = absurd h
none_found p (y ∷ ys) e x h = by (p y) refl e h (λ f g. none_found p ys f x g)
  where
    by : (b : Bool) → p y ≡ b → (if b then Some y else find p ys) ≡ None → Has (y ∷ ys) x → (find p ys ≡ None → Has ys x → p x ≡ false) → p x ≡ false
    by true q f g rest = some_none y f
    by false q f (inl same) rest = subst (λ z. p z ≡ false) same q
    by false q f (inr g) rest = rest f g

pub in_range : (start count n : ℕ) → Has (range_with_len start count) n → (start ≤ n) × (n < start + count)
in_range start zero n h = absurd h
in_range start (suc count) n (inl same) = (omega arith, omega arith)
in_range start (suc count) n (inr h) = let rest = in_range (start + 1) count n h in (omega arith, omega arith)

pub first_in_range : (start count : ℕ) → 1 ≤ count → Has (range_with_len start count) start
first_in_range start zero some = absurd (omega arith)
first_in_range start (suc count) some = inl refl

pub less_is : (a b : ℕ) → a < b → nat_lt a b ≡ true
less_is a b l = grind arith

pub both : (a b : Bool) → a ≡ true → b ≡ true → (a && b) ≡ true
both true true e f = refl
both true false e f = f
both false b e f = no e

pub all_three : (a b c : Bool) → a ≡ true → b ≡ true → c ≡ true → (a && b && c) ≡ true
all_three a b c e f g = both (a && b) c (both a b e f) g

pub opposite : (b : Bool) → b ≡ false → not b ≡ true
opposite true e = no (sym e)
opposite false e = refl

first_of : (a b : Bool) → a ≡ true → (a || b) ≡ true
first_of true b e = refl
first_of false b e = no e

second_of : (a b : Bool) → b ≡ true → (a || b) ≡ true
second_of true b e = refl
second_of false b e = e

-- ---- what a failure leaves

keeps : {X : Type 0} (x y : Option X) → is_some x ≡ true → is_some (option_or x y) ≡ true
keeps None y e = no e
keeps (Some x) y e = refl

gains : {X : Type 0} (x y : Option X) → is_some y ≡ true → is_some (option_or x y) ≡ true
gains None y e = e
gains (Some x) y e = refl

either : (a b c d : Bool) → (a ≡ true → c ≡ true) → (b ≡ true → d ≡ true) → (a || b) ≡ true → (c || d) ≡ true
either true b c d f g e = rw (f refl) refl
either false true c d f g e = second c d (g refl)
  where
    second : (c d : Bool) → d ≡ true → (c || d) ≡ true
    second true d h = refl
    second false d h = h
either false false c d f g e = no e

-- an act whose failure counts: that a time could not be set, or that a temporary file stayed, is a warning
abbrev pub IsCounted : Act → Type 0
IsCounted act.Stamp = ⊥
IsCounted act.DropTemp = ⊥
IsCounted a = Unit {0}

result_counts : (a : Act) (r : FileCame) → is_fine r ≡ false → is_some (result_cause a r) ≡ true
result_counts a file.Fine e = no (sym e)
result_counts a file.Short e = refl
result_counts a (file.Fault fault.Failed) e = refl
result_counts a (file.Fault (fault.Blocked length)) e = refl
result_counts a (file.Fault fault.Memory) e = refl

call_counts : (a called : Act) (r : FileCame) → IsCounted a → is_act a called ≡ true → is_fine r ≡ false → is_some (file_cause called r) ≡ true
call_counts (act.Send o n) (act.Send p m) r counted same e = result_counts (act.Send p m) r e
call_counts (act.Read n) (act.Read m) r counted same e = result_counts (act.Read m) r e
call_counts act.Assemble act.Assemble r counted same e = result_counts act.Assemble r e
call_counts (act.Place n) (act.Place m) r counted same e = result_counts (act.Place m) r e
call_counts act.Rename act.Rename r counted same e = result_counts act.Rename r e
call_counts act.DropTemp act.DropTemp r counted same e = absurd counted
call_counts act.Remove act.Remove r counted same e = result_counts act.Remove r e
call_counts act.Stamp act.Stamp r counted same e = absurd counted
call_counts a called r counted same e = no same

abbrev pub has_failed : Stage → Bool
has_failed at.Failed = true
has_failed how = false

given_fails : (how : Stage) → has_failed (given_stage how) ≡ true → false ≡ true
given_fails at.Waiting e = e
given_fails at.Out e = e
given_fails at.Kept e = e
given_fails at.Again e = e
given_fails at.Fine e = e
given_fails at.Failed e = e

file_fails : (b : Bool) → has_failed (if b then at.Fine else at.Failed) ≡ true → b ≡ false
file_fails true e = no e
file_fails false e = refl

module _ (w : Work) where
  pub still_stopped : (e : Happening) (h : History) → is_stopped w h ≡ true → is_stopped w (e ∷ h) ≡ true
  still_stopped e h s = either _ _ _ _ (λ f. keeps (first_failure w h) (failure_by w e) f) (λ f. keeps (first_reason h) (reason_by e) f) s

  pub failure_stops : (e : Happening) (h : History) → is_some (failure_by w e) ≡ true → is_stopped w (e ∷ h) ≡ true
  failure_stops e h f = first (is_some (first_failure w (e ∷ h))) _ (gains (first_failure w h) (failure_by w e) f)
    where
      first : (a b : Bool) → a ≡ true → (a || b) ≡ true
      first true b g = refl
      first false b g = no g

  -- a job that came back failed where it was cut short after a stop, or has a cause
  job_fails : (cut stopped : Bool) (why : Option Cause) → has_failed (if cut then (if stopped then at.Failed else at.Kept) else if is_some why then at.Failed else at.Fine) ≡ true
      → (stopped ≡ true) ⊎ (is_some (if cut then None else why) ≡ true)
  job_fails true true why e = inl refl
  job_fails true false why e = no e
  job_fails false stopped None e = no e
  job_fails false stopped (Some why) e = inr refl

  pub failed_stops : (h : History) (a : Act) → IsCounted a → has_failed (stage w h a) ≡ true → is_stopped w h ≡ true
  failed_stops [] a counted e = no e
  failed_stops (Gave g ∷ h) a counted e = still_stopped (Gave g) h (by (is_act a g) e (λ f. failed_stops h a counted f))
    where
      by : (b : Bool) → has_failed (if b then given_stage (stage w h g) else stage w h a) ≡ true → (has_failed (stage w h a) ≡ true → is_stopped w h ≡ true) → is_stopped w h ≡ true
      by true f rest = no (given_fails (stage w h g) f)
      by false f rest = rest f
  failed_stops (Came c ∷ h) a counted e = by (is_act a (sent c)) e (λ f. failed_stops h a counted f)
    where
      by : (b : Bool) → has_failed (if b then carried_stage w (is_stopped w h) c else stage w h a) ≡ true → (has_failed (stage w h a) ≡ true → is_stopped w h ≡ true) → is_stopped w (Came c ∷ h) ≡ true
      by true f rest = elim (job_fails (is_cut_short w c) (is_stopped w h) (carried_cause w c) f) [
        | inl before ↦ still_stopped (Came c) h before
        | inr why ↦ failure_stops (Came c) h why
      ]
      by false f rest = still_stopped (Came c) h (rest f)
  failed_stops (Returned called r ∷ h) a counted e = by (is_act a called) refl e (λ f. failed_stops h a counted f)
    where
      by : (b : Bool) → is_act a called ≡ b → has_failed (if b then file_stage r else stage w h a) ≡ true → (has_failed (stage w h a) ≡ true → is_stopped w h ≡ true) → is_stopped w (Returned called r ∷ h) ≡ true
      by true same f rest = failure_stops (Returned called r) h (call_counts a called r counted same (file_fails (is_fine r) f))
      by false same f rest = still_stopped (Returned called r) h (rest f)
  failed_stops (Cancelled reason ∷ h) a counted e = still_stopped (Cancelled reason) h (failed_stops h a counted e)
  failed_stops (Taken o n ∷ h) a counted e = still_stopped (Taken o n) h (failed_stops h a counted e)

-- ---- a task that nothing stopped

ended_by : (how : Stage) (named : Bool) → not (is_out how) ≡ true → (may_be_given how && named) ≡ false → named ≡ true → has_ended how ≡ true
ended_by at.Waiting true o r e = no (sym r)
ended_by at.Waiting false o r e = no e
ended_by at.Out named o r e = no o
ended_by at.Kept true o r e = no (sym r)
ended_by at.Kept false o r e = no e
ended_by at.Again named o r e = no o
ended_by at.Fine named o r e = refl
ended_by at.Failed named o r e = refl

done_or_failed : (how : Stage) → has_ended how ≡ true → (has_done how ≡ true) ⊎ (has_failed how ≡ true)
done_or_failed at.Fine e = inl refl
done_or_failed at.Failed e = inr refl
done_or_failed how e = no e

module _ (w : Work) (h : History) (piece : HasPiece w) (none : first_ready_in w h ≡ None) (idle : is_idle_in w h ≡ true) where
  f : Act → Stage
  f a = stage w h a

  -- what the rule names has ended
  has_ended_by : (a : Act) → Has (acts_of w) a → (stopped : Bool) → is_stopped w h ≡ stopped → is_named w (stage w h) stopped a ≡ true → has_ended (stage w h a) ≡ true
  has_ended_by a known stopped is named = ended_by (stage w h a) (is_named w (stage w h) stopped a)
      (all_has (λ of_act. not (is_out (stage w h of_act))) (acts_of w) idle a known)
      (subst (λ (b : Bool). is_ready w (stage w h) b a ≡ false) is (none_found (is_ready_in w h) (acts_of w) none a known)) named

  -- ---- which acts there are

  file_act : (a : Act) → Has (file_acts w) a → Has (acts_of w) a
  file_act a known = has-append_left ((file_acts w ++ single_sends) ++ piece_sends w) (reads w) a
      (has-append_left (file_acts w ++ single_sends) (piece_sends w) a (has-append_left (file_acts w) single_sends a known))

  single : (a : Act) → Has single_sends a → Has (acts_of w) a
  single a known = has-append_left ((file_acts w ++ single_sends) ++ piece_sends w) (reads w) a
      (has-append_left (file_acts w ++ single_sends) (piece_sends w) a (has-append_right (file_acts w) single_sends a known))

  pub piece_send : (n : ℕ) → Has (numbers w) n → Has (acts_of w) (act.Send (piece_op w.of_kind w.small) n)
  piece_send n known = has-append_left ((file_acts w ++ single_sends) ++ piece_sends w) (reads w) (act.Send (piece_op w.of_kind w.small) n)
      (has-append_right (file_acts w ++ single_sends) (piece_sends w) (act.Send (piece_op w.of_kind w.small) n) (has-map (λ (k : ℕ). act.Send (piece_op w.of_kind w.small) k) (numbers w) n known))

  read_act : (n : ℕ) → Has (numbers w) n → Has (acts_of w) (act.Read n)
  read_act n known = has-append_right ((file_acts w ++ single_sends) ++ piece_sends w) (reads w) (act.Read n) (has-map (λ (k : ℕ). act.Read k) (numbers w) n known)

  place_act : (n : ℕ) → Has (numbers w) n → Has (acts_of w) (act.Place n)
  place_act n known = file_act (act.Place n) (inr (inr (inr (inr (inr (has-map (λ (k : ℕ). act.Place k) (numbers w) n known))))))

  pub piece_of : (n : ℕ) → Has (numbers w) n → is_piece w n ≡ true
  piece_of n known =
      let range = in_range (first_number w) w.count n known in
      both (nat_lt n (first_number w + w.count)) (nat_lt (first_number w) (n + 1)) (less_is n (first_number w + w.count) range.1) (less_is (first_number w) (n + 1) (omega arith))

  -- a small task has the piece 0 alone
  zero_is_first : w.small ≡ true → Has (numbers w) 0
  zero_is_first small =
      let first : first_number w ≡ 0 = chosen w.small 0 1 small in
      let some = piece.some in
      subst (λ (k : ℕ). Has (range_with_len k w.count) 0) (sym first) (first_in_range 0 w.count some)

  module _ (going : is_stopped w h ≡ false) where
    done : (a : Act) → Has (acts_of w) a → IsCounted a → is_named w (stage w h) false a ≡ true → has_done (stage w h a) ≡ true
    done a known counted named = elim (done_or_failed (stage w h a) (has_ended_by a known false going named)) [
      | inl fine ↦ fine
      | inr failed ↦ no (sym going ∙ failed_stops w h a counted failed)
    ]

    each : (act_at : ℕ → Act) → ((n : ℕ) → Has (numbers w) n → has_done (stage w h (act_at n)) ≡ true) → is_each_done w (stage w h) false act_at ≡ true
    each act_at all = all_from (λ n. has_done (stage w h (act_at n))) (numbers w) all

    abbrev Due : Kind → Act → Type 0
    Due k a = is_due w (stage w h) false k a ≡ true

    -- what a kind of task calls for is done
    module _ (k : Kind) (is_kind : w.of_kind ≡ k) where
      due : (a : Act) → Due k a → Due w.of_kind a
      due a e = subst (λ (x : Kind). Due x a) (sym is_kind) e

      op_is : (small : Bool) → w.small ≡ small → piece_op w.of_kind w.small ≡ piece_op k small
      op_is small is = ap (λ (x : Kind). piece_op x w.small) is_kind ∙ ap (piece_op k) is

    -- ---- an upload

    module _ (up : w.of_kind ≡ kind.Upload) where
      created : w.small ≡ false → has_done (stage w h (act.Send op.Create 0)) ≡ true
      created large = done (act.Send op.Create 0) (single (act.Send op.Create 0) (inl refl)) tt (due kind.Upload up (act.Send op.Create 0) (both (not w.small) true (opposite w.small large) refl))

      read : (n : ℕ) → Has (numbers w) n → has_done (stage w h (act.Read n)) ≡ true
      read n known = done (act.Read n) (read_act n known) tt (due kind.Upload up (act.Read n) (by w.small refl))
        where
          by : (small : Bool) → w.small ≡ small → (is_piece w n && (w.small || has_done (stage w h (act.Send op.Create 0)))) ≡ true
          by true is = both (is_piece w n) _ (piece_of n known) (first_of w.small _ is)
          by false is = both (is_piece w n) _ (piece_of n known) (second_of w.small _ (created is))

      put : w.small ≡ true → has_done (stage w h (act.Send op.Put 0)) ≡ true
      put small =
          let known = zero_is_first small in
          let there = subst (λ (x : Op). Has (acts_of w) (act.Send x 0)) (op_is kind.Upload up true small) (piece_send 0 known) in
          done (act.Send op.Put 0) there tt (due kind.Upload up (act.Send op.Put 0) (all_three w.small (is_piece w 0) _ small (piece_of 0 known) (read 0 known)))

      part : w.small ≡ false → (n : ℕ) → Has (numbers w) n → has_done (stage w h (act.Send op.Part n)) ≡ true
      part large n known =
          let there = subst (λ (x : Op). Has (acts_of w) (act.Send x n)) (op_is kind.Upload up false large) (piece_send n known) in
          done (act.Send op.Part n) there tt (due kind.Upload up (act.Send op.Part n) (all_three (not w.small) (is_piece w n) _ (opposite w.small large) (piece_of n known) (read n known)))

      pub completed : w.small ≡ false → has_done (stage w h (act.Send op.Complete 0)) ≡ true
      completed large =
          let all = each (λ (n : ℕ). act.Send op.Part n) (λ n known. part large n known) in
          done (act.Send op.Complete 0) (single (act.Send op.Complete 0) (inr (inl refl))) tt (due kind.Upload up (act.Send op.Complete 0) (both _ _ (all_three (not w.small) true _ (opposite w.small large) refl (created large)) all))

      upload_decided : (small : Bool) → w.small ≡ small → is_decided_by w (stage w h) false kind.Upload ≡ true
      upload_decided true is = subst (λ (x : Op). has_done (stage w h (act.Send x 0)) ≡ true) (sym (ap (λ (x : Kind). deciding x w.small) up ∙ ap (deciding kind.Upload) is)) (put is)
      upload_decided false is = subst (λ (x : Op). has_done (stage w h (act.Send x 0)) ≡ true) (sym (ap (λ (x : Kind). deciding x w.small) up ∙ ap (deciding kind.Upload) is)) (completed is)

      upload_moved : w.moves ≡ true → has_done (stage w h act.Remove) ≡ true
      upload_moved moves =
          let decided : is_decided_by w (stage w h) false w.of_kind ≡ true = subst (λ (x : Kind). is_decided_by w (stage w h) false x ≡ true) (sym up) (upload_decided w.small refl) in
          done act.Remove (file_act act.Remove (inr (inr (inr (inl refl))))) tt (due kind.Upload up act.Remove (both w.moves _ moves decided))

    -- ---- a download

    module _ (down : w.of_kind ≡ kind.Download) where
      assembled : has_done (stage w h act.Assemble) ≡ true
      assembled = done act.Assemble (file_act act.Assemble (inl refl)) tt (due kind.Download down act.Assemble refl)

      got : (n : ℕ) → Has (numbers w) n → has_done (stage w h (act.Send op.Get n)) ≡ true
      got n known =
          let there = subst (λ (x : Op). Has (acts_of w) (act.Send x n)) (op_is kind.Download down w.small refl) (piece_send n known) in
          done (act.Send op.Get n) there tt (due kind.Download down (act.Send op.Get n) (both (is_piece w n) _ (piece_of n known) assembled))

      placed : (n : ℕ) → Has (numbers w) n → has_done (stage w h (act.Place n)) ≡ true
      placed n known = done (act.Place n) (place_act n known) tt (due kind.Download down (act.Place n) (both (is_piece w n) _ (piece_of n known) (got n known)))

      pub renamed : has_done (stage w h act.Rename) ≡ true
      renamed =
          let all = each (λ (n : ℕ). act.Place n) (λ n known. placed n known) in
          done act.Rename (file_act act.Rename (inr (inl refl))) tt (due kind.Download down act.Rename (both _ _ assembled all))

      stamped : has_ended (stage w h act.Stamp) ≡ true
      stamped = has_ended_by act.Stamp (file_act act.Stamp (inr (inr (inr (inr (inl refl)))))) false going renamed

      download_moved : w.moves ≡ true → has_done (stage w h (act.Send op.Delete 0)) ≡ true
      download_moved moves = done (act.Send op.Delete 0) (single (act.Send op.Delete 0) (inr (inr (inr (inl refl))))) tt
          (due kind.Download down (act.Send op.Delete 0) (all_three w.moves true _ moves refl stamped))

    -- ---- a copy

    module _ (over : w.of_kind ≡ kind.Copy) where
      copied : w.small ≡ true → has_done (stage w h (act.Send op.Copy 0)) ≡ true
      copied small =
          let known = zero_is_first small in
          let there = subst (λ (x : Op). Has (acts_of w) (act.Send x 0)) (op_is kind.Copy over true small) (piece_send 0 known) in
          done (act.Send op.Copy 0) there tt (due kind.Copy over (act.Send op.Copy 0) (both w.small _ small (piece_of 0 known)))

      copy_created : w.small ≡ false → has_done (stage w h (act.Send op.Create 0)) ≡ true
      copy_created large = done (act.Send op.Create 0) (single (act.Send op.Create 0) (inl refl)) tt (due kind.Copy over (act.Send op.Create 0) (both (not w.small) true (opposite w.small large) refl))

      copied_part : w.small ≡ false → (n : ℕ) → Has (numbers w) n → has_done (stage w h (act.Send op.PartCopy n)) ≡ true
      copied_part large n known =
          let there = subst (λ (x : Op). Has (acts_of w) (act.Send x n)) (op_is kind.Copy over false large) (piece_send n known) in
          done (act.Send op.PartCopy n) there tt (due kind.Copy over (act.Send op.PartCopy n) (all_three (not w.small) (is_piece w n) _ (opposite w.small large) (piece_of n known) (copy_created large)))

      pub copy_completed : w.small ≡ false → has_done (stage w h (act.Send op.Complete 0)) ≡ true
      copy_completed large =
          let all = each (λ (n : ℕ). act.Send op.PartCopy n) (λ n known. copied_part large n known) in
          done (act.Send op.Complete 0) (single (act.Send op.Complete 0) (inr (inl refl))) tt
          (due kind.Copy over (act.Send op.Complete 0) (both _ _ (all_three (not w.small) true _ (opposite w.small large) refl (copy_created large)) all))

      copy_decided : (small : Bool) → w.small ≡ small → is_decided_by w (stage w h) false kind.Copy ≡ true
      copy_decided true is = subst (λ (x : Op). has_done (stage w h (act.Send x 0)) ≡ true) (sym (ap (λ (x : Kind). deciding x w.small) over ∙ ap (deciding kind.Copy) is)) (copied is)
      copy_decided false is = subst (λ (x : Op). has_done (stage w h (act.Send x 0)) ≡ true) (sym (ap (λ (x : Kind). deciding x w.small) over ∙ ap (deciding kind.Copy) is)) (copy_completed is)

      copy_moved : w.moves ≡ true → has_done (stage w h (act.Send op.Delete 0)) ≡ true
      copy_moved moves =
          let decided : is_decided_by w (stage w h) false w.of_kind ≡ true = subst (λ (x : Kind). is_decided_by w (stage w h) false x ≡ true) (sym over) (copy_decided w.small refl) in
          done (act.Send op.Delete 0) (single (act.Send op.Delete 0) (inr (inr (inr (inl refl))))) tt
          (due kind.Copy over (act.Send op.Delete 0) (all_three w.moves true _ moves refl decided))

    -- ---- removals

    object_removed : w.of_kind ≡ kind.RemoveObject → has_done (stage w h (act.Send op.Delete 0)) ≡ true
    object_removed away = done (act.Send op.Delete 0) (single (act.Send op.Delete 0) (inr (inr (inr (inl refl))))) tt (due kind.RemoveObject away (act.Send op.Delete 0) refl)

    file_removed : w.of_kind ≡ kind.RemoveFile → has_done (stage w h act.Remove) ≡ true
    file_removed away = done act.Remove (file_act act.Remove (inr (inr (inr (inl refl))))) tt (due kind.RemoveFile away act.Remove refl)

    -- ---- each kind

    whole_by : (decided moves gone : Bool) → decided ≡ true → (moves ≡ true → gone ≡ true) → (decided && (not moves || gone)) ≡ true
    whole_by true true gone e g = g refl
    whole_by true false gone e g = refl
    whole_by false moves gone e g = no e

    whole : (k : Kind) → w.of_kind ≡ k → (is_decided_by w (stage w h) false k && (not w.moves || has_done (stage w h (removal k)))) ≡ true
    whole kind.Upload is = whole_by _ w.moves _ (upload_decided is w.small refl) (upload_moved is)
    whole kind.Download is = whole_by _ w.moves _ (renamed is) (download_moved is)
    whole kind.Copy is = whole_by _ w.moves _ (copy_decided is w.small refl) (copy_moved is)
    whole kind.RemoveObject is = whole_by _ w.moves _
        (subst (λ (x : Op). has_done (stage w h (act.Send x 0)) ≡ true) (sym (ap (λ (x : Kind). deciding x w.small) is)) (object_removed is)) (λ moves. object_removed is)
    whole kind.RemoveFile is = whole_by _ w.moves _ (file_removed is) (λ moves. file_removed is)

    is_done_whole : is_whole w h ≡ true
    is_done_whole = whole w.of_kind refl

  -- ---- a task that was stopped has a cause

  caused : (memory : Bool) (failure : Option Cause) (reason : Option Reason) → (is_some failure || is_some reason) ≡ true
      → is_some (unless_memory memory (option_or failure (cancel_cause reason))) ≡ true
  caused true failure reason e = refl
  caused false (Some why) reason e = refl
  caused false None (Some reason) e = refl
  caused false None None e = no e

  stop_is_caused : is_stopped w h ≡ true → is_some (stop_cause w h) ≡ true
  stop_is_caused stopped = caused (wanted_memory w h) (first_failure w h) (first_reason h) stopped

  memory_or : (memory : Bool) (why : Option Cause) → is_some why ≡ true → is_some (unless_memory memory why) ≡ true
  memory_or true why e = refl
  memory_or false why e = e

  decided_is : (k : Kind) → is_by_request k ≡ true → is_decided_by w (stage w h) (is_stopped w h) k ≡ has_done (stage w h (act.Send (deciding_op w) 0))
  decided_is kind.Upload e = refl
  decided_is kind.Copy e = refl
  decided_is kind.RemoveObject e = refl
  decided_is kind.Download e = no e
  decided_is kind.RemoveFile e = no e

  open_is_caused : IsHistory w h → is_left_open w h ≡ true → is_some (open_cause w h) ≡ true
  open_is_caused history left =
      let two = and_parts (has_uncertain w h) (not (is_decided_in w h)) left in
      let told = uncertain_is_told w h history two.0 in
      elim told.1 [
        | inl has ↦ memory_or (wanted_memory w h) (last_cause w h) has
        | inr fine ↦ no (sym (undecided (is_decided_in w h) two.1) ∙ decided_is w.of_kind told.0 ∙ fine)
      ]
    where
      undecided : (b : Bool) → not b ≡ true → b ≡ false
      undecided true e = no e
      undecided false e = refl

  -- ---- how it ended

  told_by : (full unknown decided : Bool) (left stop : Option Cause) → (full ≡ false → is_some stop ≡ true) → (unknown ≡ true → is_some left ≡ true)
      → is_some (if full then Some outcome.Done else if unknown then unknown_for left else if decided then copied_for stop else failed_for stop) ≡ true
  told_by true unknown decided left stop s o = refl
  told_by false true decided None stop s o = no (o refl)
  told_by false true decided (Some why) stop s o = refl
  told_by false false decided left None s o = no (s refl)
  told_by false false true left (Some why) s o = refl
  told_by false false false left (Some why) s o = refl

  has_outcome : IsHistory w h → is_some (how_ended w h) ≡ true
  has_outcome history = told_by (is_whole w h) (is_left_open w h) (is_decided_in w h) (open_cause w h) (stop_cause w h)
      (λ partly. elim (decided_or (is_stopped w h)) [
        | inl stopped ↦ stop_is_caused stopped
        | inr going ↦ no (sym partly ∙ is_done_whole going)
      ])
      (λ unknown. open_is_caused history unknown)

  settles : IsHistory w h → is_some (settled w h) ≡ true
  settles history = subst (λ (x : Option Outcome). is_some x ≡ true)
      (sym (skipped (is_some (first_ready_in w h) || not (is_idle_in w h)) None (how_ended w h) (neither _ _ (ap (λ (a : Option Act). is_some a) none) (idle_is (is_idle_in w h) idle)))) (has_outcome history)
    where
      neither : (a b : Bool) → a ≡ false → b ≡ false → (a || b) ≡ false
      neither true b e g = no (sym e)
      neither false b e g = g

      idle_is : (b : Bool) → b ≡ true → not b ≡ false
      idle_is true e = refl
      idle_is false e = no e

pub tasks_end : TasksEnd
tasks_end w [] piece history none idle = settles w [] piece none idle history
tasks_end w (event ∷ before) piece history none idle = gains (outcome_of w before) (settled w (event ∷ before)) (settles w (event ∷ before) piece none idle history)
