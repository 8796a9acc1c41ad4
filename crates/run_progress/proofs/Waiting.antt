-- Which acts were not given yet: those of a task that was not made, and those of pieces behind one that waits.
use Rattle.std.proofs.Common.{◌≡◌, ◌∙◌, ◌==◌, ◌&&◌, ◌++◌, ◌≤◌, ◌<◌, ℕ, zero, suc, Bool, true, false, List, [], ◌∷◌, Option, Some, None, refl, sym, subst, ap, arith, slice_get, take}
use Rattle.std.proofs.lemmas.Bool.{and_parts, eqb-true}
use Rattle.std.specs.Prelude.{is_some, if◌then◌else◌}
use Rattle.jobs.specs.Endings.{SeenCarried}
use Rattle.s3_model.specs.declared.requests.Op.{Op}
use Rattle.s3_model.specs.declared.requests.Op.TheVariants as op
use Rattle.s3_model.specs.declared.tasks.Kind.{Kind}
use Rattle.s3_model.specs.declared.tasks.Kind.TheVariants as kind
use Rattle.task_acts.specs.declared.acts.Act.{Act}
use Rattle.task_acts.specs.declared.acts.Act.TheVariants as act
use Rattle.task_acts.specs.declared.acts.Stage.{Stage}
use Rattle.task_acts.specs.declared.acts.Stage.TheVariants as at
use Rattle.task_acts.specs.declared.work.Work.{Work}
use Rattle.task_acts.specs.Failures.{carried_cause, is_cut_short, is_stopped}
use Rattle.task_acts.specs.Histories.{Came, Gave, History, Returned, is_act, sent}
use Rattle.task_acts.specs.Kept.{MayHappen}
use Rattle.task_acts.specs.Rule.{acts_of, file_acts, first_ready_in, is_due, is_left_over, is_named, is_ready, is_ready_in, piece_sends, reads, single_sends}
use Rattle.task_acts.specs.Stages.{carried_stage, given_stage, has_done, is_out, may_be_given, stage}
use Rattle.task_acts.specs.Work.{is_piece, numbers, piece_op}
use Rattle.shared_lemmas.proofs.Members.{Has, has-append_left, has-append_right, has-map}
use Rattle.task_progress.proofs.Endings.{no}
use Rattle.manager_moves.proofs.MoveLaws.{in_front}
use Rattle.manager_moves.proofs.PartLaws.{find_passes, nothing, ready_act, same_value}
use Rattle.manager_moves.proofs.ShareLaws.{IsReady, act_of, is_called, is_next}
use Rattle.manager_moves.specs.Laws.{IsOfTask, IsRun}
use Rattle.manager_moves.specs.Moves.{call_of, next_move, ready}
use Rattle.manager_moves.specs.Runs.{Back, Called, Events, Lined, Made, Sent, Shared, Stopped, is_task, lacks_memory, made_count, share, with_taken}
use Rattle.run_progress.proofs.OutJobs.{called_same, same_job, taken_same}
use Rattle.run_progress.proofs.Ranks.{acts_sorted, found_least, rank}

abbrev pub is_waiting : Stage → Bool
is_waiting at.Waiting = true
is_waiting how = false

pub within_take : {X : Type 0} (n : ℕ) (xs : List X) (i : ℕ) (x : X) → slice_get (take n xs) i ≡ Some x → i < n
within_take zero xs i x e = absurd (nothing e)
within_take (suc n) [] i x e = absurd (nothing e)
within_take (suc n) (y ∷ ys) zero x e = omega arith
within_take (suc n) (y ∷ ys) (suc i) x e = let rest = within_take n ys i x e in omega arith

out_is_not_waiting : (how : Stage) → is_out how ≡ true → is_waiting how ≡ true → false ≡ true
out_is_not_waiting at.Waiting o e = o
out_is_not_waiting how o e = e

module _ (s : Shared) where
  -- a move is made for a made task
  next_is_made : (events : Events) (t : ℕ) (a : Act) → act_of (next_move s events) ≡ Some (t, a) → t < made_count events
  next_is_made events t a e = let is = is_next s events t a e in within_take (made_count events) s.works t is.0 is.1

  called_is_made : (events : Events) (t : ℕ) (a : Act) → call_of s events t a ≡ Some (next_move s events) → t < made_count events
  called_is_made events t a e = let is = is_called s events t a e in within_take (made_count events) s.works t is.0 is.1

  -- whose memory did not run out
  remembers : (b : Bool) (x : Option Act) (a : Act) → (if b then None else x) ≡ Some a → b ≡ false
  remembers true x a e = absurd (nothing e)
  remembers false x a e = refl

  module _ (n : ℕ) (w : Work) (of_plan : slice_get s.works n ≡ Some w) (a : Act) where
    abbrev pub Waits : Events → Type 0
    Waits events = is_waiting (stage w (share w n events) a) ≡ true

    other_task : (t : ℕ) → (t ≡ n → ⊥) → (b : Bool) → (t == n) ≡ b → (g h : History) → is_waiting (stage w h a) ≡ true → is_waiting (stage w (if b then g else h) a) ≡ true
    other_task t apart true e g h waits = absurd (apart (eqb-true t n e))
    other_task t apart false e g h waits = waits

    -- a job that is out does not wait, so none of a waiting act comes back
    came_waits : (c : SeenCarried) (before : Events) (task : Option ℕ) → IsOfTask s before task c → (b : Bool) → is_task n task ≡ b → Waits before → is_waiting (stage w (if b then Came c ∷ share w n before else share w n before) a) ≡ true
    came_waits c before task of false e waits = waits
    came_waits c before None of true e waits = no e
    came_waits c before (Some m) of true e waits = by (is_act a (sent c)) refl
      where
        is_w : of.0 ≡ w
        is_w = same_value (sym of.1 ∙ ap (slice_get s.works) (eqb-true m n e) ∙ of_plan)

        may : MayHappen w (share w n before) (Came c)
        may = subst (λ (x : Work). MayHappen x (share x n before) (Came c)) is_w (subst (λ (j : ℕ). MayHappen of.0 (share of.0 j before) (Came c)) (eqb-true m n e) of.2)

        same_act : (x : Act) → is_act x (sent c) ≡ true → x ≡ sent c
        same_act (act.Send o k) f = let is = same_job o c.job.id.op k c.job.id.number f in ap (λ (p : Op). act.Send p k) is.0 ∙ ap (act.Send c.job.id.op) is.1
        same_act (act.Read k) f = no f
        same_act act.Assemble f = no f
        same_act (act.Place k) f = no f
        same_act act.Rename f = no f
        same_act act.DropTemp f = no f
        same_act act.Remove f = no f
        same_act act.Stamp f = no f

        by : (b : Bool) → is_act a (sent c) ≡ b → is_waiting (if b then carried_stage w (is_stopped w (share w n before)) c else stage w (share w n before) a) ≡ true
        by true f = no (out_is_not_waiting (stage w (share w n before) a) (subst (λ (x : Act). is_out (stage w (share w n before) x) ≡ true) (sym (same_act a f)) may.0) waits)
        by false f = waits

    -- no act of a task that was not made was given
    pub unmade_waits : (events : Events) → IsRun s events → made_count events ≤ n → Waits events
    unmade_waits [] run few = refl
    unmade_waits (Made fits ∷ before) run few = unmade_waits before run.1 (omega arith)
    unmade_waits (Sent t o k to ∷ before) run few =
        let within = next_is_made before t (act.Send o k) (ap act_of run.0) in
        other_task t (λ same. absurd (omega arith)) (t == n) refl (Gave (act.Send o k) ∷ with_taken w o k (share w n before)) (share w n before) (unmade_waits before run.1 few)
    unmade_waits (Back from c ∷ before) run few = came_waits c before c.job.id.task run.0.1 (is_task n c.job.id.task) refl (unmade_waits before run.1 few)
    unmade_waits (Called t b r ∷ before) run few =
        let within = called_is_made before t b run.0.0 in
        other_task t (λ same. absurd (omega arith)) (t == n) refl (Returned b r ∷ Gave b ∷ share w n before) (share w n before) (unmade_waits before run.1 few)
    unmade_waits (Lined ∷ before) run few = unmade_waits before run.1 few
    unmade_waits (Stopped reason ∷ before) run few = unmade_waits before run.1 few

    -- nor of one for which memory ran out
    forgotten : (before : Events) (t : ℕ) (b : Act) → act_of (next_move s before) ≡ Some (t, b) → lacks_memory n before ≡ true → t ≡ n → ⊥
    forgotten before t b e lacks same =
        let is = is_next s before t b e in
        clash (sym (remembers (lacks_memory t before) _ b is.2) ∙ ap (λ (j : ℕ). lacks_memory j before) same ∙ lacks)
      where
        clash : false ≡ true → ⊥
        clash x = cc

    pub memory_waits : (events : Events) → IsRun s events → lacks_memory n events ≡ true → Waits events
    memory_waits [] run lacks = no lacks
    memory_waits (Made true ∷ before) run lacks = memory_waits before run.1 lacks
    memory_waits (Made false ∷ before) run lacks = by (made_count before == n) refl lacks (λ l. memory_waits before run.1 l)
      where
        by : (b : Bool) → (made_count before == n) ≡ b → (if b then true else lacks_memory n before) ≡ true → (lacks_memory n before ≡ true → Waits before) → Waits before
        by true e l rest = let same = eqb-true (made_count before) n e in unmade_waits before run.1 (omega arith)
        by false e l rest = rest l
    memory_waits (Sent t o k to ∷ before) run lacks =
        other_task t (forgotten before t (act.Send o k) (ap act_of run.0) lacks) (t == n) refl (Gave (act.Send o k) ∷ with_taken w o k (share w n before)) (share w n before) (memory_waits before run.1 lacks)
    memory_waits (Back from c ∷ before) run lacks = came_waits c before c.job.id.task run.0.1 (is_task n c.job.id.task) refl (memory_waits before run.1 lacks)
    memory_waits (Called t b r ∷ before) run lacks =
        other_task t (called_forgotten before t b run.0.0 lacks) (t == n) refl (Returned b r ∷ Gave b ∷ share w n before) (share w n before) (memory_waits before run.1 lacks)
      where
        called_forgotten : (before : Events) (t : ℕ) (b : Act) → call_of s before t b ≡ Some (next_move s before) → lacks_memory n before ≡ true → t ≡ n → ⊥
        called_forgotten before t b e lacks same =
            let is = is_called s before t b e in
            clash (sym (remembers (lacks_memory t before) _ b is.2) ∙ ap (λ (j : ℕ). lacks_memory j before) same ∙ lacks)
          where
            clash : false ≡ true → ⊥
            clash x = cc
    memory_waits (Lined ∷ before) run lacks = memory_waits before run.1 lacks
    memory_waits (Stopped reason ∷ before) run lacks = memory_waits before run.1 lacks

  -- ---- Gets are given in order

  module _ (n : ℕ) (w : Work) (of_plan : slice_get s.works n ≡ Some w) (down : w.of_kind ≡ kind.Download) where
    abbrev pub get : ℕ → Act
    get k = act.Send op.Get k

    abbrev pub waits_in : History → ℕ → Bool
    waits_in h k = is_waiting (stage w h (get k))

    -- where a Get waits, each with a higher number does
    abbrev pub InOrder : History → Type 0
    InOrder h = (j k : ℕ) → Has (numbers w) j → is_piece w j ≡ true → j < k → waits_in h j ≡ true → waits_in h k ≡ true

    not_left_over : (f : Act → Stage) (k : ℕ) → is_left_over w f true (get k) ≡ true → false ≡ true
    not_left_over f k e = e

    -- what a Get that is ready says of its task
    pub going : (f : Act → Stage) (stopped : Bool) (k : ℕ) → is_ready w f stopped (get k) ≡ true → (stopped ≡ false) × (has_done (f act.Assemble) ≡ true)
    going f true k e = no (and_parts (may_be_given (f (get k))) (is_left_over w f true (get k)) e).1
    going f false k e =
        let named = (and_parts (may_be_given (f (get k))) (is_due w f false w.of_kind (get k)) e).1 in
        (refl, (and_parts (is_piece w k) (has_done (f act.Assemble)) (subst (λ (x : Kind). is_due w f false x (get k) ≡ true) down named)).1)

    waiting_may : (how : Stage) → is_waiting how ≡ true → may_be_given how ≡ true
    waiting_may at.Waiting e = refl
    waiting_may how e = no e

    both : (a b : Bool) → a ≡ true → b ≡ true → (a && b) ≡ true
    both true true e f = refl
    both true false e f = f
    both false b e f = no e

    -- a Get of a piece that waits is ready where another one is
    pub ready_too : (f : Act → Stage) (stopped : Bool) (j k : ℕ) → is_piece w j ≡ true → is_waiting (f (get j)) ≡ true → is_ready w f stopped (get k) ≡ true → is_ready w f stopped (get j) ≡ true
    ready_too f stopped j k piece waits ready_k =
        let is = going f stopped k ready_k in
        both (may_be_given (f (get j))) (is_named w f stopped (get j)) (waiting_may (f (get j)) waits)
        (subst (λ (b : Bool). is_named w f b (get j) ≡ true) (sym is.0) (subst (λ (x : Kind). is_due w f false x (get j) ≡ true) (sym down) (both (is_piece w j) (has_done (f act.Assemble)) piece is.1)))

    pub get_known : (j : ℕ) → Has (numbers w) j → Has (acts_of w) (get j)
    get_known j known = has-append_left ((file_acts w ++ single_sends) ++ piece_sends w) (reads w) (get j) (has-append_right (file_acts w ++ single_sends) (piece_sends w) (get j)
        (subst (λ (o : Op). Has (piece_sends w) (act.Send o j)) (ap (λ (x : Kind). piece_op x w.small) down) (has-map (λ (k : ℕ). act.Send (piece_op w.of_kind w.small) k) (numbers w) j known)))

    -- the first that is ready is none behind a Get that waits
    none_behind : (h : History) (j k : ℕ) → Has (numbers w) j → is_piece w j ≡ true → j < k → waits_in h j ≡ true → first_ready_in w h ≡ Some (get k) → is_ready_in w h (get k) ≡ true → false ≡ true
    none_behind h j k known piece below waits first ready_k =
        let least = found_least (rank w) (is_ready_in w h) (acts_of w) (get k) (get j) (acts_sorted w) first (get_known j known) (ready_too (stage w h) (is_stopped w h) j k piece waits ready_k) in
        absurd (omega arith)

    given_no_more : (how : Stage) → is_waiting (given_stage how) ≡ true → false ≡ true
    given_no_more at.Kept e = e
    given_no_more at.Waiting e = e
    given_no_more at.Out e = e
    given_no_more at.Again e = e
    given_no_more at.Fine e = e
    given_no_more at.Failed e = e

    same_number : (j : ℕ) → (j == j) ≡ true
    same_number j = grind arith

    module _ (h : History) (o : Op) (m : ℕ) (first : first_ready_in w h ≡ Some (act.Send o m)) (ready_m : is_ready_in w h (act.Send o m) ≡ true) (so_far : InOrder h) where
      abbrev after : History
      after = Gave (act.Send o m) ∷ with_taken w o m h

      -- what waits now waited before
      waited : (j : ℕ) → waits_in after j ≡ true → (waits_in h j ≡ true) × (is_act (get j) (act.Send o m) ≡ false)
      waited j e = by (is_act (get j) (act.Send o m)) refl e
        where
          by : (b : Bool) → is_act (get j) (act.Send o m) ≡ b → is_waiting (if b then given_stage (stage w (with_taken w o m h) (act.Send o m)) else stage w (with_taken w o m h) (get j)) ≡ true
              → (waits_in h j ≡ true) × (is_act (get j) (act.Send o m) ≡ false)
          by true is f = no (given_no_more (stage w (with_taken w o m h) (act.Send o m)) f)
          by false is f = (subst (λ (x : Stage). is_waiting x ≡ true) (taken_same w o m h (get j)) f, is)

      sent_in_order : InOrder after
      sent_in_order j k known piece below e = by (is_act (get k) (act.Send o m)) refl
        where
          was : (waits_in h j ≡ true) × (is_act (get j) (act.Send o m) ≡ false)
          was = waited j e

          by : (b : Bool) → is_act (get k) (act.Send o m) ≡ b → is_waiting (if b then given_stage (stage w (with_taken w o m h) (act.Send o m)) else stage w (with_taken w o m h) (get k)) ≡ true
          by true is =
              let same = same_job op.Get o k m is in
              let this : act.Send o m ≡ get k = ap (λ (p : Op). act.Send p m) (sym same.0) ∙ ap (act.Send op.Get) (sym same.1) in
              no (none_behind h j k known piece below was.0 (first ∙ ap Some this) (subst (λ (x : Act). is_ready_in w h x ≡ true) this ready_m))
          by false is = subst (λ (x : Stage). is_waiting x ≡ true) (sym (taken_same w o m h (get k))) (so_far j k known piece below was.0)

    if_order : (b : Bool) (g h : History) → (b ≡ true → InOrder g) → InOrder h → InOrder (if b then g else h)
    if_order true g h f so_far = f refl
    if_order false g h f so_far = so_far

    sending : (t : ℕ) (o : Op) (m : ℕ) (before : Events) → IsReady s before t (act.Send o m) → (t == n) ≡ true → InOrder (share w n before)
        → InOrder (Gave (act.Send o m) ∷ with_taken w o m (share w n before))
    sending t o m before is same so_far =
        let is_w : is.0 ≡ w = same_value (sym (in_front (made_count before) s.works t is.0 is.1) ∙ ap (slice_get s.works) (eqb-true t n same) ∙ of_plan) in
        let here : ready s before n w ≡ Some (act.Send o m) = subst (λ (x : Work). ready s before n x ≡ Some (act.Send o m)) is_w (subst (λ (i : ℕ). ready s before i is.0 ≡ Some (act.Send o m)) (eqb-true t n same) is.2) in
        let first = ready_act (lacks_memory n before) (first_ready_in w (share w n before)) (act.Send o m) here in
        sent_in_order (share w n before) o m first (find_passes (is_ready_in w (share w n before)) (acts_of w) (act.Send o m) first) so_far

    carried_no_more : (cut stopped cause : Bool) → is_waiting (if cut then (if stopped then at.Failed else at.Kept) else if cause then at.Failed else at.Fine) ≡ true → false ≡ true
    carried_no_more true true cause e = e
    carried_no_more true false cause e = e
    carried_no_more false stopped true e = e
    carried_no_more false stopped false e = e

    back_waited : (c : SeenCarried) (h : History) (j : ℕ) (b : Bool) → is_waiting (stage w (if b then Came c ∷ h else h) (get j)) ≡ true → waits_in h j ≡ true
    back_waited c h j false e = e
    back_waited c h j true e = by (is_act (get j) (sent c)) e
      where
        by : (b : Bool) → is_waiting (if b then carried_stage w (is_stopped w h) c else stage w h (get j)) ≡ true → waits_in h j ≡ true
        by true f = no (carried_no_more (is_cut_short w c) (is_stopped w h) (is_some (carried_cause w c)) f)
        by false f = f

    came_order : (c : SeenCarried) (before : Events) → IsOfTask s before c.job.id.task c → InOrder (share w n before) → InOrder (if is_task n c.job.id.task then Came c ∷ share w n before else share w n before)
    came_order c before of so_far j k known piece below e =
        came_waits n w of_plan (get k) c before c.job.id.task of (is_task n c.job.id.task) refl
        (so_far j k known piece below (back_waited c (share w n before) j (is_task n c.job.id.task) e))

    pub in_order : (events : Events) → IsRun s events → InOrder (share w n events)
    in_order [] run = λ j k known piece below e. refl
    in_order (Made fits ∷ before) run = in_order before run.1
    in_order (Sent t o m to ∷ before) run =
        let so_far = in_order before run.1 in
        if_order (t == n) (Gave (act.Send o m) ∷ with_taken w o m (share w n before)) (share w n before) (λ same. sending t o m before (is_next s before t (act.Send o m) (ap act_of run.0)) same so_far) so_far
    in_order (Back from c ∷ before) run = came_order c before run.0.1 (in_order before run.1)
    in_order (Called t a r ∷ before) run = if_order (t == n) (Returned a r ∷ Gave a ∷ share w n before) (share w n before)
        (λ same j k known piece below e.
        let now = called_same w s before t a r (next_move s before) run.0.0 (share w n before) op.Get in
        subst (λ (x : Stage). is_waiting x ≡ true) (sym (now k)) (in_order before run.1 j k known piece below (subst (λ (x : Stage). is_waiting x ≡ true) (now j) e)))
        (in_order before run.1)
    in_order (Lined ∷ before) run = in_order before run.1
    in_order (Stopped reason ∷ before) run = in_order before run.1
