-- The law of parts: no more are held than there are.
use Rattle.std.proofs.Common.{◌≡◌, ◌∙◌, ◌==◌, ◌&&◌, ◌+◌, ◌≤◌, ℕ, Bool, true, false, List, [], ◌∷◌, Option, Some, None, refl, sym, subst, ap, arith, length, not, slice_get}
use Rattle.std.proofs.lemmas.Bool.{and_parts, eqb-true, ltb-true}
use Rattle.std.specs.List.{find}
use Rattle.std.specs.Prelude.{filter, is_some, if◌then◌else◌}
use Rattle.jobs.specs.Endings.{SeenCarried}
use Rattle.s3_model.specs.declared.outcomes.Reason.{Reason}
use Rattle.s3_model.specs.declared.requests.Op.{Op}
use Rattle.s3_model.specs.declared.requests.Op.TheVariants as op
use Rattle.s3_model.specs.declared.tasks.Kind.{Kind}
use Rattle.s3_model.specs.declared.tasks.Kind.TheVariants as kind
use Rattle.job_terms.specs.Ops.{is_op}
use Rattle.task_acts.specs.declared.acts.Act.{Act}
use Rattle.task_acts.specs.declared.acts.Act.TheVariants as act
use Rattle.task_acts.specs.declared.acts.FileCame.{FileCame}
use Rattle.task_acts.specs.declared.acts.Stage.{Stage}
use Rattle.task_acts.specs.declared.acts.Stage.TheVariants as at
use Rattle.task_acts.specs.declared.work.Work.{Work}
use Rattle.task_acts.specs.Failures.{is_stopped}
use Rattle.task_acts.specs.Histories.{History, Gave, Came, Returned, Cancelled, Taken, sent}
use Rattle.task_acts.specs.Kept.{MayHappen, kept_job}
use Rattle.task_acts.specs.Rule.{acts_of, first_ready_in, is_due, is_left_over, is_named, is_ready_in}
use Rattle.task_acts.specs.Stages.{has_done, is_out, may_be_given, stage}
use Rattle.task_acts.specs.Work.{first_number, is_piece, numbers, piece_op}
use Rattle.manager_moves.proofs.CountLemmas.{all_kept, no, not_both, one_added, sums}
use Rattle.manager_moves.proofs.HoldLemmas.{called, came, cancelled, kept, other_gave, placed, same_number, same_op, skip, taken}
use Rattle.manager_moves.proofs.MoveLaws.{IsGiven, given}
use Rattle.manager_moves.specs.declared.moves.Move.{Move}
use Rattle.manager_moves.specs.declared.moves.Move.TheVariants as move
use Rattle.manager_moves.specs.Laws.{IsOfTask, MayFollow, PartsAreEnough}
use Rattle.manager_moves.specs.Moves.{call_of, has_free_part, lacks_part, next_move, ready}
use Rattle.manager_moves.specs.Parts.{has_part, holds_part, lent, parts_of, sum_from}
use Rattle.manager_moves.specs.Runs.{Event, Events, Shared, Made, Sent, Back, Called, Lined, Stopped, is_task, lacks_memory, share, with_taken}

abbrev IsNoRead : Act → Type 0
IsNoRead (act.Send o k) = ⊥
IsNoRead (act.Read k) = ⊥
IsNoRead a = Unit {0}

-- ---- a job that is given

pub nothing : {X : Type 0} {x : X} → None ≡ Some x → ⊥
nothing e = cc

pub same_value : {X : Type 0} {x y : X} → Some x ≡ Some y → x ≡ y
same_value e = cc

first_passes : (p : Act → Bool) (x a : Act) (b : Bool) (rest : Option Act) → p x ≡ b → (rest ≡ Some a → p a ≡ true)
    → (if b then Some x else rest) ≡ Some a → p a ≡ true
first_passes p x a true rest q h e = subst (λ (y : Act). p y ≡ true) (same_value e) q
first_passes p x a false rest q h e = h e

pub find_passes : (p : Act → Bool) (xs : List Act) (a : Act) → find p xs ≡ Some a → p a ≡ true
find_passes p [] a e = absurd (nothing e)
find_passes p (x ∷ xs) a e = first_passes p x a (p x) (find p xs) refl (find_passes p xs a) e

-- an upload's piece that is ready was read
module _ (w : Work) (f : Act → Stage) where
  due_read : (small : Bool) (k : ℕ) → is_due w f false kind.Upload (act.Send (piece_op kind.Upload small) k) ≡ true
      → has_done (f (act.Read k)) ≡ true
  due_read true k e = (and_parts (w.small && is_piece w k) (has_done (f (act.Read k))) e).1
  due_read false k e = (and_parts (not w.small && is_piece w k) (has_done (f (act.Read k))) e).1

  not_left : (small : Bool) (k : ℕ) → is_left_over w f true (act.Send (piece_op kind.Upload small) k) ≡ true → false ≡ true
  not_left true k e = e
  not_left false k e = e

  named : (small stopped : Bool) (k : ℕ)
      → (if stopped then is_left_over w f stopped (act.Send (piece_op kind.Upload small) k)
      else is_due w f stopped kind.Upload (act.Send (piece_op kind.Upload small) k)) ≡ true
      → (stopped ≡ false) × (has_done (f (act.Read k)) ≡ true)
  named small true k e = no (not_left small k e)
  named small false k e = (refl, due_read small k e)

read_holds : (p : Bool) (how : Stage) → may_be_given how ≡ true → holds_part kind.Upload false true p how ≡ true
read_holds p at.Waiting e = refl
read_holds p at.Kept e = refl
read_holds p at.Out e = no e
read_holds p at.Again e = no e
read_holds p at.Fine e = no e
read_holds p at.Failed e = no e

neither : (a b : Bool) → a ≡ false → (a && b) ≡ false
neither false b e = refl
neither true b e = no (sym e)

module _ (w : Work) where
  abbrev job_of : ℕ → Act
  job_of k = act.Send (piece_op w.of_kind w.small) k

  after_taking : (b : Bool) (o : Op) (k : ℕ) (h : History) (n : ℕ) → has_part w (if b then Taken o k ∷ h else h) n ≡ true
      → has_part w h n ≡ true
  after_taking true o k h n e = kept w (Taken o k) h n (taken w o k h n) e
  after_taking false o k h n e = e

  module _ (o : Op) (k : ℕ) (h : History) where
    abbrev next : History
    next = Gave (act.Send o k) ∷ with_taken w o k h

    before_taking : (n : ℕ) → has_part w (with_taken w o k h) n ≡ true → has_part w h n ≡ true
    before_taking n = after_taking (is_some (kept_job w h (act.Send o k))) o k h n

    sent_other : (n : ℕ) → (n == k) ≡ false → has_part w next n ≡ true → has_part w h n ≡ true
    sent_other n e holds =
        before_taking n (kept w (Gave (act.Send o k)) (with_taken w o k h) n (other_gave w o k (with_taken w o k h) n e) holds)

    module _ (is_next : is_ready_in w h (act.Send o k) ≡ true) (is_its : piece_op w.of_kind w.small ≡ o)
        (has : o ≡ op.Get → has_part w h k ≡ true) where
      upload_holds : w.of_kind ≡ kind.Upload → has_part w h k ≡ true
      upload_holds e =
          let f = stage w h in
          let stop = is_stopped w h in
          let two = and_parts (may_be_given (f (act.Send o k))) (is_named w f stop (act.Send o k)) is_next in
          let of_piece = subst (λ (x : Op). (if stop then is_left_over w f stop (act.Send x k)
          else is_due w f stop w.of_kind (act.Send x k)) ≡ true) (sym is_its) two.1 in
          let of_upload = subst (λ (x : Kind). (if stop then is_left_over w f stop (act.Send (piece_op x w.small) k)
          else is_due w f stop x (act.Send (piece_op x w.small) k)) ≡ true) e of_piece in
          let read = named w f w.small stop k of_upload in
          let p = has_done (f (act.Place k)) in
          let how = f (job_of k) in
          let may = subst (λ (x : Op). may_be_given (f (act.Send x k)) ≡ true) (sym is_its) two.0 in
          let one = read_holds p how may in
          let with_read = subst (λ (x : Bool). holds_part kind.Upload false x p how ≡ true) (sym read.1) one in
          let with_stop = subst (λ (x : Bool). holds_part kind.Upload x (has_done (f (act.Read k))) p how ≡ true)
          (sym read.0) with_read in
          subst (λ (x : Kind). holds_part x stop (has_done (f (act.Read k))) p how ≡ true) (sym e) with_stop

      abbrev holds_in : Kind → Bool
      holds_in x = holds_part x (is_stopped w next) (has_done (stage w next (act.Read k)))
          (has_done (stage w next (act.Place k))) (stage w next (job_of k))

      by_kind : (x : Kind) → w.of_kind ≡ x → has_part w next k ≡ true → has_part w h k ≡ true
      by_kind kind.Upload e holds = upload_holds e
      by_kind kind.Download e holds = has (sym is_its ∙ ap (λ (x : Kind). piece_op x w.small) e)
      by_kind kind.Copy e holds = no (subst (λ (x : Kind). holds_in x ≡ true) e holds)
      by_kind kind.RemoveObject e holds = no (subst (λ (x : Kind). holds_in x ≡ true) e holds)
      by_kind kind.RemoveFile e holds = no (subst (λ (x : Kind). holds_in x ≡ true) e holds)

    sent_here : (b : Bool) → is_op (piece_op w.of_kind w.small) o ≡ b → is_ready_in w h (act.Send o k) ≡ true
        → (o ≡ op.Get → has_part w h k ≡ true) → has_part w next k ≡ true → has_part w h k ≡ true
    sent_here true e r has holds = by_kind r (same_op _ _ e) has w.of_kind refl holds
    sent_here false e r has holds = before_taking k (kept w (Gave (act.Send o k)) (with_taken w o k h) k
        (record { read = refl; placed = refl; sent_is = skip _ _ _ (neither (is_op (piece_op w.of_kind w.small) o) (k == k) e) }) holds)

    sent_any : (b : Bool) (n : ℕ) → (n == k) ≡ b → is_ready_in w h (act.Send o k) ≡ true
        → (o ≡ op.Get → has_part w h k ≡ true) → has_part w next n ≡ true → has_part w h n ≡ true
    sent_any false n e r has holds = sent_other n e holds
    sent_any true n e r has holds = let same = eqb-true n k e in
        subst (λ (m : ℕ). has_part w h m ≡ true) (sym same) (sent_here (is_op (piece_op w.of_kind w.small) o) refl r has
        (subst (λ (m : ℕ). has_part w next m ≡ true) same holds))

    -- a job takes one part at most, and none where it has what it needs
    sent_one : parts_of w next ≤ parts_of w h + 1
    sent_one = one_added (has_part w next) (has_part w h) k (λ n e. sent_other n e) (first_number w) w.count

    sent_none : is_ready_in w h (act.Send o k) ≡ true → (o ≡ op.Get → has_part w h k ≡ true)
        → parts_of w next ≤ parts_of w h + 0
    sent_none r has = all_kept (has_part w next) (has_part w h) (first_number w) w.count 0
        (λ n l. sent_any (n == k) n refl r has)

  -- ---- what else happens

  abbrev parts_in : History → ℕ
  parts_in h = parts_of w h

  stopped_none : (r : Reason) (h : History) → parts_in (Cancelled r ∷ h) ≤ parts_in h + 0
  stopped_none r h = all_kept (has_part w (Cancelled r ∷ h)) (has_part w h) (first_number w) w.count 0
      (λ n l. kept w (Cancelled r) h n (cancelled w r h n))

  came_none : (c : SeenCarried) (h : History) → is_out (stage w h (sent c)) ≡ true → parts_in (Came c ∷ h) ≤ parts_in h + 0
  came_none c h out = all_kept (has_part w (Came c ∷ h)) (has_part w h) (first_number w) w.count 0
      (λ n l. came w c h n out)

  module _ (r : FileCame) (h : History) where
    abbrev returned : Act → History
    returned a = Returned a r ∷ Gave a ∷ h

    read_one : (k : ℕ) → parts_in (returned (act.Read k)) ≤ parts_in h + 1
    read_one k = one_added (has_part w (returned (act.Read k))) (has_part w h) k (λ n e. called w (act.Read k) r h n e)
        (first_number w) w.count

    placed_any : (k n : ℕ) (b : Bool) → (n == k) ≡ b → has_part w (returned (act.Place k)) n ≡ true
        → has_part w h n ≡ true
    placed_any k n false e holds = called w (act.Place k) r h n e holds
    placed_any k n true e holds = let same = eqb-true n k e in
        subst (λ (m : ℕ). has_part w h m ≡ true) (sym same) (placed w k r h
        (subst (λ (m : ℕ). has_part w (returned (act.Place k)) m ≡ true) same holds))

    called_any : (a : Act) → (n : ℕ) → IsNoRead a → has_part w (returned a) n ≡ true → has_part w h n ≡ true
    called_any (act.Send o k) n e holds = absurd e
    called_any (act.Read k) n e holds = absurd e
    called_any (act.Place k) n e holds = placed_any k n (n == k) refl holds
    called_any act.Assemble n e holds = called w act.Assemble r h n tt holds
    called_any act.Rename n e holds = called w act.Rename r h n tt holds
    called_any act.DropTemp n e holds = called w act.DropTemp r h n tt holds
    called_any act.Remove n e holds = called w act.Remove r h n tt holds
    called_any act.Stamp n e holds = called w act.Stamp r h n tt holds

    called_none : (a : Act) → IsNoRead a → parts_in (returned a) ≤ parts_in h + 0
    called_none a e = all_kept (has_part w (returned a)) (has_part w h) (first_number w) w.count 0
        (λ n l. called_any a n e)

-- ---- all tasks

abbrev pub one_if : Bool → ℕ
one_if free = if free then 1 else 0

pub flip : (m n : ℕ) → (m == n) ≡ false → (n == m) ≡ false
flip m n e = grind arith

other_share : (w : Work) (b : Bool) (g h : History) → b ≡ false → parts_of w (if b then g else h) ≤ parts_of w h
other_share w true g h e = no (sym e)
other_share w false g h e = omega arith

own_share : (w : Work) (b : Bool) (g h : History) (d : ℕ) → b ≡ true → parts_of w g ≤ parts_of w h + d
    → parts_of w (if b then g else h) ≤ parts_of w h + d
own_share w true g h d e l = l
own_share w false g h d e l = no e

-- what an act that a made task is ready for says of its own history
pub ready_act : (b : Bool) (x : Option Act) (a : Act) → (if b then None else x) ≡ Some a → x ≡ Some a
ready_act true x a e = absurd (nothing e)
ready_act false x a e = e

lacks_none : (has free : Bool) → (not has && not free) ≡ false → free ≡ false → has ≡ true
lacks_none true free e f = refl
lacks_none false true e f = no (sym f)
lacks_none false false e f = no (sym e)

module _ (s : Shared) (before : Events) where
  abbrev held : ℕ → Work → ℕ
  held n w = parts_of w (share w n before)

  -- ---- a job is given

  module _ (t : ℕ) (o : Op) (k lane : ℕ) (g : IsGiven s before t o k lane) where
    abbrev sending : ℕ → Work → ℕ
    sending n w = parts_of w (share w n (Sent t o k lane ∷ before))

    others : (i m : ℕ) (w : Work) → m ≡ 0 + i → slice_get s.works i ≡ Some w → (m == t) ≡ false → sending m w ≤ held m w
    others i m w e is apart = other_share w (t == m) (next w o k (share w m before)) (share w m before) (flip m t apart)

    is_next : (w : Work) → w ≡ g.work → is_ready_in w (share w t before) (act.Send o k) ≡ true
    is_next w e = find_passes (is_ready_in w (share w t before)) (acts_of w) (act.Send o k) (ready_act (lacks_memory t before)
        (first_ready_in w (share w t before)) (act.Send o k)
        (subst (λ (v : Work). ready s before t v ≡ Some (act.Send o k)) (sym e) g.is_ready))

    has : (w : Work) → w ≡ g.work → has_free_part s before ≡ false → o ≡ op.Get
        → has_part w (share w t before) k ≡ true
    has w e full f = lacks_none (has_part w (share w t before) k) (has_free_part s before)
        (subst (λ (x : Op). lacks_part s before t w x k ≡ false) f
        (subst (λ (v : Work). lacks_part s before t v o k ≡ false) (sym e) g.has_part)) full

    is_work : (i : ℕ) (w : Work) → t ≡ 0 + i → slice_get s.works i ≡ Some w → w ≡ g.work
    is_work i w e is =
        let at_t = subst (λ (j : ℕ). slice_get s.works j ≡ Some w) (omega arith) is in
        same_value (sym at_t ∙ g.of_plan)

    own : (free : Bool) → has_free_part s before ≡ free → (i : ℕ) (w : Work) → t ≡ 0 + i → slice_get s.works i ≡ Some w
        → sending t w ≤ held t w + one_if free
    own true f i w e is = own_share w (t == t) (next w o k (share w t before)) (share w t before) 1 (same_number t)
        (sent_one w o k (share w t before))
    own false f i w e is = let same = is_work i w e is in
        own_share w (t == t) (next w o k (share w t before)) (share w t before) 0 (same_number t)
        (sent_none w o k (share w t before) (is_next w same) (has w same f))

    sent_step : (free : Bool) → has_free_part s before ≡ free
        → lent s.works (Sent t o k lane ∷ before) ≤ lent s.works before + one_if free
    sent_step free f = sums sending held t (one_if free) 0 s.works others (own free f)

  -- ---- a job comes back

  module _ (c : SeenCarried) where
    abbrev coming : Option ℕ → ℕ → Work → ℕ
    coming task n w = parts_of w (if is_task n task then Came c ∷ share w n before else share w n before)

    came_step : (task : Option ℕ) → IsOfTask s before task c
        → sum_from (coming task) 0 s.works ≤ sum_from held 0 s.works + 0
    came_step None of_task = absurd of_task
    came_step (Some t) of_task = sums (coming (Some t)) held t 0 0 s.works
        (λ i m w e is apart. other_share w (t == m) (Came c ∷ share w m before) (share w m before) (flip m t apart))
        (λ i w e is. own_share w (t == t) (Came c ∷ share w t before) (share w t before) 0 (same_number t)
        (came_none w c (share w t before) (own_work w (subst (λ (j : ℕ). slice_get s.works j ≡ Some w) (omega arith) is)).0))
      where
        own_work : (w : Work) → slice_get s.works t ≡ Some w → MayHappen w (share w t before) (Came c)
        own_work w is = subst (λ (v : Work). MayHappen v (share v t before) (Came c))
            (same_value (sym of_task.1 ∙ is)) of_task.2

  -- ---- a call on files

  module _ (t : ℕ) (a : Act) (r : FileCame) where
    abbrev calling : ℕ → Work → ℕ
    calling n w = parts_of w (share w n (Called t a r ∷ before))

    call_step : (d : ℕ) → ((w : Work) → parts_of w (Returned a r ∷ Gave a ∷ share w t before) ≤ held t w + d)
        → lent s.works (Called t a r ∷ before) ≤ lent s.works before + d
    call_step d h = sums calling held t d 0 s.works
        (λ i m w e is apart. other_share w (t == m) (Returned a r ∷ Gave a ∷ share w m before) (share w m before)
        (flip m t apart))
        (λ i w e is. own_share w (t == t) (Returned a r ∷ Gave a ∷ share w t before) (share w t before) d (same_number t)
        (h w))

  wants_part : (free : Bool) (n k : ℕ) (m : Move) → (if free then Some (move.Read n k) else None) ≡ Some m → free ≡ true
  wants_part true n k m e = refl
  wants_part false n k m e = absurd (nothing e)

  no_more : (n d : ℕ) → n ≤ n + d
  no_more n d = omega arith

  widened : (m n d : ℕ) → m ≤ n + 0 → m ≤ n + d
  widened m n d l = omega arith

  called_step : (t : ℕ) (a : Act) (r : FileCame) (m : Move) → call_of s before t a ≡ Some m
      → (free : Bool) → has_free_part s before ≡ free
      → lent s.works (Called t a r ∷ before) ≤ lent s.works before + one_if free
  called_step t (act.Send o k) r m e free f = absurd (nothing e)
  called_step t (act.Read k) r m e true f = call_step t (act.Read k) r 1 (λ w. read_one w r (share w t before) k)
  called_step t (act.Read k) r m e false f = not_both (has_free_part s before) (wants_part _ t k m e) f
  called_step t (act.Place k) r m e free f =
      widened _ _ (one_if free) (call_step t (act.Place k) r 0 (λ w. called_none w r (share w t before) (act.Place k) tt))
  called_step t act.Assemble r m e free f =
      widened _ _ (one_if free) (call_step t act.Assemble r 0 (λ w. called_none w r (share w t before) act.Assemble tt))
  called_step t act.Rename r m e free f =
      widened _ _ (one_if free) (call_step t act.Rename r 0 (λ w. called_none w r (share w t before) act.Rename tt))
  called_step t act.DropTemp r m e free f =
      widened _ _ (one_if free) (call_step t act.DropTemp r 0 (λ w. called_none w r (share w t before) act.DropTemp tt))
  called_step t act.Remove r m e free f =
      widened _ _ (one_if free) (call_step t act.Remove r 0 (λ w. called_none w r (share w t before) act.Remove tt))
  called_step t act.Stamp r m e free f =
      widened _ _ (one_if free) (call_step t act.Stamp r 0 (λ w. called_none w r (share w t before) act.Stamp tt))

  -- ---- a cancel

  stop_step : (r : Reason) → lent s.works (Stopped r ∷ before) ≤ lent s.works before + 0
  stop_step r = sums (λ n w. parts_of w (share w n (Stopped r ∷ before))) held 0 0 0 s.works
      (λ i m w e is apart. let l = stopped_none w r (share w m before) in omega arith)
      (λ i w e is. stopped_none w r (share w 0 before))

  -- ---- whatever happens

  step : (event : Event) → MayFollow s before event → (free : Bool) → has_free_part s before ≡ free
      → lent s.works (event ∷ before) ≤ lent s.works before + one_if free
  step (Made fits) may free f = no_more _ (one_if free)
  step (Sent t o k lane) may free f = sent_step t o k lane (given s before t o k lane may) free f
  step (Back lane c) may free f = widened _ _ (one_if free) (came_step c c.job.id.task may.1)
  step (Called t a r) may free f = called_step t a r (next_move s before) may.0 free f
  step Lined may free f = no_more _ (one_if free)
  step (Stopped r) may free f = widened _ _ (one_if free) (stop_step r)

  enough : (event : Event) → MayFollow s before event → (free : Bool) → has_free_part s before ≡ free
      → lent s.works before ≤ s.buffers → lent s.works (event ∷ before) ≤ s.buffers
  enough event may true f l =
      let less = ltb-true (lent s.works before) s.buffers f in
      let one = step event may true f in
      omega arith
  enough event may false f l = let none = step event may false f in omega arith

nothing_passes : (xs : List ℕ) → length (filter (λ (m : ℕ). false) xs) ≡ 0
nothing_passes [] = refl
nothing_passes (x ∷ xs) = nothing_passes xs

none_lent : (n : ℕ) (works : List Work) → sum_from (λ (m : ℕ) (w : Work). parts_of w (share w m [])) n works ≤ 0
none_lent n [] = omega arith
none_lent n (w ∷ works) =
    let here = all_kept (has_part w []) (λ (m : ℕ). false) (first_number w) w.count 0 (λ m l. no_part w.of_kind) in
    let none = nothing_passes (numbers w) in
    let rest = none_lent (n + 1) works in
    omega arith
  where
    no_part : (k : Kind) → holds_part k false false false at.Waiting ≡ true → false ≡ true
    no_part kind.Upload e = e
    no_part kind.Download e = e
    no_part kind.Copy e = e
    no_part kind.RemoveObject e = e
    no_part kind.RemoveFile e = e

pub parts_are_enough : PartsAreEnough
parts_are_enough s [] h = let l = none_lent 0 s.works in omega arith
parts_are_enough s (event ∷ before) h =
    enough s before event h.0 (has_free_part s before) refl (parts_are_enough s before h.1)
