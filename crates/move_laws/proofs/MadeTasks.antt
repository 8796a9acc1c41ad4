-- The next task is made, and what is kept follows the run.
use Rattle.std.proofs.Common.{◌≡◌, ◌∙◌, ◌==◌, ◌+◌, ◌-◌, ◌<◌, ◌≢◌, ◌^◌, ◌≤◌, ℕ, zero, suc, Bool, true, false, List, [], ◌∷◌, Option, Some, None}
use Rattle.std.proofs.Common.{refl, sym, subst, ap, arith, get_or, is_some, length, length-set, nat_lt, slice_get, if◌then◌else◌, inl}
use Rattle.std.specs.Prelude.{set, take}
use Rattle.std.proofs.lemmas.Bool.{eqb-true, le-ltb, lt-ltb, ltb-false, ltb-true}
use Rattle.alike_histories.specs.Alike.{AreAlike}
use Rattle.jobs.specs.Jobs.{SeenJob}
use Rattle.manager_moves.proofs.CountLemmas.{no}
use Rattle.manager_moves.proofs.HoldLemmas.{same_number, skip}
use Rattle.manager_moves.proofs.PartLaws.{nothing, same_value}
use Rattle.manager_moves.proofs.ShareLaws.{shares_are_histories}
use Rattle.manager_moves.specs.Moves.{made, unfinished_from}
use Rattle.manager_moves.specs.Runs.{Back, Called, Events, Lined, Made, Sent, Shared, Stopped, lacks_memory, made_count}
use Rattle.manager_moves.specs.Runs.{outcome_in, share}
use Rattle.part_tables.proofs.Following.{others_move_no_part}
use Rattle.part_tables.specs.Tables.{IsTableOf}
use Rattle.queue_laws.proofs.LaneLaws.{others_stay}
use Rattle.queue_laws.specs.Holding.{HoldLanes}
use Rattle.queue_laws.specs.ReadyActs.{sort_at}
use Rattle.queue_laws.specs.ReadyActs as laws
use Rattle.run_progress.proofs.Limits.{few_made}
use Rattle.s3_model.specs.declared.outcomes.Cause.TheVariants as cause
use Rattle.s3_model.specs.declared.outcomes.Outcome.{Outcome}
use Rattle.s3_model.specs.declared.outcomes.Outcome.TheVariants as outcome
use Rattle.s3_model.specs.declared.outcomes.Reason.{Reason}
use Rattle.task_acts.specs.declared.acts.Act.{Act}
use Rattle.task_acts.specs.declared.work.Work.{Work}
use Rattle.task_acts.specs.Ends.{outcome_of}
use Rattle.task_acts.specs.Histories.{History}
use Rattle.task_acts.specs.Kept.{kept_job}
use Rattle.task_acts.specs.Rule.{first_ready_in}
use Rattle.task_core.specs.Machine.{SeenTask, Stands}
use Rattle.task_progress.proofs.Quiet.{outcome_quiet}
use Rattle.task_acts.specs.declared.acts.Act.TheVariants as act
use Rattle.move_laws.proofs.Cancels.{cancels, first_is_alike, share_cancels, stands_there}
use Rattle.move_laws.proofs.Moving.{IsOfShare, OthersStay, front_at, one_moves, open_in, set_at}
use Rattle.move_laws.proofs.Open.{in_take}
use Rattle.move_laws.proofs.Settled.{same_outcome, slot_holds}
use Rattle.move_laws.proofs.Sorting.{sorted}
use Rattle.move_laws.proofs.Staying.{outcome_same}
use Rattle.move_laws.specs.Admits.{IsRunOf}
use Rattle.move_laws.specs.Follows.{Follows, HasItsPart, HoldsTask, IsTaskIn, cancel_of, outcome_at}
use Rattle.move_laws.specs.Kept.{IsMoved, IsSound, SeenMoves, slot_for, sort_by, with_state}
use Rattle.move_laws.specs.Making.{IsNew, first_cancel, with_lost, with_made}

-- ---- how many are unfinished

module _ (s : Shared) (events after : Events) where
  -- where the outcomes are the same
  unfinished_alike : (n : ℕ) (works : List Work)
      → ((i j : ℕ) (w : Work) → j ≡ n + i → slice_get works i ≡ Some w → outcome_in w j after ≡ outcome_in w j events)
      → unfinished_from s after n works ≡ unfinished_from s events n works
  unfinished_alike n [] same = refl
  unfinished_alike n (w ∷ works) same =
      let head : open_in w n after ≡ open_in w n events =
      ap (λ (o : Option Outcome). if is_some o then 0 else 1) (same 0 n w (omega arith) refl) in
      let rest = unfinished_alike (n + 1) works (λ i j v e is. same (suc i) j v (omega arith) is) in
      omega (arith, head, rest)

  -- with one task more
  one_more : (n i : ℕ) (works : List Work) (w : Work) → slice_get works i ≡ Some w
      → unfinished_from s after n (take (suc i) works)
      ≡ unfinished_from s after n (take i works) + open_in w (n + i) after
  one_more n i [] w there = absurd (nothing there)
  one_more n zero (v ∷ works) w there =
      let head : open_in v n after ≡ open_in w (n + 0) after =
      ap (λ (x : Work). open_in x n after) (same_value there)
      ∙ ap (λ (j : ℕ). open_in w j after) (omega arith) in
      omega (arith, head)
  one_more n (suc i) (v ∷ works) w there =
      let rest = one_more (n + 1) i works w there in
      let same : open_in w (n + 1 + i) after ≡ open_in w (n + suc i) after =
      ap (λ (j : ℕ). open_in w j after) (omega arith) in
      omega (arith, rest, same)

-- memory ran out for made tasks alone
pub lost_below : (n : ℕ) (events : Events) → lacks_memory n events ≡ true → n < made_count events
lost_below n [] e = no e
lost_below n (Made true ∷ before) e = let l = lost_below n before e in omega arith
lost_below n (Made false ∷ before) e = by (made_count before == n) refl e (λ f. lost_below n before f)
  where
    by : (b : Bool) → (made_count before == n) ≡ b → (if b then true else lacks_memory n before) ≡ true
        → (lacks_memory n before ≡ true → n < made_count before) → n < made_count before + 1
    by true f e rest = let same = eqb-true (made_count before) n f in omega arith
    by false f e rest = let l = rest e in omega arith
lost_below n (Sent task o k lane ∷ before) e = lost_below n before e
lost_below n (Back lane carried ∷ before) e = lost_below n before e
lost_below n (Called task called result ∷ before) e = lost_below n before e
lost_below n (Lined ∷ before) e = lost_below n before e
lost_below n (Stopped reason ∷ before) e = lost_below n before e

module _ (s : Shared) (events : Events) (fits : Bool) (run : IsRunOf s (Made fits ∷ events)) (m : SeenMoves)
    (follows : Follows s events m) (w : Work) (there : slice_get s.works (made_count events) ≡ Some w) where
  abbrev after : Events
  after = Made fits ∷ events

  abbrev task : ℕ
  task = made_count events

  abbrev h : History
  h = share w task events

  abbrev room : ℕ
  room = m.parts.pool.room

  share_is : h ≡ cancels events
  share_is = share_cancels s task w there events run.run.1 (inl (omega arith))

  is_made : slice_get (made s after) task ≡ Some w
  is_made =
      front_at (task + 1) s.works task
      ∙ ap (λ (b : Bool). if b then slice_get s.works task else None) (lt-ltb task (task + 1) (omega arith)) ∙ there

  other_memory : (b : Bool) (n : ℕ) → (task == n) ≡ false → lacks_memory n (Made b ∷ events) ≡ lacks_memory n events
  other_memory true n other = refl
  other_memory false n other = skip (task == n) true (lacks_memory n events) other

  other_made : (n : ℕ) → (task == n) ≡ false → (b : Bool) → nat_lt n task ≡ b → nat_lt n (task + 1) ≡ b
  other_made n other true e = lt-ltb n (task + 1) (let l = ltb-true n task e in omega arith)
  other_made n other false e =
      le-ltb n (task + 1) (let l = ltb-false n task e in let d : task ≢ n = grind arith in omega arith)

  stay : OthersStay task events after
  stay = record {
    made_so = λ n other. other_made n other (nat_lt n task) refl;
    memory = λ n other. other_memory fits n other;
    same = λ n other v. refl;
    lines = refl;
    cancel = refl;
  }

  -- ---- how many are unfinished

  below_apart : (n : ℕ) → n < task → (task == n) ≡ false
  below_apart n l = grind arith

  counted : unfinished_from s after 0 (made s after) ≡ m.unfinished + open_in w task after
  counted =
      let next : task + 1 ≡ suc task = omega arith in
      let all : unfinished_from s after 0 (made s after) ≡ unfinished_from s after 0 (take (suc task) s.works) =
      ap (λ (n : ℕ). unfinished_from s after 0 (take n s.works)) next in
      let more = one_more s events after 0 task s.works w there in
      let zero_more : 0 + task ≡ task = omega arith in
      let at : open_in w (0 + task) after ≡ open_in w task after = ap (λ (j : ℕ). open_in w j after) zero_more in
      let same = unfinished_alike s events after 0 (made s events) (λ i j v e is.
      let other = below_apart j (omega (arith, in_take task s.works i v is, e)) in
      outcome_same s events after j (stay.made_so j other) (stay.memory j other) (λ x. refl) v) in
      omega (arith, all, more, at, same, follows.unfinished)

  outcome_now : (lost : Bool) → lacks_memory task after ≡ lost
      → outcome_in w task after ≡ (if lost then Some (outcome.Failed cause.Memory) else outcome_of w h)
  outcome_now lost e =
      ap (λ (b : Bool). if b then (if lacks_memory task after then Some (outcome.Failed cause.Memory)
      else outcome_of w h) else None) (lt-ltb task (task + 1) (omega arith))
      ∙ ap (λ (b : Bool). if b then Some (outcome.Failed cause.Memory) else outcome_of w h) e

  at_now : outcome_at task (slice_get s.works task) after ≡ outcome_in w task after
  at_now = ap (λ (o : Option Work). outcome_at task o after) there

  -- ---- memory ran out for it

  module _ (sound : IsSound m.acts m.slots m.outcomes m.made) (new : SeenMoves) (lacks : lacks_memory task after ≡ true)
      (is : new ≡ with_lost m) where
    within : task < length m.slots
    within = omega (arith, few_made s after run.run, follows.count)

    lost_is : new ≡ record m {
      slots = set m.slots task None;
      outcomes = set m.outcomes task (Some (outcome.Failed cause.Memory));
      made = m.made + 1;
    }
    lost_is = is ∙ ap (λ (n : ℕ). record m {
      slots = set m.slots n None;
      outcomes = set m.outcomes n (Some (outcome.Failed cause.Memory));
      made = m.made + 1;
    }) follows.made_is

    -- it was ready for nothing before
    was_unready : get_or m.acts task None ≡ None
    was_unready =
        follows.acts task
        ∙ ap (λ (o : Option Work). sort_at s events task o)
        (front_at task s.works task
        ∙ ap (λ (b : Bool). if b then slice_get s.works task else None) (le-ltb task task (omega arith)))

    still_unready : (n : ℕ) (b : Bool) → (task == n) ≡ b
        → get_or m.acts n None ≡ (if b then None else get_or m.acts n None)
    still_unready n true e = ap (λ (k : ℕ). get_or m.acts k None) (sym (eqb-true task n e)) ∙ was_unready
    still_unready n false e = refl

    moved : IsMoved task None None (Some (outcome.Failed cause.Memory)) m new
    moved = record {
      queue = ap (λ (x : SeenMoves). x.queue) is;
      count = ap (λ (x : SeenMoves). length x.slots) is ∙ length-set m.slots m.made None;
      buffers = ap (λ (x : SeenMoves). x.parts.pool.count) is;
      room = ap (λ (x : SeenMoves). x.parts.pool.room) is;
      acts = λ n. ap (λ (x : SeenMoves). get_or x.acts n None) is ∙ still_unready n (task == n) refl;
      slots = λ n. ap (λ (x : SeenMoves). get_or x.slots n None) lost_is ∙ set_at None m.slots task None within n;
      outcomes = λ n. ap (λ (x : SeenMoves). get_or x.outcomes n None) lost_is
          ∙ set_at None m.outcomes task (Some (outcome.Failed cause.Memory))
          (omega (arith, within, sound.outcomes_are)) n;
      lined = ap (λ (x : SeenMoves). x.lined) is;
      reason = ap (λ (x : SeenMoves). x.reason) is;
    }

    of_share : IsOfShare s after task room None None (Some (outcome.Failed cause.Memory))
    of_share = record {
      sort_is = sym (ap (λ (o : Option Work). sort_at s after task o) is_made
          ∙ ap (λ (b : Bool). laws.sort_if w h (if b then None else first_ready_in w h)) lacks);
      ended_is = sym (at_now ∙ outcome_now true lacks);
      held = λ v e found. no (sym found ∙ lacks);
      lost = λ e. refl;
    }

    as_many : open_in w task after ≡ 0
    as_many = ap (λ (o : Option Outcome). if is_some o then 0 else 1) (outcome_now true lacks)

    pub loses : Follows s after new
    loses =
        one_moves s events after task None None (Some (outcome.Failed cause.Memory)) m new follows moved stay of_share
        (subst (λ (x : SeenMoves). HoldLanes s after x.lanes) (sym is)
        (others_stay s events m.lanes (Made fits) refl follows.lanes))
        (subst (λ (x : SeenMoves). IsTableOf s.works after x.parts.slots) (sym is)
        (others_move_no_part s.works events m.parts.slots fits follows.parts).0)
        (ap (λ (x : SeenMoves). x.made) is ∙ ap (λ (n : ℕ). n + 1) follows.made_is)
        (ap (λ (x : SeenMoves). x.unfinished) is ∙ omega (arith, counted, as_many))

  -- ---- its state is there

  module _ (sound : IsSound m.acts m.slots m.outcomes m.made) (t : SeenTask) (new : SeenMoves)
      (has : lacks_memory task after ≡ false) (stands : Stands w (first_cancel (cancel_of events)) t)
      (is : new ≡ with_state m.made t (with_made m)) where
    inside : task < length m.slots
    inside = omega (arith, few_made s after run.run, follows.count)

    made_so : new ≡ with_state task t (with_made m)
    made_so = is ∙ ap (λ (n : ℕ). with_state n t (with_made m)) follows.made_is

    moved_in : IsMoved task (sort_by t) (slot_for t) t.outcome m new
    moved_in = record {
      queue = ap (λ (x : SeenMoves). x.queue) is;
      count = ap (λ (x : SeenMoves). length x.slots) is ∙ length-set m.slots m.made (slot_for t);
      buffers = ap (λ (x : SeenMoves). x.parts.pool.count) is;
      room = ap (λ (x : SeenMoves). x.parts.pool.room) is;
      acts = λ n. ap (λ (x : SeenMoves). get_or x.acts n None) made_so
          ∙ set_at None m.acts task (sort_by t) (omega (arith, inside, sound.acts_are)) n;
      slots = λ n. ap (λ (x : SeenMoves). get_or x.slots n None) made_so
          ∙ set_at None m.slots task (slot_for t) inside n;
      outcomes = λ n. ap (λ (x : SeenMoves). get_or x.outcomes n None) made_so
          ∙ set_at None m.outcomes task t.outcome (omega (arith, inside, sound.outcomes_are)) n;
      lined = ap (λ (x : SeenMoves). x.lined) is;
      reason = ap (λ (x : SeenMoves). x.reason) is;
    }

    none_kept : (x : Option Reason) (a : Act) → kept_job w (first_cancel x) a ≡ None
    none_kept None a = refl
    none_kept (Some reason) a = refl

    is_in : IsTaskIn room w h t
    is_in = record {
      heard = first_cancel (cancel_of events);
      stands = stands;
      alike = subst (λ (x : History). AreAlike w (first_cancel (cancel_of events)) x) (sym share_is)
          (first_is_alike w events);
      parts = λ o n. subst (λ (j : Option SeenJob). HasItsPart room o j)
          (sym (stands.kept_are o n ∙ none_kept (cancel_of events) (act.Send o n))) tt;
    }

    quiet : is_some (outcome_of w h) ≡ true → first_ready_in w h ≡ None
    quiet e = (outcome_quiet w h (run.pieces task w there) (shares_are_histories s after task w there run.run) e).0

    outcome_is : t.outcome ≡ outcome_in w task after
    outcome_is = same_outcome room w h t is_in ∙ sym (outcome_now false has)

    of_share_in : IsOfShare s after task room (sort_by t) (slot_for t) t.outcome
    of_share_in = record {
      sort_is = sorted room w h t is_in
          ∙ sym (ap (λ (o : Option Work). sort_at s after task o) is_made
          ∙ ap (λ (b : Bool). laws.sort_if w h (if b then None else first_ready_in w h)) has);
      ended_is = outcome_is ∙ sym at_now;
      held = λ v e found. subst (λ (x : Work). HoldsTask room x (share x task after) (slot_for t))
          (same_value (sym is_made ∙ e)) (slot_holds room w h t is_in quiet);
      lost = λ e. no (sym has ∙ e);
    }

    one_open : (ended : Bool) (unfinished was count : ℕ) → count ≡ was + (if ended then 0 else 1)
        → unfinished ≡ was + 1 - (if ended then 1 else 0) → unfinished ≡ count
    one_open true unfinished was count a b = omega (arith, a, b)
    one_open false unfinished was count a b = omega (arith, a, b)

    pub makes : Follows s after new
    makes =
        one_moves s events after task (sort_by t) (slot_for t) t.outcome m new follows moved_in stay of_share_in
        (subst (λ (x : SeenMoves). HoldLanes s after x.lanes) (sym is)
        (others_stay s events m.lanes (Made fits) refl follows.lanes))
        (subst (λ (x : SeenMoves). IsTableOf s.works after x.parts.slots) (sym is)
        (others_move_no_part s.works events m.parts.slots fits follows.parts).0)
        (ap (λ (x : SeenMoves). x.made) is ∙ ap (λ (n : ℕ). n + 1) follows.made_is)
        (one_open (is_some t.outcome) new.unfinished m.unfinished (unfinished_from s after 0 (made s after))
        (counted ∙ ap (λ (o : Option Outcome). m.unfinished + (if is_some o then 0 else 1)) (sym outcome_is))
        (ap (λ (x : SeenMoves). x.unfinished) is))

-- memory did not run out for a task that is made only now
pub fresh : (s : Shared) (events : Events) → lacks_memory (made_count events) events ≡ false
fresh s events = by (lacks_memory (made_count events) events) refl
  where
    by : (b : Bool) → lacks_memory (made_count events) events ≡ b → b ≡ false
    by true e = let l = lost_below (made_count events) events e in absurd (omega arith)
    by false e = refl

-- ---- what can be counted

take_few : {X : Type 0} (k : ℕ) (xs : List X) → length (take k xs) ≤ k
take_few zero xs = omega arith
take_few (suc k) [] = omega arith
take_few (suc k) (x ∷ xs) = let rest = take_few k xs in omega arith

few_open : (s : Shared) (events : Events) (n : ℕ) (works : List Work) → unfinished_from s events n works ≤ length works
few_open s events n [] = omega arith
few_open s events n (w ∷ works) =
    let rest = few_open s events (n + 1) works in
    let one = at_most_one (is_some (outcome_in w n events)) in omega (arith, rest, one)
  where
    at_most_one : (b : Bool) → (if b then 0 else 1) ≤ 1
    at_most_one true = omega arith
    at_most_one false = omega arith

-- a run that goes on to make a task has one more, and can count it
pub makes_within : (s : Shared) (events : Events) (fits : Bool) (m : SeenMoves) → IsRunOf s (Made fits ∷ events)
    → Follows s events m → m.made < length m.slots
makes_within s events fits m run follows =
    let few = few_made s (Made fits ∷ events) run.run in omega (arith, few, follows.count, follows.made_is)

pub counts_within : (s : Shared) (events : Events) (fits : Bool) (m : SeenMoves) → IsRunOf s (Made fits ∷ events)
    → Follows s events m → IsSound m.acts m.slots m.outcomes m.made → m.unfinished + 1 < 2 ^ 32
counts_within s events fits m run follows sound =
    let few = few_made s (Made fits ∷ events) run.run in
    let many = few_open s events 0 (made s events) in
    let front = take_few (made_count events) s.works in
    omega (arith, few, many, front, follows.count, follows.unfinished, sound.few)

-- ---- by what is kept alone

module _ (s : Shared) (events : Events) (m : SeenMoves) (follows : Follows s events m)
    (sound : IsSound m.acts m.slots m.outcomes m.made) where
  abbrev next_one : ℕ
  next_one = made_count events

  its : (fits : Bool) → IsRunOf s (Made fits ∷ events) → (w : Work) × (slice_get s.works next_one ≡ Some w)
  its fits run =
      stands_there s.works next_one (let few = few_made s (Made fits ∷ events) run.run in omega (arith, few))

  pub makes_one : IsRunOf s (Made true ∷ events) → (t now : SeenTask) (new : SeenMoves) → IsNew s events t
      → ((w : Work) → Stands w [] t → Stands w (first_cancel m.reason) now)
      → new ≡ with_state m.made now (with_made m) → Follows s (Made true ∷ events) new
  makes_one run t now new is_new tells is =
      let w = its true run in
      makes s events true run m follows w.0 w.1 sound now new (fresh s events)
      (subst (λ (x : Option Reason). Stands w.0 (first_cancel x) now) follows.reason (tells w.0 (is_new w.0 w.1))) is

  pub loses_one : IsRunOf s (Made false ∷ events) → (new : SeenMoves) → new ≡ with_lost m
      → Follows s (Made false ∷ events) new
  loses_one run new is =
      let w = its false run in
      loses s events false run m follows w.0 w.1 sound new
      (ap (λ (b : Bool). if b then true else lacks_memory next_one events) (same_number next_one)) is
