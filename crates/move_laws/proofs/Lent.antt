-- What is lent and given away, and what is kept follows the run as before.
use Rattle.std.proofs.Common.{◌≡◌, ◌∙◌, ◌==◌, ◌&&◌, ◌<◌, ℕ, Bool, true, false, List, Option, Some, None}
use Rattle.std.proofs.Common.{refl, sym, subst, ap, inl, inr, get_or, length, length-set, if◌then◌else◌, IsSome}
use Rattle.std.proofs.Common.{IsSomeAnd}
use Rattle.std.proofs.lemmas.Bool.{and_parts, cases_lt, eqb-true, lt-ltb}
use Rattle.std.proofs.lemmas.List.{get_or_past, get_or_read}
use Rattle.std.specs.Prelude.{is_some}
use Rattle.alike_histories.proofs.Alike.{alike_says_the_same}
use Rattle.held_parts.specs.Held.{AreSingle, IsSamePool, SeenParts, grown, held_at, lent_in, with_more}
use Rattle.jobs.specs.Jobs.{SeenJob}
use Rattle.kept_jobs.specs.Tags.{present}
use Rattle.manager_moves.proofs.CountLemmas.{no}
use Rattle.manager_moves.proofs.PartLaws.{nothing, same_value}
use Rattle.manager_moves.proofs.ShareLaws.{act_of}
use Rattle.manager_moves.specs.declared.moves.Move.TheVariants as move
use Rattle.manager_moves.specs.Moves.{call_of, next_move}
use Rattle.manager_moves.specs.Runs.{Events, Shared, share}
use Rattle.part_tables.proofs.Finding.{reading_finds_free}
use Rattle.part_tables.specs.Tables.{IsPut, is_gone}
use Rattle.s3_model.specs.declared.bytes.Part.{Part}
use Rattle.task_acts.specs.declared.acts.Act.TheVariants as act
use Rattle.task_acts.specs.declared.work.Work.{Work}
use Rattle.task_acts.specs.Histories.{History}
use Rattle.task_acts.specs.Kept.{etags_of, upload_of}
use Rattle.task_core.specs.Machine.{SeenTask, Stands}
use Rattle.move_laws.proofs.Moving.{set_at}
use Rattle.move_laws.proofs.NamedMoves.{call_named}
use Rattle.move_laws.proofs.Steps.{same_pools}
use Rattle.move_laws.specs.Admits.{IsRunOf}
use Rattle.move_laws.specs.Calls.{IsLent}
use Rattle.move_laws.specs.Follows.{Follows, HasItsPart, HoldsTask, IsTaskIn}
use Rattle.move_laws.specs.Kept.{SeenMoves, at_task, has_free, state_at, with_parts, with_slot}
use Rattle.move_laws.specs.Lending.{IsGoing, IsLentIn, IsUntagged, slot_tags, slot_upload}

-- ---- the part of a piece

module _ (s : Shared) (events : Events) (m : SeenMoves) (follows : Follows s events m) (parts : SeenParts)
    (pool : IsSamePool m.parts.pool parts.pool)
    (same : (x y : ℕ) → held_at parts.slots x y ≡ held_at m.parts.slots x y) where
  -- parts that hold what they held
  parts_stay : Follows s events (with_parts parts m)
  parts_stay = record {
    count = follows.count;
    queue = follows.queue;
    buffers = pool.count ∙ follows.buffers;
    some_lane = follows.some_lane;
    lanes = follows.lanes;
    acts = follows.acts;
    parts = record {
      away = λ task number. ap is_gone (same task number) ∙ follows.parts.away task number;
      held = λ task number free. ap (λ (x : Option (Option Part)). is_some x) (same task number)
          ∙ follows.parts.held task number free;
    };
    made_is = follows.made_is;
    lined = follows.lined;
    unfinished = follows.unfinished;
    reason = follows.reason;
    outcomes = follows.outcomes;
    tasks = λ n w there fits. subst (λ (room : ℕ). HoldsTask room w (share w n events) (get_or m.slots n None))
        (sym pool.room) (follows.tasks n w there fits);
    lost = follows.lost;
  }

module _ (s : Shared) (events : Events) (task number : ℕ) (m : SeenMoves) (lent : IsLentIn s events task number m)
    (new : SeenMoves) (rest : new ≡ with_parts new.parts m) (pool : IsSamePool m.parts.pool new.parts.pool)
    (put : IsPut task number None m.parts.slots new.parts.slots) where
  none_at : (x y : ℕ) → ((task == x) && (number == y)) ≡ true → held_at lent.before.parts.slots x y ≡ None
  none_at x y e =
      let two = and_parts (task == x) (number == y) e in
      subst (λ (k : ℕ). held_at lent.before.parts.slots k y ≡ None) (eqb-true task x two.0)
      (subst (λ (k : ℕ). held_at lent.before.parts.slots task k ≡ None) (eqb-true number y two.1) lent.none)

  as_before : (x y : ℕ) → held_at new.parts.slots x y ≡ held_at lent.before.parts.slots x y
  as_before x y =
      put x y
      ∙ ap (λ (o : Option (Option Part)). if (task == x) && (number == y) then None else o) (lent.lent.put x y)
      ∙ by ((task == x) && (number == y)) refl
    where
      by : (b : Bool) → ((task == x) && (number == y)) ≡ b
          → (if b then None else (if b then Some (Some lent.lent.part) else held_at lent.before.parts.slots x y))
          ≡ held_at lent.before.parts.slots x y
      by true e = sym (none_at x y e)
      by false e = refl

  pub taken_back : Follows s events new
  taken_back = subst (λ (x : SeenMoves). Follows s events x)
      (sym (rest ∙ ap (λ (x : SeenMoves). with_parts new.parts x) lent.lent.rest))
      (parts_stay s events lent.before lent.follows new.parts
      (same_pools lent.before.parts.pool m.parts.pool new.parts.pool lent.lent.pool pool) as_before)

-- a part that is lent holds more bytes
module _ (task number : ℕ) (bytes : List ℕ) (m old new : SeenMoves) (lent : IsLent task number m old)
    (rest : new ≡ with_parts new.parts old) (pool : IsSamePool old.parts.pool new.parts.pool)
    (added : (x y : ℕ) → held_at new.parts.slots x y
    ≡ (if (task == x) && (number == y) then grown bytes (held_at old.parts.slots x y) else held_at old.parts.slots x y))
  where
    more_by : (b : Bool) (now before : Option (Option Part))
        → now ≡ (if b then Some (Some lent.part) else before)
        → (if b then grown bytes now else now) ≡ (if b then Some (Some (with_more bytes lent.part)) else before)
    more_by true now before e = ap (grown bytes) e
    more_by false now before e = e

    pub still_lent : IsLent task number m new
    still_lent = record {
      rest = rest ∙ ap (λ (x : SeenMoves). with_parts new.parts x) lent.rest;
      pool = same_pools m.parts.pool old.parts.pool new.parts.pool lent.pool pool;
      part = with_more bytes lent.part;
      put = λ x y. added x y ∙ more_by ((task == x) && (number == y)) (held_at old.parts.slots x y)
          (held_at m.parts.slots x y) (lent.put x y);
    }

-- ---- the state of a task

in_slot : (room : ℕ) (w : Work) (h : History) (o : Option SeenTask) (t : SeenTask) → o ≡ Some t
    → HoldsTask room w h o → IsTaskIn room w h t × (t.outcome ≡ None)
in_slot room w h (Some u) t e holds =
    subst (λ (x : SeenTask). IsTaskIn room w h x × (x.outcome ≡ None)) (same_value e) holds
in_slot room w h None t e holds = absurd (nothing e)

state_there : (o : Option SeenTask) → IsSome o → (t : SeenTask) × (o ≡ Some t)
state_there (Some t) e = (t, refl)
state_there None e = no e

module _ (s : Shared) (events : Events) (m : SeenMoves) (task : ℕ) (w : Work) (follows : Follows s events m)
    (going : IsGoing s events m task w) where
  abbrev h : History
  h = share w task events

  abbrev its : (t : SeenTask) × (state_at m task ≡ Some t)
  its = state_there (state_at m task) going.state

  pub in_it : (t : SeenTask) → state_at m task ≡ Some t → IsTaskIn m.parts.pool.room w h t
  in_it t e =
      (in_slot m.parts.pool.room w h (state_at m task) t e (follows.tasks task w going.there going.memory)).0

  pub its_upload : slot_upload (state_at m task) ≡ upload_of h
  its_upload =
      let is = in_it its.0 its.1 in
      ap slot_upload its.1 ∙ is.stands.upload_is ∙ (alike_says_the_same w is.heard h is.alike.told_are).upload

  pub same_tags : (t : SeenTask) (e : state_at m task ≡ Some t)
      → present (etags_of w (in_it t e).heard) ≡ present (etags_of w h)
  same_tags t e =
      let is = in_it t e in
      ap present (alike_says_the_same w is.heard h is.alike.told_are).etags

-- the entity tags of a task were given away
module _ (s : Shared) (events : Events) (m : SeenMoves) (task : ℕ) (t t2 : SeenTask) (follows : Follows s events m)
    (slot : state_at m task ≡ Some t) (within : task < length m.slots) (is : IsUntagged t t2) where
  now_in : (room : ℕ) (w : Work) (h : History) → IsTaskIn room w h t × (t.outcome ≡ None)
      → IsTaskIn room w h t2 × (t2.outcome ≡ None)
  now_in room w h known =
      let stands = is.stands w known.0.heard known.0.stands in (
        record {
          heard = known.0.heard;
          stands = stands;
          alike = known.0.alike;
          parts = λ o n. subst (λ (job : Option SeenJob). HasItsPart room o job)
              (known.0.stands.kept_are o n ∙ sym (stands.kept_are o n)) (known.0.parts o n);
        },
        stands.outcome_is ∙ sym known.0.stands.outcome_is ∙ known.1,
      )

  abbrev new : SeenMoves
  new = with_slot task (Some t2) m

  at : (n : ℕ) → get_or new.slots n None ≡ at_task task n (Some t2) (get_or m.slots n None)
  at n = set_at None m.slots task (Some t2) within n

  held_by : (room : ℕ) (w : Work) (h : History) (n : ℕ) (b : Bool) → (task == n) ≡ b
      → HoldsTask room w h (get_or m.slots n None)
      → HoldsTask room w h (if b then Some t2 else get_or m.slots n None)
  held_by room w h n true e holds =
      now_in room w h (in_slot room w h (get_or m.slots n None) t
      (ap (λ (k : ℕ). get_or m.slots k None) (sym (eqb-true task n e)) ∙ slot) holds)
  held_by room w h n false e holds = holds

  lost_by : (n : ℕ) (b : Bool) → (task == n) ≡ b → get_or m.slots n None ≡ None
      → (if b then Some t2 else get_or m.slots n None) ≡ None
  lost_by n true e none = absurd (nothing (sym none ∙ ap (λ (k : ℕ). get_or m.slots k None) (sym (eqb-true task n e))
      ∙ slot))
  lost_by n false e none = none

  pub untagged_follows : Follows s events new
  untagged_follows = record {
    count = length-set m.slots task (Some t2) ∙ follows.count;
    queue = follows.queue;
    buffers = follows.buffers;
    some_lane = follows.some_lane;
    lanes = follows.lanes;
    acts = follows.acts;
    parts = follows.parts;
    made_is = follows.made_is;
    lined = follows.lined;
    unfinished = follows.unfinished;
    reason = follows.reason;
    outcomes = follows.outcomes;
    tasks = λ n w there fits. subst (λ (o : Option SeenTask). HoldsTask m.parts.pool.room w (share w n events) o)
        (sym (at n)) (held_by m.parts.pool.room w (share w n events) n (task == n) refl (follows.tasks n w there fits));
    lost = λ n lacks. at n ∙ lost_by n (task == n) refl (follows.lost n lacks);
  }

-- ---- by the place of the state

pub slot_within : (slots : List (Option SeenTask)) (task : ℕ) → IsSome (slot_tags (get_or slots task None))
    → task < length slots
slot_within slots task some = elim (cases_lt task (length slots)) [
  | inl below ↦ below
  | inr past ↦ no (subst (λ (o : Option SeenTask). IsSome (slot_tags o)) (get_or_past slots task None past) some)
]

module _ (m seen : SeenMoves) (task : ℕ) (slot : Option SeenTask) (view : seen ≡ m)
    (read : slot ≡ get_or seen.slots task slot) where
  pub slot_is : task < length m.slots → slot ≡ state_at m task
  slot_is within =
      get_or_read seen.slots task slot (subst (λ (x : SeenMoves). task < length x.slots) (sym view) within) read None
      ∙ ap (λ (x : SeenMoves). state_at x task) view

  module _ (some : IsSome (slot_tags (state_at m task))) where
    its_slot : slot ≡ state_at m task
    its_slot = slot_is (slot_within m.slots task some)

    pub its_tags : (s : Shared) (events : Events) (w : Work) → Follows s events m → IsGoing s events m task w
        → (items : List (List ℕ))
        → ((v : Work) (g : History) (t : SeenTask) → slot ≡ Some t → Stands v g t → items ≡ present (etags_of v g))
        → items ≡ present (etags_of w (share w task events))
    its_tags s events w follows going items tells =
        let t = its s events m task w follows going in
        let is = in_it s events m task w follows going t.0 t.1 in
        tells w is.heard t.0 (its_slot ∙ t.1) is.stands ∙ same_tags s events m task w follows going t.0 t.1

    pub gives_tags : (s : Shared) (events : Events) → Follows s events m → (slot2 : Option SeenTask)
        → ((t : SeenTask) → slot ≡ Some t → IsSomeAnd slot2 (IsUntagged t)) → Follows s events (with_slot task slot2 m)
    gives_tags s events follows slot2 tells = by (state_at m task) refl some slot2 tells
      where
        with_state_so : (t : SeenTask) → state_at m task ≡ Some t → (o : Option SeenTask)
            → IsSomeAnd o (IsUntagged t) → Follows s events (with_slot task o m)
        with_state_so t e None is = absurd is
        with_state_so t e (Some t2) is =
            untagged_follows s events m task t t2 follows e (slot_within m.slots task some) is

        by : (o : Option SeenTask) → state_at m task ≡ o → IsSome (slot_tags o) → (now : Option SeenTask)
            → ((t : SeenTask) → slot ≡ Some t → IsSomeAnd now (IsUntagged t)) → Follows s events (with_slot task now m)
        by None e has now tell = no has
        by (Some t) e has now tell = with_state_so t e now (tell t (its_slot ∙ e))

-- ---- a piece that is read next

module _ (s : Shared) (events : Events) (m : SeenMoves) (task number : ℕ) (run : IsRunOf s events)
    (follows : Follows s events m) (next : next_move s events ≡ move.Read task number)
    (single : AreSingle m.parts.slots) where
  its_call : call_of s events task (act.Read number) ≡ Some (next_move s events)
  its_call = call_named s events task (act.Read number) (ap act_of next) refl

  -- it holds no part, and one is free
  pub read_next : (held_at m.parts.slots task number ≡ None) × (has_free m ≡ true)
  read_next =
      let found = reading_finds_free s events m.parts.slots task number run.run single follows.parts its_call in (
        found.0,
        lt-ltb (lent_in m.parts.slots) m.parts.pool.count
            (subst (λ (k : ℕ). lent_in m.parts.slots < k) (sym follows.buffers) found.1),
      )
