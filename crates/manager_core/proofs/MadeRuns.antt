-- What is kept is what has happened, as the next task is made.
use Rattle.std.proofs.Common.{◌≡◌, ◌∙◌, ◌==◌, ◌+◌, [], ◌∷◌, ℕ, zero, suc, Bool, true, false, List, Option, Some, None}
use Rattle.std.proofs.Common.{◌<◌, refl, sym, subst, ap, arith, get_or, length, set, IsSomeAnd, Result, Ok, Err}
use Rattle.std.proofs.lemmas.Bool.{eqb-true}
use Rattle.std.specs.Prelude.{IfErr, IfOk, is_some, slice_get, take}
use Rattle.std.specs.Result.{result_ok}
use Rattle.manager_moves.proofs.CountLemmas.{no}
use Rattle.manager_moves.proofs.HoldLemmas.{same_number}
use Rattle.manager_moves.proofs.MoveLaws.{in_front}
use Rattle.manager_moves.proofs.PartLaws.{nothing, same_value}
use Rattle.manager_moves.specs.Runs.{Events, Made, Shared, made_count}
use Rattle.manager_moves.specs.declared.moves.Move.TheVariants as move
use Rattle.move_laws.proofs.MadeTasks.{makes_within}
use Rattle.move_laws.proofs.NamedMoves.{make_named}
use Rattle.move_laws.specs.Admits.{Admits, IsRunOf}
use Rattle.move_laws.specs.Follows.{Follows}
use Rattle.move_laws.specs.Kept.{SeenMoves, state_at}
use Rattle.move_laws.specs.Making.{IsNew}
use Rattle.move_laws.specs.Steady.{IsSteadyBut, has_tags}
use Rattle.run_steps.proofs.Making.{jobs_made}
use Rattle.run_steps.specs.Following.{IsAtOne, IsFull}
use Rattle.run_steps.specs.Steps.{HoldSteps, settled_steps}
use Rattle.s3_model.specs.declared.list.OutOfMemory.{OutOfMemory}
use Rattle.s3_model.specs.declared.tasks.Task.{Task}
use Rattle.step_jobs.specs.Shares.{HasAll, SeenSteps}
use Rattle.task_acts.specs.declared.work.Work.{Work}
use Rattle.task_core.specs.Machine.{SeenTask, Stands, keeps_tags}
use Rattle.task_works.specs.Works.{IsBegun}
use Rattle.manager_core.proofs.OneWork.{work_at, work_is_one}
use Rattle.manager_core.proofs.Places.{set_at_one, set_here}
use Rattle.manager_core.proofs.RunLemmas.{at_due, given_by, same_journal, tells, with, works_are}
use Rattle.manager_core.specs.declared.due.Due.TheVariants as due
use Rattle.manager_core.specs.Kept.{SeenManager}
use Rattle.manager_core.specs.Running.{IsAt, IsRunning, Start}
use Rattle.manager_core.specs.Tags.{HoldTags}

-- what is in front of the next, is in front of the one behind it
take_less : {X : Type 0} (xs : List X) (c n : ℕ) (x : X) → (c ≡ n → ⊥) → slice_get (take (suc c) xs) n ≡ Some x
    → slice_get (take c xs) n ≡ Some x
take_less [] c n x apart e = absurd (nothing e)
take_less (y ∷ ys) zero zero x apart e = absurd (apart refl)
take_less (y ∷ ys) zero (suc n) x apart e = absurd (nothing e)
take_less (y ∷ ys) (suc c) zero x apart e = e
take_less (y ∷ ys) (suc c) (suc n) x apart e = take_less ys c n x (λ same. apart (ap suc same)) e

module _ (start : Start) (s : Shared) (events : Events) (m : SeenManager)
    (running : IsRunning start s events m) (t : ℕ) (is : m.due ≡ due.Next (move.Make t)) where
  pub make_at : IsAt (due.Next (move.Make t)) s events m
  make_at = at_due start s events m running (due.Next (move.Make t)) is

  pub make_is : t ≡ made_count events
  make_is = make_named s events t make_at.named

  pub made_run : (fits : Bool) → IsRunOf s (Made fits ∷ events)
  made_run fits = record {
    run = (make_at.named ∙ ap (λ (n : ℕ). move.Make n) make_is, make_at.run.run);
    pieces = make_at.run.pieces;
  }

  its_number : m.moves.made ≡ t
  its_number = make_at.follows.made_is ∙ sym make_is

  pub made_admits : Admits (Made false) m.moves
  made_admits = record { s = s; events = events; run = made_run false; follows = make_at.follows }

  -- its place
  pub make_in_plan : t < length m.plan.tasks.items
  make_in_plan =
      let within = makes_within s events false m.moves (made_run false) make_at.follows in
      let slots = make_at.follows.count in
      let works = works_are start s events m running in
      let number = its_number in
      omega (arith, within, slots, works, number)

  pub make_in_steps : t < length m.steps
  make_in_steps = let within = make_in_plan in let count = make_at.steps.count in omega (arith, within, count)

  -- what begins is that task with its work
  module _ (task : Task) (in_plan : slice_get m.plan.tasks.items t ≡ Some task) (st : SeenTask)
      (begun : IsBegun task m.config m.limits st) where
    its_work : (w : Work) → slice_get s.works t ≡ Some w → st.stages.work ≡ w
    its_work w there = work_is_one m.config m.limits task st.stages.work w begun.work
        (work_at m.config m.limits m.plan.tasks.items s.works t task w running.given.works in_plan there)

    pub begun_is_new : IsNew s events st
    begun_is_new w there = subst (λ (v : Work). Stands v [] st)
        (its_work w (subst (λ (n : ℕ). slice_get s.works n ≡ Some w) (sym make_is) there)) begun.stands

    pub begun_tags : (w : Work) → slice_get s.works t ≡ Some w → is_some st.tags ≡ keeps_tags w
    begun_tags w there = begun.tags ∙ ap keeps_tags (its_work w there)

    pub begun_full : (kept : Option SeenSteps)
        → IsSomeAnd kept (λ j. (j.task ≡ task) × (j.work ≡ st.stages.work) × HasAll j)
        → (other : Task) (w : Work) → slice_get m.plan.tasks.items t ≡ Some other → slice_get s.works t ≡ Some w
        → IsFull other w kept
    begun_full (Some j) full other w there_too there =
        (full.0 ∙ same_value (sym in_plan ∙ there_too), full.1 ∙ its_work w there, full.2)
    begun_full None full other w there_too there = full

  module _ (fits : Bool) (state : Option SeenTask) (mv : SeenMoves) (follows : Follows s (Made fits ∷ events) mv)
      (steady : IsSteadyBut state m.moves mv)
      (tagged : (t0 : SeenTask) (w : Work) → state ≡ Some t0 → slice_get s.works t ≡ Some w
      → is_some t0.tags ≡ keeps_tags w) where
    abbrev after : Events
    after = Made fits ∷ events

    tags_of : (x : Option SeenTask) (w : Work) → state ≡ x → is_some x ≡ true → slice_get s.works t ≡ Some w
        → has_tags x ≡ keeps_tags w
    tags_of (Some t0) w e there_is there = tagged t0 w e there
    tags_of None w e there_is there = no there_is

    made_tags : HoldTags s after mv
    made_tags n w there keeps waiting goes = by (m.moves.made == n) refl
      where
        next : made_count events + 1 ≡ suc (made_count events)
        next = omega arith

        other : (m.moves.made == n) ≡ false → made_count events ≡ n → ⊥
        other e same = no (sym e ∙ ap (λ (i : ℕ). i == n) (make_at.follows.made_is ∙ same) ∙ same_number n)

        by : (b : Bool) → (m.moves.made == n) ≡ b → has_tags (state_at mv n) ≡ true
        by true e =
            let here : m.moves.made ≡ n = eqb-true m.moves.made n e in
            let goes_here = subst (λ (i : ℕ). is_some (state_at mv i) ≡ true) (sym here) goes in
            ap (λ (i : ℕ). has_tags (state_at mv i)) (sym here) ∙ steady.its goes_here
            ∙ tags_of state w refl (steady.went_on goes_here)
            (subst (λ (i : ℕ). slice_get s.works i ≡ Some w) (sym here ∙ its_number)
            (in_front (made_count events + 1) s.works n w there)) ∙ keeps
        by false e =
            let same = steady.others n e in
            ap (λ (x : Option SeenTask). has_tags x) same
            ∙ make_at.tags n w (take_less s.works (made_count events) n w
            (other e)
            (subst (λ (i : ℕ). slice_get (take i s.works) n ≡ Some w) next there)) keeps waiting
            (sym (ap (λ (x : Option SeenTask). is_some x) same) ∙ goes)

    pub made_runs : (now : List (Option SeenSteps)) → IsAtOne t m.steps now
        → (fits ≡ true → (task : Task) (w : Work) → slice_get m.plan.tasks.items t ≡ Some task
        → slice_get s.works t ≡ Some w → IsFull task w (get_or now t None))
        → IsRunning start s after (with m mv (settled_steps t mv.outcomes now) m.journal due.Free)
    made_runs now at_one full =
        let steps = settled_steps t mv.outcomes now in record {
          given = given_by start s events m running mv steps m.journal due.Free steady.room;
          journal = same_journal start s events m running (Made fits) refl mv steps due.Free;
          state = record {
            run = made_run fits;
            follows = follows;
            named = tt;
            steps = subst (λ (n : ℕ). IsAtOne n m.steps now
                → (fits ≡ true → (task : Task) (w : Work) → slice_get m.plan.tasks.items n ≡ Some task
                → slice_get s.works n ≡ Some w → IsFull task w (get_or now n None))
                → HoldSteps s after m.plan.tasks.items (settled_steps n mv.outcomes now)) (sym make_is)
                (λ alone whole. jobs_made s events fits m.plan.tasks.items m.steps now mv.outcomes make_at.steps alone
                whole (tells s after mv follows)) at_one full;
            tags = made_tags;
          };
        }

-- what was made of it, or that memory ran out
module _ (start : Start) (s : Shared) (events : Events) (m : SeenManager)
    (running : IsRunning start s events m) (t : ℕ) (is : m.due ≡ due.Next (move.Make t)) (task : Task)
    (in_plan : slice_get m.plan.tasks.items t ≡ Some task) where
  pub new_so : (state : Result SeenTask OutOfMemory) → IfOk state (IsBegun task m.config m.limits)
      → IfOk state (IsNew s events)
  new_so (Ok st) begun = begun_is_new start s events m running t is task in_plan st begun
  new_so (Err lost) begun = tt

  tagged_so : (state : Result SeenTask OutOfMemory) → IfOk state (IsBegun task m.config m.limits) → (t0 : SeenTask)
      (w : Work) → result_ok state ≡ Some t0 → slice_get s.works t ≡ Some w → is_some t0.tags ≡ keeps_tags w
  tagged_so (Ok st) begun t0 w e there = subst (λ (x : SeenTask). is_some x.tags ≡ keeps_tags w) (same_value e)
      (begun_tags start s events m running t is task in_plan st begun w there)
  tagged_so (Err lost) begun t0 w e there = absurd (nothing e)

  full_so : (state : Result SeenTask OutOfMemory) (slot : Option SeenSteps) (fits : Bool)
      → IfOk state (IsBegun task m.config m.limits)
      → IfOk state (λ st. IsSomeAnd slot (λ j. (j.task ≡ task) × (j.work ≡ st.stages.work) × HasAll j))
      → IfErr state (λ lost. fits ≡ false) → fits ≡ true → (other : Task) (w : Work)
      → slice_get m.plan.tasks.items t ≡ Some other → slice_get s.works t ≡ Some w → IsFull other w slot
  full_so (Ok st) slot fits begun full lost fine other w there_too there =
      begun_full start s events m running t is task in_plan st begun slot full other w there_too there
  full_so (Err x) slot fits begun full lost fine other w there_too there = no (sym lost ∙ fine)

  pub made_all : (state : Result SeenTask OutOfMemory) (slot : Option SeenSteps) (fits : Bool) (mv : SeenMoves)
      → IfOk state (IsBegun task m.config m.limits)
      → IfOk state (λ st. IsSomeAnd slot (λ j. (j.task ≡ task) × (j.work ≡ st.stages.work) × HasAll j))
      → IfErr state (λ lost. fits ≡ false) → Follows s (Made fits ∷ events) mv
      → IsSteadyBut (result_ok state) m.moves mv → IsRunning start s (Made fits ∷ events)
      (with m mv (settled_steps t mv.outcomes (set m.steps t slot)) m.journal due.Free)
  made_all state slot fits mv begun full lost follows steady =
      let within = make_in_steps start s events m running t is in
      made_runs start s events m running t is fits (result_ok state) mv follows steady (tagged_so state begun)
      (set m.steps t slot) (set_at_one t m.steps slot within)
      (λ fine other w there_too there. subst (λ (x : Option SeenSteps). IsFull other w x)
      (sym (set_here t m.steps slot within)) (full_so state slot fits begun full lost fine other w there_too there))
