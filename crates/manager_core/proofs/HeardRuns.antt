-- The jobs of a task hear a reason, and the run is as it was.
use Rattle.std.proofs.Common.{◌≡◌, ◌∙◌, ◌==◌, ℕ, Bool, true, false, List, Option, Some, None, Result, Ok, Err, refl}
use Rattle.std.proofs.Common.{sym, subst, get_or}
use Rattle.std.proofs.lemmas.Bool.{eqb-true}
use Rattle.std.specs.Prelude.{OnErr, OnOk}
use Rattle.manager_moves.proofs.PartLaws.{nothing}
use Rattle.manager_moves.specs.Runs.{Events, Shared, share}
use Rattle.run_steps.specs.Following.{IsAtOne}
use Rattle.run_steps.specs.Steps.{HoldsStep, is_going}
use Rattle.s3_model.specs.declared.tasks.Task.{Task}
use Rattle.step_jobs.specs.Shares.{SeenSteps}
use Rattle.step_laws.specs.Following.{HoldsShares}
use Rattle.task_acts.specs.declared.work.Work.{Work}
use Rattle.task_acts.specs.Histories.{History}
use Rattle.manager_core.proofs.RunLemmas.{given_by, kept_journal, with}
use Rattle.manager_core.specs.Due.{told}
use Rattle.manager_core.specs.Kept.{SeenManager}
use Rattle.manager_core.specs.Running.{IsRunning, Start}
use Rattle.manager_core.specs.Steps.{HeardBy}

-- nothing but what is known of the cell is another
abbrev pub SameBut : (before now : Option SeenSteps) → Type 0
SameBut None now = now ≡ None
SameBut (Some j) None = ⊥
SameBut (Some j) (Some new) = new ≡ record j { cell = new.cell }

same_jobs : (kept : Option SeenSteps) → SameBut kept kept
same_jobs None = refl
same_jobs (Some j) = refl

heard_same : (kept now : Option SeenSteps) → HeardBy kept now → SameBut kept now
heard_same None now heard = heard
heard_same (Some j) None heard = heard
heard_same (Some j) (Some new) heard = heard.rest

-- a reason was heard, or memory ran out and nothing changed
pub same_but : {X Y : Type 0} (answer : Result X Y) (kept now : Option SeenSteps) → OnErr answer (now ≡ kept)
    → OnOk answer (HeardBy kept now) → SameBut kept now
same_but (Ok x) kept now same heard = heard_same kept now heard
same_but (Err y) kept now same heard = subst (λ (x : Option SeenSteps). SameBut kept x) (sym same) (same_jobs kept)

heard_step : (going : Bool) (task : Task) (w : Work) (h : History) (kept now : Option SeenSteps)
    → HoldsStep going task w h kept → SameBut kept now → HoldsStep going task w h now
heard_step true task w h (Some j) (Some new) holds same = subst (λ (x : SeenSteps). HoldsShares task w h x) (sym same)
    (record { task_is = holds.task_is; work_is = holds.work_is; shares = holds.shares })
heard_step true task w h (Some j) None holds same = absurd same
heard_step true task w h None now holds heard = absurd holds
heard_step false task w h (Some j) now holds heard = absurd (nothing (sym holds))
heard_step false task w h None now holds heard = heard

module _ (start : Start) (s : Shared) (events : Events) (m : SeenManager)
    (running : IsRunning start s events m) (t : ℕ) (now : List (Option SeenSteps)) (at_one : IsAtOne t m.steps now)
    (heard : SameBut (get_or m.steps t None) (get_or now t None)) where
  abbrev after : Events
  after = told m.due events

  place : (n : ℕ) (task : Task) (w : Work) (b : Bool) → (t == n) ≡ b
      → HoldsStep (is_going w n after) task w (share w n after) (get_or m.steps n None)
      → HoldsStep (is_going w n after) task w (share w n after) (get_or now n None)
  place n task w true e holds =
      let here : t ≡ n = eqb-true t n e in
      heard_step (is_going w n after) task w (share w n after) (get_or m.steps n None) (get_or now n None) holds
      (subst (λ (i : ℕ). SameBut (get_or m.steps i None) (get_or now i None)) here heard)
  place n task w false e holds =
      subst (λ (x : Option SeenSteps). HoldsStep (is_going w n after) task w (share w n after) x)
      (sym (at_one.others n e)) holds

  pub heard_runs : IsRunning start s events (with m m.moves now m.journal m.due)
  heard_runs =
      let at = running.state in record {
        given = given_by start s events m running m.moves now m.journal m.due refl;
        journal = kept_journal start s events m running m.moves now m.due;
        state = record {
          run = at.run;
          follows = at.follows;
          named = at.named;
          steps = record {
            count = at_one.count ∙ at.steps.count;
            each = λ n task w in_plan there. place n task w (t == n) refl (at.steps.each n task w in_plan there);
          };
          tags = at.tags;
        };
      }
