-- The lines of tasks that are only shown.
use Rattle.std.proofs.Common.{◌≡◌, ◌++◌, ◌∙◌, Bool, true, false, ℕ, List, [], ◌∷◌, Option, Some, None, Result, refl, sym, ap, subst, flat_map, append-nil, if◌then◌else◌}
use Rattle.std.specs.List.{AllByRecursion}
use Rattle.result_lines.specs.Tasks.{is_left_out, line_of, task_line}
use Rattle.result_lines.specs.Warnings.{warning_line}
use Rattle.s3_model.specs.declared.list.OutOfMemory.{OutOfMemory}
use Rattle.s3_model.specs.declared.outcomes.Outcome.{Outcome}
use Rattle.s3_model.specs.declared.tasks.Plan.{Plan}
use Rattle.s3_model.specs.declared.tasks.Warning.{Warning}
use Rattle.run_report.specs.declared.printout.Printout.{Printout}
use Rattle.run_report.specs.declared.run.Fatal.{Fatal}
use Rattle.run_report.specs.declared.run.Run.{Run}
use Rattle.s3_model.specs.declared.outcomes.Outcome.TheVariants as outcome
use Rattle.s3_model.specs.declared.tasks.Mode.{Mode}
use Rattle.s3_model.specs.declared.tasks.Task.{Task}
use Rattle.run_report.specs.Texts.{AreOfTasks, HasTexts, IsOfLooking, IsTextOf, err_lines, err_part, mode_in, opening_text, out_lines, warning_lines}
use Rattle.run_report.proofs.TextLemmas.{no_memory}
use Rattle.dry_runs.specs.Shown.{IsDryRun, all_dry, dry_line}

-- they are printed one behind the other
pub lines_are : (mode : Mode) (tasks : List Task) → flat_map (dry_line mode) tasks ≡ out_lines mode tasks (all_dry tasks)
lines_are mode [] = refl
lines_are mode (task ∷ tasks) = ap (λ (more : List ℕ). dry_line mode task ++ more) (lines_are mode tasks)

-- ---- nothing goes to standard error

abbrev none_own : List Task → List (List Warning)
none_own [] = []
none_own (task ∷ tasks) = [] ∷ none_own tasks

nothing_of : (quiet left : Bool) (task : Task) → (if quiet then [] else flat_map warning_line []) ++ err_part (if left then None else Some (task_line task outcome.Dry)) ≡ []
nothing_of true true task = refl
nothing_of true false task = refl
nothing_of false true task = refl
nothing_of false false task = refl

no_errors : (mode : Mode) (tasks : List Task) → err_lines mode tasks (all_dry tasks) (none_own tasks) ≡ []
no_errors mode [] = refl
no_errors mode (task ∷ tasks) =
    ap (λ (more : List ℕ). (warning_lines mode [] ++ err_part (line_of task outcome.Dry mode)) ++ more) (no_errors mode tasks)
    ∙ append-nil (warning_lines mode [] ++ err_part (line_of task outcome.Dry mode)) ∙ nothing_of mode.quiet (is_left_out outcome.Dry mode) task

none_of : (tasks : List Task) → AreOfTasks tasks (none_own tasks)
none_of [] = tt
none_of (task ∷ tasks) = (tt, none_of tasks)

none_flat : (tasks : List Task) → flat_map (λ own. own) (none_own tasks) ≡ []
none_flat [] = refl
none_flat (task ∷ tasks) = none_flat tasks

-- ---- the text of a dry run

pub dry_text_is : (words : List (List ℕ)) (plan : Plan) (looked : List Warning) (run : Run) (text : Result Printout OutOfMemory) → run.fatal ≡ None → IsDryRun plan looked run → AllByRecursion IsOfLooking looked
    → HasTexts (out_lines (mode_in words) plan.tasks.items (all_dry plan.tasks.items)) (opening_text words (looked ++ plan.warnings.items) None) text → IsTextOf words [] run text
dry_text_is words plan looked run text no_fatal d looking shows =
    let tasks = plan.tasks.items in record {
      warned = record { looked = looked; own = none_own tasks };
      warnings = record {
        all = d.warned ∙ ap (λ (p : Plan). looked ++ p.warnings.items) (sym d.plan_is) ∙ sym (append-nil (looked ++ run.plan.warnings.items))
            ∙ ap (λ (more : List Warning). (looked ++ run.plan.warnings.items) ++ more) (sym (none_flat tasks));
        looked = looking;
        own = subst (λ (p : Plan). AreOfTasks p.tasks.items (none_own tasks)) (sym d.plan_is) (none_of tasks);
      };
      texts = subst (λ (f : Option Fatal). HasTexts (out_lines (mode_in words) run.plan.tasks.items run.outcomes.items)
          (opening_text words (looked ++ run.plan.warnings.items) f ++ err_lines (mode_in words) run.plan.tasks.items run.outcomes.items (none_own tasks)) text) (sym no_fatal)
          (subst (λ (p : Plan). HasTexts (out_lines (mode_in words) p.tasks.items run.outcomes.items)
          (opening_text words (looked ++ p.warnings.items) None ++ err_lines (mode_in words) p.tasks.items run.outcomes.items (none_own tasks)) text) (sym d.plan_is)
          (subst (λ (all : List Outcome). HasTexts (out_lines (mode_in words) tasks all) (opening_text words (looked ++ plan.warnings.items) None ++ err_lines (mode_in words) tasks all (none_own tasks)) text) (sym d.all_shown)
          (subst (λ (err : List ℕ). HasTexts (out_lines (mode_in words) tasks (all_dry tasks)) err text)
          (sym (append-nil (opening_text words (looked ++ plan.warnings.items) None)) ∙ ap (λ (more : List ℕ). opening_text words (looked ++ plan.warnings.items) None ++ more) (sym (no_errors (mode_in words) tasks))) shows)));
      no_memory = no_memory run.fatal text no_fatal;
    }
