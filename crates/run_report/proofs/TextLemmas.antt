-- What a run is about to print, by what it came to.
use Rattle.std.proofs.Common.{◌≡◌, ◌++◌, ◌∙◌, ◌+◌, ◌<◌, ℕ, Bool, true, false, List, [], ◌∷◌, Option, None, Result, Ok, Err, IfOk, refl, sym, ap, subst, append-nil, flat_map, get_or, length, take, if◌then◌else◌}
use Rattle.std.proofs.lemmas.List.{flat_map_more, take_more}
use Rattle.std.proofs.lemmas.Option.{none-some}
use Rattle.result_lines.specs.Tasks.{line_of}
use Rattle.result_lines.specs.Warnings.{warning_line}
use Rattle.s3_model.specs.declared.list.OutOfMemory.{OutOfMemory}
use Rattle.s3_model.specs.declared.outcomes.Outcome.{Outcome}
use Rattle.s3_model.specs.declared.tasks.Mode.{Mode}
use Rattle.s3_model.specs.declared.tasks.Task.{Task}
use Rattle.s3_model.specs.declared.tasks.Warning.{Warning}
use Rattle.run_report.specs.declared.printout.Printout.{Printout}
use Rattle.run_report.specs.declared.run.Fatal.{Fatal}
use Rattle.run_report.specs.declared.run.Fatal.TheVariants as fatal
use Rattle.run_report.specs.declared.run.Run.{Run}
use Rattle.run_report.specs.Taskless.{ArePlanning, HasNoTask}
use Rattle.run_report.specs.Texts.{AreOfTasks, HasTexts, IsTextOf, MatchesFatal, ending_lines, err_lines, err_part, mode_in, opening_text, out_lines, out_part, warning_lines}

-- ---- lines one after the other

pub more_lines : {X : Type 0} (f : X → List ℕ) (items : List X) (i : ℕ) (item d : X) (before now after : List ℕ) → i < length items → item ≡ get_or items i d → now ≡ before ++ flat_map f (take i items)
    → after ≡ now ++ f item → after ≡ before ++ flat_map f (take (i + 1) items)
more_lines {X} f items i item d before now after lt is at grown =
    grown ∙ (ap (λ (t : List ℕ). t ++ f item) at ∙ (flat_map_more f before (take i items) item
    ∙ ap (λ (l : List X). before ++ flat_map f l) (ap (λ (z : X). take i items ++ z ∷ []) is ∙ sym (take_more items i d lt))))

-- ---- no warnings

no_lines : (mode : Mode) → warning_lines mode [] ≡ []
no_lines mode = by_quiet mode.quiet
  where
    by_quiet : (quiet : Bool) → (if quiet then [] else flat_map warning_line []) ≡ []
    by_quiet true = refl
    by_quiet false = refl

pub no_warning_opens : (words : List (List ℕ)) (why : Option Fatal) → opening_text words [] why ≡ ending_lines words why
no_warning_opens words why = ap (λ (text : List ℕ). text ++ ending_lines words why) (no_lines (mode_in words))

pub none_looked : ArePlanning [] []
none_looked = ([], tt, refl)

-- ---- memory

pub no_memory : (why : Option Fatal) (text : Result Printout OutOfMemory) → why ≡ None → MatchesFatal why text
no_memory why (Ok said) is = λ memory. none-some fatal.Memory (sym is ∙ memory)
no_memory why (Err memory) is = tt

-- ---- runs without a task

-- `own` is what the command is there to show
module _ (words : List (List ℕ)) (own : List ℕ) (run : Run) (text : Result Printout OutOfMemory) (no_task : run.plan.tasks.items ≡ []) where
  abbrev Shows : List ℕ → Type 0
  Shows err = HasTexts own err text

  taskless : (opening : List ℕ) → Shows opening
      → HasTexts (own ++ out_lines (mode_in words) run.plan.tasks.items run.outcomes.items) (opening ++ err_lines (mode_in words) run.plan.tasks.items run.outcomes.items []) text
  taskless opening h =
      subst (λ (tasks : List Task). HasTexts (own ++ out_lines (mode_in words) tasks run.outcomes.items) (opening ++ err_lines (mode_in words) tasks run.outcomes.items []) text) (sym no_task)
      (subst (λ (out : List ℕ). HasTexts out (opening ++ []) text) (sym (append-nil own)) (subst Shows (sym (append-nil opening)) h))

  pub taskless_text : (skips warnings : List Warning) (why : Option Fatal) → run.plan.warnings.items ≡ skips → run.warnings.items ≡ warnings → run.fatal ≡ why → ArePlanning skips warnings
      → Shows (opening_text words warnings why) → MatchesFatal why text → IsTextOf words own run text
  taskless_text skips warnings why of_skips of_warnings of_why (looked, of_looking, are) shows matches =
      let planned : warnings ≡ looked ++ run.plan.warnings.items = are ∙ ap (λ (s : List Warning). looked ++ s) (sym of_skips) in record {
        warned = record { looked = looked; own = [] };
        warnings = record {
          all = of_warnings ∙ (planned ∙ sym (append-nil (looked ++ run.plan.warnings.items)));
          looked = of_looking;
          own = subst (λ (tasks : List Task). AreOfTasks tasks []) (sym no_task) tt;
        };
        texts = taskless (opening_text words (looked ++ run.plan.warnings.items) run.fatal)
            (subst (λ (f : Option Fatal). Shows (opening_text words (looked ++ run.plan.warnings.items) f)) (sym of_why)
            (subst (λ (w : List Warning). Shows (opening_text words w why)) planned shows));
        no_memory = subst (λ (f : Option Fatal). MatchesFatal f text) (sym of_why) matches;
      }

  -- without a warning
  pub silent_text : (why : Option Fatal) → run.plan.warnings.items ≡ [] → run.warnings.items ≡ [] → run.fatal ≡ why → Shows (ending_lines words why) → MatchesFatal why text → IsTextOf words own run text
  silent_text why of_skips of_warnings of_why shows matches =
      taskless_text [] [] why of_skips of_warnings of_why none_looked (subst Shows (sym (no_warning_opens words why)) shows) matches

pub idle_text_is : (words : List (List ℕ)) (why : Option Fatal) (skips warnings : List Warning) (run : Run) (text : Result Printout OutOfMemory) → HasNoTask why skips warnings run → ArePlanning skips warnings
    → HasTexts [] (opening_text words warnings why) text → MatchesFatal why text → IsTextOf words [] run text
idle_text_is words why skips warnings run text h planning shows matches = taskless_text words [] run text h.no_task skips warnings why h.skips_are h.warnings_are h.fatal planning shows matches

pub early_text_is : (words : List (List ℕ)) (why : Option Fatal) (run : Run) (text : Result Printout OutOfMemory) → HasNoTask why [] [] run → HasTexts [] (ending_lines words why) text → MatchesFatal why text
    → IsTextOf words [] run text
early_text_is words why run text h shows matches = silent_text words [] run text h.no_task why h.skips_are h.warnings_are h.fatal shows matches

-- ---- runs of one task

-- what is printed of a task without warnings is all that its run prints of tasks
pub one_task : (mode : Mode) (task : Task) (how : Outcome) (tasks : List Task) (outcomes : List Outcome) (own : List Warning) (text : Result Printout OutOfMemory) → tasks ≡ task ∷ [] → outcomes ≡ how ∷ [] → own ≡ []
    → IfOk text (λ said. said.out ≡ out_part (line_of task how mode)) → IfOk text (λ said. said.err ≡ warning_lines mode own ++ err_part (line_of task how mode))
    → HasTexts (out_lines mode tasks outcomes) (err_lines mode tasks outcomes ([] ∷ [])) text
one_task mode task how tasks outcomes own text of_tasks of_outcomes none out err =
    subst (λ (all : List Task). HasTexts (out_lines mode all outcomes) (err_lines mode all outcomes ([] ∷ [])) text) (sym of_tasks)
    (subst (λ (all : List Outcome). HasTexts (out_lines mode (task ∷ []) all) (err_lines mode (task ∷ []) all ([] ∷ [])) text) (sym of_outcomes)
    (both text out (subst (λ (w : List Warning). IfOk text (λ said. said.err ≡ warning_lines mode w ++ err_part (line_of task how mode))) none err)))
  where
    both : (said : Result Printout OutOfMemory) → IfOk said (λ s. s.out ≡ out_part (line_of task how mode)) → IfOk said (λ s. s.err ≡ warning_lines mode [] ++ err_part (line_of task how mode))
        → HasTexts (out_lines mode (task ∷ []) (how ∷ [])) (err_lines mode (task ∷ []) (how ∷ []) ([] ∷ [])) said
    both (Ok said) o e = (o ∙ sym (append-nil (out_part (line_of task how mode))), e ∙ sym (append-nil (warning_lines mode [] ++ err_part (line_of task how mode))))
    both (Err memory) o e = tt

pub task_text_is : (words : List (List ℕ)) (task : Task) (run : Run) (text : Result Printout OutOfMemory) → run.fatal ≡ None → run.plan.tasks.items ≡ task ∷ [] → run.plan.warnings.items ≡ []
    → run.warnings.items ≡ [] → HasTexts (out_lines (mode_in words) run.plan.tasks.items run.outcomes.items) (err_lines (mode_in words) run.plan.tasks.items run.outcomes.items ([] ∷ [])) text
    → IsTextOf words [] run text
task_text_is words task run text of_why of_tasks of_skips of_warnings h = record {
  warned = record { looked = []; own = [] ∷ [] };
  warnings = record {
    all = of_warnings ∙ (sym of_skips ∙ sym (append-nil run.plan.warnings.items));
    looked = tt;
    own = subst (λ (tasks : List Task). AreOfTasks tasks ([] ∷ [])) (sym of_tasks) (tt, tt);
  };
  texts = subst (λ (f : Option Fatal). HasTexts lines_out (opening_text words run.plan.warnings.items f ++ lines_err) text) (sym of_why)
      (subst (λ (w : List Warning). HasTexts lines_out (opening_text words w None ++ lines_err) text) (sym of_skips)
      (subst (λ (opening : List ℕ). HasTexts lines_out (opening ++ lines_err) text) (sym (no_warning_opens words None)) h));
  no_memory = no_memory run.fatal text of_why;
}
  where
    lines_out : List ℕ
    lines_out = out_lines (mode_in words) run.plan.tasks.items run.outcomes.items

    lines_err : List ℕ
    lines_err = err_lines (mode_in words) run.plan.tasks.items run.outcomes.items ([] ∷ [])
