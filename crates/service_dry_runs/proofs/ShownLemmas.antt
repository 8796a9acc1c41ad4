-- The text of a run that shows its plan, whatever its jobs are.
use Rattle.std.proofs.Common.{◌≡◌, ◌++◌, ℕ, List, [], None, Result, refl}
use Rattle.std.specs.List.{AllByRecursion}
use Rattle.dry_runs.proofs.LineLemmas.{dry_text_is}
use Rattle.dry_runs.specs.Shown.{all_dry}
use Rattle.run_report.specs.Texts.{HasTexts, IsOfLooking, IsTextOf, mode_in, opening_text, out_lines}
use Rattle.run_report.specs.declared.printout.Printout.{Printout}
use Rattle.run_report.specs.declared.run.Run.{Run}
use Rattle.s3_model.specs.declared.list.OutOfMemory.{OutOfMemory}
use Rattle.s3_model.specs.declared.tasks.Plan.{Plan}
use Rattle.s3_model.specs.declared.tasks.Warning.{Warning}
use Rattle.service_dry_runs.specs.Endings.{ShowsDry}

-- the same run without a job
abbrev jobless : Run → Run
jobless run = record run { journal = record { items = []; spare = 0 } }

pub shown_text_is : (words : List (List ℕ)) (plan : Plan) (looked : List Warning) (run : Run) (text : Result Printout OutOfMemory) → run.fatal ≡ None → ShowsDry plan looked run → AllByRecursion IsOfLooking looked
    → HasTexts (out_lines (mode_in words) plan.tasks.items (all_dry plan.tasks.items)) (opening_text words (looked ++ plan.warnings.items) None) text → IsTextOf words [] run text
shown_text_is words plan looked run text no_fatal shows looking texts =
    let d = dry_text_is words plan looked (jobless run) text no_fatal
    (record { ends = shows.ends; plan_is = shows.plan_is; warned = shows.warned; all_shown = shows.all_shown; no_job = refl }) looking texts in record {
      warned = d.warned;
      warnings = record { all = d.warnings.all; looked = d.warnings.looked; own = d.warnings.own };
      texts = d.texts;
      no_memory = d.no_memory;
    }
