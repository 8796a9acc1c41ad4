-- The small runs are runs that can come about.
use Rattle.std.proofs.Common.{rules, [], ◌≡◌, refl}
use Rattle.jobs.specs.Endings.{HaveNoSuccess}
use Rattle.jobs.specs.Holders.{Holder}
use Rattle.jobs.specs.declared.what.What.{What}
use Rattle.s3_model.specs.declared.bytes.Part.{Part}
use Rattle.s3_model.specs.declared.outcomes.Reason.TheVariants as reason_of
use Rattle.manager_moves.specs.Examples.{DownloadsAreARun, UploadsAreRuns, download, upload}

none : HaveNoSuccess []
none = search rules

output_is_no_task : reason_of.OutputFailed ≡ reason_of.TaskFailed → ⊥
output_is_no_task e = cc

pub uploads_are_runs : (for : What) (cell : Holder) (part : Part) → UploadsAreRuns for cell part
uploads_are_runs for cell part = (
  (refl, ((refl, (upload, refl, (refl, refl, refl, (([], refl, none), tt, tt))), refl), (refl, ((refl, tt), (refl, tt))))),
  (
    refl,
    (
      refl,
      (
        (refl, (upload, refl, (refl, refl, refl, (([], refl, none), tt, tt))), refl),
        (
          (refl, (upload, refl, (refl, refl, refl, (([], refl, none), tt, tt))), refl),
          (refl, ((refl, tt), (refl, (refl, ((refl, tt), (refl, tt)))))),
        ),
      ),
    ),
  ),
  (
    refl,
    (
      refl,
      (
        refl,
        (
          (refl, (upload, refl, (refl, refl, refl, (([], refl, none), tt, tt))), refl),
          (output_is_no_task, (refl, ((refl, tt), (refl, tt)))),
        ),
      ),
    ),
  ),
)

pub downloads_are_a_run : (for : What) (cell : Holder) (part : Part) → DownloadsAreARun for cell part
downloads_are_a_run for cell part five = (
  refl,
  (
    (refl, tt),
    (
      (refl, tt),
      (
        (refl, tt),
        (
          (refl, (download, refl, (refl, refl, refl, (([], refl, none), tt, five))), refl),
          ((refl, tt), (refl, (refl, ((refl, tt), (refl, tt))))),
        ),
      ),
    ),
  ),
)
