use Rattle.std.proofs.Common.{◌/◌, ◌%◌, ◌^◌}
use Rattle.std.proofs.lemmas.Result.{IfOk-weaker}
use Rattle.result_lines.specs.Rows.{clock_text}
use Rattle.result_lines.proofs.rows.timed_row.Goals as goal

pub returns : goal.returns
returns c =
    let time = c.civil_time-time.result in
    let made = c.civil_time-time.ensures in
    IfOk-weaker c.moment_row.result _ _
    (λ text e. record {
      year = time.year;
      month = time.month;
      day = time.day;
      valid = made.valid;
      days = made.days;
      spells = rw made.second at e;
    }) c.moment_row.ensures
