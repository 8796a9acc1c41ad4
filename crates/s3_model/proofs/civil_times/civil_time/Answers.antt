use Rattle.std.proofs.Common.{◌≡◌, ◌≤◌, ◌/◌, ◌∙◌, ℕ, ℤ, pos, arith, w16, FitsSigned, to_z, of_z}
use Rattle.std.proofs.lemmas.Int.{to_z-of_z}
use Rattle.jiff_core.proofs.SignedLemmas.{signed_arith}
use Rattle.jiff_core.specs.Calendar.{IsYear}
use Rattle.s3_model.proofs.CivilTimes.{civil_day-IsNumbered, date_parts}
use Rattle.s3_model.proofs.civil_times.civil_time.Goals as goal

year_read : (z : ℤ) (y : ℕ) → z ≡ pos y → IsYear z → to_z w16 (of_z w16 z) ≡ pos y
year_read z y e h =
    let fits : FitsSigned w16 z = omega (arith, signed_arith) in
    to_z-of_z w16 z fits ∙ e

year_bound : (z : ℤ) (y : ℕ) → z ≡ pos y → IsYear z → y ≤ 9999
year_bound z y e h = omega (arith, signed_arith)

pub overflow_cast-result : goal.overflow_cast-result
overflow_cast-result c =
    let date = c.from_days_since_min-date.result in
    let parts = date_parts date (c.args.moment / 86400) (omega arith) c.from_days_since_min-date.ensures in
    let bound = year_bound date.year _ parts.0 date.year_in in
    rw (year_read date.year _ parts.0 date.year_in) (tt, omega arith)

pub returns-clause-year : goal.returns-clause-year
returns-clause-year c =
    let date = c.from_days_since_min-date.result in
    let parts = date_parts date (c.args.moment / 86400) (omega arith) c.from_days_since_min-date.ensures in
    rw (year_read date.year _ parts.0 date.year_in)

pub returns-clause-month : goal.returns-clause-month
returns-clause-month c =
    (date_parts c.from_days_since_min-date.result (c.args.moment / 86400) (omega arith) c.from_days_since_min-date.ensures).1

pub returns-clause-day : goal.returns-clause-day
returns-clause-day c =
    (date_parts c.from_days_since_min-date.result (c.args.moment / 86400) (omega arith) c.from_days_since_min-date.ensures).2

pub returns-clause-valid : goal.returns-clause-valid
returns-clause-valid c =
    let date = c.from_days_since_min-date.result in
    let parts = date_parts date (c.args.moment / 86400) (omega arith) c.from_days_since_min-date.ensures in
    let day = civil_day-IsNumbered (c.args.moment / 86400) (omega arith) in
    rw (year_read date.year _ parts.0 date.year_in, parts.1, parts.2) day.valid

pub returns-clause-days : goal.returns-clause-days
returns-clause-days c =
    let date = c.from_days_since_min-date.result in
    let parts = date_parts date (c.args.moment / 86400) (omega arith) c.from_days_since_min-date.ensures in
    let day = civil_day-IsNumbered (c.args.moment / 86400) (omega arith) in
    rw (year_read date.year _ parts.0 date.year_in, parts.1, parts.2) day.number
