use Rattle.std.proofs.Common.{None, Some}
use Rattle.std.proofs.lemmas.Bool.Decides.{Decides-eqb}
use Rattle.std.proofs.lemmas.Slice.Eq.{strip_prefix_is, strip_suffix_is}
use Rattle.reply_values.proofs.TimeLemmas.{no_zone, has_fraction, end_value, end_refused}
use Rattle.reply_values.proofs.times.micros.Goals as goal

pub returns-in_err-fraction-clause-refused : goal.returns-in_err-fraction-clause-refused
returns-in_err-fraction-clause-refused c =
    let end = c.args.end.now in
    let zone = c.as_slice.result.now in
    rw c.from_residual.ensures (no_zone end zone c.as_slice.ensures
    (strip_suffix_is Decides-eqb end zone None c.in_err-fraction.ensures.cases))

pub returns-clause-value : goal.returns-clause-value
returns-clause-value c =
    let end = c.args.end.now in
    let zone = c.as_slice.result.now in
    let point = c.as_slice-2.result.now in
    let front = c.in_ok-fraction.fraction in
    let fraction = c.in_ok-strip_prefix.field-0 in
    let cut = strip_suffix_is Decides-eqb end zone (Some front) c.in_ok-fraction.ensures.cases in
    let behind = strip_prefix_is Decides-eqb front.now point (Some fraction) c.in_ok-strip_prefix.ensures.cases in
    end_value _ end fraction.now (has_fraction end front.now zone point fraction.now c.as_slice.ensures
    c.as_slice-2.ensures cut behind) c.micros_of.ensures.value

pub returns-clause-refused : goal.returns-clause-refused
returns-clause-refused c =
    let end = c.args.end.now in
    let zone = c.as_slice.result.now in
    let point = c.as_slice-2.result.now in
    let front = c.in_ok-fraction.fraction in
    let fraction = c.in_ok-strip_prefix.field-0 in
    let cut = strip_suffix_is Decides-eqb end zone (Some front) c.in_ok-fraction.ensures.cases in
    let behind = strip_prefix_is Decides-eqb front.now point (Some fraction) c.in_ok-strip_prefix.ensures.cases in
    end_refused _ end fraction.now (has_fraction end front.now zone point fraction.now c.as_slice.ensures
    c.as_slice-2.ensures cut behind) c.micros_of.ensures.refused
