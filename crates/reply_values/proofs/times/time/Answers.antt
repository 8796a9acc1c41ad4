use Rattle.std.proofs.Common.{arith, sym, refl}
use Rattle.std.proofs.lemmas.List.{take_rest}
use Rattle.reply_values.proofs.TimeLemmas.{other_separators, separators_are, too_short}
use Rattle.reply_values.proofs.times.time.Goals.{then-text-lt20-via-then-text-lt20, then-text-lt20-via-else-text-lt20+then-ne}
use Rattle.reply_values.proofs.times.time.Goals as goal

pub returns-in_err-micros-clause-refused : goal.returns-in_err-micros-clause-refused
returns-in_err-micros-clause-refused c =
    rw c.from_residual.ensures (λ moment h.
    let text = c.as_bytes-text.result.now in
    let end = rw (sym c.as_bytes-text.ensures.value, sym (take_rest text 19)) at h.end in
    c.in_err-micros.ensures.refused h.micros end)

pub returns-in_err-days-clause-refused : goal.returns-in_err-days-clause-refused
returns-in_err-days-clause-refused c =
    rw c.from_residual-in_err-days.ensures
    (λ moment h. c.in_err-days.ensures.refused h.days (rw (sym c.as_bytes-text.ensures.value) at h.date))

pub returns-in_err-seconds-clause-refused : goal.returns-in_err-seconds-clause-refused
returns-in_err-seconds-clause-refused c =
    rw c.from_residual-in_err-seconds.ensures
    (λ moment h. c.in_err-seconds.ensures.refused h.seconds (rw (sym c.as_bytes-text.ensures.value) at h.clock))

pub returns-clause-value : goal.returns-clause-value
returns-clause-value c =
    let text = c.as_bytes-text.result.now in
    let end = rw take_rest at c.in_ok-micros.ensures.value in
    let separators = separators_are _ _ _ _ _ _ c.ne.ensures c.if-ne.false in
    rw (sym c.as_bytes-text.ensures.value) (record {
      days = c.in_ok-days.field-0;
      seconds = c.in_ok-seconds.field-0;
      micros = c.in_ok-micros.micros;
      separators = separators;
      date = c.in_ok-days.ensures.value;
      clock = c.in_ok-seconds.ensures.value;
      end = end;
      value = refl;
    })

pub overflow_mul-seconds : goal.overflow_mul-seconds
overflow_mul-seconds c = omega (arith, c.in_ok-days.ensures.small)

pub overflow_add-seconds : goal.overflow_add-seconds
overflow_add-seconds c = omega (arith, c.in_ok-days.ensures.small, c.in_ok-seconds.ensures.small)

pub overflow_mul-result : goal.overflow_mul-result
overflow_mul-result c = omega (arith, c.in_ok-days.ensures.small, c.in_ok-seconds.ensures.small)

pub overflow_add-result : goal.overflow_add-result
overflow_add-result c =
    omega (arith, c.in_ok-days.ensures.small, c.in_ok-seconds.ensures.small, c.in_ok-micros.ensures.small)

pub returns-then-text-lt20-clause-refused : goal.returns-then-text-lt20-clause-refused
returns-then-text-lt20-clause-refused c moment h =
    let text = c.as_bytes-text.result.now in
    let spells = rw (sym c.as_bytes-text.ensures.value) at h in
    elim c.then-text-lt20.branch [
      | then-text-lt20-via-then-text-lt20 w ↦ too_short text moment w.if-text-lt20.true spells
      | then-text-lt20-via-else-text-lt20+then-ne w ↦
          other_separators _ _ _ _ _ _ w.ne.ensures w.if-ne.true spells.separators
    ]
