use Rattle.std.proofs.Common.{◌∙◌, sym, arith}
use Rattle.sync_plan.proofs.SideLemmas.{first_marker, first_name, no_entries}
use Rattle.sync_plan.proofs.names.first_of.Goals as goal

pub returns-in_default : goal.returns-in_default
returns-in_default c = no_entries c.args.place.now c.args.many c.args.entries.now c.in_default.ensures.cases

pub returns-then-is_marker : goal.returns-then-is_marker
returns-then-is_marker c = (
  first_marker c.args.place.now c.args.many c.in-Some.entry.now c.in-Some.later.now c.args.entries.now c.in-Some.ensures.cases.0 (sym c.is_marker.ensures ∙ c.if-is_marker.true),
  omega (arith, c.in-Some.ensures.cases.1),
)

pub returns-else-is_marker : goal.returns-else-is_marker
returns-else-is_marker c = (
  first_name c.args.place.now c.args.many c.in-Some.entry.now c.in-Some.later.now c.args.entries.now c.relative.result.now c.in-Some.ensures.cases.0 (sym c.is_marker.ensures ∙ c.if-is_marker.false) c.relative.ensures,
  omega (arith, c.in-Some.ensures.cases.1),
)
