use Rattle.std.proofs.Common.{◌∷◌, ap, ◌∙◌}
use Rattle.std.specs.Str.{chars}
use Rattle.path_filters.proofs.SetLemmas.{no_range_end, range_end_behind}
use Rattle.path_filters.proofs.sets.range_end.Goals as goal

pub returns-in_default-clause-end : goal.returns-in_default-clause-end
returns-in_default-clause-end c = no_range_end c.args.text.now c.in_default.ensures.parts

pub returns-clause-end : goal.returns-clause-end
returns-clause-end c =
    range_end_behind c.args.text.now c.in-Some.after.now c.first_char-2.result (c.in-Some.ensures.parts ∙ ap (λ code. code ∷ chars c.in-Some.after.now) c.if-dash-ne45.false) c.first_char-2.ensures.parts
