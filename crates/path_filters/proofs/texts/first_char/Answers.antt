use Rattle.std.proofs.Common.{◌≡◌, ◌++◌}
use Rattle.std.specs.Char.{encode_utf8}
use Rattle.std.proofs.lemmas.Str.{chars_past_char}
use Rattle.path_filters.proofs.texts.first_char.Goals as goal

pub returns-clause-parts : goal.returns-clause-parts
returns-clause-parts c =
    let left = c.chars-left.ensures.rest in
    let step = c.in_ok-code.ensures.steps.0 in
    let rest = c.as_str.ensures in
    let whole : c.args.text.now ≡ encode_utf8 c.in_ok-code.code ++ c.as_str.result.now = cc in
    chars_past_char _ _ _ c.utf8.text whole
