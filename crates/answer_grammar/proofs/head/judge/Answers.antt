use Rattle.std.proofs.Common.{sym, arith, inl, inr, refl}
use Rattle.answer_grammar.specs.Parts.{not_http}
use Rattle.answer_grammar.proofs.HeadLemmas.{count_of, said_at, unfit_at}
use Rattle.answer_grammar.proofs.head.judge.Goals as goal

pub returns-then-found-gt-LINE_LIMIT : goal.returns-then-found-gt-LINE_LIMIT
returns-then-found-gt-LINE_LIMIT c =
    let h = c.requires.complete.0 in
    let at = c.requires.complete.1 in
    let count = count_of c.args.got.now c.args.spans.now c.args.found.now h c.requires.within at in
    not_http (inr (unfit_at c.args.got.now c.args.spans.now c.args.found.now h c.requires.small c.requires.within at (inl (omega arith)))) refl

pub returns-then-found-lt200 : goal.returns-then-found-lt200
returns-then-found-lt200 c =
    let h = c.requires.complete.0 in
    let at = c.requires.complete.1 in
    not_http (inr (unfit_at c.args.got.now c.args.spans.now c.args.found.now h c.requires.small c.requires.within at (inr (omega (arith, at.code))))) refl

pub returns : goal.returns
returns c =
    let h = c.requires.complete.0 in
    let at = c.requires.complete.1 in
    said_at c.args.head_only c.args.got.now c.args.spans.now c.args.found.now h c.describe.result c.requires.small c.requires.within at (omega arith) (omega arith)
    (c.describe.ensures h (sym at.fields) at.code at.version)
