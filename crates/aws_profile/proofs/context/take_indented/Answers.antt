use Rattle.std.proofs.Common.{◌≡◌, ◌∙◌, ℕ, Bor, List, Option, None, Some, sym, ap, false, true, not, codes}
use Rattle.std.specs.Prelude.{is_some}
use Rattle.std.specs.Option.{option_copied}
use Rattle.std.specs.Str.{bytes_eq}
use Rattle.std.proofs.lemmas.Bool.{cond-false, not-true}
use Rattle.aws_profile.specs.Sections.{Nothing, reading_of_indented}
use Rattle.aws_profile.proofs.SlotLemmas.{Takes-nothing}
use Rattle.aws_profile.proofs.context.take_indented.Goals as goal

-- under another setting an indented line says nothing
elsewhere : (line : ℕ) (above : Option (Bor (List ℕ))) (before : Option (List ℕ)) (parent text : List ℕ) → is_some above ≡ true → before ≡ Some parent → bytes_eq parent (codes "s3") ≡ false
    → reading_of_indented line (option_copied above) before text ≡ Nothing
elsewhere line None before parent text e f other = cc
elsewhere line (Some section) before parent text e f other = rw f (cond-false _ _ _ other)

pub returns-then-ne-clause-slots : goal.returns-then-ne-clause-slots
returns-then-ne-clause-slots c = λ name e right.
    let other : bytes_eq c.in-Some.parent.now (codes "s3") ≡ false = sym (ap (bytes_eq c.in-Some.parent.now) c.as_slice.ensures) ∙ not-true _ (sym c.if-ne.ensures) in
    Takes-nothing name _ c.args.slots.now
    (elsewhere c.args.line c.args.context.section _ c.in-Some.parent.now c.args.text.now (c.is_none.ensures ∙ ap not c.if-is_none.false) (ap option_copied c.in-Some.is) other)
