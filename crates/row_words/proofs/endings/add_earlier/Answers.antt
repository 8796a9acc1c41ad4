use Rattle.std.proofs.Common.{◌≢◌, List, sym, subst}
use Rattle.std.proofs.lemmas.List.Elements.{All-push}
use Rattle.jobs.specs.Endings.{HaveNoSuccess}
use Rattle.s3_model.specs.declared.tries.Mark.{Mark}
use Rattle.s3_model.specs.declared.tries.Mark.TheVariants as mark
use Rattle.row_words.proofs.endings.add_earlier.Goals as goal

pub returns-clause-none : goal.returns-clause-none
returns-clause-none c =
    subst (λ (tries : List Mark). HaveNoSuccess tries) (sym c.add.ensures)
    (All-push (λ (each : Mark). each ≢ mark.Success) c.args.tries.now c.args.made c.requires.none c.requires.made)
