use Rattle.std.proofs.Common.{◌≡◌, ◌∙◌, ◌∷◌, ℕ, List, refl, sym, ap, subst}
use Rattle.std.specs.Cmp.Lexicographic.{slice_cmp}
use Rattle.std.specs.Ordering.{nat_cmp}
use Rattle.std.specs.declared.cmp.Ordering.TheVariants.{Equal, Greater}
use Rattle.merged_names.specs.Turns.{IsBefore}
use Rattle.merged_names.proofs.Orders.{equal_is, less}
use Rattle.s3_model.specs.declared.places.Entry.{Entry}
use Rattle.sync_plan.specs.Errands.{names_of}
use Rattle.sync_plan.proofs.turns.our_turn.Goals as goal

pub returns-in-Equal-clause-turn : goal.returns-in-Equal-clause-turn
returns-in-Equal-clause-turn c =
    let tied : slice_cmp nat_cmp c.args.path.now c.in-Name.other_path.now ≡ Equal = cc (c.in-Equal.ensures) in (
      c.requires.first,
      c.in-Name.ensures.0 ∙ ap (λ (path : List ℕ). (path, c.in-Name.other.now) ∷ names_of c.args.to.now c.args.many c.in-Name.rest.now) (sym (equal_is c.args.path.now c.in-Name.other_path.now tied)),
    )

pub returns-in-Greater-clause-turn : goal.returns-in-Greater-clause-turn
returns-in-Greater-clause-turn c =
    let more : slice_cmp nat_cmp c.args.path.now c.in-Name.other_path.now ≡ Greater = cc (c.in-Greater.ensures) in (
      refl,
      c.in-Name.ensures.0,
      subst (λ (names : List (List ℕ × Entry)). IsBefore c.in-Name.other_path.now names) (sym c.requires.first) (less c.args.path.now c.in-Name.other_path.now more),
    )
