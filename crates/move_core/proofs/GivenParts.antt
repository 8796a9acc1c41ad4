-- A job that is given has its part.
use Rattle.std.proofs.Common.{◌≡◌, ◌∙◌, ℕ, Option, Some, None, refl, sym, ap, is_some}
use Rattle.jobs.specs.Jobs.{SeenJob}
use Rattle.manager_moves.proofs.PartLaws.{nothing, same_value}
use Rattle.job_terms.specs.Buffers.{holds_buffer}
use Rattle.s3_model.specs.declared.requests.Op.{Op}
use Rattle.move_laws.specs.Follows.{HasItsPart}
use Rattle.move_core.specs.declared.giving.Given.{Given}
use Rattle.move_core.specs.declared.giving.Given.TheVariants as given_of
use Rattle.move_core.specs.Given.{again_of, part_with}

pub takes_its_part : (room : ℕ) (o : Op) (given : Given) (kept : Option SeenJob) → again_of given ≡ kept
    → HasItsPart room o kept → (again_of given ≡ None → is_some (part_with given) ≡ holds_buffer o)
    → is_some (part_with given) ≡ holds_buffer o
takes_its_part room o (given_of.Again x) None e has rest = absurd (nothing (sym e))
takes_its_part room o (given_of.Again x) (Some y) e has rest =
    ap (λ (z : SeenJob). is_some z.part) (same_value e) ∙ has.0
takes_its_part room o (given_of.First part) kept e has rest = rest refl
