use Rattle.std.proofs.Common.{◌≡◌, ◌≤◌, ◌∙◌, ℕ, subst, sym}
use Rattle.s3_model.specs.Parts.{piece_count, within_limits}
use Rattle.chunk_plan.proofs.Lengths.{clamp_is, length_fits}
use Rattle.chunk_plan.proofs.chunks.adjust.Goals as goal

pub returns-clause-fits : goal.returns-clause-fits
returns-clause-fits c =
    let limits = c.args.limits.now in
    let is : c.clamp.result ≡ within_limits limits c.first_fitting.result = c.clamp.ensures ∙ clamp_is limits c.first_fitting.result c.requires.valid.parts in
    subst (λ (piece : ℕ). piece_count c.args.size piece ≤ limits.max_parts) (sym is)
    (length_fits limits c.args.chunk c.args.size c.first_fitting.result c.requires.valid c.requires.positive c.requires.within c.first_fitting.ensures)
