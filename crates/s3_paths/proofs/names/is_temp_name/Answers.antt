use Rattle.std.proofs.Common.{◌≡◌, sym, ◌∙◌, arith}
use Rattle.std.proofs.lemmas.Grind.{common_steps}
use Rattle.s3_model.specs.TempNames.{is_temp_name}
use Rattle.s3_paths.proofs.TempNames.{is_temp_name-IsTempName}
use Rattle.s3_paths.proofs.names.is_temp_name.Goals as goal

pub returns-then-bytes-ge-TEMP_ENDING-clause-shape :
    goal.returns-then-bytes-ge-TEMP_ENDING-clause-shape
returns-then-bytes-ge-TEMP_ENDING-clause-shape c =
    let law = is_temp_name-IsTempName c.args.name.now in
    let same : c.is_temp_ending.result ≡ is_temp_name c.args.name.now = grind (arith, common_steps) in
    (λ t. law.0 (sym same ∙ t), λ h. same ∙ law.1 h)
