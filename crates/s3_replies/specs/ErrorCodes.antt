-- The codes of errors that decide what an answer means (Amazon S3 API Reference, "Error responses").
use Rattle.std.specs.Prelude.{ℕ, List, [], ◌∷◌, Option, codes}
use Rattle.std.specs.Map.{lookup}
use Rattle.std.specs.Str.{bytes_eq}
use Rattle.s3_replies.specs.declared.codes.ErrorCode.{ErrorCode}
use Rattle.s3_replies.specs.declared.codes.ErrorCode.TheVariants as code

unfoldable pub code_names : List (List ℕ × ErrorCode)
code_names =
    (codes "InternalError", code.InternalError) ∷ (codes "PreconditionFailed", code.PreconditionFailed)
    ∷ (codes "RequestTimeout", code.RequestTimeout)
    ∷ (codes "ServiceUnavailable", code.ServiceUnavailable) ∷ (codes "SlowDown", code.SlowDown) ∷ []

-- the code of a name, compared whole
unfoldable pub error_code : List ℕ → Option ErrorCode
error_code name = lookup (bytes_eq name) code_names
