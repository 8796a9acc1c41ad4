use Rattle.std.proofs.Common.{◌≡◌, true}
use Rattle.std.proofs.lemmas.Bool.{false≢true}
use Rattle.s3_signing.proofs.names.has_sorted_names.Goals as goal

pub returns-then-not-are_lower_case : goal.returns-then-not-are_lower_case
returns-then-not-are_lower_case c = (
  λ e. absurd (false≢true e),
  λ h. let lower : c.are_lower_case.result ≡ true = c.are_lower_case.ensures.1 (rw c.as_slice.ensures h.lower_case) in
      let other = c.if-not-are_lower_case.true in cc,
)
