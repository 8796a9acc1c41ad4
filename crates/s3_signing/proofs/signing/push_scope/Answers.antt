use Rattle.std.proofs.Common.{◌≡◌, ◌++◌, ℕ, List, append_assoc, codes}
use Rattle.s3_signing.specs.Signing.{credential_scope}
use Rattle.s3_signing.proofs.JoinLemmas.{on_ok_pushed}
use Rattle.s3_signing.proofs.signing.push_scope.Goals as goal

-- the parts of a scope, each behind what was written before
whole_scope : (old date region dated slashed placed : List ℕ) → dated ≡ old ++ date → slashed ≡ dated ++ codes "/" → placed ≡ slashed ++ region
    → placed ++ codes "/s3/aws4_request" ≡ old ++ credential_scope date region
unfolding credential_scope
whole_scope old date region dated slashed placed d s p = rw (p, s, d) (simp append_assoc)

pub returns : goal.returns
returns c =
    on_ok_pushed _ _ _ _ _ c.push_str-3.ensures.bytes (whole_scope _ _ _ _ _ _ c.in_ok-push_basic_date.ensures c.in_ok-push_str.ensures.bytes c.in_ok-push_str-2.ensures.bytes)
