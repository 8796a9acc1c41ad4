-- A job that goes from those that wait into the ring.
use Rattle.std.proofs.Common.{◌≡◌, ◌++◌, ◌∷◌, [], ◌∙◌, List, sym, ap, append_assoc}

pub moved : {J : Type 0} (sent later waiting left given : List J) (job : J) → later ≡ sent ++ job ∷ [] → waiting ≡ job ∷ left
    → sent ++ waiting ≡ given → later ++ left ≡ given
moved sent later waiting left given job pushed popped same =
    ap (λ jobs. jobs ++ left) pushed ∙ (append_assoc sent (job ∷ []) left ∙ (ap (λ jobs. sent ++ jobs) (sym popped) ∙ same))
