-- What follows a prefix in a text that begins with it.
use Rattle.std.proofs.Common.{◌≡◌, ◌∙◌, ◌+◌, ℕ, Bool, true, cond, List, [], ◌++◌, None, refl, sym, ap, drop, length, nat_eq}
use Rattle.std.specs.List.{starts_with}
use Rattle.std.specs.Str.Pattern.{FindsTextPrefix, StripsPrefix}
use Rattle.std.proofs.lemmas.Slice.Eq.{starts_is}
use Rattle.std.proofs.lemmas.Bool.Decides.{Decides-eqb}
use Rattle.std.proofs.Math.Seq.{drop-append_seam}
use Rattle.std.proofs.lemmas.Bool.{false_from_ne_true}
use Rattle.sync_plan.specs.Errands.{behind_prefix}

-- a text begins with a prefix where it is the prefix and something behind it
pub begins : (prefix text rest : List ℕ) → text ≡ prefix ++ rest → starts_with nat_eq text prefix ≡ true
begins prefix text rest e = (starts_is Decides-eqb text prefix (starts_with nat_eq text prefix) refl).1 rest e

pub split : (prefix text : List ℕ) → starts_with nat_eq text prefix ≡ true → text ≡ prefix ++ drop (length prefix) text
split prefix text e = (starts_is Decides-eqb text prefix (starts_with nat_eq text prefix) refl).0 e

pub behind_of : (prefix key rest : List ℕ) → key ≡ prefix ++ rest → behind_prefix prefix key ≡ rest
unfolding behind_prefix
behind_of prefix key rest e =
    ap (λ (b : Bool). cond b (drop (length prefix) key) []) (begins prefix key rest e)
    ∙ ap (drop (length prefix)) e ∙ drop-append_seam prefix rest

pub behind_found : (prefix key rest : List ℕ) → StripsPrefix (FindsTextPrefix prefix) key rest → rest ≡ behind_prefix prefix key
behind_found prefix key rest (n, found, is_rest, fits) =
    sym (behind_of prefix key rest (found.1 ∙ ap (λ (back : List ℕ). prefix ++ back) (sym is_rest)))

pub behind_none : (prefix key : List ℕ) → FindsTextPrefix prefix key None → [] ≡ behind_prefix prefix key
unfolding behind_prefix
behind_none prefix key lacks =
    sym (ap (λ (b : Bool). cond b (drop (length prefix) key) []) (false_from_ne_true (starts_with nat_eq key prefix) (λ begun. lacks (drop (length prefix) key) (split prefix key begun))))
