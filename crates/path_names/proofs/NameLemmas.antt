-- A path without the `/` at its end.
use Rattle.std.proofs.Common.{◌≡◌, ◌≤◌, ◌-◌, ◌++◌, ◌∙◌, ℕ, Bool, true, false, List, Option, Some, None, MatchOption, refl, sym, ap, subst, arith, length, take, codes, if◌then◌else◌, Bor}
use Rattle.std.specs.Str.Pattern.{FindsTextSuffix, StripsSuffix}
use Rattle.std.proofs.lemmas.Str.Pattern.{ends_text}
use Rattle.path_names.specs.Names.{without_slash}

abbrev cut_where : List ℕ → Bool → List ℕ
cut_where path ends = if ends then take (length path - 1) path else path

pub none_cut : (path : List ℕ) → FindsTextSuffix (codes "/") path None → path ≡ without_slash path
none_cut path none = ap (cut_where path) (ends_text false (codes "/") path none)

pub one_cut : (path front : List ℕ) → StripsSuffix (FindsTextSuffix (codes "/")) path front → front ≡ without_slash path
one_cut path front (n, found, is, rest) =
    let whole = subst (λ (k : ℕ). path ≡ take (length path - k) path ++ codes "/") found.0 found.1 in
    let some : 1 ≤ length path = omega (arith, found.0, rest) in
    is ∙ ap (λ (k : ℕ). take (length path - k) path) found.0 ∙ ap (cut_where path) (ends_text true (codes "/") path (1, (refl, whole, found.2), some, found.2))
