use Rattle.std.proofs.Common.{◌≡◌, ◌≢◌, ◌++◌, ◌∙◌, false, ℕ, List, [], ◌∷◌, ◌&&◌, refl, sym, ap, Some, None}
use Rattle.std.specs.Str.{bytes_eq}
use Rattle.std.proofs.lemmas.Bool.{eq-eqb, false_from_ne_true}
use Rattle.std.proofs.lemmas.Bool.Decides.{Decides-eqb}
use Rattle.std.proofs.lemmas.Slice.Eq.{bytes_eq-Decides, strip_prefix_is}
use Rattle.aws_profile.proofs.context.Sought.is.Goals as goal

same_front : (front xs ys : List ℕ) → bytes_eq xs ys ≡ bytes_eq (front ++ xs) (front ++ ys)
same_front [] xs ys = refl
same_front (x ∷ front) xs ys = same_front front xs ys ∙ ap (λ same. same && bytes_eq (front ++ xs) (front ++ ys)) (sym (eq-eqb x x refl))

-- a name that is a front and a rest is another such name where the rests are the same
front_and_rest : (name front rest written profile : List ℕ) → name ≡ written ++ rest → written ≡ front → bytes_eq rest profile ≡ bytes_eq name (front ++ profile)
front_and_rest name front rest written profile e f = rw (e, f) (same_front front rest profile)

other_front : (name front written profile : List ℕ) → ((rest : List ℕ) → name ≢ written ++ rest) → written ≡ front → false ≡ bytes_eq name (front ++ profile)
other_front name front written profile h f =
    sym (false_from_ne_true _ (λ e. h profile ((bytes_eq-Decides name (front ++ profile)).0 e ∙ ap (λ w. w ++ profile) (sym f))))

pub returns-in-Some : goal.returns-in-Some
returns-in-Some c =
    let name = c.args.name.now in
    let whole = strip_prefix_is Decides-eqb name c.as_bytes.result.now (Some c.in-Some.rest) c.in-Some.ensures.cases in
    c.eq.ensures ∙ ap (bytes_eq c.in-Some.rest.now) c.as_bytes-in-Some.ensures.value
    ∙ front_and_rest name c.args.self.now.front.now c.in-Some.rest.now c.as_bytes.result.now c.args.self.now.profile.now whole c.as_bytes.ensures.value

pub returns-in-None : goal.returns-in-None
returns-in-None c =
    let name = c.args.name.now in
    let whole = strip_prefix_is Decides-eqb name c.as_bytes.result.now None c.in-None.ensures.cases in
    other_front name c.args.self.now.front.now c.as_bytes.result.now c.args.self.now.profile.now whole c.as_bytes.ensures.value
