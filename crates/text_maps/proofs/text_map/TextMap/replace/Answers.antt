use Rattle.std.proofs.Common.{IsSome, Some, sym, ap, subst, refl, ◌∙◌}
use Rattle.std.specs.FinMap.{get, insert}
use Rattle.text_maps.proofs.TextMaps.{get-text_map, text_map-put}
use Rattle.text_maps.proofs.text_map.TextMap.replace.Goals as goal

pub returns-clause-old : goal.returns-clause-old
returns-clause-old g c =
    ap (λ v. Some v) c.replace.ensures.value
    ∙ c.in-Some.ensures.value ∙ sym (get-text_map c.self.inside.inner c.args.key.now) ∙ ap (λ m. get m c.args.key.now) c.self.view_is

pub returns-clause-put : goal.returns-clause-put
returns-clause-put g c =
    text_map-put c.self.inside.inner (c.get_mut.follows.lender c.replace.new.dest) c.args.key.now c.replace.new.dest
    ((c.get_mut.follows.holds c.replace.new.dest).3 (subst (λ o. IsSome o) c.in-Some.ensures.value refl))
    ∙ ap (λ m. insert m c.args.key.now c.replace.new.dest) c.self.view_is
    ∙ ap (λ v. insert c.args.self.now c.args.key.now v) c.replace.ensures.after

pub returns-in_default-clause-old : goal.returns-in_default-clause-old
returns-in_default-clause-old g c = c.in_default.ensures.value ∙ sym (get-text_map c.self.inside.inner c.args.key.now) ∙ ap (λ m. get m c.args.key.now) c.self.view_is
