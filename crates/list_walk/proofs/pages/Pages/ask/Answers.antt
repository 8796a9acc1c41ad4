use Rattle.std.proofs.Common.{◌≡◌, ◌∙◌, ℕ, Bool, false, List, Option, Some, None, ap, cond, sym}
use Rattle.s3_model.specs.declared.requests.Ask.TheVariants as ask
use Rattle.list_walk.specs.Pages.{Walk, next_ask}
use Rattle.list_walk.proofs.pages.Pages.ask.Goals as goal

-- the parts that were copied are those of a walk that goes on
asked : (walk inside : Walk) (bucket prefix : List ℕ) (token : Option (List ℕ)) → inside ≡ walk → inside.over ≡ false
    → bucket ≡ inside.bucket → prefix ≡ inside.prefix → token ≡ inside.token
    → Some (ask.List bucket prefix inside.delimited token) ≡ next_ask walk
asked walk inside bucket prefix token same on e f h =
    ap (λ (b : List ℕ). Some (ask.List b prefix inside.delimited token)) e
    ∙ ap (λ (p : List ℕ). Some (ask.List inside.bucket p inside.delimited token)) f
    ∙ ap (λ (t : Option (List ℕ)). Some (ask.List inside.bucket inside.prefix inside.delimited t)) h
    ∙ ap (λ (over : Bool). cond over None (Some (ask.List inside.bucket inside.prefix inside.delimited inside.token)))
    (sym on) ∙ ap next_ask same

pub returns : goal.returns
returns c =
    asked _ _ _ _ _ c.self.view_is c.if-self.false c.in_ok-copy.ensures c.in_ok-copy-2.ensures c.in_ok-copy_option.ensures
