use Rattle.std.proofs.Common.{◌∙◌, ◌++◌, ◌∷◌, [], ℕ, List, sym, ap, map, string_bytes}
use Rattle.std.specs.BTreeMap as tree
use Rattle.std.specs.FinMap.{keys}
use Rattle.std.proofs.lemmas.Iterator.Consumers.{YieldsList-at, YieldsList-end, YieldsList-from_rest}
use Rattle.text_maps.proofs.TextMaps.{keys-text_map, texts_grown, texts_of}
use Rattle.text_maps.proofs.text_map.TextMap.texts.Goals as goal

pub loop-key-init : goal.loop-key-init
loop-key-init g c = c.make-texts.ensures

pub loop-key-preserved : goal.loop-key-preserved
loop-key-preserved g c =
    c.push.ensures.items
    ∙ ap (λ (xs : List (List ℕ)). xs ++ c.in_ok-text.text ∷ []) (c.in_ok-reserve.ensures.items ∙ c.loop-key.invariant)
    ∙ ap (λ (text : List ℕ). map (λ k. string_bytes k.now) c.loop-key.yielded ++ text ∷ []) (c.in_ok-text.ensures ∙ c.as_str.ensures.value)
    ∙ sym (texts_grown c.loop-key.yielded c.in-Some.key)

pub returns : goal.returns
returns g c =
    let seen = YieldsList-end (YieldsList-at c.into_iter-key-iterator.ensures.into_iter_gives (YieldsList-from_rest (tree.keys c.self.inside.inner) c.keys-key-items.ensures.rest))
    c.loop-key.yielded _ c.loop-key.yielded_by _ _ c.in-None.is c.next.ensures.steps in
    c.loop-key.invariant ∙ texts_of c.loop-key.yielded ∙ ap (map string_bytes) seen.0 ∙ sym (keys-text_map c.self.inside.inner c.keys-key-items.ensures.ordered) ∙ ap (λ m. keys m) c.self.view_is
