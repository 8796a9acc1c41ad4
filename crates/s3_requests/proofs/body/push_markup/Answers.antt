use Rattle.std.proofs.Common.{◌≡◌, ◌++◌, ◌∷◌, ◌∙◌, ℕ, List, [], ap, append-nil, append_assoc, flat_map, map-id, refl, string_bytes, sym}
use Rattle.std.proofs.lemmas.List.Concat.{flat_map-append}
use Rattle.std.proofs.lemmas.Iterator.{YieldsList-from_chars}
use Rattle.std.proofs.lemmas.Iterator.Consumers.{YieldsList-end}
use Rattle.s3_model.specs.Documents.{escape_markup, markup}
use Rattle.s3_requests.proofs.body.push_markup.Goals as goal

-- one character more
escaped_more : (chars : List ℕ) (char : ℕ) → flat_map escape_markup (chars ++ char ∷ []) ≡ flat_map escape_markup chars ++ escape_markup char
escaped_more chars char = rw (flat_map-append, append-nil) refl

pub loop-ch-preserved : goal.loop-ch-preserved
loop-ch-preserved c =
    let old = string_bytes c.args.out.now in
    let char = c.in-Some.ch in
    c.in_ok-push_escaped.ensures ∙ ap (λ text. text ++ escape_markup char) c.loop-ch.invariant
    ∙ append_assoc old (flat_map escape_markup c.loop-ch.yielded) (escape_markup char) ∙ ap (λ text. old ++ text) (sym (escaped_more c.loop-ch.yielded char))

pub returns : goal.returns
unfolding markup
returns c =
    let end = YieldsList-end (YieldsList-from_chars c.args.text.now c.utf8.text cc) c.loop-ch.yielded _ c.loop-ch.yielded_by _ _ c.in-None.is c.next.ensures.steps in
    c.loop-ch.invariant ∙ ap (λ found. string_bytes c.args.out.now ++ flat_map escape_markup found) (sym (map-id c.loop-ch.yielded) ∙ end.0)
