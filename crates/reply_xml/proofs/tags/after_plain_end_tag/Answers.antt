use Rattle.std.proofs.Common.{Option, Some, None, IfSome, MatchOption}
use Rattle.reply_xml.proofs.TagLemmas.{plain_end_tag}
use Rattle.reply_xml.proofs.tags.after_plain_end_tag.Goals as goal

some_then : {X : Type 0} (P : Type 0) (Q R : X → Type 0) (r : Option X) → ((x : X) → Q x → R x) → MatchOption r P Q
    → IfSome r R
some_then P Q R None f h = tt
some_then P Q R (Some x) f h = f x h

pub returns-clause-value : goal.returns-clause-value
returns-clause-value c =
    let cut = c.in_ok-front.ensures.cases in
    some_then _ _ _ c.after_byte-3.result
    (
    λ rest closes. plain_end_tag c.args.name.now c.args.bytes.now _ _ _ _ rest.now _ c.requires
    c.in_ok-at_slash.ensures.value c.in_ok-at_name.ensures.value cut.1 cut.2 c.if-not-is_same.ensures closes
    )
    c.after_byte-3.ensures.value
