use Rattle.std.proofs.Common.{◌≢◌, ◌∷◌, ℕ, List, [], sym, subst, refl, drop, arith, get_or}
use Rattle.std.proofs.lemmas.List.{take_rest}
use Rattle.reply_values.specs.Spelling.{StartsPiece, StartsNoPiece}
use Rattle.reply_values.specs.UrlText.{StandsForByte}
use Rattle.reply_values.proofs.SpellingLemmas.{head_is}
use Rattle.reply_values.proofs.UrlTextLemmas.{refused_from, percent_refused, space_stands, byte_stands}
use Rattle.reply_values.proofs.url_text.first_byte.Goals as goal

pub returns-in-37-clause-refused : goal.returns-in-37-clause-refused
returns-in-37-clause-refused c =
    let text = c.args.text.now in
    let none = rw take_rest at c.hex_byte.ensures.refused in
    let start = head_is text 37 c.requires c.in-37.is in
    refused_from c.hex_byte.result _ _ (λ n. subst (λ (t : List ℕ). StartsNoPiece StandsForByte t) (sym start)
    (percent_refused (drop 1 text) n)) none

pub returns-in-43-clause-value : goal.returns-in-43-clause-value
returns-in-43-clause-value c =
    let text = c.args.text.now in
    let start = head_is text 43 c.requires c.in-43.is in
    rw take_rest (subst (λ (t : List ℕ). StartsPiece StandsForByte t (32 ∷ []) (drop 1 text)) (sym start)
    (space_stands _))

pub returns-in_default-clause-value : goal.returns-in_default-clause-value
returns-in_default-clause-value c =
    let text = c.args.text.now in
    let percent : get_or text 0 0 ≢ 37 = λ e. omega arith in
    let plus : get_or text 0 0 ≢ 43 = λ e. omega arith in
    let start = head_is text (get_or text 0 0) c.requires refl in
    rw take_rest (subst (λ (t : List ℕ). StartsPiece StandsForByte t (get_or text 0 0 ∷ []) (drop 1 text)) (sym start)
    (byte_stands _ _ percent plus))
