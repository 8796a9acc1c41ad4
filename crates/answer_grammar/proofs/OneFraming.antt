-- The header lines state one framing.
use Rattle.std.proofs.Common.{◌≡◌, ℕ, Bool, true, false, List, Option, Some, None, sym, refl, ap, ◌∙◌}
use Rattle.httparse.specs.Grammar.{ResponseHead, status_code}
use Rattle.http1.specs.Fields.{content_length, transfer_encoding}
use Rattle.http1.specs.declared.fields.ContentLength.TheVariants as Length
use Rattle.http1.specs.declared.fields.TransferEncoding.TheVariants as Coding
use Rattle.answer_grammar.specs.declared.framing.Framing.{Framing}
use Rattle.answer_grammar.specs.Head.{IsFramed, IsCoded, StatesLength, framing_by, has_no_body, header_lines, codings, lengths}

coding_clash : Coding.Chunked ≡ Coding.Absent → ⊥
coding_clash e = cc

pub coded_once : (names : List (List ℕ)) (b c : Bool) → IsCoded names b → IsCoded names c → b ≡ c
coded_once names true true here there = refl
coded_once names false false here there = refl
coded_once names true false here there = absurd (coding_clash (sym here.0 ∙ ap transfer_encoding there))
coded_once names false true here there = absurd (coding_clash (sym there.0 ∙ ap transfer_encoding here))

value_clash : (n : ℕ) → Length.Value n ≡ Length.Absent → ⊥
value_clash n e = cc

value_once : (n m : ℕ) → Length.Value n ≡ Length.Value m → n ≡ m
value_once n m e = cc

pub stated_once : (values : List (List ℕ)) (s t : Option ℕ) → StatesLength values s → StatesLength values t → s ≡ t
stated_once values None None here there = refl
stated_once values (Some n) (Some m) here there = ap Some (value_once n m (sym here.0 ∙ there.0))
stated_once values (Some n) None here there = absurd (value_clash n (sym here.0 ∙ ap content_length there))
stated_once values None (Some n) here there = absurd (value_clash n (sym there.0 ∙ ap content_length here))

pub framed_once : (head_only : Bool) (head : ResponseHead) (s t : Option ℕ) (f g : Framing) → IsFramed head_only head s f → IsFramed head_only head t g → (f ≡ g) × (s ≡ t)
framed_once head_only head s t f g here there =
    let chunked = coded_once (codings (header_lines head)) here.chunked there.chunked here.coded there.coded in
    let stated = stated_once (lengths (header_lines head)) s t here.states there.states in
    (here.by ∙ (λ i. framing_by (has_no_body head_only (status_code head)) (chunked i) (stated i)) ∙ sym there.by, stated)
