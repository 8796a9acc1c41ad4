use Rattle.std.proofs.Common.{◌∙◌, ℕ, List, inr, refl, subst, sym}
use Rattle.std.proofs.lemmas.Bool.{false≢true}
use Rattle.reply_values.specs.Forms.{IsKey}
use Rattle.reply_values.specs.UrlText.{MeansText}
use Rattle.reply_values.proofs.UrlTextLemmas.{MeansText-same}
use Rattle.reply_xml.specs.Meaning.{meaning_of}
use Rattle.s3_replies.proofs.keys.judged_key.Goals as goal

pub returns-then-not-is_key-clause-refused : goal.returns-then-not-is_key-clause-refused
returns-then-not-is_key-clause-refused c value w =
    let text = meaning_of c.args.text in
    let here = subst (λ (t : List ℕ). MeansText c.args.url t c.in_ok-key.key)
    (c.as_str.ensures ∙ c.in_ok-written.ensures.value) c.in_ok-key.ensures.value in
    let same = MeansText-same c.args.url text c.in_ok-key.key w.1.0 here w.1.1 in
    false≢true (c.if-not-is_key.ensures.1 (subst IsKey (same ∙ sym c.as_str-2.ensures) w.1.2))

pub returns-clause-value : goal.returns-clause-value
returns-clause-value c =
    let here = subst (λ (t : List ℕ). MeansText c.args.url t c.in_ok-key.key)
    (c.as_str.ensures ∙ c.in_ok-written.ensures.value) c.in_ok-key.ensures.value in (
      c.in_ok-written.ensures.value,
      (c.in_ok-key.key, here, subst IsKey c.as_str-2.ensures (c.if-not-is_key.ensures.0 refl)),
    )

pub returns-then-not-is_key-clause-unfit : goal.returns-then-not-is_key-clause-unfit
returns-then-not-is_key-clause-unfit c =
    let here = subst (λ (t : List ℕ). MeansText c.args.url t c.in_ok-key.key)
    (c.as_str.ensures ∙ c.in_ok-written.ensures.value) c.in_ok-key.ensures.value in
    inr (
      refl,
      (c.in_ok-key.key, here, λ key. false≢true (c.if-not-is_key.ensures.1 (subst IsKey (sym c.as_str-2.ensures) key))),
    )
