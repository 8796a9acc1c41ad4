use Rattle.std.proofs.Common.{◌≡◌, ◌∙◌, Err, sym, ap}
use Rattle.std.proofs.lemmas.Bool.{false≢true}
use Rattle.std.proofs.lemmas.Result.{err_from_is_err_and}
use Rattle.std.proofs.lemmas.Str.{IsUtf8-string_bytes}
use Rattle.std.specs.String.{string_bytes}
use Rattle.reply_values.specs.UrlText.{StandsForByte}
use Rattle.reply_values.proofs.SpellingLemmas.{spells_one}
use Rattle.reply_values.proofs.UrlTextLemmas.{url_code}
use Rattle.reply_values.proofs.url_text.url_decode.Goals as goal
use Rattle.shared_lemmas.proofs.Clashes.{err_is}

pub returns-in_err-bytes-clause-refused : goal.returns-in_err-bytes-clause-refused
returns-in_err-bytes-clause-refused c = λ bad decoded h.
    let p = err_from_is_err_and c.from_residual.result c.from_residual.ensures.1 in
    let fault = sym p.2 ∙ err_is _ _ (sym p.1 ∙ bad) in
    c.in_err-bytes.ensures.refused (ap Err fault) decoded (rw (sym c.as_bytes.ensures.value) at h.bytes)

pub returns-in-Ok-clause-value : goal.returns-in-Ok-clause-value
returns-in-Ok-clause-value c =
    let text : string_bytes c.in-Ok.decoded ≡ c.in_ok-bytes.bytes.items = ap (λ v. v.items) c.in-Ok.ensures.ok in
    rw (c.from.ensures) (record {
      bytes = rw (text, sym c.as_bytes.ensures.value) c.in_ok-bytes.ensures.value;
      utf8 =
          IsUtf8-string_bytes c.in-Ok.decoded;
    })

pub returns-clause-refused : goal.returns-clause-refused
returns-clause-refused c = λ bad decoded h.
    let bytes = rw (sym c.as_bytes.ensures.value) at h.bytes in
    let same = spells_one StandsForByte url_code c.as_bytes.result.now decoded c.in_ok-bytes.bytes.items bytes
    c.in_ok-bytes.ensures.value in
    false≢true (c.in-Err.ensures.succeeds (rw same at h.utf8))
