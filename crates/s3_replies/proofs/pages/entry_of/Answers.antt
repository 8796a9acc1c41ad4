use Rattle.std.proofs.Common.{◌∙◌, refl, sym, subst}
use Rattle.std.proofs.lemmas.Bool.{false≢true}
use Rattle.reply_values.specs.Forms.{IsKey}
use Rattle.reply_values.proofs.UrlTextLemmas.{MeansText-same}
use Rattle.s3_replies.proofs.pages.entry_of.Goals as goal

pub returns-then-not-is_key-clause-refused : goal.returns-then-not-is_key-clause-refused
returns-then-not-is_key-clause-refused c entry m =
    let same = MeansText-same c.args.url c.args.row.key c.in_ok-key.key entry.key c.in_ok-key.ensures.value m.key in
    false≢true (c.if-not-is_key.ensures.1 (subst IsKey (same ∙ sym c.as_str.ensures) m.form))

pub returns-clause-value : goal.returns-clause-value
returns-clause-value c = record {
  key = c.in_ok-key.ensures.value;
  form = subst IsKey c.as_str.ensures (c.if-not-is_key.ensures.0 refl);
  size = refl;
  etag = refl;
  micros = refl;
}
