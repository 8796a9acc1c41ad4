use Rattle.std.proofs.Common.{ℕ, List, Err, ap, refl, subst}
use Rattle.reply_values.specs.UrlText.{SpellsUrlText}
use Rattle.s3_replies.proofs.PlainLemmas.{no_url}
use Rattle.s3_replies.proofs.keys.decoded.Goals as goal

pub returns-in-Err-Bad-clause-refused : goal.returns-in-Err-Bad-clause-refused
returns-in-Err-Bad-clause-refused c text m =
    let none : (t : List ℕ) → ¬ (SpellsUrlText c.args.written t) =
    subst (λ (w : List ℕ). (t : List ℕ) → ¬ (SpellsUrlText w t)) c.as_str.ensures
    (c.in-Err-Bad.ensures.refused (ap Err c.in-Err-Bad.field-0-is)) in
    no_url c.args.url c.args.written text c.if-not-url.false none m

pub returns-in-Err-Bad-clause-unfit : goal.returns-in-Err-Bad-clause-unfit
returns-in-Err-Bad-clause-unfit c = (refl, λ meaning m. returns-in-Err-Bad-clause-refused c meaning m)
