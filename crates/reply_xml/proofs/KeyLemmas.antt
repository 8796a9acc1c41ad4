-- Written keys and prefixes that mean something are in their form.
use Rattle.std.proofs.Common.{ℕ, Bool, List, subst, sym, ⊎_elim}
use Rattle.reply_values.specs.Forms.{IsKey}
use Rattle.reply_values.specs.UrlText.{MeansText}
use Rattle.reply_values.proofs.UrlTextLemmas.{MeansText-same}
use Rattle.reply_xml.specs.declared.elements.Element.{Element}
use Rattle.reply_xml.specs.declared.faults.DocFault.{DocFault}
use Rattle.reply_xml.specs.Unfit.{AKey, APrefix, IsUnfit}

pub key_fits : (url : Bool) (of : Element) (text key : List ℕ) → MeansText url text key → IsKey key
    → (reason : DocFault)
    → IsUnfit (AKey url) of text reason → ⊥
key_fits url of text key means is reason u =
    ⊎_elim (λ none. none.1 key means)
    (λ bad. bad.1.2 (subst IsKey (sym (MeansText-same url text key bad.1.0 means bad.1.1)) is)) u

pub prefix_fits : (url : Bool) (of : Element) (text meaning : List ℕ) → MeansText url text meaning → (reason : DocFault)
    → IsUnfit (APrefix url) of text reason → ⊥
prefix_fits url of text meaning means reason u = u.1 meaning means
