use Rattle.std.proofs.Common.{◌≡◌, refl, subst, sym}
use Rattle.s3_model.specs.declared.answers.Listed.{Listed}
use Rattle.s3_replies.specs.Listing.{MeansPage, Page}
use Rattle.reply_xml.proofs.FaultLemmas.{refused_past}
use Rattle.s3_replies.proofs.pages.listed.Goals as goal

pub returns-in_err-entries-clause-refused : goal.returns-in_err-entries-clause-refused
returns-in_err-entries-clause-refused c =
    refused_past c.from_residual.result c.in_err-entries.field-0.0 c.from_residual.ensures.1
    (λ none listed m. none listed.entries.items
    (subst (λ (p : Page). MeansPage p listed) (sym c.page.view_is) m).entries) c.in_err-entries.ensures.refused

pub returns-in_err-prefixes-clause-refused : goal.returns-in_err-prefixes-clause-refused
returns-in_err-prefixes-clause-refused c =
    refused_past c.from_residual-in_err-prefixes.result c.in_err-prefixes.field-0.0
    c.from_residual-in_err-prefixes.ensures.1
    (λ none listed m. none listed.prefixes.items
    (subst (λ (p : Page). MeansPage p listed) (sym c.page.view_is) m).prefixes) c.in_err-prefixes.ensures.refused

means_page : (page inside : Page) (listed : Listed) → inside ≡ page → MeansPage inside listed → MeansPage page listed
means_page page inside listed same m = subst (λ (p : Page). MeansPage p listed) same m

pub returns-clause-value : goal.returns-clause-value
returns-clause-value c =
    means_page _ _ _ c.page.view_is
    (record { more = refl; token = refl; entries = c.in_ok-entries.ensures.value; prefixes = c.in_ok-prefixes.ensures.value })
