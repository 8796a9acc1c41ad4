use Rattle.std.proofs.Common.{◌≡◌, ◌∙◌, true, List, ℕ, sym, subst}
use Rattle.list_walk.specs.Pages.{AllBeginWith}
use Rattle.s3_model.specs.Entries.{keys_of}
use Rattle.s3_model.specs.declared.places.Entry.{Entry}
use Rattle.s3_model.specs.declared.places.Place.TheVariants as place
use Rattle.shared_lemmas.proofs.Clashes.{true_is_false}
use Rattle.sync_plan.specs.Errands.{AreEntries}
use Rattle.command_errands.specs.Errands.{prefix_of}
use Rattle.service_plans.proofs.QuestionLemmas.{listed_prefix}
use Rattle.service_plans.proofs.served.find_below.Goals as goal

pub returns-clause-entries : goal.returns-clause-entries
returns-clause-entries g c =
    let prefix : c.in_ok-pages.pages.prefix ≡ prefix_of c.args.key.now =
    listed_prefix _ _ _ _ _ _ _ _ c.in_ok-pages.pages c.in_ok-pages.was c.list_all.ensures.listed ∙ c.as_str.ensures ∙ c.in_ok-prefix.ensures
    in
    subst (λ (all : List Entry). AreEntries (place.Object c.args.bucket.now (prefix_of c.args.key.now)) true all) (sym c.listed.ensures.entries.0) (record {
      ascending = c.listed.ensures.ascending;
      below = subst (λ (p : List ℕ). AllBeginWith p (keys_of c.in_ok-pages.pages.gathered.entries)) prefix c.listed.ensures.within;
      single = λ e. absurd (true_is_false e);
    })
