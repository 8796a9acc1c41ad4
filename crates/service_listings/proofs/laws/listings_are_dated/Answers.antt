use Rattle.service_listings.proofs.DateLemmas.{listings_are_dated}
use Rattle.service_listings.proofs.StrangerLemmas.{none_is_strange}
use Rattle.service_listings.proofs.laws.listings_are_dated.Goals as goal

pub returns-clause-dated : goal.returns-clause-dated
returns-clause-dated g c = listings_are_dated _

pub returns-clause-none : goal.returns-clause-none
returns-clause-none g c = none_is_strange _
