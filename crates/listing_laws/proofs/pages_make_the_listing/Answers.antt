use Rattle.listing_laws.proofs.ReplyLemmas.{pages_make_listing}
use Rattle.listing_laws.proofs.pages_make_the_listing.Goals as goal

pub returns : goal.returns
returns c = pages_make_listing
