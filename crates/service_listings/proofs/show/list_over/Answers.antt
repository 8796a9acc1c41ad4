use Rattle.std.proofs.Common.{ap}
use Rattle.s3_model.specs.Lists.{Reserved}
use Rattle.s3_model.specs.declared.outcomes.Event.{Event}
use Rattle.service_listings.proofs.DateLemmas.{listings_are_dated}
use Rattle.service_listings.proofs.RunLemmas.{listed_over, not_opened}
use Rattle.service_listings.proofs.StrangerLemmas.{no_stranger}
use Rattle.service_listings.proofs.show.list_over.Goals as goal

pub returns-in-Ok-clause-listed : goal.returns-in-Ok-clause-listed
returns-in-Ok-clause-listed g c =
    let opened = c.in-Ok.ensures in
    listed_over _ _ _ _ _ _ _ _ _ _ _ _ _ _ opened.lanes opened.fresh opened.number opened.others (ap (λ (j : Reserved Event). j.items) c.close-journal.ensures.journal) c.list-listed.ensures.same_desk
    c.list-listed.ensures.listed c.close-journal.ensures.back

pub returns-in-Ok-clause-dated : goal.returns-in-Ok-clause-dated
returns-in-Ok-clause-dated g c =
    let h = returns-in-Ok-clause-listed g c in
    listings_are_dated _ _ 0 _ _ h.questions c.list-listed.result _ _ h.lists h.joined

pub returns-in-Err-clause-listed : goal.returns-in-Err-clause-listed
returns-in-Err-clause-listed g c = not_opened _ _ _ _ _ _ c.requires.at c.in-Err.ensures.err c.make.ensures

pub returns-in-Ok-clause-no_stranger : goal.returns-in-Ok-clause-no_stranger
returns-in-Ok-clause-no_stranger g c =
    let h = returns-in-Ok-clause-listed g c in
    no_stranger _ _ 0 _ _ h.questions c.list-listed.result _ _ h.lists h.joined
