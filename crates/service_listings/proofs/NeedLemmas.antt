-- The questions for a path of `ls` ask for its need.
use Rattle.std.proofs.Common.{◌+◌, ℕ, List, [], Some, None, subst, length}
use Rattle.std.specs.Prelude.{Ok, Err, not}
use Rattle.answer_classes.specs.Showing.{Shows}
use Rattle.job_terms.specs.Dispatches.{Dispatched}
use Rattle.planning_questions.proofs.PlanLemmas.{listings_are_planned, questions_are_planned}
use Rattle.planning_questions.specs.Planned.{IsAskedFor}
use Rattle.planning_questions.specs.declared.halt.Halt.{Halt}
use Rattle.planning_questions.specs.declared.halt.Halt.TheVariants as halt
use Rattle.run_promise.specs.Planning as planning
use Rattle.run_promise.specs.Planning.{Need}
use Rattle.list_walk.specs.Pages.{Walk}
use Rattle.s3_model.specs.declared.answers.Reply.{Reply}
use Rattle.s3_model.specs.declared.answers.Reply.TheVariants as reply
use Rattle.s3_model.specs.declared.places.Place.TheVariants as place
use Rattle.s3_model.specs.declared.requests.Ask.TheVariants as ask
use Rattle.shared_lemmas.proofs.Lists.{head_is}
use Rattle.service_listings.specs.Needs.{PathsArePlanned}
use Rattle.service_listings.specs.declared.listing.Listing.{Listing}
use Rattle.service_listings.specs.declared.listing.Listing.TheVariants as listing

-- what ends a planning does not hang on what it was to find
ends_as : (X Y : Type 0) (need : Need) (why : Halt) (next : ℕ) (dispatched : List Dispatched) → IsAskedFor Shows {X = X} need [] None (Err why) next dispatched → IsAskedFor Shows {X = Y} need [] None (Err why) next dispatched
ends_as X Y need (halt.Answer cause) next dispatched h = h
ends_as X Y need (halt.Listing bad) next dispatched h = h
ends_as X Y need halt.Memory next dispatched h = h
ends_as X Y need halt.Stranger next dispatched h = h

pub paths_are_planned : PathsArePlanned
paths_are_planned number None recursive questions (Ok (listing.Buckets buckets)) dispatched need lists is shows =
    subst (λ (n : Need). IsAskedFor Shows n [] None (Ok (listing.Buckets buckets)) (number + length questions) dispatched) (head_is _ _ _ _ is)
    (questions_are_planned Shows number ask.Buckets questions (Ok (reply.BucketList buckets)) dispatched lists shows)
paths_are_planned number None recursive questions (Err why) dispatched need lists is shows =
    subst (λ (n : Need). IsAskedFor Shows {X = Listing} n [] None (Err why) (number + length questions) dispatched) (head_is _ _ _ _ is)
    (ends_as Reply Listing (planning.One ask.Buckets) why (number + length questions) dispatched (questions_are_planned Shows number ask.Buckets questions (Err why) dispatched lists shows))
paths_are_planned number (Some (place.Object bucket key)) recursive questions (Ok (listing.Pages walk)) dispatched need lists is shows =
    subst (λ (n : Need). IsAskedFor Shows n [] None (Ok (listing.Pages walk)) (number + length questions) dispatched) (head_is _ _ _ _ is)
    (listings_are_planned Shows number bucket key (not recursive) questions (Ok walk) dispatched lists shows)
paths_are_planned number (Some (place.Object bucket key)) recursive questions (Err why) dispatched need lists is shows =
    subst (λ (n : Need). IsAskedFor Shows {X = Listing} n [] None (Err why) (number + length questions) dispatched) (head_is _ _ _ _ is)
    (ends_as Walk Listing (planning.Listing bucket key (not recursive)) why (number + length questions) dispatched (listings_are_planned Shows number bucket key (not recursive) questions (Err why) dispatched lists shows))
paths_are_planned number at recursive questions result dispatched need lists is shows = absurd lists
