-- What a listing asks is what the planning of its command needs, and memory that ran out for it ends the run.
use Rattle.std.proofs.Common.{◌≡◌, ◌∙◌, ℕ, Bool, not, List, Option, Some, None, Result, Ok, Err, subst, inl, inr}
use Rattle.lane_jobs.specs.Lanes.{SeenCarrier}
use Rattle.lane_laws.specs.Runs.{RanOut}
use Rattle.list_walk.specs.Pages.{IsRefusedPage, new_walk}
use Rattle.planning_laws.specs.Asking.{AskFor}
use Rattle.planning_questions.specs.Questions.{Question}
use Rattle.planning_questions.specs.declared.halt.Halt.{Halt}
use Rattle.planning_questions.specs.declared.halt.Halt.TheVariants as halt
use Rattle.question_runs.proofs.Asking.{laws_of, listing_asked, listing_ran, one_asked, one_ran}
use Rattle.question_runs.proofs.Own.{AreOwn, listing_own, one_own}
use Rattle.run_report.specs.declared.run.Fatal.{Fatal}
use Rattle.run_promise.specs.Planning.{Need}
use Rattle.run_report.specs.declared.run.Fatal.TheVariants as fatal
use Rattle.s3_model.specs.declared.answers.Reply.TheVariants as reply
use Rattle.s3_model.specs.declared.places.Place.{Place}
use Rattle.s3_model.specs.declared.places.Place.TheVariants as place
use Rattle.s3_model.specs.declared.requests.Ask.TheVariants as ask
use Rattle.service_listings.specs.Listings.{IsShownBy, ListsAt}
use Rattle.service_listings.specs.Needs.{needs_of}
use Rattle.service_listings.specs.declared.listing.Listing.{Listing}
use Rattle.service_listings.specs.declared.listing.Listing.TheVariants as listing
use Rattle.service_listings.specs.declared.listing.Shown.{Shown}
use Rattle.shared_lemmas.proofs.Members.{Has}
use Rattle.s3_main.specs.Listings.{EndsListing}

-- ---- results

other_err : {X Y : Type 0} (h k : Halt) → ◌≡◌ {A = Result X Halt} (Err h) (Err k) → ◌≡◌ {A = Result Y Halt} (Err h) (Err k)
other_err h k e = cc

no_ok : {X : Type 0} (x : X) (h : Halt) → ◌≡◌ {A = Result X Halt} (Ok x) (Err h) → ⊥
no_ok x h e = cc

-- ---- the needs

module _ (carrier : SeenCarrier) (questions : List Question) (own : AreOwn carrier 0 questions) where
  module _ (Ran : Type 0) where
    abbrev Asks : List Need → Type 0
    Asks needs = (page : Option ℕ) × AskFor IsRefusedPage Ran page needs (laws_of questions)

    -- the questions for a path ask for what it needs
    pub path_asked : (at : Option Place) (recursive : Bool) (result : Result Listing Halt) → ListsAt 0 at recursive questions result → (result ≡ Err halt.Memory → Ran) → Asks (needs_of at recursive)
    path_asked None recursive (Ok (listing.Buckets buckets)) lists ran =
        (None, one_asked Ran 0 ask.Buckets questions (Ok (reply.BucketList buckets)) lists (λ e. absurd (no_ok (reply.BucketList buckets) halt.Memory e)))
    path_asked None recursive (Ok (listing.Pages walk)) lists ran = absurd lists
    path_asked None recursive (Err h) lists ran = (None, one_asked Ran 0 ask.Buckets questions (Err h) lists (λ e. ran (other_err h halt.Memory e)))
    path_asked (Some (place.Object bucket key)) recursive (Ok (listing.Pages walk)) lists ran =
        listing_asked Ran bucket key (not recursive) questions (Ok walk) lists (listing_own carrier 0 (new_walk bucket key (not recursive)) questions (Ok walk) own lists) (λ e. absurd (no_ok walk halt.Memory e))
    path_asked (Some (place.Object bucket key)) recursive (Ok (listing.Buckets buckets)) lists ran = absurd lists
    path_asked (Some (place.Object bucket key)) recursive (Err h) lists ran =
        listing_asked Ran bucket key (not recursive) questions (Err h) lists (listing_own carrier 0 (new_walk bucket key (not recursive)) questions (Err h) own lists) (λ e. ran (other_err h halt.Memory e))
    path_asked (Some (place.File path)) recursive result lists ran = absurd lists

  -- memory that ran out for one of them ends the listing
  pub path_ran : (at : Option Place) (recursive : Bool) (result : Result Listing Halt) → ListsAt 0 at recursive questions result → (q : Question) → Has questions q → RanOut q.carried.ending → result ≡ Err halt.Memory
  path_ran None recursive (Ok (listing.Buckets buckets)) lists q known out =
      absurd (no_ok (reply.BucketList buckets) halt.Memory
      (one_ran 0 ask.Buckets questions (Ok (reply.BucketList buckets)) lists (one_own carrier 0 ask.Buckets questions (Ok (reply.BucketList buckets)) own lists) q known out))
  path_ran None recursive (Ok (listing.Pages walk)) lists q known out = absurd lists
  path_ran None recursive (Err h) lists q known out =
      other_err h halt.Memory (one_ran 0 ask.Buckets questions (Err h) lists (one_own carrier 0 ask.Buckets questions (Err h) own lists) q known out)
  path_ran (Some (place.Object bucket key)) recursive (Ok (listing.Pages walk)) lists q known out =
      absurd (no_ok walk halt.Memory
      (listing_ran 0 (new_walk bucket key (not recursive)) questions (Ok walk) lists (listing_own carrier 0 (new_walk bucket key (not recursive)) questions (Ok walk) own lists) q known out))
  path_ran (Some (place.Object bucket key)) recursive (Ok (listing.Buckets buckets)) lists q known out = absurd lists
  path_ran (Some (place.Object bucket key)) recursive (Err h) lists q known out =
      other_err h halt.Memory (listing_ran 0 (new_walk bucket key (not recursive)) questions (Err h) lists (listing_own carrier 0 (new_walk bucket key (not recursive)) questions (Err h) own lists) q known out)
  path_ran (Some (place.File path)) recursive result lists q known out = absurd lists

-- ---- the end

err_is : {X : Type 0} (h k : Halt) → ◌≡◌ {A = Result X Halt} (Err h) (Err k) → h ≡ k
err_is h k e = cc

-- memory that ran out for a listing ends the run
pub memory_ends : (key : List ℕ) (recursive : Bool) (listed : Result Listing Halt) (result : Result Shown Halt) (why : Option Fatal) → listed ≡ Err halt.Memory → IsShownBy key recursive listed result → EndsListing result why
    → why ≡ Some fatal.Memory
memory_ends key recursive (Ok told) result why e shown ends = absurd (no_ok told halt.Memory e)
memory_ends key recursive (Err h) (Ok told) why e shown ends = absurd shown
memory_ends key recursive (Err h) (Err same) why e shown ends =
    elim (subst (λ (k : Halt). EndsListing (Err k) why) (shown ∙ err_is {X = Listing} h halt.Memory e) ends) [ inl is ↦ is | inr is ↦ is ]
