-- What a planning has to ask for a path of `ls` (AWS CLI Command Reference, `s3 ls`).
use Rattle.std.specs.Prelude.{◌≡◌, ◌+◌, ℕ, Bool, not, List, [], ◌∷◌, Option, Some, None, Result, length}
use Rattle.answer_classes.specs.Showing.{Shows}
use Rattle.job_terms.specs.Dispatches.{Dispatched}
use Rattle.planning_questions.specs.Planned.{IsAskedFor, ShowQuestions}
use Rattle.planning_questions.specs.Questions.{Question}
use Rattle.planning_questions.specs.declared.halt.Halt.{Halt}
use Rattle.run_promise.specs.Planning as planning
use Rattle.run_promise.specs.Planning.{Need}
use Rattle.s3_model.specs.declared.places.Place.{Place}
use Rattle.s3_model.specs.declared.places.Place.TheVariants as place
use Rattle.s3_model.specs.declared.requests.Ask.TheVariants as ask
use Rattle.service_listings.specs.Listings.{ListsAt}
use Rattle.service_listings.specs.declared.listing.Listing.{Listing}

-- the buckets, or all pages of what has the key in front, up to the next `/` without `--recursive`
abbrev pub needs_of : Option Place → (recursive : Bool) → List Need
needs_of None recursive = planning.One ask.Buckets ∷ []
needs_of (Some (place.Object bucket key)) recursive = planning.Listing bucket key (not recursive) ∷ []
needs_of (Some (place.File path)) recursive = []

-- The questions for a path are asked as the planning of a run asks for that need.
abbrev pub PathsArePlanned : Type 0
PathsArePlanned = (number : ℕ) (at : Option Place) (recursive : Bool) (questions : List Question)
    (result : Result Listing Halt) (dispatched : List Dispatched) (need : Need)
    → ListsAt number at recursive questions result → needs_of at recursive ≡ need ∷ []
    → ShowQuestions Shows number questions dispatched
    → IsAskedFor Shows need [] None result (number + length questions) dispatched
