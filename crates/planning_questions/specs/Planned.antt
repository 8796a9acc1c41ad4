-- What questions are to the promise of a run: they ask for the needs of its planning, and for nothing behind a fault.
use Rattle.std.specs.Prelude.{◌≡◌, ◌≢◌, ◌+◌, ◌++◌, ℕ, Bool, true, false, List, [], ◌∷◌, Option, Some, None, Result}
use Rattle.std.specs.Prelude.{Ok, Err, length}
use Rattle.job_terms.specs.Dispatches.{Dispatched, last_of}
use Rattle.jobs.specs.declared.ending.Ending.TheVariants as ending
use Rattle.list_walk.specs.Pages.{IsRefusedPage, Walk, new_walk}
use Rattle.run_promise.specs.Planning as planning
use Rattle.run_promise.specs.Planning.{Need}
use Rattle.run_promise.specs.Schedule.{HasReply}
use Rattle.s3_model.specs.declared.answers.Class.{Class}
use Rattle.s3_model.specs.declared.answers.Listed.{Listed}
use Rattle.s3_model.specs.declared.answers.Reply.{Reply}
use Rattle.s3_model.specs.declared.requests.Ask.{Ask}
use Rattle.s3_model.specs.Talks.{Talk}
use Rattle.planning_questions.specs.Listings.{Lists}
use Rattle.planning_questions.specs.Questions.{AsksOnce, Question}
use Rattle.planning_questions.specs.declared.halt.Halt.{Halt}
use Rattle.planning_questions.specs.declared.halt.Halt.TheVariants as halt

-- `Shows ask limit talk class bytes`: the talk has that class for the ask, and its answer that body
module _ (Shows : Ask → ℕ → Talk → Class → List ℕ → Type 0) where
  -- The dispatch is that of the question's job: it asks the same, and shows a reply just where the job gained it.
  pub record ShowsQuestion (number : ℕ) (q : Question) (c : Dispatched) : Type 0 where
    pub asks : c.ask ≡ q.asked
    pub number_is : c.dispatch.job.number ≡ number
    pub answered : (said : Reply) → q.carried.ending ≡ ending.Gained said
        → HasReply Shows c (last_of c.dispatch.attempts) said
    pub unanswered : ((said : Reply) → q.carried.ending ≢ ending.Gained said)
        → (said : Reply) → ¬ (HasReply Shows c (last_of c.dispatch.attempts) said)

  -- these are the dispatches of the questions, numbered from there
  abbrev pub ShowQuestions : (number : ℕ) → List Question → List Dispatched → Type 0
  ShowQuestions number [] [] = Unit {0}
  ShowQuestions number (q ∷ questions) (c ∷ dispatched) =
      ShowsQuestion number q c × ShowQuestions (number + 1) questions dispatched
  ShowQuestions number questions dispatched = ⊥

  -- the planning goes on so behind these pages of its first need, at that token; memory may have run out in it
  abbrev pub PlansFrom : (memory : Bool) → (refused_page : Option ℕ) → List Dispatched → List Need → List Listed
      → (token : Option (List ℕ)) → Type 0
  PlansFrom memory refused_page = planning.AreAsked Shows IsRefusedPage (memory ≡ true) refused_page

  -- What was asked for a need, numbered up to below `next`: where it was met, what is asked for others may follow; else
  -- the planning ends with it, and no other need is asked for. No lane brings a stranger.
  abbrev pub IsAskedFor : {X : Type 0} → Need → List Listed → (token : Option (List ℕ)) → Result X Halt → (next : ℕ)
      → List Dispatched → Type 0
  IsAskedFor need pages token (Ok found) next dispatched =
      (memory : Bool) (refused_page : Option ℕ) (needs : List Need) (later : List Dispatched)
      → PlansFrom memory refused_page later needs [] None
      → PlansFrom memory refused_page (dispatched ++ later) (need ∷ needs) pages token
  IsAskedFor need pages token (Err (halt.Answer cause)) next dispatched =
      (needs : List Need) → PlansFrom false None dispatched (need ∷ needs) pages token
  IsAskedFor need pages token (Err (halt.Listing bad)) next dispatched =
      (last : ℕ) × (next ≡ last + 1)
      × ((needs : List Need) → PlansFrom false (Some last) dispatched (need ∷ needs) pages token)
  IsAskedFor need pages token (Err halt.Memory) next dispatched =
      (needs : List Need) → (refused_page : Option ℕ)
      × PlansFrom true refused_page dispatched (need ∷ needs) pages token
  IsAskedFor need pages token (Err halt.Stranger) next dispatched = Unit {0}

  abbrev pub QuestionsArePlanned : Type 0
  QuestionsArePlanned = (number : ℕ) (asked : Ask) (questions : List Question) (result : Result Reply Halt)
      (dispatched : List Dispatched) → AsksOnce number asked questions result
      → ShowQuestions number questions dispatched
      → IsAskedFor (planning.One asked) [] None result (number + length questions) dispatched

  abbrev pub ListingsArePlanned : Type 0
  ListingsArePlanned = (number : ℕ) (bucket prefix : List ℕ) (delimited : Bool) (questions : List Question)
      (result : Result Walk Halt) (dispatched : List Dispatched)
      → Lists number (new_walk bucket prefix delimited) questions result → ShowQuestions number questions dispatched
      → IsAskedFor (planning.Listing bucket prefix delimited) [] None result (number + length questions) dispatched
