-- All pages of a listing: the questions that ask for them, and what they come to.
use Rattle.std.specs.Prelude.{◌≡◌, ◌⊎◌, ◌+◌, ℕ, Bool, true, false, List, [], ◌∷◌, Some, None, Result, Ok, Err}
use Rattle.jobs.specs.declared.ending.Ending.TheVariants as ending
use Rattle.list_walk.specs.Pages.{Walk, refusal_of, with_page}
use Rattle.run_traces.specs.Exchanges.{MayBeOf}
use Rattle.s3_model.specs.declared.answers.Listed.{Listed}
use Rattle.s3_model.specs.declared.answers.Reply.TheVariants as reply
use Rattle.s3_model.specs.declared.faults.BadListing.{BadListing}
use Rattle.s3_model.specs.declared.requests.Ask.{Ask}
use Rattle.s3_model.specs.declared.requests.Ask.TheVariants as ask
use Rattle.planning_questions.specs.Questions.{Answers, Question, question_job}
use Rattle.planning_questions.specs.declared.halt.Halt.{Halt}
use Rattle.planning_questions.specs.declared.halt.Halt.TheVariants as halt

-- the request for the next page, with the token of the page before
abbrev pub next_request : Walk → Ask
next_request walk = ask.List walk.bucket walk.prefix walk.delimited walk.token

-- what came back may be the job of that number, and has this page
abbrev pub BringsPage : (number : ℕ) → Question → Listed → Type 0
BringsPage number q page =
    MayBeOf (question_job number q.asked) q.carried × (q.carried.ending ≡ ending.Gained (reply.Listed page))

-- the page fits behind those before it
abbrev pub PageFits : Walk → Listed → Type 0
PageFits walk page = refusal_of walk.prefix walk.gathered page ≡ None

-- the listing ends with this page: it is the last, or it is refused, or memory ran out for it
abbrev pub EndsTheListing : Walk → Listed → Result Walk Halt → Type 0
EndsTheListing walk page result =
    (PageFits walk page × (page.more ≡ false) × (result ≡ Ok (with_page walk page)))
    ⊎ ((bad : BadListing) × (refusal_of walk.prefix walk.gathered page ≡ Some bad)
    × (result ≡ Err (halt.Listing bad)))
    ⊎ (result ≡ Err halt.Memory)

-- The questions of a listing that has come so far, numbered from there, and what it comes to. Page after page is asked
-- for until one ends it, or a question has no page; or memory ran out before the next.
abbrev pub Lists : (number : ℕ) → Walk → List Question → Result Walk Halt → Type 0
Lists number walk [] result = result ≡ Err halt.Memory
Lists number walk (q ∷ later) result =
    (q.asked ≡ next_request walk)
    × (((page : Listed) × BringsPage number q page
    × ((PageFits walk page × (page.more ≡ true) × Lists (number + 1) (with_page walk page) later result)
    ⊎ (EndsTheListing walk page result × (later ≡ []))))
    ⊎ ((why : Halt) × Answers number q (Err why) × (later ≡ []) × (result ≡ Err why)))

-- ---- one page

-- the page is taken, or refused, or memory ran out for it
abbrev pub TakesPage : Walk → Listed → Walk → Result Bool Halt → Type 0
TakesPage walk page after (Ok more) = PageFits walk page × (after ≡ with_page walk page) × (more ≡ page.more)
TakesPage walk page after (Err (halt.Listing bad)) = refusal_of walk.prefix walk.gathered page ≡ Some bad
TakesPage walk page after (Err halt.Memory) = Unit {0}
TakesPage walk page after (Err why) = ⊥

-- some page was taken
abbrev pub TookPage : Walk → Walk → Bool → Type 0
TookPage walk after more =
    (page : Listed) × PageFits walk page × (after ≡ with_page walk page) × (more ≡ page.more)

-- the next page was asked for and taken; or the question has none; or memory ran out before it
abbrev pub IsNextPage : (number : ℕ) → Walk → List Question → Walk → Result Bool Halt → Type 0
IsNextPage number walk [] after result = result ≡ Err halt.Memory
IsNextPage number walk (q ∷ later) after result =
    (q.asked ≡ next_request walk) × (later ≡ [])
    × (((page : Listed) × BringsPage number q page × TakesPage walk page after result)
    ⊎ ((why : Halt) × Answers number q (Err why) × (result ≡ Err why)))
