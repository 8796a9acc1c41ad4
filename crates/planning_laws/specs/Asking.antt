-- Questions that ask for what a command needs to know, judged by what came back of them.
use Rattle.std.specs.Prelude.{◌≡◌, ◌≢◌, ◌⊎◌, ◌+◌, ◌++◌, ℕ, true, false, List, [], ◌∷◌, Option, Some, None}
use Rattle.jobs.specs.declared.ending.Ending.TheVariants as ending
use Rattle.run_promise.specs.Planning.{Listing, Need, One}
use Rattle.s3_model.specs.declared.answers.Listed.{Listed}
use Rattle.s3_model.specs.declared.answers.Reply.{Reply}
use Rattle.s3_model.specs.declared.answers.Reply.TheVariants as reply
use Rattle.s3_model.specs.declared.requests.Ask.TheVariants as ask
use Rattle.planning_questions.specs.Questions.{Question}

abbrev pub Gains : Question → Reply → Type 0
Gains q said = q.carried.ending ≡ ending.Gained said

-- it was refused, or nobody can know what it came to, or memory ran out
abbrev pub GainsNone : Question → Type 0
GainsNone q = (said : Reply) → q.carried.ending ≢ ending.Gained said

-- `IsRefusedPage prefix pages`: of these pages of the listing of that prefix the last is refused by its content.
-- `MemoryRanOut`: memory ran out in the planning.
-- `refused_page`: the number of the question whose page was refused so, if one was.
module _ (IsRefusedPage : (prefix : List ℕ) → List Listed → Type 0) (MemoryRanOut : Type 0)
    (refused_page : Option ℕ) where
  -- Questions, numbered from there, ask for the needs, and nothing behind their first fault. A listing goes on at
  -- `token`, behind these pages of it.
  abbrev pub AskOn : (number : ℕ) → List Question → List Need → (pages : List Listed) → (token : Option (List ℕ))
      → Type 0
  AskOn number [] needs pages token = (refused_page ≡ None) × ((needs ≡ []) ⊎ MemoryRanOut)
  AskOn number (q ∷ later) [] pages token = ⊥
  AskOn number (q ∷ later) (One asked ∷ needs) pages token =
      (q.asked ≡ asked) × (((said : Reply) × Gains q said × AskOn (number + 1) later needs [] None)
      ⊎ (GainsNone q × (later ≡ []) × (refused_page ≡ None)))
  AskOn number (q ∷ later) (Listing bucket prefix delimited ∷ needs) pages token =
      (q.asked ≡ ask.List bucket prefix delimited token)
      × (((page : Listed) × Gains q (reply.Listed page)
      × ((IsRefusedPage prefix (pages ++ page ∷ []) × (later ≡ []) × (refused_page ≡ Some number))
      ⊎ (¬ (IsRefusedPage prefix (pages ++ page ∷ [])) × (page.more ≡ true)
      × AskOn (number + 1) later (Listing bucket prefix delimited ∷ needs) (pages ++ page ∷ []) page.token)
      ⊎ (¬ (IsRefusedPage prefix (pages ++ page ∷ [])) × (page.more ≡ false)
      × AskOn (number + 1) later needs [] None)))
      ⊎ (GainsNone q × (later ≡ []) × (refused_page ≡ None)))

  -- the whole planning of a command with these needs
  abbrev pub AskFor : List Need → List Question → Type 0
  AskFor needs questions = AskOn 0 questions needs [] None
