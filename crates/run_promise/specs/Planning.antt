-- What planning has to ask, one request after the other: the entry of a single object, all buckets, listings page by
-- page.
use Rattle.std.specs.Prelude.{◌≡◌, ◌⊎◌, ◌++◌, ℕ, Bool, true, false, List, [], ◌∷◌, Option, Some, None}
use Rattle.s3_model.specs.declared.requests.Ask.{Ask}
use Rattle.s3_model.specs.declared.requests.Ask.TheVariants as ask
use Rattle.s3_model.specs.declared.answers.Reply.{Reply}
use Rattle.s3_model.specs.declared.answers.Reply.TheVariants as reply
use Rattle.s3_model.specs.declared.answers.Class.{Class}
use Rattle.s3_model.specs.declared.answers.Listed.{Listed}
use Rattle.s3_model.specs.Talks.{Talk}
use Rattle.job_terms.specs.Dispatches.{Dispatched, last_of}
use Rattle.run_promise.specs.Schedule.{HasReply}

-- What a command needs to know: the answer to one request, or all pages of a listing. Where planning ends by what no
-- request shows (the words, the settings, the local files), its needs are those before that, and nothing is asked behind
-- it.
pub data Need : Type 0 where
  One : (asked : Ask) → Need
  Listing : (bucket prefix : List ℕ) → (delimited : Bool) → Need

-- `Shows ask limit talk class bytes`: the talk has that class for the ask, and its answer that body.
-- `IsRefusedPage prefix pages`: of these pages of the listing of that prefix the last is refused by its content.
-- `MemoryRanOut`: memory ran out in the planning.
-- `refused_page`: the number of the job whose page was refused so, if one was.
module _ (Shows : Ask → ℕ → Talk → Class → List ℕ → Type 0)
    (IsRefusedPage : (prefix : List ℕ) → List Listed → Type 0) (MemoryRanOut : Type 0)
    (refused_page : Option ℕ) where
  abbrev pub IsAnsweredBy : Dispatched → Reply → Type 0
  IsAnsweredBy c answered = HasReply Shows c (last_of c.dispatch.attempts) answered

  abbrev pub IsUnanswered : Dispatched → Type 0
  IsUnanswered c = (answered : Reply) → ¬ (IsAnsweredBy c answered)

  -- The planning jobs, in order, ask for the needs, and nothing behind their first fault. A listing goes on at `token`,
  -- behind these pages of it.
  abbrev pub AreAsked : List Dispatched → List Need → (pages : List Listed) → (token : Option (List ℕ)) → Type 0
  AreAsked [] needs pages token = (refused_page ≡ None) × ((needs ≡ []) ⊎ MemoryRanOut)
  AreAsked (c ∷ later) [] pages token = ⊥
  AreAsked (c ∷ later) (One asked ∷ needs) pages token =
      (c.ask ≡ asked) × (((answered : Reply) × IsAnsweredBy c answered × AreAsked later needs [] None)
      ⊎ (IsUnanswered c × (later ≡ []) × (refused_page ≡ None)))
  AreAsked (c ∷ later) (Listing bucket prefix delimited ∷ needs) pages token =
      (c.ask ≡ ask.List bucket prefix delimited token)
      × (((page : Listed) × IsAnsweredBy c (reply.Listed page)
      × ((IsRefusedPage prefix (pages ++ page ∷ []) × (later ≡ []) × (refused_page ≡ Some c.dispatch.job.number))
      ⊎ (¬ (IsRefusedPage prefix (pages ++ page ∷ [])) × (page.more ≡ true)
      × AreAsked later (Listing bucket prefix delimited ∷ needs) (pages ++ page ∷ []) page.token)
      ⊎ (¬ (IsRefusedPage prefix (pages ++ page ∷ [])) × (page.more ≡ false) × AreAsked later needs [] None)))
      ⊎ (IsUnanswered c × (later ≡ []) × (refused_page ≡ None)))

  -- the whole planning of a command with these needs
  abbrev pub PlansFor : List Need → List Dispatched → Type 0
  PlansFor needs jobs = AreAsked jobs needs [] None
