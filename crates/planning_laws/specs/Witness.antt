-- A listing of two pages over two lanes that meets what the laws take: the first attempt of the first page is lost. And
-- questions that go on behind a refused page, which do not.
use Rattle.std.specs.Prelude.{◌≡◌, ◌++◌, ℕ, Bool, true, false, List, [], ◌∷◌, Option, Some, None}
use Rattle.attempts.specs.Attempts.{IsOneTalk}
use Rattle.jobs.specs.declared.ending.Ending.TheVariants as ending
use Rattle.lane_jobs.specs.Lanes.{SeenLane, request_for}
use Rattle.lane_journals.specs.Ranges.{failed_talk}
use Rattle.list_walk.specs.Pages.{IsRefusedPage}
use Rattle.run_promise.specs.Planning.{Listing, Need}
use Rattle.s3_model.specs.Talks.{Note, Talk, WireLog}
use Rattle.s3_model.specs.declared.answers.Class.TheVariants as class
use Rattle.s3_model.specs.declared.answers.Listed.{Listed}
use Rattle.s3_model.specs.declared.answers.Reply.TheVariants as reply
use Rattle.s3_model.specs.declared.places.Endpoint.{Endpoint}
use Rattle.s3_model.specs.declared.requests.Ask.{Ask}
use Rattle.s3_model.specs.declared.requests.Ask.TheVariants as ask
use Rattle.s3_model.specs.declared.settings.Keys.{Keys}
use Rattle.s3_model.specs.declared.tries.Mark.{Mark}
use Rattle.s3_model.specs.declared.tries.Mark.TheVariants as mark
use Rattle.trace_laws.specs.Joined.{HaveGained, IsJoined}
use Rattle.trace_laws.specs.Witness.{befores, by_lane, carrier, lane_with, tried_again, tried_once}
use Rattle.planning_laws.specs.Asking.{AskFor, Gains}
use Rattle.planning_questions.specs.Questions.{Question, question_job, trace_of}

-- ---- pages

-- a page without entries
abbrev pub page_with : (more : Bool) → (token : Option (List ℕ)) → Listed
page_with more token = record {
  entries = record { items = []; spare = 0 };
  prefixes = record { items = []; spare = 0 };
  more = more;
  token = token;
}

abbrev pub first_page : Listed
first_page = page_with true (Some (7 ∷ []))

abbrev pub last_page : Listed
last_page = page_with false None

-- it is refused: more follows, and no token says where
abbrev pub bad_page : Listed
bad_page = page_with true None

-- ---- the listing

abbrev pub needs : List Need
needs = Listing [] [] false ∷ []

abbrev pub page_ask : (token : Option (List ℕ)) → Ask
page_ask token = ask.List [] [] false token

-- the question of that number gained that page, after these attempts
abbrev pub gains_page : (number : ℕ) → Ask → Listed → List Mark → Question
gains_page number asked page tries = record {
  asked = asked;
  carried = record { job = question_job number asked; tries = tries; ending = ending.Gained (reply.Listed page) };
}

abbrev pub listing : List Question
listing = gains_page 0 (page_ask None) first_page (mark.Uncertain ∷ mark.Success ∷ [])
    ∷ gains_page 1 (page_ask (Some (7 ∷ []))) last_page (mark.Success ∷ []) ∷ []

module _ (endpoint : Endpoint) (keys : Keys) where
  -- the talk says the request at the beginning of 1970, and its answer is that page
  abbrev pub BringsPage : Ask → Listed → Talk → Type 0
  BringsPage asked page talk = IsOneTalk (request_for (carrier endpoint keys) asked None 0)
      (class.Success (reply.Listed page)) [] (talk ∷ []) tried_once

  -- ---- its wires, of which the second is not used

  module _ (first last : Talk) where
    abbrev pub logs : ℕ → List Talk
    logs = by_lane (failed_talk endpoint ∷ first ∷ last ∷ []) []

    abbrev pub notes : ℕ → List Note
    notes = by_lane (tried_once ++ tried_again ++ tried_once) []

    abbrev pub afters : List (SeenLane (Option WireLog))
    afters = lane_with endpoint keys (logs 0) (notes 0) ∷ lane_with endpoint keys [] [] ∷ []

-- whatever the service and the keys, and for all talks that bring these pages
abbrev pub ListingIsMet : Type 0
ListingIsMet = (endpoint : Endpoint) (keys : Keys) (first last : Talk)
    → BringsPage endpoint keys (page_ask None) first_page first
    → BringsPage endpoint keys (page_ask (Some (7 ∷ []))) last_page last
    → let seen = λ (wire : Option WireLog). wire in
    IsJoined seen (carrier endpoint keys) (trace_of 0 listing) (befores endpoint keys) (afters endpoint keys first last)
    × HaveGained seen (befores endpoint keys) (afters endpoint keys first last) (logs endpoint keys first last)
    (notes endpoint keys first last) × AskFor IsRefusedPage (false ≡ true) None needs listing

-- Whatever is asked behind a refused page, the questions do not ask for the listing.
abbrev pub NoneAsksBehindRefused : Type 0
NoneAsksBehindRefused = (first next : Question) (later : List Question) (wanting : Bool) (refused_page : Option ℕ)
    → Gains first (reply.Listed bad_page)
    → ¬ (AskFor IsRefusedPage (wanting ≡ true) refused_page needs (first ∷ next ∷ later))
