-- A planning that lists a bucket in two pages, of which the second is out of order.
use Rattle.std.specs.Prelude.{◌≡◌, ◌+◌, ℕ, true, false, List, [], ◌∷◌, Option, Some, None, map, flat_map}
use Rattle.std.specs.Ordering.{nat_cmp}
use Rattle.std.specs.Cmp.Lexicographic.{slice_cmp}
use Rattle.std.specs.declared.cmp.Ordering.TheVariants.{Less}
use Rattle.s3_model.specs.declared.answers.Listed.{Listed}
use Rattle.s3_model.specs.declared.places.Entry.{Entry}
use Rattle.s3_model.specs.declared.tries.Mark.TheVariants as mark
use Rattle.s3_model.specs.Talks.{Talk}
use Rattle.job_terms.specs.Dispatches.{Dispatched}
use Rattle.run_promise.specs.Planning.{Listing, PlansFor}
use Rattle.run_promise.specs.Schedule.{most_body}
use Rattle.promise_examples.specs.Pages.{bucket, entry_of, first_key, last_key, list_after, list_job, talk_of, token}
use Rattle.promise_examples.specs.Reading.{Reads}

-- the page that a text says: where it is a token the first, with one key, and else the last, with another
abbrev pub paged : (first last : List ℕ) → List ℕ → Listed
paged first last [] = record {
  entries = record { items = entry_of last ∷ []; spare = 0 };
  prefixes = record { items = []; spare = 0 };
  more = false;
  token = None;
}
paged first last (byte ∷ bytes) = record {
  entries = record { items = entry_of first ∷ []; spare = 0 };
  prefixes = record { items = []; spare = 0 };
  more = true;
  token = Some (byte ∷ bytes);
}

-- ---- pages out of order

abbrev pub AreAscending : List (List ℕ) → Type 0
AreAscending [] = Unit {0}
AreAscending (key ∷ []) = Unit {0}
AreAscending (key ∷ next ∷ later) = (slice_cmp nat_cmp key next ≡ Less) × AreAscending (next ∷ later)

abbrev pub keys_of : List Listed → List (List ℕ)
keys_of pages = flat_map (λ (page : Listed). map (λ (entry : Entry). entry.key) page.entries.items) pages

-- a page is refused where its keys do not ascend from those before it
abbrev pub IsOutOfOrder : (prefix : List ℕ) → List Listed → Type 0
IsOutOfOrder prefix pages = ¬ (AreAscending (keys_of pages))

-- ---- the planning jobs

abbrev pub page_job : (number given : ℕ) → Option (List ℕ) → Talk → Dispatched
page_job number given after talk = record {
  dispatch = record {
    job = list_job number;
    lane = 0;
    given_at = given;
    came_at = Some (given + 1);
    earlier = 0;
    is_second = false;
    attempts = record { mark = mark.Success; talk = talk } ∷ [];
  };
  ask = list_after after;
  body = [];
  limit = most_body;
  size = 0;
}

abbrev pub first_job : Dispatched
first_job = page_job 0 0 None (talk_of 5 token)

abbrev pub last_job : Dispatched
last_job = page_job 1 2 (Some token) (talk_of 6 [])

-- both pages, and what is asked behind them
abbrev pub both_and : List Dispatched → List Dispatched
both_and later = first_job ∷ last_job ∷ later

-- these jobs are what the listing of the bucket needs, where the page of that job was refused
abbrev pub AreNeeded : (first last : List ℕ) → (refused_page : Option ℕ) → List Dispatched → Type 0
AreNeeded first last refused_page =
    PlansFor (Reads (paged first last)) IsOutOfOrder ⊥ refused_page (Listing bucket [] false ∷ [])

-- the same of a command that ends by a local fault before it needs anything, as `sync` of a folder that is not there
abbrev pub AreNeededForNothing : (refused_page : Option ℕ) → List Dispatched → Type 0
AreNeededForNothing refused_page = PlansFor (Reads (paged first_key last_key)) IsOutOfOrder ⊥ refused_page []

pub record PagesAreRefused : Type 0 where
  -- the last page is out of order, and refused
  pub out_of_order : AreNeeded last_key first_key (Some 1) (both_and [])
  -- it is not said to be refused, or another one is
  pub none_refused : ¬ (AreNeeded last_key first_key None (both_and []))
  pub first_refused : ¬ (AreNeeded last_key first_key (Some 0) (both_and []))
  -- something is asked behind it
  pub asked_behind : (refused_page : Option ℕ) (c : Dispatched) (later : List Dispatched)
      → ¬ (AreNeeded last_key first_key refused_page (both_and (c ∷ later)))
  -- both pages are in order, and none is refused; it is not so where one is said to be
  pub in_order : AreNeeded first_key last_key None (both_and [])
  pub refused_in_order : (number : ℕ) → ¬ (AreNeeded first_key last_key (Some number) (both_and []))
  -- nothing is asked behind a local fault, and no page refused
  pub no_need : AreNeededForNothing None []
  pub needless : (refused_page : Option ℕ) (c : Dispatched) (later : List Dispatched)
      → ¬ (AreNeededForNothing refused_page (c ∷ later))
  pub needless_page : (number : ℕ) → ¬ (AreNeededForNothing (Some number) [])
