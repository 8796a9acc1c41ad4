-- A page that was refused by its content: which traces fit the run that asked for it.
use Rattle.std.specs.Prelude.{◌≢◌, ℕ, false, List, [], Option, Some}
use Rattle.std.specs.FinMap.{empty}
use Rattle.s3_model.specs.declared.answers.Listed.{Listed}
use Rattle.s3_model.specs.declared.settings.Limits.{Limits}
use Rattle.run_promise.specs.Runs.{Run}
use Rattle.run_promise.specs.Truthful.{FitsShown, Shown}
use Rattle.world_laws.specs.Promises.{run_of}
use Rattle.promise_examples.specs.Pages.{first_key, full, listing_run, listing_trace}
use Rattle.promise_examples.specs.Reading.{Reads}
use Rattle.refused_outcomes.specs.RefusedPages.{AreNeeded, both_and, paged}

-- both pages say the same key, so the last one is out of order
abbrev pub same_twice : List ℕ → Listed
same_twice = paged first_key first_key

-- the run of two pages of `promise_examples`, where the page of that job was refused
abbrev pub refuses : Limits → (refused_page : Option ℕ) → Shown
refuses limits refused_page = record {
  setting = (listing_run limits).setting;
  status = 1;
  outcomes = [];
  journal = (listing_run limits).journal;
  logs = (listing_run limits).logs;
  notes = (listing_run limits).notes;
  held_after = empty;
  excused = record { left = []; untimed = []; wanted_memory = false };
  file_calls = [];
  refused_page = refused_page;
}

-- the service lists both keys in order, each on a page of its own
abbrev pub honest_run : Limits → (refused_page : Option ℕ) → Run
honest_run limits refused_page = run_of (refuses limits refused_page) (both_and []) full listing_trace

abbrev pub FitsIt : Limits → (refused_page : Option ℕ) → Type 0
FitsIt limits refused_page = FitsShown (Reads same_twice) (refuses limits refused_page) (honest_run limits refused_page)

pub record PagesFit (limits : Limits) : Type 0 where
  -- the page is out of order, and refused
  pub needed : AreNeeded first_key first_key (Some 1) (both_and [])
  -- the trace of a service that lists otherwise fits that run
  pub fits : FitsIt limits (Some 1)

-- where no page, or another one, is said to be refused, the answer is to be the page that the run read, and it is not
abbrev pub IsUnfit : Limits → Type 0
IsUnfit limits = (refused_page : Option ℕ) → refused_page ≢ Some 1 → ¬ (FitsIt limits refused_page)

abbrev pub RefusedPageFits : Type 0
RefusedPageFits = (limits : Limits) → PagesFit limits

abbrev pub OtherPagesAreUnfit : Type 0
OtherPagesAreUnfit = (limits : Limits) → IsUnfit limits
