-- A planning that lists a bucket in two pages, with one thing changed, which no jobs can explain.
use Rattle.std.specs.Prelude.{ℕ, List, [], ◌∷◌}
use Rattle.s3_model.specs.declared.answers.Listed.{Listed}
use Rattle.s3_model.specs.declared.outcomes.Event.{Event}
use Rattle.s3_model.specs.declared.outcomes.Event.TheVariants as entry
use Rattle.s3_model.specs.declared.settings.Limits.{Limits}
use Rattle.s3_model.specs.declared.tries.Mark.TheVariants as mark
use Rattle.s3_model.specs.Talks.{Talk, Note, Finished, Moment, Began}
use Rattle.run_promise.specs.Schedule.{Setting}
use Rattle.job_terms.specs.Attempts.{in_first}
use Rattle.promise_examples.specs.Everything.{in_two}
use Rattle.promise_examples.specs.Pages.{list_job, listing_run, talk_of, token}
use Rattle.promise_examples.specs.Refused.{IsRefusedWith}
use Rattle.promise_examples.specs.Runs.{Example}

abbrev pub run : Setting → List Event → (ℕ → List Talk) → (ℕ → List Note) → Example
run setting journal logs notes = record {
  setting = setting;
  outcomes = [];
  journal = journal;
  logs = logs;
  notes = notes;
}

abbrev pub both_talks : List Talk
both_talks = talk_of 5 token ∷ talk_of 6 [] ∷ []

abbrev pub both_notes : List Note
both_notes = Moment 5 ∷ Began ∷ Moment 6 ∷ Began ∷ []

-- it asks for the last page with a byte behind the head
abbrev pub talk_with_body : Talk
talk_with_body = record { host = []; port = 80; sent = 6 ∷ 1 ∷ []; got = []; ending = Finished }

module _ (limits : Limits) where
  abbrev pub setting : Setting
  setting = (listing_run limits).setting

  -- nothing is changed
  abbrev pub both_pages : Example
  both_pages = run setting (listing_run limits).journal (in_first both_talks) (in_first both_notes)

  -- the last page is asked for while the first one is out
  abbrev pub early_page : Example
  early_page = run setting
      (entry.Given (list_job 0) 0 ∷ entry.Given (list_job 1) 0 ∷ entry.Came (list_job 0) 0 (mark.Success ∷ [])
      ∷ entry.Came (list_job 1) 0 (mark.Success ∷ []) ∷ [])
      (in_first both_talks) (in_first both_notes)

  -- a number is left out
  abbrev pub skipped_number : Example
  skipped_number = run setting
      (entry.Given (list_job 0) 0 ∷ entry.Came (list_job 0) 0 (mark.Success ∷ []) ∷ entry.Given (list_job 2) 0
      ∷ entry.Came (list_job 2) 0 (mark.Success ∷ []) ∷ [])
      (in_first both_talks) (in_first both_notes)

  -- there are two lanes, and the last page is asked for on the second one
  abbrev pub second_lane : Example
  second_lane = run (record setting { lanes = 2 })
      (entry.Given (list_job 0) 0 ∷ entry.Came (list_job 0) 0 (mark.Success ∷ []) ∷ entry.Given (list_job 1) 1
      ∷ entry.Came (list_job 1) 1 (mark.Success ∷ []) ∷ [])
      (in_two (talk_of 5 token ∷ []) (talk_of 6 [] ∷ [])) (in_two (Moment 5 ∷ Began ∷ []) (Moment 6 ∷ Began ∷ []))

  -- a request has a body
  abbrev pub page_with_body : Example
  page_with_body = run setting (listing_run limits).journal (in_first (talk_of 5 token ∷ talk_with_body ∷ []))
      (in_first both_notes)

  module _ (page_of : List ℕ → Listed) where
    -- it is refused even where any planning is right
    abbrev pub IsNoPlanning : Example → Type 0
    IsNoPlanning = IsRefusedWith page_of (λ planning. Unit {0})

    pub record PlanningsAreRefused : Type 0 where
      pub early_page : IsNoPlanning early_page
      pub skipped_number : IsNoPlanning skipped_number
      pub second_lane : IsNoPlanning second_lane
      pub page_with_body : IsNoPlanning page_with_body

abbrev pub EachPlanningIsRefused : Type 0
EachPlanningIsRefused = (limits : Limits) (page_of : List ℕ → Listed) → PlanningsAreRefused limits page_of
