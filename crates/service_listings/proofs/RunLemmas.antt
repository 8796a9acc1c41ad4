-- A listing over lanes that were opened and closed.
use Rattle.std.proofs.Common.{◌≡◌, ◌∙◌, ◌++◌, ℕ, Bool, List, [], ◌∷◌, Option, Some, None, inl, inr, refl, sym, subst, append-nil, drop, length, replicate, take}
use Rattle.std.specs.Prelude.{Result, Ok, Err, not}
use Rattle.bounded_executor.specs.Desk.{DeskState, SameDesk}
use Rattle.bounded_executor.specs.Exchange.{unused}
use Rattle.bounded_executor.specs.Runs.{EachRuns}
use Rattle.jobs.specs.Endings.{SeenCarried}
use Rattle.jobs.specs.Jobs.{SeenJob}
use Rattle.lane_jobs.specs.Lanes.{SeenLane}
use Rattle.lane_workers.specs.LaneWorkers.{LaneCarries, wires_of}
use Rattle.lane_workers.proofs.Carrying.{lanes_come_back}
use Rattle.list_walk.specs.Pages.{new_walk}
use Rattle.planning_desks.proofs.JoinLemmas.{begins, desks_are_joined}
use Rattle.planning_desks.proofs.OpenLemmas.{wires_again}
use Rattle.planning_desks.specs.PlanningDesks.{ComesBack, fresh}
use Rattle.planning_questions.proofs.TraceLemmas.{listings_are_traced, questions_are_traced}
use Rattle.planning_questions.specs.Questions.{GoesOnBy, HasQuestions, Progress, progress_of, trace_of, Question}
use Rattle.planning_questions.specs.Traced.{GoesOnFrom}
use Rattle.planning_questions.specs.declared.halt.Halt.{Halt}
use Rattle.planning_questions.specs.declared.halt.Halt.TheVariants as halt
use Rattle.run_traces.specs.Traces.{IsRunTrace, RunTrace}
use Rattle.s3_model.specs.Places.{IsListed}
use Rattle.s3_model.specs.Talks.{WireLog}
use Rattle.s3_model.specs.declared.answers.Reply.TheVariants as reply
use Rattle.s3_model.specs.declared.outcomes.Event.{Event}
use Rattle.s3_model.specs.declared.places.Place.{Place}
use Rattle.s3_model.specs.declared.places.Place.TheVariants as place
use Rattle.s3_model.specs.declared.requests.Ask.TheVariants as ask
use Rattle.service_listings.specs.Listings.{ListsAt}
use Rattle.service_listings.specs.Showings.{Lookup, HasListed, lanes_of}
use Rattle.service_listings.specs.declared.listing.Listing.{Listing}
use Rattle.service_listings.specs.declared.listing.Listing.TheVariants as listing

-- ---- the trace

left_of : {X : Type 0} (next : ℕ) (steps : RunTrace) (result : Result X Halt) → GoesOnFrom next (steps ++ []) result → IsRunTrace steps
left_of next steps result (inl between) = subst IsRunTrace (append-nil steps) between.trace_is
left_of next steps result (inr ends) = subst IsRunTrace (append-nil steps) ends.0.trace_is

is_trace : (at : Option Place) (recursive : Bool) (questions : List Question) (result : Result Listing Halt) → ListsAt 0 at recursive questions result → IsRunTrace (trace_of 0 questions)
is_trace None recursive questions (Ok (listing.Buckets buckets)) h =
    left_of _ _ (Ok (reply.BucketList buckets)) (questions_are_traced 0 ask.Buckets questions (Ok (reply.BucketList buckets)) [] h begins)
is_trace None recursive questions (Err why) h = left_of _ _ (Err why) (questions_are_traced 0 ask.Buckets questions (Err why) [] h begins)
is_trace (Some (place.Object bucket key)) recursive questions (Ok (listing.Pages walk)) h =
    left_of _ _ (Ok walk) (listings_are_traced 0 (new_walk bucket key (not recursive)) questions (Ok walk) [] h begins)
is_trace (Some (place.Object bucket key)) recursive questions (Err why) h =
    left_of _ _ (Err why) (listings_are_traced 0 (new_walk bucket key (not recursive)) questions (Err why) [] h begins)
is_trace at recursive questions result h = absurd h

-- ---- the lanes

-- lanes that carried nothing
none_ran : {V J D : Type 0} (carries : V → J → D → V → Type 0) (befores : List V) → EachRuns carries befores (replicate (length befores) unused) befores
none_ran carries [] = tt
none_ran carries (before ∷ befores) = (refl, none_ran carries befores)

-- nothing was asked, since memory ran out
none_asked : (at : Option Place) (recursive : Bool) → IsListed at → ListsAt 0 at recursive [] (Err halt.Memory)
none_asked None recursive listed = refl
none_asked (Some (place.Object bucket key)) recursive listed = refl
none_asked (Some (place.File path)) recursive listed = absurd listed

module _ {W : Type 0} (seen : W → Option WireLog) (faults : W → ℕ) (lookup : Lookup) (wires : List W) where
  listed_by : (count : ℕ) (questions : List Question) (came : Progress) (after : List W) (afters : List (SeenLane W)) (result : Result Listing Halt)
      → ListsAt 0 lookup.at lookup.recursive questions result → GoesOnBy (trace_of 0 questions) (fresh count) came
      → EachRuns (LaneCarries seen faults) (lanes_of lookup wires) came.lanes afters → after ≡ wires_of afters ++ drop lookup.lanes wires
      → HasListed seen faults lookup wires after came.journal result
  listed_by count questions came after afters result lists made ran back = record {
    questions = questions;
    lists = lists;
    journal = made.journaled;
    afters = afters;
    joined = desks_are_joined seen faults lookup.carrier count (trace_of 0 questions) came (take lookup.lanes wires) afters (is_trace lookup.at lookup.recursive questions result lists) made ran;
    later = (lanes_come_back seen faults (lanes_of lookup wires) afters came.lanes ran).0;
    wires = back;
  }

  pub listed_over : (before desk : DeskState (SeenLane W) SeenJob SeenCarried) (began events journal : List Event) (first next : ℕ) (others after : List W) (result : Result Listing Halt)
      → before.workers ≡ lanes_of lookup wires → progress_of before began ≡ fresh lookup.lanes → first ≡ 0 → others ≡ drop lookup.lanes wires → journal ≡ events → SameDesk before desk
      → HasQuestions first next (progress_of before began) (progress_of desk events) (λ (questions : List Question). ListsAt first lookup.at lookup.recursive questions result)
      → ComesBack seen faults desk others after → HasListed seen faults lookup wires after journal result
  listed_over before desk began events journal first next others after result workers begun zeroth behind noted same asked back =
      let h = subst (λ (n : ℕ). HasQuestions n next (progress_of before began) (progress_of desk events) (λ (questions : List Question). ListsAt n lookup.at lookup.recursive questions result)) zeroth asked in
      let made = subst (λ (p : Progress). GoesOnBy (trace_of 0 h.questions) p (progress_of desk events)) begun h.made in
      let ran = subst (λ (ws : List (SeenLane W)). EachRuns (LaneCarries seen faults) ws desk.lanes back.afters) (same.workers ∙ workers) back.carried in
      let wires_are = subst (λ (ws : List W). after ≡ wires_of back.afters ++ ws) behind back.wires in
      subst (λ (es : List Event). HasListed seen faults lookup wires after es result) (sym noted)
      (listed_by lookup.lanes h.questions (progress_of desk events) after back.afters result h.comes_to made ran wires_are)

  pub not_opened : (after : List W) (journal : List Event) → IsListed lookup.at → after ≡ wires → journal ≡ [] → HasListed seen faults lookup wires after journal (Err halt.Memory)
  not_opened after journal listed same noted =
      subst (λ (es : List Event). HasListed seen faults lookup wires after es (Err halt.Memory)) (sym noted)
      (listed_by (length (lanes_of lookup wires)) [] (fresh (length (lanes_of lookup wires))) after (lanes_of lookup wires) (Err halt.Memory) (none_asked lookup.at lookup.recursive listed)
      (record { exchanged = λ trace are. are; journaled = refl }) (none_ran (LaneCarries seen faults) (lanes_of lookup wires)) (same ∙ sym (wires_again lookup.carrier lookup.lanes wires)))
