-- A run of `ls` over lanes: what it asked, what it shows, and what its wires are then.
use Rattle.std.specs.Prelude.{◌≡◌, ◌≢◌, ◌++◌, ℕ, Bool, List, Option, Result, Err, IfOk, drop, map, take}
use Rattle.lane_jobs.specs.Lanes.{SeenCarrier, SeenLane}
use Rattle.lane_workers.specs.LaneWorkers.{AreLater, lane_over, wires_of}
use Rattle.planning_questions.specs.Questions.{Question, trace_of}
use Rattle.planning_questions.specs.declared.halt.Halt.{Halt}
use Rattle.planning_questions.specs.declared.halt.Halt.TheVariants as halt
use Rattle.run_traces.specs.Traces.{journal_of}
use Rattle.s3_model.specs.declared.outcomes.Event.{Event}
use Rattle.s3_model.specs.declared.places.Place.{Place}
use Rattle.s3_model.specs.Talks.{WireLog}
use Rattle.trace_laws.specs.Joined.{IsJoined}
use Rattle.service_listings.specs.Listings.{IsDatedListing, IsShownBy, ListsAt, key_of}
use Rattle.service_listings.specs.declared.listing.Listing.{Listing}
use Rattle.service_listings.specs.declared.listing.Shown.{Shown}

-- a path of `ls`, or none, and what carries its requests: so many lanes of that carrier
pub record Lookup : Type 0 where
  pub at : Option Place
  pub recursive : Bool
  pub carrier : SeenCarrier
  pub lanes : ℕ

-- the lanes over the first of these wires
abbrev pub lanes_of : {W : Type 0} → Lookup → List W → List (SeenLane W)
lanes_of lookup wires = map (lane_over lookup.carrier) (take lookup.lanes wires)

-- `seen wire`: all that is seen of the wire, if it is; `faults wire`: how often a call of it failed
module _ {W : Type 0} (seen : W → Option WireLog) (faults : W → ℕ) where
  -- Questions were asked for the listing, with that result, and the journal has them and nothing else. The lanes over
  -- the first wires are joined: each completion is that of its own job. Their wires stand in their places again, of
  -- each of which no fewer calls failed.
  pub record HasListed (lookup : Lookup) (before after : List W) (events : List Event)
      (result : Result Listing Halt) : Type 0 where
    pub questions : List Question
    pub lists : ListsAt 0 lookup.at lookup.recursive questions result
    pub journal : events ≡ journal_of (trace_of 0 questions)
    pub afters : List (SeenLane W)
    pub joined : IsJoined seen lookup.carrier (trace_of 0 questions) (lanes_of lookup before) afters
    pub later : AreLater faults (lanes_of lookup before) afters
    pub wires : after ≡ wires_of afters ++ drop lookup.lanes before

  -- so it was listed, and this is shown of it
  pub record HasShown (lookup : Lookup) (before after : List W) (events : List Event) (result : Result Shown Halt)
      : Type 0 where
    pub listed : Result Listing Halt
    pub lists : HasListed lookup before after events listed
    pub shows : IsShownBy (key_of lookup.at) lookup.recursive listed result

-- Where the lanes of the questions are joined, what they list is dated.
abbrev pub ListingsAreDated : {W : Type 0} → (W → Option WireLog) → Type 0
ListingsAreDated {W} seen = (carrier : SeenCarrier) (number : ℕ) (at : Option Place) (recursive : Bool)
    (questions : List Question) (result : Result Listing Halt) (befores afters : List (SeenLane W))
    → ListsAt number at recursive questions result → IsJoined seen carrier (trace_of number questions) befores afters
    → IfOk result IsDatedListing

-- And no lane brings a stranger.
abbrev pub NoneIsStrange : {W : Type 0} → (W → Option WireLog) → Type 0
NoneIsStrange {W} seen = (carrier : SeenCarrier) (number : ℕ) (at : Option Place) (recursive : Bool)
    (questions : List Question) (result : Result Listing Halt) (befores afters : List (SeenLane W))
    → ListsAt number at recursive questions result → IsJoined seen carrier (trace_of number questions) befores afters
    → result ≢ Err halt.Stranger
