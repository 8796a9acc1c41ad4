-- The journal of a run whose jobs lanes carried.
use Rattle.std.proofs.Common.{◌≡◌, ◌∙◌, ◌++◌, ◌∷◌, ℕ, List, Some, Contains, sym, ap, subst, length}
use Rattle.answer_classes.specs.Showing.{HasStatus, Shows}
use Rattle.jobs.specs.Endings.{SeenCarried}
use Rattle.jobs.specs.declared.ending.Ending.{Ending}
use Rattle.jobs.specs.declared.ending.Ending.TheVariants as ending
use Rattle.lane_laws.specs.Runs.{Giving, IsCarriedJob, dispatched_of, given_to}
use Rattle.lane_laws.proofs.RunLaw.{jobs_are_carried}
use Rattle.manager_moves.specs.Runs.{Back, Events}
use Rattle.job_terms.specs.Dispatches.{Attempt, Dispatched, last_of}
use Rattle.s3_model.specs.Talks.{Note, Talk}
use Rattle.s3_model.specs.declared.outcomes.Cause.{Cause}
use Rattle.s3_model.specs.declared.places.Endpoint.{Endpoint}
use Rattle.s3_model.specs.declared.settings.Keys.{Keys}
use Rattle.shared_lemmas.proofs.Members.{contains_of, has, mapped}
use Rattle.task_schedule.specs.Journals.{EndsAs, place_after}
use Rattle.lane_journals.specs.Journals.{AreHandedBack, AreOfLanes, LanesAreJournaled, LanesEndAsShown, LanesTellStatuses}
use Rattle.lane_journals.proofs.Endings.{ends_as, has_status, in_its_lane, one_of}

module _ (endpoint : Endpoint) (keys : Keys) (attempts planned : ℕ) (events : Events) (logs : ℕ → List Talk)
    (notes : ℕ → List Note) (givings : List Giving) (lanes : AreOfLanes endpoint keys attempts givings logs notes)
    (handed : AreHandedBack planned events givings) where
  -- the giving of what came back, as its lane carried it
  record IsGivingOf (carried : SeenCarried) (c : Dispatched) : Type 0 where
    pub g : Giving
    pub is : g.of ≡ c
    pub talks : List Talk
    pub noted : List Note
    pub job : IsCarriedJob endpoint keys attempts g talks noted
    pub ended : carried.ending ≡ g.ended

  giving_of : (later before : Events) (lane : ℕ) (carried : SeenCarried) (c : Dispatched)
      → events ≡ later ++ Back lane carried ∷ before → Contains (dispatched_of givings) c
      → c.dispatch.came_at ≡ Some (place_after planned before) → IsGivingOf carried c
  giving_of later before lane carried c is known came =
      let (g, has_g, same) = mapped (λ (x : Giving). x.of) givings c (has (dispatched_of givings) c known) in
      let to = g.of.dispatch.lane in
      let (talks, noted, job) = one_of endpoint keys attempts (given_to to givings) (logs to) (notes to) (lanes to) g
      (in_its_lane endpoint keys attempts givings g has_g) in
      record {
        g = g;
        is = same;
        talks = talks;
        noted = noted;
        job = job;
        ended = handed later before lane carried g is (contains_of givings g has_g)
            (ap (λ (x : Dispatched). x.dispatch.came_at) same ∙ came);
      }

  pub end_as_shown : (later before : Events) (lane : ℕ) (carried : SeenCarried) (c : Dispatched)
      → events ≡ later ++ Back lane carried ∷ before → Contains (dispatched_of givings) c
      → c.dispatch.came_at ≡ Some (place_after planned before) → EndsAs Shows c carried.ending
  end_as_shown later before lane carried c is known came =
      let of = giving_of later before lane carried c is known came in
      subst (λ (e : Ending). EndsAs Shows c e) (sym of.ended)
      (subst (λ (x : Dispatched). EndsAs Shows x of.g.ended) of.is
      (ends_as endpoint keys attempts of.g of.talks of.noted of.job))

  pub tell_statuses : (later before : Events) (lane : ℕ) (carried : SeenCarried) (c : Dispatched) (status : ℕ)
      (code message : List ℕ) → events ≡ later ++ Back lane carried ∷ before → Contains (dispatched_of givings) c
      → c.dispatch.came_at ≡ Some (place_after planned before) → carried.ending ≡ ending.Refused status code message
      → (attempt : Attempt) × (last_of c.dispatch.attempts ≡ Some attempt)
      × HasStatus c.ask c.limit attempt.talk status
  tell_statuses later before lane carried c status code message is known came refused =
      let of = giving_of later before lane carried c is known came in
      subst (λ (x : Dispatched). (attempt : Attempt) × (last_of x.dispatch.attempts ≡ Some attempt)
      × HasStatus x.ask x.limit attempt.talk status) of.is
      (has_status endpoint keys attempts of.g of.talks of.noted of.job status code message (sym of.ended ∙ refused))

pub lanes_end_as_shown : LanesEndAsShown
lanes_end_as_shown endpoint keys attempts planned events logs notes givings lanes handed =
    end_as_shown endpoint keys attempts planned events logs notes givings lanes handed

pub lanes_tell_statuses : (CallFailed : ℕ → Cause → Type 0) → LanesTellStatuses CallFailed
lanes_tell_statuses CallFailed endpoint keys attempts planned events logs notes givings lanes handed =
    tell_statuses endpoint keys attempts planned events logs notes givings lanes handed

pub lanes_are_journaled : LanesAreJournaled
lanes_are_journaled endpoint keys setting planning events logs notes givings coming of =
    record {
      of_planning = of.of_planning;
      carried = jobs_are_carried endpoint keys setting _ logs notes givings coming of.journal of.lanes of.causes;
      shown = end_as_shown endpoint keys setting.config.attempts (length planning) events logs notes givings of.lanes of.handed;
    }
