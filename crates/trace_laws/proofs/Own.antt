-- Each completion of a trace is that of the oldest pending job of its lane, by what the lanes carried.
use Rattle.std.proofs.Common.{◌≡◌, ◌∙◌, ◌⊎◌, ◌≤◌, ◌++◌, ℕ, zero, suc, List, [], ◌∷◌, Option, Some, None, refl, sym, subst, ap, inl, inr, arith, get_or, length, slice_get}
use Rattle.std.specs.Prelude.{is_some}
use Rattle.bounded_executor.specs.Exchange.{Exchange, unused}
use Rattle.bounded_executor.specs.Runs.{EachRuns, Runs}
use Rattle.jobs.specs.Endings.{SeenCarried}
use Rattle.jobs.specs.Holders.{Holder}
use Rattle.jobs.specs.Jobs.{SeenJob}
use Rattle.lane_jobs.specs.Lanes.{IsCarriedBy, IsSameCarrier, IsSameJob, KeepsCell, KeepsPart, SeenCarrier, SeenLane}
use Rattle.run_traces.proofs.Completions.{HaveOwnNames}
use Rattle.run_traces.proofs.Steps.{given_in, taken_count, taken_in}
use Rattle.run_traces.proofs.Turns.{oldest_there, taken_there}
use Rattle.run_traces.specs.Exchanges.{HasStranger, MayBeOf, room_of}
use Rattle.run_traces.specs.Traces.{RunTrace, Took}
use Rattle.s3_model.specs.Talks.{WireLog}
use Rattle.s3_model.specs.declared.bytes.Part.{Part}
use Rattle.s3_model.specs.declared.places.Endpoint.{Endpoint}
use Rattle.s3_model.specs.declared.requests.Op.{Op}
use Rattle.s3_model.specs.declared.requests.Op.TheVariants as op
use Rattle.s3_model.specs.declared.settings.Keys.{Keys}
use Rattle.shared_lemmas.proofs.Clashes.{none_is_some, some_is}
use Rattle.shared_lemmas.proofs.Members.{contains_of, has_at}
use Rattle.trace_laws.specs.Joined.{CarriesJob, IsJoined, IsOwnOutcome}

-- ---- one lane of many

pub record RunsAt {V J D : Type 0} (R : V → J → D → V → Type 0) (befores : List V) (lanes : List (Exchange J D)) (afters : List V) (lane : ℕ) : Type 0 where
  pub before : V
  pub after : V
  pub at_before : slice_get befores lane ≡ Some before
  pub at_after : slice_get afters lane ≡ Some after
  pub ran : Runs R before (get_or lanes lane unused).given (get_or lanes lane unused).taken after

pub runs_at : {V J D : Type 0} (R : V → J → D → V → Type 0) (befores : List V) (lanes : List (Exchange J D)) (afters : List V) → EachRuns R befores lanes afters → (lane : ℕ)
    → ((get_or lanes lane unused ≡ unused) × (length befores ≤ lane)) ⊎ RunsAt R befores lanes afters lane
runs_at R [] [] [] each lane = inl (refl, omega arith)
runs_at R (b ∷ befores) (l ∷ lanes) (a ∷ afters) each zero = inr (record { before = b; after = a; at_before = refl; at_after = refl; ran = each.0 })
runs_at R (b ∷ befores) (l ∷ lanes) (a ∷ afters) each (suc lane) = elim (runs_at R befores lanes afters each.1 lane) [
  | inl none ↦ inl (none.0, let few = none.1 in omega arith)
  | inr at ↦ inr (record { before = at.before; after = at.after; at_before = at.at_before; at_after = at.at_after; ran = at.ran })
]
runs_at R befores lanes afters each lane = absurd each

-- what follows from what each worker does with a job follows from what all do
runs_by : {V J D : Type 0} (R S : V → J → D → V → Type 0) → ((before : V) (job : J) (done : D) (after : V) → R before job done after → S before job done after)
    → (before : V) (given : List J) (taken : List D) (after : V) → Runs R before given taken after → Runs S before given taken after
runs_by R S by before [] [] after ran = ran
runs_by R S by before (job ∷ given) (done ∷ taken) after (next, one, more) = (next, by before job done next one, runs_by R S by next given taken after more)
runs_by R S by before (job ∷ given) [] after ran = absurd ran
runs_by R S by before [] (done ∷ taken) after ran = absurd ran

pub each_runs_by : {V J D : Type 0} (R S : V → J → D → V → Type 0) → ((before : V) (job : J) (done : D) (after : V) → R before job done after → S before job done after)
    → (befores : List V) (lanes : List (Exchange J D)) (afters : List V) → EachRuns R befores lanes afters → EachRuns S befores lanes afters
each_runs_by R S by [] [] [] each = tt
each_runs_by R S by (b ∷ befores) (l ∷ lanes) (a ∷ afters) each = (runs_by R S by b l.given l.taken a each.0, each_runs_by R S by befores lanes afters each.1)
each_runs_by R S by befores lanes afters each = absurd each

-- ---- one job of a lane

made_of : (e f : Endpoint) (k l : Keys) (m n : ℕ) → e ≡ f → k ≡ l → m ≡ n → ◌≡◌ {A = SeenCarrier} (record { endpoint = e; keys = k; attempts = m }) (record { endpoint = f; keys = l; attempts = n })
made_of e f k l m n p q r = cc

pub same_carrier : (before after : SeenCarrier) → IsSameCarrier before after → after ≡ before
same_carrier before after same = made_of after.endpoint before.endpoint after.keys before.keys after.attempts before.attempts same.endpoint same.keys same.attempts

module _ {W : Type 0} (seen : W → Option WireLog) (carrier : SeenCarrier) where
  pub record OwnAt (given : List SeenJob) (number : ℕ) (carried : SeenCarried) : Type 0 where
    pub job : SeenJob
    pub at : slice_get given number ≡ Some job
    pub was : Option WireLog
    pub now : Option WireLog
    pub by : IsCarriedBy carrier job was now carried
    pub same : IsSameJob job carried.job

  own_first : (before next : SeenLane W) (job : SeenJob) (done : SeenCarried) → CarriesJob seen before job done next → before.carrier ≡ carrier → IsCarriedBy carrier job (seen before.wire) (seen next.wire) done
  own_first before next job done one is = subst (λ (k : SeenCarrier). IsCarriedBy k job (seen before.wire) (seen next.wire) done) is one.carried

  own_at : (before after : SeenLane W) (given : List SeenJob) (taken : List SeenCarried) → Runs (CarriesJob seen) before given taken after → before.carrier ≡ carrier
      → (number : ℕ) (carried : SeenCarried) → slice_get taken number ≡ Some carried → OwnAt given number carried
  own_at before after [] [] ran is number carried e = absurd (none_is_some carried e)
  own_at before after (job ∷ given) (done ∷ taken) (next, one, more) is zero carried e = record {
    job = job;
    at = refl;
    was = seen before.wire;
    now = seen next.wire;
    by = subst (λ (d : SeenCarried). IsCarriedBy carrier job (seen before.wire) (seen next.wire) d) (some_is done carried e) (own_first before next job done one is);
    same = subst (λ (d : SeenCarried). IsSameJob job d.job) (some_is done carried e) one.same;
  }
  own_at before after (job ∷ given) (done ∷ taken) (next, one, more) is (suc number) carried e =
      let own = own_at next after given taken more (same_carrier before.carrier next.carrier one.carrier ∙ is) number carried e in
      record { job = own.job; at = own.at; was = own.was; now = own.now; by = own.by; same = own.same }
  own_at before after (job ∷ given) [] ran is number carried e = absurd ran
  own_at before after [] (done ∷ taken) ran is number carried e = absurd ran

  -- ---- of a trace

  module _ (trace : RunTrace) (befores afters : List (SeenLane W)) (joined : IsJoined seen carrier trace befores afters) where
    own_there : (lane number : ℕ) (carried : SeenCarried) → slice_get (taken_in lane trace) number ≡ Some carried → OwnAt (given_in lane trace) number carried
    own_there lane number carried e = elim (runs_at (CarriesJob seen) befores joined.lanes afters joined.carried lane) [
      | inl none ↦ absurd (none_is_some carried (subst (λ (x : Exchange SeenJob SeenCarried). slice_get x.taken number ≡ Some carried) (sym (joined.exchanged lane) ∙ none.0) e))
      | inr at ↦ subst (λ (x : Exchange SeenJob SeenCarried). OwnAt x.given number carried) (joined.exchanged lane)
          (own_at at.before at.after _ _ at.ran (joined.carriers at.before (contains_of befores at.before (has_at befores lane at.before at.at_before))) number carried
          (subst (λ (x : Exchange SeenJob SeenCarried). slice_get x.taken number ≡ Some carried) (sym (joined.exchanged lane)) e))
    ]

    pub own_outcome : (later before : RunTrace) (lane : ℕ) (carried : SeenCarried) → trace ≡ later ++ Took lane carried ∷ before → IsOwnOutcome carrier before lane carried
    own_outcome later before lane carried is =
        let own = own_there lane (taken_count lane before) carried (taken_there trace later before lane carried is) in
        let old = oldest_there trace later before lane carried joined.trace_is is in
        record { job = own.job; oldest = old.oldest ∙ sym old.given ∙ own.at; was = own.was; now = own.now; by = own.by; same = own.same }

    pub own_names : HaveOwnNames trace
    own_names later before lane carried job is oldest =
        let own = own_outcome later before lane carried is in
        own.same.id ∙ ap (λ (j : SeenJob). j.id) (some_is own.job job (sym own.oldest ∙ oldest))

-- ---- what can be seen before lanes are joined

keeps_cell : (before after : Option Holder) → KeepsCell before after → is_some after ≡ is_some before
keeps_cell None None keeps = refl
keeps_cell (Some before) (Some after) keeps = refl
keeps_cell before after keeps = absurd keeps

keeps_part : (of_op : Op) (before after : Option Part) → KeepsPart of_op before after → (is_some after ≡ is_some before) × (room_of after ≡ room_of before)
keeps_part op.Get None None keeps = (refl, refl)
keeps_part op.Get (Some before) (Some after) keeps = (refl, ap Some keeps)
keeps_part op.Get before after keeps = absurd keeps
keeps_part of_op before after keeps = (ap (λ (p : Option Part). is_some p) keeps, ap room_of keeps)

pub looks_own : (job : SeenJob) (carried : SeenCarried) → IsSameJob job carried.job → MayBeOf job carried
looks_own job carried same =
    let part = keeps_part job.id.op job.part carried.job.part same.part in
    record { same = record { id = same.id; cell = keeps_cell job.cell carried.job.cell same.cell; had = same.had; part = part.0 }; room = part.1 }

module _ {W : Type 0} (seen : W → Option WireLog) where
  pub none_is_stranger : (carrier : SeenCarrier) (trace : RunTrace) (befores afters : List (SeenLane W)) → IsJoined seen carrier trace befores afters → HasStranger trace → ⊥
  none_is_stranger carrier trace befores afters joined stranger =
      let own = own_outcome seen carrier trace befores afters joined stranger.later stranger.before stranger.lane stranger.carried stranger.is in
      stranger.other (subst (λ (j : SeenJob). MayBeOf j stranger.carried) (some_is own.job stranger.job (sym own.oldest ∙ stranger.oldest)) (looks_own own.job stranger.carried own.same))
