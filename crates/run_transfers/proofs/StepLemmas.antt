-- Moves that are no matter of lanes, and moves one after the other.
use Rattle.std.proofs.Common.{◌≡◌, ◌∙◌, ◌++◌, ◌<◌, [], ◌∷◌, ℕ, Bool, suc, false, List, Option, None, Some, IfNone, IfSome, refl, sym, subst, ap, arith, append_assoc, get_or, length, sum_by}
use Rattle.std.proofs.lemmas.List.Sums.{sum_by-cons}
use Rattle.bounded_executor.specs.Desk.{DeskState, all_out, takes}
use Rattle.bounded_executor.specs.Exchange.{Exchange, jobs_out, unused}
use Rattle.local_files.specs.Calls.{CallStep}
use Rattle.task_acts.specs.declared.acts.Act.{Act}
use Rattle.s3_outside.specs.declared.files.FileNote.{FileNote}
use Rattle.task_acts.specs.declared.acts.FileCame.{FileCame}
use Rattle.jobs.specs.Endings.{SeenCarried}
use Rattle.jobs.specs.Jobs.{SeenJob}
use Rattle.lane_givings.proofs.Holding.{others_leave}
use Rattle.manager_core.proofs.RunLemmas.{at_due}
use Rattle.manager_core.specs.Kept.{SeenManager}
use Rattle.manager_core.specs.Running.{IsRunning}
use Rattle.manager_core.specs.declared.due.Due.TheVariants as due
use Rattle.manager_moves.specs.Runs as runs
use Rattle.manager_moves.specs.Runs.{Event, Events, Shared}
use Rattle.manager_moves.specs.declared.moves.Move.TheVariants as move
use Rattle.queue_laws.specs.Holding.{is_of_lanes}
use Rattle.run_needs.specs.Needs.{most_bytes}
use Rattle.run_traces.proofs.Exchanging.{exchanges_took}
use Rattle.run_traces.specs.Exchanges.{AreExchangesOf, HasStranger}
use Rattle.run_traces.specs.Traces.{Called, Lined, Made, RunTrace, Stopped, Took, events_of, journal_of}
use Rattle.s3_model.specs.declared.outcomes.Event.{Event as Entry}
use Rattle.s3_model.specs.declared.outcomes.JobId.{JobId}
use Rattle.s3_model.specs.declared.outcomes.Reason.{Reason}
use Rattle.whole_runs.proofs.Over.{runs_end_over}
use Rattle.run_transfers.proofs.LaneLemmas.{out_count, outs_of}
use Rattle.run_transfers.proofs.RunLemmas.{free_run}
use Rattle.run_transfers.specs.declared.stop.Stop.{Stop}
use Rattle.run_transfers.specs.declared.stop.Stop.TheVariants as stop
use Rattle.run_transfers.specs.Conducting.{AreRightSteps, Conducted, Conducts, GoesOn, HasLanes, IsConducting, IsRightStep, MeetsStranger, SeenConductor, Stops, conductor, further}

-- the same has happened
pub stays : {W : Type 0} {run : Conducted} {c : SeenConductor} {d : DeskState W SeenJob SeenCarried} (new : SeenManager)
    → IsConducting run c d → IsRunning run.start run.shared (events_of run.trace) new
    → IsConducting run (conductor new c.pending) d
stays {W} {run} {c} {d} new k running = record {
  running = running;
  journal = running.journal.items ∙ sym k.running.journal.items ∙ k.journal;
  exchanged = k.exchanged;
  lanes = k.lanes;
}

pub stays_on : {W : Type 0} {run : Conducted} {c : SeenConductor} {d : DeskState W SeenJob SeenCarried} (new : SeenManager)
    → IsConducting run c d → IsRunning run.start run.shared (events_of run.trace) new
    → GoesOn run (conductor new c.pending) d
stays_on new k running = record { since = []; kept = stays new k running; right = tt }

-- something happened that is no matter of lanes
module _ {W : Type 0} {run : Conducted} {c : SeenConductor} {d : DeskState W SeenJob SeenCarried}
    (k : IsConducting run c d) (new : SeenManager) (free : new.due ≡ due.Free) where
  has_lanes : (e : Event) → is_of_lanes e ≡ false → IsRunning run.start run.shared (e ∷ events_of run.trace) new
      → HasLanes run.shared (e ∷ events_of run.trace) c.pending d
  has_lanes e other running = record {
    lanes = k.lanes.lanes;
    depth = k.lanes.depth;
    behind = k.lanes.behind;
    jobs = others_leave (most_bytes run.shared.works) run.shared (events_of run.trace) (outs_of d.lanes) e other
        (free_run running free) k.lanes.jobs;
    known = k.lanes.known;
  }

  same_journal : {later : Events} → IsRunning run.start run.shared later new
      → runs.journal_of later ≡ runs.journal_of (events_of run.trace) → new.journal.items ≡ journal_of run.trace
  same_journal running same =
      running.journal.items ∙ ap (λ (es : List Entry). run.start.planning ++ es) same
      ∙ sym k.running.journal.items ∙ k.journal

  pub made_on : (fits : Bool) → IsRunning run.start run.shared (runs.Made fits ∷ events_of run.trace) new
      → GoesOn run (conductor new c.pending) d
  made_on fits running = record {
    since = Made fits ∷ [];
    kept = record {
      running = running;
      journal = same_journal running refl;
      exchanged = k.exchanged;
      lanes = has_lanes (runs.Made fits) refl running;
    };
    right = (tt, tt);
  }

  pub lined_on : IsRunning run.start run.shared (runs.Lined ∷ events_of run.trace) new
      → GoesOn run (conductor new c.pending) d
  lined_on running = record {
    since = Lined ∷ [];
    kept = record {
      running = running;
      journal = same_journal running refl;
      exchanged = k.exchanged;
      lanes = has_lanes runs.Lined refl running;
    };
    right = (tt, tt);
  }

  pub stopped_kept : (reason : Reason) → IsRunning run.start run.shared (runs.Stopped reason ∷ events_of run.trace) new
      → IsConducting (further (Stopped reason ∷ []) run) (conductor new c.pending) d
  stopped_kept reason running = record {
    running = running;
    journal = same_journal running refl;
    exchanged = k.exchanged;
    lanes = has_lanes (runs.Stopped reason) refl running;
  }

  pub called_kept : (task : ℕ) (of_act : Act) (came : FileCame) (steps : List CallStep) (notes : List FileNote)
      → IsRunning run.start run.shared (runs.Called task of_act came ∷ events_of run.trace) new
      → IsConducting (further (Called task of_act came steps notes ∷ []) run) (conductor new c.pending) d
  called_kept task of_act came steps notes running = record {
    running = running;
    journal = same_journal running refl;
    exchanged = k.exchanged;
    lanes = has_lanes (runs.Called task of_act came) refl running;
  }

-- ---- one after the other

right_both : (s : Shared) (later since before : RunTrace) → AreRightSteps s later (since ++ before)
    → AreRightSteps s since before → AreRightSteps s (later ++ since) before
right_both s [] since before late early = early
right_both s (step ∷ later) since before late early = (
  subst (λ (t : RunTrace). IsRightStep s step t) (sym (append_assoc later since before)) late.0,
  right_both s later since before late.1 early,
)

pub both : {W : Type 0} {run : Conducted} {c e : SeenConductor} {d f : DeskState W SeenJob SeenCarried}
    (on : GoesOn run c d) → GoesOn (further on.since run) e f → GoesOn run e f
both {W} {run} {c} {e} {d} {f} on later = record {
  since = later.since ++ on.since;
  kept = subst (λ (t : RunTrace). IsConducting (record { start = run.start; shared = run.shared; trace = t }) e f)
      (sym (append_assoc later.since on.since run.trace)) later.kept;
  right = right_both run.shared later.since on.since run.trace later.right on.right;
}

pub then_strange : {W : Type 0} {run : Conducted} {c : SeenConductor} {d f : DeskState W SeenJob SeenCarried}
    (on : GoesOn run c d) → MeetsStranger (further on.since run) f → MeetsStranger run f
then_strange {W} {run} {c} {d} {f} on met =
    subst (λ (t : RunTrace). AreExchangesOf t f.lanes → HasStranger t → MeetsStranger run f)
    (append_assoc met.since on.since run.trace)
    (λ exchanged stranger. record { since = met.since ++ on.since; exchanged = exchanged; stranger = stranger })
    met.exchanged met.stranger

-- ---- the end

none_out : (lanes : List (Exchange SeenJob SeenCarried)) → ((lane : ℕ) → jobs_out (get_or lanes lane unused) ≡ 0)
    → sum_by jobs_out lanes ≡ 0
none_out [] none = refl
none_out (e ∷ lanes) none =
    let one = sum_by-cons (jobs_out {J = SeenJob} {D = SeenCarried}) e lanes in
    let rest = none_out lanes (λ lane. none (suc lane)) in
    let first = none 0 in omega (arith, one, rest, first)

pub all_back : {W : Type 0} {run : Conducted} {c : SeenConductor} {d : DeskState W SeenJob SeenCarried}
    → IsConducting run c d → c.manager.due ≡ due.Next move.End → all_out d ≡ 0
all_back {W} {run} {c} {d} k is =
    let at = at_due run.start run.shared (events_of run.trace) c.manager k.running (due.Next move.End) is in
    let over = runs_end_over run.shared (events_of run.trace) k.running.given.means at.run.run at.named in
    none_out d.lanes (λ lane. out_count k.lanes lane ∙ ap (λ (ids : List JobId). length ids) (over.lanes lane))

-- ---- where a run stops

pub map_none : {X : Type 0} {P Q : Type 0} (o : Option X) → (P → Q) → IfNone o P → IfNone o Q
map_none None f h = f h
map_none (Some x) f h = tt

pub map_some : {X : Type 0} {P Q : X → Type 0} (o : Option X) → ((x : X) → P x → Q x) → IfSome o P → IfSome o Q
map_some None f h = tt
map_some (Some x) f h = f x h

-- what is conducted behind other moves
module _ {W : Type 0} {old mid : SeenConductor} {d m : DeskState W SeenJob SeenCarried} (first : Conducts old d mid m)
    (new : SeenConductor) (e : DeskState W SeenJob SeenCarried) where
  pub conducts_both : Conducts mid m new e → Conducts old d new e
  conducts_both second run k = let on = first run k in both on (second (further on.since run) on.kept)

  pub stops_after : (why : Stop) → Stops why mid m new e → Stops why old d new e
  stops_after stop.End h = (h.0, h.1, conducts_both h.2)
  stops_after stop.Stranger h = λ run k. let on = first run k in then_strange on (h (further on.since run) on.kept)
  stops_after (stop.Call moved) h = (h.0, conducts_both h.1)

-- ---- jobs that are taken back behind a stranger

pub still_strange : {W : Type 0} {d e : DeskState W SeenJob SeenCarried} (lane : ℕ) (carried : SeenCarried)
    → lane < length d.lanes → e ≡ takes d lane carried → (run : Conducted) → MeetsStranger run d → MeetsStranger run e
still_strange {W} {d} {e} lane carried within took run met = record {
  since = Took lane carried ∷ met.since;
  exchanged = subst (λ (desk : DeskState W SeenJob SeenCarried). AreExchangesOf (Took lane carried ∷ met.since ++ run.trace) desk.lanes)
      (sym took) (exchanges_took (met.since ++ run.trace) d.lanes lane carried within met.exchanged);
  stranger = record {
    later = Took lane carried ∷ met.stranger.later;
    before = met.stranger.before;
    lane = met.stranger.lane;
    carried = met.stranger.carried;
    is = ap (λ (t : RunTrace). Took lane carried ∷ t) met.stranger.is;
    job = met.stranger.job;
    oldest = met.stranger.oldest;
    other = met.stranger.other;
  };
}
