-- A whole run of one small upload meets what the laws take.
use Rattle.std.proofs.Common.{◌≡◌, ◌∙◌, ◌==◌, ◌+◌, ◌++◌, ◌<◌, ◌≤◌, ℕ, zero, suc, Bool, false, List, [], ◌∷◌, Some, Contains, refl, sym, subst, ap, inl, arith, slice_get, length, if◌then◌else◌}
use Rattle.std.specs.Prelude.{count_by, flat_map}
use Rattle.jobs.specs.Endings.{SeenCarried}
use Rattle.jobs.specs.Holders.{Holder}
use Rattle.jobs.specs.Jobs.{IsAskOf}
use Rattle.jobs.specs.declared.ending.Ending.{Ending}
use Rattle.jobs.specs.declared.what.What.{What}
use Rattle.manager_moves.specs.Examples.{shared, upload}
use Rattle.manager_moves.specs.Runs.{Back, Events, journal_of, share}
use Rattle.run_progress.specs.RunProgress.{HasMeans}
use Rattle.run_promise.specs.Carried.{IsCarried, IsWanting, WouldGoOn}
use Rattle.job_terms.specs.Attempts.{AreNoted, IsSaid, Numbered, SaysAll, in_lane, mark_of, numbered_from, talks_of}
use Rattle.job_terms.specs.Dispatches.{Attempt, Dispatched}
use Rattle.job_terms.specs.Jobs.{job_of}
use Rattle.s3_model.specs.Classes.{is_tried_again}
use Rattle.s3_model.specs.Talks.{Began, Moment, Note, Talk}
use Rattle.s3_model.specs.declared.answers.Class.{Class}
use Rattle.s3_model.specs.declared.answers.Class.TheVariants as class
use Rattle.s3_model.specs.declared.answers.Reply.TheVariants as reply
use Rattle.s3_model.specs.declared.answers.Why.TheVariants as why
use Rattle.s3_model.specs.declared.bytes.Part.{Part}
use Rattle.s3_model.specs.declared.outcomes.Event.TheVariants as entry
use Rattle.s3_model.specs.declared.outcomes.JobId.{JobId}
use Rattle.s3_model.specs.declared.requests.Op.TheVariants as op
use Rattle.s3_model.specs.declared.tries.Mark.{Mark}
use Rattle.s3_model.specs.declared.tries.Mark.TheVariants as mark
use Rattle.shared_lemmas.proofs.Clashes.{none_is_some, some_is}
use Rattle.shared_lemmas.proofs.Lists.{no_cons}
use Rattle.shared_lemmas.proofs.Members.{contains_of, has}
use Rattle.task_progress.proofs.Endings.{no, skipped}
use Rattle.task_schedule.proofs.Witness.{back_same, came_at, only, run_is_met}
use Rattle.kept_jobs.specs.Steps.{IsStepOf}
use Rattle.task_schedule.specs.Journals.{EndsAs}
use Rattle.task_schedule.specs.Witness.{ShowsStored, no_talk, put_run, read_run, small_put, small_setting, small_task}
use Rattle.run_schedule.proofs.Entries.{given_came}
use Rattle.run_schedule.specs.Runs.{IsJournaled}
use Rattle.run_schedule.specs.Witness.{WholeRunIsMet, logs, no_text, notes}

-- the one dispatch
each : (P : Dispatched → Type 0) → P small_put → (c : Dispatched) → Contains (small_put ∷ []) c → P c
each P p c known = subst P (only c known) p

other_lane : (lane : ℕ) → (0 == suc lane) ≡ false
other_lane lane = grind arith

not_first : (lane : ℕ) → (suc lane == 0) ≡ false
not_first lane = grind arith

-- other lanes have nothing
no_talks : (lane : ℕ) → logs (suc lane) ≡ []
no_talks lane = skipped (suc lane == 0) (no_talk ∷ []) [] (not_first lane)

no_notes : (lane : ℕ) → notes (suc lane) ≡ []
no_notes lane = skipped (suc lane == 0) (Moment 0 ∷ Began ∷ []) [] (not_first lane)

no_jobs : (lane : ℕ) → in_lane (suc lane) (small_put ∷ []) ≡ []
no_jobs lane = ap (λ (b : Bool). if b then small_put ∷ [] else []) (other_lane lane)

beyond : (lane : ℕ) → 1 ≤ lane → (logs lane ≡ []) × (notes lane ≡ [])
beyond zero l = absurd (omega arith)
beyond (suc lane) l = (no_talks lane, no_notes lane)

few : (lane : ℕ) → length (in_lane lane (small_put ∷ [])) ≤ 1
few zero = omega arith
few (suc lane) = let none = ap (λ (ds : List Dispatched). length ds) (no_jobs lane) in omega arith

success_memory : class.Success reply.Stored ≡ class.Uncertain why.Memory → ⊥
success_memory e = cc

nothing_noted : (attempts : List Numbered) (noted : List Note) → attempts ≡ [] → noted ≡ [] → AreNoted ShowsStored no_text [] 0 0 attempts noted
nothing_noted attempts noted e f = subst (λ (z : List Numbered). AreNoted ShowsStored no_text [] 0 0 z noted) (sym e)
    (subst (λ (z : List Note). AreNoted ShowsStored no_text [] 0 0 [] z) (sym f) (λ known. has [] Began known, inl refl))

said : (a : Numbered) → a.attempt.talk ≡ no_talk → IsSaid ShowsStored no_text [] 0 a 0
said a is = record {
  to_host = ap (λ (t : Talk). t.host) is;
  to_port = ap (λ (t : Talk). t.port) is;
  text = λ shown bytes shows. subst (λ (c : Class). SaysAll ShowsStored no_text [] 0 c a.attempt.talk.sent []) (sym shows) (ap (λ (t : Talk). t.sent) is);
  beginning = ([], ap (λ (t : Talk). t.sent ++ []) is);
}

module _ (for : What) (cell : Holder) (part : Part) where
  abbrev events : Events
  events = put_run for cell part

  came_there : (place lane : ℕ) (job : JobId) (tries : List Mark) → slice_get (journal_of events) place ≡ Some (entry.Came job lane tries)
      → (c : Dispatched) × Contains (small_put ∷ []) c × (c.dispatch.came_at ≡ Some place)
  came_there zero lane job tries e = absurd (given_came job _ lane _ tries (some_is _ _ e))
  came_there (suc zero) lane job tries e = (small_put, contains_of (small_put ∷ []) small_put (inl refl), refl)
  came_there (suc (suc place)) lane job tries e = absurd (none_is_some (entry.Came job lane tries) e)

  marked : (k : ℕ) (attempt : Attempt) → slice_get small_put.dispatch.attempts k ≡ Some attempt → (shown : Class) × (bytes : List ℕ) × ShowsStored small_put.ask small_put.limit attempt.talk shown bytes
      × (attempt.mark ≡ mark_of shown) × (shown ≡ class.Uncertain why.Memory → IsWanting ShowsStored no_text [] 0 small_setting small_put)
  marked zero attempt e = (class.Success reply.Stored, [], refl, ap (λ (t : Attempt). t.mark) (sym (some_is _ attempt e)), λ f. absurd (success_memory f))
  marked (suc k) attempt e = absurd (none_is_some attempt e)

  carried : IsCarried ShowsStored no_text [] 0 small_setting (journal_of events) logs notes (small_put ∷ []) (small_put ∷ [])
  carried = record {
    shown = refl;
    comes = each (λ (d : Dispatched). (at : ℕ) × (tries : List Mark) × (d.dispatch.came_at ≡ Some at)
        × (slice_get (journal_of events) at ≡ Some (entry.Came d.dispatch.job d.dispatch.lane tries)) × (length tries ≡ length d.dispatch.attempts)) (1, mark.Success ∷ [], refl, refl, refl);
    lanes = each (λ (d : Dispatched). d.dispatch.lane < 1) (omega arith);
    unused_lanes = beyond;
    nothing_else = came_there;
    in_turn = λ lane i j d before inside. absurd (let short = few lane in omega arith);
    gained = gained;
    noted = noted;
    marks = λ c k attempt known at. inl (each (λ (d : Dispatched). slice_get d.dispatch.attempts k ≡ Some attempt → (shown : Class) × (bytes : List ℕ) × ShowsStored d.ask d.limit attempt.talk shown bytes
        × (attempt.mark ≡ mark_of shown) × (shown ≡ class.Uncertain why.Memory → IsWanting ShowsStored no_text [] 0 small_setting d)) (marked k attempt) c known at);
    again = λ c k attempt known at more. absurd (each (λ (d : Dispatched). k + 1 < length d.dispatch.attempts → ⊥) (λ l. none_more k l) c known more);
    given_again = λ i j d before inside. absurd (let within : j < 1 = inside in omega arith);
    at_most = each (λ (d : Dispatched). d.dispatch.earlier + length d.dispatch.attempts ≤ 3) (omega arith);
    to_the_end = λ c attempt known last goes. absurd (ends_there c attempt goes);
    silent = λ c known none. absurd (each (λ (d : Dispatched). d.dispatch.attempts ≡ [] → ⊥) (no_cons _ []) c known none);
  }
    where
      none_more : (k : ℕ) → k + 1 < 1 → ⊥
      none_more k l = omega arith

      ends_there : (c : Dispatched) (attempt : Attempt) → WouldGoOn ShowsStored no_text [] 0 c attempt → ⊥
      ends_there c attempt goes = no (ap is_tried_again (sym goes.2) ∙ goes.3)

      gained : (lane : ℕ) → logs lane ≡ flat_map talks_of (in_lane lane (small_put ∷ []))
      gained zero = refl
      gained (suc lane) = no_talks lane ∙ sym (ap (λ (ds : List Dispatched). flat_map talks_of ds) (no_jobs lane))

      noted : (lane : ℕ) → (unused : ℕ) × (unused ≤ count_by (λ (c : Dispatched). small_setting.wanted_memory c.dispatch.job.task) (in_lane lane (small_put ∷ []))) × AreNoted ShowsStored no_text [] 0 unused
          (flat_map (λ (c : Dispatched). numbered_from c 0 c.dispatch.attempts) (in_lane lane (small_put ∷ []))) (notes lane)
      noted zero = (0, omega arith, ([], 0, [], [], refl, λ known. has [] Began known, refl, inl refl, said _ refl, (λ known. has [] Began known, inl refl)))
      noted (suc lane) = (0, omega arith, nothing_noted _ _ (ap (λ (ds : List Dispatched). flat_map (λ (c : Dispatched). numbered_from c 0 c.dispatch.attempts) ds) (no_jobs lane)) (no_notes lane))

  module _ (step : IsStepOf small_task upload (share upload 0 read_run) op.Put 0 for) (asks : IsAskOf (job_of 0 op.Put 0) for small_put.ask) where
    means : HasMeans (shared (upload ∷ []) 1 1 1)
    means = record { lanes = omega arith; depth = omega arith; queue = omega arith; buffers = omega arith; pieces = λ n w e. ((run_is_met for cell part step asks).1.works.each n w e).3 }

    ended_so : (later before : Events) (lane : ℕ) (c : SeenCarried) (d : Dispatched) → events ≡ later ++ Back lane c ∷ before → Contains (small_put ∷ []) d → EndsAs ShowsStored d c.ending
    ended_so later before lane c d is known =
        subst (λ (x : Dispatched). EndsAs ShowsStored x c.ending) (only d known)
        (subst (λ (e : Ending). EndsAs ShowsStored small_put e) (ap (λ (x : SeenCarried). x.ending) (back_same _ lane _ c (came_at for cell part later before lane c is).0))
        (record { attempt = _; last = refl; bytes = []; shows = refl }))

    journaled : IsJournaled ShowsStored no_text [] 0 small_setting [] events logs notes (small_put ∷ []) (small_put ∷ [])
    journaled = record {
      of_planning = λ e known. absurd (has [] e known);
      carried = carried;
      shown = λ later before lane c d is known came. ended_so later before lane c d is known;
    }

pub whole_run_is_met : WholeRunIsMet
whole_run_is_met for cell part step asks =
    let met = run_is_met for cell part step asks in (
      met.0,
      record {
        means = means for cell part step asks;
        run = met.1.run;
        end = refl;
        works = met.1.works;
        journaled = journaled for cell part step asks;
        asked = met.1.asked;
        is_coming = met.1.is_coming;
        in_order = met.1.in_order;
        cancelled = met.1.cancelled;
        cancelled_at = met.1.cancelled_at;
        files = met.1.files;
      },
    )
