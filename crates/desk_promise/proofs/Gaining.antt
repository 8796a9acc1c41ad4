-- What the wire of a lane gained by its jobs, where it is seen in the end.
use Rattle.std.proofs.Common.{◌≡◌, ◌∙◌, ◌≤◌, ◌++◌, ℕ, zero, suc, List, [], ◌∷◌, Option, Some, None, append_assoc, append-nil, refl, sym, subst, ap, inl, inr, arith, length, slice_get}
use Rattle.std.specs.Prelude.{IsSome}
use Rattle.bounded_executor.specs.Exchange.{Exchange}
use Rattle.bounded_executor.specs.Runs.{EachRuns, Runs}
use Rattle.job_terms.specs.Gains.{Gains}
use Rattle.jobs.specs.Endings.{SeenCarried}
use Rattle.jobs.specs.Jobs.{SeenJob}
use Rattle.lane_jobs.specs.Lanes.{SeenLane}
use Rattle.s3_model.specs.Talks.{Note, Talk, WireLog}
use Rattle.shared_lemmas.proofs.Clashes.{false_true, none_is_some, some_is}
use Rattle.shared_lemmas.proofs.Members.{Has, contains_of}
use Rattle.trace_laws.specs.Joined.{CarriesJob, HasGained, HaveGained}
use Rattle.desk_promise.specs.Wires.{LanesGain}

some_of : {X : Type 0} (o : Option X) → IsSome o → (x : X) × (o ≡ Some x)
some_of None some = absurd (false_true some)
some_of (Some x) some = (x, refl)

abbrev first_then : {X : Type 0} → X → (ℕ → X) → ℕ → X
first_then x f zero = x
first_then x f (suc n) = f n

-- the wire was seen before, and has these talks and notes more
record Gained (before : Option WireLog) (end : WireLog) : Type 0 where
  pub start : WireLog
  pub starts : before ≡ Some start
  pub talks : List Talk
  pub notes : List Note
  pub more_talks : end.talks ≡ start.talks ++ talks
  pub more_notes : end.notes ≡ start.notes ++ notes

of_gains : (before after : Option WireLog) (end : WireLog) (P : List Talk → List Note → Type 0) → after ≡ Some end → Gains before after P → Gained before end
of_gains before None end P ends gains = absurd (none_is_some end ends)
of_gains None (Some now) end P ends gains = absurd gains
of_gains (Some was) (Some now) end P ends gains =
    let same = some_is now end ends in
    record {
      start = was;
      starts = refl;
      talks = gains.0;
      notes = gains.1;
      more_talks = ap (λ (w : WireLog). w.talks) (sym same) ∙ gains.2;
      more_notes = ap (λ (w : WireLog). w.notes) (sym same) ∙ gains.3;
    }

both : {X : Type 0} (end mid was own more : List X) → end ≡ mid ++ more → mid ≡ was ++ own → end ≡ was ++ (own ++ more)
both end mid was own more e m = e ∙ ap (λ xs. xs ++ more) m ∙ append_assoc was own more

then : (before : Option WireLog) (mid end : WireLog) → Gained before mid → Gained (Some mid) end → Gained before end
then before mid end first rest =
    let same = some_is mid rest.start rest.starts in
    record {
      start = first.start;
      starts = first.starts;
      talks = first.talks ++ rest.talks;
      notes = first.notes ++ rest.notes;
      more_talks = both end.talks mid.talks first.start.talks first.talks rest.talks (rest.more_talks ∙ ap (λ (w : WireLog). w.talks ++ rest.talks) (sym same)) first.more_talks;
      more_notes = both end.notes mid.notes first.start.notes first.notes rest.notes (rest.more_notes ∙ ap (λ (w : WireLog). w.notes ++ rest.notes) (sym same)) first.more_notes;
    }

module _ {W : Type 0} (seen : W → Option WireLog) where
  gained_by : (before after : SeenLane W) (given : List SeenJob) (taken : List SeenCarried) (end : WireLog) → Runs (CarriesJob seen) before given taken after → seen after.wire ≡ Some end → Gained (seen before.wire) end
  gained_by before after [] [] end ran ends = record {
    start = end;
    starts = ap (λ (l : SeenLane W). seen l.wire) (sym ran) ∙ ends;
    talks = [];
    notes = [];
    more_talks = sym (append-nil end.talks);
    more_notes = sym (append-nil end.notes);
  }
  gained_by before after (job ∷ given) (done ∷ taken) end (next, one, more) ends =
      let rest = gained_by next after given taken end more ends in
      let here = of_gains (seen before.wire) (seen next.wire) rest.start _ rest.starts one.carried.carries.shared in
      then (seen before.wire) rest.start end here (subst (λ (o : Option WireLog). Gained o end) rest.starts rest)
  gained_by before after (job ∷ given) [] end ran ends = absurd ran
  gained_by before after [] (done ∷ taken) end ran ends = absurd ran

  has_gained : (before after : Option WireLog) (end : WireLog) → after ≡ Some end → (g : Gained before end) → HasGained before after g.talks g.notes
  has_gained before after end ends g = at (subst (λ (o : Option WireLog). IsSome o × Gains (Some g.start) o Is) (sym ends) (refl, (g.talks, g.notes, g.more_talks, g.more_notes, (refl, refl))))
    where
      Is : List Talk → List Note → Type 0
      Is talks notes = (talks ≡ g.talks) × (notes ≡ g.notes)

      at : IsSome after × Gains (Some g.start) after Is → HasGained before after g.talks g.notes
      at h = (h.0, subst (λ (o : Option WireLog). Gains o after Is) (sym g.starts) h.1)

  module _ (b a : SeenLane W) (befores afters : List (SeenLane W)) (talks : List Talk) (noted : List Note) (logs : ℕ → List Talk) (notes : ℕ → List Note) where
    each : HasGained (seen b.wire) (seen a.wire) talks noted → HaveGained seen befores afters logs notes → (lane : ℕ) (before after : SeenLane W) → slice_get (b ∷ befores) lane ≡ Some before → slice_get (a ∷ afters) lane ≡ Some after
        → HasGained (seen before.wire) (seen after.wire) (first_then talks logs lane) (first_then noted notes lane)
    each first rest zero before after at_before at_after =
        subst (λ (x : SeenLane W). HasGained (seen before.wire) (seen x.wire) talks noted) (some_is a after at_after) (subst (λ (x : SeenLane W). HasGained (seen x.wire) (seen a.wire) talks noted) (some_is b before at_before) first)
    each first rest (suc lane) before after at_before at_after = rest.each lane before after at_before at_after

    others : HaveGained seen befores afters logs notes → (lane : ℕ) → length (b ∷ befores) ≤ lane → (first_then talks logs lane ≡ []) × (first_then noted notes lane ≡ [])
    others rest zero above = absurd (omega arith)
    others rest (suc lane) above = rest.others lane (omega arith)

  abbrev AllGained : List (SeenLane W) → List (SeenLane W) → Type 0
  AllGained befores afters = (logs : ℕ → List Talk) × (notes : ℕ → List Note) × HaveGained seen befores afters logs notes

  all_gained : (befores : List (SeenLane W)) (lanes : List (Exchange SeenJob SeenCarried)) (afters : List (SeenLane W)) → EachRuns (CarriesJob seen) befores lanes afters → ((lane : SeenLane W) → Has afters lane → IsSome (seen lane.wire)) → AllGained befores afters
  all_gained [] [] [] ran are_seen = (
    λ lane. [],
    λ lane. [],
    record { each = λ lane before after at_before at_after. absurd (none_is_some before at_before); others = λ lane above. (refl, refl) },
  )
  all_gained (b ∷ befores) (l ∷ lanes) (a ∷ afters) ran are_seen =
      let end = some_of (seen a.wire) (are_seen a (inl refl)) in
      let g = gained_by b a l.given l.taken end.0 ran.0 end.1 in
      let rest = all_gained befores lanes afters ran.1 (λ lane h. are_seen lane (inr h)) in
      let first = has_gained (seen b.wire) (seen a.wire) end.0 end.1 g in (
        first_then g.talks rest.0,
        first_then g.notes rest.1,
        record { each = each b a befores afters g.talks g.notes rest.0 rest.1 first rest.2; others = others b a befores afters g.talks g.notes rest.0 rest.1 rest.2 },
      )
  all_gained befores lanes afters ran are_seen = absurd ran

  pub lanes_gain : LanesGain seen
  lanes_gain carrier trace befores afters joined are_seen = all_gained befores joined.lanes afters joined.carried (λ lane h. are_seen lane (contains_of afters lane h))
