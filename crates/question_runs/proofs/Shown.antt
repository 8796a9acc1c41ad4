-- Questions that were asked over one lane, by what its wire gained alone.
use Rattle.std.proofs.Common.{◌≡◌, ◌∙◌, ◌++◌, List, [], ◌∷◌, Option, Some, None, append_assoc, append-nil, refl, sym, subst, ap, inl, inr, Contains}
use Rattle.bounded_executor.specs.Exchange.{Exchange}
use Rattle.bounded_executor.specs.Runs.{EachRuns, Runs}
use Rattle.job_terms.specs.Gains.{Gains}
use Rattle.jobs.specs.Endings.{SeenCarried}
use Rattle.jobs.specs.Jobs.{SeenJob, range_of}
use Rattle.lane_jobs.specs.Lanes.{IsCarriedBy, IsSameCarrier, IsShare, SeenCarrier, SeenLane, request_for}
use Rattle.lane_workers.specs.LaneWorkers.{lane_over}
use Rattle.planning_questions.specs.Questions.{Question, trace_of}
use Rattle.run_traces.specs.Exchanges.{AreExchangesOf}
use Rattle.run_traces.specs.Traces.{RunTrace}
use Rattle.s3_model.specs.Talks.{Note, Talk, WireLog}
use Rattle.shared_lemmas.proofs.Clashes.{none_is_some, some_is}
use Rattle.shared_lemmas.proofs.Members.{contains_of, has}
use Rattle.trace_laws.proofs.Own.{same_carrier}
use Rattle.trace_laws.specs.Joined.{CarriesJob, IsJoined}
use Rattle.question_runs.specs.Asked.{AskedOver, log_of}

abbrev OverLog : SeenLane (Option WireLog) → SeenJob → SeenCarried → SeenLane (Option WireLog) → Type 0
OverLog = CarriesJob (λ (wire : Option WireLog). wire)

same_self : (carrier : SeenCarrier) → IsSameCarrier carrier carrier
same_self carrier = record { endpoint = refl; keys = refl; attempts = refl }

-- the job was carried so over any wire that gained the same
carried_over : (carrier : SeenCarrier) (job : SeenJob) (was now before after : Option WireLog) (done : SeenCarried) → (by : IsCarriedBy carrier job was now done)
    → Gains before after (IsShare (request_for carrier by.asked job.part (range_of job.what).1) job.had by.place by.carries.classes done.ending) → IsCarriedBy carrier job before after done
carried_over carrier job was now before after done by gains = record {
  asked = by.asked;
  place = by.place;
  asks = by.asks;
  placed = by.placed;
  carries = record {
    classes = by.carries.classes;
    marks = by.carries.marks;
    at_most = by.carries.at_most;
    again = by.carries.again;
    ends = by.carries.ends;
    gained = by.carries.gained;
    shared = gains;
  };
}

module _ {W : Type 0} (seen : W → Option WireLog) (carrier : SeenCarrier) where
  abbrev Over : SeenLane W → SeenJob → SeenCarried → SeenLane W → Type 0
  Over = CarriesJob seen

  by_it : (lane : SeenLane W) (job : SeenJob) (was now : Option WireLog) (done : SeenCarried) → lane.carrier ≡ carrier → IsCarriedBy lane.carrier job was now done → IsCarriedBy carrier job was now done
  by_it lane job was now done is by = subst (λ (c : SeenCarrier). IsCarriedBy c job was now done) is by

  goes_on : (before next : SeenLane W) (job : SeenJob) (done : SeenCarried) → before.carrier ≡ carrier → Over before job done next → next.carrier ≡ carrier
  goes_on before next job done is one = same_carrier before.carrier next.carrier one.carrier ∙ is

  -- ---- a wire that shows nothing

  pub unseen_runs : (before after : SeenLane W) (given : List SeenJob) (taken : List SeenCarried) → before.carrier ≡ carrier → Runs Over before given taken after → Runs OverLog (lane_over carrier None) given taken (lane_over carrier None)
  unseen_runs before after [] [] is ran = refl
  unseen_runs before after (job ∷ given) (done ∷ taken) is (next, one, more) = (
    lane_over carrier None,
    record {
      carried = let by = by_it before job (seen before.wire) (seen next.wire) done is one.carried in carried_over carrier job _ _ None None done by tt;
      same = one.same;
      carrier = same_self carrier;
    },
    unseen_runs next after given taken (goes_on before next job done is one) more,
  )
  unseen_runs before after (job ∷ given) [] is ran = absurd ran
  unseen_runs before after [] (done ∷ taken) is ran = absurd ran

  -- ---- a wire that is seen in the end

  abbrev with_more : WireLog → List Talk → List Note → WireLog
  with_more base talks notes = log_of (base.talks ++ talks) (base.notes ++ notes)

  -- the wire was seen before, and gained so much; over any wire the jobs go so
  record Ran (given : List SeenJob) (taken : List SeenCarried) (before : Option WireLog) (end : WireLog) : Type 0 where
    start : WireLog
    starts : before ≡ Some start
    talks : List Talk
    notes : List Note
    more_talks : end.talks ≡ start.talks ++ talks
    more_notes : end.notes ≡ start.notes ++ notes
    runs : (base : WireLog) → Runs OverLog (lane_over carrier (Some base)) given taken (lane_over carrier (Some (with_more base talks notes)))

  -- what one job gained, of which the end is seen
  record One (before : Option WireLog) (end : WireLog) (P : List Talk → List Note → Type 0) : Type 0 where
    start : WireLog
    starts : before ≡ Some start
    talks : List Talk
    notes : List Note
    more_talks : end.talks ≡ start.talks ++ talks
    more_notes : end.notes ≡ start.notes ++ notes
    holds : P talks notes

  one_of : (before after : Option WireLog) (end : WireLog) (P : List Talk → List Note → Type 0) → after ≡ Some end → Gains before after P → One before end P
  one_of before None end P ends gains = absurd (none_is_some end ends)
  one_of None (Some now) end P ends gains = absurd gains
  one_of (Some was) (Some now) end P ends (talks, notes, of_talks, of_notes, holds) =
      let same = some_is now end ends in
      record {
        start = was;
        starts = refl;
        talks = talks;
        notes = notes;
        more_talks = ap (λ (w : WireLog). w.talks) (sym same) ∙ of_talks;
        more_notes = ap (λ (w : WireLog). w.notes) (sym same) ∙ of_notes;
        holds = holds;
      }

  more_of : {X : Type 0} (end mid was own more : List X) → end ≡ mid ++ more → mid ≡ was ++ own → end ≡ was ++ (own ++ more)
  more_of end mid was own more e m = e ∙ ap (λ xs. xs ++ more) m ∙ append_assoc was own more

  none_more : (base : WireLog) → with_more base [] [] ≡ base
  none_more base = ap (λ (ts : List Talk). log_of ts (base.notes ++ [])) (append-nil base.talks) ∙ ap (λ (ns : List Note). log_of base.talks ns) (append-nil base.notes)

  both_more : (base : WireLog) (talks later : List Talk) (notes others : List Note) → with_more (with_more base talks notes) later others ≡ with_more base (talks ++ later) (notes ++ others)
  both_more base talks later notes others =
      ap (λ (ts : List Talk). log_of ts ((base.notes ++ notes) ++ others)) (append_assoc base.talks talks later) ∙ ap (λ (ns : List Note). log_of (base.talks ++ (talks ++ later)) ns) (append_assoc base.notes notes others)

  seen_runs : (before after : SeenLane W) (given : List SeenJob) (taken : List SeenCarried) (end : WireLog) → before.carrier ≡ carrier → Runs Over before given taken after → seen after.wire ≡ Some end → Ran given taken (seen before.wire) end
  seen_runs before after [] [] end is ran ends = record {
    start = end;
    starts = ap (λ (l : SeenLane W). seen l.wire) (sym ran) ∙ ends;
    talks = [];
    notes = [];
    more_talks = sym (append-nil end.talks);
    more_notes = sym (append-nil end.notes);
    runs = λ base. ap (λ (log : WireLog). lane_over carrier (Some log)) (none_more base);
  }
  seen_runs before after (job ∷ given) (done ∷ taken) end is (next, one, more) ends =
      let rest = seen_runs next after given taken end (goes_on before next job done is one) more ends in
      let by = by_it before job (seen before.wire) (seen next.wire) done is one.carried in
      let here = one_of (seen before.wire) (seen next.wire) rest.start _ rest.starts by.carries.shared in
      record {
        start = here.start;
        starts = here.starts;
        talks = here.talks ++ rest.talks;
        notes = here.notes ++ rest.notes;
        more_talks = more_of end.talks rest.start.talks here.start.talks here.talks rest.talks rest.more_talks here.more_talks;
        more_notes = more_of end.notes rest.start.notes here.start.notes here.notes rest.notes rest.more_notes here.more_notes;
        runs = λ base. (
          lane_over carrier (Some (with_more base here.talks here.notes)),
          record {
            carried = carried_over carrier job _ _ (Some base) (Some (with_more base here.talks here.notes)) done by (here.talks, here.notes, refl, refl, here.holds);
            same = one.same;
            carrier = same_self carrier;
          },
          subst (λ (log : WireLog). Runs OverLog (lane_over carrier (Some (with_more base here.talks here.notes))) given taken (lane_over carrier (Some log))) (both_more base here.talks rest.talks here.notes rest.notes)
              (rest.runs (with_more base here.talks here.notes)),
        );
      }
  seen_runs before after (job ∷ given) [] end is ran ends = absurd ran
  seen_runs before after [] (done ∷ taken) end is ran ends = absurd ran

  -- ---- one lane

  only_it : (lane : SeenLane (Option WireLog)) → lane.carrier ≡ carrier → (other : SeenLane (Option WireLog)) → Contains (lane ∷ []) other → other.carrier ≡ carrier
  only_it lane is other known = elim (has (lane ∷ []) other known) [ inl same ↦ subst (λ (l : SeenLane (Option WireLog)). l.carrier ≡ carrier) same is | inr none ↦ absurd none ]

  module _ (questions : List Question) (before after : SeenLane W) where
    abbrev steps : RunTrace
    steps = trace_of 0 questions

    abbrev Joined : Type 0
    Joined = IsJoined seen carrier steps (before ∷ []) (after ∷ [])

    its_carrier : Joined → before.carrier ≡ carrier
    its_carrier joined = joined.carriers before (contains_of (before ∷ []) before (inl refl))

    -- over wires by which the one lane ran so
    over : (was now : Option WireLog) (joined : Joined)
        → ((given : List SeenJob) (taken : List SeenCarried) → Runs Over before given taken after → Runs OverLog (lane_over carrier was) given taken (lane_over carrier now))
        → IsJoined (λ (wire : Option WireLog). wire) carrier steps (lane_over carrier was ∷ []) (lane_over carrier now ∷ [])
    over was now joined so = record {
      trace_is = joined.trace_is;
      carriers = only_it (lane_over carrier was) refl;
      lanes = joined.lanes;
      exchanged = joined.exchanged;
      carried = each joined.lanes joined.carried;
    }
      where
        each : (lanes : List (Exchange SeenJob SeenCarried)) → EachRuns Over (before ∷ []) lanes (after ∷ []) → EachRuns OverLog (lane_over carrier was ∷ []) lanes (lane_over carrier now ∷ [])
        each [] ran = absurd ran
        each (lane ∷ []) ran = (so lane.given lane.taken ran.0, tt)
        each (lane ∷ other ∷ lanes) ran = absurd ran.1

    pub asked_unseen : Joined → AskedOver carrier questions None
    asked_unseen joined = over None None joined (λ given taken ran. unseen_runs before after given taken (its_carrier joined) ran)

    asked_seen : (joined : Joined) (lanes : List (Exchange SeenJob SeenCarried)) → lanes ≡ joined.lanes → EachRuns Over (before ∷ []) lanes (after ∷ []) → (end : WireLog) → seen after.wire ≡ Some end
        → (P : List Talk → List Note → Type 0) → ((talks : List Talk) (notes : List Note) → AskedOver carrier questions (Some (log_of talks notes)) → P talks notes) → One (seen before.wire) end P
    asked_seen joined [] is ran end ends P so = absurd ran
    asked_seen joined (lane ∷ other ∷ lanes) is ran end ends P so = absurd ran.1
    asked_seen joined (lane ∷ []) is ran end ends P so =
        let all = seen_runs before after lane.given lane.taken end (its_carrier joined) ran.0 ends in
        record {
          start = all.start;
          starts = all.starts;
          talks = all.talks;
          notes = all.notes;
          more_talks = all.more_talks;
          more_notes = all.more_notes;
          holds = so all.talks all.notes (record {
            trace_is = joined.trace_is;
            carriers = only_it (lane_over carrier (Some (log_of [] []))) refl;
            lanes = lane ∷ [];
            exchanged = subst (λ (ls : List (Exchange SeenJob SeenCarried)). AreExchangesOf steps ls) (sym is) joined.exchanged;
            carried = (all.runs (log_of [] []), tt);
          });
        }

    gains_by : (was now : Option WireLog) (P : List Talk → List Note → Type 0) → ((end : WireLog) → now ≡ Some end → One was end P) → Gains was now P
    gains_by was None P one = tt
    gains_by was (Some now) P one =
        let here = one now refl in
        subst (λ (w : Option WireLog). Gains w (Some now) P) (sym here.starts) (here.talks, here.notes, here.more_talks, here.more_notes, here.holds)

    -- what the wire gained is of these questions
    pub asked_over : Joined → Gains (seen before.wire) (seen after.wire) (λ talks notes. AskedOver carrier questions (Some (log_of talks notes)))
    asked_over joined =
        gains_by (seen before.wire) (seen after.wire) (λ talks notes. AskedOver carrier questions (Some (log_of talks notes)))
        (λ end ends. asked_seen joined joined.lanes refl joined.carried end ends (λ talks notes. AskedOver carrier questions (Some (log_of talks notes))) (λ talks notes a. a))
