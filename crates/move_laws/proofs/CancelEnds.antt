-- A cancel begins with a run that is followed, and ends with one.
use Rattle.std.proofs.Common.{◌≡◌, ◌∙◌, ◌<◌, ◌&&◌, ◌||◌, ◌∷◌, ℕ, Bool, true, false, List, Option, Some, None, IsSome}
use Rattle.std.proofs.Common.{refl, sym, subst, ap, arith, get_or, is_some, nat_lt, not, slice_get, if◌then◌else◌}
use Rattle.std.specs.Option.{option_or}
use Rattle.std.proofs.lemmas.Bool.{le-ltb, ltb-false, ltb-true}
use Rattle.s3_model.specs.declared.outcomes.Cause.{Cause}
use Rattle.s3_model.specs.declared.outcomes.Cause.TheVariants as cause
use Rattle.s3_model.specs.declared.outcomes.Outcome.{Outcome}
use Rattle.s3_model.specs.declared.outcomes.Outcome.TheVariants as outcome
use Rattle.s3_model.specs.declared.outcomes.Reason.{Reason}
use Rattle.s3_model.specs.declared.requests.Op.TheVariants as op
use Rattle.act_queues.specs.declared.act_queues.ActSort.{ActSort}
use Rattle.act_queues.specs.declared.act_queues.ActSort.TheVariants as sort
use Rattle.alike_histories.proofs.Alike.{alike_says_the_same, cancel_stays_alike, starts_alike}
use Rattle.alike_histories.specs.Alike.{AreAlike, SayTheSame}
use Rattle.task_acts.specs.declared.acts.Act.{Act}
use Rattle.task_acts.specs.declared.acts.Act.TheVariants as act
use Rattle.task_acts.specs.declared.work.Work.{Work}
use Rattle.task_acts.specs.Ends.{outcome_of}
use Rattle.task_acts.specs.Failures.{first_failure, first_reason, is_stopped}
use Rattle.task_acts.specs.Histories.{Cancelled, History}
use Rattle.task_acts.specs.Stages.{stage}
use Rattle.manager_moves.proofs.CountLemmas.{no}
use Rattle.manager_moves.proofs.MoveLaws.{in_front}
use Rattle.manager_moves.proofs.PartLaws.{nothing}
use Rattle.manager_moves.specs.Moves.{made}
use Rattle.manager_moves.specs.Parts.{has_part}
use Rattle.manager_moves.specs.Runs.{Events, Shared, Stopped, lacks_memory, made_count, outcome_in, share}
use Rattle.part_changes.proofs.Changing.{alike}
use Rattle.part_tables.proofs.Tables.{alike_unfreed}
use Rattle.part_tables.proofs.Unmade.{cancel_leaves_parts}
use Rattle.part_tables.specs.Tables.{goes_on, is_cancelled, job_of, none_unfreed}
use Rattle.queue_laws.proofs.LaneLaws.{others_stay}
use Rattle.queue_laws.specs.ReadyActs.{sort_at, sort_if, sort_of}
use Rattle.task_core.specs.Machine.{SeenTask}
use Rattle.move_laws.proofs.Moving.{front_at}
use Rattle.move_laws.proofs.Open.{in_take}
use Rattle.move_laws.proofs.OpenCounts.{HaveOutcomes, open_is_unfinished}
use Rattle.move_laws.proofs.Staying.{unfinished_same}
use Rattle.move_laws.proofs.Stopping.{hears}
use Rattle.move_laws.specs.Admits.{IsRunOf}
use Rattle.move_laws.specs.Cancelling.{HaveHeard, IsKept, is_to_hear}
use Rattle.move_laws.specs.Follows.{Follows, HoldsTask, cancel_of, outcome_at}
use Rattle.move_laws.specs.Kept.{SeenMoves}

-- the outcomes that are kept are those of the made tasks
have_outcomes : (s : Shared) (e : Events) (outcomes : List (Option Outcome))
    → ((k : ℕ) → k < made_count e → get_or outcomes k None ≡ outcome_at k (slice_get s.works k) e)
    → HaveOutcomes outcomes e 0 (made s e)
have_outcomes s e outcomes kept i k w at is =
    let there : slice_get (made s e) k ≡ Some w =
    subst (λ (j : ℕ). slice_get (made s e) j ≡ Some w) (omega (arith, at)) is in
    kept k (in_take (made_count e) s.works k w there)
    ∙ ap (λ (o : Option Work). outcome_at k o e) (in_front (made_count e) s.works k w there)

-- ---- no task has heard yet

module _ (s : Shared) (events : Events) (reason : Reason) (run : IsRunOf s (Stopped reason ∷ events)) (m : SeenMoves)
    (follows : Follows s events m) (first : m.reason ≡ None) where
  pub begins : HaveHeard s events reason 0 (record m { reason = Some reason })
  begins = record {
    count = follows.count;
    queue = follows.queue;
    buffers = follows.buffers;
    some_lane = follows.some_lane;
    lanes = follows.lanes;
    made_is = follows.made_is;
    lined = follows.lined;
    unfinished = follows.unfinished ∙ sym (open_is_unfinished s events m.outcomes 0 (made s events)
        (have_outcomes s events m.outcomes (λ k l. follows.outcomes k)));
    reason_is = refl;
    first = sym follows.reason ∙ first;
    parts = alike_unfreed (is_cancelled s.works events) (is_to_hear s.works events 0) s.works (Stopped reason ∷ events)
        m.parts.slots
        (λ t. sym (ap (λ (b : Bool). not b && is_cancelled s.works events t) (le-ltb t 0 (omega arith))))
        (cancel_leaves_parts s events m.parts.slots reason run.run.1 follows.parts);
    held = λ n number l. follows.parts.held n number refl;
    told = λ n l. absurd (omega arith);
    untold = λ n l. record {
      act = follows.acts n;
      outcome = follows.outcomes n;
      lost = follows.lost n;
      state = follows.tasks n;
    };
  }

-- ---- each has heard

module _ (s : Shared) (events : Events) (reason : Reason) (m : SeenMoves)
    (heard : HaveHeard s events reason (made_count events) m) where
  abbrev after : Events
  after = Stopped reason ∷ events

  none_behind : (n : ℕ) → nat_lt n (made_count events) ≡ false → slice_get (made s events) n ≡ None
  none_behind n e =
      front_at (made_count events) s.works n ∙ ap (λ (b : Bool). if b then slice_get s.works n else None) e

  no_outcome : (e : Events) (n : ℕ) (o : Option Work) → nat_lt n (made_count e) ≡ false → outcome_at n o e ≡ None
  no_outcome e n None l = refl
  no_outcome e n (Some w) l =
      ap (λ (b : Bool). if b then (if lacks_memory n e then Some (outcome.Failed cause.Memory)
      else outcome_of w (share w n e)) else None) l

  all_kept : (n : ℕ) (b : Bool) → nat_lt n (made_count events) ≡ b → IsKept s after m n
  all_kept n true e = heard.told n (ltb-true n (made_count events) e)
  all_kept n false e =
      let kept = heard.untold n (ltb-false n (made_count events) e) in
      let none = none_behind n e in
      record {
        act = kept.act ∙ ap (λ (o : Option Work). sort_at s events n o) none
            ∙ sym (ap (λ (o : Option Work). sort_at s after n o) none);
        outcome = kept.outcome ∙ no_outcome events n (slice_get s.works n) e
            ∙ sym (no_outcome after n (slice_get s.works n) e);
        lost = kept.lost;
        state = λ w there fits. absurd (nothing (sym none ∙ there));
      }

  kept_all : (n : ℕ) → IsKept s after m n
  kept_all n = all_kept n (nat_lt n (made_count events)) refl

  heard_all : (a c : Bool) → (not a && (a && c)) ≡ false
  heard_all true c = refl
  heard_all false c = refl

  pub ends : Follows s after m
  ends = record {
    count = heard.count;
    queue = heard.queue;
    buffers = heard.buffers;
    some_lane = heard.some_lane;
    lanes = others_stay s events m.lanes (Stopped reason) refl heard.lanes;
    acts = λ n. (kept_all n).act;
    parts = alike_unfreed (is_to_hear s.works events (made_count events)) none_unfreed s.works after m.parts.slots
        (λ t. heard_all (nat_lt t (made_count events)) (goes_on (slice_get s.works t) t events)) heard.parts;
    made_is = heard.made_is;
    lined = heard.lined;
    unfinished = heard.unfinished ∙ open_is_unfinished s after m.outcomes 0 (made s after)
        (have_outcomes s after m.outcomes (λ k l. (kept_all k).outcome));
    reason = heard.reason_is ∙ sym (ap (λ (x : Option Reason). option_or x (Some reason)) heard.first);
    outcomes = λ n. (kept_all n).outcome;
    tasks = λ n. (kept_all n).state;
    lost = λ n. (kept_all n).lost;
  }

-- ---- a second cancel

module _ (w : Work) (h : History) (reason : Reason) (had : IsSome (first_reason h)) where
  abbrev now : History
  now = Cancelled reason ∷ h

  same : AreAlike w h now
  same = cancel_stays_alike w h h reason had (starts_alike w h)

  says : SayTheSame w h now
  says = alike_says_the_same w h now same.told_are

  same_part : (n : ℕ) → has_part w now n ≡ has_part w h n
  same_part n =
      sym (alike w (is_stopped w h) (is_stopped w now) (stage w h (act.Read n)) (stage w now (act.Read n))
      (stage w h (act.Place n)) (stage w now (act.Place n)) (stage w h (job_of w n)) (stage w now (job_of w n))
      says.stopped (says.stages (act.Read n)) (says.stages (act.Place n)) (says.stages (job_of w n)))

  same_sort : (a : Act) → sort_of w now a ≡ sort_of w h a
  same_sort (act.Send op.Get n) = ap (λ (b : Bool). if b then sort.Job else sort.Get) (same_part n)
  same_sort (act.Send op.Head n) = refl
  same_sort (act.Send op.Put n) = refl
  same_sort (act.Send op.Copy n) = refl
  same_sort (act.Send op.Delete n) = refl
  same_sort (act.Send op.Create n) = refl
  same_sort (act.Send op.Part n) = refl
  same_sort (act.Send op.PartCopy n) = refl
  same_sort (act.Send op.Complete n) = refl
  same_sort (act.Send op.Abort n) = refl
  same_sort (act.Send op.List n) = refl
  same_sort (act.Send op.Buckets n) = refl
  same_sort (act.Read n) = refl
  same_sort act.Assemble = refl
  same_sort (act.Place n) = refl
  same_sort act.Rename = refl
  same_sort act.DropTemp = refl
  same_sort act.Remove = refl
  same_sort act.Stamp = refl

  same_if : (a : Option Act) → sort_if w now a ≡ sort_if w h a
  same_if None = refl
  same_if (Some a) = ap (λ (x : ActSort). Some x) (same_sort a)

  same_holds : (room : ℕ) (o : Option SeenTask) → HoldsTask room w h o → HoldsTask room w now o
  same_holds room None ended = record {
    ended = subst (λ (x : Option Outcome). IsSome x) says.outcome ended.ended;
    waits = sym says.ready ∙ ended.waits;
  }
  same_holds room (Some t) holds = (
    record {
      heard = holds.0.heard;
      stands = holds.0.stands;
      alike = cancel_stays_alike w holds.0.heard h reason had holds.0.alike;
      parts = holds.0.parts;
    },
    holds.1,
  )

module _ (s : Shared) (events : Events) (reason : Reason) (run : IsRunOf s (Stopped reason ∷ events)) (m : SeenMoves)
    (follows : Follows s events m) (had : IsSome m.reason) where
  abbrev later : Events
  later = Stopped reason ∷ events

  had_one : IsSome (cancel_of events)
  had_one = subst (λ (x : Option Reason). IsSome x) follows.reason had

  each_had : (w : Work) (n : ℕ) → IsSome (first_reason (share w n events))
  each_had w n = subst (λ (x : Option Reason). IsSome x) (sym (hears w n events)) had_one

  sort_again : (n : ℕ) (o : Option Work) → sort_at s later n o ≡ sort_at s events n o
  sort_again n None = refl
  sort_again n (Some w) =
      same_if w (share w n events) reason (each_had w n) _
      ∙ ap (λ (a : Option Act). sort_if w (share w n events) (if lacks_memory n events then None else a))
      (sym (says w (share w n events) reason (each_had w n)).ready)

  outcome_again : (w : Work) (n : ℕ) → outcome_in w n later ≡ outcome_in w n events
  outcome_again w n =
      ap (λ (o : Option Outcome). if nat_lt n (made_count events)
      then (if lacks_memory n events then Some (outcome.Failed cause.Memory) else o) else None)
      (sym (says w (share w n events) reason (each_had w n)).outcome)

  at_again : (n : ℕ) (o : Option Work) → outcome_at n o later ≡ outcome_at n o events
  at_again n None = refl
  at_again n (Some w) = outcome_again w n

  keeps_first : (x : Option Reason) → IsSome x → option_or x (Some reason) ≡ x
  keeps_first None e = no e
  keeps_first (Some q) e = refl

  stops : (a : Option Cause) (b : Option Reason) → IsSome b → (is_some a || is_some b) ≡ true
  stops a None e = no e
  stops None (Some q) e = refl
  stops (Some why) (Some q) e = refl

  none_goes_on : (t : ℕ) (o : Option Work) → goes_on o t events ≡ false
  none_goes_on t None = refl
  none_goes_on t (Some w) =
      ap not (stops (first_failure w (share w t events)) (first_reason (share w t events)) (each_had w t))

  and_false : (b c : Bool) → c ≡ false → (b && c) ≡ false
  and_false true c e = e
  and_false false c e = refl

  pub follows_again : Follows s later m
  follows_again = record {
    count = follows.count;
    queue = follows.queue;
    buffers = follows.buffers;
    some_lane = follows.some_lane;
    lanes = others_stay s events m.lanes (Stopped reason) refl follows.lanes;
    acts = λ n. follows.acts n ∙ sym (sort_again n (slice_get (made s events) n));
    parts = alike_unfreed (is_cancelled s.works events) none_unfreed s.works later m.parts.slots
        (λ t. and_false (nat_lt t (made_count events)) (goes_on (slice_get s.works t) t events)
        (none_goes_on t (slice_get s.works t)))
        (cancel_leaves_parts s events m.parts.slots reason run.run.1 follows.parts);
    made_is = follows.made_is;
    lined = follows.lined;
    unfinished = follows.unfinished ∙ sym (unfinished_same s events later outcome_again 0 (made s events));
    reason = follows.reason ∙ sym (keeps_first (cancel_of events) had_one);
    outcomes = λ n. follows.outcomes n ∙ sym (at_again n (slice_get s.works n));
    tasks = λ n w there fits.
        same_holds w (share w n events) reason (each_had w n) m.parts.pool.room (get_or m.slots n None)
        (follows.tasks n w there fits);
    lost = follows.lost;
  }

-- ---- by what is kept alone

none_is : (o : Option Reason) → is_some o ≡ false → o ≡ None
none_is None e = refl
none_is (Some reason) e = no (sym e)

pub begins_at : (reason : Reason) (m told : SeenMoves) → told ≡ record m { reason = Some reason }
    → is_some m.reason ≡ false → (s : Shared) (events : Events) → IsRunOf s (Stopped reason ∷ events)
    → Follows s events m → HaveHeard s events reason 0 told
begins_at reason m told is none s events run follows =
    subst (λ (x : SeenMoves). HaveHeard s events reason 0 x) (sym is)
    (begins s events reason run m follows (none_is m.reason none))

pub ends_at : (s : Shared) (events : Events) (reason : Reason) (below : ℕ) (m : SeenMoves) → below ≡ made_count events
    → HaveHeard s events reason below m → Follows s (Stopped reason ∷ events) m
ends_at s events reason below m e heard =
    ends s events reason m (subst (λ (n : ℕ). HaveHeard s events reason n m) e heard)
