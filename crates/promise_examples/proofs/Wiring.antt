-- Wires and jobs that are written out: which clauses of what is carried hold of them where one is broken.
use Rattle.std.proofs.Common.{◌≡◌, ◌+◌, ◌<◌, ◌≤◌, ℕ, zero, suc, Bool, true, false, cond, List, [], ◌∷◌, Option, Some, None, refl, sym, subst, inl, filter, length, map, arith}
use Rattle.std.specs.Prelude.{◌≢◌, flat_map}
use Rattle.s3_model.specs.declared.answers.Listed.{Listed}
use Rattle.s3_model.specs.declared.outcomes.Event.TheVariants as entry
use Rattle.job_terms.specs.Attempts.{AreNoted, in_lane, numbered_from}
use Rattle.job_terms.specs.Dispatches.{Attempt, Dispatched, dispatches, last_of}
use Rattle.promise_examples.specs.Alone.{Clause, Shown, Comes, Lanes, UnusedLanes, NothingElse, InTurn, Gained, Noted, Marks, Again, GivenAgain, AtMost, ToTheEnd, Silent, Says, IsExcused, GoesOn}
use Rattle.promise_examples.specs.Reading.{Reads, body_by, signed_body}
use Rattle.promise_examples.specs.Runs.{Example}
use Rattle.promise_examples.proofs.Carrying as carrying
use Rattle.promise_examples.proofs.Concrete.{Each, each, Pairs, pairs, Slots, slot, none_is_some, some_is}
use Rattle.promise_examples.proofs.Readings.{never_memory, reads, shown_by}
use Rattle.promise_examples.proofs.Repeats.{Repeats, all_repeats}

-- ---- jobs of a lane

each_kept : {X : Type 0} (P : X → Type 0) (test : X → Bool) (xs : List X) → Each P xs → Each P (filter test xs)
each_kept P test [] all = tt
each_kept P test (x ∷ xs) all = from (test x) (each_kept P test xs all.1)
  where
    from : (t : Bool) → Each P (filter test xs) → Each P (cond t (x ∷ filter test xs) (filter test xs))
    from true rest = (all.0, rest)
    from false rest = rest

pub pairs_kept : {X : Type 0} (R : X → X → Type 0) (test : X → Bool) (xs : List X) → Pairs R xs → Pairs R (filter test xs)
pairs_kept R test [] all = tt
pairs_kept R test (x ∷ xs) all = from (test x) (pairs_kept R test xs all.1)
  where
    from : (t : Bool) → Pairs R (filter test xs) → Pairs R (cond t (x ∷ filter test xs) (filter test xs))
    from true rest = (each_kept (R x) test xs all.0, rest)
    from false rest = rest

-- what yields nothing of each yields nothing of those that pass a test
pub none_of_kept : {X Y : Type 0} (f : X → List Y) (test : X → Bool) (xs : List X) → Each (λ x. f x ≡ []) xs → flat_map f (filter test xs) ≡ []
none_of_kept f test [] all = refl
none_of_kept f test (x ∷ xs) all = from (test x) (none_of_kept f test xs all.1)
  where
    from : (t : Bool) → flat_map f (filter test xs) ≡ [] → flat_map f (cond t (x ∷ filter test xs) (filter test xs)) ≡ []
    from true rest = rw all.0 rest
    from false rest = rest

-- what holds of the first lane with its jobs, and of each other one without
pub by_lane : (P : ℕ → List Dispatched → Type 0) (jobs : List Dispatched) → Each (carrying.IsInLanes 1) jobs → P 0 (in_lane 0 jobs) → ((lane : ℕ) → P (suc lane) []) → (lane : ℕ) → P lane (in_lane lane jobs)
by_lane P jobs first here there zero = here
by_lane P jobs first here there (suc lane) = subst (P (suc lane)) (sym (carrying.none_beyond 1 (suc lane) jobs first (omega arith))) (there lane)

module _ (page_of : List ℕ → Listed) (e : Example) (jobs coming : List Dispatched) where
  abbrev pub LastEnds : Dispatched → Option Attempt → Type 0
  LastEnds c None = Unit {0}
  LastEnds c (Some attempt) = carrying.Goes page_of e.setting coming c attempt → carrying.MayEnd page_of e.setting coming c

  abbrev pub IsSpoken : Dispatched → List Attempt → Type 0
  IsSpoken c [] = IsExcused page_of e jobs coming c
  IsSpoken c (attempt ∷ later) = Unit {0}

  abbrev pub Last : Dispatched → Type 0
  Last a = (attempt : Attempt) → last_of a.dispatch.attempts ≡ Some attempt → GoesOn page_of e jobs coming a attempt × (length a.dispatch.attempts < e.setting.config.attempts)

  abbrev pub Holds : Clause → Type 0
  Holds clause = Says page_of e jobs coming clause

  -- what is to be shown of each clause but the broken one
  pub record Parts (broken : Clause) : Type 0 where
    pub shown : Shown ≢ broken → map (λ (c : Dispatched). c.dispatch) jobs ≡ dispatches e.journal e.logs
    pub comes : Comes ≢ broken → Each (carrying.ComesOf page_of e.setting coming jobs e.journal) jobs
    pub lanes : Lanes ≢ broken → Each (carrying.IsInLanes e.setting.lanes) jobs
    pub unused : UnusedLanes ≢ broken → Holds UnusedLanes
    pub known : NothingElse ≢ broken → Slots (carrying.IsKnown page_of e.setting coming jobs) e.journal
    pub in_turn : InTurn ≢ broken → (lane : ℕ) → Pairs (carrying.InTurn page_of e.setting coming) (in_lane lane jobs)
    pub gained : Gained ≢ broken → Holds Gained
    pub noted : Noted ≢ broken → (lane : ℕ) → AreNoted (Reads page_of) signed_body [] 80 0 (flat_map (λ (c : Dispatched). numbered_from c 0 c.dispatch.attempts) (in_lane lane jobs)) (e.notes lane)
    pub marks : Marks ≢ broken → Each (λ (c : Dispatched). Slots (carrying.IsMarked page_of e.setting coming c) c.dispatch.attempts) jobs
    pub again : Again ≢ broken → Each (λ (c : Dispatched). Slots (carrying.GoesOn page_of e.setting coming c) c.dispatch.attempts) jobs
    pub given_again : GivenAgain ≢ broken → Repeats (λ (a b : Dispatched). Last a) jobs
    pub at_most : AtMost ≢ broken → Each (λ (c : Dispatched). c.dispatch.earlier + length c.dispatch.attempts ≤ e.setting.config.attempts) jobs
    pub ends : ToTheEnd ≢ broken → Each (λ (c : Dispatched). LastEnds c (last_of c.dispatch.attempts)) jobs
    pub silent : Silent ≢ broken → Each (λ (c : Dispatched). IsSpoken c c.dispatch.attempts) jobs

  of_last : (c : Dispatched) (last : Option Attempt) (attempt : Attempt) → LastEnds c last → last ≡ Some attempt → carrying.Goes page_of e.setting coming c attempt → carrying.MayEnd page_of e.setting coming c
  of_last c None attempt rule is goes = absurd (none_is_some attempt is)
  of_last c (Some last) attempt rule is goes = rule (subst (carrying.Goes page_of e.setting coming c) (sym (some_is last attempt is)) goes)

  of_none : (c : Dispatched) (all : List Attempt) → IsSpoken c all → all ≡ [] → IsExcused page_of e jobs coming c
  of_none c [] spoken none = spoken
  of_none c (attempt ∷ later) spoken none = cc

  pub holds : (broken : Clause) → Parts broken → (clause : Clause) → clause ≢ broken → Holds clause
  holds broken parts Shown other = parts.shown other
  holds broken parts Comes other = λ c known. each (carrying.ComesOf page_of e.setting coming jobs e.journal) jobs (parts.comes other) c known
  holds broken parts Lanes other = λ c known. each (carrying.IsInLanes e.setting.lanes) jobs (parts.lanes other) c known
  holds broken parts UnusedLanes other = parts.unused other
  holds broken parts NothingElse other = λ place lane job tries is. slot (carrying.IsKnown page_of e.setting coming jobs) e.journal (parts.known other) place (entry.Came job lane tries) is
  holds broken parts InTurn other = λ lane. pairs (carrying.InTurn page_of e.setting coming) (in_lane lane jobs) (parts.in_turn other lane)
  holds broken parts Gained other = parts.gained other
  holds broken parts Noted other = λ lane. (0, omega arith, parts.noted other lane)
  holds broken parts Marks other = λ c k attempt known is.
      inl (
        shown_by page_of c.ask attempt.talk,
        body_by page_of c.ask attempt.talk.got,
        reads page_of c.ask c.limit attempt.talk,
        slot (carrying.IsMarked page_of e.setting coming c) c.dispatch.attempts (each (λ (d : Dispatched). Slots (carrying.IsMarked page_of e.setting coming d) d.dispatch.attempts) jobs (parts.marks other) c known) k attempt is,
        λ wanting. absurd (never_memory page_of attempt.talk.ending c.ask attempt.talk.got wanting),
      )
  holds broken parts Again other = λ c k attempt known is more.
      carrying.would_go_on page_of e.setting coming c attempt (slot (carrying.GoesOn page_of e.setting coming c) c.dispatch.attempts
      (each (λ (d : Dispatched). Slots (carrying.GoesOn page_of e.setting coming d) d.dispatch.attempts) jobs (parts.again other) c known) k attempt is more)
  holds broken parts GivenAgain other = all_repeats (λ (a b : Dispatched). Last a) jobs (parts.given_again other)
  holds broken parts AtMost other = λ c known. each (λ (d : Dispatched). d.dispatch.earlier + length d.dispatch.attempts ≤ e.setting.config.attempts) jobs (parts.at_most other) c known
  holds broken parts ToTheEnd other = λ c attempt known last goes.
      of_last c (last_of c.dispatch.attempts) attempt (each (λ (d : Dispatched). LastEnds d (last_of d.dispatch.attempts)) jobs (parts.ends other) c known) last (carrying.goes_on page_of e.setting coming c attempt goes)
  holds broken parts Silent other = λ c known none. of_none c c.dispatch.attempts (each (λ (d : Dispatched). IsSpoken d d.dispatch.attempts) jobs (parts.silent other) c known) none
