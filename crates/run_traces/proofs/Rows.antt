-- What the dispatches of a trace are in its journal: each comes once, in the order of its lane, and nothing else does.
use Rattle.std.proofs.Common.{◌≡◌, ◌∙◌, ◌==◌, ◌+◌, ◌<◌, ◌≤◌, ◌++◌, ℕ, zero, suc, List, [], ◌∷◌, Some, refl, sym, subst, ap, inl, inr, arith, slice_get}
use Rattle.std.proofs.lemmas.Option.{slice_get_within}
use Rattle.jobs.specs.Endings.{SeenCarried}
use Rattle.s3_model.specs.Talks.{Talk}
use Rattle.s3_model.specs.declared.outcomes.Event.{Event as Entry}
use Rattle.s3_model.specs.declared.outcomes.Event.TheVariants as entry
use Rattle.s3_model.specs.declared.outcomes.JobId.{JobId}
use Rattle.s3_model.specs.declared.tries.Mark.{Mark}
use Rattle.shared_lemmas.proofs.Clashes.{none_is_some, some_is}
use Rattle.shared_lemmas.proofs.Members.{Has, kept, place_in_front, place_middle}
use Rattle.run_traces.specs.Traces.{Called, Gave, Lined, Made, RunStep, RunTrace, Stopped, Took, journal_of}
use Rattle.run_traces.proofs.Dispatching.{Numbered, Row, number_of, rows_in}
use Rattle.run_traces.proofs.Pending.{more_or_same}
use Rattle.run_traces.proofs.Splits.{before_it, same_split, snoc_at}
use Rattle.run_traces.proofs.Steps.{entries_grow, entry_count, given_count, given_counted, given_grows, grow, journal-append, taken_count, taken_counted, taken_grows, taken_in, took_counted}
use Rattle.run_traces.proofs.Turns.{taken_there}

-- ---- the step of a completion in the journal

pub record EntryAt (t : RunTrace) (place lane : ℕ) : Type 0 where
  pub later : RunTrace
  pub before : RunTrace
  pub carried : SeenCarried
  pub is : t ≡ later ++ Took lane carried ∷ before
  pub place_is : entry_count before ≡ place

entry_later : (x : RunStep) (t : RunTrace) (place lane : ℕ) → EntryAt t place lane → EntryAt (x ∷ t) place lane
entry_later x t place lane at = record { later = x ∷ at.later; before = at.before; carried = at.carried; is = ap (λ (s : RunTrace). x ∷ s) at.is; place_is = at.place_is }

given_or_came : (a b : JobId) (lane to : ℕ) (tries : List Mark) → entry.Given a lane ≡ entry.Came b to tries → ⊥
given_or_came a b lane to tries e = cc

lane_same : (a b : JobId) (lane to : ℕ) (one other : List Mark) → entry.Came a lane one ≡ entry.Came b to other → lane ≡ to
lane_same a b lane to one other e = cc

pub entry_at : (t : RunTrace) (place lane : ℕ) (job : JobId) (tries : List Mark) → slice_get (journal_of t) place ≡ Some (entry.Came job lane tries) → EntryAt t place lane
entry_at [] place lane job tries e = absurd (none_is_some (entry.Came job lane tries) e)
entry_at (Gave to new ∷ t) place lane job tries e = elim (snoc_at (journal_of t) (entry.Given new.id to) place (entry.Came job lane tries) e) [
  | inl there ↦ entry_later (Gave to new) t place lane (entry_at t place lane job tries there)
  | inr last ↦ absurd (given_or_came new.id job to lane tries last.1)
]
entry_at (Took from c ∷ t) place lane job tries e = elim (snoc_at (journal_of t) (entry.Came c.job.id from c.tries) place (entry.Came job lane tries) e) [
  | inl there ↦ entry_later (Took from c) t place lane (entry_at t place lane job tries there)
  | inr last ↦ record {
    later = [];
    before = t;
    carried = c;
    is = ap (λ (l : ℕ). Took l c ∷ t) (lane_same c.job.id job from lane c.tries tries last.1);
    place_is = sym last.0;
  }
]
entry_at (Called task called result steps notes ∷ t) place lane job tries e = entry_later (Called task called result steps notes) t place lane (entry_at t place lane job tries e)
entry_at (Made fits ∷ t) place lane job tries e = entry_later (Made fits) t place lane (entry_at t place lane job tries e)
entry_at (Lined ∷ t) place lane job tries e = entry_later Lined t place lane (entry_at t place lane job tries e)
entry_at (Stopped reason ∷ t) place lane job tries e = entry_later (Stopped reason) t place lane (entry_at t place lane job tries e)

took_lane : (lane other : ℕ) (c d : SeenCarried) → ◌≡◌ {A = RunStep} (Took lane c) (Took other d) → lane ≡ other
took_lane lane other c d e = cc

module _ (trace : RunTrace) (shares : ℕ → ℕ → List Talk) where
  abbrev ARow : Type 0
  ARow = Row trace shares

  -- what stood before its completion
  abbrev pub behind : ARow → RunTrace
  behind row = row.between ++ Gave row.dispatch.lane row.job ∷ row.before

  -- ---- its completion

  pub came_there : (row : ARow) → slice_get (journal_of trace) (entry_count (behind row)) ≡ Some (entry.Came row.carried.job.id row.dispatch.lane row.carried.tries)
  came_there row =
      let last = entry.Came row.carried.job.id row.dispatch.lane row.carried.tries in
      ap (λ (t : RunTrace). slice_get (journal_of t) (entry_count (behind row))) row.is
      ∙ ap (λ (es : List Entry). slice_get es (entry_count (behind row))) (journal-append row.later (Took row.dispatch.lane row.carried ∷ behind row))
      ∙ place_in_front (journal_of (behind row) ++ last ∷ []) (journal_of row.later) (entry_count (behind row)) last (place_middle (journal_of (behind row)) last [])

  one_more : (m n : ℕ) → n ≡ m + 1 → m < n
  one_more m n e = omega arith

  same_number : (row other : ARow) → row.dispatch.lane ≡ other.dispatch.lane → behind row ≡ behind other → number_of trace shares row ≡ number_of trace shares other
  same_number row other lane same =
      sym row.taken_number ∙ ap (λ (t : RunTrace). taken_count row.dispatch.lane t) same ∙ ap (λ (l : ℕ). taken_count l (behind other)) lane ∙ other.taken_number

  -- dispatches that come at one place are of one job
  pub same_came : (row other : ARow) → entry_count (behind row) ≡ entry_count (behind other) → entry_count row.before ≡ entry_count other.before
  same_came row other e =
      let one = same_split entry_count entries_grow row.later other.later (Took row.dispatch.lane row.carried) (Took other.dispatch.lane other.carried) (behind row) (behind other)
      (one_more _ _ (took_counted row.dispatch.lane row.carried (behind row))) (one_more _ _ (took_counted other.dispatch.lane other.carried (behind other))) (sym row.is ∙ other.is) e in
      let lane = took_lane row.dispatch.lane other.dispatch.lane row.carried other.carried one.step_is in
      let given = same_split (given_count other.dispatch.lane) (given_grows other.dispatch.lane) row.between other.between (Gave row.dispatch.lane row.job) (Gave other.dispatch.lane other.job) row.before other.before
      (subst (λ (l : ℕ). given_count other.dispatch.lane row.before < given_count other.dispatch.lane (Gave l row.job ∷ row.before)) (sym lane) (one_more _ _ (given_counted other.dispatch.lane row.job row.before)))
      (one_more _ _ (given_counted other.dispatch.lane other.job other.before)) one.before_is
      (ap (λ (l : ℕ). given_count l row.before) (sym lane) ∙ same_number row other lane one.before_is) in
      ap entry_count given.before_is

  -- a lane gives back in order
  pub comes_earlier : (row other : ARow) → row.dispatch.lane ≡ other.dispatch.lane → number_of trace shares row < number_of trace shares other → entry_count (behind row) < entry_count (behind other)
  comes_earlier row other lane less =
      let first = ap (λ (l : ℕ). taken_count l (behind row)) (sym lane) ∙ row.taken_number in
      let second = other.taken_number in
      let more = one_more _ _ (taken_counted other.dispatch.lane other.carried (behind other)) in
      let at = before_it (taken_count other.dispatch.lane) (taken_grows other.dispatch.lane) row.later other.later (Took row.dispatch.lane row.carried) (Took other.dispatch.lane other.carried) (behind row) (behind other)
      more (sym row.is ∙ other.is) (omega arith) in
      let above = grow entry_count entries_grow at.0 (Took row.dispatch.lane row.carried ∷ behind row) in
      let one = took_counted row.dispatch.lane row.carried (behind row) in
      let same = ap entry_count at.1 in
      omega arith

  -- ---- those of a lane

  pub numbered_at : (lane number : ℕ) (rows : List ARow) → Numbered trace shares lane number rows → (k : ℕ) (row : ARow) → slice_get rows k ≡ Some row → (row.dispatch.lane ≡ lane) × (number_of trace shares row ≡ number + k)
  numbered_at lane number [] all k row e = absurd (none_is_some row e)
  numbered_at lane number (first ∷ rows) all zero row e =
      let same = some_is first row e in
      let none_more : number ≡ number + 0 = omega arith in
      (ap (λ (r : ARow). r.dispatch.lane) (sym same) ∙ all.0, ap (λ (r : ARow). number_of trace shares r) (sym same) ∙ all.1 ∙ none_more)
  numbered_at lane number (first ∷ rows) all (suc k) row e =
      let next = numbered_at lane (number + 1) rows all.2 k row e in
      let one_on : (number + 1) + k ≡ number + suc k = omega arith in
      (next.0, next.1 ∙ one_on)

  numbered_has : (lane number : ℕ) (rows : List ARow) → Numbered trace shares lane number rows → (m : ℕ) → number ≤ m → m < given_count lane trace
      → (row : ARow) × Has rows row × (row.dispatch.lane ≡ lane) × (number_of trace shares row ≡ m)
  numbered_has lane number [] all m low high = absurd (let is = all in omega arith)
  numbered_has lane number (row ∷ rows) all m low high = elim (more_or_same number m low) [
    | inl less ↦ let next = numbered_has lane (number + 1) rows all.2 m (omega arith) high in (next.0, inr next.1, next.2, next.3)
    | inr same ↦ (row, inl refl, all.0, all.1 ∙ same)
  ]

  -- what came is one of them
  pub row_coming : (rows : List ARow) → ((lane : ℕ) → Numbered trace shares lane 0 (rows_in trace shares lane rows)) → ((lane : ℕ) → taken_count lane trace ≡ given_count lane trace)
      → (place lane : ℕ) (job : JobId) (tries : List Mark) → slice_get (journal_of trace) place ≡ Some (entry.Came job lane tries) → (row : ARow) × Has rows row × (row.dispatch.came_at ≡ Some place)
  row_coming rows numbered all_come place lane job tries e =
      let at = entry_at trace place lane job tries e in
      let within = slice_get_within (taken_in lane trace) (taken_count lane at.before) at.carried (taken_there trace at.later at.before lane at.carried at.is) in
      let all = all_come lane in
      let found = numbered_has lane 0 (rows_in trace shares lane rows) (numbered lane) (taken_count lane at.before) (omega arith) (omega arith) in
      let row = found.0 in
      let count : taken_count lane (behind row) ≡ taken_count lane at.before = ap (λ (l : ℕ). taken_count l (behind row)) (sym found.2) ∙ row.taken_number ∙ found.3 in
      let here = subst (λ (l : ℕ). taken_count lane (behind row) < taken_count lane (Took l row.carried ∷ behind row)) (sym found.2) (one_more _ _ (taken_counted lane row.carried (behind row))) in
      let one = same_split (taken_count lane) (taken_grows lane) row.later at.later (Took row.dispatch.lane row.carried) (Took lane at.carried) (behind row) at.before here (one_more _ _ (taken_counted lane at.carried at.before))
      (sym row.is ∙ at.is) count in
      (row, kept (λ (r : ARow). r.dispatch.lane == lane) rows row found.1, row.came_at ∙ ap (λ (t : RunTrace). Some (entry_count t)) one.before_is ∙ ap (λ (k : ℕ). Some k) at.place_is)
