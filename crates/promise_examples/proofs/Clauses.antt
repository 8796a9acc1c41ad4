-- Clauses are told apart: what all but one say, and that one, all of them say.
use Rattle.std.proofs.Common.{◌≡◌, ◌∙◌, ◌⊎◌, ℕ, zero, suc, List, [], ◌∷◌, Some, refl, sym, ap, subst, inl, inr, slice_get, arith}
use Rattle.std.specs.Prelude.{◌≢◌}
use Rattle.s3_model.specs.declared.answers.Listed.{Listed}
use Rattle.job_terms.specs.Dispatches.{Dispatched}
use Rattle.run_promise.specs.Schedule.{IsSchedule}
use Rattle.promise_examples.specs.Alone as wires
use Rattle.promise_examples.specs.Alone.{Clause, BreaksAlone, Carries, ClausesAreAll, Says}
use Rattle.promise_examples.specs.Reading.{Reads}
use Rattle.promise_examples.specs.Refused.{IsRefused}
use Rattle.promise_examples.specs.Rules as rules
use Rattle.promise_examples.specs.Rules.{Rule}
use Rattle.promise_examples.specs.Runs.{Example}
use Rattle.promise_examples.specs.TraceBreaks as traces
use Rattle.promise_examples.specs.TraceBreaks.{TraceClause}
use Rattle.promise_examples.proofs.Concrete.{some_is}

same_or_not : (m n : ℕ) → (m ≡ n) ⊎ (m ≢ n)
same_or_not zero zero = inl refl
same_or_not zero (suc n) = inr (λ e. absurd (omega arith))
same_or_not (suc m) zero = inr (λ e. absurd (omega arith))
same_or_not (suc m) (suc n) = elim (same_or_not m n) [
  | inl same ↦ inl (ap (λ (k : ℕ). suc k) same)
  | inr other ↦ inr (λ e. other (omega arith))
]

-- each stands in a list, at its place
module _ {X : Type 0} (xs : List X) (places : (x : X) → (k : ℕ) × (slice_get xs k ≡ Some x)) where
  by_place : (a b : X) → (places a).0 ≡ (places b).0 → a ≡ b
  by_place a b e = some_is a b (sym (places a).1 ∙ ap (λ (k : ℕ). slice_get xs k) e ∙ (places b).1)

  pub every : (P : X → Type 0) (broken : X) → ((x : X) → x ≢ broken → P x) → P broken → (x : X) → P x
  every P broken others says x = elim (same_or_not (places x).0 (places broken).0) [
    | inl same ↦ subst P (sym (by_place x broken same)) says
    | inr other ↦ others x (λ e. other (ap (λ (y : X). (places y).0) e))
  ]

-- ---- of what is carried

abbrev clauses : List Clause
clauses =
    wires.Shown ∷ wires.Comes ∷ wires.Lanes ∷ wires.UnusedLanes ∷ wires.NothingElse ∷ wires.InTurn ∷ wires.Gained ∷ wires.Noted ∷ wires.Marks ∷ wires.Again ∷ wires.GivenAgain ∷ wires.AtMost ∷ wires.ToTheEnd ∷ wires.Silent ∷ []

clause_at : (clause : Clause) → (k : ℕ) × (slice_get clauses k ≡ Some clause)
clause_at wires.Shown = (0, refl)
clause_at wires.Comes = (1, refl)
clause_at wires.Lanes = (2, refl)
clause_at wires.UnusedLanes = (3, refl)
clause_at wires.NothingElse = (4, refl)
clause_at wires.InTurn = (5, refl)
clause_at wires.Gained = (6, refl)
clause_at wires.Noted = (7, refl)
clause_at wires.Marks = (8, refl)
clause_at wires.Again = (9, refl)
clause_at wires.GivenAgain = (10, refl)
clause_at wires.AtMost = (11, refl)
clause_at wires.ToTheEnd = (12, refl)
clause_at wires.Silent = (13, refl)

-- ---- of the schedule

abbrev all_rules : List Rule
all_rules =
    rules.IsComing ∷ rules.InOrder ∷ rules.Asks ∷ rules.Plans ∷ rules.Planned ∷ rules.Numbered ∷ rules.OneByOne ∷ rules.Dry ∷ rules.Twice ∷ rules.NoThird ∷ rules.Stops ∷ rules.AbortLast ∷ rules.Aborts ∷ rules.CompletedStays ∷ rules.MovesLast ∷ []

rule_at : (rule : Rule) → (k : ℕ) × (slice_get all_rules k ≡ Some rule)
rule_at rules.IsComing = (0, refl)
rule_at rules.InOrder = (1, refl)
rule_at rules.Asks = (2, refl)
rule_at rules.Plans = (3, refl)
rule_at rules.Planned = (4, refl)
rule_at rules.Numbered = (5, refl)
rule_at rules.OneByOne = (6, refl)
rule_at rules.Dry = (7, refl)
rule_at rules.Twice = (8, refl)
rule_at rules.NoThird = (9, refl)
rule_at rules.Stops = (10, refl)
rule_at rules.AbortLast = (11, refl)
rule_at rules.Aborts = (12, refl)
rule_at rules.CompletedStays = (13, refl)
rule_at rules.MovesLast = (14, refl)

pub every_rule : (P : Rule → Type 0) (broken : Rule) → ((rule : Rule) → rule ≢ broken → P rule) → P broken → (rule : Rule) → P rule
every_rule = every all_rules rule_at

-- ---- of a trace

abbrev trace_clauses : List TraceClause
trace_clauses =
    traces.Moves ∷ traces.Begins ∷ traces.SinceGiven ∷ traces.UntilCame ∷ traces.Once ∷ traces.Answers ∷ traces.Served ∷ traces.Runs ∷ traces.OneContent ∷ traces.NotWritten ∷ traces.NotRemoved ∷ []

trace_clause_at : (clause : TraceClause) → (k : ℕ) × (slice_get trace_clauses k ≡ Some clause)
trace_clause_at traces.Moves = (0, refl)
trace_clause_at traces.Begins = (1, refl)
trace_clause_at traces.SinceGiven = (2, refl)
trace_clause_at traces.UntilCame = (3, refl)
trace_clause_at traces.Once = (4, refl)
trace_clause_at traces.Answers = (5, refl)
trace_clause_at traces.Served = (6, refl)
trace_clause_at traces.Runs = (7, refl)
trace_clause_at traces.OneContent = (8, refl)
trace_clause_at traces.NotWritten = (9, refl)
trace_clause_at traces.NotRemoved = (10, refl)

pub every_trace_clause : (P : TraceClause → Type 0) (broken : TraceClause) → ((clause : TraceClause) → clause ≢ broken → P clause) → P broken → (clause : TraceClause) → P clause
every_trace_clause = every trace_clauses trace_clause_at

-- ---- a run that is refused breaks the clause that is left

module _ (page_of : List ℕ → Listed) where
  says_of : (e : Example) (dispatched coming : List Dispatched) → Carries page_of e dispatched coming → (clause : Clause) → Says page_of e dispatched coming clause
  says_of e dispatched coming carried wires.Shown = carried.shown
  says_of e dispatched coming carried wires.Comes = carried.comes
  says_of e dispatched coming carried wires.Lanes = carried.lanes
  says_of e dispatched coming carried wires.UnusedLanes = carried.unused_lanes
  says_of e dispatched coming carried wires.NothingElse = carried.nothing_else
  says_of e dispatched coming carried wires.InTurn = carried.in_turn
  says_of e dispatched coming carried wires.Gained = carried.gained
  says_of e dispatched coming carried wires.Noted = carried.noted
  says_of e dispatched coming carried wires.Marks = carried.marks
  says_of e dispatched coming carried wires.Again = carried.again
  says_of e dispatched coming carried wires.GivenAgain = carried.given_again
  says_of e dispatched coming carried wires.AtMost = carried.at_most
  says_of e dispatched coming carried wires.ToTheEnd = carried.to_the_end
  says_of e dispatched coming carried wires.Silent = carried.silent

  carries_of : (e : Example) (dispatched coming : List Dispatched) → ((clause : Clause) → Says page_of e dispatched coming clause) → Carries page_of e dispatched coming
  carries_of e dispatched coming all = record {
    shown = all wires.Shown;
    comes = all wires.Comes;
    lanes = all wires.Lanes;
    unused_lanes = all wires.UnusedLanes;
    nothing_else = all wires.NothingElse;
    in_turn = all wires.InTurn;
    gained = all wires.Gained;
    noted = all wires.Noted;
    marks = all wires.Marks;
    again = all wires.Again;
    given_again = all wires.GivenAgain;
    at_most = all wires.AtMost;
    to_the_end = all wires.ToTheEnd;
    silent = all wires.Silent;
  }

  pub clauses_are_all : ClausesAreAll page_of
  clauses_are_all e dispatched coming = (carries_of e dispatched coming, says_of e dispatched coming)

  pub breaks : (broken : Clause) (e : Example) (dispatched coming : List Dispatched) → IsRefused page_of e → IsSchedule (Reads page_of) e.setting (λ planning. planning ≡ []) dispatched coming
      → ((clause : Clause) → clause ≢ broken → Says page_of e dispatched coming clause) → BreaksAlone page_of broken e
  breaks broken e dispatched coming refused scheduled others = (
    dispatched,
    coming,
    scheduled,
    others,
    λ says. refused dispatched coming scheduled (carries_of e dispatched coming (every clauses clause_at (λ clause. Says page_of e dispatched coming clause) broken others says)),
  )
