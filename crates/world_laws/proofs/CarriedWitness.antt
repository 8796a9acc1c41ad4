-- Rounds in one lane, each tried once, keep to the clauses on carried jobs.
use Rattle.std.proofs.Common.{◌≡◌, ◌∙◌, ◌+◌, ◌<◌, ◌≤◌, ◌==◌, ℕ, true, false, Bool, List, [], ◌∷◌, Option, Some, refl, sym, ap, subst, inl, inr, Contains, AllPairs, get_or, length, map, slice_get, arith}
use Rattle.std.specs.Prelude.{flat_map}
use Rattle.std.proofs.lemmas.Option.{slice_get-get_or}
use Rattle.s3_model.specs.declared.requests.Ask.{Ask}
use Rattle.s3_model.specs.declared.answers.Class.{Class}
use Rattle.s3_model.specs.declared.answers.Class.TheVariants as class
use Rattle.s3_model.specs.declared.answers.Reply.{Reply}
use Rattle.s3_model.specs.declared.answers.Why.TheVariants as why
use Rattle.s3_model.specs.declared.tasks.Task.{Task}
use Rattle.s3_model.specs.Talks.{Talk, Note, Moment, Began}
use Rattle.run_promise.specs.Carried.{IsCarried}
use Rattle.job_terms.specs.Attempts.{AreNoted, IsSaid, Numbered, SaysAll, in_lane, mark_of, numbered_from, talks_of}
use Rattle.job_terms.specs.Dispatches.{Attempt, Dispatched, dispatches}
use Rattle.run_promise.specs.Schedule.{IsBefore, IsBeforeAny}
use Rattle.s3_service.specs.ServiceState.{State}
use Rattle.s3_model.specs.Maps.{MapOf}
use Rattle.s3_model.specs.Files.{HeldFile}
use Rattle.shared_lemmas.proofs.Clashes.{some_is}
use Rattle.shared_lemmas.proofs.Members.{Has, has}
use Rattle.world_laws.specs.Rounds.{Round, Told, attempt_of, body_by, class_by, dispatch_at, dispatched_from, ending_by, journal_of, mark_by, no_text, reply_to}
use Rattle.job_terms.proofs.SameJobs.{either_way}
use Rattle.world_laws.proofs.Rounds.{AreApart as AreOtherJobs, first_attempt, round_of, rounds_given, stands_at}
use Rattle.world_laws.proofs.ScheduleWitness.{AllPlain, in_order, same_place, setting_with}

abbrev pub logs_of : List Dispatched → ℕ → List Talk
logs_of dispatched lane = flat_map talks_of (in_lane lane dispatched)

-- at each attempt the wire notes a moment, and that a talk began
abbrev pub notes_at : Dispatched → List Note
notes_at c = Moment 0 ∷ Began ∷ []

abbrev pub notes_of : List Dispatched → ℕ → List Note
notes_of dispatched lane = flat_map notes_at (in_lane lane dispatched)

abbrev numbered : Dispatched → List Numbered
numbered c = numbered_from c 0 c.dispatch.attempts

abbrev no_notes : List Note
no_notes = []

none_began : Contains no_notes Began → ⊥
none_began h = has no_notes Began h

says_all : (port : ℕ) (shown : Class) → SaysAll Told no_text [] port shown [] []
says_all port (class.Success reply) = refl
says_all port (class.Refusal code message) = refl
says_all port (class.Uncertain why) = ([], refl)

said : (port place : ℕ) (r : Round) → r.size ≡ port → IsSaid Told no_text [] port (record { of = dispatch_at place r; number = 1; attempt = attempt_of r }) 0
said port place r size = record { to_host = refl; to_port = size; text = λ shown bytes told. says_all port shown; beginning = ([], refl) }

all_noted : (port : ℕ) (rounds : List Round) (place : ℕ) → ((r : Round) → Has rounds r → r.size ≡ port)
    → AreNoted Told no_text [] port 0 (flat_map numbered (dispatched_from place rounds)) (flat_map notes_at (dispatched_from place rounds))
all_noted port [] place sized = (none_began, inl refl)
all_noted port (r ∷ rounds) place sized =
    ([], 0, flat_map notes_at (dispatched_from (place + 2) rounds), [], refl, none_began, refl, inl refl, said port place r (sized r (inl refl)), all_noted port rounds (place + 2) (λ other h. sized other (inr h)))

-- all are in the first lane
all_in : (lane : ℕ) → (0 == lane) ≡ true → (rounds : List Round) (place : ℕ) → in_lane lane (dispatched_from place rounds) ≡ dispatched_from place rounds
all_in lane here [] place = refl
all_in lane here (r ∷ rounds) place = rw here (ap (λ rest. dispatch_at place r ∷ rest) (all_in lane here rounds (place + 2)))

none_in : (lane : ℕ) → (0 == lane) ≡ false → (rounds : List Round) (place : ℕ) → in_lane lane (dispatched_from place rounds) ≡ []
none_in lane other [] place = refl
none_in lane other (r ∷ rounds) place = rw other (none_in lane other rounds (place + 2))

mark_same : (refused : Bool) (asked : Ask) (got : List ℕ) (size : ℕ) → mark_by refused ≡ mark_of (class_by (ending_by refused) asked got size)
mark_same true asked got size = refl
mark_same false asked got size = refl

-- no round wants memory
no_memory : (refused : Bool) (asked : Ask) (got : List ℕ) (size : ℕ) → class_by (ending_by refused) asked got size ≡ class.Uncertain why.Memory → ⊥
no_memory true asked got size e = clash e
  where
    clash : class.Refusal got [] ≡ class.Uncertain why.Memory → ⊥
    clash f = cc
no_memory false asked got size e = clash (reply_to asked got size) e
  where
    clash : (answered : Reply) → class.Success answered ≡ class.Uncertain why.Memory → ⊥
    clash answered f = cc

one_none : (attempt : Attempt) → attempt ∷ [] ≡ [] → ⊥
one_none attempt e = cc

module _ (held : MapOf HeldFile) (task : Task) (rounds : List Round) (start : State) (apart : AreOtherJobs rounds) (plain : AllPlain rounds) (port : ℕ)
    (sized : (r : Round) → Has rounds r → r.size ≡ port) where
  abbrev all : List Dispatched
  all = dispatched_from 0 rounds

  -- what holds of the dispatch of each round holds of each dispatch
  each : (IsSuch : Dispatched → Type 0) → ((place : ℕ) (r : Round) → IsSuch (dispatch_at place r)) → (c : Dispatched) → Contains all c → IsSuch c
  each IsSuch such c known = let found = round_of rounds 0 c (has all c known) in subst IsSuch found.3 (such found.1 found.0)

  abbrev InTurn : Dispatched → Dispatched → Type 0
  InTurn a b = (at : ℕ) → b.dispatch.came_at ≡ Some at → IsBefore a.dispatch.came_at at

  all_in_turn : AllPairs InTurn all
  all_in_turn i j d before inside at e = subst (λ (o : Option ℕ). IsBeforeAny (get_or all i d).dispatch.came_at o) e (in_order rounds 0 i j d before inside)

  in_turn : (lane : ℕ) → AllPairs InTurn (in_lane lane all)
  in_turn lane = elim (either_way (0 == lane)) [
    | inl here ↦ subst (λ (xs : List Dispatched). AllPairs InTurn xs) (sym (all_in lane here rounds 0)) all_in_turn
    | inr other ↦ subst (λ (xs : List Dispatched). AllPairs InTurn xs) (sym (none_in lane other rounds 0)) (λ i j d before inside. absurd (omega arith))
  ]

  abbrev Noted : List Dispatched → Type 0
  Noted xs = AreNoted Told no_text [] port 0 (flat_map numbered xs) (flat_map notes_at xs)

  noted : (lane : ℕ) → Noted (in_lane lane all)
  noted lane = elim (either_way (0 == lane)) [
    | inl here ↦ subst Noted (sym (all_in lane here rounds 0)) (all_noted port rounds 0 sized)
    | inr other ↦ subst Noted (sym (none_in lane other rounds 0)) (none_began, inl refl)
  ]

  abbrev Marked : Dispatched → Type 0
  Marked c = (k : ℕ) (attempt : Attempt) → slice_get c.dispatch.attempts k ≡ Some attempt
      → (shown : Class) × (bytes : List ℕ) × Told c.ask c.limit attempt.talk shown bytes × (attempt.mark ≡ mark_of shown) × (shown ≡ class.Uncertain why.Memory → ⊥)

  marked : (place : ℕ) (r : Round) → Marked (dispatch_at place r)
  marked place r k attempt at =
      let is : attempt_of r ≡ attempt = some_is (attempt_of r) attempt (ap (slice_get (attempt_of r ∷ [])) (sym (first_attempt r k attempt at)) ∙ at) in
      subst (λ (a : Attempt). (shown : Class) × (bytes : List ℕ) × Told r.ask 0 a.talk shown bytes × (a.mark ≡ mark_of shown) × (shown ≡ class.Uncertain why.Memory → ⊥)) is
      (class_by (ending_by r.refused) r.ask r.got r.size, body_by r.ask r.got, (refl, refl), mark_same r.refused r.ask r.got r.size, no_memory r.refused r.ask r.got r.size)

  -- in the journal and the logs they are these dispatches
  module _ (shown : map (λ (c : Dispatched). c.dispatch) all ≡ dispatches (journal_of rounds) (logs_of all)) where
    pub rounds_carried : IsCarried Told no_text [] port (setting_with held task) (journal_of rounds) (logs_of all) (notes_of all) all all
    rounds_carried = record {
      shown = shown;
      comes = λ c known. let at = stands_at rounds 0 [] c refl (has all c known) in (c.dispatch.given_at + 1, at.tries, at.comes, at.came, at.counted);
      lanes = λ c known. each (λ (d : Dispatched). d.dispatch.lane < 1) (λ place r. omega arith) c known;
      unused_lanes = λ lane beyond. let other : (0 == lane) ≡ false = grind arith in let none = none_in lane other rounds 0 in (ap (flat_map talks_of) none, ap (flat_map notes_at) none);
      nothing_else = λ place lane job tries e. let found = (rounds_given rounds start apart).each_came place lane job tries e in (found.0, found.1, found.3);
      in_turn = in_turn;
      gained = λ lane. refl;
      noted = λ lane. (0, omega arith, noted lane);
      marks = λ c k attempt known at. let is = each Marked marked c known k attempt at in inl (is.0, is.1, is.2, is.3, λ wanting. absurd (is.4 wanting));
      again = λ c k attempt known at before. let one = each (λ (d : Dispatched). length d.dispatch.attempts ≡ 1) (λ place r. refl) c known in absurd (omega arith);
      given_again = λ i j d before inside same attempt last.
          absurd (same_place (setting_with held task) rounds apart plain i j (get_or all i d) (get_or all j d) before (slice_get-get_or all i d (omega arith)) (slice_get-get_or all j d inside) same);
      at_most = λ c known. each (λ (d : Dispatched). d.dispatch.earlier + length d.dispatch.attempts ≤ 1) (λ place r. omega arith) c known;
      to_the_end = λ c attempt known last goes_on. inl (each (λ (d : Dispatched). d.dispatch.earlier + length d.dispatch.attempts ≡ 1) (λ place r. refl) c known);
      silent = λ c known none. absurd (each (λ (d : Dispatched). d.dispatch.attempts ≡ [] → ⊥) (λ place r. one_none (attempt_of r)) c known none);
    }
