-- What is asked for the sides of a plan is what the command needs to know.
use Rattle.std.proofs.Common.{◌≡◌, ◌∙◌, ◌+◌, ◌++◌, ℕ, Bool, true, false, List, [], ◌∷◌, Option, Some, None, refl, sym, ap, subst, inl, inr, append-nil, arith, length}
use Rattle.std.specs.Prelude.{◌||◌, Result, Ok, Err}
use Rattle.command_errands.specs.Errands.{TakesPlaces, is_many, prefix_of, removes}
use Rattle.command_errands.specs.Needs.{verb_needs}
use Rattle.planning_questions.specs.Questions.{AsksOnce, Question}
use Rattle.planning_questions.specs.declared.halt.Halt.{Halt}
use Rattle.planning_questions.specs.declared.halt.Halt.TheVariants as halt
use Rattle.run_promise.specs.Planning as planning
use Rattle.run_promise.specs.Planning.{Need}
use Rattle.s3_model.specs.declared.answers.Reply.{Reply}
use Rattle.s3_model.specs.declared.places.Place.{Place}
use Rattle.s3_model.specs.declared.places.Place.TheVariants as place
use Rattle.s3_model.specs.declared.requests.Ask.TheVariants as ask
use Rattle.s3_words.specs.Options.{is_sync}
use Rattle.s3_words.specs.declared.commands.Verb.{Verb}
use Rattle.s3_words.specs.declared.commands.Verb.TheVariants as verb
use Rattle.service_plans.specs.Local.{FilesSeen, IsSourceFault, IsTreeFault}
use Rattle.service_plans.specs.Needs.{AsksFor, IsOwnFault, MeetsNeed, PlansAskForNeeds, fault_of}
use Rattle.service_plans.specs.Sides.{DestSide, HeadsObject, ListsBelow, MayHaveCome, SourceSide}
use Rattle.service_plans.specs.declared.dests.Dest.{Dest}
use Rattle.service_plans.specs.declared.found.Found.{Found}
use Rattle.service_plans.specs.declared.halted.Halted.{Halted}
use Rattle.service_plans.specs.declared.halted.Halted.TheVariants as halted
use Rattle.service_plans.specs.declared.planned.Planned.{Planned}

-- ---- the needs of a side, one at most

abbrev with_need : Option Need → List Need → List Need
with_need None needs = needs
with_need (Some need) needs = need ∷ needs

abbrev source_need : (remove many : Bool) → (from : Option Place) → Option Need
source_need remove many None = None
source_need remove many (Some (place.File path)) = None
source_need remove true (Some (place.Object bucket key)) = Some (planning.Listing bucket (prefix_of key) false)
source_need true false (Some (place.Object bucket key)) = None
source_need false false (Some (place.Object bucket key)) = Some (planning.One (ask.Head bucket key))

abbrev dest_need : (syncs : Bool) → (to : Option Place) → Option Need
dest_need true (Some (place.Object bucket key)) = Some (planning.Listing bucket (prefix_of key) false)
dest_need syncs to = None

split : (v : Verb) (recursive : Bool) (from to : Option Place) → TakesPlaces v from to
    → with_need (source_need (removes v) (recursive || is_sync v) from) (with_need (dest_need (is_sync v) to) []) ≡ verb_needs v recursive from to
split verb.Cp true (Some (place.File path)) (Some (place.Object bucket key)) h = refl
split verb.Cp false (Some (place.File path)) (Some (place.Object bucket key)) h = refl
split verb.Cp true (Some (place.Object b k)) (Some to) h = refl
split verb.Cp false (Some (place.Object b k)) (Some to) h = refl
split verb.Mv true (Some (place.File path)) (Some (place.Object bucket key)) h = refl
split verb.Mv false (Some (place.File path)) (Some (place.Object bucket key)) h = refl
split verb.Mv true (Some (place.Object b k)) (Some to) h = refl
split verb.Mv false (Some (place.Object b k)) (Some to) h = refl
split verb.Sync recursive (Some (place.File path)) (Some (place.Object bucket key)) h = refl
split verb.Sync true (Some (place.Object b k)) (Some (place.Object bucket key)) h = refl
split verb.Sync false (Some (place.Object b k)) (Some (place.Object bucket key)) h = refl
split verb.Sync true (Some (place.Object b k)) (Some (place.File path)) h = refl
split verb.Sync false (Some (place.Object b k)) (Some (place.File path)) h = refl
split verb.Rm true (Some (place.Object b k)) None h = refl
split verb.Rm false (Some (place.Object b k)) None h = refl
split v recursive from to h = absurd h

-- ---- what is asked for a side

abbrev Meets : Option Need → (number : ℕ) → List Question → Type 0
Meets None number questions = questions ≡ []
Meets (Some need) number questions = MeetsNeed number need questions

abbrev Stops : Option Need → (number : ℕ) → List Question → Halted → Type 0
Stops need number questions why = (needs : List Need) → AsksFor number (with_need need needs) questions (Some why)

plus_none : (number : ℕ) → number + 0 ≡ number
plus_none number = omega arith

met : (need : Option Need) (number : ℕ) (first later : List Question) (needs : List Need) (fault : Option Halted) → Meets need number first → AsksFor (number + length first) needs later fault
    → AsksFor number (with_need need needs) (first ++ later) fault
met None number first later needs fault none asks =
    subst (λ (qs : List Question). AsksFor number needs (qs ++ later) fault) (sym none)
    (subst (λ (n : ℕ). AsksFor n needs later fault) (ap (λ (qs : List Question). number + length qs) none ∙ plus_none number) asks)
met (Some need) number first later needs fault meets asks = inl (first, later, refl, meets, asks)

own : (number : ℕ) (needs : List Need) (fault : Option Halted) → IsOwnFault fault → AsksFor number needs [] fault
own number [] fault is = refl
own number (need ∷ needs) fault is = inr (inr (refl, is))

own_here : (number : ℕ) (questions : List Question) (why : Halted) → questions ≡ [] → IsOwnFault (Some why) → Stops None number questions why
own_here number questions why none is needs = subst (λ (qs : List Question). AsksFor number needs qs (Some why)) (sym none) (own number needs (Some why) is)

tree_is_own : (files : FilesSeen) (root : List ℕ) (why : Halted) → IsTreeFault files root why → IsOwnFault (Some why)
tree_is_own files root (halted.Asked halt.Memory) h = tt
tree_is_own files root (halted.Asked (halt.Answer cause)) h = absurd h
tree_is_own files root (halted.Asked (halt.Listing bad)) h = absurd h
tree_is_own files root (halted.Asked halt.Stranger) h = absurd h
tree_is_own files root (halted.Walk fault) h = tt
tree_is_own files root (halted.Plan fault) h = tt

source_is_own : (files : FilesSeen) (many : Bool) (path : List ℕ) (why : Halted) → IsSourceFault files many path why → IsOwnFault (Some why)
source_is_own files many path (halted.Asked halt.Memory) h = tt
source_is_own files many path (halted.Asked (halt.Answer cause)) h = absurd h
source_is_own files many path (halted.Asked (halt.Listing bad)) h = absurd h
source_is_own files many path (halted.Asked halt.Stranger) h = absurd h
source_is_own files many path (halted.Walk fault) h = tt
source_is_own files many path (halted.Plan fault) h = tt

listing_stops : (number : ℕ) (bucket key : List ℕ) (questions : List Question) (why : Halted) → ListsBelow number bucket key questions (Err why) → Stops (Some (planning.Listing bucket (prefix_of key) false)) number questions why
listing_stops number bucket key questions (halted.Asked why) h needs = inr (inl (why, refl, h))
listing_stops number bucket key questions (halted.Walk fault) h needs = absurd h
listing_stops number bucket key questions (halted.Plan fault) h needs = absurd h

answered_or_not : (number : ℕ) (bucket key : List ℕ) (questions : List Question) (needs : List Need) (answer : Result Reply Halt) → AsksOnce number (ask.Head bucket key) questions answer → MayHaveCome answer
    → AsksFor number (planning.One (ask.Head bucket key) ∷ needs) questions (Some (halted.Asked halt.Memory))
answered_or_not number bucket key questions needs (Ok said) asked came = inl (questions, [], sym (append-nil questions), (said, asked), own (number + length questions) needs (Some (halted.Asked halt.Memory)) tt)
answered_or_not number bucket key questions needs (Err halt.Memory) asked came = inr (inl (halt.Memory, refl, asked))
answered_or_not number bucket key questions needs (Err (halt.Answer cause)) asked came = absurd came
answered_or_not number bucket key questions needs (Err (halt.Listing bad)) asked came = absurd came
answered_or_not number bucket key questions needs (Err halt.Stranger) asked came = absurd came

head_stops : (number : ℕ) (bucket key : List ℕ) (questions : List Question) (why : Halted) → HeadsObject number bucket key questions (Err why) → Stops (Some (planning.One (ask.Head bucket key))) number questions why
head_stops number bucket key questions (halted.Asked halt.Memory) h needs = answered_or_not number bucket key questions needs h.0 h.1 h.2
head_stops number bucket key questions (halted.Asked (halt.Answer cause)) h needs = inr (inl (halt.Answer cause, refl, h))
head_stops number bucket key questions (halted.Asked (halt.Listing bad)) h needs = inr (inl (halt.Listing bad, refl, h))
head_stops number bucket key questions (halted.Asked halt.Stranger) h needs = inr (inl (halt.Stranger, refl, h))
head_stops number bucket key questions (halted.Walk fault) h needs = absurd h
head_stops number bucket key questions (halted.Plan fault) h needs = absurd h

-- ---- the two sides

source_meets : (remove many : Bool) (from : Option Place) (files : FilesSeen) (number : ℕ) (questions : List Question) (found : Found) → SourceSide remove many from files number questions (Ok found)
    → Meets (source_need remove many from) number questions
source_meets remove many None files number questions found h = absurd h
source_meets remove many (Some (place.File path)) files number questions found h = h.0
source_meets remove true (Some (place.Object bucket key)) files number questions found h = (h.0, h.1)
source_meets true false (Some (place.Object bucket key)) files number questions found h = h.0
source_meets false false (Some (place.Object bucket key)) files number questions found h = (h.0, h.1)

source_stops : (remove many : Bool) (from : Option Place) (files : FilesSeen) (number : ℕ) (questions : List Question) (why : Halted) → SourceSide remove many from files number questions (Err why)
    → Stops (source_need remove many from) number questions why
source_stops remove many None files number questions why h = absurd h
source_stops remove many (Some (place.File path)) files number questions why h = own_here number questions why h.0 (source_is_own files many path why h.1)
source_stops remove true (Some (place.Object bucket key)) files number questions why h = listing_stops number bucket key questions why h
source_stops true false (Some (place.Object bucket key)) files number questions why h = own_here number questions why h.0 (subst (λ (w : Halted). IsOwnFault (Some w)) (sym h.1) tt)
source_stops false false (Some (place.Object bucket key)) files number questions why h = head_stops number bucket key questions why h

dest_meets : (syncs recursive : Bool) (to : Option Place) (files : FilesSeen) (number : ℕ) (questions : List Question) (dest : Dest) → DestSide syncs recursive to files number questions (Ok dest)
    → Meets (dest_need syncs to) number questions
dest_meets true recursive None files number questions dest h = h.0
dest_meets true recursive (Some (place.Object bucket key)) files number questions dest h = (h.1.0, h.1.1)
dest_meets true recursive (Some (place.File path)) files number questions dest h = h.1.0
dest_meets false true to files number questions dest h = h.0
dest_meets false false None files number questions dest h = h.0
dest_meets false false (Some (place.Object bucket key)) files number questions dest h = h.0
dest_meets false false (Some (place.File path)) files number questions dest h = h.0

dest_stops : (syncs recursive : Bool) (to : Option Place) (files : FilesSeen) (number : ℕ) (questions : List Question) (why : Halted) → DestSide syncs recursive to files number questions (Err why)
    → Stops (dest_need syncs to) number questions why
dest_stops true recursive None files number questions why h = absurd h
dest_stops true recursive (Some (place.Object bucket key)) files number questions why h = listing_stops number bucket key questions why h
dest_stops true recursive (Some (place.File path)) files number questions why h = own_here number questions why h.0 (tree_is_own files path why h.1)
dest_stops false true to files number questions why h = absurd h
dest_stops false false None files number questions why h = absurd h
dest_stops false false (Some (place.Object bucket key)) files number questions why h = absurd h
dest_stops false false (Some (place.File path)) files number questions why h = own_here number questions why h.0 (subst (λ (w : Halted). IsOwnFault (Some w)) (sym h.1) tt)

-- ---- the law

pub plans_ask_for_needs : PlansAskForNeeds
plans_ask_for_needs command limits files number questions result takes plans =
    subst (λ (needs : List Need). AsksFor number needs questions (fault_of result)) (split command.verb command.recursive command.from command.to takes) (elim plans [
      | inl (why, source, is) ↦ subst (λ (r : Result Planned Halted). AsksFor number (with_need ours (with_need theirs [])) questions (fault_of r)) (sym is)
          (source_stops (removes command.verb) (is_many command) command.from files number questions why source (with_need theirs []))
      | inr later ↦ elim later [
        | inl (source, why, both, is) ↦ subst (λ (r : Result Planned Halted). AsksFor number (with_need ours (with_need theirs [])) questions (fault_of r)) (sym is)
            (joined both.first both.later (Some why) both.split (source_meets (removes command.verb) (is_many command) command.from files number both.first source both.at_source)
            (dest_stops (is_sync command.verb) command.recursive command.to files (number + length both.first) both.later why both.at_dest []))
        | inr (source, dest, both, comes) ↦
            joined both.first both.later (fault_of result) both.split (source_meets (removes command.verb) (is_many command) command.from files number both.first source both.at_source)
            (all_met (number + length both.first) both.later (fault_of result) (dest_meets (is_sync command.verb) command.recursive command.to files (number + length both.first) both.later dest both.at_dest))
      ]
    ])
  where
    ours : Option Need
    ours = source_need (removes command.verb) (is_many command) command.from

    theirs : Option Need
    theirs = dest_need (is_sync command.verb) command.to

    joined : (first later : List Question) (fault : Option Halted) → questions ≡ first ++ later → Meets ours number first → AsksFor (number + length first) (with_need theirs []) later fault
        → AsksFor number (with_need ours (with_need theirs [])) questions fault
    joined first later fault is meets asks =
        subst (λ (qs : List Question). AsksFor number (with_need ours (with_need theirs [])) qs fault) (sym is) (met ours number first later (with_need theirs []) fault meets asks)

    all_met : (from : ℕ) (later : List Question) (fault : Option Halted) → Meets theirs from later → AsksFor from (with_need theirs []) later fault
    all_met from later fault meets =
        subst (λ (qs : List Question). AsksFor from (with_need theirs []) qs fault) (append-nil later) (met theirs from later [] [] fault meets refl)
