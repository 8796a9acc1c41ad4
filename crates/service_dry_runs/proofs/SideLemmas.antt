-- What is asked for the sides of a plan, as the questions of a planning, and what looking at them warns of.
use Rattle.std.proofs.Common.{◌≡◌, ◌==◌, ◌++◌, ◌⊎◌, ℕ, Bool, true, false, List, [], ◌∷◌, Option, Some, None, refl, sym, subst, inl, inr, map, if◌then◌else◌}
use Rattle.std.specs.Prelude.{Result, Ok, Err}
use Rattle.std.specs.List.{AllByRecursion}
use Rattle.command_errands.specs.Sources.{local_source}
use Rattle.command_errands.specs.declared.sources.LocalSource.{LocalSource}
use Rattle.command_errands.specs.declared.sources.LocalSource.TheVariants as source
use Rattle.list_walk.specs.Pages.{Walk}
use Rattle.planning_questions.specs.Listings.{Lists}
use Rattle.planning_questions.specs.Questions.{AsksOnce, Question}
use Rattle.planning_questions.specs.declared.halt.Halt.{Halt}
use Rattle.planning_questions.specs.declared.halt.Halt.TheVariants as halt
use Rattle.run_report.specs.Texts.{IsOfLooking}
use Rattle.s3_model.specs.declared.answers.Reply.{Reply}
use Rattle.s3_model.specs.declared.answers.Reply.TheVariants as reply
use Rattle.s3_model.specs.declared.places.Entry.{Entry}
use Rattle.s3_model.specs.declared.places.Place.{Place}
use Rattle.s3_model.specs.declared.places.Place.TheVariants as place
use Rattle.s3_model.specs.declared.requests.Ask.{Ask}
use Rattle.s3_model.specs.declared.tasks.Warning.{Warning}
use Rattle.s3_model.specs.declared.tasks.Warning.TheVariants as warning
use Rattle.service_plans.specs.Local.{FilesSeen, HoldsTree, IsHeldAs, IsSourceFault, IsTreeFault}
use Rattle.service_plans.specs.Looked.{not_a_file, unnamed_in}
use Rattle.service_plans.specs.Sides.{DestSide, HeadsObject, IsTold, ListsBelow, SourceSide, entries_in}
use Rattle.service_plans.specs.declared.dests.Dest.{Dest}
use Rattle.service_plans.specs.declared.found.Found.{Found}
use Rattle.service_plans.specs.declared.halted.Halted.{Halted}
use Rattle.service_plans.specs.declared.halted.Halted.TheVariants as halted

-- ---- questions

-- how questions ended, if they did before their answer
abbrev pub halt_of : {X : Type 0} → Result X Halt → Option Halt
halt_of (Ok x) = None
halt_of (Err why) = Some why

-- a fault of files or of a plan is none of the questions, and comes as want of memory may come
abbrev pub halt_in : {X : Type 0} → Result X Halted → Option Halt
halt_in (Ok x) = None
halt_in (Err (halted.Asked why)) = Some why
halt_in (Err why) = Some halt.Memory

-- they ended so, or memory ran out
abbrev pub EndsSo : {X : Type 0} → Result X Halt → Option Halt → Type 0
EndsSo result ended = (halt_of result ≡ ended) ⊎ (ended ≡ Some halt.Memory)

-- nothing was asked, or all pages of a listing, or one question
abbrev pub AsksSide : (number : ℕ) → List Question → Option Halt → Type 0
AsksSide number questions ended =
    ((questions ≡ []) × ((ended ≡ None) ⊎ (ended ≡ Some halt.Memory)))
    ⊎ ((walk : Walk) × (result : Result Walk Halt) × Lists number walk questions result × EndsSo result ended)
    ⊎ ((asked : Ask) × (result : Result Reply Halt) × AsksOnce number asked questions result × EndsSo result ended)

went_on : (number : ℕ) (questions : List Question) → questions ≡ [] → AsksSide number questions None
went_on number questions none = inl (none, inl refl)

memory_ended : (number : ℕ) (questions : List Question) → questions ≡ [] → AsksSide number questions (Some halt.Memory)
memory_ended number questions none = inl (none, inr refl)

tree_ended : (files : FilesSeen) (root : List ℕ) (number : ℕ) (questions : List Question) (why : Halted) → questions ≡ [] → IsTreeFault files root why → AsksSide number questions (halt_in {X = Found} (Err why))
tree_ended files root number questions (halted.Asked halt.Memory) none h = memory_ended number questions none
tree_ended files root number questions (halted.Asked (halt.Answer cause)) none h = absurd h
tree_ended files root number questions (halted.Asked (halt.Listing bad)) none h = absurd h
tree_ended files root number questions (halted.Asked halt.Stranger) none h = absurd h
tree_ended files root number questions (halted.Walk fault) none h = memory_ended number questions none
tree_ended files root number questions (halted.Plan fault) none h = memory_ended number questions none

source_ended : (files : FilesSeen) (many : Bool) (path : List ℕ) (number : ℕ) (questions : List Question) (why : Halted) → questions ≡ [] → IsSourceFault files many path why → AsksSide number questions (halt_in {X = Found} (Err why))
source_ended files many path number questions (halted.Asked halt.Memory) none h = memory_ended number questions none
source_ended files many path number questions (halted.Asked (halt.Answer cause)) none h = absurd h
source_ended files many path number questions (halted.Asked (halt.Listing bad)) none h = absurd h
source_ended files many path number questions (halted.Asked halt.Stranger) none h = absurd h
source_ended files many path number questions (halted.Walk fault) none h = memory_ended number questions none
source_ended files many path number questions (halted.Plan fault) none h = memory_ended number questions none

listing_side : (number : ℕ) (bucket key : List ℕ) (questions : List Question) (result : Result Found Halted) → ListsBelow number bucket key questions result → AsksSide number questions (halt_in result)
listing_side number bucket key questions (Ok found) h = inr (inl (_, Ok h.0, h.1, inl refl))
listing_side number bucket key questions (Err (halted.Asked why)) h = inr (inl (_, Err why, h, inl refl))
listing_side number bucket key questions (Err (halted.Walk fault)) h = absurd h
listing_side number bucket key questions (Err (halted.Plan fault)) h = absurd h

head_side : (number : ℕ) (bucket key : List ℕ) (questions : List Question) (result : Result Found Halted) → HeadsObject number bucket key questions result → AsksSide number questions (halt_in result)
head_side number bucket key questions (Ok found) h = inr (inr (_, Ok h.0, h.1, inl refl))
head_side number bucket key questions (Err (halted.Asked halt.Memory)) h = inr (inr (_, h.0, h.1, inr refl))
head_side number bucket key questions (Err (halted.Asked (halt.Answer cause))) h = inr (inr (_, Err (halt.Answer cause), h, inl refl))
head_side number bucket key questions (Err (halted.Asked (halt.Listing bad))) h = inr (inr (_, Err (halt.Listing bad), h, inl refl))
head_side number bucket key questions (Err (halted.Asked halt.Stranger)) h = inr (inr (_, Err halt.Stranger, h, inl refl))
head_side number bucket key questions (Err (halted.Walk fault)) h = absurd h
head_side number bucket key questions (Err (halted.Plan fault)) h = absurd h

pub source_side : (removes many : Bool) (from : Option Place) (files : FilesSeen) (number : ℕ) (questions : List Question) (result : Result Found Halted) → SourceSide removes many from files number questions result
    → AsksSide number questions (halt_in result)
source_side removes many None files number questions result h = absurd h
source_side removes many (Some (place.File path)) files number questions (Ok found) h = went_on number questions h.0
source_side removes many (Some (place.File path)) files number questions (Err why) h = source_ended files many path number questions why h.0 h.1
source_side removes true (Some (place.Object bucket key)) files number questions result h = listing_side number bucket key questions result h
source_side true false (Some (place.Object bucket key)) files number questions (Ok found) h = went_on number questions h.0
source_side true false (Some (place.Object bucket key)) files number questions (Err why) h =
    subst (λ (w : Halted). AsksSide number questions (halt_in {X = Found} (Err w))) (sym h.1) (memory_ended number questions h.0)
source_side false false (Some (place.Object bucket key)) files number questions result h = head_side number bucket key questions result h

-- what the side of a destination that names are wanted of comes to
abbrev found_at : Result Dest Halted → Result Found Halted
found_at (Ok dest) = Ok dest.found
found_at (Err why) = Err why

same_halt : (result : Result Dest Halted) → halt_in (found_at result) ≡ halt_in result
same_halt (Ok dest) = refl
same_halt (Err (halted.Asked why)) = refl
same_halt (Err (halted.Walk fault)) = refl
same_halt (Err (halted.Plan fault)) = refl

pub dest_side : (syncs recursive : Bool) (to : Option Place) (files : FilesSeen) (number : ℕ) (questions : List Question) (result : Result Dest Halted) → DestSide syncs recursive to files number questions result
    → AsksSide number questions (halt_in result)
dest_side true recursive None files number questions (Ok dest) h = went_on number questions h.0
dest_side true recursive None files number questions (Err why) h = absurd h
dest_side true recursive (Some (place.Object bucket key)) files number questions (Ok dest) h = listing_side number bucket key questions (Ok dest.found) h.1
dest_side true recursive (Some (place.Object bucket key)) files number questions (Err why) h =
    subst (λ (ended : Option Halt). AsksSide number questions ended) (same_halt (Err why)) (listing_side number bucket key questions (Err why) h)
dest_side true recursive (Some (place.File path)) files number questions (Ok dest) h = went_on number questions h.1.0
dest_side true recursive (Some (place.File path)) files number questions (Err why) h =
    subst (λ (ended : Option Halt). AsksSide number questions ended) (same_halt (Err why)) (tree_ended files path number questions why h.0 h.1)
dest_side false true to files number questions (Ok dest) h = went_on number questions h.0
dest_side false true to files number questions (Err why) h = absurd h
dest_side false false None files number questions (Ok dest) h = went_on number questions h.0
dest_side false false None files number questions (Err why) h = absurd h
dest_side false false (Some (place.Object bucket key)) files number questions (Ok dest) h = went_on number questions h.0
dest_side false false (Some (place.Object bucket key)) files number questions (Err why) h = absurd h
dest_side false false (Some (place.File path)) files number questions (Ok dest) h = went_on number questions h.0
dest_side false false (Some (place.File path)) files number questions (Err why) h =
    subst (λ (w : Halted). AsksSide number questions (halt_in {X = Dest} (Err w))) (sym h.1) (memory_ended number questions h.0)

-- ---- warnings of looking

abbrev pub AreLooking : List Warning → Type 0
AreLooking looked = AllByRecursion IsOfLooking looked

pub both_looking : (xs ys : List Warning) → AreLooking xs → AreLooking ys → AreLooking (xs ++ ys)
both_looking [] ys h g = g
both_looking (x ∷ xs) ys h g = (h.0, both_looking xs ys h.1 g)

none_looking : (looked : List Warning) → looked ≡ [] → AreLooking looked
none_looking looked none = subst AreLooking (sym none) tt

others_looking : (root : List ℕ) (others : List (List ℕ)) → AreLooking (map (not_a_file root) others)
others_looking root [] = tt
others_looking root (path ∷ others) = (tt, others_looking root others)

unnamed_looking : (unnamed : ℕ) → AreLooking (unnamed_in unnamed)
unnamed_looking unnamed = by (unnamed == 0)
  where
    by : (none : Bool) → AreLooking (if none then [] else warning.Unnamed unnamed ∷ [])
    by true = tt
    by false = (tt, tt)

tree_looking : (files : FilesSeen) (root : List ℕ) (entries : List Entry) (looked : List Warning) → HoldsTree files root entries looked → AreLooking looked
tree_looking files root entries looked h =
    subst AreLooking (sym h.warned) (both_looking (unnamed_in h.unnamed) (map (not_a_file root) h.others) (unnamed_looking h.unnamed) (others_looking root h.others))

held_looking : (one : LocalSource) (files : FilesSeen) (path : List ℕ) (entries : List Entry) (looked : List Warning) → IsHeldAs one files path entries looked → AreLooking looked
held_looking source.Folder files path entries looked h = tree_looking files path entries looked h
held_looking (source.File entry) files path entries looked h = none_looking looked h.1
held_looking (source.NotAFile named) files path entries looked h = subst AreLooking (sym h.1) (tt, tt)
held_looking (source.Refused fault) files path entries looked h = absurd h

told_looking : (at : Place) (said : Reply) (found : Found) → IsTold at said found → AreLooking found.looked.items
told_looking at (reply.Found size etag micros) found h = none_looking found.looked.items h.1
told_looking at said found h = absurd h

pub source_looking : (removes many : Bool) (from : Option Place) (files : FilesSeen) (number : ℕ) (questions : List Question) (found : Found) → SourceSide removes many from files number questions (Ok found)
    → AreLooking found.looked.items
source_looking removes many None files number questions found h = absurd h
source_looking removes many (Some (place.File path)) files number questions found h = held_looking (local_source many path h.1.stands) files path (entries_in found.side) found.looked.items h.1.held
source_looking removes true (Some (place.Object bucket key)) files number questions found h = none_looking found.looked.items h.2.1
source_looking true false (Some (place.Object bucket key)) files number questions found h = none_looking found.looked.items h.1.1
source_looking false false (Some (place.Object bucket key)) files number questions found h = told_looking (place.Object bucket key) h.0 found h.2

pub dest_looking : (syncs recursive : Bool) (to : Option Place) (files : FilesSeen) (number : ℕ) (questions : List Question) (dest : Dest) → DestSide syncs recursive to files number questions (Ok dest)
    → AreLooking dest.found.looked.items
dest_looking true recursive None files number questions dest h = none_looking dest.found.looked.items h.1.1.1
dest_looking true recursive (Some (place.Object bucket key)) files number questions dest h = none_looking dest.found.looked.items h.1.2.1
dest_looking true recursive (Some (place.File path)) files number questions dest h = tree_looking files path (entries_in dest.found.side) dest.found.looked.items h.1.1
dest_looking false true to files number questions dest h = none_looking dest.found.looked.items h.1.1.1
dest_looking false false None files number questions dest h = none_looking dest.found.looked.items h.1.1.1
dest_looking false false (Some (place.Object bucket key)) files number questions dest h = none_looking dest.found.looked.items h.1.1.1
dest_looking false false (Some (place.File path)) files number questions dest h = none_looking dest.found.looked.items h.3.1.1
