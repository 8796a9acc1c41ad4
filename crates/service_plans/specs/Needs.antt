-- What a planning asked is what its command needs to know.
use Rattle.std.specs.Prelude.{◌≡◌, ◌⊎◌, ◌+◌, ◌++◌, ℕ, List, [], ◌∷◌, Option, Some, None, Result, Ok, Err, length}
use Rattle.command_errands.specs.Errands.{TakesPlaces}
use Rattle.command_errands.specs.Needs.{needs_of}
use Rattle.list_walk.specs.Pages.{Walk, new_walk}
use Rattle.planning_questions.specs.Listings.{Lists}
use Rattle.planning_questions.specs.Questions.{AsksOnce, Question}
use Rattle.planning_questions.specs.declared.halt.Halt.{Halt}
use Rattle.planning_questions.specs.declared.halt.Halt.TheVariants as halt
use Rattle.run_promise.specs.Planning as planning
use Rattle.run_promise.specs.Planning.{Need}
use Rattle.s3_model.specs.declared.answers.Reply.{Reply}
use Rattle.s3_model.specs.declared.settings.Limits.{Limits}
use Rattle.s3_words.specs.declared.commands.Command.{Command}
use Rattle.service_plans.specs.Local.{FilesSeen}
use Rattle.service_plans.specs.Plans.{PlansCommand}
use Rattle.service_plans.specs.declared.halted.Halted.{Halted}
use Rattle.service_plans.specs.declared.halted.Halted.TheVariants as halted
use Rattle.service_plans.specs.declared.planned.Planned.{Planned}

-- these questions, numbered from there, met the need
abbrev pub MeetsNeed : (number : ℕ) → Need → List Question → Type 0
MeetsNeed number (planning.One asked) questions = (said : Reply) × AsksOnce number asked questions (Ok said)
MeetsNeed number (planning.Listing bucket prefix delimited) questions =
    (walk : Walk) × Lists number (new_walk bucket prefix delimited) questions (Ok walk)

-- or the need is not met, for this reason
abbrev pub FailsNeed : (number : ℕ) → Need → List Question → Halt → Type 0
FailsNeed number (planning.One asked) questions why = AsksOnce number asked questions (Err why)
FailsNeed number (planning.Listing bucket prefix delimited) questions why =
    Lists number (new_walk bucket prefix delimited) questions (Err why)

-- a fault that no answer shows: of local files, of the plan, or want of memory
abbrev pub IsOwnFault : Option Halted → Type 0
IsOwnFault None = ⊥
IsOwnFault (Some (halted.Asked halt.Memory)) = Unit {0}
IsOwnFault (Some (halted.Asked why)) = ⊥
IsOwnFault (Some (halted.Walk fault)) = Unit {0}
IsOwnFault (Some (halted.Plan fault)) = Unit {0}

-- The needs are asked for one after the other, numbered from there, and nothing behind the first that is not met, nor
-- behind a fault of the planning's own.
abbrev pub AsksFor : (number : ℕ) → List Need → List Question → (fault : Option Halted) → Type 0
AsksFor number [] questions fault = questions ≡ []
AsksFor number (need ∷ needs) questions fault =
    ((first later : List Question) × (questions ≡ first ++ later) × MeetsNeed number need first
    × AsksFor (number + length first) needs later fault)
    ⊎ ((why : Halt) × (fault ≡ Some (halted.Asked why)) × FailsNeed number need questions why)
    ⊎ ((questions ≡ []) × IsOwnFault fault)

abbrev pub fault_of : Result Planned Halted → Option Halted
fault_of (Ok planned) = None
fault_of (Err why) = Some why

-- a planning asks for what its command needs, and for nothing else
abbrev pub PlansAskForNeeds : Type 0
PlansAskForNeeds = (command : Command) (limits : Limits) (files : FilesSeen) (number : ℕ) (questions : List Question)
    (result : Result Planned Halted) → TakesPlaces command.verb command.from command.to
    → PlansCommand command limits files number questions result
    → AsksFor number (needs_of command) questions (fault_of result)
