-- What a willing service does not answer, and what it says of an object that is not to be replaced.
use Rattle.std.specs.Prelude.{◌≡◌, ℕ, Bool, true, List, Some, IsSome}
use Rattle.s3_model.specs.declared.requests.Ask.{Ask}
use Rattle.s3_model.specs.declared.requests.Ask.TheVariants as ask
use Rattle.s3_model.specs.declared.answers.Reply.{Reply}
use Rattle.s3_model.specs.declared.answers.Reply.TheVariants as reply
use Rattle.s3_model.specs.Files.{is_listed}
use Rattle.s3_service.specs.ServiceState.{State, object_at}
use Rattle.s3_service.specs.Serves.{taken_codes}

abbrev pub IsWholeObject : Reply → Type 0
IsWholeObject (reply.Got status range size) = status ≡ 200
IsWholeObject answered = ⊥

abbrev pub HasRange : Ask → Type 0
HasRange (ask.Get bucket key etag (Some range)) = Unit {0}
HasRange asked = ⊥

-- A request that is not to replace an object that is there is refused with a code that says so.
abbrev pub IsRefusedAsTaken : Bool → State → (bucket key code : List ℕ) → Type 0
IsRefusedAsTaken fresh t bucket key code =
    fresh ≡ true → IsSome (object_at t bucket key) → is_listed taken_codes code ≡ true

-- what a Put and a Complete that are not to replace an object are refused with, where it is there
abbrev pub SaysIfThere : State → Ask → (code : List ℕ) → Type 0
SaysIfThere t (ask.Put bucket key content fresh) code = IsRefusedAsTaken fresh t bucket key code
SaysIfThere t (ask.Complete bucket key id etags fresh) code = IsRefusedAsTaken fresh t bucket key code
SaysIfThere t asked code = Unit {0}
