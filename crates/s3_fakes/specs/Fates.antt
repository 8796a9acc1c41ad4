-- What a script makes of a request.
use Rattle.std.specs.Prelude.{◌≡◌, ◌≤◌, ℕ, List, [], Some, None, length}
use Rattle.s3_fakes.specs.declared.script.Ending.{Ending}
use Rattle.s3_fakes.specs.declared.script.Ending.TheVariants as ending
use Rattle.s3_fakes.specs.declared.script.Fate.{Fate}
use Rattle.s3_fakes.specs.declared.script.Turn.{Turn}
use Rattle.s3_fakes.specs.declared.script.Turn.TheVariants as turn

-- what becomes of a request by one more turn
abbrev pub by_turn : Fate → Turn → Fate
by_turn fate (turn.Refuse status document) =
    record fate { refused = Some (record { status = status; document = document }) }
by_turn fate (turn.End ends) = record fate { ending = ends }
by_turn fate (turn.Come form) = record fate { form = form }

-- the request comes to the service now
abbrev pub Arrives : Ending → Type 0
Arrives ending.LostBefore = ⊥
Arrives (ending.Late requests) = ⊥
Arrives ends = Unit {0}

-- the request comes to the service now, and no script refuses it
pub record IsToBeServed (fate : Fate) : Type 0 where
  pub refused : fate.refused ≡ None
  pub arrives : Arrives fate.ending

-- the bytes of an answer that ends so: none where nothing comes, and at most so many where it is cut
abbrev pub AreBytesFor : Ending → List ℕ → Type 0
AreBytesFor ending.Heard bytes = Unit {0}
AreBytesFor (ending.Cut count) bytes = length bytes ≤ count
AreBytesFor ends bytes = bytes ≡ []
