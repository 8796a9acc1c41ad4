-- What goes between a desk and one lane.
use Rattle.std.specs.Prelude.{ℕ, ◌-◌, List, [], ◌∷◌, ◌++◌, length}

-- the jobs given to a lane and the outcomes taken of it, each in order
pub record Exchange (J D : Type 0) : Type 0 where
  pub given : List J
  pub taken : List D

module _ {J D : Type 0} where
  -- nothing was given, and nothing taken
  abbrev pub unused : Exchange J D
  unused = record { given = []; taken = [] }

  -- how many jobs were given and not taken back
  abbrev pub jobs_out : Exchange J D → ℕ
  jobs_out e = length e.given - length e.taken

  abbrev pub with_given : Exchange J D → J → Exchange J D
  with_given e job = record { given = e.given ++ job ∷ []; taken = e.taken }

  abbrev pub with_taken : Exchange J D → D → Exchange J D
  with_taken e done = record { given = e.given; taken = e.taken ++ done ∷ [] }
