-- What a talk adds to a wire's log.
use Rattle.std.specs.Prelude.{◌++◌, ℕ, List, [], ◌∷◌}
use Rattle.s3_model.specs.Talks.{Talk, Ending, Failed, Closed, Finished, Began, WireLog}
use Rattle.s3_outside.specs.Wire.{gets, closes, fails}

-- the log with one talk more
abbrev pub with_talk : Talk → WireLog → WireLog
with_talk talk log = record { talks = log.talks ++ talk ∷ []; notes = log.notes ++ Began ∷ [] }

-- the talk goes on: these bytes came, and then it ended so
abbrev pub hears : List ℕ → Ending → Talk → Talk
hears got Failed talk = fails (gets got talk)
hears got Closed talk = closes (gets got talk)
hears got Finished talk = gets got talk
