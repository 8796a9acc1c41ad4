-- What an output has after a call.
use Rattle.std.specs.Prelude.{◌++◌, ℕ, List, Result, Ok, Err, take}

-- the bytes that it took stand behind those before
abbrev pub after_put : {E : Type 0} → List ℕ → Result ℕ E → List ℕ → List ℕ
after_put bytes (Ok count) got = got ++ take count bytes
after_put bytes (Err fault) got = got
