-- The lengths and bytes of texts that are taken as they stand.
use Rattle.std.specs.Prelude.{ℕ, List, length}
use Rattle.std.specs.Char.{is_ascii_graphic}
use Rattle.std.specs.Int.{IsInRange}
use Rattle.std.specs.List.{AllPass}

-- an entity tag: 1 to 256 visible ASCII characters
abbrev pub IsEtag : List ℕ → Type 0
IsEtag text = IsInRange 1 256 (length text) × AllPass is_ascii_graphic text

-- a key: 1 to 1,024 bytes
abbrev pub IsKey : List ℕ → Type 0
IsKey text = IsInRange 1 1024 (length text)

-- the id of an upload: 1 to 1,024 bytes
abbrev pub IsUploadId : List ℕ → Type 0
IsUploadId text = IsInRange 1 1024 (length text)
