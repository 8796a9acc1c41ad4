-- HMAC with SHA-256 (RFC 2104, section 2).
use Rattle.std.specs.Prelude.{◌-◌, ◌++◌, ℕ, List, length, map, replicate, nat_lt, bit_xor, if◌then◌else◌}
use Rattle.sha2.specs.Sha256.{sha256}

-- B, the length of a block of SHA-256 in bytes
abbrev pub block_length : ℕ
block_length = 64

-- a key longer than a block is hashed first
abbrev pub shortened : List ℕ → List ℕ
shortened key = if nat_lt block_length (length key) then sha256 key else key

-- the key with zeros up to the length of a block
abbrev pub block_key : List ℕ → List ℕ
block_key key = shortened key ++ replicate (block_length - length (shortened key)) 0

-- each byte XOR the byte of the pad
abbrev pub padded_by : ℕ → List ℕ → List ℕ
padded_by pad bytes = map (λ b. bit_xor b pad) bytes

-- H(K XOR ipad, text)
unfoldable pub inner_hash : List ℕ → List ℕ → List ℕ
inner_hash key message = sha256 (padded_by 0x36 (block_key key) ++ message)

-- H(K XOR opad, H(K XOR ipad, text))
unfoldable pub hmac_sha256 : List ℕ → List ℕ → List ℕ
hmac_sha256 key message = sha256 (padded_by 0x5C (block_key key) ++ inner_hash key message)
