-- What reading a form of a chunked body answers.
use Rattle.std.specs.Prelude.{◌≡◌, ◌≢◌, ℕ, ◌<◌, ◌≤◌, List, ◌++◌, length, drop, Option, Some, None, Result, Ok, Err}
use Rattle.httparse.specs.Ascii.{crlf_bytes}
use Rattle.s3_model.specs.declared.answers.Why.{Why}
use Rattle.s3_model.specs.declared.answers.Why.TheVariants as why

-- the form with its length, the beginning of one, or that there is none
abbrev pub ReadsForm : (Has : List ℕ → ℕ → List ℕ → Type 0) → (CannotBe Begins : List ℕ → Type 0) → List ℕ
    → Result (Option (ℕ × ℕ)) Why → Type 0
ReadsForm Has CannotBe Begins bytes (Ok (Some found)) =
    (found.0 ≤ length bytes) × Has bytes found.1 (drop found.0 bytes)
ReadsForm Has CannotBe Begins bytes (Ok None) = Begins bytes × (length bytes < 1_024)
ReadsForm Has CannotBe Begins bytes (Err reason) = (reason ≡ why.BadChunk) × CannotBe bytes

-- the CRLF behind a chunk's content
abbrev pub HasLineEnd : List ℕ → ℕ → List ℕ → Type 0
HasLineEnd bytes value behind = bytes ≡ crlf_bytes ++ behind

abbrev pub CannotBeLineEnd : List ℕ → Type 0
CannotBeLineEnd bytes = (more behind : List ℕ) → bytes ++ more ≢ crlf_bytes ++ behind

pub record BeginsLineEnd (bytes : List ℕ) : Type 0 where
  pub missing : List ℕ
  pub some : 0 < length missing
  pub split : bytes ++ missing ≡ crlf_bytes
