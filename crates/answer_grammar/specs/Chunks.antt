-- A chunked body (RFC 9112, section 7.1), and where one breaks off.
use Rattle.std.specs.Prelude.{◌≡◌, ◌⊎◌, ℕ, ◌+◌, ◌<◌, ◌≤◌, List, ◌++◌, length, take, All, flat_map}
use Rattle.httparse.specs.Grammar.{LineEnd, Field, ReadsSection, print_section, HasNoSection, NeverHasSection}
use Rattle.httparse.specs.Grammar.{MayBecomeSection, ChunkLine, IsChunkLine, print_chunk_line, chunk_size}
use Rattle.httparse.specs.Grammar.{HasNoChunkLine, NeverHasChunkLine, MayBecomeChunkLine}
use Rattle.httparse.specs.Ascii.{crlf_bytes}
use Rattle.s3_model.specs.Talks.{Ending, Closed}
use Rattle.s3_model.specs.declared.answers.Why.{Why}
use Rattle.s3_model.specs.declared.answers.Why.TheVariants as why

-- chunk = chunk-size [ chunk-ext ] CRLF chunk-data CRLF
pub record Chunk : Type 0 where
  pub line : ChunkLine
  pub content : List ℕ

abbrev pub print_chunk : Chunk → List ℕ
print_chunk chunk = print_chunk_line chunk.line ++ chunk.content ++ crlf_bytes

-- a line of at most 1,024 bytes with its CRLF
pub record IsSizeLine (line : ChunkLine) (size : ℕ) : Type 0 where
  pub form : IsChunkLine line
  pub small : length (print_chunk_line line) ≤ 1_024
  pub size_is : chunk_size line ≡ size

-- the content is not empty, and as long as the line says
pub record IsChunk (chunk : Chunk) : Type 0 where
  pub line : IsSizeLine chunk.line (length chunk.content)
  pub has_content : 0 < length chunk.content

-- the body that chunks carry
abbrev pub contents : List Chunk → List ℕ
contents chunks = flat_map (λ chunk. chunk.content) chunks

-- ---- what stands at the front of the bytes, and what behind it

pub record HasChunks (rest : List ℕ) (chunks : List Chunk) (after : List ℕ) : Type 0 where
  pub all : All IsChunk chunks
  pub split : rest ≡ flat_map print_chunk chunks ++ after

pub record HasSize (after : List ℕ) (size : ℕ) (behind : List ℕ) : Type 0 where
  pub line : ChunkLine
  pub is_line : IsSizeLine line size
  pub split : after ≡ print_chunk_line line ++ behind

-- a trailer section, which has at most 1,024 bytes with its empty line
pub record HasTrailers (after behind : List ℕ) : Type 0 where
  pub trailers : List Field
  pub end : LineEnd
  pub section : ReadsSection after trailers end behind
  pub small : length (print_section trailers end) ≤ 1_024

-- chunked-body = *chunk last-chunk trailer-section CRLF
pub record ReadsChunks (rest body behind : List ℕ) : Type 0 where
  pub chunks : List Chunk
  pub after : List ℕ
  pub trailing : List ℕ
  pub whole : HasChunks rest chunks after
  pub last : HasSize after 0 trailing
  pub trailers : HasTrailers trailing behind
  pub body_is : body ≡ contents chunks

-- ---- what breaks off

-- the bytes can't be what is wanted, whatever follows; or they begin it, and the connection closed
abbrev pub BreaksOff : (cannot_be begins : Type 0) → Ending → Why → Type 0
BreaksOff cannot_be begins ending reason =
    (cannot_be × (reason ≡ why.BadChunk)) ⊎ (begins × (ending ≡ Closed) × (reason ≡ why.EndedEarly))

-- no chunk line begins so, or none ends within 1,024 bytes
abbrev pub CannotBeSize : List ℕ → Type 0
CannotBeSize after = NeverHasChunkLine (take 1_024 after) ⊎ ((1_024 ≤ length after) × HasNoChunkLine (take 1_024 after))

pub record BeginsSize (after : List ℕ) : Type 0 where
  pub short : length after < 1_024
  pub none : HasNoChunkLine after
  pub may_come : MayBecomeChunkLine after

-- whatever follows, no CRLF stands behind so many bytes of content
abbrev pub CannotBeContent : ℕ → List ℕ → Type 0
CannotBeContent size after =
    (content more behind : List ℕ) → length content ≡ size → ¬ (after ++ more ≡ content ++ (crlf_bytes ++ behind))

-- some bytes that are missing would make it content with its CRLF
pub record BeginsContent (size : ℕ) (after : List ℕ) : Type 0 where
  pub content : List ℕ
  pub missing : List ℕ
  pub long : length content ≡ size
  pub some : 0 < length missing
  pub split : after ++ missing ≡ content ++ crlf_bytes

-- no trailer section begins so, or none ends within 1,024 bytes
abbrev pub CannotBeTrailers : List ℕ → Type 0
CannotBeTrailers after = NeverHasSection (take 1_024 after) ⊎ ((1_024 ≤ length after) × HasNoSection (take 1_024 after))

pub record BeginsTrailers (after : List ℕ) : Type 0 where
  pub short : length after < 1_024
  pub none : HasNoSection after
  pub may_come : MayBecomeSection after

-- what breaks off behind chunks that carry so many bytes
pub data BreaksBehind (limit sum : ℕ) (after : List ℕ) (ending : Ending) (reason : Why) : Type 0 where
  in_size : BreaksOff (CannotBeSize after) (BeginsSize after) ending reason → BreaksBehind limit sum after ending reason
  too_long : (size : ℕ) (behind : List ℕ) → HasSize after size behind → limit < sum + size
      → reason ≡ why.BodyTooLong limit
      → BreaksBehind limit sum after ending reason
  in_content : (size : ℕ) (behind : List ℕ) → HasSize after size behind → 0 < size → sum + size ≤ limit
      → BreaksOff (CannotBeContent size behind) (BeginsContent size behind) ending reason
      → BreaksBehind limit sum after ending reason
  in_trailers : (behind : List ℕ) → HasSize after 0 behind
      → BreaksOff (CannotBeTrailers behind) (BeginsTrailers behind) ending reason
      → BreaksBehind limit sum after ending reason

-- whole chunks within the limit, and behind them what breaks off
pub record BreaksChunks (limit : ℕ) (rest : List ℕ) (ending : Ending) (reason : Why) : Type 0 where
  pub chunks : List Chunk
  pub after : List ℕ
  pub whole : HasChunks rest chunks after
  pub within : length (contents chunks) ≤ limit
  pub breaks : BreaksBehind limit (length (contents chunks)) after ending reason
