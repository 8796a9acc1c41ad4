-- The head of an answer (RFC 9112, sections 2 to 6), and what its header lines say.
use Rattle.std.specs.Prelude.{◌≡◌, ℕ, ◌*◌, ◌≤◌, Bool, true, false, not, ◌&&◌, ◌||◌, ◌==◌, nat_le, List, [], ◌++◌}
use Rattle.std.specs.Prelude.{length, map, slice_get, Option, Some, None, option_map, option_and_then, if◌then◌else◌}
use Rattle.std.specs.Prelude.{codes, IsTrue}
use Rattle.std.specs.List.{list_all}
use Rattle.std.specs.Char.{is_ascii_graphic}
use Rattle.std.specs.Str.Parse.{digits_value}
use Rattle.httparse.specs.Grammar.{ResponseHead, ReadsResponse, print_response, status_code}
use Rattle.httparse.specs.Spans.{name_and_value}
use Rattle.http1.specs.Fields.{Header, is_number, values_named, elements_named, content_length, transfer_encoding}
use Rattle.http1.specs.Fields.{has_other_coding, has_option}
use Rattle.http1.specs.declared.fields.ContentLength.TheVariants as Length
use Rattle.http1.specs.declared.fields.TransferEncoding.TheVariants as Coding
use Rattle.httpdate.specs.Date.{parse_secs}
use Rattle.answer_grammar.specs.declared.framing.Framing.{Framing}
use Rattle.answer_grammar.specs.declared.framing.Framing.TheVariants as framing

-- A whole head stands at the front: of at most 65,536 bytes and 100 header lines, with a final status (RFC 9110,
-- section 15).
pub record ReadsHead (got : List ℕ) (head : ResponseHead) (rest : List ℕ) : Type 0 where
  pub reads : ReadsResponse got head rest
  pub small : length (print_response head) ≤ 65_536
  pub few : length head.fields ≤ 100
  pub final : 200 ≤ status_code head

-- the header lines: names, and values without the white space around them (RFC 9112, section 5)
abbrev pub header_lines : ResponseHead → List Header
header_lines head = map name_and_value head.fields

-- the value of the first line with this name, in any case
abbrev pub first_named : List ℕ → List Header → Option (List ℕ)
first_named name headers = slice_get (values_named name headers) 0

-- 1*DIGIT, of at most 19 digits (and so below 2 ^ 64)
abbrev pub is_short_number : List ℕ → Bool
is_short_number text = nat_le (length text) 19 && is_number text

-- the transfer codings (RFC 9112, section 6.1)
abbrev pub codings : List Header → List (List ℕ)
codings headers = elements_named (codes "transfer-encoding") headers

-- the values that state a length (RFC 9110, section 8.6)
abbrev pub lengths : List Header → List (List ℕ)
lengths headers = values_named (codes "content-length") headers

-- chunked is the only coding, or there is none
abbrev pub IsCoded : List (List ℕ) → Bool → Type 0
IsCoded names true = (transfer_encoding names ≡ Coding.Chunked) × (has_other_coding names ≡ false)
IsCoded names false = names ≡ []

-- every value is this one number, in at most 19 digits, or there is no value
abbrev pub StatesLength : List (List ℕ) → Option ℕ → Type 0
StatesLength values None = values ≡ []
StatesLength values (Some n) = (content_length values ≡ Length.Value n) × IsTrue (list_all is_short_number values)

-- the answers to HEAD, 204 and 304 have no body (RFC 9112, section 6.3)
abbrev pub has_no_body : Bool → ℕ → Bool
has_no_body head_only status = head_only || (status == 204 || status == 304)

-- how the end of the body is found, from whether there is none, whether it is chunked, and the stated length
abbrev pub framing_by : Bool → Bool → Option ℕ → Framing
framing_by true chunked stated = framing.NoBody
framing_by false true stated = framing.Chunked
framing_by false false (Some n) = framing.Length n
framing_by false false None = framing.ToClose

-- The head states at most one end of its body (RFC 9112, section 6.3).
pub record IsFramed (head_only : Bool) (head : ResponseHead) (stated : Option ℕ) (framed : Framing) : Type 0 where
  pub chunked : Bool
  pub coded : IsCoded (codings (header_lines head)) chunked
  pub states : StatesLength (lengths (header_lines head)) stated
  pub one_way : chunked ≡ true → stated ≡ None
  pub by : framed ≡ framing_by (has_no_body head_only (status_code head)) chunked stated

-- 1 to 256 visible characters
abbrev pub is_etag : List ℕ → Bool
is_etag text = nat_le 1 (length text) && (nat_le (length text) 256 && list_all is_ascii_graphic text)

-- the first entity tag (RFC 9110, section 8.8.3), where it is one of those
abbrev pub etag_of : List Header → Option (List ℕ)
etag_of headers =
    option_and_then (λ text. if is_etag text then Some text else None) (first_named (codes "etag") headers)

-- the first date of the last change (RFC 9110, section 8.8.2), in microseconds since 1970
abbrev pub micros_of : List Header → Option ℕ
micros_of headers = option_map (λ seconds. seconds * 1_000_000)
    (option_and_then parse_secs (first_named (codes "last-modified") headers))

-- the text is `bytes first-last/size` (RFC 9110, section 14.4)
pub record SpellsRange (text : List ℕ) (range : ℕ × ℕ × ℕ) : Type 0 where
  pub first : List ℕ
  pub last : List ℕ
  pub size : List ℕ
  pub text_is : text ≡ codes "bytes " ++ (first ++ (codes "-" ++ (last ++ (codes "/" ++ size))))
  pub numbers : IsTrue (is_short_number first) × IsTrue (is_short_number last) × IsTrue (is_short_number size)
  pub range_is : range ≡ (digits_value 10 first, digits_value 10 last, digits_value 10 size)

-- the range that the first line spells, if it spells one
abbrev pub HasRange : Option (List ℕ) → Option (ℕ × ℕ × ℕ) → Type 0
HasRange None range = range ≡ None
HasRange (Some text) None = (range : ℕ × ℕ × ℕ) → ¬ (SpellsRange text range)
HasRange (Some text) (Some range) = SpellsRange text range

-- the body ends without the end of the connection
abbrev pub ends_itself : Framing → Bool
ends_itself framing.NoBody = true
ends_itself (framing.Length n) = true
ends_itself framing.Chunked = true
ends_itself framing.ToClose = false

-- the connection may serve another request (RFC 9112, section 9.3)
abbrev pub may_keep : ResponseHead → Framing → Bool
may_keep head framed = ends_itself framed
    && (head.minor == 1 && not (has_option (codes "close") (elements_named (codes "connection") (header_lines head))))
