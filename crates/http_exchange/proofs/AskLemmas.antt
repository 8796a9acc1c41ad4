-- A request that is sent in a talk of its own.
use Rattle.std.proofs.Common.{◌≡◌, ℕ, ◌+◌, ◌≤◌, min, List, [], ◌++◌, length, take, drop, Option, Result, Ok, Err, sym, refl, ap, ◌∙◌, arith}
use Rattle.std.specs.Option.{option_map}
use Rattle.std.proofs.Math.Seq.{take-append-add}
use Rattle.std.proofs.lemmas.List.{append-nil, take-append-drop, take-append-le}
use Rattle.s3_model.specs.Talks.{Talk, Ending, Failed, Finished, WireLog}
use Rattle.s3_model.specs.declared.places.Endpoint.{Endpoint}
use Rattle.s3_outside.specs.Seen.{IsSeenAfter}
use Rattle.s3_outside.specs.Wire.{sends, fails, last_talk}
use Rattle.answer_grammar.proofs.ChunkLemmas.{window_is}
use Rattle.http_exchange.specs.Steps.{Sends, Asks}
use Rattle.http_exchange.specs.Seen.{with_talk}
use Rattle.http_exchange.proofs.TalkLemmas.{changed_after_begin, seen_after, sends_after}

-- a talk that begins
abbrev pub fresh : List ℕ → ℕ → Ending → Talk
fresh host port ending = record { host = host; port = port; sent = []; got = []; ending = ending }

take_front : (count : ℕ) (bytes : List ℕ) → take (min count (length bytes)) bytes ≡ take count bytes
take_front count bytes = ap (λ (n : ℕ). take n bytes) (omega arith) ∙ window_is count bytes

-- the talk did not begin
pub asked_none : {T E : Type 0} (endpoint : Endpoint) (host : List ℕ) (port : ℕ) (bytes : List ℕ) (before after : Option WireLog) (x y : ℕ) (fault : E)
    → host ≡ endpoint.host → port ≡ endpoint.port → IsSeenAfter (with_talk (fresh host port Failed)) before after x y → Asks {T = T} {E = E} endpoint bytes before after x y (Err fault)
asked_none endpoint host port bytes before after x y fault same_host same_port at_begin =
    (fresh host port Failed, at_begin, record { host = same_host; port = same_port; sent = (bytes, refl); got = refl; whole = tt; failed = refl })

-- the talk began, and these bytes were sent in it, or some of them
pub asked : {E : Type 0} (endpoint : Endpoint) (host : List ℕ) (port : ℕ) (bytes : List ℕ) (before begun after : Option WireLog) (x y z : ℕ) (result : Result Unit E)
    → host ≡ endpoint.host → port ≡ endpoint.port
    → IsSeenAfter (with_talk (fresh host port Finished)) before begun x y → Sends bytes begun after result → y ≤ z → Asks endpoint bytes before after x z result
asked endpoint host port bytes before begun after x y z (Ok done) same_host same_port at_begin sent later = (
  sends bytes (fresh host port Finished),
  changed_after_begin (sends bytes) (fresh host port Finished) before begun after x y z at_begin sent later,
  record { host = same_host; port = same_port; sent = ([], sym (append-nil bytes)); got = refl; whole = (refl, refl); failed = tt },
)
asked endpoint host port bytes before begun after x y z (Err fault) same_host same_port at_begin sent later = (
  fails (sends (take sent.0 bytes) (fresh host port Finished)),
  changed_after_begin (λ talk. fails (sends (take sent.0 bytes) talk)) (fresh host port Finished) before begun after x y z at_begin sent.1 later,
  record { host = same_host; port = same_port; sent = (drop sent.0 bytes, sym (take-append-drop sent.0 bytes)); got = refl; whole = tt; failed = refl },
)

-- of two parts only the first was tried
pub sends_first : {E : Type 0} (first second : List ℕ) (before after : Option WireLog) (fault other : E) → Sends first before after (Err fault) → Sends (first ++ second) before after (Err other)
sends_first first second before after fault other sent =
    let count = min sent.0 (length first) in
    let same : take (min sent.0 (length first)) (first ++ second) ≡ take sent.0 first = take-append-le (min sent.0 (length first)) first second (omega arith) ∙ take_front sent.0 first in
    (min sent.0 (length first), sent.1 ∙ ap (λ (bytes : List ℕ). option_map (last_talk (λ talk. fails (sends bytes talk))) before) (sym same))

-- two parts were sent, or the first and some of the second
pub sends_both : {E : Type 0} (first second : List ℕ) (before between after : Option WireLog) (result : Result Unit E)
    → between ≡ option_map (last_talk (sends first)) before → Sends second between after result → Sends (first ++ second) before after result
sends_both first second before between after (Ok done) first_sent sent =
    seen_after (sends second) (sends first) (sends (first ++ second)) (sends_after first second) before between after first_sent sent
sends_both first second before between after (Err fault) first_sent sent =
    let same = take-append-add first second sent.0 in (
      length first + sent.0,
      seen_after (λ talk. fails (sends (take sent.0 second) talk)) (sends first) (λ talk. fails (sends (take (length first + sent.0) (first ++ second)) talk))
          (λ talk. ap fails (sends_after first (take sent.0 second) talk) ∙ ap (λ (bytes : List ℕ). fails (sends bytes talk)) (sym same)) before between after first_sent sent.1,
    )
