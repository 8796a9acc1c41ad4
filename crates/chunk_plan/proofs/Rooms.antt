-- The rooms of parts.
use Rattle.std.proofs.Common.{◌≡◌, ◌≤◌, ◌+◌, ◌∙◌, ◌++◌, ◌∷◌, ℕ, List, [], ap, arith, drop, length, max, take}
use Rattle.std.proofs.Common.{Some}
use Rattle.std.proofs.lemmas.List.{take-append-le, take_all}
use Rattle.std.proofs.lemmas.List.Elements.{All-pop, All-push, All-same}
use Rattle.s3_model.specs.declared.bytes.Part.{Part}
use Rattle.chunk_plan.specs.Pool.{HaveAtMost, HaveRoom, Pool}

pub room_added : (room : ℕ) (parts more : List Part) (part : Part) → more ≡ parts ++ part ∷ [] → part.bytes.room ≡ room
    → HaveRoom room parts → HaveRoom room more
room_added room parts more part is same rooms =
    All-same (λ part. room ≤ part.bytes.room) more (parts ++ part ∷ []) is
    (All-push (λ part. room ≤ part.bytes.room) parts part rooms (omega arith))

pub most_added : (most : ℕ) (parts more : List Part) (part : Part) → more ≡ parts ++ part ∷ [] → part.bytes.room ≡ most
    → HaveAtMost most parts → HaveAtMost most more
most_added most parts more part is same rooms =
    All-same (λ part. part.bytes.room ≤ most) more (parts ++ part ∷ []) is
    (All-push (λ part. part.bytes.room ≤ most) parts part rooms (omega arith))

abbrev full : (count free bytes : ℕ) → Pool
full count free bytes = record { count = count; free = free; lent = 0; room = bytes; most = bytes }

-- none is lent where all of them are here
pub none_lent : (count here bytes : ℕ) → here ≡ count
    → ◌≡◌ {A = Pool} (record { count = here + 0; free = here; lent = 0; room = bytes; most = bytes })
    (record { count = count; free = count; lent = 0; room = bytes; most = bytes })
none_lent count here bytes all =
    let whole : here + 0 ≡ count = omega arith in
    ap (λ (n : ℕ). full n here bytes) whole ∙ ap (λ (n : ℕ). full count n bytes) all

-- the parts without the last one
pub rooms_left : (room : ℕ) (parts left : List Part) (part : Part) → parts ≡ left ++ part ∷ [] → HaveRoom room parts
    → HaveRoom room left
rooms_left room parts left part is rooms = (All-pop (λ part. room ≤ part.bytes.room) parts left (Some part) is rooms).0

pub most_left : (most : ℕ) (parts left : List Part) (part : Part) → parts ≡ left ++ part ∷ [] → HaveAtMost most parts
    → HaveAtMost most left
most_left most parts left part is rooms = (All-pop (λ part. part.bytes.room ≤ most) parts left (Some part) is rooms).0

-- parts in the place of as many others
all_written : (len : ℕ) (new old : List Part) → length new ≡ len → take len (new ++ drop (length new) old) ≡ new
all_written len new old size =
    let within : len ≤ length new = omega arith in
    let whole : length new ≤ len = omega arith in
    take-append-le len new (drop (length new) old) within ∙ take_all len new whole

pub rooms_written : (room larger len : ℕ) (new old : List Part) → length new ≡ len → larger ≡ room
    → HaveRoom room new → HaveRoom larger (take len (new ++ drop (length new) old))
rooms_written room larger len new old size same rooms =
    All-same (λ part. larger ≤ part.bytes.room) (take len (new ++ drop (length new) old)) new (all_written len new old size)
    (λ k d inside. let had = rooms k d inside in omega arith)

pub most_written : (most larger len : ℕ) (new old : List Part) → length new ≡ len → larger ≡ most
    → HaveAtMost most new → HaveAtMost larger (take len (new ++ drop (length new) old))
most_written most larger len new old size same rooms =
    All-same (λ part. part.bytes.room ≤ larger) (take len (new ++ drop (length new) old)) new (all_written len new old size)
    (λ k d inside. let had = rooms k d inside in omega arith)

-- parts whose rooms are at least both of two
pub both_rooms : (room other : ℕ) (parts : List Part) → HaveRoom room parts → HaveRoom other parts
    → HaveRoom (max room other) parts
both_rooms room other parts rooms others k d inside =
    let one = rooms k d inside in
    let two = others k d inside in omega arith
