-- The bytes between two places of a buffer.
use Rattle.std.proofs.Common.{◌≡◌, ℕ, ◌+◌, ◌-◌, ◌≤◌, List, ◌++◌, length, take, drop, sym, ap, ◌∙◌, arith}
use Rattle.std.specs.Prelude.{slice_range}
use Rattle.std.proofs.Math.Seq.{take-append-add}
use Rattle.std.proofs.lemmas.List.{length-take, length-drop, take-append-le, drop-take, drop-drop}

-- a piece behind the bytes at the front
pub refilled : (n count : ℕ) (bytes piece rest : List ℕ) → n ≤ length bytes → count ≤ length piece
    → slice_range (take n bytes ++ (piece ++ rest)) 0 (n + count) ≡ slice_range bytes 0 n ++ take count piece
refilled n count bytes piece rest within bound =
    let long : length (take n bytes) ≡ n = omega (arith, length-take n bytes, within) in
    let all : (n + count) - 0 ≡ length (take n bytes) + count = omega (arith, long) in
    let first : n ≡ n - 0 = omega arith in
    ap (λ (m : ℕ). take m (take n bytes ++ (piece ++ rest))) all ∙ take-append-add (take n bytes) (piece ++ rest) count
    ∙ ap (λ (behind : List ℕ). take n bytes ++ behind) (take-append-le count piece rest bound) ∙ ap (λ (m : ℕ). take m bytes ++ take count piece) first

-- fewer bytes from a later place
pub skipped : (start count end : ℕ) (bytes : List ℕ) → start + count ≤ end → slice_range bytes (start + count) end ≡ drop count (slice_range bytes start end)
skipped start count end bytes within =
    let left = end - (start + count) in
    let sum : end - start ≡ count + (end - (start + count)) = omega arith in
    ap (λ (rest : List ℕ). take (end - (start + count)) rest) (sym (drop-drop count start bytes)) ∙ sym (drop-take count (end - (start + count)) (drop start bytes))
    ∙ ap (λ (m : ℕ). drop count (take m (drop start bytes))) (sym sum)

-- how many bytes stand between two places
pub between : (start end : ℕ) (bytes unread : List ℕ) → slice_range bytes start end ≡ unread → end ≤ length bytes → end - start ≤ length unread
between start end bytes unread same within =
    omega (arith, ap length same, length-take (end - start) (drop start bytes), length-drop start bytes, within)

-- the bytes between two places, and behind them those that came, in a buffer that was written
pub held : (start end kept : ℕ) (old now items new unread got : List ℕ) → new ≡ now → slice_range now 0 kept ≡ slice_range old start end ++ got
    → old ≡ items → slice_range items start end ≡ unread → slice_range new 0 kept ≡ unread ++ got
held start end kept old now items new unread got fresh came same is =
    ap (λ (l : List ℕ). slice_range l 0 kept) fresh ∙ came ∙ ap (λ (l : List ℕ). slice_range l start end ++ got) same ∙ ap (λ (l : List ℕ). l ++ got) is
