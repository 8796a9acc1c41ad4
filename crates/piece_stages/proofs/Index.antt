-- Sets and counts of pieces, where one piece changes.
use Rattle.std.proofs.Common.{◌≡◌, ◌∙◌, ◌<◌, ◌≤◌, ◌+◌, ◌^◌, ◌==◌, ◌&&◌, ℕ, zero, suc, Bool, true, false, not, List, [], ◌∷◌, Option, get_or, set, length, map, replicate, refl, sym, ap, arith, length-set}
use Rattle.std.specs.List.{count_by, list_all, position, position_or_len}
use Rattle.std.proofs.lemmas.Grind.{common_steps}
use Rattle.std.proofs.lemmas.List.{map-set, length-replicate, length-map}
use Rattle.std.proofs.lemmas.List.Sums.{count_by-le-length}
use Rattle.number_sets.specs.Members.{is_set}
use Rattle.piece_stages.specs.declared.piece.PieceStages.{PieceStages}
use Rattle.piece_stages.specs.Pieces.{HasIndex, can_place, can_read, can_send, is_busy, is_placed, is_sent, no_piece, one_if}

-- ---- counts

first : {X : Type 0} (f : X → Bool) (y : X) (ys : List X) (x : X) → count_by f (x ∷ ys) + one_if (f y) ≡ count_by f (y ∷ ys) + one_if (f x)
first f y ys x = grind (arith, common_steps)

next : {X : Type 0} (f : X → Bool) (y : X) (xs ys : List X) (old x : X) → count_by f xs + one_if (f old) ≡ count_by f ys + one_if (f x)
    → count_by f (y ∷ xs) + one_if (f old) ≡ count_by f (y ∷ ys) + one_if (f x)
next f y xs ys old x same = grind (arith, common_steps)

-- an item takes the place of another
counted : {X : Type 0} (f : X → Bool) (xs : List X) (k : ℕ) (x d : X) → k < length xs
    → count_by f (set xs k x) + one_if (f (get_or xs k d)) ≡ count_by f xs + one_if (f x)
counted f [] k x d inside = absurd (omega arith)
counted f (y ∷ ys) zero x d inside = first f y ys x
counted f (y ∷ ys) (suc k) x d inside = next f y (set ys k x) ys (get_or ys k d) x (counted f ys k x d (omega arith))

-- one of them counts
pub counts : {X : Type 0} (f : X → Bool) (xs : List X) (k : ℕ) (d : X) → k < length xs → f (get_or xs k d) ≡ true → 0 < count_by f xs
counts f [] k d inside is = absurd (omega arith)
counts f (y ∷ ys) zero d inside is = grind (arith, common_steps)
counts f (y ∷ ys) (suc k) d inside is = let h = counts f ys k d (omega arith) is in grind (arith, common_steps)

pub recounted : {X : Type 0} (f : X → Bool) (xs : List X) (k : ℕ) (x d : X) (count after : ℕ) → k < length xs → count ≡ count_by f xs
    → after + one_if (f (get_or xs k d)) ≡ count + one_if (f x) → after ≡ count_by f (set xs k x)
recounted f xs k x d count after inside is same = let h = counted f xs k x d inside in omega arith

none_counted : {X : Type 0} (f : X → Bool) (n : ℕ) (x : X) → f x ≡ false → 0 ≡ count_by f (replicate n x)
none_counted f zero x none = refl
none_counted f (suc n) x none = let h = none_counted f n x none in grind (arith, common_steps)

-- all of them count
one_all : {X : Type 0} (f : X → Bool) (x : X) (xs : List X) (b : Bool) → f x ≡ b → (count_by f xs == length xs) ≡ list_all f xs
    → (count_by f (x ∷ xs) == length (x ∷ xs)) ≡ list_all f (x ∷ xs)
one_all f x xs true is all = grind (arith, common_steps)
one_all f x xs false is all = let h = count_by-le-length f xs in grind (arith, common_steps)

pub all_counted : {X : Type 0} (f : X → Bool) (xs : List X) → (count_by f xs == length xs) ≡ list_all f xs
all_counted f [] = refl
all_counted f (x ∷ xs) = one_all f x xs (f x) refl (all_counted f xs)

-- none of them counts
one_none : {X : Type 0} (f : X → Bool) (x : X) (xs : List X) (b : Bool) → f x ≡ b → (count_by f xs == 0) ≡ list_all (λ y. not (f y)) xs
    → (count_by f (x ∷ xs) == 0) ≡ list_all (λ y. not (f y)) (x ∷ xs)
one_none f x xs true is none = grind (arith, common_steps)
one_none f x xs false is none = grind (arith, common_steps)

pub none_counts : {X : Type 0} (f : X → Bool) (xs : List X) → (count_by f xs == 0) ≡ list_all (λ y. not (f y)) xs
none_counts f [] = refl
none_counts f (x ∷ xs) = one_none f x xs (f x) refl (none_counts f xs)

-- ---- sets

first_or_later : {X : Type 0} (f : X → Bool) (x : X) (xs : List X) (b : Bool) → f x ≡ b → position_or_len is_set (map f xs) ≡ position_or_len f xs
    → position_or_len is_set (map f (x ∷ xs)) ≡ position_or_len f (x ∷ xs)
first_or_later f x xs true is rest = grind (arith, common_steps)
first_or_later f x xs false is rest = grind (arith, common_steps)

place_of : {X : Type 0} (f : X → Bool) (xs : List X) → position_or_len is_set (map f xs) ≡ position_or_len f xs
place_of f [] = refl
place_of f (x ∷ xs) = first_or_later f x xs (f x) refl (place_of f xs)

pub first_of : {X : Type 0} (f : X → Bool) (xs : List X) → position is_set (map f xs) ≡ position f xs
first_of f xs = rw (place_of f xs, length-map) refl

flags_all : {X : Type 0} (f : X → Bool) (n : ℕ) (x : X) (b : Bool) → f x ≡ b → replicate n b ≡ map f (replicate n x)
flags_all f zero x b is = refl
flags_all f (suc n) x b is = rw (← is) (ap (λ (bs : List Bool). f x ∷ bs) (rw is (flags_all f n x b is)))

-- ---- the index

by_order : (b : Bool) → can_send b no_piece ≡ not b
by_order true = refl
by_order false = refl

pub none_given : (count : ℕ) (reads_first : Bool) (stages : List PieceStages) (reads sends places : List Bool) → count < 2 ^ 32 → stages ≡ replicate count no_piece
    → reads ≡ replicate count true → sends ≡ replicate count (not reads_first) → places ≡ replicate count false → HasIndex reads_first stages reads sends places 0 0 0
none_given count reads_first stages reads sends places few is r s p = record {
  reads_are = r ∙ flags_all can_read count no_piece true refl ∙ ap (λ (xs : List PieceStages). map can_read xs) (sym is);
  sends_are = s ∙ flags_all (can_send reads_first) count no_piece (not reads_first) (by_order reads_first)
      ∙ ap (λ (xs : List PieceStages). map (can_send reads_first) xs) (sym is);
  places_are = p ∙ flags_all can_place count no_piece false refl ∙ ap (λ (xs : List PieceStages). map can_place xs) (sym is);
  sent_is = none_counted is_sent count no_piece refl ∙ ap (λ (xs : List PieceStages). count_by is_sent xs) (sym is);
  placed_is = none_counted is_placed count no_piece refl ∙ ap (λ (xs : List PieceStages). count_by is_placed xs) (sym is);
  busy_is = none_counted is_busy count no_piece refl ∙ ap (λ (xs : List PieceStages). count_by is_busy xs) (sym is);
  few = let long = ap (λ (xs : List PieceStages). length xs) is ∙ length-replicate count no_piece in omega arith;
}

-- how one item changes a count, by what was answered of it
pub recount_as : (f : PieceStages → Bool) (was is : Bool) (before old piece : PieceStages) (count after : ℕ) → was ≡ f before → before ≡ old → is ≡ f piece
    → after + one_if was ≡ count + one_if is → after + one_if (f old) ≡ count + one_if (f piece)
recount_as f was is before old piece count after w same i so =
    ap (λ (b : Bool). after + one_if b) (sym (w ∙ ap f same)) ∙ so ∙ ap (λ (b : Bool). count + one_if b) i

pub each : (f : PieceStages → Bool) (xs : List PieceStages) (count long : ℕ) → count ≡ count_by f xs → long ≡ length xs → (count == long) ≡ list_all f xs
each f xs count long c l = ap (λ (n : ℕ). n == long) c ∙ ap (λ (n : ℕ). count_by f xs == n) l ∙ all_counted f xs

pub one_put : (reads_first : Bool) (stages : List PieceStages) (reads sends places : List Bool) (sent placed busy : ℕ) (k : ℕ) (piece : PieceStages)
    (read_set send_set place_set : List Bool) (sent_now placed_now busy_now : ℕ) → k < length stages → HasIndex reads_first stages reads sends places sent placed busy
    → read_set ≡ set reads k (can_read piece) → send_set ≡ set sends k (can_send reads_first piece) → place_set ≡ set places k (can_place piece)
    → sent_now + one_if (is_sent (get_or stages k no_piece)) ≡ sent + one_if (is_sent piece)
    → placed_now + one_if (is_placed (get_or stages k no_piece)) ≡ placed + one_if (is_placed piece)
    → busy_now + one_if (is_busy (get_or stages k no_piece)) ≡ busy + one_if (is_busy piece)
    → HasIndex reads_first (set stages k piece) read_set send_set place_set sent_now placed_now busy_now
one_put reads_first stages reads sends places sent placed busy k piece read_set send_set place_set sent_now placed_now busy_now inside h r s p sent_so placed_so busy_so = record {
  reads_are = r ∙ ap (λ (bs : List Bool). set bs k (can_read piece)) h.reads_are ∙ sym (map-set can_read stages k piece);
  sends_are = s ∙ ap (λ (bs : List Bool). set bs k (can_send reads_first piece)) h.sends_are ∙ sym (map-set (can_send reads_first) stages k piece);
  places_are = p ∙ ap (λ (bs : List Bool). set bs k (can_place piece)) h.places_are ∙ sym (map-set can_place stages k piece);
  sent_is = recounted is_sent stages k piece no_piece sent sent_now inside h.sent_is sent_so;
  placed_is = recounted is_placed stages k piece no_piece placed placed_now inside h.placed_is placed_so;
  busy_is = recounted is_busy stages k piece no_piece busy busy_now inside h.busy_is busy_so;
  few = rw (length-set stages k piece) h.few;
}
