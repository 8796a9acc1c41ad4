-- How far the acts of a task's pieces are, and what of it is kept beside them.
use Rattle.std.specs.Prelude.{◌≡◌, ◌<◌, ◌^◌, ◌&&◌, ◌||◌, ℕ, Bool, true, false, List, length, map, not}
use Rattle.std.specs.List.{count_by}
use Rattle.task_acts.specs.declared.acts.Stage.TheVariants as at
use Rattle.task_acts.specs.Stages.{has_done, is_out, may_be_given}
use Rattle.piece_stages.specs.declared.piece.PieceStages.{PieceStages}

-- what contracts see of the pieces
pub record SeenPieces : Type 0 where
  pub stages : List PieceStages
  pub reads_first : Bool

abbrev pub no_piece : PieceStages
no_piece = record { read = at.Waiting; send = at.Waiting; place = at.Waiting }

-- ---- what a piece says by itself of its acts

abbrev pub can_read : PieceStages → Bool
can_read piece = may_be_given piece.read

abbrev pub can_send : (reads_first : Bool) → PieceStages → Bool
can_send reads_first piece = may_be_given piece.send && (not reads_first || has_done piece.read)

abbrev pub can_place : PieceStages → Bool
can_place piece = may_be_given piece.place && has_done piece.send

abbrev pub is_sent : PieceStages → Bool
is_sent piece = has_done piece.send

abbrev pub is_placed : PieceStages → Bool
is_placed piece = has_done piece.place

abbrev pub is_busy : PieceStages → Bool
is_busy piece = is_out piece.read || is_out piece.send || is_out piece.place

-- ---- the index

abbrev pub one_if : Bool → ℕ
one_if true = 1
one_if false = 0

-- the sets and the counts are those of the pieces
pub record HasIndex (reads_first : Bool) (stages : List PieceStages) (reads sends places : List Bool)
    (sent placed busy : ℕ) : Type 0 where
  pub reads_are : reads ≡ map can_read stages
  pub sends_are : sends ≡ map (can_send reads_first) stages
  pub places_are : places ≡ map can_place stages
  pub sent_is : sent ≡ count_by is_sent stages
  pub placed_is : placed ≡ count_by is_placed stages
  pub busy_is : busy ≡ count_by is_busy stages
  pub few : length stages < 2 ^ 32
