-- A piece that is to be read has its part.
use Rattle.std.proofs.Common.{◌≡◌, ◌∙◌, ℕ, refl, sym, ap}
use Rattle.manager_moves.specs.Runs.{Events, Shared}
use Rattle.manager_moves.specs.declared.moves.Move.{Move}
use Rattle.manager_moves.specs.declared.moves.Move.TheVariants as move
use Rattle.move_laws.proofs.SteadyLemmas.{steady_as}
use Rattle.move_laws.specs.Calls.{IsLent}
use Rattle.move_laws.specs.Follows.{Follows}
use Rattle.move_laws.specs.Kept.{SeenMoves}
use Rattle.move_laws.specs.Steady.{IsSteady}
use Rattle.manager_core.proofs.RunLemmas.{at_due, given_by, kept_journal, with}
use Rattle.manager_core.proofs.TagLemmas.{tags_same}
use Rattle.manager_core.specs.declared.due.Due.TheVariants as due
use Rattle.manager_core.specs.Kept.{SeenManager}
use Rattle.manager_core.specs.Running.{FollowsBut, IsAt, IsRunning, Start}

pub lent_steady : (task number : ℕ) (m new : SeenMoves) → IsLent task number m new → IsSteady m new
lent_steady task number m new lent = steady_as m new (ap (λ (x : SeenMoves). x.slots) lent.rest) lent.pool.room

-- what is not read needs none
pub follows_but : (s : Shared) (events : Events) (mv : SeenMoves) (next : Move)
    → ((task number : ℕ) → next ≡ move.Read task number → ⊥) → Follows s events mv
    → FollowsBut (due.Next next) s events mv
follows_but s events mv (move.Read task number) other follows = absurd (other task number refl)
follows_but s events mv next other follows = follows

module _ (start : Start) (s : Shared) (events : Events) (m : SeenManager)
    (running : IsRunning start s events m) (task number : ℕ) (is : m.due ≡ due.Next (move.Read task number)) where
  read_at : IsAt (due.Next (move.Read task number)) s events m
  read_at = at_due start s events m running (due.Next (move.Read task number)) is

  -- more bytes stand in it
  pub filled_runs : (mv : SeenMoves) → ((before : SeenMoves) → IsLent task number before m.moves
      → IsLent task number before mv)
      → IsRunning start s events (with m mv m.steps m.journal (due.Next (move.Read task number)))
  filled_runs mv lent =
      let was = read_at.follows in
      let now = lent was.before was.lent in
      let steady : IsSteady m.moves mv = steady_as m.moves mv
      (ap (λ (x : SeenMoves). x.slots) now.rest ∙ sym (ap (λ (x : SeenMoves). x.slots) was.lent.rest))
      (now.pool.room ∙ sym was.lent.pool.room) in record {
        given = given_by start s events m running mv m.steps m.journal (due.Next (move.Read task number))
            steady.room;
        journal = kept_journal start s events m running mv m.steps (due.Next (move.Read task number));
        state = record {
          run = read_at.run;
          follows = record { before = was.before; follows = was.follows; none = was.none; lent = now };
          named = read_at.named;
          steps = read_at.steps;
          tags = tags_same s events m.moves mv steady read_at.tags;
        };
      }
