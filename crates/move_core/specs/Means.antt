-- What a run is made with.
use Rattle.std.specs.Prelude.{◌≡◌, ℕ, length}
use Rattle.manager_moves.specs.Runs.{Shared}
use Rattle.move_core.specs.declared.move_core.Means.{Means}

-- what the tasks of a run share is this
pub record IsSharedBy (count : ℕ) (means : Means) (s : Shared) : Type 0 where
  pub count_is : length s.works ≡ count
  pub lanes_are : s.lanes ≡ means.lanes
  pub depth_is : s.depth ≡ means.depth
  pub queue_is : s.queue ≡ means.queue
  pub buffers_are : s.buffers ≡ means.parts
