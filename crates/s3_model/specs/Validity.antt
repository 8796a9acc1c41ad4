-- Which limits and which configuration a call may be given.
use Rattle.std.specs.Prelude.{◌≤◌, ◌*◌, ◌^◌, ℕ}
use Rattle.s3_model.specs.declared.settings.Limits.{Limits}
use Rattle.s3_model.specs.declared.settings.Config.{Config}

pub record IsWithin (low value high : ℕ) : Type 0 where
  pub least : low ≤ value
  pub most : value ≤ high

-- the limits of a service
pub record IsValidLimits (l : Limits) : Type 0 where
  pub min_part : 1 ≤ l.min_part
  pub parts : l.min_part ≤ l.max_part
  pub max_part : l.max_part ≤ 2 ^ 40
  pub max_parts : IsWithin 1 l.max_parts 10000
  pub max_object : IsWithin 1 l.max_object (2 ^ 40)
  pub reached : l.max_object ≤ l.max_part * l.max_parts

pub record IsValidConfig (c : Config) : Type 0 where
  pub threshold : IsWithin 1 c.threshold (2 ^ 30)
  pub chunk : IsWithin 1 c.chunk (2 ^ 30)
  pub lanes : IsWithin 1 c.lanes 1000
  pub queue : IsWithin 1 c.queue 100000
  pub buffers : IsWithin 1 c.buffers 64
  pub attempts : IsWithin 1 c.attempts 10
