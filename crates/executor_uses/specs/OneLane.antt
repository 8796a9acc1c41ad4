-- A desk with one lane, whose outcomes are kept.
use Rattle.std.specs.Prelude.{◌≡◌, List, length, slice_index_or}
use Rattle.bounded_executor.specs.Exchange.{Exchange, unused}

-- these jobs were given to the only lane, and these outcomes taken of it
pub record IsOneExchange {J D : Type 0} (lanes : List (Exchange J D)) (jobs : List J) (outcomes : List D) : Type 0 where
  pub one : length lanes ≡ 1
  pub given : (slice_index_or lanes 0 unused).given ≡ jobs
  pub taken : (slice_index_or lanes 0 unused).taken ≡ outcomes
