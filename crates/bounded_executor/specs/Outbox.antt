-- The jobs of a lane on their way into its ring.
use Rattle.std.specs.Prelude.{ℕ, ◌+◌, List, ◌++◌, length}
use Rattle.rtrb.specs.Ring.{sent, known_free}
use Rattle.bounded_executor.specs.declared.outbox.Outbox.{Outbox}

module _ {J : Type 0} where
  -- the jobs that the ring took, and then those that wait
  abbrev pub jobs_given : Outbox J → List J
  jobs_given o = sent o.ring ++ o.waiting.items

  -- how many jobs the ring will have taken once the slots known to be free are filled
  abbrev pub known_limit : Outbox J → ℕ
  known_limit o = known_free o.ring + length (sent o.ring)
