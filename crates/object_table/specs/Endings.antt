-- How an upload ended, as it is kept.
use Rattle.std.specs.Prelude.{ℕ, List, Option, Some, None}
use Rattle.s3_service.specs.ServiceState.{Ended, CompletedBy, Aborted}

-- completed by these ETags, or else aborted
abbrev pub ended_of : Option (List (List ℕ)) → Ended
ended_of (Some etags) = CompletedBy etags
ended_of None = Aborted

abbrev pub etags_of : Ended → Option (List (List ℕ))
etags_of (CompletedBy etags) = Some etags
etags_of Aborted = None
