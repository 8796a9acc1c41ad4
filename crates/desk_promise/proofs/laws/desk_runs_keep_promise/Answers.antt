use Rattle.desk_promise.proofs.Promise.{desk_runs_keep}
use Rattle.desk_promise.proofs.Witness.{done_is_not_idle, dry_run_is_met}
use Rattle.desk_promise.proofs.laws.desk_runs_keep_promise.Goals as goal

pub returns : goal.returns
returns g c = record {
  keeps = desk_runs_keep g.W.Wire.seen g.C.Command.call_failed;
  met = dry_run_is_met;
  done = done_is_not_idle;
}
