use Rattle.desk_promise.proofs.Gaining.{lanes_gain}
use Rattle.desk_promise.proofs.laws.lanes_gain.Goals as goal

pub returns : goal.returns
returns g c = lanes_gain g.W.Wire.seen
