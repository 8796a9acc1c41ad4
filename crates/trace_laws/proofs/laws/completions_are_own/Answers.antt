use Rattle.run_traces.proofs.Handing.{jobs_of}
use Rattle.trace_laws.proofs.Coming.{come_as_given}
use Rattle.trace_laws.proofs.Own.{none_is_stranger, own_outcome}
use Rattle.trace_laws.proofs.Witness.{none_are_exchanged, none_is_given_twice}
use Rattle.trace_laws.proofs.laws.completions_are_own.Goals as goal

pub returns : goal.returns
returns g c = record {
  own = λ carrier trace later before befores afters lane carried joined is. own_outcome g.W.Wire.seen carrier trace befores afters joined later before lane carried is;
  none = none_is_stranger g.W.Wire.seen;
  come = λ carrier trace befores afters jobs joined are. come_as_given g.W.Wire.seen carrier trace befores afters jobs joined are;
  jobs = jobs_of;
  exchanged = none_are_exchanged g.W.Wire.seen;
  twice = none_is_given_twice;
}
