use Rattle.attempts.specs.Attempts.{Makes, SignedRequest}
use Rattle.job_terms.proofs.GainLemmas.{gains_both}
use Rattle.lane_jobs.specs.Lanes.{Attempts, IsNotedBefore}
use Rattle.lane_jobs.proofs.LoopLemmas.{behind_pause}
use Rattle.lane_jobs.proofs.attempt.attempt_once.Goals as goal

pub returns-clause-gained : goal.returns-clause-gained
returns-clause-gained g c =
    let request : SignedRequest = record { endpoint = c.args.client.now.endpoint; keys = c.args.client.now.signer; asked = c.args.ask.now; body = c.args.payload.now; limit = c.args.limit } in
    let made = c.attempt.result in
    let place = c.attempt.new.into.bytes in
    gains_both (IsNotedBefore c.args.number) (Makes request made place) (Attempts request c.args.number made place) (behind_pause request c.args.number made place)
    _ _ _ c.pause_before.ensures.noted c.attempt.ensures.gained
