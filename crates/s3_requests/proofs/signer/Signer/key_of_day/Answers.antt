use Rattle.std.proofs.Common.{rules}
use Rattle.s3_requests.proofs.signer.Signer.key_of_day.Goals as goal

pub returns-then-last-day-clause-key : goal.returns-then-last-day-clause-key
returns-then-last-day-clause-key c = search rules
