use Rattle.std.proofs.Common.{◌≡◌, [], refl, rules}
use Rattle.attempts.specs.Attempts.{IsGet}
use Rattle.attempts.specs.Payloads.{body_of}
use Rattle.s3_model.specs.declared.requests.Ask.{Ask}
use Rattle.s3_model.specs.declared.requests.Ask.TheVariants as ask
use Rattle.s3_model.specs.Documents.{document_of}
use Rattle.lane_jobs.proofs.carrier.Carrier.fetch.Goals as goal

sends_nothing : (asked : Ask) → IsGet asked → body_of asked [] ≡ []
unfolding document_of
sends_nothing (ask.Get b k e r) get = refl
sends_nothing asked get = absurd get

pub returns-clause-carried : goal.returns-clause-carried
returns-clause-carried g c = rw (sends_nothing c.args.ask.now c.requires.get) (search rules)
