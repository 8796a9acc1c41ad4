use Rattle.std.proofs.Common.{rules}
use Rattle.s3_paths.proofs.EndpointLemmas.{IsEndpoint-read}
use Rattle.s3_paths.proofs.endpoints.endpoint.Goals as goal

pub returns-in-Ok-Ok-clause-endpoint : goal.returns-in-Ok-Ok-clause-endpoint
returns-in-Ok-Ok-clause-endpoint c = IsEndpoint-read _ _ _ _ (search rules) (search rules) (search rules) (search rules)

pub returns-in-Ok-Ok-clause-written : goal.returns-in-Ok-Ok-clause-written
returns-in-Ok-Ok-clause-written c = search rules
