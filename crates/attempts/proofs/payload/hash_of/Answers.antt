use Rattle.attempts.proofs.payload.hash_of.Goals as goal

pub returns-in-None-clause-hash : goal.returns-in-None-clause-hash
returns-in-None-clause-hash c = c.payload_hash-hash.ensures

pub returns-in-None-clause-known : goal.returns-in-None-clause-known
returns-in-None-clause-known c = c.payload_hash-hash.ensures
