use Rattle.s3_requests.proofs.own.push_token.Goals as goal

pub returns-in-Some : goal.returns-in-Some
returns-in-Some c = rw c.in-Some.is c.push.ensures.items
