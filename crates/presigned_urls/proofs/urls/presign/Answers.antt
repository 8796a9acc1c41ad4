use Rattle.std.proofs.Common.{rules}
use Rattle.presigned_urls.proofs.urls.presign.Goals as goal

pub returns-then-expires-lt1-clause-refusal : goal.returns-then-expires-lt1-clause-refusal
returns-then-expires-lt1-clause-refusal c = search rules

pub returns-then-expires-lt1-clause-fault : goal.returns-then-expires-lt1-clause-fault
returns-then-expires-lt1-clause-fault c = search rules

pub parts_of-requires : goal.parts_of-requires
parts_of-requires c = search rules

pub returns-in_err-parts-clause-refusal : goal.returns-in_err-parts-clause-refusal
returns-in_err-parts-clause-refusal c = search rules

pub returns-in_err-url-clause-refusal : goal.returns-in_err-url-clause-refusal
returns-in_err-url-clause-refusal c = search rules

pub returns-clause-refusal : goal.returns-clause-refusal
returns-clause-refusal c = search rules
