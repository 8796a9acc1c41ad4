use Rattle.std.proofs.Common.{ap, sym}
use Rattle.s3_words.specs.declared.roles.Expected.{Expected}
use Rattle.s3_words.specs.Roles.{role_of}
use Rattle.s3_words.proofs.roles.Expected.role_of.Goals as goal

pub returns-in-ValueOf : goal.returns-in-ValueOf
returns-in-ValueOf c = sym (ap (λ (expected : Expected). role_of expected c.args.word.now) c.in-ValueOf.is)
