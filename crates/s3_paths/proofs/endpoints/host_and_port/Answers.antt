use Rattle.std.proofs.Common.{arith, lit<, None}
use Rattle.std.proofs.lemmas.Bool.Decides.{nat_tests}
use Rattle.std.proofs.lemmas.Str.Pattern.{split_once_first}
use Rattle.s3_paths.specs.Endpoints.{is_colon}
use Rattle.s3_paths.proofs.endpoints.host_and_port.Goals as goal
use Rattle.shared_lemmas.proofs.Places.{list_any-position}

pub returns-in-None-clause-port : goal.returns-in-None-clause-port
returns-in-None-clause-port c =
    let none = split_once_first 58 c.args.authority.now None c.in-None.ensures.cases (lit< tt) in
    let any = list_any-position is_colon c.args.authority.now in
    grind (arith, nat_tests)
