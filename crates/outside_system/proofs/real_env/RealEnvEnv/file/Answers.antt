use Rattle.std.proofs.Common.{rules}
use Rattle.outside_system.proofs.real_env.RealEnvEnv.file.Goals as goal

pub returns-in-Err-3-clause-cause : goal.returns-in-Err-3-clause-cause
returns-in-Err-3-clause-cause g c = search rules
