use Rattle.refused_outcomes.proofs.ToldFiles.{each_unwarned_file_is_refused}
use Rattle.refused_outcomes.proofs.Unwarned.{each_unwarned_file_is_met, exceptions_let_through}
use Rattle.refused_outcomes.proofs.files.unwarned_files.Goals as goal

pub returns-clause-met : goal.returns-clause-met
returns-clause-met c = each_unwarned_file_is_met

pub returns-clause-excused : goal.returns-clause-excused
returns-clause-excused c = exceptions_let_through

pub returns-clause-refused : goal.returns-clause-refused
returns-clause-refused c = each_unwarned_file_is_refused
