use Rattle.rare_runs.proofs.SettingFields.{each_field_breaks_alone}
use Rattle.rare_runs.proofs.Settings.{each_setting_is_refused, setting_is_met}
use Rattle.rare_runs.proofs.neighbours.setting.Goals as goal

pub returns-clause-met : goal.returns-clause-met
returns-clause-met c = setting_is_met

pub returns-clause-refused : goal.returns-clause-refused
returns-clause-refused c = each_setting_is_refused

pub returns-clause-alone : goal.returns-clause-alone
returns-clause-alone c = each_field_breaks_alone
