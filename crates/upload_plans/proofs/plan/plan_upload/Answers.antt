use Rattle.std.proofs.Common.{rules}
use Rattle.upload_plans.proofs.plan.plan_upload.Goals as goal

pub returns-in-Folder-clause-fate : goal.returns-in-Folder-clause-fate
returns-in-Folder-clause-fate c = search rules

pub returns-in-File-2-clause-fate : goal.returns-in-File-2-clause-fate
returns-in-File-2-clause-fate c = search rules
