use Rattle.std.proofs.Common.{◌∙◌, Ok, ap, rules}
use Rattle.temp_files.specs.Assembly.{Assembling}
use Rattle.temp_files.proofs.AssemblyLemmas.{finished_given, gone_given, others_given}
use Rattle.temp_files.proofs.assembly.Assembly.finish.Goals as goal

pub returns-in-Ok-clause-finished : goal.returns-in-Ok-clause-finished
returns-in-Ok-clause-finished g c =
    finished_given c.args.self _ _ (Ok c.in-Ok.field-0) _ _ _ _ (ap (λ (a : Assembling). a.temp) c.self.view_is) (c.as_str.ensures ∙ ap (λ (a : Assembling). a.dest) c.self.view_is) c.in-Ok.ensures.calls

pub returns-in-Ok-clause-others : goal.returns-in-Ok-clause-others
returns-in-Ok-clause-others g c =
    others_given c.args.self _ _ (Ok c.in-Ok.field-0) _ _ _ _ (ap (λ (a : Assembling). a.temp) c.self.view_is) (c.as_str.ensures ∙ ap (λ (a : Assembling). a.dest) c.self.view_is) c.in-Ok.ensures.calls

pub returns-in-Ok-clause-gone : goal.returns-in-Ok-clause-gone
returns-in-Ok-clause-gone g c =
    gone_given c.args.self _ _ (Ok c.in-Ok.field-0) _ _ _ _ (ap (λ (a : Assembling). a.temp) c.self.view_is) (λ e. c.self.invariant (e ∙ c.as_str.ensures)) c.in-Ok.ensures.calls

pub returns-in-Ok-clause-free : goal.returns-in-Ok-clause-free
returns-in-Ok-clause-free g c = search rules

pub returns-in-Ok-clause-calls : goal.returns-in-Ok-clause-calls
returns-in-Ok-clause-calls g c = search rules

pub returns-in-Err-clause-same : goal.returns-in-Err-clause-same
returns-in-Err-clause-same g c = search rules

pub returns-in-Err-clause-back : goal.returns-in-Err-clause-back
returns-in-Err-clause-back g c = search rules

pub returns-in-Err-clause-memory : goal.returns-in-Err-clause-memory
returns-in-Err-clause-memory g c = search rules

pub returns-in-Err-clause-front : goal.returns-in-Err-clause-front
returns-in-Err-clause-front g c = search rules

pub returns-in-Err-clause-way : goal.returns-in-Err-clause-way
returns-in-Err-clause-way g c = search rules

pub returns-in-Err-clause-calls : goal.returns-in-Err-clause-calls
returns-in-Err-clause-calls g c = search rules

pub returns-in-Err-clause-failed : goal.returns-in-Err-clause-failed
returns-in-Err-clause-failed g c = search rules

pub returns-in-Err-clause-finished : goal.returns-in-Err-clause-finished
returns-in-Err-clause-finished g c = search rules

pub returns-in-Err-clause-others : goal.returns-in-Err-clause-others
returns-in-Err-clause-others g c = search rules

pub returns-in-Err-clause-gone : goal.returns-in-Err-clause-gone
returns-in-Err-clause-gone g c = search rules

pub returns-in-Err-clause-free : goal.returns-in-Err-clause-free
returns-in-Err-clause-free g c = search rules
