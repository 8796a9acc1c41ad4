use Rattle.s3_fakes.proofs.Following.{answered_fault, answered_served, follows_answer, follows_state, on_ok, with_state}
use Rattle.std.proofs.Common.{ap, Err}
use Rattle.object_table.specs.declared.fault.TableFault.{TableFault}
use Rattle.s3_fakes.proofs.mem_table.MemTable.serve_ask.Goals as goal

pub returns-clause-follows : goal.returns-clause-follows
returns-clause-follows c =
    follows_answer c.args.self.now (with_state (record { limits = c.self.inside.manner.limits; state = c.self.inside.objects; is_scripted = c.self.inside.is_scripted }) c.serve.new.table)
    (answered_served c.args.self.now (record { limits = c.self.inside.manner.limits; state = c.self.inside.objects; is_scripted = c.self.inside.is_scripted }) c.serve.new.table c.args.ask.now c.args.body.now c.in-Ok.gained c.self.view_is c.in-Ok.ensures.served c.in-Ok.ensures.ranged)

pub returns-clause-answered : goal.returns-clause-answered
returns-clause-answered c =
    on_ok c.answer_of-answer.result
    (answered_served c.args.self.now (record { limits = c.self.inside.manner.limits; state = c.self.inside.objects; is_scripted = c.self.inside.is_scripted }) c.serve.new.table c.args.ask.now c.args.body.now c.in-Ok.gained c.self.view_is c.in-Ok.ensures.served c.in-Ok.ensures.ranged)

pub returns-in-Err-clause-follows : goal.returns-in-Err-clause-follows
returns-in-Err-clause-follows c = follows_state c.args.self.now (record { limits = c.self.inside.manner.limits; state = c.self.inside.objects; is_scripted = c.self.inside.is_scripted }) c.serve.new.table c.self.view_is c.in-Err.ensures.same

pub returns-in-Err-clause-answered : goal.returns-in-Err-clause-answered
returns-in-Err-clause-answered c =
    answered_fault c.unserved.result c.in-Err.fault c.args.self.now (record { limits = c.self.inside.manner.limits; state = c.self.inside.objects; is_scripted = c.self.inside.is_scripted }) c.serve.new.table c.args.ask.now c.args.body.now c.self.view_is c.in-Err.ensures.same c.in-Err.ensures.willing
    (λ why is. c.in-Err.ensures.says why (ap (λ (f : TableFault). Err f) is)) c.unserved.ensures
