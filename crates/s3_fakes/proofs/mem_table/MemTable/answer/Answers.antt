use Rattle.std.proofs.Common.{◌≡◌, ◌∙◌, false, ap}
use Rattle.s3_fakes.specs.Holdings.{Holdings}
use Rattle.s3_fakes.proofs.Following.{follows_both, follows_from, follows_to, on_ok_from}
use Rattle.s3_fakes.proofs.mem_table.MemTable.answer.Goals as goal

pub returns-in_err-step_in-clause-follows : goal.returns-in_err-step_in-clause-follows
returns-in_err-step_in-clause-follows c =
    follows_from (record { limits = c.self.inside.manner.limits; state = c.self.inside.objects; is_scripted = c.self.inside.is_scripted }) c.args.self.now c.step_in.new.self c.self.view_is c.step_in.ensures.follows

pub returns-in_err-fate-clause-follows : goal.returns-in_err-fate-clause-follows
returns-in_err-fate-clause-follows c =
    follows_to c.args.self.now c.step_in.new.self c.fate_of.new.self c.fate_of.ensures.same
    (follows_from (record { limits = c.self.inside.manner.limits; state = c.self.inside.objects; is_scripted = c.self.inside.is_scripted }) c.args.self.now c.step_in.new.self c.self.view_is c.step_in.ensures.follows)

pub returns-clause-follows : goal.returns-clause-follows
returns-clause-follows c =
    follows_both c.args.self.now c.fate_of.new.self c.answer_as-coming.new.self
    (follows_to c.args.self.now c.step_in.new.self c.fate_of.new.self c.fate_of.ensures.same
    (follows_from (record { limits = c.self.inside.manner.limits; state = c.self.inside.objects; is_scripted = c.self.inside.is_scripted }) c.args.self.now c.step_in.new.self c.self.view_is c.step_in.ensures.follows))
    c.answer_as-coming.ensures.follows

pub returns-clause-answered : goal.returns-clause-answered
returns-clause-answered c = λ plain.
    let before : Holdings = (record { limits = c.self.inside.manner.limits; state = c.self.inside.objects; is_scripted = c.self.inside.is_scripted }) in
    let unscripted : before.is_scripted ≡ false = ap (λ (h : Holdings). h.is_scripted) c.self.view_is ∙ plain in
    let still : c.step_in.new.self ≡ before = c.step_in.ensures.plain unscripted in
    on_ok_from c.answer_as-coming.result c.args.self.now c.fate_of.new.self c.answer_as-coming.new.self (c.fate_of.ensures.same ∙ still ∙ c.self.view_is)
    (c.answer_as-coming.ensures.answered (c.in_ok-fate.ensures.plain (ap (λ (h : Holdings). h.is_scripted) still ∙ unscripted)))
