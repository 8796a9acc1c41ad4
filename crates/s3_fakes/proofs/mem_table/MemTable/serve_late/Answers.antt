use Rattle.s3_fakes.proofs.Following.{follows_both, follows_same}
use Rattle.s3_fakes.proofs.mem_table.MemTable.serve_late.Goals as goal

pub loop-request-preserved : goal.loop-request-preserved
loop-request-preserved c =
    follows_both c.args.self.now c.loop-request.self c.serve_bytes.new.self c.loop-request.invariant c.serve_bytes.ensures.follows

pub returns-in_err-serve_bytes : goal.returns-in_err-serve_bytes
returns-in_err-serve_bytes c =
    follows_both c.args.self.now c.loop-request.self c.serve_bytes.new.self c.loop-request.invariant c.serve_bytes.ensures.follows

pub loop-request-init : goal.loop-request-init
loop-request-init c =
    follows_same c.args.self.now (record { limits = c.self.inside.manner.limits; state = c.self.inside.objects; is_scripted = c.self.inside.is_scripted }) c.self.view_is
