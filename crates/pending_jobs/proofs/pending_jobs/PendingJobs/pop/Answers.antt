use Rattle.std.proofs.Common.{◌∙◌, List, drop, ap}
use Rattle.pending_jobs.specs.Pending.{out_of}
use Rattle.pending_jobs.specs.declared.pending.Pending.{Pending}
use Rattle.pending_jobs.proofs.RowLemmas.{in_rows, row_seen, shown}
use Rattle.pending_jobs.proofs.pending_jobs.PendingJobs.pop.Goals as goal

pub returns : goal.returns
returns c =
    let p = c.self.inside in
    let inside = in_rows p.depth p.rows.items c.args.self.now c.args.lane c.self.view_is c.requires in
    let row = c.index_mut.result.now in
    let seen = row_seen p.depth p.rows.items c.args.self.now c.args.lane c.self.view_is row inside c.index_mut.ensures.value in
    shown p.depth p.rows.items c.args.self.now c.args.lane c.self.view_is (record { jobs = c.pop_front.new.self })
    (drop 1 (out_of c.args.self.now c.args.lane))
    (c.pop_front.ensures.rest ∙ ap (λ (jobs : List Pending). drop 1 jobs) seen)
