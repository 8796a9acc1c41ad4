use Rattle.std.proofs.Common.{◌∙◌, ◌++◌, ◌∷◌, [], List, ap}
use Rattle.pending_jobs.specs.Pending.{out_of, pending_of}
use Rattle.pending_jobs.specs.declared.pending.Pending.{Pending}
use Rattle.pending_jobs.proofs.RowLemmas.{in_rows, row_seen, shown}
use Rattle.pending_jobs.proofs.pending_jobs.PendingJobs.push.Goals as goal

pub returns : goal.returns
returns c =
    let p = c.self.inside in
    let inside = in_rows p.depth p.rows.items c.args.self.now c.args.lane c.self.view_is c.requires.lane in
    let row = c.index_mut.result.now in
    let seen = row_seen p.depth p.rows.items c.args.self.now c.args.lane c.self.view_is row inside c.index_mut.ensures.value in
    shown p.depth p.rows.items c.args.self.now c.args.lane c.self.view_is (record { jobs = c.push_back_reserved.new.self })
    (out_of c.args.self.now c.args.lane ++ pending_of c.args.job.now ∷ [])
    (c.push_back_reserved.ensures.items ∙ ap (λ (one : Pending). row.jobs.items ++ one ∷ []) c.of.ensures
    ∙ ap (λ (jobs : List Pending). jobs ++ pending_of c.args.job.now ∷ []) seen)
