use Rattle.std.proofs.Common.{arith}
use Rattle.file_table.proofs.Pasted.{pasted_whole}
use Rattle.file_table.proofs.file.write_over.Goals as goal

pub returns-clause-written : goal.returns-clause-written
returns-clause-written c =
    pasted_whole c.grow.new.bytes.len c.args.old.now.items c.grow.new.bytes.items c.deref_mut.result.now c.paste.new.into c.args.bytes.now c.args.at c.in-Some.end (omega arith)
    c.in_ok-grow.ensures.grown c.deref_mut.ensures.value c.deref_mut.ensures.len c.paste.ensures
