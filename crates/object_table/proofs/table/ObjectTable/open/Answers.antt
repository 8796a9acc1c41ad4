use Rattle.std.proofs.Common.{rules}
use Rattle.object_table.proofs.Sound.{sound_open}
use Rattle.object_table.proofs.table.ObjectTable.open.Goals as goal

pub returns-then-eq-2-clause-bucket : goal.returns-then-eq-2-clause-bucket
returns-then-eq-2-clause-bucket c =
    (sound_open c.self.inside.objects c.self.inside.uploads c.self.inside.ended c.self.inside.tokens c.args.self.now c.self.view_is c.self.invariant c.args.id.now c.args.bucket.now c.args.key.now c.in-Some.upload.now
    (record { held = search rules; bucket = search rules; key = search rules })).0

pub returns-then-eq-2-clause-apart : goal.returns-then-eq-2-clause-apart
returns-then-eq-2-clause-apart c =
    (sound_open c.self.inside.objects c.self.inside.uploads c.self.inside.ended c.self.inside.tokens c.args.self.now c.self.view_is c.self.invariant c.args.id.now c.args.bucket.now c.args.key.now c.in-Some.upload.now
    (record { held = search rules; bucket = search rules; key = search rules })).1
