use Rattle.s3_replies.specs.Buckets.{HasBucket}
use Rattle.s3_replies.proofs.EachLemmas.{each_end}
use Rattle.std.proofs.Common.{refl}
use Rattle.s3_replies.proofs.buckets.BucketsParts.whole.Goals as goal

pub returns-clause-value : goal.returns-clause-value
returns-clause-value c text = (each_end HasBucket c.args.self.rows.items c.args.self.rows.items).1 refl
