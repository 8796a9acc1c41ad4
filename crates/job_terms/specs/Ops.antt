-- The operations of requests: which one a request has, and which are a planning's or decide a task.
use Rattle.std.specs.Prelude.{◌==◌, ℕ, Bool, true, false}
use Rattle.s3_model.specs.declared.requests.Ask.{Ask}
use Rattle.s3_model.specs.declared.requests.Ask.TheVariants as ask
use Rattle.s3_model.specs.declared.requests.Op.{Op}
use Rattle.s3_model.specs.declared.requests.Op.TheVariants as op
use Rattle.s3_model.specs.declared.tasks.Kind.{Kind}
use Rattle.s3_model.specs.declared.tasks.Kind.TheVariants as kind

-- ---- tests

abbrev pub op_number : Op → ℕ
op_number op.Head = 0
op_number op.Get = 1
op_number op.Put = 2
op_number op.Copy = 3
op_number op.Delete = 4
op_number op.Create = 5
op_number op.Part = 6
op_number op.PartCopy = 7
op_number op.Complete = 8
op_number op.Abort = 9
op_number op.List = 10
op_number op.Buckets = 11

abbrev pub is_op : Op → Op → Bool
is_op a b = op_number a == op_number b

-- ---- requests

-- the op of a request
abbrev pub op_of : Ask → Op
op_of (ask.Head bucket key) = op.Head
op_of (ask.Get bucket key etag range) = op.Get
op_of (ask.Put bucket key content fresh) = op.Put
op_of (ask.Copy bucket key from_bucket from_key etag) = op.Copy
op_of (ask.Delete bucket key) = op.Delete
op_of (ask.Create bucket key content) = op.Create
op_of (ask.Part bucket key upload number) = op.Part
op_of (ask.PartCopy bucket key upload number from_bucket from_key etag range) = op.PartCopy
op_of (ask.Complete bucket key upload etags fresh) = op.Complete
op_of (ask.Abort bucket key upload) = op.Abort
op_of (ask.List bucket prefix delimited token) = op.List
op_of ask.Buckets = op.Buckets

-- planning asks for heads, pages and buckets
abbrev pub IsPlanning : Ask → Type 0
IsPlanning (ask.Head bucket key) = Unit {0}
IsPlanning (ask.List bucket prefix delimited token) = Unit {0}
IsPlanning ask.Buckets = Unit {0}
IsPlanning asked = ⊥

-- ---- tasks

-- the request that decides a task whose destination is an object
abbrev pub deciding : Kind → Bool → Op
deciding kind.Upload true = op.Put
deciding kind.Upload false = op.Complete
deciding kind.Copy true = op.Copy
deciding kind.Copy false = op.Complete
deciding of_kind small = op.Delete
