-- The part buffers that are out: each job of a Put, a Part or a Get holds one from its Given to its Came.
use Rattle.std.specs.Prelude.{◌≡◌, ◌-◌, ◌≤◌, ◌++◌, ℕ, Bool, true, false, List, count_by}
use Rattle.s3_model.specs.declared.requests.Op.{Op}
use Rattle.s3_model.specs.declared.requests.Op.TheVariants as op
use Rattle.s3_model.specs.declared.outcomes.Event.{Event}
use Rattle.s3_model.specs.declared.outcomes.Event.TheVariants as entry

abbrev pub holds_buffer : Op → Bool
holds_buffer op.Put = true
holds_buffer op.Part = true
holds_buffer op.Get = true
holds_buffer other = false

abbrev pub takes_buffer : Event → Bool
takes_buffer (entry.Given job lane) = holds_buffer job.op
takes_buffer (entry.Came job lane tries) = false

abbrev pub gives_buffer_back : Event → Bool
gives_buffer_back (entry.Given job lane) = false
gives_buffer_back (entry.Came job lane tries) = holds_buffer job.op

abbrev pub buffers_out : List Event → ℕ
buffers_out journal = count_by takes_buffer journal - count_by gives_buffer_back journal

-- at every beginning of the journal no more are out than there are
abbrev pub KeepsBuffers : ℕ → List Event → Type 0
KeepsBuffers buffers journal = (front back : List Event) → journal ≡ front ++ back → buffers_out front ≤ buffers
