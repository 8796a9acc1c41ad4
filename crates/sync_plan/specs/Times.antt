-- Whether two entries of one name differ (AWS CLI Command Reference, `s3 sync`).
use Rattle.std.specs.Prelude.{◌==◌, ◌||◌, ℕ, Bool, false, not, nat_lt}
use Rattle.s3_model.specs.declared.places.Entry.{Entry}
use Rattle.s3_model.specs.declared.tasks.Kind.{Kind}
use Rattle.s3_model.specs.declared.tasks.Kind.TheVariants as kind
use Rattle.s3_model.specs.declared.tasks.Times.{Times}
use Rattle.s3_model.specs.declared.tasks.Times.TheVariants as times

-- By size alone no times differ. A download is due where the local time is later than the object's, or under exact
-- times where the two are not the same; every other transfer where the destination's time is earlier than the source's.
abbrev pub times_differ : Kind → Times → (source dest : ℕ) → Bool
times_differ kind times.SizeOnly source dest = false
times_differ kind.Download times.Exact source dest = not (source == dest)
times_differ kind.Download times.Usual source dest = nat_lt source dest
times_differ kind times source dest = nat_lt dest source

-- their sizes differ, or their times do
abbrev pub differs : (source dest : Entry) → Kind → Times → Bool
differs source dest kind times = not (source.size == dest.size) || times_differ kind times source.micros dest.micros
