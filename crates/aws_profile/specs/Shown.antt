-- What the code's values are to the definitions.
use Rattle.aws_profile.specs.declared.kinds.Assignment as code
use Rattle.aws_profile.specs.declared.kinds.Kind.{Kind}
use Rattle.aws_profile.specs.declared.kinds.Kind.TheVariants as kind
use Rattle.aws_profile.specs.Lines.{Assignment, LineKind, Skipped, Section, Setting, Indented, Bad}

abbrev pub assignment_shown : code.Assignment → Assignment
assignment_shown assigned = record { name = assigned.name.now; value = assigned.value.now }

abbrev pub kind_shown : Kind → LineKind
kind_shown kind.Skipped = Skipped
kind_shown (kind.Section name) = Section name.now
kind_shown (kind.Setting assigned) = Setting (assignment_shown assigned)
kind_shown (kind.Indented text) = Indented text.now
kind_shown kind.Bad = Bad
