-- What the answers of the code are to the definitions.
use Rattle.std.specs.Prelude.{Result, Ok, Err}
use Rattle.s3_model.specs.declared.settings.Settings.{Settings}
use Rattle.s3_model.specs.declared.faults.ProfileFault.{ProfileFault}
use Rattle.s3_model.specs.declared.faults.ProfileFault.TheVariants as fault
use Rattle.aws_profile.specs.declared.answers.Choice.{Choice}
use Rattle.aws_profile.specs.declared.answers.Refusal.{Refusal}
use Rattle.aws_profile.specs.declared.answers.Refusal.TheVariants as refusal
use Rattle.aws_profile.specs.Answers.{keys_made}
use Rattle.aws_profile.specs.ShownKeys.{key_shown}

abbrev pub choice_shown : Choice → Settings
choice_shown choice = record { keys = keys_made (key_shown choice.key) choice.region.now; config = choice.config }

abbrev pub refusal_shown : Refusal → ProfileFault
refusal_shown refusal.NoKeys = fault.NoKeys
refusal_shown refusal.NoRegion = fault.NoRegion
refusal_shown (refusal.NoProfile name) = fault.NoProfile name.now
refusal_shown (refusal.BadLine credentials line) = fault.BadLine credentials line
refusal_shown (refusal.BadSetting line name) = fault.BadSetting line name.now

abbrev pub decided_shown : Result Choice Refusal → Result Settings ProfileFault
decided_shown (Ok choice) = Ok (choice_shown choice)
decided_shown (Err refused) = Err (refusal_shown refused)

-- the fault has no text to be copied
abbrev pub IsWithoutText : ProfileFault → Type 0
IsWithoutText fault.NoKeys = Unit {0}
IsWithoutText fault.NoRegion = Unit {0}
IsWithoutText (fault.BadLine credentials line) = Unit {0}
IsWithoutText other = ⊥
