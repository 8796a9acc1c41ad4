-- The lines of a run that ended before its tasks, or in planning.
use Rattle.std.specs.Prelude.{◌++◌, ℕ, Bool, List, [], codes, decimal, slice_get, unwrap_or, if◌then◌else◌}
use Rattle.s3_model.specs.declared.faults.BadListing.{BadListing}
use Rattle.s3_model.specs.declared.faults.BadListing.TheVariants as listing
use Rattle.s3_model.specs.declared.faults.PlanFault.{PlanFault}
use Rattle.s3_model.specs.declared.faults.PlanFault.TheVariants as plan
use Rattle.s3_model.specs.declared.faults.ProfileFault.{ProfileFault}
use Rattle.s3_model.specs.declared.faults.ProfileFault.TheVariants as profile
use Rattle.s3_model.specs.declared.faults.WalkFault.{WalkFault}
use Rattle.s3_model.specs.declared.faults.WalkFault.TheVariants as walk
use Rattle.s3_model.specs.declared.faults.WordFault.{WordFault}
use Rattle.s3_model.specs.declared.faults.WordFault.TheVariants as words

-- ---- fatal lines; want of memory has a line of its own, `memory_line`, and none of these

abbrev pub fatal_line : List ℕ → List ℕ
fatal_line text = codes "fatal error: " ++ text ++ codes "\n"

abbrev pub too_many : List ℕ
too_many = codes "More than 1000000 names"

abbrev pub plan_text : PlanFault → List ℕ
plan_text (plan.Overlap key) = codes "The key " ++ key ++ codes " is both read and written by this command"
plan_text plan.TooMany = too_many
plan_text (plan.TooLarge path size) = path ++ codes " has " ++ decimal size ++ codes " bytes and is too large"
plan_text plan.Memory = []
plan_text (plan.NoSource path) = codes "The path " ++ path ++ codes " does not exist"
plan_text (plan.IsFolder path) = codes "The path " ++ path ++ codes " is a folder"
plan_text (plan.NotFolder path) = codes "The path " ++ path ++ codes " is not a folder"

abbrev pub walk_text : WalkFault → List ℕ
walk_text walk.Files = codes "The files could not be read"
walk_text walk.TooDeep = codes "The folders are too deep"
walk_text walk.TooMany = too_many
walk_text walk.Memory = []

abbrev pub listing_text : BadListing → List ℕ
listing_text (listing.Order before after) = codes "The listing is out of order: " ++ after ++ codes " after " ++ before
listing_text listing.NoToken = codes "The listing has no token"
listing_text listing.EmptyPages = codes "The listing has too many empty pages"
listing_text listing.TooMany = too_many
listing_text listing.Memory = []
listing_text (listing.Outside key) = codes "The listing has " ++ key ++ codes " outside its prefix"

abbrev pub IsPlanFault : PlanFault → Type 0
IsPlanFault plan.Memory = ⊥
IsPlanFault other = Unit {0}

abbrev pub IsWalkFault : WalkFault → Type 0
IsWalkFault walk.Memory = ⊥
IsWalkFault other = Unit {0}

abbrev pub IsListingFault : BadListing → Type 0
IsListingFault listing.Memory = ⊥
IsListingFault other = Unit {0}

-- ---- lines of words and settings

abbrev pub program_line : List ℕ → List ℕ
program_line text = codes "s3: " ++ text ++ codes "\n"

-- the word of that place, counted from 0
abbrev pub word_at : List (List ℕ) → ℕ → List ℕ
word_at all place = unwrap_or (slice_get all place) []

abbrev pub word_text : List (List ℕ) → WordFault → List ℕ
word_text all words.NoCommand = codes "no command"
word_text all (words.UnknownCommand place) = codes "unknown command " ++ word_at all place
word_text all (words.UnknownOption place) = codes "unknown option " ++ word_at all place
word_text all (words.NoValue place) = codes "no value for " ++ word_at all place
word_text all (words.BadValue place) = codes "bad value " ++ word_at all place
word_text all (words.PathCount found wanted) =
    decimal found ++ codes " paths given, " ++ decimal wanted ++ codes " wanted"
word_text all words.Pair = codes "the paths do not fit the command"
word_text all (words.Twice place) = word_at all place ++ codes " is given twice"
word_text all (words.Endpoint place fault) = codes "bad endpoint " ++ word_at all place
word_text all words.NoEndpoint = codes "no endpoint"
word_text all words.Memory = codes "out of memory"

abbrev pub file_name : Bool → List ℕ
file_name credentials = if credentials then codes "credentials file" else codes "config file"

abbrev pub profile_text : ProfileFault → List ℕ
profile_text profile.NoKeys = codes "no credentials found"
profile_text profile.NoRegion = codes "no region found"
profile_text (profile.NoProfile name) = codes "profile " ++ name ++ codes " not found"
profile_text (profile.BadLine credentials line) =
    codes "line " ++ decimal line ++ codes " of the " ++ file_name credentials ++ codes " is not understood"
profile_text (profile.BadSetting line name) = codes "bad value of " ++ name ++ codes " in line " ++ decimal line
profile_text profile.Memory = codes "out of memory"

abbrev pub unread_line : List ℕ
unread_line = program_line (codes "a settings file could not be read")

abbrev pub memory_line : List ℕ
memory_line = program_line (codes "out of memory")
