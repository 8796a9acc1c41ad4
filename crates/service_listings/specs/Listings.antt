-- What `ls` asks of a service over the first lane of a desk, and what it shows of the answers (AWS CLI Command
-- Reference, `s3 ls`).
use Rattle.std.specs.Prelude.{◌≡◌, ◌==◌, ◌&&◌, ℕ, Bool, false, not, List, [], Option, Some, None, Result, Ok, Err}
use Rattle.std.specs.Prelude.{length}
use Rattle.answer_dates.specs.Dates.{AreDated}
use Rattle.list_walk.specs.Pages.{Gathered, new_walk}
use Rattle.listing_rows.specs.Listings.{AreRows, IsListingText}
use Rattle.planning_questions.specs.Listings.{Lists}
use Rattle.planning_questions.specs.Questions.{AsksOnce, Question}
use Rattle.planning_questions.specs.declared.halt.Halt.{Halt}
use Rattle.planning_questions.specs.declared.halt.Halt.TheVariants as halt
use Rattle.result_lines.specs.Rows.{IsBucketRow}
use Rattle.s3_model.specs.declared.answers.Reply.TheVariants as reply
use Rattle.s3_model.specs.declared.places.Place.{Place}
use Rattle.s3_model.specs.declared.places.Place.TheVariants as place
use Rattle.s3_model.specs.declared.requests.Ask.TheVariants as ask
use Rattle.service_listings.specs.declared.listing.Listing.{Listing}
use Rattle.service_listings.specs.declared.listing.Listing.TheVariants as listing
use Rattle.service_listings.specs.declared.listing.Shown.{Shown}

-- ---- what is asked for

-- The questions for a path of `ls`, or for none, numbered from there, and what they come to: the buckets of the
-- service; or all pages of what has the key in front, where keys are listed up to the next `/` without `--recursive`.
abbrev pub ListsAt : (number : ℕ) → Option Place → (recursive : Bool) → List Question → Result Listing Halt → Type 0
ListsAt number None recursive questions (Ok (listing.Buckets buckets)) =
    AsksOnce number ask.Buckets questions (Ok (reply.BucketList buckets))
ListsAt number None recursive questions (Err why) = AsksOnce number ask.Buckets questions (Err why)
ListsAt number (Some (place.Object bucket key)) recursive questions (Ok (listing.Pages walk)) =
    Lists number (new_walk bucket key (not recursive)) questions (Ok walk)
ListsAt number (Some (place.Object bucket key)) recursive questions (Err why) =
    Lists number (new_walk bucket key (not recursive)) questions (Err why)
ListsAt number at recursive questions result = ⊥

-- ---- what is shown

-- what is listed has times before the year 10000
abbrev pub IsDatedListing : Listing → Type 0
IsDatedListing (listing.Buckets buckets) = AreDated buckets.items
IsDatedListing (listing.Pages walk) = AreDated walk.gathered.entries

-- a key was given, and nothing has it or stands below it
abbrev pub finds_nothing : (key : List ℕ) → Gathered → Bool
finds_nothing key gathered =
    not (length key == 0) && (length gathered.entries == 0) && (length gathered.prefixes == 0)

-- the rows of all that is listed, and whether nothing was found
abbrev pub IsShownAs : (key : List ℕ) → (recursive : Bool) → Listing → Shown → Type 0
IsShownAs key recursive (listing.Buckets buckets) shown =
    AreRows IsBucketRow buckets.items shown.text × (shown.missed ≡ false)
IsShownAs key recursive (listing.Pages walk) shown =
    IsListingText recursive walk.gathered shown.text × (shown.missed ≡ finds_nothing key walk.gathered)

-- the key of the path, or none
abbrev pub key_of : Option Place → List ℕ
key_of (Some (place.Object bucket key)) = key
key_of at = []

-- what was listed is shown so, unless memory ran out for it; and what was not ends for the same reason
abbrev pub IsShownBy : (key : List ℕ) → (recursive : Bool) → Result Listing Halt → Result Shown Halt → Type 0
IsShownBy key recursive (Ok listed) (Ok shown) = IsShownAs key recursive listed shown
IsShownBy key recursive (Ok listed) (Err halt.Memory) = Unit {0}
IsShownBy key recursive (Err why) (Err same) = same ≡ why
IsShownBy key recursive listed result = ⊥

-- it is no job that cannot be the one that was given
abbrev pub IsNoStranger : Halt → Type 0
IsNoStranger halt.Stranger = ⊥
IsNoStranger other = Unit {0}
