-- Each grammar gives the same bytes one value at most.
use Rattle.std.specs.Prelude.{◌≡◌, ℕ, Bool, List}
use Rattle.s3_model.specs.declared.answers.Listed.{Listed}
use Rattle.s3_model.specs.declared.places.Entry.{Entry}
use Rattle.s3_replies.specs.Buckets.{IsBucketList}
use Rattle.s3_replies.specs.Errors.{IsError}
use Rattle.s3_replies.specs.Listing.{IsListing}
use Rattle.s3_replies.specs.Results.{IsCompleted, IsCopied, IsCreated}

abbrev pub OneError : Type 0
OneError = (doc : List ℕ) (a b : List ℕ × List ℕ) → IsError doc a → IsError doc b → b ≡ a

-- the lists of two listings are compared by their items
pub record IsSameListing (a b : Listed) : Type 0 where
  pub more : b.more ≡ a.more
  pub token : b.token ≡ a.token
  pub entries : b.entries.items ≡ a.entries.items
  pub prefixes : b.prefixes.items ≡ a.prefixes.items

abbrev pub OneListing : Type 0
OneListing = (doc : List ℕ) (a b : Listed) → IsListing doc a → IsListing doc b → IsSameListing a b

abbrev pub OneBucketList : Type 0
OneBucketList = (doc : List ℕ) (a b : List Entry) → IsBucketList doc a → IsBucketList doc b → b ≡ a

abbrev pub OneUpload : Type 0
OneUpload = (doc a b : List ℕ) → IsCreated doc a → IsCreated doc b → b ≡ a

abbrev pub OneEntityTag : Type 0
OneEntityTag =
    (doc a b : List ℕ) → (IsCompleted doc a → IsCompleted doc b → b ≡ a)
    × ((part : Bool) → IsCopied part doc a → IsCopied part doc b → b ≡ a)
