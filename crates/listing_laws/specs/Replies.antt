-- The pages that a service answers to a walk over a listing that nobody changes.
use Rattle.std.specs.Prelude.{◌≡◌, ℕ, Bool, true, false, List, [], ◌∷◌, Option, Some, None}
use Rattle.std.specs.FinMap.{get}
use Rattle.s3_model.specs.declared.answers.Listed.{Listed}
use Rattle.s3_service.specs.ServiceState.{State}
use Rattle.s3_service.specs.Listing.{IsPage, IsSplit, listing}
use Rattle.list_walk.specs.Pages.{gathered_from}

-- the objects are as before, and each token stands for what it stood for
pub record KeepsListings (before after : State) : Type 0 where
  pub objects : after.objects ≡ before.objects
  pub tokens : (token text : List ℕ) → get before.tokens token ≡ Some text → get after.tokens token ≡ Some text

-- Each page is a page of the listing (ListObjectsV2), asked for with the token of the page before; the last has no
-- more.
abbrev pub AreReplies : State → List ℕ → List ℕ → Bool → Option (List ℕ) → List Listed → Type 0
AreReplies t bucket prefix delimited token [] = ⊥
AreReplies t bucket prefix delimited token (page ∷ []) =
    (new : State) × IsPage t bucket prefix delimited token page new × (page.more ≡ false)
AreReplies t bucket prefix delimited token (page ∷ next ∷ pages) =
    (new : State) × (later : State) × IsPage t bucket prefix delimited token page new × (page.more ≡ true)
    × KeepsListings new later × AreReplies later bucket prefix delimited page.token (next ∷ pages)

-- What the pages have together is the listing: its keys are their entries, the rest their prefixes, each in order.
abbrev pub PagesMakeListing : Type 0
PagesMakeListing =
    (t : State) (bucket prefix : List ℕ) (delimited : Bool) (pages : List Listed)
    → AreReplies t bucket prefix delimited None pages
    → IsSplit (listing t bucket prefix delimited) (gathered_from pages).entries (gathered_from pages).prefixes
