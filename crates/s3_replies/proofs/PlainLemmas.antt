-- What written keys and prefixes mean.
use Rattle.std.proofs.Common.{◌≡◌, ◌∙◌, ℕ, Bool, true, false, List, [], ◌∷◌, sym}
use Rattle.std.specs.List.{AllZip}
use Rattle.std.proofs.lemmas.Bool.{false≢true}
use Rattle.reply_values.specs.UrlText.{MeansText, SpellsUrlText}
use Rattle.s3_replies.specs.declared.keys.Keys.{Keys}
use Rattle.s3_replies.specs.declared.keys.Keys.TheVariants as keys
use Rattle.s3_replies.specs.Listing.{SpellsKey, SpellsPrefix}

pub no_url : (url : Bool) (written text : List ℕ) → url ≡ true → ((t : List ℕ) → ¬ (SpellsUrlText written t))
    → MeansText url written text → ⊥
no_url false written text e none m = false≢true e
no_url true written text e none m = none text m

-- the value of the first row, and those of the rows behind it
pub zip_parts : {X Y : Type 0} (R : X → Y → Type 0) (row : X) (rows : List X) (values : List Y)
    → AllZip R (row ∷ rows) values → (value : Y) × (later : List Y) × R row value × AllZip R rows later
zip_parts R row rows [] all = absurd all
zip_parts R row rows (value ∷ later) all = (value, later, all.0, all.1)

-- the text that is taken is the one that is written
pub SpellsKey-same : (k : Keys) (text v w : List ℕ) → SpellsKey k text v → SpellsKey k text w → w ≡ v
SpellsKey-same keys.Written text v w r s = s.0 ∙ sym r.0
SpellsKey-same keys.Plain text v w r s = s.0 ∙ sym r.0
SpellsKey-same keys.Url text v w r s = s.0 ∙ sym r.0

pub SpellsPrefix-same : (k : Keys) (text v w : List ℕ) → SpellsPrefix k text v → SpellsPrefix k text w → w ≡ v
SpellsPrefix-same keys.Written text v w r s = s.0 ∙ sym r.0
SpellsPrefix-same keys.Plain text v w r s = s.0 ∙ sym r.0
SpellsPrefix-same keys.Url text v w r s = s.0 ∙ sym r.0
