-- Whole documents (XML 1.0, productions 1, 22 and 23): a declaration, and one element with its content.
use Rattle.std.specs.Prelude.{◌≡◌, ◌<◌, ◌+◌, ◌++◌, ◌⊎◌, ℕ, Bool, List, [], codes, length, take, drop, slice_index}
use Rattle.std.specs.Str.{IsUtf8}
use Rattle.reply_xml.specs.declared.runs.Sort.TheVariants as sort
use Rattle.reply_xml.specs.Contents.{Content, ReadsInner}
use Rattle.reply_xml.specs.Runs.{ReadsRun}
use Rattle.reply_xml.specs.Tags.{NamesTag, ReadsTag}

-- white space, perhaps none
abbrev pub ReadsSpace : List ℕ → List ℕ → Type 0
ReadsSpace bytes rest = (space : List ℕ) × ReadsRun sort.Space space bytes rest

-- `?>` stands at this place
pub record EndsAt (bytes : List ℕ) (place : ℕ) : Type 0 where
  pub inside : place + 1 < length bytes
  pub question : slice_index bytes place ≡ 63
  pub greater : slice_index bytes (place + 1) ≡ 62

-- `<?xml`, and everything up to the first `?>`
pub record ReadsDeclaration (bytes rest : List ℕ) : Type 0 where
  pub after : List ℕ
  pub opens : bytes ≡ codes "<?xml" ++ after
  pub place : ℕ
  pub ends : EndsAt after place
  pub first : (k : ℕ) → k < place → ¬ (EndsAt after k)
  pub characters : IsUtf8 (take place after)
  pub behind : rest ≡ drop (place + 2) after

-- a declaration, or none where no `<?` stands
abbrev pub MayDeclare : List ℕ → List ℕ → Type 0
MayDeclare bytes rest =
    ReadsDeclaration bytes rest ⊎ ((rest ≡ bytes) × ((more : List ℕ) → ¬ (bytes ≡ codes "<?" ++ more)))

-- the bytes up to the content of the root
pub record BeginsDocument (root bytes : List ℕ) (closed : Bool) (rest : List ℕ) : Type 0 where
  pub at_declaration : List ℕ
  pub before : ReadsSpace bytes at_declaration
  pub at_space : List ℕ
  pub declared : MayDeclare at_declaration at_space
  pub at_root : List ℕ
  pub between : ReadsSpace at_space at_root
  pub tag : ReadsTag closed root at_root rest

-- the bytes up to the end of the root's name
pub record NamesRoot (root bytes rest : List ℕ) : Type 0 where
  pub at_declaration : List ℕ
  pub before : ReadsSpace bytes at_declaration
  pub at_space : List ℕ
  pub declared : MayDeclare at_declaration at_space
  pub at_root : List ℕ
  pub between : ReadsSpace at_space at_root
  pub names : NamesTag root at_root rest

-- The bytes are a document with this root and this content, of at most 16 levels.
pub record IsDocument (root bytes : List ℕ) (content : Content) : Type 0 where
  pub closed : Bool
  pub at_content : List ℕ
  pub begins : BeginsDocument root bytes closed at_content
  pub at_space : List ℕ
  pub inside : ReadsInner closed content 15 root at_content at_space
  pub behind : ReadsSpace at_space []

-- a document with this root has a content, and that a value
abbrev pub IsOf : {V : Type 0} → List ℕ → (Content → V → Type 0) → List ℕ → V → Type 0
IsOf root Means bytes value = (content : Content) × IsDocument root bytes content × Means content value
