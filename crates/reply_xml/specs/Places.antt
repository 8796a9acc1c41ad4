-- Where the first fault of bytes stands.
use Rattle.std.specs.Prelude.{◌≡◌, ◌≢◌, ◌-◌, ◌⊎◌, ℕ, Bool, List, [], ◌∷◌, length}
use Rattle.reply_xml.specs.Contents.{Content, ReadsInner}
use Rattle.reply_xml.specs.Documents.{BeginsDocument, MayDeclare, NamesRoot, ReadsSpace}
use Rattle.reply_xml.specs.Leaves.{LeavesDeclaration}
use Rattle.reply_xml.specs.Runs.{BeginsOutside, is_name_byte}
use Rattle.reply_xml.specs.Tags.{NameEnds}

-- The bytes begin as a document up to the name of its root, which is another one than this, or behind which no tag goes
-- on. The fault stands at the end of that name.
pub record HasOtherRoot (root bytes : List ℕ) (place : ℕ) : Type 0 where
  pub name : List ℕ
  pub rest : List ℕ
  pub names : NamesRoot name bytes rest
  pub differs : NameEnds rest → name ≢ root
  pub at : place ≡ length bytes - length rest

-- the bytes up to where the root has to begin: white space, perhaps a declaration, white space
pub record ReachesRoot (bytes rest : List ℕ) : Type 0 where
  pub at_declaration : List ℕ
  pub before : ReadsSpace bytes at_declaration
  pub at_space : List ℕ
  pub declared : MayDeclare at_declaration at_space
  pub between : ReadsSpace at_space rest

-- Where the root has to begin stands something else than `<`, or nothing. The fault stands there.
pub record LacksRoot (bytes : List ℕ) (place : ℕ) : Type 0 where
  pub rest : List ℕ
  pub reaches : ReachesRoot bytes rest
  pub none : (more : List ℕ) → ¬ (rest ≡ 60 ∷ more)
  pub at : place ≡ length bytes - length rest

-- Where the root has to begin stands `<` with no name behind it. The fault stands behind the `<`.
pub record LacksName (bytes : List ℕ) (place : ℕ) : Type 0 where
  pub rest : List ℕ
  pub reaches : ReachesRoot bytes (60 ∷ rest)
  pub unnamed : BeginsOutside is_name_byte rest
  pub at : place ≡ length bytes - length rest

-- A declaration begins behind white space in front, and is not read. The fault stands where it leaves the grammar.
pub record LacksDeclaration (bytes : List ℕ) (place : ℕ) : Type 0 where
  pub rest : List ℕ
  pub before : ReadsSpace bytes rest
  pub left : ℕ
  pub leaves : LeavesDeclaration rest left
  pub at : place ≡ length bytes - left

-- the bytes begin with another root than this one, or with none
abbrev pub BeginsOtherwise : (root bytes : List ℕ) → ℕ → Type 0
BeginsOtherwise root bytes place = HasOtherRoot root bytes place ⊎ LacksRoot bytes place ⊎ LacksName bytes place

-- A whole root with a value stands in the bytes, and behind it white space and then more. The fault stands where more
-- begins.
pub record HasBytesBehind {V : Type 0} (root : List ℕ) (Means : Content → V → Type 0)
    (bytes : List ℕ) (place : ℕ) : Type 0 where
  pub closed : Bool
  pub at_content : List ℕ
  pub begins : BeginsDocument root bytes closed at_content
  pub content : Content
  pub at_end : List ℕ
  pub inside : ReadsInner closed content 15 root at_content at_end
  pub value : V
  pub means : Means content value
  pub more : List ℕ
  pub space : ReadsSpace at_end more
  pub some : more ≢ []
  pub at : place ≡ length bytes - length more
