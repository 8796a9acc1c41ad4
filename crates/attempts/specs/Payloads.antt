-- What requests send behind their heads.
use Rattle.std.specs.Prelude.{ℕ, List}
use Rattle.s3_model.specs.declared.requests.Ask.{Ask}
use Rattle.s3_model.specs.declared.requests.Ask.TheVariants as ask
use Rattle.s3_model.specs.Documents.{document_of}
use Rattle.attempts.specs.declared.payload.Content.{Content}
use Rattle.attempts.specs.declared.payload.Content.TheVariants as content

abbrev pub content_of : Content → List ℕ
content_of (content.Lent bytes) = bytes.now
content_of (content.Document document) = document.bytes

-- the body of a request: an object's bytes for Put and Part, else its document, which is empty for all but Complete
abbrev pub body_of : Ask → (bytes : List ℕ) → List ℕ
body_of (ask.Put bucket key content fresh) bytes = bytes
body_of (ask.Part bucket key upload number) bytes = bytes
body_of asked bytes = document_of asked
