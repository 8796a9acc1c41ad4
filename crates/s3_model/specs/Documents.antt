-- The documents that requests send as their bodies (Amazon S3 API Reference, CompleteMultipartUpload).
use Rattle.std.specs.Prelude.{◌++◌, ◌==◌, ℕ, List, [], codes, decimal, encode_utf8, if◌then◌else◌}
use Rattle.std.specs.List.{flat_map, enumerate_from}
use Rattle.std.specs.Str.{chars}
use Rattle.s3_model.specs.declared.requests.Ask.{Ask}
use Rattle.s3_model.specs.declared.requests.Ask.TheVariants as ask

-- a character of a text in a document
abbrev pub escape_markup : ℕ → List ℕ
escape_markup c =
    if c == 38 then codes "&amp;"
    else if c == 60 then codes "&lt;"
    else if c == 62 then codes "&gt;"
    else if c == 34 then codes "&quot;"
    else encode_utf8 c

-- a text in a document
unfoldable pub markup : List ℕ → List ℕ
markup text = flat_map escape_markup (chars text)

unfoldable pub etag_element : List ℕ → List ℕ
etag_element etag = codes "<ETag>" ++ markup etag ++ codes "</ETag>"

unfoldable pub number_element : ℕ → List ℕ
number_element number = codes "<PartNumber>" ++ decimal number ++ codes "</PartNumber>"

-- one part of an upload: its number and its ETag
unfoldable pub part_element : ℕ × List ℕ → List ℕ
part_element part = codes "<Part>" ++ etag_element part.1 ++ number_element part.0 ++ codes "</Part>"

-- the parts, numbered from 1
unfoldable pub part_elements : List (List ℕ) → List ℕ
part_elements etags = flat_map part_element (enumerate_from 1 etags)

-- the document that ends an upload in parts: the ETags of the parts, in the order of their numbers from 1
unfoldable pub completion : List (List ℕ) → List ℕ
completion etags =
    codes "<CompleteMultipartUpload xmlns=\"http://s3.amazonaws.com/doc/2006-03-01/\">"
    ++ part_elements etags
    ++ codes "</CompleteMultipartUpload>"

-- the document that an ask sends as its body; every other ask but Put and Part, which send an object's bytes, has an
-- empty body or none
unfoldable pub document_of : Ask → List ℕ
document_of (ask.Complete _ _ _ etags _) = completion etags.items
document_of _ = []
