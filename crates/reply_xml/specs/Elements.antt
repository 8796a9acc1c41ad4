-- The elements that are read, and their names as the S3 API writes them.
use Rattle.std.specs.Prelude.{ℕ, List, [], ◌∷◌, Option, codes}
use Rattle.std.specs.Map.{lookup}
use Rattle.std.specs.Str.{bytes_eq}
use Rattle.reply_xml.specs.declared.elements.Element.{Element}
use Rattle.reply_xml.specs.declared.elements.Element.TheVariants as element

unfoldable pub element_names : List (List ℕ × Element)
element_names =
    (codes "Code", element.Code) ∷ (codes "Message", element.Message) ∷ (codes "IsTruncated", element.IsTruncated)
    ∷ (codes "EncodingType", element.EncodingType)
    ∷ (codes "NextContinuationToken", element.NextContinuationToken) ∷ (codes "Contents", element.Contents)
    ∷ (codes "Key", element.Key)
    ∷ (codes "LastModified", element.LastModified) ∷ (codes "ETag", element.ETag) ∷ (codes "Size", element.Size)
    ∷ (codes "CommonPrefixes", element.CommonPrefixes)
    ∷ (codes "Prefix", element.Prefix) ∷ (codes "Buckets", element.Buckets) ∷ (codes "Bucket", element.Bucket)
    ∷ (codes "Name", element.Name)
    ∷ (codes "CreationDate", element.CreationDate) ∷ (codes "UploadId", element.UploadId) ∷ []

-- the element of a name, compared whole
unfoldable pub element_named : List ℕ → Option Element
element_named name = lookup (bytes_eq name) element_names
