use Rattle.std.proofs.Common.{◌↔◌, ℕ, Bool, false, List, codes, length}
use Rattle.reply_xml.specs.declared.elements.Element.TheVariants as element
use Rattle.reply_xml.specs.Reading.{HoldsAs}
use Rattle.s3_replies.specs.Encodings.{FirstIs}
use Rattle.s3_replies.specs.Listing.{EncodingLeft}
use Rattle.s3_replies.proofs.encodings.names_url.Given as goal

-- what is left names the same encoding
abbrev pub invariant-children : goal.invariant-children
invariant-children l = record {
  first : FirstIs element.EncodingType l.fn.root.room (codes "url") l.fn.reader.rest.now ↔ FirstIs element.EncodingType
      l.fn.root.room (codes "url") l.here.rest.now;
  page : (rest : List ℕ) (url : Bool) → HoldsAs (EncodingLeft false) l.fn.root l.fn.reader.rest.now rest url ↔ HoldsAs
      (EncodingLeft false) l.fn.root l.here.rest.now rest url;
}

abbrev pub decreases-children : goal.decreases-children
decreases-children l = length l.here.rest.now
