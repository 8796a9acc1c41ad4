-- What the tables say of a few elements in front.
use Rattle.std.proofs.Common.{◌≡◌, true, false, [], ◌∷◌, Some, None, refl}
use Rattle.reply_xml.specs.declared.elements.Element.TheVariants as element
use Rattle.reply_xml.specs.Tables.{first_missing, form_in, inside_in, stands_alone}
use Rattle.reply_xml.specs.Unfit.{AnyText, OwnForm}
use Rattle.s3_replies.specs.Errors.{error_table}
use Rattle.s3_replies.specs.Listing.{object_table, page_table}
use Rattle.s3_replies.specs.Results.{completed_table, copied_table}

-- an object with a key and an entity tag lacks its time first, whatever else stands in it
first_is_the_time : first_missing (object_table OwnForm)
    (Some element.ETag ∷ None ∷ Some element.Key ∷ []) ≡ Some element.LastModified
first_is_the_time = refl

-- an error may lack its message, not its code
message_may_be_absent : first_missing error_table (Some element.Code ∷ []) ≡ None
message_may_be_absent = refl

code_may_not : first_missing error_table (Some element.Message ∷ []) ≡ Some element.Code
code_may_not = refl

-- a page has any number of objects, and one word on whether there is more
objects_repeat : stands_alone (page_table OwnForm OwnForm) element.Contents ≡ false
objects_repeat = refl

more_stands_once : stands_alone (page_table OwnForm OwnForm) element.IsTruncated ≡ true
more_stands_once = refl

-- a key is read inside an object, and not in the page
keys_of_objects : inside_in (page_table OwnForm OwnForm) element.Contents ≡ Some (object_table OwnForm)
keys_of_objects = refl

no_keys_of_pages : form_in (page_table OwnForm OwnForm) element.Key ≡ None
no_keys_of_pages = refl

-- the entity tag of a completed upload is any text, that of a copy is not
tag_of_an_upload : form_in completed_table element.ETag ≡ Some AnyText
tag_of_an_upload = refl

tag_of_a_copy : form_in copied_table element.ETag ≡ Some OwnForm
tag_of_a_copy = refl
