-- Requests as the code describes them.
use Rattle.std.specs.Prelude.{◌++◌, ◌∷◌, ℕ, Bool, true, false, List, [], codes}
use Rattle.std.specs.Option.{option_copied}
use Rattle.s3_model.specs.Documents.{completion}
use Rattle.s3_requests.specs.declared.description.Body.{Body}
use Rattle.s3_requests.specs.declared.description.Body.TheVariants as body
use Rattle.s3_requests.specs.declared.description.Description.{Description}
use Rattle.s3_requests.specs.declared.description.OwnHeaders.{OwnHeaders}
use Rattle.s3_requests.specs.declared.description.OwnHeaders.TheVariants as own
use Rattle.s3_requests.specs.declared.description.Query.{Query}
use Rattle.s3_requests.specs.declared.description.Query.TheVariants as query
use Rattle.s3_requests.specs.declared.description.Resource.{Resource}
use Rattle.s3_requests.specs.declared.description.Resource.TheVariants as resource
use Rattle.s3_requests.specs.declared.description.Source.{Source}
use Rattle.s3_signing.specs.Pairs.{Pair}
use Rattle.s3_signing.specs.Paths.{bucket_path, object_path}
use Rattle.s3_requests.specs.Requests.{Request, uploads, upload_id, part_parameters, list_parameters, content_type}
use Rattle.s3_requests.specs.Requests.{if_none_match, read_headers, copy_source, copy_range}

abbrev pub path_in : Resource → List ℕ
path_in resource.Service = codes "/"
path_in (resource.Bucket bucket) = bucket_path bucket.now
path_in (resource.Object bucket key) = object_path bucket.now key.now

abbrev pub query_in : Query → List Pair
query_in query.Empty = []
query_in query.Uploads = uploads ∷ []
query_in (query.Upload upload) = upload_id upload.now ∷ []
query_in (query.Part number upload) = part_parameters number upload.now
query_in (query.Listing prefix delimited token) = list_parameters prefix.now delimited (option_copied token)

abbrev pub source_in : Source → List Pair
source_in source = copy_source source.bucket.now source.key.now source.etag.now

abbrev pub own_in : OwnHeaders → List Pair
own_in own.Nothing = []
own_in (own.Upload content fresh) = content_type (option_copied content) ++ if_none_match fresh
own_in (own.Read etag range) = read_headers etag.now range
own_in (own.Copy source) = source_in source
own_in (own.RangeCopy source range) = source_in source ++ copy_range range

abbrev pub has_body_in : Body → Bool
has_body_in body.Absent = false
has_body_in body.Bytes = true
has_body_in (body.Document _) = true

abbrev pub body_in : Body → List ℕ
body_in body.Absent = []
body_in body.Bytes = []
body_in (body.Document etags) = completion etags.now.items

abbrev pub request_in : Description → Request
request_in d = record {
  method = d.method.now;
  path = path_in d.resource;
  query = query_in d.query;
  own_headers = own_in d.own_headers;
  has_body = has_body_in d.body;
  body = body_in d.body;
}
