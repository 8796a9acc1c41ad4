use Rattle.s3_replies.proofs.OneValueLemmas.{one_bucket_list, one_entity_tag, one_error, one_listing, one_upload}
use Rattle.s3_replies.proofs.law.one_value.Goals as goal

pub returns-clause-error : goal.returns-clause-error
returns-clause-error c = one_error

pub returns-clause-listing : goal.returns-clause-listing
returns-clause-listing c = one_listing

pub returns-clause-buckets : goal.returns-clause-buckets
returns-clause-buckets c = one_bucket_list

pub returns-clause-upload : goal.returns-clause-upload
returns-clause-upload c = one_upload

pub returns-clause-entity_tag : goal.returns-clause-entity_tag
returns-clause-entity_tag c = one_entity_tag
