use Rattle.std.proofs.Common.{◌≡◌, ◌++◌, ℕ, List, []}
use Rattle.s3_signing.specs.declared.canonical.SignedParts.{SignedParts}
use Rattle.s3_signing.specs.Headers.{canonical_with, header_block, pairs_of, target_lines}
use Rattle.s3_signing.proofs.JoinLemmas.{lines_joined, on_ok_pushed}
use Rattle.s3_signing.proofs.canonical.write_canonical.Goals as goal

-- the payload's hash behind the lines
whole_text : (parts : SignedParts) (empty lines block : List ℕ) → empty ≡ [] → lines ≡ empty ++ target_lines parts → block ≡ lines ++ header_block (pairs_of parts.headers.now)
    → block ++ parts.payload_hash.now ≡ canonical_with parts
whole_text parts empty lines block e l b = rw (b, l, e) (lines_joined _ _ _ _ _ _)

pub returns : goal.returns
returns c =
    on_ok_pushed _ _ _ _ _ c.push_str.ensures.bytes (whole_text c.args.parts.now _ _ _ c.clear.ensures.bytes c.in_ok-push_target_lines.ensures c.in_ok-push_header_block.ensures)
