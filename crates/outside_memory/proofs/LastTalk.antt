-- The last of a list of talks, read and written.
use Rattle.std.proofs.Common.{◌≡◌, ℕ, zero, suc, ◌+◌, List, [], ◌∷◌, map, length, slice_index_or, slice_set, refl, ap, arith}
use Rattle.s3_model.specs.Talks.{Talk}
use Rattle.s3_outside.specs.Wire.{change_last, is_last_service, last_went_well, leads_to, went_well}
use Rattle.outside_memory.specs.TalkLog.{talk_of, ending_of}
use Rattle.outside_memory.specs.declared.talk_log.TalkRecord.{TalkRecord}

pub last_changed : (change : Talk → Talk) (talks : List TalkRecord) (i : ℕ) (default new : TalkRecord) → i + 1 ≡ length talks → talk_of new ≡ change (talk_of (slice_index_or talks i default)) → map talk_of (slice_set talks i new) ≡ change_last change (map talk_of talks)
last_changed change [] i default new last changed = absurd (omega arith)
last_changed change (talk ∷ []) zero default new last changed = ap (λ (t : Talk). t ∷ []) changed
last_changed change (talk ∷ []) (suc i) default new last changed = absurd (omega arith)
last_changed change (talk ∷ next ∷ talks) zero default new last changed = absurd (omega arith)
last_changed change (talk ∷ next ∷ talks) (suc i) default new last changed = ap (λ (ts : List Talk). talk_of talk ∷ ts) (last_changed change (next ∷ talks) i default new (omega arith) changed)

pub last_goes_well : (talks : List TalkRecord) (i : ℕ) (default : TalkRecord) → i + 1 ≡ length talks → went_well (ending_of (slice_index_or talks i default).ending) ≡ last_went_well (map talk_of talks)
last_goes_well [] i default last = absurd (omega arith)
last_goes_well (talk ∷ []) zero default last = refl
last_goes_well (talk ∷ []) (suc i) default last = absurd (omega arith)
last_goes_well (talk ∷ next ∷ talks) zero default last = absurd (omega arith)
last_goes_well (talk ∷ next ∷ talks) (suc i) default last = last_goes_well (next ∷ talks) i default (omega arith)

pub last_leads : (host : List ℕ) (port : ℕ) (talks : List TalkRecord) (i : ℕ) (default : TalkRecord) → i + 1 ≡ length talks → leads_to host port (talk_of (slice_index_or talks i default)) ≡ is_last_service host port (map talk_of talks)
last_leads host port [] i default last = absurd (omega arith)
last_leads host port (talk ∷ []) zero default last = refl
last_leads host port (talk ∷ []) (suc i) default last = absurd (omega arith)
last_leads host port (talk ∷ next ∷ talks) zero default last = absurd (omega arith)
last_leads host port (talk ∷ next ∷ talks) (suc i) default last = last_leads host port (next ∷ talks) i default (omega arith)
