-- The rows of the table of classes, as the program comes to them.
use Rattle.std.proofs.Common.{◌≡◌, ◌≢◌, ◌≤◌, ◌<◌, ◌⊎◌, ◌||◌, ◌∙◌, ℕ, Bool, true, false, List, Option, Some, None, refl, sym, ap, subst, inl, inr, arith}
use Rattle.shared_lemmas.proofs.Clashes.{none_is_some, true_is_false}
use Rattle.s3_model.specs.declared.requests.Ask.{Ask}
use Rattle.s3_model.specs.declared.requests.Ask.TheVariants as ask
use Rattle.s3_model.specs.declared.answers.Answered.{Answered}
use Rattle.s3_model.specs.declared.answers.Reply.{Reply}
use Rattle.s3_model.specs.declared.answers.Reply.TheVariants as reply
use Rattle.s3_model.specs.declared.answers.Class.{Class}
use Rattle.s3_model.specs.declared.answers.Class.TheVariants as class
use Rattle.s3_model.specs.declared.answers.Why.TheVariants as why
use Rattle.s3_model.specs.Classes.{HasBody, IsTwoHundred, MayFailLate, Succeeded, busy_codes}
use Rattle.s3_model.specs.Classes as row
use Rattle.s3_model.specs.Files.{is_listed}
use Rattle.reply_xml.specs.declared.faults.DocFault.{DocFault}
use Rattle.reply_xml.specs.declared.faults.DocFault.TheVariants as fault
use Rattle.reply_xml.specs.Faults.{Tells}
use Rattle.s3_replies.proofs.OneValueLemmas.{one_error}
use Rattle.answer_classes.specs.Documents.{ReadsError, ReadsReply}
use Rattle.answer_classes.specs.Showing.{HasClass, is_head}
use Rattle.answer_classes.specs.Classifying.{IsClassed}
use Rattle.answer_classes.specs.Steps.{IsBusyClass, IsErrorOf, IsHeadClass, IsPartClass, IsStatusClass}

-- ---- codes

pub one_of_two : (a b r : Bool) → a ≡ false → r ≡ b → r ≡ a || (b || false)
one_of_two true b r p e = absurd (true_is_false p)
one_of_two false true r p e = e
one_of_two false false r p e = e

-- ---- Error documents

-- where the document of an error is looked for: not found, and not for want of memory
pub not_memory : {P : Type 0} (f : DocFault) → (f ≢ fault.Memory) → Tells f P → P
not_memory fault.Memory other h = absurd (other refl)
not_memory (fault.NotADocument n) other h = h
not_memory (fault.Missing element) other h = h
not_memory (fault.Twice element) other h = h
not_memory fault.BadNumber other h = h
not_memory fault.BadTime other h = h
not_memory fault.BadEscape other h = h
not_memory fault.TooDeep other h = h
not_memory (fault.BadText element) other h = h

pub found_error : (doc bytes : List ℕ) (found : Option (List ℕ × List ℕ)) (code message : List ℕ) → doc ≡ bytes → IsErrorOf doc found → found ≡ Some (code, message) → ReadsError bytes code message
found_error doc bytes found code message at says is =
    subst (λ (b : List ℕ). ReadsError b code message) at (subst (λ (f : Option (List ℕ × List ℕ)). IsErrorOf doc f) is says)

pub found_none : (doc bytes : List ℕ) (found : Option (List ℕ × List ℕ)) → doc ≡ bytes → IsErrorOf doc found → found ≡ None → (error : List ℕ × List ℕ) → ¬ (ReadsError bytes error.0 error.1)
found_none doc bytes found at says is =
    subst (λ (b : List ℕ). (error : List ℕ × List ℕ) → ¬ (ReadsError b error.0 error.1)) at (subst (λ (f : Option (List ℕ × List ℕ)). IsErrorOf doc f) is says)

-- ---- 2xx

abbrev Says : Ask → Answered → (document : List ℕ) → Reply → Type 0
Says asked answered document said = Succeeded ReadsError ReadsReply asked answered document said

-- the class that an answer has with any document is its class with its own
pub with_any : (asked : Ask) (answered : Answered) (shown : Class) → ((document : List ℕ) → HasClass asked answered document shown) → IsClassed asked answered shown
with_any asked answered shown has = inl (has answered.body.bytes)

pub get_reads : (bucket key etag : List ℕ) (range : Option (ℕ × ℕ)) (answered : Answered) → IsTwoHundred answered.status
    → (document : List ℕ) → HasClass (ask.Get bucket key etag range) answered document (class.Success (reply.Got answered.status answered.range answered.taken))
get_reads bucket key etag range answered fine document = row.succeeded (reply.Got answered.status answered.range answered.taken) fine (refl, refl, refl)

pub put_stores : (bucket key : List ℕ) (content : Option (List ℕ)) (fresh : Bool) (answered : Answered) → IsTwoHundred answered.status
    → (document : List ℕ) → HasClass (ask.Put bucket key content fresh) answered document (class.Success reply.Stored)
put_stores bucket key content fresh answered fine document = row.succeeded reply.Stored fine tt

pub delete_removes : (bucket key : List ℕ) (answered : Answered) → IsTwoHundred answered.status → (document : List ℕ) → HasClass (ask.Delete bucket key) answered document (class.Success reply.Gone)
delete_removes bucket key answered fine document = row.succeeded reply.Gone fine tt

pub abort_removes : (bucket key upload : List ℕ) (answered : Answered) → IsTwoHundred answered.status → (document : List ℕ) → HasClass (ask.Abort bucket key upload) answered document (class.Success reply.Gone)
abort_removes bucket key upload answered fine document = row.succeeded reply.Gone fine tt

head_has_all : (bucket key : List ℕ) (answered : Answered) (document : List ℕ) (said : Reply) → (answered.length ≡ None) ⊎ (answered.micros ≡ None) ⊎ (answered.etag ≡ None)
    → Says (ask.Head bucket key) answered document said → ⊥
head_has_all bucket key answered document (reply.Found size etag micros) (inl none) h = none_is_some size (sym none ∙ h.0)
head_has_all bucket key answered document (reply.Found size etag micros) (inr (inl none)) h = none_is_some micros (sym none ∙ h.2)
head_has_all bucket key answered document (reply.Found size etag micros) (inr (inr none)) h = none_is_some etag (sym none ∙ h.1)
head_has_all bucket key answered document said none h = absurd h

pub head_reads : (answered : Answered) (size : ℕ) (etag : List ℕ) (micros : ℕ) → IsTwoHundred answered.status → answered.length ≡ Some size → answered.etag ≡ Some etag → answered.micros ≡ Some micros
    → IsHeadClass answered (class.Success (reply.Found size etag micros))
head_reads answered size etag micros fine l e m bucket key document = row.succeeded (reply.Found size etag micros) fine (l, e, m)

pub head_lacks : (answered : Answered) → IsTwoHundred answered.status → (answered.length ≡ None) ⊎ (answered.micros ≡ None) ⊎ (answered.etag ≡ None) → IsHeadClass answered (class.Uncertain why.Document)
head_lacks answered fine none bucket key document = row.unreadable fine (λ said h. head_has_all bucket key answered document said none h) (λ code message fails. fails.0)

part_has_etag : (bucket key upload : List ℕ) (number : ℕ) (answered : Answered) (document : List ℕ) (said : Reply) → answered.etag ≡ None → Says (ask.Part bucket key upload number) answered document said → ⊥
part_has_etag bucket key upload number answered document (reply.PartStored etag) none h = none_is_some etag (sym none ∙ h)
part_has_etag bucket key upload number answered document said none h = absurd h

part_by : (bucket key upload : List ℕ) (number : ℕ) (answered : Answered) (shown : Class) (found : Option (List ℕ)) → answered.etag ≡ found → IsTwoHundred answered.status → IsPartClass found shown
    → (document : List ℕ) → HasClass (ask.Part bucket key upload number) answered document shown
part_by bucket key upload number answered shown (Some etag) is fine same document =
    subst (λ (c : Class). HasClass (ask.Part bucket key upload number) answered document c) (sym same) (row.succeeded (reply.PartStored etag) fine is)
part_by bucket key upload number answered shown None is fine same document =
    subst (λ (c : Class). HasClass (ask.Part bucket key upload number) answered document c) (sym same)
    (row.unreadable fine (λ said h. part_has_etag bucket key upload number answered document said is h) (λ code message fails. fails.0))

pub part_reads : (bucket key upload : List ℕ) (number : ℕ) (answered : Answered) (shown : Class) → IsTwoHundred answered.status → IsPartClass answered.etag shown
    → (document : List ℕ) → HasClass (ask.Part bucket key upload number) answered document shown
part_reads bucket key upload number answered shown fine same document = part_by bucket key upload number answered shown answered.etag refl fine same document

-- ---- refusals

has_body : (asked : Ask) → is_head asked ≡ false → HasBody asked
has_body (ask.Head bucket key) e = absurd (true_is_false e)
has_body asked e = tt

head_has_none : (asked : Ask) → is_head asked ≡ true → HasBody asked → ⊥
head_has_none (ask.Head bucket key) e h = h
head_has_none asked e h = absurd (true_is_false (sym e))

abbrev IsRefusalStatus : ℕ → Type 0
IsRefusalStatus status = (300 ≤ status) × (status < 500)

pub refused_by_document : (asked : Ask) (answered : Answered) (code message : List ℕ) → IsRefusalStatus answered.status → is_head asked ≡ false → ReadsError answered.body.bytes code message
    → IsClassed asked answered (class.Refusal code message)
refused_by_document asked answered code message range no_head error = inl (row.refused code message range.0 range.1 (inl (has_body asked no_head, error)))

by_status : (asked : Ask) (answered : Answered) (shown : Class) → IsRefusalStatus answered.status → (HasBody asked → (code message : List ℕ) → ¬ (ReadsError answered.body.bytes code message)) → IsStatusClass answered.status shown
    → IsClassed asked answered shown
by_status asked answered shown range none (inl e) =
    subst (λ (c : Class). IsClassed asked answered c) (sym e) (inl (row.refused _ _ range.0 range.1 (inr (none, refl, refl))))
by_status asked answered shown range none (inr e) = inr (e, inr (inl range))

pub refused_head : (asked : Ask) (answered : Answered) (shown : Class) → IsRefusalStatus answered.status → is_head asked ≡ true → IsStatusClass answered.status shown → IsClassed asked answered shown
refused_head asked answered shown range head says = by_status asked answered shown range (λ has c m error. head_has_none asked head has) says

pub refused_by_status : (asked : Ask) (answered : Answered) (shown : Class) → IsRefusalStatus answered.status → ((error : List ℕ × List ℕ) → ¬ (ReadsError answered.body.bytes error.0 error.1))
    → IsStatusClass answered.status shown → IsClassed asked answered shown
refused_by_status asked answered shown range none says = by_status asked answered shown range (λ has c m error. none (c, m) error) says

-- ---- 503

pub busy_by_document : (asked : Ask) (answered : Answered) (code message : List ℕ) (shown : Class) → answered.status ≡ 503 → ReadsError answered.body.bytes code message → IsBusyClass code message shown → IsClassed asked answered shown
busy_by_document asked answered code message shown status error (inl is) =
    subst (λ (c : Class). IsClassed asked answered c) (sym is.0) (inl (row.busy code message (status, error, is.1)))
busy_by_document asked answered code message shown status error (inr is) =
    let same : (c m : List ℕ) → ReadsError answered.body.bytes c m → code ≡ c = λ c m other. ap (λ (p : List ℕ × List ℕ). p.0) (one_error answered.body.bytes (c, m) (code, message) other error) in
    subst (λ (c : Class). IsClassed asked answered c) (sym (is.0 ∙ ap (λ n. class.Uncertain (why.Status n)) (sym status)))
    (inl (row.other (omega (arith, status)) (λ c m busy. true_is_false (sym busy.2 ∙ sym (ap (is_listed busy_codes) (same c m busy.1)) ∙ is.1))))

pub not_busy : (asked : Ask) (answered : Answered) → answered.status ≡ 503 → ((error : List ℕ × List ℕ) → ¬ (ReadsError answered.body.bytes error.0 error.1))
    → IsClassed asked answered (class.Uncertain (why.Status 503))
not_busy asked answered status none =
    subst (λ (n : ℕ). IsClassed asked answered (class.Uncertain (why.Status n))) status (inl (row.other (omega (arith, status)) (λ c m busy. none (c, m) busy.1)))

pub busy_memory : (answered : Answered) → answered.status ≡ 503 → (asked : Ask) → IsClassed asked answered (class.Uncertain why.Memory)
busy_memory answered status asked = inr (refl, inr (inr status))

-- ---- any other status

pub open_ended : (asked : Ask) (answered : Answered) → 500 ≤ answered.status → (answered.status ≡ 503 → ⊥) → IsClassed asked answered (class.Uncertain (why.Status answered.status))
open_ended asked answered least not_busy = inl (row.other least (λ c m busy. not_busy busy.0))
