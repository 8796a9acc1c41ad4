-- What the attempts of a job say of its ending.
use Rattle.shared_lemmas.proofs.Clashes.{none_is_some, some_is}
use Rattle.std.proofs.Common.{◌≡◌, ◌≢◌, ◌∙◌, ◌+◌, ◌<◌, ◌≤◌, ℕ, suc, true, false, List, [], ◌∷◌, Option, Some, None, refl, sym, ap, subst, inl, inr, map, length, slice_get, arith}
use Rattle.std.specs.Prelude.{IfSome, IsSome}
use Rattle.std.specs.Arc.{arc_value}
use Rattle.std.proofs.lemmas.List.Elements.{All-cons, All-nil}
use Rattle.s3_model.specs.declared.answers.Answered.{Answered}
use Rattle.s3_model.specs.declared.answers.Class.{Class}
use Rattle.s3_model.specs.declared.answers.Class.TheVariants as class
use Rattle.s3_model.specs.declared.answers.Reply.{Reply}
use Rattle.s3_model.specs.declared.answers.Reply.TheVariants as reply
use Rattle.s3_model.specs.declared.answers.Why.{Why}
use Rattle.s3_model.specs.declared.bytes.Part.{Part}
use Rattle.s3_model.specs.declared.outcomes.JobId.{JobId}
use Rattle.s3_model.specs.declared.outcomes.Reason.{Reason}
use Rattle.s3_model.specs.declared.requests.Ask.{Ask}
use Rattle.s3_model.specs.declared.requests.Ask.TheVariants as ask
use Rattle.s3_model.specs.declared.requests.Op.{Op}
use Rattle.s3_model.specs.declared.requests.Op.TheVariants as op
use Rattle.s3_model.specs.declared.tasks.Kind.{Kind}
use Rattle.s3_model.specs.declared.tasks.Kind.TheVariants as kind
use Rattle.s3_model.specs.declared.tasks.Task.{Task}
use Rattle.s3_model.specs.declared.tries.Mark.{Mark}
use Rattle.s3_model.specs.declared.tries.Mark.TheVariants as mark
use Rattle.s3_model.specs.Classes.{IsClass, Succeeded, is_tried_again, succeeded}
use Rattle.s3_model.specs.Lists.{Reserved}
use Rattle.s3_model.specs.Talks.{Talk, WireLog}
use Rattle.job_terms.specs.Attempts.{mark_of}
use Rattle.job_terms.specs.Dispatches.{last_of}
use Rattle.job_terms.specs.Ops.{op_of}
use Rattle.answer_classes.specs.Documents.{ReadsError, ReadsReply}
use Rattle.answer_classes.specs.Showing.{Shows}
use Rattle.attempts.specs.Attempts.{IsGet, IsOfSomeTalk, SignedRequest}
use Rattle.attempts.specs.Payloads.{body_of}
use Rattle.jobs.specs.Endings.{EndIn, HasBody, HaveNoSuccess, IsEnded, IsReplyTo}
use Rattle.jobs.specs.Holders.{Holder}
use Rattle.jobs.specs.Jobs.{HasPart, IsAskOf, IsDelete, IsJob, IsStepAsk, bytes_of, range_of}
use Rattle.s3_signing.specs.Signing.{IsHashOf}
use Rattle.jobs.specs.declared.ending.Ending.{Ending}
use Rattle.jobs.specs.declared.what.What.{What}
use Rattle.jobs.specs.declared.what.What.TheVariants as what
use Rattle.lane_jobs.specs.Lanes.{Carries, IsGained, IsPlace, KeepsPart, SeenCarrier, class_ending, limit_of, reason_of, request_for, request_to}

false_is_true : false ≡ true → ⊥
false_is_true e = cc

-- ---- marks

refusal_fails : mark.Refusal ≡ mark.Success → ⊥
refusal_fails e = cc

uncertain_fails : mark.Uncertain ≡ mark.Success → ⊥
uncertain_fails e = cc

no_success : (shown : Class) → is_tried_again shown ≡ true → mark_of shown ≢ mark.Success
no_success (class.Success said) again e = false_is_true again
no_success (class.Refusal code message) again e = refusal_fails e
no_success (class.Uncertain reason) again e = uncertain_fails e

abbrev AreAgain : List Class → Type 0
AreAgain classes = (k : ℕ) (shown : Class) → slice_get classes k ≡ Some shown → k + 1 < length classes → is_tried_again shown ≡ true

later : (one : Class) (classes : List Class) → AreAgain (one ∷ classes) → AreAgain classes
later one classes again k shown at below = again (suc k) shown at (omega arith)

ends_in : (classes : List Class) (shown : Class) → AreAgain classes → last_of classes ≡ Some shown → EndIn (mark_of shown) (map mark_of classes)
ends_in [] shown again last = absurd (none_is_some shown last)
ends_in (one ∷ []) shown again last = ([], ap (λ (c : Class). mark_of c ∷ []) (some_is _ _ last), All-nil (λ m. m ≢ mark.Success))
ends_in (one ∷ two ∷ classes) shown again last =
    let (front, is, none) = ends_in (two ∷ classes) shown (later one (two ∷ classes) again) last in
    let first : is_tried_again one ≡ true = again 0 one refl (omega arith) in
    (mark_of one ∷ front, ap (λ (ms : List Mark). mark_of one ∷ ms) is, All-cons (λ m. m ≢ mark.Success) (mark_of one) front (no_success one first) none)

none_succeeds : (classes : List Class) → AreAgain classes → IfSome (last_of classes) (λ shown. is_tried_again shown ≡ true) → HaveNoSuccess (map mark_of classes)
none_succeeds [] again last = All-nil (λ m. m ≢ mark.Success)
none_succeeds (one ∷ []) again last = All-cons (λ m. m ≢ mark.Success) (mark_of one) [] (no_success one last) (All-nil (λ m. m ≢ mark.Success))
none_succeeds (one ∷ two ∷ classes) again last =
    let first : is_tried_again one ≡ true = again 0 one refl (omega arith) in
    All-cons (λ m. m ≢ mark.Success) (mark_of one) (map mark_of (two ∷ classes)) (no_success one first) (none_succeeds (two ∷ classes) (later one (two ∷ classes) again) last)

-- ---- replies

success_uncertain : (said : Reply) (reason : Why) → class.Success said ≡ class.Uncertain reason → ⊥
success_uncertain said reason e = cc

reply_of : (asked : Ask) (answered : Answered) (document : List ℕ) (said : Reply) → Succeeded ReadsError ReadsReply asked answered document said → IsReplyTo (op_of asked) said
reply_of (ask.Head b k) answered document (reply.Found s e m) h = tt
reply_of (ask.Get b k e r) answered document (reply.Got s i l) h = tt
reply_of (ask.Put b k c f) answered document reply.Stored h = tt
reply_of (ask.Delete b k) answered document reply.Gone h = tt
reply_of (ask.Abort b k u) answered document reply.Gone h = tt
reply_of (ask.Part b k u n) answered document (reply.PartStored e) h = tt
reply_of (ask.Copy b k fb fk e) answered document reply.Copied h = tt
reply_of (ask.PartCopy b k u n fb fk e r) answered document (reply.PartStored t) h = tt
reply_of (ask.Create b k c) answered document (reply.Created u) h = tt
reply_of (ask.Complete b k u e f) answered document reply.Completed h = tt
reply_of (ask.List b p d t) answered document (reply.Listed page) h = tt
reply_of ask.Buckets answered document (reply.BucketList buckets) h = tt
reply_of asked answered document said h = absurd h

succeeded_so : (asked : Ask) (answered : Answered) (document : List ℕ) (said : Reply) → IsClass ReadsError ReadsReply asked answered document (class.Success said)
    → Succeeded ReadsError ReadsReply asked answered document said
succeeded_so asked answered document said (succeeded of_reply status so) = so

-- an answer that is a success, with its body
abbrev HasSuccess : Ask → Reply → List ℕ → Type 0
HasSuccess asked said body = (answered : Answered) × Succeeded ReadsError ReadsReply asked answered body said × (answered.taken ≡ length body)

success_of : (asked : Ask) (limit : ℕ) (talk : Talk) (said : Reply) (body : List ℕ) → Shows asked limit talk (class.Success said) body → HasSuccess asked said body
success_of asked limit talk said body (inl h) = (h.0, succeeded_so asked h.0 body said h.2, h.1.1.taken)
success_of asked limit talk said body (inr h) = absurd (success_uncertain said h.0 h.2)

reply_fits : (asked : Ask) (limit : Option ℕ) (said : Reply) (place : List ℕ) → IsOfSomeTalk asked limit (class.Success said) place → IsReplyTo (op_of asked) said
reply_fits asked limit said place (inl memory) = absurd (success_uncertain said _ memory)
reply_fits asked limit said place (inr h) = let (answered, so, taken) = success_of asked _ h.0 said h.1 h.2 in reply_of asked answered h.1 said so

only_gets : (asked : Ask) (status : ℕ) (range : Option (ℕ × ℕ × ℕ)) (count : ℕ) → IsReplyTo (op_of asked) (reply.Got status range count) → IsGet asked
only_gets (ask.Get b k e r) status range count h = tt
only_gets asked status range count h = absurd h

body_of_get : (asked : Ask) (size status : ℕ) (range : Option (ℕ × ℕ × ℕ)) (count : ℕ) (place : List ℕ) (part : Option Part) → IsGet asked → IsPlace asked part place
    → IsOfSomeTalk asked (limit_of asked size) (class.Success (reply.Got status range count)) place → HasBody (reply.Got status range count) part
body_of_get (ask.Get b k e r) size status range count place None get placed h = tt
body_of_get (ask.Get b k e r) size status range count place (Some part) get placed (inl memory) = absurd (success_uncertain _ _ memory)
body_of_get (ask.Get b k e r) size status range count place (Some part) get placed (inr h) =
    let (answered, so, taken) = success_of (ask.Get b k e r) _ h.0 (reply.Got status range count) h.1 h.2 in
    ap (λ (bytes : List ℕ). length bytes) (placed ∙ h.3) ∙ sym taken ∙ sym so.2
body_of_get asked size status range count place part get placed h = absurd get

body_fits : (asked : Ask) (size : ℕ) (said : Reply) (place : List ℕ) (part : Option Part) → IsPlace asked part place
    → IsOfSomeTalk asked (limit_of asked size) (class.Success said) place → HasBody said part
body_fits asked size (reply.Got status range count) place part placed h =
    body_of_get asked size status range count place part (only_gets asked status range count (reply_fits asked (limit_of asked size) (reply.Got status range count) place h)) placed h
body_fits asked size said place part placed h = tt

-- ---- the op of a request

of_step : (task : Task) (range : ℕ × ℕ) (upload : Option (List ℕ)) (etags : Option (Reserved (List ℕ))) (of_op : Op) (number : ℕ) (asked : Ask)
    → IsStepAsk task range upload etags of_op number asked → op_of asked ≡ of_op
of_step task range upload etags op.Put number asked h = ap op_of h.1
of_step task range upload etags op.Get number asked h = ap op_of h.1
of_step task range upload etags op.Copy number asked h = ap op_of h.2
of_step task range upload etags op.Delete number asked h = removed task.kind h
  where
    removed : (of_kind : Kind) → IsDelete task of_kind asked → op_of asked ≡ op.Delete
    removed kind.RemoveObject h = ap op_of h.1
    removed kind.Upload h = ap op_of h.2
    removed kind.Download h = ap op_of h.2
    removed kind.Copy h = ap op_of h.2
    removed kind.RemoveFile h = ap op_of h.2
of_step task range upload etags op.Create number asked h = ap op_of h.1
of_step task range upload etags op.Part number asked h = ap op_of h.3
of_step task range upload etags op.PartCopy number asked h = ap op_of h.4
of_step task range upload etags op.Complete number asked h = ap op_of h.6
of_step task range upload etags op.Abort number asked h = ap op_of h.3
of_step task range upload etags of_op number asked h = absurd h

pub asked_op : (id : JobId) (for : What) (asked : Ask) → IsAskOf id for asked → op_of asked ≡ id.op
asked_op id (what.Plan planned) asked h = ap op_of h.2 ∙ sym h.1
asked_op id (what.Step task range upload etags) asked h = of_step (arc_value task) range upload etags id.op id.number asked h.1

-- ---- the part

is_get : (asked : Ask) → IsGet asked → op_of asked ≡ op.Get
is_get (ask.Get b k e r) h = refl
is_get asked h = absurd h

pub has_place : (id : JobId) (for : What) (part : Option Part) (hash : Option (List ℕ)) (had : ℕ) (asked : Ask) → IsJob id for part hash had → IsAskOf id for asked → IsGet asked → HasPart op.Get (range_of for).1 part
has_place id for part hash had asked j asks get =
    let is = sym (asked_op id for asked asks) ∙ is_get asked get in
    subst (λ (o : Op). HasPart o (range_of for).1 part) is j.has_part

keep_part : (of_op : Op) (room : ℕ) (before after : Option Part) → KeepsPart of_op before after → HasPart of_op room before → HasPart of_op room after
keep_part op.Get room None None kept (place, is, within) = absurd (none_is_some place is)
keep_part op.Get room (Some before) (Some after) kept (place, is, within) =
    let same = some_is _ _ is in
    let wide : room ≤ before.bytes.room = subst (λ (p : Part). room ≤ p.bytes.room) (sym same) within in
    (after, refl, subst (λ (n : ℕ). room ≤ n) (sym kept) wide)
keep_part op.Get room None (Some after) kept has = absurd kept
keep_part op.Get room (Some before) None kept has = absurd kept
keep_part of_op room before after kept has = subst (λ (p : Option Part). HasPart of_op room p) (sym kept) has

-- the job stays one with its part
pub still_job : (id : JobId) (for : What) (before after : Option Part) (was hash : Option (List ℕ)) (had : ℕ) → IsJob id for before was had → KeepsPart id.op before after → IsHashOf hash (bytes_of after) → IsJob id for after hash had
still_job id for before after was hash had j kept hashed = record {
  asks = j.asks;
  has_range = j.has_range;
  has_part = keep_part id.op (range_of for).1 before after kept j.has_part;
  hashed = hashed;
  had_few = j.had_few;
}

pub keeps_by_op : (id : JobId) (for : What) (asked : Ask) (before after : Option Part) → IsAskOf id for asked → KeepsPart (op_of asked) before after → KeepsPart id.op before after
keeps_by_op id for asked before after asks kept = subst (λ (o : Op). KeepsPart o before after) (asked_op id for asked asks) kept

pub placed_there : (asked : Ask) (part : Option Part) → IsPlace asked part (bytes_of part)
placed_there (ask.Get b k e r) part = refl
placed_there asked part = tt

-- a Get sends no body, and its limit is the length of its piece
pub get_request : (carrier : SeenCarrier) (asked : Ask) (part : Option Part) (size : ℕ) → IsGet asked → request_to carrier asked (body_of asked []) (Some size) ≡ request_for carrier asked part size
get_request carrier (ask.Get b k e r) part size get = refl
get_request carrier asked part size get = absurd get

pub no_get : (asked : Ask) → ((bucket key etag : List ℕ) (range : Option (ℕ × ℕ)) → asked ≡ ask.Get bucket key etag range → ⊥) → IsGet asked → ⊥
no_get (ask.Get b k e r) other get = other b k e r refl
no_get asked other get = get

-- any other request sends its body, without a limit
pub other_request : (carrier : SeenCarrier) (asked : Ask) (part : Option Part) (size : ℕ) → (IsGet asked → ⊥) → request_to carrier asked (body_of asked (bytes_of part)) None ≡ request_for carrier asked part size
other_request carrier (ask.Get b k e r) part size other = absurd (other tt)
other_request carrier asked part size other = refl

pub other_part : (asked : Ask) (part : Option Part) → (IsGet asked → ⊥) → KeepsPart (op_of asked) part part
other_part (ask.Get b k e r) part other = absurd (other tt)
other_part asked part other = refl

pub other_place : (asked : Ask) (part : Option Part) (place : List ℕ) → (IsGet asked → ⊥) → IsPlace asked part place
other_place (ask.Get b k e r) part place other = absurd (other tt)
other_place asked part place other = tt

-- ---- the ending

has_cell : (cell : Option Holder) (reason : Reason) → reason_of cell ≡ Some reason → IsSome cell
has_cell None reason is = absurd (none_is_some reason is)
has_cell (Some cell) reason is = refl

module _ (r : SignedRequest) (had most : ℕ) (part : Option Part) (cell : Option Holder) (place : List ℕ) (before after : Option WireLog) (tries : List Mark) (size : ℕ) (placed : IsPlace r.asked part place)
    (limited : r.limit ≡ limit_of r.asked size) where
  by_class : (status : ℕ) (shown : Class) → EndIn (mark_of shown) tries → IsGained r place (class_ending status shown) → IsEnded (class_ending status shown) (op_of r.asked) part cell tries
  by_class status (class.Success said) ends gained = (
    ends,
    reply_fits r.asked r.limit said place gained,
    body_fits r.asked size said place part placed (subst (λ (l : Option ℕ). IsOfSomeTalk r.asked l (class.Success said) place) limited gained),
  )
  by_class status (class.Refusal code message) ends gained = ends
  by_class status (class.Uncertain reason) ends gained = ends

  -- the facts of a job that was carried
  pub ended_so : (ended : Ending) → Carries r had most (reason_of cell) place before after tries ended → IsEnded ended (op_of r.asked) part cell tries
  ended_so ended c = elim c.ends [
    | inl h ↦ subst (λ (e : Ending). IsEnded e (op_of r.asked) part cell tries) (sym h.ending_is)
        (by_class h.status h.shown (subst (λ (ms : List Mark). EndIn (mark_of h.shown) ms) (sym c.marks) (ends_in c.classes h.shown c.again h.last))
        (subst (λ (e : Ending). IsGained r place e) h.ending_is c.gained))
    | inr others ↦ elim others [
      | inl h ↦ subst (λ (e : Ending). IsEnded e (op_of r.asked) part cell tries) (sym h.ending_is)
          (c.marks ∙ ap (λ (cs : List Class). map mark_of cs) h.none_made, has_cell cell h.reason h.gave_is)
      | inr h ↦ subst (λ (e : Ending). IsEnded e (op_of r.asked) part cell tries) (sym h.ending_is)
          (subst (λ (ms : List Mark). HaveNoSuccess ms) (sym c.marks) (none_succeeds c.classes c.again h.goes_on))
    ]
  ]
