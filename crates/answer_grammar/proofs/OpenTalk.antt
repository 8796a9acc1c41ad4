-- What is open has no end as long as the talk goes on: such an end would also be one where the connection closes.
use Rattle.std.proofs.Common.{◌≡◌, ◌≢◌, ℕ, Bool, true, false, List, [], Option, sym, ap, subst, ◌∙◌, inl, inr}
use Rattle.std.proofs.lemmas.Bool.{false≢true}
use Rattle.httparse.specs.Grammar.{ResponseHead}
use Rattle.httparse.proofs.GrammarLemmas.{response_unique}
use Rattle.s3_model.specs.Talks.{Failed, Closed, Finished}
use Rattle.s3_model.specs.declared.answers.Answered.{Answered}
use Rattle.s3_model.specs.declared.answers.Why.{Why}
use Rattle.s3_model.specs.declared.answers.Why.TheVariants as why
use Rattle.answer_grammar.specs.declared.framing.Framing.{Framing}
use Rattle.answer_grammar.specs.declared.framing.Framing.TheVariants as framing
use Rattle.answer_grammar.specs.Answer.{HasBody, IsAnswer}
use Rattle.answer_grammar.specs.Breaks.{BreaksHead, no_head, unfit, too_long, cut, BreaksBody, Breaks, in_head, in_lines, in_body, IsBreak, answer, broken, NoEndYet}
use Rattle.answer_grammar.specs.Chunks.{BreaksOff, BreaksBehind}
use Rattle.answer_grammar.specs.Chunks as chunks
use Rattle.answer_grammar.specs.Head.{IsFramed}
use Rattle.answer_grammar.proofs.OneEnd.{answer_or_break, one_break}
use Rattle.answer_grammar.proofs.OneFraming.{framed_once}

goes_on : Finished ≡ Closed → ⊥
goes_on e = cc

not_failed : Finished ≡ Failed → ⊥
not_failed e = cc

closed_fine : Closed ≢ Failed
closed_fine e = cc

-- whether the connection closed too early
abbrev is_cut : Why → Bool
is_cut why.WireFailed = false
is_cut why.EndedEarly = true
is_cut why.NotHttp = false
is_cut why.HeadTooLong = false
is_cut (why.BodyTooLong limit) = false
is_cut why.BadLength = false
is_cut why.BadChunk = false
is_cut (why.Status status) = false
is_cut why.Internal = false
is_cut why.Document = false
is_cut why.Memory = false

-- ---- a break of a talk that goes on stays one where the connection closes, and is no cut

off_stays : (cannot_be begins : Type 0) (r : Why) → BreaksOff cannot_be begins Finished r → BreaksOff cannot_be begins Closed r × (is_cut r ≡ false)
off_stays cannot_be begins r (inl bad) = (inl bad, ap is_cut bad.1)
off_stays cannot_be begins r (inr short) = absurd (goes_on short.1)

behind_stays : (limit sum : ℕ) (after : List ℕ) (r : Why) → BreaksBehind limit sum after Finished r → BreaksBehind limit sum after Closed r × (is_cut r ≡ false)
behind_stays limit sum after r (chunks.in_size off) = let o = off_stays _ _ r off in (chunks.in_size o.0, o.1)
behind_stays limit sum after r (chunks.too_long size behind has long same) = (chunks.too_long size behind has long same, ap is_cut same)
behind_stays limit sum after r (chunks.in_content size behind has some fits off) = let o = off_stays _ _ r off in (chunks.in_content size behind has some fits o.0, o.1)
behind_stays limit sum after r (chunks.in_trailers behind has off) = let o = off_stays _ _ r off in (chunks.in_trailers behind has o.0, o.1)

body_stays : (framed : Framing) (limit : ℕ) (rest : List ℕ) (r : Why) → BreaksBody framed limit rest Finished r → BreaksBody framed limit rest Closed r × (is_cut r ≡ false)
body_stays framing.NoBody limit rest r breaks = absurd breaks
body_stays (framing.Length n) limit rest r (inl long) = (inl long, ap is_cut long.1)
body_stays (framing.Length n) limit rest r (inr short) = absurd (goes_on short.2)
body_stays framing.Chunked limit rest r breaks =
    let o = behind_stays limit _ breaks.after r breaks.breaks in
    (record { chunks = breaks.chunks; after = breaks.after; whole = breaks.whole; within = breaks.within; breaks = o.0 }, o.1)
body_stays framing.ToClose limit rest r long = (long, ap is_cut long.1)

head_stays : (got : List ℕ) (r : Why) → BreaksHead got Finished r → BreaksHead got Closed r × (is_cut r ≡ false)
head_stays got r (no_head never same) = (no_head never same, ap is_cut same)
head_stays got r (unfit has same) = (unfit has same, ap is_cut same)
head_stays got r (too_long long begins same) = (too_long long begins same, ap is_cut same)
head_stays got r (cut short begins closed same) = absurd (goes_on closed)

breaks_stay : (head_only : Bool) (limit : Option ℕ) (got : List ℕ) (r : Why) → Breaks head_only limit got Finished r → Breaks head_only limit got Closed r × (is_cut r ≡ false)
breaks_stay head_only limit got r (in_head breaks) = let o = head_stays got r breaks in (in_head o.0, o.1)
breaks_stay head_only limit got r (in_lines head rest reads none same) = (in_lines head rest reads none same, ap is_cut same)
breaks_stay head_only limit got r (in_body head rest stated framed reads is breaks) =
    let o = body_stays framed _ rest r breaks in (in_body head rest stated framed reads is o.0, o.1)

break_stays : (head_only : Bool) (limit : Option ℕ) (got : List ℕ) (r : Why) → IsBreak head_only limit got Finished r → IsBreak head_only limit got Closed r × (is_cut r ≡ false)
break_stays head_only limit got r (inl failed) = absurd (not_failed failed.0)
break_stays head_only limit got r (inr breaks) = let o = breaks_stay head_only limit got r breaks.1 in (inr (closed_fine, o.0), o.1)

-- ---- and so does an answer

has_body_stays : (framed : Framing) (rest body behind : List ℕ) → HasBody framed rest Finished body behind → HasBody framed rest Closed body behind
has_body_stays framing.NoBody rest body behind has = has
has_body_stays (framing.Length n) rest body behind has = has
has_body_stays framing.Chunked rest body behind has = has
has_body_stays framing.ToClose rest body behind has = absurd (goes_on has.2)

answer_stays : (head_only : Bool) (limit : Option ℕ) (got : List ℕ) (answered : Answered) (body behind : List ℕ) → IsAnswer head_only limit got Finished answered body behind
    → IsAnswer head_only limit got Closed answered body behind
answer_stays head_only limit got answered body behind is = record {
  head = is.head;
  rest = is.rest;
  reads = is.reads;
  framed = is.framed;
  says = is.says;
  has_body = has_body_stays is.framed is.rest body behind is.has_body;
  within = is.within;
  taken = is.taken;
  no_fault = closed_fine;
}

-- a body up to the end of the connection is none before it
not_to_close : (head_only : Bool) (limit : Option ℕ) (got : List ℕ) (a b : Answered) (x y u v : List ℕ) (here : IsAnswer head_only limit got Closed a x u) → here.framed ≡ framing.ToClose
    → IsAnswer head_only limit got Finished b y v → ⊥
not_to_close head_only limit got a b x y u v here to_close there =
    let heads = (response_unique got here.head there.head here.rest there.rest here.reads.reads there.reads.reads).0 in
    let F : ResponseHead → Type 0 = λ h. IsFramed head_only h a.length here.framed in
    let framed = (framed_once head_only there.head a.length b.length here.framed there.framed (subst F heads here.says.framing_is) there.says.framing_is).0 in
    let H : Framing → Type 0 = λ f. HasBody f there.rest Finished y v in
    let has : HasBody framing.ToClose there.rest Finished y v = subst H (sym framed ∙ to_close) there.has_body in
    goes_on has.2

pub no_end_yet : NoEndYet
no_end_yet head_only limit got (answer b y v) (inl early) there =
    answer_or_break head_only limit got Closed b y v why.EndedEarly (answer_stays head_only limit got b y v there) early
no_end_yet head_only limit got (answer b y v) (inr (a, x, here, to_close)) there = not_to_close head_only limit got a b x y [] v here to_close there
no_end_yet head_only limit got (broken r) (inl early) there =
    let stays = break_stays head_only limit got r there in
    false≢true (sym stays.1 ∙ ap is_cut (one_break head_only limit got Closed r why.EndedEarly stays.0 early))
no_end_yet head_only limit got (broken r) (inr (a, x, here, to_close)) there =
    answer_or_break head_only limit got Closed a x [] r here (break_stays head_only limit got r there).0
