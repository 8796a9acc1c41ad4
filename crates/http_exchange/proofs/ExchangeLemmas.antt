-- The whole exchange, from the request that was sent and what was heard.
use Rattle.std.proofs.Common.{◌≡◌, ◌≢◌, ◌⊎◌, ℕ, Bool, true, false, eqb, List, [], ◌∷◌, ◌++◌, length, Option, Some, None, Result, Ok, Err, sym, refl, ap, subst, ◌∙◌, inl, inr}
use Rattle.std.specs.Option.{option_map}
use Rattle.std.proofs.lemmas.Bool.{false≢true}
use Rattle.s3_model.specs.Lists.{Buffer}
use Rattle.s3_model.specs.Talks.{Talk, Ending, Failed, Closed, Finished, WireLog}
use Rattle.s3_model.specs.declared.answers.Answered.{Answered}
use Rattle.s3_model.specs.declared.answers.Talked.TheVariants as talked
use Rattle.s3_model.specs.declared.answers.Why.{Why}
use Rattle.s3_model.specs.declared.answers.Why.TheVariants as why
use Rattle.s3_outside.specs.Seen.{IsSeenAfter}
use Rattle.s3_outside.specs.Wire.{after_close, went_well, last_went_well, is_kept}
use Rattle.s3_outside.specs.declared.wire.Failed.{Failed as Fault}
use Rattle.answer_grammar.specs.declared.framing.Framing.{Framing}
use Rattle.answer_grammar.specs.declared.framing.Framing.TheVariants as framing
use Rattle.answer_grammar.specs.Answer.{Begins, IsAnswer, IsOfTalk}
use Rattle.answer_grammar.specs.Breaks.{BreaksHead, no_head, unfit, too_long, cut, BreaksBody, Breaks, in_head, in_lines, in_body, IsBreak}
use Rattle.answer_grammar.specs.Chunks.{BreaksOff, BreaksBehind}
use Rattle.answer_grammar.specs.Chunks as chunks
use Rattle.http_exchange.specs.Exchange.{IsExchange, RawRequest, InPieces, IsOpenByLine}
use Rattle.http_exchange.specs.Steps.{IsAsked, Receives, ends_kept, talked_of}
use Rattle.http_exchange.specs.Seen.{hears, with_talk}

hears_host : (got : List ℕ) (ending : Ending) (talk : Talk) → (hears got ending talk).host ≡ talk.host
hears_host got Failed talk = refl
hears_host got Closed talk = refl
hears_host got Finished talk = refl

hears_port : (got : List ℕ) (ending : Ending) (talk : Talk) → (hears got ending talk).port ≡ talk.port
hears_port got Failed talk = refl
hears_port got Closed talk = refl
hears_port got Finished talk = refl

hears_sent : (got : List ℕ) (ending : Ending) (talk : Talk) → (hears got ending talk).sent ≡ talk.sent
hears_sent got Failed talk = refl
hears_sent got Closed talk = refl
hears_sent got Finished talk = refl

hears_got : (got : List ℕ) (ending : Ending) (talk : Talk) → talk.got ≡ [] → (hears got ending talk).got ≡ got
hears_got got Failed talk none = ap (λ (bytes : List ℕ). bytes ++ got) none
hears_got got Closed talk none = ap (λ (bytes : List ℕ). bytes ++ got) none
hears_got got Finished talk none = ap (λ (bytes : List ℕ). bytes ++ got) none

hears_ending : (got : List ℕ) (ending : Ending) (talk : Talk) → talk.ending ≡ Finished → (hears got ending talk).ending ≡ ending
hears_ending got Failed talk finished = refl
hears_ending got Closed talk finished = ap after_close finished
hears_ending got Finished talk finished = finished

-- ---- which reasons bytes can be

abbrev of_bytes : Why → Bool
of_bytes why.WireFailed = false
of_bytes why.EndedEarly = true
of_bytes why.NotHttp = true
of_bytes why.HeadTooLong = true
of_bytes (why.BodyTooLong limit) = true
of_bytes why.BadLength = true
of_bytes why.BadChunk = true
of_bytes (why.Status status) = false
of_bytes why.Internal = false
of_bytes why.Document = false
of_bytes why.Memory = false

off_own : (cannot_be begins : Type 0) (ending : Ending) (r : Why) → BreaksOff cannot_be begins ending r → of_bytes r ≡ true
off_own cannot_be begins ending r (inl bad) = ap of_bytes bad.1
off_own cannot_be begins ending r (inr short) = ap of_bytes short.2

behind_own : (limit sum : ℕ) (after : List ℕ) (ending : Ending) (r : Why) → BreaksBehind limit sum after ending r → of_bytes r ≡ true
behind_own limit sum after ending r (chunks.in_size off) = off_own _ _ ending r off
behind_own limit sum after ending r (chunks.too_long size behind has long same) = ap of_bytes same
behind_own limit sum after ending r (chunks.in_content size behind has some fits off) = off_own _ _ ending r off
behind_own limit sum after ending r (chunks.in_trailers behind has off) = off_own _ _ ending r off

body_own : (framed : Framing) (limit : ℕ) (rest : List ℕ) (ending : Ending) (r : Why) → BreaksBody framed limit rest ending r → of_bytes r ≡ true
body_own framing.NoBody limit rest ending r breaks = absurd breaks
body_own (framing.Length n) limit rest ending r (inl long) = ap of_bytes long.1
body_own (framing.Length n) limit rest ending r (inr short) = ap of_bytes short.3
body_own framing.Chunked limit rest ending r breaks = behind_own limit _ breaks.after ending r breaks.breaks
body_own framing.ToClose limit rest ending r long = ap of_bytes long.1

head_own : (got : List ℕ) (ending : Ending) (r : Why) → BreaksHead got ending r → of_bytes r ≡ true
head_own got ending r (no_head never same) = ap of_bytes same
head_own got ending r (unfit has same) = ap of_bytes same
head_own got ending r (too_long long begins same) = ap of_bytes same
head_own got ending r (cut short begins closed same) = ap of_bytes same

bytes_own : (head_only : Bool) (limit : Option ℕ) (got : List ℕ) (ending : Ending) (r : Why) → Breaks head_only limit got ending r → of_bytes r ≡ true
bytes_own head_only limit got ending r (in_head breaks) = head_own got ending r breaks
bytes_own head_only limit got ending r (in_lines head rest reads none same) = ap of_bytes same
bytes_own head_only limit got ending r (in_body head rest stated framed reads is breaks) = body_own framed _ rest ending r breaks

own_bytes : (r : Why) → of_bytes r ≡ true → IsOfTalk r
own_bytes why.WireFailed own = tt
own_bytes why.EndedEarly own = tt
own_bytes why.NotHttp own = tt
own_bytes why.HeadTooLong own = tt
own_bytes (why.BodyTooLong n) own = tt
own_bytes why.BadLength own = tt
own_bytes why.BadChunk own = tt
own_bytes why.Memory own = tt
own_bytes (why.Status n) own = absurd (false≢true own)
own_bytes why.Internal own = absurd (false≢true own)
own_bytes why.Document own = absurd (false≢true own)

-- the reason of a break is one of a talk
pub own_break : (head_only : Bool) (limit : Option ℕ) (got : List ℕ) (ending : Ending) (r : Why) → ((r ≡ why.Memory) × (ending ≢ Failed)) ⊎ IsBreak head_only limit got ending r → IsOfTalk r
own_break head_only limit got ending r (inl wanting) = subst IsOfTalk (sym wanting.0) tt
own_break head_only limit got ending r (inr (inl failed)) = subst IsOfTalk (sym failed.1) tt
own_break head_only limit got ending r (inr (inr breaks)) = own_bytes r (bytes_own head_only limit got ending r breaks.1)

failed_wire : (head_only : Bool) (limit : Option ℕ) (got : List ℕ) (ending : Ending) (r : Why) → ((r ≡ why.Memory) × (ending ≢ Failed)) ⊎ IsBreak head_only limit got ending r
    → (r ≡ why.WireFailed → ending ≡ Failed) × (ending ≡ Failed → r ≡ why.WireFailed)
failed_wire head_only limit got ending r (inl wanting) = ((λ same. absurd (clash (sym wanting.0 ∙ same))), (λ failed. absurd (wanting.1 failed)))
  where
    clash : why.Memory ≡ why.WireFailed → ⊥
    clash e = cc
failed_wire head_only limit got ending r (inr (inl failed)) = ((λ same. failed.0), (λ ended. failed.1))
failed_wire head_only limit got ending r (inr (inr breaks)) =
    ((λ same. absurd (false≢true (sym (ap of_bytes same) ∙ bytes_own head_only limit got ending r breaks.1))), (λ failed. absurd (breaks.0 failed)))

-- ---- the connection

last_well : (talks : List Talk) (talk : Talk) → last_went_well (talks ++ talk ∷ []) ≡ went_well talk.ending
last_well [] talk = refl
last_well (t ∷ []) talk = refl
last_well (t ∷ u ∷ ts) talk = last_well (u ∷ ts) talk

-- a connection that is kept is kept after this talk, in which no call failed
pub kept_after : (kept : Bool) (talk : Talk) (before after : Option WireLog) (x y : ℕ) → IsSeenAfter (with_talk talk) before after x y → (kept ≡ true → went_well talk.ending ≡ true)
    → option_map (is_kept kept) after ≡ option_map (λ _. kept) after
kept_after false talk before after x y seen well = refl
kept_after true talk before None x y seen well = refl
kept_after true talk None (Some log) x y (inl same) well = absurd (clash same)
  where
    clash : ◌≡◌ {A = Option WireLog} (Some log) None → ⊥
    clash e = cc
kept_after true talk (Some old) (Some log) x y (inl same) well =
    let one : log ≡ with_talk talk old = some_same log (with_talk talk old) same in
    ap Some (ap (λ (l : WireLog). last_went_well l.talks) one ∙ last_well old.talks talk ∙ well refl)
  where
    some_same : (a b : WireLog) → ◌≡◌ {A = Option WireLog} (Some a) (Some b) → a ≡ b
    some_same a b e = cc
kept_after true talk before (Some log) x y (inr stopped) well = absurd (clash stopped.0)
  where
    clash : ◌≡◌ {A = Option WireLog} (Some log) None → ⊥
    clash e = cc

well : (ending : Ending) → ending ≢ Failed → went_well ending ≡ true
well Failed fine = absurd (fine refl)
well Closed fine = refl
well Finished fine = refl

pub kept_well : (head_only : Bool) (limit : Option ℕ) (keep is_entire : Bool) (behind : List ℕ) (before after : Buffer) (result : Result Answered Why) (got : List ℕ) (ending : Ending) (talk : Talk)
    → talk.ending ≡ Finished → Receives head_only limit behind before after result got ending → ends_kept keep is_entire result ≡ true → went_well (hears got ending talk).ending ≡ true
kept_well head_only limit keep is_entire behind before after (Ok answered) got ending talk finished received kept =
    ap went_well (hears_ending got ending talk finished) ∙ well ending received.comes.1.no_fault
kept_well head_only limit keep is_entire behind before after (Err reason) got ending talk finished received kept = absurd (false≢true kept)

-- ---- the exchange

answered_is_whole : (answered : Answered) (reason : Why) → talked.Answered answered ≡ talked.Broken reason → ⊥
answered_is_whole answered reason e = cc

one_broken : (reason other : Why) → talked.Broken reason ≡ talked.Broken other → reason ≡ other
one_broken reason other e = cc

-- what was heard in a talk that has only its request
pub exchanged : (request : RawRequest) (before after : Buffer) (behind : List ℕ) (talk : Talk) (got : List ℕ) (ending : Ending) (is_entire : Bool) (done : Unit {0}) (result : Result Answered Why)
    → is_entire ≡ eqb (length behind) 0 → IsAsked {T = Unit {0}} {E = Fault} request.endpoint request.bytes (Ok done) talk
    → Receives request.head_only request.limit behind before after result got ending
    → IsExchange request before after (talked_of result) (hears got ending talk) (ends_kept request.keep is_entire result)
exchanged request before after behind talk got ending is_entire done result entire asked received = by result received
  where
    same_got : (hears got ending talk).got ≡ got
    same_got = hears_got got ending talk asked.got

    same_end : (hears got ending talk).ending ≡ ending
    same_end = hears_ending got ending talk asked.whole.1

    sent : Begins (hears got ending talk).sent request.bytes
    sent = let S : List ℕ → Type 0 = λ bytes. Begins bytes request.bytes in subst S (sym (hears_sent got ending talk)) asked.sent

    pieces : InPieces (IsOpenByLine request.head_only request.limit) [] got ending → InPieces (IsOpenByLine request.head_only request.limit) [] (hears got ending talk).got (hears got ending talk).ending
    pieces have =
        let G : List ℕ → Type 0 = λ bytes. InPieces (IsOpenByLine request.head_only request.limit) [] bytes ending in
        let E : Ending → Type 0 = λ e. InPieces (IsOpenByLine request.head_only request.limit) [] (hears got ending talk).got e in
        subst E (sym same_end) (subst G (sym same_got) have)

    by : (result : Result Answered Why) → Receives request.head_only request.limit behind before after result got ending
        → IsExchange request before after (talked_of result) (hears got ending talk) (ends_kept request.keep is_entire result)
    by (Ok answered) received =
        let G : List ℕ → Type 0 = λ bytes. IsAnswer request.head_only request.limit bytes ending answered received.comes.0 behind in
        let E : Ending → Type 0 = λ e. IsAnswer request.head_only request.limit (hears got ending talk).got e answered received.comes.0 behind in
        record {
          host = hears_host got ending talk ∙ asked.host;
          port = hears_port got ending talk ∙ asked.port;
          sent = sent;
          whole = λ other. hears_sent got ending talk ∙ asked.whole.0;
          answered = record {
            body = received.comes.0;
            behind = behind;
            is_answer = subst E (sym same_end) (subst G (sym same_got) received.comes.1);
            delivers = received.comes.2;
            keeps = ap (λ (b : Bool). ends_kept request.keep b (Ok answered)) entire;
          };
          broken = tt;
          failed = (λ same. absurd (answered_is_whole answered why.WireFailed same), λ failed. absurd (received.comes.1.no_fault (sym same_end ∙ failed)));
          reads_on = inl (pieces received.pieces);
        }
    by (Err reason) received =
        let B : List ℕ → Type 0 = λ bytes. IsBreak request.head_only request.limit bytes ending reason in
        let E : Ending → Type 0 = λ e. IsBreak request.head_only request.limit (hears got ending talk).got e reason in
        let wire = failed_wire request.head_only request.limit got ending reason received.comes in
        record {
          host = hears_host got ending talk ∙ asked.host;
          port = hears_port got ending talk ∙ asked.port;
          sent = sent;
          whole = λ other. hears_sent got ending talk ∙ asked.whole.0;
          answered = tt;
          broken = record {
            breaks = elim received.comes [ inl wanting ↦ inl wanting.0 | inr breaks ↦ inr (subst E (sym same_end) (subst B (sym same_got) breaks)) ];
            ends = refl;
          };
          failed = (λ same. same_end ∙ wire.0 (one_broken reason why.WireFailed same), λ failed. ap talked.Broken (wire.1 (sym same_end ∙ failed)));
          reads_on = inl (pieces received.pieces);
        }
