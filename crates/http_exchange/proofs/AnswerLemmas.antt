-- What was taken for a head, and then for its body, makes an answer or a break.
use Rattle.std.proofs.Common.{◌≡◌, ◌≢◌, ◌⊎◌, ℕ, ◌≤◌, Bool, true, false, cond, List, [], ◌++◌, length, take, drop, Option, Some, None, Result, Ok, Err, sym, refl, ap, subst, ◌∙◌, arith, inl, inr}
use Rattle.std.specs.Prelude.{IfSome}
use Rattle.std.proofs.lemmas.Bool.{false≢true, and_parts, both_ways}
use Rattle.std.proofs.lemmas.List.{take-append-drop}
use Rattle.httparse.specs.Grammar.{ResponseHead, ReadsResponse, status_code}
use Rattle.httparse.proofs.GrammarLemmas.{ReadsResponse-append}
use Rattle.s3_model.specs.Lists.{Buffer}
use Rattle.s3_model.specs.Talks.{Ending, Failed, Closed, Finished}
use Rattle.s3_model.specs.declared.answers.Answered.{Answered}
use Rattle.s3_model.specs.declared.answers.Why.{Why}
use Rattle.s3_model.specs.declared.answers.Why.TheVariants as why
use Rattle.answer_grammar.specs.declared.framing.Framing.{Framing}
use Rattle.answer_grammar.specs.declared.head.Head.{Head}
use Rattle.answer_grammar.specs.Answer.{HasBody, IsAnswer, Describes, body_limit, goes_into, is_success}
use Rattle.answer_grammar.specs.Breaks.{HasUnfitHead, Breaks, BreaksBody, no_head, unfit, too_long, cut, in_head, in_lines, in_body, IsBreak}
use Rattle.answer_grammar.specs.Head.{ReadsHead}
use Rattle.answer_grammar.specs.Parts.{IsHeadAt, RefusesHead, memory, not_http, bad_length}
use Rattle.answer_grammar.proofs.HeadLemmas.{reads_more}
use Rattle.http_exchange.specs.Exchange.{BeginsByLine, InPieces, IsOpenByLine}
use Rattle.http_exchange.specs.Steps.{NoHead, TakesHead, IsOpenBody, FailsOr, AnswerFilled, FillsPlace, FillsAnswer, Receives}
use Rattle.http_exchange.proofs.PieceLemmas.{pieces_as, pieces_after, closed_fine}

-- ---- the head

unfit_more : (n : ℕ) (got : List ℕ) → HasUnfitHead (take n got) → HasUnfitHead got
unfit_more n got u =
    let R : List ℕ → Type 0 = λ bytes. ReadsResponse bytes u.head (u.rest ++ drop n got) in
    record { head = u.head; rest = u.rest ++ drop n got; reads = subst R (take-append-drop n got) (ReadsResponse-append (take n got) u.head u.rest (drop n got) u.reads); small = u.small; unfit = u.unfit }

window_head : (n : ℕ) (got : List ℕ) (head : ResponseHead) (rest : List ℕ) → ReadsHead (take n got) head rest → ReadsHead got head (rest ++ drop n got)
window_head n got head rest reads =
    let R : List ℕ → Type 0 = λ bytes. ReadsHead bytes head (rest ++ drop n got) in
    subst R (take-append-drop n got) (reads_more (take n got) (drop n got) head rest reads)

refused : (head_only : Bool) (limit : Option ℕ) (got : List ℕ) (ending : Ending) (reason : Why) → RefusesHead head_only (take 65_536 got) reason → (reason ≡ why.Memory) ⊎ Breaks head_only limit got ending reason
refused head_only limit got ending reason (memory is) = inl is
refused head_only limit got ending reason (not_http (inl never) is) = inr (in_head (no_head never is))
refused head_only limit got ending reason (not_http (inr u) is) = inr (in_head (unfit (unfit_more 65_536 got u) is))
refused head_only limit got ending reason (bad_length head rest reads none is) = inr (in_lines head (rest ++ drop 65_536 got) (window_head 65_536 got head rest reads) none is)

not_read : (head_only : Bool) (limit : Option ℕ) (got : List ℕ) (ending : Ending) (reason : Why) → NoHead head_only got ending reason → (reason ≡ why.Memory) ⊎ Breaks head_only limit got ending reason
not_read head_only limit got ending reason (inl refuses) = refused head_only limit got ending reason refuses
not_read head_only limit got ending reason (inr (inl long)) = inr (in_head (too_long long.0 long.1 long.2))
not_read head_only limit got ending reason (inr (inr short)) = inr (in_head (cut short.0 short.1 short.2 short.3))

pub head_broken : (head_only : Bool) (limit : Option ℕ) (after behind got : List ℕ) (place place_after : Buffer) (ending : Ending) (reason other : Why) → other ≡ reason
    → TakesHead head_only after (Err reason) got ending → Receives head_only limit behind place place_after (Err other) got ending
head_broken head_only limit after behind got place place_after ending reason other same takes =
    record { pieces = pieces_as BeginsByLine (IsOpenByLine head_only limit) [] got ending (λ bytes begins. inr begins) takes.pieces; comes = by takes.comes }
  where
    with_fine : ending ≢ Failed → (reason ≡ why.Memory) ⊎ Breaks head_only limit got ending reason → ((other ≡ why.Memory) × (ending ≢ Failed)) ⊎ IsBreak head_only limit got ending other
    with_fine fine (inl is) = inl (same ∙ is, fine)
    with_fine fine (inr breaks) = inr (inr (fine, subst (Breaks head_only limit got ending) (sym same) breaks))

    by : FailsOr (NoHead head_only got) ending reason → ((other ≡ why.Memory) × (ending ≢ Failed)) ⊎ IsBreak head_only limit got ending other
    by (inl failed) = inr (inl (failed.1, same ∙ failed.0))
    by (inr off) = with_fine off.0 (not_read head_only limit got ending reason off.1)

-- ---- the body behind a head

module _ (head_only : Bool) (limit : Option ℕ) (got window more : List ℕ) (found : Head) (at : IsHeadAt head_only window found) (split : got ≡ window ++ more) where
  abbrev behind_head : List ℕ
  behind_head = drop found.len window ++ more

  reads_all : (rest : List ℕ) → ReadsHead (got ++ rest) at.head (behind_head ++ rest)
  reads_all rest =
      let R : List ℕ → Type 0 = λ bytes. ReadsHead (bytes ++ rest) at.head (behind_head ++ rest) in
      subst R (sym split) (reads_more (window ++ more) rest at.head behind_head (reads_more window more at.head (drop found.len window) at.reads))

  same_limit : body_limit limit found.answer.status ≡ body_limit limit (status_code at.head)
  same_limit = ap (body_limit limit) at.says.status

  body_breaks : (rest : List ℕ) (ending : Ending) (reason : Why) → BreaksBody found.framing (body_limit limit found.answer.status) (behind_head ++ rest) ending reason
      → Breaks head_only limit (got ++ rest) ending reason
  body_breaks rest ending reason breaks =
      let B : ℕ → Type 0 = λ most. BreaksBody found.framing most (behind_head ++ rest) ending reason in
      in_body at.head (behind_head ++ rest) found.answer.length found.framing (reads_all rest) at.says.framing_is (subst B same_limit breaks)

  is_answer : (rest there behind : List ℕ) (ending : Ending) (answered : Answered) → answered ≡ record found.answer { taken = length there; body = answered.body }
      → HasBody found.framing (behind_head ++ rest) ending there behind → length there ≤ body_limit limit found.answer.status → ending ≢ Failed
      → IsAnswer head_only limit (got ++ rest) ending answered there behind
  is_answer rest there behind ending answered same has within fine =
      let D : Answered → Type 0 = λ a. Describes head_only at.head found.framing a in
      let says : D (record found.answer { taken = length there; body = answered.body }) = record {
        framing_is = at.says.framing_is;
        status = at.says.status;
        etag = at.says.etag;
        range = at.says.range;
        micros = at.says.micros;
        keep = at.says.keep;
      } in
      record {
        head = at.head;
        rest = behind_head ++ rest;
        reads = reads_all rest;
        framed = found.framing;
        says = subst D (sym same) says;
        has_body = has;
        within = omega (arith, within, same_limit);
        taken = ap (λ (a : Answered). a.taken) same;
        no_fault = fine;
      }

  body_open : (rest : List ℕ) → IsOpenBody found.framing (body_limit limit found.answer.status) (behind_head ++ rest) → IsOpenByLine head_only limit (got ++ rest)
  body_open rest (inl breaks) = inl (inl (inr (closed_fine Closed refl, body_breaks rest Closed why.EndedEarly breaks)))
  body_open rest (inr (to_close, within)) =
      let H : Framing → Type 0 = λ f. HasBody f (behind_head ++ rest) Closed (behind_head ++ rest) [] in
      inl (inr (
        record found.answer { taken = length (behind_head ++ rest) },
        behind_head ++ rest,
        record {
          head = at.head;
          rest = behind_head ++ rest;
          reads = reads_all rest;
          framed = found.framing;
          says = record {
            framing_is = at.says.framing_is;
            status = at.says.status;
            etag = at.says.etag;
            range = at.says.range;
            micros = at.says.micros;
            keep = at.says.keep;
          };
          has_body = subst H (sym to_close) (refl, refl, refl);
          within = omega (arith, within, same_limit);
          taken = refl;
          no_fault = closed_fine Closed refl;
        },
        to_close,
      ))

  all_pieces : (rest : List ℕ) (ending : Ending) → InPieces BeginsByLine [] got Finished → InPieces (IsOpenBody found.framing (body_limit limit found.answer.status)) behind_head rest ending
      → InPieces (IsOpenByLine head_only limit) [] (got ++ rest) ending
  all_pieces rest ending first second =
      pieces_after BeginsByLine (IsOpenBody found.framing (body_limit limit found.answer.status)) (IsOpenByLine head_only limit) [] got behind_head rest ending (λ bytes begins. inr begins) body_open first second

  filled_broken : (rest behind there held : List ℕ) (ending : Ending) (reason : Why) → AnswerFilled found (body_limit limit found.answer.status) behind_head behind there held (Err reason) rest ending
      → ((reason ≡ why.Memory) × (ending ≢ Failed)) ⊎ IsBreak head_only limit (got ++ rest) ending reason
  filled_broken rest behind there held ending reason (inl wanting) = inl wanting
  filled_broken rest behind there held ending reason (inr (inl failed)) = inr (inl (failed.1, failed.0))
  filled_broken rest behind there held ending reason (inr (inr off)) = inr (inr (off.0, body_breaks rest ending reason off.1))

  pub into_place : (rest behind : List ℕ) (before after : Buffer) (ending : Ending) (result : Result Answered Why) → InPieces BeginsByLine [] got Finished → goes_into limit found.answer.status ≡ true
      → FillsPlace found (body_limit limit found.answer.status) behind_head behind after.bytes result rest ending → Receives head_only limit behind before after result (got ++ rest) ending
  into_place rest behind before after ending (Ok answered) first goes fills =
      let status = ap (λ (a : Answered). goes_into limit a.status) fills.comes.0 in
      record {
        pieces = all_pieces rest ending first fills.pieces;
        comes = (
          after.bytes,
          is_answer rest after.bytes behind ending answered fills.comes.0 fills.comes.2 fills.comes.3 fills.comes.4,
          record { given = λ _. (refl, fills.comes.1 ∙ at.empty); held = λ stays. absurd (both_ways (goes_into limit answered.status) stays (status ∙ goes)) },
        );
      }
  into_place rest behind before after ending (Err reason) first goes fills =
      record { pieces = all_pieces rest ending first fills.pieces; comes = filled_broken rest behind after.bytes found.answer.body.bytes ending reason fills.comes }

  pub into_answer : (rest behind : List ℕ) (place : Buffer) (ending : Ending) (result : Result Answered Why) → InPieces BeginsByLine [] got Finished → goes_into limit found.answer.status ≡ false
      → FillsAnswer found (body_limit limit found.answer.status) behind_head behind result rest ending → Receives head_only limit behind place place result (got ++ rest) ending
  into_answer rest behind place ending (Ok answered) first stays fills =
      let status = ap (λ (a : Answered). goes_into limit a.status) fills.comes.0 in
      record {
        pieces = all_pieces rest ending first fills.pieces;
        comes = (
          answered.body.bytes,
          is_answer rest answered.body.bytes behind ending answered fills.comes.0 fills.comes.2 fills.comes.3 fills.comes.4,
          record { given = λ goes. absurd (both_ways (goes_into limit answered.status) (status ∙ stays) goes); held = λ _. (refl, refl) },
        );
      }
  into_answer rest behind place ending (Err reason) first stays fills =
      record { pieces = all_pieces rest ending first fills.pieces; comes = filled_broken rest behind [] [] ending reason fills.comes }

-- a body for the caller's place has room there
pub has_room : (limit : Option ℕ) (status room : ℕ) → goes_into limit status ≡ true → IfSome limit (λ most. most ≤ room) → body_limit limit status ≤ room
has_room None status room goes fits = absurd (false≢true goes)
has_room (Some most) status room goes fits =
    let success : is_success status ≡ true = (and_parts true (is_success status) goes).1 in
    omega (arith, fits, ap (λ b. cond b most 65536) success)
