-- No bytes and ending come to two ends.
use Rattle.std.proofs.Common.{◌≡◌, ℕ, ◌+◌, ◌-◌, ◌<◌, ◌≤◌, Bool, List, [], ◌∷◌, ◌++◌, length, take, drop, Option, Some, None, sym, refl, ap, subst, ◌∙◌, arith, append_assoc, inl, inr, length-append}
use Rattle.std.specs.Prelude.{All, flat_map, codes}
use Rattle.std.specs.Str.Parse.{digits_value}
use Rattle.std.proofs.lemmas.List.{append-nil, take_all}
use Rattle.std.proofs.lemmas.List.Elements.{All-head, All-tail}
use Rattle.httparse.specs.Ascii.{crlf_bytes}
use Rattle.httparse.specs.Grammar.{ResponseHead, print_response, ReadsResponse, NeverHasResponse, status_code}
use Rattle.httparse.proofs.GrammarLemmas.{response_unique}
use Rattle.s3_model.specs.Talks.{Ending}
use Rattle.s3_model.specs.declared.answers.Answered.{Answered}
use Rattle.s3_model.specs.declared.answers.Why.{Why}
use Rattle.answer_grammar.specs.declared.framing.Framing.{Framing}
use Rattle.answer_grammar.specs.declared.framing.Framing.TheVariants as framing
use Rattle.answer_grammar.specs.Answer.{HasBody, IsAnswer, Describes, body_limit}
use Rattle.answer_grammar.specs.Breaks.{BeginsHead, BreaksHead, no_head, unfit, too_long, cut, BreaksBody, Breaks, in_head, in_lines, in_body, IsBreak, answer, broken, OneEnd}
use Rattle.answer_grammar.specs.Chunks.{Chunk, IsChunk, HasChunks, HasSize, HasTrailers, ReadsChunks, BreaksBehind, BreaksChunks, contents, print_chunk}
use Rattle.answer_grammar.specs.Chunks as chunks
use Rattle.answer_grammar.specs.Head.{ReadsHead, IsFramed, HasRange, SpellsRange, header_lines, first_named, may_keep}
use Rattle.answer_grammar.proofs.RangeLemmas.{at_slash, number_lacks}
use Rattle.answer_grammar.proofs.OneFraming.{framed_once}
use Rattle.answer_grammar.proofs.ChunkLemmas.{same_front, front_within, chunk_front, one_reason, none_off, size_once, size_can_be, size_begun, size_apart, content_can_be, content_begun, content_apart, trailers_once, trailers_can_be, trailers_begun, trailers_apart}

spelled_once : (text : List ℕ) (r s : ℕ × ℕ × ℕ) → SpellsRange text r → SpellsRange text s → r ≡ s
spelled_once text r s x y =
    let cut = at_slash text (y.first ++ 45 ∷ (y.last ++ 47 ∷ y.size)) y.first (y.last ++ 47 ∷ y.size) y.last y.size r y.text_is refl (number_lacks 45 refl y.first y.numbers.0) refl
    (number_lacks 47 refl y.last y.numbers.1) x in
    x.range_is ∙ (λ i. (digits_value 10 (cut.0 i), digits_value 10 (cut.1 i), digits_value 10 (cut.2 i))) ∙ sym y.range_is

range_once : (text : Option (List ℕ)) (r s : Option (ℕ × ℕ × ℕ)) → HasRange text r → HasRange text s → r ≡ s
range_once None r s here there = here ∙ sym there
range_once (Some text) None None here there = refl
range_once (Some text) None (Some s) here there = absurd (here s there)
range_once (Some text) (Some r) None here there = absurd (there r here)
range_once (Some text) (Some r) (Some s) here there = ap Some (spelled_once text r s here there)

-- ---- chunks

-- no chunk that keeps within the limit stands at the front
abbrev HasNoChunk : (limit sum : ℕ) → List ℕ → Type 0
HasNoChunk limit sum after = (c : Chunk) (behind : List ℕ) → IsChunk c → after ≡ print_chunk c ++ behind → ¬ (sum + length c.content ≤ limit)

chunk_size_line : (after : List ℕ) (c : Chunk) (behind : List ℕ) → IsChunk c → after ≡ print_chunk c ++ behind → HasSize after (length c.content) (c.content ++ (crlf_bytes ++ behind))
chunk_size_line after c behind is split = record { line = c.line; is_line = is.line; split = split ∙ chunk_front c behind }

last_is_no_chunk : (limit sum : ℕ) (after behind : List ℕ) → HasSize after 0 behind → HasNoChunk limit sum after
last_is_no_chunk limit sum after behind last c left is split within =
    omega (arith, (size_once after 0 (length c.content) behind _ last (chunk_size_line after c left is split)).0, is.has_content)

break_is_no_chunk : (limit sum : ℕ) (after : List ℕ) (ending : Ending) (r : Why) → BreaksBehind limit sum after ending r → HasNoChunk limit sum after
break_is_no_chunk limit sum after ending r (chunks.in_size off) c left is split within =
    let has = chunk_size_line after c left is split in none_off _ _ ending r (size_can_be after _ _ has) (size_begun after _ _ has) off
break_is_no_chunk limit sum after ending r (chunks.too_long size behind has long same) c left is split within =
    omega (arith, (size_once after size (length c.content) behind _ has (chunk_size_line after c left is split)).0, long, within)
break_is_no_chunk limit sum after ending r (chunks.in_content size behind has some fits off) c left is split within =
    let same = size_once after size (length c.content) behind _ has (chunk_size_line after c left is split) in
    none_off _ _ ending r (content_can_be size behind c.content left (sym same.0) same.1) (content_begun size behind c.content left (sym same.0) same.1) off
break_is_no_chunk limit sum after ending r (chunks.in_trailers behind has off) c left is split within =
    last_is_no_chunk limit sum after behind has c left is split within

-- the chunks at the front up to where no more stand are the same
chunks_once : (limit sum : ℕ) (cs ds : List Chunk) (rest a b : List ℕ) → All IsChunk cs → All IsChunk ds → rest ≡ flat_map print_chunk cs ++ a → rest ≡ flat_map print_chunk ds ++ b
    → sum + length (contents cs) ≤ limit → sum + length (contents ds) ≤ limit → HasNoChunk limit (sum + length (contents cs)) a → HasNoChunk limit (sum + length (contents ds)) b
    → (contents cs ≡ contents ds) × (a ≡ b)
chunks_once limit sum [] [] rest a b here there x y fits within stop none = (refl, sym x ∙ y)
chunks_once limit sum [] (d ∷ ds) rest a b here there x y fits within stop none =
    absurd (stop d (flat_map print_chunk ds ++ b) (All-head IsChunk d ds there) (sym x ∙ y ∙ append_assoc (print_chunk d) (flat_map print_chunk ds) b)
    (omega (arith, within, length-append d.content (contents ds))))
chunks_once limit sum (c ∷ cs) [] rest a b here there x y fits within stop none =
    absurd (none c (flat_map print_chunk cs ++ a) (All-head IsChunk c cs here) (sym y ∙ x ∙ append_assoc (print_chunk c) (flat_map print_chunk cs) a)
    (omega (arith, fits, length-append c.content (contents cs))))
chunks_once limit sum (c ∷ cs) (d ∷ ds) rest a b here there x y fits within stop none =
    let left = All-head IsChunk c cs here in
    let right = All-head IsChunk d ds there in
    let one = chunk_size_line rest c (flat_map print_chunk cs ++ a) left (x ∙ append_assoc (print_chunk c) (flat_map print_chunk cs) a) in
    let two = chunk_size_line rest d (flat_map print_chunk ds ++ b) right (y ∙ append_assoc (print_chunk d) (flat_map print_chunk ds) b) in
    let same = size_once rest (length c.content) (length d.content) _ _ one two in
    let cut = same_front c.content d.content (crlf_bytes ++ (flat_map print_chunk cs ++ a)) (crlf_bytes ++ (flat_map print_chunk ds ++ b)) same.1 same.0 in
    let next : flat_map print_chunk cs ++ a ≡ flat_map print_chunk ds ++ b = ap (drop 2) cut.1 in
    let long = length-append c.content (contents cs) in
    let wide = length-append d.content (contents ds) in
    let N : (n : ℕ) (m : ℕ) → n ≡ m → HasNoChunk limit n a → HasNoChunk limit m a = λ n m e h. subst (λ (k : ℕ). HasNoChunk limit k a) e h in
    let M : (n : ℕ) (m : ℕ) → n ≡ m → HasNoChunk limit n b → HasNoChunk limit m b = λ n m e h. subst (λ (k : ℕ). HasNoChunk limit k b) e h in
    let more = chunks_once limit (sum + length c.content) cs ds (flat_map print_chunk cs ++ a) a b (All-tail IsChunk c cs here) (All-tail IsChunk d ds there) refl next
    (omega (arith, fits, long)) (omega (arith, within, wide, same.0)) (N _ _ (omega (arith, long)) stop) (M _ _ (omega (arith, wide, same.0)) none) in
    ((λ i. cut.0 i ++ more.0 i), more.1)

-- one reason behind whole chunks
behind_once : (limit sum : ℕ) (after : List ℕ) (ending : Ending) (r s : Why) → sum ≤ limit → BreaksBehind limit sum after ending r → BreaksBehind limit sum after ending s → r ≡ s
behind_once limit sum after ending r s under (chunks.in_size off) (chunks.in_size other) = one_reason _ _ ending r s (size_apart after) off other
behind_once limit sum after ending r s under (chunks.in_size off) (chunks.too_long size behind has long same) = absurd (none_off _ _ ending r (size_can_be after _ _ has) (size_begun after _ _ has) off)
behind_once limit sum after ending r s under (chunks.in_size off) (chunks.in_content size behind has some fits other) = absurd (none_off _ _ ending r (size_can_be after _ _ has) (size_begun after _ _ has) off)
behind_once limit sum after ending r s under (chunks.in_size off) (chunks.in_trailers behind has other) = absurd (none_off _ _ ending r (size_can_be after _ _ has) (size_begun after _ _ has) off)
behind_once limit sum after ending r s under (chunks.too_long size behind has long same) (chunks.in_size off) = absurd (none_off _ _ ending s (size_can_be after _ _ has) (size_begun after _ _ has) off)
behind_once limit sum after ending r s under (chunks.too_long size behind has long same) (chunks.too_long n left is wide other) = same ∙ sym other
behind_once limit sum after ending r s under (chunks.too_long size behind has long same) (chunks.in_content n left is some fits other) = absurd (omega (arith, (size_once after size n behind left has is).0, long, fits))
behind_once limit sum after ending r s under (chunks.too_long size behind has long same) (chunks.in_trailers left is other) = absurd (omega (arith, (size_once after size 0 behind left has is).0, long, under))
behind_once limit sum after ending r s under (chunks.in_content size behind has some fits off) (chunks.in_size other) = absurd (none_off _ _ ending s (size_can_be after _ _ has) (size_begun after _ _ has) other)
behind_once limit sum after ending r s under (chunks.in_content size behind has some fits off) (chunks.too_long n left is long same) = absurd (omega (arith, (size_once after size n behind left has is).0, long, fits))
behind_once limit sum after ending r s under (chunks.in_content size behind has some fits off) (chunks.in_content n left is more within other) =
    let same = size_once after n size left behind is has in
    let P : (m : ℕ) (bytes : List ℕ) → Type 0 = λ m bytes. chunks.BreaksOff (chunks.CannotBeContent m bytes) (chunks.BeginsContent m bytes) ending s in
    one_reason _ _ ending r s (content_apart size behind) off (subst (λ (bytes : List ℕ). P size bytes) same.1 (subst (λ (m : ℕ). P m left) same.0 other))
behind_once limit sum after ending r s under (chunks.in_content size behind has some fits off) (chunks.in_trailers left is other) = absurd (omega (arith, (size_once after size 0 behind left has is).0, some))
behind_once limit sum after ending r s under (chunks.in_trailers behind has off) (chunks.in_size other) = absurd (none_off _ _ ending s (size_can_be after _ _ has) (size_begun after _ _ has) other)
behind_once limit sum after ending r s under (chunks.in_trailers behind has off) (chunks.too_long n left is long same) = absurd (omega (arith, (size_once after n 0 left behind is has).0, long, under))
behind_once limit sum after ending r s under (chunks.in_trailers behind has off) (chunks.in_content n left is some fits other) = absurd (omega (arith, (size_once after n 0 left behind is has).0, some))
behind_once limit sum after ending r s under (chunks.in_trailers behind has off) (chunks.in_trailers left is other) =
    let same = (size_once after 0 0 left behind is has).1 in
    let P : List ℕ → Type 0 = λ bytes. chunks.BreaksOff (chunks.CannotBeTrailers bytes) (chunks.BeginsTrailers bytes) ending s in
    one_reason _ _ ending r s (trailers_apart behind) off (subst P same other)

-- behind a last chunk and its trailers nothing breaks off
last_not_broken : (limit sum : ℕ) (after trailing behind : List ℕ) (ending : Ending) (r : Why) → sum ≤ limit → HasSize after 0 trailing → HasTrailers trailing behind
    → BreaksBehind limit sum after ending r → ⊥
last_not_broken limit sum after trailing behind ending r under last trailers (chunks.in_size off) = none_off _ _ ending r (size_can_be after _ _ last) (size_begun after _ _ last) off
last_not_broken limit sum after trailing behind ending r under last trailers (chunks.too_long size left has long same) =
    omega (arith, (size_once after size 0 left trailing has last).0, long, under)
last_not_broken limit sum after trailing behind ending r under last trailers (chunks.in_content size left has some fits off) =
    omega (arith, (size_once after size 0 left trailing has last).0, some)
last_not_broken limit sum after trailing behind ending r under last trailers (chunks.in_trailers left has off) =
    let same = (size_once after 0 0 left trailing has last).1 in
    let P : List ℕ → Type 0 = λ bytes. chunks.BreaksOff (chunks.CannotBeTrailers bytes) (chunks.BeginsTrailers bytes) ending r in
    none_off _ _ ending r (trailers_can_be trailing behind trailers) (trailers_begun trailing behind trailers) (subst P same off)

-- two ways to take whole chunks from the same bytes
fronts_once : (limit : ℕ) (cs ds : List Chunk) (rest a b : List ℕ) → HasChunks rest cs a → HasChunks rest ds b → length (contents cs) ≤ limit → length (contents ds) ≤ limit
    → HasNoChunk limit (length (contents cs)) a → HasNoChunk limit (length (contents ds)) b → (contents cs ≡ contents ds) × (a ≡ b)
fronts_once limit cs ds rest a b here there fits within stop none =
    let left : length (contents cs) ≡ 0 + length (contents cs) = omega arith in
    let right : length (contents ds) ≡ 0 + length (contents ds) = omega arith in
    chunks_once limit 0 cs ds rest a b here.all there.all here.split there.split (omega (arith, fits)) (omega (arith, within))
    (subst (λ (n : ℕ). HasNoChunk limit n a) left stop) (subst (λ (n : ℕ). HasNoChunk limit n b) right none)

chunked_once : (limit : ℕ) (rest x y a b : List ℕ) → length x ≤ limit → length y ≤ limit → ReadsChunks rest x a → ReadsChunks rest y b → (x ≡ y) × (a ≡ b)
chunked_once limit rest x y a b fits within here there =
    let same = fronts_once limit here.chunks there.chunks rest here.after there.after here.whole there.whole (omega (arith, fits, ap length here.body_is)) (omega (arith, within, ap length there.body_is))
    (last_is_no_chunk limit _ here.after here.trailing here.last) (last_is_no_chunk limit _ there.after there.trailing there.last) in
    let H : List ℕ → Type 0 = λ bytes. HasSize bytes 0 here.trailing in
    let trailing = (size_once there.after 0 0 here.trailing there.trailing (subst H same.1 here.last) there.last).1 in
    let T : List ℕ → Type 0 = λ bytes. HasTrailers bytes a in
    (here.body_is ∙ same.0 ∙ sym there.body_is, trailers_once there.trailing a b (subst T trailing here.trailers) there.trailers)

chunks_not_broken : (limit : ℕ) (rest body behind : List ℕ) (ending : Ending) (r : Why) → length body ≤ limit → ReadsChunks rest body behind → BreaksChunks limit rest ending r → ⊥
chunks_not_broken limit rest body behind ending r fits here there =
    let same = fronts_once limit here.chunks there.chunks rest here.after there.after here.whole there.whole (omega (arith, fits, ap length here.body_is)) there.within
    (last_is_no_chunk limit _ here.after here.trailing here.last) (break_is_no_chunk limit _ there.after ending r there.breaks) in
    let H : List ℕ → Type 0 = λ bytes. HasSize bytes 0 here.trailing in
    last_not_broken limit _ there.after here.trailing behind ending r there.within (subst H same.1 here.last) here.trailers there.breaks

chunk_breaks_once : (limit : ℕ) (rest : List ℕ) (ending : Ending) (r s : Why) → BreaksChunks limit rest ending r → BreaksChunks limit rest ending s → r ≡ s
chunk_breaks_once limit rest ending r s here there =
    let same = fronts_once limit here.chunks there.chunks rest here.after there.after here.whole there.whole here.within there.within
    (break_is_no_chunk limit _ here.after ending r here.breaks) (break_is_no_chunk limit _ there.after ending s there.breaks) in
    let B : List ℕ → Type 0 = λ bytes. BreaksBehind limit (length (contents here.chunks)) bytes ending r in
    let C : List ℕ → Type 0 = λ body. BreaksBehind limit (length body) there.after ending r in
    behind_once limit (length (contents there.chunks)) there.after ending r s there.within (subst C same.0 (subst B same.1 here.breaks)) there.breaks

-- ---- bodies

body_once : (framed : Framing) (limit : ℕ) (rest : List ℕ) (ending : Ending) (x y a b : List ℕ) → length x ≤ limit → length y ≤ limit → HasBody framed rest ending x a → HasBody framed rest ending y b
    → (x ≡ y) × (a ≡ b)
body_once framing.NoBody limit rest ending x y a b fits within here there = (here.0 ∙ sym there.0, here.1 ∙ sym there.1)
body_once (framing.Length n) limit rest ending x y a b fits within here there = same_front x y a b (sym here.1 ∙ there.1) (here.0 ∙ sym there.0)
body_once framing.Chunked limit rest ending x y a b fits within here there = chunked_once limit rest x y a b fits within here there
body_once framing.ToClose limit rest ending x y a b fits within here there = (here.0 ∙ sym there.0, here.1 ∙ sym there.1)

body_not_broken : (framed : Framing) (limit : ℕ) (rest : List ℕ) (ending : Ending) (body behind : List ℕ) (r : Why) → length body ≤ limit → HasBody framed rest ending body behind
    → BreaksBody framed limit rest ending r → ⊥
body_not_broken framing.NoBody limit rest ending body behind r fits here breaks = breaks
body_not_broken (framing.Length n) limit rest ending body behind r fits here (inl breaks) = omega (arith, fits, here.0, breaks.0)
body_not_broken (framing.Length n) limit rest ending body behind r fits here (inr breaks) = omega (arith, here.0, ap length here.1, length-append body behind, breaks.1)
body_not_broken framing.Chunked limit rest ending body behind r fits here breaks = chunks_not_broken limit rest body behind ending r fits here breaks
body_not_broken framing.ToClose limit rest ending body behind r fits here breaks = omega (arith, fits, ap length here.0, breaks.0)

body_breaks_once : (framed : Framing) (limit : ℕ) (rest : List ℕ) (ending : Ending) (r s : Why) → BreaksBody framed limit rest ending r → BreaksBody framed limit rest ending s → r ≡ s
body_breaks_once framing.NoBody limit rest ending r s here there = absurd here
body_breaks_once (framing.Length n) limit rest ending r s (inl here) (inl there) = here.1 ∙ sym there.1
body_breaks_once (framing.Length n) limit rest ending r s (inl here) (inr there) = absurd (omega (arith, here.0, there.0))
body_breaks_once (framing.Length n) limit rest ending r s (inr here) (inl there) = absurd (omega (arith, here.0, there.0))
body_breaks_once (framing.Length n) limit rest ending r s (inr here) (inr there) = here.3 ∙ sym there.3
body_breaks_once framing.Chunked limit rest ending r s here there = chunk_breaks_once limit rest ending r s here there
body_breaks_once framing.ToClose limit rest ending r s here there = here.1 ∙ sym there.1

-- ---- heads

-- a head within the first 65,536 bytes
within_window : (got : List ℕ) (head : ResponseHead) (rest : List ℕ) → ReadsResponse got head rest → length (print_response head) ≤ 65_536
    → ReadsResponse (take 65_536 got) head (take (65_536 - length (print_response head)) rest)
within_window got head rest reads small = (reads.0, front_within 65_536 got (print_response head) rest small reads.1)

head_can_be : (got : List ℕ) (head : ResponseHead) (rest : List ℕ) → ReadsResponse got head rest → length (print_response head) ≤ 65_536 → NeverHasResponse (take 65_536 got) → ⊥
head_can_be got head rest reads small never =
    let within = within_window got head rest reads small in
    never [] head (take (65_536 - length (print_response head)) rest) (within.0, append-nil (take 65_536 got) ∙ within.1)

never_begun : (got : List ℕ) → NeverHasResponse got → BeginsHead got → ⊥
never_begun got never begins = let (more, head, reads) = begins.may_come in never more head [] reads

short_window : (got : List ℕ) → length got < 65_536 → BeginsHead got → BeginsHead (take 65_536 got)
short_window got short begins = subst BeginsHead (sym (take_all 65_536 got (omega (arith, short)))) begins

head_not_broken : (got : List ℕ) (ending : Ending) (r : Why) (head : ResponseHead) (rest : List ℕ) → ReadsHead got head rest → BreaksHead got ending r → ⊥
head_not_broken got ending r head rest reads (no_head never same) = head_can_be got head rest reads.reads reads.small never
head_not_broken got ending r head rest reads (unfit has same) =
    let heads = (response_unique got head has.head rest has.rest reads.reads has.reads).0 in
    elim has.unfit [
      | inl many ↦ omega (arith, ap (λ (h : ResponseHead). length h.fields) heads, reads.few, many)
      | inr early ↦ omega (arith, ap status_code heads, reads.final, early)
    ]
head_not_broken got ending r head rest reads (too_long long begins same) =
    begins.none head (take (65_536 - length (print_response head)) rest) (within_window got head rest reads.reads reads.small)
head_not_broken got ending r head rest reads (cut short begins closed same) = begins.none head rest reads.reads

head_breaks_once : (got : List ℕ) (ending : Ending) (r s : Why) → BreaksHead got ending r → BreaksHead got ending s → r ≡ s
head_breaks_once got ending r s (no_head never same) (no_head other there) = same ∙ sym there
head_breaks_once got ending r s (no_head never same) (unfit has there) = same ∙ sym there
head_breaks_once got ending r s (no_head never same) (too_long long begins there) = absurd (never_begun _ never begins)
head_breaks_once got ending r s (no_head never same) (cut short begins closed there) = absurd (never_begun _ never (short_window got short begins))
head_breaks_once got ending r s (unfit has same) (no_head never there) = same ∙ sym there
head_breaks_once got ending r s (unfit has same) (unfit other there) = same ∙ sym there
head_breaks_once got ending r s (unfit has same) (too_long long begins there) = absurd (begins.none has.head _ (within_window got has.head has.rest has.reads has.small))
head_breaks_once got ending r s (unfit has same) (cut short begins closed there) = absurd (begins.none has.head has.rest has.reads)
head_breaks_once got ending r s (too_long long begins same) (no_head never there) = absurd (never_begun _ never begins)
head_breaks_once got ending r s (too_long long begins same) (unfit has there) = absurd (begins.none has.head _ (within_window got has.head has.rest has.reads has.small))
head_breaks_once got ending r s (too_long long begins same) (too_long more other there) = same ∙ sym there
head_breaks_once got ending r s (too_long long begins same) (cut short other closed there) = absurd (omega (arith, long, short))
head_breaks_once got ending r s (cut short begins closed same) (no_head never there) = absurd (never_begun _ never (short_window got short begins))
head_breaks_once got ending r s (cut short begins closed same) (unfit has there) = absurd (begins.none has.head has.rest has.reads)
head_breaks_once got ending r s (cut short begins closed same) (too_long long other there) = absurd (omega (arith, long, short))
head_breaks_once got ending r s (cut short begins closed same) (cut less other also there) = same ∙ sym there

-- ---- ends

heads_once : (got : List ℕ) (head other : ResponseHead) (rest left : List ℕ) → ReadsHead got head rest → ReadsHead got other left → (head ≡ other) × (rest ≡ left)
heads_once got head other rest left here there = response_unique got head other rest left here.reads there.reads

-- a framing of one reading of the head is one of the other
moved_framing : (head_only : Bool) (got : List ℕ) (head other : ResponseHead) (rest left : List ℕ) (stated : Option ℕ) (framed : Framing) → ReadsHead got head rest → ReadsHead got other left
    → IsFramed head_only head stated framed → IsFramed head_only other stated framed
moved_framing head_only got head other rest left stated framed here there is =
    let F : ResponseHead → Type 0 = λ h. IsFramed head_only h stated framed in subst F (heads_once got head other rest left here there).0 is

-- a break of one reading of the body is one of the other
moved_break : (head_only : Bool) (limit : Option ℕ) (got : List ℕ) (ending : Ending) (r : Why) (head other : ResponseHead) (rest left : List ℕ) (s t : Option ℕ) (f g : Framing)
    → ReadsHead got head rest → ReadsHead got other left → IsFramed head_only head s f → IsFramed head_only other t g
    → BreaksBody f (body_limit limit (status_code head)) rest ending r → BreaksBody g (body_limit limit (status_code other)) left ending r
moved_break head_only limit got ending r head other rest left s t f g here there is are breaks =
    let heads = heads_once got head other rest left here there in
    let framed = (framed_once head_only other s t f g (moved_framing head_only got head other rest left s f here there is) are).0 in
    let H : ResponseHead → Type 0 = λ h. BreaksBody g (body_limit limit (status_code h)) left ending r in
    let R : List ℕ → Type 0 = λ bytes. BreaksBody g (body_limit limit (status_code head)) bytes ending r in
    let F : Framing → Type 0 = λ x. BreaksBody x (body_limit limit (status_code head)) rest ending r in
    subst H heads.0 (subst R heads.1 (subst F framed breaks))

breaks_once : (head_only : Bool) (limit : Option ℕ) (got : List ℕ) (ending : Ending) (r s : Why) → Breaks head_only limit got ending r → Breaks head_only limit got ending s → r ≡ s
breaks_once head_only limit got ending r s (in_head here) (in_head there) = head_breaks_once got ending r s here there
breaks_once head_only limit got ending r s (in_head here) (in_lines head rest reads none same) = absurd (head_not_broken got ending r head rest reads here)
breaks_once head_only limit got ending r s (in_head here) (in_body head rest stated framed reads is breaks) = absurd (head_not_broken got ending r head rest reads here)
breaks_once head_only limit got ending r s (in_lines head rest reads none same) (in_head there) = absurd (head_not_broken got ending s head rest reads there)
breaks_once head_only limit got ending r s (in_lines head rest reads none same) (in_lines other left are lacks also) = same ∙ sym also
breaks_once head_only limit got ending r s (in_lines head rest reads none same) (in_body other left stated framed are is breaks) =
    absurd (none stated framed (moved_framing head_only got other head left rest stated framed are reads is))
breaks_once head_only limit got ending r s (in_body head rest stated framed reads is breaks) (in_head there) = absurd (head_not_broken got ending s head rest reads there)
breaks_once head_only limit got ending r s (in_body head rest stated framed reads is breaks) (in_lines other left are none same) =
    absurd (none stated framed (moved_framing head_only got head other rest left stated framed reads are is))
breaks_once head_only limit got ending r s (in_body head rest stated framed reads is breaks) (in_body other left t g are also off) =
    body_breaks_once g _ left ending r s (moved_break head_only limit got ending r head other rest left stated t framed g reads are is also breaks) off

answer_not_broken : (head_only : Bool) (limit : Option ℕ) (got : List ℕ) (ending : Ending) (answered : Answered) (body behind : List ℕ) (r : Why)
    → IsAnswer head_only limit got ending answered body behind → Breaks head_only limit got ending r → ⊥
answer_not_broken head_only limit got ending answered body behind r here (in_head there) = head_not_broken got ending r here.head here.rest here.reads there
answer_not_broken head_only limit got ending answered body behind r here (in_lines head rest reads none same) =
    none answered.length here.framed (moved_framing head_only got here.head head here.rest rest answered.length here.framed here.reads reads here.says.framing_is)
answer_not_broken head_only limit got ending answered body behind r here (in_body head rest stated framed reads is breaks) =
    body_not_broken here.framed _ here.rest ending body behind r here.within here.has_body
    (moved_break head_only limit got ending r head here.head rest here.rest stated answered.length framed here.framed reads here.reads is here.says.framing_is breaks)

-- an answer and a break, of a talk in which a call failed or none did
pub answer_or_break : (head_only : Bool) (limit : Option ℕ) (got : List ℕ) (ending : Ending) (answered : Answered) (body behind : List ℕ) (r : Why)
    → IsAnswer head_only limit got ending answered body behind → IsBreak head_only limit got ending r → ⊥
answer_or_break head_only limit got ending answered body behind r here (inl failed) = here.no_fault failed.0
answer_or_break head_only limit got ending answered body behind r here (inr breaks) = answer_not_broken head_only limit got ending answered body behind r here breaks.1

pub one_break : (head_only : Bool) (limit : Option ℕ) (got : List ℕ) (ending : Ending) (r s : Why) → IsBreak head_only limit got ending r → IsBreak head_only limit got ending s → r ≡ s
one_break head_only limit got ending r s (inl here) (inl there) = here.1 ∙ sym there.1
one_break head_only limit got ending r s (inl here) (inr there) = absurd (there.0 here.0)
one_break head_only limit got ending r s (inr here) (inl there) = absurd (here.0 there.0)
one_break head_only limit got ending r s (inr here) (inr there) = breaks_once head_only limit got ending r s here.1 there.1

one_answer : (head_only : Bool) (limit : Option ℕ) (got : List ℕ) (ending : Ending) (a b : Answered) (x y u v : List ℕ)
    → IsAnswer head_only limit got ending a x u → IsAnswer head_only limit got ending b y v → (record a { body = b.body } ≡ b) × (x ≡ y) × (u ≡ v)
one_answer head_only limit got ending a b x y u v here there =
    let heads = response_unique got here.head there.head here.rest there.rest here.reads.reads there.reads.reads in
    let D : ResponseHead → Type 0 = λ h. Describes head_only h here.framed a in
    let says = subst D heads.0 here.says in
    let framed = framed_once head_only there.head a.length b.length here.framed there.framed says.framing_is there.says.framing_is in
    let F : Framing → Type 0 = λ f. HasBody f here.rest ending x u in
    let R : List ℕ → Type 0 = λ rest. HasBody there.framed rest ending x u in
    let L : ResponseHead → Type 0 = λ h. length x ≤ body_limit limit (status_code h) in
    let body = body_once there.framed _ there.rest ending x y u v (subst L heads.0 here.within) there.within (subst R heads.1 (subst F framed.0 here.has_body)) there.has_body in
    let lines = header_lines there.head in
    let status = says.status ∙ sym there.says.status in
    let etag = says.etag ∙ sym there.says.etag in
    let range = range_once (first_named (codes "content-range") lines) a.range b.range says.range there.says.range in
    let micros = says.micros ∙ sym there.says.micros in
    let keep = says.keep ∙ ap (may_keep there.head) framed.0 ∙ sym there.says.keep in
    let taken = here.taken ∙ ap length body.0 ∙ sym there.taken in (
      (λ i. record {
        status = status i;
        etag = etag i;
        length = framed.1 i;
        range = range i;
        micros = micros i;
        keep = keep i;
        taken = taken i;
        body = b.body;
      }),
      body.0,
      body.1,
    )

pub one_end : OneEnd
one_end head_only limit got ending (answer a x u) (answer b y v) here there = one_answer head_only limit got ending a b x y u v here there
one_end head_only limit got ending (answer a x u) (broken s) here there = absurd (answer_or_break head_only limit got ending a x u s here there)
one_end head_only limit got ending (broken r) (answer b y v) here there = absurd (answer_or_break head_only limit got ending b y v r there here)
one_end head_only limit got ending (broken r) (broken s) here there = one_break head_only limit got ending r s here there
