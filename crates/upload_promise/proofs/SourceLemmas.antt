-- Files over a call, and the bytes that came of one.
use Rattle.shared_lemmas.proofs.Clashes.{none_is_some, some_is}
use Rattle.std.proofs.Common.{◌≡◌, ◌≤◌, ◌+◌, ◌-◌, ◌∙◌, ◌++◌, ℕ, List, [], ◌∷◌, Option, Result, refl, append_assoc, append-nil, Some, None, IfSome, length, take, drop, filter_map, sym, ap, subst, inl, inr, arith, length-drop}
use Rattle.std.proofs.lemmas.List.{length-take-le, take-append-le}
use Rattle.std.proofs.Math.Seq.{drop-append_seam, take-append-add, take-add}
use Rattle.s3_model.specs.Files.{FileStore, HeldFile}
use Rattle.s3_outside.specs.Seen.{IsSeenAfter}
use Rattle.s3_outside.specs.Files.{SeenFiles, Reads, asked_bytes, asked_kind, called}
use Rattle.s3_outside.specs.declared.files.FileNote.{FileNote}
use Rattle.s3_outside.specs.declared.files.FileNote.TheVariants as note
use Rattle.s3_outside.specs.declared.files.Shape.{Shape}
use Rattle.s3_outside.specs.declared.wire.Failed.{Failed}
use Rattle.s3_outside.specs.FileCalls.{call_of}
use Rattle.upload_promise.specs.Sources.{AreFirstBytes, AreLeft, AskFor, LooksAt}

append_asks : (path : List ℕ) (calls more : List FileNote) → AskFor path calls → AskFor path more → AskFor path (calls ++ more)
append_asks path [] more asks others = others
append_asks path (note.Kind asked answer ∷ calls) more asks others = (asks.0, append_asks path calls more asks.1 others)
append_asks path (note.ReadAt asked at room answer ∷ calls) more asks others = (asks.0, append_asks path calls more asks.1 others)
append_asks path (other ∷ calls) more asks others = absurd asks

pub looks_none : (path : List ℕ) (files : Option SeenFiles) → LooksAt path files files
looks_none path None = tt
looks_none path (Some files) = (refl, [], sym (append-nil files.calls), tt)

-- such calls change no file
pub looks_left : (path : List ℕ) (was now : SeenFiles) → LooksAt path (Some was) (Some now) → AreLeft was now
looks_left path was now looks = (
  looks.0,
  ap (λ (all : List FileNote). filter_map call_of (drop (length was.calls) all)) looks.2 ∙ ap (filter_map call_of) (drop-append_seam was.calls looks.1) ∙ none looks.1 looks.3,
)
  where
    none : (calls : List FileNote) → AskFor path calls → filter_map call_of calls ≡ []
    none [] asks = refl
    none (note.Kind asked answer ∷ calls) asks = none calls asks.1
    none (note.ReadAt asked at room answer ∷ calls) asks = none calls asks.1
    none (other ∷ calls) asks = absurd asks

-- one and then the other
pub looks_both : (path : List ℕ) (first before after : Option SeenFiles) → LooksAt path first before → LooksAt path before after → LooksAt path first after
looks_both path first before None looked looks = tt
looks_both path first None (Some after) looked looks = absurd looks
looks_both path None (Some before) (Some after) looked looks = absurd looked
looks_both path (Some first) (Some before) (Some after) looked looks = (
  looks.0 ∙ looked.0,
  looked.1 ++ looks.1,
  looks.2 ∙ (ap (λ (calls : List FileNote). calls ++ looks.1) looked.2 ∙ append_assoc first.calls looked.1 looks.1),
  append_asks path looked.1 looks.1 looked.3 looks.3,
)

-- a call that asks for that path, and changes no file
pub looks_called : (path : List ℕ) (call : FileNote) (step : SeenFiles → SeenFiles) → ((seen : SeenFiles) → step seen ≡ called call seen) → AskFor path (call ∷ [])
    → (before after : Option SeenFiles) (b a : ℕ) → IsSeenAfter step before after b a → LooksAt path before after
looks_called path call step is asks before None b a seen = tt
looks_called path call step is asks None (Some after) b a (inl e) = absurd (none_is_some after (sym e))
looks_called path call step is asks (Some before) (Some after) b a (inl e) =
    let same : after ≡ called call before = some_is _ _ e ∙ is before in
    (ap (λ (files : SeenFiles). files.store) same, call ∷ [], ap (λ (files : SeenFiles). files.calls) same, asks)
looks_called path call step is asks before (Some after) b a (inr stops) = absurd (none_is_some after (sym stops.0))

pub looked_kind : (path : List ℕ) (answer : Result Shape Failed) (before after : Option SeenFiles) (b a : ℕ) → IsSeenAfter (asked_kind path answer) before after b a → LooksAt path before after
looked_kind path answer = looks_called path (note.Kind path answer) (asked_kind path answer) (λ seen. refl) (refl, tt)

pub looked_bytes : (path : List ℕ) (at room : ℕ) (answer : Result ℕ Failed) (before after : Option SeenFiles) (b a : ℕ) → IsSeenAfter (asked_bytes path at room answer) before after b a → LooksAt path before after
looked_bytes path at room answer = looks_called path (note.ReadAt path at room answer) (asked_bytes path at room answer) (λ seen. refl) (refl, tt)

module _ (step : SeenFiles → SeenFiles) (same : (seen : SeenFiles) → (step seen).store ≡ seen.store) where
  -- what was seen before holds of the same files
  pub seen_before : (P : FileStore → Type 0) (before after : Option SeenFiles) (b a : ℕ) → IfSome before (λ seen. P seen.store) → IsSeenAfter step before after b a → IfSome after (λ seen. P seen.store)
  seen_before P before None b a holds seen = tt
  seen_before P None (Some after) b a holds (inl e) = absurd (none_is_some after (sym e))
  seen_before P (Some before) (Some after) b a holds (inl e) = rw (ap (λ (t : SeenFiles). t.store) (some_is _ _ e) ∙ same before) holds
  seen_before P before (Some after) b a holds (inr stops) = absurd (none_is_some after (sym stops.0))

-- bytes that were read behind the first of a file make more of its first bytes
pub reads_on : (store : FileStore) (path : List ℕ) (at count : ℕ) (old into behind : List ℕ) → at ≤ length old → count ≤ length into → Reads store path at into count
    → AreFirstBytes store path (take at old) → AreFirstBytes store path (take (at + count) (take at old ++ (into ++ behind)))
reads_on store path at count old into behind inside fits reads first = λ file held.
    let same : reads.file ≡ file = some_is _ _ (sym reads.held ∙ held) in
    let came : take count into ≡ take count (drop at file.bytes) = subst (λ (f : HeldFile). take count into ≡ take count (drop at f.bytes)) same reads.bytes in
    let more : count ≤ length (drop at file.bytes) = subst (λ (f : HeldFile). count ≤ length (drop at f.bytes)) same reads.inside in
    let n : length (take at old) ≡ at = length-take-le at old inside in
    let before : take at old ≡ take at file.bytes = subst (λ (k : ℕ). take at old ≡ take k file.bytes) n (first file held).0 in
    let split : take (at + count) (take at old ++ (into ++ behind)) ≡ take at old ++ take count into =
    subst (λ (k : ℕ). take (k + count) (take at old ++ (into ++ behind)) ≡ take at old ++ take count (into ++ behind)) n (take-append-add (take at old) (into ++ behind) count)
    ∙ ap (λ (back : List ℕ). take at old ++ back) (take-append-le count into behind fits) in
    let whole : take (at + count) (take at old ++ (into ++ behind)) ≡ take (at + count) file.bytes =
    split ∙ (ap (λ (front : List ℕ). front ++ take count into) before ∙ (ap (λ (back : List ℕ). take at file.bytes ++ back) came ∙ sym (take-add at count file.bytes))) in
    let rest : length (drop at file.bytes) ≡ length file.bytes - at = length-drop at file.bytes in
    let front : length (take at old) ≤ length file.bytes = (first file held).1 in
    let len : length (take (at + count) (take at old ++ (into ++ behind))) ≡ at + count = ap length whole ∙ length-take-le (at + count) file.bytes (omega arith) in
    (subst (λ (k : ℕ). take (at + count) (take at old ++ (into ++ behind)) ≡ take k file.bytes) (sym len) whole, omega arith)

-- the same, where the files are seen before and after the call
pub reads_seen : (step : SeenFiles → SeenFiles) → ((seen : SeenFiles) → (step seen).store ≡ seen.store) → (path : List ℕ) (at count : ℕ) (old into behind : List ℕ) (before after : Option SeenFiles) (b a : ℕ)
    → at ≤ length old → count ≤ length into → IfSome before (λ seen. Reads seen.store path at into count) → IsSeenAfter step before after b a
    → IfSome after (λ seen. AreFirstBytes seen.store path (take at old) → AreFirstBytes seen.store path (take (at + count) (take at old ++ (into ++ behind))))
reads_seen step same path at count old into behind before after b a inside fits reads seen =
    seen_before step same (λ store. AreFirstBytes store path (take at old) → AreFirstBytes store path (take (at + count) (take at old ++ (into ++ behind)))) before after b a
    (each before reads) seen
  where
    each : (o : Option SeenFiles) → IfSome o (λ seen. Reads seen.store path at into count)
        → IfSome o (λ seen. AreFirstBytes seen.store path (take at old) → AreFirstBytes seen.store path (take (at + count) (take at old ++ (into ++ behind))))
    each None h = tt
    each (Some t) h = reads_on t.store path at count old into behind inside fits h
