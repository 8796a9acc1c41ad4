-- A text has one fault, and none where it is read and a tag follows it.
use Rattle.std.proofs.Common.{◌≡◌, ◌≢◌, ◌∙◌, ◌-◌, ⊎_elim, ℕ, List, [], refl, sym, ap, subst, length}
use Rattle.std.proofs.Common.{arith, take, inl}
use Rattle.std.proofs.lemmas.List.{take_all}
use Rattle.std.specs.Str.{IsUtf8, IsValidUpTo}
use Rattle.std.proofs.lemmas.Str.{utf8_valid_len-IsValidUpTo}
use Rattle.reply_values.specs.References.{GoesOn, IsUnescaped}
use Rattle.reply_values.proofs.UnescapeLemmas.{bad_spells_none}
use Rattle.reply_xml.proofs.Sorts as sort
use Rattle.reply_xml.specs.declared.faults.DocFault.{DocFault}
use Rattle.reply_xml.specs.declared.faults.DocFault.TheVariants as fault
use Rattle.reply_xml.specs.Breaks.{BadReference, BreaksText, Leaves}
use Rattle.reply_xml.specs.Contents.{ReadsText}
use Rattle.reply_xml.specs.Leaves.{HasBadReference, IsAtFault, IsFront, IsSound, LeavesText, NoTagBehind, NotUtf8}
use Rattle.reply_xml.specs.Runs.{ReadsRun}
use Rattle.reply_xml.proofs.RunLemmas.{ReadsRun-same}

-- bytes that are no UTF-8 beyond a place are none as a whole
whole_valid : (text : List ℕ) (place : ℕ) → IsValidUpTo text place → ¬ (IsUtf8 text)
whole_valid text place v utf8 =
    v.longest (length text) v.short (subst IsUtf8 (sym (take_all (length text) text (omega arith))) utf8)

IsFront-same : (front other text : List ℕ) → IsFront front text → IsFront other text → other ≡ front
IsFront-same front other text a b =
    ⊎_elim
    (λ f. ⊎_elim (λ g. g.0 ∙ sym f.0) (λ g. absurd (whole_valid text g.0 g.1 f.1)) b)
    (
    λ f. ⊎_elim (λ g. absurd (whole_valid text f.0 f.1 g.1))
    (
    λ g. let same = sym (utf8_valid_len-IsValidUpTo text g.0 g.1) ∙ utf8_valid_len-IsValidUpTo text f.0 f.1 in
    g.2 ∙ ap (λ n. take n text) same ∙ sym f.2
    )
    b
    )
    a

sound_or_bad : (text : List ℕ) → IsSound text → ¬ (HasBadReference text)
sound_or_bad text s b =
    let same = IsFront-same s.0 b.0 text s.1 b.2 in
    bad_spells_none b.0 b.1 b.3 s.2.0 (subst (λ (t : List ℕ). IsUnescaped t s.2.0) (sym same) s.2.1)

good_or_bad : (text meaning : List ℕ) → IsUtf8 text → IsUnescaped text meaning → ¬ (HasBadReference text)
good_or_bad text meaning utf8 u = sound_or_bad text (text, inl (refl, utf8), (meaning, u))

text_at : (text found bytes at rest : List ℕ) → ReadsText text bytes at → ReadsRun sort.text found bytes rest
    → (found ≡ text) × (rest ≡ at)
text_at text found bytes at rest r run = ReadsRun-same sort.text text found bytes at rest r.run run

pub text_left : (text bytes at : List ℕ) (left : ℕ) → ReadsText text bytes at → at ≢ [] → ¬ (LeavesText bytes left)
text_left text bytes at left r some (NoTagBehind found run utf8 goes e) =
    some (sym (text_at text found bytes at [] r run).1)
text_left text bytes at left r some (NotUtf8 size found rest run bad sound wrong e) =
    bad (subst IsUtf8 (sym (text_at text found bytes at rest r run).0) r.characters)

-- a text that is read up to the end of the bytes leaves the grammar there
pub text_ended : (text bytes : List ℕ) (left : ℕ) → ReadsText text bytes [] → LeavesText bytes left → left ≡ 0
text_ended text bytes left r (NoTagBehind found run utf8 goes e) = e
text_ended text bytes left r (NotUtf8 size found rest run bad sound wrong e) =
    absurd (bad (subst IsUtf8 (sym (text_at text found bytes [] rest r run).0) r.characters))

pub LeavesText-same : (bytes : List ℕ) (a b : ℕ) → LeavesText bytes a → LeavesText bytes b → b ≡ a
LeavesText-same bytes a b (NoTagBehind text run utf8 goes e) (NoTagBehind found go utf8b goes2 f) = f ∙ sym e
LeavesText-same bytes a b (NoTagBehind text run utf8 goes e) (NotUtf8 size found rest go bad sound wrong f) =
    absurd (bad (subst IsUtf8 (sym (ReadsRun-same sort.text text found bytes [] rest run go).0) utf8))
LeavesText-same bytes a b (NotUtf8 size text at run bad sound wrong e) (NoTagBehind found go utf8 goes f) =
    absurd (bad (subst IsUtf8 (ReadsRun-same sort.text text found bytes at [] run go).0 utf8))
LeavesText-same bytes a b (NotUtf8 size text at run bad sound wrong e) (NotUtf8 count found rest go bad2 sound2 wrong2 f) =
    let same = (ReadsRun-same sort.text text found bytes at rest run go).0 in
    let sizes : count ≡ size = subst (λ (t : List ℕ). IsAtFault t count) same wrong2 ∙ sym wrong in
    omega (arith, e, f, sizes)

-- a text leaves the grammar, or has a bad reference
left_or_bad : (text bytes at : List ℕ) (left : ℕ) → ReadsRun sort.text text bytes at → HasBadReference text
    → (at ≡ [] → IsUtf8 text → ¬ (GoesOn text)) → ¬ (LeavesText bytes left)
left_or_bad text bytes at left run bad uncut (NoTagBehind found go utf8 goes e) =
    let same = ReadsRun-same sort.text text found bytes at [] run go in
    uncut (sym same.1) (subst IsUtf8 same.0 utf8) (subst GoesOn same.0 goes)
left_or_bad text bytes at left run bad uncut (NotUtf8 size found rest go other sound wrong e) =
    sound_or_bad text (subst IsSound (ReadsRun-same sort.text text found bytes at rest run go).0 sound) bad

pub stands_same : (size a b : ℕ) (x y : DocFault) → b ≡ a → x ≡ fault.NotADocument (size - a)
    → y ≡ fault.NotADocument (size - b) → y ≡ x
stands_same size a b x y same e f = f ∙ ap (λ n. fault.NotADocument (size - n)) same ∙ sym e

pub BreaksText-same : (size : ℕ) (a b : DocFault) (bytes : List ℕ) → BreaksText size a bytes → BreaksText size b bytes
    → b ≡ a
BreaksText-same size a b bytes (Leaves m l e) (Leaves n k f) =
    stands_same size m n a b (LeavesText-same bytes m n l k) e f
BreaksText-same size a b bytes (Leaves m l e) (BadReference text rest run bad uncut f) =
    absurd (left_or_bad text bytes rest m run bad uncut l)
BreaksText-same size a b bytes (BadReference text rest run bad uncut e) (Leaves n k f) =
    absurd (left_or_bad text bytes rest n run bad uncut k)
BreaksText-same size a b bytes (BadReference text rest run bad uncut e) (BadReference found at go bad2 uncut2 f) = f ∙ sym e

pub text_whole : (size : ℕ) (reason : DocFault) (text bytes at : List ℕ) → ReadsText text bytes at → at ≢ []
    → ¬ (BreaksText size reason bytes)
text_whole size reason text bytes at r some (Leaves left l e) = text_left text bytes at left r some l
text_whole size reason text bytes at r some (BadReference found rest run bad uncut e) =
    good_or_bad text r.meaning r.characters r.unescaped
    (subst HasBadReference (text_at text found bytes at rest r run).0 bad)

pub text_at_end : (size : ℕ) (reason : DocFault) (text bytes : List ℕ) → ReadsText text bytes []
    → BreaksText size reason bytes → reason ≡ fault.NotADocument (size - 0)
text_at_end size reason text bytes r (Leaves left l e) =
    e ∙ ap (λ n. fault.NotADocument (size - n)) (text_ended text bytes left r l)
text_at_end size reason text bytes r (BadReference found rest run bad uncut e) =
    absurd
    (good_or_bad text r.meaning r.characters r.unescaped
    (subst HasBadReference (text_at text found bytes [] rest r run).0 bad))
