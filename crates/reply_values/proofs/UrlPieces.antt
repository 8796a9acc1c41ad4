-- URL text, read by runs of bytes that stand for themselves and the pieces behind them.
use Rattle.std.proofs.Common.{◌≡◌, ◌<◌, ◌++◌, ◌∙◌, ℕ, List, [], length, sym, ap, subst}
use Rattle.std.proofs.lemmas.List.{append_assoc, append-nil}
use Rattle.reply_values.specs.Spelling.{Spells, StartsNoPiece, StartsPiece}
use Rattle.reply_values.specs.UrlText.{StandsForByte}
use Rattle.reply_values.proofs.SpellingLemmas.{spells_more, spells_piece, spells_stuck}
use Rattle.reply_values.proofs.UrlTextLemmas.{url_code}

split_at : (text front rest plain behind : List ℕ) → text ≡ front ++ rest → rest ≡ plain ++ behind
    → text ≡ (front ++ plain) ++ behind
split_at text front rest plain behind e f = e ∙ ap (λ t. front ++ t) f ∙ sym (append_assoc front plain behind)

pub piece_more : (text front rest plain behind x byte next : List ℕ) → text ≡ front ++ rest → rest ≡ plain ++ behind
    → Spells StandsForByte front x → Spells StandsForByte plain plain → StartsPiece StandsForByte behind byte next
    → (done : List ℕ) × (text ≡ done ++ next) × Spells StandsForByte done ((x ++ plain) ++ byte)
piece_more text front rest plain behind x byte next e f h p start =
    let run = spells_more StandsForByte front plain x plain h p in (
      (front ++ plain) ++ start.piece,
      split_at text (front ++ plain) behind start.piece next (split_at text front rest plain behind e f) start.split,
      spells_more StandsForByte (front ++ plain) start.piece (x ++ plain) byte run
          (spells_piece StandsForByte start.piece byte start.stands),
    )

pub stuck_behind : (text front rest plain behind x : List ℕ) → text ≡ front ++ rest → rest ≡ plain ++ behind
    → Spells StandsForByte front x → Spells StandsForByte plain plain → 0 < length behind
    → StartsNoPiece StandsForByte behind → (bytes : List ℕ) → Spells StandsForByte text bytes → ⊥
stuck_behind text front rest plain behind x e f h p some none bytes k =
    spells_stuck StandsForByte url_code (front ++ plain) behind (x ++ plain)
    (spells_more StandsForByte front plain x plain h p) some none bytes
    (subst (λ (t : List ℕ). Spells StandsForByte t bytes) (split_at text front rest plain behind e f) k)

pub all_plain : (text front rest plain behind x : List ℕ) → text ≡ front ++ rest → rest ≡ plain ++ behind
    → Spells StandsForByte front x → Spells StandsForByte plain plain → behind ≡ []
    → Spells StandsForByte text (x ++ plain)
all_plain text front rest plain behind x e f h p none =
    let whole : text ≡ front ++ plain =
    split_at text front rest plain behind e f ∙ ap (λ t. (front ++ plain) ++ t) none ∙ append-nil (front ++ plain) in
    subst (λ (t : List ℕ). Spells StandsForByte t (x ++ plain)) (sym whole)
    (spells_more StandsForByte front plain x plain h p)
