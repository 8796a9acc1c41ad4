-- Matching one piece after another, and why of several stars only the last needs to be tried.
use Rattle.std.proofs.Common.{◌≡◌, ◌++◌, ◌↔◌, ℕ, false, List, [], ◌∷◌, length, take, drop, refl, sym, ap, subst, ◌∙◌, arith}
use Rattle.std.proofs.lemmas.List.{append_assoc, drop-drop, drop_at, take-append-drop}
use Rattle.path_filters.specs.declared.pieces.Piece.{Piece}
use Rattle.path_filters.specs.declared.pieces.Piece.TheVariants.{Star, One, Set, Question}
use Rattle.path_filters.specs.Patterns.{Takes, Matches, is_star}
use Rattle.path_filters.specs.Runs.{Fits, IsLeft, StopsAtStar}
use Rattle.shared_lemmas.proofs.Lists.{no_nil}

-- a piece other than a star stands for one character
pub Matches-cons : (piece : Piece) (pieces : List Piece) (code : ℕ) (codes : List ℕ) → Takes piece code → Matches pieces codes → Matches (piece ∷ pieces) (code ∷ codes)
Matches-cons Star pieces code codes t m = absurd t
Matches-cons Question pieces code codes t m = (code, codes, refl, t, m)
Matches-cons (One letter) pieces code codes t m = (code, codes, refl, t, m)
Matches-cons (Set negated members) pieces code codes t m = (code, codes, refl, t, m)

head_same : (code : ℕ) (codes : List ℕ) (other : ℕ) (others : List ℕ) → code ∷ codes ≡ other ∷ others → (other ≡ code) × (others ≡ codes)
head_same code codes other others e = (cc, cc)

parts_of : (piece : Piece) (pieces : List Piece) (code : ℕ) (codes : List ℕ) → (other : ℕ) × (others : List ℕ) × (code ∷ codes ≡ other ∷ others) × Takes piece other × Matches pieces others → Takes piece code × Matches pieces codes
parts_of piece pieces code codes (other, others, e, t, m) =
    let same = head_same code codes other others e in
    (subst (Takes piece) same.0 t, subst (Matches pieces) same.1 m)

pub Matches-uncons : (piece : Piece) (pieces : List Piece) (code : ℕ) (codes : List ℕ) → is_star piece ≡ false → Matches (piece ∷ pieces) (code ∷ codes) → Takes piece code × Matches pieces codes
Matches-uncons Star pieces code codes s m = absurd cc
Matches-uncons Question pieces code codes s m = parts_of Question pieces code codes m
Matches-uncons (One letter) pieces code codes s m = parts_of (One letter) pieces code codes m
Matches-uncons (Set negated members) pieces code codes s m = parts_of (Set negated members) pieces code codes m

pub Matches-nil : (piece : Piece) (pieces : List Piece) → is_star piece ≡ false → Matches (piece ∷ pieces) [] → ⊥
Matches-nil Star pieces s m = absurd cc
Matches-nil Question pieces s (code, codes, e, t, m) = no_nil code codes e
Matches-nil (One letter) pieces s (code, codes, e, t, m) = no_nil code codes e
Matches-nil (Set negated members) pieces s (code, codes, e, t, m) = no_nil code codes e

takes_no_star : (piece : Piece) (code : ℕ) → Takes piece code → is_star piece ≡ false
takes_no_star Star code t = absurd t
takes_no_star Question code t = refl
takes_no_star (One letter) code t = refl
takes_no_star (Set negated members) code t = refl

-- pieces that took a character each have matched
Matches-front : (front after : List Piece) (text : List ℕ) → Fits front text → Matches after (drop (length front) text) → Matches (front ++ after) text
Matches-front [] after text f m = m
Matches-front (piece ∷ front) after [] f m = absurd f
Matches-front (piece ∷ front) after (code ∷ text) f m = Matches-cons piece (front ++ after) code text f.0 (Matches-front front after text f.1 m)

-- pieces that can take a character each take just that many of any text
past_front : (front after : List Piece) (fitting text : List ℕ) → Fits front fitting → Matches (front ++ after) text → Matches after (drop (length front) text)
past_front [] after fitting text f m = m
past_front (piece ∷ front) after [] text f m = absurd f
past_front (piece ∷ front) after (code ∷ fitting) [] f m = absurd (Matches-nil piece (front ++ after) (takes_no_star piece code f.0) m)
past_front (piece ∷ front) after (code ∷ fitting) (other ∷ text) f m = past_front front after fitting text f.1 (Matches-uncons piece (front ++ after) other text (takes_no_star piece code f.0) m).1

Fits-push : (front : List Piece) (piece : Piece) (text : List ℕ) (code : ℕ) (rest : List ℕ) → Fits front text → drop (length front) text ≡ code ∷ rest → Takes piece code → Fits (front ++ piece ∷ []) text
Fits-push [] piece [] code rest f e t = no_nil code rest e
Fits-push [] piece (other ∷ text) code rest f e t = (subst (Takes piece) (head_same other text code rest e).0 t, tt)
Fits-push (first ∷ front) piece [] code rest f e t = absurd f
Fits-push (first ∷ front) piece (other ∷ text) code rest f e t = (f.0, Fits-push front piece text code rest f.1 e t)

drop-push : (front : List Piece) (piece : Piece) (text : List ℕ) (code : ℕ) (rest : List ℕ) → drop (length front) text ≡ code ∷ rest → rest ≡ drop (length (front ++ piece ∷ [])) text
drop-push [] piece [] code rest e = absurd (no_nil code rest e)
drop-push [] piece (other ∷ text) code rest e = (head_same other text code rest e).1
drop-push (first ∷ front) piece [] code rest e = absurd (no_nil code rest e)
drop-push (first ∷ front) piece (other ∷ text) code rest e = drop-push front piece text code rest e

pub IsLeft-more : {pieces : List Piece} {text : List ℕ} {piece : Piece} {more : List Piece} {rest : List ℕ} (code : ℕ) (after : List ℕ) → IsLeft pieces text (piece ∷ more) rest → rest ≡ code ∷ after → Takes piece code → IsLeft pieces text more after
IsLeft-more {pieces} {text} {piece} {more} code after h e t =
    let here : drop (length h.front) text ≡ code ∷ after = sym h.left ∙ e in
    record {
      front = h.front ++ piece ∷ [];
      split = h.split ∙ sym (append_assoc h.front (piece ∷ []) more);
      fits = Fits-push h.front piece text code after h.fits here t;
      left = drop-push h.front piece text code after here;
    }

pub Matches-left : {pieces after : List Piece} {text rest : List ℕ} → IsLeft pieces text after rest → Matches pieces text → Matches after rest
Matches-left {pieces} {after} {text} {rest} h m =
    subst (Matches after) (sym h.left) (past_front h.front after text text h.fits (subst (λ (ps : List Piece). Matches ps text) h.split m))

pub Matches-whole : {pieces after : List Piece} {text rest : List ℕ} → IsLeft pieces text after rest → Matches after rest → Matches pieces text
Matches-whole {pieces} {after} {text} {rest} h m =
    subst (λ (ps : List Piece). Matches ps text) (sym h.split) (Matches-front h.front after text h.fits (subst (Matches after) h.left m))

-- a star also stands for more
pub star_longer : (pieces : List Piece) (count : ℕ) (text : List ℕ) → Matches (Star ∷ pieces) (drop count text) → Matches (Star ∷ pieces) text
star_longer pieces count text (front, back, e, m) =
    (take count text ++ front, back, sym (take-append-drop count text) ∙ ap (λ ys. take count text ++ ys) e ∙ sym (append_assoc (take count text) front back), m)

-- Where pieces can take a character each at the front of a text and a star follows them, that star finds whatever an earlier one finds.
pub last_star : {pieces more : List Piece} {text rest : List ℕ} → IsLeft pieces text (Star ∷ more) rest → Matches (Star ∷ pieces) text → Matches (Star ∷ more) rest
last_star {pieces} {more} {text} {rest} h (front, back, e, m) =
    let found : Matches (Star ∷ more) (drop (length h.front) back) = past_front h.front (Star ∷ more) text back h.fits (subst (λ (ps : List Piece). Matches ps back) h.split m) in
    let later : back ≡ drop (length front) text = sym (ap (drop (length front)) e ∙ drop_at front back _ refl) in
    let swapped : drop (length h.front) back ≡ drop (length front) rest =
    ap (drop (length h.front)) later ∙ drop-drop (length h.front) (length front) text ∙ ap (λ n. drop n text) (omega arith) ∙ sym (drop-drop (length front) (length h.front) text) ∙ ap (drop (length front)) (sym h.left) in
    star_longer more (length front) rest (subst (Matches (Star ∷ more)) swapped found)

-- a star that stands for no character, or for the next and more
pub star_next : (pieces : List Piece) (code : ℕ) (codes : List ℕ) → ¬ (Matches pieces (code ∷ codes)) → Matches (Star ∷ pieces) (code ∷ codes) → Matches (Star ∷ pieces) codes
star_next pieces code codes apart ([], back, e, m) = absurd (apart (subst (Matches pieces) (sym e) m))
star_next pieces code codes apart (first ∷ front, back, e, m) = (front, back, sym (head_same code codes first (front ++ back) e).1, m)

pub star_none : (pieces : List Piece) (text : List ℕ) → Matches pieces text → Matches (Star ∷ pieces) text
star_none pieces text m = ([], text, refl, m)

-- where a piece that is no star is next, and its character is missing or another, the pieces do not match
pub stuck_at_end : {pieces more : List Piece} {piece : Piece} {text rest : List ℕ} → IsLeft pieces text (piece ∷ more) rest → is_star piece ≡ false → rest ≡ [] → ¬ (Matches pieces text)
stuck_at_end {pieces} {more} {piece} h s e = λ m. Matches-nil piece more s (subst (Matches (piece ∷ more)) e (Matches-left h m))

pub stuck_at : {pieces more : List Piece} {piece : Piece} {text rest : List ℕ} (code : ℕ) (codes : List ℕ) → IsLeft pieces text (piece ∷ more) rest → is_star piece ≡ false → rest ≡ code ∷ codes → ¬ (Takes piece code) → ¬ (Matches pieces text)
stuck_at {pieces} {more} {piece} code codes h s e apart = λ m. apart (Matches-uncons piece more code codes s (subst (Matches (piece ∷ more)) e (Matches-left h m))).0

pub IsLeft-at : {pieces after others : List Piece} {text rest : List ℕ} → after ≡ others → IsLeft pieces text after rest → IsLeft pieces text others rest
IsLeft-at {pieces} {after} {others} {text} {rest} e h = subst (λ (ps : List Piece). IsLeft pieces text ps rest) e h

-- Where pieces stop at a star or at the end of the text, an earlier star needs no other place than that.
pub first_found : {pieces : List Piece} {text rest : List ℕ} (after : List Piece) → IsLeft pieces text after rest → StopsAtStar after → (after ≡ [] → rest ≡ []) → Matches (Star ∷ pieces) text ↔ Matches after rest
first_found {pieces} {text} [] h s e = (λ _. e refl, λ m. star_none pieces text (Matches-whole h m))
first_found {pieces} {text} (Star ∷ more) h s e = (last_star h, λ m. star_none pieces text (Matches-whole h m))
first_found (Question ∷ more) h s e = absurd cc
first_found (One letter ∷ more) h s e = absurd cc
first_found (Set negated members ∷ more) h s e = absurd cc

-- a star that does not begin its text with these pieces begins with the next character
pub star_moves : (pieces : List Piece) (text : List ℕ) (code : ℕ) (codes : List ℕ) → text ≡ code ∷ codes → ¬ (Matches pieces text) → Matches (Star ∷ pieces) text ↔ Matches (Star ∷ pieces) codes
star_moves pieces text code codes e apart =
    (λ m. star_next pieces code codes (subst (λ (t : List ℕ). ¬ (Matches pieces t)) e apart) (subst (Matches (Star ∷ pieces)) e m), λ m. subst (Matches (Star ∷ pieces)) (sym e) (star_longer pieces 1 (code ∷ codes) m))

-- at the end of the text a star has no other place
pub star_at_end : (pieces : List Piece) (text : List ℕ) → text ≡ [] → ¬ (Matches pieces text) → ¬ (Matches (Star ∷ pieces) text)
star_at_end pieces text e apart ([], back, whole, m) = apart (subst (Matches pieces) (sym whole) m)
star_at_end pieces text e apart (first ∷ front, back, whole, m) = no_nil first (front ++ back) (sym e ∙ whole)

-- no pieces match no text
pub Matches-ended : {pieces : List Piece} {text : List ℕ} → pieces ≡ [] → Matches pieces text ↔ (text ≡ [])
Matches-ended {pieces} {text} e = (λ m. subst (λ (ps : List Piece). Matches ps text) e m, λ n. subst (λ (ps : List Piece). Matches ps text) (sym e) n)

pub unended : {pieces after : List Piece} {text rest : List ℕ} → IsLeft pieces text after rest → after ≡ [] → ¬ (rest ≡ []) → ¬ (Matches pieces text)
unended h e apart = λ m. apart ((Matches-ended e).0 (Matches-left h m))
