-- Attempts one after the other, and one more behind them.
use Rattle.shared_lemmas.proofs.Clashes.{none_is_some, some_is}
use Rattle.std.proofs.Common.{◌≡◌, ◌∙◌, ◌+◌, ◌<◌, ◌++◌, ℕ, zero, suc, true, false, List, [], ◌∷◌, Option, Some, None, refl, sym, ap, subst, inl, inr, map, length, slice_get, append_assoc, append-nil, arith}
use Rattle.std.proofs.lemmas.List.{length-append, map-append}
use Rattle.s3_model.specs.declared.answers.Class.{Class}
use Rattle.s3_model.specs.declared.answers.Class.TheVariants as class
use Rattle.s3_model.specs.Classes.{is_tried_again}
use Rattle.s3_model.specs.Talks.{Talk, Note}
use Rattle.job_terms.specs.Attempts.{mark_of}
use Rattle.job_terms.specs.Dispatches.{last_of}
use Rattle.attempts.specs.Attempts.{HasClass, IsInPlace, SignedRequest}
use Rattle.lane_jobs.specs.Lanes.{AreMade, IsMade}

false_is_true : false ≡ true → ⊥
false_is_true e = cc

-- each is tried again
abbrev pub AreTriedAgain : List Class → Type 0
AreTriedAgain [] = Unit {0}
AreTriedAgain (shown ∷ rest) = (is_tried_again shown ≡ true) × AreTriedAgain rest

pub tried_more : (classes : List Class) (shown : Class) → AreTriedAgain classes → is_tried_again shown ≡ true → AreTriedAgain (classes ++ shown ∷ [])
tried_more [] shown all again = (again, tt)
tried_more (one ∷ classes) shown all again = (all.0, tried_more classes shown all.1 again)

-- each but the last, where another stands behind them
pub all_but_last : (classes : List Class) (last : Class) → AreTriedAgain classes → (k : ℕ) (shown : Class) → slice_get (classes ++ last ∷ []) k ≡ Some shown
    → k + 1 < length (classes ++ last ∷ []) → is_tried_again shown ≡ true
all_but_last [] last all k shown at below = absurd (omega arith)
all_but_last (one ∷ classes) last all zero shown at below = subst (λ (c : Class). is_tried_again c ≡ true) (some_is _ _ at) all.0
all_but_last (one ∷ classes) last all (suc k) shown at below = all_but_last classes last all.1 k shown at (omega arith)

pub each_again : (classes : List Class) → AreTriedAgain classes → (k : ℕ) (shown : Class) → slice_get classes k ≡ Some shown → is_tried_again shown ≡ true
each_again [] all k shown at = absurd (none_is_some shown at)
each_again (one ∷ classes) all zero shown at = subst (λ (c : Class). is_tried_again c ≡ true) (some_is _ _ at) all.0
each_again (one ∷ classes) all (suc k) shown at = each_again classes all.1 k shown at

pub last_again : (classes : List Class) (shown : Class) → AreTriedAgain classes → last_of classes ≡ Some shown → is_tried_again shown ≡ true
last_again [] shown all is = absurd (none_is_some shown is)
last_again (one ∷ []) shown all is = subst (λ (c : Class). is_tried_again c ≡ true) (some_is _ _ is) all.0
last_again (one ∷ two ∷ classes) shown all is = last_again (two ∷ classes) shown all.1 is

pub last_more : {A : Type 0} (xs : List A) (x : A) → last_of (xs ++ x ∷ []) ≡ Some x
last_more [] x = refl
last_more (y ∷ []) x = refl
last_more (y ∷ z ∷ xs) x = last_more (z ∷ xs) x

pub none_last : {A : Type 0} (xs : List A) → last_of xs ≡ None → xs ≡ []
none_last [] is = refl
none_last (x ∷ []) is = absurd (none_is_some x (sym is))
none_last (x ∷ y ∷ xs) is = absurd (cons_not_nil y xs (none_last (y ∷ xs) is))
  where
    cons_not_nil : {A : Type 0} (y : A) (xs : List A) → y ∷ xs ≡ [] → ⊥
    cons_not_nil y xs e = cc

pub one_longer : {A : Type 0} (xs : List A) (x : A) → length (xs ++ x ∷ []) ≡ length xs + 1
one_longer xs x = length-append xs (x ∷ [])

pub marks_more : (classes : List Class) (shown : Class) → map mark_of classes ++ mark_of shown ∷ [] ≡ map mark_of (classes ++ shown ∷ [])
marks_more classes shown = sym (map-append mark_of classes (shown ∷ []))

-- ---- the place of a body

elsewhere : (limit : Option ℕ) (shown : Class) (body place other : List ℕ) → is_tried_again shown ≡ true → IsInPlace limit shown body place → IsInPlace limit shown body other
elsewhere None shown body place other again h = tt
elsewhere (Some limit) (class.Success said) body place other again h = absurd (false_is_true again)
elsewhere (Some limit) (class.Refusal code message) body place other again h = tt
elsewhere (Some limit) (class.Uncertain reason) body place other again h = tt

module _ (r : SignedRequest) where
  class_elsewhere : (talk : Talk) (shown : Class) (place other : List ℕ) → is_tried_again shown ≡ true → HasClass r talk shown place → HasClass r talk shown other
  class_elsewhere talk shown place other again (inl memory) = inl memory
  class_elsewhere talk shown place other again (inr h) = inr (h.0, h.1, elsewhere r.limit shown h.0 place other again h.2)

  made_elsewhere : (number : ℕ) (shown : Class) (place other : List ℕ) (talks : List Talk) (notes : List Note) → is_tried_again shown ≡ true
      → IsMade r number shown place talks notes → IsMade r number shown other talks notes
  made_elsewhere number shown place other talks notes again m =
      let t = m.made in
      record {
        own = m.own;
        paused = m.paused;
        made = record {
          talk = t.talk;
          moment = t.moment;
          one_talk = t.one_talk;
          noted = t.noted;
          to_host = t.to_host;
          to_port = t.to_port;
          beginning = t.beginning;
          whole = t.whole;
          has_class = class_elsewhere t.talk shown place other again t.has_class;
        };
      }

  -- what is tried again leaves nothing in the place
  pub all_elsewhere : (classes : List Class) (number : ℕ) (place other : List ℕ) (talks : List Talk) (notes : List Note) → AreTriedAgain classes
      → AreMade r number place classes talks notes → AreMade r number other classes talks notes
  all_elsewhere [] number place other talks notes all made = made
  all_elsewhere (shown ∷ classes) number place other talks notes all made =
      let (first, more, noted, others, t, n, one, rest) = made in
      (first, more, noted, others, t, n, made_elsewhere number shown place other first noted all.0 one, all_elsewhere classes (number + 1) place other more others all.1 rest)

  -- one more behind those
  pub made_more : (classes : List Class) (number : ℕ) (place : List ℕ) (shown : Class) (talks more : List Talk) (notes others : List Note)
      → AreMade r number place classes talks notes → IsMade r (number + length classes) shown place more others
      → AreMade r number place (classes ++ shown ∷ []) (talks ++ more) (notes ++ others)
  made_more [] number place shown talks more notes others made one =
      let at : number + 0 ≡ number = omega arith in (
        more,
        [],
        others,
        [],
        ap (λ (ts : List Talk). ts ++ more) made.0 ∙ sym (append-nil more),
        ap (λ (ns : List Note). ns ++ others) made.1 ∙ sym (append-nil others),
        subst (λ (n : ℕ). IsMade r n shown place more others) at one,
        (refl, refl),
      )
  made_more (c ∷ classes) number place shown talks more notes others made one =
      let (first, later, noted, behind, t, n, front, rest) = made in
      let at : number + length (c ∷ classes) ≡ number + 1 + length classes = omega arith in (
        first,
        later ++ more,
        noted,
        behind ++ others,
        ap (λ (ts : List Talk). ts ++ more) t ∙ append_assoc first later more,
        ap (λ (ns : List Note). ns ++ others) n ∙ append_assoc noted behind others,
        front,
        made_more classes (number + 1) place shown later more behind others rest (subst (λ (m : ℕ). IsMade r m shown place more others) at one),
      )
