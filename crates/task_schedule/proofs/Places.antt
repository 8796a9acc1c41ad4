-- Places of a run's journal, and the part of a run that follows another.
use Rattle.std.proofs.Common.{append_assoc, ◌≡◌, ◌∙◌, ◌⊎◌, ◌+◌, ◌++◌, ◌<◌, ◌≤◌, ℕ, List, [], ◌∷◌, length, sym, ap, inl, inr, arith}
use Rattle.std.proofs.lemmas.List.{length-append}
use Rattle.s3_model.specs.declared.outcomes.Event.{Event as Entry}
use Rattle.shared_lemmas.proofs.Lists.{tail_is}
use Rattle.shared_lemmas.proofs.Members.{ordered}
use Rattle.manager_moves.specs.Runs.{Back, Called, Event, Events, Lined, Made, Sent, Stopped, journal_of}

-- of two ends of a list one is an end of the other
pub ends : {X : Type 0} (xs ys us vs : List X) → xs ++ ys ≡ us ++ vs → ((r : List X) × (ys ≡ r ++ vs)) ⊎ ((r : List X) × (vs ≡ r ++ ys))
ends [] ys us vs e = inl (us, e)
ends (x ∷ xs) ys [] vs e = inr (x ∷ xs, sym e)
ends (x ∷ xs) ys (u ∷ us) vs e = ends xs ys us vs (tail_is x u (xs ++ ys) (us ++ vs) e)

abbrev pub filled : Events → ℕ
filled events = length (journal_of events)

-- it stands in the journal
abbrev pub IsEntry : Event → Type 0
IsEntry (Sent n o k lane) = Unit {0}
IsEntry (Back lane carried) = Unit {0}
IsEntry e = ⊥

one_longer : (journal : List Entry) (e : Entry) → length (journal ++ e ∷ []) ≡ length journal + 1
one_longer journal e = length-append journal (e ∷ [])

pub entry_fills : (e : Event) (before : Events) → IsEntry e → filled (e ∷ before) ≡ filled before + 1
entry_fills (Sent n o k lane) before is = one_longer (journal_of before) _
entry_fills (Back lane carried) before is = one_longer (journal_of before) _
entry_fills e before is = absurd is

one_fills : (e : Event) (before : Events) → filled before ≤ filled (e ∷ before)
one_fills (Sent n o k lane) before = let more = entry_fills (Sent n o k lane) before tt in omega arith
one_fills (Back lane carried) before = let more = entry_fills (Back lane carried) before tt in omega arith
one_fills (Made fits) before = omega arith
one_fills (Called n a r) before = omega arith
one_fills Lined before = omega arith
one_fills (Stopped reason) before = omega arith

pub fills : (later before : Events) → filled before ≤ filled (later ++ before)
fills [] before = omega arith
fills (e ∷ later) before = let rest = fills later before in let one = one_fills e (later ++ before) in omega arith

-- what has the earlier place happened before
pub happened_before : (xs ys us vs : Events) (a b : Event) → xs ++ a ∷ ys ≡ us ++ b ∷ vs → filled ys < filled vs → (r : Events) × (vs ≡ r ++ a ∷ ys)
happened_before xs ys us vs a b e less = by (ends xs (a ∷ ys) us (b ∷ vs) e)
  where
    of_first : (r : Events) → a ∷ ys ≡ r ++ b ∷ vs → (r : Events) × (vs ≡ r ++ a ∷ ys)
    of_first [] is = let same = ap filled (tail_is a b ys vs is) in absurd (omega arith)
    of_first (z ∷ r) is = let same = ap filled (tail_is a z ys (r ++ b ∷ vs) is) in let more = fills r (b ∷ vs) in let one = one_fills b vs in absurd (omega arith)

    of_second : (r : Events) → b ∷ vs ≡ r ++ a ∷ ys → (r : Events) × (vs ≡ r ++ a ∷ ys)
    of_second [] is = let same = ap filled (tail_is b a vs ys is) in absurd (omega arith)
    of_second (z ∷ r) is = (r, tail_is b z vs (r ++ a ∷ ys) is)

    by : ((r : Events) × (a ∷ ys ≡ r ++ b ∷ vs)) ⊎ ((r : Events) × (b ∷ vs ≡ r ++ a ∷ ys)) → (r : Events) × (vs ≡ r ++ a ∷ ys)
    by (inl first) = of_first first.0 first.1
    by (inr second) = of_second second.0 second.1

-- at one place there is one event
pub same_place : (xs ys us vs : Events) (a b : Event) → xs ++ a ∷ ys ≡ us ++ b ∷ vs → IsEntry a → IsEntry b → filled ys ≡ filled vs → a ∷ ys ≡ b ∷ vs
same_place xs ys us vs a b e is_a is_b same = by (ends xs (a ∷ ys) us (b ∷ vs) e)
  where
    of_first : (r : Events) → a ∷ ys ≡ r ++ b ∷ vs → a ∷ ys ≡ b ∷ vs
    of_first [] is = is
    of_first (z ∷ r) is = let of = ap filled (tail_is a z ys (r ++ b ∷ vs) is) in let more = fills r (b ∷ vs) in let one = entry_fills b vs is_b in absurd (omega arith)

    of_second : (r : Events) → b ∷ vs ≡ r ++ a ∷ ys → a ∷ ys ≡ b ∷ vs
    of_second [] is = sym is
    of_second (z ∷ r) is = let of = ap filled (tail_is b z vs (r ++ a ∷ ys) is) in let more = fills r (a ∷ ys) in let one = entry_fills a ys is_a in absurd (omega arith)

    by : ((r : Events) × (a ∷ ys ≡ r ++ b ∷ vs)) ⊎ ((r : Events) × (b ∷ vs ≡ r ++ a ∷ ys)) → a ∷ ys ≡ b ∷ vs
    by (inl first) = of_first first.0 first.1
    by (inr second) = of_second second.0 second.1

-- ---- two places of one run

pub left_out : {X : Type 0} (xs ys zs : List X) → xs ++ ys ≡ xs ++ zs → ys ≡ zs
left_out [] ys zs e = e
left_out (x ∷ xs) ys zs e = left_out xs ys zs (tail_is x x (xs ++ ys) (xs ++ zs) e)

-- the second of two events with the part of the run between them
pub record Between (xs ys us vs : Events) (a b : Event) : Type 0 where
  pub mid : Events
  pub after : xs ≡ us ++ b ∷ mid
  pub before : vs ≡ mid ++ a ∷ ys

pub between_of : (xs ys us vs : Events) (a b : Event) → xs ++ a ∷ ys ≡ us ++ b ∷ vs → filled ys < filled vs → Between xs ys us vs a b
between_of xs ys us vs a b e less = by (ordered xs a ys us b vs e)
  where
    clash : (rest : Events) → a ∷ ys ≡ rest ++ b ∷ vs → ⊥
    clash [] is = let same = ap filled (tail_is a b ys vs is) in omega arith
    clash (z ∷ r) is = let same = ap filled (tail_is a z ys (r ++ b ∷ vs) is) in let more = fills r (b ∷ vs) in let one = one_fills b vs in omega arith

    by : ((rest : Events) × (us ≡ xs ++ rest)) ⊎ ((rest : Events) × (xs ≡ us ++ b ∷ rest)) → Between xs ys us vs a b
    by (inl first) = absurd (clash first.0 (left_out xs (a ∷ ys) (first.0 ++ b ∷ vs) (e ∙ ap (λ (z : Events). z ++ b ∷ vs) first.1 ∙ append_assoc xs first.0 (b ∷ vs))))
    by (inr second) = record {
      mid = second.0;
      after = second.1;
      before = tail_is b b vs (second.0 ++ a ∷ ys)
          (left_out us (b ∷ vs) (b ∷ (second.0 ++ a ∷ ys)) (sym e ∙ ap (λ (z : Events). z ++ a ∷ ys) second.1 ∙ append_assoc us (b ∷ second.0) (a ∷ ys)));
    }
