-- What one call after the other does to the last talk of a log.
use Rattle.std.proofs.Common.{◌≡◌, ℕ, zero, suc, ◌<◌, ◌≤◌, List, [], ◌∷◌, ◌++◌, length, take, Option, Some, None, Ok, cond, not, eqb, ◌&&◌, sym, refl, ap, subst, ◌∙◌, arith, append_assoc, inl, inr}
use Rattle.std.specs.Option.{option_map}
use Rattle.std.proofs.lemmas.List.{append-nil}
use Rattle.s3_model.specs.Talks.{Talk, Ending, Failed, Closed, Finished, Began, WireLog}
use Rattle.std.proofs.lemmas.Bool.{ne_eqb}
use Rattle.s3_outside.specs.declared.wire.Failed.{Failed as Fault}
use Rattle.s3_outside.specs.Seen.{IsSeenAfter}
use Rattle.s3_outside.specs.Wire.{sends, gets, closes, change_last, last_talk, after_close, after_take}
use Rattle.http_exchange.specs.Seen.{with_talk, hears}

change_last_after : (f g : Talk → Talk) (talks : List Talk) → change_last f (change_last g talks) ≡ change_last (λ talk. f (g talk)) talks
change_last_after f g [] = refl
change_last_after f g (t ∷ []) = refl
change_last_after f g (t ∷ u ∷ []) = refl
change_last_after f g (t ∷ u ∷ v ∷ ts) = ap (λ rest. t ∷ rest) (change_last_after f g (u ∷ v ∷ ts))

change_last_same : (f g : Talk → Talk) → ((talk : Talk) → f talk ≡ g talk) → (talks : List Talk) → change_last f talks ≡ change_last g talks
change_last_same f g same talks = λ i. change_last (λ talk. same talk i) talks

change_last_pushed : (f : Talk → Talk) (talks : List Talk) (talk : Talk) → change_last f (talks ++ talk ∷ []) ≡ talks ++ f talk ∷ []
change_last_pushed f [] talk = refl
change_last_pushed f (t ∷ []) talk = refl
change_last_pushed f (t ∷ u ∷ ts) talk = ap (λ rest. t ∷ rest) (change_last_pushed f (u ∷ ts) talk)

change_last_id : (f : Talk → Talk) → ((talk : Talk) → f talk ≡ talk) → (talks : List Talk) → change_last f talks ≡ talks
change_last_id f same [] = refl
change_last_id f same (t ∷ []) = ap (λ u. u ∷ []) (same t)
change_last_id f same (t ∷ u ∷ ts) = ap (λ rest. t ∷ rest) (change_last_id f same (u ∷ ts))

-- a change that changes nothing
pub seen_same : (f : Talk → Talk) → ((talk : Talk) → f talk ≡ talk) → (seen : Option WireLog) → seen ≡ option_map (last_talk f) seen
seen_same f same None = refl
seen_same f same (Some log) = ap (λ (talks : List Talk). Some (record log { talks = talks })) (sym (change_last_id f same log.talks))

-- one change and then another
pub seen_after : (f g h : Talk → Talk) → ((talk : Talk) → f (g talk) ≡ h talk) → (a b c : Option WireLog)
    → b ≡ option_map (last_talk g) a → c ≡ option_map (last_talk f) b → c ≡ option_map (last_talk h) a
seen_after f g h same None b c first second = second ∙ ap (option_map (last_talk f)) first
seen_after f g h same (Some log) b c first second =
    second ∙ ap (option_map (last_talk f)) first
    ∙ ap (λ (talks : List Talk). Some (record log { talks = talks })) (change_last_after f g log.talks ∙ change_last_same (λ talk. f (g talk)) h same log.talks)

-- a change of a talk that was begun
pub changed_after_begin : (f : Talk → Talk) (talk : Talk) (a b c : Option WireLog) (x y z : ℕ)
    → IsSeenAfter (with_talk talk) a b x y → c ≡ option_map (last_talk f) b → y ≤ z → IsSeenAfter (with_talk (f talk)) a c x z
changed_after_begin f talk a b c x y z (inr stopped) changed later =
    inr (changed ∙ ap (option_map (last_talk f)) stopped.0, omega (arith, stopped.1))
changed_after_begin f talk None b c x y z (inl seen) changed later = inl (changed ∙ ap (option_map (last_talk f)) seen)
changed_after_begin f talk (Some log) b c x y z (inl seen) changed later =
    inl (changed ∙ ap (option_map (last_talk f)) seen
    ∙ ap (λ (talks : List Talk). Some (record { talks = talks; notes = log.notes ++ Began ∷ [] })) (change_last_pushed f log.talks talk))

pub sends_after : (first second : List ℕ) (talk : Talk) → sends second (sends first talk) ≡ sends (first ++ second) talk
sends_after first second talk = ap (λ (bytes : List ℕ). record talk { sent = bytes }) (append_assoc talk.sent first second)

pub sends_nothing : (talk : Talk) → sends [] talk ≡ talk
sends_nothing talk = ap (λ (bytes : List ℕ). record talk { sent = bytes }) (append-nil talk.sent)

pub gets_nothing : (talk : Talk) → gets [] talk ≡ talk
gets_nothing talk = ap (λ (bytes : List ℕ). record talk { got = bytes }) (append-nil talk.got)

-- what was heard and then more of it
hears_after : (first second : List ℕ) (ending : Ending) (talk : Talk) → hears second ending (hears first Finished talk) ≡ hears (first ++ second) ending talk
hears_after first second Failed talk = ap (λ (bytes : List ℕ). record talk { got = bytes; ending = Failed }) (append_assoc talk.got first second)
hears_after first second Closed talk = ap (λ (bytes : List ℕ). record talk { got = bytes; ending = after_close talk.ending }) (append_assoc talk.got first second)
hears_after first second Finished talk = ap (λ (bytes : List ℕ). record talk { got = bytes }) (append_assoc talk.got first second)

pub heard_after : (first second : List ℕ) (early ending : Ending) (a b c : Option WireLog) → early ≡ Finished
    → b ≡ option_map (last_talk (hears first early)) a → c ≡ option_map (last_talk (hears second ending)) b → c ≡ option_map (last_talk (hears (first ++ second) ending)) a
heard_after first second early ending a b c open_ heard next =
    let P : Ending → Type 0 = λ e. b ≡ option_map (last_talk (hears first e)) a in
    seen_after (hears second ending) (hears first Finished) (hears (first ++ second) ending) (hears_after first second ending) a b c (subst P open_ heard) next

pub heard_nothing : (seen : Option WireLog) → seen ≡ option_map (last_talk (hears [] Finished)) seen
heard_nothing seen = seen_same (hears [] Finished) gets_nothing seen

-- how a talk goes on after so many bytes were taken, of some that were wanted
abbrev pub taken_ending : ℕ → Ending
taken_ending zero = Closed
taken_ending (suc count) = Finished

pub taken_none : (count : ℕ) → count ≡ 0 → taken_ending count ≡ Closed
taken_none count none = ap taken_ending none

pub taken_some : (count : ℕ) → 0 < count → taken_ending count ≡ Finished
taken_some zero some = absurd (omega arith)
taken_some (suc count) some = refl

after_take_is : (into : List ℕ) (count : ℕ) (log : WireLog) → 0 < length into
    → after_take {E = Fault} into (Ok count) log ≡ last_talk (hears (take count into) (taken_ending count)) log
after_take_is into zero log some =
    ap (λ t. cond (not t) (last_talk closes log) (last_talk (gets []) log)) (ne_eqb (length into) 0 (λ none. omega (arith, none)))
    ∙ (λ i. last_talk (λ talk. closes (sym (gets_nothing talk) i)) log)
after_take_is into (suc count) log some =
    ap (λ t. cond (t && not (eqb (length into) 0)) (last_talk closes log) (last_talk (gets (take (suc count) into)) log)) (ne_eqb (suc count) 0 (λ none. omega (arith, none)))

pub take_heard : (into : List ℕ) (count : ℕ) (before after : Option WireLog) → 0 < length into
    → after ≡ option_map (after_take {E = Fault} into (Ok count)) before → after ≡ option_map (last_talk (hears (take count into) (taken_ending count))) before
take_heard into count before after some changed =
    changed ∙ (λ i. option_map (λ log. after_take_is into count log some i) before)

pub nothing_taken : (got : List ℕ) → length got ≡ 0 → got ≡ []
nothing_taken [] none = refl
nothing_taken (x ∷ xs) none = absurd (omega (arith, none))

-- the ending under another name
pub ending_is : (got : List ℕ) (ending other : Ending) (a b : Option WireLog) → ending ≡ other → b ≡ option_map (last_talk (hears got ending)) a → b ≡ option_map (last_talk (hears got other)) a
ending_is got ending other a b same heard = heard ∙ (λ i. option_map (last_talk (hears got (same i))) a)

-- these bytes under another name
pub heard_is : (got other : List ℕ) (ending : Ending) (a b : Option WireLog) → got ≡ other → b ≡ option_map (last_talk (hears got ending)) a → b ≡ option_map (last_talk (hears other ending)) a
heard_is got other ending a b same heard = heard ∙ (λ i. option_map (last_talk (hears (same i) ending)) a)
