-- A text spells at most one time.
use Rattle.std.proofs.Common.{◌≡◌, ◌++◌, ◌∙◌, ℕ, pos, List, length, drop, inl, inr, sym, ap, arith}
use Rattle.std.specs.Prelude.{codes, unsigned_abs}
use Rattle.std.proofs.lemmas.List.{append_cancel_left, append_cancel_right, length-append}
use Rattle.jiff_core.specs.Calendar.{days_from_civil}
use Rattle.reply_values.specs.Times.{HasDate, HasClock, WritesMicros, EndsTime, SpellsTime}
use Rattle.reply_values.proofs.NumberLemmas.{Writes-same}

HasDate-same : (text : List ℕ) (a b : ℕ) → HasDate text a → HasDate text b → a ≡ b
HasDate-same text a b h k =
    let year = Writes-same h.year_digits k.year_digits in
    let month = Writes-same h.month_digits k.month_digits in
    let day = Writes-same h.day_digits k.day_digits in
    let count : days_from_civil (pos h.year) h.month h.day ≡ pos b = rw (year, month, day) k.count in
    ap unsigned_abs (sym h.count ∙ count)

HasClock-same : (text : List ℕ) (a b : ℕ) → HasClock text a → HasClock text b → a ≡ b
HasClock-same text a b h k =
    let hour = Writes-same h.hour_digits k.hour_digits in
    let minute = Writes-same h.minute_digits k.minute_digits in
    let second = Writes-same h.second_digits k.second_digits in
    h.count ∙ rw (hour, minute, second) (sym k.count)

WritesMicros-same : (fraction : List ℕ) (a b : ℕ) → WritesMicros fraction a → WritesMicros fraction b → a ≡ b
WritesMicros-same fraction a b h k = h.value ∙ rw (Writes-same h.digits k.digits) (sym k.value)

alone : (text fraction : List ℕ) → text ≡ codes "Z" → text ≡ codes "." ++ fraction ++ codes "Z" → ⊥
alone text fraction e f = let long = ap length (sym e ∙ f) in omega (arith, length-append fraction (codes "Z"), long)

EndsTime-same : (text : List ℕ) (a b : ℕ) → EndsTime text a → EndsTime text b → a ≡ b
EndsTime-same text a b (inl h) (inl k) = h.1 ∙ sym k.1
EndsTime-same text a b (inl h) (inr (fraction, e, k)) = absurd (alone text fraction h.0 e)
EndsTime-same text a b (inr (fraction, e, h)) (inl k) = absurd (alone text fraction k.0 e)
EndsTime-same text a b (inr (fraction, e, h)) (inr (other, f, k)) =
    let same : fraction ≡ other = append_cancel_left (codes ".") _ _
    (append_cancel_right _ _ (codes "Z") (sym e ∙ f)) in
    WritesMicros-same other a b (rw same at h) k

pub SpellsTime-same : (text : List ℕ) (a b : ℕ) → SpellsTime text a → SpellsTime text b → a ≡ b
SpellsTime-same text a b h k =
    let days = HasDate-same text h.days k.days h.date k.date in
    let seconds = HasClock-same text h.seconds k.seconds h.clock k.clock in
    let micros = EndsTime-same (drop 19 text) h.micros k.micros h.end k.end in
    h.value ∙ rw (days, seconds, micros) (sym k.value)
