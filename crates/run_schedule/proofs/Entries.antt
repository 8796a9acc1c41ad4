-- The events of a run and their entries in its journal.
use Rattle.std.proofs.Common.{append_assoc, append-nil, ◌≡◌, ◌∙◌, ◌++◌, ℕ, List, [], ◌∷◌, Option, Some, None, refl, sym, subst, ap, inl, inr}
use Rattle.jobs.specs.Endings.{SeenCarried}
use Rattle.manager_moves.specs.Runs.{Back, Called, Event, Events, Lined, Made, Sent, Stopped, journal_of}
use Rattle.job_terms.specs.Jobs.{job_of}
use Rattle.s3_model.specs.declared.outcomes.Event.{Event as Entry}
use Rattle.s3_model.specs.declared.outcomes.Event.TheVariants as entry
use Rattle.s3_model.specs.declared.outcomes.JobId.{JobId}
use Rattle.s3_model.specs.declared.requests.Op.{Op}
use Rattle.s3_model.specs.declared.tries.Mark.{Mark}
use Rattle.shared_lemmas.proofs.Clashes.{none_is_some, some_is}
use Rattle.shared_lemmas.proofs.Lists.{head_is, no_middle, tail_is}
use Rattle.shared_lemmas.proofs.Members.{Has, has_middle, ordered, split_of}
use Rattle.task_schedule.proofs.Places.{left_out}
use Rattle.task_schedule.proofs.Shares.{two_parts}

-- ---- the entry of an event

abbrev pub entry_of : Event → Option Entry
entry_of (Sent n o k lane) = Some (entry.Given (job_of n o k) lane)
entry_of (Back lane carried) = Some (entry.Came carried.job.id lane carried.tries)
entry_of e = None

abbrev listed : Option Entry → List Entry
listed None = []
listed (Some x) = x ∷ []

one_more : (e : Event) (before : Events) → journal_of (e ∷ before) ≡ journal_of before ++ listed (entry_of e)
one_more (Sent n o k lane) before = refl
one_more (Back lane carried) before = refl
one_more (Made fits) before = sym (append-nil (journal_of before))
one_more (Called n a r) before = sym (append-nil (journal_of before))
one_more Lined before = sym (append-nil (journal_of before))
one_more (Stopped reason) before = sym (append-nil (journal_of before))

-- the journal of a run that goes on
pub journal_parts : (later before : Events) → journal_of (later ++ before) ≡ journal_of before ++ journal_of later
journal_parts [] before = sym (append-nil (journal_of before))
journal_parts (e ∷ later) before =
    one_more e (later ++ before) ∙ ap (λ (j : List Entry). j ++ listed (entry_of e)) (journal_parts later before)
    ∙ append_assoc (journal_of before) (journal_of later) (listed (entry_of e))
    ∙ ap (λ (j : List Entry). journal_of before ++ j) (sym (one_more e later))

-- what stands around the entry of an event
pub journal_around : (later before : Events) (e : Event) (x : Entry) → entry_of e ≡ Some x → journal_of (later ++ e ∷ before) ≡ journal_of before ++ x ∷ journal_of later
journal_around later before e x is =
    journal_parts later (e ∷ before) ∙ ap (λ (j : List Entry). j ++ journal_of later) (one_more e before ∙ ap (λ (o : Option Entry). journal_of before ++ listed o) is)
    ∙ append_assoc (journal_of before) (x ∷ []) (journal_of later)

-- ---- the event of an entry

pub record EventAt (events : Events) (front rest : List Entry) (x : Entry) : Type 0 where
  pub later : Events
  pub before : Events
  pub event : Event
  pub is : events ≡ later ++ event ∷ before
  pub entry_is : entry_of event ≡ Some x
  pub behind : journal_of before ≡ front
  pub ahead : journal_of later ≡ rest

no_entry : (e : Event) (before : Events) → entry_of e ≡ None → journal_of (e ∷ before) ≡ journal_of before
no_entry e before none = one_more e before ∙ ap (λ (o : Option Entry). journal_of before ++ listed o) none ∙ append-nil (journal_of before)

with_entry : (e : Event) (before : Events) (y : Entry) → entry_of e ≡ Some y → journal_of (e ∷ before) ≡ journal_of before ++ y ∷ []
with_entry e before y some = one_more e before ∙ ap (λ (o : Option Entry). journal_of before ++ listed o) some

-- the last entry is that one, or it stands before the last
module _ (e : Event) (before : Events) (front rest : List Entry) (x y : Entry) (some : entry_of e ≡ Some y) (is : journal_of before ++ y ∷ [] ≡ front ++ x ∷ rest) where
  is_last : (r : List Entry) → front ≡ journal_of before ++ r → EventAt (e ∷ before) front rest x
  is_last r same = by r same (left_out (journal_of before) (y ∷ []) (r ++ x ∷ rest) (is ∙ ap (λ (j : List Entry). j ++ x ∷ rest) same ∙ append_assoc (journal_of before) r (x ∷ rest)))
    where
      by : (r : List Entry) → front ≡ journal_of before ++ r → y ∷ [] ≡ r ++ x ∷ rest → EventAt (e ∷ before) front rest x
      by [] f g = record {
        later = [];
        before = before;
        event = e;
        is = refl;
        entry_is = some ∙ ap Some (head_is y x [] rest g);
        behind = sym (append-nil (journal_of before)) ∙ sym f;
        ahead = tail_is y x [] rest g;
      }
      by (z ∷ r) f g = absurd (no_middle r x rest (tail_is y z [] (r ++ x ∷ rest) g))

  is_before : (r : List Entry) → journal_of before ≡ front ++ x ∷ r → (journal_of before ≡ front ++ x ∷ r → EventAt before front r x) → EventAt (e ∷ before) front rest x
  is_before r same found =
      let at = found same in
      let rest_is : r ++ y ∷ [] ≡ rest = tail_is x x (r ++ y ∷ []) rest
      (left_out front (x ∷ (r ++ y ∷ [])) (x ∷ rest) (sym (append_assoc front (x ∷ r) (y ∷ [])) ∙ ap (λ (j : List Entry). j ++ y ∷ []) (sym same) ∙ is)) in
      record {
        later = e ∷ at.later;
        before = at.before;
        event = at.event;
        is = ap (λ (z : Events). e ∷ z) at.is;
        entry_is = at.entry_is;
        behind = at.behind;
        ahead = with_entry e at.later y some ∙ ap (λ (j : List Entry). j ++ y ∷ []) at.ahead ∙ rest_is;
      }

pub event_at : (events : Events) (front rest : List Entry) (x : Entry) → journal_of events ≡ front ++ x ∷ rest → EventAt events front rest x
event_at [] front rest x is = absurd (no_middle front x rest is)
event_at (e ∷ before) front rest x is = by (entry_of e) refl (λ r f. event_at before front r x f)
  where
    by : (o : Option Entry) → entry_of e ≡ o → ((r : List Entry) → journal_of before ≡ front ++ x ∷ r → EventAt before front r x) → EventAt (e ∷ before) front rest x
    by None none found =
        let at = found rest (sym (no_entry e before none) ∙ is) in
        record {
          later = e ∷ at.later;
          before = at.before;
          event = at.event;
          is = ap (λ (z : Events). e ∷ z) at.is;
          entry_is = at.entry_is;
          behind = at.behind;
          ahead = no_entry e at.later none ∙ at.ahead;
        }
    by (Some y) some found =
        let whole = sym (with_entry e before y some) ∙ is in
        elim (ordered (journal_of before) y [] front x rest whole) [
          | inl last ↦ is_last e before front rest x y some whole last.0 last.1
          | inr earlier ↦ is_before e before front rest x y some whole earlier.0 earlier.1 (found earlier.0)
        ]

-- ---- givings and returns

pub sent_entry : (before : Events) (n k lane : ℕ) (o : Op) → Has before (Sent n o k lane) → Has (journal_of before) (entry.Given (job_of n o k) lane)
sent_entry before n k lane o known =
    let split = split_of before (Sent n o k lane) known in
    subst (λ (j : List Entry). Has j (entry.Given (job_of n o k) lane)) (sym (ap journal_of split.is ∙ journal_around split.front split.back (Sent n o k lane) (entry.Given (job_of n o k) lane) refl))
    (has_middle (journal_of split.back) (entry.Given (job_of n o k) lane) (journal_of split.front))

pub back_entry : (before : Events) (lane : ℕ) (c : SeenCarried) → Has before (Back lane c) → Has (journal_of before) (entry.Came c.job.id lane c.tries)
back_entry before lane c known =
    let split = split_of before (Back lane c) known in
    subst (λ (j : List Entry). Has j (entry.Came c.job.id lane c.tries)) (sym (ap journal_of split.is ∙ journal_around split.front split.back (Back lane c) (entry.Came c.job.id lane c.tries) refl))
    (has_middle (journal_of split.back) (entry.Came c.job.id lane c.tries) (journal_of split.front))

pub given_same : (job other : JobId) (lane to : ℕ) → entry.Given job lane ≡ entry.Given other to → (job ≡ other) × (lane ≡ to)
given_same job other lane to e = (cc, cc)

pub came_given : (job other : JobId) (lane to : ℕ) (tries : List Mark) → entry.Came job lane tries ≡ entry.Given other to → ⊥
came_given job other lane to tries e = cc

pub given_came : (job other : JobId) (lane to : ℕ) (tries : List Mark) → entry.Given other to ≡ entry.Came job lane tries → ⊥
given_came job other lane to tries e = cc

-- the event of a giving
pub is_sent : (e : Event) (job : JobId) (lane : ℕ) → entry_of e ≡ Some (entry.Given job lane) → (n : ℕ) × (o : Op) × (k : ℕ) × (e ≡ Sent n o k lane) × (job_of n o k ≡ job)
is_sent (Sent n o k to) job lane is =
    let same = given_same (job_of n o k) job to lane (some_is _ _ is) in
    (n, o, k, ap (Sent n o k) same.1, same.0)
is_sent (Back to c) job lane is = absurd (came_given c.job.id job to lane c.tries (some_is _ _ is))
is_sent e job lane is = absurd (none_is_some (entry.Given job lane) is)

came_same : (job other : JobId) (lane to : ℕ) (tries marks : List Mark) → entry.Came job lane tries ≡ entry.Came other to marks → (job ≡ other) × (lane ≡ to) × (tries ≡ marks)
came_same job other lane to tries marks e = (cc, cc, cc)

-- the event of a return
pub is_back : (e : Event) (job : JobId) (lane : ℕ) (tries : List Mark) → entry_of e ≡ Some (entry.Came job lane tries) → (c : SeenCarried) × (e ≡ Back lane c) × (c.job.id ≡ job) × (c.tries ≡ tries)
is_back (Sent n o k to) job lane tries is = absurd (given_came job (job_of n o k) lane to tries (some_is _ _ is))
is_back (Back to c) job lane tries is =
    let same = came_same c.job.id job to lane c.tries tries (some_is _ _ is) in
    (c, ap (λ (l : ℕ). Back l c) same.1, same.0, same.2)
is_back e job lane tries is = absurd (none_is_some (entry.Came job lane tries) is)

-- ---- behind the planning

-- what the planning does not have stands behind it
pub behind : (planning entries front rest : List Entry) (x : Entry) → planning ++ entries ≡ front ++ x ∷ rest → (Has planning x → ⊥) → (r : List Entry) × (entries ≡ r ++ x ∷ rest) × (front ≡ planning ++ r)
behind planning entries front rest x e apart = elim (two_parts planning entries front x rest e) [
  | inl more ↦ (more.0, more.2, more.1)
  | inr inside ↦ absurd (apart (subst (λ (z : List Entry). Has z x) (sym inside.1) (has_middle front x inside.0)))
]
