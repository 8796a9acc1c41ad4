-- How lanes begin, and that they stay sound.
use Rattle.std.proofs.Common.{◌≡◌, ◌∙◌, ◌+◌, ◌++◌, ◌-◌, ◌^◌, ◌<◌, ◌≤◌, ℕ, zero, suc, List, [], ◌∷◌, Option, Some, None, All, drop, get_or, length, replicate, set, refl, sym, ap, subst, arith, inl, inr}
use Rattle.std.proofs.lemmas.Bool.{cases_eq, cases_lt}
use Rattle.std.proofs.lemmas.List.{get_or-map, length-drop, length_push, get_or-replicate, get_or-set_other, get_or-set_same, length-map, length-replicate, length-set, map-set}
use Rattle.std.proofs.lemmas.List.Elements.{All-get_or, All-replicate, All-set}
use Rattle.std.proofs.lemmas.List.Sums.{get_or-le-sum_by, sum_by-cons, sum_by-le, sum_by-set}
use Rattle.std.specs.List.{slice_get, sum_by}
use Rattle.s3_model.specs.declared.outcomes.JobId.{JobId}
use Rattle.lane_queues.specs.Lanes.{IsCounted, IsFreest, IsSound, SeenLanes, SeenQueue, jobs_in, out_in, rows, with_jobs}
use Rattle.minimum_tree.specs.Least.{IsLeast}

none_some : {X : Type 0} {x : X} → None ≡ Some x → ⊥
none_some e = cc

-- ---- at the start

empty : ℕ → SeenQueue
empty room = record { row = []; room = room }

pub rows_empty : (n room : ℕ) → rows (replicate n (record { row = []; room = room })) ≡ replicate n []
rows_empty zero room = refl
rows_empty (suc n) room = ap (λ (jobs : List (List JobId)). [] ∷ jobs) (rows_empty n room)

none_out : (n : ℕ) → 0 ≡ sum_by length (replicate {A = List JobId} n [])
none_out zero = refl
none_out (suc n) =
    let before = none_out n in
    let one = sum_by-cons {X = List JobId} length [] (replicate n []) in
    omega arith

pub starts : (n depth : ℕ) (queues : List SeenQueue) (outs : List ℕ) → 1 ≤ n → n ≤ 65535 → depth ≤ 64 → n ≤ length outs
    → ((lane : ℕ) → lane < n → get_or outs lane 0 ≡ 0) → ((place : ℕ) → n ≤ place → place < length outs → get_or outs place 0 ≡ 2 ^ 32 - 1)
    → queues ≡ replicate n (record { row = []; room = depth }) → IsSound depth queues outs 0
starts n depth queues outs some few shallow wide none behind is =
    subst (λ (qs : List SeenQueue). IsSound depth qs outs 0) (sym is) (record {
      shallow = shallow;
      some = subst (λ (k : ℕ). 1 ≤ k) (sym (length-replicate n (record { row = []; room = depth }))) some;
      few = subst (λ (k : ℕ). k ≤ 65535) (sym (length-replicate n (record { row = []; room = depth }))) few;
      rooms = All-replicate (λ (queue : SeenQueue). (queue.room ≡ depth) × (length queue.row ≤ depth)) n (record { row = []; room = depth }) (refl, omega arith);
      counted = subst (λ (jobs : List (List JobId)). IsCounted jobs outs) (sym (rows_empty n depth)) counted;
      total = none_out n ∙ sym (ap (λ (jobs : List (List JobId)). sum_by length jobs) (rows_empty n depth));
    })
  where
    long : length (replicate {A = List JobId} n []) ≡ n
    long = length-replicate n []

    counted : IsCounted (replicate n []) outs
    counted = record {
      wide = subst (λ (k : ℕ). k ≤ length outs) (sym long) wide;
      counts = λ lane b. none lane (subst (λ (k : ℕ). lane < k) long b) ∙ sym (ap (λ (row : List JobId). length row) (get_or-replicate n lane [] [] (subst (λ (k : ℕ). lane < k) long b)));
      behind = λ place b. behind place (subst (λ (k : ℕ). k ≤ place) long b);
    }

-- ---- one lane changes

module _ (jobs : List (List JobId)) (outs : List ℕ) (c : IsCounted jobs outs) (lane : ℕ) (row : List JobId) (inside : lane < length jobs) where
  still_counted : IsCounted (set jobs lane row) (set outs lane (length row))
  still_counted = record {
    wide = subst (λ (k : ℕ). k ≤ length (set outs lane (length row))) (sym (length-set jobs lane row)) (subst (λ (k : ℕ). length jobs ≤ k) (sym (length-set outs lane (length row))) c.wide);
    counts = counts;
    behind = λ place b t.
        get_or-set_other outs lane place (length row) 0 (λ e. let past = subst (λ (k : ℕ). k ≤ place) (length-set jobs lane row) b in omega arith)
        ∙ c.behind place (subst (λ (k : ℕ). k ≤ place) (length-set jobs lane row) b) (subst (λ (k : ℕ). place < k) (length-set outs lane (length row)) t);
  }
    where
      counts : (other : ℕ) → other < length (set jobs lane row) → get_or (set outs lane (length row)) other 0 ≡ length (get_or (set jobs lane row) other [])
      counts other b = elim (cases_eq other lane) [
        | inl e ↦ subst (λ (k : ℕ). get_or (set outs lane (length row)) k 0 ≡ length (get_or (set jobs lane row) k [])) (sym e)
            (get_or-set_same outs lane (length row) 0 (let wide = c.wide in omega arith) ∙ sym (ap (λ (r : List JobId). length r) (get_or-set_same jobs lane row [] inside)))
        | inr differs ↦ get_or-set_other outs lane other (length row) 0 differs
            ∙ c.counts other (subst (λ (k : ℕ). other < k) (length-set jobs lane row) b)
            ∙ sym (ap (λ (r : List JobId). length r) (get_or-set_other jobs lane other row [] differs))
      ]

module _ (depth : ℕ) (queues : List SeenQueue) (outs : List ℕ) (out : ℕ) (s : IsSound depth queues outs out) (lane : ℕ) (inside : lane < length queues) where
  pub in_rows : lane < length (rows queues)
  in_rows = subst (λ (k : ℕ). lane < k) (sym (length-map queues (λ (queue : SeenQueue). queue.row))) inside

  pub row_is : (queue : SeenQueue) → get_or (rows queues) lane [] ≡ (get_or queues lane queue).row
  row_is queue = get_or-map (λ (q : SeenQueue). q.row) queues lane queue [] inside

  pub room_is : (queue : SeenQueue) → (get_or queues lane queue).room ≡ depth
  room_is queue = (All-get_or (λ (q : SeenQueue). (q.room ≡ depth) × (length q.row ≤ depth)) queues lane queue inside s.rooms).0

  pub count_is : get_or outs lane 0 ≡ length (get_or (rows queues) lane [])
  count_is = s.counted.counts lane in_rows

  pub row_short : length (get_or (rows queues) lane []) ≤ depth
  row_short =
      let queue = empty depth in
      let short = (All-get_or (λ (q : SeenQueue). (q.room ≡ depth) × (length q.row ≤ depth)) queues lane queue inside s.rooms).1 in
      subst (λ (r : List JobId). length r ≤ depth) (sym (row_is queue)) short

  pub in_outs : lane < length outs
  in_outs = let wide = s.counted.wide in let long = length-map queues (λ (queue : SeenQueue). queue.row) in omega arith

  -- all jobs that are out are few, and those of a lane are among them
  pub few_out : out ≤ 4194240
  few_out =
      let shallow = s.shallow in
      let short = rows_short in
      let most = sum_by-le {X = List JobId} length 64 (rows queues) short in
      let long = length-map queues (λ (queue : SeenQueue). queue.row) in
      let few = s.few in
      let total = s.total in
      omega arith
    where
      rows_short : All (λ (row : List JobId). length row ≤ 64) (rows queues)
      rows_short k d b =
          let within = subst (λ (n : ℕ). k < n) (length-map queues (λ (queue : SeenQueue). queue.row)) b in
          let queue = empty depth in
          let short = (All-get_or (λ (q : SeenQueue). (q.room ≡ depth) × (length q.row ≤ depth)) queues k queue within s.rooms).1 in
          let same = get_or-map (λ (q : SeenQueue). q.row) queues k queue d within in
          let shallow = s.shallow in
          subst (λ (r : List JobId). length r ≤ 64) (sym same) (omega arith)

  pub some_out : length (get_or (rows queues) lane []) ≤ out
  some_out = subst (λ (n : ℕ). length (get_or (rows queues) lane []) ≤ n) (sym s.total) (get_or-le-sum_by length (rows queues) lane [] in_rows)

  pub changes : (row : List JobId) (now : ℕ) → length row ≤ depth → now + length (get_or (rows queues) lane []) ≡ out + length row
      → IsSound depth (set queues lane (record { row = row; room = depth })) (set outs lane (length row)) now
  changes row now short count = record {
    shallow = s.shallow;
    some = subst (λ (k : ℕ). 1 ≤ k) (sym (length-set queues lane queue)) s.some;
    few = subst (λ (k : ℕ). k ≤ 65535) (sym (length-set queues lane queue)) s.few;
    rooms = All-set (λ (q : SeenQueue). (q.room ≡ depth) × (length q.row ≤ depth)) queues lane queue (refl, short) s.rooms;
    counted = subst (λ (jobs : List (List JobId)). IsCounted jobs (set outs lane (length row))) (sym changed) (still_counted (rows queues) outs s.counted lane row in_rows);
    total = let sum = sum_by-set length (rows queues) lane row [] in_rows in let total = s.total in
        subst (λ (jobs : List (List JobId)). now ≡ sum_by length jobs) (sym changed) (omega arith);
  }
    where
      queue : SeenQueue
      queue = record { row = row; room = depth }

      changed : rows (set queues lane queue) ≡ set (rows queues) lane row
      changed = map-set (λ (q : SeenQueue). q.row) queues lane queue

-- ---- as they are seen

module _ (depth : ℕ) (queues : List SeenQueue) (seen : SeenLanes) (lane : ℕ) (is : record { depth = depth; jobs = rows queues } ≡ seen) where
  pub in_queues : lane < length seen.jobs → lane < length queues
  in_queues inside =
      subst (λ (n : ℕ). lane < n) (length-map queues (λ (queue : SeenQueue). queue.row))
      (subst (λ (l : SeenLanes). lane < length l.jobs) (sym is) inside)

  pub room_left : out_in seen lane < seen.depth → out_in seen lane < depth
  room_left room = subst (λ (n : ℕ). out_in seen lane < n) (ap (λ (l : SeenLanes). l.depth) (sym is)) room

-- ---- a job goes out, and one comes back

pub not_empty : (row : List JobId) (found : Option JobId) (job : JobId) → found ≡ slice_get row 0 → found ≡ Some job → 1 ≤ length row
not_empty [] found job e is = absurd (none_some (sym e ∙ is))
not_empty (x ∷ row) found job e is = omega arith

module _ (depth : ℕ) (queues : List SeenQueue) (outs : List ℕ) (out : ℕ) (s : IsSound depth queues outs out) (lane : ℕ) (inside : lane < length queues)
    (queue : SeenQueue) (read : queue ≡ get_or queues lane queue) where
  pub row_read : get_or (rows queues) lane [] ≡ queue.row
  row_read = row_is depth queues outs out s lane inside queue ∙ ap (λ (q : SeenQueue). q.row) (sym read)

  room_read : queue.room ≡ depth
  room_read = ap (λ (q : SeenQueue). q.room) read ∙ room_is depth queues outs out s lane inside queue

  pub count_read : get_or outs lane 0 ≡ length queue.row
  count_read = count_is depth queues outs out s lane inside ∙ ap (λ (row : List JobId). length row) row_read

  pub counted_in : length queue.row ≤ out
  counted_in = subst (λ (row : List JobId). length row ≤ out) row_read (some_out depth queues outs out s lane inside)

  becomes : (row : List JobId) (new : SeenQueue) (outs_now : List ℕ) (count now : ℕ) → new ≡ record { row = row; room = queue.room } → outs_now ≡ set outs lane count
      → count ≡ length row → length row ≤ depth → now + length queue.row ≡ out + length row → IsSound depth (set queues lane new) outs_now now
  becomes row new outs_now count now is set_is counts short sum =
      let same = is ∙ ap (λ (room : ℕ). record { row = row; room = room }) room_read in
      let counted = set_is ∙ ap (λ (n : ℕ). set outs lane n) counts in
      let before = row_read in
      subst (λ (q : SeenQueue). IsSound depth (set queues lane q) outs_now now) (sym same)
      (subst (λ (os : List ℕ). IsSound depth (set queues lane (record { row = row; room = depth })) os now) (sym counted)
      (changes depth queues outs out s lane inside row now short (ap (λ (r : List JobId). now + length r) before ∙ sum)))

  pub pushes : (job : JobId) (new : SeenQueue) (outs_now : List ℕ) (count : ℕ) → length queue.row < depth → new ≡ record { row = queue.row ++ job ∷ []; room = queue.room }
      → outs_now ≡ set outs lane count → count ≡ get_or outs lane 0 + 1 → IsSound depth (set queues lane new) outs_now (out + 1)
  pushes job new outs_now count room is set_is counts =
      let long = length_push queue.row job in
      let had = count_read in
      becomes (queue.row ++ job ∷ []) new outs_now count (out + 1) is set_is (omega arith) (omega arith) (omega arith)

  pub pops : (new : SeenQueue) (outs_now : List ℕ) (count : ℕ) → 1 ≤ length queue.row → new ≡ record { row = drop 1 queue.row; room = queue.room }
      → outs_now ≡ set outs lane count → count ≡ get_or outs lane 0 - 1 → IsSound depth (set queues lane new) outs_now (out - 1)
  pops new outs_now count some is set_is counts =
      let long = length-drop 1 queue.row in
      let had = count_read in
      let within = counted_in in
      let short = subst (λ (row : List JobId). length row ≤ depth) row_read (row_short depth queues outs out s lane inside) in
      becomes (drop 1 queue.row) new outs_now count (out - 1) is set_is (omega arith) (omega arith) (omega arith)

  pub shown : (seen : SeenLanes) → record { depth = depth; jobs = rows queues } ≡ seen → (new : SeenQueue) (row : List JobId) → new.row ≡ row
      → record { depth = depth; jobs = rows (set queues lane new) } ≡ with_jobs seen lane row
  shown seen is new row same =
      subst (λ (l : SeenLanes). record { depth = depth; jobs = rows (set queues lane new) } ≡ with_jobs l lane row) is
      (ap (λ (jobs : List (List JobId)). record { depth = depth; jobs = jobs })
      (map-set (λ (q : SeenQueue). q.row) queues lane new ∙ ap (λ (r : List JobId). set (rows queues) lane r) same))

  pub row_seen : (seen : SeenLanes) → record { depth = depth; jobs = rows queues } ≡ seen → queue.row ≡ jobs_in seen lane
  row_seen seen is = sym row_read ∙ ap (λ (l : SeenLanes). jobs_in l lane) is

-- ---- the freest lane

module _ (depth : ℕ) (queues : List SeenQueue) (outs : List ℕ) (out : ℕ) (s : IsSound depth queues outs out) (place : ℕ) (is : IsLeast outs place) where
  first_some : 0 < length queues
  first_some = s.some

  pub place_within : place < length queues
  place_within = elim (cases_lt place (length queues)) [ inl below ↦ below | inr past ↦ absurd (too_great past) ]
    where
      too_great : length queues ≤ place → ⊥
      too_great past =
          let long = length-map queues (λ (queue : SeenQueue). queue.row) in
          let great = s.counted.behind place (omega arith) is.within in
          let least = is.least 0 (in_outs depth queues outs out s 0 first_some) in
          let first = count_is depth queues outs out s 0 first_some in
          let short = row_short depth queues outs out s 0 first_some in
          let shallow = s.shallow in
          omega arith

  pub freest : IsFreest (record { depth = depth; jobs = rows queues }) place
  freest = record {
    within = in_rows depth queues outs out s place place_within;
    least = λ other b.
        let within = subst (λ (k : ℕ). other < k) (length-map queues (λ (queue : SeenQueue). queue.row)) b in
        let here = count_is depth queues outs out s place place_within in
        let there = count_is depth queues outs out s other within in
        let least = is.least other (in_outs depth queues outs out s other within) in
        omega arith;
    first = λ other b.
        let within : other < length queues = let inside = place_within in omega arith in
        let here = count_is depth queues outs out s place place_within in
        let there = count_is depth queues outs out s other within in
        let first = is.first other b in
        omega arith;
  }
