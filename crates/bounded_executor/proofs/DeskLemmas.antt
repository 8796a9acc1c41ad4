-- A desk after one of its lanes has changed.
use Rattle.std.proofs.Common.{◌≡◌, ◌+◌, ◌-◌, ◌<◌, ◌≤◌, ℕ, List, [], ◌∷◌, ◌++◌, length, map, get_or, set, sum_by, refl, sym, ap, subst, ◌∙◌, arith}
use Rattle.std.specs.List.{All}
use Rattle.std.proofs.lemmas.List.{get_or-map, map-set, set-get_or, length-set, length-map, length_push}
use Rattle.std.proofs.lemmas.List.Sums.{sum_by-set, sum_by-cons, sum_by-le, get_or-le-sum_by}
use Rattle.std.proofs.lemmas.List.Elements.{All-get_or, All-set, All-weaker}
use Rattle.bounded_executor.specs.Exchange.{Exchange, unused, jobs_out, with_taken}
use Rattle.bounded_executor.specs.Lane.{LaneState}
use Rattle.bounded_executor.specs.Runs.{EachRuns}
use Rattle.bounded_executor.specs.Desk.{DeskState, lane_of, all_out, desk_of, TookOne, IsLaneOf, IsDesk}

-- one job less is out of a lane whose outcome was taken
jobs_out-with_taken : {J D : Type 0} (e : Exchange J D) (done : D) → 0 < jobs_out e → jobs_out (with_taken e done) + 1 ≡ jobs_out e
jobs_out-with_taken e done some = omega (arith, length_push e.taken done)

module _ {W J D : Type 0} where
  -- a lane that contracts see is there
  pub in_range : (depth : ℕ) (lanes : List (LaneState W J D)) (desk : DeskState W J D) (i : ℕ) → desk_of depth lanes ≡ desk → i < length desk.lanes → i < length lanes
  in_range depth lanes desk i is in' =
      omega (arith, ap (λ (d : DeskState W J D). length d.lanes) is, length-map lanes (λ (m : LaneState W J D). m.exchange))

  -- what was exchanged with the lane at a place
  pub lane_of-desk_of : (depth : ℕ) (lanes : List (LaneState W J D)) (i : ℕ) (l : LaneState W J D) → i < length lanes → l ≡ get_or lanes i l → lane_of (desk_of depth lanes) i ≡ l.exchange
  lane_of-desk_of depth lanes i l in' is =
      get_or-map (λ (m : LaneState W J D). m.exchange) lanes i l unused in' ∙ ap (λ (m : LaneState W J D). m.exchange) (sym is)

  -- all that is out, added up over the lanes
  pub all_out-desk_of : (depth : ℕ) (lanes : List (LaneState W J D)) → all_out (desk_of depth lanes) ≡ sum_by (λ (m : LaneState W J D). jobs_out m.exchange) lanes
  all_out-desk_of depth [] = refl
  all_out-desk_of depth (l ∷ lanes) =
      let here = sum_by-cons jobs_out l.exchange (map (λ (m : LaneState W J D). m.exchange) lanes) in
      let there = sum_by-cons (λ (m : LaneState W J D). jobs_out m.exchange) l lanes in
      here ∙ (ap (λ n. jobs_out l.exchange + n) (all_out-desk_of depth lanes) ∙ sym there)

  -- the desk after something was exchanged with one lane
  pub desk_of-exchanged : (depth : ℕ) (lanes : List (LaneState W J D)) (i : ℕ) (l later : LaneState W J D) (f : Exchange J D → Exchange J D) → i < length lanes → l ≡ get_or lanes i l
      → later ≡ record l { exchange = f l.exchange }
      → desk_of depth (set lanes i later) ≡ record (desk_of depth lanes) { lanes = set (desk_of depth lanes).lanes i (f (lane_of (desk_of depth lanes) i)) }
  desk_of-exchanged depth lanes i l later f in' is then =
      let worker_of : LaneState W J D → W = λ m. m.worker in
      let exchange_of : LaneState W J D → Exchange J D = λ m. m.exchange in
      let same = ap worker_of then ∙ ap worker_of is in
      let workers : map worker_of (set lanes i later) ≡ map worker_of lanes =
      map-set worker_of lanes i later ∙ (ap (λ w. set (map worker_of lanes) i w) same ∙ (sym (map-set worker_of lanes i (get_or lanes i l)) ∙ ap (map worker_of) (set-get_or lanes i l))) in
      let exchanged : map exchange_of (set lanes i later) ≡ set (map exchange_of lanes) i (f (lane_of (desk_of depth lanes) i)) =
      map-set exchange_of lanes i later ∙ ap (λ e. set (map exchange_of lanes) i e) (ap exchange_of then ∙ ap f (sym (lane_of-desk_of depth lanes i l in' is))) in
      rw (workers, exchanged)

  -- a lane of a desk has the desk's depth
  pub lane_is_alike : (depth out : ℕ) (lanes : List (LaneState W J D)) (i : ℕ) (l : LaneState W J D) → IsDesk depth out lanes → i < length lanes → l ≡ get_or lanes i l → IsLaneOf depth l
  lane_is_alike depth out lanes i l desk in' is =
      subst (IsLaneOf depth) (sym is) (All-get_or (IsLaneOf depth) lanes i l in' desk.alike)

  pub IsDesk-set : (depth out : ℕ) (lanes : List (LaneState W J D)) (i : ℕ) (l later : LaneState W J D) (after : ℕ) → IsDesk depth out lanes → i < length lanes → l ≡ get_or lanes i l
      → IsLaneOf depth later → after + jobs_out l.exchange ≡ out + jobs_out later.exchange → IsDesk depth after (set lanes i later)
  IsDesk-set depth out lanes i l later after desk in' is fits more =
      let total = sum_by-set (λ (m : LaneState W J D). jobs_out m.exchange) lanes i later l in' in
      let here = ap (λ (m : LaneState W J D). jobs_out m.exchange) is in
      let was = desk.counted in
      let old = all_out-desk_of depth lanes in
      let new = all_out-desk_of depth (set lanes i later) in record {
        counted = omega arith;
        alike = All-set (IsLaneOf depth) lanes i later fits desk.alike;
        shallow = desk.shallow;
        few = rw (length-set lanes i later) desk.few;
      }

  -- a job that is out of a lane is counted
  pub out_is_positive : (depth out : ℕ) (lanes : List (LaneState W J D)) (i : ℕ) (l : LaneState W J D) → IsDesk depth out lanes → i < length lanes → l ≡ get_or lanes i l → 0 < jobs_out l.exchange → 0 < out
  out_is_positive depth out lanes i l desk in' is some =
      omega (arith, desk.counted, all_out-desk_of depth lanes, ap (λ (m : LaneState W J D). jobs_out m.exchange) is, get_or-le-sum_by (λ (m : LaneState W J D). jobs_out m.exchange) lanes i l in')

  -- the count of jobs out is small
  pub out_is_small : (depth out : ℕ) (lanes : List (LaneState W J D)) → IsDesk depth out lanes → out ≤ 4194240
  out_is_small depth out lanes desk =
      let each : All (λ (m : LaneState W J D). jobs_out m.exchange ≤ 64) lanes = All-weaker (IsLaneOf depth) (λ (m : LaneState W J D). jobs_out m.exchange ≤ 64) (λ m k. omega (arith, k.1, desk.shallow)) lanes desk.alike in
      omega (arith, desk.counted, desk.few, all_out-desk_of depth lanes, sum_by-le (λ (m : LaneState W J D). jobs_out m.exchange) 64 lanes each)

  pub IsDesk-taken : (depth out : ℕ) (lanes : List (LaneState W J D)) (i : ℕ) (l later : LaneState W J D) (done : D) → IsDesk depth out lanes → i < length lanes → l ≡ get_or lanes i l
      → later ≡ record l { exchange = with_taken l.exchange done } → 0 < jobs_out l.exchange → IsDesk depth (out - 1) (set lanes i later)
  IsDesk-taken depth out lanes i l later done desk in' is then some =
      let less = jobs_out-with_taken l.exchange done some in
      let exchanged = ap (λ (m : LaneState W J D). jobs_out m.exchange) then in
      let alike = lane_is_alike depth out lanes i l desk in' is in
      let one = out_is_positive depth out lanes i l desk in' is some in
      IsDesk-set depth out lanes i l later (out - 1) desk in' is (ap (λ (m : LaneState W J D). m.depth) then ∙ alike.0, omega (arith, alike.1)) (omega arith)

  pub took_one : (depth out : ℕ) (lanes : List (LaneState W J D)) (i : ℕ) (l later : LaneState W J D) (done : D) → IsDesk depth out lanes → i < length lanes → l ≡ get_or lanes i l
      → later ≡ record l { exchange = with_taken l.exchange done } → 0 < jobs_out l.exchange → TookOne (desk_of depth lanes) i done (desk_of depth (set lanes i later))
  took_one depth out lanes i l later done desk in' is then some =
      let one = out_is_positive depth out lanes i l desk in' is some in record {
        in_range = rw (length-map lanes (λ (m : LaneState W J D). m.exchange)) in';
        was_out = rw (lane_of-desk_of depth lanes i l in' is) some;
        taken = desk_of-exchanged depth lanes i l later (λ e. with_taken e done) in' is then;
        one_less = omega (arith, desk.counted, (IsDesk-taken depth out lanes i l later done desk in' is then some).counted);
      }

  -- a lane that is put back as it was changes nothing
  pub put_back : (lanes : List (LaneState W J D)) (i : ℕ) (l : LaneState W J D) → l ≡ get_or lanes i l → set lanes i l ≡ lanes
  put_back lanes i l is = ap (set lanes i) is ∙ set-get_or lanes i l

  -- nothing has come back yet, and all lanes are left
  pub all_left : (carries : W → J → D → W → Type 0) (depth : ℕ) (lanes left : List (LaneState W J D)) (desk : DeskState W J D) (back rest : List W)
      → desk_of depth lanes ≡ desk → left ≡ lanes → back ≡ [] → EachRuns carries (map (λ m. m.worker) left) (map (λ m. m.exchange) left) rest
      → EachRuns carries desk.workers desk.lanes (back ++ rest)
  all_left carries depth lanes left desk back rest view is none ran = rw (← view, none) (rw is at ran)

  -- a lane that has room has fewer jobs out than its depth
  pub lane_has_room : (depth out : ℕ) (lanes : List (LaneState W J D)) (desk : DeskState W J D) (i : ℕ) (l : LaneState W J D) → IsDesk depth out lanes → desk_of depth lanes ≡ desk
      → i < length lanes → l ≡ get_or lanes i l → jobs_out (lane_of desk i) < desk.depth → jobs_out l.exchange < l.depth
  lane_has_room depth out lanes desk i l known view in' is left =
      let here = ap jobs_out (lane_of-desk_of depth lanes i l in' is) in
      let alike = lane_is_alike depth out lanes i l known in' is in
      omega (arith, ap (λ (d : DeskState W J D). jobs_out (lane_of d i)) view, here, ap (λ (d : DeskState W J D). d.depth) view, alike.0)
