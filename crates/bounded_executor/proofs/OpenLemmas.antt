-- A desk of lanes with nothing exchanged.
use Rattle.std.proofs.Common.{◌≡◌, ◌≤◌, ◌+◌, ◌-◌, ℕ, List, [], ◌∷◌, ◌++◌, length, map, take, get_or, replicate, Some, refl, sym, ap, arith, append_assoc, ◌∙◌}
use Rattle.std.proofs.lemmas.List.{length-map, length-replicate, take-replicate, get_or-replicate}
use Rattle.std.proofs.lemmas.List.Sums.{sum_by-cons}
use Rattle.std.proofs.lemmas.List.Elements.{All-map}
use Rattle.bounded_executor.specs.Exchange.{Exchange, unused, jobs_out}
use Rattle.bounded_executor.specs.Lane.{LaneState, opened}
use Rattle.bounded_executor.specs.Desk.{all_out, desk_of, IsLaneOf, IsDesk}

module _ (W J D : Type 0) (depth : ℕ) where
  pub workers-opened : (ws : List W) → (desk_of depth (map (opened {W = W} {J = J} {D = D} depth) ws)).workers ≡ ws
  workers-opened [] = refl
  workers-opened (w ∷ ws) = ap (λ (vs : List W). w ∷ vs) (workers-opened ws)

  pub exchanges-opened : (ws : List W) → (desk_of depth (map (opened {W = W} {J = J} {D = D} depth) ws)).lanes ≡ replicate (length ws) unused
  exchanges-opened [] = refl
  exchanges-opened (w ∷ ws) = ap (λ (es : List (Exchange J D)). unused ∷ es) (exchanges-opened ws)

  pub lanes-opened : (ws : List W) → length (desk_of depth (map (opened {W = W} {J = J} {D = D} depth) ws)).lanes ≡ length ws
  lanes-opened ws = ap length (exchanges-opened ws) ∙ length-replicate (length ws) unused

  none_out : (ws : List W) → 0 ≡ all_out (desk_of depth (map (opened {W = W} {J = J} {D = D} depth) ws))
  none_out [] = refl
  none_out (w ∷ ws) =
      omega (arith, none_out ws, sum_by-cons (jobs_out {J = J} {D = D}) unused (desk_of depth (map (opened {W = W} {J = J} {D = D} depth) ws)).lanes)

  pub IsDesk-opened : (ws : List W) → depth ≤ 64 → length ws ≤ 65535 → IsDesk depth 0 (map (opened {W = W} {J = J} {D = D} depth) ws)
  IsDesk-opened ws shallow few = record {
    counted = none_out ws;
    alike = All-map (IsLaneOf depth) (opened depth) ws (λ k d in'. (refl, omega arith));
    shallow = shallow;
    few = rw length-map few;
  }

some_is : {X : Type 0} (x y : X) → Some x ≡ Some y → x ≡ y
some_is x y same = cc

-- the parts of the next lane, and those that are left
pub next_part : (depth len left fewer : ℕ) (parts rest : List ℕ) (part : ℕ) → parts ≡ replicate left depth → len ≡ left → left ≡ fewer + 1
    → Some part ≡ Some (get_or parts (len - 1) depth) → rest ≡ take (len - 1) parts → (part ≡ depth) × (rest ≡ replicate fewer depth)
next_part depth len left fewer parts rest part all long more last gone =
    let before : len - 1 ≡ fewer = omega (arith, long, more) in (
      some_is part (get_or parts (len - 1) depth) last ∙ ap (λ (ds : List ℕ). get_or ds (len - 1) depth) all ∙ get_or-replicate left (len - 1) depth depth (omega (arith, long, more)),
      gone ∙ ap (take (len - 1)) all ∙ ap (λ (n : ℕ). take n (replicate left depth)) before ∙ take-replicate fewer left depth (omega (arith, more)),
    )

module _ {W J D : Type 0} (depth : ℕ) where
  -- no lane is open yet
  pub none_opened : (lanes : List (LaneState W J D)) (left all : List W) → lanes ≡ [] → left ≡ all → lanes ++ map (opened {W = W} {J = J} {D = D} depth) left ≡ map (opened {W = W} {J = J} {D = D} depth) all
  none_opened lanes left all none same =
      ap (λ (ls : List (LaneState W J D)). ls ++ map (opened {W = W} {J = J} {D = D} depth) left) none ∙ ap (map (opened {W = W} {J = J} {D = D} depth)) same

  -- the next lane stands behind the others
  pub one_opened : (lanes later : List (LaneState W J D)) (all left rest : List W) (w : W) (part : ℕ) (lane : LaneState W J D)
      → lanes ++ map (opened {W = W} {J = J} {D = D} depth) left ≡ map (opened {W = W} {J = J} {D = D} depth) all → left ≡ w ∷ rest → part ≡ depth → lane ≡ opened part w → later ≡ lanes ++ lane ∷ []
      → later ++ map (opened {W = W} {J = J} {D = D} depth) rest ≡ map (opened {W = W} {J = J} {D = D} depth) all
  one_opened lanes later all left rest w part lane known first same is more =
      let open_ : List W → List (LaneState W J D) = map (opened {W = W} {J = J} {D = D} depth) in
      ap (λ (ls : List (LaneState W J D)). ls ++ open_ rest) (more ∙ ap (λ (l : LaneState W J D). lanes ++ l ∷ []) (is ∙ ap (λ (d : ℕ). opened {W = W} {J = J} {D = D} d w) same))
      ∙ append_assoc lanes (opened {W = W} {J = J} {D = D} depth w ∷ []) (open_ rest) ∙ ap (λ (ws : List W). lanes ++ open_ ws) (sym first) ∙ known
