-- The wires of lanes before anything is carried, and how many lanes come back.
use Rattle.std.proofs.Common.{◌≡◌, ◌∙◌, ◌++◌, ℕ, List, [], ◌∷◌, refl, ap, drop, map, take}
use Rattle.std.proofs.lemmas.List.{take-append-drop}
use Rattle.lane_jobs.specs.Lanes.{SeenCarrier}
use Rattle.lane_workers.specs.LaneWorkers.{lane_over, wires_of}

pub wires_of-lanes : {W : Type 0} (carrier : SeenCarrier) (wires : List W) → wires_of (map (lane_over carrier) wires) ≡ wires
wires_of-lanes carrier [] = refl
wires_of-lanes carrier (wire ∷ wires) = ap (λ (ws : List _). wire ∷ ws) (wires_of-lanes carrier wires)

-- the wires of the lanes before the others are all wires
pub wires_again : {W : Type 0} (carrier : SeenCarrier) (count : ℕ) (wires : List W) → wires_of (map (lane_over carrier) (take count wires)) ++ drop count wires ≡ wires
wires_again carrier count wires =
    ap (λ (ws : List _). ws ++ drop count wires) (wires_of-lanes carrier (take count wires)) ∙ take-append-drop count wires
