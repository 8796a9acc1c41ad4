pub mod LaneWorkers
