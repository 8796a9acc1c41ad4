mod InFaults
mod LeafFaults
mod LeavesSame
mod PageFaults
mod RootFaults
mod TablesSame
mod TextsSame
mod WellFaults
