mod DateLemmas
mod RunLemmas
mod StrangerLemmas
mod NeedLemmas
