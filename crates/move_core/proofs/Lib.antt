mod GivenParts
mod Start
