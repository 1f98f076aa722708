mod TwinOpenings
mod TwinFronts
mod TwinEnds
mod TwinSaying
mod TwinCalls
