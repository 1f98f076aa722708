mod PageBytes
mod Parts
mod Keeping
mod Hitting
mod Granting
mod Overlaps
