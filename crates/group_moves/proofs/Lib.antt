mod Budgets
mod Leading
mod Parts
mod Rests
mod Rounds
mod Runs
mod Settled
mod WorkedHistories
