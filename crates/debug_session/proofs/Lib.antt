mod Conversations
mod OneThread
mod Processes
mod Races
mod Recorded
mod Spaces
mod Ends
