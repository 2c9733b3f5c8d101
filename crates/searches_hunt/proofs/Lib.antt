mod Runs
mod Left
mod Drawings
mod Replayed
mod Chained
mod Joined
mod Ordered
