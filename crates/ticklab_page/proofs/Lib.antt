mod Unmarked
mod Pieces
mod SameRuns
