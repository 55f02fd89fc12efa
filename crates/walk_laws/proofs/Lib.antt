pub mod AlongPaths
mod Asked
mod Assigned
mod Broken
mod CallExact
mod Calling
mod ClauseEntries
mod ClauseFacts
mod Cubes
mod Entries
mod Exact
mod FalseClauses
mod Heads
mod Keeps
pub mod Kept
mod Known
mod Made
mod Matches
mod Names
mod Objects
mod Picks
mod Questions
mod Sound
mod States
mod Steps
mod Three
